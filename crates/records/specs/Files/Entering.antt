-- Entering records: a record file is made of a text of lines, such as a listing. Each line has the numbers of one record.
use Rattle.std.specs.Prelude.{ℕ, zero, suc, pred, ◌+◌, ◌*◌, ◌<◌, ◌≤◌, ◌≡◌, ◌==◌, Bool, ◌&&◌, ◌||◌, List, [], ◌∷◌, ◌++◌, length, take, drop, get_or, eqb, bytes_eq, Result, Ok, Err}
use Rattle.std.specs.List.{concat}
use Rattle.decimal.specs.declared.image.Image.{Image}
use Rattle.decimal.specs.declared.number.Number.{Number}
use Rattle.decimal.specs.Answer.{Answer, done, refused, ◌then◌, pick, given, reason_number}
use Rattle.codec.specs.declared.text.TextNumber.{TextNumber}
use Rattle.codec.specs.Lists.{max_columns}
use Rattle.codec.specs.Alpha.{blank_byte, parted}
use Rattle.codec.specs.Answers.{within}
use Rattle.codec.specs.Columns.{body_size}
use Rattle.codec.specs.Contents.{read_alone}
use Rattle.codec.specs.Packing.{pack_list}
use Rattle.codec.specs.Text.{read_text, read_texts}
use Rattle.codec.specs.StrictText.{byte_count}
use Rattle.codec.specs.Walking.{line_end}
use Rattle.records.specs.Files.Writing.{decimal_text}
use Rattle.records.specs.Files.Listing.{columns_word, records_word}
use Rattle.records.specs.declared.files.entering.Lines.{Lines}
use Rattle.records.specs.declared.files.entering.EntryRefusal.{EntryRefusal}
use Rattle.records.specs.declared.files.entering.EntryRefusal.TheVariants as entry

-- The lines of a text.

-- a byte before the first of lines
unfoldable pub onto : ℕ → List (List ℕ) → List (List ℕ)
onto b [] = (b ∷ []) ∷ []
onto b (line ∷ lines) = (b ∷ line) ∷ lines

-- each line ends with 0A, which is no part of it here; the last may lack it
unfoldable pub lines_in : List ℕ → List (List ℕ)
lines_in [] = []
lines_in (b ∷ bs) = pick (b == line_end) ([] ∷ lines_in bs) (onto b (lines_in bs))

-- a line has no 0A in it
abbrev pub Unended : List ℕ → Type 0
Unended line = byte_count line_end line ≡ 0

-- lines are those of a text: each stands there with its 0A, and a last one that lacks it has bytes. (The proofs' TextLinesTheorem: `lines_in` gives
-- these lines and no others.)
pub data LinesOf : List (List ℕ) → List ℕ → Type 0 where
  none : LinesOf [] []
  last : {line : List ℕ} → Unended line → 0 < length line → LinesOf (line ∷ []) line
  more : {line : List ℕ} {lines : List (List ℕ)} {text : List ℕ} → Unended line → LinesOf lines text → LinesOf (line ∷ lines) (line ++ (line_end ∷ text))

-- The numbers of a line, parted by blanks.

-- what a line with the numbers of a record is, apart from how it is read: texts parted by one blank, each of which converts to its number; the
-- blanks that a text begins or ends with are its own. (The proofs' TextLineTheorem: exactly such a line is read.)
pub record IsLine (line : List ℕ) (ns : List Number) : Type 0 where
  pub texts : List (List ℕ)
  pub written : line ≡ parted texts
  pub converts : read_texts texts ≡ done ns
  pub few : length ns ≤ max_columns

-- a refusal with another place
unfoldable pub placed : {A : Type 0} → ℕ → Answer A → Answer A
placed place (done a) = done a
placed place (refused number _) = refused number place

-- whether a number that uses so many bytes is parted from what stands behind them: nothing does, or the last of them is a blank
unfoldable pub is_parted : List ℕ → ℕ → Bool
is_parted bytes used = eqb used (length bytes) || eqb (get_or bytes (pred used) 0) blank_byte

-- the number of this index that bytes begin with: 8 or 5 as it is read, then 8 where it is not parted
unfoldable pub read_parted : ℕ → List ℕ → Answer TextNumber
read_parted index bytes = placed index (read_text bytes) then λ t. pick (is_parted bytes t.used) (done t) (refused 8 index)

-- at most so many numbers of bytes, the first with this index: 10 where bytes are left behind them
unfoldable pub numbers_of : ℕ → ℕ → List ℕ → Answer (List Number)
numbers_of left index [] = done []
numbers_of zero index (b ∷ bs) = refused 10 0
numbers_of (suc left) index (b ∷ bs) =
    read_parted index (b ∷ bs) then λ t. (numbers_of left (suc index) (drop t.used (b ∷ bs)) then λ ns. done (t.number ∷ ns))

-- the numbers of a line
abbrev pub read_line : List ℕ → Answer (List Number)
read_line line = numbers_of max_columns 0 line

-- the body of a line's record: refused as its numbers are, then as packing them is
unfoldable pub line_body : List Image → List ℕ → Answer (List ℕ)
line_body ims line = read_line line then λ ns. pack_list ims ns

-- What entering answers: its result, a refusal of the call itself, or that of a line, by its number from 1.
pub data Entry (A : Type 0) : Type 0 where
  entered : A → Entry A
  rejected : ℕ → ℕ → Entry A
  at_line : ℕ → ℕ → ℕ → Entry A

-- a step of the call itself, then the next one
unfoldable pub first_of : {A B : Type 0} → Answer A → (A → Entry B) → Entry B
first_of (done a) f = f a
first_of (refused number place) f = rejected number place

-- a step at the line of a number, then the next one
unfoldable pub on_line : {A B : Type 0} → ℕ → Answer A → (A → Entry B) → Entry B
on_line line (done a) f = f a
on_line line (refused number place) f = at_line line number place

-- the first refusal, else what the second step makes of the first one's result
unfoldable pub next_of : {A B : Type 0} → Entry A → (A → Entry B) → Entry B
next_of (entered a) f = f a
next_of (rejected number place) f = rejected number place
next_of (at_line line number place) f = at_line line number place

-- The lines of a listing that have a count.

-- whether a line begins with a word
unfoldable pub begins_with : List ℕ → List ℕ → Bool
begins_with word line = bytes_eq (take (length word) line) word

-- bytes are a count as a listing has it: 10 for another
unfoldable pub check_count : ℕ → List ℕ → Answer (Unit {0})
check_count n bytes = pick (bytes_eq bytes (decimal_text n)) (done tt) (refused 10 0)

-- such a line has this count behind its word
abbrev pub check_count_line : List ℕ → ℕ → List ℕ → Answer (Unit {0})
check_count_line word n line = check_count n (drop (length word) line)

-- whether a line is a listing's last one: none stands behind it, and it begins with `records`
unfoldable pub is_foot : List ℕ → List (List ℕ) → Bool
is_foot line lines = eqb (length lines) 0 && begins_with records_word line

-- The records.

-- the bodies of record lines: the line that has record number k has the number first + k. A last line that begins with `records` has their count
unfoldable pub line_bodies : List Image → ℕ → ℕ → List (List ℕ) → Entry (List (List ℕ))
line_bodies ims first k [] = entered []
line_bodies ims first k (line ∷ lines) =
    pick (is_foot line lines)
    (on_line (first + k) (check_count_line records_word k line) (λ _. entered []))
    (on_line (first + k) (line_body ims line) (λ body. next_of (line_bodies ims first (suc k) lines) (λ bs. entered (body ∷ bs))))

-- the bodies of a text's lines: a first line that begins with `columns` has the count of columns
unfoldable pub text_bodies : List Image → List (List ℕ) → Entry (List (List ℕ))
text_bodies ims [] = entered []
text_bodies ims (line ∷ lines) =
    pick (begins_with columns_word line)
    (on_line 1 (check_count_line columns_word (length ims) line) (λ _. line_bodies ims 2 0 lines))
    (line_bodies ims 1 0 (line ∷ lines))

-- the file of a text: its contents, then the bodies; refused as the contents is, then as the first bad line is
unfoldable pub entry_of : List ℕ → List ℕ → Entry (List ℕ)
entry_of contents text =
    first_of (read_alone contents) (λ table. next_of (text_bodies table.images (lines_in text)) (λ bs. entered (contents ++ concat bs)))

-- the call, into a buffer with so much room: last 6
unfoldable pub entering : List ℕ → List ℕ → ℕ → Entry (List ℕ)
entering contents text room = next_of (entry_of contents text) (λ file. first_of (within room file) entered)

-- The code's answer, and its buffer.

-- the length of what is given
unfoldable pub sized_entry : Entry (List ℕ) → Entry ℕ
sized_entry e = next_of e (λ bytes. entered (length bytes))

-- a lent buffer behind the call: the file at its start, and the bytes behind stay; a refused call changes nothing
unfoldable pub stored_entry : Entry (List ℕ) → List ℕ → List ℕ
stored_entry (entered bytes) buffer = bytes ++ drop (length bytes) buffer
stored_entry (rejected number place) buffer = buffer
stored_entry (at_line line number place) buffer = buffer

-- each case of what the call returns
abbrev pub refused_entry : {A : Type 0} → EntryRefusal → Entry A
refused_entry (entry.Call r) = rejected (reason_number r.reason) r.place
refused_entry (entry.Line line r) = at_line line (reason_number r.reason) r.place

abbrev pub entry_meaning : Result ℕ EntryRefusal → Entry ℕ
entry_meaning (Ok size) = entered size
entry_meaning (Err e) = refused_entry e

-- What the code's helpers ask and find.

-- how many bytes stand before the first 0A
abbrev pub line_size : List ℕ → ℕ
line_size [] = 0
line_size (b ∷ bs) = pick (b == line_end) 0 (suc (line_size bs))

-- the first line, and the bytes behind its 0A
abbrev pub first_line : List ℕ → List ℕ
first_line text = take (line_size text) text

abbrev pub behind_line : List ℕ → List ℕ
behind_line text = drop 1 (drop (line_size text) text)

-- the bodies of lines of records, by the number of their first
abbrev pub bodies_of : List Image → Lines → Entry (List (List ℕ))
bodies_of ims lines = line_bodies ims lines.first 0 (lines_in lines.text.now)

-- what is answered of the lines of records that a text is found to have
abbrev pub behind_head : List Image → Result Lines EntryRefusal → Entry (List (List ℕ))
behind_head ims (Ok lines) = bodies_of ims lines
behind_head ims (Err e) = refused_entry e

-- the count of records
unfoldable pub counted_bodies : ℕ → Entry (List (List ℕ)) → Entry ℕ
counted_bodies before e = next_of e (λ bs. entered (before + length bs))

-- what is given, nothing where it is refused
unfoldable pub given_bodies : Entry (List (List ℕ)) → List (List ℕ)
given_bodies (entered bs) = bs
given_bodies (rejected number place) = []
given_bodies (at_line line number place) = []

-- the body of a line, nothing where it is refused
abbrev pub body_in : List Image → List ℕ → List ℕ
body_in ims line = given (line_body ims line)

-- a line that has a body, and a buffer that it fills
pub record HasBody (ims : List Image) (line : List ℕ) (buffer : List ℕ) : Type 0 where
  pub has : line_body ims line ≡ done (body_in ims line)
  pub long : length buffer ≡ body_size ims

-- a buffer that the bodies of lines fill
pub record Fills (ims : List Image) (lines : Lines) (body : ℕ) (buffer : List ℕ) : Type 0 where
  pub each : body ≡ body_size ims
  pub bodies : List (List ℕ)
  pub given : bodies_of ims lines ≡ entered bodies
  pub long : length buffer ≡ length bodies * body
