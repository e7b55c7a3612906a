-- A listing read back: what entering and listing say of each other.
use Rattle.std.specs.Prelude.{ℕ, ◌+◌, ◌≤◌, ◌≡◌, List, [], ◌∷◌, ◌++◌, true, length, take}
use Rattle.decimal.specs.declared.image.Image.{Image}
use Rattle.decimal.specs.declared.number.Number.{Number}
use Rattle.decimal.specs.Answer.{done, refused, pick}
use Rattle.codec.specs.Alpha.{alpha_texts}
use Rattle.codec.specs.Contents.{Table, read_alone}
use Rattle.codec.specs.Order.{Truncations}
use Rattle.records.specs.Files.RecordFile.{read_file}
use Rattle.records.specs.Files.Listing.{columns_word, records_word, record_line, listing, listing_of}
use Rattle.records.specs.Files.Entering.{read_line, line_body, lines_in, entered, begins_with, is_foot, entry_of, entering}

-- "for every file that the listing takes, entering its listing under the same contents gives the file again, byte for byte": a listing loses
-- nothing of a file
pub record EntersBack (file bytes : List ℕ) : Type 0 where
  -- the file's contents is the bytes that it begins with
  pub table : Table
  pub reads : read_file file ≡ done table
  -- the file is entered again, into every buffer that it has room in
  pub again : entry_of (take table.size file) bytes ≡ entered file
  pub called : (room : ℕ) → length file ≤ room → entering (take table.size file) bytes room ≡ entered file

-- "what is entered and listed shows each number's truncation"

-- the lines behind a first one that begins with `columns`
unfoldable pub behind_columns : List (List ℕ) → List (List ℕ)
behind_columns [] = []
behind_columns (line ∷ lines) = pick (begins_with columns_word line) lines (line ∷ lines)

-- lines of a text, and the lines that the listing of their records has
pub data Relisted (ims : List Image) : List (List ℕ) → List ℕ → Type 0 where
  none : Relisted ims [] []
  -- a last line with a count has no record
  foot : {line : List ℕ} → is_foot line [] ≡ true → Relisted ims (line ∷ []) []
  -- a line with numbers: the listing has the alpha texts of their truncations
  more :
      {line : List ℕ} {lines : List (List ℕ)} {ns ts : List Number} {texts : List (List ℕ)} {others : List ℕ}
      → read_line line ≡ done ns
      → Truncations ims ns ts
      → alpha_texts ims ts ≡ done texts
      → Relisted ims lines others
      → Relisted ims (line ∷ lines) (record_line texts ++ others)

-- the listing of the file of a text
pub record ListsBack (contents text file : List ℕ) : Type 0 where
  pub table : Table
  pub reads : read_file file ≡ done table
  pub alone : read_alone contents ≡ done table
  pub lines : List ℕ
  pub shown : listing file ≡ done (listing_of table file lines)
  pub relisted : Relisted table.images (behind_columns (lines_in text)) lines

-- "the first bad line's number (from 1) with refusal and place", apart from how lines are gone over

-- each of these lines has the numbers of a record
pub data HaveBodies (ims : List Image) : List (List ℕ) → Type 0 where
  none : HaveBodies ims []
  more : {line body : List ℕ} {lines : List (List ℕ)} → line_body ims line ≡ done body → HaveBodies ims lines → HaveBodies ims (line ∷ lines)

-- why a line is refused, between those before it and those behind it
pub data IsBad (ims : List Image) (before : List (List ℕ)) (line : List ℕ) (behind : List (List ℕ)) : ℕ → ℕ → Type 0 where
  -- its numbers are
  numbers : {number place : ℕ} → line_body ims line ≡ refused number place → IsBad ims before line behind number place
  -- it is a first line with another count of columns, or a last one with another count of records
  columns : before ≡ [] → begins_with columns_word line ≡ true → IsBad ims before line behind 10 0
  records : behind ≡ [] → begins_with records_word line ≡ true → IsBad ims before line behind 10 0

-- a line of a text that is refused: the lines before it are not, and its number is their count and one
pub record FirstBad (ims : List Image) (lines : List (List ℕ)) (n number place : ℕ) : Type 0 where
  pub before : List (List ℕ)
  pub line : List ℕ
  pub behind : List (List ℕ)
  pub split : lines ≡ before ++ (line ∷ behind)
  pub numbered : n ≡ length before + 1
  pub good : HaveBodies ims (behind_columns before)
  pub bad : IsBad ims before line behind number place
