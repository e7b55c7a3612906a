-- Document 01, Record file: "A text walker may be a small record that refers to the lent text". What it reads are text numbers.
use Rattle.std.specs.Prelude.{ℕ, zero, suc, ◌+◌, ◌<◌, ◌≤◌, ◌≡◌, List, [], ◌∷◌, ◌++◌, length, drop, eqb}
use Rattle.decimal.specs.declared.number.Number.{Number}
use Rattle.decimal.specs.Answer.{Answer, done, refused, pick, meaning}
use Rattle.codec.specs.declared.walking.Walker.{Walker}
use Rattle.codec.specs.declared.walking.Stop.{Stop}
use Rattle.codec.specs.declared.walking.Stop.TheVariants as gives
use Rattle.codec.specs.declared.walking.TextNumbers.{TextNumbers}
use Rattle.codec.specs.Lists.{max_columns}
use Rattle.codec.specs.Alpha.{parted}
use Rattle.codec.specs.Text.{TextParts, LongestForm, text_value, reading_in, legal_length, Beginning, read_texts}

-- how many bytes stand before the first place where a text number begins: all of them where there is none
unfoldable pub bytes_before : List ℕ → ℕ
bytes_before [] = 0
bytes_before (b ∷ bs) = pick (eqb (legal_length (b ∷ bs)) 0) (suc (bytes_before bs)) 0

-- the next place of a text, from one on, where a text number begins; the end where there is none, a place past the end as it is
unfoldable pub number_place : List ℕ → ℕ → ℕ
number_place text from = from + bytes_before (drop from text)

-- what that place is: a text number begins there unless it is the end, and none begins from the place given up to it
pub record FirstPlace (text : List ℕ) (from place : ℕ) : Type 0 where
  pub not_before : from ≤ place
  pub inside : from ≤ length text → place ≤ length text
  pub begins : place < length text → legal_length (drop place text) ≡ 0 → ⊥
  pub none_before : (p : ℕ) → from ≤ p → p < place → legal_length (drop p text) ≡ 0

-- the numbers that were read in order, and where and why reading stopped: the refusal of a number, or what else
pub record Walk : Type 0 where
  pub answer : Answer Stop
  pub numbers : List Number
  pub place : ℕ

-- why reading stops before bytes: the end, no text number begins there, or one begins and there is no room for it
unfoldable pub stop_before : List ℕ → Stop
stop_before bytes = pick (eqb (length bytes) 0) gives.End (pick (eqb (legal_length bytes) 0) gives.NoNumber gives.TooMany)

-- no more numbers: reading stops at this place, for this reason
unfoldable pub stopped : Answer Stop → ℕ → Walk
stopped answer place = record { answer = answer; numbers = []; place = place }

-- a number, then those behind it; a refused number ends the reading at its own place, and its index is the refusal's place
unfoldable pub with_number : ℕ → ℕ → Answer Number → Walk → Walk
with_number index place (done n) rest = record { answer = rest.answer; numbers = n ∷ rest.numbers; place = rest.place }
with_number index place (refused number _) rest = stopped (refused number index) place

-- at most so many numbers of bytes: the first has this index and begins at this place
unfoldable pub numbers_in : ℕ → ℕ → ℕ → List ℕ → Walk
numbers_in zero index place bytes = stopped (done (stop_before bytes)) place
numbers_in (suc left) index place bytes =
    pick (eqb (legal_length bytes) 0)
    (stopped (done (stop_before bytes)) place)
    (with_number index place (reading_in bytes).number
    (numbers_in left (suc index) (place + legal_length bytes) (drop (legal_length bytes) bytes)))

-- all numbers of a text from a place on, up to 16
unfoldable pub walking : List ℕ → ℕ → Walk
walking text from = numbers_in max_columns 0 from (drop from text)

-- The numbers of a text apart from how they are found: from a place on, the text is cut into text numbers one behind the other, each the
-- longest beginning of what is left that has the form; there are at most 16 of them. (The proofs' PiecesTheorem: `walking` gives exactly these.)

-- each case of the code's answer: nothing is refused where the text ends; 8 where no text number begins; a number is refused as its text is,
-- with its index for the place; 10 where there are more numbers than a list can have
abbrev pub stop_meaning : Stop → Answer (Unit {0})
stop_meaning gives.End = done tt
stop_meaning gives.NoNumber = refused 8 0
stop_meaning gives.TooMany = refused 10 0

abbrev pub walk_meaning : Answer Stop → Answer (Unit {0})
walk_meaning (done stop) = stop_meaning stop
walk_meaning (refused number place) = refused number place

-- the longest beginning of bytes that has the form of a text number is so long, and its number is so
pub record Foremost (bytes : List ℕ) (size : ℕ) (number : Answer Number) : Type 0 where
  pub parts : TextParts
  pub beginning : Beginning bytes size parts
  pub value : text_value parts ≡ number

-- from a number's index and a place on: the numbers, the place where there is none more, and why
pub data Pieces (text : List ℕ) : ℕ → ℕ → List Number → ℕ → Answer (Unit {0}) → Type 0 where
  -- the text ends there
  ends : {index place : ℕ} → length text ≤ place → Pieces text index place [] place (done tt)
  -- no text number begins there
  none : {index place : ℕ} → place < length text → LongestForm (drop place text) 0 → Pieces text index place [] place (refused 8 0)
  -- one begins there, and 16 stand before it
  full :
      {index place size : ℕ} {number : Answer Number}
      → max_columns ≤ index
      → Foremost (drop place text) size number
      → Pieces text index place [] place (refused 10 0)
  -- one begins there, and is refused
  stops :
      {index place size number other : ℕ}
      → index < max_columns
      → Foremost (drop place text) size (refused number other)
      → Pieces text index place [] place (refused number index)
  -- one begins there, and the others behind it
  more :
      {index place size stop : ℕ} {n : Number} {ns : List Number} {answer : Answer (Unit {0})}
      → index < max_columns
      → Foremost (drop place text) size (done n)
      → Pieces text (suc index) (place + size) ns stop answer
      → Pieces text index place (n ∷ ns) stop answer

-- the walk that the code gives
abbrev pub walk_of : TextNumbers → Walk
walk_of w = record { answer = meaning w.answer; numbers = w.numbers.items; place = w.place }

-- The walker.

-- what stands from its place on
abbrev pub ahead_of : Walker → List ℕ
ahead_of w = drop w.place w.text.now

-- behind the next text number
abbrev pub moved_on : Walker → Walker
moved_on w = record { text = w.text; place = w.place + (reading_in (ahead_of w)).used }

-- at the next place where a text number begins
abbrev pub skipped_on : Walker → Walker
skipped_on w = record { text = w.text; place = number_place w.text.now w.place }

-- A line of texts parted by one blank, as the listing program prints the alpha texts of a record.

-- the byte that every line ends with
abbrev pub line_end : ℕ
line_end = 0x0A

-- such a line reads back as the numbers of its texts
pub record LineBack (texts : List (List ℕ)) : Type 0 where
  pub numbers : List Number
  -- each text converts to its number
  pub of_texts : read_texts texts ≡ done numbers
  -- walking a text that is the line gives these numbers, up to the end
  pub alone : walking (parted texts) 0 ≡ record { answer = done gives.End; numbers = numbers; place = length (parted texts) }
  -- so does walking a text that has the line from a place on, up to the byte behind it
  pub within :
      (text : List ℕ) (from : ℕ) (others : List ℕ)
      → drop from text ≡ parted texts ++ line_end ∷ others
      → walking text from ≡ record { answer = done gives.NoNumber; numbers = numbers; place = from + length (parted texts) }
