-- Document 02, (iii): a page's positions found in a file.
use Rattle.std.specs.Prelude.{ℕ, suc, ◌<◌, ◌≤◌, ◌≡◌, Bool, true, false, not, ◌&&◌, List, [], ◌∷◌, length, get_or, leb}
use Rattle.decimal.specs.declared.image.Image.{Image}
use Rattle.decimal.specs.declared.number.Number.{Number}
use Rattle.decimal.specs.Answer.{Answer, done, refused, ◌then◌, pick}
use Rattle.decimal.specs.Number.{zero_number, check_number}
use Rattle.decimal.specs.Truncation.{is_signed}
use Rattle.codec.specs.Lists.{no_image}
use Rattle.codec.specs.Contents.{Table}
use Rattle.codec.specs.Unpacking.{unpack_body}
use Rattle.records.specs.Files.RecordFile.{read_file, bodies_in}
use Rattle.rolls.specs.declared.searching.Found.{Found}
use Rattle.rolls.specs.Falling.{at_most, fall}

-- "up to 64 positions"
abbrev pub max_positions : ℕ
max_positions = 64

-- A record goes by its first column, as a number.

-- the first columns of records, by their bodies: every column of every record is read, 7 with the column within the first bad record
unfoldable pub first_columns_of : List Image → List (List ℕ) → Answer (List Number)
first_columns_of ims [] = done []
first_columns_of ims (body ∷ bs) = unpack_body ims body then λ ns. (first_columns_of ims bs then λ columns. done (get_or ns 0 zero_number ∷ columns))

-- the first columns of a file's records
abbrev pub first_columns_in : Table → List ℕ → Answer (List Number)
first_columns_in table file = first_columns_of table.images (bodies_in table file)

-- What is looked for: "the first record whose first column is at least the position, or the record count".

-- r is that record's number, by itself: no earlier record's first column is at least the position, and that of r is, if there is a record r
pub record IsFirst (columns : List Number) (position : Number) (r : ℕ) : Type 0 where
  pub inside : r ≤ length columns
  pub reaches : r < length columns → at_most position (get_or columns r zero_number) ≡ true
  pub earlier : (s : ℕ) → s < r → at_most position (get_or columns s zero_number) ≡ false

-- and computed (the proofs' FindTheorem: that record and no other)
unfoldable pub first_record : List Number → Number → ℕ
first_record [] position = 0
first_record (column ∷ columns) position = pick (at_most position column) 0 (suc (first_record columns position))

-- for each position
unfoldable pub first_records : List Number → List Number → List ℕ
first_records columns [] = []
first_records columns (position ∷ ps) = first_record columns position ∷ first_records columns ps

-- The walk: "it compares the current position with the current record, goes to the next position if the record is at least as large, else
-- to the next record, and ends when either runs out, positions left over taking the record count."

-- record numbers, one for each position, and the count of comparisons
pub record Search : Type 0 where
  pub records : List ℕ
  pub comparisons : ℕ

-- a walk that first gives a record to a position
unfoldable pub giving : ℕ → Search → Search
giving r s = record { records = r ∷ s.records; comparisons = s.comparisons }

-- a walk that first makes a comparison
unfoldable pub comparing : Search → Search
comparing s = record { records = s.records; comparisons = suc s.comparisons }

-- the walk over positions and the first columns of the records from number r on
unfoldable pub walk : ℕ → List Number → List Number → Search
walk r [] columns = record { records = []; comparisons = 0 }
walk r (position ∷ ps) [] = giving r (walk r ps [])
walk r (position ∷ ps) (column ∷ columns) =
    comparing (pick (at_most position column) (giving r (walk r ps (column ∷ columns))) (walk (suc r) (position ∷ ps) columns))

-- What the call gives: the first records, and the count of comparisons that the walk makes.
unfoldable pub found : List Number → List Number → Search
found ps columns = record { records = first_records columns ps; comparisons = (walk 0 ps columns).comparisons }

-- Refusals.

-- over 64 positions: 10
unfoldable pub check_count : List Number → Answer (Unit {0})
check_count ps = pick (leb (length ps) max_positions) (done tt) (refused 10 0)

-- a position not in normal form: 3 with its index
unfoldable pub check_numbers : ℕ → List Number → Answer (Unit {0})
check_numbers index [] = done tt
check_numbers index (p ∷ ps) = check_number index p then λ _. check_numbers (suc index) ps

-- "a file whose first column is unsigned fixed point"
abbrev pub is_unsigned_fixed : Image → Bool
is_unsigned_fixed im = not im.exponential && not (is_signed im.sign)

-- a first column of another kind: 16
unfoldable pub check_kind : List Image → Answer (Unit {0})
check_kind ims = pick (is_unsigned_fixed (get_or ims 0 no_image)) (done tt) (refused 16 0)

-- a refusal where a test holds, with place 0
unfoldable pub refuse_where : Bool → ℕ → Answer (Unit {0})
refuse_where test number = pick test (refused number 0) (done tt)

-- 3 with the position's index, 16, 14 for falling positions, 15 for falling records, all of them looked at
unfoldable pub check_page : List Image → List Number → Bool → Answer (Unit {0})
check_page ims ps falling =
    check_numbers 0 ps then λ _. (check_kind ims then λ _. (refuse_where (fall ps) 14 then λ _. refuse_where falling 15))

-- the call: refused as the file is, then with 10, 7, and what is asked of the page and the records
unfoldable pub searching : List ℕ → List Number → Answer Search
searching file ps =
    read_file file then λ table.
    (check_count ps then λ _.
    (first_columns_in table file then λ columns. (check_page table.images ps (fall columns) then λ _. done (found ps columns))))

-- what the code finds
abbrev pub search_of : Found → Search
search_of found = record { records = found.records.items; comparisons = found.comparisons }

-- What the code's helpers find.

-- a page that can be looked for, but for records that fall: 3, 16, 14
unfoldable pub check_positions : List Image → List Number → Answer (Unit {0})
check_positions ims ps = check_numbers 0 ps then λ _. (check_kind ims then λ _. refuse_where (fall ps) 14)
