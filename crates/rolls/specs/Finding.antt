-- Document 02, (iii), as laws: when a page's positions are looked for, and what is given then.
use Rattle.std.specs.Prelude.{ℕ, ◌+◌, ◌<◌, ◌≤◌, ◌≡◌, true, List, length, get_or}
use Rattle.decimal.specs.declared.image.Image.{Image}
use Rattle.decimal.specs.declared.number.Number.{Number}
use Rattle.decimal.specs.Answer.{done}
use Rattle.decimal.specs.Number.{zero_number, normal}
use Rattle.codec.specs.Contents.{Table}
use Rattle.codec.specs.Lists.{no_image}
use Rattle.codec.specs.Order.{UnsignedFixed}
use Rattle.codec.specs.Unpacking.{unpack_body}
use Rattle.records.specs.Files.RecordFile.{read_file, record_count, shown_part}
use Rattle.rolls.specs.Falling.{at_most, NeverFall}
use Rattle.rolls.specs.Searching.{max_positions, first_columns_in, IsFirst, Search, walk}

-- what is given for positions, of the first columns of a file's records
pub record Finds (ps columns : List Number) (s : Search) : Type 0 where
  -- a record number for each position
  pub counted : length s.records ≡ length ps
  -- "the first record whose first column is at least the position, or the record count"
  pub first : (i : ℕ) → i < length ps → IsFirst columns (get_or ps i zero_number) (get_or s.records i 0)
  -- and no other number is that
  pub only : (i r : ℕ) → i < length ps → IsFirst columns (get_or ps i zero_number) r → r ≡ get_or s.records i 0
  -- every record from there on is at least the position too
  pub later : (i r : ℕ) → i < length ps → get_or s.records i 0 ≤ r → r < length columns → at_most (get_or ps i zero_number) (get_or columns r zero_number) ≡ true
  -- it is what the walk gives: "The answer carries the count of comparisons made; it equals that walk's"
  pub walked : walk 0 ps columns ≡ s
  -- "and is at most positions plus records"
  pub few : s.comparisons ≤ length ps + length columns

-- a record's first column as a number, where all columns of its body are read
pub record HasFirstColumn (ims : List Image) (body : List ℕ) (column : Number) : Type 0 where
  pub numbers : List Number
  pub reads : unpack_body ims body ≡ done numbers
  pub first : column ≡ get_or numbers 0 zero_number

-- positions that can be looked for in a file: all that is asked before the walk
pub record Askable (file : List ℕ) (ps columns : List Number) : Type 0 where
  -- the file is read
  pub table : Table
  pub reads : read_file file ≡ done table
  -- "up to 64 positions"
  pub page : length ps ≤ max_positions
  -- every column of every record is read; a first column for each record, that of the body which is shown
  pub bodies : first_columns_in table file ≡ done columns
  pub records : length columns ≡ record_count table file
  pub each : (r : ℕ) → r < record_count table file → HasFirstColumn table.images (shown_part file r) (get_or columns r zero_number)
  -- the positions are in normal form, and do not fall
  pub normals : (i : ℕ) → i < length ps → normal (get_or ps i zero_number) ≡ true
  pub positions : NeverFall ps
  -- "a file whose first column is unsigned fixed point"
  pub kind : UnsignedFixed (get_or table.images 0 no_image)
  -- no record is below an earlier one
  pub in_order : NeverFall columns

-- the refusals that the call can give: "4 and 5 are never given", nor is 6; 14, 15 and 16 "carry place 0"
pub data Refusable : ℕ → ℕ → Type 0 where
  -- those of the file: no image and an image of too many digits, with the column; the count of columns; a length
  no_image_lem : {column : ℕ} → Refusable 1 column
  many_digits : {column : ℕ} → Refusable 2 column
  wrong_count : Refusable 10 0
  wrong_length : Refusable 11 0
  -- a half outside the rules, with the column; a position that is not in normal form, with its index
  bad_half : {column : ℕ} → Refusable 7 column
  not_normal : {index : ℕ} → Refusable 3 index
  -- falling positions, falling records, a first column of another kind
  positions_fall : Refusable 14 0
  records_fall : Refusable 15 0
  wrong_kind : Refusable 16 0
