-- Document 02, (vi), as laws: when two files are merged, and what the merged file is.
use Rattle.std.specs.Prelude.{ℕ, ◌+◌, ◌<◌, ◌≡◌, List, length, get_or}
use Rattle.decimal.specs.declared.number.Number.{Number}
use Rattle.decimal.specs.Answer.{done}
use Rattle.codec.specs.Contents.{Table}
use Rattle.codec.specs.Lists.{no_image}
use Rattle.codec.specs.Order.{UnsignedFixed}
use Rattle.records.specs.Files.RecordFile.{read_file, record_count, bodies_in, shown_part}
use Rattle.rolls.specs.Falling.{NeverFall}
use Rattle.rolls.specs.Searching.{first_columns_in, Search}
use Rattle.rolls.specs.Merging.{first_column_of, contents_in, IsMerge}

-- two files that can be merged: all that is asked of them but room
pub record Mergeable (first second : List ℕ) : Type 0 where
  -- both are read, "with the same contents"
  pub table : Table
  pub first_file : read_file first ≡ done table
  pub second_file : read_file second ≡ done table
  pub contents : contents_in table first ≡ contents_in table second
  -- every column of every record is read
  pub first_file_columns : List Number
  pub second_file_columns : List Number
  pub first_read : first_columns_in table first ≡ done first_file_columns
  pub second_read : first_columns_in table second ≡ done second_file_columns
  -- "a first column as in (iii)"
  pub kind : UnsignedFixed (get_or table.images 0 no_image)
  -- "neither falling"
  pub first_order : NeverFall first_file_columns
  pub second_order : NeverFall second_file_columns

-- a file is two files merged
pub record MergedFile (first second file : List ℕ) : Type 0 where
  -- it is a file, with the contents of both
  pub table : Table
  pub reads : read_file file ≡ done table
  pub contents : contents_in table file ≡ contents_in table first
  -- its records are those of both, merged by the four clauses
  pub records : IsMerge (first_column_of table.images) (bodies_in table first) (bodies_in table second) (bodies_in table file)

-- a record of a file is in another: its body, byte for byte
pub record HasRecord (table : Table) (file : List ℕ) (body : List ℕ) : Type 0 where
  pub number : ℕ
  pub inside : number < record_count table file
  pub same : shown_part file number ≡ body

-- record numbers are, one by one, the sums of others
pub record Sums (one two both : Search) : Type 0 where
  pub counted : (length both.records ≡ length one.records) × (length both.records ≡ length two.records)
  pub each : (i : ℕ) → i < length both.records → get_or both.records i 0 ≡ get_or one.records i 0 + get_or two.records i 0

-- the refusals that the call can give of either file and of both; "these and all later numbers carry place 0"
pub data PairRefusable : ℕ → ℕ → Type 0 where
  -- those of a file: no image and an image of too many digits, with the column; the count of columns; a length; a half outside the rules, with
  -- the column
  no_image_lem : {column : ℕ} → PairRefusable 1 column
  many_digits : {column : ℕ} → PairRefusable 2 column
  wrong_count : PairRefusable 10 0
  wrong_length : PairRefusable 11 0
  bad_half : {column : ℕ} → PairRefusable 7 column
  -- those of both: contents that differ, a first column of another kind, records that fall
  contents_differ : PairRefusable 17 0
  wrong_kind : PairRefusable 16 0
  records_fall : PairRefusable 15 0

-- and with that of the buffer
pub data MergeRefusable : ℕ → ℕ → Type 0 where
  files : {number place : ℕ} → PairRefusable number place → MergeRefusable number place
  no_room : MergeRefusable 6 0
