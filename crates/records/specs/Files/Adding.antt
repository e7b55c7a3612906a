-- Record files as laws: what add wrote, show shows and unpacking reads; adding leaves earlier records; the record count rises by one;
-- a body written at the place of a record is that record's, and the other records stay.
use Rattle.std.specs.Prelude.{ℕ, suc, ◌+◌, ◌<◌, ◌≡◌, List, [], ◌∷◌, ◌++◌, length, take}
use Rattle.decimal.specs.declared.number.Number.{Number}
use Rattle.decimal.specs.Answer.{done}
use Rattle.codec.specs.Contents.{Table}
use Rattle.codec.specs.Answers.{written}
use Rattle.codec.specs.Unpacking.{unpack_body}
use Rattle.codec.specs.Order.{Truncations}
use Rattle.records.specs.Files.RecordFile.{read_file, record_count, bodies_in, shown, shown_part}

-- the file in the first bytes of a buffer, before a record is added
abbrev pub file_before : List ℕ → ℕ → List ℕ
file_before buffer used = take used buffer

-- and after its body was added: what the new used length holds
abbrev pub file_after : List ℕ → ℕ → List ℕ → List ℕ
file_after buffer used body = take (used + length body) (written buffer used body)

-- what adding the body of a list does to the file of a used length
pub record Adds (used : ℕ) (ns : List Number) (body before after : List ℕ) : Type 0 where
  -- the used length is the file's, before and after
  pub length_before : length before ≡ used
  pub length_after : length after ≡ used + length body
  -- the file has the same contents before and after
  pub table : Table
  pub reads_before : read_file before ≡ done table
  pub reads_after : read_file after ≡ done table
  -- the record count rises by one
  pub counted : record_count table after ≡ suc (record_count table before)
  -- what add wrote, show shows: the new record, behind the used length
  pub shows : shown after (record_count table before) ≡ done (record { start = used; size = length body })
  pub part : shown_part after (record_count table before) ≡ body
  -- and unpacking reads: the truncations of the numbers that were added
  pub numbers : List Number
  pub unpacks : unpack_body table.images body ≡ done numbers
  pub truncations : Truncations table.images ns numbers
  -- adding leaves earlier records: each is shown at the same place, with the same bytes
  pub earlier : (r : ℕ) → r < record_count table before → shown after r ≡ shown before r
  pub unchanged : (r : ℕ) → r < record_count table before → shown_part after r ≡ shown_part before r
  -- so the bodies are those that were there, then the new one
  pub in_order : bodies_in table after ≡ bodies_in table before ++ body ∷ []

-- what writing a body at the place of record r does to a file
pub record Replaces (table : Table) (r : ℕ) (body before after : List ℕ) : Type 0 where
  -- the file is as long, has the same contents and as many records
  pub length_same : length after ≡ length before
  pub reads_after : read_file after ≡ done table
  pub counted : record_count table after ≡ record_count table before
  -- record r has the body
  pub part : shown_part after r ≡ body
  -- and every other record the bytes that it had
  pub unchanged : (s : ℕ) → s < record_count table before → (s ≡ r → ⊥) → shown_part after s ≡ shown_part before s

-- what writing a contents does: a file without records
pub record Starts (bytes : List ℕ) : Type 0 where
  pub table : Table
  pub reads : read_file bytes ≡ done table
  pub counted : record_count table bytes ≡ 0
  pub in_order : bodies_in table bytes ≡ []

-- The refusals that adding can give.

-- those of the file in the first bytes of a buffer: no image and an image of too many digits, with the column; the count of columns; a length,
-- the used length among them
pub data FileRefusable : ℕ → ℕ → Type 0 where
  no_image_lem : {column : ℕ} → FileRefusable 1 column
  many_digits : {column : ℕ} → FileRefusable 2 column
  wrong_count : FileRefusable 10 0
  wrong_length : FileRefusable 11 0

-- with those of the numbers, with their columns, and of the room; a list of another count is refused as a count of columns is
pub data AddRefusable : ℕ → ℕ → Type 0 where
  file : {number place : ℕ} → FileRefusable number place → AddRefusable number place
  not_normal : {column : ℕ} → AddRefusable 3 column
  exceeds : {column : ℕ} → AddRefusable 4 column
  exponent_outside : {column : ℕ} → AddRefusable 5 column
  no_room : AddRefusable 6 0
