-- Which refusals reading a file and adding a record can give. Assumes nothing.
use Prim.Native.Nat.{ℕ, ◌-◌, ◌%◌}
use mathlib.Core.Path.{◌≡◌}
use mathlib.Core.List.{List}
use lib.Dec.{eqb, ltb}
use lib.ListN.{length, take}
use Rattle.decimal.specs.declared.number.Number.{Number}
use Rattle.decimal.specs.Answer.{refused}
use Rattle.decimal.proofs.RefusalLaws.{RefusesOnly, only_done, only_refused, only_choice, only_then}
use Rattle.codec.specs.Answers.{within}
use Rattle.codec.specs.Columns.{body_size}
use Rattle.codec.specs.Contents.{read_contents}
use Rattle.codec.specs.Packing.{pack_list}
use Rattle.codec.proofs.RefusalLaws.{contents_refusals, list_refusals}
use Rattle.records.specs.Files.RecordFile.{read_file, read_used, added}
use Rattle.records.specs.Files.Adding.{FileRefusable, AddRefusable}

module _ {kind : ℕ → ℕ → Type 0} (no_image_lem : (column : ℕ) → kind 1 column) (many_digits : (column : ℕ) → kind 2 column) (wrong_length : kind 11 0) where
  -- Published: reading a file gives 1, 2, 10 and 11 alone.
  pub file_refusals : (file : List ℕ) → kind 10 0 → RefusesOnly kind (read_file file)
  unfolding read_file
  file_refusals file wrong_count =
      only_then (read_contents file) (contents_refusals no_image_lem many_digits wrong_length file wrong_count)
      (λ table. only_choice (eqb ((length file - table.size) % body_size table.images) 0) only_done (only_refused wrong_length))

  -- and so does reading the one in the first bytes of a buffer
  pub used_refusals : (buffer : List ℕ) (used : ℕ) → kind 10 0 → RefusesOnly kind (read_used buffer used)
  unfolding read_used
  used_refusals buffer used wrong_count =
      only_choice (ltb (length buffer) used) (only_refused wrong_length) (file_refusals (take used buffer) wrong_count)

  module _ (not_normal : (column : ℕ) → kind 3 column) (exceeds : (column : ℕ) → kind 4 column) (exponent_outside : (column : ℕ) → kind 5 column) where
    -- adding gives these, and 3, 4, 5 and 6
    pub added_refusals : (buffer : List ℕ) (used : ℕ) (ns : List Number) → kind 10 0 → kind 6 0 → RefusesOnly kind (added buffer used ns)
    unfolding added within
    added_refusals buffer used ns wrong_count no_room =
        only_then (read_used buffer used) (used_refusals buffer used wrong_count)
        (λ table. only_then (pack_list table.images ns)
        (list_refusals no_image_lem many_digits not_normal exceeds exponent_outside table.images ns wrong_count)
        (λ body. only_choice (ltb (length buffer - used) (length body)) (only_refused no_room) only_done))

-- Published: no other refusals are given by reading the file in the first bytes of a buffer,
pub used_refused : (buffer : List ℕ) (used : ℕ) → RefusesOnly FileRefusable (read_used buffer used)
used_refused buffer used =
    used_refusals {kind = FileRefusable} (λ column. FileRefusable.no_image_lem) (λ column. FileRefusable.many_digits) FileRefusable.wrong_length buffer used
    FileRefusable.wrong_count

-- Published: nor by adding.
pub add_refusals : (buffer : List ℕ) (used : ℕ) (ns : List Number) {number place : ℕ} → added buffer used ns ≡ refused number place → AddRefusable number place
add_refusals buffer used ns h =
    (added_refusals {kind = AddRefusable} (λ column. AddRefusable.file FileRefusable.no_image_lem) (λ column. AddRefusable.file FileRefusable.many_digits)
    (AddRefusable.file FileRefusable.wrong_length) (λ column. AddRefusable.not_normal) (λ column. AddRefusable.exceeds)
    (λ column. AddRefusable.exponent_outside) buffer used ns (AddRefusable.file FileRefusable.wrong_count) AddRefusable.no_room).each h
