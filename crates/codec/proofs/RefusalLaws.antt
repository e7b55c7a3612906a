-- Which refusals reading a contents and a body, and packing a list, can give. Assumes nothing.
use Prim.Native.Nat.{ℕ, zero, suc}
use mathlib.Core.Bool.{not, ◌&&◌}
use mathlib.Core.List.{List, [], ◌∷◌}
use lib.Dec.{ltb, leb, eqb}
use lib.ListN.{length, take, drop}
use Rattle.decimal.specs.declared.image.Image.{Image}
use Rattle.decimal.specs.declared.number.Number.{Number}
use Rattle.decimal.specs.Answer.{Answer, done, refused}
use Rattle.decimal.specs.Digits.{value_of}
use Rattle.decimal.specs.Truncation.{number_of}
use Rattle.decimal.proofs.RefusalLaws.{RefusesOnly, only_done, only_refused, only_choice, only_then, image_refusals, packed_refusals}
use Rattle.codec.specs.Lists.{any_of, max_columns}
use Rattle.codec.specs.Columns.{column_size, body_size}
use Rattle.codec.specs.Contents.{read_column, column_length, read_columns, read_contents}
use Rattle.codec.specs.Halves.{halves_of}
use Rattle.codec.specs.Packing.{pack_columns, pack_list}
use Rattle.decimal.specs.Truncation.{packed_truncation}
use Rattle.codec.specs.Unpacking.{all_digits, all_zero, sign_part, digit_part, exponent_part, pad_part, said_by, breaks_rules, as_half, parts_number}
use Rattle.codec.specs.Unpacking.{halves_number, unpack_column, unpack_columns, unpack_body}

-- A contents.

module _ {kind : ℕ → ℕ → Type 0} (no_image_lem : (column : ℕ) → kind 1 column) (many_digits : (column : ℕ) → kind 2 column) (wrong_length : kind 11 0) where
  column_refusals : (column : ℕ) (bytes : List ℕ) → RefusesOnly kind (read_column column bytes)
  unfolding read_column
  column_refusals column [] = only_refused wrong_length
  column_refusals column (n ∷ bytes) =
      only_choice (ltb (length bytes) n) (only_refused wrong_length)
      (image_refusals column (take n bytes) (no_image_lem column) (many_digits column))

  columns_refusals : (left column : ℕ) (bytes : List ℕ) → RefusesOnly kind (read_columns left column bytes)
  unfolding read_columns
  columns_refusals zero column bytes = only_done
  columns_refusals (suc left) column bytes =
      only_then (read_column column bytes) (column_refusals column bytes)
      (λ im.
      only_then (read_columns left (suc column) (drop (column_length bytes) bytes))
      (columns_refusals left (suc column) (drop (column_length bytes) bytes)) (λ ims. only_done))

  -- Published: reading a contents gives 1, 2, 10 and 11 alone.
  pub contents_refusals : (bytes : List ℕ) → kind 10 0 → RefusesOnly kind (read_contents bytes)
  unfolding read_contents
  contents_refusals [] wrong_count = only_refused wrong_length
  contents_refusals (count ∷ bytes) wrong_count =
      only_choice (leb 1 count && leb count max_columns)
      (only_then (read_columns count 0 bytes) (columns_refusals count 0 bytes) (λ ims. only_done))
      (only_refused wrong_count)

-- A body.

module _ {kind : ℕ → ℕ → Type 0} (bad_half : (column : ℕ) → kind 7 column) where
  half_refusals : (column : ℕ) (a : Answer Number) → RefusesOnly kind (as_half column a)
  unfolding as_half
  half_refusals column (done n) = only_done
  half_refusals column (refused number place) = only_refused (bad_half column)

  number_refusals : (column : ℕ) (im : Image) (bytes : List ℕ) → RefusesOnly kind (unpack_column column im bytes)
  unfolding unpack_column halves_number parts_number
  number_refusals column im bytes =
      let hs = halves_of bytes in
      let sign = sign_part im.sign hs in
      let whole = value_of (digit_part im hs) in
      let size = value_of (exponent_part im hs) in
      only_choice (any_of (not (all_digits (digit_part im hs)) ∷ (not (all_digits (exponent_part im hs)) ∷ (not (all_zero (pad_part im hs)) ∷ []))))
      (only_refused (bad_half column))
      (only_choice (breaks_rules im sign whole size) (only_refused (bad_half column))
      (half_refusals column (number_of column im (said_by sign whole size))))

  numbers_refusals : (column : ℕ) (ims : List Image) (bytes : List ℕ) → RefusesOnly kind (unpack_columns column ims bytes)
  unfolding unpack_columns
  numbers_refusals column [] bytes = only_done
  numbers_refusals column (im ∷ ims) bytes =
      only_then (unpack_column column im (take (column_size im) bytes)) (number_refusals column im (take (column_size im) bytes))
      (λ n.
      only_then (unpack_columns (suc column) ims (drop (column_size im) bytes)) (numbers_refusals (suc column) ims (drop (column_size im) bytes))
      (λ ns. only_done))

  -- Published: unpacking a body gives 7 and 11 alone.
  pub body_refusals : (ims : List Image) (body : List ℕ) → kind 11 0 → RefusesOnly kind (unpack_body ims body)
  unfolding unpack_body
  body_refusals ims body wrong_length =
      only_choice (eqb (length body) (body_size ims)) (numbers_refusals 0 ims body) (only_refused wrong_length)

-- A list.

module _
    {kind : ℕ → ℕ → Type 0} (no_image_lem : (column : ℕ) → kind 1 column) (many_digits : (column : ℕ) → kind 2 column)
    (not_normal : (column : ℕ) → kind 3 column) (exceeds : (column : ℕ) → kind 4 column) (exponent_outside : (column : ℕ) → kind 5 column)
  where
    -- its columns
    packing_refusals : (column : ℕ) (ims : List Image) (ns : List Number) → RefusesOnly kind (pack_columns column ims ns)
    unfolding pack_columns
    packing_refusals column [] ns = only_done
    packing_refusals column (im ∷ ims) [] = only_done
    packing_refusals column (im ∷ ims) (n ∷ ns) =
        only_then (packed_truncation column im n)
        (packed_refusals column im n (no_image_lem column) (many_digits column) (not_normal column) (exceeds column) (exponent_outside column))
        (λ t. only_then (pack_columns (suc column) ims ns) (packing_refusals (suc column) ims ns) (λ rest. only_done))

    -- Published: packing a list gives 10 and 1 to 5 alone.
    pub list_refusals : (ims : List Image) (ns : List Number) → kind 10 0 → RefusesOnly kind (pack_list ims ns)
    unfolding pack_list
    list_refusals ims ns wrong_count =
        only_choice (eqb (length ns) (length ims)) (packing_refusals 0 ims ns) (only_refused wrong_count)
