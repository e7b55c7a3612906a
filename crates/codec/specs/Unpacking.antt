-- Document 01, Packed bodies: reading back.
use Rattle.std.specs.Prelude.{ℕ, suc, ◌+◌, ◌-◌, ◌*◌, ◌%◌, ◌^◌, List, [], ◌∷◌, Bool, true, not, Option, Some, None, ◌&&◌, length, take, drop, get_or, ltb, leb, eqb}
use Rattle.decimal.specs.declared.image.Sign.{Sign}
use Rattle.decimal.specs.declared.image.Sign.TheVariants.{Unsigned, Plus, Minus}
use Rattle.decimal.specs.declared.image.Image.{Image}
use Rattle.decimal.specs.declared.number.Number.{Number}
use Rattle.decimal.specs.Answer.{Answer, done, refused, ◌then◌, pick}
use Rattle.decimal.specs.Digits.{value_of}
use Rattle.decimal.specs.Number.{exponent_limit}
use Rattle.decimal.specs.Image.{hashes}
use Rattle.decimal.specs.Truncation.{Truncated, number_of}
use Rattle.codec.specs.Lists.{any_of}
use Rattle.codec.specs.Columns.{sign_count, exponent_count, half_count, column_size, body_size}
use Rattle.codec.specs.Contents.{read_alone}
use Rattle.codec.specs.Halves.{halves_of}

-- whether all are decimal digits
unfoldable pub all_digits : List ℕ → Bool
all_digits [] = true
all_digits (d ∷ ds) = ltb d 10 && all_digits ds

-- whether all are zero
unfoldable pub all_zero : List ℕ → Bool
all_zero [] = true
all_zero (d ∷ ds) = eqb d 0 && all_zero ds

-- The parts of a column's halves.

unfoldable pub sign_part : Sign → List ℕ → ℕ
sign_part Unsigned hs = 0
sign_part Plus hs = get_or hs 0 0
sign_part Minus hs = get_or hs 0 0

unfoldable pub digit_part : Image → List ℕ → List ℕ
digit_part im hs = take (hashes im) (drop (sign_count im.sign) hs)

unfoldable pub exponent_part : Image → List ℕ → List ℕ
exponent_part im hs = take (exponent_count im.exponential) (drop (sign_count im.sign + hashes im) hs)

unfoldable pub pad_part : Image → List ℕ → List ℕ
pad_part im hs = drop (half_count im) hs

-- the sign half has 1 for a minus and 8 for a negative x
abbrev pub minus_bit : ℕ → Bool
minus_bit s = eqb (s % 8) 1

abbrev pub below_bit : ℕ → Bool
below_bit s = leb 8 s

-- what the parts stand for: the sign, k, and x + exponentLimit
unfoldable pub said_by : ℕ → ℕ → ℕ → Truncated
said_by sign whole size =
    record {
      negative = minus_bit sign;
      whole = whole;
      x = pick (below_bit sign) (exponent_limit - size) (exponent_limit + size);
    }

-- the rules that a sign half, k and |x| can break under an image: a sign half other than 0, 1, 8 and 9; a minus on zero; an 8 where x is 0 or the image is
-- fixed; a zero mantissa with x not 0; an exponential mantissa that is not all zero but begins with 0
unfoldable pub breaks_rules : Image → ℕ → ℕ → ℕ → Bool
breaks_rules im sign whole size =
    any_of
    (leb 2 (sign % 8)
    ∷ ((minus_bit sign && eqb whole 0)
    ∷ ((below_bit sign && eqb size 0)
    ∷ ((eqb whole 0 && leb 1 size)
    ∷ ((im.exponential && (leb 1 whole && ltb (whole * 10) (10 ^ hashes im))) ∷ [])))))

-- a column whose number has e outside its limits is refused with 7
unfoldable pub as_half : ℕ → Answer Number → Answer Number
as_half column (done n) = done n
as_half column (refused number place) = refused 7 column

-- the number that a sign half, k and |x| stand for
unfoldable pub parts_number : ℕ → Image → ℕ → ℕ → ℕ → Answer Number
parts_number column im sign whole size =
    pick (breaks_rules im sign whole size) (refused 7 column) (as_half column (number_of column im (said_by sign whole size)))

-- the number of a column's halves: 7 for a digit above 9, a pad not zero, or parts that break a rule
unfoldable pub halves_number : ℕ → Image → List ℕ → Answer Number
halves_number column im hs =
    pick
    (any_of
    (not (all_digits (digit_part im hs))
    ∷ (not (all_digits (exponent_part im hs)) ∷ (not (all_zero (pad_part im hs)) ∷ []))))
    (refused 7 column)
    (parts_number column im (sign_part im.sign hs) (value_of (digit_part im hs)) (value_of (exponent_part im hs)))

-- the number of a column's bytes
unfoldable pub unpack_column : ℕ → Image → List ℕ → Answer Number
unpack_column column im bytes = halves_number column im (halves_of bytes)

-- the columns in order; 7 from the left
unfoldable pub unpack_columns : ℕ → List Image → List ℕ → Answer (List Number)
unpack_columns column [] bytes = done []
unpack_columns column (im ∷ ims) bytes =
    unpack_column column im (take (column_size im) bytes) then λ n.
    (unpack_columns (suc column) ims (drop (column_size im) bytes) then λ ns. done (n ∷ ns))

-- a body under the images of a contents: 11 for a body of another length
unfoldable pub unpack_body : List Image → List ℕ → Answer (List Number)
unpack_body ims body = pick (eqb (length body) (body_size ims)) (unpack_columns 0 ims body) (refused 11 0)

-- the unpacking call
unfoldable pub unpacking : List ℕ → List ℕ → Answer (List Number)
unpacking contents body = read_alone contents then λ table. unpack_body table.images body

-- What the code's helpers ask and find.

-- the whole number that a whole number and digits behind it make, 7 where one of them is above 9
unfoldable pub read_on : ℕ → List ℕ → Answer ℕ
read_on start [] = done start
read_on start (d ∷ ds) = pick (ltb d 10) (read_on (start * 10 + d) ds) (refused 7 0)

-- each case of the code's run of digits
abbrev pub run_meaning : Option ℕ → Answer ℕ
run_meaning (Some value) = done value
run_meaning None = refused 7 0
