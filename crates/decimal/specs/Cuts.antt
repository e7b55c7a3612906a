-- A number cut to an image, as the code holds it.
use Rattle.std.specs.Prelude.{ℕ, ◌*◌, ◌^◌, ◌<◌, ◌≤◌, ◌≡◌, Bool}
use Rattle.decimal.specs.declared.image.Image.{Image}
use Rattle.decimal.specs.Answer.{done, ◌then◌}
use Rattle.decimal.specs.Digits.{precision, digits_of, value_of, packed_of, halves_in}
use Rattle.decimal.specs.Number.{exponent_limit}
use Rattle.decimal.specs.Image.{hashes}
use Rattle.decimal.specs.Truncation.{Truncated, truncation, number_of}

-- what a sign, digits as half bytes and x + exponentLimit say
abbrev pub cut_of : Bool → ℕ → ℕ → Truncated
cut_of negative halves x = record { negative = negative; whole = value_of (halves_in precision halves); x = x }

-- a sign, digits as half bytes and x are what some number is cut to under an image
pub record IsCut (im : Image) (negative : Bool) (halves x : ℕ) : Type 0 where
  -- the image has 1 to 13 # signs
  pub nonempty : 0 < hashes im
  pub size : hashes im ≤ precision
  -- the digits are no more than those
  pub below : value_of (halves_in precision halves) < 10 ^ hashes im
  -- x is from −99 to 99
  pub range : x ≤ 2 * exponent_limit
  -- the number that the three parts stand for is cut to them again
  pub back : (number_of 0 im (cut_of negative halves x) then λ n. truncation 0 im n) ≡ done (cut_of negative halves x)
  -- each half byte is a digit, and those before the image's digits are 0
  pub digits : halves ≡ packed_of (digits_of precision (value_of (halves_in precision halves)))
