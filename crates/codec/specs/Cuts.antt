-- A number cut to an image, as the code holds it, and a column's parts.
use Rattle.std.specs.Prelude.{ℕ, ◌≡◌, ◌+◌, ◌*◌, Bool, true, ◌&&◌, not, leb}
use Rattle.decimal.specs.declared.image.Image.{Image}
use Rattle.decimal.specs.Digits.{value_of, packed_of, halves_in}
use Rattle.decimal.specs.Number.{exponent_limit}
use Rattle.codec.specs.Unpacking.{all_digits}

-- n digits held as half bytes
pub record DigitsOf (n digits : ℕ) : Type 0 where
  pub same : digits ≡ packed_of (halves_in n digits)
  pub are : all_digits (halves_in n digits) ≡ true

-- the last n half bytes as a whole number
abbrev pub whole_in : ℕ → ℕ → ℕ
whole_in n digits = value_of (halves_in n digits)

-- an exponential number's e is outside its limits, where its x is held as x + exponentLimit
abbrev pub outside : Image → ℕ → Bool
outside im x = not (leb 1 (x + im.integer) && leb (x + im.integer) (2 * exponent_limit + 1))
