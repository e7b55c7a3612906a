-- Whole numbers in decimal.
use Rattle.std.specs.Prelude.{ℕ, List, [], ◌∷◌, eqb}
use Rattle.decimal.specs.Answer.{pick}
use Rattle.decimal.specs.Digits.{digits_of}
use Rattle.codec.specs.Alpha.{digit_bytes}

-- how many digits the largest whole number that the code holds has: it is below 2^64
abbrev pub whole_digits : ℕ
whole_digits = 20

-- digits without the zeros that they begin with, but never without the last digit
unfoldable pub without_zeros : List ℕ → List ℕ
without_zeros [] = []
without_zeros (d ∷ []) = d ∷ []
without_zeros (d ∷ (e ∷ ds)) = pick (eqb d 0) (without_zeros (e ∷ ds)) (d ∷ (e ∷ ds))

-- a whole number in decimal
unfoldable pub decimal_text : ℕ → List ℕ
decimal_text n = digit_bytes (without_zeros (digits_of whole_digits n))
