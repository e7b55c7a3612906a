-- What the constructors of numbers give, computed from the rules.
use Rattle.std.specs.Prelude.{◌≡◌, ℕ, ◌+◌, ◌-◌, ◌*◌, ◌^◌, Bool, true, false, ℤ, pos, negsuc, refl}
use Rattle.decimal.specs.declared.number.Number.{Number}
use Rattle.decimal.specs.Answer.{Answer, done, refused}
use Rattle.decimal.specs.Digits.{precision, leading_zeros}
use Rattle.decimal.specs.Number.{exponent_limit, zero_number, largest_number, normal, check_number, parts_number, shifted_number, scaled_number, steps_number}

-- the number with the first digit d, zeros behind it, and e = up − down
pub one_digit : Bool → ℕ → ℕ → ℕ → Answer Number
one_digit negative d up down =
    done (record { negative = negative; mantissa = d * 10 ^ (precision - 1); exponent = exponent_limit + up - down })

-- the number of a sign, the first digit d with zeros behind it, and e, as element 7
pub parts : Bool → ℕ → ℤ → Answer Number
parts negative d e = parts_number 7 negative (d * 10 ^ (precision - 1)) e

-- the answers, one field each
pub record KnownNumbers : Type 0 where
  -- −5 × 10^−3, and the largest and the smallest e
  pub negative : parts true 5 (negsuc 2) ≡ one_digit true 5 0 3
  pub highest : parts false 1 (pos 99) ≡ one_digit false 1 99 0
  pub lowest : parts false 1 (negsuc 98) ≡ one_digit false 1 0 99
  -- e = 100, e = −100 and the two ends of the signed words: refused 3
  pub too_high : parts false 1 (pos 100) ≡ refused 3 7
  pub too_low : parts false 1 (negsuc 99) ≡ refused 3 7
  pub greatest_word : parts false 1 (pos (2 ^ 63 - 1)) ≡ refused 3 7
  pub least_word : parts false 1 (negsuc (2 ^ 63 - 1)) ≡ refused 3 7
  -- zero is plus with e = 0, and is refused otherwise
  pub zero : parts false 0 (pos 0) ≡ done zero_number
  pub minus_zero : parts true 0 (pos 0) ≡ refused 3 7
  pub power_of_zero : parts false 0 (pos 1) ≡ refused 3 7
  -- the largest magnitude; a mantissa above it, and one with a zero before it: refused 3
  pub largest : parts_number 7 false (10 ^ precision - 1) (pos 99) ≡ done largest_number
  pub too_long : parts_number 7 false (10 ^ precision) (pos 0) ≡ refused 3 7
  pub too_short : parts_number 7 false (10 ^ (precision - 1) - 1) (pos 0) ≡ refused 3 7
  -- zero scaled is plus, whatever the sign and the power
  pub scaled_zero : scaled_number 7 true 0 200 0 ≡ done zero_number
  -- 10^13 as a whole number: refused 3; as 1 × 10^13: the number
  pub scaled_long : scaled_number 7 true (10 ^ precision) 0 0 ≡ refused 3 7
  pub scaled_power : scaled_number 7 true 1 precision 0 ≡ one_digit true 1 precision 0
  -- 10^100 and 10^−100: refused 5
  pub scaled_high : scaled_number 7 false 1 100 0 ≡ refused 5 7
  pub scaled_low : scaled_number 7 false 1 0 100 ≡ refused 5 7
  -- 10^13 steps: refused 3; one less: the number
  pub steps_long : steps_number (10 ^ precision) ≡ refused 3 0
  pub steps_most :
      steps_number (10 ^ precision - 1)
      ≡ done (record { negative = false; mantissa = 10 ^ precision - 1; exponent = exponent_limit + (precision - 1) })

-- all of them hold
pub known_numbers : KnownNumbers
unfolding one_digit parts normal check_number parts_number shifted_number scaled_number leading_zeros
known_numbers =
    record {
      negative = refl;
      highest = refl;
      lowest = refl;
      too_high = refl;
      too_low = refl;
      greatest_word = refl;
      least_word = refl;
      zero = refl;
      minus_zero = refl;
      power_of_zero = refl;
      largest = refl;
      too_long = refl;
      too_short = refl;
      scaled_zero = refl;
      scaled_long = refl;
      scaled_power = refl;
      scaled_high = refl;
      scaled_low = refl;
      steps_long = refl;
      steps_most = refl;
    }
