-- What truncation cuts off some numbers, computed from the rules.
use Rattle.std.specs.Prelude.{◌≡◌, ℕ, ◌+◌, ◌-◌, ◌*◌, ◌^◌, Bool, true, false, List, ◌∷◌, ◌++◌, refl}
use Rattle.decimal.specs.declared.remainder.Remainder.{Remainder}
use Rattle.decimal.specs.Answer.{Answer, done, refused, ◌then◌}
use Rattle.decimal.specs.Number.{exponent_limit, scale, normal, magnitude, check_number, shifted_number, scaled_number}
use Rattle.decimal.specs.Digits.{precision, leading_zeros}
use Rattle.decimal.specs.Image.{plus_byte, point_byte, times, next_state, run_state}
use Rattle.decimal.specs.Image.{integers_from, fractions_from, leading_sign, check_image, scanned_image, read_image}
use Rattle.decimal.specs.Truncation.{whole_of, exceeds, exponent_outside, stored_exponent, truncated_to, limited, truncation}
use Rattle.decimal.specs.Remainder.{zero_remainder, cut_power, cut_off, remainder}
use Rattle.decimal.specs.Known.{hashes#, ups↑}

-- r, and the power up − down − 12
pub cut : ℕ → ℕ → ℕ → Answer Remainder
cut whole up down = done (record { whole = whole; power = scale + up - (down + (precision - 1)) })

-- what is cut off the number whole × 10^up / 10^down, negative or not, under the image of some bytes
pub off : List ℕ → Bool → ℕ → ℕ → ℕ → Answer Remainder
off bytes negative whole up down =
    read_image 0 bytes then λ im. (scaled_number 0 negative whole up down then λ n. remainder 0 im n)

-- the rows, one field each
pub record KnownRemainders : Type 0 where
  -- fixed point, all digits dropped: 0.00001 under ##, r = m
  pub all_dropped : off (hashes# 2) false 1 0 5 ≡ cut (10 ^ (precision - 1)) 0 5
  -- none dropped: r = 0 with its power
  pub none_dropped : off (hashes# 3 ++ (point_byte ∷ hashes# 3)) false 12195 0 3 ≡ cut 0 1 0
  -- some dropped: 12.195 under ###, 0.195 is cut off
  pub some_dropped : off (hashes# 3) false 12195 0 3 ≡ cut (195 * 10 ^ (precision - 5)) 1 0
  -- exponential with 1 and with 13 digits
  pub one_digit_lem : off (hashes# 1 ++ ups↑) false 12195 0 3 ≡ cut (2195 * 10 ^ (precision - 5)) 1 0
  pub all_digits : off (hashes# precision ++ ups↑) false (10 ^ precision - 1) 0 0 ≡ cut 0 (precision - 1) 0
  -- 10^−99 under ##: r = 10^12, power −111; the largest number under #↑↑↑↑: power 87
  pub lowest : off (hashes# 2) false 1 0 exponent_limit ≡ done (record { whole = 10 ^ (precision - 1); power = 0 })
  pub highest :
      off (hashes# 1 ++ ups↑) false (10 ^ precision - 1) (exponent_limit - (precision - 1)) 0 ≡ cut (10 ^ (precision - 1) - 1) exponent_limit 0
  -- the number zero: r = 0 and power 0
  pub of_zero : off (hashes# 2) false 0 0 0 ≡ done zero_remainder
  -- −0.3 under +#, cut to zero, and under #: the sign plays no part
  pub below_zero : off (plus_byte ∷ hashes# 1) true 3 0 1 ≡ cut (3 * 10 ^ (precision - 1)) 0 1
  pub without_sign : off (hashes# 1) true 3 0 1 ≡ cut (3 * 10 ^ (precision - 1)) 0 1
  -- 100 under ##: refused 4; 10^−99 under ##↑↑↑↑: refused 5
  pub too_large : off (hashes# 2) false 1 2 0 ≡ refused 4 0
  pub too_small : off (hashes# 2 ++ ups↑) false 1 0 exponent_limit ≡ refused 5 0

-- all of them hold
pub known_remainders : KnownRemainders
unfolding cut off hashes# ups↑ times ◌then◌ normal magnitude check_number shifted_number scaled_number leading_zeros next_state run_state integers_from fractions_from
    leading_sign check_image scanned_image read_image whole_of exceeds exponent_outside stored_exponent truncated_to limited truncation cut_power cut_off
    remainder
known_remainders =
    record {
      all_dropped = refl;
      none_dropped = refl;
      some_dropped = refl;
      one_digit_lem = refl;
      all_digits = refl;
      lowest = refl;
      highest = refl;
      of_zero = refl;
      below_zero = refl;
      without_sign = refl;
      too_large = refl;
      too_small = refl;
    }
