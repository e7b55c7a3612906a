-- Document 01, Known values: the truncations and refusals that numbers and images give, computed from the rules.
use Rattle.std.specs.Prelude.{◌≡◌, ℕ, ◌+◌, ◌-◌, Bool, true, false, List, ◌∷◌, ◌++◌, refl}
use Rattle.decimal.specs.Answer.{Answer, done, refused, ◌then◌}
use Rattle.decimal.specs.Number.{exponent_limit, normal, magnitude, check_number, shifted_number, scaled_number}
use Rattle.decimal.specs.Digits.{leading_zeros}
use Rattle.decimal.specs.Image.{hash_byte, point_byte, plus_byte, minus_byte, up_byte, times, next_state, run_state}
use Rattle.decimal.specs.Image.{integers_from, fractions_from, leading_sign, check_image, scanned_image, read_image}
use Rattle.decimal.specs.Truncation.{whole_of, exceeds, exponent_outside, stored_exponent, Truncated, truncated_to, limited}
use Rattle.decimal.specs.Truncation.{truncation, packable, packed_truncation}

-- what is kept: the sign, the digits as a whole number, and x = up − down
pub kept : Bool → ℕ → ℕ → ℕ → Answer Truncated
kept negative whole up down = done (record { negative = negative; whole = whole; x = exponent_limit + up - down })

-- the number whole × 10^up / 10^down, negative or not, truncated under the image of some bytes
pub under : List ℕ → Bool → ℕ → ℕ → ℕ → Answer Truncated
under bytes negative whole up down =
    read_image 0 bytes then λ im. (scaled_number 0 negative whole up down then λ n. truncation 0 im n)

-- and truncated to be packed
pub packed_under : List ℕ → Bool → ℕ → ℕ → ℕ → Answer Truncated
packed_under bytes negative whole up down =
    read_image 0 bytes then λ im. (scaled_number 0 negative whole up down then λ n. packed_truncation 0 im n)

-- the parts of the images
unfoldable pub hashes# : ℕ → List ℕ
hashes# n = times n hash_byte

unfoldable pub ups↑ : List ℕ
ups↑ = times 4 up_byte

-- the rows, one field each
pub record KnownTruncations : Type 0 where
  -- 12.195 under ###: 012
  pub whole_part : under (hashes# 3) false 12195 0 3 ≡ kept false 12 0 0
  -- 24.39 under +##.##: +24.39
  pub signed : under (plus_byte ∷ (hashes# 2 ++ (point_byte ∷ hashes# 2))) false 2439 0 2 ≡ kept false 2439 0 0
  -- 12.195 under −#.##↑↑↑↑: 1.21E+01
  pub exponential :
      under (minus_byte ∷ (hashes# 1 ++ (point_byte ∷ (hashes# 2 ++ ups↑)))) false 12195 0 3 ≡ kept false 121 1 0
  -- 12.195 under ####.#####: 0012.19500
  pub wide : under (hashes# 4 ++ (point_byte ∷ hashes# 5)) false 12195 0 3 ≡ kept false 1219500 0 0
  -- −0.3 under +#: +0
  pub no_minus_zero : under (plus_byte ∷ hashes# 1) true 3 0 1 ≡ kept false 0 0 0
  -- 99.99 under ##: 99
  pub not_rounded : under (hashes# 2) false 9999 0 2 ≡ kept false 99 0 0
  -- 100 under ##: refused 4
  pub too_large : under (hashes# 2) false 1 2 0 ≡ refused 4 0
  -- 0.05 under +#.#↑↑↑↑: digits 50, x = −2
  pub small : packed_under (plus_byte ∷ (hashes# 1 ++ (point_byte ∷ (hashes# 1 ++ ups↑)))) false 5 0 2 ≡ kept false 50 0 2
  -- 0.05 under #.#↑↑↑↑: 5.0E-02, packing refused 5
  pub small_unsigned : under (hashes# 1 ++ (point_byte ∷ (hashes# 1 ++ ups↑))) false 5 0 2 ≡ kept false 50 0 2
  pub small_packed : packed_under (hashes# 1 ++ (point_byte ∷ (hashes# 1 ++ ups↑))) false 5 0 2 ≡ refused 5 0
  -- −12 under ##: 12
  pub magnitude_only : under (hashes# 2) true 12 0 0 ≡ kept false 12 0 0
  -- 1234 under ##: it exceeds, so a field spills
  pub spills : under (hashes# 2) false 1234 0 0 ≡ refused 4 0
  -- 0.5 and 1 under .##: .50, refused 4
  pub below_one : under (point_byte ∷ hashes# 2) false 5 0 1 ≡ kept false 50 0 0
  pub at_one : under (point_byte ∷ hashes# 2) false 1 0 0 ≡ refused 4 0
  -- 10^−99 under ##↑↑↑↑: refused 5
  pub smallest : under (hashes# 2 ++ ups↑) false 1 0 99 ≡ refused 5 0

-- all of them hold
pub known_truncations : KnownTruncations
unfolding kept under packed_under hashes# ups↑ times ◌then◌ normal magnitude check_number shifted_number scaled_number leading_zeros next_state run_state integers_from fractions_from
    leading_sign check_image scanned_image read_image whole_of exceeds exponent_outside stored_exponent truncated_to limited truncation packable
    packed_truncation
known_truncations =
    record {
      whole_part = refl;
      signed = refl;
      exponential = refl;
      wide = refl;
      no_minus_zero = refl;
      not_rounded = refl;
      too_large = refl;
      small = refl;
      small_unsigned = refl;
      small_packed = refl;
      magnitude_only = refl;
      spills = refl;
      below_one = refl;
      at_one = refl;
      smallest = refl;
    }
