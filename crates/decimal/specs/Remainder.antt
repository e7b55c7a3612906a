-- Document 02, (ii): what truncation cut off. "A whole number r below 10^13 with the power e − 12, so that truncated magnitude plus
-- r × 10^(e − 12) is the magnitude, as whole numbers after scaling. Zero gives r = 0 and power 0."
-- The magnitude is what is cut: no sign plays a part in this, neither the number's nor the image's.
-- The power is held as power + scale, as an exponent e is held as e + exponentLimit: the least power, −99 − 12, is held as 0.
use Rattle.std.specs.Prelude.{◌≡◌, ℕ, ◌+◌, ◌-◌, ◌*◌, ◌/◌, ◌^◌, ◌<◌, ◌↔◌, ℤ, pos, ◌-ℤ◌, ◌==◌, ◌≢◌}
use Rattle.decimal.specs.declared.number.Number.{Number}
use Rattle.decimal.specs.declared.image.Image.{Image}
use Rattle.decimal.specs.declared.remainder.Remainder.{Remainder}
use Rattle.decimal.specs.Answer.{Answer, done, refused, ◌then◌, pick}
use Rattle.decimal.specs.Digits.{precision}
use Rattle.decimal.specs.Number.{exponent_limit, magnitude, exponent_of, scale, unit}
use Rattle.decimal.specs.Truncation.{Truncated, truncation, truncated_number}

-- document 02's power of a remainder
abbrev pub power_of : Remainder → ℤ
power_of r = pos r.power -ℤ pos scale

-- the remainder of the number zero: r = 0 and power 0
abbrev pub zero_remainder : Remainder
zero_remainder = record { whole = 0; power = scale }

-- The sentence. After scaling, each of its three magnitudes is a whole number of units of 10^−scale / 10^(99 + f).

-- so many of these units make 10^−scale, the unit of magnitudes
abbrev pub finer : Image → ℕ
finer im = 10 ^ (exponent_limit + im.fraction)

-- the number's magnitude
abbrev pub magnitude_units : Image → Number → ℕ
magnitude_units im n = magnitude n * finer im

-- the truncated magnitude, k / 10^f × 10^x
abbrev pub truncated_units : Truncated → ℕ
truncated_units t = t.whole * 10 ^ t.x * unit

-- r × 10^power
abbrev pub remainder_units : Image → Remainder → ℕ
remainder_units im r = r.whole * 10 ^ r.power * finer im

-- truncated magnitude plus r × 10^power is the magnitude
abbrev pub Sums : Image → Number → Truncated → Remainder → Type 0
Sums im n t r = truncated_units t + remainder_units im r ≡ magnitude_units im n

-- what a truncation of a number leaves
pub record IsRemainder (im : Image) (n : Number) (t : Truncated) (r : Remainder) : Type 0 where
  -- r is below 10^13
  pub below : r.whole < 10 ^ precision
  -- the power is e − 12, also where r is 0
  pub power : (n.mantissa ≢ 0) → power_of r ≡ exponent_of n -ℤ pos (precision - 1)
  -- the number zero gives r = 0 and power 0
  pub zero : n.mantissa ≡ 0 → (r.whole ≡ 0) × (power_of r ≡ pos 0)
  -- truncated magnitude plus r × 10^power is the magnitude
  pub sum : Sums im n t r

-- The same as a function: the sentence solved for r.

-- the power, held
unfoldable pub cut_power : Number → ℕ
cut_power n = pick (n.mantissa == 0) scale n.exponent

-- what the magnitude has above the truncated magnitude, counted in 10^power
unfoldable pub cut_off : Image → Number → Truncated → Remainder
cut_off im n t =
    record {
      whole = (magnitude_units im n - truncated_units t) / (10 ^ cut_power n * finer im);
      power = cut_power n;
    }

-- what truncation under an image cuts off a number; refused as truncation is
unfoldable pub remainder : ℕ → Image → Number → Answer Remainder
remainder place im n = truncation place im n then λ t. done (cut_off im n t)

-- Exactly when there is which remainder: what is proved of the definitions above.
pub record RemainderExactly (place : ℕ) (im : Image) (n : Number) : Type 0 where
  -- there is a remainder exactly where there is a truncation, and it is what that truncation leaves
  pub given :
      (r : Remainder) → (remainder place im n ≡ done r) ↔ ((t : Truncated) × (truncation place im n ≡ done t) × IsRemainder im n t r)
  -- that of the number zero is r = 0 with the power 0
  pub of_zero : n.mantissa ≡ 0 → {r : Remainder} → remainder place im n ≡ done r → r ≡ zero_remainder
  -- it is refused exactly as truncation is
  pub refuses :
      (number at_place : ℕ) → (remainder place im n ≡ refused number at_place) ↔ (truncation place im n ≡ refused number at_place)
  -- no other r with its power fulfils the sentence
  pub only :
      {t : Truncated} {r : Remainder}
      → truncation place im n ≡ done t
      → remainder place im n ≡ done r
      → (s : Remainder)
      → power_of s ≡ power_of r
      → Sums im n t s
      → s ≡ r
  -- with the truncation as a number: its magnitude plus r × 10^power is the magnitude
  pub number_sum :
      {m : Number} {r : Remainder}
      → truncated_number place im n ≡ done m
      → remainder place im n ≡ done r
      → magnitude m + r.whole * 10 ^ r.power ≡ magnitude n
