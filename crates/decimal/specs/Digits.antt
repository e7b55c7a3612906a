-- Decimal digits of whole numbers, and the order of lists of bytes.
use Rattle.std.specs.Prelude.{◌≡◌, ℕ, zero, suc, ◌+◌, ◌*◌, ◌/◌, ◌%◌, ◌^◌, ◌<◌, ◌≤◌, Bool, true, false, ◌⊎◌, List, [], ◌∷◌, length, ◌==◌, nat_lt}
use Rattle.decimal.specs.Answer.{pick}
use Rattle.decimal.specs.declared.digits.Taken.{Taken}

-- the digit count of a mantissa: document 01's 13
abbrev pub precision : ℕ
precision = 13

-- ten to the power of e where a machine word of 64 bits holds that, which is so below 20; else 0
unfoldable pub power_of_ten : ℕ → ℕ
power_of_ten e = pick (nat_lt e 20) (10 ^ e) 0

-- the last n decimal digits of k, the first digit first
unfoldable pub digits_of : ℕ → ℕ → List ℕ
digits_of zero k = []
digits_of (suc n) k = k / 10 ^ n % 10 ∷ digits_of n k

-- how many subtractions of a power of ten may be made for a digit: document 02's nine
abbrev pub subtraction_limit : ℕ
subtraction_limit = 9

-- the multiples of a power of ten that are subtracted
pub data Multiple : ℕ → Type 0 where
  one_power : Multiple 1
  two_powers : Multiple 2
  four_powers : Multiple 4
  eight_powers : Multiple 8

-- subtractions of multiples of a power from a whole number, one after the other: how many were made, how many powers they took off it, and
-- what they left of it; a multiple that is larger than what is left is not taken off, and is a subtraction made too
pub data Subtractions (power whole : ℕ) : ℕ → ℕ → ℕ → Type 0 where
  no_subtraction : Subtractions power whole 0 0 whole
  taken_off :
      {count powers rest times after : ℕ}
      → Subtractions power whole count powers rest
      → Multiple times
      → after + times * power ≡ rest
      → Subtractions power whole (count + 1) (powers + times) after
  not_taken_off :
      {count powers rest times : ℕ}
      → Subtractions power whole count powers rest
      → Multiple times
      → rest < times * power
      → Subtractions power whole (count + 1) powers rest

-- a digit and what is left are held as one number: the digit is its last half byte, and what is left stands before that
abbrev pub digit_in : ℕ → ℕ
digit_in held = held % 16

abbrev pub rest_in : ℕ → ℕ
rest_in held = held / 16

-- one subtraction of a multiple of a power from what is left: where the multiple is no larger, it is taken off and added to the digit, else
-- both stay; either way one subtraction more was made
pub record Subtracts (power times : ℕ) (before after : Taken) : Type 0 where
  pub counted : after.subtractions ≡ before.subtractions + 1
  pub result :
      ((rest_in after.held + times * power ≡ rest_in before.held) × (digit_in after.held ≡ digit_in before.held + times))
      ⊎ ((rest_in before.held < times * power) × (after.held ≡ before.held))

-- the first digit taken off a whole number (document 02, (iv)): by subtractions, of which at most nine were made; the digit is how many powers
-- they took off, at most nine too; the digit times the power, and the rest, are the whole number; the rest is below the power
pub record TakesDigit (power whole : ℕ) (taken : Taken) : Type 0 where
  pub made : Subtractions power whole taken.subtractions (digit_in taken.held) (rest_in taken.held)
  pub few : taken.subtractions ≤ subtraction_limit
  pub sum : digit_in taken.held * power + rest_in taken.held ≡ whole
  pub below : rest_in taken.held < power
  pub small : digit_in taken.held ≤ subtraction_limit

-- the whole number that digits stand for
unfoldable pub value_of : List ℕ → ℕ
value_of [] = 0
value_of (d ∷ ds) = d * 10 ^ length ds + value_of ds

-- half bytes as one number, four bits each, the first one highest
unfoldable pub packed_of : List ℕ → ℕ
packed_of [] = 0
packed_of (h ∷ hs) = h * 2 ^ (4 * length hs) + packed_of hs

-- the last n half bytes of a number, the first one first
unfoldable pub halves_in : ℕ → ℕ → List ℕ
halves_in zero k = []
halves_in (suc n) k = k / 2 ^ (4 * n) % 2 ^ 4 ∷ halves_in n k

-- each element is a half byte
unfoldable pub Halves : List ℕ → Type 0
Halves [] = Unit {0}
Halves (h ∷ hs) = (h < 2 ^ 4) × Halves hs

-- n zeros
unfoldable pub zeros : ℕ → List ℕ
zeros zero = []
zeros (suc n) = 0 ∷ zeros n

-- the count of zeros that stand before k where it is written with n digits
unfoldable pub leading_zeros : ℕ → ℕ → ℕ
leading_zeros zero k = 0
leading_zeros (suc n) k = pick (nat_lt k (10 ^ n)) (suc (leading_zeros n k)) 0

-- each element is a decimal digit
unfoldable pub Digits : List ℕ → Type 0
Digits [] = Unit {0}
Digits (d ∷ ds) = (d < 10) × Digits ds

-- whether one list of bytes comes before another: it has the smaller byte where they first differ (or ends where the other goes on)
unfoldable pub comes_before : List ℕ → List ℕ → Bool
comes_before [] [] = false
comes_before [] (b ∷ ys) = true
comes_before (a ∷ xs) [] = false
comes_before (a ∷ xs) (b ∷ ys) = pick (a == b) (comes_before xs ys) (nat_lt a b)
