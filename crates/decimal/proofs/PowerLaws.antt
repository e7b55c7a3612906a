-- Powers of ten.
-- Assumes nothing.
use Rattle.std.proofs.Common.{◌≡◌, ℕ, suc, ◌+◌, ◌-◌, ◌*◌, ◌^◌, ◌<◌, ◌≤◌, get_or, ap, ◌∙◌, le-mul_of_pos_right, mul_left_comm, arith, pow-add, le-ltb, lt-ltb}
use native.Mathlib.Nat.{one-le-pow, pow-succ', pow-le-pow_right}
use Rattle.decimal.specs.declared.powers.TheConstants.{POWERS}
use Rattle.decimal.specs.Digits.{precision, power_of_ten}
use Rattle.decimal.proofs.Table.{table_entry}

-- a power of ten is not zero
pub pow10_pos : (n : ℕ) → 0 < 10 ^ n
pow10_pos n = one-le-pow n 10 (omega arith)

-- the power of a sum is the product of the powers
pub pow10_add : (i j : ℕ) → 10 ^ (i + j) ≡ 10 ^ i * 10 ^ j
pow10_add i j = pow-add 10 i j

-- the next power is ten times the power
pub pow10_suc : (n : ℕ) → 10 ^ suc n ≡ 10 * 10 ^ n
pow10_suc n = pow-succ' 10 n

-- the larger exponent has the larger power
pub pow10_mono : {i j : ℕ} → i ≤ j → 10 ^ i ≤ 10 ^ j
pow10_mono h = pow-le-pow_right (omega arith) h

-- ten in the exponent is ten in front
pub times_ten : (k n : ℕ) → k * 10 ^ suc n ≡ 10 * (k * 10 ^ n)
times_ten k n = ap (λ (p : ℕ). k * p) (pow10_suc n) ∙ mul_left_comm k 10 (10 ^ n)

-- a product with a power of ten is no smaller
pub times_power : (k n : ℕ) → k ≤ k * 10 ^ n
times_power k n = le-mul_of_pos_right k (pow10_pos n)

-- the table's power of an exponent is that power of ten
pub power_listed : (e : ℕ) → e < 20 → get_or POWERS e 0 ≡ 10 ^ e
power_listed e h = table_entry (λ (k : ℕ). 10 ^ k) 20 e h

-- the power of an exponent below 20 is a power of ten
pub power_small : (e : ℕ) → e < 20 → power_of_ten e ≡ 10 ^ e
unfolding power_of_ten
power_small e h = rw (lt-ltb e 20 h)

-- so is that of the count of digits that are left of a mantissa's
pub power_left : (count : ℕ) {r : ℕ} → r ≡ power_of_ten (precision - count) → r ≡ 10 ^ (precision - count)
power_left count e = e ∙ power_small (precision - count) (omega arith)

-- that of a larger one is 0
pub power_large : (e : ℕ) → 20 ≤ e → power_of_ten e ≡ 0
unfolding power_of_ten
power_large e h = rw (le-ltb e 20 h)
