-- The whole part of m × 10^e × 10^f / 10^s, by digit positions: how fixed-point truncation and "exceeds" follow from exponents.
-- Stated over the width (m has suc p digits) and the exponent limit l; the unit is 10^(l + p). Assumes nothing.
use Rattle.std.proofs.Common.{◌≡◌, ℕ, suc, ◌+◌, ◌-◌, ◌*◌, ◌/◌, ◌%◌, ◌^◌, ◌<◌, ◌≤◌, sym, ap, ◌∙◌, ap₂, lt_of_lt_of_le, mul-le-mul_right, mul_assoc, div-lt_iff_lt-mul, add-mul, mul-le-mul, mul-lt-mul_of_pos_right, div-add-mod', le-div_iff_mul-le, div-mul-le_self, mul-div_cancel, arith}
use native.Mathlib.Nat.{mul-div-mul_right, div-eq_of_lt}
use Rattle.decimal.proofs.PowerLaws.{pow10_pos, pow10_add, pow10_mono}

-- a product of three powers is the power of the sum
pub pow10_three : (a b c : ℕ) → 10 ^ a * 10 ^ b * 10 ^ c ≡ 10 ^ (a + b + c)
pow10_three a b c = sym (pow10_add (a + b) c ∙ ap (λ (q : ℕ). q * 10 ^ c) (pow10_add a b))

module _ (p l m e f : ℕ) where
  -- from the exponent l + i on, the whole part has more than i + f digits
  pub scaled_reaches : (i : ℕ) → 10 ^ p ≤ m → l + i ≤ e → 10 ^ (i + f) ≤ m * 10 ^ e * 10 ^ f / 10 ^ (l + p)
  scaled_reaches i low h =
      let three : 10 ^ (i + f) * 10 ^ (l + p) ≡ 10 ^ p * 10 ^ (l + i) * 10 ^ f =
      sym (pow10_add (i + f) (l + p)) ∙ ap (λ (q : ℕ). 10 ^ q) (omega arith) ∙ sym (pow10_three p (l + i) f) in
      (le-div_iff_mul-le (pow10_pos (l + p))).1 (rw three (mul-le-mul_right (10 ^ f) (mul-le-mul low (pow10_mono h))))

  -- a mantissa of suc p digits is below the power that the exponents reach
  scaled_below : (s : ℕ) → m < 10 ^ suc p → suc p + e + f ≤ s → m * 10 ^ e * 10 ^ f < 10 ^ s
  scaled_below s high h =
      lt_of_lt_of_le
      (mul-lt-mul_of_pos_right (mul-lt-mul_of_pos_right high (pow10_pos e)) (pow10_pos f))
      (rw (pow10_three (suc p) e f) (pow10_mono h))

  -- below the exponent l + i, the whole part has at most i + f digits
  pub scaled_within : (i : ℕ) → m < 10 ^ suc p → e < l + i → m * 10 ^ e * 10 ^ f / 10 ^ (l + p) < 10 ^ (i + f)
  scaled_within i high h =
      (div-lt_iff_lt-mul (pow10_pos (l + p))).1
      (rw (← pow10_add (i + f) (l + p)) (scaled_below (i + f + (l + p)) high (omega arith)))

  -- where no digit reaches the last place, the whole part is zero
  pub scaled_vanishes : m < 10 ^ suc p → e + f + 1 ≤ l → m * 10 ^ e * 10 ^ f / 10 ^ (l + p) ≡ 0
  scaled_vanishes high h = div-eq_of_lt (scaled_below (l + p) high (omega arith))

  -- else the whole part is the mantissa without its last r digits
  pub scaled_drops : (r s : ℕ) → r + (e + f) ≡ s → m * 10 ^ e * 10 ^ f / 10 ^ s ≡ m / 10 ^ r
  scaled_drops r s h =
      let top : m * 10 ^ e * 10 ^ f ≡ m * 10 ^ (e + f) = mul_assoc m (10 ^ e) (10 ^ f) ∙ ap (λ (q : ℕ). m * q) (sym (pow10_add e f)) in
      let bottom : 10 ^ s ≡ 10 ^ r * 10 ^ (e + f) = ap (λ (q : ℕ). 10 ^ q) (sym h) ∙ pow10_add r (e + f) in
      ap₂ (λ (a b : ℕ). a / b) top bottom ∙ mul-div-mul_right m (10 ^ r) (pow10_pos (e + f))

module _ (p m r : ℕ) where
  -- a mantissa of suc p digits whose last r, at most p, become zero still has suc p digits
  pub cut_low : 10 ^ p ≤ m → r ≤ p → 10 ^ p ≤ m / 10 ^ r * 10 ^ r
  cut_low low h =
      let parts : 10 ^ p ≡ 10 ^ (p - r) * 10 ^ r = ap (λ (q : ℕ). 10 ^ q) (omega arith) ∙ pow10_add (p - r) r in
      rw parts (mul-le-mul_right (10 ^ r) ((le-div_iff_mul-le (pow10_pos r)).1 (rw parts at low)))

  -- and does not grow
  pub cut_high : m / 10 ^ r * 10 ^ r ≤ m
  cut_high = div-mul-le_self m (10 ^ r)

  -- cutting twice is cutting once
  pub cut_again : m / 10 ^ r * 10 ^ r / 10 ^ r ≡ m / 10 ^ r
  cut_again = mul-div_cancel (m / 10 ^ r) (pow10_pos r)

  -- the remainder taken away is the same cut
  pub cut_by_remainder : m - m % 10 ^ r ≡ m / 10 ^ r * 10 ^ r
  cut_by_remainder = omega (arith, div-add-mod' m (10 ^ r))

-- what a sum has above its first part, counted in multiples
pub sum_counted : (a b c k : ℕ) → 0 < k → a + c * k ≡ b → (b - a) / k ≡ c
sum_counted a b c k some h =
    let rest : b - a ≡ c * k = omega arith in
    ap (λ (q : ℕ). q / k) rest ∙ mul-div_cancel c some

-- a number is its first digits with zeros and its last digits, also in other units
pub cut_sum : (m k p d : ℕ) → m / k * k * p * d + m % k * p * d ≡ m * p * d
cut_sum m k p d =
    sym (add-mul (m / k * k * p) (m % k * p) d)
    ∙ ap (λ (q : ℕ). q * d) (sym (add-mul (m / k * k) (m % k) p))
    ∙ ap (λ (q : ℕ). q * p * d) (div-add-mod' m k)
