-- Laws of the order of whole numbers, of values and of numbers, case by case.
-- Assumes nothing.
use Rattle.std.proofs.Common.{◌≡◌, ℕ, ◌-◌, ◌*◌, ◌^◌, ◌<◌, Bool, true, false, ◌⊎◌, sym, refl, ap, ◌∙◌, inl, inr, ⊎_elim, mul-lt-mul_of_pos_right, arith}
use Rattle.std.specs.Ordering.{ordering_then}
use Rattle.std.specs.Cmp.{nat_cmp_is}
use Rattle.decimal.specs.declared.number.Number.{Number}
use Rattle.std.specs.declared.cmp.Ordering.{Ordering}
use Rattle.std.specs.declared.cmp.Ordering.TheVariants.{Less, Equal, Greater}
use Rattle.decimal.specs.Answer.{done, refused, ◌then◌}
use Rattle.decimal.specs.Digits.{precision}
use Rattle.decimal.specs.Number.{normal, magnitude, check_number}
use Rattle.decimal.specs.Comparison.{whole_order, signed_order, value_order, comparison}
use Rattle.decimal.proofs.PowerLaws.{pow10_pos}
use Rattle.decimal.proofs.DigitLaws.{le_or_lt}
use Rattle.decimal.proofs.NumberLaws.{normal_range, normal_is_zero, check_normal, check_abnormal}
use Rattle.decimal.proofs.MagnitudeLaws.{exponent_decides, zero_magnitude, range_positive}

-- Whole numbers.

-- of two whole numbers one is less, or they are equal
pub three_ways : (a b : ℕ) → (a < b) ⊎ ((a ≡ b) ⊎ (b < a))
three_ways a b = ⊎_elim (λ h. ⊎_elim (λ g. inr (inl (omega arith))) inl (le_or_lt b a)) (λ h. inr (inr h)) (le_or_lt a b)

module _ (a b : ℕ) where
  pub whole_less : a < b → whole_order a b ≡ Less
  unfolding whole_order
  whole_less h = sym (nat_cmp_is a b Less h)

  pub whole_greater : b < a → whole_order a b ≡ Greater
  unfolding whole_order
  whole_greater h = sym (nat_cmp_is a b Greater h)

  pub whole_equal : a ≡ b → whole_order a b ≡ Equal
  unfolding whole_order
  whole_equal h = sym (nat_cmp_is a b Equal h)

-- a positive factor does not change the order
pub whole_scaled : (a b k : ℕ) → 0 < k → whole_order (a * k) (b * k) ≡ whole_order a b
whole_scaled a b k h =
    ⊎_elim
    (λ l. whole_less (a * k) (b * k) (mul-lt-mul_of_pos_right l h) ∙ sym (whole_less a b l))
    (⊎_elim
    (λ e. whole_equal (a * k) (b * k) (ap (λ (n : ℕ). n * k) e) ∙ sym (whole_equal a b e))
    (λ g. whole_greater (a * k) (b * k) (mul-lt-mul_of_pos_right g h) ∙ sym (whole_greater a b g)))
    (three_ways a b)

-- Numbers.

module _ (a b : Number) where
  -- the signs decide where they differ
  pub minus_first : a.negative ≡ true → b.negative ≡ false → value_order a b ≡ Less
  unfolding value_order signed_order
  minus_first h g = rw (h, g)

  pub minus_second : a.negative ≡ false → b.negative ≡ true → value_order a b ≡ Greater
  unfolding value_order signed_order
  minus_second h g = rw (h, g)

  -- else the magnitudes, of two minus numbers the other way round
  pub minus_both : a.negative ≡ true → b.negative ≡ true → value_order a b ≡ whole_order (magnitude b) (magnitude a)
  unfolding value_order signed_order
  minus_both h g = rw (h, g)

  pub minus_none : a.negative ≡ false → b.negative ≡ false → value_order a b ≡ whole_order (magnitude a) (magnitude b)
  unfolding value_order signed_order
  minus_none h g = rw (h, g)

  -- two numbers in normal form have an order
  pub compared : normal a ≡ true → normal b ≡ true → comparison a b ≡ done (value_order a b)
  unfolding comparison ◌then◌
  compared h g = rw (check_normal a 0 h, check_normal b 1 g)

  -- any others are refused, as their checks are
  pub first_refused : {number place : ℕ} → check_number 0 a ≡ refused number place → comparison a b ≡ refused number place
  unfolding comparison ◌then◌
  first_refused h = rw h

  pub second_refused : {number place : ℕ} → normal a ≡ true → check_number 1 b ≡ refused number place → comparison a b ≡ refused number place
  unfolding comparison ◌then◌
  second_refused h g = rw (check_normal a 0 h, g)

  first_abnormal : normal a ≡ false → comparison a b ≡ refused 3 0
  first_abnormal h = first_refused (check_abnormal a 0 h)

  second_abnormal : normal a ≡ true → normal b ≡ false → comparison a b ≡ refused 3 1
  second_abnormal h g = second_refused h (check_abnormal b 1 g)

-- what has an order is in normal form
pub compared_back : (a b : Number) {o : Ordering} → comparison a b ≡ done o → (normal a ≡ true) × (normal b ≡ true) × (value_order a b ≡ o)
compared_back a b {o} e = first (normal a) refl
  where
    second : normal a ≡ true → (t : Bool) → normal b ≡ t → (normal a ≡ true) × (normal b ≡ true) × (value_order a b ≡ o)
    second h true g = let c = compared a b h g in (h, g, (cc))
    second h false g = let c = second_abnormal a b h g in ((cc), (cc), (cc))

    first : (s : Bool) → normal a ≡ s → (normal a ≡ true) × (normal b ≡ true) × (value_order a b ≡ o)
    first true h = second h (normal b) refl
    first false h = let c = first_abnormal a b h in ((cc), (cc), (cc))

-- the magnitude of a number whose mantissa is zero
pub none_magnitude : (n : Number) → normal n ≡ true → n.mantissa ≡ 0 → magnitude n ≡ 0
none_magnitude n h z = ap magnitude (normal_is_zero n h z) ∙ zero_magnitude

-- the magnitude of any other is not zero
pub some_magnitude : (n : Number) → normal n ≡ true → (n.mantissa ≡ 0 → ⊥) → 0 < magnitude n
some_magnitude n h z = range_positive n (normal_range n h z)

module _ (a b : Number) (h : normal a ≡ true) (g : normal b ≡ true) where
  -- the order of zero and a number is that of zero and its mantissa
  pub zero_magnitudes : a.mantissa ≡ 0 → whole_order (magnitude a) (magnitude b) ≡ whole_order 0 b.mantissa
  zero_magnitudes z =
      ⊎_elim
      (λ l.
      whole_less (magnitude a) (magnitude b) (omega (arith, none_magnitude a h z, some_magnitude b g (omega arith)))
      ∙ sym (whole_less 0 b.mantissa l))
      (⊎_elim
      (λ e.
      whole_equal (magnitude a) (magnitude b) (omega (arith, none_magnitude a h z, none_magnitude b g (omega arith)))
      ∙ sym (whole_equal 0 b.mantissa e))
      (λ l. absurd (omega arith)))
      (three_ways 0 b.mantissa)

  -- a nonzero number and zero
  pub some_and_zero : (a.mantissa ≡ 0 → ⊥) → b.mantissa ≡ 0 → whole_order (magnitude a) (magnitude b) ≡ Greater
  some_and_zero s z = whole_greater (magnitude a) (magnitude b) (omega (arith, some_magnitude a h s, none_magnitude b g z))

  -- so where one is zero the mantissas decide
  pub zero_decides :
      (a.mantissa ≡ 0) ⊎ ((a.mantissa ≡ 0 → ⊥) × (b.mantissa ≡ 0)) → whole_order a.mantissa b.mantissa ≡ whole_order (magnitude a) (magnitude b)
  zero_decides =
      ⊎_elim
      (λ z. ap (λ (m : ℕ). whole_order m b.mantissa) z ∙ sym (zero_magnitudes z))
      (λ w. whole_greater a.mantissa b.mantissa (omega arith) ∙ sym (some_and_zero w.0 w.1))

  module _ (s : a.mantissa ≡ 0 → ⊥) (t : b.mantissa ≡ 0 → ⊥) where
    -- the larger exponent has the larger magnitude
    pub exponent_less : a.exponent < b.exponent → whole_order (magnitude a) (magnitude b) ≡ Less
    unfolding magnitude
    exponent_less l =
        whole_less (magnitude a) (magnitude b)
        (exponent_decides (precision - 1) a.mantissa a.exponent b.mantissa b.exponent (normal_range a h s).high (normal_range b g t).low l)

    pub exponent_greater : b.exponent < a.exponent → whole_order (magnitude a) (magnitude b) ≡ Greater
    unfolding magnitude
    exponent_greater l =
        whole_greater (magnitude a) (magnitude b)
        (exponent_decides (precision - 1) b.mantissa b.exponent a.mantissa a.exponent (normal_range b g t).high (normal_range a h s).low l)

  -- of equal exponents the mantissas decide
  pub exponent_equal : a.exponent ≡ b.exponent → whole_order (magnitude a) (magnitude b) ≡ whole_order a.mantissa b.mantissa
  unfolding magnitude
  exponent_equal e =
      ap (λ (k : ℕ). whole_order (a.mantissa * 10 ^ k) (b.mantissa * 10 ^ b.exponent)) e
      ∙ whole_scaled a.mantissa b.mantissa (10 ^ b.exponent) (pow10_pos b.exponent)

  -- so the exponents decide, and of equal ones the mantissas
  pub exponents_first :
      (a.mantissa ≡ 0 → ⊥) → (b.mantissa ≡ 0 → ⊥) → ordering_then (whole_order a.exponent b.exponent) (whole_order a.mantissa b.mantissa) ≡ whole_order (magnitude a) (magnitude b)
  exponents_first s t =
      ⊎_elim
      (λ l. rw (whole_less a.exponent b.exponent l) (sym (exponent_less s t l)))
      (⊎_elim
      (λ e. rw (whole_equal a.exponent b.exponent e) (sym (exponent_equal e)))
      (λ l. rw (whole_greater a.exponent b.exponent l) (sym (exponent_greater s t l))))
      (three_ways a.exponent b.exponent)
