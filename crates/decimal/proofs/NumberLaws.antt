-- Laws of normal form, of the number's constructors and of magnitudes.
use Rattle.std.proofs.Common.{◌≡◌, ℕ, ◌+◌, ◌-◌, ◌*◌, ◌^◌, ◌<◌, ◌≤◌, Bool, true, false, not, ◌&&◌, eqb, ltb, leb, ◌⊎◌, sym, refl, ap, ◌∙◌, inl, inr, ⊎_elim, mul_assoc, mul-lt-mul_of_pos_right, mul-le-mul_right, arith, ltb-true, le-ltb, lt-ltb, eq-eqb, ne_eqb, eqb-true, le-leb, leb-true}
use borrow.Author.Tests.{lt-leb, eqb-false, not-true}
use Rattle.decimal.specs.declared.number.Number.{Number}
use Rattle.decimal.specs.Answer.{done, refused}
use Rattle.decimal.specs.Digits.{precision, leading_zeros}
use Rattle.decimal.proofs.BoolLaws.{and_true}
use Rattle.decimal.proofs.PowerLaws.{pow10_pos, pow10_add, pow10_mono}
use Rattle.decimal.proofs.DigitLaws.{le_or_lt, leading_unique}
use Rattle.decimal.specs.Number.{exponent_limit, zero_number, largest_number, normal, check_number, shifted_number, scaled_number}

-- Normal form.

module _ (n : Number) where
  -- with a zero mantissa the sign is plus and the exponent 0
  pub normal_zero : n.mantissa ≡ 0 → normal n ≡ (not n.negative && eqb n.exponent exponent_limit)
  unfolding normal
  normal_zero h = rw (eq-eqb n.mantissa 0 h)

  -- a nonzero mantissa is within its bounds, and so is the exponent
  pub normal_nonzero :
      (n.mantissa ≡ 0 → ⊥)
      → normal n
      ≡ (leb (10 ^ (precision - 1)) n.mantissa && (ltb n.mantissa (10 ^ precision) && leb n.exponent (2 * exponent_limit)))
  unfolding normal
  normal_nonzero h = rw (ne_eqb n.mantissa 0 h)

  -- a number in normal form is its own check
  pub check_normal : (place : ℕ) → normal n ≡ true → check_number place n ≡ done n
  unfolding check_number
  check_normal place h = rw h

  -- any other number is refused with 3
  pub check_abnormal : (place : ℕ) → normal n ≡ false → check_number place n ≡ refused 3 place
  unfolding check_number
  check_abnormal place h = rw h

-- the bounds of a nonzero number in normal form
pub record InRange (n : Number) : Type 0 where
  pub low : 10 ^ (precision - 1) ≤ n.mantissa
  pub high : n.mantissa < 10 ^ precision
  pub top : n.exponent ≤ 2 * exponent_limit

-- numbers are equal where their fields are
pub number_path : {a b : Number} → a.negative ≡ b.negative → a.mantissa ≡ b.mantissa → a.exponent ≡ b.exponent → a ≡ b
number_path p q r = λ i. record { negative = p i; mantissa = q i; exponent = r i }

-- a number in normal form is zero or within the bounds
pub normal_cases : (n : Number) → normal n ≡ true → (n ≡ zero_number) ⊎ InRange n
normal_cases n h = go (eqb n.mantissa 0) refl
  where
    zero-case : n.mantissa ≡ 0 → n ≡ zero_number
    zero-case z =
        let parts = and_true _ _ (sym (normal_zero n z) ∙ h) in
        number_path (not-true n.negative parts.0) z (eqb-true n.exponent exponent_limit parts.1)

    range : (n.mantissa ≡ 0 → ⊥) → InRange n
    range z =
        let parts = and_true _ _ (sym (normal_nonzero n z) ∙ h) in
        let rest = and_true _ _ parts.1 in
        record {
          low = leb-true _ n.mantissa parts.0;
          high = ltb-true n.mantissa _ rest.0;
          top = leb-true n.exponent _ rest.1;
        }

    go : (b : Bool) → eqb n.mantissa 0 ≡ b → (n ≡ zero_number) ⊎ InRange n
    go true e = inl (zero-case (eqb-true n.mantissa 0 e))
    go false e = inr (range (eqb-false n.mantissa 0 e))

-- a number within the bounds is in normal form
pub range_normal : (n : Number) → InRange n → normal n ≡ true
range_normal n r =
    normal_nonzero n (omega (arith, r.low))
    ∙ rw
    (le-leb (10 ^ (precision - 1)) n.mantissa r.low, lt-ltb n.mantissa (10 ^ precision) r.high, le-leb n.exponent (2 * exponent_limit) r.top)

-- the largest magnitude is in normal form
pub largest_normal : normal largest_number ≡ true
unfolding normal
largest_normal = refl

-- zero is in normal form
pub zero_normal : normal zero_number ≡ true
unfolding normal
zero_normal = refl

-- the mantissa of a number in normal form has at most 13 digits
pub normal_high : (n : Number) → normal n ≡ true → n.mantissa < 10 ^ precision
normal_high n h =
    ⊎_elim (λ z. let e : n.mantissa ≡ 0 = ap (λ (a : Number). a.mantissa) z in omega arith) (λ r. r.high) (normal_cases n h)

-- its exponent is within its limit
pub normal_top : (n : Number) → normal n ≡ true → n.exponent ≤ 2 * exponent_limit
normal_top n h =
    ⊎_elim (λ z. let e : n.exponent ≡ exponent_limit = ap (λ (a : Number). a.exponent) z in omega arith) (λ r. r.top) (normal_cases n h)

-- where its mantissa is not zero, it is within all bounds
pub normal_range : (n : Number) → normal n ≡ true → (n.mantissa ≡ 0 → ⊥) → InRange n
normal_range n h nonzero =
    ⊎_elim (λ z. absurd (nonzero (ap (λ (a : Number). a.mantissa) z))) (λ r. r) (normal_cases n h)

-- where it is zero, it is the number zero
pub normal_is_zero : (n : Number) → normal n ≡ true → n.mantissa ≡ 0 → n ≡ zero_number
normal_is_zero n h z = ⊎_elim (λ e. e) (λ r. absurd (omega (arith, r.low))) (normal_cases n h)

-- Constructors.

module _ (place : ℕ) (negative : Bool) (whole up down : ℕ) where
  -- over 13 digits
  pub scaled_too_long : 10 ^ precision ≤ whole → scaled_number place negative whole up down ≡ refused 3 place
  unfolding scaled_number
  scaled_too_long h = rw (le-leb (10 ^ precision) whole h)

  -- zero is plus, whatever the sign and the power
  pub scaled_zero : whole ≡ 0 → scaled_number place negative whole up down ≡ done zero_number
  unfolding scaled_number
  scaled_zero h = rw (lt-leb (10 ^ precision) whole (omega arith), eq-eqb whole 0 h)

  -- any other number is shifted by its leading zeros
  pub scaled_shifted :
      0 < whole
      → whole < 10 ^ precision
      → scaled_number place negative whole up down ≡ shifted_number place negative whole up down (leading_zeros precision whole)
  unfolding scaled_number
  scaled_shifted h l = rw (lt-leb (10 ^ precision) whole l, ne_eqb whole 0 (omega arith))

  module _ (zeros : ℕ) where
    -- below the smallest exponent
    pub shifted_below :
        exponent_limit + (precision - 1) + up < down + zeros
        → shifted_number place negative whole up down zeros ≡ refused 5 place
    unfolding shifted_number
    shifted_below h = rw (lt-ltb (exponent_limit + (precision - 1) + up) (down + zeros) h)

    -- above the largest exponent
    pub shifted_above :
        down + zeros ≤ exponent_limit + (precision - 1) + up
        → 2 * exponent_limit < exponent_limit + (precision - 1) + up - (down + zeros)
        → shifted_number place negative whole up down zeros ≡ refused 5 place
    unfolding shifted_number
    shifted_above h l =
        rw (
          le-ltb (exponent_limit + (precision - 1) + up) (down + zeros) h,
          lt-ltb (2 * exponent_limit) (exponent_limit + (precision - 1) + up - (down + zeros)) l,
        )

    -- within the limits
    pub shifted_done :
        down + zeros ≤ exponent_limit + (precision - 1) + up
        → exponent_limit + (precision - 1) + up - (down + zeros) ≤ 2 * exponent_limit
        → shifted_number place negative whole up down zeros
        ≡ done
        (record {
          negative = negative;
          mantissa = whole * 10 ^ zeros;
          exponent = exponent_limit + (precision - 1) + up - (down + zeros);
        })
    unfolding shifted_number
    shifted_done h l =
        rw (
          le-ltb (exponent_limit + (precision - 1) + up) (down + zeros) h,
          le-ltb (2 * exponent_limit) (exponent_limit + (precision - 1) + up - (down + zeros)) l,
        )

-- Shifting.

-- a whole number from a power of ten to the next has the zeros before it that its digits leave
module _ (whole log : ℕ) (high : whole < 10 ^ precision) (low : 10 ^ log ≤ whole) (next : whole < 10 * 10 ^ log) where
  pub log_few : log ≤ precision - 1
  log_few = ⊎_elim (λ (l : precision ≤ log). absurd (omega (arith, pow10_mono l, low, high))) (λ (l : log < precision). omega arith) (le_or_lt precision log)

  -- so many
  abbrev zeros : ℕ
  zeros = precision - 1 - log

  whole_power : 10 ^ log * 10 ^ zeros ≡ 10 ^ (precision - 1)
  whole_power =
      let sum : log + zeros ≡ precision - 1 = omega (arith, log_few) in
      sym (pow10_add log zeros) ∙ ap (λ (q : ℕ). 10 ^ q) sum

  -- without them it has all digits
  pub log_fits : whole * 10 ^ zeros < 10 ^ precision
  log_fits = omega (arith, mul-lt-mul_of_pos_right next (pow10_pos zeros), mul_assoc 10 (10 ^ log) (10 ^ zeros), whole_power)

  pub log_zeros : leading_zeros precision whole ≡ zeros
  log_zeros = leading_unique (precision - 1) whole zeros (omega (arith, mul-le-mul_right (10 ^ zeros) low, whole_power)) log_fits
