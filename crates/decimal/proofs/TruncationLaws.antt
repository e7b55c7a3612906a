-- Laws of truncation: when it is refused, that it keeps the mantissa's first digits, and that it is a number that truncates to itself.
-- Assumes nothing.
use Rattle.std.proofs.Common.{◌≡◌, ℕ, ◌+◌, ◌-◌, ◌*◌, ◌/◌, ◌^◌, ◌<◌, ◌≤◌, Bool, true, false, eqb, ltb, leb, sym, refl, ap, ◌∙◌, subst, ⊎_elim, zero-mul, arith, ltb-false, ltb-true, le-ltb, lt-ltb, eq-eqb, ne_eqb, le-leb}
use mathlib.Core.Path.{subst⁻¹}
use native.Mathlib.Nat.{zero-div}
use borrow.Author.Tests.{lt-leb}
use Rattle.decimal.specs.declared.number.Number.{Number}
use Rattle.decimal.specs.declared.image.Image.{Image}
use Rattle.decimal.specs.Answer.{Answer, done, refused, ◌then◌, pick}
use Rattle.decimal.specs.Digits.{precision}
use Rattle.decimal.specs.Number.{exponent_limit, zero_number, normal, magnitude, unit, check_number}
use Rattle.decimal.specs.Image.{hashes, check_image}
use Rattle.decimal.specs.Truncation.{is_signed, exceeds, exponent_outside, stored_exponent, Truncated, truncated_to, limited, truncation, packable, packed_truncation, Fit, kept_count}
use Rattle.decimal.proofs.PowerLaws.{pow10_pos}
use Rattle.decimal.proofs.DigitLaws.{le_or_lt}
use Rattle.decimal.proofs.ImageLaws.{check_within, check_image_done}
use Rattle.decimal.proofs.ScaleLaws.{scaled_reaches, scaled_within}
use Rattle.decimal.proofs.NumberLaws.{InRange, normal_range, check_normal, check_abnormal}

-- When a truncation is refused, and when not.

module _ (place : ℕ) (im : Image) (n : Number) where
  -- an image that is refused
  pub truncation_image_refused :
      {number at_place : ℕ} → check_image place im ≡ refused number at_place → truncation place im n ≡ refused number at_place
  unfolding truncation ◌then◌
  truncation_image_refused h = rw h

  -- an exponent outside its limits
  pub limited_exponent : im.exponential ≡ true → exponent_outside im n ≡ true → limited place im n ≡ refused 5 place
  unfolding limited exponent_outside
  limited_exponent kind h = rw (kind, h)

  -- a number that exceeds its image
  pub limited_exceeds : im.exponential ≡ false → exceeds im n ≡ true → limited place im n ≡ refused 4 place
  unfolding limited exceeds
  limited_exceeds kind h = rw (kind, h)

  -- an exponent within its limits
  pub limited_inside : im.exponential ≡ true → exponent_outside im n ≡ false → limited place im n ≡ done (truncated_to im n)
  unfolding limited exponent_outside
  limited_inside kind h = rw (kind, h)

  -- a number that does not exceed its image
  pub limited_below : im.exponential ≡ false → exceeds im n ≡ false → limited place im n ≡ done (truncated_to im n)
  unfolding limited exceeds
  limited_below kind h = rw (kind, h)

  -- any number within its image's limits is truncated
  limited_within : pick im.exponential (exponent_outside im n) (exceeds im n) ≡ false → limited place im n ≡ done (truncated_to im n)
  limited_within h = go im.exponential refl h
    where
      go : (b : Bool) → im.exponential ≡ b → pick b (exponent_outside im n) (exceeds im n) ≡ false → limited place im n ≡ done (truncated_to im n)
      go true kind e = limited_inside kind e
      go false kind e = limited_below kind e

  module _ {j : Image} (checked : check_image place im ≡ done j) where
    -- a number not in normal form
    pub truncation_abnormal : normal n ≡ false → truncation place im n ≡ refused 3 place
    unfolding truncation ◌then◌
    truncation_abnormal h = rw (checked, check_abnormal n place h)

    -- so what the number's check refuses is refused
    pub truncation_number_refused :
        {number at_place : ℕ} → check_number place n ≡ refused number at_place → truncation place im n ≡ refused number at_place
    unfolding truncation ◌then◌
    truncation_number_refused h = rw (checked, h)

    module _ (is_normal : normal n ≡ true) where
      -- a number in normal form is refused by its limits alone
      pub truncation_limited : truncation place im n ≡ limited place im n
      unfolding truncation ◌then◌
      truncation_limited = rw (checked, check_normal n place is_normal)

      -- a number within its image's limits fits
      pub within_fits : pick im.exponential (exponent_outside im n) (exceeds im n) ≡ false → Fit im n
      within_fits h =
          let sized = check_image_done place im j checked in
          record { nonempty = sized.1; size = sized.2; number_checked = is_normal; within = h }

  -- a number that fits is truncated
  pub fit_truncation : Fit im n → truncation place im n ≡ done (truncated_to im n)
  fit_truncation fit =
      truncation_limited (check_within place im fit.nonempty fit.size) fit.number_checked ∙ limited_within fit.within

  -- only a number that fits is truncated
  pub truncation_fit : {t : Truncated} → truncation place im n ≡ done t → Fit im n
  truncation_fit {t} h = image_case (check_image place im) refl
    where
      never : {number at_place : ℕ} → truncation place im n ≡ refused number at_place → Fit im n
      never e = absurd (let z : ◌≡◌ {A = ℕ} 0 1 = cc in omega arith)

      limits : {j : Image} → check_image place im ≡ done j → normal n ≡ true → (b : Bool) → im.exponential ≡ b → (o : Bool) → pick b (exponent_outside im n) (exceeds im n) ≡ o → Fit im n
      limits c e true kind true o = never (truncation_limited c e ∙ limited_exponent kind o)
      limits c e false kind true o = never (truncation_limited c e ∙ limited_exceeds kind o)
      limits c e b kind false o = within_fits c e (subst⁻¹ (λ (k : Bool). pick k (exponent_outside im n) (exceeds im n) ≡ false) kind o)

      number_case : {j : Image} → check_image place im ≡ done j → (b : Bool) → normal n ≡ b → Fit im n
      number_case c true e = limits c e im.exponential refl (pick im.exponential (exponent_outside im n) (exceeds im n)) refl
      number_case c false e = never (truncation_abnormal c e)

      image_case : (a : Answer Image) → check_image place im ≡ a → Fit im n
      image_case (done j) e = number_case e (normal n) refl
      image_case (refused number at_place) e = never (truncation_image_refused e)

  -- and it is truncated so
  pub truncation_done : {t : Truncated} → truncation place im n ≡ done t → t ≡ truncated_to im n
  truncation_done h = let e = fit_truncation (truncation_fit h) in cc

-- Packing.

module _ (place : ℕ) (im : Image) (n : Number) where
  -- what truncation refuses, packing refuses
  pub packed_refused :
      {number at_place : ℕ} → truncation place im n ≡ refused number at_place → packed_truncation place im n ≡ refused number at_place
  unfolding packed_truncation ◌then◌
  packed_refused h = rw h

  module _ (fit : Fit im n) where
    packed_then : packed_truncation place im n ≡ packable place im (truncated_to im n)
    unfolding packed_truncation ◌then◌
    packed_then = rw (fit_truncation place im n fit)

    -- an image with a sign refuses no more
    pub packed_signed : is_signed im.sign ≡ true → packed_truncation place im n ≡ done (truncated_to im n)
    unfolding packable
    packed_signed h = packed_then ∙ rw h

    -- an image without a sign refuses a negative x
    pub packed_negative : is_signed im.sign ≡ false → stored_exponent im n < exponent_limit → packed_truncation place im n ≡ refused 5 place
    unfolding packable truncated_to
    packed_negative h l = packed_then ∙ rw (h, lt-ltb (stored_exponent im n) exponent_limit l)

    -- and no other
    pub packed_unsigned : is_signed im.sign ≡ false → exponent_limit ≤ stored_exponent im n → packed_truncation place im n ≡ done (truncated_to im n)
    unfolding packable truncated_to
    packed_unsigned h l = packed_then ∙ rw (h, le-ltb (stored_exponent im n) exponent_limit l)

    -- so any image packs an x that is not negative
    pub packed_within : exponent_limit ≤ stored_exponent im n → packed_truncation place im n ≡ done (truncated_to im n)
    packed_within l = go (is_signed im.sign) refl
      where
        go : (b : Bool) → is_signed im.sign ≡ b → packed_truncation place im n ≡ done (truncated_to im n)
        go true h = packed_signed h
        go false h = packed_unsigned h l

-- "Exceeds" by exponents.

module _ (im : Image) where
  -- zero never exceeds
  pub exceeds_zero : exceeds im zero_number ≡ false
  unfolding exceeds magnitude
  exceeds_zero =
      rw (zero-mul (10 ^ exponent_limit), zero-mul (10 ^ im.fraction), zero-div unit) (lt-leb (10 ^ hashes im) 0 (pow10_pos (hashes im)))

  -- a nonzero number exceeds the image when it has more than i digits before the point
  pub exceeds_range : (n : Number) → InRange n → exceeds im n ≡ ltb im.integer (n.exponent + 1 - exponent_limit)
  unfolding exceeds magnitude
  exceeds_range n r = go (ltb im.integer (n.exponent + 1 - exponent_limit)) refl
    where
      go : (b : Bool)
          → ltb im.integer (n.exponent + 1 - exponent_limit) ≡ b
          → leb (10 ^ hashes im) (n.mantissa * 10 ^ n.exponent * 10 ^ im.fraction / unit) ≡ b
      go true e =
          let h : exponent_limit + im.integer ≤ n.exponent = omega (arith, ltb-true im.integer (n.exponent + 1 - exponent_limit) e) in
          le-leb (10 ^ hashes im) _ (scaled_reaches (precision - 1) exponent_limit n.mantissa n.exponent im.fraction im.integer r.low h)
      go false e =
          let h : n.exponent < exponent_limit + im.integer = omega (arith, ltb-false im.integer (n.exponent + 1 - exponent_limit) e) in
          lt-leb (10 ^ hashes im) _ (scaled_within (precision - 1) exponent_limit n.mantissa n.exponent im.fraction im.integer r.high h)

-- The parts of a truncation, case by case.

module _ (im : Image) (n : Number) where
  -- the stored exponent of zero is never outside
  pub outside_zero : n.mantissa ≡ 0 → exponent_outside im n ≡ false
  unfolding exponent_outside
  outside_zero z = rw (eq-eqb n.mantissa 0 z)

  -- x below its limit
  pub outside_below : (n.mantissa ≡ 0 → ⊥) → n.exponent + 1 < im.integer → exponent_outside im n ≡ true
  unfolding exponent_outside
  outside_below nz h = rw (ne_eqb n.mantissa 0 nz, lt-ltb (n.exponent + 1) im.integer h)

  -- x at or above its lower limit
  pub outside_above :
      (n.mantissa ≡ 0 → ⊥)
      → im.integer ≤ n.exponent + 1
      → exponent_outside im n ≡ ltb (2 * exponent_limit) (n.exponent + 1 - im.integer)
  unfolding exponent_outside
  outside_above nz h = rw (ne_eqb n.mantissa 0 nz, le-ltb (n.exponent + 1) im.integer h)

  -- x not outside
  pub outside_not :
      (n.mantissa ≡ 0 → ⊥)
      → exponent_outside im n ≡ false
      → (im.integer ≤ n.exponent + 1) × (n.exponent + 1 - im.integer ≤ 2 * exponent_limit)
  outside_not nz h =
      ⊎_elim
      (λ le. (le, ltb-false (2 * exponent_limit) (n.exponent + 1 - im.integer) (sym (outside_above nz le) ∙ h)))
      (λ lt. absurd (let z : ◌≡◌ {A = Bool} true false = sym (outside_below nz lt) ∙ h in let e : ◌≡◌ {A = ℕ} 0 1 = cc in omega arith))
      (le_or_lt im.integer (n.exponent + 1))

  -- so it is with the exponent of a number that fits an exponential image
  pub fit_exponential :
      Fit im n
      → im.exponential ≡ true
      → (n.mantissa ≡ 0 → ⊥)
      → (im.integer ≤ n.exponent + 1) × (n.exponent + 1 - im.integer ≤ 2 * exponent_limit)
  fit_exponential fit kind nz =
      outside_not nz (subst (λ (b : Bool). pick b (exponent_outside im n) (exceeds im n) ≡ false) kind fit.within)

  -- a number that fits a fixed-point image has at most i digits before the point
  pub fit_fixed : Fit im n → im.exponential ≡ false → (n.mantissa ≡ 0 → ⊥) → n.exponent < exponent_limit + im.integer
  fit_fixed fit kind nz =
      let within : exceeds im n ≡ false = subst (λ (b : Bool). pick b (exponent_outside im n) (exceeds im n) ≡ false) kind fit.within in
      let range = normal_range n fit.number_checked nz in
      omega (arith, ltb-false im.integer (n.exponent + 1 - exponent_limit) (sym (exceeds_range im n range) ∙ within))

  -- zero has x = 0
  pub stored_zero : n.mantissa ≡ 0 → stored_exponent im n ≡ exponent_limit
  unfolding stored_exponent
  stored_zero z = rw (eq-eqb n.mantissa 0 z)

  -- exponential: any other number has x = e − i + 1
  pub stored_exponential : (n.mantissa ≡ 0 → ⊥) → im.exponential ≡ true → stored_exponent im n ≡ n.exponent + 1 - im.integer
  unfolding stored_exponent
  stored_exponential nz kind = rw (ne_eqb n.mantissa 0 nz, kind)

  -- fixed point stores no exponent
  pub stored_fixed : (n.mantissa ≡ 0 → ⊥) → im.exponential ≡ false → stored_exponent im n ≡ exponent_limit
  unfolding stored_exponent
  stored_fixed nz kind = rw (ne_eqb n.mantissa 0 nz, kind)

  -- of zero no digit is kept
  pub kept_zero : n.mantissa ≡ 0 → kept_count im n ≡ 0
  unfolding kept_count
  kept_zero z = rw (eq-eqb n.mantissa 0 z)

  -- exponential: n digits
  pub kept_exponential : (n.mantissa ≡ 0 → ⊥) → im.exponential ≡ true → kept_count im n ≡ hashes im
  unfolding kept_count
  kept_exponential nz kind = rw (ne_eqb n.mantissa 0 nz, kind)

  -- fixed point: those up to the image's last place
  pub kept_fixed : (n.mantissa ≡ 0 → ⊥) → im.exponential ≡ false → kept_count im n ≡ n.exponent + im.fraction + 1 - exponent_limit
  unfolding kept_count
  kept_fixed nz kind = rw (ne_eqb n.mantissa 0 nz, kind)

-- Two nonzero numbers of one exponent are treated alike.

module _ (im : Image) (a b : Number) (in-a : InRange a) (in_b : InRange b) (same : a.exponent ≡ b.exponent) where
  nonzero_a : eqb a.mantissa 0 ≡ false
  nonzero_a = ne_eqb a.mantissa 0 (omega (arith, in-a.low))

  nonzero_b : eqb b.mantissa 0 ≡ false
  nonzero_b = ne_eqb b.mantissa 0 (omega (arith, in_b.low))

  pub same_exceeds : exceeds im a ≡ exceeds im b
  same_exceeds =
      exceeds_range im a in-a
      ∙ ap (λ (e : ℕ). ltb im.integer (e + 1 - exponent_limit)) same
      ∙ sym (exceeds_range im b in_b)

  pub same_outside : exponent_outside im a ≡ exponent_outside im b
  unfolding exponent_outside
  same_outside = rw (nonzero_a, nonzero_b, same)

  pub same_stored : stored_exponent im a ≡ stored_exponent im b
  unfolding stored_exponent
  same_stored = rw (nonzero_a, nonzero_b, same)

  pub same_kept : kept_count im a ≡ kept_count im b
  unfolding kept_count
  same_kept = rw (nonzero_a, nonzero_b, same)
