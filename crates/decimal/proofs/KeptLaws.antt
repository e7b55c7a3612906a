-- A truncation keeps the mantissa's first digits, is a number in normal form, and truncates to itself.
-- Assumes nothing.
use Rattle.std.proofs.Common.{◌≡◌, ℕ, ◌+◌, ◌-◌, ◌*◌, ◌/◌, ◌^◌, ◌<◌, ◌≤◌, Bool, true, false, not, ◌&&◌, eqb, sym, refl, ap, ◌∙◌, ap₂, ⊎_elim, zero-mul, arith, eq-eqb, ne_eqb, eqb-true}
use mathlib.Core.Path.{subst⁻¹}
use native.Mathlib.Nat.{zero-div, div-eq_of_lt}
use borrow.Author.Tests.{eqb-false}
use Rattle.decimal.specs.declared.number.Number.{Number}
use Rattle.decimal.specs.declared.image.Image.{Image}
use Rattle.decimal.specs.Answer.{Answer, done, refused, pick, checked_only}
use Rattle.decimal.specs.Digits.{precision}
use Rattle.decimal.specs.Number.{exponent_limit, zero_number, magnitude, unit, shifted_number}
use Rattle.decimal.specs.Image.{hashes}
use Rattle.decimal.specs.Truncation.{is_signed, whole_of, exceeds, exponent_outside, stored_exponent, Truncated, truncated_to, truncation, Fit, kept_count, dropped_count, kept_number, number_of, TruncatesToItself}
use Rattle.decimal.proofs.BoolLaws.{and_again, and_none, zero_or_not}
use Rattle.decimal.proofs.PowerLaws.{times_power}
use Rattle.decimal.proofs.DigitLaws.{le_or_lt, leading_unique}
use Rattle.decimal.proofs.ScaleLaws.{scaled_vanishes, scaled_drops, cut_low, cut_high, cut_again}
use Rattle.decimal.proofs.NumberLaws.{InRange, normal_range, normal_high, range_normal, zero_normal, scaled_zero, scaled_shifted, shifted_done, number_path}
use Rattle.decimal.proofs.TruncationLaws.{truncation_fit, truncation_done, fit_truncation, fit_fixed, fit_exponential, exceeds_zero, outside_zero, stored_zero, stored_exponential, stored_fixed, kept_zero, kept_exponential, kept_fixed, same_outside, same_exceeds, same_stored, same_kept}

-- What an answer without its result tells.

-- it is refused as the answer is
pub checked_refused : {A : Type 0} (a : Answer A) {number place : ℕ} → checked_only a ≡ refused number place → a ≡ refused number place
unfolding checked_only
checked_refused (done a) h = let z : ◌≡◌ {A = ℕ} 0 1 = cc in absurd (omega arith)
checked_refused (refused x y) {number} {place} h =
    let same_number : x ≡ number = cc in let same_place : y ≡ place = cc in ap₂ refused same_number same_place

-- where a number is not refused, it fits
pub checked_fits : (place : ℕ) (im : Image) (n : Number) → checked_only (truncation place im n) ≡ done tt → Fit im n
unfolding checked_only
checked_fits place im n h = go (truncation place im n) refl
  where
    go : (a : Answer Truncated) → truncation place im n ≡ a → Fit im n
    go (done t) e = truncation_fit place im n e
    go (refused x y) e =
        let wrong : checked_only (truncation place im n) ≡ refused x y = ap checked_only e in
        let z : ◌≡◌ {A = ℕ} 0 1 = cc in
        absurd (omega arith)

-- truncated numbers are equal where their parts are
truncated_path : {s t : Truncated} → s.negative ≡ t.negative → s.whole ≡ t.whole → s.x ≡ t.x → s ≡ t
truncated_path p q r = λ i. record { negative = p i; whole = q i; x = r i }

module _ (im : Image) (n : Number) where
  -- of a zero mantissa k is 0
  pub whole_zero : n.mantissa ≡ 0 → whole_of im n ≡ 0
  unfolding whole_of magnitude
  whole_zero z = go im.exponential
    where
      go : (b : Bool)
          → pick b (n.mantissa / 10 ^ (precision - hashes im)) (n.mantissa * 10 ^ n.exponent * 10 ^ im.fraction / unit) ≡ 0
      go true = rw z (zero-div _)
      go false = rw (z, zero-mul (10 ^ n.exponent), zero-mul (10 ^ im.fraction)) (zero-div unit)

  -- exponential: k is the first n digits
  whole_exponential : im.exponential ≡ true → whole_of im n ≡ n.mantissa / 10 ^ (precision - hashes im)
  unfolding whole_of
  whole_exponential kind = rw kind

  -- fixed point: k is the whole part of magnitude × 10^f
  whole_fixed : im.exponential ≡ false → whole_of im n ≡ n.mantissa * 10 ^ n.exponent * 10 ^ im.fraction / unit
  unfolding whole_of magnitude
  whole_fixed kind = rw kind

  module _ (fit : Fit im n) where
    -- no more digits are kept than the image has
    pub kept_size : kept_count im n ≤ hashes im
    kept_size = ⊎_elim (λ z. omega (arith, kept_zero im n z)) (λ nz. go nz im.exponential refl) (zero_or_not n.mantissa)
      where
        go : (n.mantissa ≡ 0 → ⊥) → (b : Bool) → im.exponential ≡ b → kept_count im n ≤ hashes im
        go nz true kind = omega (arith, kept_exponential im n nz kind)
        go nz false kind = omega (arith, kept_fixed im n nz kind, fit_fixed im n fit kind nz)

    -- k is the mantissa without the digits that are not kept
    pub kept_whole : whole_of im n ≡ n.mantissa / 10 ^ (dropped_count im n)
    kept_whole = ⊎_elim none (λ nz. go nz im.exponential refl) (zero_or_not n.mantissa)
      where
        none : n.mantissa ≡ 0 → whole_of im n ≡ n.mantissa / 10 ^ (dropped_count im n)
        none z = whole_zero z ∙ sym (ap (λ (m : ℕ). m / 10 ^ (dropped_count im n)) z ∙ zero-div _)

        high : n.mantissa < 10 ^ precision
        high = normal_high n fit.number_checked

        fixed : (n.mantissa ≡ 0 → ⊥) → im.exponential ≡ false → n.mantissa * 10 ^ n.exponent * 10 ^ im.fraction / unit ≡ n.mantissa / 10 ^ (dropped_count im n)
        fixed nz kind =
            let count = kept_fixed im n nz kind in
            ⊎_elim
            (λ le.
            let all : kept_count im n ≡ 0 = omega arith in
            scaled_vanishes (precision - 1) exponent_limit n.mantissa n.exponent im.fraction high le
            ∙ sym (ap (λ (k : ℕ). n.mantissa / 10 ^ (precision - k)) all ∙ div-eq_of_lt high))
            (λ lt.
            scaled_drops (precision - 1) exponent_limit n.mantissa n.exponent im.fraction (dropped_count im n) (exponent_limit + (precision - 1))
            (omega (arith, kept_size, fit.size)))
            (le_or_lt (n.exponent + im.fraction + 1) exponent_limit)

        go : (n.mantissa ≡ 0 → ⊥) → (b : Bool) → im.exponential ≡ b → whole_of im n ≡ n.mantissa / 10 ^ (dropped_count im n)
        go nz true kind =
            whole_exponential kind ∙ ap (λ (k : ℕ). n.mantissa / 10 ^ (precision - k)) (sym (kept_exponential im n nz kind))
        go nz false kind = whole_fixed kind ∙ fixed nz kind

    -- some digit is kept of a number that is not truncated to zero
    kept_positive : 0 < kept_count im n → 10 ^ (precision - 1) ≤ n.mantissa / 10 ^ (dropped_count im n) * 10 ^ (dropped_count im n)
    kept_positive h =
        let nonzero : n.mantissa ≡ 0 → ⊥ = λ z. omega (arith, kept_zero im n z) in
        cut_low (precision - 1) n.mantissa (dropped_count im n) (normal_range n fit.number_checked nonzero).low (omega arith)

    -- k is 0 exactly where no digit is kept
    pub kept_none : eqb (whole_of im n) 0 ≡ eqb (kept_count im n) 0
    kept_none = ⊎_elim none some (zero_or_not (kept_count im n))
      where
        none : kept_count im n ≡ 0 → eqb (whole_of im n) 0 ≡ eqb (kept_count im n) 0
        none e =
            let zero-whole : whole_of im n ≡ 0 = kept_whole ∙ ap (λ (k : ℕ). n.mantissa / 10 ^ (precision - k)) e ∙ div-eq_of_lt (normal_high n fit.number_checked) in
            eq-eqb (whole_of im n) 0 zero-whole ∙ sym (eq-eqb (kept_count im n) 0 e)

        some : (kept_count im n ≡ 0 → ⊥) → eqb (whole_of im n) 0 ≡ eqb (kept_count im n) 0
        some ne =
            ne_eqb (whole_of im n) 0
            (λ z.
            let r = dropped_count im n in
            let vanished : n.mantissa / 10 ^ r * 10 ^ r ≡ 0 = ap (λ (k : ℕ). k * 10 ^ r) (sym kept_whole ∙ z) ∙ zero-mul (10 ^ r) in
            omega (arith, kept_positive (omega arith)))
            ∙ sym (ne_eqb (kept_count im n) 0 ne)

    -- the sign of the truncation
    pub kept_sign : (truncated_to im n).negative ≡ (kept_number im n).negative
    unfolding truncated_to kept_number
    kept_sign = ap (λ (b : Bool). is_signed im.sign && (n.negative && not b)) kept_none

    -- with no digit kept the truncation is zero
    pub number_none : (place : ℕ) → kept_count im n ≡ 0 → number_of place im (truncated_to im n) ≡ done zero_number
    unfolding number_of truncated_to
    number_none place e = scaled_zero _ _ _ _ _ (eqb-true (whole_of im n) 0 (kept_none ∙ eq-eqb (kept_count im n) 0 e))

    module _ (some : 0 < kept_count im n) where
      nonzero : n.mantissa ≡ 0 → ⊥
      nonzero z = omega (arith, kept_zero im n z)

      range : InRange n
      range = normal_range n fit.number_checked nonzero

      -- k and the digits that become zero make 13 digits
      whole_low : 10 ^ (precision - 1) ≤ whole_of im n * 10 ^ dropped_count im n
      whole_low = rw kept_whole (kept_positive some)

      whole_high : whole_of im n * 10 ^ dropped_count im n < 10 ^ precision
      whole_high =
          let cut : whole_of im n * 10 ^ dropped_count im n ≤ n.mantissa = rw kept_whole (cut_high (precision - 1) n.mantissa (dropped_count im n)) in
          omega (arith, range.high)

      -- the stored exponent and the places behind the point give the exponent back
      exponent_kept : exponent_limit + (precision - 1) + stored_exponent im n ≡ n.exponent + (exponent_limit + im.fraction + dropped_count im n)
      exponent_kept = go im.exponential refl
        where
          go : (b : Bool)
              → im.exponential ≡ b
              → exponent_limit + (precision - 1) + stored_exponent im n ≡ n.exponent + (exponent_limit + im.fraction + dropped_count im n)
          go true kind =
              omega (arith, kept_exponential im n nonzero kind, stored_exponential im n nonzero kind, fit_exponential im n fit kind nonzero, fit.size)
          go false kind = omega (arith, kept_fixed im n nonzero kind, stored_fixed im n nonzero kind, kept_size, fit.size)

      -- with some digit kept the truncation is the number with the other digits zero
      pub number_some : (place : ℕ) → number_of place im (truncated_to im n) ≡ done (kept_number im n)
      unfolding number_of truncated_to kept_number
      number_some place =
          let zeros = leading_unique (precision - 1) (whole_of im n) (dropped_count im n) whole_low whole_high in
          let down = exponent_limit + im.fraction in
          let x = stored_exponent im n in
          let negative = (truncated_to im n).negative in
          let nonzero-whole = eqb-false (whole_of im n) 0 (kept_none ∙ ne_eqb (kept_count im n) 0 (omega arith)) in
          scaled_shifted place negative (whole_of im n) x down (omega arith) (omega (arith, times_power (whole_of im n) (dropped_count im n), whole_high))
          ∙ ap (λ (z : ℕ). shifted_number place negative (whole_of im n) x down z) zeros
          ∙ shifted_done place negative (whole_of im n) x down (dropped_count im n) (omega (arith, exponent_kept)) (omega (arith, exponent_kept, range.top))
          ∙ ap {B = Answer Number} done (number_path kept_sign (ap (λ (k : ℕ). k * 10 ^ dropped_count im n) kept_whole) (omega (arith, exponent_kept)))

      kept_range : InRange (kept_number im n)
      unfolding kept_number
      kept_range =
          let cut = cut_high (precision - 1) n.mantissa (dropped_count im n) in
          record { low = kept_positive some; high = omega (arith, range.high); top = range.top }

      kept_nonzero : (kept_number im n).mantissa ≡ 0 → ⊥
      kept_nonzero z = omega (arith, kept_range.low)

      -- that number fits the image as well
      kept_fits : Fit im (kept_number im n)
      unfolding kept_number
      kept_fits =
          record {
            nonempty = fit.nonempty;
            size = fit.size;
            number_checked = range_normal (kept_number im n) kept_range;
            within =
                ap₂ (λ (o x : Bool). pick im.exponential o x)
                (same_outside im (kept_number im n) n kept_range range refl)
                (same_exceeds im (kept_number im n) n kept_range range refl)
                ∙ fit.within;
          }

-- zero fits every image
zero_fits : (im : Image) → 0 < hashes im → hashes im ≤ precision → Fit im zero_number
zero_fits im low high =
    record { nonempty = low; size = high; number_checked = zero_normal; within = go im.exponential }
  where
    go : (b : Bool) → pick b (exponent_outside im zero_number) (exceeds im zero_number) ≡ false
    go true = outside_zero im zero_number refl
    go false = exceeds_zero im

module _ (im : Image) (n : Number) (fit : Fit im n) where
  -- the number with the other digits zero has the same truncation
  kept_again : 0 < kept_count im n → truncated_to im (kept_number im n) ≡ truncated_to im n
  unfolding truncated_to kept_number
  kept_again some =
      let k = kept_number im n in
      let in-k = kept_range im n fit some in
      let in-n = range im n fit some in
      let count = same_kept im k n in-k in-n refl in
      let fits = kept_fits im n fit some in
      let whole : whole_of im k ≡ whole_of im n =
      kept_whole im k fits
      ∙ ap (λ (c : ℕ). k.mantissa / 10 ^ (precision - c)) count
      ∙ cut_again (precision - 1) n.mantissa (dropped_count im n)
      ∙ sym (kept_whole im n fit) in
      truncated_path
      (kept_sign im k fits
      ∙ ap (λ (c : ℕ). is_signed im.sign && (k.negative && not (eqb c 0))) count
      ∙ and_again (is_signed im.sign) n.negative (not (eqb (kept_count im n) 0))
      ∙ sym (kept_sign im n fit))
      whole
      (same_stored im k n in-k in-n refl)

  -- zero has the truncation of every number of which no digit is kept
  zero_again : kept_count im n ≡ 0 → truncated_to im zero_number ≡ truncated_to im n
  unfolding truncated_to kept_number
  zero_again none =
      truncated_path
      (and_none (is_signed im.sign) false
      ∙ sym
      (kept_sign im n fit
      ∙ rw (eq-eqb (kept_count im n) 0 none) (and_none (is_signed im.sign) n.negative)))
      (whole_zero im zero_number refl ∙ sym (eqb-true (whole_of im n) 0 (kept_none im n fit ∙ eq-eqb (kept_count im n) 0 none)))
      (stored_zero im zero_number refl ∙ sym stored)
    where
      some_kind : (n.mantissa ≡ 0 → ⊥) → (b : Bool) → im.exponential ≡ b → stored_exponent im n ≡ exponent_limit
      some_kind nz true kind = absurd (omega (arith, kept_exponential im n nz kind, fit.nonempty))
      some_kind nz false kind = stored_fixed im n nz kind

      stored : stored_exponent im n ≡ exponent_limit
      stored = ⊎_elim (λ z. stored_zero im n z) (λ nz. some_kind nz im.exponential refl) (zero_or_not n.mantissa)

  -- a truncation is a number in normal form that truncates to itself
  fit_itself : (place : ℕ) → TruncatesToItself place im (truncated_to im n)
  fit_itself place = ⊎_elim none some (zero_or_not (kept_count im n))
    where
      none : kept_count im n ≡ 0 → TruncatesToItself place im (truncated_to im n)
      none e =
          record {
            number = zero_number;
            stands_for = number_none im n fit place e;
            is_normal = zero_normal;
            again =
                fit_truncation place im zero_number (zero_fits im fit.nonempty fit.size)
                ∙ ap {B = Answer Truncated} done (zero_again e);
          }

      some : (kept_count im n ≡ 0 → ⊥) → TruncatesToItself place im (truncated_to im n)
      some ne =
          let positive : 0 < kept_count im n = omega arith in
          let fits = kept_fits im n fit positive in
          record {
            number = kept_number im n;
            stands_for = number_some im n fit positive place;
            is_normal = fits.number_checked;
            again =
                fit_truncation place im (kept_number im n) fits ∙ ap {B = Answer Truncated} done (kept_again positive);
          }

-- Published: whatever is truncated is a number in normal form that truncates to itself, under the same image and with no refusal.
pub truncates_to_itself :
    (place : ℕ) (im : Image) (n : Number) {t : Truncated} → truncation place im n ≡ done t → TruncatesToItself place im t
truncates_to_itself place im n h =
    subst⁻¹ (λ (t : Truncated). TruncatesToItself place im t) (truncation_done place im n h)
    (fit_itself im n (truncation_fit place im n h) place)
