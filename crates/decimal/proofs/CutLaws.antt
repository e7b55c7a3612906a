-- Laws of a number cut to an image. Assumes nothing.
use Prim.Native.Nat.{ℕ, ◌-◌, ◌*◌, ◌/◌, ◌^◌, ◌≤◌, ◌<◌}
use mathlib.Core.Path.{◌≡◌, refl, ap, sym, ◌∙◌}
use mathlib.Core.Bool.{Bool, true, false}
use native.Mathlib.Omega.{arith}
use native.Mathlib.Nat.{lt_of_lt_of_le, div-lt_iff_lt-mul}
use Rattle.decimal.specs.declared.image.Image.{Image}
use Rattle.decimal.specs.declared.number.Number.{Number}
use Rattle.decimal.specs.Digits.{precision, digits_of, value_of, packed_of, halves_in}
use Rattle.decimal.specs.Image.{hashes}
use Rattle.decimal.specs.Truncation.{whole_of, stored_exponent, truncated_to, truncation, Fit, kept_count, kept_number}
use Rattle.decimal.specs.Cuts.{cut_of, IsCut}
use Rattle.decimal.proofs.AnswerLaws.{then_both}
use Rattle.decimal.proofs.PowerLaws.{pow10_pos, pow10_add, pow10_mono}
use Rattle.decimal.proofs.DigitLaws.{value_of_digits}
use Rattle.decimal.proofs.PackedLaws.{halves_of_digits}
use Rattle.decimal.proofs.NumberLaws.{normal_high}
use Rattle.decimal.proofs.TruncationLaws.{fit_truncation, fit_exponential, stored_zero, stored_exponential, stored_fixed}
use mathlib.Core.Logic.{⊎_elim}
use Rattle.decimal.specs.Number.{exponent_limit}
use Rattle.decimal.proofs.BoolLaws.{zero_or_not}
use Rattle.decimal.proofs.KeptLaws.{kept_size, kept_whole, kept_sign, truncates_to_itself}

-- m without all but its first c digits has at most h digits
cut_below : (m p c h : ℕ) → m < 10 ^ p → c ≤ h → h ≤ p → m / 10 ^ (p - c) < 10 ^ h
cut_below m p c h high some few =
    (div-lt_iff_lt-mul (pow10_pos (p - c))).1
    (rw (← pow10_add h (p - c)) (lt_of_lt_of_le high (pow10_mono (omega arith))))

module _ (im : Image) (n : Number) (fit : Fit im n) where
  -- k has at most n digits
  pub whole_size : whole_of im n < 10 ^ hashes im
  whole_size =
      rw (kept_whole im n fit)
      (cut_below n.mantissa precision (kept_count im n) (hashes im) (normal_high n fit.number_checked) (kept_size im n fit) fit.size)

  -- and at most a mantissa's
  whole_small : whole_of im n < 10 ^ precision
  whole_small = lt_of_lt_of_le whole_size (pow10_mono fit.size)

  -- x is at most its upper limit
  pub stored_top : stored_exponent im n ≤ 2 * exponent_limit
  stored_top = ⊎_elim (λ z. omega (arith, stored_zero im n z)) (λ nz. go nz im.exponential refl) (zero_or_not n.mantissa)
    where
      go : (n.mantissa ≡ 0 → ⊥) → (b : Bool) → im.exponential ≡ b → stored_exponent im n ≤ 2 * exponent_limit
      go nz true kind = omega (arith, stored_exponential im n nz kind, fit_exponential im n fit kind nz)
      go nz false kind = omega (arith, stored_fixed im n nz kind)

  module _ {negative : Bool} {halves x : ℕ} (sign : negative ≡ (kept_number im n).negative) (made : halves ≡ packed_of (digits_of precision (whole_of im n))) (placed : x ≡ stored_exponent im n) where
    -- the digits are those of the truncation
    held : value_of (halves_in precision halves) ≡ whole_of im n
    held = ap (λ (k : ℕ). value_of (halves_in precision k)) made ∙ ap value_of (halves_of_digits precision (whole_of im n)) ∙ value_of_digits precision (whole_of im n) whole_small

    -- so what is said is the truncation
    pub cut_said : cut_of negative halves x ≡ truncated_to im n
    unfolding truncated_to
    cut_said = λ i. record { negative = (sign ∙ sym (kept_sign im n fit)) i; whole = held i; x = placed i }

    -- and it is a cut
    pub cut_is : IsCut im negative halves x
    cut_is =
        let again = truncates_to_itself 0 im n (fit_truncation 0 im n fit) in
        record {
          nonempty = fit.nonempty;
          size = fit.size;
          below = rw held whole_size;
          range = rw placed stored_top;
          back = rw cut_said (then_both (λ m. truncation 0 im m) again.stands_for again.again);
          digits = made ∙ ap (λ (k : ℕ). packed_of (digits_of precision k)) (sym held);
        }
