-- Laws of what a number that fits an image is truncated to, and of the truncation that the code makes. Assumes nothing.
use Prim.Native.Nat.{ℕ, ◌-◌, ◌*◌, ◌/◌, ◌^◌, ◌≤◌, ◌<◌}
use mathlib.Core.Path.{◌≡◌, refl}
use mathlib.Core.Bool.{Bool, true, false}
use mathlib.Core.Logic.{⊎_elim}
use native.Mathlib.Omega.{arith}
use native.Mathlib.Nat.{lt_of_lt_of_le, div-lt_iff_lt-mul}
use Rattle.decimal.specs.declared.image.Image.{Image}
use Rattle.decimal.specs.declared.number.Number.{Number}
use Rattle.decimal.specs.Answer.{done}
use Rattle.decimal.proofs.AnswerLaws.{then_done}
use Rattle.decimal.specs.Digits.{precision}
use Rattle.decimal.specs.Number.{exponent_limit}
use Rattle.decimal.specs.Image.{hashes}
use Rattle.decimal.specs.Truncation.{whole_of, stored_exponent, truncated_to, truncation, number_of, Fit, kept_count}
use Rattle.decimal.proofs.BoolLaws.{zero_or_not}
use Rattle.decimal.proofs.PowerLaws.{pow10_pos, pow10_add, pow10_mono}
use Rattle.decimal.proofs.NumberLaws.{normal_high}
use Rattle.decimal.proofs.TruncationLaws.{truncation_fit, truncation_done, fit_exponential, stored_zero, stored_exponential, stored_fixed}
use Rattle.decimal.proofs.KeptLaws.{kept_size, kept_whole}
use Rattle.decimal.specs.Cuts.{cut_of, IsCut}

-- m without all but its first c digits has at most h digits
cut_below : (m p c h : ℕ) → m < 10 ^ p → c ≤ h → h ≤ p → m / 10 ^ (p - c) < 10 ^ h
cut_below m p c h high some few =
    (div-lt_iff_lt-mul (pow10_pos (p - c))).1
    (rw (← pow10_add h (p - c)) (lt_of_lt_of_le high (pow10_mono (omega arith))))

-- fixed point has x = 0
pub fixed_stored : (im : Image) (n : Number) → im.exponential ≡ false → stored_exponent im n ≡ exponent_limit
fixed_stored im n kind = ⊎_elim (λ z. stored_zero im n z) (λ nz. stored_fixed im n nz kind) (zero_or_not n.mantissa)

module _ (im : Image) (n : Number) (fit : Fit im n) where
  -- k has at most n digits
  pub whole_size : whole_of im n < 10 ^ hashes im
  whole_size =
      rw (kept_whole im n fit)
      (cut_below n.mantissa precision (kept_count im n) (hashes im) (normal_high n fit.number_checked) (kept_size im n fit) fit.size)

  -- x is at most its upper limit
  pub stored_top : stored_exponent im n ≤ 2 * exponent_limit
  stored_top = ⊎_elim (λ z. omega (arith, stored_zero im n z)) (λ nz. go nz im.exponential refl) (zero_or_not n.mantissa)
    where
      go : (n.mantissa ≡ 0 → ⊥) → (b : Bool) → im.exponential ≡ b → stored_exponent im n ≤ 2 * exponent_limit
      go nz true kind = omega (arith, stored_exponential im n nz kind, fit_exponential im n fit kind nz)
      go nz false kind = omega (arith, stored_fixed im n nz kind)

-- what a cut is
pub record CutView (im : Image) (negative : Bool) (halves x : ℕ) : Type 0 where
  pub number : Number
  pub stands : number_of 0 im (cut_of negative halves x) ≡ done number
  pub fit : Fit im number
  pub same : cut_of negative halves x ≡ truncated_to im number

pub cut_view : {im : Image} {negative : Bool} {halves x : ℕ} → IsCut im negative halves x → CutView im negative halves x
cut_view {im} {negative} {halves} {x} is =
    let t = cut_of negative halves x in
    let back = then_done (number_of 0 im t) (λ n. truncation 0 im n) is.back in
    let fit = truncation_fit 0 im back.value back.second in
    let same = truncation_done 0 im back.value back.second in
    record {
      number = back.value;
      stands = back.first;
      fit = fit;
      same = same;
    }
