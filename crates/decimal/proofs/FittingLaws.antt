-- Laws of a number under a checked image: where it is refused, and where it fits. Assumes nothing.
use Prim.Native.Nat.{ℕ, ◌≤◌, ◌<◌}
use mathlib.Core.Path.{◌≡◌, ap, sym, ◌∙◌, subst}
use mathlib.Core.Bool.{true}
use Rattle.decimal.specs.declared.image.Image.{Image}
use Rattle.decimal.specs.declared.number.Number.{Number}
use Rattle.decimal.specs.declared.cut.Fitting.{Fitting}
use Rattle.decimal.specs.Answer.{done, refused, ◌then◌, checked_only}
use Rattle.decimal.specs.Digits.{precision}
use Rattle.decimal.specs.Number.{normal, check_number}
use Rattle.decimal.specs.Image.{hashes, check_image}
use Rattle.decimal.specs.Truncation.{limited, truncation, truncated_to, truncated_number, number_of, Fit}
use Rattle.decimal.proofs.ImageLaws.{check_within, check_image_done}
use Rattle.decimal.proofs.TruncationLaws.{fit_truncation, truncation_number_refused, truncation_limited}
use Rattle.decimal.proofs.KeptLaws.{checked_refused, checked_fits}

module _ (place : ℕ) (im : Image) (n : Number) (some : 0 < hashes im) (few : hashes im ≤ precision) where
  -- a number that is not in normal form is refused
  pub abnormal_refused : {x y : ℕ} → check_number place n ≡ refused x y → truncation place im n ≡ refused x y
  abnormal_refused h = truncation_number_refused place im n (check_within place im some few) h

  module _ (form : normal n ≡ true) where
    -- so is one outside its image's limits
    pub limits_refused : {x y : ℕ} → checked_only (limited place im n) ≡ refused x y → truncation place im n ≡ refused x y
    limits_refused h = truncation_limited place im n (check_within place im some few) form ∙ checked_refused (limited place im n) h

    -- any other fits
    pub limits_fit : checked_only (limited place im n) ≡ done tt → Fit im n
    limits_fit h = checked_fits place im n (ap checked_only (truncation_limited place im n (check_within place im some few) form) ∙ h)

-- a checked image is the image itself
pub checked_same : (place : ℕ) (im : Image) {j : Image} → done j ≡ check_image place im → j ≡ im
checked_same place im {j} h =
    (check_image_done place im j (sym h)).0

module _ (place : ℕ) (im : Image) (n : Number) where
  -- what truncation refuses has no truncation as a number
  pub truncated_refused : {x y : ℕ} → truncation place im n ≡ refused x y → truncated_number place im n ≡ refused x y
  unfolding truncated_number ◌then◌
  truncated_refused h = rw h

  -- what fits has the number that its truncation stands for
  pub truncated_fit : Fit im n → truncated_number place im n ≡ number_of place im (truncated_to im n)
  unfolding truncated_number ◌then◌
  truncated_fit fit = rw (fit_truncation place im n fit)

-- a number and an image of which a fitting is made fit
pub parts_fit : (f : Fitting) {im : Image} {n : Number} → (f.image ≡ im) × (f.number ≡ n) → Fit im n
parts_fit f {im} {n} same = subst (λ (m : Number). Fit im m) same.1 (subst (λ (i : Image). Fit i f.number) same.0 f.fits)
