-- Laws of when a number packs under an image, and of lists of which each number does. Assumes nothing.
use Prim.Native.Nat.{ℕ, suc, ◌<◌, ◌≤◌}
use mathlib.Core.Path.{◌≡◌, refl, ap, sym, ◌∙◌, subst}
use Rattle.std.specs.Prelude.{not, ◌&&◌, nat_lt}
use mathlib.Core.List.{List}
use mathlib.Core.Bool.{Bool, true, false}
use mathlib.Core.Logic.{⊎_elim}
use native.Mathlib.Omega.{arith}
use lib.Dec.{eqb}
use lib.ListN.{length}
use Rattle.decimal.specs.declared.image.Image.{Image}
use Rattle.decimal.specs.declared.number.Number.{Number}
use Rattle.decimal.specs.Answer.{Answer, done, refused, pick, checked_only, ◌then◌}
use Rattle.decimal.specs.Number.{exponent_limit}
use Rattle.decimal.specs.Image.{hashes}
use Rattle.decimal.specs.Truncation.{Truncated, truncated_to, truncation, packable, packed_truncation, exceeds, exponent_outside, Fit, is_signed, stored_exponent}
use Rattle.decimal.proofs.TruncationLaws.{fit_truncation, truncation_fit, packed_refused, packed_signed, packed_negative, packed_unsigned}
use Rattle.decimal.proofs.DigitLaws.{le_or_lt}
use Rattle.codec.specs.Packing.AllPack.{none, one}
use Rattle.decimal.proofs.AnswerLaws.{never_done}
use Rattle.codec.specs.Answers.{within}
use Rattle.codec.specs.Packing.{column_bytes, storing_column, PackConditions, PacksUnder, AllPack}

module _ (place : ℕ) (im : Image) (n : Number) where
  -- only a number that fits is packed
  pub packed_fit : {t : Truncated} → packed_truncation place im n ≡ done t → Fit im n
  packed_fit {t} h = go (truncation place im n) refl
    where
      go : (a : Answer Truncated) → truncation place im n ≡ a → Fit im n
      go (done s) e = truncation_fit place im n e
      go (refused x y) e = let r = packed_refused place im n e in let z : ◌≡◌ {A = ℕ} 0 1 = cc in absurd (omega arith)

  -- and in any column it is packed as its truncation
  pub packed_anywhere : {t : Truncated} → packed_truncation place im n ≡ done t → (column : ℕ) → packed_truncation column im n ≡ done (truncated_to im n)
  packed_anywhere {t} h column = go (is_signed im.sign) refl
    where
      fit : Fit im n
      fit = packed_fit h

      go : (b : Bool) → is_signed im.sign ≡ b → packed_truncation column im n ≡ done (truncated_to im n)
      go true e = packed_signed column im n fit e
      go false e =
          ⊎_elim (λ le. packed_unsigned column im n fit e le)
          (λ lt. let r = packed_negative place im n fit e lt in let z : ◌≡◌ {A = ℕ} 0 1 = cc in absurd (omega arith))
          (le_or_lt exponent_limit (stored_exponent im n))

  -- so it packs
  pub packs_under : {t : Truncated} → packed_truncation place im n ≡ done t → PacksUnder im n
  packs_under h = record { to = truncated_to im n; truncated = packed_anywhere h }

-- a number that packs fits
pub packs_fit : {im : Image} {n : Number} → PacksUnder im n → Fit im n
packs_fit {im} {n} p = packed_fit 0 im n (p.truncated 0)

-- fixed point stores no exponent
fixed_stored : (im : Image) (n : Number) → im.exponential ≡ false → exponent_limit ≤ stored_exponent im n
unfolding stored_exponent
fixed_stored im n kind = rw kind (go (eqb n.mantissa 0))
  where
    go : (b : Bool) → exponent_limit ≤ pick b exponent_limit exponent_limit
    go true = omega arith
    go false = omega arith

-- Published: a number packs under an image of a contents where the conditions hold.
pub conditions_pack : {im : Image} {n : Number} → 0 < hashes im → PackConditions im n → PacksUnder im n
conditions_pack {im} {n} some p =
    record { to = truncated_to im n; truncated = λ column. go column (is_signed im.sign) refl }
  where
    limits : (b : Bool) → im.exponential ≡ b → pick b (exponent_outside im n) (exceeds im n) ≡ false
    limits true kind = p.exponential kind
    limits false kind = p.fixed kind

    fit : Fit im n
    fit =
        record {
          nonempty = some;
          size = p.fits;
          number_checked = p.is_normal;
          within = limits im.exponential refl;
        }

    go : (column : ℕ) (b : Bool) → is_signed im.sign ≡ b → packed_truncation column im n ≡ done (truncated_to im n)
    go column true e = packed_signed column im n fit e
    go column false e = packed_unsigned column im n fit e (stored im.exponential refl)
      where
        stored : (b : Bool) → im.exponential ≡ b → exponent_limit ≤ stored_exponent im n
        stored true kind = p.unsigned kind e
        stored false kind = fixed_stored im n kind

-- Published: and only there.
pub pack_conditions : {im : Image} {n : Number} → PacksUnder im n → PackConditions im n
pack_conditions {im} {n} p =
    record {
      fits = fit.size;
      is_normal = fit.number_checked;
      fixed = λ kind. subst (λ (b : Bool). pick b (exponent_outside im n) (exceeds im n) ≡ false) kind fit.within;
      exponential = λ kind. subst (λ (b : Bool). pick b (exponent_outside im n) (exceeds im n) ≡ false) kind fit.within;
      unsigned = λ _ e. ⊎_elim (λ le. le) (λ lt. never e lt) (le_or_lt exponent_limit (stored_exponent im n));
    }
  where
    fit : Fit im n
    fit = packs_fit p

    never : is_signed im.sign ≡ false → stored_exponent im n < exponent_limit → exponent_limit ≤ stored_exponent im n
    never e lt =
        let r = packed_negative 0 im n fit e lt in
        let d = p.truncated 0 in
        let z : ◌≡◌ {A = ℕ} 0 1 = cc in
        absurd (omega arith)

-- a list that packs has one number per column
pub packs_length : {ims : List Image} {ns : List Number} → AllPack ims ns → length ns ≡ length ims
packs_length none = refl
packs_length (one p ps) = ap suc (packs_length ps)

-- A column into a buffer.

module _ (im : Image) (t : Truncated) (room : ℕ) where
  -- 5 comes first
  pub storing_refused : {number place : ℕ} → refused number place ≡ checked_only (packable 0 im t) → storing_column im t room ≡ refused number place
  unfolding storing_column packable checked_only ◌then◌
  storing_refused {number} {place} h = go (not (is_signed im.sign) && nat_lt t.x exponent_limit) h
    where
      go : (b : Bool) → refused number place ≡ checked_only (pick b (refused 5 0) (done t))
          → (pick b (refused 5 0) (done t) then λ u. within room (column_bytes im u)) ≡ refused number place
      go true e = cc
      go false e = never_done e

  -- else there is a column
  pub storing_done : done tt ≡ checked_only (packable 0 im t) → storing_column im t room ≡ within room (column_bytes im t)
  unfolding storing_column packable checked_only ◌then◌
  storing_done h = go (not (is_signed im.sign) && nat_lt t.x exponent_limit) h
    where
      go : (b : Bool) → done tt ≡ checked_only (pick b (refused 5 0) (done t))
          → (pick b (refused 5 0) (done t) then λ u. within room (column_bytes im u)) ≡ within room (column_bytes im t)
      go true e = never_done (sym e)
      go false e = refl

-- a number that packs has its column
module _ (place : ℕ) (im : Image) (n : Number) where
  packed_packable : {t : Truncated} → packed_truncation place im n ≡ done t → packable 0 im (truncated_to im n) ≡ done (truncated_to im n)
  unfolding packed_truncation ◌then◌
  packed_packable h =
      ap (λ (a : Answer Truncated). a then packable 0 im) (sym (fit_truncation 0 im n (packed_fit place im n h)))
      ∙ packed_anywhere place im n h 0

  pub storing_packed :
      {t : Truncated}
      → packed_truncation place im n ≡ done t
      → (room : ℕ)
      → storing_column im (truncated_to im n) room ≡ within room (column_bytes im (truncated_to im n))
  unfolding storing_column ◌then◌
  storing_packed h room = ap (λ (a : Answer Truncated). a then λ u. within room (column_bytes im u)) (packed_packable h)
