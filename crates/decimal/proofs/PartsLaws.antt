-- Laws of the number of a sign, a mantissa and a signed exponent. Assumes nothing.
use Rattle.std.proofs.Common.{◌≡◌, ℕ, suc, ◌+◌, ◌-◌, ◌*◌, ◌<◌, ◌≤◌, Bool, true, false, ℤ, pos, negsuc, ◌+ℤ◌, neg_ℤ, refl, ap, arith, ltb-false, ltb-true, le-ltb, lt-ltb}
use lib.Signed.{lt_z}
use Rattle.decimal.specs.declared.number.Number.{Number}
use Rattle.decimal.specs.Answer.{refused}
use Rattle.decimal.specs.Number.{exponent_limit, normal, new_number, held_number, parts_number}
use Rattle.decimal.proofs.NumberLaws.{check_abnormal, normal_top}

-- what the field exponent holds for an exponent e within its limits
pub record HeldAs (e : ℤ) : Type 0 where
  pub held : ℕ
  pub sum : e +ℤ pos exponent_limit ≡ pos held
  pub small : held ≤ 2 * exponent_limit

-- an exponent within its limits is held
pub limits_held : (e : ℤ) → lt_z e (neg_ℤ (pos exponent_limit)) ≡ false → lt_z (pos exponent_limit) e ≡ false → HeldAs e
limits_held (pos n) low high =
    let most = ltb-false exponent_limit n high in
    record { held = n + exponent_limit; sum = refl; small = omega arith }
limits_held (negsuc n) low high =
    let least = ltb-false _ n low in
    let room : suc n ≤ exponent_limit = omega arith in
    record { held = exponent_limit - suc n; sum = rw (le-ltb exponent_limit (suc n) room); small = omega arith }

-- a test that fails does not hold
not_true_false : {A : Type 0} → ◌≡◌ {A = Bool} false true → A
not_true_false h = let z : ◌≡◌ {A = ℕ} 0 1 = cc in absurd (omega arith)

module _ (place : ℕ) (negative : Bool) (mantissa : ℕ) where
  -- an exponent that is held is the number's
  pub parts_held : (e : ℤ) (h : HeldAs e) → parts_number place negative mantissa e ≡ new_number place negative mantissa h.held
  unfolding parts_number
  parts_held e h = ap (held_number place negative mantissa) h.sum

  -- below −99 no number is given
  pub parts_below : (e : ℤ) → lt_z e (neg_ℤ (pos exponent_limit)) ≡ true → parts_number place negative mantissa e ≡ refused 3 place
  unfolding parts_number
  parts_below (pos n) h = not_true_false h
  parts_below (negsuc n) h =
      let less = ltb-true _ n h in
      rw (lt-ltb exponent_limit (suc n) (omega arith))

  -- an exponent above its limit is in no normal form
  top_abnormal : (held : ℕ) → 2 * exponent_limit < held → new_number place negative mantissa held ≡ refused 3 place
  top_abnormal held h = check_abnormal n place (go (normal n) refl)
    where
      n : Number
      n = record { negative = negative; mantissa = mantissa; exponent = held }

      go : (t : Bool) → normal n ≡ t → normal n ≡ false
      go true e = absurd (omega (arith, normal_top n e))
      go false e = e

  -- above 99 no number is given
  pub parts_above : (e : ℤ) → lt_z (pos exponent_limit) e ≡ true → parts_number place negative mantissa e ≡ refused 3 place
  unfolding parts_number
  parts_above (pos n) h =
      let more = ltb-true exponent_limit n h in
      top_abnormal (n + exponent_limit) (omega arith)
  parts_above (negsuc n) h = not_true_false h
