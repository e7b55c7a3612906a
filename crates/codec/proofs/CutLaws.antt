-- Laws of digits held as half bytes, and of the cut that a column's parts say. Assumes nothing.
use Prim.Native.Nat.{ℕ, zero, suc, ◌+◌, ◌-◌, ◌*◌, ◌/◌, ◌^◌, ◌<◌}
use mathlib.Core.Path.{◌≡◌, refl, ap, sym, ◌∙◌}
use mathlib.Core.List.{List, [], ◌∷◌}
use mathlib.Core.Logic.{⊎_elim}
use native.Mathlib.Omega.{arith}
use Rattle.std.proofs.Common.{inl, inr, ◌⊎◌}
use lib.Pow.{pow_pos}
use lib.Dec.{ltb, eqb}
use lib.ListN.{length}
use borrow.Author.Tests.{lt-ltb, le-ltb, eq-eqb, ne_eqb}
use Rattle.decimal.specs.Digits.{value_of, packed_of, halves_in, Digits}
use Rattle.decimal.proofs.PowerLaws.{pow10_pos, pow10_suc}
use Rattle.decimal.proofs.DigitLaws.{value_below}
use Rattle.decimal.proofs.PackedLaws.{digits_are_halves, packed_first, halves_length}
use Rattle.codec.specs.Cuts.{DigitsOf, whole_in}
use Rattle.codec.proofs.ColumnTheorem.{pass_digits}

-- one more
suc_mul : (a q : ℕ) → suc a * q ≡ a * q + q
suc_mul a q = omega arith

-- digits that are all 0 have the value 0, and no others
pub zero_both : (ds : List ℕ) → ((packed_of ds ≡ 0) × (value_of ds ≡ 0)) ⊎ ((0 < packed_of ds) × (0 < value_of ds))
unfolding packed_of value_of
zero_both [] = inl (refl, refl)
zero_both (zero ∷ ds) = ⊎_elim (λ n. inl (omega (arith, n.0), omega (arith, n.1))) (λ s. inr (omega (arith, s.0), omega (arith, s.1))) (zero_both ds)
zero_both (suc d ∷ ds) = inr (omega (arith, pow_pos (4 * length ds)), omega (arith, pow10_pos (length ds)))

-- one half byte
one_half : (a : ℕ) → packed_of (a ∷ []) ≡ a
unfolding packed_of
one_half a = omega arith

-- the first digit is 0 where ten times the value has no more digits
first_zero : (a : ℕ) (ds : List ℕ) {p : ℕ} → p ≡ 10 * 10 ^ length ds → value_of ds < 10 ^ length ds → eqb a 0 ≡ ltb (value_of (a ∷ ds) * 10) p
unfolding value_of
first_zero zero ds {p} power below = eq-eqb zero 0 refl ∙ sym (lt-ltb (value_of (zero ∷ ds) * 10) p (omega arith))
first_zero (suc a) ds {p} power below =
    ne_eqb (suc a) 0 (λ e. omega arith) ∙ sym (le-ltb (value_of (suc a ∷ ds) * 10) p (omega (arith, suc_mul a (10 ^ length ds))))

-- digits with the first apart
first_of :
    (n : ℕ) (ds : List ℕ) → 0 < n → length ds ≡ n → Digits ds → eqb (packed_of ds / 2 ^ (4 * (n - 1))) 0 ≡ ltb (value_of ds * 10) (10 ^ n)
unfolding Digits
first_of n [] some long are = absurd (omega arith)
first_of n (a ∷ ds) some long are =
    let count : n - 1 ≡ length ds = omega arith in
    let first : packed_of (a ∷ ds) / 2 ^ (4 * (n - 1)) ≡ a =
    ap (λ (m : ℕ). packed_of (a ∷ ds) / 2 ^ (4 * m)) count
    ∙ packed_first (a ∷ []) ds (digits_are_halves ds are.1) ∙ one_half a in
    let power : 10 ^ n ≡ 10 * 10 ^ length ds = ap (λ (m : ℕ). 10 ^ m) (sym long) ∙ pow10_suc (length ds) in
    ap (λ (m : ℕ). eqb m 0) first ∙ first_zero a ds power (value_below ds are.1)

module _ {n digits : ℕ} (d : DigitsOf n digits) where
  -- the digits of the half bytes
  abbrev pub list : List ℕ
  list = halves_in n digits

  pub digits_are : Digits list
  digits_are = pass_digits list d.are

  -- a test for 0
  pub zero_tested : eqb digits 0 ≡ eqb (whole_in n digits) 0
  zero_tested =
      ⊎_elim
      (λ none. eq-eqb digits 0 (d.same ∙ none.0) ∙ sym (eq-eqb (whole_in n digits) 0 none.1))
      (λ some.
      let p = some.0 in
      let v = some.1 in
      ne_eqb digits 0 (λ e. omega (arith, d.same)) ∙ sym (ne_eqb (whole_in n digits) 0 (λ e. omega arith)))
      (zero_both list)

  -- a test for a first 0
  pub first_tested : 0 < n → eqb (digits / 2 ^ (4 * (n - 1))) 0 ≡ ltb (whole_in n digits * 10) (10 ^ n)
  first_tested some =
      ap (λ (k : ℕ). eqb (k / 2 ^ (4 * (n - 1))) 0) d.same ∙ first_of n list some (halves_length n digits) digits_are
