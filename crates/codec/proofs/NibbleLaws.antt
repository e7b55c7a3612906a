-- Laws of half bytes tested all at once. Assumes nothing.
use Prim.Native.Nat.{ℕ, zero, suc, ◌+◌, ◌*◌, ◌/◌, ◌%◌, ◌^◌, ◌<◌, ◌≤◌}
use mathlib.Core.Path.{◌≡◌, refl, ap, ap₂, sym, ◌∙◌}
use mathlib.Core.List.{List, [], ◌∷◌, ◌++◌}
use mathlib.Core.Bool.{Bool, true, false, ◌&&◌}
use mathlib.Core.Logic.{⊎_elim}
use Rattle.std.proofs.Common.{inl, inr, ◌⊎◌}
use native.Mathlib.Omega.{arith}
use native.Mathlib.Nat.{mod-lt, div-one}
use lib.Bits.{bit_and, bit_or, and_shr, or_shr, and_mod, or_mod, and_block, and_mask, and_zero_r}
use lib.Pow.{shr-shr, pow_pos, split}
use lib.Dec.{ltb, eqb}
use borrow.Author.Tests.{lt-ltb, le-ltb, eq-eqb, ne_eqb}
use Rattle.decimal.specs.Digits.{halves_in}
use Rattle.decimal.proofs.BoolLaws.{zero_or_not}
use Rattle.codec.specs.Unpacking.{all_digits}
use Rattle.codec.proofs.UnpackLaws.{all_append}

-- conjunctions with a known second test
and_one : (b : Bool) → (b && (true && true)) ≡ b
and_one true = refl
and_one false = refl

and_zero : (b : Bool) → (b && (false && true)) ≡ false
and_zero true = refl
and_zero false = refl

-- one in each of n half bytes
unfoldable ones : ℕ → ℕ
ones zero = 0
ones (suc n) = ones n * 2 ^ 4 + 1

-- the bits that tell of each half byte whether it is above 9
unfoldable marks : ℕ → ℕ
marks k = bit_and (k / 2 ^ 3) (bit_or (k / 2 ^ 2) (k / 2 ^ 1))

-- those of the half bytes before the last
marks_high : (k : ℕ) → marks k / 2 ^ 4 ≡ marks (k / 2 ^ 4)
unfolding marks
marks_high k =
    let turned : (j : ℕ) → k / 2 ^ j / 2 ^ 4 ≡ k / 2 ^ 4 / 2 ^ j =
    λ j. shr-shr k j 4 ∙ ap (λ (m : ℕ). k / 2 ^ m) (omega arith) ∙ sym (shr-shr k 4 j) in
    and_shr (k / 2 ^ 3) (bit_or (k / 2 ^ 2) (k / 2 ^ 1)) 4
    ∙ ap₂ bit_and (turned 3) (or_shr (k / 2 ^ 2) (k / 2 ^ 1) 4 ∙ ap₂ bit_or (turned 2) (turned 1))

-- a mark of three bits
unfoldable Mark : ℕ → ℕ → ℕ → Type 0
Mark a b c =
    ((bit_and a (bit_or b c) ≡ 0) × ((a ≡ 0) ⊎ (b + c ≡ 0)))
    ⊎ ((bit_and a (bit_or b c) ≡ 1) × (a ≡ 1) × (1 ≤ b + c))

marked : (a b c : ℕ) → a < 2 → b < 2 → c < 2 → Mark a b c
unfolding Mark
marked zero zero zero p q r = inl (refl, inl refl)
marked zero zero (suc zero) p q r = inl (refl, inl refl)
marked zero (suc zero) zero p q r = inl (refl, inl refl)
marked zero (suc zero) (suc zero) p q r = inl (refl, inl refl)
marked (suc zero) zero zero p q r = inl (refl, inr refl)
marked (suc zero) zero (suc zero) p q r = inr (refl, refl, omega arith)
marked (suc zero) (suc zero) zero p q r = inr (refl, refl, omega arith)
marked (suc zero) (suc zero) (suc zero) p q r = inr (refl, refl, omega arith)
marked (suc (suc a)) b c p q r = absurd (omega arith)
marked zero (suc (suc b)) c p q r = absurd (omega arith)
marked (suc zero) (suc (suc b)) c p q r = absurd (omega arith)
marked zero zero (suc (suc c)) p q r = absurd (omega arith)
marked zero (suc zero) (suc (suc c)) p q r = absurd (omega arith)
marked (suc zero) zero (suc (suc c)) p q r = absurd (omega arith)
marked (suc zero) (suc zero) (suc (suc c)) p q r = absurd (omega arith)

-- that of the last half byte
marks_low : (k : ℕ) → bit_and (marks k % 2 ^ 4) 1 ≡ bit_and (k / 2 ^ 3 % 2 ^ 1) (bit_or (k / 2 ^ 2 % 2 ^ 1) (k / 2 ^ 1 % 2 ^ 1))
unfolding marks
marks_low k =
    let one : marks k % 2 ^ 4 % 2 ^ 1 ≡ marks k % 2 ^ 1 = omega arith in
    and_mask (marks k % 2 ^ 4) 1
    ∙ one
    ∙ and_mod (k / 2 ^ 3) (bit_or (k / 2 ^ 2) (k / 2 ^ 1)) 1
    ∙ ap (bit_and (k / 2 ^ 3 % 2 ^ 1)) (or_mod (k / 2 ^ 2) (k / 2 ^ 1) 1)

-- it tells of it
low_tested :
    (k : ℕ)
    → ((bit_and (marks k % 2 ^ 4) 1 ≡ 0) × (k % 2 ^ 4 < 10)) ⊎ ((bit_and (marks k % 2 ^ 4) 1 ≡ 1) × (10 ≤ k % 2 ^ 4))
unfolding Mark
low_tested k =
    ⊎_elim
    (λ none. inl (marks_low k ∙ none.0, ⊎_elim (λ h. omega arith) (λ h. omega arith) none.1))
    (λ some. let h = some.1 in let g = some.2 in inr (marks_low k ∙ some.0, omega arith))
    (marked (k / 2 ^ 3 % 2 ^ 1) (k / 2 ^ 2 % 2 ^ 1) (k / 2 ^ 1 % 2 ^ 1) (omega arith) (omega arith) (omega arith))

-- all of them
marks_more : (n k : ℕ) → bit_and (marks k) (ones (suc n)) ≡ bit_and (marks (k / 2 ^ 4)) (ones n) * 2 ^ 4 + bit_and (marks k % 2 ^ 4) 1
unfolding ones
marks_more n k =
    ap (λ (m : ℕ). bit_and m (ones n * 2 ^ 4 + 1)) (sym (split (marks k) 4))
    ∙ and_block 4 (marks k / 2 ^ 4) (ones n) (marks k % 2 ^ 4) 1 (mod-lt (marks k) (pow_pos 4)) (omega arith)
    ∙ ap (λ (m : ℕ). bit_and m (ones n) * 2 ^ 4 + bit_and (marks k % 2 ^ 4) 1) (marks_high k)

-- the last half byte apart
pub halves_last : (n k : ℕ) → halves_in (suc n) k ≡ halves_in n (k / 2 ^ 4) ++ (k % 2 ^ 4 ∷ [])
unfolding halves_in
halves_last zero k = ap (λ (m : ℕ). m % 2 ^ 4 ∷ []) (div-one k)
halves_last (suc n) k =
    let high : k / 2 ^ (4 * suc n) ≡ k / 2 ^ 4 / 2 ^ (4 * n) = ap (λ (m : ℕ). k / 2 ^ m) (omega arith) ∙ sym (shr-shr k 4 (4 * n)) in
    ap₂ (λ (h : ℕ) (t : List ℕ). h % 2 ^ 4 ∷ t) high (halves_last n k)

-- n half bytes are digits where no mark is set
marks_tell : (n k : ℕ) → eqb (bit_and (marks k) (ones n)) 0 ≡ all_digits (halves_in n k)
unfolding halves_in all_digits ones
marks_tell zero k = ap (λ (m : ℕ). eqb m 0) (and_zero_r (marks k))
marks_tell (suc n) k =
    let high : ℕ = bit_and (marks (k / 2 ^ 4)) (ones n) in
    let last : ℕ = k % 2 ^ 4 in
    let whole : all_digits (halves_in (suc n) k) ≡ (all_digits (halves_in n (k / 2 ^ 4)) && (ltb last 10 && true)) =
    ap all_digits (halves_last n k) ∙ all_append (halves_in n (k / 2 ^ 4)) (last ∷ []) in
    ⊎_elim
    (λ (none : (bit_and (marks k % 2 ^ 4) 1 ≡ 0) × (last < 10)).
    let few : ltb last 10 ≡ true = lt-ltb last 10 none.1 in
    let same : eqb (high * 2 ^ 4 + 0) 0 ≡ eqb high 0 =
    ⊎_elim
    (λ (z : high ≡ 0). eq-eqb (high * 2 ^ 4 + 0) 0 (omega arith) ∙ sym (eq-eqb high 0 z))
    (λ (nz : high ≡ 0 → ⊥). ne_eqb (high * 2 ^ 4 + 0) 0 (λ e. nz (omega arith)) ∙ sym (ne_eqb high 0 nz))
    (zero_or_not high) in
    ap (λ (m : ℕ). eqb m 0) (marks_more n k ∙ ap (λ (b : ℕ). high * 2 ^ 4 + b) none.0)
    ∙ same
    ∙ marks_tell n (k / 2 ^ 4)
    ∙ sym (whole ∙ rw few (and_one (all_digits (halves_in n (k / 2 ^ 4))))))
    (λ (some : (bit_and (marks k % 2 ^ 4) 1 ≡ 1) × (10 ≤ last)).
    let many : ltb last 10 ≡ false = le-ltb last 10 some.1 in
    ap (λ (m : ℕ). eqb m 0) (marks_more n k ∙ ap (λ (b : ℕ). high * 2 ^ 4 + b) some.0)
    ∙ ne_eqb (high * 2 ^ 4 + 1) 0 (λ e. omega arith)
    ∙ sym (whole ∙ rw many (and_zero (all_digits (halves_in n (k / 2 ^ 4))))))
    (low_tested k)

-- Published: the code's test of sixteen half bytes.
pub digits_tested :
    (k : ℕ) → eqb (bit_and (bit_and (k / 8) (bit_or (k / 4) (k / 2))) 0x1111111111111111) 0 ≡ all_digits (halves_in 16 k)
unfolding marks ones
digits_tested k = marks_tell 16 k

-- and of the two of a byte
pub byte_tested : (k : ℕ) → eqb (bit_and (bit_and (k / 8) (bit_or (k / 4) (k / 2))) 0x11) 0 ≡ all_digits (halves_in 2 k)
unfolding marks ones
byte_tested k = marks_tell 2 k
