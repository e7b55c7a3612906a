-- Laws of a number taken in blocks of bits, each a digit to a base: two blocks joined to one, all at once, keep the value. Assumes nothing.
use Prim.Native.Nat.{ℕ, zero, suc, ◌+◌, ◌-◌, ◌*◌, ◌/◌, ◌%◌, ◌^◌, ◌<◌, ◌≤◌}
use mathlib.Core.Path.{◌≡◌, refl, ap, ap₂, sym, ◌∙◌}
use mathlib.Core.List.{[], ◌∷◌}
use mathlib.Core.Bool.{true, ◌&&◌}
use native.Mathlib.Omega.{arith}
use Rattle.std.proofs.Math.Nat.{mod-lt, mul_assoc, mul_comm, add-mul, mul-le-mul, suc-mul}
use lib.Bits.{bit_and, and_block, and_mask}
use lib.Pow.{shr-shr, pow_pos, pow_mono, pow-add, split, high, low, mod-mod-pow, ones_lt}
use lib.Dec.{ltb}
use borrow.Author.Tests.{ltb-true}
use Rattle.decimal.specs.Digits.{value_of, halves_in}
use Rattle.decimal.proofs.BoolLaws.{and_true}
use Rattle.decimal.proofs.DigitLaws.{value_append}
use Rattle.codec.specs.Unpacking.{all_digits}
use Rattle.codec.proofs.NibbleLaws.{halves_last}
use Rattle.codec.proofs.UnpackLaws.{all_append}

-- the value of n blocks of w bits, each a digit to a base
unfoldable pub block_value : ℕ → ℕ → ℕ → ℕ → ℕ
block_value w c zero k = 0
block_value w c (suc n) k = block_value w c n (k / 2 ^ w) * c + k % 2 ^ w

-- each is below the base
unfoldable pub Blocks : ℕ → ℕ → ℕ → ℕ → Type 0
Blocks w c zero k = Unit {0}
Blocks w c (suc n) k = (k % 2 ^ w < c) × Blocks w c n (k / 2 ^ w)

-- twice as many
unfoldable pub twice : ℕ → ℕ
twice zero = zero
twice (suc n) = suc (suc (twice n))

-- a mask of each second block
unfoldable pub mask : ℕ → ℕ → ℕ
mask w zero = 0
mask w (suc n) = mask w n * 2 ^ (w + w) + (2 ^ w - 1)

-- each two blocks joined to one
unfoldable pub joined : ℕ → ℕ → ℕ → ℕ → ℕ
joined w c n k = bit_and k (mask w n) + c * bit_and (k / 2 ^ w) (mask w n)

module _ (w c : ℕ) (few : c ≤ 2 ^ w) where
  -- a masked number, the last block apart
  mask_more : (n k : ℕ) → bit_and k (mask w (suc n)) ≡ bit_and (k / 2 ^ (w + w)) (mask w n) * 2 ^ (w + w) + k % 2 ^ w
  unfolding mask
  mask_more n k =
      let narrow : 2 ^ w ≤ 2 ^ (w + w) = pow_mono (omega arith) in
      ap (λ (m : ℕ). bit_and m (mask w n * 2 ^ (w + w) + (2 ^ w - 1))) (sym (split k (w + w)))
      ∙ and_block (w + w) (k / 2 ^ (w + w)) (mask w n) (k % 2 ^ (w + w)) (2 ^ w - 1) (mod-lt k (pow_pos (w + w))) (omega (arith, ones_lt w))
      ∙ ap (λ (m : ℕ). bit_and (k / 2 ^ (w + w)) (mask w n) * 2 ^ (w + w) + m) (and_mask (k % 2 ^ (w + w)) w ∙ mod-mod-pow k w w)

  -- the last two blocks as one
  pair : ℕ → ℕ
  pair k = k % 2 ^ w + c * (k / 2 ^ w % 2 ^ w)

  -- what is joined, the last block apart
  joined_more : (n k : ℕ) → joined w c (suc n) k ≡ joined w c n (k / 2 ^ (w + w)) * 2 ^ (w + w) + pair k
  unfolding joined pair
  joined_more n k =
      let a = bit_and (k / 2 ^ (w + w)) (mask w n) in
      let b = bit_and (k / 2 ^ (w + w) / 2 ^ w) (mask w n) in
      let q = 2 ^ (w + w) in
      let turned : k / 2 ^ w / 2 ^ (w + w) ≡ k / 2 ^ (w + w) / 2 ^ w =
      shr-shr k w (w + w) ∙ ap (λ (e : ℕ). k / 2 ^ e) (omega arith) ∙ sym (shr-shr k (w + w) w) in
      let second : bit_and (k / 2 ^ w) (mask w (suc n)) ≡ b * q + k / 2 ^ w % 2 ^ w =
      mask_more n (k / 2 ^ w) ∙ ap (λ (m : ℕ). bit_and m (mask w n) * q + k / 2 ^ w % 2 ^ w) turned in
      ap₂ (λ (x y : ℕ). x + c * y) (mask_more n k) second
      ∙ omega (arith, left c (b * q) (k / 2 ^ w % 2 ^ w), mul_assoc c b q, add-mul a (c * b) q)
    where
      left : (x y z : ℕ) → x * (y + z) ≡ x * y + x * z
      left x y z = mul_comm x (y + z) ∙ add-mul y z x ∙ ap₂ (λ (m n : ℕ). m + n) (mul_comm y x) (mul_comm z x)

  -- two digits as one
  pair_small : (k : ℕ) → k % 2 ^ w < c → k / 2 ^ w % 2 ^ w < c → pair k < c * c
  unfolding pair
  pair_small k one two =
      let most : c * suc (k / 2 ^ w % 2 ^ w) ≤ c * c = mul-le-mul {n₁ = c} {m₁ = suc (k / 2 ^ w % 2 ^ w)} {n₂ = c} {m₂ = c} (omega arith) two in
      omega (arith, most, mul_comm c (suc (k / 2 ^ w % 2 ^ w)), suc-mul (k / 2 ^ w % 2 ^ w) c, mul_comm c (k / 2 ^ w % 2 ^ w))

  -- Published: joined, they have the same value, and each is below the base's square.
  pub value_joined :
      (n k : ℕ) → Blocks w c (twice n) k
      → (block_value w c (twice n) k ≡ block_value (w + w) (c * c) n (joined w c n k)) × Blocks (w + w) (c * c) n (joined w c n k)
  unfolding block_value Blocks twice pair
  value_joined zero k b = (refl, tt)
  value_joined (suc n) k b =
      let lo = k % 2 ^ w in
      let hi = k / 2 ^ w % 2 ^ w in
      let rest = k / 2 ^ (w + w) in
      let p = lo + c * hi in
      let behind : k / 2 ^ w / 2 ^ w ≡ rest = shr-shr k w w in
      let v = block_value w c (twice n) rest in
      let others = value_joined n rest (rw (← behind) b.1.1) in
      let square : c * c ≤ 2 ^ (w + w) = rw (pow-add 2 w w) (mul-le-mul {n₁ = c} {m₁ = c} {n₂ = 2 ^ w} {m₂ = 2 ^ w} few few) in
      let small : p < c * c = pair_small k b.0 b.1.0 in
      let last : joined w c (suc n) k % 2 ^ (w + w) ≡ p = ap (λ (m : ℕ). m % 2 ^ (w + w)) (joined_more n k) ∙ low (joined w c n rest) (w + w) (omega arith) in
      let front : joined w c (suc n) k / 2 ^ (w + w) ≡ joined w c n rest = ap (λ (m : ℕ). m / 2 ^ (w + w)) (joined_more n k) ∙ high (joined w c n rest) (w + w) (omega arith) in (
        ap (λ (m : ℕ). (block_value w c (twice n) m * c + hi) * c + lo) behind
            ∙ omega (arith, add-mul (v * c) hi c, mul_assoc v c c, mul_comm hi c)
            ∙ ap₂ (λ (x y : ℕ). x * (c * c) + y) (others.0 ∙ ap (block_value (w + w) (c * c) n) (sym front)) (sym last),
        (rw last small, rw front others.1),
      )

-- Half bytes are such blocks.

-- of n half bytes
pub halves_value : (n k : ℕ) → value_of (halves_in n k) ≡ block_value 4 10 n k
unfolding block_value halves_in value_of
halves_value zero k = refl
halves_value (suc n) k =
    ap value_of (halves_last n k)
    ∙ value_append (halves_in n (k / 2 ^ 4)) (k % 2 ^ 4 ∷ [])
    ∙ omega (arith, halves_value n (k / 2 ^ 4), ap (λ (v : ℕ). v * 10) (halves_value n (k / 2 ^ 4)))

-- each below ten where all are digits
pub halves_blocks : (n k : ℕ) → all_digits (halves_in n k) ≡ true → Blocks 4 10 n k
unfolding Blocks all_digits
halves_blocks zero k h = tt
halves_blocks (suc n) k h =
    let both = and_true (all_digits (halves_in n (k / 2 ^ 4))) (ltb (k % 2 ^ 4) 10 && true) (sym (all_append (halves_in n (k / 2 ^ 4)) (k % 2 ^ 4 ∷ [])) ∙ sym (ap all_digits (halves_last n k)) ∙ h) in
    (ltb-true (k % 2 ^ 4) 10 (and_true (ltb (k % 2 ^ 4) 10) true both.1).0, halves_blocks n (k / 2 ^ 4) both.0)

-- Published: sixteen digits by twos, fours and eights.
pub whole_joined :
    (halves : ℕ) → all_digits (halves_in 16 halves) ≡ true
    → joined 32 100000000 1 (joined 16 10000 2 (joined 8 100 4 (joined 4 10 8 halves))) ≡ value_of (halves_in 16 halves)
unfolding joined mask twice block_value
whole_joined halves digits =
    let twos : ℕ = joined 4 10 8 halves in
    let fours : ℕ = joined 8 100 4 twos in
    let eights : ℕ = joined 16 10000 2 fours in
    let a = value_joined 4 10 (omega arith) 8 halves (halves_blocks 16 halves digits) in
    let b = value_joined 8 100 (omega arith) 4 twos a.1 in
    let c = value_joined 16 10000 (omega arith) 2 fours b.1 in
    let last : joined 32 100000000 1 eights ≡ block_value 32 100000000 2 eights =
    omega (arith, and_mask eights 32, and_mask (eights / 2 ^ 32) 32) in
    last ∙ sym (halves_value 16 halves ∙ a.0 ∙ b.0 ∙ c.0)
