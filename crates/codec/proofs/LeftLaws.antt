-- Laws of a run of half bytes moved left in a word of 64 bits, so that its next one is the highest. Assumes nothing.
use Prim.Native.Nat.{ℕ, ◌+◌, ◌*◌, ◌/◌, ◌%◌, ◌^◌}
use mathlib.Core.Path.{◌≡◌, ap, sym, ◌∙◌}
use Rattle.std.proofs.Math.Nat.{mul_assoc}
use Rattle.std.proofs.lemmas.Nat.{mul-mod}
use lib.Pow.{pow-add, field, shl-shr, shr-shr}

-- moved left by one half byte more
pub left_next : (run e left : ℕ) → left ≡ run * 2 ^ e % 2 ^ 64 → left * 2 ^ 4 % 2 ^ 64 ≡ run * 2 ^ (e + 4) % 2 ^ 64
left_next run e left same =
    ap (λ (m : ℕ). m * 2 ^ 4 % 2 ^ 64) same
    ∙ sym (mul-mod (run * 2 ^ e) (2 ^ 4) (2 ^ 64))
    ∙ ap (λ (m : ℕ). m % 2 ^ 64) (mul_assoc run (2 ^ e) (2 ^ 4) ∙ ap (λ (m : ℕ). run * m) (sym (pow-add 2 e 4)))

-- the highest half byte is the one with j behind it
pub left_half : (run j e left : ℕ) → e + 4 * j ≡ 60 → left ≡ run * 2 ^ e % 2 ^ 64 → left / 2 ^ 60 ≡ run / 2 ^ (4 * j) % 2 ^ 4
left_half run j e left sum same =
    let bits : run * 2 ^ e / 2 ^ 60 ≡ run / 2 ^ (4 * j) =
    ap (λ (m : ℕ). run * 2 ^ e / 2 ^ m) (sym sum) ∙ sym (shr-shr (run * 2 ^ e) e (4 * j)) ∙ ap (λ (m : ℕ). m / 2 ^ (4 * j)) (shl-shr run e) in
    ap (λ (m : ℕ). m / 2 ^ 60) same ∙ field (run * 2 ^ e) 4 60 ∙ ap (λ (m : ℕ). m % 2 ^ 4) bits
