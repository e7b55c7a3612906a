-- `signed_run` meets its contract: the sign half stands before the digits. Assumes nothing.
use Prim.Native.Nat.{ℕ, ◌*◌, ◌%◌, ◌^◌, ◌≤◌}
use mathlib.Core.Path.{◌≡◌, refl, ◌∙◌}
use mathlib.Core.List.{[], ◌∷◌, ◌++◌}
use native.Mathlib.Omega.{arith}
use lib.Bits.{bit_or}
use mathlib.Core.Bool.{false, false≢true}
use denote.Enum.Bare.{sameb}
use Rattle.decimal.specs.contracts.image.Sign.{the_type}
use Rattle.decimal.specs.declared.image.Sign.{Sign}
use Rattle.decimal.specs.declared.image.Sign.TheVariants.{Unsigned, Plus, Minus}
use Rattle.decimal.specs.Digits.{precision, digits_of, packed_of, Halves}
use Rattle.decimal.proofs.DigitLaws.{digits_length}
use Rattle.decimal.proofs.PackedLaws.{digit_halves}
use Rattle.decimal.specs.Image.{hashes}
use Rattle.decimal.specs.Truncation.{Truncated}
use Rattle.decimal.specs.CutMeaning.{said_by_cut}
use Rattle.codec.specs.Columns.{sign_count}
use Rattle.codec.specs.Packing.{sign_half, sign_halves}
use Rattle.codec.proofs.HalfLaws.{sign_half_below}
use Rattle.codec.proofs.RunLaws.{run_digits, run_joined}
use Rattle.codec.proofs.packing.signed_run.Goals as goal

-- the sign half before the digits
signed : (t : Truncated) (n : ℕ) {run : ℕ}
    → n ≤ precision
    → run ≡ packed_of (digits_of n t.whole)
    → bit_or (sign_half t * 2 ^ (4 * n) % 2 ^ 64) run ≡ packed_of (sign_half t ∷ digits_of n t.whole)
unfolding packed_of Halves
signed t n few e =
    run_joined 64 (sign_half t ∷ []) (digits_of n t.whole) (digits_length n t.whole) (omega arith) (sign_half_below t, tt) (digit_halves n t.whole)
    (omega arith) e

-- where the column has one
signed_run :
    (s : Sign) (t : Truncated) (n : ℕ) {run half count : ℕ}
    → n ≤ precision
    → (sign_count s ≡ 0 → ⊥)
    → run ≡ packed_of (digits_of n t.whole)
    → half ≡ sign_half t
    → count ≡ n
    → bit_or (half * 2 ^ (4 * count) % 2 ^ 64) run ≡ packed_of (sign_halves s t ++ digits_of n t.whole)
unfolding sign_halves
signed_run Unsigned t n few h e made same = absurd (h refl)
signed_run Plus t n few h e made same = rw (made, same) (signed t n few e)
signed_run Minus t n few h e made same = rw (made, same) (signed t n few e)

-- an image that is not unsigned has a sign half
has_sign : (s : Sign) → false ≡ sameb the_type s Unsigned → sign_count s ≡ 0 → ⊥
has_sign Unsigned e z = false≢true e
has_sign Plus e z = absurd (omega arith)
has_sign Minus e z = absurd (omega arith)

pub returns-else-eq : goal.returns-else-eq
unfolding sign_half
returns-else-eq c =
    let a = c.args.cut.now in
    let v = a.made in
    signed_run a.image.sign (said_by_cut a) (hashes a.image) v.size (has_sign a.image.sign c.if-eq.ensures)
    (run_digits {n = hashes a.image} v.size v.below v.digits) (c.from-half.ensures ∙ c.sign_half.ensures) c.hashes.ensures
