-- `write_digits` meets its contract. The loop's invariant: the first bytes of the target are the digits', and the run is moved left past
-- them. Assumes nothing.
use Prim.Native.Nat.{ℕ, ◌+◌, ◌-◌, ◌*◌, ◌%◌, ◌^◌, ◌<◌}
use mathlib.Core.Path.{refl, ap, sym, ◌∙◌}
use native.Mathlib.Omega.{arith}
use lib.ListN.{length}
use borrow.Author.Tests.{eqb-true}
use Rattle.codec.specs.Alpha.{zero_byte}
use Rattle.codec.proofs.BufferLaws.{front_more, front_all}
use Rattle.codec.proofs.AlphaLaws.{half_bytes_length, half_byte_at, nothing_filled}
use Rattle.codec.proofs.LeftLaws.{left_next, left_half}
use Rattle.codec.proofs.alpha_text.write_digits.Goals as goal

pub returns-then-is_empty : goal.returns-then-is_empty
returns-then-is_empty c =
    let target = c.args.target.now in
    nothing_filled _ target (sym (half_bytes_length (length target) c.args.run)) (eqb-true (length target) 0 (sym c.if-is_empty.ensures))

pub loop-byte-init : goal.loop-byte-init
loop-byte-init c = record { written = refl; moved = ap (λ (e : ℕ). c.args.run * 2 ^ e % 2 ^ 64) (omega arith) }

pub loop-byte-preserved : goal.loop-byte-preserved
loop-byte-preserved c =
    let count = length c.args.target.now in
    let l = c.loop-byte in
    let k = l.byte-index in
    let inside : k < count = omega arith in
    record {
      written =
          front_more _ _ (omega (arith, half_bytes_length count c.args.run)) _ l.invariant.written (omega arith)
          (ap (λ (d : ℕ). zero_byte + d) (left_half c.args.run (count - 1 - k) (64 - 4 * count + 4 * k) l.left (omega (arith, c.requires, inside)) l.invariant.moved)
          ∙ sym (half_byte_at count c.args.run k inside));
      moved =
          left_next c.args.run (64 - 4 * count + 4 * k) l.left l.invariant.moved
          ∙ ap (λ (e : ℕ). c.args.run * 2 ^ e % 2 ^ 64) {x = 64 - 4 * count + 4 * k + 4} {y = 64 - 4 * count + 4 * (k + 1)} (omega arith);
    }

pub returns : goal.returns
returns c =
    front_all _ _ (omega (arith, half_bytes_length (length c.args.target.now) c.args.run)) _ c.loop-byte.invariant.written (omega arith)
