-- `are_all_digits` meets its contract. Assumes nothing.
use mathlib.Core.Path.{refl, ap, ◌∙◌}
use mathlib.Core.List.{List}
use Prim.Native.Nat.{ℕ}
use native.Mathlib.Omega.{arith}
use Rattle.std.proofs.lemmas.List.{take_all}
use Rattle.codec.specs.Halves.{halves_of}
use Rattle.codec.specs.Unpacking.{all_digits}
use Rattle.codec.proofs.PlainLaws.{marked_more}
use Rattle.codec.proofs.reading.are_all_digits.Goals as goal

pub loop-byte-init : goal.loop-byte-init
unfolding halves_of all_digits
loop-byte-init c = refl

pub loop-byte-preserved : goal.loop-byte-preserved
loop-byte-preserved c = marked_more c.args.bytes.now c.loop-byte.above c.loop-byte.byte-index c.loop-byte-test.true (omega (arith, c.type_inv.bytes c.loop-byte.byte-index)) c.loop-byte.invariant

pub returns : goal.returns
returns c = c.loop-byte.invariant ∙ ap (λ (l : List ℕ). all_digits (halves_of l)) (take_all c.loop-byte.byte-index c.args.bytes.now c.loop-byte-test.false)
