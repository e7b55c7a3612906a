-- `whole_run` meets its contract. Assumes nothing.
use Rattle.std.proofs.Common.{◌%◌, ◌^◌, ap, ◌∙◌, ℕ, List, refl, arith}
use Rattle.std.proofs.lemmas.List.{take_all}
use Rattle.codec.specs.Halves.{halves_of}
use Rattle.codec.specs.Ordering.{run_of}
use Rattle.decimal.specs.Digits.{packed_of}
use Rattle.codec.proofs.OrderingLaws.{run_more}
use Rattle.codec.proofs.ordering.whole_run.Goals as goal

pub loop-byte-init : goal.loop-byte-init
unfolding halves_of packed_of
loop-byte-init c = refl

pub loop-byte-preserved : goal.loop-byte-preserved
loop-byte-preserved c =
    omega (
      arith,
      c.loop-byte.invariant,
      run_more c.args.bytes.now c.loop-byte.byte-index c.from.result c.loop-byte-test.true c.from.ensures,
    )

pub returns : goal.returns
returns c =
    c.loop-byte.invariant ∙ ap (λ (l : List ℕ). run_of l % 2 ^ 64) (take_all c.loop-byte.byte-index c.args.bytes.now (omega arith))
