-- `bodies_fall` meets its contract: each run is compared with the one before it. Assumes nothing.
use Rattle.std.proofs.Common.{ℕ, List, sym, subst, ◌∙◌, arith}
use Rattle.rolls.proofs.FilledLaws.{filled_some}
use Rattle.rolls.proofs.RunLaws.{Falling, falling_starts, falling_stops, falling_turns, falling_ends}
use Rattle.rolls.proofs.falling.bodies_fall.Goals as goal

pub loop-left-init : goal.loop-left-init
loop-left-init c = record { falling = falling_starts c.requires.1 c.requires.0 c.args.bodies.now c.requires.2 }

pub split_at-requires : goal.split_at-requires
split_at-requires c = filled_some c.requires.1 c.loop-left.invariant.falling.filled (sym c.is_empty.ensures ∙ c.loop-left-test.true)

pub loop-left-preserved : goal.loop-left-preserved
loop-left-preserved c =
    record {
      falling =
          subst (λ (l : List ℕ). Falling c.args.width c.args.body c.args.bodies.now l c.ordered_run-run.result) (sym c.split_at.ensures.back)
          (falling_turns c.requires.1 c.requires.0 c.loop-left.invariant.falling (sym c.is_empty.ensures ∙ c.loop-left-test.true) c.ordered_run-run.ensures (omega (arith, c.if-run-last.false)));
    }

pub returns-then-run-last : goal.returns-then-run-last
returns-then-run-last c =
    falling_stops c.requires.1 c.requires.0 c.loop-left.invariant.falling (sym c.is_empty.ensures ∙ c.loop-left-test.true) c.ordered_run-run.ensures c.if-run-last.true

pub returns : goal.returns
returns c = falling_ends c.requires.1 c.requires.0 c.loop-left.invariant.falling (sym c.is_empty.ensures ∙ c.loop-left-test.false)
