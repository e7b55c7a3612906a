-- `count_below` meets its contract: each run is tested, up to the first that reaches the least one. Assumes nothing.
use Rattle.std.proofs.Common.{ℕ, ◌+◌, List, sym, subst, ◌∙◌}
use Rattle.rolls.proofs.FilledLaws.{filled_some}
use Rattle.rolls.proofs.RunLaws.{Counting, counting_starts, counting_stops, counting_turns, counting_ends}
use Rattle.rolls.proofs.searching.count_below.Goals as goal

pub loop-left-init : goal.loop-left-init
loop-left-init c = record { counting = counting_starts c.requires.1 c.requires.0 c.args.bodies.now c.requires.2 }

pub split_at-requires : goal.split_at-requires
split_at-requires c = filled_some c.requires.1 c.loop-left.invariant.counting.filled (sym c.is_empty.ensures ∙ c.loop-left-test.true)

pub loop-left-preserved : goal.loop-left-preserved
loop-left-preserved c =
    record {
      counting =
          subst (λ (l : List ℕ). Counting c.args.width c.args.body c.args.least c.args.bodies.now l (c.loop-left.below + 1)) (sym c.split_at.ensures.back)
          (counting_turns c.requires.1 c.requires.0 c.loop-left.invariant.counting (sym c.is_empty.ensures ∙ c.loop-left-test.true) c.ordered_run.ensures (sym c.reaches.ensures ∙ c.if-reaches.false));
    }

pub returns-then-reaches : goal.returns-then-reaches
returns-then-reaches c =
    counting_stops c.requires.1 c.requires.0 c.loop-left.invariant.counting (sym c.is_empty.ensures ∙ c.loop-left-test.true) c.ordered_run.ensures (sym c.reaches.ensures ∙ c.if-reaches.true)

pub returns-after-loop-left : goal.returns-after-loop-left
returns-after-loop-left c = counting_ends c.requires.1 c.requires.0 c.loop-left.invariant.counting (sym c.is_empty.ensures ∙ c.loop-left-test.false)
