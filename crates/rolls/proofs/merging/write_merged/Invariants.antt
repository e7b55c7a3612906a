-- `write_merged` meets its contract. The loop's invariant is `Writing`: what is written, and what is left of both files merged, are the whole.
-- The measure is the bytes left. Assumes nothing.
use Rattle.std.proofs.Common.{◌≡◌, ◌+◌, length}
use Rattle.std.specs.List.{concat}
use Rattle.codec.specs.Order.{Bytes}
use Rattle.rolls.specs.Merging.{merged, not_behind}
use Rattle.rolls.specs.Runs.{all_bodies, run_at}
use Rattle.rolls.proofs.MergeWriteLaws.{Writing}
use Rattle.rolls.proofs.merging.write_merged.Given as goal

abbrev pub invariant-loop-end : goal.invariant-loop-end
invariant-loop-end l = record {
  writing : Writing l.body l.width (concat (merged (not_behind l.width) (all_bodies l.body l.initial.first) (all_bodies l.body l.initial.second))) l.first l.second l.target l.at;
  one : l.one ≡ run_at l.width l.first;
  other : l.other ≡ run_at l.width l.second;
  known : Bytes l.first;
  other_known : Bytes l.second;
}

abbrev pub decreases-loop-end : goal.decreases-loop-end
decreases-loop-end l = length l.first + length l.second
