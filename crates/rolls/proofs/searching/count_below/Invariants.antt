-- `count_below` meets its contract. The loop's invariant is `Counting`: so many runs do not reach the least one. The measure is the bytes left.
-- Assumes nothing.
use Rattle.std.proofs.Common.{length}
use Rattle.rolls.proofs.RunLaws.{Counting}
use Rattle.rolls.proofs.searching.count_below.Given as goal

abbrev pub invariant-loop-left : goal.invariant-loop-left
invariant-loop-left l = record { counting : Counting l.width l.body l.least l.bodies l.left l.below }

abbrev pub decreases-loop-left : goal.decreases-loop-left
decreases-loop-left l = length l.left
