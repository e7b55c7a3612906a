-- `bodies_fall` meets its contract. The loop's invariant is `Falling`: the runs fall as those that are left do behind the last. The measure is
-- the bytes left. Assumes nothing.
use Rattle.std.proofs.Common.{length}
use Rattle.rolls.proofs.RunLaws.{Falling}
use Rattle.rolls.proofs.falling.bodies_fall.Given as goal

abbrev pub invariant-loop-left : goal.invariant-loop-left
invariant-loop-left l = record { falling : Falling l.width l.body l.bodies l.left l.last }

abbrev pub decreases-loop-left : goal.decreases-loop-left
decreases-loop-left l = length l.left
