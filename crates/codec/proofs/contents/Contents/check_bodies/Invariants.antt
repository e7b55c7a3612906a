-- `Contents::check_bodies` meets its contract. The loop's invariant: whether the bodies that are left, so many, can be read says whether all
-- can. The measure is their count. Assumes nothing.
use Rattle.std.specs.Prelude.{◌≤◌}
use Rattle.codec.proofs.BodiesLaws.{CheckingBlocks}
use Rattle.codec.proofs.contents.Contents.check_bodies.Given as goal

abbrev pub invariant-loop-count : goal.invariant-loop-count
invariant-loop-count l = record {
  checking : CheckingBlocks l.self.images l.bodies l.left l.count;
  some : 1 ≤ l.most;
  few : l.most ≤ 512;
}

abbrev pub decreases-loop-count : goal.decreases-loop-count
decreases-loop-count l = l.count
