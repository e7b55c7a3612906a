-- `write_bodies` meets its contract. The loop's invariant is `Filling`: the bodies that are written, with those that are left, are all.
-- Assumes nothing.
use Rattle.std.specs.Prelude.{◌-◌, length}
use Rattle.records.proofs.FileProofs.EntryLaws.{Filling}
use Rattle.records.proofs.files.entering.write_bodies.Given as goal

abbrev pub invariant-loop-out : goal.invariant-loop-out
invariant-loop-out l = Filling l.images l.lines l.target l.out l.rest

abbrev pub decreases-loop-out : goal.decreases-loop-out
decreases-loop-out l = length l.target - l.out
