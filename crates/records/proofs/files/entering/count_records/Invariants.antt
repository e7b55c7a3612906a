-- `count_records` meets its contract. The loop's invariant is `Counting`: the records that are counted, with those that are left, are all.
-- Assumes nothing.
use Rattle.std.specs.Prelude.{length}
use Rattle.records.proofs.FileProofs.EntryLaws.{Counting}
use Rattle.records.proofs.files.entering.count_records.Given as goal

abbrev pub invariant-loop-rest : goal.invariant-loop-rest
invariant-loop-rest l = Counting l.contents.images l.lines l.records l.rest

abbrev pub decreases-loop-rest : goal.decreases-loop-rest
decreases-loop-rest l = length l.rest
