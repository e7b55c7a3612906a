-- `read_line` meets its contract. The loop's invariant is `LineRead`: the numbers that are read, with those that are left, are the line's.
-- Assumes nothing.
use Rattle.std.specs.Prelude.{length}
use Rattle.records.proofs.FileProofs.EntryLaws.{LineRead}
use Rattle.records.proofs.files.entering.read_line.Given as goal

abbrev pub invariant-loop-rest : goal.invariant-loop-rest
invariant-loop-rest l = LineRead l.line l.numbers.items l.rest

abbrev pub decreases-loop-rest : goal.decreases-loop-rest
decreases-loop-rest l = length l.rest
