-- `lines::scanning::scan_field` meets its contract. The loop's invariant is `Onward`: the longest field so far, or what is found from here on, is
-- the field, and the counts and the kind are those of the longest field so far. The measure is the length of what is left. Assumes nothing.
use lib.ListN.{length}
use Rattle.decimal.specs.Image.{state_of}
use Rattle.records.proofs.LineProofs.ScanLaws.{Onward}
use Rattle.records.proofs.lines.scanning.scan_field.Given as goal

abbrev pub invariant-loop-rest : goal.invariant-loop-rest
invariant-loop-rest l = Onward l.bytes l.scanned (state_of l.state) l.read l.rest

abbrev pub decreases-loop-rest : goal.decreases-loop-rest
decreases-loop-rest l = length l.rest
