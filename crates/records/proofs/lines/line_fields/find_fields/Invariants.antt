-- `lines::line_fields::find_fields` meets its contract. The loop's invariant is `Walking`: the first of the fields found so far are listed, the others
-- are those of the bytes that are left, and the check from there on is the line's. The measure is the length of what is left. Assumes nothing.
use lib.ListN.{length}
use Rattle.records.proofs.LineProofs.LineFieldLaws.{Walking}
use Rattle.records.proofs.lines.line_fields.find_fields.Given as goal

abbrev pub invariant-loop-rest : goal.invariant-loop-rest
invariant-loop-rest l = Walking l.line l.fields.items l.count l.rest

abbrev pub decreases-loop-rest : goal.decreases-loop-rest
decreases-loop-rest l = length l.rest
