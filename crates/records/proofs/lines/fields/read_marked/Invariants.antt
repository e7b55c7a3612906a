-- `read_marked` meets its contract. The loop's invariant is `Keeping`: what is kept and what is to be kept make the whole. Assumes nothing.
use Rattle.records.proofs.LineProofs.ReadFieldLaws.{Keeping}
use Rattle.records.proofs.lines.fields.read_marked.Given as goal

abbrev pub invariant-loop-byte : goal.invariant-loop-byte
invariant-loop-byte l = Keeping l.marks l.field l.kept.items l.byte-index
