-- `lines::printing::measure` meets its contract. Both loops keep `Place`: so many bytes are counted, and what the elements left print makes the whole.
-- The inner loop also keeps `Pass`: as many elements were used in this pass as fields passed. The measure is the elements left. Assumes nothing.
use lib.ListN.{length}
use Rattle.records.proofs.LineProofs.PlaceLaws.{Pass, Place}
use Rattle.records.proofs.lines.printing.measure.Given as goal

abbrev pub invariant-lines : goal.invariant-lines
invariant-lines l = Place l.line l.elements l.left 0 l.bytes

abbrev pub decreases-lines : goal.decreases-lines
decreases-lines l = length l.left

abbrev pub invariant-loop-field : goal.invariant-loop-field
invariant-loop-field l =
    record {
      place : Place l.line l.elements l.left l.at l.bytes;
      pass : Pass l.line l.elements l.initial.left l.left l.field-index l.at;
    }
