-- `lines::printing::write_lines` meets its contract. Both loops keep `Place`, `Writing` and `Spills`: the buffer holds the first bytes of what is printed, so
-- many elements are spilled so far, and what the elements left print is still to come. The inner loop also keeps `Pass`: as many elements were used in this
-- pass as fields passed. The measure is the elements left. Assumes nothing.
use Prim.Native.Nat.{ℕ}
use mathlib.Core.List.{List}
use lib.ListN.{length}
use Rattle.records.proofs.LineProofs.CheckLaws.{Checked}
use Rattle.records.proofs.LineProofs.PlaceLaws.{Pass, Place, Spills}
use Rattle.records.proofs.LineProofs.PrintBufferLaws.{Writing}
use Rattle.records.proofs.lines.printing.write_lines.Given as goal

abbrev pub invariant-lines : goal.invariant-lines
invariant-lines l =
    record {
      place : Place l.line l.elements l.left 0 l.out;
      checked : Checked (length l.texts) l.left;
      spills : Spills l.line l.elements l.left 0 l.spilled;
      writing : Writing l.initial.buffer l.texts l.line l.elements l.out l.buffer;
    }

abbrev pub decreases-lines : goal.decreases-lines
decreases-lines l = length l.left

abbrev pub invariant-loop-field : goal.invariant-loop-field
invariant-loop-field l =
    record {
      place : Place l.line l.elements l.left l.at l.out;
      checked : Checked (length l.texts) l.left;
      spills : Spills l.line l.elements l.left l.at l.spilled;
      pass : Pass l.line l.elements l.initial.left l.left l.field-index l.at;
      writing :
          (entry : List ℕ)
          → Writing entry l.texts l.line l.elements l.initial.out l.initial.buffer
          → Writing entry l.texts l.line l.elements l.out l.buffer;
    }
