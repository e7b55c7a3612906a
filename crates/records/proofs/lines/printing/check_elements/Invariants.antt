-- `lines::printing::check_elements` meets its contract. The loop's invariant: the check of the elements from here on is that of all. Assumes nothing.
use mathlib.Core.Path.{◌≡◌}
use lib.ListN.{drop}
use Rattle.records.specs.Lines.Printing.{check_elements}
use Rattle.records.proofs.lines.printing.check_elements.Given as goal

abbrev pub invariant-loop-index : goal.invariant-loop-index
invariant-loop-index l = check_elements l.room l.index (drop l.index l.elements) ≡ check_elements l.room 0 l.elements
