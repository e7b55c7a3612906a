-- `elements_of` meets its contract. The loop's invariant: the elements that it went over are in the list, and those are no more than it has
-- room for. Assumes nothing.
use Rattle.std.proofs.Common.{◌≡◌, ◌≤◌, take}
use Rattle.hulgyevan.specs.Lines.{elements_in}
use Rattle.hulgyevan.proofs.lines.elements_of.Given as goal

abbrev pub invariant-loop-element : goal.invariant-loop-element
invariant-loop-element g l = (l.list.items ≡ elements_in (take l.element-index l.elements)) × (l.element-index ≤ g.row.N)
