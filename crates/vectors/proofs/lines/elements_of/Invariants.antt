-- What has been read and what the iterator has left are the whole list.
use Rattle.std.proofs.Common.{◌≡◌, ◌+◌, length}
use Rattle.std.specs.Slice.Iter.{split_inclusive_rest}
use Rattle.vectors.proofs.lines.elements_of.Given as goal

abbrev pub invariant-loop-part : goal.invariant-loop-part
invariant-loop-part l = l.start + length (split_inclusive_rest l.part-iterator) ≡ length l.list
