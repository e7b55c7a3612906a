-- `Contents::unpack_into` meets its contract. The loop's invariant is `Unpacking`, as in `unpack`. Assumes nothing.
use Rattle.codec.proofs.UnpackLaws.{Unpacking}
use Rattle.codec.proofs.contents.Contents.unpack_into.Given as goal

abbrev pub invariant-loop-column : goal.invariant-loop-column
invariant-loop-column l = Unpacking l.images l.body l.numbers.items l.rest l.column
