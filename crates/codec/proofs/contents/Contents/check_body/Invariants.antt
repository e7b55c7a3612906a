-- `Contents::check_body` meets its contract. The loop's invariant: the columns so far stand for some numbers. Assumes nothing.
use Rattle.codec.proofs.UnpackLaws.{CheckingColumns}
use Rattle.codec.proofs.contents.Contents.check_body.Given as goal

abbrev pub invariant-loop-column : goal.invariant-loop-column
invariant-loop-column l = CheckingColumns l.images l.body l.rest l.column
