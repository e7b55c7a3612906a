-- `read_contents` meets its contract. The loop's invariant is `Reading`: the images read, with those that the rest gives behind them, are
-- those of the whole. Assumes nothing.
use Rattle.codec.proofs.ContentsLaws.{Reading}
use Rattle.codec.proofs.contents.Contents.read_front.Given as goal

abbrev pub invariant-loop-column : goal.invariant-loop-column
invariant-loop-column l = Reading l.initial.rest l.count l.images.items l.body l.rest l.column
