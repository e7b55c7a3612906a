-- `write_columns` meets its contract. The loop's invariant is `Writing`: what is written and the columns that are left make the whole.
-- Assumes nothing.
use Rattle.std.specs.Iterator.Adapters.{zip_first, zip_second}
use Rattle.std.specs.Slice.Iter.{iter_rest}
use Rattle.codec.proofs.BodyLaws.{bytes_of, Writing}
use Rattle.codec.proofs.packing.write_columns.Given as goal

abbrev pub invariant-loop-image : goal.invariant-loop-image
invariant-loop-image l =
    Writing (bytes_of l.images l.numbers) (iter_rest (zip_first l.image-iterator)) (iter_rest (zip_second l.image-iterator)) l.at l.body
