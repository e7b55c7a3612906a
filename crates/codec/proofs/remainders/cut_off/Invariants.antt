-- `cut_off` meets its contract. The loop's invariant is `Leaving`: the remainders that are found and those of the columns that are left make
-- the whole. Assumes nothing.
use Rattle.std.specs.Iterator.Adapters.{zip_first, zip_second}
use Rattle.std.specs.Slice.Iter.{iter_rest}
use Rattle.codec.proofs.RemainderLaws.{left_of, Leaving}
use Rattle.codec.proofs.remainders.cut_off.Given as goal

abbrev pub invariant-loop-image : goal.invariant-loop-image
invariant-loop-image l =
    Leaving (left_of l.images l.numbers) (iter_rest (zip_first l.image-iterator)) (iter_rest (zip_second l.image-iterator)) l.remainders.items
