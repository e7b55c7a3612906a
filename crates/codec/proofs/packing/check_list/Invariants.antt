-- `check_list` meets its contract. The loop's invariant: the columns that are left are refused as all of them are, and their images are
-- checked. Assumes nothing.
use Rattle.std.specs.Prelude.{◌≡◌}
use Rattle.std.specs.Iterator.Adapters.{enumerate_source, enumerate_count, zip_first, zip_second}
use Rattle.std.specs.Slice.Iter.{iter_rest}
use Rattle.decimal.specs.Answer.{checked_only}
use Rattle.codec.specs.Columns.{AllChecked}
use Rattle.codec.specs.Packing.{pack_columns}
use Rattle.codec.proofs.packing.check_list.Given as goal

abbrev pub invariant-loop-column : goal.invariant-loop-column
invariant-loop-column l =
    let pairs = enumerate_source l.column-iterator in
    AllChecked (iter_rest (zip_first pairs))
    × (checked_only (pack_columns 0 l.contents.images l.numbers)
    ≡ checked_only (pack_columns (enumerate_count l.column-iterator) (iter_rest (zip_first pairs)) (iter_rest (zip_second pairs))))
