-- `check_count` meets its contract: there is room for the digits of a count. Assumes nothing.
use Rattle.std.proofs.Common.{sym, ◌∙◌}
use Rattle.std.proofs.lemmas.List.{length-take-le}
use Rattle.records.proofs.WritingLaws.{counted_few}
use Rattle.records.proofs.files.entering.check_count.Goals as goal

pub slice_bounds-write_decimal-end : goal.slice_bounds-write_decimal-end
slice_bounds-write_decimal-end c = sym (length-take-le _ _ (counted_few c.args.count c.decimal_length-size.ensures))

pub write_decimal-requires : goal.write_decimal-requires
write_decimal-requires c = length-take-le _ _ (counted_few c.args.count c.decimal_length-size.ensures) ∙ c.decimal_length-size.ensures
