-- `write_body` meets its contract: no number of the line is refused, and its columns are written one behind the other. Assumes nothing.
use Rattle.std.proofs.Common.{arith}
use Rattle.codec.specs.Lists.{no_image}
use Rattle.records.proofs.FileProofs.LineBodyLaws.{left_starts, left_ends, number_reads, read_inside, number_fits, column_stored, column_fits, left_turns}
use Rattle.records.proofs.files.entering.write_body.Goals as goal

pub loop-column-init : goal.loop-column-init
loop-column-init c = left_starts c.requires

pub returns-in_err-read : goal.returns-in_err-read
returns-in_err-read c = number_reads c.loop-column.invariant no_image c.loop-column-test.true c.in_err-read.ensures

pub invariant_of-fitting : goal.invariant_of-fitting
invariant_of-fitting c = record { fits = number_fits c.loop-column.invariant _ c.loop-column-test.true c.in_ok-read.ensures }

pub returns-in_err-at : goal.returns-in_err-at
returns-in_err-at c =
    column_stored c.loop-column.invariant _ c.loop-column-test.true c.in_ok-read.ensures c.cut.ensures.cut c.cut.ensures.image
    c.in_err-at.ensures.answer

pub overflow_add-at : goal.overflow_add-at
overflow_add-at c =
    let fits = column_fits c.loop-column.invariant _ c.loop-column-test.true c.in_ok-read.ensures c.cut.ensures.cut c.cut.ensures.image c.in_ok-at.ensures.answer in
    omega (arith, fits)

pub slice_bounds-rest-count : goal.slice_bounds-rest-count
slice_bounds-rest-count c = read_inside c.loop-column.invariant no_image c.loop-column-test.true c.in_ok-read.ensures

pub loop-column-preserved : goal.loop-column-preserved
loop-column-preserved c =
    left_turns c.loop-column.invariant _ c.loop-column-test.true c.in_ok-read.ensures c.cut.ensures.cut c.cut.ensures.image
    c.in_ok-at.ensures.answer c.store_column.ensures.bytes

pub returns-clause-bytes : goal.returns-clause-bytes
returns-clause-bytes c = left_ends c.loop-column.invariant (omega (arith, c.loop-column-test.false))
