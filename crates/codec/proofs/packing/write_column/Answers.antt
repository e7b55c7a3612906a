-- `write_column` meets its contract: the run of the whole column makes its bytes. Assumes nothing.
use mathlib.Core.Path.{◌∙◌}
use native.Mathlib.Omega.{arith}
use Rattle.decimal.specs.CutMeaning.{said_by_cut}
use Rattle.codec.proofs.RunLaws.{run_column, run_room}
use Rattle.codec.proofs.packing.write_column.Goals as goal

pub write_run-requires : goal.write_run-requires
write_run-requires c =
    let cut = c.args.cut.now in omega (arith, c.requires, run_room cut.image (said_by_cut cut) cut.made.size)

pub returns : goal.returns
returns c =
    let cut = c.args.cut.now in c.write_run.ensures ∙ run_column cut.image (said_by_cut cut) c.requires c.column_run.ensures
