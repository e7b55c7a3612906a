-- `fill_byte` meets its contract: a digit's byte is below ':'. Assumes nothing.
use native.Mathlib.Omega.{arith}
use Rattle.decimal.specs.CutMeaning.{said_by_cut}
use Rattle.records.proofs.LineProofs.FieldLaws.{next_digit_below}
use Rattle.records.proofs.lines.fields.FieldNumber.fill_byte.Goals as goal

pub overflow_add-result : goal.overflow_add-result
overflow_add-result c =
    omega (arith, c.next_digit-digit.ensures, next_digit_below c.args.self.now.cut.image (said_by_cut c.args.self.now.cut) c.args.fill.now)
