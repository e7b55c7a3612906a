-- `column_run` meets its contract: the exponent, where there is one, and the pad stand behind the sign half and the digits. Assumes nothing.
use mathlib.Core.Path.{◌≡◌, ◌∙◌}
use mathlib.Core.List.{◌++◌}
use Rattle.decimal.specs.Digits.{packed_of}
use Rattle.codec.specs.Packing.{exponent_halves}
use Rattle.decimal.specs.CutMeaning.{said_by_cut}
use Rattle.codec.proofs.RunLaws.{column_front, exponent_joined, exponent_none, column_padded}
use Rattle.codec.proofs.packing.column_run.Goals as goal
use Rattle.codec.proofs.packing.column_run.Goals.{then-cut, else-cut}

pub returns : goal.returns
returns c =
    let im = c.args.cut.now.image in
    let t = said_by_cut c.args.cut.now in
    let before : c.if-cut.run ≡ packed_of (column_front im t ++ exponent_halves im.exponential t) =
    elim c.if-cut.branch [
      | then-cut w ↦ w.run-is ∙ exponent_joined im t c.args.cut.now.made.size w.if-cut.true (c.from-run.ensures ∙ c.signed_run.ensures) (w.from.ensures ∙ w.exponent_run.ensures)
      | else-cut w ↦ w.run-is ∙ exponent_none im t w.if-cut.false (c.from-run.ensures ∙ c.signed_run.ensures)
    ] in
    column_padded im t c.args.cut.now.made.size before c.half_count.ensures
