-- `unpack_column` meets its contract: the column's number is the one that the cut read from it stands for. Assumes nothing.
use mathlib.Core.Path.{sym, ap, ◌∙◌}
use Rattle.decimal.specs.declared.image.Image.{Image}
use Rattle.decimal.specs.Answer.{mapped}
use Rattle.decimal.specs.Truncation.{truncated_to, number_of}
use Rattle.decimal.proofs.AnswerLaws.{passed_on, mapped_refused_back}
use Rattle.decimal.specs.CutMeaning.{said_by_cut}
use Rattle.codec.specs.Unpacking.{unpack_column}
use Rattle.codec.proofs.CutNumberLaws.{column_read}
use Rattle.codec.proofs.unpacking.unpack_column.Goals as goal

pub returns-in_err-cut : goal.returns-in_err-cut
unfolding mapped
returns-in_err-cut c =
    let a = c.args in
    passed_on _ _ c.from_residual.ensures.1
    ∙ sym (mapped_refused_back (truncated_to a.image) (unpack_column a.column a.image a.bytes.now) c.in_err-cut.ensures.cut)

pub returns : goal.returns
unfolding mapped
returns c =
    let a = c.args in
    column_read a.image c.requires.0 a.column a.bytes.now c.requires.1 c.in_ok-cut.ensures.cut
    (ap (λ (im : Image). number_of 0 im (said_by_cut c.in_ok-cut.cut)) (sym c.in_ok-cut.ensures.image) ∙ c.number_of_cut.ensures)
