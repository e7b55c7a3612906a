-- `truncated` meets its contract: what fits has the number that its truncation stands for. Assumes nothing.
use mathlib.Core.Path.{sym, ap₂, ◌∙◌}
use Rattle.decimal.specs.Answer.{mapped}
use Rattle.decimal.specs.Truncation.{truncated_number}
use Rattle.decimal.proofs.AnswerLaws.{passed_on}
use Rattle.decimal.proofs.FittingLaws.{truncated_refused, truncated_fit}
use Rattle.decimal.proofs.truncation.truncated.Goals as goal

pub returns-in_err-fitting : goal.returns-in_err-fitting
unfolding mapped
returns-in_err-fitting c =
    let a = c.args in
    passed_on _ _ c.from_residual.ensures.1 ∙ sym (truncated_refused a.place a.image a.number (sym c.in_err-fitting.ensures.answer))

pub returns : goal.returns
returns c =
    let f = c.in_ok-fitting.field-0 in
    let same = c.in_ok-fitting.ensures.parts in
    sym (c.truncated.ensures c.args.place)
    ∙ sym (truncated_fit c.args.place f.image f.number f.fits)
    ∙ ap₂ (truncated_number c.args.place) same.0 same.1
