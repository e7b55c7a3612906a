-- `remainder_of` meets its contract: what a fitting leaves. Assumes nothing.
use mathlib.Core.Path.{sym, ap, ap₂, ◌∙◌}
use Rattle.decimal.specs.Answer.{done, mapped}
use Rattle.decimal.specs.Remainder.{remainder}
use Rattle.decimal.proofs.AnswerLaws.{passed_on}
use Rattle.decimal.proofs.RemainderLaws.{remainder_fit, remainder_refused}
use Rattle.decimal.proofs.remainder.remainder_of.Goals as goal

pub returns-in_err-fitting : goal.returns-in_err-fitting
unfolding mapped
returns-in_err-fitting c =
    let a = c.args in
    passed_on _ _ c.from_residual.ensures.1 ∙ sym (remainder_refused a.image a.number a.place (sym c.in_err-fitting.ensures.answer))

pub returns : goal.returns
returns c =
    let f = c.in_ok-fitting.field-0 in
    let same = c.in_ok-fitting.ensures.parts in
    ap done c.remainder.ensures ∙ sym (remainder_fit f.image f.number f.fits c.args.place) ∙ ap₂ (remainder c.args.place) same.0 same.1
