-- `lines::printing::check_line` meets its contract: the checks are the definition's, in its order. Assumes nothing.
use native.Mathlib.Omega.{arith}
use mathlib.Core.Path.{sym, ◌∙◌}
use borrow.Author.Tests.{eqb-true, eqb-false}
use Rattle.decimal.specs.Answer.{checked_only}
use Rattle.records.proofs.LineProofs.CheckLaws.{some_refused, line_some}
use Rattle.records.proofs.LineProofs.LineFieldLaws.{listed_none}
use Rattle.records.proofs.lines.printing.check_line.Goals as goal

pub returns-then-has_elements-clause-answer : goal.returns-then-has_elements-clause-answer
unfolding checked_only
returns-then-has_elements-clause-answer c =
    let some = eqb-false _ _ (sym c.is_empty-has_elements.ensures ∙ c.if-has_elements.true) in
    sym (line_some c.args.line.now c.args.elements.now c.args.room
    (sym c.in_ok-check_counts.ensures.answer)
    (sym c.in_ok-fields.ensures.answer)
    (some_refused _ c.args.elements.now (omega arith)
    (listed_none c.in_ok-fields.ensures.listed (eqb-true _ _ (sym c.is_empty.ensures ∙ c.if-is_empty.true)))))
