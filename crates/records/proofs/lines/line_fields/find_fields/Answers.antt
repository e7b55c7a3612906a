-- `lines::line_fields::find_fields` meets its contract: the fields found so far are `Walking`. Assumes nothing.
use native.Mathlib.Omega.{arith}
use mathlib.Core.Path.{ap, ap₂, sym, ◌∙◌}
use mathlib.Core.Logic.{inl, inr}
use mathlib.Core.List.{[], ◌∷◌, ◌++◌}
use borrow.Author.Tests.{eqb-true, eqb-false}
use Rattle.arrayvec.specs.ArrayVec.{ArrayVec}
use Rattle.decimal.specs.Answer.{refused, checked_only}
use Rattle.decimal.proofs.AnswerLaws.{passed_on}
use Rattle.decimal.proofs.ImageLaws.{digits_many}
use Rattle.records.specs.declared.lines.line_fields.Field.{Field}
use Rattle.records.proofs.LineProofs.LineFieldLaws.{scanned_few, begins_not, walking_starts, walking_literal, walking_byte, walking_turn, found_listed, found_refused}
use Rattle.records.proofs.lines.line_fields.find_fields.Goals as goal
use Rattle.records.proofs.lines.line_fields.find_fields.Goals.{then-not-is_full, else-not-is_full}

pub loop-rest-init : goal.loop-rest-init
loop-rest-init c = walking_starts c.args.line.now c.new-fields.ensures

pub overflow_add-scanned : goal.overflow_add-scanned
overflow_add-scanned c = let few = scanned_few c.loop-rest.rest.now c.scan_field-scanned.ensures in omega (arith, few.1)

pub slice_bounds-rest-count : goal.slice_bounds-rest-count
slice_bounds-rest-count c = (scanned_few c.loop-rest.rest.now c.scan_field-scanned.ensures).0

pub slice_bounds-rest-start : goal.slice_bounds-rest-start
slice_bounds-rest-start c = let few = scanned_few c.loop-rest.rest.now c.scan_field-scanned.ensures in omega (arith, few.0)

pub returns-in_err-check_digits-clause-answer : goal.returns-in_err-check_digits-clause-answer
unfolding checked_only
returns-in_err-check_digits-clause-answer c =
    let many = digits_many _ _ c.in_err-check_digits.ensures.answer in
    ap checked_only (passed_on _ _ c.from_residual.ensures.1)
    ∙ ap₂ refused many.1 many.2
    ∙ sym (found_refused c.loop-rest.invariant c.scan_field-scanned.ensures c.if-scanned-eq0.false many.0)

pub loop-rest-preserved-then-not-begins : goal.loop-rest-preserved-then-not-begins
loop-rest-preserved-then-not-begins c =
    let other = begins_not c.loop-rest.rest.now (omega arith) (sym c.begins.ensures ∙ c.if-not-begins.true) in
    walking_literal c.loop-rest.invariant (omega arith) other cc

pub loop-rest-preserved-then-scanned-eq0 : goal.loop-rest-preserved-then-scanned-eq0
loop-rest-preserved-then-scanned-eq0 c = walking_byte c.loop-rest.invariant c.scan_field-scanned.ensures (omega arith) c.if-scanned-eq0.true cc

pub loop-rest-preserved : goal.loop-rest-preserved
loop-rest-preserved c =
    walking_turn c.loop-rest.invariant c.scan_field-scanned.ensures c.if-scanned-eq0.false c.in_ok-check_digits.ensures.few
    (elim c.if-not-is_full.branch [
      | then-not-is_full w ↦ inl (omega (arith, eqb-false _ _ (sym c.is_full.ensures.value ∙ w.if-not-is_full.true), c.is_full.ensures.fits), ap (λ (v : ArrayVec Field). v.items) w.fields-is ∙ w.push.ensures.items ∙ ap (λ (f : Field). c.loop-rest.fields.items ++ (f ∷ [])) w.field_at.ensures)
      | else-not-is_full w ↦ inr (omega (arith, eqb-true _ _ (sym c.is_full.ensures.value ∙ w.if-not-is_full.false)), ap (λ (v : ArrayVec Field). v.items) w.fields-is)
    ])
    cc

pub returns : goal.returns
unfolding checked_only
returns c =
    let end = found_listed c.loop-rest.invariant (omega arith) in
    record { listed = end.1; answer = sym end.0 }
