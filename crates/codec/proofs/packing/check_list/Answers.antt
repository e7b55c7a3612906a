-- `check_list` meets its contract: 10 for a list of another length, else refused as the first column that is. Assumes nothing.
use Rattle.std.proofs.Common.{length, sym, ap, ◌∙◌, ⊎_elim, inl, inr}
use Rattle.decimal.specs.Answer.{checked_only, mapped}
use Rattle.decimal.proofs.AnswerLaws.{passed_on}
use Rattle.codec.proofs.TableLaws.{next_checked}
use Rattle.codec.proofs.BodyLaws.{checking_starts, columns_turn, columns_refused, columns_end, list_each}
use Rattle.codec.proofs.packing.check_list.Goals as goal

pub loop-column-init : goal.loop-column-init
loop-column-init c =
    let images = c.iter.ensures.rest in
    let first = c.zip.ensures.first in
    let second = c.zip.ensures.second in
    let source = c.enumerate-column-items.ensures.source in
    let count = c.enumerate-column-items.ensures.count in
    let same = c.into_iter-column-iterator.ensures.into_iter_gives in
    let all = c.images-images.ensures.images in
    checking_starts c.images-images.ensures.sound.all (cc) (cc) (cc)

pub invariant_of-checked : goal.invariant_of-checked
invariant_of-checked c =
    let checked = (next_checked c.loop-column.invariant.0 c.in-Some.ensures.steps.0.0).0 in
    record { some = checked.nonempty; few = checked.fits }

pub loop-column-preserved : goal.loop-column-preserved
unfolding checked_only mapped
loop-column-preserved c =
    let step = c.in-Some.ensures.steps in (
      (next_checked c.loop-column.invariant.0 step.0.0).1,
      c.loop-column.invariant.1 ∙ columns_turn step.0.0 step.0.1 step.1 step.2 (sym (ap checked_only c.in_ok-fitting_packed.ensures.answer)),
    )

pub returns-in_err-fitting_packed : goal.returns-in_err-fitting_packed
unfolding checked_only mapped
returns-in_err-fitting_packed c =
    let step = c.in-Some.ensures.steps in
    let a = c.args in
    passed_on _ _ c.from_residual.ensures.1
    ∙ sym
    (list_each a.contents.now.images a.numbers.now (c.if-numbers-images.false ∙ ap length c.images-images.ensures.images)
    ∙ c.loop-column.invariant.1
    ∙ columns_refused step.0.0 step.0.1 step.1 (sym (ap checked_only c.in_err-fitting_packed.ensures.answer)))

pub returns : goal.returns
returns c =
    let a = c.args in
    sym
    (list_each a.contents.now.images a.numbers.now (c.if-numbers-images.false ∙ ap length c.images-images.ensures.images)
    ∙ c.loop-column.invariant.1
    ∙ columns_end _ _ _ (⊎_elim (λ none. inl none.1.0) (λ none. inr none.1.0) c.in-None.ensures.steps.0))
