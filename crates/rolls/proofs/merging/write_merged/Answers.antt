-- `write_merged` meets its contract: each time the body that goes first is written, at last the bodies that are left. Assumes nothing.
use Rattle.std.proofs.Common.{sym, subst, ◌∙◌, inl, inr, arith}
use Rattle.rolls.proofs.FilledLaws.{filled_some, bytes_known}
use Rattle.rolls.proofs.MergeWriteLaws.{writing_starts, writing_first, writing_second, writing_tail, runs_tell}
use Rattle.codec.specs.Order.{Bytes}
use Rattle.codec.proofs.ReadBackTheorem.{bytes_drop}
use borrow.Author.Tests.{eqb-true, le-leb, lt-leb}
use Rattle.rolls.proofs.merging.write_merged.Goals as goal
use Rattle.rolls.proofs.merging.write_merged.Goals.{then-loop-end-test+else-not-is_empty, else-loop-end-test}

pub loop-end-init : goal.loop-end-init
loop-end-init c =
    record {
      writing = writing_starts c.args.width c.requires.whole.0 c.requires.whole.1 c.requires.room;
      one = c.ordered_run-one.ensures;
      other = c.ordered_run-other.ensures;
      known = bytes_known _ (λ i. omega (arith, c.type_inv.first i));
      other_known = bytes_known _ (λ i. omega (arith, c.type_inv.second i));
    }

pub loop-end-preserved-then-first_goes : goal.loop-end-preserved-then-first_goes
loop-end-preserved-then-first_goes c =
    let i = c.loop-end.invariant in
    let some = filled_some c.requires.sizes.2 i.writing.one (sym c.is_empty.ensures ∙ c.loop-end-test.true) in
    let other_some = filled_some c.requires.sizes.2 i.writing.two (sym c.is_empty-in-loop-end.ensures ∙ c.if-not-is_empty.true) in
    record {
      writing =
          writing_first i.writing c.requires.sizes.2 (sym c.is_empty.ensures ∙ c.loop-end-test.true) (sym c.is_empty-in-loop-end.ensures ∙ c.if-not-is_empty.true)
          (c.copy_from_slice.ensures.after ∙ c.split_at.ensures.front)
          c.split_at.ensures.back
          (runs_tell c.requires.sizes.0 c.requires.sizes.1 i.known i.other_known some other_some i.one i.other (le-leb c.loop-end.one c.loop-end.other c.if-first_goes.true));
      one = c.ordered_run-one-then-first_goes.ensures;
      other = i.other;
      known = subst Bytes (sym c.split_at.ensures.back) (bytes_drop c.args.body i.known);
      other_known = i.other_known;
    }

pub loop-end-preserved : goal.loop-end-preserved
loop-end-preserved c =
    let i = c.loop-end.invariant in
    let some = filled_some c.requires.sizes.2 i.writing.one (sym c.is_empty.ensures ∙ c.loop-end-test.true) in
    let other_some = filled_some c.requires.sizes.2 i.writing.two (sym c.is_empty-in-loop-end.ensures ∙ c.if-not-is_empty.true) in
    record {
      writing =
          writing_second i.writing c.requires.sizes.2 (sym c.is_empty.ensures ∙ c.loop-end-test.true) (sym c.is_empty-in-loop-end.ensures ∙ c.if-not-is_empty.true)
          (c.copy_from_slice-else-first_goes.ensures.after ∙ c.split_at-else-first_goes.ensures.front)
          c.split_at-else-first_goes.ensures.back
          (runs_tell c.requires.sizes.0 c.requires.sizes.1 i.known i.other_known some other_some i.one i.other (lt-leb c.loop-end.one c.loop-end.other c.if-first_goes.false));
      one = i.one;
      other = c.ordered_run-other-else-first_goes.ensures;
      known = i.known;
      other_known = subst Bytes (sym c.split_at-else-first_goes.ensures.back) (bytes_drop c.args.body i.other_known);
    }

pub returns : goal.returns
returns c =
    writing_tail c.loop-end.invariant.writing c.requires.sizes.2 c.copy_from_slice-2.ensures.after c.copy_from_slice-3.ensures.after
    (elim c.loop-end-test.branch [
      | then-loop-end-test+else-not-is_empty w ↦ inr (eqb-true _ _ (sym w.is_empty-in-loop-end.ensures ∙ w.if-not-is_empty.false))
      | else-loop-end-test w ↦ inl (eqb-true _ _ (sym c.is_empty.ensures ∙ w.loop-end-test.false))
    ])
