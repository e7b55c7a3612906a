-- `Contents::check_block` meets its contract: refused as the first bad body is. Assumes nothing.
use Prim.Native.Nat.{ℕ, ◌<◌}
use mathlib.Core.Path.{sym, ap, ◌∙◌}
use mathlib.Core.List.{List}
use native.Mathlib.Omega.{arith}
use Rattle.std.specs.Slice.Iter.{chunks_exact_rest}
use Rattle.decimal.proofs.AnswerLaws.{passed_on}
use Rattle.codec.specs.Columns.{body_size}
use Rattle.codec.specs.Halves.{halves_of}
use Rattle.codec.specs.Unpacking.{all_digits}
use Rattle.codec.proofs.PlainLaws.{digits_parts}
use Rattle.codec.specs.Contents.{Table}
use Rattle.codec.proofs.FrontLaws.{sound_body}
use Rattle.codec.proofs.BodiesLaws.{bodies_start, bodies_turn, bodies_stop, bodies_end, pieces_start, pieces_some}
use Rattle.codec.proofs.contents.Contents.check_block.Goals as goal

pub chunks_exact-body-items-requires : goal.chunks_exact-body-items-requires
chunks_exact-body-items-requires c = omega (arith, sound_body c.self.invariant.0, c.self.invariant.2)

pub loop-body-init : goal.loop-body-init
loop-body-init c =
    let size = c.self.invariant.2 ∙ ap (λ (t : Table). body_size t.images) c.self.view_is in
    record {
      checking =
          bodies_start c.args.self.now.images c.args.bodies.now c.requires
          (ap chunks_exact_rest c.into_iter-body-iterator.ensures.into_iter_gives ∙ c.chunks_exact-body-items.ensures.rest);
      digits =
          λ d.
          ap (λ (l : List ℕ). all_digits (halves_of l)) (ap chunks_exact_rest c.into_iter-body-iterator.ensures.into_iter_gives ∙ c.chunks_exact-body-items.ensures.rest)
          ∙ sym c.are_all_digits-digits.ensures
          ∙ d;
      size = pieces_start c.into_iter-body-iterator.ensures.into_iter_gives c.chunks_exact-body-items.ensures.size ∙ size;
    }

pub loop-body-init-derived : goal.loop-body-init-derived
loop-body-init-derived c =
    pieces_some c.into_iter-body-iterator.ensures.into_iter_gives c.chunks_exact-body-items.ensures.size (omega (arith, sound_body c.self.invariant.0, c.self.invariant.2))

pub check_next-requires : goal.check_next-requires
check_next-requires c =
    let l = c.loop-body.invariant in
    let steps = c.in-Some.ensures.steps in (
      steps.1.1 ∙ l.size,
      λ d. (digits_parts _ _ (ap (λ (l : List ℕ). all_digits (halves_of l)) (sym steps.1.0) ∙ l.digits d)).0,
    )

pub loop-body-preserved : goal.loop-body-preserved
loop-body-preserved c =
    let l = c.loop-body.invariant in
    let steps = c.in-Some.ensures.steps in
    let some : 0 < body_size c.args.self.now.images = omega (arith, sound_body c.self.invariant.0, c.self.invariant.2, ap (λ (t : Table). body_size t.images) c.self.view_is) in
    record {
      checking = bodies_turn l.checking some _ _ steps.1.0 (steps.1.1 ∙ l.size) (sym c.in_ok-check_next.ensures);
      digits = λ d. (digits_parts c.in-Some.body.now _ (ap (λ (l : List ℕ). all_digits (halves_of l)) (sym steps.1.0) ∙ l.digits d)).1;
      size = steps.0 ∙ l.size;
    }

pub returns-in_err-check_next : goal.returns-in_err-check_next
returns-in_err-check_next c =
    let l = c.loop-body.invariant in
    let steps = c.in-Some.ensures.steps in
    let some : 0 < body_size c.args.self.now.images = omega (arith, sound_body c.self.invariant.0, c.self.invariant.2, ap (λ (t : Table). body_size t.images) c.self.view_is) in
    passed_on _ _ c.from_residual.ensures.1 ∙ sym (bodies_stop l.checking some _ _ steps.1.0 (steps.1.1 ∙ l.size) (sym c.in_err-check_next.ensures))

pub returns : goal.returns
returns c =
    let l = c.loop-body.invariant in
    let some : 0 < body_size c.args.self.now.images = omega (arith, sound_body c.self.invariant.0, c.self.invariant.2, ap (λ (t : Table). body_size t.images) c.self.view_is) in
    sym (bodies_end l.checking some (omega (arith, c.in-None.ensures.steps.1.0, l.size)))
