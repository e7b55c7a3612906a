-- `Contents::check_bodies` meets its contract: refused where the last body is incomplete, then as the first bad one is. Assumes nothing.
use Prim.Native.Nat.{ℕ, ◌+◌, ◌-◌, ◌*◌, ◌%◌, ◌<◌}
use mathlib.Core.Path.{◌≡◌, sym, ap, ◌∙◌}
use lib.ListN.{length}
use native.Mathlib.Omega.{arith}
use Rattle.decimal.proofs.AnswerLaws.{passed_on}
use Rattle.codec.specs.Columns.{body_size}
use Rattle.codec.specs.Contents.{Table}
use Rattle.codec.proofs.FrontLaws.{sound_body}
use Rattle.codec.proofs.BodiesLaws.{bodies_torn, blocks_start, block_within, block_asked, blocks_turn, blocks_stop, blocks_end}
use Rattle.codec.proofs.contents.Contents.check_bodies.Goals as goal

pub nonzero_rem-is_torn : goal.nonzero_rem-is_torn
nonzero_rem-is_torn c = omega (arith, sound_body c.self.invariant.0, c.self.invariant.2)

pub returns-then-is_torn : goal.returns-then-is_torn
returns-then-is_torn c =
    let size = c.self.invariant.2 ∙ ap (λ (t : Table). body_size t.images) c.self.view_is in
    sym (bodies_torn c.args.self.now.images c.args.bodies.now (λ e. c.if-is_torn.true (ap (λ (n : ℕ). length c.args.bodies.now % n) size ∙ e)))

pub loop-count-init : goal.loop-count-init
loop-count-init c =
    let size = c.self.invariant.2 ∙ ap (λ (t : Table). body_size t.images) c.self.view_is in
    record {
      checking =
          rw size (blocks_start c.args.self.now.images c.args.bodies.now (ap (λ (n : ℕ). length c.args.bodies.now % n) (sym size) ∙ c.if-is_torn.false));
      some = omega arith;
      few = omega arith;
    }

pub overflow_mul-taken : goal.overflow_mul-taken
overflow_mul-taken c =
    let size = c.self.invariant.2 ∙ ap (λ (t : Table). body_size t.images) c.self.view_is in
    let parts : c.min-taken.result + (c.loop-count.count - c.min-taken.result) ≡ c.loop-count.count = omega (arith, c.min-taken.ensures) in
    let within = block_within c.loop-count.invariant.checking c.min-taken.result _ parts (ap (λ (n : ℕ). c.min-taken.result * n) size) in
    omega (arith, within, c.loop-count.invariant.checking.inside)

pub split_at-requires : goal.split_at-requires
split_at-requires c =
    let size = c.self.invariant.2 ∙ ap (λ (t : Table). body_size t.images) c.self.view_is in
    let parts : c.min-taken.result + (c.loop-count.count - c.min-taken.result) ≡ c.loop-count.count = omega (arith, c.min-taken.ensures) in
    block_within c.loop-count.invariant.checking c.min-taken.result _ parts (ap (λ (n : ℕ). c.min-taken.result * n) size)

pub check_block-requires : goal.check_block-requires
check_block-requires c =
    let size = c.self.invariant.2 ∙ ap (λ (t : Table). body_size t.images) c.self.view_is in
    let parts : c.min-taken.result + (c.loop-count.count - c.min-taken.result) ≡ c.loop-count.count = omega (arith, c.min-taken.ensures) in
    block_asked c.loop-count.invariant.checking c.min-taken.result _ parts (ap (λ (n : ℕ). c.min-taken.result * n) size) c.split_at.ensures.front

pub returns-in_err-check_block : goal.returns-in_err-check_block
returns-in_err-check_block c =
    let size = c.self.invariant.2 ∙ ap (λ (t : Table). body_size t.images) c.self.view_is in
    let some : 0 < body_size c.args.self.now.images = omega (arith, sound_body c.self.invariant.0, c.self.invariant.2, ap (λ (t : Table). body_size t.images) c.self.view_is) in
    let parts : c.min-taken.result + (c.loop-count.count - c.min-taken.result) ≡ c.loop-count.count = omega (arith, c.min-taken.ensures) in
    passed_on _ _ c.from_residual.ensures.1
    ∙ sym
    (blocks_stop c.loop-count.invariant.checking c.min-taken.result _ parts (ap (λ (n : ℕ). c.min-taken.result * n) size) c.split_at.ensures.front c.split_at.ensures.back some
    (sym c.in_err-check_block.ensures))

pub loop-count-preserved : goal.loop-count-preserved
loop-count-preserved c =
    let size = c.self.invariant.2 ∙ ap (λ (t : Table). body_size t.images) c.self.view_is in
    let some : 0 < body_size c.args.self.now.images = omega (arith, sound_body c.self.invariant.0, c.self.invariant.2, ap (λ (t : Table). body_size t.images) c.self.view_is) in
    let parts : c.min-taken.result + (c.loop-count.count - c.min-taken.result) ≡ c.loop-count.count = omega (arith, c.min-taken.ensures) in
    record {
      checking =
          blocks_turn c.loop-count.invariant.checking c.min-taken.result _ parts (ap (λ (n : ℕ). c.min-taken.result * n) size) c.split_at.ensures.front c.split_at.ensures.back some
          (sym c.in_ok-check_block.ensures);
      some = omega (arith, c.min-most.ensures, c.min-taken.ensures, c.loop-count.invariant.some, c.loop-count-test.true);
      few = omega (arith, c.min-most.ensures);
    }

pub returns : goal.returns
returns c = sym (blocks_end c.loop-count.invariant.checking (omega (arith, c.loop-count-test.false)))
