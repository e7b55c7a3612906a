-- `ReadBody::write` meets its contract: the texts are written one behind the other, a blank before each but the first. Assumes nothing.
use Prim.Native.Nat.{ℕ, suc}
use mathlib.Core.Path.{◌≡◌, ap, ◌∙◌}
use mathlib.Core.List.{List}
use mathlib.Core.Logic.{inl, inr}
use native.Mathlib.Omega.{arith}
use lib.ListN.{length}
use Rattle.std.proofs.lemmas.List.{length-take-le}
use Rattle.decimal.specs.declared.image.Image.{Image}
use Rattle.decimal.specs.Answer.{Answer, done}
use Rattle.codec.specs.Lists.{no_image}
use Rattle.codec.specs.Alpha.{line_length}
use Rattle.codec.specs.Bodies.{body_text}
use Rattle.codec.proofs.ComingLaws.{lent_length}
use Rattle.codec.proofs.BodyTextLaws.{has_texts, text_is, columns_start, texts_start, blank_room, texts_end, text_comes, column_checked, column_inside, columns_turn, column_reads, column_writes, text_room, text_turns}
use Rattle.codec.proofs.bodies.ReadBody.write.Goals as goal
use Rattle.codec.proofs.bodies.ReadBody.write.Goals.{then-column-gt0, else-column-gt0}

pub loop-column-init : goal.loop-column-init
loop-column-init c =
    let has = has_texts c.images-images.ensures.images c.images-images.ensures.sound c.args.self.now.reads in
    record { columns = columns_start has; texting = texts_start has c.args.target.now }

pub bounds-target-out : goal.bounds-target-out
bounds-target-out c =
    let has = has_texts c.images-images.ensures.images c.images-images.ensures.sound c.args.self.now.reads in
    let long : suc (length c.loop-column.target) ≡ line_length c.images-images.result.now = omega (arith, c.requires, ap line_length c.images-images.ensures.images) in
    blank_room has c.loop-column.column c.loop-column.invariant.texting long c.if-column-gt0.true c.loop-column-test.true

pub split_at-requires : goal.split_at-requires
split_at-requires c = rw (c.column_size.ensures) (column_inside (has_texts c.images-images.ensures.images c.images-images.ensures.sound c.args.self.now.reads) _ c.loop-column.invariant.columns c.loop-column-test.true)

pub overflow_add-end : goal.overflow_add-end
overflow_add-end c =
    let has = has_texts c.images-images.ensures.images c.images-images.ensures.sound c.args.self.now.reads in
    let long : suc (length c.loop-column.target) ≡ line_length c.images-images.result.now = omega (arith, c.requires, ap line_length c.images-images.ensures.images) in
    let p = c.loop-column.invariant.columns in
    let more = c.loop-column-test.true in
    let comes =
    text_comes has c.loop-column.column c.loop-column.invariant.texting long more
    (elim c.if-column-gt0.branch [
      | then-column-gt0 w ↦ inl (w.if-column-gt0.true, w.target-is, w.out-is)
      | else-column-gt0 w ↦ inr (omega (arith, w.if-column-gt0.false), w.target-is, w.out-is)
    ]) in
    let room = text_room has no_image p more comes (omega (arith, long)) in
    omega (arith, room, c.text_length.ensures)

pub slice_bounds-write_column_text-end : goal.slice_bounds-write_column_text-end
slice_bounds-write_column_text-end c =
    let has = has_texts c.images-images.ensures.images c.images-images.ensures.sound c.args.self.now.reads in
    let long : suc (length c.loop-column.target) ≡ line_length c.images-images.result.now = omega (arith, c.requires, ap line_length c.images-images.ensures.images) in
    let p = c.loop-column.invariant.columns in
    let more = c.loop-column-test.true in
    let comes =
    text_comes has c.loop-column.column c.loop-column.invariant.texting long more
    (elim c.if-column-gt0.branch [
      | then-column-gt0 w ↦ inl (w.if-column-gt0.true, w.target-is, w.out-is)
      | else-column-gt0 w ↦ inr (omega (arith, w.if-column-gt0.false), w.target-is, w.out-is)
    ]) in
    let room = text_room has no_image p more comes (omega (arith, long)) in
    omega (arith, room, c.text_length.ensures)

pub write_column_text-requires : goal.write_column_text-requires
write_column_text-requires c =
    let has = has_texts c.images-images.ensures.images c.images-images.ensures.sound c.args.self.now.reads in
    let long : suc (length c.loop-column.target) ≡ line_length c.images-images.result.now = omega (arith, c.requires, ap line_length c.images-images.ensures.images) in
    let p = c.loop-column.invariant.columns in
    let more = c.loop-column-test.true in
    let comes =
    text_comes has c.loop-column.column c.loop-column.invariant.texting long more
    (elim c.if-column-gt0.branch [
      | then-column-gt0 w ↦ inl (w.if-column-gt0.true, w.target-is, w.out-is)
      | else-column-gt0 w ↦ inr (omega (arith, w.if-column-gt0.false), w.target-is, w.out-is)
    ]) in
    let room = text_room has no_image p more comes (omega (arith, long)) in
    let width = c.column_size.ensures in (
      column_checked has _ p more,
      ap length c.split_at.ensures.front ∙ length-take-le _ _ (rw width (column_inside has _ p more)) ∙ width,
      column_reads has _ p more width c.split_at.ensures.front,
      lent_length c.if-column-gt0.target c.if-column-gt0.out _ (omega (arith, room, c.text_length.ensures)) ∙ omega (arith, c.text_length.ensures),
    )

pub loop-column-preserved : goal.loop-column-preserved
loop-column-preserved c =
    let has = has_texts c.images-images.ensures.images c.images-images.ensures.sound c.args.self.now.reads in
    let long : suc (length c.loop-column.target) ≡ line_length c.images-images.result.now = omega (arith, c.requires, ap line_length c.images-images.ensures.images) in
    let p = c.loop-column.invariant.columns in
    let more = c.loop-column-test.true in
    let comes =
    text_comes has c.loop-column.column c.loop-column.invariant.texting long more
    (elim c.if-column-gt0.branch [
      | then-column-gt0 w ↦ inl (w.if-column-gt0.true, w.target-is, w.out-is)
      | else-column-gt0 w ↦ inr (omega (arith, w.if-column-gt0.false), w.target-is, w.out-is)
    ]) in
    rw c.split_at.ensures.back
    (record {
      columns = columns_turn has _ p more c.column_size.ensures;
      texting =
          text_turns has _ p more comes (omega (arith, long)) (omega (arith, c.text_length.ensures)) c.text_length.ensures
          (column_writes has _ p more c.column_size.ensures c.split_at.ensures.front c.write_column_text.ensures);
    })

pub returns : goal.returns
returns c =
    let has = has_texts c.images-images.ensures.images c.images-images.ensures.sound c.args.self.now.reads in
    let long : suc (length c.loop-column.target) ≡ line_length c.images-images.result.now = omega (arith, c.requires, ap line_length c.images-images.ensures.images) in
    ap {B = Answer (List ℕ)} done (texts_end has c.loop-column.column c.loop-column.invariant.texting long c.loop-column-test.false)
    ∙ text_is has
    ∙ ap (λ (ims : List Image). body_text ims c.args.self.now.bytes.now) c.images-images.ensures.images
