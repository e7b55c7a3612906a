-- `ReadBody::write_texts` meets its contract: the texts are as long as the contents says. Assumes nothing.
use Prim.Native.Nat.{suc, ◌-◌}
use mathlib.Core.Path.{◌≡◌, refl, ap, subst, ◌∙◌}
use mathlib.Core.List.{List}
use native.Mathlib.Omega.{arith}
use lib.ListN.{length}
use Rattle.std.proofs.lemmas.List.{length-take-le}
use Rattle.decimal.specs.declared.image.Image.{Image}
use Rattle.codec.specs.Columns.{Sound}
use Rattle.codec.specs.Alpha.{line_length}
use Rattle.codec.specs.Contents.{Table}
use Rattle.codec.specs.Bodies.{writing_texts}
use Rattle.codec.proofs.BufferLaws.{part_stored}
use Rattle.codec.proofs.AlphaLaws.{refused_answers, done_answers}
use Rattle.codec.proofs.BodyTextLaws.{has_texts, texts_size, texts_long, texts_fit}
use Rattle.codec.proofs.bodies.ReadBody.write_texts.Goals as goal

pub overflow_sub-length : goal.overflow_sub-length
overflow_sub-length c = (texts_size c.contents.invariant.0 c.contents.invariant.1).0

pub returns-then-buffer-length : goal.returns-then-buffer-length
returns-then-buffer-length c =
    let view = ap (λ (t : Table). t.images) c.contents.view_is in
    let size = texts_size c.contents.invariant.0 c.contents.invariant.1 in
    let long : suc (c.contents.inside.size - 2) ≡ line_length c.args.self.now.contents.now.images = size.1 ∙ ap line_length view in
    let has = has_texts refl (subst (λ (ims : List Image). Sound ims) view c.contents.invariant.0) c.args.self.now.reads in
    let buffer = c.args.buffer.now in
    let all = refused_answers (writing_texts c.args.self.now.contents.now.images c.args.self.now.bytes.now (length buffer)) buffer (texts_long has buffer long c.if-buffer-length.true) in
    record { answer = all.0; bytes = all.1 }

pub write-requires : goal.write-requires
write-requires c =
    let view = ap (λ (t : Table). t.images) c.contents.view_is in
    let size = texts_size c.contents.invariant.0 c.contents.invariant.1 in
    let long : suc (c.contents.inside.size - 2) ≡ line_length c.args.self.now.contents.now.images = size.1 ∙ ap line_length view in
    ap suc (length-take-le (c.contents.inside.size - 2) c.args.buffer.now (omega (arith, c.if-buffer-length.false))) ∙ long

pub returns : goal.returns
returns c =
    let view = ap (λ (t : Table). t.images) c.contents.view_is in
    let size = texts_size c.contents.invariant.0 c.contents.invariant.1 in
    let long : suc (c.contents.inside.size - 2) ≡ line_length c.args.self.now.contents.now.images = size.1 ∙ ap line_length view in
    let has = has_texts refl (subst (λ (ims : List Image). Sound ims) view c.contents.invariant.0) c.args.self.now.reads in
    let buffer = c.args.buffer.now in
    let fit = texts_fit has buffer long (omega (arith, c.if-buffer-length.false)) c.write.ensures in
    let all =
    done_answers (writing_texts c.args.self.now.contents.now.images c.args.self.now.bytes.now (length buffer)) buffer fit.0 fit.1
    (part_stored buffer c.write.new.target refl fit.1) in
    record { answer = all.0; bytes = all.1 }
