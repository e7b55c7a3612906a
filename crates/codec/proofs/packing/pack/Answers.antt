-- `pack` meets its contract: the refusals in document 01's order, else the body at the buffer's start. Assumes nothing.
use Rattle.std.proofs.Common.{List, length, sym, ap, refl, ◌∙◌, arith}
use Rattle.std.proofs.lemmas.List.{length-take-le}
use Rattle.decimal.specs.declared.image.Image.{Image}
use Rattle.decimal.proofs.AnswerLaws.{passed_on}
use Rattle.codec.specs.Packing.{pack_columns, packing_under}
use Rattle.codec.proofs.AlphaLaws.{refused_answers, done_answers}
use Rattle.codec.proofs.BufferLaws.{part_stored}
use Rattle.codec.proofs.BodyLaws.{packable, list_refused, list_room, list_done, packed_size}
use Rattle.codec.proofs.PackLaws.{packs_length}
use Rattle.codec.proofs.packing.pack.Goals as goal

pub returns-in_err-check_list : goal.returns-in_err-check_list
returns-in_err-check_list c =
    let a = c.args in
    let images = a.contents.now.images in
    let room = length a.buffer.now in
    let all = refused_answers (packing_under images a.numbers.now room) a.buffer.now
    (list_refused images a.numbers.now room (sym c.in_err-check_list.ensures)) in
    record { answer = passed_on _ _ c.from_residual.ensures.1 ∙ all.0; bytes = all.1 }

pub returns-then-buffer-size : goal.returns-then-buffer-size
returns-then-buffer-size c =
    let a = c.args in
    let images = a.contents.now.images in
    let room = length a.buffer.now in
    let p = packable images a.numbers.now (sym c.in_ok-check_list.ensures) in
    let all = refused_answers (packing_under images a.numbers.now room) a.buffer.now
    (list_room images a.numbers.now room p (omega (arith, c.body_size-size.ensures, c.if-buffer-size.true))) in
    record { answer = all.0; bytes = all.1 }

pub write_columns-requires : goal.write_columns-requires
write_columns-requires c =
    let p = packable c.args.contents.now.images c.args.numbers.now (sym c.in_ok-check_list.ensures) in
    rw c.images.ensures.images
    (p.packs, length-take-le c.body_size-size.result c.args.buffer.now c.if-buffer-size.false ∙ c.body_size-size.ensures)

pub returns : goal.returns
returns c =
    let a = c.args in
    let images = a.contents.now.images in
    let room = length a.buffer.now in
    let p = packable images a.numbers.now (sym c.in_ok-check_list.ensures) in
    let written = ap (λ (ims : List Image). pack_columns 0 ims a.numbers.now) (sym c.images.ensures.images) ∙ c.write_columns.ensures in
    let size = packed_size images a.numbers.now (packs_length p.packs) written ∙ sym c.body_size-size.ensures in
    let all = done_answers (packing_under images a.numbers.now room) a.buffer.now
    (list_done images a.numbers.now room p written (omega (arith, c.body_size-size.ensures, c.if-buffer-size.false)))
    size
    (part_stored a.buffer.now _ refl size) in
    record { answer = all.0; bytes = all.1 }
