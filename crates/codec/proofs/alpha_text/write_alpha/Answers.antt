-- `write_alpha` meets its contract: refused with 6, else the text stands at the buffer's start. Assumes nothing.
use Rattle.std.proofs.Common.{◌≡◌, ◌<◌, ◌≤◌, length, sym, ◌∙◌, arith, le-ltb, lt-ltb}
use Rattle.decimal.specs.CutMeaning.{said_by_cut}
use Rattle.codec.specs.Alpha.{alpha_text}
use Rattle.codec.specs.Answers.{within}
use Rattle.codec.proofs.AlphaLaws.{refused_answers, done_answers, text_length_lem}
use Rattle.codec.proofs.BufferLaws.{part_stored}
use Rattle.codec.proofs.alpha_text.write_alpha.Goals as goal

pub returns-then-buffer-length : goal.returns-then-buffer-length
unfolding within
returns-then-buffer-length c =
    let a = c.args in
    let room = length a.buffer.now in
    let text = alpha_text a.cut.now.image (said_by_cut a.cut.now) in
    let long : room < length text =
    omega (arith, c.if-buffer-length.true, c.text_length-length.ensures, text_length_lem a.cut.now.image (said_by_cut a.cut.now)) in
    let all = refused_answers (within room text) a.buffer.now (rw (lt-ltb room (length text) long)) in
    record { answer = all.0; bytes = all.1 }

pub returns : goal.returns
unfolding within
returns c =
    let a = c.args in
    let room = length a.buffer.now in
    let text = alpha_text a.cut.now.image (said_by_cut a.cut.now) in
    let size : length text ≡ c.text_length-length.result = text_length_lem a.cut.now.image (said_by_cut a.cut.now) ∙ sym c.text_length-length.ensures in
    let fits : length text ≤ room = omega (arith, c.if-buffer-length.false, size) in
    let all = done_answers (within room text) a.buffer.now (rw (le-ltb room (length text) fits)) size
    (part_stored a.buffer.now text c.write_text.ensures size) in
    record { answer = all.0; bytes = all.1 }
