-- `alpha_under` meets its contract: the refusals in document 01's order, else the text at the buffer's start. Assumes nothing.
use Rattle.std.proofs.Common.{List, ℕ, length, sym, ap, ◌∙◌}
use Rattle.decimal.specs.declared.image.Image.{Image}
use Rattle.decimal.specs.Answer.{Answer, mapped}
use Rattle.decimal.specs.CutMeaning.{said_by_cut}
use Rattle.decimal.proofs.AnswerLaws.{passed_on}
use Rattle.codec.specs.Alpha.{writing_alpha_under, alpha_text}
use Rattle.codec.specs.Answers.{within, sized, stored_in}
use Rattle.codec.proofs.AlphaLaws.{refused_answers, under_refused, writing_under_refused, writing_under_made}
use Rattle.codec.proofs.alpha_text.alpha_under.Goals as goal

pub returns-in_err-cut : goal.returns-in_err-cut
unfolding mapped
returns-in_err-cut c =
    let a = c.args in
    let room = length a.buffer.now in
    let all = refused_answers (writing_alpha_under a.image a.number room) a.buffer.now
    (writing_under_refused a.image a.number room (under_refused a.image a.number (sym c.in_err-cut.ensures.cut))) in
    record { answer = passed_on _ _ c.from_residual.ensures.1 ∙ all.0; bytes = all.1 }

pub returns : goal.returns
unfolding mapped
returns c =
    let a = c.args in
    let room = length a.buffer.now in
    let made = said_by_cut c.in_ok-cut.cut in
    let same = ap (λ (im : Image). within room (alpha_text im made)) c.in_ok-cut.ensures.image
    ∙ sym (writing_under_made a.image a.number room (sym c.in_ok-cut.ensures.cut)) in
    record {
      answer = c.write_alpha.ensures.answer ∙ ap sized same;
      bytes = c.write_alpha.ensures.bytes ∙ ap (λ (w : Answer (List ℕ)). stored_in w a.buffer.now) same;
    }
