-- `hulgyevan_read_text_numbers` meets its contract: the words of the numbers that were read are stored, or have no room. Assumes nothing.
use Rattle.std.proofs.Common.{length, ap, sym, ◌∙◌}
use Rattle.decimal.specs.Answer.{Answer}
use Rattle.codec.specs.Answers.{stored_in, sized}
use Rattle.codec.specs.Walking.{Walk}
use Rattle.hulgyevan.specs.Texts.{stop_word}
use Rattle.hulgyevan.proofs.OutcomeLaws.{sized_word, sized_value, sized_other, unsized_word, unsized_value, unsized_other}
use Rattle.hulgyevan.proofs.CallLaws.{walk_stored}
use Rattle.hulgyevan.proofs.texts.hulgyevan_read_text_numbers.Goals as goal

pub returns-in-Ok-clause-word : goal.returns-in-Ok-clause-word
returns-in-Ok-clause-word c =
    let same = walk_stored c.read_text_numbers-walked.result _ c.read_text_numbers-walked.ensures (length c.args.numbers.now) in
    sym (sized_word _ (c.in-Ok.ensures.answer ∙ ap sized same))

pub returns-in-Ok-clause-numbers : goal.returns-in-Ok-clause-numbers
returns-in-Ok-clause-numbers c =
    let same = walk_stored c.read_text_numbers-walked.result _ c.read_text_numbers-walked.ensures (length c.args.numbers.now) in
    c.in-Ok.ensures.words ∙ ap (λ (a : Answer _). stored_in a c.args.numbers.now) same

pub returns-in-Ok-clause-count : goal.returns-in-Ok-clause-count
returns-in-Ok-clause-count c =
    let same = walk_stored c.read_text_numbers-walked.result _ c.read_text_numbers-walked.ensures (length c.args.numbers.now) in
    sym (sized_value _ c.args.count.now (c.in-Ok.ensures.answer ∙ ap sized same))

pub returns-in-Ok-clause-place : goal.returns-in-Ok-clause-place
returns-in-Ok-clause-place c =
    let same = walk_stored c.read_text_numbers-walked.result _ c.read_text_numbers-walked.ensures (length c.args.numbers.now) in
    ap (λ (w : Walk). w.place) c.read_text_numbers-walked.ensures
    ∙ sym (sized_other _ _ c.args.place.now (c.in-Ok.ensures.answer ∙ ap sized same))

pub returns-in-Ok-clause-stop : goal.returns-in-Ok-clause-stop
returns-in-Ok-clause-stop c =
    let same = walk_stored c.read_text_numbers-walked.result _ c.read_text_numbers-walked.ensures (length c.args.numbers.now) in
    c.stop_word.ensures
    ∙ ap (λ (w : Walk). stop_word w.answer) c.read_text_numbers-walked.ensures
    ∙ sym (sized_other _ _ c.args.stop.now (c.in-Ok.ensures.answer ∙ ap sized same))

pub returns-in-Err-clause-word : goal.returns-in-Err-clause-word
returns-in-Err-clause-word c =
    let same = walk_stored c.read_text_numbers-walked.result _ c.read_text_numbers-walked.ensures (length c.args.numbers.now) in
    c.refusal_word.ensures ∙ sym (unsized_word _ (c.in-Err.ensures.answer ∙ ap sized same))

pub returns-in-Err-clause-numbers : goal.returns-in-Err-clause-numbers
returns-in-Err-clause-numbers c =
    let same = walk_stored c.read_text_numbers-walked.result _ c.read_text_numbers-walked.ensures (length c.args.numbers.now) in
    c.in-Err.ensures.words ∙ ap (λ (a : Answer _). stored_in a c.args.numbers.now) same

pub returns-in-Err-clause-count : goal.returns-in-Err-clause-count
returns-in-Err-clause-count c =
    let same = walk_stored c.read_text_numbers-walked.result _ c.read_text_numbers-walked.ensures (length c.args.numbers.now) in
    sym (unsized_value _ c.args.count.now (c.in-Err.ensures.answer ∙ ap sized same))

pub returns-in-Err-clause-place : goal.returns-in-Err-clause-place
returns-in-Err-clause-place c =
    let same = walk_stored c.read_text_numbers-walked.result _ c.read_text_numbers-walked.ensures (length c.args.numbers.now) in
    sym (unsized_other _ _ c.args.place.now (c.in-Err.ensures.answer ∙ ap sized same))

pub returns-in-Err-clause-stop : goal.returns-in-Err-clause-stop
returns-in-Err-clause-stop c =
    let same = walk_stored c.read_text_numbers-walked.result _ c.read_text_numbers-walked.ensures (length c.args.numbers.now) in
    sym (unsized_other _ _ c.args.stop.now (c.in-Err.ensures.answer ∙ ap sized same))
