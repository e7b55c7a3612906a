-- `next_number_place` meets its contract. The loop's invariant is `Skipping`: the place and the bytes left before the next text number make its place.
-- A turn goes on behind the blanks that stand at the place and the byte behind them.
-- The measure is what is left of the text. Assumes nothing.
use Rattle.std.proofs.Common.{◌+◌, sym, ap, ◌∙◌, arith}
use Rattle.std.proofs.lemmas.List.{take_rest}
use Rattle.codec.specs.Text.{blanks_in, legal_length}
use Rattle.codec.proofs.TextLaws.{onward, read_used_lem}
use Rattle.codec.proofs.WalkLaws.{skip_here, skip_past, skip_blank_end}
use Rattle.codec.proofs.walking.next_number_place.Goals as goal

pub returns-then-text-behind : goal.returns-then-text-behind
returns-then-text-behind c =
    let text = c.args.text.now in
    skip_blank_end text c.args.from c.loop-place.place c.loop-place.invariant (c.leading_run.ensures ∙ ap blanks_in (take_rest text c.loop-place.place)) (omega arith)

pub returns-then-reading-ne0 : goal.returns-then-reading-ne0
returns-then-reading-ne0 c =
    let text = c.args.text.now in
    let place = c.loop-place.place in
    let behind = place + c.leading_run.result in
    skip_here text c.args.from place c.loop-place.invariant (omega arith) (c.leading_run.ensures ∙ ap blanks_in (take_rest text place))
    (λ none. c.if-reading-ne0.true (read_used_lem (onward behind text) c.read_text-reading.ensures ∙ ap legal_length (take_rest text behind) ∙ none))

pub loop-place-preserved : goal.loop-place-preserved
loop-place-preserved c =
    let text = c.args.text.now in
    let place = c.loop-place.place in
    let behind = place + c.leading_run.result in
    skip_past text c.args.from place c.loop-place.invariant (c.leading_run.ensures ∙ ap blanks_in (take_rest text place)) (omega arith)
    (sym (read_used_lem (onward behind text) c.read_text-reading.ensures ∙ ap legal_length (take_rest text behind)) ∙ c.if-reading-ne0.false)
