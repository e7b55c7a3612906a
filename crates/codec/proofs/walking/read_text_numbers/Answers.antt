-- `read_text_numbers` meets its contract: each turn reads one number more, up to where no number follows, one is refused or none has room.
-- Assumes nothing.
use Rattle.std.proofs.Common.{rules, drop, ap, sym, ◌∙◌}
use Rattle.decimal.specs.Answer.{meaning}
use Rattle.codec.proofs.TextLaws.{read_used_lem, read_number}
use Rattle.codec.proofs.WalkLaws.{collecting_stops, collecting_refused, collecting_ends}
use Rattle.codec.proofs.walking.read_text_numbers.Goals as goal
use Rattle.codec.proofs.walking.read_text_numbers.Goals.{then-reading-eq0-via-then-reading-eq0, then-reading-eq0-via-else-reading-eq0+then-is_full}

pub returns-then-reading-eq0 : goal.returns-then-reading-eq0
returns-then-reading-eq0 c =
    let size = read_used_lem (drop c.loop-numbers.place c.args.text.now) c.read_at-reading.ensures in
    elim c.then-reading-eq0.branch [
      | then-reading-eq0-via-then-reading-eq0 w ↦
          collecting_stops c.args.text.now c.args.from c.loop-numbers.invariant (sym size ∙ w.if-reading-eq0.true) c.why_stopped.ensures
      | then-reading-eq0-via-else-reading-eq0+then-is_full w ↦
          collecting_ends c.args.text.now c.args.from c.loop-numbers.invariant (search rules) c.why_stopped.ensures
    ]

pub returns-in-Err : goal.returns-in-Err
returns-in-Err c =
    let rest = drop c.loop-numbers.place c.args.text.now in
    collecting_refused c.args.text.now c.args.from c.loop-numbers.invariant (search rules)
    (λ none. c.if-reading-eq0.false (read_used_lem rest c.read_at-reading.ensures ∙ none))
    (read_number rest c.read_at-reading.ensures ∙ ap meaning c.in-Err.is)
    c.len.ensures.value
