-- `read_line` meets its contract: the numbers, or the first refusal. Assumes nothing.
use Rattle.std.proofs.Common.{rules, tests, sym, ap, ◌∙◌}
use Rattle.decimal.specs.Answer.{checked_only, given}
use Rattle.records.proofs.FileProofs.EntryLaws.{line_ends, line_full}
use Rattle.records.proofs.files.entering.read_line.Goals as goal

pub returns-then-is_full : goal.returns-then-is_full
unfolding checked_only given
returns-then-is_full c =
    let full = line_full c.loop-rest.invariant (search (rules, tests)) (search (rules, tests)) in
    record { answer = sym (ap checked_only full); list = c.clear-then-is_full.ensures ∙ sym (ap given full) }

pub returns : goal.returns
unfolding checked_only given
returns c =
    let all = line_ends c.loop-rest.invariant (search (rules, tests)) in
    record { answer = ap checked_only all; list = ap given all }
