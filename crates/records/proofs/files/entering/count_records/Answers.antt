-- `count_records` meets its contract: a line that can be packed is a record more. Assumes nothing.
use Rattle.std.proofs.Common.{rules, tests, sym}
use Rattle.records.proofs.FileProofs.EntryLaws.{count_turns, count_fewer}
use Rattle.records.proofs.files.entering.count_records.Goals as goal

pub loop-rest-smaller : goal.loop-rest-smaller
loop-rest-smaller c = count_fewer c.loop-rest.invariant c.split_line.ensures.behind (search (rules, tests))

pub loop-rest-preserved : goal.loop-rest-preserved
loop-rest-preserved c =
    count_turns c.loop-rest.invariant c.split_line.ensures.line c.split_line.ensures.behind (search (rules, tests)) (sym c.in_default.ensures.foot)
    (sym c.in_default-check_line.ensures)
