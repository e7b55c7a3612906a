-- `foot_digits` meets its contract: the word of a last line is found where it stands. Assumes nothing.
use Rattle.std.proofs.Common.{rules, tests}
use Rattle.records.proofs.FileProofs.EntryLaws.{foot_found}
use Rattle.records.proofs.files.entering.foot_digits.Goals as goal

pub returns-then-is_empty-clause-foot : goal.returns-then-is_empty-clause-foot
returns-then-is_empty-clause-foot c = foot_found c.args.line.now c.args.behind.now (search (rules, tests)) c.strip_prefix.result c.strip_prefix.ensures.cases
