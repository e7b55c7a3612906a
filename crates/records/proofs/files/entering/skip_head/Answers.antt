-- `skip_head` meets its contract: the records' lines begin behind a first line that has the count of columns. Assumes nothing.
use Rattle.records.specs.Files.Entering.{begins_with}
use Rattle.records.proofs.FileProofs.EntryLaws.{head_none, head_good, head_bad}
use Rattle.records.proofs.files.entering.skip_head.Goals as goal

pub returns-in_default-clause-lines : goal.returns-in_default-clause-lines
unfolding begins_with
returns-in_default-clause-lines c = head_none c.args.images.now c.args.text.now c.split_line.ensures.line c.in_default.ensures.cases

pub returns-in-Ok-clause-lines : goal.returns-in-Ok-clause-lines
unfolding begins_with
returns-in-Ok-clause-lines c =
    let found = c.in-Some.ensures.cases in
    head_good c.args.images.now c.args.text.now c.split_line.ensures.line found.0 found.1 c.split_line.ensures.behind c.in-Ok.ensures

pub returns-in-Err-clause-lines : goal.returns-in-Err-clause-lines
unfolding begins_with
returns-in-Err-clause-lines c =
    let found = c.in-Some.ensures.cases in head_bad c.args.images.now c.args.text.now c.split_line.ensures.line found.0 found.1 c.in-Err.ensures
