-- `report` meets its contract: a file that is too long, one that is refused, and one that is listed. Assumes nothing.
use Rattle.std.proofs.Common.{length, sym}
use Rattle.decimal.specs.Answer.{mapped}
use Rattle.records.proofs.FileProofs.ReportLaws.{same_answers}
use Rattle.records.proofs.FileProofs.RecordLinesLaws.{file_listed}
use Rattle.records.proofs.FileProofs.ListingLaws.{report_same}
use Rattle.records.proofs.files.listing.report.Goals as goal

pub returns-in-Ok : goal.returns-in-Ok
unfolding mapped
returns-in-Ok c =
    let a = c.args in
    let own = c.in-Ok.ensures.bytes in
    let f = file_listed a.input.now (sym c.in-Ok.ensures.answer) in
    let all = same_answers (report_same a.input.now c.if-is_long.false f (length a.buffer.now)) a.buffer.now (rw own at c.list_checked.ensures.answer, rw own at c.list_checked.ensures.bytes) in
    record { answer = all.0; bytes = all.1 }
