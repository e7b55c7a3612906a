-- `RecordFile::body` meets its contract: the part of the file at the record's place. Assumes nothing.
use Rattle.std.proofs.Common.{sym, ◌∙◌}
use Rattle.decimal.specs.Answer.{mapped}
use Rattle.decimal.proofs.AnswerLaws.{passed_on, mapped_refused}
use Rattle.records.proofs.FileProofs.FileLaws.{range_shown}
use Rattle.records.proofs.FileProofs.HeldLaws.{part_there, part_none}
use Rattle.records.specs.Files.RecordFile.{now_of}
use Rattle.records.specs.Files.Tables.{bytes_in}
use Rattle.records.proofs.files.record_file.RecordFile.body.Goals as goal

pub returns-in_err-place : goal.returns-in_err-place
returns-in_err-place c = mapped_refused now_of (passed_on _ _ c.from_residual.ensures.1) ∙ sym (part_none _ _ c.in_err-place.ensures)

pub slice_bounds-result-end : goal.slice_bounds-result-end
slice_bounds-result-end c = (range_shown (bytes_in c.args.self.now) c.args.index c.in_ok-place.ensures).inside

pub returns : goal.returns
unfolding mapped
returns c = part_there (bytes_in c.args.self.now) c.args.index c.in_ok-place.ensures
