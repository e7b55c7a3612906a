-- `hulgyevan_read_file` meets its contract: the count of records is that of the file's contents. Assumes nothing.
use Rattle.std.proofs.Common.{sym, ap, ◌∙◌}
use Rattle.decimal.specs.Answer.{mapped}
use Rattle.records.specs.Files.RecordFile.{read_file, record_count}
use Rattle.records.specs.Files.Tables.{table_in}
use Rattle.hulgyevan.proofs.CallLaws.{table_count}
use Rattle.hulgyevan.proofs.files.hulgyevan_read_file.Goals as goal

pub returns-in-Ok-clause-records : goal.returns-in-Ok-clause-records
unfolding mapped
returns-in-Ok-clause-records c =
    let file = c.args.file.now in
    c.count.ensures
    ∙ ap (record_count (table_in c.in-Ok.read)) c.in-Ok.ensures.bytes
    ∙ sym (table_count (read_file file) c.in-Ok.ensures.answer c.args.records.now file)
