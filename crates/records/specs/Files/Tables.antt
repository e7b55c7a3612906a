-- What the code's record file stands for.
use Rattle.std.specs.Prelude.{ℕ, List}
use Rattle.codec.specs.Contents.{Table}
use Rattle.records.specs.declared.files.record_file.RecordFile.{RecordFile}

-- its table
abbrev pub table_in : RecordFile → Table
table_in f = f.held

-- its bytes
abbrev pub bytes_in : RecordFile → List ℕ
bytes_in f = f.file.now
