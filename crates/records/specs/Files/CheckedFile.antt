-- What the code's checked file stands for.
use Rattle.std.specs.Prelude.{ℕ, List}
use Rattle.codec.specs.Contents.{Table}
use Rattle.records.specs.declared.files.checked_file.CheckedFile.{CheckedFile}
use Rattle.records.specs.Files.Tables.{table_in, bytes_in}

-- its table
abbrev pub checked_table : CheckedFile → Table
checked_table c = table_in c.file

-- its bytes
abbrev pub checked_bytes : CheckedFile → List ℕ
checked_bytes c = bytes_in c.file
