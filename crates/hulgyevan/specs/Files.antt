-- What the calls for record files give in words.
use Rattle.std.specs.Prelude.{ℕ}
use Rattle.codec.specs.Contents.{Table}
use Rattle.records.specs.declared.files.reserving.Reservation.{Reservation}
use Rattle.records.specs.declared.files.whole.WholeLength.{WholeLength}
use Rattle.decimal.specs.Answer.{Answer, done, refused}
use Rattle.records.specs.Files.RecordFile.{Part}
use Rattle.records.specs.Files.Entering.{Entry, entered, rejected, at_line}

-- the length of a file's contents
abbrev pub size_of_contents : Table → ℕ
size_of_contents table = table.size

-- where a reserved place starts, and how many bytes it fills
abbrev pub reserved_start : Reservation → ℕ
reserved_start r = r.start

abbrev pub reserved_size : Reservation → ℕ
reserved_size r = r.size

-- where a body starts, and how many bytes it fills
abbrev pub part_start : Part → ℕ
part_start p = p.start

abbrev pub part_size : Part → ℕ
part_size p = p.size

-- what entering answers without the line's number
unfoldable pub answer_in : {A : Type 0} → Entry A → Answer A
answer_in (entered a) = done a
answer_in (rejected number place) = refused number place
answer_in (at_line line number place) = refused number place

-- the number of the line that is refused, 0 where no line is; what stood there where the call is done
unfoldable pub line_or : {A : Type 0} → Entry A → ℕ → ℕ
line_or (entered a) before = before
line_or (rejected number place) before = 0
line_or (at_line line number place) before = line

-- the whole length of a file, and the bytes behind it
abbrev pub whole_size : WholeLength → ℕ
whole_size w = w.length

abbrev pub whole_behind : WholeLength → ℕ
whole_behind w = w.behind
