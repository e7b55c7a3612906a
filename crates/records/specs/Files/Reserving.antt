-- Document 02, (vii): a record is added in two calls. The first reserves its place, the second writes.
use Rattle.std.specs.Prelude.{ℕ, ◌-◌, ◌&&◌, List, length, take, ltb, eqb}
use Rattle.decimal.specs.declared.number.Number.{Number}
use Rattle.decimal.specs.Answer.{Answer, done, refused, ◌then◌, pick}
use Rattle.codec.specs.Columns.{body_size}
use Rattle.codec.specs.Contents.{Table, read_contents}
use Rattle.codec.specs.Answers.{within}
use Rattle.codec.specs.Packing.{pack_list}
use Rattle.records.specs.declared.files.reserving.Reservation.{Reservation}
use Rattle.records.specs.Files.RecordFile.{read_file, read_used}

-- "a first call answers where the body would go and how many bytes it fills": refused as the file is
unfoldable pub reserved : List ℕ → ℕ → Answer Reservation
reserved buffer used = read_used buffer used then λ table. done (record { start = used; size = body_size table.images })

-- a used length and the size of a body are those in the answer: 18 where they are others
unfoldable pub check_place : ℕ → ℕ → Reservation → Answer (Unit {0})
check_place used size r = pick (eqb used r.start && eqb size r.size) (done tt) (refused 18 0)

-- a file, of which an answer is given: "the file's used length", and "the body's size under its contents", are looked at "right after the
-- contents checks"
unfoldable pub read_for : Reservation → List ℕ → Answer Table
read_for r file = read_contents file then λ table. (check_place (length file) (body_size table.images) r then λ _. read_file file)

-- and the file in the first bytes of a buffer: 11 for a used length past the buffer
unfoldable pub read_reserved : List ℕ → ℕ → Reservation → Answer Table
read_reserved buffer used r = pick (ltb (length buffer) used) (refused 11 0) (read_for r (take used buffer))

-- the body that is written: refused as that file is, then with 10, 3, 4, 5, last 6 where it is longer than what follows the used length
unfoldable pub filled : List ℕ → ℕ → Reservation → List Number → Answer (List ℕ)
filled buffer used r ns = read_reserved buffer used r then λ table. (pack_list table.images ns then within (length buffer - used))
