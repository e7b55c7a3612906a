-- Document 01, Record file: the table of contents, then the bodies, without gaps.
use Rattle.std.specs.Prelude.{ℕ, ◌+◌, ◌-◌, ◌*◌, ◌/◌, ◌%◌, List, [], length, take, drop, ltb, eqb}
use Rattle.decimal.specs.declared.number.Number.{Number}
use Rattle.std.specs.Borrow.{Bor}
use Rattle.decimal.specs.Answer.{Answer, done, refused, ◌then◌, pick, mapped}
use Rattle.codec.specs.Columns.{body_size}
use Rattle.codec.specs.Contents.{Table, read_contents, read_alone}
use Rattle.codec.specs.Answers.{within, written}
use Rattle.codec.specs.Bodies.{bodies}
use Rattle.codec.specs.Packing.{pack_list}
use Rattle.std.specs.declared.ops.Range.{Range}

-- "write the contents into a buffer": a contents lent alone, last 6
unfoldable pub starting_file : List ℕ → ℕ → Answer (List ℕ)
starting_file contents room = read_alone contents then λ table. within room contents

-- a file: 11 for a body of another length, a last one included
unfoldable pub read_file : List ℕ → Answer Table
read_file file =
    read_contents file then λ table.
    pick (eqb ((length file - table.size) % body_size table.images) 0) (done table) (refused 11 0)

-- the count of a file's records
unfoldable pub record_count : Table → List ℕ → ℕ
record_count table file = (length file - table.size) / body_size table.images

-- the bodies of a file's records
unfoldable pub bodies_in : Table → List ℕ → List (List ℕ)
bodies_in table file = bodies (record_count table file) (body_size table.images) (drop table.size file)

-- "add a record after a used length"

-- the file in the first bytes of a buffer: 11 for a used length past the buffer
unfoldable pub read_used : List ℕ → ℕ → Answer Table
read_used buffer used = pick (ltb (length buffer) used) (refused 11 0) (read_file (take used buffer))

-- the body that is added: refused as the file is, then with 10, 3, 4, 5, last 6 where it is longer than what follows the used length
unfoldable pub added : List ℕ → ℕ → List Number → Answer (List ℕ)
added buffer used ns = read_used buffer used then λ table. (pack_list table.images ns then within (length buffer - used))

-- the used length with the record added
unfoldable pub new_length : ℕ → Answer (List ℕ) → Answer ℕ
new_length used (done body) = done (used + length body)
new_length used (refused number place) = refused number place

-- a buffer after a call that writes behind a used length; a refused call changes nothing
unfoldable pub written_behind : ℕ → Answer (List ℕ) → List ℕ → List ℕ
written_behind used (done body) buffer = written buffer used body
written_behind used (refused number place) buffer = buffer

-- "show record number r (from 0) as the part of the lent file that is its body"

-- a part of a file
pub record Part : Type 0 where
  pub start : ℕ
  pub size : ℕ

-- 12 where there is no record r
unfoldable pub shown : List ℕ → ℕ → Answer Part
shown file r =
    read_file file then λ table.
    pick (ltb r (record_count table file))
    (done (record { start = table.size + r * body_size table.images; size = body_size table.images }))
    (refused 12 0)

-- the code's range of a part
abbrev pub range_of : Part → Range ℕ
range_of p = record { start = p.start; end = p.start + p.size }

-- the part itself; the empty part where the call refuses
unfoldable pub part_of : List ℕ → Answer Part → List ℕ
part_of file (done p) = take p.size (drop p.start file)
part_of file (refused number place) = []

abbrev pub shown_part : List ℕ → ℕ → List ℕ
shown_part file r = part_of file (shown file r)

-- the same as an answer: refused as the call is
unfoldable pub shown_bodies : List ℕ → ℕ → Answer (List ℕ)
shown_bodies file r = mapped (λ p. take p.size (drop p.start file)) (shown file r)

-- bytes that are lent
abbrev pub now_of : Bor (List ℕ) → List ℕ
now_of b = b.now
