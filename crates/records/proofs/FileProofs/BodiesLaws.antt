-- Laws of the bodies of a file, taken from the front one after the other: what the code has of a contents, and the bytes that are left.
-- Assumes nothing.
use Rattle.std.proofs.Common.{◌≡◌, ℕ, ◌-◌, ◌*◌, ◌<◌, ◌≤◌, List, length, drop, sym, arith}
use native.Mathlib.Nat.{div-add-mod'}
use Rattle.std.proofs.lemmas.List.{length-drop}
use Rattle.decimal.specs.Answer.{done}
use Rattle.codec.specs.Columns.{body_size}
use Rattle.codec.specs.Contents.{Table}
use Rattle.records.specs.Files.RecordFile.{read_file, record_count, bodies_in}
use Rattle.codec.proofs.ContentsLaws.{contents_sound}
use Rattle.codec.specs.Columns.{Sound}
use Rattle.codec.proofs.BodiesLaws.{bodies_count}
use Rattle.records.proofs.FileProofs.FileLaws.{FileRead, file_told}

-- a file has a body for each record
pub records_count : (table : Table) (file : List ℕ) → length (bodies_in table file) ≡ record_count table file
unfolding bodies_in
records_count table file = bodies_count (record_count table file) (body_size table.images) (drop table.size file)

-- the bodies fill a file behind its contents
pub file_reaches :
    {file : List ℕ} {table : Table} → FileRead file table → length (drop table.size file) ≡ record_count table file * body_size table.images
unfolding record_count
file_reaches {file} {table} f =
    let split = div-add-mod' (length file - table.size) (body_size table.images) in
    let inside = f.within in
    let whole = f.whole in
    omega (arith, length-drop table.size file)

-- What the code has of a file that is read.

pub record FileHeld (file : List ℕ) (r : Table) : Type 0 where
  pub reads : read_file file ≡ done r
  pub sound : Sound r.images
  pub within : r.size ≤ length file
  pub some : 0 < body_size r.images

pub file_held : (file : List ℕ) {r : Table} → done r ≡ read_file file → FileHeld file r
file_held file h =
    let f = file_told file (sym h) in
    record { reads = sym h; sound = contents_sound file f.contents; within = f.within; some = f.some }
