-- Laws of packing and reading back under the images of a contents: they are packing and reading back under the contents. Assumes nothing.
use Prim.Native.Nat.{ℕ}
use mathlib.Core.Path.{◌≡◌}
use mathlib.Core.List.{List}
use Rattle.decimal.specs.declared.number.Number.{Number}
use Rattle.decimal.specs.Answer.{done, ◌then◌}
use Rattle.codec.specs.Contents.{Table, read_alone}
use Rattle.codec.specs.Packing.{body_of, packing_under, packing}
use Rattle.codec.specs.Unpacking.{unpack_body, unpacking}

pub packing_same :
    (contents : List ℕ) (ns : List Number) (room : ℕ) {table : Table}
    → read_alone contents ≡ done table
    → packing contents ns room ≡ packing_under table.images ns room
unfolding packing packing_under body_of ◌then◌
packing_same contents ns room {table} h = rw h

-- and reading back under a contents is reading back under its images
pub unpacking_same :
    (contents body : List ℕ) {table : Table} → read_alone contents ≡ done table → unpacking contents body ≡ unpack_body table.images body
unfolding unpacking ◌then◌
unpacking_same contents body {table} h = rw h
