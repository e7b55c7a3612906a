-- Laws of a file's whole length: what the code of the call reads. Assumes nothing.
use Prim.Native.Nat.{ℕ, ◌-◌, ◌%◌, ◌≤◌}
use mathlib.Core.Path.{◌≡◌, sym}
use mathlib.Core.List.{List}
use native.Mathlib.Omega.{arith}
use native.Mathlib.Nat.{div-add-mod'}
use lib.ListN.{length}
use Rattle.decimal.specs.Answer.{done, refused, ◌then◌}
use Rattle.codec.specs.Columns.{body_size}
use Rattle.codec.specs.Contents.{Table, read_contents}
use Rattle.records.specs.Files.WholeLength.{whole_in, whole_length_of}

module _ (file : List ℕ) where
  -- refused as the contents is
  pub whole_refused : {number place : ℕ} → read_contents file ≡ refused number place → whole_length_of file ≡ refused number place
  unfolding whole_length_of ◌then◌
  whole_refused h = rw h

  -- of a contents that is read
  pub whole_done : {table : Table} → read_contents file ≡ done table → whole_length_of file ≡ done (whole_in table file)
  unfolding whole_length_of ◌then◌
  whole_done h = rw h

  module _ {r : Table} (h : done r ≡ read_contents file) where
    -- no more bytes are left over than the file has
    pub behind_within : (length file - r.size) % (body_size r.images) ≤ length file
    behind_within = let whole = div-add-mod' (length file - r.size) (body_size r.images) in omega arith

    -- of the contents that the code has read
    pub whole_read :
        whole_length_of file
        ≡ done (record { length = length file - (length file - r.size) % (body_size r.images); behind = (length file - r.size) % (body_size r.images) })
    unfolding whole_in
    whole_read = whole_done (sym h)
