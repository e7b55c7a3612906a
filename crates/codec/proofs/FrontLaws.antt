-- Laws of a contents at the front of bytes. Assumes nothing.
use Prim.Native.Nat.{ℕ, suc, ◌<◌, ◌≤◌}
use mathlib.Core.Path.{◌≡◌, ap, sym, ◌∙◌}
use mathlib.Core.List.{List, ◌++◌}
use native.Mathlib.Omega.{arith}
use lib.ListN.{length, take, drop, length-append, take-append-drop}
use lib.Seq.{length-take-le, take-take, take-append-le, take-append_seam}
use Rattle.decimal.specs.declared.image.Image.{Image}
use Rattle.decimal.specs.Answer.{done}
use Rattle.codec.specs.Columns.{body_size, AllChecked, none, more, Sound}
use Rattle.codec.specs.Contents.{Table, contents_bytes, read_contents, read_alone}
use Rattle.codec.specs.Alpha.{line_length}
use Rattle.codec.proofs.ContentsLaws.{contents_sound, alone_same, column_some}
use Rattle.codec.proofs.ContentsTheorem.{contents_exactly, contents_length}

-- Published: a contents depends on its own bytes alone.
pub contents_same :
    (bytes others : List ℕ) {table : Table}
    → read_contents bytes ≡ done table
    → take table.size others ≡ take table.size bytes
    → read_contents others ≡ done table
contents_same bytes others {table} h e =
    let f = (contents_exactly bytes).0 h in
    let size = table.size in
    let own : take size bytes ≡ f.own = (λ i. take (f.size i) (f.whole i)) ∙ take-append_seam f.own f.behind in
    (contents_exactly others).1
    (record {
      own = f.own;
      behind = drop size others;
      whole = sym (take-append-drop size others) ∙ ap (λ (l : List ℕ). l ++ drop size others) (e ∙ own);
      is_contents = f.is_contents;
      checked = f.checked;
      size = f.size;
    })

-- it ends within the bytes
pub contents_within : (bytes : List ℕ) {table : Table} → read_contents bytes ≡ done table → table.size ≤ length bytes
contents_within bytes h =
    let f = (contents_exactly bytes).0 h in
    omega (arith, f.size, ap length f.whole, length-append f.own f.behind)

-- it has one byte for the count, and as many more as texts under its images with one byte behind each
pub contents_size : (bytes : List ℕ) {table : Table} → read_contents bytes ≡ done table → table.size ≡ suc (line_length table.images)
contents_size bytes {table} h =
    let f = (contents_exactly bytes).0 h in
    f.size ∙ ap length f.is_contents.rendered ∙ contents_length table.images

-- so it has a byte
pub contents_some : (bytes : List ℕ) {table : Table} → read_contents bytes ≡ done table → 0 < table.size
contents_some bytes h = omega (arith, contents_size bytes h)

-- whatever stands behind it, it is the same
pub contents_front :
    (bytes rest : List ℕ) {table : Table}
    → read_contents bytes ≡ done table
    → read_contents (take table.size bytes ++ rest) ≡ done table
contents_front bytes rest {table} h =
    let own = take table.size bytes in
    let size : length own ≡ table.size = length-take-le table.size bytes (contents_within bytes h) in
    contents_same bytes (own ++ rest) h
    (take-append-le table.size own rest (omega (arith, size)) ∙ take-take table.size table.size bytes (omega arith))

-- and it is the same lent alone
pub contents_alone : (bytes : List ℕ) {table : Table} → read_contents bytes ≡ done table → read_alone (take table.size bytes) ≡ done table
contents_alone bytes {table} h =
    let own = take table.size bytes in
    alone_same own (contents_same bytes own h (take-take table.size table.size bytes (omega arith)))
    (sym (length-take-le table.size bytes (contents_within bytes h)))

-- The images of a contents that is read.

-- a body under columns has a byte
pub body_some : {ims : List Image} → AllChecked ims → 1 ≤ length ims → 0 < body_size ims
unfolding body_size
body_some none h = absurd (omega arith)
body_some (more c cs) h = omega (arith, column_some c)

-- Published: a body under images that a contents can have has a byte.
pub sound_body : {ims : List Image} → Sound ims → 0 < body_size ims
sound_body s = body_some s.all s.low

-- Published: a body under a contents has a byte.
pub contents_body : (bytes : List ℕ) {table : Table} → read_contents bytes ≡ done table → 0 < body_size table.images
contents_body bytes h = sound_body (contents_sound bytes h)

-- Published: its length is that of the bytes of a contents of its images.
pub contents_sized : (bytes : List ℕ) {table : Table} → read_contents bytes ≡ done table → table.size ≡ length (contents_bytes table.images)
contents_sized bytes h = let f = (contents_exactly bytes).0 h in f.size ∙ ap length f.is_contents.rendered
