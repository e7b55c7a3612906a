-- Laws of record files: what reading one tells, and where its bodies stand. Assumes nothing.
use Prim.Native.Nat.{ℕ, suc, ◌+◌, ◌-◌, ◌*◌, ◌/◌, ◌%◌, ◌<◌, ◌≤◌}
use mathlib.Core.Path.{◌≡◌, refl, ap, sym, subst, subst⁻¹, ◌∙◌}
use Rattle.std.specs.declared.ops.Range.{Range}
use mathlib.Core.Bool.{Bool, true, false}
use mathlib.Core.List.{List, ◌++◌}
use native.Mathlib.Omega.{arith}
use native.Mathlib.Nat.{suc-mul, le-div_iff_mul-le}
use lib.ListN.{length, take, drop, take-append-drop, length-drop}
use lib.Dec.{ltb, eqb}
use borrow.Author.Tests.{lt-ltb, le-ltb, ltb-true, ltb-false, eq-eqb, ne_eqb, eqb-true}
use Rattle.decimal.specs.declared.image.Image.{Image}
use Rattle.decimal.specs.declared.number.Number.{Number}
use Rattle.decimal.specs.Answer.{Answer, done, refused, ◌then◌, pick, mapped}
use Rattle.codec.specs.Answers.{stored_in, within, sized}
use Rattle.codec.specs.Columns.{body_size}
use Rattle.codec.specs.Contents.{Table, read_contents, read_alone}
use Rattle.codec.specs.Packing.{pack_list, packing_under}
use Rattle.decimal.proofs.AnswerLaws.{never_done, then_done, mapped_back}
use Rattle.codec.proofs.FrontLaws.{contents_within, contents_body}
use Rattle.records.specs.Files.RecordFile.{
  starting_file,
  read_file,
  record_count,
  read_used,
  added,
  new_length,
  written_behind,
  Part,
  shown,
  range_of,
  part_of,
  shown_part,
  shown_bodies,
}
use Rattle.records.proofs.WritingLaws.{part_behind, put_behind, behind_all, part_written}

-- A file without records.

module _ (contents : List ℕ) (room : ℕ) where
  -- a contents that is refused is not written
  pub starting_refused : {number place : ℕ} → read_alone contents ≡ refused number place → starting_file contents room ≡ refused number place
  unfolding starting_file ◌then◌
  starting_refused h = rw h

  -- nor one that is longer than the buffer
  pub starting_short : {table : Table} → read_alone contents ≡ done table → room < length contents → starting_file contents room ≡ refused 6 0
  unfolding starting_file ◌then◌ within
  starting_short h l = rw (h, lt-ltb room (length contents) l)

  -- else it is the file
  pub starting_done :
      {table : Table} → read_alone contents ≡ done table → length contents ≤ room → starting_file contents room ≡ done contents
  unfolding starting_file ◌then◌ within
  starting_done h l = rw (h, le-ltb room (length contents) l)

module _ (contents buffer : List ℕ) where
  -- a refused call gives the refusal, and the buffer stays
  pub refuses_file :
      {number place : ℕ}
      → starting_file contents (length buffer) ≡ refused number place
      → (refused number place ≡ sized (starting_file contents (length buffer)))
      × (buffer ≡ stored_in (starting_file contents (length buffer)) buffer)
  unfolding sized stored_in
  refuses_file h = (sym (ap sized h), sym (ap (λ (k : Answer (List ℕ)). stored_in k buffer) h))

  -- else the contents stands at the buffer's start
  pub writes_file :
      {after : List ℕ}
      → starting_file contents (length buffer) ≡ done contents
      → after ≡ contents ++ drop (length contents) buffer
      → (done (length contents) ≡ sized (starting_file contents (length buffer)))
      × (after ≡ stored_in (starting_file contents (length buffer)) buffer)
  unfolding sized stored_in
  writes_file h w = (sym (ap sized h), w ∙ sym (ap (λ (k : Answer (List ℕ)). stored_in k buffer) h))

-- Reading a file.

-- the count of bytes behind the last whole body
abbrev pub left_over_of : Table → List ℕ → ℕ
left_over_of table file = (length file - table.size) % body_size table.images

-- what a file that is read tells
pub record FileRead (file : List ℕ) (table : Table) : Type 0 where
  pub contents : read_contents file ≡ done table
  pub within : table.size ≤ length file
  pub some : 0 < body_size table.images
  pub whole : left_over_of table file ≡ 0

module _ (file : List ℕ) where
  -- a file is refused as its contents is
  pub file_first : {number place : ℕ} → read_contents file ≡ refused number place → read_file file ≡ refused number place
  unfolding read_file ◌then◌
  file_first h = rw h

  -- whole bodies behind its contents
  pub file_done : {table : Table} → read_contents file ≡ done table → left_over_of table file ≡ 0 → read_file file ≡ done table
  unfolding read_file ◌then◌
  file_done {table} h w = rw (h, eq-eqb (left_over_of table file) 0 w)

  -- a last body that is cut short
  file_short : {table : Table} → read_contents file ≡ done table → (left_over_of table file ≡ 0 → ⊥) → read_file file ≡ refused 11 0
  unfolding read_file ◌then◌
  file_short {table} h w = rw (h, ne_eqb (left_over_of table file) 0 w)

  -- a file that is read has a contents, and whole bodies behind it
  pub file_told : {table : Table} → read_file file ≡ done table → FileRead file table
  unfolding read_file
  file_told {table} h =
      let b = then_done (read_contents file) (λ (t : Table). pick (eqb (left_over_of t file) 0) (done t) (refused 11 0)) h in
      go b.value (eqb (left_over_of b.value file) 0) refl b.first b.second
    where
      go :
          (t : Table) (k : Bool)
          → eqb (left_over_of t file) 0 ≡ k
          → read_contents file ≡ done t
          → pick k (done t) (refused 11 0) ≡ done table
          → FileRead file table
      go t true e h p =
          let same : t ≡ table = cc in
          let read : read_contents file ≡ done table = h ∙ ap {B = Answer Table} done same in
          record {
            contents = read;
            within = contents_within file read;
            some = contents_body file read;
            whole = ap (λ (x : Table). left_over_of x file) (sym same) ∙ eqb-true (left_over_of t file) 0 e;
          }
      go t false e h p = never_done p

  module _ {r : Table} (h : done r ≡ read_contents file) where
    -- its own length is within the file
    pub size_within : r.size ≤ length file
    size_within = contents_within file (sym h)

    -- a body is not empty
    pub body_some : 0 < body_size r.images
    body_some = contents_body file (sym h)

    -- the contents is the file's where there are no bytes behind the last whole body
    pub file_whole : (length file - r.size) % body_size r.images ≡ 0 → done r ≡ read_file file
    file_whole w = sym (file_done (sym h) w)

    -- else the file is refused
    pub file_torn : ((length file - r.size) % body_size r.images ≡ 0 → ⊥) → read_file file ≡ refused 11 0
    file_torn w = file_short (sym h) w

-- Showing a record.

module _ (file : List ℕ) (r : ℕ) where
  -- refused as the file is
  pub shown_refused : {number place : ℕ} → read_file file ≡ refused number place → shown file r ≡ refused number place
  unfolding shown ◌then◌
  shown_refused h = rw h

  -- there is no such record
  pub shown_none : {table : Table} → read_file file ≡ done table → record_count table file ≤ r → shown file r ≡ refused 12 0
  unfolding shown ◌then◌
  shown_none {table} h l = rw (h, le-ltb r (record_count table file) l)

  -- else its body is a part of the file
  pub shown_there :
      {table : Table}
      → read_file file ≡ done table
      → r < record_count table file
      → shown file r ≡ done (record { start = table.size + r * body_size table.images; size = body_size table.images })
  unfolding shown ◌then◌
  shown_there {table} h l = rw (h, lt-ltb r (record_count table file) l)

-- a whole body before the last ends within the bytes
bodies_inside : (n size i : ℕ) → 0 < size → i < n / size → i * size + size ≤ n
bodies_inside n size i s h = omega (arith, (le-div_iff_mul-le {k = size} {x = suc i} {y = n} s).0 h, suc-mul i size)

-- a record's body ends within the file
pub record_inside :
    (file : List ℕ) (r : ℕ) {table : Table}
    → read_file file ≡ done table
    → r < record_count table file
    → table.size + r * body_size table.images + body_size table.images ≤ length file
unfolding record_count
record_inside file r {table} h l =
    let f = file_told file h in
    let inside = bodies_inside (length file - table.size) (body_size table.images) r f.some l in
    omega (arith, f.within)

-- and so does every part that is shown
pub shown_inside : (file : List ℕ) (r : ℕ) {p : Part} → shown file r ≡ done p → p.start + p.size ≤ length file
unfolding shown
shown_inside file r {p} h =
    let b =
    then_done (read_file file)
    (λ (t : Table). pick (ltb r (record_count t file)) (done (part_at t)) (refused 12 0)) h in
    go b.value (ltb r (record_count b.value file)) refl b.first b.second
  where
    part_at : Table → Part
    part_at t = record { start = t.size + r * body_size t.images; size = body_size t.images }

    go :
        (t : Table) (k : Bool)
        → ltb r (record_count t file) ≡ k
        → read_file file ≡ done t
        → pick k (done (part_at t)) (refused 12 0) ≡ done p
        → p.start + p.size ≤ length file
    go t true e read q =
        let same : part_at t ≡ p = cc in
        let inside = record_inside file r read (ltb-true r (record_count t file) e) in
        subst (λ (x : Part). x.start + x.size ≤ length file) same inside
    go t false e read q = never_done q

module _ (file : List ℕ) {r : Table} (h : done r ≡ read_file file) where
  -- its contents is within it, and a body is not empty
  pub read_within : r.size ≤ length file
  read_within = (file_told file (sym h)).within

  pub read_some : 0 < body_size r.images
  read_some = (file_told file (sym h)).some

  module _ (index : ℕ) where
    -- where there is no such record
    pub read_none : record_count r file ≤ index → shown file index ≡ refused 12 0
    read_none l = shown_none file index (sym h) l

    module _ (l : index < record_count r file) where
      -- and where there is
      pub read_shown : shown file index ≡ done (record { start = r.size + index * body_size r.images; size = body_size r.images })
      read_shown = shown_there file index (sym h) l

      -- its body ends within the file
      pub read_inside : r.size + index * body_size r.images + body_size r.images ≤ length file
      read_inside = shown_inside file index read_shown

-- the part of a file that is shown, by its two ends
pub part_between :
    (file : List ℕ) (r start size : ℕ)
    → shown file r ≡ done (record { start = start; size = size })
    → take (start + size - start) (drop start file) ≡ shown_part file r
unfolding part_of
part_between file r start size h =
    let n : start + size - start ≡ size = omega arith in
    ap (λ (k : ℕ). take k (drop start file)) n ∙ sym (ap (part_of file) h)

-- the same of the code's range
pub record RangeShown (file : List ℕ) (index : ℕ) (q : Range ℕ) : Type 0 where
  pub ordered : q.start ≤ q.end
  pub inside : q.end ≤ length file
  pub part : take (q.end - q.start) (drop q.start file) ≡ shown_part file index

pub range_shown : (file : List ℕ) (index : ℕ) {q : Range ℕ} → done q ≡ mapped range_of (shown file index) → RangeShown file index q
range_shown file index {q} h =
    let t = mapped_back range_of (shown file index) h in
    subst⁻¹ (RangeShown file index) t.2
    (record { ordered = omega arith; inside = shown_inside file index t.1; part = part_between file index t.0.start t.0.size t.1 })

-- Adding a record.

module _ (buffer : List ℕ) (used : ℕ) (ns : List Number) where
  -- refused as the file is
  pub added_refused : {number place : ℕ} → read_used buffer used ≡ refused number place → added buffer used ns ≡ refused number place
  unfolding added ◌then◌
  added_refused h = rw h

  -- else the list is packed into what follows the used length
  pub added_packed :
      {table : Table}
      → read_used buffer used ≡ done table
      → added buffer used ns ≡ (pack_list table.images ns then within (length buffer - used))
  unfolding added ◌then◌
  added_packed h = rw h

-- a file that is read in the first bytes of a buffer
pub used_told :
    (buffer : List ℕ) (used : ℕ) {table : Table}
    → read_used buffer used ≡ done table
    → (used ≤ length buffer) × (read_file (take used buffer) ≡ done table)
unfolding read_used
used_told buffer used {table} h = go (ltb (length buffer) used) refl h
  where
    go :
        (b : Bool)
        → ltb (length buffer) used ≡ b
        → pick b (refused 11 0) (read_file (take used buffer)) ≡ done table
        → (used ≤ length buffer) × (read_file (take used buffer) ≡ done table)
    go true e q = never_done q
    go false e q = (ltb-false (length buffer) used e, q)

-- bytes that are within a room
pub within_told : (room : ℕ) (bytes : List ℕ) {same : List ℕ} → within room bytes ≡ done same → (bytes ≡ same) × (length same ≤ room)
unfolding within
within_told room bytes {same} h = go (ltb room (length bytes)) refl h
  where
    go : (b : Bool) → ltb room (length bytes) ≡ b → pick b (refused 6 0) (done bytes) ≡ done same → (bytes ≡ same) × (length same ≤ room)
    go true e q = never_done q
    go false e q = let s : bytes ≡ same = cc in (s, omega (arith, ap length s, ltb-false room (length bytes) e))

-- what a record that is added tells
pub record AddedTold (buffer : List ℕ) (used : ℕ) (ns : List Number) (body : List ℕ) : Type 0 where
  pub table : Table
  pub reads : read_file (take used buffer) ≡ done table
  pub packs : pack_list table.images ns ≡ done body
  pub room : used + length body ≤ length buffer

-- adding tells it
pub added_told :
    (buffer : List ℕ) (used : ℕ) (ns : List Number) {body : List ℕ} → added buffer used ns ≡ done body → AddedTold buffer used ns body
unfolding added
added_told buffer used ns {body} h =
    let b = then_done (read_used buffer used) (λ (t : Table). pack_list t.images ns then within (length buffer - used)) h in
    let u = used_told buffer used b.first in
    let p = then_done (pack_list b.value.images ns) (within (length buffer - used)) b.second in
    let w = within_told (length buffer - used) p.value p.second in
    record {
      table = b.value;
      reads = u.1;
      packs = p.first ∙ ap {B = Answer (List ℕ)} done w.0;
      room = omega (arith, u.0, w.1);
    }

-- The code's answer and the buffer.

-- what is stored there is written behind the used length
behind_stored :
    (buffer : List ℕ) (used : ℕ) (a : Answer (List ℕ))
    → put_behind buffer used (stored_in a (part_behind buffer used)) ≡ written_behind used a buffer
unfolding stored_in written_behind
behind_stored buffer used (done body) = part_written buffer used body refl
behind_stored buffer used (refused number place) =
    ap (λ (l : List ℕ). take used buffer ++ l) (take-append-drop (length buffer - used) (drop used buffer)) ∙ take-append-drop used buffer

-- the length of what an answer gives tells the new used length
new_length_lem : (used : ℕ) (a : Answer (List ℕ)) {size : ℕ} → done size ≡ sized a → done (used + size) ≡ new_length used a
unfolding sized new_length
new_length_lem used (done body) {size} h = let same : size ≡ length body = cc in ap (λ (k : ℕ). done (used + k)) same
new_length_lem used (refused number place) h = never_done (sym h)

-- and its refusal is the refusal
new_refused : (used : ℕ) (a : Answer (List ℕ)) {number place : ℕ} → refused number place ≡ sized a → refused number place ≡ new_length used a
unfolding sized new_length
new_refused used (done body) h = never_done h
new_refused used (refused x y) h = h

-- what follows a used length is so long
behind_room : (buffer : List ℕ) (used : ℕ) → length (part_behind buffer used) ≡ length buffer - used
behind_room buffer used = ap length (behind_all buffer used) ∙ length-drop used buffer

module _ (ims : List Image) (ns : List Number) (buffer : List ℕ) (used : ℕ) where
  -- a list, packed under images into what follows a used length
  abbrev packed_behind : Answer (List ℕ)
  packed_behind = packing_under ims ns (length buffer - used)

  -- it is within that room
  packed_room : {body : List ℕ} → packed_behind ≡ done body → length body ≤ length buffer - used
  unfolding packing_under
  packed_room h =
      let b = then_done (pack_list ims ns) (within (length buffer - used)) h in
      (within_told (length buffer - used) b.value b.second).1

  -- the code packs into the part of the buffer that it lends
  abbrev packed_part : Answer (List ℕ)
  packed_part = packing_under ims ns (length (part_behind buffer used))

  -- this is the same
  packed_same : packed_part ≡ packed_behind
  packed_same = ap (packing_under ims ns) (behind_room buffer used)

  -- the buffer with the part that comes back
  pub packs_bytes :
      {after : List ℕ} → after ≡ stored_in packed_part (part_behind buffer used) → put_behind buffer used after ≡ written_behind used packed_behind buffer
  packs_bytes told =
      ap (put_behind buffer used) (told ∙ ap (λ (a : Answer (List ℕ)). stored_in a (part_behind buffer used)) packed_same)
      ∙ behind_stored buffer used packed_behind

  module _ {answer : Answer ℕ} (told : answer ≡ sized packed_part) where
    -- the length of the body, or the refusal
    packs_sized : answer ≡ sized packed_behind
    packs_sized = told ∙ ap sized packed_same

    -- the body ends within the buffer
    pub packs_room : {size : ℕ} → used ≤ length buffer → answer ≡ done size → used + size ≤ length buffer
    unfolding sized
    packs_room {size} inside d = go packed_behind refl (sym packs_sized ∙ d)
      where
        go : (a : Answer (List ℕ)) → packed_behind ≡ a → sized a ≡ done size → used + size ≤ length buffer
        go (done body) q z = let same : length body ≡ size = cc in omega (arith, packed_room q, inside)
        go (refused x y) q z = never_done z

    -- refused by the images, the list or the room
    pub packs_stopped : {number place : ℕ} → answer ≡ refused number place → refused number place ≡ new_length used packed_behind
    packs_stopped d = new_refused used packed_behind (sym d ∙ packs_sized)

    -- or written
    pub packs_done : {size : ℕ} → answer ≡ done size → done (used + size) ≡ new_length used packed_behind
    packs_done d = new_length_lem used packed_behind (sym d ∙ packs_sized)

module _ (buffer : List ℕ) (used : ℕ) (ns : List Number) {number place : ℕ} (h : read_used buffer used ≡ refused number place) where
  -- a call that is refused as the file is gives the refusal
  pub adds_refused : refused number place ≡ new_length used (added buffer used ns)
  unfolding new_length
  adds_refused = sym (ap (new_length used) (added_refused buffer used ns h))

  -- and the buffer stays
  pub adds_nothing : buffer ≡ written_behind used (added buffer used ns) buffer
  unfolding written_behind
  adds_nothing = sym (ap (λ (a : Answer (List ℕ)). written_behind used a buffer) (added_refused buffer used ns h))

module _ (buffer : List ℕ) (used : ℕ) {r : Table} (h : done r ≡ read_used buffer used) where
  -- the used length is within the buffer
  pub adds_within : used ≤ length buffer
  adds_within = (used_told buffer used (sym h)).0

  -- what is packed behind it under the images that the code has read is added
  pub adds_under : (ns : List Number) → packing_under r.images ns (length buffer - used) ≡ added buffer used ns
  unfolding packing_under
  adds_under ns = sym (added_packed buffer used ns (sym h))

-- Showing a record's body.

-- refused as the file is
pub shows_refused : (file : List ℕ) (index : ℕ) {number place : ℕ} → read_file file ≡ refused number place → shown_bodies file index ≡ refused number place
unfolding shown_bodies mapped
shows_refused file index h = rw (shown_refused file index h)
