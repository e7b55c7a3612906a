-- Laws of the call that finds positions: its refusals in order, and what it gives. Assumes nothing.
use Rattle.std.proofs.Common.{◌≡◌, ℕ, ◌<◌, ◌≤◌, ◌%◌, Bool, true, false, List, length, drop, refl, ap, sym, ◌∙◌, arith}
use Rattle.std.proofs.Common.{length-drop}
use borrow.Author.Tests.{le-leb, lt-leb}
use Rattle.decimal.specs.declared.image.Image.{Image}
use Rattle.decimal.specs.declared.number.Number.{Number}
use Rattle.decimal.specs.Answer.{Answer, done, refused, ◌then◌, mapped}
use Rattle.decimal.proofs.AnswerLaws.{never_done, done_same, then_done, then_last, mapped_done}
use Rattle.codec.specs.Columns.{column_size, body_size}
use Rattle.codec.specs.Contents.{Table}
use Rattle.codec.specs.Order.{UnsignedFixed, Bytes}
use Rattle.records.specs.Files.Listing.{checked_file}
use Rattle.records.specs.Files.RecordFile.{read_file, bodies_in}
use Rattle.records.proofs.FileProofs.BodiesLaws.{FileHeld, file_held}
use Rattle.records.proofs.FileProofs.FileLaws.{file_told}
use Rattle.codec.specs.Bodies.{check_each}
use Rattle.records.proofs.FileProofs.CheckedLaws.{checked_read}
use Rattle.rolls.specs.Falling.{fall}
use Rattle.rolls.specs.Runs.{all_bodies, runs_in, runs_fall, Ordered}
use Rattle.rolls.specs.Searching.{max_positions, first_columns_of, first_columns_in, walk, found, check_count, check_numbers, check_kind, refuse_where, check_positions, check_page, searching, Search}
use Rattle.rolls.proofs.FilledLaws.{bodies_behind}
use Rattle.rolls.proofs.FindTheorem.{walk_firsts}
use Rattle.rolls.proofs.FirstColumnLaws.{checked_stops, checked_columns, first_columns_are}
use Rattle.rolls.proofs.FirstColumnOrder.{first_image}
use Rattle.rolls.proofs.PageLaws.{page_parts}
use Rattle.rolls.proofs.RunLaws.{first_columns_fall}
use Rattle.rolls.proofs.WalkLaws.{ordered_told}

-- What a page that is taken tells.

-- a check that refuses nothing
pub not_refused : (test : Bool) (number : ℕ) → refuse_where test number ≡ done tt → test ≡ false
unfolding refuse_where
not_refused true number h = never_done h
not_refused false number h = refl

pub record PageTaken (ims : List Image) (ps : List Number) (falls : Bool) : Type 0 where
  pub normals : check_numbers 0 ps ≡ done tt
  pub kind : check_kind ims ≡ done tt
  pub positions : fall ps ≡ false
  pub records : falls ≡ false

pub page_taken : (ims : List Image) (ps : List Number) (falls : Bool) → check_page ims ps falls ≡ done tt → PageTaken ims ps falls
unfolding check_page
page_taken ims ps falls h =
    let one = then_last (check_numbers 0 ps) (check_kind ims then λ _. (refuse_where (fall ps) 14 then λ _. refuse_where falls 15)) h in
    let two = then_last (check_kind ims) (refuse_where (fall ps) 14 then λ _. refuse_where falls 15) one.1 in
    let three = then_last (refuse_where (fall ps) 14) (refuse_where falls 15) two.1 in
    record { normals = one.0; kind = two.0; positions = not_refused (fall ps) 14 three.0; records = not_refused falls 15 three.1 }

-- The call.

module _ (file : List ℕ) (ps : List Number) where
  -- the file is refused
  pub search_file : {x y : ℕ} → read_file file ≡ refused x y → searching file ps ≡ refused x y
  unfolding searching ◌then◌
  search_file h = rw h

  module _ {table : Table} (reads : read_file file ≡ done table) where
    -- 10
    pub search_many : max_positions < length ps → searching file ps ≡ refused 10 0
    unfolding searching check_count ◌then◌
    search_many l = rw (reads, lt-leb (length ps) max_positions l)

    module _ (page : length ps ≤ max_positions) where
      -- 7
      pub search_bad : {x y : ℕ} → first_columns_in table file ≡ refused x y → searching file ps ≡ refused x y
      unfolding searching check_count ◌then◌
      search_bad h = rw (reads, le-leb (length ps) max_positions page, h)

      module _ {columns : List Number} (h : first_columns_in table file ≡ done columns) where
        -- 3, 16, 14, 15
        pub search_page : {x y : ℕ} → check_page table.images ps (fall columns) ≡ refused x y → searching file ps ≡ refused x y
        unfolding searching check_count ◌then◌
        search_page p = rw (reads, le-leb (length ps) max_positions page, h, p)

        -- nothing
        pub search_done : check_page table.images ps (fall columns) ≡ done tt → searching file ps ≡ done (found ps columns)
        unfolding searching check_count ◌then◌
        search_done p = rw (reads, le-leb (length ps) max_positions page, h, p)

-- A file that is checked.

-- it is read, and its records' first columns are
pub record FileChecked (file : List ℕ) (table : Table) : Type 0 where
  pub held : FileHeld file table
  pub columns : List Number
  pub read : first_columns_in table file ≡ done columns

pub file_checked : {file bytes : List ℕ} {table told : Table} → bytes ≡ file → checked_file bytes ≡ done told → table ≡ told → FileChecked file table
file_checked {file} {bytes} {table} {told} e h t =
    let whole : checked_file file ≡ done table = ap checked_file (sym e) ∙ h ∙ ap {B = Answer Table} done (sym t) in
    let one = then_done (read_file file) (λ (t : Table). (check_each t.images (bodies_in t file) then λ _. done t)) (sym (checked_read file) ∙ whole) in
    let same = done_same (then_last (check_each one.value.images (bodies_in one.value file)) (done one.value) one.second).1 in
    let reads : read_file file ≡ done table = one.first ∙ ap {B = Answer Table} done same in
    let k = checked_columns file reads whole in
    record { held = file_held file (sym reads); columns = k.0; read = k.1 }

-- so its bodies can be compared, where the first column is unsigned fixed point
pub file_ordered :
    {file : List ℕ} {table : Table} (c : FileChecked file table)
    → UnsignedFixed (first_image table.images)
    → {bytes : List ℕ}
    → bytes ≡ drop table.size file
    → (o : Ordered table.images bytes) × (o.columns ≡ c.columns)
file_ordered {file} {table} c kind {bytes} e = (
  record {
    sound = c.held.sound;
    kind = kind;
    whole = ap (λ (l : List ℕ). length l % body_size table.images) e ∙ ap (λ (n : ℕ). n % body_size table.images) (length-drop table.size file) ∙ (file_told file c.held.reads).whole;
    columns = c.columns;
    read =
        ap (λ (l : List ℕ). first_columns_of table.images (all_bodies (body_size table.images) l)) e
        ∙ ap (first_columns_of table.images) (sym (bodies_behind table file))
        ∙ c.read;
  },
  refl,
)

-- and fall as their first columns do
pub ordered_falls :
    {ims : List Image} {bytes : List ℕ} (o : Ordered ims bytes)
    → Bytes bytes
    → {width size : ℕ}
    → width ≡ column_size (first_image ims)
    → size ≡ body_size ims
    → runs_fall (runs_in width size bytes) ≡ fall o.columns
ordered_falls {ims} {bytes} o known {width} {size} k s =
    let t = ordered_told o known in
    (λ i. runs_fall (runs_in (k i) (s i) bytes))
    ∙ first_columns_fall ims o.kind t.checked (all_bodies (body_size ims) bytes) t.each
    ∙ ap fall (sym (first_columns_are ims (all_bodies (body_size ims) bytes) o.read))

-- what is asked of bodies whose runs are compared
pub ordered_asked :
    {ims : List Image} {bytes : List ℕ}
    → Ordered ims bytes
    → Bytes bytes
    → {width size : ℕ}
    → width ≡ column_size (first_image ims)
    → size ≡ body_size ims
    → (width ≤ size) × (0 < size) × (length bytes % size ≡ 0)
ordered_asked {bytes = bytes} o known k s =
    let t = ordered_told o known in
    (omega (arith, t.width), omega (arith, t.some), ap (λ (n : ℕ). length bytes % n) s ∙ o.whole)

-- What the code finds.

-- what the walk gives for positions that do not fall
found_walked : (ps columns : List Number) → fall ps ≡ false → walk 0 ps columns ≡ found ps columns
unfolding found
found_walked ps columns f = ap (λ (l : List ℕ). record { records = l; comparisons = (walk 0 ps columns).comparisons }) (walk_firsts ps columns f)

-- the kind of a page that is not refused
pub positions_kind : (ims : List Image) (ps : List Number) → check_positions ims ps ≡ done tt → check_kind ims ≡ done tt
unfolding check_positions
positions_kind ims ps h = (then_last (check_kind ims) (refuse_where (fall ps) 14) (then_last (check_numbers 0 ps) (check_kind ims then λ _. refuse_where (fall ps) 14) h).1).0

-- and its positions
pub positions_normal : (ims : List Image) (ps : List Number) → check_positions ims ps ≡ done tt → check_numbers 0 ps ≡ done tt
unfolding check_positions
positions_normal ims ps h = (then_last (check_numbers 0 ps) (check_kind ims then λ _. refuse_where (fall ps) 14) h).0

module _ (file : List ℕ) (ps : List Number) (few : length ps ≤ max_positions) where
  -- 7
  pub found_bad : {table : Table} → read_file file ≡ done table → {x y : ℕ} → refused x y ≡ checked_file file → searching file ps ≡ refused x y
  found_bad reads h = search_bad file ps reads few (checked_stops file reads (sym h))

  module _ {table : Table} (c : FileChecked file table) {ims : List Image} (e : ims ≡ table.images) where
    -- 3, 16, 14
    pub found_page : {x y : ℕ} → refused x y ≡ check_positions ims ps → searching file ps ≡ refused x y
    unfolding ◌then◌
    found_page h =
        search_page file ps c.held.reads few c.read
        (page_parts table.images ps (fall c.columns) ∙ ap (λ (a : Answer (Unit {0})). a then λ _. refuse_where (fall c.columns) 15) (ap (λ (l : List Image). check_positions l ps) (sym e) ∙ sym h))

    module _ (fine : done tt ≡ check_positions ims ps) {falls : Bool} (told : falls ≡ fall c.columns) where
      -- 15, or nothing
      found_records : check_page table.images ps (fall c.columns) ≡ refuse_where falls 15
      unfolding ◌then◌
      found_records =
          page_parts table.images ps (fall c.columns)
          ∙ ap (λ (a : Answer (Unit {0})). a then λ _. refuse_where (fall c.columns) 15) (ap (λ (l : List Image). check_positions l ps) (sym e) ∙ sym fine)
          ∙ ap (λ (b : Bool). refuse_where b 15) (sym told)

      pub found_falls : {x y : ℕ} → refused x y ≡ refuse_where falls 15 → searching file ps ≡ refused x y
      found_falls h = search_page file ps c.held.reads few c.read (found_records ∙ sym h)

      pub found_done : done tt ≡ refuse_where falls 15 → {s : Search} → mapped (walk 0 ps) (done c.columns) ≡ done s → done s ≡ searching file ps
      found_done h {s} w =
          let page = found_records ∙ sym h in
          let taken = page_taken table.images ps (fall c.columns) page in
          ap {B = Answer Search} done (sym (done_same (sym (mapped_done (walk 0 ps) refl) ∙ w)) ∙ found_walked ps c.columns taken.positions)
          ∙ sym (search_done file ps c.held.reads few c.read page)
