-- What add wrote, show shows and unpacking reads; adding leaves earlier records; the record count rises by one. Assumes nothing.
use Prim.Native.Nat.{ℕ, zero, suc, ◌+◌, ◌-◌, ◌*◌, ◌/◌, ◌%◌, ◌<◌, ◌≤◌}
use mathlib.Core.Path.{◌≡◌, refl, ap, ap₂, sym, subst, ◌∙◌}
use mathlib.Core.Bool.{Bool, true, false}
use mathlib.Core.List.{List, [], ◌∷◌, ◌++◌}
use native.Mathlib.Omega.{arith}
use native.Mathlib.Nat.{suc-mul, one-mul, add-mul-div_right, add-mul-mod_self_right, div-add-mod', zero-mod, zero-div}
use lib.ListN.{length, take, drop, get_or, length-append, length-drop}
use lib.Seq.{length-take-le, take-length, take-append-le, drop-append-le, take_at, drop_at, drop-drop}
use lib.Dec.{eqb}
use borrow.Author.Tests.{eqb-true}
use Rattle.decimal.specs.declared.number.Number.{Number}
use Rattle.decimal.specs.Answer.{done, refused, pick}
use Rattle.codec.specs.Columns.{body_size}
use Rattle.codec.specs.Contents.{Table, read_contents, read_alone}
use Rattle.codec.specs.Answers.{within, written}
use Rattle.codec.specs.Packing.{pack_list}
use Rattle.decimal.proofs.AnswerLaws.{never_done, then_done}
use Rattle.codec.proofs.ContentsLaws.{contents_sound}
use Rattle.codec.proofs.FrontLaws.{contents_same}
use Rattle.codec.proofs.BodyLaws.{packed_length}
use Rattle.codec.proofs.ReadBackTheorem.{read_back}
use Rattle.codec.specs.Bodies.{bodies}
use Rattle.records.specs.Files.RecordFile.{starting_file, read_file, record_count, bodies_in, added, shown, part_of, shown_part}
use Rattle.records.specs.Files.Adding.{file_before, file_after, Adds, Starts}
use Rattle.records.proofs.FileProofs.FileLaws.{FileRead, file_done, file_told, record_inside, shown_there, within_told, added_told}

-- so many whole bodies and one more
bodies_more :
    (n size : ℕ) (bytes body : List ℕ)
    → length bytes ≡ n * size
    → length body ≡ size
    → bodies (suc n) size (bytes ++ body) ≡ bodies n size bytes ++ body ∷ []
unfolding bodies
bodies_more zero size [] body h e = ap (λ (k : ℕ). take k body ∷ []) (sym e) ∙ ap (λ (l : List ℕ). l ∷ []) (take-length body)
bodies_more zero size (b ∷ bytes) body h e = absurd (omega arith)
bodies_more (suc n) size bytes body h e =
    let enough : size ≤ length bytes = omega (arith, suc-mul n size) in
    let rest : length (drop size bytes) ≡ n * size = omega (arith, suc-mul n size, length-drop size bytes) in
    ap₂ (λ (x y : List ℕ). x ∷ bodies (suc n) size y) (take-append-le size bytes body enough) (drop-append-le size bytes body enough)
    ∙ ap (λ (l : List (List ℕ)). take size bytes ∷ l) (bodies_more n size (drop size bytes) body rest e)

-- the body at a place among so many
bodies_at : (n size r : ℕ) (bytes : List ℕ) → r < n → get_or (bodies n size bytes) r [] ≡ take size (drop (r * size) bytes)
unfolding bodies
bodies_at zero size r bytes h = absurd (omega arith)
bodies_at (suc n) size zero bytes h =
    let none : 0 ≡ 0 * size = omega arith in
    ap (λ (k : ℕ). take size (drop k bytes)) none
bodies_at (suc n) size (suc r) bytes h =
    let next : size + r * size ≡ suc r * size = omega (arith, suc-mul r size) in
    bodies_at n size r (drop size bytes) (omega arith)
    ∙ ap (take size) (drop-drop (r * size) size bytes)
    ∙ ap (λ (k : ℕ). take size (drop k bytes)) next

-- The part of a file that is shown is the body in that place of the order.
pub record_at :
    (file : List ℕ) (r : ℕ) {table : Table}
    → read_file file ≡ done table
    → r < record_count table file
    → shown_part file r ≡ get_or (bodies_in table file) r []
unfolding part_of bodies_in
record_at file r {table} reads h =
    let size : ℕ = body_size table.images in
    ap (part_of file) (shown_there file r reads h)
    ∙ ap (take size) (sym (drop-drop (r * size) table.size file))
    ∙ sym (bodies_at (record_count table file) size r (drop table.size file) h)

module _ (file body : List ℕ) (table : Table) (reads : read_file file ≡ done table) (long : length body ≡ body_size table.images) where
  -- what the file tells
  told : FileRead file table
  told = file_told file reads

  -- the bytes of its bodies
  abbrev behind : ℕ
  behind = length file - table.size

  -- the count of its records
  abbrev count : ℕ
  count = record_count table file

  -- the bytes of the bodies with one more
  behind_more : length (file ++ body) - table.size ≡ behind + 1 * body_size table.images
  behind_more = omega (arith, length-append file body, told.within, one-mul (body_size table.images))

  -- its bodies fill them
  count_fills : count * body_size table.images ≡ behind
  unfolding record_count
  count_fills = let whole = div-add-mod' behind (body_size table.images) in omega (arith, told.whole)

  -- so the next record starts at its end
  count_ends : table.size + count * body_size table.images ≡ length file
  count_ends = omega (arith, count_fills, told.within)

  -- the file with one more record is a file
  more_reads : read_file (file ++ body) ≡ done table
  more_reads =
      file_done (file ++ body)
      (contents_same file (file ++ body) told.contents (take-append-le table.size file body told.within))
      (ap (λ (k : ℕ). k % body_size table.images) behind_more ∙ add-mul-mod_self_right behind 1 (body_size table.images) ∙ told.whole)

  -- of one more record
  more_count : record_count table (file ++ body) ≡ suc count
  unfolding record_count
  more_count =
      ap (λ (k : ℕ). k / body_size table.images) behind_more
      ∙ add-mul-div_right behind 1 told.some
      ∙ omega arith

  -- which is shown behind the file
  more_shown : shown (file ++ body) count ≡ done (record { start = length file; size = length body })
  more_shown =
      shown_there (file ++ body) count more_reads (omega (arith, more_count))
      ∙ λ i. done (record { start = count_ends i; size = sym long i })

  -- with its bytes
  more_part : shown_part (file ++ body) count ≡ body
  unfolding part_of
  more_part =
      ap (part_of (file ++ body)) more_shown
      ∙ ap (take (length body)) (drop_at file body (length file) refl)
      ∙ take-length body

  module _ (r : ℕ) (h : r < count) where
    -- an earlier record is shown at the same place
    more_earlier : shown (file ++ body) r ≡ shown file r
    more_earlier = shown_there (file ++ body) r more_reads (omega (arith, more_count)) ∙ sym (shown_there file r reads h)

    -- with the same bytes
    more_unchanged : shown_part (file ++ body) r ≡ shown_part file r
    unfolding part_of
    more_unchanged =
        let size : ℕ = body_size table.images in
        let start : ℕ = table.size + r * body_size table.images in
        let inside : start + size ≤ length file = record_inside file r reads h in
        let left : size ≤ length (drop start file) = omega (arith, length-drop start file) in
        ap (part_of (file ++ body)) (shown_there (file ++ body) r more_reads (omega (arith, more_count)))
        ∙ ap (take size) (drop-append-le start file body (omega arith))
        ∙ take-append-le size (drop start file) body left
        ∙ sym (ap (part_of file) (shown_there file r reads h))

  -- the bodies in order
  more_bodies : bodies_in table (file ++ body) ≡ bodies_in table file ++ body ∷ []
  unfolding bodies_in
  more_bodies =
      ap₂ (λ (n : ℕ) (l : List ℕ). bodies n (body_size table.images) l) more_count (drop-append-le table.size file body told.within)
      ∙ bodies_more count (body_size table.images) (drop table.size file) body (length-drop table.size file ∙ sym count_fills) long

-- the body that a list packs to, put behind a file
grown :
    (used : ℕ) (file body : List ℕ) (ns : List Number) (table : Table)
    → length file ≡ used
    → read_file file ≡ done table
    → pack_list table.images ns ≡ done body
    → Adds used ns body file (file ++ body)
grown used file body ns table size reads packs =
    let long : length body ≡ body_size table.images = packed_length table.images ns packs in
    let back = read_back (contents_sound file (file_told file reads).contents).all packs in
    record {
      length_before = size;
      length_after = length-append file body ∙ ap (λ (k : ℕ). k + length body) size;
      table = table;
      reads_before = reads;
      reads_after = more_reads file body table reads long;
      counted = more_count file body table reads long;
      shows = more_shown file body table reads long ∙ λ i. done (record { start = size i; size = length body });
      part = more_part file body table reads long;
      numbers = back.0;
      unpacks = back.2;
      truncations = back.1;
      earlier = more_earlier file body table reads long;
      unchanged = more_unchanged file body table reads long;
      in_order = more_bodies file body table reads long;
    }

-- the new used length holds the file and the body behind it
pub after_put :
    (buffer : List ℕ) (used : ℕ) (body : List ℕ) → used ≤ length buffer → file_after buffer used body ≡ file_before buffer used ++ body
unfolding written
after_put buffer used body h =
    take_at (take used buffer ++ body) (drop (used + length body) buffer) (used + length body)
    (length-append (take used buffer) body ∙ ap (λ (k : ℕ). k + length body) (length-take-le used buffer h))

-- What add wrote, show shows and unpacking reads; adding leaves earlier records; the record count rises by one.
pub adding :
    (buffer : List ℕ) (used : ℕ) (ns : List Number) {body : List ℕ}
    → added buffer used ns ≡ done body
    → Adds used ns body (file_before buffer used) (file_after buffer used body)
adding buffer used ns {body} h =
    let t = added_told buffer used ns h in
    let short : used ≤ length buffer = omega (arith, t.room) in
    subst (Adds used ns body (file_before buffer used)) (sym (after_put buffer used body short))
    (grown used (file_before buffer used) body ns t.table (length-take-le used buffer short) t.reads t.packs)

-- no bytes behind a contents are no bodies
none_behind : (n size : ℕ) → n ≡ 0 → (n % size ≡ 0) × (n / size ≡ 0)
none_behind n size e = (ap (λ (k : ℕ). k % size) e ∙ zero-mod size, ap (λ (k : ℕ). k / size) e ∙ zero-div size)

-- a file without records has no bodies
starts_with :
    (file : List ℕ) (table : Table) → read_file file ≡ done table → (length file - table.size) / body_size table.images ≡ 0 → Starts file
unfolding record_count bodies_in bodies
starts_with file table reads none =
    record {
      table = table;
      reads = reads;
      counted = none;
      in_order = ap (λ (n : ℕ). bodies n (body_size table.images) (drop table.size file)) none;
    }

-- a contents lent alone is a file without records
alone_starts : (contents : List ℕ) {table : Table} → read_alone contents ≡ done table → Starts contents
unfolding read_alone
alone_starts contents {table} h =
    let b = then_done (read_contents contents) (λ (t : Table). pick (eqb t.size (length contents)) (done t) (refused 11 0)) h in
    go b.value (eqb b.value.size (length contents)) refl b.first b.second
  where
    go :
        (t : Table) (k : Bool)
        → eqb t.size (length contents) ≡ k
        → read_contents contents ≡ done t
        → pick k (done t) (refused 11 0) ≡ done table
        → Starts contents
    go t true e read q =
        let fills : t.size ≡ length contents = eqb-true t.size (length contents) e in
        let left : length contents - t.size ≡ 0 = omega arith in
        let none = none_behind (length contents - t.size) (body_size t.images) left in
        starts_with contents t (file_done contents read none.0) none.1
    go t false e read q = never_done q

-- A contents that is written is a file without records.
pub starting : (contents : List ℕ) (room : ℕ) {bytes : List ℕ} → starting_file contents room ≡ done bytes → Starts bytes
unfolding starting_file
starting contents room h =
    let b = then_done (read_alone contents) (λ (t : Table). within room contents) h in
    subst Starts (within_told room contents b.second).0 (alone_starts contents b.first)
