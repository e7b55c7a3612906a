-- Document 02, (iii): positions are looked for exactly where nothing that is asked of them and of the file fails, and what is given then.
-- Assumes nothing.
use Prim.Native.Nat.{ℕ, zero, suc, ◌<◌}
use mathlib.Core.Path.{◌≡◌, refl, ap, sym, subst, ◌∙◌}
use mathlib.Core.Bool.{true}
use mathlib.Core.List.{List, [], ◌∷◌}
use Rattle.std.proofs.Common.{Result, Ok, Err}
use Rattle.decimal.specs.declared.refusal.Refusal.{Refusal}
use Rattle.rolls.specs.declared.searching.Found.{Found}
use mathlib.Core.Logic.{◌↔◌}
use native.Mathlib.Omega.{arith}
use lib.Dec.{leb}
use lib.ListN.{length, get_or}
use borrow.Author.Tests.{leb-true}
use Rattle.decimal.specs.declared.image.Image.{Image}
use Rattle.decimal.specs.declared.number.Number.{Number}
use Rattle.decimal.specs.Answer.{Answer, done, refused, ◌then◌, mapped, meaning}
use Rattle.decimal.specs.Number.{zero_number, normal}
use Rattle.decimal.proofs.AnswerLaws.{never_done, done_same, then_done, then_last}
use Rattle.decimal.proofs.NumberLaws.{check_normal}
use Rattle.codec.specs.Contents.{Table}
use Rattle.codec.specs.Lists.{no_image}
use Rattle.codec.specs.Order.{UnsignedFixed}
use Rattle.records.specs.Files.RecordFile.{read_file, record_count, bodies_in, shown_part}
use Rattle.records.proofs.FileProofs.FileTheorem.{record_at}
use Rattle.records.proofs.FileProofs.BodiesLaws.{records_count}
use Rattle.rolls.specs.Falling.{NeverFall, fall}
use Rattle.rolls.specs.Searching.{search_of, max_positions, first_columns_of, first_columns_in, Search, found, check_count, check_numbers, check_page, searching}
use Rattle.rolls.specs.Finding.{Finds, HasFirstColumn, Askable}
use Rattle.rolls.proofs.FallTheorem.{fall_exactly}
use Rattle.rolls.proofs.FindTheorem.{finds}
use Rattle.rolls.proofs.FirstColumnLaws.{first_columns_view}
use Rattle.rolls.proofs.PageLaws.{passed, kind_told, kind_fine, all_normal, page_fine}
use Rattle.rolls.proofs.SearchLaws.{page_taken, search_done}

-- The parts.

-- a first column for each record
first_columns_count : (ims : List Image) (bs : List (List ℕ)) {columns : List Number} → first_columns_of ims bs ≡ done columns → length columns ≡ length bs
unfolding first_columns_of
first_columns_count ims [] h = ap length (sym (done_same h))
first_columns_count ims (b ∷ bs) h = let v = first_columns_view ims b bs h in ap length (sym v.joined) ∙ ap suc (first_columns_count ims bs v.rest)

-- that of its body
first_columns_each :
    (ims : List Image) (bs : List (List ℕ)) {columns : List Number}
    → first_columns_of ims bs ≡ done columns
    → (r : ℕ)
    → r < length bs
    → HasFirstColumn ims (get_or bs r []) (get_or columns r zero_number)
first_columns_each ims [] h r l = absurd (omega arith)
first_columns_each ims (b ∷ bs) h zero l =
    let v = first_columns_view ims b bs h in
    record { numbers = v.numbers; reads = v.reads; first = ap (λ (ks : List Number). get_or ks 0 zero_number) (sym v.joined) }
first_columns_each ims (b ∷ bs) h (suc r) l =
    let v = first_columns_view ims b bs h in
    subst (λ (ks : List Number). HasFirstColumn ims (get_or bs r []) (get_or ks (suc r) zero_number)) v.joined (first_columns_each ims bs v.rest r (omega arith))

module _ (table : Table) (file : List ℕ) {columns : List Number} (h : first_columns_in table file ≡ done columns) where
  first_columns_records : length columns ≡ record_count table file
  first_columns_records = first_columns_count table.images (bodies_in table file) h ∙ records_count table file

  first_columns_shown :
      read_file file ≡ done table → (r : ℕ) → r < record_count table file → HasFirstColumn table.images (shown_part file r) (get_or columns r zero_number)
  first_columns_shown reads r l =
      subst (λ (body : List ℕ). HasFirstColumn table.images body (get_or columns r zero_number)) (sym (record_at file r reads l))
      (first_columns_each table.images (bodies_in table file) h r (omega (arith, records_count table file)))

-- positions in normal form
normals_said :
    (index : ℕ) (ps : List Number) → ((i : ℕ) → i < length ps → normal (get_or ps i zero_number) ≡ true) → check_numbers index ps ≡ done tt
unfolding check_numbers ◌then◌
normals_said index [] h = refl
normals_said index (p ∷ ps) h =
    rw (check_normal p index (h 0 (omega arith))) (normals_said (suc index) ps (λ i l. h (suc i) (omega arith)))

-- the same page, asked of another file
pub page_asked :
    {file other : List ℕ} {ps columns ks : List Number} {table : Table}
    → Askable file ps columns
    → read_file other ≡ done table
    → first_columns_in table other ≡ done ks
    → UnsignedFixed (get_or table.images 0 no_image)
    → NeverFall ks
    → Askable other ps ks
page_asked {other = other} {table = table} a reads bodies kind order =
    record {
      table = table;
      reads = reads;
      page = a.page;
      bodies = bodies;
      records = first_columns_records table other bodies;
      each = first_columns_shown table other bodies reads;
      normals = a.normals;
      positions = a.positions;
      kind = kind;
      in_order = order;
    }

-- The call.

-- what is asked, of what is given
pub asked : (file : List ℕ) (ps : List Number) {s : Search} → searching file ps ≡ done s → (columns : List Number) × Askable file ps columns × (s ≡ found ps columns)
unfolding searching check_count check_page
asked file ps {s} h =
    let one = then_done (read_file file) (λ (t : Table). (check_count ps then λ _. (first_columns_in t file then λ ks. (check_page t.images ps (fall ks) then λ _. done (found ps ks))))) h in
    let table = one.value in
    let two = then_last (check_count ps) (first_columns_in table file then λ ks. (check_page table.images ps (fall ks) then λ _. done (found ps ks))) one.second in
    let three = then_done (first_columns_in table file) (λ (ks : List Number). (check_page table.images ps (fall ks) then λ _. done (found ps ks))) two.1 in
    let columns = three.value in
    let four = then_last (check_page table.images ps (fall columns)) (done (found ps columns)) three.second in
    let taken = page_taken table.images ps (fall columns) four.0 in (
      columns,
      record {
        table = table;
        reads = one.first;
        page = leb-true (length ps) max_positions (passed (leb (length ps) max_positions) 10 two.0);
        bodies = three.first;
        records = first_columns_records table file three.first;
        each = first_columns_shown table file three.first one.first;
        normals = all_normal ps taken.normals;
        positions = (fall_exactly ps).0 taken.positions;
        kind = kind_told table.images taken.kind;
        in_order = (fall_exactly columns).0 taken.records;
      },
      sym (done_same four.1),
    )

-- what is given, where all that is asked holds
pub answered : {file : List ℕ} {ps columns : List Number} → Askable file ps columns → searching file ps ≡ done (found ps columns)
answered {file} {ps} {columns} a =
    search_done file ps a.reads a.page a.bodies
    (page_fine a.table.images ps (normals_said 0 ps a.normals) (kind_fine a.table.images a.kind)
    ((fall_exactly ps).1 a.positions) ((fall_exactly columns).1 a.in_order))

-- Published: positions are looked for exactly where all that is asked holds.
pub search_exactly :
    (file : List ℕ) (ps : List Number) {s : Search} → (searching file ps ≡ done s) ↔ ((columns : List Number) × Askable file ps columns × (s ≡ found ps columns))
search_exactly file ps {s} = (asked file ps, λ a. answered a.1 ∙ sym (ap {B = Answer Search} done a.2))

-- Published: and the first records are given then.
pub search_finds : (file : List ℕ) (ps : List Number) {s : Search} → searching file ps ≡ done s → (columns : List Number) × Askable file ps columns × Finds ps columns s
search_finds file ps h =
    let a = asked file ps h in
    let ask = a.1 in
    (a.0, ask, subst (λ (s : Search). Finds ps a.0 s) (sym a.2) (finds ps a.0 ask.positions ask.in_order))

-- Published: a call that finds has the list of the records found, and no place behind the last position's;
pub found_places : (r : Result Found Refusal) {s : Search} → mapped search_of (meaning r) ≡ done s → (f : Found) × (r ≡ Ok f) × (f.records.items ≡ s.records)
unfolding mapped
found_places (Ok f) h = (f, refl, ap (λ (s : Search). s.records) (done_same h))
found_places (Err e) h = never_done h

-- one that is refused has none.
pub refused_places : (r : Result Found Refusal) {number place : ℕ} → mapped search_of (meaning r) ≡ refused number place → (e : Refusal) × (r ≡ Err e)
unfolding mapped
refused_places (Ok f) h = never_done (sym h)
refused_places (Err e) h = (e, refl)
