-- Document 02, (vii): the two calls with nothing between them equal the old add; bytes behind the used length play no part but for room; 18 is
-- said exactly where the place is another. Assumes nothing.
use Prim.Native.Nat.{ℕ, ◌+◌, ◌-◌, ◌≤◌}
use mathlib.Core.Path.{◌≡◌, refl, ap, sym, ◌∙◌}
use mathlib.Core.List.{List}
use native.Mathlib.Omega.{arith}
use lib.ListN.{length, take}
use borrow.Author.Tests.{le-ltb}
use Rattle.decimal.specs.declared.number.Number.{Number}
use Rattle.decimal.specs.Answer.{Answer, done, refused, ◌then◌}
use Rattle.decimal.proofs.AnswerLaws.{never, then_done, then_then, one_answer}
use Rattle.codec.specs.Answers.{within}
use Rattle.codec.specs.Columns.{body_size}
use Rattle.codec.specs.Contents.{Table, read_contents}
use Rattle.codec.specs.Packing.{pack_list}
use Rattle.codec.proofs.BodyLaws.{packed_length}
use Rattle.codec.proofs.FrontLaws.{contents_body}
use Rattle.records.specs.declared.files.reserving.Reservation.{Reservation}
use Rattle.records.specs.Files.RecordFile.{read_used, record_count, added, new_length, written_behind}
use Rattle.records.specs.Files.Adding.{file_before, file_after, Adds}
use Rattle.records.specs.Files.Reserving.{reserved, read_for, filled}
use Rattle.records.specs.Files.TwoCalls.{bytes_of_both, EqualsAdd, Foretells, body_for, SameFile, SameButRoom, Differs}
use Rattle.records.proofs.FileProofs.FileLaws.{file_told, used_told, added_refused, added_told}
use Rattle.records.proofs.FileProofs.FileTheorem.{adding}
use Rattle.records.proofs.FileProofs.ReserveLaws.{reserves_refused, reserves_done, table_inside, differs_table, same_table, filled_refused, filled_same}

-- What the first call answers.

-- the file's used length, and the size of a body under its contents
pub record Reserves (buffer : List ℕ) (used : ℕ) (r : Reservation) : Type 0 where
  pub table : Table
  pub reads : read_used buffer used ≡ done table
  pub start : r.start ≡ used
  pub size : r.size ≡ body_size table.images

module _ (buffer : List ℕ) (used : ℕ) where
  -- what it tells
  pub reserves_told : {r : Reservation} → reserved buffer used ≡ done r → Reserves buffer used r
  unfolding reserved
  reserves_told {r} h =
      let b = then_done (read_used buffer used) (λ (t : Table). done (record { start = used; size = body_size t.images })) h in
      let same : record { start = used; size = body_size b.value.images } ≡ r = cc in
      record {
        table = b.value;
        reads = b.first;
        start = sym (ap (λ (x : Reservation). x.start) same);
        size = sym (ap (λ (x : Reservation). x.size) same);
      }

  -- the place in it is the file's
  reserves_same : {r : Reservation} → reserved buffer used ≡ done r → Differs buffer used r → ⊥
  reserves_same h d =
      let t = reserves_told h in
      let file = take used buffer in
      let same : d.table ≡ t.table = one_answer d.reads (file_told file (used_told buffer used t.reads).1).contents in
      d.differs (sym t.start, ap (λ (x : Table). body_size x.images) same ∙ sym t.size)

-- What the second call does.

-- Published: where the file's used length, or the body's size under its contents, is not the one in the answer, the second call is refused with
-- 18; else it does what the old add does, with any answer that has this place.
pub write_exactly :
    (buffer : List ℕ) (used : ℕ) (r : Reservation) (ns : List Number)
    → (Differs buffer used r → filled buffer used r ns ≡ refused 18 0)
    × ((Differs buffer used r → ⊥) → filled buffer used r ns ≡ added buffer used ns)
write_exactly buffer used r ns =
    (λ d. filled_refused buffer used r ns (differs_table buffer used r d), λ same. filled_same buffer used r ns (same_table buffer used r same))

-- what it writes is what is added
filled_done : (buffer : List ℕ) (used : ℕ) (r : Reservation) (ns : List Number) {body : List ℕ} → filled buffer used r ns ≡ done body → filled buffer used r ns ≡ added buffer used ns
filled_done buffer used r ns h = (write_exactly buffer used r ns).1 (λ d. never ((write_exactly buffer used r ns).0 d) h)

-- given what the first one answers, it does what the old add does
pub filled_next :
    (buffer : List ℕ) (used : ℕ) (ns : List Number) {r : Reservation} → reserved buffer used ≡ done r → filled buffer used r ns ≡ added buffer used ns
filled_next buffer used ns {r} h = (write_exactly buffer used r ns).1 (reserves_same buffer used h)

-- Published: "The two with nothing between them equal the old add": the same answer, refusal included, and the same bytes.
pub equals_add : (buffer : List ℕ) (used : ℕ) (ns : List Number) → EqualsAdd buffer used ns
unfolding bytes_of_both new_length written_behind ◌then◌
equals_add buffer used ns = go (read_used buffer used) refl
  where
    go : (a : Answer Table) → read_used buffer used ≡ a → EqualsAdd buffer used ns
    go (done table) h =
        let first = reserves_done buffer used h in
        let second = filled_next buffer used ns first in
        record { answer = rw (first, second); bytes = rw (first, second) }
    go (refused number place) h =
        let first = reserves_refused buffer used h in
        let old = added_refused buffer used ns h in
        record { answer = rw (first, old); bytes = rw (first, old) }

module _ (buffer : List ℕ) (used : ℕ) (ns : List Number) {number place : ℕ} (h : reserved buffer used ≡ refused number place) where
  -- Published: so where the first call is refused, the old one gives the refusal,
  pub first_refused : refused number place ≡ new_length used (added buffer used ns)
  unfolding ◌then◌
  first_refused = sym (ap (λ (a : Answer Reservation). a then λ r. new_length used (filled buffer used r ns)) h) ∙ (equals_add buffer used ns).answer

  -- Published: and leaves the buffer as it is.
  pub first_nothing : buffer ≡ written_behind used (added buffer used ns) buffer
  unfolding bytes_of_both
  first_nothing = sym (ap (bytes_of_both buffer used ns) h) ∙ (equals_add buffer used ns).bytes

-- Published: where the body would go and how many bytes it fills, the first call foretells.
pub foretells :
    (buffer : List ℕ) (used : ℕ) (ns : List Number) {r : Reservation} {body : List ℕ}
    → reserved buffer used ≡ done r
    → added buffer used ns ≡ done body
    → Foretells buffer used r body
foretells buffer used ns {r} {body} first add =
    let t = reserves_told buffer used first in
    let a = added_told buffer used ns add in
    let e = adding buffer used ns add in
    let same : a.table ≡ t.table = one_answer a.reads (used_told buffer used t.reads).1 in
    let long : length body ≡ r.size = packed_length a.table.images ns a.packs ∙ ap (λ (x : Table). body_size x.images) same ∙ sym t.size in
    record {
      start = t.start;
      size = long;
      number = record_count e.table (file_before buffer used);
      shows = e.shows ∙ λ i. done (record { start = sym t.start i; size = long i });
    }

-- Published: what the second call writes is a record like one that is added: show shows it, unpacking reads it, the others stay.
pub writing :
    (buffer : List ℕ) (used : ℕ) (r : Reservation) (ns : List Number) {body : List ℕ}
    → filled buffer used r ns ≡ done body
    → Adds used ns body (file_before buffer used) (file_after buffer used body)
writing buffer used r ns h = adding buffer used ns (sym (filled_done buffer used r ns h) ∙ h)

-- What stands behind the used length.

-- the body that is written is made of the file's own bytes, all but its room
pub room_alone :
    (buffer : List ℕ) (used : ℕ) (r : Reservation) (ns : List Number)
    → used ≤ length buffer
    → filled buffer used r ns ≡ (body_for (take used buffer) r ns then within (length buffer - used))
unfolding filled body_for
room_alone buffer used r ns inside =
    ap (λ (a : Answer Table). a then λ table. (pack_list table.images ns then within (length buffer - used))) (table_inside buffer used r inside)
    ∙ then_then (read_for r (take used buffer)) (λ (t : Table). pack_list t.images ns) (within (length buffer - used))

-- Published: "whatever happens to bytes behind the used length plays no part in the answer but for room".
pub behind_no_part : (used : ℕ) (one other : List ℕ) (r : Reservation) (ns : List Number) → SameFile used one other → SameButRoom used one other r ns
unfolding reserved read_used
behind_no_part used one other r ns s =
    let short = le-ltb (length one) used s.inside in
    let short_other = le-ltb (length other) used s.inside_other in
    record {
      first = rw (short, short_other, s.bytes);
      written = room_alone one used r ns s.inside;
      written_other =
          room_alone other used r ns s.inside_other
          ∙ ap (λ (file : List ℕ). body_for file r ns then within (length other - used)) (sym s.bytes);
    }

-- Published: given the answer of the first call, the second does what the old add does then, whatever has happened behind the used length.
pub filled_later :
    (used : ℕ) (earlier later : List ℕ) (ns : List Number) {r : Reservation}
    → SameFile used earlier later
    → reserved earlier used ≡ done r
    → filled later used r ns ≡ added later used ns
filled_later used earlier later ns {r} s h = filled_next later used ns (sym (behind_no_part used earlier later r ns s).first ∙ h)

-- Another place.

-- Published: "another record added meanwhile gives 18".
pub added_meanwhile :
    (earlier now later : List ℕ) (used : ℕ) (others ns : List Number) {r : Reservation} {body : List ℕ}
    → reserved earlier used ≡ done r
    → added now used others ≡ done body
    → take (used + length body) later ≡ file_after now used body
    → used + length body ≤ length later
    → filled later (used + length body) r ns ≡ refused 18 0
added_meanwhile earlier now later used others ns {r} {body} first add file inside =
    let t = reserves_told earlier used first in
    let a = added_told now used others add in
    let e = adding now used others add in
    let long = packed_length a.table.images others a.packs in
    let some = contents_body (file_before now used) (file_told (file_before now used) a.reads).contents in
    (write_exactly later (used + length body) r ns).0
    (record {
      inside = inside;
      table = e.table;
      reads = ap read_contents file ∙ (file_told (file_after now used body) e.reads_after).contents;
      differs = λ s. let start = t.start in absurd (omega (arith, s.0, start, long, some));
    })

-- Published: so of two writers with the same answer the second is refused.
pub written_meanwhile :
    (earlier now later : List ℕ) (used : ℕ) (s : Reservation) (others ns : List Number) {r : Reservation} {body : List ℕ}
    → reserved earlier used ≡ done r
    → filled now used s others ≡ done body
    → take (used + length body) later ≡ file_after now used body
    → used + length body ≤ length later
    → filled later (used + length body) r ns ≡ refused 18 0
written_meanwhile earlier now later used s others ns {r} {body} first write file inside =
    added_meanwhile earlier now later used others ns first (sym (filled_done now used s others write) ∙ write) file inside

-- Published: "a contents of another body size gives 18".
pub contents_meanwhile :
    (earlier later : List ℕ) (used now : ℕ) (ns : List Number) {r : Reservation} {table : Table}
    → reserved earlier used ≡ done r
    → now ≤ length later
    → read_contents (take now later) ≡ done table
    → (body_size table.images ≡ r.size → ⊥)
    → filled later now r ns ≡ refused 18 0
contents_meanwhile earlier later used now ns {r} {table} first inside reads other =
    (write_exactly later now r ns).0 (record { inside = inside; table = table; reads = reads; differs = λ s. other s.1 })
