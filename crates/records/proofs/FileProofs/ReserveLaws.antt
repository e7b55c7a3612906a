-- Laws of adding a record in two calls: what the code of each call reads. Assumes nothing.
use Prim.Native.Nat.{ℕ, ◌-◌, ◌≤◌}
use mathlib.Core.Path.{◌≡◌, refl, ap, sym, ◌∙◌}
use mathlib.Core.Bool.{Bool, true, false, ◌&&◌}
use mathlib.Core.List.{List}
use mathlib.Core.Logic.{◌⊎◌, inl, inr, ⊎_elim}
use lib.ListN.{length, take}
use lib.Seq.{length-take-le}
use lib.Dec.{ltb, eqb}
use borrow.Author.Tests.{le-ltb, ltb-false, eqb-true, eq-eqb}
use Rattle.decimal.specs.declared.number.Number.{Number}
use Rattle.decimal.specs.Answer.{Answer, done, refused, ◌then◌, pick}
use Rattle.decimal.proofs.AnswerLaws.{never, then_next, then_refused}
use Rattle.codec.specs.Answers.{within}
use Rattle.codec.specs.Columns.{body_size}
use Rattle.codec.specs.Contents.{Table, read_contents}
use Rattle.codec.specs.Packing.{pack_list, packing_under}
use Rattle.records.specs.declared.files.reserving.Reservation.{Reservation}
use Rattle.records.specs.Files.RecordFile.{read_file, read_used, added, new_length, written_behind}
use Rattle.records.specs.Files.Reserving.{reserved, check_place, read_for, read_reserved, filled}
use Rattle.records.specs.Files.TwoCalls.{Differs}
use Rattle.records.proofs.FileProofs.FileLaws.{file_first, adds_within, adds_under}

-- The first call.

module _ (buffer : List ℕ) (used : ℕ) where
  -- refused as the file is
  pub reserves_refused : {number place : ℕ} → read_used buffer used ≡ refused number place → reserved buffer used ≡ refused number place
  unfolding reserved ◌then◌
  reserves_refused h = rw h

  -- of a file that is read
  pub reserves_done : {table : Table} → read_used buffer used ≡ done table → reserved buffer used ≡ done (record { start = used; size = body_size table.images })
  unfolding reserved ◌then◌
  reserves_done h = rw h

  -- of the file that the code has read
  pub reserves_read : {t : Table} → done t ≡ read_used buffer used → reserved buffer used ≡ done (record { start = used; size = (body_size t.images) })
  reserves_read h = reserves_done (sym h)

-- Whether the place is the one in the answer.

module _ (used size : ℕ) (r : Reservation) where
  -- it is
  pub place_same : used ≡ r.start → size ≡ r.size → check_place used size r ≡ done tt
  unfolding check_place
  place_same s b = rw (eq-eqb used r.start s, eq-eqb size r.size b)

  -- it is not
  pub place_other : ((used ≡ r.start) × (size ≡ r.size) → ⊥) → check_place used size r ≡ refused 18 0
  unfolding check_place
  place_other d = go (eqb used r.start) (eqb size r.size) refl refl
    where
      go : (x y : Bool) → eqb used r.start ≡ x → eqb size r.size ≡ y → pick (x && y) (done (tt {0})) (refused 18 0) ≡ refused 18 0
      go true true p q = absurd (d (eqb-true used r.start p, eqb-true size r.size q))
      go true false p q = refl
      go false y p q = refl

-- Reading the file in the first bytes of a buffer, of which a place was reserved.

module _ (buffer : List ℕ) (used : ℕ) (r : Reservation) where
  -- the file
  abbrev file : List ℕ
  file = take used buffer

  module _ (inside : used ≤ length buffer) where
    -- a used length within the buffer
    pub table_inside : read_reserved buffer used r ≡ read_for r file
    unfolding read_reserved
    table_inside = rw (le-ltb (length buffer) used inside)

    -- the file is refused as its contents is
    pub table_first : {number place : ℕ} → read_contents file ≡ refused number place → read_reserved buffer used r ≡ refused number place
    unfolding read_for
    table_first h = table_inside ∙ then_refused (λ (t : Table). check_place (length file) (body_size t.images) r then λ _. read_file file) h

    -- behind its contents the place is looked at
    table_next :
        {table : Table}
        → read_contents file ≡ done table
        → read_reserved buffer used r ≡ (check_place used (body_size table.images) r then λ _. read_file file)
    unfolding read_for
    table_next {table} h =
        table_inside
        ∙ then_next (λ (t : Table). check_place (length file) (body_size t.images) r then λ _. read_file file) h
        ∙ ap (λ (k : ℕ). check_place k (body_size table.images) r then λ _. read_file file) (length-take-le used buffer inside)

    module _ {t : Table} (h : done t ≡ read_contents file) where
      -- that which the code finds
      table_place : read_reserved buffer used r ≡ (check_place used (body_size t.images) r then λ _. read_file file)
      table_place = table_next (sym h)

      -- the file is refused as the place is
      pub table_stopped : {number place : ℕ} → refused number place ≡ check_place used (body_size t.images) r → read_reserved buffer used r ≡ refused number place
      table_stopped s = table_place ∙ then_refused (λ _. read_file file) (sym s)

      -- else it is read as a file is
      pub table_checked : done tt ≡ check_place used (body_size t.images) r → read_reserved buffer used r ≡ read_file file
      table_checked s = table_place ∙ then_next (λ _. read_file file) (sym s)

  -- Published: where the place in the answer is another, the file is refused with 18.
  pub differs_table : Differs buffer used r → read_reserved buffer used r ≡ refused 18 0
  differs_table d =
      table_next d.inside d.reads ∙ then_refused (λ _. read_file file) (place_other used (body_size d.table.images) r d.differs)

  -- Published: it is another, or the file is read as without an answer.
  pub same_or_differs : (read_reserved buffer used r ≡ read_used buffer used) ⊎ Differs buffer used r
  unfolding read_reserved read_used
  same_or_differs = past (ltb (length buffer) used) refl
    where
      -- the place of a contents that is read
      at :
          (inside : used ≤ length buffer) (t : Table)
          → read_contents file ≡ done t
          → (a : Answer (Unit {0}))
          → check_place used (body_size t.images) r ≡ a
          → (read_reserved buffer used r ≡ read_file file) ⊎ Differs buffer used r
      at inside t c (done u) e = inl (table_next inside c ∙ then_next (λ _. read_file file) e)
      at inside t c (refused x y) e =
          inr
          (record {
            inside = inside;
            table = t;
            reads = c;
            differs = λ s. never e (place_same used (body_size t.images) r s.0 s.1);
          })

      read : used ≤ length buffer → (a : Answer Table) → read_contents file ≡ a → (read_reserved buffer used r ≡ read_file file) ⊎ Differs buffer used r
      read inside (done t) c = at inside t c (check_place used (body_size t.images) r) refl
      read inside (refused x y) c = inl (table_first inside c ∙ sym (file_first file c))

      past : (b : Bool) → ltb (length buffer) used ≡ b → (read_reserved buffer used r ≡ pick b (refused 11 0) (read_file file)) ⊎ Differs buffer used r
      past true e = inl (ap (λ (b : Bool). pick b (refused 11 0) (read_for r file)) e)
      past false e = read (ltb-false (length buffer) used e) (read_contents file) refl

  -- so it is read so where it is no other
  pub same_table : (Differs buffer used r → ⊥) → read_reserved buffer used r ≡ read_used buffer used
  same_table same = ⊎_elim (λ e. e) (λ d. absurd (same d)) same_or_differs

-- What the second call writes.

module _ (buffer : List ℕ) (used : ℕ) (r : Reservation) (ns : List Number) where
  module _ {number place : ℕ} (h : read_reserved buffer used r ≡ refused number place) where
    -- a file that is refused is not written to
    pub filled_refused : filled buffer used r ns ≡ refused number place
    unfolding filled ◌then◌
    filled_refused = rw h

    -- the call gives the refusal
    pub fills_refused : refused number place ≡ new_length used (filled buffer used r ns)
    unfolding new_length
    fills_refused = sym (ap (new_length used) filled_refused)

    -- and the buffer stays
    pub fills_nothing : buffer ≡ written_behind used (filled buffer used r ns) buffer
    unfolding written_behind
    fills_nothing = sym (ap (λ (a : Answer (List ℕ)). written_behind used a buffer) filled_refused)

  -- in a file that is read as without an answer, what is added is written
  pub filled_same : read_reserved buffer used r ≡ read_used buffer used → filled buffer used r ns ≡ added buffer used ns
  unfolding filled added
  filled_same e = ap (λ (a : Answer Table). a then λ table. (pack_list table.images ns then within (length buffer - used))) e

module _ (buffer : List ℕ) (used : ℕ) (r : Reservation) where
  -- a file that is read has the place in the answer
  pub read_same : {table : Table} → read_reserved buffer used r ≡ done table → read_reserved buffer used r ≡ read_used buffer used
  read_same h = same_table buffer used r (λ d. never (differs_table buffer used r d) h)

  module _ {t : Table} (h : done t ≡ read_reserved buffer used r) where
    -- the code has read it as without the answer
    table_used : read_reserved buffer used r ≡ read_used buffer used
    table_used = read_same (sym h)

    -- the used length is within the buffer
    pub fills_within : used ≤ length buffer
    fills_within = adds_within buffer used (h ∙ table_used)

    -- what is packed behind it under the images that the code has read is written
    pub fills_under : (ns : List Number) → packing_under t.images ns (length buffer - used) ≡ filled buffer used r ns
    fills_under ns =
        adds_under buffer used (h ∙ table_used) ns ∙ sym (filled_same buffer used r ns table_used)
