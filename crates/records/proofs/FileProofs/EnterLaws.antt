-- Laws of the call that enters records: what refuses it, and what its buffer holds. Assumes nothing.
use Rattle.std.proofs.Common.{◌≡◌, ℕ, ◌+◌, ◌*◌, ◌<◌, ◌≤◌, List, ◌++◌, length, drop, length-append, append_assoc, drop-drop, ap, ap₂, sym, refl, ◌∙◌, arith}
use Rattle.std.specs.Prelude.{Result, Ok, Err, IsErrAnd}
use Rattle.std.specs.List.{concat}
use borrow.Author.Tests.{le-ltb, lt-ltb}
use Rattle.decimal.specs.Answer.{done, refused, reason_number}
use Rattle.decimal.specs.declared.image.Image.{Image}
use Rattle.codec.specs.Answers.{within}
use Rattle.codec.specs.Columns.{body_size}
use Rattle.codec.specs.Contents.{Table, read_alone}
use Rattle.records.specs.declared.files.entering.EntryRefusal.{EntryRefusal}
use Rattle.records.specs.declared.files.entering.EntryRefusal.TheVariants as entry
use Rattle.records.specs.declared.files.entering.Lines.{Lines}
use Rattle.records.specs.Files.Entering.{Entry, entered, rejected, at_line, first_of, next_of, lines_in, text_bodies, bodies_of, counted_bodies, given_bodies, Fills, entry_of, entering, sized_entry, stored_entry, refused_entry, entry_meaning}
use Rattle.codec.proofs.ContentsLaws.{alone_told}
use Rattle.codec.proofs.FrontLaws.{contents_body}
use Rattle.records.proofs.FileProofs.EntryLaws.{bodies_long, entered_same, never_entered, never_rejected}

-- Answers.

-- a refusal that is passed on
pub entry_passed : (r : Result ℕ EntryRefusal) (e : EntryRefusal) → IsErrAnd r (λ (y : EntryRefusal). y ≡ e) → entry_meaning r ≡ refused_entry e
entry_passed (Ok size) e h = absurd h
entry_passed (Err y) e h = ap (λ (x : EntryRefusal). refused_entry x) h

module _ {answer : Entry (List ℕ)} (e : EntryRefusal) (h : answer ≡ refused_entry e) where
  -- gives the refusal
  pub entry_sized : refused_entry e ≡ sized_entry answer
  unfolding sized_entry next_of
  entry_sized = go e ∙ sym (ap sized_entry h)
    where
      go : (e : EntryRefusal) → refused_entry {A = ℕ} e ≡ sized_entry (refused_entry e)
      go (entry.Call r) = refl
      go (entry.Line line r) = refl

  -- and changes nothing
  pub entry_stored : (buffer : List ℕ) → buffer ≡ stored_entry answer buffer
  unfolding stored_entry
  entry_stored buffer = go e ∙ sym (ap (λ (a : Entry (List ℕ)). stored_entry a buffer) h)
    where
      go : (e : EntryRefusal) → buffer ≡ stored_entry (refused_entry e) buffer
      go (entry.Call r) = refl
      go (entry.Line line r) = refl

-- Counting.

-- a count that is refused
pub counted_refused : (a : Entry (List (List ℕ))) (e : EntryRefusal) → refused_entry e ≡ counted_bodies 0 a → a ≡ refused_entry e
unfolding counted_bodies next_of
counted_refused (entered bs) (entry.Call r) h = never_rejected h
counted_refused (entered bs) (entry.Line line r) h = never_entered h
counted_refused (rejected number place) (entry.Call r) h =
    let n : reason_number r.reason ≡ number = cc in
    let p : r.place ≡ place = cc in
    λ i. rejected (sym n i) (sym p i)
counted_refused (rejected number place) (entry.Line line r) h = let z : ◌≡◌ {A = ℕ} 0 1 = cc in absurd (omega arith)
counted_refused (at_line k number place) (entry.Call r) h = let z : ◌≡◌ {A = ℕ} 0 1 = cc in absurd (omega arith)
counted_refused (at_line k number place) (entry.Line line r) h =
    let l : line ≡ k = cc in
    let n : reason_number r.reason ≡ number = cc in
    let p : r.place ≡ place = cc in
    λ i. at_line (sym l i) (sym n i) (sym p i)

-- a count that is given
pub counted_done : (a : Entry (List (List ℕ))) {records : ℕ} → entered records ≡ counted_bodies 0 a → (bs : List (List ℕ)) × (a ≡ entered bs) × (records ≡ length bs)
unfolding counted_bodies next_of
counted_done (entered bs) h = (bs, refl, entered_same h ∙ omega arith)
counted_done (rejected number place) h = never_rejected (sym h)
counted_done (at_line line number place) h = never_entered (sym h)

-- The call.

module _ (contents text : List ℕ) (room : ℕ) where
  -- refused as the contents is
  pub enter_contents : {number place : ℕ} → read_alone contents ≡ refused number place → entering contents text room ≡ rejected number place
  unfolding entering entry_of next_of first_of
  enter_contents h = rw h

  module _ {table : Table} (h : read_alone contents ≡ done table) where
    -- then as the first bad line is
    pub enter_refused : (e : EntryRefusal) → text_bodies table.images (lines_in text) ≡ refused_entry e → entering contents text room ≡ refused_entry e
    unfolding entering entry_of next_of first_of
    enter_refused (entry.Call r) e = rw (h, e)
    enter_refused (entry.Line line r) e = rw (h, e)

    module _ {bs : List (List ℕ)} (e : text_bodies table.images (lines_in text) ≡ entered bs) where
      -- 6 where the file is longer than the buffer
      pub enter_room : room < length contents + length (concat bs) → entering contents text room ≡ rejected 6 0
      unfolding entering entry_of next_of first_of within
      enter_room l = rw (h, e, lt-ltb room (length (contents ++ concat bs)) (omega (arith, l, length-append contents (concat bs))))

      -- else the file
      pub enter_done : length contents + length (concat bs) ≤ room → entering contents text room ≡ entered (contents ++ concat bs)
      unfolding entering entry_of next_of first_of within
      enter_done l = rw (h, e, le-ltb room (length (contents ++ concat bs)) (omega (arith, l, length-append contents (concat bs))))

-- What the code has.

-- of the contents
pub record Entered (contents : List ℕ) (r : Table) : Type 0 where
  pub reads : read_alone contents ≡ done r
  pub some : 0 < body_size r.images

pub contents_held : (contents : List ℕ) {r : Table} → done r ≡ read_alone contents → Entered contents r
contents_held contents {r} h =
    record {
      reads = sym h;
      some = contents_body contents (alone_told contents (sym h)).0;
    }

-- a first line with another count, under the images that the code has
pub head_refused :
    {contents : List ℕ} {r : Table} (c : Entered contents r) (text : List ℕ) (room : ℕ) {lent : List Image} (e : EntryRefusal)
    → lent ≡ r.images
    → text_bodies lent (lines_in text) ≡ refused_entry e
    → entering contents text room ≡ refused_entry e
head_refused {contents} c text room e own h =
    enter_refused contents text room c.reads e (ap (λ (l : List Image). text_bodies l (lines_in text)) (sym own) ∙ h)

-- and a bad line
pub line_stops :
    {contents : List ℕ} {r : Table} (c : Entered contents r) (text : List ℕ) (room : ℕ) (lines : Lines) {lent counted : List Image} (e : EntryRefusal)
    → lent ≡ r.images
    → text_bodies lent (lines_in text) ≡ bodies_of lent lines
    → counted ≡ r.images
    → refused_entry e ≡ counted_bodies 0 (bodies_of counted lines)
    → entering contents text room ≡ refused_entry e
line_stops c text room lines {lent} {counted} e own found same h =
    head_refused c text room e own
    (found ∙ ap (λ (l : List Image). bodies_of l lines) (own ∙ sym same) ∙ counted_refused (bodies_of counted lines) e h)

-- and of the records
module _ {contents : List ℕ} {r : Table} (c : Entered contents r) (text : List ℕ) (lines : Lines) {records : ℕ} {lent counted : List Image}
    (own : lent ≡ r.images)
    (found : text_bodies lent (lines_in text) ≡ bodies_of lent lines)
    (same : counted ≡ r.images)
    (known : entered records ≡ counted_bodies 0 (bodies_of counted lines)) where
  counted_some : (bs : List (List ℕ)) × (bodies_of counted lines ≡ entered bs) × (records ≡ length bs)
  counted_some = counted_done (bodies_of counted lines) known

  -- the bodies are as many, and each has its size
  bodies_many : length (concat counted_some.0) ≡ records * (body_size r.images)
  bodies_many =
      let long = bodies_long counted lines.first 0 (lines_in lines.text.now) counted_some.1 in
      let size : body_size counted ≡ (body_size r.images) = ap body_size same in
      long ∙ ap₂ (λ (m n : ℕ). m * n) (sym counted_some.2) size

  text_given : text_bodies r.images (lines_in text) ≡ entered counted_some.0
  text_given =
      ap (λ (l : List Image). text_bodies l (lines_in text)) (sym own)
      ∙ found
      ∙ ap (λ (l : List Image). bodies_of l lines) (own ∙ sym same)
      ∙ counted_some.1

  -- 6
  pub enter_longer : (room : ℕ) → room < length contents + records * (body_size r.images) → entering contents text room ≡ rejected 6 0
  enter_longer room l = enter_room contents text room c.reads text_given (omega (arith, l, bodies_many))

  module _ {written : List Image} (again : written ≡ r.images) where
    -- the buffer that the bodies fill
    pub bodies_fill : (buffer : List ℕ) → length buffer ≡ records * (body_size r.images) → Fills written lines (body_size r.images) buffer
    bodies_fill buffer long =
        record {
          each = ap body_size (sym again);
          bodies = counted_some.0;
          given = ap (λ (l : List Image). bodies_of l lines) (again ∙ sym same) ∙ counted_some.1;
          long = long ∙ ap (λ (n : ℕ). n * (body_size r.images)) counted_some.2;
        }

    -- what the call gives
    file_given : {room : ℕ} → length contents + records * (body_size r.images) ≤ room → entering contents text room ≡ entered (contents ++ concat counted_some.0)
    file_given {room} l = enter_done contents text room c.reads text_given (omega (arith, l, bodies_many))

    pub enter_length : {room : ℕ} → length contents + records * (body_size r.images) ≤ room → entered (length contents + records * (body_size r.images)) ≡ sized_entry (entering contents text room)
    unfolding sized_entry next_of
    enter_length l =
        ap {B = Entry ℕ} entered (omega (arith, length-append contents (concat counted_some.0), bodies_many)) ∙ sym (ap sized_entry (file_given l))

    pub enter_bytes :
        (buffer : List ℕ) {head bodies rest : List ℕ}
        → length contents + records * (body_size r.images) ≤ length buffer
        → head ≡ contents
        → bodies ≡ concat (given_bodies (bodies_of written lines))
        → rest ≡ drop (length contents) buffer
        → head ++ (bodies ++ drop (records * (body_size r.images)) rest) ≡ stored_entry (entering contents text (length buffer)) buffer
    unfolding stored_entry given_bodies
    enter_bytes buffer {head} {bodies} {rest} l one two three =
        let all = concat counted_some.0 in
        let given : bodies ≡ all =
        two ∙ ap (λ (a : Entry (List (List ℕ))). concat (given_bodies a)) (ap (λ (l : List Image). bodies_of l lines) (again ∙ sym same) ∙ counted_some.1) in
        let size : length contents + records * (body_size r.images) ≡ length (contents ++ all) = omega (arith, length-append contents all, bodies_many) in
        let behind : drop (records * (body_size r.images)) rest ≡ drop (length (contents ++ all)) buffer =
        ap (drop (records * (body_size r.images))) three ∙ drop-drop (records * (body_size r.images)) (length contents) buffer ∙ ap (λ (k : ℕ). drop k buffer) size in
        rw (one, given, behind) (sym (append_assoc contents all (drop (length (contents ++ all)) buffer)))
        ∙ sym (ap (λ (a : Entry (List ℕ)). stored_entry a buffer) (file_given l))
