-- What is entered and listed shows each number's truncation. Assumes nothing.
use Rattle.std.proofs.Common.{⊎_elim, ◌≡◌, ℕ, suc, arith, drop, Bool, true, false, List, [], ◌∷◌, ◌++◌, length, ap, sym, refl, subst, ◌∙◌}
use Rattle.std.specs.List.{concat}
use Rattle.decimal.specs.declared.number.Number.{Number}
use Rattle.decimal.specs.Answer.{Answer, done, refused, ◌then◌, pick}
use Rattle.decimal.proofs.AnswerLaws.{then_done, then_both}
use Rattle.codec.specs.Alpha.{alpha_texts}
use Rattle.codec.specs.Columns.{body_size}
use Rattle.codec.specs.Contents.{Table, read_alone}
use Rattle.codec.specs.Order.{Truncations}
use Rattle.codec.specs.Packing.{pack_list, body_of}
use Rattle.codec.specs.Unpacking.{unpack_body}
use Rattle.codec.proofs.BodyLaws.{packed_length}
use Rattle.codec.proofs.ContentsTheorem.{alone_exactly}
use Rattle.codec.proofs.ContentsLaws.{alone_checked}
use Rattle.codec.proofs.PacksTheorem.{packs_contents}
use Rattle.codec.proofs.ReadBackTheorem.{read_back}
use Rattle.records.specs.Files.Listing.{columns_word, records_word, record_line, record_lines, listing}
use Rattle.records.specs.Files.Entering.{lines_in, read_line, line_body, Entry, entered, rejected, at_line, first_of, on_line, next_of, begins_with, check_count, is_foot, line_bodies, text_bodies, entry_of}
use Rattle.records.specs.Files.EnteredBack.{behind_columns, Relisted, ListsBack}
use Rattle.records.proofs.DemandTheorem.{demand_3}
use Rattle.decimal.proofs.BoolLaws.{and_true}
use borrow.Author.Tests.{eqb-true}
use lib.Dec.{eqb}
use Rattle.records.proofs.FileProofs.EntryLaws.{LineStep, line_view, entered_same, never_entered, never_rejected}
use Rattle.records.proofs.FileProofs.JoinedLaws.{Each, Sized, made_reads, made_bodies}

module _ (contents : List ℕ) {table : Table} (alone : read_alone contents ≡ done table) where
  -- what a line with a body shows
  record Shows (line body : List ℕ) : Type 0 where
    numbers : List Number
    truncations : List Number
    texts : List (List ℕ)
    read : read_line line ≡ done numbers
    cut : Truncations table.images numbers truncations
    unpacks : unpack_body table.images body ≡ done truncations
    written : alpha_texts table.images truncations ≡ done texts
    size : length body ≡ body_size table.images

  line_shows : (line : List ℕ) {body : List ℕ} → line_body table.images line ≡ done body → Shows line body
  unfolding line_body body_of
  line_shows line {body} h =
      let b = then_done (read_line line) (λ (ns : List Number). pack_list table.images ns) h in
      let checked = alone_checked contents alone in
      let back = read_back checked b.second in
      let is = ((alone_exactly contents).0 alone).is_contents in
      let packed : body_of contents back.0 ≡ done body = then_both (λ (t : Table). pack_list t.images back.0) alone back.3 in
      let r = demand_3.read_back contents is back.0 ((packs_contents contents back.0).1 (body, packed)) in
      record {
        numbers = b.value;
        truncations = back.0;
        texts = r.texts;
        read = b.first;
        cut = back.1;
        unpacks = back.2;
        written = r.written;
        size = packed_length table.images b.value b.second;
      }

  -- what lines with bodies show
  record Lists (lines bs : List (List ℕ)) : Type 0 where
    shown : List ℕ
    lists : record_lines table.images bs ≡ done shown
    relisted : Relisted table.images lines shown
    sized : Each (Sized (body_size table.images)) bs

  -- none
  lists_none : {bs : List (List ℕ)} → [] ≡ bs → Lists [] bs
  unfolding record_lines
  lists_none e = subst (λ (l : List (List ℕ)). Lists [] l) e (record { shown = []; lists = refl; relisted = Relisted.none; sized = Each.none })

  -- a last line with a count
  lists_foot : (line : List ℕ) {bs : List (List ℕ)} → is_foot line [] ≡ true → [] ≡ bs → Lists (line ∷ []) bs
  unfolding record_lines
  lists_foot line foot e =
      subst (λ (l : List (List ℕ)). Lists (line ∷ []) l) e (record { shown = []; lists = refl; relisted = Relisted.foot foot; sized = Each.none })

  -- a line with a body
  lists_more :
      (line : List ℕ) {lines bs others : List (List ℕ)} {body : List ℕ}
      → Shows line body
      → Lists lines others
      → body ∷ others ≡ bs
      → Lists (line ∷ lines) bs
  unfolding record_lines ◌then◌
  lists_more line {lines} {bs} {others} {body} s l e =
      subst (λ (x : List (List ℕ)). Lists (line ∷ lines) x) e
      (record {
        shown = record_line s.texts ++ l.shown;
        lists = rw (s.unpacks, s.written, l.lists);
        relisted = Relisted.more s.read s.cut s.written l.relisted;
        sized = Each.more s.size l.sized;
      })

  -- such lines, by cases
  last_foot : (line : List ℕ) (lines : List (List ℕ)) → is_foot line lines ≡ true → lines ≡ []
  unfolding is_foot
  last_foot line [] h = refl
  last_foot line (m ∷ ms) h =
      absurd (omega (arith, eqb-true (length (m ∷ ms)) 0 (and_true (eqb (length (m ∷ ms)) 0) (begins_with records_word line) h).0))

  lists_all : (first k : ℕ) (lines : List (List ℕ)) {bs : List (List ℕ)} → line_bodies table.images first k lines ≡ entered bs → Lists lines bs
  unfolding line_bodies
  lists_all first k [] h = lists_none (entered_same h)
  lists_all first k (line ∷ lines) {bs} h =
      ⊎_elim
      (λ (foot : (is_foot line lines ≡ true) × ([] ≡ bs)).
      let last = last_foot line lines foot.0 in
      subst (λ (ls : List (List ℕ)). Lists (line ∷ ls) bs) (sym last) (lists_foot line (ap (is_foot line) (sym last) ∙ foot.0) foot.1))
      (λ (s : LineStep table.images first k line lines bs). lists_more line (line_shows line s.read) (lists_all first (suc k) lines s.behind) s.joined)
      (line_view table.images first k line lines h)

  -- and those of a text
  lists_text : (lines : List (List ℕ)) {bs : List (List ℕ)} → text_bodies table.images lines ≡ entered bs → Lists (behind_columns lines) bs
  unfolding text_bodies on_line behind_columns
  lists_text [] h = lists_none (entered_same h)
  lists_text (line ∷ lines) {bs} h = go (begins_with columns_word line) h
    where
      counted : (a : Answer (Unit {0})) → on_line 1 a (λ _. line_bodies table.images 2 0 lines) ≡ entered bs → Lists lines bs
      counted (done tt) h = lists_all 2 0 lines h
      counted (refused number place) h = never_entered h

      go : (b : Bool)
          → pick b (on_line 1 (check_count (length table.images) (drop 8 line)) (λ _. line_bodies table.images 2 0 lines)) (line_bodies table.images 1 0 (line ∷ lines)) ≡ entered bs
          → Lists (pick b lines (line ∷ lines)) bs
      go true h = counted (check_count (length table.images) (drop 8 line)) h
      go false h = lists_all 1 0 (line ∷ lines) h

  -- so does the file of it
  lists_file : {lines bs : List (List ℕ)} {text : List ℕ} → lines_in text ≡ lines → Lists (behind_columns lines) bs → ListsBack contents text (contents ++ concat bs)
  unfolding listing ◌then◌
  lists_file {lines} {bs} e l =
      let reads = made_reads contents alone bs l.sized in
      let each = ap (record_lines table.images) (made_bodies contents alone bs l.sized) ∙ l.lists in
      record {
        table = table;
        reads = reads;
        alone = alone;
        lines = l.shown;
        shown = rw (reads, each);
        relisted = subst (λ (ls : List (List ℕ)). Relisted table.images (behind_columns ls) l.shown) (sym e) l.relisted;
      }

-- Published: the listing of a file that was entered shows the truncation of each number.
pub entered_lists : (contents text : List ℕ) {file : List ℕ} → entry_of contents text ≡ entered file → ListsBack contents text file
unfolding entry_of first_of next_of
entered_lists contents text {file} h = go (read_alone contents) refl h
  where
    bodies_view : {table : Table} → read_alone contents ≡ done table → (e : Entry (List (List ℕ))) → text_bodies table.images (lines_in text) ≡ e
        → next_of e (λ bs. entered (contents ++ concat bs)) ≡ entered file → ListsBack contents text file
    bodies_view alone (entered bs) e h =
        subst (λ (f : List ℕ). ListsBack contents text f) (entered_same h) (lists_file contents alone refl (lists_text contents alone (lines_in text) e))
    bodies_view alone (rejected number place) e h = never_rejected h
    bodies_view alone (at_line n number place) e h = never_entered h

    go : (a : Answer Table) → read_alone contents ≡ a
        → first_of a (λ table. next_of (text_bodies table.images (lines_in text)) (λ bs. entered (contents ++ concat bs))) ≡ entered file
        → ListsBack contents text file
    go (done table) alone h = bodies_view alone (text_bodies table.images (lines_in text)) refl h
    go (refused number place) alone h = never_rejected h
