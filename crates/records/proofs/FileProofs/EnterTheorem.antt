-- Entering a listing gives the file again, byte for byte: each line is read as the numbers of its record's body, which pack to it again.
-- Assumes nothing.
use Rattle.std.proofs.Common.{◌≡◌, ℕ, zero, suc, ◌+◌, ◌<◌, ◌≤◌, true, false, List, [], ◌∷◌, ◌++◌, length, take, length-append, append_assoc, take-append-drop, ap, sym, refl, subst, ◌∙◌, arith}
use Rattle.std.specs.Prelude.{bytes_eq}
use Rattle.std.specs.List.{concat}
use Rattle.std.proofs.lemmas.Slice.Eq.{bytes_eq-Decides}
use borrow.Author.Tests.{le-ltb}
use Rattle.codec.specs.Answers.{within}
use Rattle.decimal.specs.declared.number.Number.{Number}
use Rattle.decimal.specs.Answer.{Answer, done, ◌then◌}
use Rattle.decimal.specs.Image.{times}
use Rattle.decimal.proofs.AnswerLaws.{done_same, one_answer, then_done, then_both}
use Rattle.codec.specs.Alpha.{blank_byte, parted, alpha_texts}
use Rattle.codec.specs.Contents.{Table, read_alone}
use Rattle.codec.specs.Order.{Bytes}
use Rattle.codec.specs.Packing.{pack_list, body_of}
use Rattle.codec.specs.StrictText.{byte_count, sign_blanks}
use Rattle.codec.specs.Text.{read_texts}
use Rattle.codec.specs.Unpacking.{unpack_body, unpacking}
use Rattle.codec.specs.Walking.{line_end}
use Rattle.codec.proofs.BlankLaws.{Foreign, count_append, none_digits, count_text}
use Rattle.codec.proofs.ContentsLaws.{alone_checked, alone_count}
use Rattle.codec.proofs.ContentsTheorem.{alone_exactly}
use Rattle.codec.proofs.FrontLaws.{contents_alone}
use Rattle.codec.proofs.LineLaws.{unpacked_count}
use Rattle.codec.proofs.PacksTheorem.{packs_contents}
use Rattle.codec.proofs.PartedLaws.{Parts}
use Rattle.codec.proofs.ReadBackTheorem.{accepts, read_back}
use Rattle.records.specs.Files.RecordFile.{read_file, record_count, bodies_in}
use Rattle.records.specs.Files.Listing.{columns_word, records_word, count_line, record_line, record_lines, file_lines, listing_of, listing}
use Rattle.records.specs.Files.Writing.{whole_digits, without_zeros, decimal_text}
use Rattle.decimal.specs.Digits.{digits_of}
use Rattle.records.specs.Files.Entering.{lines_in, read_line, line_body, Entry, entered, first_of, on_line, next_of, begins_with, check_count, is_foot, line_bodies, text_bodies, entry_of, entering}
use Rattle.records.specs.Files.EnteredBack.{EntersBack}
use Rattle.records.proofs.FileProofs.BodiesLaws.{records_count}
use Rattle.records.proofs.FileProofs.JoinedLaws.{Each, bodies_joined_are, bodies_bytes}
use Rattle.records.proofs.DemandTheorem.{demand_3}
use Rattle.records.proofs.FileProofs.FileLaws.{file_told}
use Rattle.records.proofs.FileProofs.RecordLinesLaws.{lines_view}
use Rattle.records.proofs.FileProofs.EntryLaws.{foot_behind}
use Rattle.records.proofs.FileProofs.TextLinesTheorem.{lines_ended}
use Rattle.records.proofs.FileProofs.TextLineTheorem.{AllParts, none, more, texts_parts, line_exactly}

-- bytes are equal to themselves
bytes_same : (bytes : List ℕ) → bytes_eq bytes bytes ≡ true
bytes_same bytes = (bytes_eq-Decides bytes bytes).1 refl

-- Lines that have no 0A.

-- 0A stands in no text number
foreign_end : Foreign line_end
foreign_end = record { below = omega arith; no_plus = λ e. omega (arith, e); no_minus = λ e. omega (arith, e); no_point_lem = λ e. omega (arith, e) }

no_blanks : (n : ℕ) → byte_count line_end (times n blank_byte) ≡ 0
unfolding times byte_count
no_blanks zero = refl
no_blanks (suc n) = no_blanks n

text_unended : {text : List ℕ} {n : Number} → Parts text n → byte_count line_end text ≡ 0
text_unended p =
    omega (
      arith,
      ap (byte_count line_end) p.form.written,
      count_text foreign_end p.parts,
      no_blanks p.parts.before,
      no_blanks p.parts.behind,
      no_blanks (sign_blanks p.parts.sign),
    )

-- nor in texts that are parted by blanks
parted_unended : {texts : List (List ℕ)} {ns : List Number} → AllParts texts ns → byte_count line_end (parted texts) ≡ 0
unfolding parted byte_count
parted_unended none = refl
parted_unended (more p none) = text_unended p
parted_unended (more {text} p (more {text = next} {texts} q all)) =
    count_append line_end text (blank_byte ∷ parted (next ∷ texts)) ∙ omega (arith, text_unended p, parted_unended (more q all))

-- nor in a count
count_unended : (word : List ℕ) (n : ℕ) → byte_count line_end word ≡ 0 → byte_count line_end (word ++ decimal_text n) ≡ 0
unfolding decimal_text
count_unended word n h = count_append line_end word (decimal_text n) ∙ omega (arith, h, none_digits foreign_end (without_zeros (digits_of whole_digits n)))

-- A record's line.

module _ (contents : List ℕ) {table : Table} (alone : read_alone contents ≡ done table) where
  -- the numbers of a body pack to it again
  numbers_pack : {body : List ℕ} {ns : List Number} → Bytes body → unpack_body table.images body ≡ done ns → pack_list table.images ns ≡ done body
  numbers_pack {body} {ns} known h =
      let checked = alone_checked contents alone in
      let a = (accepts checked known).0 (ns, h) in
      let b = read_back checked a.1 in
      subst (λ (l : List Number). pack_list table.images l ≡ done body) (one_answer b.2 h) b.3

  -- and its texts convert to them, by demand 3
  texts_convert :
      {body : List ℕ} {ns : List Number} {texts : List (List ℕ)}
      → Bytes body
      → unpack_body table.images body ≡ done ns
      → alpha_texts table.images ns ≡ done texts
      → read_texts texts ≡ done ns
  unfolding body_of unpacking
  texts_convert {body} {ns} {texts} known h shown =
      let is = ((alone_exactly contents).0 alone).is_contents in
      let packed : body_of contents ns ≡ done body = then_both (λ (t : Table). pack_list t.images ns) alone (numbers_pack known h) in
      let r = demand_3.read_back contents is ns ((packs_contents contents ns).1 (body, packed)) in
      let same_body : r.body ≡ body = one_answer r.packed packed in
      let unpacked : unpacking contents body ≡ done ns = then_both (λ (t : Table). unpack_body t.images body) alone h in
      let same : r.numbers ≡ ns = one_answer (ap (unpacking contents) (sym same_body) ∙ r.of_body) unpacked in
      let same_texts : r.texts ≡ texts = one_answer r.written shown in
      ap read_texts (sym same_texts) ∙ r.of_texts ∙ ap {B = Answer (List Number)} done same

  -- so its line is read as its numbers
  line_numbers :
      {body : List ℕ} {ns : List Number} {texts : List (List ℕ)}
      → Bytes body
      → unpack_body table.images body ≡ done ns
      → alpha_texts table.images ns ≡ done texts
      → read_line (parted texts) ≡ done ns
  line_numbers {body} {ns} {texts} known h shown =
      (line_exactly (parted texts) ns).1
      (record {
        texts = texts;
        written = refl;
        converts = texts_convert known h shown;
        few = omega (arith, unpacked_count table.images body h, (alone_count contents alone).1);
      })

  -- and gives the body again
  line_packs :
      {body : List ℕ} {ns : List Number} {texts : List (List ℕ)}
      → Bytes body
      → unpack_body table.images body ≡ done ns
      → alpha_texts table.images ns ≡ done texts
      → line_body table.images (parted texts) ≡ done body
  unfolding line_body
  line_packs known h shown = then_both (λ (l : List Number). pack_list table.images l) (line_numbers known h shown) (numbers_pack known h)

  -- The lines of records, and the last one behind them.

  -- a last line with a count, and its 0A
  foot : ℕ → List ℕ
  foot n = count_line records_word n

  foot_line : (n : ℕ) → lines_in (foot n) ≡ (records_word ++ decimal_text n) ∷ []
  unfolding count_line lines_in byte_count foot
  foot_line n =
      ap lines_in (sym (append_assoc records_word (decimal_text n) (line_end ∷ [])))
      ∙ lines_ended (records_word ++ decimal_text n) [] (count_unended records_word n refl)

  -- is taken for one
  foot_taken : (n k : ℕ) → n ≡ k → line_bodies table.images 2 k (lines_in (foot n)) ≡ entered []
  unfolding line_bodies is_foot begins_with check_count on_line
  foot_taken n k same =
      ap (line_bodies table.images 2 k) (foot_line n)
      ∙ rw (same, bytes_same (decimal_text k)) refl

  -- it has bytes
  foot_long : (n : ℕ) → 0 < length (foot n)
  unfolding foot count_line
  foot_long n = omega (arith, length-append records_word (decimal_text n ++ (line_end ∷ [])))

  -- one that is no last line, and those behind it
  line_entered :
      (k : ℕ) (line : List ℕ) (lines : List (List ℕ)) {body : List ℕ} {bs : List (List ℕ)}
      → is_foot line lines ≡ false
      → line_body table.images line ≡ done body
      → line_bodies table.images 2 (suc k) lines ≡ entered bs
      → line_bodies table.images 2 k (line ∷ lines) ≡ entered (body ∷ bs)
  unfolding line_bodies on_line next_of
  line_entered k line lines other read behind = rw (other, read, behind)

  lines_enter :
      {bs : List (List ℕ)} {lines : List ℕ}
      → Each Bytes bs
      → record_lines table.images bs ≡ done lines
      → (k n : ℕ)
      → n ≡ k + length bs
      → line_bodies table.images 2 k (lines_in (lines ++ foot n)) ≡ entered bs
  unfolding record_lines record_line
  lines_enter Each.none h k n e = ap (λ (l : List ℕ). line_bodies table.images 2 k (lines_in (l ++ foot n))) (sym (done_same h)) ∙ foot_taken n k (omega (arith, e))
  lines_enter {lines = lines} (Each.more {b} {bs} known all) h k n e =
      let s = lines_view table.images b bs h in
      let convert = texts_parts s.texts (texts_convert known s.unpacks s.shows) in
      let tail = s.others ++ foot n in
      let split : lines ++ foot n ≡ parted s.texts ++ (line_end ∷ tail) =
      ap (λ (l : List ℕ). l ++ foot n) (sym s.joined)
      ∙ append_assoc (record_line s.texts) s.others (foot n)
      ∙ append_assoc (parted s.texts) (line_end ∷ []) tail in
      let cut : lines_in (lines ++ foot n) ≡ parted s.texts ∷ lines_in tail = ap lines_in split ∙ lines_ended (parted s.texts) tail (parted_unended convert) in
      let behind : line_bodies table.images 2 (suc k) (lines_in tail) ≡ entered bs = lines_enter all s.rest (suc k) n (omega (arith, e)) in
      ap (line_bodies table.images 2 k) cut
      ∙ line_entered k (parted s.texts) (lines_in tail) (foot_behind (parted s.texts) tail (omega (arith, length-append s.others (foot n), foot_long n)))
      (line_packs known s.unpacks s.shows) behind

-- Published: entering the listing of a file under the file's contents gives the file again, byte for byte.

module _ (file : List ℕ) (known : Bytes file) {bytes : List ℕ} (h : listing file ≡ done bytes) where
  -- what the listing is made of
  listed_lines : (table : Table) × (read_file file ≡ done table) × (lines : List ℕ) × (file_lines table file ≡ done lines) × (listing_of table file lines ≡ bytes)
  unfolding listing
  listed_lines =
      let one = then_done (read_file file) (λ (t : Table). file_lines t file then λ (ls : List ℕ). done (listing_of t file ls)) h in
      let two = then_done (file_lines one.value file) (λ (ls : List ℕ). done (listing_of one.value file ls)) one.second in
      (one.value, one.first, two.value, two.first, done_same two.second)

  module _ {table : Table} (reads : read_file file ≡ done table) {lines : List ℕ} (each : file_lines table file ≡ done lines) (whole : listing_of table file lines ≡ bytes) where
    contents : List ℕ
    contents = take table.size file

    front : read_alone contents ≡ done table
    unfolding contents
    front = contents_alone file (file_told file reads).contents

    -- its first line has the count of columns
    head : List ℕ
    head = columns_word ++ decimal_text (length table.images)

    body_lines : List ℕ
    body_lines = lines ++ count_line records_word (record_count table file)

    listed : bytes ≡ head ++ (line_end ∷ body_lines)
    unfolding listing_of count_line head body_lines
    listed =
        sym whole
        ∙ append_assoc columns_word (decimal_text (length table.images) ++ (line_end ∷ [])) body_lines
        ∙ ap (λ (l : List ℕ). columns_word ++ l) (append_assoc (decimal_text (length table.images)) (line_end ∷ []) body_lines)
        ∙ sym (append_assoc columns_word (decimal_text (length table.images)) (line_end ∷ body_lines))

    headed : lines_in bytes ≡ head ∷ lines_in body_lines
    unfolding head byte_count
    headed = ap lines_in listed ∙ lines_ended head body_lines (count_unended columns_word (length table.images) refl)

    -- the bodies
    entered_bodies : text_bodies table.images (lines_in bytes) ≡ entered (bodies_in table file)
    unfolding text_bodies begins_with check_count on_line bodies_in head body_lines foot count_line
    entered_bodies =
        ap (text_bodies table.images) headed
        ∙ rw (bytes_same (decimal_text (length table.images))) refl
        ∙ lines_enter contents front (bodies_bytes table file known) each 0
        (record_count table file) (omega (arith, records_count table file))

    joined : contents ++ concat (bodies_in table file) ≡ file
    unfolding contents
    joined = ap (λ (l : List ℕ). take table.size file ++ l) (bodies_joined_are table file reads) ∙ take-append-drop table.size file

    file_again : entry_of contents bytes ≡ entered file
    unfolding entry_of first_of next_of
    file_again = rw (front, entered_bodies) (ap {B = Entry (List ℕ)} entered joined)

-- a file that has room is entered
room_taken : (file : List ℕ) (room : ℕ) → length file ≤ room → first_of (within room file) entered ≡ entered file
unfolding first_of within
room_taken file room fits = rw (le-ltb room (length file) fits)

pub listing_enters : (file : List ℕ) → Bytes file → {bytes : List ℕ} → listing file ≡ done bytes → EntersBack file bytes
unfolding entering next_of contents
listing_enters file known {bytes} h =
    let l = listed_lines file known h in
    let again = file_again file known h l.1 l.3 l.4 in
    record {
      table = l.0;
      reads = l.1;
      again = again;
      called = λ room fits. ap (λ (e : Entry (List ℕ)). next_of e (λ (f : List ℕ). first_of (within room f) entered)) again ∙ room_taken file room fits;
    }
