-- The numbers of a line: a line is read exactly where it is texts parted by one blank that convert to these numbers. Assumes nothing.
use Rattle.std.proofs.Common.{◌≡◌, ℕ, zero, suc, ◌+◌, ◌-◌, ◌<◌, ◌≤◌, pred, Bool, true, false, ◌||◌, ⊎_elim, ◌↔◌, List, [], ◌∷◌, ◌++◌, length, take, drop, get_or, length-append, length-drop, append_assoc, take-append-drop, ap, sym, refl, subst, ◌∙◌, arith, eqb}
use Rattle.std.proofs.Math.Seq.{drop-append_seam}
use Rattle.std.proofs.lemmas.List.{get_or-take, length-take-le, take_all}
use Rattle.std.proofs.Common.{drop_of_length-le}
use Rattle.decimal.proofs.DigitLaws.{le_or_lt}
use borrow.Author.Tests.{eq-eqb, eqb-true}
use Rattle.decimal.specs.declared.number.Number.{Number}
use Rattle.decimal.specs.Answer.{done, ◌then◌}
use Rattle.decimal.specs.Image.{times}
use Rattle.decimal.proofs.AnswerLaws.{done_same, one_answer, then_done, never_done}
use Rattle.codec.specs.Lists.{max_columns}
use Rattle.codec.specs.Alpha.{blank_byte, parted}
use Rattle.codec.specs.Text.{TextParts, Legal, text_bytes, text_value, read_text, convert_text, read_texts}
use Rattle.codec.specs.declared.text.TextNumber.{TextNumber}
use Rattle.codec.proofs.FormLaws.{Ends, ends_blanks, ends_last}
use Rattle.codec.proofs.PartedLaws.{Parts, read_before, read_parts, convert_parts, parts_convert, grown, grown_bytes, other_blanks, bare, bare_bytes, bare_value, bare_blanks, blanked, parted_blanked, blank_last, blank_dropped}
use Rattle.codec.proofs.TextLaws.{text_long}
use Rattle.records.specs.Files.Entering.{IsLine, is_parted, read_parted, numbers_of, read_line}
use Rattle.records.proofs.FileProofs.EntryLaws.{numbers_number, parted_done, parted_told, parted_some, parted_within}

-- Texts that convert.

-- each has parts, and its value is its number
pub data AllParts : List (List ℕ) → List Number → Type 0 where
  none : AllParts [] []
  more : {text : List ℕ} {texts : List (List ℕ)} {n : Number} {ns : List Number} → Parts text n → AllParts texts ns → AllParts (text ∷ texts) (n ∷ ns)

pub texts_parts : (texts : List (List ℕ)) {ns : List Number} → read_texts texts ≡ done ns → AllParts texts ns
unfolding read_texts
texts_parts [] h = subst (λ (l : List Number). AllParts [] l) (done_same h) none
texts_parts (text ∷ texts) {ns} h =
    let b = then_done (convert_text text) (λ (n : Number). read_texts texts then λ (rest : List Number). done (n ∷ rest)) h in
    let c = then_done (read_texts texts) (λ (rest : List Number). done (b.value ∷ rest)) b.second in
    subst (λ (l : List Number). AllParts (text ∷ texts) l) (done_same c.second) (more (convert_parts text b.first) (texts_parts texts c.first))

parts_texts : {texts : List (List ℕ)} {ns : List Number} → AllParts texts ns → read_texts texts ≡ done ns
unfolding read_texts ◌then◌
parts_texts none = refl
parts_texts (more p all) = rw (parts_convert p, parts_texts all)

-- as many as there are numbers
parts_count : {texts : List (List ℕ)} {ns : List Number} → AllParts texts ns → length texts ≡ length ns
parts_count none = refl
parts_count (more p all) = ap suc (parts_count all)

-- Such a line is read.

-- one number of it, up to its end or with the blank behind it
one_read :
    (left index : ℕ) (bytes : List ℕ) {t : TextNumber}
    → 0 < length bytes
    → read_text bytes ≡ done t
    → is_parted bytes t.used ≡ true
    → numbers_of (suc left) index bytes ≡ (numbers_of left (suc index) (drop t.used bytes) then λ (ns : List Number). done (t.number ∷ ns))
one_read left index bytes some read parts = numbers_number left index bytes some (parted_done index bytes read parts)

-- nothing is behind a number
whole_parted : (bytes : List ℕ) (used : ℕ) → used ≡ length bytes → is_parted bytes used ≡ true
unfolding is_parted
whole_parted bytes used e = rw (eq-eqb used (length bytes) e)

-- its last byte is a blank
blank_parted : (bytes : List ℕ) (used : ℕ) → get_or bytes (pred used) 0 ≡ blank_byte → is_parted bytes used ≡ true
unfolding is_parted
blank_parted bytes used e = rw (eq-eqb (get_or bytes (pred used) 0) blank_byte e) (or_true (eqb used (length bytes)))
  where
    or_true : (b : Bool) → (b || true) ≡ true
    or_true true = refl
    or_true false = refl

-- no byte is left
none_left : (left index : ℕ) → numbers_of left index [] ≡ done []
unfolding numbers_of
none_left left index = refl

line_reads :
    (t : TextParts)
    → Legal t.numeral
    → {n : Number}
    → text_value t ≡ done n
    → {texts : List (List ℕ)} {ns : List Number}
    → AllParts texts ns
    → (left index : ℕ)
    → length texts ≤ left
    → numbers_of (suc left) index (text_bytes t ++ blanked texts) ≡ done (n ∷ ns)
unfolding blanked times ◌then◌
line_reads t legal {n} value none left index few =
    let bytes = text_bytes t ++ [] in
    let size : length (text_bytes t) ≡ length bytes = omega (arith, length-append (text_bytes t) []) in
    let some : 0 < length bytes = omega (arith, size, text_long t, legal.some) in
    let over : drop (length (text_bytes t)) bytes ≡ [] = drop-append_seam (text_bytes t) [] in
    let rest : numbers_of left (suc index) (drop (length (text_bytes t)) bytes) ≡ done [] = ap (numbers_of left (suc index)) over ∙ none_left left (suc index) in
    one_read left index bytes some (read_before t [] legal value (ends_last t.behind)) (whole_parted bytes (length (text_bytes t)) size) ∙ rw rest
line_reads t legal {n} value (more p all) zero index few = absurd (omega (arith, few))
line_reads t legal {n} value (more {text} {texts} {n = m} {ns} p all) (suc left) index few =
    let u = p.parts in
    let k = u.before in
    let next = text_bytes (bare u) ++ blanked texts in
    let long = grown t (suc k) in
    let split : text_bytes t ++ (blank_byte ∷ (text ++ blanked texts)) ≡ text_bytes long ++ next =
    ap (λ (l : List ℕ). text_bytes t ++ (blank_byte ∷ (l ++ blanked texts))) p.form.written
    ∙ ap (λ (l : List ℕ). text_bytes t ++ (blank_byte ∷ l)) (bare_bytes u (blanked texts))
    ∙ grown_bytes t (suc k) next in
    let behind : suc (t.behind + k) ≡ t.behind + suc k = omega arith in
    let ends : Ends (t.behind + suc k) next = subst (λ (j : ℕ). Ends j next) behind (ends_blanks (t.behind + k) next (bare_blanks u p.form.legal (blanked texts))) in
    let some : 0 < length (text_bytes long ++ next) = omega (arith, length-append (text_bytes long) next, text_long long, legal.some) in
    let rest : numbers_of (suc left) (suc index) (drop (length (text_bytes long)) (text_bytes long ++ next)) ≡ done (m ∷ ns) =
    ap (numbers_of (suc left) (suc index)) (drop-append_seam (text_bytes long) next)
    ∙ line_reads (bare u) p.form.legal (bare_value u ∙ p.value) all left (suc index) (omega (arith, few)) in
    ap (numbers_of (suc (suc left)) index) split
    ∙ one_read (suc left) index (text_bytes long ++ next) some (read_before long next legal (other_blanks t (t.behind + suc k) ∙ value) ends)
    (blank_parted (text_bytes long ++ next) (length (text_bytes long)) (blank_last t k next))
    ∙ rw rest

-- all of it
line_is_read : {line : List ℕ} {ns : List Number} → IsLine line ns → read_line line ≡ done ns
unfolding parted
line_is_read {line} {ns} l = ap read_line l.written ∙ go (texts_parts l.texts l.converts) l.few
  where
    go : {texts : List (List ℕ)} {ns : List Number} → AllParts texts ns → length ns ≤ max_columns → read_line (parted texts) ≡ done ns
    go none few = none_left max_columns 0
    go (more {text} {texts} {n} {ns} p all) few =
        ap read_line (parted_blanked text texts ∙ ap (λ (l : List ℕ). l ++ blanked texts) p.form.written)
        ∙ line_reads p.parts p.form.legal p.value all (max_columns - 1) 0 (omega (arith, few, parts_count all))

-- And only such a line is.

-- the texts that bytes are, and their numbers
record Texts (left : ℕ) (bytes : List ℕ) (ns : List Number) : Type 0 where
  texts : List (List ℕ)
  written : bytes ≡ parted texts
  all : AllParts texts ns
  few : length ns ≤ left

-- no bytes
no_texts : (left : ℕ) {ns : List Number} → [] ≡ ns → Texts left [] ns
unfolding parted
no_texts left e = subst (λ (l : List Number). Texts left [] l) e (record { texts = []; written = refl; all = none; few = omega arith })

-- a number that nothing is behind
last_text : (left : ℕ) (bytes : List ℕ) {n : Number} {ns : List Number} → Parts bytes n → n ∷ [] ≡ ns → Texts (suc left) bytes ns
unfolding parted
last_text left bytes {n} p e =
    subst (λ (l : List Number). Texts (suc left) bytes l) e (record { texts = bytes ∷ []; written = refl; all = more p none; few = omega arith })

-- and one with a blank behind it
next_text :
    (left : ℕ) {bytes rest : List ℕ} {front : List ℕ} {n : Number} {others ns : List Number}
    → Parts front n
    → bytes ≡ front ++ (blank_byte ∷ rest)
    → 0 < length rest
    → Texts left rest others
    → n ∷ others ≡ ns
    → Texts (suc left) bytes ns
unfolding parted
next_text left {bytes} {rest} {front} {n} {others} {ns} p split some t e = go t.texts t.written t.all t.few
  where
    go : (texts : List (List ℕ)) → rest ≡ parted texts → AllParts texts others → length others ≤ left → Texts (suc left) bytes ns
    go [] w all few = absurd (omega (arith, some, ap length w))
    go (text ∷ texts) w all few =
        subst (λ (l : List Number). Texts (suc left) bytes l) e
        (record {
          texts = front ∷ (text ∷ texts);
          written = split ∙ ap (λ (l : List ℕ). front ++ (blank_byte ∷ l)) w;
          all = more p all;
          few = omega (arith, few);
        })

-- where a number is parted from bytes behind it, its last byte is a blank
parted_blank : (bytes : List ℕ) (used : ℕ) → is_parted bytes used ≡ true → used < length bytes → get_or bytes (pred used) 0 ≡ blank_byte
unfolding is_parted
parted_blank bytes used h inside = go (eqb used (length bytes)) refl h
  where
    go : (b : Bool) → eqb used (length bytes) ≡ b → (b || eqb (get_or bytes (pred used) 0) blank_byte) ≡ true → get_or bytes (pred used) 0 ≡ blank_byte
    go true e h = absurd (omega (arith, inside, eqb-true used (length bytes) e))
    go false e h = eqb-true (get_or bytes (pred used) 0) blank_byte h

line_texts : (left index : ℕ) (bytes : List ℕ) {ns : List Number} → numbers_of left index bytes ≡ done ns → Texts left bytes ns
unfolding numbers_of
line_texts left index [] h = no_texts left (done_same h)
line_texts zero index (b ∷ bs) h = never_done h
line_texts (suc left) index (b ∷ bs) {ns} h =
    let bytes = b ∷ bs in
    let one =
    then_done (read_parted index bytes)
    (λ (t : TextNumber). numbers_of left (suc index) (drop t.used bytes) then λ (rest : List Number). done (t.number ∷ rest)) h in
    let t = one.value in
    let two = then_done (numbers_of left (suc index) (drop t.used bytes)) (λ (rest : List Number). done (t.number ∷ rest)) one.second in
    let told = parted_told index bytes one.first in
    let parts = read_parts bytes told.0 (parted_some index bytes one.first) in
    let within = parted_within index bytes one.first in
    let others = line_texts left (suc index) (drop t.used bytes) two.first in
    ⊎_elim
    (λ (whole : length bytes ≤ t.used).
    let all : take t.used bytes ≡ bytes = take_all t.used bytes whole in
    let over : numbers_of left (suc index) (drop t.used bytes) ≡ done [] =
    ap (numbers_of left (suc index)) (drop_of_length-le bytes {i = t.used} whole) ∙ none_left left (suc index) in
    last_text left bytes (subst (λ (l : List ℕ). Parts l t.number) all parts)
    (ap (λ (l : List Number). t.number ∷ l) (one_answer over two.first) ∙ done_same two.second))
    (λ (inside : t.used < length bytes).
    let size : length (take t.used bytes) ≡ t.used = length-take-le t.used bytes within in
    let last : get_or (take t.used bytes) (pred (length (take t.used bytes))) 0 ≡ blank_byte =
    ap (λ (k : ℕ). get_or (take t.used bytes) (pred k) 0) size
    ∙ get_or-take t.used bytes (pred t.used) 0 (omega (arith, parted_some index bytes one.first))
    ∙ parted_blank bytes t.used told.1 inside in
    let dropped = blank_dropped (take t.used bytes) parts last in
    let split : bytes ≡ dropped.front ++ (blank_byte ∷ drop t.used bytes) =
    sym (take-append-drop t.used bytes)
    ∙ ap (λ (l : List ℕ). l ++ drop t.used bytes) dropped.split
    ∙ append_assoc dropped.front (blank_byte ∷ []) (drop t.used bytes) in
    next_text left dropped.parts split (omega (arith, length-drop t.used bytes, inside)) others (done_same two.second))
    (le_or_lt (length bytes) t.used)

-- Published: a line is read as these numbers exactly where it is such a line.
pub line_exactly : (line : List ℕ) (ns : List Number) → (read_line line ≡ done ns) ↔ IsLine line ns
line_exactly line ns = (
  (λ h.
      let t = line_texts max_columns 0 line h in
      record { texts = t.texts; written = t.written; converts = parts_texts t.all; few = t.few }),
  line_is_read,
)
