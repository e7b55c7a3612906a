-- Document 01, Record file: the alpha texts of a list, parted by one blank each, are read back by walking them, as a line of the listing
-- program has them. Assumes nothing.
use Prim.Native.Nat.{ℕ, zero, suc, ◌+◌, ◌-◌, ◌<◌, ◌≤◌}
use mathlib.Core.Path.{◌≡◌, refl, ap, sym, subst, ◌∙◌}
use mathlib.Core.List.{List, [], ◌∷◌, ◌++◌, append-nil, append_assoc}
use mathlib.Core.Bool.{Bool, true, false}
use native.Mathlib.Nat.{zero-add}
use native.Mathlib.Omega.{arith}
use borrow.Author.Tests.{eqb-true, eqb-false}
use lib.Dec.{eqb}
use lib.ListN.{length, drop, length-append, length-drop}
use lib.Seq.{drop-append_seam, drop-drop}
use Rattle.decimal.specs.declared.image.Image.{Image}
use Rattle.decimal.specs.declared.number.Number.{Number}
use Rattle.decimal.specs.Answer.{Answer, done, ◌then◌, pick}
use Rattle.decimal.specs.Image.{leading_sign, sign_bytes, times, image_bytes, read_image}
use Rattle.decimal.specs.Truncation.{Truncated, truncation}
use Rattle.decimal.proofs.TruncationLaws.{truncation_fit}
use Rattle.codec.specs.Lists.{max_columns}
use Rattle.codec.specs.Alpha.{blank_byte, alpha_text, alpha_under, alpha_of, alpha_texts, parted}
use Rattle.codec.specs.Text.{TextParts, Legal, HasForm, fraction_digits, text_bytes, text_value, sign_part, sign_part_in, sign_part_bytes, digits_in, point_in, power_in, numeral_in, parts_in, reading_in, legal_length, read_texts}
use Rattle.codec.specs.Walking.{bytes_before, number_place, FirstPlace, stop_before, stopped, numbers_in, walking, line_end, LineBack}
use Rattle.decimal.proofs.AnswerLaws.{then_done}
use Rattle.codec.proofs.TextLaws.{text_length_lem, text_long}
use Rattle.codec.proofs.PartLaws.{stops_byte}
use Rattle.codec.proofs.FormLaws.{Ends, ends_blanks, ends_last, text_append, converts_form}
use Rattle.codec.proofs.PartedLaws.{length_before, value_before, bare, bare_bytes, bare_value, bare_blanks, blanked, parted_blanked}
use Rattle.codec.proofs.AlphaForm.{alpha_parts, alpha_form, alpha_reads_back}
use Rattle.codec.proofs.LongestTheorem.{empty_length}
use Rattle.codec.proofs.WalkLaws.{stop_end, stop_none, behind, numbers_stop, numbers_number}

-- so it is read, and then what is behind it
text_walks : (t : TextParts) → Legal t.numeral → {n : Number} → text_value t ≡ done n → (r : List ℕ) → Ends t.behind r → (left index place : ℕ)
    → numbers_in (suc left) index place (text_bytes t ++ r) ≡ behind (n ∷ []) (numbers_in left (suc index) (place + length (text_bytes t)) r)
text_walks t legal {n} value r ends left index place =
    let size = length_before t legal r ends in
    let some : legal_length (text_bytes t ++ r) ≡ 0 → ⊥ = λ none. omega (arith, text_long t, legal.some) in
    numbers_number index place (text_bytes t ++ r) left some (value_before t legal r ends ∙ value)
    ∙ (λ i. behind (n ∷ []) (numbers_in left (suc index) (place + size i) (drop (size i) (text_bytes t ++ r))))
    ∙ ap (λ (l : List ℕ). behind (n ∷ []) (numbers_in left (suc index) (place + length (text_bytes t)) l)) (drop-append_seam (text_bytes t) r)

-- a text with so many blanks behind it
abbrev trailed : TextParts → ℕ → TextParts
trailed t n = record { before = t.before; sign = t.sign; numeral = t.numeral; behind = n }

-- blanks behind a text that has none
trailed_bytes : (t : TextParts) → t.behind ≡ 0 → (n : ℕ) (r : List ℕ) → text_bytes t ++ (times n blank_byte ++ r) ≡ text_bytes (trailed t n)
    ++ r
unfolding times
trailed_bytes t none n r = rw (text_append t (times n blank_byte ++ r), text_append (trailed t n) r, none)

-- which changes no value
trailed_value : (t : TextParts) (n : ℕ) → text_value (trailed t n) ≡ text_value t
unfolding text_value
trailed_value t n = refl

-- Texts.

-- each text has the form, no blank stands behind it, and it has this value
data AllRead : List (List ℕ) → List Number → Type 0 where
  none : AllRead [] []
  more :
      {text : List ℕ} {texts : List (List ℕ)} {n : Number} {ns : List Number} (t : TextParts)
      → HasForm text t
      → t.behind ≡ 0
      → text_value t ≡ done n
      → AllRead texts ns
      → AllRead (text ∷ texts) (n ∷ ns)

-- they convert to these numbers
converted : {texts : List (List ℕ)} {ns : List Number} → AllRead texts ns → read_texts texts ≡ done ns
unfolding read_texts ◌then◌
converted none = refl
converted (more t form last value all) = rw (converts_form form, value, converted all)

-- bytes that end a line
record LineEnd (z : List ℕ) : Type 0 where
  ends : Ends 0 z
  no_number : legal_length z ≡ 0

module _ (z : List ℕ) (end : LineEnd z) where
  -- a text and those behind it are read up to the line's end
  line_walks : (t : TextParts) → Legal t.numeral → t.behind ≡ 0 → {n : Number} → text_value t ≡ done n
      → {texts : List (List ℕ)} {ns : List Number} → AllRead texts ns → (left : ℕ) → length texts ≤ left → (index place : ℕ)
      → numbers_in (suc left) index place (text_bytes t ++ (blanked texts ++ z))
      ≡ record { answer = done (stop_before z); numbers = n ∷ ns; place = place + (length (text_bytes t) + length (blanked texts)) }
  unfolding blanked behind stopped times
  line_walks t legal last {n} value none left few index place =
      let size : place + length (text_bytes t) ≡ place + (length (text_bytes t) + 0) = omega arith in
      text_walks t legal value z (subst (λ (k : ℕ). Ends k z) (sym last) end.ends) left index place
      ∙ ap (behind (n ∷ [])) (numbers_stop (suc index) (place + length (text_bytes t)) z left end.no_number)
      ∙ (λ i. record { answer = done (stop_before z); numbers = n ∷ []; place = size i })
  line_walks t legal last {n} value (more u form behind-u value-u all) zero few index place = absurd (omega arith)
  line_walks t legal last {n} value (more {text} {texts} {n = m} {ns} u form behind-u value-u all) (suc left) few index place =
      let k = u.before in
      let rest = blanked texts ++ z in
      let next = text_bytes (bare u) ++ rest in
      let long = trailed t (suc k) in
      let split : (text ++ blanked texts) ++ z ≡ times k blank_byte ++ next =
      append_assoc text (blanked texts) z ∙ ap (λ (l : List ℕ). l ++ rest) form.written ∙ bare_bytes u rest in
      let size : place + length (text_bytes long) + (length (text_bytes (bare u)) + length (blanked texts))
      ≡ place + (length (text_bytes t) + suc (length (text ++ blanked texts))) =
      omega (
        arith,
        last,
        text_length_lem t,
        text_length_lem long,
        text_length_lem u,
        text_length_lem (bare u),
        ap length form.written,
        length-append
            text (blanked texts),
      ) in
      ap (λ (l : List ℕ). numbers_in (suc (suc left)) index place (text_bytes t ++ (blank_byte ∷ l))) split
      ∙ ap (numbers_in (suc (suc left)) index place) (trailed_bytes t last (suc k) next)
      ∙ text_walks long legal (trailed_value t (suc k) ∙ value) next
      (ends_blanks k next (bare_blanks u form.legal rest)) (suc left) index place
      ∙ ap (behind (n ∷ []))
      (line_walks (bare u) form.legal behind-u (bare_value u ∙ value-u) all left (omega arith) (suc index)
      (place + length (text_bytes long)))
      ∙ (λ i. record { answer = done (stop_before z); numbers = n ∷ (m ∷ ns); place = size i })

  -- so are texts parted by one blank each
  parted_walks : {texts : List (List ℕ)} {ns : List Number} → AllRead texts ns → length texts ≤ max_columns → (place : ℕ)
      → numbers_in max_columns 0 place (parted texts ++ z) ≡ record
      { answer = done (stop_before z); numbers = ns; place = place + length (parted texts) }
  unfolding parted stopped
  parted_walks none few place =
      let size : place ≡ place + 0 = omega arith in
      numbers_stop 0 place z max_columns end.no_number ∙ (λ i. record { answer = done (stop_before z); numbers = []; place = size i })
  parted_walks (more {text} {texts} {n} {ns} t form last value all) few place =
      let first = parted_blanked text texts in
      let size : place + (length (text_bytes t) + length (blanked texts)) ≡ place + length (parted (text ∷ texts)) =
      omega (arith, ap length form.written, length-append text (blanked texts), ap length first) in
      ap (λ (l : List ℕ). numbers_in max_columns 0 place (l ++ z)) first
      ∙ ap (numbers_in max_columns 0 place)
      (append_assoc text (blanked texts) z ∙ ap (λ (l : List ℕ). l ++ (blanked texts ++ z)) form.written)
      ∙ line_walks t form.legal last value all (max_columns - 1) (omega arith) 0 place
      ∙ (λ i. record { answer = done (stop_before z); numbers = n ∷ ns; place = size i })

-- the end of the bytes ends a line
end_ends : LineEnd []
end_ends = record { ends = ends_last 0; no_number = empty_length }

-- so does the byte behind it
byte_ends : (others : List ℕ) → LineEnd (line_end ∷ others)
unfolding times leading_sign sign_bytes sign_part sign_part_in sign_part_bytes digits_in point_in power_in numeral_in parts_in fraction_digits reading_in
byte_ends others =
    record {
      ends = record { stops = stops_byte line_end others refl (λ e. omega (arith, e)); no_power = refl; no_blank = refl };
      no_number = refl;
    }

-- Alpha texts.

-- an alpha text has the form, no blank stands behind it, and it has a value
record OneRead (text : List ℕ) : Type 0 where
  number : Number
  parts : TextParts
  form : HasForm text parts
  last : parts.behind ≡ 0
  value : text_value parts ≡ done number

one_read : (image : List ℕ) (n : Number) {text : List ℕ} → alpha_of image n ≡ done text → OneRead text
unfolding alpha_of alpha_under alpha_parts
one_read image n {text} h =
    let b = then_done (read_image 0 image) (λ (im : Image). truncation 0 im n then λ (t : Truncated). done (alpha_text im t)) h in
    let c = then_done (truncation 0 b.value n) (λ (t : Truncated). done (alpha_text b.value t)) b.second in
    let told : ◌≡◌ {A = Answer (List ℕ)} (done (alpha_text b.value c.value)) (done text) = c.second in
    let same : alpha_text b.value c.value ≡ text = cc in
    let fit = truncation_fit 0 b.value n c.first in
    let form = alpha_form b.value c.value fit.nonempty fit.size in
    let back = alpha_reads_back b.value n c.first in
    subst OneRead same
    (record {
      number = back.number;
      parts = alpha_parts b.value c.value;
      form = form;
      last = refl;
      value = sym (converts_form form) ∙ back.converts;
    })

-- all of them
all_read : (ims : List Image) (ns : List Number) {texts : List (List ℕ)} → alpha_texts ims ns ≡ done texts → (ts : List Number) × AllRead
    texts ts
unfolding alpha_texts
all_read [] ns {texts} h = let same : [] ≡ texts = cc in ([], subst (λ (l : List (List ℕ)). AllRead l []) same none)
all_read (im ∷ ims) [] {texts} h = let same : [] ≡ texts = cc in ([], subst (λ (l : List (List ℕ)). AllRead l []) same none)
all_read (im ∷ ims) (n ∷ ns) {texts} h =
    let b =
    then_done (alpha_of (image_bytes im) n)
    (λ (text : List ℕ). alpha_texts ims ns then λ (others : List (List ℕ)). done (text ∷ others)) h in
    let c = then_done (alpha_texts ims ns) (λ (others : List (List ℕ)). done (b.value ∷ others)) b.second in
    let told : ◌≡◌ {A = Answer (List (List ℕ))} (done (b.value ∷ c.value)) (done texts) = c.second in
    let same : b.value ∷ c.value ≡ texts = cc in
    let one = one_read (image_bytes im) n b.first in
    let others = all_read ims ns c.first in (
      one.number ∷ others.0,
      subst (λ (l : List (List ℕ)). AllRead l (one.number ∷ others.0)) same
          (more one.parts one.form one.last one.value others.1),
    )

-- Published: the alpha texts of at most 16 columns, parted by one blank each, read back as the numbers of the texts.
pub line_back : (ims : List Image) (ns : List Number) {texts : List (List ℕ)} → alpha_texts ims ns ≡ done texts → length texts ≤ max_columns
    → LineBack texts
unfolding walking
line_back ims ns {texts} h few =
    let all = all_read ims ns h in
    let size = zero-add (length (parted texts)) in
    record {
      numbers = all.0;
      of_texts = converted all.1;
      alone =
          ap (numbers_in max_columns 0 0) (sym (append-nil (parted texts)))
          ∙ parted_walks [] end_ends all.1 few 0
          ∙ (λ i. record { answer = done (sym (stop_end [] 0 (omega arith)) i); numbers = all.0; place = size i });
      within =
          λ text from others e.
          ap (numbers_in max_columns 0 from) e
          ∙ parted_walks (line_end ∷ others) (byte_ends others) all.1 few from
          ∙ (λ i. record {
            answer = done (sym (stop_none (line_end ∷ others) 0 (omega arith) (byte_ends others).no_number) i);
            numbers = all.0;
            place = from + length (parted texts);
          });
    }

-- The next place where a text number begins.

-- the same, of bytes
record FirstIn (bytes : List ℕ) (count : ℕ) : Type 0 where
  few : count ≤ length bytes
  begins : count < length bytes → legal_length (drop count bytes) ≡ 0 → ⊥
  none_before : (i : ℕ) → i < count → legal_length (drop i bytes) ≡ 0

first_in : (bytes : List ℕ) → FirstIn bytes (bytes_before bytes)
unfolding bytes_before
first_in [] = record { few = omega arith; begins = λ h. absurd (omega arith); none_before = λ i h. absurd (omega arith) }
first_in (b ∷ bs) = go (eqb (legal_length (b ∷ bs)) 0) refl (first_in bs)
  where
    go : (k : Bool) → eqb (legal_length (b ∷ bs)) 0 ≡ k → FirstIn bs (bytes_before bs) → FirstIn (b ∷ bs) (pick k (suc (bytes_before bs)) 0)
    go true e rest =
        record {
          few = omega (arith, rest.few);
          begins = λ h. rest.begins (omega arith);
          none_before = before;
        }
      where
        before : (i : ℕ) → i < suc (bytes_before bs) → legal_length (drop i (b ∷ bs)) ≡ 0
        before zero h = eqb-true (legal_length (b ∷ bs)) 0 e
        before (suc i) h = rest.none_before i (omega arith)
    go false e rest =
        record {
          few = omega arith;
          begins = λ h. eqb-false (legal_length (b ∷ bs)) 0 e;
          none_before = λ i h. absurd (omega arith);
        }

-- Published: skipping goes to the first place, from the place given on, where a text number begins.
pub first_place : (text : List ℕ) (from : ℕ) → FirstPlace text from (number_place text from)
unfolding number_place
first_place text from =
    let rest = drop from text in
    let count = bytes_before rest in
    let first = first_in rest in
    let long = length-drop from text in
    record {
      not_before = omega arith;
      inside = λ h. omega (arith, first.few);
      begins =
          λ h none. first.begins (omega arith) (ap legal_length (drop-drop count from text) ∙ none);
      none_before =
          λ p low high.
          let place : from + (p - from) ≡ p = omega arith in
          ap (λ (n : ℕ). legal_length (drop n text)) (sym place)
          ∙ ap legal_length (sym (drop-drop (p - from) from text))
          ∙ first.none_before (p - from) (omega arith);
    }
