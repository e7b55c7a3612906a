-- Texts one behind the other, each parted from the next by a blank: each is read, with the blanks behind it, and a blank at a text's end is no
-- part of its value. Assumes nothing.
use Rattle.std.proofs.Common.{◌≡◌, ℕ, zero, suc, ◌+◌, ◌-◌, ◌<◌, ◌≤◌, pred, Bool, true, false, List, [], ◌∷◌, ◌++◌, length, take, get_or, length-append, append_assoc, append-nil, ap, ap₂, sym, refl, subst, ◌∙◌, arith, eqb}
use lib.Seq.{take-length}
use Rattle.std.proofs.Common.{⊎_elim}
use borrow.Author.Tests.{eq-eqb}
use Rattle.decimal.specs.declared.number.Number.{Number}
use Rattle.decimal.specs.Answer.{done, pick}
use Rattle.decimal.specs.Image.{times}
use Rattle.decimal.proofs.AnswerLaws.{never}
use Rattle.decimal.proofs.BoolLaws.{zero_or_not}
use Rattle.codec.specs.Alpha.{blank_byte, parted}
use Rattle.codec.specs.StrictText.{byte_count}
use Rattle.codec.specs.Text.{no_sign, TextParts, HasForm, Legal, all_digits_of, numeral_bytes, text_bytes, sign_part_bytes, text_value, blanks_in, reading_in, legal_length, read_text, convert_text}
use Rattle.codec.specs.declared.text.TextNumber.{TextNumber}
use Rattle.codec.proofs.BlankLaws.{none_numeral, foreign_blank}
use Rattle.codec.proofs.PartLaws.{sign_part_no_blank}
use Rattle.codec.proofs.FormLaws.{starts_numeral, Ends, text_append, converts_form, parts_before}
use Rattle.codec.proofs.ReadingTheorem.{beginning_value, some_beginning, read_done, whole_text}
use Rattle.codec.proofs.TextLaws.{text_long, text_length_lem, reads_none, legal_some, reading_number, reads_number}

-- A text before bytes that end it.

-- its length is the legal length
pub length_before : (t : TextParts) → Legal t.numeral → (r : List ℕ) → Ends t.behind r → legal_length (text_bytes t ++ r) ≡ length (text_bytes t)
length_before t legal r ends =
    let parts = parts_before t legal r ends in
    legal_some (text_bytes t ++ r) (λ none. omega (arith, ap (λ (u : TextParts). length (all_digits_of u.numeral)) parts, legal.some))
    ∙ ap (λ (u : TextParts). length (text_bytes u)) parts

-- its value is the next number
pub value_before : (t : TextParts) → Legal t.numeral → (r : List ℕ) → Ends t.behind r → (reading_in (text_bytes t ++ r)).number ≡ text_value t
value_before t legal r ends =
    reading_number (text_bytes t ++ r) (λ none. omega (arith, length_before t legal r ends, text_long t, legal.some))
    ∙ ap text_value (parts_before t legal r ends)

-- so it is read, with its value
pub read_before :
    (t : TextParts) {n : Number} (r : List ℕ)
    → Legal t.numeral
    → text_value t ≡ done n
    → Ends t.behind r
    → read_text (text_bytes t ++ r) ≡ done (record { number = n; used = length (text_bytes t) })
read_before t r legal value ends =
    let size = length_before t legal r ends in
    reads_number (text_bytes t ++ r) (sym size)
    (value_before t legal r ends ∙ value)

-- What is read, and what is converted, has parts.

-- a text that is so read
pub record Parts (text : List ℕ) (n : Number) : Type 0 where
  pub parts : TextParts
  pub form : HasForm text parts
  pub value : text_value parts ≡ done n

-- the beginning of bytes that is read
pub read_parts : (bytes : List ℕ) {t : TextNumber} → read_text bytes ≡ done t → 0 < t.used → Parts (take t.used bytes) t.number
read_parts bytes {t} h some =
    let r = read_done bytes h in
    let b = some_beginning bytes (λ none. omega (arith, some, r.0)) in
    record {
      parts = b.0;
      form = subst (λ (k : ℕ). HasForm (take k bytes) b.0) r.0 b.1.form;
      value = sym (beginning_value bytes b.1) ∙ r.1;
    }

-- a whole text
pub convert_parts : (text : List ℕ) {n : Number} → convert_text text ≡ done n → Parts text n
convert_parts text {n} h =
    let read = ((whole_text text).number n).0 h in
    let size = (read_done text read).0 in
    subst (λ (l : List ℕ). Parts l n) (take-length text)
    (read_parts text read
    (⊎_elim (λ none. never (reads_none text (size ∙ none)) read) (λ some. omega (arith, some)) (zero_or_not (length text))))

-- and such a text converts
pub parts_convert : {text : List ℕ} {n : Number} → Parts text n → convert_text text ≡ done n
parts_convert p = converts_form p.form ∙ p.value

-- Blanks behind a text.

-- a text with so many more
abbrev pub grown : TextParts → ℕ → TextParts
grown t k = record { before = t.before; sign = t.sign; numeral = t.numeral; behind = t.behind + k }

-- its bytes
times_plus : (m k b : ℕ) (r : List ℕ) → times m b ++ (times k b ++ r) ≡ times (m + k) b ++ r
unfolding times
times_plus zero k b r = let e : k ≡ 0 + k = omega arith in ap (λ (n : ℕ). times n b ++ r) e
times_plus (suc m) k b r =
    let e : suc (m + k) ≡ suc m + k = omega arith in ap (λ (l : List ℕ). b ∷ l) (times_plus m k b r) ∙ ap (λ (n : ℕ). times n b ++ r) e

pub grown_bytes : (t : TextParts) (k : ℕ) (r : List ℕ) → text_bytes t ++ (times k blank_byte ++ r) ≡ text_bytes (grown t k) ++ r
grown_bytes t k r = rw (text_append t (times k blank_byte ++ r), text_append (grown t k) r, times_plus t.behind k blank_byte r)

-- which change no value
pub other_blanks : (t : TextParts) (k : ℕ) → text_value (record { before = t.before; sign = t.sign; numeral = t.numeral; behind = k }) ≡ text_value t
unfolding text_value
other_blanks t k = refl

-- Blanks before a text, which go over to the one before it.

-- a text without the blanks before it
abbrev pub bare : TextParts → TextParts
bare t = record { before = 0; sign = t.sign; numeral = t.numeral; behind = t.behind }

-- the blanks before a text
pub bare_bytes : (t : TextParts) (r : List ℕ) → text_bytes t ++ r ≡ times t.before blank_byte ++ (text_bytes (bare t) ++ r)
unfolding text_bytes times
bare_bytes t r = append_assoc (times t.before blank_byte) (text_bytes (bare t)) r

-- they change no value
pub bare_value : (t : TextParts) → text_value (bare t) ≡ text_value t
unfolding text_value
bare_value t = refl

-- a bare text begins with no blank
pub bare_blanks : (t : TextParts) → Legal t.numeral → (r : List ℕ) → blanks_in (text_bytes (bare t) ++ r) ≡ 0
unfolding times
bare_blanks t legal r =
    ap blanks_in (text_append (bare t) r)
    ∙ sign_part_no_blank t.sign _ (starts_numeral t.numeral legal _)

-- a blank before each text
unfoldable pub blanked : List (List ℕ) → List ℕ
blanked [] = []
blanked (text ∷ texts) = blank_byte ∷ (text ++ blanked texts)

-- so they stand behind the first of texts that are parted by one
pub parted_blanked : (text : List ℕ) (texts : List (List ℕ)) → parted (text ∷ texts) ≡ text ++ blanked texts
unfolding parted blanked
parted_blanked text [] = sym (append-nil text)
parted_blanked text (next ∷ texts) = ap (λ (l : List ℕ). text ++ (blank_byte ∷ l)) (parted_blanked next texts)

-- A blank at a text's end.

-- a byte behind others
get_at : (xs : List ℕ) (b : ℕ) (ys : List ℕ) → get_or (xs ++ (b ∷ ys)) (length xs) 0 ≡ b
get_at [] b ys = refl
get_at (x ∷ xs) b ys = get_at xs b ys

-- a blank more behind a text
pub blank_more : (t : TextParts) → text_bytes t ++ (blank_byte ∷ []) ≡ text_bytes (grown t 1)
unfolding times
blank_more t = grown_bytes t 1 [] ∙ append-nil (text_bytes (grown t 1))

-- a text that has blanks behind it ends with one
pub blank_last : (t : TextParts) (k : ℕ) (r : List ℕ) → get_or (text_bytes (grown t (suc k)) ++ r) (pred (length (text_bytes (grown t (suc k))))) 0 ≡ blank_byte
blank_last t k r =
    let less = grown t k in
    let same : text_bytes (grown less 1) ≡ text_bytes (grown t (suc k)) =
    ap (λ (n : ℕ). text_bytes (record { before = t.before; sign = t.sign; numeral = t.numeral; behind = n })) (omega arith) in
    let split : text_bytes (grown t (suc k)) ≡ text_bytes less ++ (blank_byte ∷ []) = sym same ∙ sym (blank_more less) in
    let size : pred (length (text_bytes (grown t (suc k)))) ≡ length (text_bytes less) =
    omega (arith, ap length split, length-append (text_bytes less) (blank_byte ∷ [])) in
    ap₂ (λ (l : List ℕ) (n : ℕ). get_or (l ++ r) n 0) split size
    ∙ ap (λ (l : List ℕ). get_or l (length (text_bytes less)) 0) (append_assoc (text_bytes less) (blank_byte ∷ []) r)
    ∙ get_at (text_bytes less) blank_byte r

-- and one that ends with a blank has blanks behind it
last_count : (xs : List ℕ) (b : ℕ) → 0 < length xs → get_or xs (pred (length xs)) 0 ≡ b → 0 < byte_count b xs
unfolding byte_count
last_count [] b h e = absurd (omega (arith, h))
last_count (x ∷ []) b h e = rw (eq-eqb x b e) (omega arith)
last_count (x ∷ (y ∷ ys)) b h e = more (eqb x b) (last_count (y ∷ ys) b (omega arith) e)
  where
    more : (k : Bool) {n : ℕ} → 0 < n → 0 < pick k (suc n) n
    more true s = omega arith
    more false s = s

-- the last byte behind others
get_behind : (xs ys : List ℕ) → 0 < length ys → get_or (xs ++ ys) (pred (length (xs ++ ys))) 0 ≡ get_or ys (pred (length ys)) 0
get_behind [] ys some = refl
get_behind (x ∷ xs) ys some =
    let size : length (xs ++ ys) ≡ suc (pred (length (xs ++ ys))) = omega (arith, length-append xs ys, some) in
    ap (λ (n : ℕ). get_or (x ∷ (xs ++ ys)) n 0) size ∙ get_behind xs ys some

-- a numeral has bytes
numeral_some : (t : TextParts) → Legal t.numeral → 1 ≤ length (numeral_bytes t.numeral)
unfolding sign_part_bytes
numeral_some t legal =
    let bare : TextParts = record { before = 0; sign = no_sign; numeral = t.numeral; behind = 0 } in
    omega (arith, text_long bare, text_length_lem bare, legal.some)

blanks_behind : (t : TextParts) → Legal t.numeral → get_or (text_bytes t) (pred (length (text_bytes t))) 0 ≡ blank_byte → 0 < t.behind
unfolding text_bytes times
blanks_behind t legal e =
    ⊎_elim
    (λ (none : t.behind ≡ 0).
    let front = times t.before blank_byte ++ sign_part_bytes t.sign in
    let numeral = numeral_bytes t.numeral in
    let some : 0 < length numeral = omega (arith, numeral_some t legal) in
    let split : text_bytes t ≡ front ++ numeral =
    ap (λ (n : ℕ). times t.before blank_byte ++ (sign_part_bytes t.sign ++ (numeral ++ times n blank_byte))) none
    ∙ ap (λ (l : List ℕ). times t.before blank_byte ++ (sign_part_bytes t.sign ++ l)) (append-nil numeral)
    ∙ sym (append_assoc (times t.before blank_byte) (sign_part_bytes t.sign) numeral) in
    let last : get_or numeral (pred (length numeral)) 0 ≡ blank_byte =
    sym (get_behind front numeral some) ∙ ap (λ (l : List ℕ). get_or l (pred (length l)) 0) (sym split) ∙ e in
    absurd (omega (arith, last_count numeral blank_byte some last, none_numeral foreign_blank t.numeral)))
    (λ (some : t.behind ≡ 0 → ⊥). omega (arith, some))
    (zero_or_not t.behind)

-- a text without the blank at its end
pub record Dropped (text : List ℕ) (n : Number) : Type 0 where
  pub front : List ℕ
  pub parts : Parts front n
  pub split : text ≡ front ++ (blank_byte ∷ [])

-- Published: a blank at a text's end is no part of its value: without it, the text has the same.
pub blank_dropped : (text : List ℕ) {n : Number} → Parts text n → get_or text (pred (length text)) 0 ≡ blank_byte → Dropped text n
blank_dropped text {n} p last =
    let t = p.parts in
    let blanks = blanks_behind t p.form.legal (ap (λ (l : List ℕ). get_or l (pred (length l)) 0) (sym p.form.written) ∙ last) in
    let less : TextParts = record { before = t.before; sign = t.sign; numeral = t.numeral; behind = t.behind - 1 } in
    let one : t.behind - 1 + 1 ≡ t.behind = omega (arith, blanks) in
    let grows : text_bytes (grown less 1) ≡ text_bytes t =
    ap (λ (k : ℕ). text_bytes (record { before = t.before; sign = t.sign; numeral = t.numeral; behind = k })) one in
    record {
      front = text_bytes less;
      parts = record { parts = less; form = record { legal = p.form.legal; written = refl }; value = other_blanks t (t.behind - 1) ∙ p.value };
      split = p.form.written ∙ sym grows ∙ sym (blank_more less);
    }
