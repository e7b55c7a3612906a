-- Document 01, Print lines: "a comma with no digit before it becomes a blank", of the bytes that are printed. A comma of a field prints as
-- the thousands mark where a digit stands before it in what is printed, else as the filling byte. So it is under all valid marks.
-- Assumes nothing.
use Prim.Native.Nat.{ℕ, zero, suc, ◌+◌, ◌-◌, ◌/◌, ◌^◌, ◌<◌}
use native.Mathlib.Omega.{arith}
use mathlib.Core.Path.{◌≡◌, refl, ap, sym, subst, subst⁻¹, ◌∙◌}
use mathlib.Core.Logic.{⊎_elim}
use mathlib.Core.List.{List, [], ◌∷◌, ◌++◌, append-nil}
use mathlib.Core.Bool.{Bool, true, false, ◌&&◌, ◌||◌, and-false, or-false, or-true, or_assoc}
use borrow.Author.Tests.{eqb-true, eq-eqb, lt-ltb, le-ltb, lt-leb}
use lib.Dec.{ltb, leb, eqb}
use lib.ListN.{length, take, drop, get_or}
use Rattle.decimal.specs.declared.image.Sign.{Sign}
use Rattle.decimal.specs.declared.image.Sign.TheVariants.{Unsigned, Plus, Minus}
use Rattle.decimal.specs.declared.image.Image.{Image}
use Rattle.decimal.specs.declared.number.Number.{Number}
use Rattle.decimal.specs.Answer.{done, pick}
use Rattle.decimal.specs.Digits.{Digits, digits_of}
use Rattle.decimal.specs.Image.{hash_byte, comma_byte, hashes, sign_bytes, times, fraction_bytes, scanned_image}
use Rattle.decimal.specs.Truncation.{Truncated}
use Rattle.decimal.proofs.DigitLaws.{le_or_lt, digits_length, digits_are_digits}
use Rattle.codec.specs.Alpha.{blank_byte, zero_byte, digit_bytes, sign_text, fraction_text, alpha_text}
use Rattle.codec.specs.Text.{is_digit}
use Rattle.codec.proofs.PartLaws.{digit_byte}
use Rattle.records.specs.declared.lines.marks.Marks.{Marks}
use Rattle.records.specs.Lines.Marks.{MarkByte, ValidMarks, with_decimal}
use Rattle.records.specs.Lines.Scanning.{Field, IsField, run_bytes, field_bytes}
use Rattle.records.specs.Lines.Fields.{number_marked, number_in, hash_count}
use Rattle.records.specs.Lines.FieldRule.{hidden_digits, without_commas, rule_byte, has_digit, rule_bytes}
use Rattle.records.proofs.LineProofs.FieldTheorem.{field_image_lem}
use Rattle.records.proofs.LineProofs.FieldLaws.{exponential_image}
use Rattle.records.proofs.LineProofs.MarkLaws.{document_valid, decimal_digits}
use Rattle.records.proofs.LineProofs.FillLaws.{Body, runs_body, times_body}
use Rattle.records.proofs.LineProofs.FieldBackTheorem.{field_image, in_field}
use Rattle.records.proofs.LineProofs.FieldRuleTheorem.{ruled, rule_whole, text_parts, truncation_below, fixed_bytes, without_shorter}
use Rattle.records.proofs.LineProofs.FieldRuleTheorem.{field_without_commas, bytes_by_rule, byte_by_rule}

-- a mark is no digit
mark_byte : {b : ℕ} → MarkByte b → is_digit b ≡ false
mark_byte {b} is =
    ⊎_elim
    (λ high.
    ⊎_elim
    (λ past. ap (λ (c : Bool). leb zero_byte b && c) (le-ltb b (zero_byte + 10) past) ∙ and-false (leb zero_byte b))
    (λ low. absurd (is.no_digit (b - zero_byte) (omega arith) (omega arith)))
    (le_or_lt (zero_byte + 10) b))
    (λ low. ap (λ (c : Bool). c && ltb b (zero_byte + 10)) (lt-leb zero_byte b low))
    (le_or_lt zero_byte b)

-- Digits among the bytes that the rule says.

-- of a text that is left for the rest of a field, the bytes for # signs are digits, and no others are
unfoldable Matches : List ℕ → List ℕ → Type 0
Matches [] text = Unit {0}
Matches (b ∷ bs) text =
    (eqb b comma_byte ≡ false → is_digit (get_or text 0 0) ≡ eqb b hash_byte) × Matches bs (pick (eqb b comma_byte) text (drop 1 text))

module _ {m : Marks} (valid : ValidMarks m) (s : ℕ) where
  -- what the rule says for a byte
  abbrev byte_of : ℕ → ℕ → ℕ → ℕ
  byte_of u b x =
      pick (eqb b comma_byte) (pick (ltb s u) m.thousands m.filling) (pick (eqb b hash_byte && ltb u s) m.filling x)

  -- for a comma it is no digit
  comma_none : (c : Bool) → is_digit (pick c m.thousands m.filling) ≡ false
  comma_none true = mark_byte valid.thousands_byte
  comma_none false = mark_byte valid.filling_byte

  -- for a # it is one where the digit is not hidden
  hash_digit : (u x : ℕ) → is_digit x ≡ true → (ltb s u || is_digit (pick (ltb u s) m.filling x)) ≡ ltb s (u + 1)
  hash_digit u x digit =
      ⊎_elim
      (λ shown.
      ap (λ (c : Bool). ltb s u || is_digit (pick c m.filling x)) (le-ltb u s shown)
      ∙ ap (λ (c : Bool). ltb s u || c) digit
      ∙ or-true (ltb s u)
      ∙ sym (lt-ltb s (u + 1) (omega arith)))
      (λ hidden.
      ap (λ (c : Bool). ltb s u || is_digit (pick c m.filling x)) (lt-ltb u s hidden)
      ∙ ap (λ (c : Bool). ltb s u || c) (mark_byte valid.filling_byte)
      ∙ or-false (ltb s u)
      ∙ le-ltb s u (omega arith)
      ∙ sym (le-ltb s (u + 1) (omega arith)))
      (le_or_lt s u)

  -- a digit stands up to a byte where more # signs than are hidden do
  one_byte : (u b x : ℕ) → (eqb b comma_byte ≡ false → is_digit x ≡ eqb b hash_byte)
      → (ltb s u || is_digit (byte_of u b x)) ≡ ltb s (pick (eqb b hash_byte) (u + 1) u)
  one_byte u b x fits = go (eqb b comma_byte) (eqb b hash_byte) refl refl fits
    where
      go : (k h : Bool) → eqb b comma_byte ≡ k → eqb b hash_byte ≡ h → (k ≡ false → is_digit x ≡ h)
          → (ltb s u || is_digit (pick k (pick (ltb s u) m.thousands m.filling) (pick (h && ltb u s) m.filling x))) ≡ ltb s (pick h (u + 1) u)
      go true true e g fits = let z : comma_byte ≡ hash_byte = sym (eqb-true b comma_byte e) ∙ eqb-true b hash_byte g in absurd (omega arith)
      go true false e g fits = ap (λ (c : Bool). ltb s u || c) (comma_none (ltb s u)) ∙ or-false (ltb s u)
      go false true e g fits = hash_digit u x (fits refl)
      go false false e g fits = ap (λ (c : Bool). ltb s u || c) (fits refl) ∙ or-false (ltb s u)

  -- and so among the first bytes
  digit_shown : (p u : ℕ) (bs text : List ℕ) → Matches bs text
      → (ltb s u || has_digit (take p (ruled m s u bs text))) ≡ ltb s (u + hash_count (take p bs))
  unfolding Matches ruled has_digit hash_count
  digit_shown zero u bs text fits = let same : u ≡ u + 0 = omega arith in or-false (ltb s u) ∙ ap (ltb s) same
  digit_shown (suc p) u [] text fits = let same : u ≡ u + 0 = omega arith in or-false (ltb s u) ∙ ap (ltb s) same
  digit_shown (suc p) u (b ∷ bs) text fits =
      let next = pick (eqb b hash_byte) (u + 1) u in
      let rest = has_digit (take p (ruled m s next bs (pick (eqb b comma_byte) text (drop 1 text)))) in
      sym (or_assoc (ltb s u) (is_digit (byte_of u b (get_or text 0 0))) rest)
      ∙ ap (λ (c : Bool). c || rest) (one_byte u b (get_or text 0 0) fits.0)
      ∙ digit_shown p next bs (pick (eqb b comma_byte) text (drop 1 text)) fits.1
      ∙ ap (ltb s) (counted (eqb b hash_byte) (hash_count (take p bs)))
    where
      counted : (h : Bool) (n : ℕ) → pick h (u + 1) u + n ≡ u + (pick h 1 0 + n)
      counted true n = omega arith
      counted false n = omega arith

-- Fixed-point fields have such texts.

-- # signs and commas, and as many digits
match_body : {bs : List ℕ} {n : ℕ} → Body bs n → (ds : List ℕ) → length ds ≡ n → Digits ds → (r text : List ℕ) → Matches r text
    → Matches (bs ++ r) (digit_bytes ds ++ text)
unfolding Matches digit_bytes Digits
match_body Body.end [] size digits r text fits = fits
match_body Body.end (d ∷ ds) size digits r text fits = absurd (omega arith)
match_body (Body.hash b) [] size digits r text fits = absurd (omega arith)
match_body (Body.hash b) (d ∷ ds) size digits r text fits =
    (λ e. digit_byte d digits.0, match_body b ds (omega arith) digits.1 r text fits)
match_body (Body.comma b) ds size digits r text fits =
    (λ e. let z : ◌≡◌ {A = ℕ} 0 1 = cc in absurd (omega arith), match_body b ds size digits r text fits)

-- the point and what stands behind it
match_fraction : {m : Marks} → ValidMarks m → (f whole : ℕ) → Matches (fraction_bytes f) (with_decimal m (fraction_text f whole))
unfolding Matches fraction_bytes fraction_text with_decimal
match_fraction valid zero whole = tt
match_fraction {m} valid (suc f) whole =
    let ds = digits_of (suc f) whole in
    let behind : Matches (times (suc f) hash_byte ++ []) (digit_bytes ds ++ []) =
    match_body (times_body (suc f)) ds (digits_length (suc f) whole) (digits_are_digits (suc f) whole) [] [] tt in
    (λ e. mark_byte valid.decimal_byte, subst⁻¹ (Matches (times (suc f) hash_byte)) (decimal_digits m ds) (simp append-nil at behind))

-- the sign
match_sign : (sign : Sign) (negative : Bool) (r text : List ℕ) → Matches r text → Matches (sign_bytes sign ++ r) (sign_text sign negative ++ text)
unfolding Matches sign_bytes sign_text
match_sign Unsigned negative r text fits = fits
match_sign Plus true r text fits = (λ e. refl, fits)
match_sign Plus false r text fits = (λ e. refl, fits)
match_sign Minus true r text fits = (λ e. refl, fits)
match_sign Minus false r text fits = (λ e. refl, fits)

-- the field
match_field : {m : Marks} → ValidMarks m → (f : Field) (t : Truncated) → t.whole < 10 ^ hashes (field_image f) → f.exponential ≡ false
    → Matches (field_bytes f) (with_decimal m (alpha_text (field_image f) t))
match_field {m} valid f t below kind =
    let im = field_image f in
    let front = t.whole / 10 ^ im.fraction in
    let ds = digits_of im.integer front in
    let behind = match_fraction valid im.fraction t.whole in
    let body = match_body (runs_body f.runs) ds (digits_length im.integer front) (digits_are_digits im.integer front) _ _ behind in
    subst⁻¹ (λ (l : List ℕ). Matches l (with_decimal m (alpha_text im t))) (fixed_bytes f kind)
    (subst⁻¹ (Matches (sign_bytes f.sign ++ (run_bytes f.runs ++ fraction_bytes f.fraction))) (text_parts m im t below kind)
    (match_sign f.sign t.negative _ _ body))

-- a digit stands before a position of a fixed-point field exactly where more # signs do than are hidden
digit_before : {m : Marks} → ValidMarks m → {field : List ℕ} {f : Field} → IsField field f → (t : Truncated)
    → t.whole < 10 ^ hashes (scanned_image field)
    → (scanned_image field).exponential ≡ false
    → (p : ℕ)
    → has_digit (take p (rule_bytes m field (scanned_image field) t)) ≡ ltb (hidden_digits (scanned_image field) t) (hash_count (take p field))
digit_before {m} valid {field} {f} is t below kind p =
    let im = scanned_image field in
    let same = field_image_lem is in
    let text = with_decimal m (alpha_text im t) in
    let s = hidden_digits im t in
    let fixed : f.exponential ≡ false = sym (ap (λ (i : Image). i.exponential) same) ∙ kind in
    let small : t.whole < 10 ^ hashes (field_image f) = subst (λ (i : Image). t.whole < 10 ^ hashes i) same below in
    let fits : Matches field text =
    subst⁻¹ (λ (l : List ℕ). Matches l text) is.rendered
    (subst⁻¹ (λ (i : Image). Matches (field_bytes f) (with_decimal m (alpha_text i t))) same (match_field valid f t small fixed)) in
    let none : ltb s 0 ≡ false = le-ltb s 0 (omega arith) in
    let start : 0 + hash_count (take p field) ≡ hash_count (take p field) = omega arith in
    ap (λ (l : List ℕ). has_digit (take p l)) (rule_whole m im t field)
    ∙ ap (λ (c : Bool). c || has_digit (take p (ruled m s 0 field text))) (sym none)
    ∙ digit_shown valid s p 0 field text fits
    ∙ ap (ltb s) start

-- A field with a comma is fixed point.

-- where the commas are no bytes less, there is none
no_comma : (bs : List ℕ) → length (without_commas bs) ≡ length bs → (p : ℕ) → p < length bs → get_or bs p 0 ≡ comma_byte → ⊥
unfolding without_commas
no_comma [] none p inside is = omega arith
no_comma (b ∷ bs) none zero inside is =
    omega (arith, without_shorter bs, rw (eq-eqb b comma_byte is) at none)
no_comma (b ∷ bs) none (suc p) inside is = go (eqb b comma_byte) none (λ rest. no_comma bs rest p (omega arith) is)
  where
    go : (c : Bool)
        → length (pick c (without_commas bs) (b ∷ without_commas bs)) ≡ suc (length bs)
        → (length (without_commas bs) ≡ length bs → ⊥)
        → ⊥
    go true h rest = omega (arith, without_shorter bs)
    go false h rest = rest (omega arith)

-- so an exponential field has none
comma_fixed : {field : List ℕ} {f : Field} → IsField field f → (p : ℕ) → p < length field → get_or field p 0 ≡ comma_byte
    → (scanned_image field).exponential ≡ false
comma_fixed {field} is p inside comma = go (scanned_image field).exponential refl
  where
    go : (e : Bool) → (scanned_image field).exponential ≡ e → e ≡ false
    go false kind = refl
    go true kind =
        let none : length (without_commas field) ≡ length field =
        ap length (field_without_commas is) ∙ sym (ap length (exponential_image is kind).rendered) in
        absurd (no_comma field none p inside comma)

-- the rule for a comma
comma_rule : (m : Marks) (im : Image) (t : Truncated) (before : List ℕ) {b : ℕ} → b ≡ comma_byte
    → rule_byte m im t before b ≡ pick (ltb (hidden_digits im t) (hash_count before)) m.thousands m.filling
unfolding rule_byte
comma_rule m im t before e = ap (rule_byte m im t before) e

-- Published: a comma of a field prints as the thousands mark where a digit stands before it in what is printed, else as the filling byte.
pub comma_by_digits : {m : Marks} → ValidMarks m → {field : List ℕ} {f : Field} → IsField field f → (n : Number) {bytes : List ℕ}
    → number_marked m field n ≡ done bytes
    → (p : ℕ)
    → p < length field
    → get_or field p 0 ≡ comma_byte
    → get_or bytes p 0 ≡ pick (has_digit (take p bytes)) m.thousands m.filling
comma_by_digits {m} valid {field} is n {bytes} h p inside comma =
    let im = scanned_image field in
    let t = (in_field m field n h).to in
    let below = truncation_below im n (in_field m field n h).truncated in
    let before : has_digit (take p bytes) ≡ ltb (hidden_digits im t) (hash_count (take p field)) =
    ap (λ (l : List ℕ). has_digit (take p l)) (bytes_by_rule m is n h) ∙ digit_before valid is t below (comma_fixed is p inside comma) p in
    byte_by_rule m is n h p inside
    ∙ comma_rule m im t (take p field) comma
    ∙ ap (λ (c : Bool). pick c m.thousands m.filling) (sym before)

-- Published: with document 01's marks it stays a comma where a digit stands before it, else it becomes a blank.
pub comma_or_blank : {field : List ℕ} {f : Field} → IsField field f → (n : Number) {bytes : List ℕ}
    → number_in field n ≡ done bytes
    → (p : ℕ)
    → p < length field
    → get_or field p 0 ≡ comma_byte
    → get_or bytes p 0 ≡ pick (has_digit (take p bytes)) comma_byte blank_byte
comma_or_blank is n h p inside comma = comma_by_digits document_valid is n h p inside comma
