-- Document 01, Print lines: a number's print field not spilled, without its marks (blanks and commas), is a text number whose value is the
-- truncation. So it is under all valid marks.
-- Assumes nothing.
use Prim.Native.Nat.{ℕ, zero, suc, ◌+◌, ◌/◌, ◌^◌, ◌<◌, ◌≤◌}
use mathlib.Core.Path.{◌≡◌, refl, ap, sym, subst, subst⁻¹, ◌∙◌}
use mathlib.Core.List.{List, [], ◌∷◌, ◌++◌, append-nil, append_assoc}
use mathlib.Core.Bool.{Bool, true, false}
use native.Mathlib.Omega.{arith}
use lib.Dec.{ltb}
use lib.ListN.{length, length-append}
use Rattle.decimal.specs.declared.image.Sign.{Sign}
use Rattle.decimal.specs.declared.image.Sign.TheVariants.{Unsigned, Plus, Minus}
use Rattle.decimal.specs.declared.image.Image.{Image}
use Rattle.decimal.specs.declared.number.Number.{Number}
use Rattle.decimal.specs.Answer.{Answer, done, refused, ◌then◌, pick}
use Rattle.decimal.specs.Digits.{precision, digits_of, value_of, zeros, Digits}
use Rattle.decimal.specs.Number.{exponent_limit, normal, scaled_number}
use Rattle.decimal.specs.Image.{plus_byte, minus_byte, point_byte, hashes, sign_bytes, times, fraction_bytes, up_bytes, scanned_image}
use Rattle.decimal.specs.Truncation.{Truncated, truncation, number_of, truncated_number}
use Rattle.decimal.proofs.DigitLaws.{digits_length, digits_are_digits}
use Rattle.decimal.proofs.TruncationLaws.{truncation_fit}
use Rattle.decimal.proofs.KeptLaws.{truncates_to_itself}
use Rattle.codec.specs.Packing.{exponent_size}
use Rattle.codec.specs.Alpha.{exponent_byte, digit_bytes, sign_text, fraction_text, exponent_text, alpha_text}
use Rattle.codec.specs.Text.{TextParts, HasForm, fraction_digits, all_digits_of, point_bytes, power_bytes, numeral_bytes, text_bytes, has_minus, power_value, text_value, sign_part, convert_text}
use Rattle.codec.proofs.PartLaws.{digits_right, sign_alone}
use Rattle.codec.proofs.FormLaws.{converts_form}
use Rattle.codec.proofs.AlphaForm.{alpha_sign, alpha_point, alpha_power, alpha_parts, alpha_form, alpha_back}
use Rattle.records.specs.Lines.Scanning.{Field, IsField, run_bytes, total, field_bytes}
use Rattle.records.specs.declared.lines.marks.Marks.{Marks}
use Rattle.records.specs.Lines.Marks.{ValidMarks, with_decimal, without_marks}
use Rattle.records.specs.Lines.Fields.{fill_bytes, nothing_filled, shown_marked, number_marked, number_in, read_marked, read_field}
use Rattle.records.proofs.LineProofs.MarkLaws.{document_valid, keeps_exponent, keeps_decimal, decimal_append, decimal_digits, decimal_sign, decimal_exponent}
use Rattle.records.proofs.LineProofs.FieldTheorem.{field_image_lem}
use Rattle.records.proofs.LineProofs.FillLaws.{marked, elements_before, marks_digits, marks_plus, marks_minus, runs_body, marked_sign, Hidden, fill_hidden, fill_fraction}

-- The text that is left.

-- its parts: those of the alpha text with no blank before it, and with these digits before the point
unfoldable pub short_parts : Image → Truncated → List ℕ → TextParts
short_parts im t ds =
    record {
      before = 0;
      sign = sign_part (alpha_sign im.sign t.negative) 0;
      numeral = record { integer = ds; fraction = alpha_point im.fraction t.whole; power = alpha_power im.exponential t };
      behind = 0;
    }

-- its bytes
unfoldable pub short_bytes : Image → Truncated → List ℕ → List ℕ
short_bytes im t ds =
    sign_bytes (alpha_sign im.sign t.negative)
    ++ (digit_bytes ds ++ (point_bytes (alpha_point im.fraction t.whole) ++ power_bytes (alpha_power im.exponential t)))

-- they are the text of the parts
short_bytes_lem : (im : Image) (t : Truncated) (ds : List ℕ) → short_bytes im t ds ≡ text_bytes (short_parts im t ds)
unfolding short_bytes numeral_bytes text_bytes short_parts times
short_bytes_lem im t ds = rw (sign_alone (alpha_sign im.sign t.negative), append-nil)

-- bytes are such a text: some zeros at the front of the digits before the point are left out, but not all digits there
pub record Short (im : Image) (t : Truncated) (bytes : List ℕ) : Type 0 where
  pub count : ℕ
  pub digits : List ℕ
  pub all : digits_of im.integer (t.whole / 10 ^ im.fraction) ≡ zeros count ++ digits
  pub some : 0 < im.integer → 1 ≤ length digits
  pub left : bytes ≡ short_bytes im t digits

-- zeros before digits do not count
zeros_value : (k : ℕ) (ds : List ℕ) → value_of (zeros k ++ ds) ≡ value_of ds
unfolding value_of zeros
zeros_value zero ds = refl
zeros_value (suc k) ds = omega (arith, zeros_value k ds)

-- the digits behind the point
point_count : (f whole : ℕ) → length (fraction_digits (alpha_point f whole)) ≡ f
unfolding fraction_digits alpha_point
point_count zero whole = refl
point_count (suc f) whole = digits_length (suc f) whole

-- all digits of the alpha text
short_digits : {im : Image} {t : Truncated} {bytes : List ℕ} (s : Short im t bytes)
    → all_digits_of (alpha_parts im t).numeral ≡ zeros s.count ++ all_digits_of (short_parts im t s.digits).numeral
unfolding alpha_parts short_parts
short_digits {im} {t} s =
    ap (λ (l : List ℕ). l ++ fraction_digits (alpha_point im.fraction t.whole)) s.all
    ∙ append_assoc (zeros s.count) s.digits (fraction_digits (alpha_point im.fraction t.whole))

-- some are left
short_some : {im : Image} {t : Truncated} {bytes : List ℕ} (s : Short im t bytes) → 0 < hashes im → 1 ≤ length (all_digits_of (short_parts im t s.digits).numeral)
unfolding short_parts
short_some {im} {t} s h =
    let sum = length-append s.digits (fraction_digits (alpha_point im.fraction t.whole)) in
    let behind = point_count im.fraction t.whole in
    go im.integer refl sum behind
  where
    go : (i : ℕ) → im.integer ≡ i
        → length (s.digits ++ fraction_digits (alpha_point im.fraction t.whole)) ≡ length s.digits + length (fraction_digits (alpha_point im.fraction t.whole))
        → length (fraction_digits (alpha_point im.fraction t.whole)) ≡ im.fraction
        → 1 ≤ length (s.digits ++ fraction_digits (alpha_point im.fraction t.whole))
    go zero e sum behind = omega arith
    go (suc i) e sum behind = omega (arith, s.some (omega arith))

-- it has the form of a text number
pub short_form : {im : Image} {t : Truncated} {bytes : List ℕ} (s : Short im t bytes) → 0 < hashes im → hashes im ≤ precision
    → HasForm bytes (short_parts im t s.digits)
unfolding alpha_parts short_parts
short_form {im} {t} s some few =
    let whole = alpha_form im t some few in
    let all = short_digits s in
    let parts = short_parts im t s.digits in
    record {
      legal =
          record {
            digits = digits_right (zeros s.count) (all_digits_of parts.numeral) (subst Digits all whole.legal.digits);
            some = short_some s some;
            few = omega (arith, whole.legal.few, ap length all, length-append (zeros s.count) (all_digits_of parts.numeral));
            powers = whole.legal.powers;
          };
      written = s.left ∙ short_bytes_lem im t s.digits;
    }

-- with the value of the alpha text
short_value : {im : Image} {t : Truncated} {bytes : List ℕ} (s : Short im t bytes) → text_value (short_parts im t s.digits) ≡ text_value (alpha_parts im t)
unfolding text_value alpha_parts short_parts
short_value {im} {t} s =
    let parts = short_parts im t s.digits in
    let value : value_of (all_digits_of parts.numeral) ≡ value_of (all_digits_of (alpha_parts im t).numeral) =
    sym (ap value_of (short_digits s) ∙ zeros_value s.count (all_digits_of parts.numeral)) in
    ap (λ (v : ℕ). scaled_number 0 (has_minus parts.sign) v (power_value parts.numeral.power) (exponent_limit + length (fraction_digits parts.numeral.fraction))) value

-- so it converts to the truncation
pub short_back : {im : Image} {t : Truncated} {bytes : List ℕ} → Short im t bytes → (n : Number) → truncation 0 im n ≡ done t
    → convert_text bytes ≡ number_of 0 im t
short_back {im} {t} s n h =
    let fit = truncation_fit 0 im n h in
    converts_form (short_form s fit.nonempty fit.size)
    ∙ short_value s
    ∙ sym (converts_form (alpha_form im t fit.nonempty fit.size))
    ∙ alpha_back im n h

-- Fixed-point fields.

-- what the machine reads of a field
abbrev pub field_image : Field → Image
field_image f = record { sign = f.sign; integer = total f.runs; fraction = f.fraction; exponential = f.exponential }

-- no 5E bytes in fixed point
no_ups : (kind : Bool) → kind ≡ false → up_bytes kind ≡ []
unfolding up_bytes
no_ups kind h = ap up_bytes h

-- and no exponent
no_power : (kind : Bool) (t : Truncated) → kind ≡ false → power_bytes (alpha_power kind t) ≡ []
unfolding power_bytes alpha_power
no_power kind t h = ap (λ (k : Bool). power_bytes (alpha_power k t)) h

-- what stands behind the runs
fixed_tail : {m : Marks} → ValidMarks m → (f : Field) (t : Truncated) (s : Bool) → f.exponential ≡ false
    → marked m (field_image f) t s (0 + total f.runs) (fraction_bytes f.fraction ++ up_bytes f.exponential)
    ≡ point_bytes (alpha_point f.fraction t.whole) ++ power_bytes (alpha_power f.exponential t)
fixed_tail {m} valid f t s kind =
    let im = field_image f in
    let i = total f.runs in
    let place : 0 + i ≡ i = omega arith in
    let behind = fraction_bytes f.fraction in
    ap (λ (l : List ℕ). marked m im t s (0 + i) (behind ++ l)) (no_ups f.exponential kind)
    ∙ ap (λ (l : List ℕ). marked m im t s (0 + i) l) (append-nil behind)
    ∙ ap (λ (u : ℕ). marked m im t s u behind) place
    ∙ fill_fraction valid im t s
    ∙ sym (append-nil (point_bytes (alpha_point f.fraction t.whole)))
    ∙ ap (λ (l : List ℕ). point_bytes (alpha_point f.fraction t.whole) ++ l) (sym (no_power f.exponential t kind))

-- a number in a fixed-point field
fixed_short : {m : Marks} → ValidMarks m → (f : Field) (t : Truncated) → f.exponential ≡ false
    → Short (field_image f) t (without_marks m (fill_bytes m (field_image f) t nothing_filled (field_bytes f)))
unfolding marked field_bytes short_bytes
fixed_short {m} valid f t kind =
    let im = field_image f in
    let behind = fraction_bytes f.fraction ++ up_bytes f.exponential in
    let hidden : Hidden valid im t (run_bytes f.runs) 0 (total f.runs) behind = fill_hidden valid im t (runs_body f.runs) 0 behind (omega arith) in
    record {
      count = hidden.count;
      digits = hidden.digits;
      all = sym (elements_before im t) ∙ hidden.all;
      some = hidden.some;
      left =
          marked_sign valid im t f.sign (run_bytes f.runs ++ behind)
          ∙ ap (λ (l : List ℕ). sign_bytes (alpha_sign f.sign t.negative) ++ l) hidden.shows
          ∙ ap (λ (l : List ℕ). sign_bytes (alpha_sign f.sign t.negative) ++ (digit_bytes hidden.digits ++ l)) (fixed_tail valid f t hidden.then_shown kind);
    }

-- Exponential fields.

module _ {m : Marks} (valid : ValidMarks m) where
  -- of the sign's text the sign stays
  marks_sign : (sign : Sign) (negative : Bool) (r : List ℕ)
      → without_marks m (with_decimal m (sign_text sign negative) ++ r) ≡ sign_bytes (alpha_sign sign negative) ++ without_marks m r
  unfolding sign_text alpha_sign sign_bytes
  marks_sign sign negative r = ap (λ (l : List ℕ). without_marks m (l ++ r)) (decimal_sign m sign negative) ∙ go sign
    where
      go : (s : Sign) → without_marks m (sign_text s negative ++ r) ≡ sign_bytes (alpha_sign s negative) ++ without_marks m r
      go Unsigned = refl
      go Plus = marks_plus valid negative r
      go Minus = marks_minus valid negative r

  -- the digits of a number stay
  marks_number : (n k : ℕ) (r : List ℕ) → without_marks m (with_decimal m (digit_bytes (digits_of n k)) ++ r) ≡ digit_bytes (digits_of n k) ++ without_marks m r
  marks_number n k r =
      ap (λ (l : List ℕ). without_marks m (l ++ r)) (decimal_digits m (digits_of n k))
      ∙ marks_digits valid (digits_of n k) (digits_are_digits n k) r

  -- the decimal mark becomes the point, and the digits behind it stay
  marks_fraction : (f whole : ℕ) (r : List ℕ)
      → without_marks m (with_decimal m (fraction_text f whole) ++ r) ≡ point_bytes (alpha_point f whole) ++ without_marks m r
  unfolding fraction_text alpha_point point_bytes with_decimal
  marks_fraction zero whole r = refl
  marks_fraction (suc f) whole r =
      keeps_decimal valid (with_decimal m (digit_bytes (digits_of (suc f) whole)) ++ r)
      ∙ ap (λ (l : List ℕ). point_byte ∷ l) (marks_number (suc f) whole r)

  -- digits alone stay
  marks_all : (ds : List ℕ) → Digits ds → without_marks m (digit_bytes ds) ≡ digit_bytes ds
  unfolding without_marks
  marks_all ds h = ap (without_marks m) (sym (append-nil (digit_bytes ds))) ∙ marks_digits valid ds h [] ∙ append-nil (digit_bytes ds)

  -- the exponent stays
  marks_exponent : (kind : Bool) (t : Truncated) → without_marks m (with_decimal m (exponent_text kind t)) ≡ power_bytes (alpha_power kind t)
  unfolding exponent_text alpha_power power_bytes without_marks
  marks_exponent kind t = ap (without_marks m) (decimal_exponent m kind t) ∙ go kind
    where
      go : (k : Bool) → without_marks m (exponent_text k t) ≡ power_bytes (alpha_power k t)
      go false = refl
      go true =
          let below = ltb t.x exponent_limit in
          let ds = digits_of 2 (exponent_size t) in
          keeps_exponent valid (pick below minus_byte plus_byte ∷ digit_bytes ds)
          ∙ ap (λ (l : List ℕ). exponent_byte ∷ l)
          (marks_plus valid below (digit_bytes ds) ∙ ap (λ (l : List ℕ). sign_bytes (pick below Minus Plus) ++ l) (marks_all ds (digits_are_digits 2 (exponent_size t))))

  -- an alpha text with the decimal mark, in its parts
  decimal_parts : (im : Image) (t : Truncated)
      → with_decimal m (alpha_text im t)
      ≡ with_decimal m (sign_text im.sign t.negative)
      ++ (with_decimal m (digit_bytes (digits_of im.integer (t.whole / 10 ^ im.fraction)))
      ++ (with_decimal m (fraction_text im.fraction t.whole) ++ with_decimal m (exponent_text im.exponential t)))
  unfolding alpha_text
  decimal_parts im t = simp (decimal_append m)

  -- an alpha text
  alpha_short : (im : Image) (t : Truncated) → Short im t (without_marks m (with_decimal m (alpha_text im t)))
  unfolding short_bytes zeros
  alpha_short im t =
      let front = t.whole / 10 ^ im.fraction in
      let ds = digits_of im.integer front in
      let sign = sign_bytes (alpha_sign im.sign t.negative) in
      let digits = with_decimal m (digit_bytes ds) in
      let fraction = with_decimal m (fraction_text im.fraction t.whole) in
      let power = with_decimal m (exponent_text im.exponential t) in
      record {
        count = 0;
        digits = ds;
        all = refl;
        some = λ h. omega (arith, digits_length im.integer front);
        left =
            ap (without_marks m) (decimal_parts im t)
            ∙ marks_sign im.sign t.negative (digits ++ (fraction ++ power))
            ∙ ap (λ (l : List ℕ). sign ++ l) (marks_number im.integer front (fraction ++ power))
            ∙ ap (λ (l : List ℕ). sign ++ (digit_bytes ds ++ l)) (marks_fraction im.fraction t.whole power)
            ∙ ap (λ (l : List ℕ). sign ++ (digit_bytes ds ++ (point_bytes (alpha_point im.fraction t.whole) ++ l))) (marks_exponent im.exponential t);
      }

-- Each field.

module _ {m : Marks} (valid : ValidMarks m) where
  -- the bytes of a number in a field
  bytes_short : (f : Field) (t : Truncated) → Short (field_image f) t (without_marks m (shown_marked m (field_bytes f) (field_image f) t))
  unfolding shown_marked
  bytes_short f t = go f.exponential refl
    where
      go : (b : Bool) → f.exponential ≡ b
          → Short (field_image f) t (without_marks m (pick b (with_decimal m (alpha_text (field_image f) t)) (fill_bytes m (field_image f) t nothing_filled (field_bytes f))))
      go true kind = alpha_short valid (field_image f) t
      go false kind = fixed_short valid f t kind

  -- Published: a number in a field, without its marks, is the alpha text without its blank and without some zeros before it.
  pub field_short : {field : List ℕ} {f : Field} → IsField field f → (t : Truncated)
      → Short (scanned_image field) t (without_marks m (shown_marked m field (scanned_image field) t))
  field_short {field} {f} r t =
      subst⁻¹ (λ (im : Image). Short im t (without_marks m (shown_marked m field im t))) (field_image_lem r)
      (subst⁻¹ (λ (l : List ℕ). Short (field_image f) t (without_marks m (shown_marked m l (field_image f) t))) r.rendered (bytes_short f t))

-- the truncation of a number in a field
pub record InField (m : Marks) (field : List ℕ) (n : Number) (bytes : List ℕ) : Type 0 where
  pub to : Truncated
  pub truncated : truncation 0 (scanned_image field) n ≡ done to
  pub bytes_are : bytes ≡ shown_marked m field (scanned_image field) to

-- a number that is not spilled has one
pub in_field : (m : Marks) (field : List ℕ) (n : Number) {bytes : List ℕ} → number_marked m field n ≡ done bytes → InField m field n bytes
unfolding number_marked ◌then◌
in_field m field n {bytes} h = go (truncation 0 (scanned_image field) n) refl h
  where
    go : (a : Answer Truncated) → truncation 0 (scanned_image field) n ≡ a
        → (a then λ t. done (shown_marked m field (scanned_image field) t)) ≡ done bytes → InField m field n bytes
    go (done t) e g = record { to = t; truncated = e; bytes_are = cc }
    go (refused number place) e g = let z : ◌≡◌ {A = ℕ} 0 1 = cc in absurd (omega arith)

-- Published: a number's print field not spilled reads back, under the marks that it was printed with, as the truncation.
pub field_back_marked : {m : Marks} → ValidMarks m → {field : List ℕ} {f : Field} → IsField field f → (n : Number) {bytes : List ℕ}
    → number_marked m field n ≡ done bytes → read_marked m bytes ≡ truncated_number 0 (scanned_image field) n
unfolding read_marked truncated_number ◌then◌
field_back_marked {m} valid {field} {f} r n {bytes} h =
    let in-it = in_field m field n h in
    ap (λ (l : List ℕ). convert_text (without_marks m l)) in-it.bytes_are
    ∙ short_back (field_short valid r in-it.to) n in-it.truncated
    ∙ sym (ap (λ (a : Answer Truncated). a then number_of 0 (scanned_image field)) in-it.truncated)

-- Published: so it does with document 01's marks.
pub field_back : {field : List ℕ} {f : Field} → IsField field f → (n : Number) {bytes : List ℕ} → number_in field n ≡ done bytes
    → read_field bytes ≡ truncated_number 0 (scanned_image field) n
field_back r n h = field_back_marked document_valid r n h

-- what a print field reads back as: it is a text number without its marks, its number is the truncation, in normal form, and prints the
-- same bytes
pub record FieldReadsBack (m : Marks) (field : List ℕ) (n : Number) (bytes : List ℕ) : Type 0 where
  pub parts : TextParts
  pub has_form : HasForm (without_marks m bytes) parts
  pub number : Number
  pub reads : read_marked m bytes ≡ done number
  pub stands_for : truncated_number 0 (scanned_image field) n ≡ done number
  pub is_normal : normal number ≡ true
  pub again : truncation 0 (scanned_image field) number ≡ truncation 0 (scanned_image field) n
  pub prints : number_marked m field number ≡ done bytes

-- Published: each print field not spilled is read back.
pub field_reads_back : {m : Marks} → ValidMarks m → {field : List ℕ} {f : Field} → IsField field f → (n : Number) {bytes : List ℕ}
    → number_marked m field n ≡ done bytes → FieldReadsBack m field n bytes
unfolding number_marked truncated_number ◌then◌
field_reads_back {m} valid {field} {f} r n {bytes} h =
    let im = scanned_image field in
    let in-it = in_field m field n h in
    let t = in-it.to in
    let e = in-it.truncated in
    let fit = truncation_fit 0 im n e in
    let itself = truncates_to_itself 0 im n e in
    let short = field_short valid r t in
    let value : truncated_number 0 im n ≡ done itself.number = ap (λ (a : Answer Truncated). a then number_of 0 im) e ∙ itself.stands_for in
    let same : truncation 0 im itself.number ≡ truncation 0 im n = itself.again ∙ sym e in
    record {
      parts = short_parts im t short.digits;
      has_form =
          subst⁻¹ (λ (l : List ℕ). HasForm (without_marks m l) (short_parts im t short.digits)) in-it.bytes_are
          (short_form short fit.nonempty fit.size);
      number = itself.number;
      reads = field_back_marked valid r n h ∙ value;
      stands_for = value;
      is_normal = itself.is_normal;
      again = same;
      prints = ap (λ (a : Answer Truncated). a then λ u. done (shown_marked m field im u)) same ∙ h;
    }
