-- Document 02, (i): reading a text number gives exactly the number of the longest beginning that has the form, and its length; converting a
-- whole text is reading it where the bytes used are the text's length; alpha text is read back using the whole text. Assumes nothing.
use Prim.Native.Nat.{ℕ, ◌+◌, ◌^◌, ◌<◌}
use mathlib.Core.Path.{◌≡◌, refl, ap, sym, subst, ◌∙◌}
use mathlib.Core.Logic.{◌↔◌, ◌⊎◌, inl, inr, ⊎_elim}
use mathlib.Core.Bool.{Bool, true, false}
use mathlib.Core.List.{List, [], ◌∷◌}
use native.Mathlib.Omega.{arith}
use borrow.Author.Tests.{eqb-true, eqb-false}
use lib.Dec.{eqb}
use lib.ListN.{length, take}
use Rattle.decimal.specs.declared.image.Image.{Image}
use Rattle.decimal.specs.declared.number.Number.{Number}
use Rattle.decimal.specs.Answer.{Answer, done, refused, ◌then◌}
use Rattle.decimal.specs.Digits.{precision, value_of}
use Rattle.decimal.specs.Number.{exponent_limit}
use Rattle.decimal.specs.Constructors.{ScaledExactly}
use Rattle.decimal.specs.Truncation.{Truncated}
use Rattle.decimal.proofs.AnswerLaws.{never, done_same, then_done}
use Rattle.decimal.proofs.BoolLaws.{zero_or_not}
use Rattle.decimal.proofs.PowerLaws.{pow10_mono}
use Rattle.decimal.proofs.DigitLaws.{value_below}
use Rattle.decimal.proofs.ConstructorTheorem.{scaled_exactly}
use Rattle.codec.specs.Alpha.{alpha_text}
use Rattle.codec.specs.Text.{NumeralParts, TextParts, Legal, HasForm, LongestForm, fraction_digits, all_digits_of, has_minus, power_value, text_value}
use Rattle.codec.specs.Text.{reading_in, legal_length, TextNumber, read_text, IsNumberOf, IsOutside, Beginning, ReadsAs, convert_text, WholeText, ReadWhole, read_texts}
use Rattle.codec.specs.Text as text
use Rattle.codec.proofs.TextLaws.{convert_whole, convert_other, reads_none, reads_number, reads_refused}
use Rattle.codec.proofs.FormLaws.{converts_form}
use Rattle.codec.proofs.LongestTheorem.{longest, longest_unique, beginning_converts}
use Rattle.codec.proofs.AlphaForm.{ReadBack}

-- The number of a text that has the form.

-- its digits are at most 13
form_fits : {u : NumeralParts} → Legal u → value_of (all_digits_of u) < 10 ^ precision
form_fits {u} legal = let few = legal.few in omega (arith, value_below (all_digits_of u) legal.digits, pow10_mono few)

-- each answer that its value has, exactly where it is due
abbrev Exactly : TextParts → Type 0
Exactly t =
    ScaledExactly 0 (has_minus t.sign) (value_of (all_digits_of t.numeral)) (power_value t.numeral.power)
    (exponent_limit + length (fraction_digits t.numeral.fraction))

exactly : (t : TextParts) → Exactly t
exactly t =
    scaled_exactly 0 (has_minus t.sign) (value_of (all_digits_of t.numeral)) (power_value t.numeral.power)
    (exponent_limit + length (fraction_digits t.numeral.fraction))

module _ {bytes : List ℕ} {t : TextParts} (form : HasForm bytes t) where
  -- the number with its magnitude is its value
  value_number : {n : Number} → IsNumberOf t n → text_value t ≡ done n
  unfolding text_value
  value_number {n} is = ((exactly t).number n).1 (form_fits form.legal, is)

  -- and 5 where e is outside its limits
  value_outside : IsOutside t → text_value t ≡ refused 5 0
  unfolding text_value
  value_outside is = (exactly t).five.1 (form_fits form.legal, is)

  -- there is no other answer
  value_one_of : ((n : Number) × IsNumberOf t n) ⊎ IsOutside t
  value_one_of =
      ⊎_elim
      (λ a. inl (a.0, (((exactly t).number a.0).0 a.1).1))
      (λ others.
      ⊎_elim (λ h. absurd (omega (arith, (exactly t).three.0 h, form_fits form.legal))) (λ h. inr ((exactly t).five.0 h).1) others)
      (exactly t).one_of

-- What is read, by the grammar.

module _ (bytes : List ℕ) where
  -- the longest beginning is read: its length
  pub beginning_size : {size : ℕ} {t : TextParts} → Beginning bytes size t → size ≡ legal_length bytes
  beginning_size b = longest_unique b.longest (longest bytes)

  -- and its value
  pub beginning_value : {size : ℕ} {t : TextParts} → Beginning bytes size t → (reading_in bytes).number ≡ text_value t
  beginning_value b =
      sym (beginning_converts bytes)
      ∙ ap (λ (n : ℕ). convert_text (take n bytes)) (sym (beginning_size b))
      ∙ converts_form b.form

  -- the answer that is due is given
  due_given : {answer : Answer TextNumber} → ReadsAs bytes answer → read_text bytes ≡ answer
  due_given (ReadsAs.none h) = reads_none bytes (longest_unique (longest bytes) h)
  due_given (ReadsAs.number b is) = reads_number bytes (beginning_size b) (beginning_value b ∙ value_number b.form is)
  due_given (ReadsAs.outside b is) = reads_refused bytes (beginning_value b ∙ value_outside b.form is)

  -- what the longest beginning is due
  beginning_due : {size : ℕ} {t : TextParts} → Beginning bytes size t → (answer : Answer TextNumber) × ReadsAs bytes answer
  beginning_due {size} {t} b =
      ⊎_elim
      (λ (a : (n : Number) × IsNumberOf t n). (done (record { number = a.0; used = size }), ReadsAs.number b a.1))
      (λ o. (refused 5 0, ReadsAs.outside b o))
      (value_one_of b.form)

  -- there is one, unless the legal length is 0
  pub some_beginning : (legal_length bytes ≡ 0 → ⊥) → (t : TextParts) × Beginning bytes (legal_length bytes) t
  some_beginning some =
      let form = (longest bytes).is some in
      (form.0, record { some = omega arith; longest = longest bytes; form = form.1 })

  -- some answer is due
  some_due : (answer : Answer TextNumber) × ReadsAs bytes answer
  some_due =
      ⊎_elim
      (λ (none : legal_length bytes ≡ 0). (refused 8 0, ReadsAs.none (subst (λ (n : ℕ). LongestForm bytes n) none (longest bytes))))
      (λ (some : legal_length bytes ≡ 0 → ⊥). beginning_due (some_beginning some).1)
      (zero_or_not (legal_length bytes))

  -- Published: reading gives exactly the answer that is due: the number of the longest beginning that has the form and its length, 8 where
  -- there is none, 5 where its e is outside its limits.
  pub reads_exactly : (answer : Answer TextNumber) → (read_text bytes ≡ answer) ↔ ReadsAs bytes answer
  reads_exactly answer =
      (λ h. subst (ReadsAs bytes) (sym (due_given some_due.1) ∙ h) some_due.1, λ due. due_given due)

  -- Converting.

  -- what is read as a number: its length, and the reading's number
  pub read_done : {r : TextNumber} → read_text bytes ≡ done r → (legal_length bytes ≡ r.used) × ((reading_in bytes).number ≡ done r.number)
  read_done {r} h = go (reading_in bytes).number refl
    where
      go : (a : Answer Number) → (reading_in bytes).number ≡ a → (legal_length bytes ≡ r.used) × ((reading_in bytes).number ≡ done r.number)
      go (done n) e =
          let same = done_same (sym (reads_number bytes {used = legal_length bytes} refl e) ∙ h) in
          (ap (λ (x : TextNumber). x.used) same, e ∙ ap (λ (x : TextNumber). done x.number) same)
      go (refused number place) e = never (reads_refused bytes e) h

  -- what is refused: the reading's number is
  read_refused : {number place : ℕ} → read_text bytes ≡ refused number place → (reading_in bytes).number ≡ refused number place
  read_refused {number} {place} h = go (reading_in bytes).number refl
    where
      same_refused : {a b : ℕ} → ◌≡◌ {A = Answer TextNumber} (refused a b) (refused number place) → ◌≡◌ {A = Answer Number} (refused a b) (refused number place)
      same_refused {a} {b} e = let first : a ≡ number = cc in let second : b ≡ place = cc in λ i. refused (first i) (second i)

      go : (a : Answer Number) → (reading_in bytes).number ≡ a → (reading_in bytes).number ≡ refused number place
      go (done n) e = never h (reads_number bytes {used = legal_length bytes} refl e)
      go (refused a b) e = e ∙ same_refused (sym (reads_refused bytes e) ∙ h)

  -- a number that a whole text is converted to is read, and uses all bytes
  converted_read : {n : Number} → convert_text bytes ≡ done n → read_text bytes ≡ done (record { number = n; used = length bytes })
  converted_read {n} h = go (eqb (legal_length bytes) (length bytes)) refl
    where
      go : (whole : Bool) → eqb (legal_length bytes) (length bytes) ≡ whole → read_text bytes ≡ done (record { number = n; used = length bytes })
      go true e =
          let all = eqb-true (legal_length bytes) (length bytes) e in
          reads_number bytes (sym all) (sym (convert_whole bytes all) ∙ h)
      go false e = never (convert_other bytes (eqb-false (legal_length bytes) (length bytes) e)) h

  -- Published: converting a whole text is reading it where the bytes used are the text's length, and 8 where they are not.
  pub whole_text : WholeText bytes
  whole_text =
      record {
        number = λ n. (converted_read, λ h. let r = read_done h in convert_whole bytes r.0 ∙ r.1);
        refuses =
            λ number place all.
            (λ h. reads_refused bytes (sym (convert_whole bytes all) ∙ h), λ h. convert_whole bytes all ∙ read_refused h);
        left_over = convert_other bytes;
      }

  -- Published: where bytes have the form at their front and no number is read, the refusal is 5.
  pub refused_five : (legal_length bytes ≡ 0 → ⊥) → {number place : ℕ} → (reading_in bytes).number ≡ refused number place → (number ≡ 5) × (place ≡ 0)
  refused_five some {number} {place} h =
      let b = (some_beginning some).1 in
      ⊎_elim
      (λ (a : (n : Number) × IsNumberOf (some_beginning some).0 n). never h (beginning_value b ∙ value_number b.form a.1))
      (λ o.
      let e : ◌≡◌ {A = Answer Number} (refused 5 0) (refused number place) = sym (beginning_value b ∙ value_outside b.form o) ∙ h in
      let first : number ≡ 5 = cc in
      let second : place ≡ 0 = cc in
      (first, second))
      (value_one_of b.form)

-- Texts that were written.

-- Published: texts that are read back are read using the whole of each.
pub texts_whole : (texts : List (List ℕ)) {ns : List Number} → read_texts texts ≡ done ns → ReadWhole texts ns
unfolding read_texts
texts_whole [] h = subst (ReadWhole []) (done_same h) text.none
texts_whole (t ∷ ts) h =
    let first = then_done (convert_text t) (λ n. read_texts ts then λ ns. done (n ∷ ns)) h in
    let rest = then_done (read_texts ts) (λ ns. done (first.value ∷ ns)) first.second in
    subst (ReadWhole (t ∷ ts)) (done_same rest.second) (text.more (converted_read t first.first) (texts_whole ts rest.first))

-- Published: an alpha text is read back using the whole of it.
pub alpha_whole : {im : Image} {t : Truncated} (b : ReadBack im t) → read_text (alpha_text im t) ≡ done (record { number = b.number; used = length (alpha_text im t) })
alpha_whole {im} {t} b = converted_read (alpha_text im t) b.converts
