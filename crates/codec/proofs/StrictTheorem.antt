-- Document 02, (v): the wider form is document 01's with blanks put in behind the sign; every text of document 01's form has it with the same
-- value, its legal length may only grow, and it grows only where it was 0; alpha texts have document 01's form; the numbers of a text that were
-- read are read as before; and the number does not depend on the blanks.
-- Assumes nothing.
use Prim.Native.Nat.{ℕ, suc, ◌+◌, ◌-◌, ◌<◌, ◌≤◌}
use mathlib.Core.Path.{◌≡◌, refl, ap, sym, ◌∙◌}
use mathlib.Core.Logic.{◌↔◌, ⊎_elim}
use mathlib.Core.List.{List, [], ◌∷◌, ◌++◌, append-nil, append_assoc}
use mathlib.Core.Bool.{Bool, true, false}
use native.Mathlib.Omega.{arith}
use borrow.Author.Tests.{eqb-true, eqb-false, eq-eqb}
use lib.Dec.{eqb}
use lib.ListN.{length, take, drop, length-append, length-drop, take-append-drop, drop_of_length-le}
use lib.Seq.{take-append_seam, drop-append_seam, drop-drop, length-take-le}
use Rattle.decimal.specs.declared.image.Sign.{Sign}
use Rattle.decimal.specs.declared.image.Sign.TheVariants.{Unsigned, Plus, Minus}
use Rattle.decimal.specs.declared.image.Image.{Image}
use Rattle.decimal.specs.declared.number.Number.{Number}
use Rattle.decimal.specs.Answer.{done, pick}
use Rattle.decimal.specs.Digits.{precision}
use Rattle.decimal.specs.Image.{hashes, sign_bytes, times}
use Rattle.decimal.specs.Truncation.{Truncated}
use Rattle.decimal.proofs.DigitLaws.{le_or_lt}
use Rattle.decimal.proofs.ImageLaws.{times_length}
use Rattle.codec.specs.declared.walking.Stop.{Stop}
use Rattle.codec.specs.declared.walking.Stop.TheVariants as gives
use Rattle.codec.specs.Lists.{max_columns}
use Rattle.codec.specs.Alpha.{blank_byte, alpha_text}
use Rattle.codec.specs.Text.{SignPart, no_sign, plus_sign, minus_sign, TextParts, HasForm, IsText, LongestOf, sign_part_bytes, numeral_bytes, text_bytes, numeral_value, has_minus, text_value}
use Rattle.codec.specs.Text.{sign_length, sign_part, parts_in, TextReading, reading_in, legal_length, convert_text}
use Rattle.codec.specs.Walking.{number_place, Walk, stopped, numbers_in, walking}
use Rattle.codec.specs.StrictText.{StrictForm, strict_value, Spaced, sign_blanks, strict_length, Widens, StrictCut, StrictWalk}
use Rattle.codec.proofs.PartLaws.{sign_alone, part_minus}
use Rattle.codec.proofs.FormLaws.{sign_front, form_some, converts_form}
use Rattle.codec.proofs.AlphaForm.{alpha_sign, alpha_parts, alpha_form}
use Rattle.codec.proofs.LongestTheorem.{longest, longest_unique, beginning_converts, empty_length}
use Rattle.codec.proofs.WalkLaws.{stop_end, behind, numbers_stop, numbers_number}
use Rattle.codec.proofs.WalkTheorem.{first_place}

-- A sign and the blanks behind it.

-- the sign alone
unfoldable bare_sign : SignPart → Sign
bare_sign no_sign = Unsigned
bare_sign (plus_sign blanks) = Plus
bare_sign (minus_sign blanks) = Minus

-- it and the blanks make the part
bare_again : (s : SignPart) → sign_part (bare_sign s) (sign_blanks s) ≡ s
unfolding sign_part bare_sign sign_blanks
bare_again no_sign = refl
bare_again (plus_sign blanks) = refl
bare_again (minus_sign blanks) = refl

-- where there is none there are no blanks
bare_blanks : (s : SignPart) → bare_sign s ≡ Unsigned → sign_blanks s ≡ 0
unfolding bare_sign sign_blanks
bare_blanks no_sign none = refl
bare_blanks (plus_sign blanks) none = absurd cc
bare_blanks (minus_sign blanks) none = absurd cc

-- the bytes of a sign with blanks behind it
spaced_bytes : (s : Sign) (n : ℕ) → (s ≡ Unsigned → n ≡ 0) → sign_part_bytes (sign_part s n) ≡ sign_bytes s ++ times n blank_byte
unfolding sign_part_bytes sign_part sign_bytes times
spaced_bytes Unsigned n h = ap (λ (k : ℕ). times k blank_byte) (sym (h refl))
spaced_bytes Plus n h = refl
spaced_bytes Minus n h = refl

-- The two forms.

-- the parts of a text of document 01's form
abbrev parts_of : {bytes : List ℕ} → StrictForm bytes → TextParts
parts_of f = record { before = f.before; sign = sign_part f.sign 0; numeral = f.numeral; behind = f.behind }

-- it has the form with these parts
widened : {bytes : List ℕ} (f : StrictForm bytes) → HasForm bytes (parts_of f)
unfolding text_bytes
widened f = record { legal = f.legal; written = rw (sign_alone f.sign) f.written }

-- and their value
same_value : {bytes : List ℕ} (f : StrictForm bytes) → text_value (parts_of f) ≡ strict_value f
unfolding text_value
same_value f = ap (λ (minus : Bool). numeral_value minus f.numeral) (part_minus f.sign 0)

-- the text of its parts without the blanks behind its sign
abbrev strict_bytes : TextParts → List ℕ
strict_bytes t = times t.before blank_byte ++ (sign_bytes (bare_sign t.sign) ++ (numeral_bytes t.numeral ++ times t.behind blank_byte))

-- has document 01's form
abbrev strict_of : {bytes : List ℕ} {t : TextParts} → HasForm bytes t → StrictForm (strict_bytes t)
strict_of {bytes} {t} form =
    record { before = t.before; sign = bare_sign t.sign; numeral = t.numeral; behind = t.behind; legal = form.legal; written = refl }

-- a text without blanks behind its sign has document 01's form
narrowed : {bytes : List ℕ} {t : TextParts} → HasForm bytes t → sign_blanks t.sign ≡ 0 → StrictForm bytes
unfolding text_bytes
narrowed {bytes} {t} form none =
    let alone : sign_part_bytes t.sign ≡ sign_bytes (bare_sign t.sign) =
    ap sign_part_bytes (sym (bare_again t.sign))
    ∙ ap (λ (n : ℕ). sign_part_bytes (sign_part (bare_sign t.sign) n)) none
    ∙ sign_alone (bare_sign t.sign) in
    record {
      before = t.before;
      sign = bare_sign t.sign;
      numeral = t.numeral;
      behind = t.behind;
      legal = form.legal;
      written =
          form.written
          ∙ ap (λ (l : List ℕ). times t.before blank_byte ++ (l ++ (numeral_bytes t.numeral ++ times t.behind blank_byte))) alone;
    }

-- Blanks put in.

module _ {text : List ℕ} (f : StrictForm text) where
  -- the text up to its sign, and behind it
  abbrev front_of : List ℕ
  front_of = times f.before blank_byte ++ sign_bytes f.sign

  abbrev rest_of : List ℕ
  rest_of = numeral_bytes f.numeral ++ times f.behind blank_byte

  -- the place behind the sign
  abbrev place_of : ℕ
  place_of = f.before + sign_length f.sign

  -- it parts the text there
  parted_there : text ≡ front_of ++ rest_of
  parted_there = f.written ∙ sym (append_assoc (times f.before blank_byte) (sign_bytes f.sign) rest_of)

  place_there : place_of ≡ length front_of
  place_there = omega (arith, length-append (times f.before blank_byte) (sign_bytes f.sign), times_length f.before blank_byte)

  -- with blanks put in there it is the text of these parts
  put_in_there : (n : ℕ)
      → (f.sign ≡ Unsigned → n ≡ 0)
      → take place_of text ++ (times n blank_byte ++ drop place_of text)
      ≡ text_bytes (record { before = f.before; sign = sign_part f.sign n; numeral = f.numeral; behind = f.behind })
  unfolding text_bytes
  put_in_there n signed =
      (λ i. take (place_there i) (parted_there i) ++ (times n blank_byte ++ drop (place_there i) (parted_there i)))
      ∙ (λ i. take-append_seam front_of rest_of i ++ (times n blank_byte ++ drop-append_seam front_of rest_of i))
      ∙ append_assoc (times f.before blank_byte) (sign_bytes f.sign) (times n blank_byte ++ rest_of)
      ∙ ap (λ (l : List ℕ). times f.before blank_byte ++ l) (sym (append_assoc (sign_bytes f.sign) (times n blank_byte) rest_of))
      ∙ ap (λ (l : List ℕ). times f.before blank_byte ++ (l ++ rest_of)) (sym (spaced_bytes f.sign n signed))

-- the parts of a text with blanks put in
abbrev spaced_parts : {bytes : List ℕ} → Spaced bytes → TextParts
spaced_parts s = record { before = s.form.before; sign = sign_part s.form.sign s.blanks; numeral = s.form.numeral; behind = s.form.behind }

-- it has the form with them
spaced_form : {bytes : List ℕ} (s : Spaced bytes) → HasForm bytes (spaced_parts s)
spaced_form s = record { legal = s.form.legal; written = s.put_in ∙ put_in_there s.form s.blanks s.signed }

-- Published: the wider form is document 01's with blanks put in right behind the sign, and no other.
pub spaced_exactly : (bytes : List ℕ) → IsText bytes ↔ Spaced bytes
unfolding text_bytes
spaced_exactly bytes = (to, from)
  where
    to : IsText bytes → Spaced bytes
    to (t, form) =
        let f : StrictForm (strict_bytes t) = strict_of form in
        let signed = bare_blanks t.sign in
        record {
          text = strict_bytes t;
          form = f;
          blanks = sign_blanks t.sign;
          signed = signed;
          put_in =
              form.written
              ∙ ap (λ (s : SignPart). text_bytes (record { before = t.before; sign = s; numeral = t.numeral; behind = t.behind }))
              (sym (bare_again t.sign))
              ∙ sym (put_in_there f (sign_blanks t.sign) signed);
        }

    from : Spaced bytes → IsText bytes
    from s = (spaced_parts s, spaced_form s)

-- The longest beginning.

-- the sign that is read of bytes that begin with a text is the text's
front_sign : {t : TextParts} {front : List ℕ} → HasForm front t → (r : List ℕ) → (parts_in (front ++ r)).sign ≡ t.sign
front_sign {t} {front} form r = ap (λ (l : List ℕ). (parts_in (l ++ r)).sign) form.written ∙ sign_front t form.legal r

-- no blanks stand behind the sign of document 01's form
no_blanks : (s : Sign) → sign_blanks (sign_part s 0) ≡ 0
unfolding sign_blanks sign_part
no_blanks Unsigned = refl
no_blanks Plus = refl
no_blanks Minus = refl

module _ (bytes : List ℕ) where
  -- none are read where a beginning has it
  none_read : (n : ℕ) → StrictForm (take n bytes) → sign_blanks (parts_in bytes).sign ≡ 0
  none_read n f =
      ap (λ (l : List ℕ). sign_blanks (parts_in l).sign) (sym (take-append-drop n bytes))
      ∙ ap sign_blanks (front_sign (widened f) (drop n bytes))
      ∙ no_blanks f.sign

  -- no beginning of document 01's form is longer than the legal length
  strict_grows : (n : ℕ) → n ≤ length bytes → StrictForm (take n bytes) → n ≤ legal_length bytes
  strict_grows n inside f = (longest bytes).longest n inside (parts_of f, widened f)

  -- the longest beginning of document 01's form
  strict_longest : LongestOf StrictForm bytes (strict_length bytes)
  unfolding strict_length
  strict_longest = go (eqb (sign_blanks (parts_in bytes).sign) 0) refl
    where
      -- the sign of the longest beginning is the one that is read
      read_sign : (some : legal_length bytes ≡ 0 → ⊥) → ((longest bytes).is some).0.sign ≡ (parts_in bytes).sign
      read_sign some =
          let text = (longest bytes).is some in
          sym (front_sign text.1 (drop (legal_length bytes) bytes))
          ∙ ap (λ (l : List ℕ). (parts_in l).sign) (take-append-drop (legal_length bytes) bytes)

      go : (b : Bool) → eqb (sign_blanks (parts_in bytes).sign) 0 ≡ b → LongestOf StrictForm bytes (pick b (legal_length bytes) 0)
      go true e =
          record {
            inside = (longest bytes).inside;
            is = λ some. narrowed ((longest bytes).is some).1 (ap sign_blanks (read_sign some) ∙ eqb-true (sign_blanks (parts_in bytes).sign) 0 e);
            longest = strict_grows;
          }
      go false e =
          record {
            inside = omega arith;
            is = λ some. absurd (some refl);
            longest = λ n inside f. absurd (eqb-false (sign_blanks (parts_in bytes).sign) 0 e (none_read n f));
          }

  module _ {size : ℕ} (strict : LongestOf StrictForm bytes size) (some : size ≡ 0 → ⊥) where
    -- where there is one, it is as long as the legal length
    strict_length_lem : legal_length bytes ≡ size
    unfolding strict_length
    strict_length_lem =
        let none = none_read size (strict.is some) in
        ap (λ (b : Bool). pick b (legal_length bytes) 0) (sym (eq-eqb (sign_blanks (parts_in bytes).sign) 0 none)) ∙ longest_unique strict_longest strict

    -- and it is read
    strict_reads : reading_in bytes ≡ record { used = size; number = strict_value (strict.is some) }
    strict_reads =
        let f = strict.is some in
        let number : (reading_in bytes).number ≡ strict_value f =
        sym (beginning_converts bytes)
        ∙ ap (λ (n : ℕ). convert_text (take n bytes)) strict_length_lem
        ∙ converts_form (widened f)
        ∙ same_value f in
        λ i. record { used = strict_length_lem i; number = number i }

-- Published: what the wider form leaves as it was.
pub widens : (bytes : List ℕ) → Widens bytes
widens bytes =
    record {
      has_form = λ f. (parts_of f, (widened f, same_value f));
      converts = λ f. converts_form (widened f) ∙ same_value f;
      grows = strict_grows bytes;
      strict = strict_longest bytes;
      reads = λ longest some. strict_reads bytes longest some;
    }

-- Texts that we write.

-- Published: alpha texts have document 01's form, as before.
pub alpha_strict : (im : Image) (t : Truncated) → 0 < hashes im → hashes im ≤ precision → StrictForm (alpha_text im t)
unfolding alpha_parts
alpha_strict im t some few = narrowed (alpha_form im t some few) (no_blanks (alpha_sign im.sign t.negative))

-- Texts of numbers.

-- numbers that bytes begin with are read, and then what is behind them
strict_numbers :
    {bytes : List ℕ} {ns : List Number} {size : ℕ}
    → StrictCut bytes ns size
    → (left index place : ℕ)
    → numbers_in (length ns + left) index place bytes ≡ behind ns (numbers_in left (index + length ns) (place + size) (drop size bytes))
unfolding behind
strict_numbers (StrictCut.none {bytes}) left index place =
    let room : 0 + left ≡ left = omega arith in
    let same : index ≡ index + 0 = omega arith in
    let there : place ≡ place + 0 = omega arith in
    ap (λ (k : ℕ). numbers_in k index place bytes) room ∙ (λ i. numbers_in left (same i) (there i) bytes)
strict_numbers (StrictCut.more {bytes} {size} {rest} {n} {ns} first some value others) left index place =
    let reads = strict_reads bytes first some in
    let used : legal_length bytes ≡ size = ap (λ (r : TextReading). r.used) reads in
    let all : length (n ∷ ns) + left ≡ suc (length ns + left) = omega arith in
    let next : suc index + length ns ≡ index + length (n ∷ ns) = omega arith in
    let there : place + size + rest ≡ place + (size + rest) = omega arith in
    ap (λ (k : ℕ). numbers_in k index place bytes) all
    ∙ numbers_number index place bytes (length ns + left) (λ e. some (sym used ∙ e)) (ap (λ (r : TextReading). r.number) reads ∙ value)
    ∙ ap (λ (k : ℕ). behind (n ∷ []) (numbers_in (length ns + left) (suc index) (place + k) (drop k bytes))) used
    ∙ ap (behind (n ∷ [])) (strict_numbers others left (suc index) (place + size))
    ∙ (λ i. behind (n ∷ ns) (numbers_in left (next i) (there i) (drop-drop rest size bytes i)))

module _ (text : List ℕ) (from : ℕ) where
  -- what is left of the text
  abbrev ahead : List ℕ
  ahead = drop from text

  module _ {ns : List Number} {size : ℕ} (cut : StrictCut ahead ns size) (few : length ns ≤ max_columns) where
    -- reading behind the numbers
    abbrev going_on : Walk
    going_on = numbers_in (max_columns - length ns) (length ns) (from + size) (drop size ahead)

    first_read : walking text from ≡ behind ns going_on
    unfolding walking
    first_read =
        let all : max_columns ≡ length ns + (max_columns - length ns) = omega arith in
        let next : 0 + length ns ≡ length ns = omega arith in
        ap (λ (k : ℕ). numbers_in k 0 from ahead) all
        ∙ strict_numbers cut (max_columns - length ns) 0 from
        ∙ ap (λ (k : ℕ). behind ns (numbers_in (max_columns - length ns) k (from + size) (drop size ahead))) next

  -- nothing is left behind the last byte
  whole_read : {ns : List Number} → StrictCut ahead ns (length ahead) → length ns ≤ max_columns
      → walking text from ≡ record { answer = done gives.End; numbers = ns; place = from + length ahead }
  unfolding behind stopped
  whole_read {ns} cut few =
      let none = drop_of_length-le ahead {i = length ahead} (omega arith) in
      let stop = numbers_stop (length ns) (from + length ahead) [] (max_columns - length ns) empty_length in
      first_read cut few
      ∙ ap (λ (l : List ℕ). behind ns (numbers_in (max_columns - length ns) (length ns) (from + length ahead) l)) none
      ∙ ap (behind ns) (stop ∙ ap (λ (a : Stop). stopped (done a) (from + length ahead)) (sym (stop_end [] 0 (omega arith))))
      ∙ (λ i. record { answer = done gives.End; numbers = append-nil ns i; place = from + length ahead })

  -- where document 01's form begins, a text number does
  strict_begins : (place size : ℕ) → place + size ≤ length text → StrictForm (take size (drop place text)) → 0 < legal_length (drop place text)
  strict_begins place size inside f =
      let bytes = drop place text in
      let room : size ≤ length bytes = omega (arith, length-drop place text) in
      omega (arith, strict_grows bytes size room f, form_some (widened f), length-take-le size bytes room)

-- Published: what becomes of the numbers that document 01's form gave: they are the first that are read; a text that was read to its end is
-- read as before; skipping goes no further than to the first of them.
pub strict_walk : (text : List ℕ) (from : ℕ) → StrictWalk text from
unfolding behind
strict_walk text from =
    record {
      first = λ cut few. first_read text from cut few;
      whole = λ cut few. whole_read text from cut few;
      places =
          λ place size low inside f.
          ⊎_elim
          (λ (h : number_place text from ≤ place). h)
          (λ (h : place < number_place text from).
          absurd (omega (arith, strict_begins text from place size inside f, (first_place text from).none_before place low h)))
          (le_or_lt (number_place text from) place);
    }

-- The blanks.

-- Published: the number of a text does not depend on its blanks.
pub blanks_apart :
    {bytes others : List ℕ} {t u : TextParts}
    → HasForm bytes t
    → HasForm others u
    → has_minus t.sign ≡ has_minus u.sign
    → t.numeral ≡ u.numeral
    → convert_text bytes ≡ convert_text others
unfolding text_value
blanks_apart a b minus numeral =
    converts_form a ∙ (λ i. numeral_value (minus i) (numeral i)) ∙ sym (converts_form b)

-- Published: a text with blanks put in behind its sign has the value of the text without.
pub spaced_value : {bytes : List ℕ} (s : Spaced bytes) → convert_text bytes ≡ strict_value s.form
unfolding text_value
spaced_value s =
    converts_form (spaced_form s) ∙ ap (λ (minus : Bool). numeral_value minus s.form.numeral) (part_minus s.form.sign s.blanks)
