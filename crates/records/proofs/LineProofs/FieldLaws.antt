-- Laws of fields that are filled: the bytes written one by one, the # signs of a field, and the length of what an element prints.
-- Assumes nothing.
use Prim.Native.Nat.{ℕ, zero, suc, ◌+◌, ◌<◌, ◌≤◌}
use native.Mathlib.Omega.{arith}
use native.Mathlib.Numerals.{add-one}
use mathlib.Core.Path.{◌≡◌, refl, ap, ap₂, sym, ◌∙◌}
use mathlib.Core.List.{List, [], ◌∷◌, ◌++◌, append-nil}
use mathlib.Core.Logic.{⊎_elim}
use mathlib.Core.Bool.{Bool, true, false}
use lib.Dec.{eqb}
use lib.ListN.{length, take, drop, get_or, set, drop_of_length-le}
use lib.Seq.{drop-cons, take_all}
use Rattle.std.proofs.lemmas.List.{drop-set-lt}
use borrow.Author.Tests.{eq-eqb, le-ltb, lt-leb}
use Rattle.decimal.specs.declared.image.Sign.{Sign}
use Rattle.decimal.specs.declared.image.Sign.TheVariants.{Unsigned, Plus, Minus}
use Rattle.decimal.specs.declared.image.Image.{Image}
use Rattle.decimal.specs.declared.number.Number.{Number}
use Rattle.decimal.specs.declared.refusal.Refusal.{Refusal}
use Rattle.std.specs.Prelude.{Result, Ok, Err, is_err}
use Rattle.decimal.specs.Answer.{Answer, done, refused, meaning, ◌then◌, pick}
use Rattle.decimal.specs.Digits.{digits_of}
use Rattle.decimal.specs.Number.{normal}
use Rattle.decimal.specs.Image.{plus_byte, minus_byte, hash_byte, comma_byte, hashes, sign_of, times, sign_bytes, fraction_bytes, up_bytes, image_bytes, scanned_image, IsImage}
use Rattle.decimal.specs.Truncation.{Truncated, truncation}
use Rattle.decimal.proofs.DigitLaws.{digit_below, digits_are_digits, le_or_lt}
use Rattle.codec.specs.Alpha.{sign_shown, alpha_text, text_length, blank_byte}
use Rattle.codec.specs.Answers.{within, sized, stored_in}
use Rattle.codec.specs.Lists.{filled}
use Rattle.codec.proofs.ListLaws.{filled_length}
use lib.ListN.{replicate}
use Rattle.decimal.proofs.AnswerLaws.{never_done}
use Rattle.codec.proofs.AlphaLaws.{text_length_lem, image_length}
use Rattle.records.specs.declared.lines.fields.Fill.{Fill}
use Rattle.records.specs.declared.lines.fields.Element.{Element}
use Rattle.records.specs.declared.lines.fields.Element.TheVariants as element
use Rattle.records.specs.Lines.Scanning.{Field, run_bytes, field_bytes, total, IsField}
use Rattle.records.specs.declared.lines.marks.Marks.{Marks}
use Rattle.records.specs.Lines.Marks.{document_marks, with_decimal}
use Rattle.records.specs.Lines.Fields.{next_digit, sign_byte_of, fill_byte, fill_next, fill_bytes, nothing_filled, shown_marked, number_marked, or_field, spilled_by}
use Rattle.records.specs.Lines.Fields.{text_in, element_bytes, FieldImage, hash_count, point_marked}
use Rattle.records.specs.Lines.Printing.{check_element}
use Rattle.records.proofs.LineProofs.FieldTheorem.{field_image_lem}
use Rattle.records.proofs.WritingLaws.{stored_behind}
use Rattle.records.proofs.LineProofs.MarkLaws.{decimal_length, point_marked_lem}

-- A text cut or filled with blanks.

-- behind no element every place has the default
filled_none : (d n : ℕ) → replicate n d ≡ filled n d []
unfolding filled
filled_none d zero = refl
filled_none d (suc n) = ap (λ (l : List ℕ). d ∷ l) (filled_none d n)

-- the first elements, and the default in every place behind them if there are no others
pub filled_parts : (d n : ℕ) (xs : List ℕ) (k m : ℕ) → k + m ≡ n → k ≤ length xs → (0 < m → length xs ≤ k) → take k xs ++ replicate m d ≡ filled n d xs
unfolding filled
filled_parts d n [] zero m e h o = let same : m ≡ n = omega arith in ap (λ (i : ℕ). replicate i d) same ∙ filled_none d n
filled_parts d zero (x ∷ xs) zero zero e h o = refl
filled_parts d (suc n) (x ∷ xs) zero zero e h o = absurd (omega arith)
filled_parts d n (x ∷ xs) zero (suc m) e h o = absurd (omega (arith, o (omega arith)))
filled_parts d n [] (suc k) m e h o = absurd (omega arith)
filled_parts d zero (x ∷ xs) (suc k) m e h o = absurd (omega arith)
filled_parts d (suc n) (x ∷ xs) (suc k) m e h o =
    ap (λ (l : List ℕ). x ∷ l) (filled_parts d n xs k m (omega arith) (omega arith) (λ some. omega (arith, o some)))

-- Digits.

-- a digit is below ten
pub next_digit_below : (im : Image) (t : Truncated) (fill : Fill) → next_digit im t fill < 10
next_digit_below im t fill = digit_below (digits_of (hashes im) t.whole) (digits_are_digits (hashes im) t.whole) fill.used

-- Filling.

-- a filled field keeps its length
pub fill_length : (m : Marks) (im : Image) (t : Truncated) (fill : Fill) (bs : List ℕ) → length (fill_bytes m im t fill bs) ≡ length bs
unfolding fill_bytes
fill_length m im t fill [] = refl
fill_length m im t fill (b ∷ bs) = ap suc (fill_length m im t (fill_next im t fill b) bs)

-- a field is filled up to a byte: the filled bytes, and those that are still to come, make the whole, and there are digits left for it
pub record Filling (m : Marks) (im : Image) (t : Truncated) (whole now : List ℕ) (fill : Fill) (j : ℕ) : Type 0 where
  pub made : take j now ++ fill_bytes m im t fill (drop j now) ≡ whole
  pub left : fill.used + hash_count (drop j now) ≤ hashes im

-- the # signs from a byte on
count_cons : (field : List ℕ) (j : ℕ) → j < length field
    → hash_count (drop j field) ≡ pick (eqb (get_or field j 0) hash_byte) 1 0 + hash_count (drop (suc j) field)
unfolding hash_count
count_cons field j h = ap hash_count (drop-cons field j 0 h)

-- a part of one of two
picked_used : (c : Bool) (x y : Fill) → (pick {A = Fill} c x y).used ≡ pick c x.used y.used
picked_used true x y = refl
picked_used false x y = refl

-- one digit more for a #
picked_more : (c : Bool) (n : ℕ) → pick c (n + 1) n ≡ n + pick c 1 0
picked_more true n = refl
picked_more false n = omega arith

-- the digits used behind a byte
used_next : (im : Image) (t : Truncated) (fill : Fill) (b : ℕ) → (fill_next im t fill b).used ≡ fill.used + pick (eqb b hash_byte) 1 0
unfolding fill_next
used_next im t fill b = picked_used (eqb b hash_byte) _ _ ∙ picked_more (eqb b hash_byte) fill.used

module _ {m : Marks} {im : Image} {t : Truncated} {whole now : List ℕ} {fill : Fill} {j : ℕ} (f : Filling m im t whole now fill j) where
  -- a digit is left for a #
  pub filling_hash : j < length now → get_or now j 0 ≡ hash_byte → fill.used < hashes im
  filling_hash h e =
      let one : ◌≡◌ {A = ℕ} (pick (eqb (get_or now j 0) hash_byte) 1 0) 1 = rw (eq-eqb (get_or now j 0) hash_byte e) in
      omega (arith, f.left, count_cons now j h)

  -- one byte more
  pub filling_turns : j < length now → {next : Fill} {b : ℕ} → next ≡ fill_next im t fill (get_or now j 0) → b ≡ fill_byte m im t fill (get_or now j 0)
      → Filling m im t whole (set now j b) next (j + 1)
  unfolding fill_bytes
  filling_turns h {next} {b} n e =
      let byte = get_or now j 0 in
      let rest : drop (j + 1) (set now j b) ≡ drop (suc j) now = drop-set-lt (j + 1) now j b (omega arith) ∙ ap (λ (k : ℕ). drop k now) (add-one j) in
      record {
        made =
            ap₂ (λ (f : Fill) (l : List ℕ). take (j + 1) (set now j b) ++ fill_bytes m im t f l) n rest
            ∙ sym (stored_behind now j b (fill_bytes m im t (fill_next im t fill byte) (drop (suc j) now)) h)
            ∙ ap (λ (x : ℕ). take j now ++ x ∷ fill_bytes m im t (fill_next im t fill byte) (drop (suc j) now)) e
            ∙ ap (λ (l : List ℕ). take j now ++ fill_bytes m im t fill l) (sym (drop-cons now j 0 h))
            ∙ f.made;
        left = omega (arith, f.left, count_cons now j h, ap (λ (x : Fill). x.used) n, used_next im t fill byte, ap hash_count rest);
      }

  -- all bytes
  pub filling_ends : length now ≤ j → now ≡ whole
  unfolding fill_bytes
  filling_ends h =
      sym (append-nil now)
      ∙ ap₂ (λ (l r : List ℕ). l ++ fill_bytes m im t fill r) (sym (take_all j now h)) (sym (drop_of_length-le now {i = j} h))
      ∙ f.made

-- The # signs of a field.

-- in two parts
pub count_append : (xs ys : List ℕ) → hash_count (xs ++ ys) ≡ hash_count xs + hash_count ys
unfolding hash_count
count_append [] ys = omega arith
count_append (b ∷ xs) ys = omega (arith, count_append xs ys)

-- n # signs
count_hashes : (n : ℕ) → hash_count (times n hash_byte) ≡ n
unfolding hash_count times
count_hashes zero = refl
count_hashes (suc n) = omega (arith, count_hashes n)

-- a sign has none
count_sign : (s : Sign) → hash_count (sign_bytes s) ≡ 0
unfolding hash_count sign_bytes
count_sign Unsigned = refl
count_sign Plus = refl
count_sign Minus = refl

-- those of the runs
count_runs : (ns : List ℕ) → hash_count (run_bytes ns) ≡ total ns
unfolding hash_count run_bytes total
count_runs [] = refl
count_runs (n ∷ []) = omega (arith, count_hashes n)
count_runs (n ∷ (m ∷ ns)) =
    omega (arith, count_append (times n hash_byte) (comma_byte ∷ run_bytes (m ∷ ns)), count_hashes n, count_runs (m ∷ ns))

-- those behind the point
count_fraction : (n : ℕ) → hash_count (fraction_bytes n) ≡ n
unfolding hash_count fraction_bytes
count_fraction zero = refl
count_fraction (suc n) = omega (arith, count_hashes (suc n))

-- the 5E bytes have none
count_ups : (e : Bool) → hash_count (up_bytes e) ≡ 0
unfolding hash_count up_bytes times
count_ups true = refl
count_ups false = refl

-- those of a field's bytes
count_field : (f : Field) → hash_count (field_bytes f) ≡ total f.runs + f.fraction
unfolding field_bytes
count_field f =
    let runs = run_bytes f.runs in
    let behind = fraction_bytes f.fraction in
    let ups = up_bytes f.exponential in
    omega (
      arith,
      count_append (sign_bytes f.sign) (runs ++ (behind ++ ups)),
      count_append runs (behind ++ ups),
      count_append behind ups,
      count_sign f.sign,
      count_runs f.runs,
      count_fraction f.fraction,
      count_ups f.exponential,
    )

-- a field has as many # signs as the machine reads
pub hash_count_lem : {field : List ℕ} {f : Field} → IsField field f → hash_count field ≡ hashes (scanned_image field)
hash_count_lem {field} {f} is = ap hash_count is.rendered ∙ count_field f ∙ sym (ap hashes (field_image_lem is))

-- An exponential field is an image.

-- one run at most is that many # signs
run_hashes : (ns : List ℕ) → length ns ≤ 1 → run_bytes ns ≡ times (total ns) hash_byte
unfolding run_bytes total times
run_hashes [] h = refl
run_hashes (n ∷ []) h = let same : n ≡ n + 0 = omega arith in ap (λ (k : ℕ). times k hash_byte) same
run_hashes (n ∷ (m ∷ ns)) h = absurd (omega arith)

-- it is the image that the machine reads
pub exponential_image : {field : List ℕ} {f : Field} → IsField field f → (scanned_image field).exponential ≡ true → IsImage field (scanned_image field)
unfolding image_bytes field_bytes
exponential_image {field} {f} is e =
    let same = field_image_lem is in
    let kind : f.exponential ≡ true = sym (ap (λ (im : Image). im.exponential) same) ∙ e in
    let tail = fraction_bytes f.fraction ++ up_bytes f.exponential in
    record {
      rendered =
          is.rendered
          ∙ ap (λ (l : List ℕ). sign_bytes f.sign ++ (l ++ tail)) (run_hashes f.runs (is.plain kind))
          ∙ sym (ap image_bytes same);
      nonempty = omega (arith, is.nonempty, ap hashes same);
    }

-- What a number prints, by its truncation.

module _ (m : Marks) (field : List ℕ) (n : Number) where
  -- a number that is refused prints the field
  pub number_refused : {number place : ℕ} → truncation 0 (scanned_image field) n ≡ refused number place → or_field field (number_marked m field n) ≡ field
  unfolding number_marked ◌then◌ or_field
  number_refused h =
      ap (λ (a : Answer Truncated). or_field field (a then λ t. done (shown_marked m field (scanned_image field) t))) h

  -- any other is shown
  pub number_shown : {t : Truncated} → truncation 0 (scanned_image field) n ≡ done t → or_field field (number_marked m field n) ≡ shown_marked m field (scanned_image field) t
  unfolding number_marked ◌then◌ or_field
  number_shown h =
      ap (λ (a : Answer Truncated). or_field field (a then λ t. done (shown_marked m field (scanned_image field) t))) h

  -- a number that is refused is spilled
  pub number_spilled : {number place : ℕ} → truncation 0 (scanned_image field) n ≡ refused number place → spilled_by (number_marked m field n) ≡ 1
  unfolding number_marked ◌then◌ spilled_by
  number_spilled h =
      ap (λ (a : Answer Truncated). spilled_by (a then λ t. done (shown_marked m field (scanned_image field) t))) h

  -- any other is not
  pub number_kept : {t : Truncated} → truncation 0 (scanned_image field) n ≡ done t → spilled_by (number_marked m field n) ≡ 0
  unfolding number_marked ◌then◌ spilled_by
  number_kept h =
      ap (λ (a : Answer Truncated). spilled_by (a then λ t. done (shown_marked m field (scanned_image field) t))) h

-- what is written is not refused
pub written_kept : (r : Result (Unit {0}) Refusal) → meaning r ≡ done tt → is_err r ≡ false
written_kept (Ok x) h = refl
written_kept (Err e) h = never_done h

-- What is shown of a truncated number in a field, by the image of the field's bytes.

-- in fixed point the field is filled
pub shown_fixed : (m : Marks) (field : List ℕ) (im : Image) (t : Truncated) → im.exponential ≡ false
    → shown_marked m field im t ≡ fill_bytes m im t nothing_filled field
unfolding shown_marked
shown_fixed m field im t e = rw e

module _ {field : List ℕ} {im : Image} (f : FieldImage field im) (e : im.exponential ≡ true) where
  -- in exponential form a text has the field's length
  pub exponential_length : text_length im ≡ length field
  exponential_length =
      let image = exponential_image f.ready.is_field (sym (ap (λ (i : Image). i.exponential) f.read) ∙ e) in
      ap text_length f.read ∙ sym (ap length image.rendered ∙ image_length (scanned_image field))

  -- so that it is written
  alpha_fits : (t : Truncated) → within (length field) (alpha_text im t) ≡ done (alpha_text im t)
  unfolding within
  alpha_fits t = rw (le-ltb (length field) (length (alpha_text im t)) (omega (arith, text_length_lem im t, exponential_length)))

  pub alpha_given : (t : Truncated) → {B : Type 0} {number place : ℕ} → refused number place ≡ sized (within (length field) (alpha_text im t)) → B
  unfolding sized
  alpha_given t h = never_done (h ∙ ap sized (alpha_fits t))

  module _ (t : Truncated) {text : List ℕ} (w : text ≡ stored_in (within (length field) (alpha_text im t)) field) where
    alpha_written : text ≡ alpha_text im t
    unfolding stored_in
    alpha_written =
        w
        ∙ ap (λ (a : Answer (List ℕ)). stored_in a field) (alpha_fits t)
        ∙ ap (λ (rest : List ℕ). alpha_text im t ++ rest) (drop_of_length-le field (omega (arith, text_length_lem im t, exponential_length)))
        ∙ append-nil (alpha_text im t)

    -- and has its length
    pub alpha_long : length text ≡ text_length im
    alpha_long = ap length alpha_written ∙ text_length_lem im t

    -- with its point marked it is what is shown
    pub alpha_marked : (m : Marks) {after : List ℕ} → after ≡ point_marked m im text → after ≡ shown_marked m field im t
    unfolding shown_marked
    alpha_marked m h = h ∙ ap (point_marked m im) alpha_written ∙ point_marked_lem m im t ∙ rw e

-- What a number prints.

-- its text, or the filled field
shown_length : (m : Marks) {field : List ℕ} {f : Field} → IsField field f → (t : Truncated) → length (shown_marked m field (scanned_image field) t) ≡ length field
unfolding shown_marked
shown_length m {field} is t = go (scanned_image field).exponential refl
  where
    go : (e : Bool) → (scanned_image field).exponential ≡ e
        → length (pick e (with_decimal m (alpha_text (scanned_image field) t)) (fill_bytes m (scanned_image field) t nothing_filled field)) ≡ length field
    go true e =
        decimal_length m (alpha_text (scanned_image field) t)
        ∙ text_length_lem (scanned_image field) t
        ∙ sym (ap length (exponential_image is e).rendered ∙ image_length (scanned_image field))
    go false e = fill_length m (scanned_image field) t nothing_filled field

-- its length
number_length : (m : Marks) {field : List ℕ} {f : Field} → IsField field f → (n : Number) → length (or_field field (number_marked m field n)) ≡ length field
unfolding number_marked ◌then◌ or_field
number_length m {field} is n = go (truncation 0 (scanned_image field) n)
  where
    go : (a : Answer Truncated) → length (or_field field (a then λ t. done (shown_marked m field (scanned_image field) t))) ≡ length field
    go (done t) = shown_length m is t
    go (refused number place) = refl

-- Published: an element prints as many bytes as the field has.
pub element_length : {field : List ℕ} {f : Field} → IsField field f → (texts : List ℕ) (e : Element) → length (element_bytes texts field e) ≡ length field
unfolding element_bytes text_in
element_length is texts (element.Number n) = number_length document_marks is n
element_length {field} is texts (element.Text start size) = filled_length blank_byte (length field) (take size (drop start texts))

-- Published: whether a number is spilled does not depend on the marks.
pub spilled_any : (m k : Marks) (field : List ℕ) (n : Number) → spilled_by (number_marked m field n) ≡ spilled_by (number_marked k field n)
unfolding number_marked ◌then◌ spilled_by
spilled_any m k field n = go (truncation 0 (scanned_image field) n)
  where
    go : (a : Answer Truncated)
        → spilled_by (a then λ t. done (shown_marked m field (scanned_image field) t)) ≡ spilled_by (a then λ t. done (shown_marked k field (scanned_image field) t))
    go (done t) = refl
    go (refused number place) = refl

-- What an element may be.

-- a number that is not refused is in normal form
pub number_normal : (room index : ℕ) (n : Number) → check_element room index (element.Number n) ≡ done tt → normal n ≡ true
unfolding check_element
number_normal room index n h = go (normal n) refl h
  where
    go : (b : Bool) → normal n ≡ b → ◌≡◌ {A = Answer (Unit {0})} (pick b (done tt) (refused 3 index)) (done tt) → normal n ≡ true
    go true e h = e
    go false e h = never_done h

-- a text that is not refused lies within its bytes
pub text_inside : (room start size : ℕ) {e : Element} → e ≡ element.Text start size → check_element room 0 e ≡ done tt → start + size ≤ room
unfolding check_element
text_inside room start size is h =
    ⊎_elim
    (λ le. le)
    (λ lt.
    let more = rw (lt-leb (start + size) room lt) at (sym (ap (check_element room 0) is) ∙ h) in
    let z : ◌≡◌ {A = ℕ} 0 1 = cc in
    absurd (omega arith))
    (le_or_lt (start + size) room)

-- what stands in the field for the byte of a sign is what alpha text shows for that sign
pub sign_shown_of : (b : ℕ) (negative : Bool) → sign_shown (sign_of b) negative ≡ sign_byte_of b negative
unfolding sign_shown sign_byte_of
sign_shown_of b negative = go (eqb b plus_byte) (eqb b minus_byte)
  where
    go : (plus minus : Bool) → sign_shown (pick plus Plus (pick minus Minus Unsigned)) negative ≡ pick negative minus_byte (pick plus plus_byte blank_byte)
    go true minus = refl
    go false true = refl
    go false false = refl
