-- Demand 3 whole: the order and the equality of bodies, and the three ways of reading back. Assumes nothing.
use Prim.Native.Nat.{ℕ, suc, ◌<◌, ◌≤◌}
use native.Mathlib.Omega.{arith}
use mathlib.Core.Path.{◌≡◌, refl, ap, subst, ◌∙◌}
use mathlib.Core.Bool.{true}
use mathlib.Core.List.{List, [], ◌∷◌, append-nil}
use lib.ListN.{length, drop_of_length-le}
use lib.Seq.{take-length}
use borrow.Author.Tests.{lt-ltb, le-ltb, le-leb, ne_eqb}
use Rattle.decimal.specs.declared.image.Image.{Image}
use Rattle.decimal.specs.declared.number.Number.{Number}
use Rattle.decimal.specs.Answer.{Answer, done, ◌then◌}
use Rattle.decimal.specs.Digits.{precision}
use Rattle.decimal.specs.Number.{normal}
use Rattle.decimal.specs.Image.{hashes, image_bytes, IsImage, scanned_image}
use Rattle.decimal.specs.Truncation.{Truncated, truncation, number_of, truncated_number}
use Rattle.decimal.proofs.ImageLaws.{scanned_complete, reads_image}
use Rattle.decimal.proofs.TruncationLaws.{truncation_fit}
use Rattle.codec.specs.Contents.{IsContents, Table}
use Rattle.codec.specs.Packing.{Packs}
use Rattle.codec.specs.Order.{AllUnsignedFixed, Truncations, none, one}
use Rattle.codec.specs.Alpha.{alpha_text, alpha_under, alpha_of, alpha_texts}
use Rattle.codec.specs.Text.{read_texts}
use Rattle.decimal.proofs.AnswerLaws.{one_answer, Both, then_done, then_both}
use Rattle.codec.proofs.ContentsTheorem.{image_short}
use Rattle.codec.proofs.PacksTheorem.{packs_read, packs_contents}
use Rattle.codec.proofs.AlphaForm.{alpha_back}
use Rattle.codec.proofs.OrderTheorem.{contents_order, contents_equality}
use Rattle.codec.proofs.ReadBackTheorem.{contents_read_back}
use Rattle.records.specs.declared.lines.fields.Element.TheVariants as element
use Rattle.records.specs.Lines.Scanning.{field_length}
use Rattle.records.specs.Lines.Fields.{shown_in, number_marked, number_in, or_field, spilled_by, element_bytes, element_spills, read_field}
use Rattle.records.specs.Lines.Printing.{max_line, literals, first_field, behind_field, has_field, Print, and_then, one_field, print_from}
use Rattle.records.specs.Lines.Printing.{check_fields, check_element, check_elements, check_some, check_counts, printed}
use Rattle.records.specs.Demand.{print_field, print_fields, read_fields, NoneSpilled, ReadBack, Ordered, Demand3}
use Rattle.records.specs.Demand as demand
use Rattle.records.proofs.LineProofs.FieldTheorem.{image_field, image_whole}
use Rattle.records.proofs.LineProofs.FieldBackTheorem.{field_back}

-- A line that is one field.

-- a line that begins with a field has no literal bytes before it
no_literals : (line : List ℕ) → 0 < field_length line → literals line ≡ []
unfolding literals
no_literals [] h = refl
no_literals (b ∷ bs) h = rw (ne_eqb (field_length (b ∷ bs)) 0 (λ e. omega arith))

-- the bytes inside a field are passed over, to the line's end
inside_passes : (index : ℕ) (bs : List ℕ) → check_fields index (length bs) bs ≡ done tt
unfolding check_fields
inside_passes index [] = refl
inside_passes index (b ∷ bs) = inside_passes index bs

-- a line that is one field of at most 13 # signs is not refused
field_passes : (line : List ℕ) → field_length line ≡ length line → hashes (scanned_image line) ≤ precision → check_fields 0 0 line ≡ done tt
unfolding check_fields
field_passes [] whole few = refl
field_passes (b ∷ bs) whole few =
    rw (whole, ne_eqb (suc (length bs)) 0 (λ e. omega arith), take-length (b ∷ bs), le-ltb precision (hashes (scanned_image (b ∷ bs))) few)
    (inside_passes 1 bs)

module _ (line : List ℕ) (whole : field_length line ≡ length line) (some : 0 < length line) where
  -- no literal byte
  whole_literals : literals line ≡ []
  whole_literals = no_literals line (omega arith)

  -- a field
  whole_has : has_field line ≡ true
  unfolding has_field
  whole_has = rw (whole_literals, lt-ltb 0 (length line) some)

  -- which is the line
  whole_first : first_field line ≡ line
  unfolding first_field
  whole_first = rw (whole_literals, whole, take-length line)

  -- and nothing behind it
  whole_behind : behind_field line ≡ []
  unfolding behind_field
  whole_behind =
      let all : length line ≤ length line = omega arith in
      rw (whole_literals, whole) (drop_of_length-le line all)

  -- what is printed with one number that is not spilled
  whole_from : (n : Number) {bytes : List ℕ} → number_in line n ≡ done bytes
      → print_from [] line line (element.Number n ∷ []) ≡ record { bytes = bytes; spilled = 0 }
  unfolding print_from one_field and_then element_bytes element_spills or_field spilled_by literals
  whole_from n {bytes} h =
      rw (whole_has, whole_literals, whole_first, whole_behind, h) (λ i. record { bytes = append-nil bytes i; spilled = 0 })

  -- and that nothing is refused
  whole_printed : length line ≤ max_line → hashes (scanned_image line) ≤ precision → (n : Number) → normal n ≡ true → {bytes : List ℕ}
      → number_in line n ≡ done bytes → printed line (element.Number n ∷ []) [] ≡ done (record { bytes = bytes; spilled = 0 })
  unfolding printed check_counts check_some check_elements check_element ◌then◌
  whole_printed short few n plain {bytes} h =
      rw (le-leb (length line) max_line short, field_passes line whole few, whole_has, plain)
      (ap {B = Answer Print} done (whole_from n h))

-- The print field of a column.

-- a number that is truncated, in the field of an image
image_number : (im : Image) → 0 < hashes im → (n : Number) {t : Truncated} → truncation 0 im n ≡ done t
    → number_in (image_bytes im) n ≡ done (shown_in (image_bytes im) im t)
unfolding number_marked ◌then◌
image_number im some n h = rw ((scanned_complete im some).1, h)

-- Published: the print field of a number that an image truncates is the number shown in the image, and is not spilled.
pub image_printed : (im : Image) (n : Number) {t : Truncated} → truncation 0 im n ≡ done t
    → print_field im n ≡ done (record { bytes = shown_in (image_bytes im) im t; spilled = 0 })
unfolding print_field
image_printed im n {t} h =
    let fit = truncation_fit 0 im n h in
    let some = fit.nonempty in
    let size = fit.size in
    let short = image_short im in
    let is : IsImage (image_bytes im) im = record { rendered = refl; nonempty = some } in
    let few : hashes (scanned_image (image_bytes im)) ≤ precision = rw (scanned_complete im some).1 size in
    whole_printed (image_bytes im) (image_whole is) (omega (arith, short.0)) (omega (arith, short.1)) few n fit.number_checked
    (image_number im some n h)

-- Published: it is read back as the truncation.
pub image_field_back : (im : Image) (n : Number) {t : Truncated} → truncation 0 im n ≡ done t
    → read_field (shown_in (image_bytes im) im t) ≡ truncated_number 0 im n
image_field_back im n {t} h =
    let fit = truncation_fit 0 im n h in
    let is : IsImage (image_bytes im) im = record { rendered = refl; nonempty = fit.nonempty } in
    field_back (image_field is).1 n (image_number im fit.nonempty n h)
    ∙ ap (λ (j : Image). truncated_number 0 j n) (scanned_complete im fit.nonempty).1

-- The alpha text of a column.

-- the alpha text of a number that an image truncates
image_text : (im : Image) (n : Number) {t : Truncated} → truncation 0 im n ≡ done t → alpha_of (image_bytes im) n ≡ done (alpha_text im t)
unfolding alpha_of alpha_under ◌then◌
image_text im n h =
    let fit = truncation_fit 0 im n h in
    let is : IsImage (image_bytes im) im = record { rendered = refl; nonempty = fit.nonempty } in
    rw (reads_image 0 is fit.size, h)

-- The columns.

-- a number's truncation as a number: both steps
truncated_view : (im : Image) (n : Number) {m : Number} → truncated_number 0 im n ≡ done m → Both (truncation 0 im n) (number_of 0 im) m
unfolding truncated_number
truncated_view im n h = then_done (truncation 0 im n) (number_of 0 im) h

-- the texts and fields of a list, read back as one list
record Shown (ims : List Image) (ns ts : List Number) : Type 0 where
  texts : List (List ℕ)
  written : alpha_texts ims ns ≡ done texts
  of_texts : read_texts texts ≡ done ts
  fields : List Print
  shown : print_fields ims ns ≡ done fields
  none_spilled : NoneSpilled fields
  of_fields : read_fields fields ≡ done ts

-- one column more
shown_column : {im : Image} {n t : Number} {ims : List Image} {ns ts : List Number} → truncated_number 0 im n ≡ done t → Shown ims ns ts
    → Shown (im ∷ ims) (n ∷ ns) (t ∷ ts)
unfolding alpha_texts read_texts print_fields read_fields
shown_column {im} {n} {t} {ims} {ns} {ts} h r =
    let b = truncated_view im n h in
    let text = alpha_text im b.value in
    let p : Print = record { bytes = shown_in (image_bytes im) im b.value; spilled = 0 } in
    record {
      texts = text ∷ r.texts;
      written =
          then_both (λ (x : List ℕ). alpha_texts ims ns then λ xs. done (x ∷ xs)) (image_text im n b.first)
          (then_both (λ (xs : List (List ℕ)). done (text ∷ xs)) r.written refl);
      of_texts =
          then_both (λ (x : Number). read_texts r.texts then λ xs. done (x ∷ xs)) (alpha_back im n b.first ∙ b.second)
          (then_both (λ (xs : List Number). done (t ∷ xs)) r.of_texts refl);
      fields = p ∷ r.fields;
      shown =
          then_both (λ (x : Print). print_fields ims ns then λ xs. done (x ∷ xs)) (image_printed im n b.first)
          (then_both (λ (xs : List Print). done (p ∷ xs)) r.shown refl);
      none_spilled = demand.more refl r.none_spilled;
      of_fields =
          then_both (λ (x : Number). read_fields r.fields then λ xs. done (x ∷ xs)) (image_field_back im n b.first ∙ h)
          (then_both (λ (xs : List Number). done (t ∷ xs)) r.of_fields refl);
    }

-- all columns
shown_columns : {ims : List Image} {ns ts : List Number} → Truncations ims ns ts → Shown ims ns ts
unfolding alpha_texts read_texts print_fields read_fields
shown_columns none =
    record { texts = []; written = refl; of_texts = refl; fields = []; shown = refl; none_spilled = demand.none; of_fields = refl }
shown_columns (one h rest) = shown_column (h 0) (shown_columns rest)

module _ (contents : List ℕ) {ims : List Image} (is : IsContents contents ims) where
  -- what is read back of a list that packs
  list_back : (ns : List Number) → Packs contents ns → ReadBack contents ims ns
  list_back ns packs =
      let packed = (packs_contents contents ns).0 packs in
      let b = contents_read_back contents packed.1 in
      let same : b.0.images ≡ ims = ap (λ (t : Table). t.images) (one_answer b.1 (packs_read is packs)) in
      let truncated = subst (λ (l : List Image). Truncations l ns b.2) same b.3 in
      let s = shown_columns truncated in
      record {
        body = packed.0;
        packed = packed.1;
        numbers = b.2;
        truncated = truncated;
        of_body = b.4;
        texts = s.texts;
        written = s.written;
        of_texts = s.of_texts;
        fields = s.fields;
        shown = s.shown;
        none_spilled = s.none_spilled;
        of_fields = s.of_fields;
        packs_again = (packs_contents contents b.2).1 (packed.0, b.5);
        same_body = b.5;
      }

  -- the order and the equality of two bodies
  lists_ordered : AllUnsignedFixed ims → (ms ns : List Number) → Packs contents ms → Packs contents ns → Ordered contents ims ms ns
  lists_ordered kinds ms ns p q =
      let reads = packs_read is p in
      let a = (packs_contents contents ms).0 p in
      let b = (packs_contents contents ns).0 q in
      record {
        first = a.0;
        packs_first = a.1;
        second = b.0;
        packs_second = b.1;
        order = contents_order contents reads kinds ms ns a.1 b.1;
        equality = contents_equality contents reads kinds ms ns a.1 b.1;
      }

-- Published: demand 3 holds.
pub demand_3 : Demand3
demand_3 = record { order = lists_ordered; read_back = list_back }
