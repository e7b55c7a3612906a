-- Document 01, Print lines, and "Before you accept a call": the spilled count is drawn from the fields. It equals the number of elements
-- that the print rule calls spilled, each by the field that it fills; and a spilled element prints the field's own bytes.
-- Assumes nothing.
use Prim.Native.Nat.{ℕ, suc, ◌+◌, ◌<◌}
use native.Mathlib.Omega.{arith}
use native.Mathlib.Nat.{zero-add}
use mathlib.Core.Path.{◌≡◌, refl, ap, ap₂, sym, ◌∙◌, subst}
use mathlib.Core.List.{List, [], ◌∷◌, ◌++◌}
use mathlib.Core.Bool.{Bool, true, false}
use lib.Dec.{ltb}
use lib.ListN.{length, take, drop}
use lib.Seq.{drop-drop}
use Rattle.decimal.specs.declared.number.Number.{Number}
use Rattle.decimal.specs.Answer.{Answer, done, refused, ◌then◌, pick, mapped}
use Rattle.decimal.specs.Number.{normal}
use Rattle.decimal.specs.Image.{hashes, scanned_image}
use Rattle.decimal.specs.Truncation.{Truncated, truncation, Fit}
use Rattle.decimal.proofs.TruncationLaws.{fit_truncation, truncation_fit}
use Rattle.decimal.proofs.AnswerLaws.{never_done, then_done, then_last, mapped_back}
use Rattle.records.specs.declared.lines.fields.Element.{Element}
use Rattle.records.specs.declared.lines.fields.Element.TheVariants as element
use Rattle.records.specs.declared.lines.printing.Printed.{Printed}
use Rattle.records.specs.Lines.Scanning.{field_length}
use Rattle.records.specs.Lines.Marks.{document_marks}
use Rattle.records.specs.Lines.Fields.{shown_in, number_marked, number_in, or_field, spilled_by, element_bytes, element_spills, FieldReady}
use Rattle.codec.specs.Walking.{line_end}
use Rattle.records.specs.Lines.Printing.{literals, first_field, behind_field, has_field, Print, and_then, one_field, print_from}
use Rattle.records.specs.Lines.Printing.{check_fields, check_element, check_elements, check_some, check_counts, printed, room_for, printing}
use Rattle.records.specs.Lines.Printing.{Reached, at_start, after_field, printed_of}
use Rattle.records.specs.Lines.Spilling.{next_part, fields_filled, is_spilled, spilled_among, spilled_elements}
use Rattle.records.proofs.LineProofs.FieldTheorem.{field_image_lem}
use Rattle.records.proofs.LineProofs.FieldLaws.{number_refused, number_normal}
use Rattle.records.proofs.LineProofs.CheckLaws.{literals_stop, reached_ready, reached_next}
use Rattle.records.proofs.LineProofs.ForecastTheorem.{has_field_lem, some_done}

-- One element in its field.

-- a field has a # sign
field_some : {field : List ℕ} → FieldReady field → 0 < hashes (scanned_image field)
field_some ready = omega (arith, ready.is_field.nonempty, ap hashes (field_image_lem ready.is_field))

module _ (field : List ℕ) (n : Number) where
  -- a number that is spilled is not truncated
  spilled_refused : is_spilled field (element.Number n) ≡ true → (t : Truncated) → truncation 0 (scanned_image field) n ≡ done t → ⊥
  unfolding is_spilled
  spilled_refused h t e =
      let w : ◌≡◌ {A = Bool} true false = sym h ∙ (truncation_fit 0 (scanned_image field) n e).within in
      let z : ◌≡◌ {A = ℕ} 0 1 = cc in
      omega arith

  -- it prints the field's own bytes
  spilled_number : is_spilled field (element.Number n) ≡ true → or_field field (number_in field n) ≡ field
  spilled_number h = go (truncation 0 (scanned_image field) n) refl
    where
      go : (a : Answer Truncated) → truncation 0 (scanned_image field) n ≡ a → or_field field (number_in field n) ≡ field
      go (done t) e = absurd (spilled_refused h t e)
      go (refused number place) e = number_refused document_marks field n e

  -- and counts once
  spilled_once : is_spilled field (element.Number n) ≡ true → spilled_by (number_in field n) ≡ 1
  unfolding number_marked spilled_by ◌then◌
  spilled_once h = go (truncation 0 (scanned_image field) n) refl
    where
      go : (a : Answer Truncated) → truncation 0 (scanned_image field) n ≡ a
          → spilled_by (a then λ t. done (shown_in field (scanned_image field) t)) ≡ 1
      go (done t) e = absurd (spilled_refused h t e)
      go (refused number place) e = refl

  -- a number in normal form that is not spilled does not count
  shown_not : FieldReady field → normal n ≡ true → is_spilled field (element.Number n) ≡ false → spilled_by (number_in field n) ≡ 0
  unfolding is_spilled number_marked spilled_by ◌then◌
  shown_not ready plain h =
      let fit : Fit (scanned_image field) n =
      record { nonempty = field_some ready; size = ready.fits; number_checked = plain; within = h } in
      ap
      (λ (a : Answer Truncated). spilled_by (a then λ t. done (shown_in field (scanned_image field) t)))
      (fit_truncation 0 (scanned_image field) n fit)

-- Published: a spilled element prints the field's own bytes.
pub spilled_own : (texts field : List ℕ) (e : Element) → is_spilled field e ≡ true → element_bytes texts field e ≡ field
unfolding element_bytes is_spilled
spilled_own texts field (element.Number n) h = spilled_number field n h
spilled_own texts field (element.Text start size) h = let z : ◌≡◌ {A = ℕ} 0 1 = cc in absurd (omega arith)

-- what the definition of print counts for an element is 1 exactly where it is spilled
element_counted : {field : List ℕ} → FieldReady field → (room index : ℕ) (e : Element) → check_element room index e ≡ done tt
    → element_spills field e ≡ pick (is_spilled field e) 1 0
unfolding element_spills is_spilled
element_counted {field} ready room index (element.Number n) h = go (is_spilled field (element.Number n)) refl
  where
    go : (b : Bool) → is_spilled field (element.Number n) ≡ b → spilled_by (number_in field n) ≡ pick b 1 0
    go true e = spilled_once field n e
    go false e = shown_not field n ready (number_normal room index n h) e
element_counted ready room index (element.Text start size) h = refl

-- The fields that the elements fill.

-- Published: there is one for each element.
pub fields_count : (line left : List ℕ) (es : List Element) → length (fields_filled line left es) ≡ length es
unfolding fields_filled
fields_count line left [] = refl
fields_count line left (e ∷ es) = ap suc (fields_count line (behind_field (next_part line left)) es)

-- a field of a line not refused, and a place behind it that is reached
record Found (line left : List ℕ) : Type 0 where
  ready : FieldReady (first_field left)
  place : ℕ
  reached : Reached line place
  behind : behind_field left ≡ drop place line

-- where a field is ahead of a place that is reached
found : (line : List ℕ) {k : ℕ} → check_fields 0 0 line ≡ done tt → Reached line k → length (literals (drop k line)) < length (drop k line)
    → Found line (drop k line)
unfolding first_field behind_field
found line {k} checked r h =
    let left : List ℕ = drop k line in
    let start : ℕ = k + length (literals left) in
    let same : drop (length (literals left)) left ≡ drop start line = drop-drop (length (literals left)) k line in
    let some : field_length (drop start line) ≡ 0 → ⊥ = λ z. literals_stop left h (ap field_length same ∙ z) in
    record {
      ready = subst (λ (l : List ℕ). FieldReady (take (field_length l) l)) (sym same) (reached_ready checked (reached_next r) some);
      place = start + field_length (drop start line);
      reached = after_field (reached_next r) some refl;
      behind = ap (λ (l : List ℕ). drop (field_length l) l) same ∙ drop-drop (field_length (drop start line)) start line;
    }

module _ (texts line : List ℕ) (checked : check_fields 0 0 line ≡ done tt) (some : length (literals line) < length line) where
  -- elements are counted right from every place on that is reached
  abbrev Counted : List Element → Type 0
  Counted es =
      (k : ℕ) → Reached line k → (print_from texts line (drop k line) es).spilled ≡ spilled_among (fields_filled line (drop k line) es) es

  -- an element in the first field of a part of the line, and those behind it
  one_counted : (room index : ℕ) (e : Element) (es : List Element) → check_element room index e ≡ done tt → Counted es → {left : List ℕ}
      → Found line left
      → (one_field texts left e (print_from texts line (behind_field left) es)).spilled
      ≡ spilled_among (first_field left ∷ fields_filled line (behind_field left) es) (e ∷ es)
  unfolding one_field and_then spilled_among
  one_counted room index e es h rest {left} f =
      ap₂ ◌+◌ (element_counted f.ready room index e h)
      (ap (λ (l : List ℕ). (print_from texts line l es).spilled) f.behind
      ∙ rest f.place f.reached
      ∙ ap (λ (l : List ℕ). spilled_among (fields_filled line l es) es) (sym f.behind))

  -- one element more
  next_counted : (room index : ℕ) (e : Element) (es : List Element) → check_element room index e ≡ done tt → Counted es → Counted (e ∷ es)
  unfolding print_from and_then fields_filled next_part
  next_counted room index e es h rest k r = go (has_field (drop k line)) refl
    where
      go : (b : Bool) → has_field (drop k line) ≡ b
          → (pick b
          (one_field texts (drop k line) e (print_from texts line (behind_field (drop k line)) es))
          (and_then (drop k line ++ (line_end ∷ [])) 0 (one_field texts line e (print_from texts line (behind_field line) es)))).spilled
          ≡ spilled_among
          (first_field (pick b (drop k line) line) ∷ fields_filled line (behind_field (pick b (drop k line) line)) es)
          (e ∷ es)
      go true t = one_counted room index e es h rest (found line checked r (has_field_lem (drop k line) t))
      go false t = zero-add _ ∙ one_counted room index e es h rest (found line {k = 0} checked at_start some)

  -- all elements
  all_counted : (room index : ℕ) (es : List Element) → check_elements room index es ≡ done tt → Counted es
  unfolding check_elements print_from spilled_among
  all_counted room index [] h = λ k r. refl
  all_counted room index (e ∷ es) h =
      let both = then_last (check_element room index e) (check_elements room (suc index) es) h in
      next_counted room index e es both.0 (all_counted room (suc index) es both.1)

-- The line.

-- what is printed with elements that pass the checks
from_counted : (texts line : List ℕ) (es : List Element) → check_fields 0 0 line ≡ done tt → check_some line es ≡ done tt
    → check_elements (length texts) 0 es ≡ done tt → (print_from texts line line es).spilled ≡ spilled_elements line es
unfolding print_from spilled_elements spilled_among
from_counted texts line [] checked some h = refl
from_counted texts line (e ∷ es) checked some h =
    all_counted texts line checked (some_done line (e ∷ es) some (omega arith)) (length texts) 0 (e ∷ es) h 0 at_start

-- Published: of every line that is printed, the spilled count equals the number of elements that the print rule calls spilled.
pub spilled_count : (line : List ℕ) (es : List Element) (texts : List ℕ) {p : Print} → printed line es texts ≡ done p
    → p.spilled ≡ spilled_elements line es
unfolding printed
spilled_count line es texts {p} h =
    let counts = then_last (check_counts (length es) (length line)) _ h in
    let fields = then_last (check_fields 0 0 line) _ counts.1 in
    let some = then_last (check_some line es) _ fields.1 in
    let last = then_last (check_elements (length texts) 0 es) _ some.1 in
    let same : print_from texts line line es ≡ p = cc in
    ap (λ (x : Print). x.spilled) (sym same) ∙ from_counted texts line es fields.0 some.0 last.0

-- a line that has room is printed as it is
room_done : (room : ℕ) {p q : Print} → room_for room p ≡ done q → p ≡ q
unfolding room_for
room_done room {p} {q} h = go (ltb room (length p.bytes)) h
  where
    go : (b : Bool) → pick b (refused 6 0) (done p) ≡ done q → p ≡ q
    go true h = never_done h
    go false h = cc

-- Published: so it is with room in a buffer.
pub spilled_count_room : (line : List ℕ) (es : List Element) (texts : List ℕ) (room : ℕ) {p : Print} → printing line es texts room ≡ done p
    → p.spilled ≡ spilled_elements line es
unfolding printing
spilled_count_room line es texts room {p} h =
    let b = then_done (printed line es texts) (room_for room) h in
    ap (λ (x : Print). x.spilled) (sym (room_done room b.second)) ∙ spilled_count line es texts b.first

-- Published: and so is the count in the answer of `print`, by its promise.
pub spilled_count_answer : (line : List ℕ) (es : List Element) (texts : List ℕ) (room : ℕ) {p : Printed}
    → done p ≡ mapped printed_of (printing line es texts room)
    → p.spilled ≡ spilled_elements line es
spilled_count_answer line es texts room {p} h =
    let b = mapped_back printed_of (printing line es texts room) h in
    ap (λ (x : Printed). x.spilled) b.2 ∙ spilled_count_room line es texts room b.1
