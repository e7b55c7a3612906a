-- The print call: what is refused, and what is stored. Assumes nothing.
use Prim.Native.Nat.{ℕ, ◌<◌, ◌≤◌}
use mathlib.Core.Path.{◌≡◌, refl, ap, sym, ◌∙◌}
use mathlib.Core.List.{List}
use mathlib.Core.Logic.{◌⊎◌, ⊎_elim, inl, inr}
use native.Mathlib.Omega.{arith}
use borrow.Author.Tests.{lt-ltb, le-ltb}
use lib.ListN.{length}
use Rattle.decimal.specs.Answer.{Answer, done, refused, ◌then◌, mapped}
use Rattle.decimal.proofs.AnswerLaws.{mapped_done, mapped_refused}
use Rattle.codec.specs.Answers.{stored_in, written}
use Rattle.codec.proofs.BufferLaws.{written_stored}
use Rattle.records.specs.declared.lines.fields.Element.{Element}
use Rattle.records.specs.declared.lines.printing.Printed.{Printed}
use Rattle.records.specs.declared.lines.line_fields.Field.{Field}
use Rattle.records.specs.Lines.LineFields.{Listed}
use Rattle.records.proofs.LineProofs.CheckLaws.{some_done, line_elements}
use Rattle.records.proofs.LineProofs.LineFieldLaws.{listed_one}
use Rattle.records.specs.Lines.Printing.{Print, print_from, check_fields, check_elements, check_some, check_counts, printed, room_for, printing, printed_of, bytes_of, line_checks}

-- A line whose fields are listed is checked as its elements are, where it has a field or no elements.
pub line_listed : (line : List ℕ) (es : List Element) (room : ℕ) {fields : List Field}
    → check_counts (length es) (length line) ≡ done tt
    → check_fields 0 0 line ≡ done tt
    → Listed line fields
    → (0 < length fields) ⊎ (length es ≡ 0)
    → line_checks line es room ≡ check_elements room 0 es
line_listed line es room counted checked listed some =
    line_elements line es room counted checked (some_done _ _ (⊎_elim (λ h. inl (listed_one listed h)) (λ h. inr h) some))

-- The print call.

-- four checks in a row, and then a result
checks_first : {A : Type 0} (a b c d : Answer (Unit {0})) (r : Answer A)
    → (a then λ _. (b then λ _. (c then λ _. (d then λ _. r)))) ≡ ((a then λ _. (b then λ _. (c then λ _. d))) then λ _. r)
unfolding ◌then◌
checks_first (refused n k) b c d r = refl
checks_first (done u) (refused n k) c d r = refl
checks_first (done u) (done v) (refused n k) d r = refl
checks_first (done u) (done v) (done w) (refused n k) r = refl
checks_first (done u) (done v) (done w) (done x) r = refl

module _ (line : List ℕ) (es : List Element) (texts : List ℕ) (room : ℕ) where
  -- the checks, then the room
  printing_steps : printing line es texts room ≡ ((line_checks line es (length texts) then λ _. done (print_from texts line line es)) then room_for room)
  unfolding printing printed line_checks
  printing_steps =
      ap (λ (a : Answer Print). a then room_for room)
      (checks_first (check_counts (length es) (length line)) (check_fields 0 0 line) (check_some line es) (check_elements (length texts) 0 es)
      (done (print_from texts line line es)))

  -- a check refuses
  printing_refused : (n k : ℕ) → line_checks line es (length texts) ≡ refused n k → printing line es texts room ≡ refused n k
  unfolding ◌then◌
  printing_refused n k h =
      printing_steps ∙ ap (λ (a : Answer (Unit {0})). (a then λ _. done (print_from texts line line es)) then room_for room) h

  -- the checks pass
  printing_checked : line_checks line es (length texts) ≡ done tt → printing line es texts room ≡ room_for room (print_from texts line line es)
  unfolding ◌then◌
  printing_checked h =
      printing_steps ∙ ap (λ (a : Answer (Unit {0})). (a then λ _. done (print_from texts line line es)) then room_for room) h

  -- there is no room
  printing_long : line_checks line es (length texts) ≡ done tt → room < length (print_from texts line line es).bytes
      → printing line es texts room ≡ refused 6 0
  unfolding room_for
  printing_long h l = printing_checked h ∙ rw (lt-ltb room (length (print_from texts line line es).bytes) l)

  -- there is room
  printing_done : line_checks line es (length texts) ≡ done tt → length (print_from texts line line es).bytes ≤ room
      → printing line es texts room ≡ done (print_from texts line line es)
  unfolding room_for
  printing_done h l = printing_checked h ∙ rw (le-ltb room (length (print_from texts line line es).bytes) l)

module _ (line : List ℕ) (es : List Element) (texts buffer : List ℕ) where
  -- what a call answers, and the bytes behind it
  abbrev pub Prints : Answer Printed → List ℕ → Type 0
  Prints answer next =
      (answer ≡ mapped printed_of (printing line es texts (length buffer)))
      × (next ≡ stored_in (mapped bytes_of (printing line es texts (length buffer))) buffer)

  -- a refused call changes no byte
  answer_refused : {number place : ℕ} → printing line es texts (length buffer) ≡ refused number place → Prints (refused number place) buffer
  unfolding stored_in
  answer_refused h = (sym (mapped_refused printed_of h), ap (λ (a : Answer (List ℕ)). stored_in a buffer) (sym (mapped_refused bytes_of h)))

  -- a call that a check refuses
  pub print_refused : {number place : ℕ} → line_checks line es (length texts) ≡ refused number place → Prints (refused number place) buffer
  print_refused {number} {place} h = answer_refused (printing_refused line es texts (length buffer) number place h)

  -- one whose buffer is too short
  pub print_long : {size : ℕ} → line_checks line es (length texts) ≡ done tt → size ≡ length (print_from texts line line es).bytes → length buffer < size
      → Prints (refused 6 0) buffer
  print_long h n l = answer_refused (printing_long line es texts (length buffer) h (omega arith))

  -- one that prints
  pub print_done : {p : Printed} {next : List ℕ} → line_checks line es (length texts) ≡ done tt
      → (p.bytes ≡ length (print_from texts line line es).bytes) × (p.spilled ≡ (print_from texts line line es).spilled)
      → p.bytes ≤ length buffer
      → next ≡ written buffer 0 (print_from texts line line es).bytes
      → Prints (done p) next
  print_done h n l e =
      let done_all = printing_done line es texts (length buffer) h (omega (arith, n.0)) in
      let all = print_from texts line line es in (
        (λ i. done (record { bytes = n.0 i; spilled = n.1 i })) ∙ sym (mapped_done printed_of done_all),
        e ∙ written_stored buffer all.bytes ∙ ap (λ (a : Answer (List ℕ)). stored_in a buffer) (sym (mapped_done bytes_of done_all)),
      )
