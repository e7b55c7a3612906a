-- Document 01, Print lines: what is written is at most the forecast.
-- Assumes nothing.
use Prim.Native.Nat.{ℕ, suc, ◌+◌, ◌*◌, ◌-◌, ◌<◌, ◌≤◌}
use native.Mathlib.Omega.{arith}
use native.Mathlib.Nat.{suc-mul}
use mathlib.Core.Path.{◌≡◌, refl, ap}
use mathlib.Core.List.{List, [], ◌∷◌, ◌++◌}
use mathlib.Core.Bool.{Bool, true, false}
use lib.ListN.{length, take, length-append, length-drop}
use lib.Seq.{length-take-le}
use borrow.Author.Tests.{ltb-true}
use Rattle.decimal.specs.Answer.{Answer, done, refused, pick}
use Rattle.decimal.proofs.AnswerLaws.{then_last}
use Rattle.records.specs.declared.lines.fields.Element.{Element}
use Rattle.records.specs.Lines.Scanning.{Field, IsField, field_length}
use Rattle.records.specs.Lines.Fields.{element_bytes}
use Rattle.codec.specs.Walking.{line_end}
use Rattle.records.specs.Lines.Printing.{literals, from_field, first_field, behind_field, has_field, Print, and_then, one_field, print_from, check_fields, check_elements, check_some, check_counts, printed}
use Rattle.records.proofs.LineProofs.FieldTheorem.{longest_field}
use Rattle.records.proofs.LineProofs.FieldLaws.{element_length}
use Rattle.records.proofs.LineProofs.CheckLaws.{literals_inside, literals_stop}

-- the first field of a line that has one
pub first_field_lem : (left : List ℕ) → length (literals left) < length left → (f : Field) × IsField (first_field left) f
unfolding first_field
first_field_lem left h = (longest_field (from_field left)).is_field (literals_stop left h)

-- the parts of a line make its length
pub parts_length : (left : List ℕ) → length (literals left) + (length (first_field left) + length (behind_field left)) ≡ length left
unfolding first_field behind_field
parts_length left =
    let l = literals_inside left in
    let i : field_length (from_field left) ≤ length (from_field left) = (longest_field (from_field left)).inside in
    let f : length (take (field_length (from_field left)) (from_field left)) ≡ field_length (from_field left) =
    length-take-le (field_length (from_field left)) (from_field left) i in
    let b = length-drop (field_length (from_field left)) (from_field left) in
    let r : length (from_field left) ≡ length left - length (literals left) = length-drop (length (literals left)) left in
    omega arith

-- an element in the first field: the bytes up to the field's end, then what comes behind
one_length : (texts left : List ℕ) (e : Element) (p : Print) → length (literals left) < length left
    → length (one_field texts left e p).bytes + length (behind_field left) ≡ length left + length p.bytes
unfolding one_field and_then
one_length texts left e p h =
    let a = length-append (literals left ++ element_bytes texts (first_field left) e) p.bytes in
    let b = length-append (literals left) (element_bytes texts (first_field left) e) in
    let f = element_length (first_field_lem left h).1 texts e in
    let whole = parts_length left in
    omega arith

-- the rest of a line, its end, and what comes behind
rest_length : (left : List ℕ) (p : Print) → length (and_then (left ++ (line_end ∷ [])) 0 p).bytes ≡ length left + 1 + length p.bytes
unfolding and_then
rest_length left p =
    let a = length-append (left ++ (line_end ∷ [])) p.bytes in
    let b = length-append left (line_end ∷ []) in
    omega arith

-- what the test for a field says
pub has_field_lem : (left : List ℕ) → has_field left ≡ true → length (literals left) < length left
unfolding has_field
has_field_lem left h = ltb-true (length (literals left)) (length left) h

-- from a place of a line on
from_length : (texts line left : List ℕ) (es : List Element) → (0 < length es → length (literals line) < length line)
    → length (print_from texts line left es).bytes ≤ length left + length es * (length line + 1)
unfolding print_from
from_length texts line left [] h = let l = literals_inside left in omega arith
from_length texts line left (e ∷ es) h =
    go (has_field left) refl (from_length texts line (behind_field left) es (λ z. h (omega arith)))
    (from_length texts line (behind_field line) es (λ z. h (omega arith)))
  where
    go : (t : Bool) → has_field left ≡ t
        → length (print_from texts line (behind_field left) es).bytes ≤ length (behind_field left) + length es * (length line + 1)
        → length (print_from texts line (behind_field line) es).bytes ≤ length (behind_field line) + length es * (length line + 1)
        → length
        (pick t
        (one_field texts left e (print_from texts line (behind_field left) es))
        (and_then (left ++ (line_end ∷ [])) 0 (one_field texts line e (print_from texts line (behind_field line) es)))).bytes
        ≤ length left + suc (length es) * (length line + 1)
    go true k here again =
        let s = suc-mul (length es) (length line + 1) in
        let one = one_length texts left e (print_from texts line (behind_field left) es) (has_field_lem left k) in
        omega arith
    go false k here again =
        let s = suc-mul (length es) (length line + 1) in
        let one = one_length texts line e (print_from texts line (behind_field line) es) (h (omega arith)) in
        let rest = rest_length left (one_field texts line e (print_from texts line (behind_field line) es)) in
        omega arith

-- elements are printed only where there is a field
pub some_done : (line : List ℕ) (es : List Element) → check_some line es ≡ done tt → 0 < length es → length (literals line) < length line
unfolding check_some
some_done line [] h l = absurd (omega arith)
some_done line (e ∷ es) h l = go (has_field line) refl h
  where
    go : (t : Bool) → has_field line ≡ t → ◌≡◌ {A = Answer (Unit {0})} (pick t (done tt) (refused 9 0)) (done tt)
        → length (literals line) < length line
    go true k h = has_field_lem line k
    go false k h = let z : ◌≡◌ {A = ℕ} 0 1 = cc in absurd (omega arith)

-- what is printed is at most the forecast
pub forecast_holds : (line : List ℕ) (es : List Element) (texts : List ℕ) {p : Print} → printed line es texts ≡ done p
    → length p.bytes ≤ (length es + 1) * (length line + 1)
unfolding printed
forecast_holds line es texts {p} h =
    let counts = then_last (check_counts (length es) (length line)) _ h in
    let fields = then_last (check_fields 0 0 line) _ counts.1 in
    let some = then_last (check_some line es) _ fields.1 in
    let last = then_last (check_elements (length texts) 0 es) _ some.1 in
    let same : print_from texts line line es ≡ p = cc in
    let most = from_length texts line line es (some_done line es some.0) in
    let s = suc-mul (length es) (length line + 1) in
    let n : length (print_from texts line line es).bytes ≡ length p.bytes = ap (λ (x : Print). length x.bytes) same in
    omega arith
