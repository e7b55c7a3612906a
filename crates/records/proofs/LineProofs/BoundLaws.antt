-- Document 01, Print lines: a bound on the bytes that a line prints. Assumes nothing.
use Prim.Native.Nat.{ℕ, suc, ◌+◌, ◌*◌, ◌<◌, ◌≤◌}
use mathlib.Core.Path.{◌≡◌, refl, ap, sym, ◌∙◌}
use mathlib.Core.Logic.{⊎_elim}
use mathlib.Core.List.{List, [], ◌∷◌}
use mathlib.Core.Bool.{Bool, true, false}
use native.Mathlib.Omega.{arith}
use native.Mathlib.Nat.{mul-le-mul, add-mul}
use borrow.Author.Tests.{ltb-true}
use lib.Dec.{ltb}
use lib.ListN.{length, take, drop, length-drop}
use lib.Seq.{drop-length, length-take-le}
use Rattle.decimal.specs.Answer.{done, refused, pick}
use Rattle.decimal.proofs.DigitLaws.{le_or_lt}
use Rattle.records.specs.declared.lines.fields.Element.{Element}
use Rattle.records.specs.Lines.Scanning.{field_length}
use Rattle.records.specs.Lines.Fields.{element_bytes}
use Rattle.records.specs.Lines.Printing.{max_elements, max_line, literals, from_field, has_field, and_then, print_from, check_some, LineReady}
use Rattle.records.proofs.LineProofs.FieldTheorem.{longest_field}
use Rattle.records.proofs.LineProofs.FieldLaws.{element_length}
use Rattle.records.proofs.LineProofs.PrintLaws.{from_field_lem, literals_front, literals_whole, print_again, print_element, print_literals, step_length_lem}

-- The bound.

-- an element is as long as its field
pub field_length_lem : (texts left : List ℕ) (e : Element) → (field_length left ≡ 0 → ⊥)
    → length (element_bytes texts (take (field_length left) left) e) ≡ field_length left
field_length_lem texts left e h =
    element_length ((longest_field left).is_field h).1 texts e
    ∙ length-take-le (field_length left) left (longest_field left).inside

module _ (texts line : List ℕ) (some : length (literals line) < length line) where
  -- with a field ahead, where the bound holds of the elements behind the first
  bound_field : (e : Element) (es : List Element)
      → ((l : List ℕ) → length (print_from texts line l es).bytes ≤ length l + length es * (length line + 1))
      → (left : List ℕ)
      → length (literals left) < length left
      → length (print_from texts line left (e ∷ es)).bytes ≤ length left + length es * (length line + 1)
  bound_field e es rest left h =
      let f : List ℕ = from_field left in
      let n = from_field_lem left h in
      let b : List ℕ = drop (field_length f) f in
      let one : length (print_from texts line left (e ∷ es)).bytes ≡ length (literals left) + length (print_from texts line f (e ∷ es)).bytes =
      step_length_lem (record { step_is = print_literals texts line left (e ∷ es) }) in
      let two : length (print_from texts line f (e ∷ es)).bytes
      ≡ length (element_bytes texts (take (field_length f) f) e) + length (print_from texts line b es).bytes =
      step_length_lem (record { step_is = print_element texts line f e es n }) in
      omega (
        arith,
        field_length_lem texts f e n,
        rest b,
        length-drop (field_length f) f,
        length-drop (length (literals left)) left,
        (longest_field f).inside,
      )

  -- one element more
  bound_one : (e : Element) (es : List Element)
      → ((l : List ℕ) → length (print_from texts line l es).bytes ≤ length l + length es * (length line + 1))
      → (left : List ℕ)
      → length (print_from texts line left (e ∷ es)).bytes ≤ length left + length (e ∷ es) * (length line + 1)
  bound_one e es rest left = ⊎_elim ends goes (le_or_lt (length left) (length (literals left)))
    where
      all : suc (length es) * (length line + 1) ≡ length line + 1 + length es * (length line + 1)
      all = omega (arith, add-mul 1 (length es) (length line + 1))

      goes : length (literals left) < length left
          → length (print_from texts line left (e ∷ es)).bytes ≤ length left + length (e ∷ es) * (length line + 1)
      goes h = omega (arith, bound_field e es rest left h, all)

      ends : length left ≤ length (literals left)
          → length (print_from texts line left (e ∷ es)).bytes ≤ length left + length (e ∷ es) * (length line + 1)
      ends h =
          let w : literals left ≡ left = literals_whole left h in
          let z : from_field left ≡ [] = ap (λ (l : List ℕ). drop (length l) left) w ∙ drop-length left in
          let one : length (print_from texts line left (e ∷ es)).bytes ≡ length (literals left) + length (print_from texts line [] (e ∷ es)).bytes =
          step_length_lem
          (record {
            step_is =
                print_literals texts line left (e ∷ es)
                ∙ ap (λ (l : List ℕ). and_then (literals left) 0 (print_from texts line l (e ∷ es))) z;
          }) in
          let two : length (print_from texts line [] (e ∷ es)).bytes ≡ 1 + length (print_from texts line line (e ∷ es)).bytes =
          step_length_lem (record { step_is = print_again texts line e es some }) in
          omega (arith, ap length w, bound_field e es rest line some, all)

  -- from any part of a line on
  pub bound_from : (es : List Element) (left : List ℕ)
      → length (print_from texts line left es).bytes ≤ length left + length es * (length line + 1)
  unfolding print_from
  bound_from [] left = omega (arith, (literals_front left).0)
  bound_from (e ∷ es) left = bound_one e es (bound_from es) left

-- a line that can be measured has a field, if there are elements
pub ready_field : (line : List ℕ) (es : List Element) → LineReady line es → 0 < length es → length (literals line) < length line
unfolding check_some has_field
ready_field line [] r h = absurd (omega arith)
ready_field line (e ∷ es) r h = go (ltb (length (literals line)) (length line)) refl
  where
    go : (b : Bool) → ltb (length (literals line)) (length line) ≡ b → length (literals line) < length line
    go true t = ltb-true (length (literals line)) (length line) t
    go false t =
        let n : pick false (done tt) (refused 9 0) ≡ done tt = ap (λ (x : Bool). pick x (done tt) (refused 9 0)) (sym t) ∙ r.some in
        let z : ◌≡◌ {A = ℕ} 0 1 = cc in absurd (omega arith)

-- what is printed is at most the forecast
pub print_forecast : (texts line : List ℕ) (es : List Element) → LineReady line es
    → length (print_from texts line line es).bytes ≤ (length es + 1) * (length line + 1)
unfolding print_from
print_forecast texts line [] r = omega (arith, (literals_front line).0)
print_forecast texts line (e ∷ es) r =
    omega (
      arith,
      bound_from texts line (ready_field line (e ∷ es) r (omega arith)) (e ∷ es) line,
      add-mul (length (e ∷ es)) 1 (length line + 1),
    )

-- and so fits a usize
pub print_small : (texts line : List ℕ) (es : List Element) → LineReady line es
    → length (print_from texts line line es).bytes ≤ (max_elements + 1) * (max_line + 1)
print_small texts line es r =
    let few : length es + 1 ≤ max_elements + 1 = omega (arith, r.few) in
    let short : length line + 1 ≤ max_line + 1 = omega (arith, r.short) in
    omega (arith, print_forecast texts line es r, mul-le-mul few short)
