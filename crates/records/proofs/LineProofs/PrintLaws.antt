-- Document 01, Print lines: laws of what a line prints, step by step: literal bytes, an element in a field, the line's end. Assumes nothing.
use Prim.Native.Nat.{ℕ, ◌+◌, ◌<◌, ◌≤◌}
use mathlib.Core.Path.{◌≡◌, refl, ap, ap₂, sym, ◌∙◌}
use mathlib.Core.Logic.{⊎_elim}
use mathlib.Core.List.{List, [], ◌∷◌, ◌++◌, append_assoc, append-nil}
use native.Mathlib.Omega.{arith}
use native.Mathlib.Nat.{zero-add}
use borrow.Author.Tests.{lt-ltb, le-ltb, eq-eqb, ne_eqb}
use lib.ListN.{length, take, drop, length-append}
use lib.Seq.{take_all, drop-drop, drop-length}
use Rattle.decimal.proofs.DigitLaws.{le_or_lt}
use Rattle.decimal.proofs.BoolLaws.{zero_or_not}
use Rattle.records.specs.declared.lines.fields.Element.{Element}
use Rattle.records.specs.Lines.Scanning.{field_length}
use Rattle.records.specs.Lines.Fields.{element_bytes, element_spills}
use Rattle.codec.specs.Walking.{line_end}
use Rattle.records.specs.Lines.Printing.{literals, from_field, first_field, behind_field, has_field, Print, and_then, one_field, print_from}
use Rattle.records.proofs.LineProofs.FieldTheorem.{longest_field}

-- The literal bytes before the first field.

-- a literal byte at the front
literals_one : (b : ℕ) (bs : List ℕ) → field_length (b ∷ bs) ≡ 0 → literals (b ∷ bs) ≡ b ∷ literals bs
unfolding literals
literals_one b bs h = rw (eq-eqb (field_length (b ∷ bs)) 0 h)

-- a field at the front
pub literals_none : (bs : List ℕ) → (field_length bs ≡ 0 → ⊥) → literals bs ≡ []
unfolding literals
literals_none [] h = refl
literals_none (b ∷ bs) h = rw (ne_eqb (field_length (b ∷ bs)) 0 h)

-- they are the front of the bytes
pub literals_front : (left : List ℕ) → (length (literals left) ≤ length left) × (take (length (literals left)) left ≡ literals left)
unfolding literals
literals_front [] = (omega arith, refl)
literals_front (b ∷ bs) =
    ⊎_elim
    (λ h.
    let e = literals_one b bs h in
    let r = literals_front bs in
    (rw e (omega (arith, r.0)), rw e (ap (λ (l : List ℕ). b ∷ l) r.1)))
    (λ h. let e = literals_none (b ∷ bs) h in (rw e (omega arith), rw e))
    (zero_or_not (field_length (b ∷ bs)))

-- behind them stands no literal byte
pub from_none : (left : List ℕ) → literals (from_field left) ≡ []
unfolding literals
from_none [] = refl
from_none (b ∷ bs) =
    ⊎_elim
    (λ h. ap (λ (l : List ℕ). literals (drop (length l) (b ∷ bs))) (literals_one b bs h) ∙ from_none bs)
    (λ h. let e = literals_none (b ∷ bs) h in ap (λ (l : List ℕ). literals (drop (length l) (b ∷ bs))) e ∙ e)
    (zero_or_not (field_length (b ∷ bs)))

-- behind them stands a field, where bytes are left
pub from_field_lem : (left : List ℕ) → length (literals left) < length left → field_length (from_field left) ≡ 0 → ⊥
unfolding literals
from_field_lem [] l = absurd (omega arith)
from_field_lem (b ∷ bs) l =
    ⊎_elim
    (λ h z.
    let e = literals_one b bs h in
    from_field_lem bs (omega (arith, ap length e, l)) (ap (λ (x : List ℕ). field_length (drop (length x) (b ∷ bs))) (sym e) ∙ z))
    (λ h z. h (ap (λ (x : List ℕ). field_length (drop (length x) (b ∷ bs))) (sym (literals_none (b ∷ bs) h)) ∙ z))
    (zero_or_not (field_length (b ∷ bs)))

-- Printing, one step at a time.

-- nothing is left to print
abbrev pub nothing : Print
nothing = record { bytes = []; spilled = 0 }

-- two steps are one
and_then_both : (b c : List ℕ) (s t : ℕ) (p : Print) → and_then b s (and_then c t p) ≡ and_then (b ++ c) (s + t) p
unfolding and_then
and_then_both b c s t p = λ i. record { bytes = sym (append_assoc b c p.bytes) i; spilled = regroup i }
  where
    regroup : s + (t + p.spilled) ≡ s + t + p.spilled
    regroup = omega arith

-- the elements have run out where no literal byte is left
pub print_ends : (texts line left : List ℕ) → literals left ≡ [] → print_from texts line left [] ≡ nothing
unfolding print_from
print_ends texts line left h = λ i. record { bytes = h i; spilled = 0 }

-- with a field ahead
print_field_lem : (texts line left : List ℕ) (e : Element) (es : List Element) → length (literals left) < length left
    → print_from texts line left (e ∷ es) ≡ one_field texts left e (print_from texts line (behind_field left) es)
unfolding print_from has_field
print_field_lem texts line left e es h = rw (lt-ltb (length (literals left)) (length left) h)

-- with no field ahead
print_no_field : (texts line left : List ℕ) (e : Element) (es : List Element) → length left ≤ length (literals left)
    → print_from texts line left (e ∷ es)
    ≡ and_then (left ++ (line_end ∷ [])) 0 (one_field texts line e (print_from texts line (behind_field line) es))
unfolding print_from has_field
print_no_field texts line left e es h = rw (le-ltb (length (literals left)) (length left) h)

-- an element in the first field: the literal bytes, then the element
one_field_split : (texts left : List ℕ) (e : Element) (p : Print)
    → one_field texts left e p
    ≡ and_then (literals left) 0 (and_then (element_bytes texts (first_field left) e) (element_spills (first_field left) e) p)
unfolding one_field
one_field_split texts left e p =
    ap (λ (s : ℕ). and_then (literals left ++ element_bytes texts (first_field left) e) s p) (sym (zero-add (element_spills (first_field left) e)))
    ∙ sym (and_then_both (literals left) (element_bytes texts (first_field left) e) 0 (element_spills (first_field left) e) p)

-- no literal byte
and_then_nothing : (p : Print) → and_then [] 0 p ≡ p
unfolding and_then
and_then_nothing p = λ i. record { bytes = p.bytes; spilled = zero-add p.spilled i }

-- a field at the front: the element in it, then what is behind it
pub print_element : (texts line left : List ℕ) (e : Element) (es : List Element) → (field_length left ≡ 0 → ⊥)
    → print_from texts line left (e ∷ es)
    ≡ and_then
    (element_bytes texts (take (field_length left) left) e)
    (element_spills (take (field_length left) left) e)
    (print_from texts line (drop (field_length left) left) es)
unfolding first_field behind_field
print_element texts line left e es h =
    let none : literals left ≡ [] = literals_none left h in
    let some : 0 < length left = omega (arith, (longest_field left).inside, h) in
    let more : length (literals left) < length left = rw none some in
    print_field_lem texts line left e es more
    ∙ one_field_split texts left e (print_from texts line (behind_field left) es)
    ∙ ap
    (λ (l : List ℕ).
    and_then l 0
    (and_then
    (element_bytes texts (take (field_length (drop (length l) left)) (drop (length l) left)) e)
    (element_spills (take (field_length (drop (length l) left)) (drop (length l) left)) e)
    (print_from texts line (drop (field_length (drop (length l) left)) (drop (length l) left)) es)))
    none
    ∙ and_then_nothing
    (and_then
    (element_bytes texts (take (field_length left) left) e)
    (element_spills (take (field_length left) left) e)
    (print_from texts line (drop (field_length left) left) es))

-- all bytes are literal
pub literals_whole : (left : List ℕ) → length left ≤ length (literals left) → literals left ≡ left
literals_whole left h = sym (literals_front left).1 ∙ take_all (length (literals left)) left h

-- the literal bytes come first
pub print_literals : (texts line left : List ℕ) (es : List Element)
    → print_from texts line left es ≡ and_then (literals left) 0 (print_from texts line (from_field left) es)
unfolding print_from and_then first_field behind_field
print_literals texts line left [] =
    λ i. record {
      bytes = (sym (append-nil (literals left)) ∙ ap (λ (l : List ℕ). literals left ++ l) (sym (from_none left))) i;
      spilled = 0;
    }
print_literals texts line left (e ∷ es) = ⊎_elim ends goes (le_or_lt (length left) (length (literals left)))
  where
    goes : length (literals left) < length left
        → print_from texts line left (e ∷ es) ≡ and_then (literals left) 0 (print_from texts line (from_field left) (e ∷ es))
    goes h =
        print_field_lem texts line left e es h
        ∙ one_field_split texts left e (print_from texts line (behind_field left) es)
        ∙ ap (and_then (literals left) 0) (sym (print_element texts line (from_field left) e es (from_field_lem left h)))

    ends : length left ≤ length (literals left)
        → print_from texts line left (e ∷ es) ≡ and_then (literals left) 0 (print_from texts line (from_field left) (e ∷ es))
    ends h =
        let w : literals left ≡ left = literals_whole left h in
        let z : from_field left ≡ [] = ap (λ (l : List ℕ). drop (length l) left) w ∙ drop-length left in
        let rest : Print = one_field texts line e (print_from texts line (behind_field line) es) in
        print_no_field texts line left e es h
        ∙ sym (and_then_both left (line_end ∷ []) 0 0 rest)
        ∙ ap (and_then left 0) (sym (print_no_field texts line [] e es (omega arith)))
        ∙ ap₂ (λ (l m : List ℕ). and_then l 0 (print_from texts line m (e ∷ es))) (sym w) (sym z)

-- at the line's end with an element left, 0A is printed and the line begins again
pub print_again : (texts line : List ℕ) (e : Element) (es : List Element) → length (literals line) < length line
    → print_from texts line [] (e ∷ es) ≡ and_then (line_end ∷ []) 0 (print_from texts line line (e ∷ es))
print_again texts line e es h =
    print_no_field texts line [] e es (omega arith) ∙ ap (and_then (line_end ∷ []) 0) (sym (print_field_lem texts line line e es h))

-- Steps from a place of the line on.

-- what is printed from here on is these bytes, with so many spilled, and then the rest
pub record Step (p : Print) (bytes : List ℕ) (spilled : ℕ) (rest : Print) : Type 0 where
  pub step_is : p ≡ and_then bytes spilled rest

-- the length of a step
pub step_length_lem : {p q : Print} {b : List ℕ} {s : ℕ} → Step p b s q → length p.bytes ≡ length b + length q.bytes
unfolding and_then
step_length_lem {p} {q} {b} {s} h = ap (λ (x : Print). length x.bytes) h.step_is ∙ length-append b q.bytes

-- the bytes of a step
pub step_bytes : {p q : Print} {b : List ℕ} {s : ℕ} → Step p b s q → p.bytes ≡ b ++ q.bytes
unfolding and_then
step_bytes h = ap (λ (x : Print). x.bytes) h.step_is

-- the spilled count of a step
pub step_spills : {p q : Print} {b : List ℕ} {s : ℕ} → Step p b s q → p.spilled ≡ s + q.spilled
unfolding and_then
step_spills h = ap (λ (x : Print). x.spilled) h.step_is

-- the literal bytes from a place on
pub step_literals : (texts line : List ℕ) (es : List Element) (from start : ℕ) → start ≡ from + length (literals (drop from line))
    → Step (print_from texts line (drop from line) es) (literals (drop from line)) 0 (print_from texts line (drop start line) es)
step_literals texts line es from start h =
    record {
      step_is =
          print_literals texts line (drop from line) es
          ∙ ap
          (λ (l : List ℕ). and_then (literals (drop from line)) 0 (print_from texts line l es))
          (drop-drop (length (literals (drop from line))) from line ∙ ap (λ (k : ℕ). drop k line) (sym h));
    }

-- an element in the field at a place
pub step_element : (texts line : List ℕ) (e : Element) (es : List Element) (start : ℕ) {size : ℕ} → size ≡ field_length (drop start line)
    → (size ≡ 0 → ⊥)
    → Step
    (print_from texts line (drop start line) (e ∷ es))
    (element_bytes texts (take size (drop start line)) e)
    (element_spills (take size (drop start line)) e)
    (print_from texts line (drop (start + size) line) es)
step_element texts line e es start {size} h n =
    let left : List ℕ = drop start line in
    rw h
    (record {
      step_is =
          print_element texts line left e es (λ z. n (h ∙ z))
          ∙ ap
          (λ (l : List ℕ).
          and_then (element_bytes texts (take (field_length left) left) e) (element_spills (take (field_length left) left) e) (print_from texts line l es))
          (drop-drop (field_length left) start line);
    })

-- the line's end with an element left
pub step_line : (texts line : List ℕ) (es : List Element) (from : ℕ)
    → 0 < length es
    → length (literals line) < length line
    → from ≡ length line
    → Step (print_from texts line (drop from line) es) (line_end ∷ []) 0 (print_from texts line line es)
step_line texts line [] from h n f = absurd (omega arith)
step_line texts line (e ∷ es) from h n f =
    record {
      step_is =
          ap (λ (l : List ℕ). print_from texts line l (e ∷ es)) (ap (λ (k : ℕ). drop k line) f ∙ drop-length line)
          ∙ print_again texts line e es n;
    }
