-- Where the print loops stand: the place in the line, the elements left, and the spilled ones so far. Assumes nothing.
use mir.Val.{bool_byte}
use Prim.Native.Nat.{ℕ, zero, suc, ◌+◌, ◌-◌, ◌*◌, ◌<◌, ◌≤◌}
use mathlib.Core.Path.{◌≡◌, refl, ap, sym, ◌∙◌, subst}
use mathlib.Core.List.{List, [], ◌∷◌, ◌++◌}
use mathlib.Core.Bool.{Bool, false}
use lib.Dec.{eqb}
use native.Mathlib.Omega.{arith}
use native.Mathlib.Nat.{zero-add}
use lib.ListN.{length, take, drop, get_or, length-drop}
use Rattle.std.proofs.lemmas.List.{nil_from_length, take_rest}
use lib.Seq.{drop-cons, drop-drop, take_at, drop_at, take-add}
use Rattle.decimal.specs.Answer.{Answer, done, refused}
use Rattle.records.specs.declared.lines.fields.Element.{Element}
use Rattle.records.specs.declared.lines.fields.Element.TheVariants as element
use Rattle.records.specs.Lines.Scanning.{field_length}
use Rattle.records.specs.Lines.Fields.{number_in, spilled_by, element_bytes, element_spills, FieldReady}
use Rattle.records.specs.Lines.Printing.{max_elements, max_line, literals, Print, print_from, check_element, check_fields, LineReady}
use Rattle.records.specs.declared.lines.line_fields.Field.{Field}
use Rattle.records.proofs.LineProofs.CheckLaws.{Checked, checked_cons, reached_ready}
use Rattle.records.specs.Lines.LineFields.{Listed}
use Rattle.records.proofs.LineProofs.LineFieldLaws.{AtField, NextField, at_first, listed_next, listed_over, listed_some, no_field}
use Rattle.records.proofs.LineProofs.PrintLaws.{Step, from_none, nothing, print_ends, step_bytes, step_element, step_length_lem, step_line, step_literals, step_spills}
use Rattle.records.proofs.LineProofs.BoundLaws.{field_length_lem, print_small, ready_field}

-- Where the print loops stand.

-- so many bytes of the whole are printed, and this is the rest
pub record Stands (whole : Print) (out : ℕ) (rest : Print) : Type 0 where
  pub behind : drop out whole.bytes ≡ rest.bytes
  pub size : out + length rest.bytes ≡ length whole.bytes

-- an element is as long as its field
pub element_size : (texts line : List ℕ) (e : Element) (from : ℕ) {size : ℕ} → size ≡ field_length (drop from line) → (size ≡ 0 → ⊥)
    → length (element_bytes texts (take size (drop from line)) e) ≡ size
element_size texts line e from h n = rw h (field_length_lem texts (drop from line) e (λ z. n (h ∙ z)))

-- one step on
pub stands_next : {w p q : Print} {b : List ℕ} {s out : ℕ} (n : ℕ) → Stands w out p → Step p b s q → length b ≡ n → Stands w (out + n) q
stands_next {w} {p} {q} {b} {s} {out} n h st l =
    record {
      behind =
          sym (drop-drop n out w.bytes) ∙ ap (drop n) (h.behind ∙ step_bytes st) ∙ drop_at b q.bytes n l;
      size = omega (arith, h.size, step_length_lem st);
    }

-- the bytes up to there
pub front_next : {w p q : Print} {b : List ℕ} {s out : ℕ} (n : ℕ) → Stands w out p → Step p b s q → length b ≡ n
    → take (out + n) w.bytes ≡ take out w.bytes ++ b
front_next {w} {p} {q} {b} {s} {out} n h st l =
    take-add out n w.bytes
    ∙ ap (λ (x : List ℕ). take out w.bytes ++ x) (ap (take n) (h.behind ∙ step_bytes st) ∙ take_at b q.bytes n l)

-- what stands for an element behind a list's end
abbrev pub zero_element : Element
zero_element = element.Number (record { negative = false; mantissa = 0; exponent = 0 })

-- the first of the elements left, and the others
pub first_left : (left : List Element) → 0 < length left → left ≡ get_or left 0 zero_element ∷ take (length left - 1) (drop 1 left)
first_left left h = drop-cons left 0 zero_element h ∙ ap (λ (l : List Element). get_or left 0 zero_element ∷ l) (sym (take_rest left 1))

-- the first of them can be printed, and the others are not refused
pub checked_left : {room : ℕ} (left : List Element) → 0 < length left → Checked room left
    → (check_element room 0 (get_or left 0 zero_element) ≡ done tt) × Checked room (take (length left - 1) (drop 1 left))
checked_left {room} left h c = checked_cons (subst (Checked room) (first_left left h) c)

-- the place of the print loops: so many bytes are printed, up to a place of the line, and these elements are left
pub record Place (line : List ℕ) (es left : List Element) (from out : ℕ) : Type 0 where
  pub within : length left ≤ length es
  pub stands : (texts : List ℕ) → Stands (print_from texts line line es) out (print_from texts line (drop from line) left)

-- before the first byte
pub place_starts : (line : List ℕ) (es : List Element) → Place line es es 0 0
place_starts line es = record { within = omega arith; stands = λ texts. record { behind = refl; size = zero-add _ } }

-- behind a field
pub place_element : {line : List ℕ} {es rest : List Element} {e : Element} {from out size : ℕ} → Place line es (e ∷ rest) from out
    → size ≡ field_length (drop from line)
    → (size ≡ 0 → ⊥)
    → Place line es rest (from + size) (out + size)
place_element {line} {es} {rest} {e} {from} {out} {size} p h n =
    record {
      within = omega (arith, p.within);
      stands = λ texts. stands_next size (p.stands texts) (step_element texts line e rest from h n) (element_size texts line e from h n);
    }

module _ {line : List ℕ} {es left : List Element} {from out : ℕ} (p : Place line es left from out) where
  -- behind the literal bytes
  pub place_literals : {start : ℕ} → start ≡ from + length (literals (drop from line)) → Place line es left start (out + (start - from))
  place_literals {start} h =
      record {
        within = p.within;
        stands = λ texts. stands_next (start - from) (p.stands texts) (step_literals texts line left from start h) (omega arith);
      }

  -- at the next line's start
  pub place_line : LineReady line es → 0 < length left → from ≡ length line → Place line es left 0 (out + 1)
  place_line r h e =
      record {
        within = p.within;
        stands = λ texts. stands_next 1 (p.stands texts) (step_line texts line left from h (ready_field line es r (omega (arith, p.within))) e) refl;
      }

  -- where no element and no literal byte is left, all is printed
  pub place_ends : length left ≡ 0 → literals (drop from line) ≡ [] → (texts : List ℕ) → out ≡ length (print_from texts line line es).bytes
  place_ends z n texts =
      let last : print_from texts line (drop from line) left ≡ nothing =
      ap (print_from texts line (drop from line)) (nil_from_length left z) ∙ print_ends texts line (drop from line) n in
      omega (arith, (p.stands texts).size, ap (λ (x : Print). length x.bytes) last)

  -- no sum of bytes is too large
  pub place_small : LineReady line es → out ≤ (max_elements + 1) * (max_line + 1)
  place_small r = omega (arith, (p.stands []).size, print_small [] line es r)

-- One turn of the inner loops, up to behind the next field.

module _ {line : List ℕ} {next place : ℕ} {f : Field} (x : NextField line next place f) where
  -- the code's part of the line is the field
  pub next_part : take (f.start + f.length - f.start) (drop f.start line) ≡ take f.length (drop f.start line)
  next_part = let e : f.start + f.length - f.start ≡ f.length = omega arith in ap (λ (k : ℕ). take k (drop f.start line)) e

  -- it can be filled
  pub next_ready : check_fields 0 0 line ≡ done tt → FieldReady (take (f.start + f.length - f.start) (drop f.start line))
  next_ready h =
      rw (next_part, x.found) (reached_ready h x.reached (λ z. x.some (x.found ∙ z)))

  -- the place behind it
  pub place_next : {es left : List Element} {out : ℕ} → Place line es left place out → 0 < length left
      → Place line es (take (length left - 1) (drop 1 left)) (f.start + f.length) (out + (f.start - place) + f.length)
  place_next {es} {left} {out} p h =
      place_element (subst (λ (l : List Element). Place line es l f.start (out + (f.start - place))) (first_left left h) (place_literals p x.first)) x.found x.some

-- A pass over the line: the place stands behind so many of its fields, and as many of the elements that were left at its start are used.

pub record Pass (line : List ℕ) (es first left : List Element) (next place : ℕ) : Type 0 where
  pub at_field : AtField line next place
  pub used : length left + next ≡ length first
  pub within : length first ≤ length es

-- before the first field
pub pass_starts : (line : List ℕ) {es first : List Element} → length first ≤ length es → Pass line es first first 0 0
pass_starts line h = record { at_field = at_first line; used = omega arith; within = h }

module _ {line : List ℕ} {fields : List Field} {es first left : List Element} {next place : ℕ}
    (listed : Listed line fields) (p : Pass line es first left next place) where
  -- the next field
  pub pass_field : next < length fields → NextField line next place (get_or fields next no_field)
  pass_field h = listed_next listed p.at_field h

  -- behind it, with one element fewer
  pub pass_next : next < length fields → 0 < length left
      → Pass line es first (take (length left - 1) (drop 1 left)) (next + 1) ((get_or fields next no_field).start + (get_or fields next no_field).length)
  pass_next h some =
      record { at_field = (pass_field h).on; used = omega (arith, ap length (take_rest left 1), length-drop 1 left, p.used); within = p.within }

  module _ (ready : LineReady line es) (end : length fields ≤ next) where
    -- behind the last field the rest of the line is literal
    pub pass_over : length line ≡ place + length (literals (drop place line))
    pass_over = listed_over listed p.at_field end (omega (arith, p.used, p.within, ready.few))

    -- and elements were used, where there are any
    pub pass_fewer : (length left ≡ 0 → ⊥) → length left < length first
    pass_fewer some =
        omega (arith, p.used, listed_some listed (ready_field line es ready (omega (arith, p.used, p.within, some))), some)

-- The count of spilled elements.

-- an answer counts at most once
at_most : (a : Answer (List ℕ)) → spilled_by a ≤ 1
unfolding spilled_by
at_most (done bytes) = omega arith
at_most (refused number place) = omega arith

-- an element counts at most once
pub spills_once : (bytes : List ℕ) (e : Element) → element_spills bytes e ≤ 1
unfolding element_spills
spills_once bytes (element.Number n) = at_most (number_in bytes n)
spills_once bytes (element.Text start size) = omega arith

-- so it counts as whether it is spilled, a truth value as a number
pub spills_counted : (bytes : List ℕ) (e : Element) {spilled : Bool} {n : ℕ} → spilled ≡ eqb (element_spills bytes e) 1 → n ≡ bool_byte spilled
    → n ≡ element_spills bytes e
spills_counted bytes e is counts = counts ∙ ap bool_byte is ∙ go (element_spills bytes e) (spills_once bytes e)
  where
    go : (k : ℕ) → k ≤ 1 → bool_byte (eqb k 1) ≡ k
    go zero h = refl
    go (suc zero) h = refl
    go (suc (suc k)) h = absurd (omega arith)

-- so many elements are spilled up to a place of the line
pub record Spills (line : List ℕ) (es left : List Element) (from spilled : ℕ) : Type 0 where
  pub few : spilled + length left ≤ length es
  pub counted : (texts : List ℕ) → spilled + (print_from texts line (drop from line) left).spilled ≡ (print_from texts line line es).spilled

-- before the first byte
pub spills_start : (line : List ℕ) (es : List Element) → Spills line es es 0 0
spills_start line es = record { few = omega arith; counted = λ texts. zero-add _ }

-- behind a field
pub spills_element : {line : List ℕ} {es rest : List Element} {e : Element} {from spilled size n : ℕ} → Spills line es (e ∷ rest) from spilled
    → size ≡ field_length (drop from line)
    → (size ≡ 0 → ⊥)
    → n ≡ element_spills (take size (drop from line)) e
    → Spills line es rest (from + size) (spilled + n)
spills_element {line} {es} {rest} {e} {from} {spilled} {size} {n} p h m k =
    record {
      few = omega (arith, p.few, spills_once (take size (drop from line)) e);
      counted = λ texts. omega (arith, p.counted texts, step_spills (step_element texts line e rest from h m));
    }

module _ {line : List ℕ} {es left : List Element} {from spilled : ℕ} (p : Spills line es left from spilled) where
  -- behind the literal bytes
  pub spills_literals : {start : ℕ} → start ≡ from + length (literals (drop from line)) → Spills line es left start spilled
  spills_literals {start} h =
      record { few = p.few; counted = λ texts. omega (arith, p.counted texts, step_spills (step_literals texts line left from start h)) }

  -- at the next line's start
  pub spills_line : LineReady line es → 0 < length left → from ≡ length line → Spills line es left 0 spilled
  spills_line r h e =
      record {
        few = p.few;
        counted = λ texts. omega (arith, p.counted texts, step_spills (step_line texts line left from h (ready_field line es r (omega (arith, p.few))) e));
      }

  -- where no element is left, all are counted
  pub spills_end : length left ≡ 0 → (texts : List ℕ) → spilled ≡ (print_from texts line line es).spilled
  unfolding print_from
  spills_end z texts =
      omega (arith, p.counted texts, ap (λ (x : List Element). (print_from texts line (drop from line) x).spilled) (nil_from_length left z))

-- behind the next field
pub spills_next : {line : List ℕ} {es left : List Element} {place spilled next n : ℕ} {f : Field} → NextField line next place f
    → Spills line es left place spilled
    → 0 < length left
    → n ≡ element_spills (take (f.start + f.length - f.start) (drop f.start line)) (get_or left 0 zero_element)
    → Spills line es (take (length left - 1) (drop 1 left)) (f.start + f.length) (spilled + n)
spills_next {line} {es} {left} {spilled = spilled} {f = f} x p h k =
    spills_element (subst (λ (l : List Element). Spills line es l f.start spilled) (first_left left h) (spills_literals p x.first)) x.found x.some
    (k ∙ ap (λ (field : List ℕ). element_spills field (get_or left 0 zero_element)) (next_part x))

-- behind the literal bytes stands no literal byte
pub literals_at : (line : List ℕ) (from : ℕ) {start : ℕ} → start ≡ from + length (literals (drop from line)) → literals (drop start line) ≡ []
literals_at line from {start} h =
    ap (λ (k : ℕ). literals (drop k line)) h
    ∙ ap literals (sym (drop-drop (length (literals (drop from line))) from line))
    ∙ from_none (drop from line)
