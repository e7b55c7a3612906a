-- The laws of the checks of a line: its literal bytes, its fields from the left, and its elements.
-- Assumes nothing.
use Rattle.std.proofs.Common.{Result, Ok, Err}
use Rattle.std.specs.Result.{MatchResult, is_ok}
use Prim.Native.Nat.{ℕ, zero, suc, pred, ◌+◌, ◌*◌, ◌-◌, ◌<◌, ◌≤◌}
use native.Mathlib.Omega.{arith}
use native.Mathlib.Numerals.{add-one}
use mathlib.Core.Path.{◌≡◌, refl, ap, sym, ◌∙◌}
use mathlib.Core.Logic.{◌⊎◌, ⊎_elim}
use mathlib.Core.List.{List, [], ◌∷◌}
use mathlib.Core.Bool.{Bool, true, false, ◌&&◌}
use lib.Dec.{eqb, leb}
use lib.ListN.{length, take, drop, get_or, drop_of_length-le, length-drop}
use lib.Seq.{drop-cons, drop-drop}
use Rattle.std.proofs.lemmas.Bool.{leb-true}
use borrow.Author.Tests.{eq-eqb, ne_eqb, lt-ltb, le-ltb, le-leb, lt-leb}
use Rattle.decimal.specs.Image.{Start}
use Rattle.decimal.specs.declared.number.Number.{Number}
use Rattle.decimal.specs.declared.refusal.Refusal.{Refusal}
use Rattle.decimal.specs.Answer.{Answer, done, refused, ◌then◌, pick, checked_only, meaning}
use Rattle.decimal.specs.Digits.{precision}
use Rattle.decimal.specs.Number.{normal, check_number}
use Rattle.decimal.specs.Image.{hashes, scanned_image}
use Rattle.decimal.proofs.DigitLaws.{le_or_lt}
use Rattle.decimal.proofs.BoolLaws.{zero_or_not}
use Rattle.decimal.proofs.ImageLaws.{hashes_from}
use Rattle.decimal.proofs.AnswerLaws.{then_last, then_next, then_refused}
use Rattle.records.specs.declared.lines.fields.Element.{Element}
use Rattle.records.specs.declared.lines.fields.Element.TheVariants as element
use Rattle.records.specs.Lines.Scanning.{field_length, longest_from}
use Rattle.records.specs.Lines.Fields.{FieldReady}
use Rattle.records.specs.Lines.Printing.{max_elements, max_line, literals, has_field, check_fields, check_element, check_elements, check_some, check_counts, line_checks, forecasting, text_outside, LineReady, Reached, at_start, after_literal, after_field}
use Rattle.records.proofs.LineProofs.FieldTheorem.{longest_field}

-- Literal bytes.

-- no field stands behind a line's end
pub no_bytes_field : field_length [] ≡ 0
unfolding field_length longest_from
no_bytes_field = refl

-- before a field there is no literal byte
pub literals_field : (bs : List ℕ) → (field_length bs ≡ 0 → ⊥) → length (literals bs) ≡ 0
unfolding literals
literals_field [] h = refl
literals_field (b ∷ bs) h = rw (ne_eqb (field_length (b ∷ bs)) 0 h)

-- a literal byte is followed by the others
literals_cons : (b : ℕ) (bs : List ℕ) → field_length (b ∷ bs) ≡ 0 → length (literals (b ∷ bs)) ≡ suc (length (literals bs))
unfolding literals
literals_cons b bs h = rw (eq-eqb (field_length (b ∷ bs)) 0 h)

-- what is left of a line begins with the byte at its place
pub left_cons : (line : List ℕ) (k : ℕ) → k < length line → drop k line ≡ get_or line k 0 ∷ drop (k + 1) line
left_cons line k h = rw (add-one, drop-cons line k 0)

-- the same at a place of a line
pub literals_literal : (line : List ℕ) (k : ℕ) → k < length line → field_length (drop k line) ≡ 0
    → length (literals (drop k line)) ≡ 1 + length (literals (drop (k + 1) line))
literals_literal line k h e =
    let l = left_cons line k h in
    let one : length (literals (get_or line k 0 ∷ drop (k + 1) line)) ≡ suc (length (literals (drop (k + 1) line))) =
    literals_cons (get_or line k 0) (drop (k + 1) line) (ap field_length (sym l) ∙ e) in
    let same : length (literals (drop k line)) ≡ length (literals (get_or line k 0 ∷ drop (k + 1) line)) =
    ap (λ (x : List ℕ). length (literals x)) l in
    omega arith

-- the literal bytes stand inside the line
pub literals_inside : (bs : List ℕ) → length (literals bs) ≤ length bs
unfolding literals
literals_inside [] = omega arith
literals_inside (b ∷ bs) = go (eqb (field_length (b ∷ bs)) 0) (literals_inside bs)
  where
    go : (t : Bool) → length (literals bs) ≤ length bs → length (pick t (b ∷ literals bs) []) ≤ suc (length bs)
    go true ih = omega arith
    go false ih = omega arith

-- behind the literal bytes stands a field, if the line goes on there
pub literals_stop : (bs : List ℕ) → length (literals bs) < length bs → field_length (drop (length (literals bs)) bs) ≡ 0 → ⊥
literals_stop [] h e = omega arith
literals_stop (b ∷ bs) h e =
    ⊎_elim
    (λ z.
    let one : length (literals (b ∷ bs)) ≡ suc (length (literals bs)) = literals_cons b bs z in
    literals_stop bs (omega arith) (ap (λ (n : ℕ). field_length (drop n (b ∷ bs))) (sym one) ∙ e))
    (λ z.
    let none : length (literals (b ∷ bs)) ≡ 0 = literals_field (b ∷ bs) z in
    z (ap (λ (n : ℕ). field_length (drop n (b ∷ bs))) (sym none) ∙ e))
    (zero_or_not (field_length (b ∷ bs)))

-- Fields.

-- the # signs of bytes are no more than the bytes
pub hashes_few : (bs : List ℕ) → hashes (scanned_image bs) ≤ length bs
unfolding scanned_image
hashes_few bs = hashes_from Start bs

-- inside a field the bytes are passed over
pub check_inside : (index k : ℕ) (bs : List ℕ) → check_fields index k bs ≡ check_fields index 0 (drop k bs)
unfolding check_fields
check_inside index zero bs = refl
check_inside index (suc k) [] = refl
check_inside index (suc k) (b ∷ bs) = check_inside index k bs

-- behind the last byte nothing is refused
pub check_end : (index : ℕ) (line : List ℕ) (k : ℕ) → length line ≤ k → check_fields index 0 (drop k line) ≡ done tt
unfolding check_fields
check_end index line k h = ap (check_fields index 0) (drop_of_length-le line h)

-- a literal byte is passed over
check_cons_literal : (index b : ℕ) (bs : List ℕ) → field_length (b ∷ bs) ≡ 0 → check_fields index 0 (b ∷ bs) ≡ check_fields index 0 bs
unfolding check_fields
check_cons_literal index b bs e = rw (eq-eqb (field_length (b ∷ bs)) 0 e)

-- the same at a place of a line
pub check_literal : (index : ℕ) (line : List ℕ) (k : ℕ) → k < length line → field_length (drop k line) ≡ 0
    → check_fields index 0 (drop (k + 1) line) ≡ check_fields index 0 (drop k line)
check_literal index line k h e =
    let l = left_cons line k h in
    sym (ap (check_fields index 0) l ∙ check_cons_literal index (get_or line k 0) (drop (k + 1) line) (ap field_length (sym l) ∙ e))

-- a field of too many # signs is refused
pub check_many : (index : ℕ) (bs : List ℕ) → (field_length bs ≡ 0 → ⊥) → precision < hashes (scanned_image (take (field_length bs) bs))
    → check_fields index 0 bs ≡ refused 2 index
unfolding check_fields
check_many index [] e h = absurd (e no_bytes_field)
check_many index (b ∷ bs) e h =
    rw (ne_eqb (field_length (b ∷ bs)) 0 e, lt-ltb precision (hashes (scanned_image (take (field_length (b ∷ bs)) (b ∷ bs)))) h)

-- a nonempty beginning passed over
pub drop_pred : (n b : ℕ) (bs : List ℕ) → (n ≡ 0 → ⊥) → drop (pred n) bs ≡ drop n (b ∷ bs)
drop_pred zero b bs h = absurd (h refl)
drop_pred (suc n) b bs h = refl

-- another field is passed over
pub check_few : (index : ℕ) (bs : List ℕ) → (field_length bs ≡ 0 → ⊥) → hashes (scanned_image (take (field_length bs) bs)) ≤ precision
    → check_fields index 0 bs ≡ check_fields (suc index) 0 (drop (field_length bs) bs)
unfolding check_fields
check_few index [] e h = absurd (e no_bytes_field)
check_few index (b ∷ bs) e h =
    rw (ne_eqb (field_length (b ∷ bs)) 0 e, le-ltb precision (hashes (scanned_image (take (field_length (b ∷ bs)) (b ∷ bs)))) h)
    (check_inside (suc index) (pred (field_length (b ∷ bs))) bs
    ∙ ap (check_fields (suc index) 0) (drop_pred (field_length (b ∷ bs)) b bs e))

-- the same at a place of a line
pub check_field : (index : ℕ) (line : List ℕ) (k : ℕ) → (field_length (drop k line) ≡ 0 → ⊥)
    → hashes (scanned_image (take (field_length (drop k line)) (drop k line))) ≤ precision
    → check_fields (index + 1) 0 (drop (k + field_length (drop k line)) line) ≡ check_fields index 0 (drop k line)
check_field index line k e h =
    sym (check_few index (drop k line) e h
    ∙ ap (check_fields (suc index) 0) (drop-drop (field_length (drop k line)) k line)
    ∙ ap (λ (i : ℕ). check_fields i 0 (drop (k + field_length (drop k line)) line)) (sym (add-one index)))

-- a field of a line not refused has no more # signs than a number has digits
pub few_hashes : (index : ℕ) (bs : List ℕ) → (field_length bs ≡ 0 → ⊥) → check_fields index 0 bs ≡ done tt
    → hashes (scanned_image (take (field_length bs) bs)) ≤ precision
few_hashes index bs e h =
    ⊎_elim
    (λ le. le)
    (λ lt. let many = check_many index bs e lt in let z : ◌≡◌ {A = ℕ} 0 1 = cc in absurd (omega arith))
    (le_or_lt (hashes (scanned_image (take (field_length bs) bs))) precision)

-- where there is a literal byte, the place is inside the line
pub some_literal : (line : List ℕ) (k n : ℕ) → length (literals (drop k line)) ≡ suc n → k < length line
some_literal line k n e =
    let i : length (literals (drop k line)) ≤ length (drop k line) = literals_inside (drop k line) in
    let l : length (drop k line) ≡ length line - k = length-drop k line in
    omega arith

-- and no field stands there
pub literal_first : (bs : List ℕ) (n : ℕ) → length (literals bs) ≡ suc n → field_length bs ≡ 0
literal_first bs n e =
    ⊎_elim (λ z. z) (λ z. let none = literals_field bs z in absurd (omega arith)) (zero_or_not (field_length bs))

-- a field ends inside the line
pub field_inside : (line : List ℕ) (k : ℕ) → k ≤ length line → k + field_length (drop k line) ≤ length line
field_inside line k h =
    let i : field_length (drop k line) ≤ length (drop k line) = (longest_field (drop k line)).inside in
    let l : length (drop k line) ≡ length line - k = length-drop k line in
    omega arith

-- Places of a line.

-- at a place that is reached, the check goes on as from the line's start
pub reached_checks : {line : List ℕ} {k : ℕ} → Reached line k → check_fields 0 0 line ≡ done tt
    → (index : ℕ) × (check_fields index 0 (drop k line) ≡ done tt)
reached_checks at_start h = (0, h)
reached_checks {line} {k} (after_literal {j} r l e n) h =
    let before = reached_checks r h in
    (before.0, ap (λ (m : ℕ). check_fields before.0 0 (drop m line)) n ∙ check_literal before.0 line j l e ∙ before.1)
reached_checks {line} {k} (after_field {j} r e n) h =
    let before = reached_checks r h in
    let few : hashes (scanned_image (take (field_length (drop j line)) (drop j line))) ≤ precision = few_hashes before.0 (drop j line) e before.1 in
    (before.0 + 1, ap (λ (m : ℕ). check_fields (before.0 + 1) 0 (drop m line)) n ∙ check_field before.0 line j e few ∙ before.1)

-- a field that is reached in a line not refused can be printed into
pub reached_ready : {line : List ℕ} {k : ℕ} → check_fields 0 0 line ≡ done tt → Reached line k → (field_length (drop k line) ≡ 0 → ⊥)
    → FieldReady (take (field_length (drop k line)) (drop k line))
reached_ready {line} {k} h r e =
    let checked = reached_checks r h in
    let f = (longest_field (drop k line)).is_field e in
    record { parts = f.0; is_field = f.1; fits = few_hashes checked.0 (drop k line) e checked.1 }

-- literal bytes are passed one by one
reached_over : {line : List ℕ} (n : ℕ) {k : ℕ} → Reached line k → length (literals (drop k line)) ≡ n → Reached line (k + n)
reached_over {line} zero {k} r e = let z : k + 0 ≡ k = omega arith in rw z r
reached_over {line} (suc n) {k} r e =
    let l : k < length line = some_literal line k n e in
    let f : field_length (drop k line) ≡ 0 = literal_first (drop k line) n e in
    let one = literals_literal line k l f in
    let z : k + 1 + n ≡ k + suc n = omega arith in
    rw z at (reached_over n {k = k + 1} (after_literal r l f refl) (omega arith))

-- behind the literal bytes of a place that is reached
pub reached_next : {line : List ℕ} {k : ℕ} → Reached line k → Reached line (k + length (literals (drop k line)))
reached_next {line} {k} r = reached_over (length (literals (drop k line))) r refl

-- Elements.

-- the place of a refusal does not decide a test
same_test : (t : Bool) (number i j : ℕ) → ◌≡◌ {A = Answer (Unit {0})} (pick t (done tt) (refused number i)) (done tt)
    → ◌≡◌ {A = Answer (Unit {0})} (pick t (done tt) (refused number j)) (done tt)
same_test true number i j h = refl
same_test false number i j h = let z : ◌≡◌ {A = ℕ} 0 1 = cc in absurd (omega arith)

-- whether an element is refused does not depend on its place
checked_anywhere : (room i j : ℕ) (e : Element) → check_element room i e ≡ done tt → check_element room j e ≡ done tt
unfolding check_element
checked_anywhere room i j (element.Number n) h = same_test (normal n) 3 i j h
checked_anywhere room i j (element.Text from size) h = same_test (leb (from + size) room) text_outside i j h

-- elements are not refused, whatever number the first of them has
pub record Checked (room : ℕ) (es : List Element) : Type 0 where
  pub index : ℕ
  pub fine : check_elements room index es ≡ done tt

-- the first of them can be printed, and the others are not refused
pub checked_cons : {room : ℕ} {e : Element} {es : List Element} → Checked room (e ∷ es) → (check_element room 0 e ≡ done tt) × Checked room es
unfolding check_elements
checked_cons {room} {e} {es} c =
    let both = then_last (check_element room c.index e) (check_elements room (suc c.index) es) c.fine in
    (checked_anywhere room c.index 0 e both.0, record { index = suc c.index; fine = both.1 })

-- the elements from a place on: the first one, then the others
elements_cons : (room index : ℕ) (es : List Element) (d : Element) → index < length es
    → check_elements room index (drop index es) ≡ (check_element room index (get_or es index d) then λ _. check_elements room (index + 1) (drop (index + 1) es))
unfolding check_elements
elements_cons room index es d h = rw (add-one, drop-cons es index d)

-- an element that is refused
pub elements_refused : (room index : ℕ) (es : List Element) (d : Element) {number place : ℕ} → index < length es
    → check_element room index (get_or es index d) ≡ refused number place → check_elements room index (drop index es) ≡ refused number place
elements_refused room index es d h e = elements_cons room index es d h ∙ then_refused (λ _. check_elements room (index + 1) (drop (index + 1) es)) e

-- one that is not
pub elements_next : (room index : ℕ) (es : List Element) (d : Element) → index < length es
    → check_element room index (get_or es index d) ≡ done tt → check_elements room (index + 1) (drop (index + 1) es) ≡ check_elements room index (drop index es)
elements_next room index es d h e = sym (elements_cons room index es d h ∙ then_next (λ _. check_elements room (index + 1) (drop (index + 1) es)) e)

-- a number by its form
pub number_element : (room index : ℕ) {e : Element} {n : Number} → e ≡ element.Number n → check_element room index e ≡ checked_only (check_number index n)
unfolding check_element check_number checked_only
number_element room index {e} {n} h = ap (check_element room index) h ∙ go (normal n)
  where
    go : (b : Bool) → pick b (done tt) (refused 3 index) ≡ checked_only (pick b (done n) (refused 3 index))
    go true = refl
    go false = refl

-- as the code drops what the check gives
pub dropped :
    {A : Type 0} (P : A → Type 0) (r : Result A Refusal) (s : Result (Unit {0}) Refusal)
    → MatchResult r P (λ e. s ≡ Err e) → is_ok s ≡ is_ok r → meaning s ≡ checked_only (meaning r)
unfolding checked_only
dropped P (Ok x) (Ok y) h k = refl
dropped P (Ok x) (Err e) h k = cc
dropped P (Err e) s h k = ap meaning h

-- The whole line.

-- a check's answer has no result to leave out
pub checked_same : (r : Answer (Unit {0})) → checked_only r ≡ r
unfolding checked_only
checked_same (done tt) = refl
checked_same (refused number place) = refl

-- no elements need no field
some_none : (line : List ℕ) (es : List Element) → length es ≡ 0 → check_some line es ≡ done tt
unfolding check_some
some_none line [] h = refl
some_none line (e ∷ es) h = absurd (omega arith)

-- a line with a field takes elements
some_field : (line : List ℕ) (es : List Element) → length (literals line) < length line → check_some line es ≡ done tt
unfolding check_some has_field
some_field line [] h = refl
some_field line (e ∷ es) h = rw (lt-ltb (length (literals line)) (length line) h)

-- a line without one takes none
pub some_refused : (line : List ℕ) (es : List Element) → 0 < length es → length line ≤ length (literals line) → check_some line es ≡ refused 9 0
unfolding check_some has_field
some_refused line [] h l = absurd (omega arith)
some_refused line (e ∷ es) h l = rw (le-ltb (length (literals line)) (length line) l)

-- where it has a field, or there are none, nothing is refused
pub some_done : (line : List ℕ) (es : List Element) → (length (literals line) < length line) ⊎ (length es ≡ 0) → check_some line es ≡ done tt
some_done line es w = ⊎_elim (some_field line es) (some_none line es) w

-- counts within their limits
pub counts_done : (count size : ℕ) → count ≤ max_elements → size ≤ max_line → check_counts count size ≡ done tt
unfolding check_counts
counts_done count size h l = rw (le-leb count max_elements h, le-leb size max_line l)

-- and only they are
counts_within : (count size : ℕ) → check_counts count size ≡ done tt → (count ≤ max_elements) × (size ≤ max_line)
unfolding check_counts
counts_within count size h = go (leb count max_elements) (leb size max_line) refl refl h
  where
    go : (s t : Bool) → leb count max_elements ≡ s → leb size max_line ≡ t
        → ◌≡◌ {A = Answer (Unit {0})} (pick (s && t) (done tt) (refused 10 0)) (done tt)
        → (count ≤ max_elements) × (size ≤ max_line)
    go true true p q h = (leb-true count max_elements p, leb-true size max_line q)
    go true false p q h = let z : ◌≡◌ {A = ℕ} 0 1 = cc in absurd (omega arith)
    go false t p q h = let z : ◌≡◌ {A = ℕ} 0 1 = cc in absurd (omega arith)

-- too many elements
pub counts_many : (count size : ℕ) → max_elements < count → check_counts count size ≡ refused 10 0
unfolding check_counts
counts_many count size h = rw (lt-leb count max_elements h)

-- too long a line
pub counts_long : (count size : ℕ) → count ≤ max_elements → max_line < size → check_counts count size ≡ refused 10 0
unfolding check_counts
counts_long count size h l = rw (le-leb count max_elements h, lt-leb size max_line l)

module _ (line : List ℕ) (es : List Element) (room : ℕ) where
  -- refused for its counts
  pub line_counts : {number place : ℕ} → check_counts (length es) (length line) ≡ refused number place → line_checks line es room ≡ refused number place
  unfolding line_checks
  line_counts h = then_refused _ h

  -- refused for a field
  pub line_fields_lem : {number place : ℕ} → check_counts (length es) (length line) ≡ done tt → check_fields 0 0 line ≡ refused number place
      → line_checks line es room ≡ refused number place
  unfolding line_checks
  line_fields_lem h f = then_next _ h ∙ then_refused _ f

  -- refused for want of a field
  pub line_some : {number place : ℕ} → check_counts (length es) (length line) ≡ done tt → check_fields 0 0 line ≡ done tt
      → check_some line es ≡ refused number place → line_checks line es room ≡ refused number place
  unfolding line_checks
  line_some h f g = then_next _ h ∙ then_next _ f ∙ then_refused _ g

  -- else as its elements
  pub line_elements : check_counts (length es) (length line) ≡ done tt → check_fields 0 0 line ≡ done tt → check_some line es ≡ done tt
      → line_checks line es room ≡ check_elements room 0 es
  unfolding line_checks
  line_elements h f g = then_next _ h ∙ then_next _ f ∙ then_next _ g

-- what a line that is not refused has passed
pub line_passed : (line : List ℕ) (es : List Element) (room : ℕ) → line_checks line es room ≡ done tt
    → LineReady line es × (check_fields 0 0 line ≡ done tt) × (check_elements room 0 es ≡ done tt)
unfolding line_checks
line_passed line es room h =
    let a = then_last (check_counts (length es) (length line)) _ h in
    let b = then_last (check_fields 0 0 line) _ a.1 in
    let d = then_last (check_some line es) _ b.1 in
    let n = counts_within (length es) (length line) a.0 in
    (record { few = n.0; short = n.1; some = d.0 }, b.0, d.1)

-- a forecast within the limits
pub forecast_done : (count size : ℕ) → check_counts count size ≡ done tt → forecasting count size ≡ done ((count + 1) * (size + 1))
unfolding forecasting
forecast_done count size h = then_next _ h

-- one refused
pub forecast_refused : (count size : ℕ) {number place : ℕ} → check_counts count size ≡ refused number place → forecasting count size ≡ refused number place
unfolding forecasting
forecast_refused count size h = then_refused _ h
