-- Document 01, Print lines: a line image with its elements.
use Rattle.std.specs.Prelude.{ℕ, zero, suc, pred, ◌+◌, ◌*◌, ◌<◌, ◌≤◌, ◌≡◌, List, [], ◌∷◌, ◌++◌, Bool, ◌&&◌, length, take, drop, ltb, leb, eqb}
use Rattle.decimal.specs.Answer.{Answer, done, refused, ◌then◌, pick}
use Rattle.decimal.specs.Digits.{precision}
use Rattle.decimal.specs.Number.{normal}
use Rattle.decimal.specs.Image.{hashes, scanned_image}
use Rattle.records.specs.declared.lines.fields.Element.{Element}
use Rattle.records.specs.declared.lines.fields.Element.TheVariants as element
use Rattle.records.specs.declared.lines.printing.Printed.{Printed}
use Rattle.codec.specs.Walking.{line_end}
use Rattle.records.specs.Lines.Scanning.{field_length}
use Rattle.records.specs.Lines.Fields.{element_bytes, element_spills}

abbrev pub max_elements : ℕ
max_elements = 64

abbrev pub max_line : ℕ
max_line = 4096

-- The parts of a line: the literal bytes before its first field, that field, and what is behind it.

unfoldable pub literals : List ℕ → List ℕ
literals [] = []
literals (b ∷ bs) = pick (eqb (field_length (b ∷ bs)) 0) (b ∷ literals bs) []

abbrev pub from_field : List ℕ → List ℕ
from_field line = drop (length (literals line)) line

unfoldable pub first_field : List ℕ → List ℕ
first_field line = take (field_length (from_field line)) (from_field line)

unfoldable pub behind_field : List ℕ → List ℕ
behind_field line = drop (field_length (from_field line)) (from_field line)

-- whether there is a field
unfoldable pub has_field : List ℕ → Bool
has_field line = ltb (length (literals line)) (length line)

-- what is printed, and how many elements are spilled
pub record Print : Type 0 where
  pub bytes : List ℕ
  pub spilled : ℕ

unfoldable pub and_then : List ℕ → ℕ → Print → Print
and_then bytes spilled p = record { bytes = bytes ++ p.bytes; spilled = spilled + p.spilled }

-- an element in the first field of what is left of a line
unfoldable pub one_field : List ℕ → List ℕ → Element → Print → Print
one_field texts left e p =
    and_then (literals left ++ element_bytes texts (first_field left) e) (element_spills (first_field left) e) p

-- the elements from what is left of a line on. When elements run out, printing stops before the first unused field, or at the line's end.
-- When fields run out first, the rest of the line is printed, then 0A, and the line begins again.
unfoldable pub print_from : List ℕ → List ℕ → List ℕ → List Element → Print
print_from texts line left [] = record { bytes = literals left; spilled = 0 }
print_from texts line left (e ∷ es) =
    pick (has_field left)
    (one_field texts left e (print_from texts line (behind_field left) es))
    (and_then (left ++ (line_end ∷ [])) 0 (one_field texts line e (print_from texts line (behind_field line) es)))

-- Refusals.

-- a field with n above 13: 2 with the field; bytes inside a field are passed over
unfoldable pub check_fields : ℕ → ℕ → List ℕ → Answer (Unit {0})
check_fields index inside [] = done tt
check_fields index (suc inside) (b ∷ bs) = check_fields index inside bs
check_fields index zero (b ∷ bs) =
    pick (eqb (field_length (b ∷ bs)) 0)
    (check_fields index 0 bs)
    (pick (ltb precision (hashes (scanned_image (take (field_length (b ∷ bs)) (b ∷ bs)))))
    (refused 2 index)
    (check_fields (suc index) (pred (field_length (b ∷ bs))) bs))

-- an element: 13 for a text that runs past its lent bytes, 3 for a number not in normal form
unfoldable pub check_element : ℕ → ℕ → Element → Answer (Unit {0})
check_element room index (element.Number n) = pick (normal n) (done tt) (refused 3 index)
check_element room index (element.Text start size) = pick (leb (start + size) room) (done tt) (refused 13 index)

unfoldable pub check_elements : ℕ → ℕ → List Element → Answer (Unit {0})
check_elements room index [] = done tt
check_elements room index (e ∷ es) = check_element room index e then λ _. check_elements room (suc index) es

-- elements, but no field: 9
unfoldable pub check_some : List ℕ → List Element → Answer (Unit {0})
check_some line [] = done tt
check_some line (e ∷ es) = pick (has_field line) (done tt) (refused 9 0)

-- over 64 elements, or a line over 4,096 bytes: 10
unfoldable pub check_counts : ℕ → ℕ → Answer (Unit {0})
check_counts count size = pick (leb count max_elements && leb size max_line) (done tt) (refused 10 0)

-- a line printed: 10, 2 with the field, 9, elements from the left (13, 3)
unfoldable pub printed : List ℕ → List Element → List ℕ → Answer Print
printed line es texts =
    check_counts (length es) (length line) then λ _.
    (check_fields 0 0 line then λ _.
    (check_some line es then λ _.
    (check_elements (length texts) 0 es then λ _. done (print_from texts line line es))))

-- 6 where what is printed is longer than the buffer
unfoldable pub room_for : ℕ → Print → Answer Print
room_for room p = pick (ltb room (length p.bytes)) (refused 6 0) (done p)

-- the print call
unfoldable pub printing : List ℕ → List Element → List ℕ → ℕ → Answer Print
printing line es texts room = printed line es texts then room_for room

-- the forecast: (elements + 1) × (line length + 1), refused with 10
unfoldable pub forecasting : ℕ → ℕ → Answer ℕ
forecasting count size = check_counts count size then λ _. done ((count + 1) * (size + 1))

-- the code's counts of what is printed: the bytes written and the spilled elements
abbrev pub printed_of : Print → Printed
printed_of p = record { bytes = length p.bytes; spilled = p.spilled }

-- and the bytes
abbrev pub bytes_of : Print → List ℕ
bytes_of p = p.bytes

-- What the checks ask and find.

-- everything that can refuse a line but the room, in the order of document 01
unfoldable pub line_checks : List ℕ → List Element → ℕ → Answer (Unit {0})
line_checks line es room =
    check_counts (length es) (length line) then λ _.
    (check_fields 0 0 line then λ _.
    (check_some line es then λ _. check_elements room 0 es))

-- the number of the refusal of a text that runs past its lent bytes
abbrev pub text_outside : ℕ
text_outside = 0x0D

-- the places reached from a line's start by passing literal bytes and whole fields
pub data Reached (line : List ℕ) : ℕ → Type 0 where
  at_start : Reached line 0
  after_literal : {j k : ℕ} → Reached line j → j < length line → field_length (drop j line) ≡ 0 → k ≡ j + 1 → Reached line k
  after_field : {j k : ℕ} → Reached line j → (field_length (drop j line) ≡ 0 → ⊥) → k ≡ j + field_length (drop j line) → Reached line k

-- What the print loops ask and find.

-- a line that can be measured: it has a field, or there are no elements
pub record LineReady (line : List ℕ) (es : List Element) : Type 0 where
  pub few : length es ≤ max_elements
  pub short : length line ≤ max_line
  pub some : check_some line es ≡ done tt

-- a line that can be printed into a buffer with so much room
pub record PrintReady (line : List ℕ) (es : List Element) (texts : List ℕ) (room : ℕ) : Type 0 where
  pub ready : LineReady line es
  pub fields : check_fields 0 0 line ≡ done tt
  pub elements : check_elements (length texts) 0 es ≡ done tt
  pub fits : length (print_from texts line line es).bytes ≤ room
