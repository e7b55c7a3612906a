-- Document 01, Print lines: the elements of a line that are spilled, and how many they are. Nothing here uses what `print_from` counts.
use Rattle.std.specs.Prelude.{ℕ, ◌+◌, List, [], ◌∷◌, Bool, false}
use Rattle.decimal.specs.Answer.{pick}
use Rattle.decimal.specs.Image.{scanned_image}
use Rattle.decimal.specs.Truncation.{exceeds, exponent_outside}
use Rattle.records.specs.declared.lines.fields.Element.{Element}
use Rattle.records.specs.declared.lines.fields.Element.TheVariants as element
use Rattle.records.specs.Lines.Printing.{first_field, behind_field, has_field}

-- where the next field stands: in what is left of the line, or, when fields run out, in the line that begins again
unfoldable pub next_part : List ℕ → List ℕ → List ℕ
next_part line left = pick (has_field left) left line

-- the fields that elements fill, in order, from what is left of a line on: one for each element
unfoldable pub fields_filled : List ℕ → List ℕ → List Element → List (List ℕ)
fields_filled line left [] = []
fields_filled line left (e ∷ es) = first_field (next_part line left) ∷ fields_filled line (behind_field (next_part line left)) es

-- whether an element is spilled by the field that it fills: "A number that exceeds the image, or whose x is outside its limits, prints the
-- field's own bytes and counts as spilled". In fixed point a number can exceed, in exponential form it has an x. A text is never spilled.
unfoldable pub is_spilled : List ℕ → Element → Bool
is_spilled field (element.Number n) =
    pick (scanned_image field).exponential (exponent_outside (scanned_image field) n) (exceeds (scanned_image field) n)
is_spilled field (element.Text start size) = false

-- how many elements are spilled, each by its own field
unfoldable pub spilled_among : List (List ℕ) → List Element → ℕ
spilled_among fields [] = 0
spilled_among [] (e ∷ es) = 0
spilled_among (field ∷ fields) (e ∷ es) = pick (is_spilled field e) 1 0 + spilled_among fields es

-- the number of a line's elements that are spilled
unfoldable pub spilled_elements : List ℕ → List Element → ℕ
spilled_elements line es = spilled_among (fields_filled line line es) es
