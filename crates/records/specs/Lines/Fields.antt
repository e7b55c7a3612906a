-- Document 01, Print lines: a number or a text in a field, and a field read back.
use Rattle.std.specs.Prelude.{ℕ, ◌+◌, ◌≤◌, ◌≡◌, List, [], ◌∷◌, Bool, true, false, not, ◌&&◌, length, take, drop, get_or, set, ltb, eqb}
use Rattle.decimal.specs.declared.image.Image.{Image}
use Rattle.decimal.specs.declared.number.Number.{Number}
use Rattle.decimal.specs.Answer.{Answer, done, refused, ◌then◌, pick}
use Rattle.decimal.specs.Digits.{precision, digits_of}
use Rattle.decimal.specs.Image.{plus_byte, minus_byte, hash_byte, point_byte, comma_byte, hashes, scanned_image}
use Rattle.decimal.specs.Truncation.{Truncated, truncation}
use Rattle.codec.specs.Lists.{filled}
use Rattle.codec.specs.Columns.{sign_count}
use Rattle.codec.specs.Alpha.{blank_byte, zero_byte, alpha_text}
use Rattle.codec.specs.Text.{convert_text}
use Rattle.records.specs.Lines.Scanning.{Field, IsField}
use Rattle.records.specs.declared.lines.marks.Marks.{Marks}
use Rattle.records.specs.Lines.Marks.{document_marks, with_decimal, without_marks}
use Rattle.records.specs.declared.lines.fields.Fill.{Fill}
use Rattle.records.specs.declared.lines.fields.Element.{Element}
use Rattle.records.specs.declared.lines.fields.Element.TheVariants as element

-- A number in a fixed-point field, byte by byte. What was filled so far: whether a digit or the point was shown, and how many digits
-- were used.

-- the next digit
abbrev pub next_digit : Image → Truncated → Fill → ℕ
next_digit im t fill = get_or (digits_of (hashes im) t.whole) fill.used 0

-- a leading zero before the point (or the field's end), but never the last digit there, becomes the filling byte
abbrev pub suppressed : Image → Truncated → Fill → Bool
suppressed im t fill = not fill.shown && (eqb (next_digit im t fill) 0 && ltb (fill.used + 1) im.integer)

-- under + the sign is + or −, under − it is blank or −
unfoldable pub sign_byte_of : ℕ → Bool → ℕ
sign_byte_of b negative = pick negative minus_byte (pick (eqb b plus_byte) plus_byte blank_byte)

-- what stands for a byte of the field: a digit or the filling byte for #, the thousands mark for a comma, the filling byte for a comma with no
-- digit before it, the decimal mark for the point, and the sign
unfoldable pub fill_byte : Marks → Image → Truncated → Fill → ℕ → ℕ
fill_byte m im t fill b =
    pick (eqb b hash_byte)
    (pick (suppressed im t fill) m.filling (zero_byte + next_digit im t fill))
    (pick (eqb b comma_byte)
    (pick fill.shown m.thousands m.filling)
    (pick (eqb b point_byte) m.decimal (sign_byte_of b t.negative)))

-- and what was filled then
unfoldable pub fill_next : Image → Truncated → Fill → ℕ → Fill
fill_next im t fill b =
    pick (eqb b hash_byte)
    (record { shown = not (suppressed im t fill); used = fill.used + 1 })
    (record { shown = pick (eqb b point_byte) true fill.shown; used = fill.used })

unfoldable pub fill_bytes : Marks → Image → Truncated → Fill → List ℕ → List ℕ
fill_bytes m im t fill [] = []
fill_bytes m im t fill (b ∷ bs) = fill_byte m im t fill b ∷ fill_bytes m im t (fill_next im t fill b) bs

abbrev pub nothing_filled : Fill
nothing_filled = record { shown = false; used = 0 }

-- a number prints as alpha text, except that in fixed point leading zeros and the commas among them become filling bytes
unfoldable pub shown_marked : Marks → List ℕ → Image → Truncated → List ℕ
shown_marked m field im t = pick im.exponential (with_decimal m (alpha_text im t)) (fill_bytes m im t nothing_filled field)

-- a number in a field: refused where it exceeds the image or x is outside its limits
unfoldable pub number_marked : Marks → List ℕ → Number → Answer (List ℕ)
number_marked m field n = truncation 0 (scanned_image field) n then λ t. done (shown_marked m field (scanned_image field) t)

-- with document 01's marks
abbrev pub shown_in : List ℕ → Image → Truncated → List ℕ
shown_in field im t = shown_marked document_marks field im t

abbrev pub number_in : List ℕ → Number → Answer (List ℕ)
number_in field n = number_marked document_marks field n

-- a number that is refused in a field prints the field's own bytes, and counts as spilled
unfoldable pub or_field : List ℕ → Answer (List ℕ) → List ℕ
or_field field (done bytes) = bytes
or_field field (refused number place) = field

unfoldable pub spilled_by : Answer (List ℕ) → ℕ
spilled_by (done bytes) = 0
spilled_by (refused number place) = 1

-- a text element fills the field from the left, cut or filled with blanks
unfoldable pub text_in : List ℕ → List ℕ → List ℕ
text_in field text = filled (length field) blank_byte text

-- the bytes of an element in a field, and 1 if it is spilled, else 0
unfoldable pub element_bytes : List ℕ → List ℕ → Element → List ℕ
element_bytes texts field (element.Number n) = or_field field (number_in field n)
element_bytes texts field (element.Text start size) = text_in field (take size (drop start texts))

unfoldable pub element_spills : List ℕ → Element → ℕ
element_spills field (element.Number n) = spilled_by (number_in field n)
element_spills field (element.Text start size) = 0

-- a field of a line that is not refused: at most 13 # signs
pub record FieldReady (field : List ℕ) : Type 0 where
  pub parts : Field
  pub is_field : IsField field parts
  pub fits : hashes (scanned_image field) ≤ precision

-- such a field, and the image that the machine reads in it
pub record FieldImage (field : List ℕ) (im : Image) : Type 0 where
  pub ready : FieldReady field
  pub read : im ≡ scanned_image field

-- Reading back: without its marks, the whole of what is left converted.

unfoldable pub read_marked : Marks → List ℕ → Answer Number
read_marked m field = convert_text (without_marks m field)

-- with document 01's marks: blanks and commas dropped
abbrev pub read_field : List ℕ → Answer Number
read_field field = read_marked document_marks field

-- What the code's helpers ask and find.

-- the # signs among bytes
unfoldable pub hash_count : List ℕ → ℕ
hash_count [] = 0
hash_count (b ∷ bs) = pick (eqb b hash_byte) 1 0 + hash_count bs

-- the place of the point in the alpha text under an image
unfoldable pub point_place : Image → ℕ
point_place im = sign_count im.sign + im.integer

-- a text's bytes with the decimal mark at the place of the point, if the image has one
unfoldable pub point_marked : Marks → Image → List ℕ → List ℕ
point_marked m im bytes = pick (eqb im.fraction 0) bytes (set bytes (point_place im) m.decimal)
