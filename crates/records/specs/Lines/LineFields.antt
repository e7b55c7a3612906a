-- Document 01, Print lines: the fields of a line from the left, each with its place, its length and its image.
use Rattle.std.specs.Prelude.{◌≡◌, ℕ, zero, suc, pred, ◌+◌, List, [], ◌∷◌, Bool, ◌||◌, take, drop, eqb, ◌==◌}
use Rattle.decimal.specs.Answer.{pick}
use Rattle.decimal.specs.Image.{plus_byte, minus_byte, hash_byte, point_byte, scanned_image}
use Rattle.records.specs.declared.lines.line_fields.Field.{Field}
use Rattle.records.specs.Lines.Scanning.{field_length}
use Rattle.records.specs.Lines.Printing.{max_elements}

-- the field at a place of a line, of the bytes from there on
unfoldable pub field_of : ℕ → List ℕ → Field
field_of place bytes =
    record { start = place; length = field_length bytes; image = scanned_image (take (field_length bytes) bytes) }

-- the fields of the bytes from a place on; bytes inside a field are passed over
unfoldable pub fields_from : ℕ → ℕ → List ℕ → List Field
fields_from place inside [] = []
fields_from place (suc inside) (b ∷ bs) = fields_from (suc place) inside bs
fields_from place zero (b ∷ bs) =
    pick (eqb (field_length (b ∷ bs)) 0)
    (fields_from (suc place) 0 bs)
    (field_of place (b ∷ bs) ∷ fields_from (suc place) (pred (field_length (b ∷ bs))) bs)

-- the fields of a line from a place on that is not inside a field
unfoldable pub fields_at : List ℕ → ℕ → List Field
fields_at line place = fields_from place 0 (drop place line)

-- the fields of a line
abbrev pub line_fields : List ℕ → List Field
line_fields line = fields_at line 0

-- the most fields that a print call uses
abbrev pub max_fields : ℕ
max_fields = max_elements + 1

-- the first fields of a line, as many as a print call uses
pub record Listed (line : List ℕ) (fields : List Field) : Type 0 where
  pub first : fields ≡ take max_fields (line_fields line)

-- whether a field can begin with a byte: + - # .
abbrev pub begins_field : ℕ → Bool
begins_field byte = (byte == plus_byte) || ((byte == minus_byte) || ((byte == hash_byte) || (byte == point_byte)))
