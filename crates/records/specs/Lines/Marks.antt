-- The marks that numbers in fields are printed and read back with: the decimal mark, the thousands mark, and the filling byte for suppressed
-- zeros and thousands marks. Document 01's are the point, the comma and the blank.
use Rattle.std.specs.Prelude.{ℕ, ◌+◌, ◌<◌, ◌≡◌, List, [], ◌∷◌, Bool, ◌||◌, eqb}
use Rattle.decimal.specs.Answer.{pick}
use Rattle.decimal.specs.Image.{plus_byte, minus_byte, hash_byte, point_byte, comma_byte}
use Rattle.codec.specs.Alpha.{blank_byte, zero_byte, exponent_byte}
use Rattle.records.specs.declared.lines.marks.Marks.{Marks}

abbrev pub document_marks : Marks
document_marks = record { decimal = point_byte; thousands = comma_byte; filling = blank_byte }

-- a byte that may be a mark: no digit, no sign, no # and no E
pub record MarkByte (b : ℕ) : Type 0 where
  pub no_digit : (d : ℕ) → d < 10 → b ≡ zero_byte + d → ⊥
  pub no_plus : b ≡ plus_byte → ⊥
  pub no_minus : b ≡ minus_byte → ⊥
  pub no_hash : b ≡ hash_byte → ⊥
  pub no_exponent_lem : b ≡ exponent_byte → ⊥

-- three different bytes that may be marks, the decimal mark no blank
pub record ValidMarks (m : Marks) : Type 0 where
  pub decimal_byte : MarkByte m.decimal
  pub thousands_byte : MarkByte m.thousands
  pub filling_byte : MarkByte m.filling
  pub decimal_thousands : m.decimal ≡ m.thousands → ⊥
  pub decimal_filling : m.decimal ≡ m.filling → ⊥
  pub thousands_filling : m.thousands ≡ m.filling → ⊥
  pub decimal_blank : m.decimal ≡ blank_byte → ⊥

-- an alpha text with the decimal mark for its point
unfoldable pub with_decimal : Marks → List ℕ → List ℕ
with_decimal m [] = []
with_decimal m (b ∷ bs) = pick (eqb b point_byte) m.decimal b ∷ with_decimal m bs

-- Reading back: blanks, filling bytes and thousands marks are dropped.

unfoldable pub is_dropped : Marks → ℕ → Bool
is_dropped m b = eqb b blank_byte || (eqb b m.filling || eqb b m.thousands)

-- a byte that no text number has
abbrev pub no_text_byte : ℕ
no_text_byte = 0

-- the decimal mark is taken for the point; a point that is no mark is no part of a text number; any other byte is kept
unfoldable pub read_byte : Marks → ℕ → ℕ
read_byte m b = pick (eqb b m.decimal) point_byte (pick (eqb b point_byte) no_text_byte b)

unfoldable pub without_marks : Marks → List ℕ → List ℕ
without_marks m [] = []
without_marks m (b ∷ bs) = pick (is_dropped m b) (without_marks m bs) (read_byte m b ∷ without_marks m bs)
