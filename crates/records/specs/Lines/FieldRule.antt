-- Document 01, Print lines, the sentence about a number in a field, apart from the machine that fills the field: "A number prints as alpha
-- text, except that in fixed point leading zeros before the point (or the field's end, if it has none), but never the last digit there, become
-- blanks, and a comma with no digit before it becomes a blank". Each byte is said by itself, from its position in the field and from the alpha
-- text. The comma, the point and the blank that are printed are the marks'.
use Rattle.std.specs.Prelude.{ℕ, zero, suc, ◌-◌, ◌/◌, ◌^◌, List, [], ◌∷◌, Bool, false, ◌&&◌, ◌||◌, length, take, get_or, ltb, eqb}
use Rattle.decimal.specs.declared.image.Image.{Image}
use Rattle.decimal.specs.declared.number.Number.{Number}
use Rattle.decimal.specs.Answer.{Answer, done, ◌then◌, pick}
use Rattle.decimal.specs.Digits.{leading_zeros}
use Rattle.decimal.specs.Image.{hash_byte, comma_byte, scanned_image}
use Rattle.decimal.specs.Truncation.{Truncated, truncation}
use Rattle.codec.specs.Alpha.{alpha_text}
use Rattle.codec.specs.Text.{is_digit}
use Rattle.records.specs.declared.lines.marks.Marks.{Marks}
use Rattle.records.specs.Lines.Marks.{with_decimal}
use Rattle.records.specs.Lines.Fields.{hash_count}

-- the leading zeros among the i digits before the point (or the field's end)
unfoldable pub integer_zeros : Image → Truncated → ℕ
integer_zeros im t = leading_zeros im.integer (t.whole / 10 ^ im.fraction)

-- how many digits are hidden: in fixed point the leading zeros, but never the last digit there
unfoldable pub hidden_digits : Image → Truncated → ℕ
hidden_digits im t =
    pick im.exponential 0 (pick (ltb (integer_zeros im t) im.integer) (integer_zeros im t) (im.integer - 1))

-- a field without its commas, which is its image
unfoldable pub without_commas : List ℕ → List ℕ
without_commas [] = []
without_commas (b ∷ bs) = pick (eqb b comma_byte) (without_commas bs) (b ∷ without_commas bs)

-- the byte of the alpha text that prints behind a beginning of the field: the text has the image's length, so that commas do not count
unfoldable pub alpha_behind : Marks → Image → Truncated → List ℕ → ℕ
alpha_behind m im t before = get_or (with_decimal m (alpha_text im t)) (length (without_commas before)) 0

-- what prints for a byte of the field behind a beginning of it: for a comma the thousands mark where a digit that is not hidden stands before
-- it, else the filling byte; for the # of a hidden digit the filling byte; for any other byte that of the alpha text
unfoldable pub rule_byte : Marks → Image → Truncated → List ℕ → ℕ → ℕ
rule_byte m im t before b =
    pick (eqb b comma_byte)
    (pick (ltb (hidden_digits im t) (hash_count before)) m.thousands m.filling)
    (pick (eqb b hash_byte && ltb (hash_count before) (hidden_digits im t)) m.filling (alpha_behind m im t before))

-- n bytes from a position on, each by its position
unfoldable pub bytes_from : (ℕ → ℕ) → ℕ → ℕ → List ℕ
bytes_from byte p zero = []
bytes_from byte p (suc n) = byte p ∷ bytes_from byte (suc p) n

-- what a truncated number prints in a field
unfoldable pub rule_bytes : Marks → List ℕ → Image → Truncated → List ℕ
rule_bytes m field im t = bytes_from (λ p. rule_byte m im t (take p field) (get_or field p 0)) 0 (length field)

-- a number in a field, refused where it is spilled
unfoldable pub number_by_rule : Marks → List ℕ → Number → Answer (List ℕ)
number_by_rule m field n = truncation 0 (scanned_image field) n then λ t. done (rule_bytes m field (scanned_image field) t)

-- The sentence about commas, of the bytes that are printed, asks this of the bytes before one.

-- whether a digit stands among bytes
unfoldable pub has_digit : List ℕ → Bool
has_digit [] = false
has_digit (b ∷ bs) = is_digit b || has_digit bs
