-- Document 01's form of a text number beside the wider form of document 02, (v), and what the wider form leaves as it was.
-- (The proofs' StrictTheorem: it holds of all bytes.)
use Rattle.std.specs.Prelude.{ℕ, suc, ◌+◌, ◌-◌, ◌≤◌, ◌≡◌, List, [], ◌∷◌, ◌++◌, eqb, length, take, drop}
use Rattle.decimal.specs.declared.image.Sign.{Sign}
use Rattle.decimal.specs.declared.image.Sign.TheVariants.{Unsigned}
use Rattle.decimal.specs.declared.number.Number.{Number}
use Rattle.decimal.specs.Answer.{Answer, done, pick}
use Rattle.decimal.specs.Image.{sign_bytes, times}
use Rattle.codec.specs.declared.walking.Stop.TheVariants as gives
use Rattle.codec.specs.Lists.{max_columns}
use Rattle.codec.specs.Alpha.{blank_byte}
use Rattle.codec.specs.Text.{SignPart, no_sign, plus_sign, minus_sign, NumeralParts, TextParts, Legal, HasForm, LongestOf, numeral_bytes, numeral_value, is_minus, text_value}
use Rattle.codec.specs.Text.{sign_length, parts_in, reading_in, legal_length, convert_text}
use Rattle.codec.specs.Walking.{number_place, Walk, numbers_in, walking}

-- bytes have document 01's form: blanks, an optional sign, a numeral, blanks; "No blank stands inside"
pub record StrictForm (bytes : List ℕ) : Type 0 where
  pub before : ℕ
  pub sign : Sign
  pub numeral : NumeralParts
  pub behind : ℕ
  pub legal : Legal numeral
  pub written : bytes ≡ times before blank_byte ++ (sign_bytes sign ++ (numeral_bytes numeral ++ times behind blank_byte))

-- the number of such a text
abbrev pub strict_value : {bytes : List ℕ} → StrictForm bytes → Answer Number
strict_value f = numeral_value (is_minus f.sign) f.numeral

-- Document 02, (v): "Blanks may now stand between the sign and the first digit or point .. nowhere else inside". Bytes are a text of document
-- 01's form with blanks put in right behind its sign, none where it has no sign.
pub record Spaced (bytes : List ℕ) : Type 0 where
  pub text : List ℕ
  pub form : StrictForm text
  pub blanks : ℕ
  pub signed : form.sign ≡ Unsigned → blanks ≡ 0
  pub put_in :
      let place : ℕ = form.before + sign_length form.sign in
      bytes ≡ take place text ++ (times blanks blank_byte ++ drop place text)

-- how often a byte stands among bytes. (The proofs' BlankLaws: a text of document 01's form has no blanks but those before it and behind it, and
-- one of the wider form none but those and the ones behind its sign.)
unfoldable pub byte_count : ℕ → List ℕ → ℕ
byte_count x [] = 0
byte_count x (b ∷ bs) = pick (eqb b x) (suc (byte_count x bs)) (byte_count x bs)

-- the count of blanks behind a sign
unfoldable pub sign_blanks : SignPart → ℕ
sign_blanks no_sign = 0
sign_blanks (plus_sign blanks) = blanks
sign_blanks (minus_sign blanks) = blanks

-- the legal length by document 01's form: the same, but 0 where blanks stand behind the sign
unfoldable pub strict_length : List ℕ → ℕ
strict_length bytes = pick (eqb (sign_blanks (parts_in bytes).sign) 0) (legal_length bytes) 0

-- What the wider form leaves as it was.
pub record Widens (bytes : List ℕ) : Type 0 where
  -- a text of document 01's form has the wider one, with the same value
  pub has_form : (f : StrictForm bytes) → (t : TextParts) × (HasForm bytes t × (text_value t ≡ strict_value f))
  -- it is converted to that value
  pub converts : (f : StrictForm bytes) → convert_text bytes ≡ strict_value f
  -- no beginning of document 01's form is longer than the legal length, so that this may only grow
  pub grows : (n : ℕ) → n ≤ length bytes → StrictForm (take n bytes) → n ≤ legal_length bytes
  -- the longest beginning of document 01's form is so long
  pub strict : LongestOf StrictForm bytes (strict_length bytes)
  -- where there is one, it is read as before, with as many bytes: the legal length grows only where it was 0
  pub reads :
      {size : ℕ} (longest : LongestOf StrictForm bytes size) (some : size ≡ 0 → ⊥)
      → reading_in bytes ≡ record { used = size; number = strict_value (longest.is some) }

-- Bytes begin with numbers, each the longest beginning of what is left that has document 01's form; together they have so many bytes.
pub data StrictCut : List ℕ → List Number → ℕ → Type 0 where
  none : {bytes : List ℕ} → StrictCut bytes [] 0
  more :
      {bytes : List ℕ} {size rest : ℕ} {n : Number} {ns : List Number} (longest : LongestOf StrictForm bytes size) (some : size ≡ 0 → ⊥)
      → strict_value (longest.is some) ≡ done n
      → StrictCut (drop size bytes) ns rest
      → StrictCut bytes (n ∷ ns) (size + rest)

-- What becomes of the numbers that document 01's form gave from a place of a text on.
pub record StrictWalk (text : List ℕ) (from : ℕ) : Type 0 where
  -- they are the first that are read, and reading goes on behind them
  pub first :
      {ns : List Number} {size : ℕ}
      → StrictCut (drop from text) ns size
      → length ns ≤ max_columns
      → let others : Walk = numbers_in (max_columns - length ns) (length ns) (from + size) (drop size (drop from text)) in
      walking text from ≡ record { answer = others.answer; numbers = ns ++ others.numbers; place = others.place }
  -- so a text that was read to its end is read as before
  pub whole :
      {ns : List Number}
      → StrictCut (drop from text) ns (length (drop from text))
      → length ns ≤ max_columns
      → walking text from ≡ record { answer = done gives.End; numbers = ns; place = from + length (drop from text) }
  -- skipping goes no further than to the first of them
  pub places : (place size : ℕ) → from ≤ place → place + size ≤ length text → StrictForm (take size (drop place text)) → number_place text from ≤ place
