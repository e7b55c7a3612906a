-- Document 01, Print lines: reading a field back. A text number with no blank is short; what a loop over the field keeps.
-- Assumes nothing.
use Prim.Native.Nat.{ℕ, suc, ◌+◌, ◌<◌, ◌≤◌}
use mathlib.Core.Path.{◌≡◌, refl, ap, sym, ◌∙◌}
use mathlib.Core.List.{List, [], ◌∷◌, ◌++◌, append-nil, append_assoc}
use mathlib.Core.Bool.{Bool, true, false, ◌||◌, false≢true}
use native.Mathlib.Omega.{arith}
use native.Mathlib.Numerals.{add-one}
use lib.Dec.{eqb}
use lib.ListN.{length, drop, get_or, length-append, drop_of_length-le}
use lib.Seq.{drop-cons}
use Rattle.decimal.specs.Answer.{refused, pick}
use Rattle.decimal.specs.Digits.{precision}
use Rattle.decimal.specs.Image.{point_byte, sign_bytes}
use Rattle.codec.specs.Alpha.{blank_byte, digit_bytes}
use Rattle.codec.specs.Text.{SignPart, no_sign, plus_sign, minus_sign, PointPart, no_point, point, ExponentPart, no_exponent, exponent, TextParts, HasForm}
use Rattle.codec.specs.Text.{fraction_digits, sign_part_bytes, point_bytes, power_bytes, PowerLegal, sign_part_length}
use Rattle.decimal.proofs.ImageLaws.{times_length}
use Rattle.codec.specs.StrictText.{byte_count, sign_blanks}
use Rattle.codec.proofs.AlphaLaws.{digit_bytes_length}
use Rattle.codec.proofs.BlankLaws.{form_blanks}
use Rattle.codec.proofs.TextLaws.{sign_short, numeral_length, text_length_lem}
use Rattle.codec.proofs.FormLaws.{converts_none}
use Rattle.records.specs.declared.lines.marks.Marks.{Marks}
use Rattle.records.specs.Lines.Marks.{no_text_byte, is_dropped, read_byte, without_marks}
use Rattle.records.specs.Lines.Fields.{read_marked}

-- A text number with no blank is short.

-- how many bytes are blanks
abbrev blank_count : List ℕ → ℕ
blank_count bytes = byte_count blank_byte bytes

-- what is read of a byte that is kept is no blank
kept_solid : (m : Marks) (b : ℕ) → is_dropped m b ≡ false → eqb (read_byte m b) blank_byte ≡ false
unfolding is_dropped read_byte
kept_solid m b h = go (eqb b m.decimal) (eqb b point_byte) (eqb b blank_byte) (eqb b m.filling || eqb b m.thousands) refl h
  where
    go : (d p k o : Bool) → eqb b blank_byte ≡ k → (k || o) ≡ false → eqb (pick d point_byte (pick p no_text_byte b)) blank_byte ≡ false
    go true p k o e h = refl
    go false true k o e h = refl
    go false false true o e h = let z : ◌≡◌ {A = Bool} true false = h in absurd (false≢true (sym z))
    go false false false o e h = e

-- no blank is left without the marks
count_without : (m : Marks) (bytes : List ℕ) → blank_count (without_marks m bytes) ≡ 0
unfolding without_marks byte_count
count_without m [] = refl
count_without m (b ∷ bs) = go (is_dropped m b) refl (count_without m bs)
  where
    go : (t : Bool)
        → is_dropped m b ≡ t
        → blank_count (without_marks m bs) ≡ 0
        → blank_count (pick t (without_marks m bs) (read_byte m b ∷ without_marks m bs)) ≡ 0
    go true e h = h
    go false e h = rw (kept_solid m b e) h

-- a sign with blanks behind it has at most one byte more than the blanks
sign_part_short : (s : SignPart) → sign_part_length s ≤ 1 + sign_blanks s
unfolding sign_part_bytes sign_blanks
sign_part_short no_sign = omega arith
sign_part_short (plus_sign n) = omega (arith, times_length n blank_byte)
sign_part_short (minus_sign n) = omega (arith, times_length n blank_byte)

-- a point and its digits have at most one byte more than the digits
point_short : (f : PointPart) → length (point_bytes f) ≤ 1 + length (fraction_digits f)
unfolding fraction_digits point_bytes
point_short no_point = omega arith
point_short (point ds) = omega (arith, digit_bytes_length ds)

-- an exponent has at most four bytes
power_short : (p : ExponentPart) → PowerLegal p → length (power_bytes p) ≤ 4
unfolding power_bytes PowerLegal
power_short no_exponent h = omega arith
power_short (exponent sign ds) h =
    omega (arith, sign_short sign, digit_bytes_length ds, length-append (sign_bytes sign) (digit_bytes ds), h.1.1)

-- the room that the code has for a text number with no blank
abbrev pub text_room : ℕ
text_room = precision + 6

-- a text number with no blank has that room
form_short : {bytes : List ℕ} {t : TextParts} → HasForm bytes t → blank_count bytes ≡ 0 → length bytes ≤ text_room
form_short {bytes} {t} form none =
    let u = t.numeral in
    omega (
      arith,
      form_blanks form,
      ap length form.written,
      text_length_lem t,
      numeral_length u,
      sign_part_short t.sign,
      point_short u.fraction,
      power_short u.power form.legal.powers,
      length-append u.integer (fraction_digits u.fraction),
      form.legal.few,
    )

-- Published: a field with more bytes that are kept is refused with 8.
pub long_refused : (m : Marks) (field : List ℕ) → text_room < length (without_marks m field) → read_marked m field ≡ refused 8 0
unfolding read_marked
long_refused m field long = converts_none (without_marks m field) (λ t form. omega (arith, form_short form (count_without m field)))

-- The loop over the field, behind so many bytes: what is kept of them and what is to be kept of the others make the whole.

pub record Keeping (m : Marks) (field kept : List ℕ) (place : ℕ) : Type 0 where
  pub whole : kept ++ without_marks m (drop place field) ≡ without_marks m field

-- before the first byte
pub keeping_starts : (m : Marks) (field : List ℕ) {kept : List ℕ} → kept ≡ [] → Keeping m field kept 0
keeping_starts m field none = record { whole = ap (λ (l : List ℕ). l ++ without_marks m field) none }

-- behind the last one
pub keeping_ends : (m : Marks) (field : List ℕ) {kept : List ℕ} {place : ℕ} → Keeping m field kept place → length field ≤ place → kept ≡ without_marks m field
unfolding without_marks
keeping_ends m field {kept} {place} r h =
    sym (append-nil kept) ∙ ap (λ (l : List ℕ). kept ++ without_marks m l) (sym (drop_of_length-le field h)) ∙ r.whole

module _ (m : Marks) (field : List ℕ) (place : ℕ) (h : place < length field) where
  -- a byte that stands at a place
  byte_there : (test : Bool) → is_dropped m (get_or field place 0) ≡ test
      → without_marks m (drop place field)
      ≡ pick test (without_marks m (drop (place + 1) field)) (read_byte m (get_or field place 0) ∷ without_marks m (drop (place + 1) field))
  unfolding without_marks
  byte_there test e =
      rw (add-one place)
      (ap (without_marks m) (drop-cons field place 0 h)
      ∙ ap (λ (t : Bool). pick t (without_marks m (drop (suc place) field)) (read_byte m (get_or field place 0) ∷ without_marks m (drop (suc place) field))) e)

  module _ {kept : List ℕ} (r : Keeping m field kept place) where
    -- it is dropped
    pub keeping_drops : {next : List ℕ} → is_dropped m (get_or field place 0) ≡ true → next ≡ kept → Keeping m field next (place + 1)
    keeping_drops e w =
        record {
          whole =
              ap (λ (l : List ℕ). l ++ without_marks m (drop (place + 1) field)) w
              ∙ ap (λ (l : List ℕ). kept ++ l) (sym (byte_there true e))
              ∙ r.whole;
        }

    module _ (e : is_dropped m (get_or field place 0) ≡ false) where
      -- it is not
      byte_kept : kept ++ (read_byte m (get_or field place 0) ∷ without_marks m (drop (place + 1) field)) ≡ without_marks m field
      byte_kept = ap (λ (l : List ℕ). kept ++ l) (sym (byte_there false e)) ∙ r.whole

      -- it is kept
      pub keeping_keeps : {next : List ℕ} → next ≡ kept ++ (read_byte m (get_or field place 0) ∷ []) → Keeping m field next (place + 1)
      keeping_keeps w =
          record {
            whole =
                ap (λ (l : List ℕ). l ++ without_marks m (drop (place + 1) field)) w
                ∙ append_assoc kept (read_byte m (get_or field place 0) ∷ []) (without_marks m (drop (place + 1) field))
                ∙ byte_kept;
          }

      -- where there is no room for it, the field is refused with 8
      pub keeping_full : text_room ≤ length kept → refused 8 0 ≡ read_marked m field
      keeping_full full =
          let more = ap length (sym byte_kept) in
          let all = length-append kept (read_byte m (get_or field place 0) ∷ without_marks m (drop (place + 1) field)) in
          sym (long_refused m field (omega (arith, full, more, all)))
