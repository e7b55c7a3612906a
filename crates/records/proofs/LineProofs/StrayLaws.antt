-- Reading a field back under marks: a point that is no mark, and a comma that is no mark, give 8.
-- Assumes nothing.
use Prim.Native.Nat.{ℕ, zero, suc, ◌<◌, ◌≤◌}
use mathlib.Core.Path.{◌≡◌, refl, ap, sym, subst, ◌∙◌}
use mathlib.Core.List.{List, [], ◌∷◌}
use mathlib.Core.Bool.{Bool, true, false}
use native.Mathlib.Omega.{arith}
use borrow.Author.Tests.{eq-eqb, ne_eqb}
use lib.Dec.{eqb}
use lib.ListN.{length, get_or}
use Rattle.decimal.specs.Answer.{refused, pick}
use Rattle.decimal.specs.Image.{point_byte, comma_byte, times}
use Rattle.codec.specs.Alpha.{blank_byte}
use Rattle.codec.specs.Text.{TextParts, text_bytes}
use Rattle.codec.specs.StrictText.{byte_count, sign_blanks}
use Rattle.codec.proofs.BlankLaws.{Foreign, count_text}
use Rattle.codec.proofs.FormLaws.{converts_none}
use Rattle.records.specs.declared.lines.marks.Marks.{Marks}
use Rattle.records.specs.Lines.Marks.{no_text_byte, is_dropped, read_byte, without_marks}
use Rattle.records.specs.Lines.Fields.{read_marked}

-- a byte that no text number has: below the digits, and no sign, no point and no blank
record NoText (x : ℕ) : Type 0 where
  foreign : Foreign x
  no_blank : x ≡ blank_byte → ⊥

module _ {x : ℕ} (n : NoText x) where
  -- it stands among no blanks
  none_blanks : (count : ℕ) → byte_count x (times count blank_byte) ≡ 0
  unfolding byte_count times
  none_blanks zero = refl
  none_blanks (suc count) = rw (ne_eqb blank_byte x (λ e. n.no_blank (sym e))) (none_blanks count)

  -- so that it stands in no text
  none_text : (t : TextParts) → byte_count x (text_bytes t) ≡ 0
  none_text t = omega (arith, count_text n.foreign t, none_blanks t.before, none_blanks (sign_blanks t.sign), none_blanks t.behind)

-- a byte that is kept stands among those that are left
count_more : (x b : ℕ) (bs : List ℕ) → byte_count x bs ≤ byte_count x (b ∷ bs)
unfolding byte_count
count_more x b bs = go (eqb b x)
  where
    go : (t : Bool) → byte_count x bs ≤ pick t (suc (byte_count x bs)) (byte_count x bs)
    go true = omega arith
    go false = omega arith

count_here : (x : ℕ) (bs : List ℕ) → 1 ≤ byte_count x (x ∷ bs)
unfolding byte_count
count_here x bs = rw (eq-eqb x x refl) (omega arith)

kept_counts : (m : Marks) (field : List ℕ) (j : ℕ) {b : ℕ} → j < length field → get_or field j 0 ≡ b → is_dropped m b ≡ false
    → 1 ≤ byte_count (read_byte m b) (without_marks m field)
unfolding without_marks
kept_counts m [] j inside is kept = absurd (omega arith)
kept_counts m (c ∷ bs) zero {b} inside is kept =
    let here : is_dropped m c ≡ false = ap (is_dropped m) is ∙ kept in
    rw (here, is) (count_here (read_byte m b) (without_marks m bs))
kept_counts m (c ∷ bs) (suc j) {b} inside is kept = go (is_dropped m c) (kept_counts m bs j (omega arith) is kept)
  where
    go : (t : Bool) → 1 ≤ byte_count (read_byte m b) (without_marks m bs)
        → 1 ≤ byte_count (read_byte m b) (pick t (without_marks m bs) (read_byte m c ∷ without_marks m bs))
    go true h = h
    go false h = omega (arith, count_more (read_byte m b) (read_byte m c) (without_marks m bs))

-- a byte is no mark
pub record NoMark (m : Marks) (b : ℕ) : Type 0 where
  pub no_decimal : b ≡ m.decimal → ⊥
  pub no_thousands : b ≡ m.thousands → ⊥
  pub no_filling : b ≡ m.filling → ⊥

-- a byte that is no mark and no blank, and is read as one that no text number has, gives 8
stray : (m : Marks) (field : List ℕ) (j : ℕ) {b x : ℕ} → j < length field → get_or field j 0 ≡ b → NoMark m b → (b ≡ blank_byte → ⊥)
    → read_byte m b ≡ x → NoText x → read_marked m field ≡ refused 8 0
unfolding is_dropped read_marked
stray m field j {b} {x} inside is none solid read no-text =
    let kept : is_dropped m b ≡ false =
    rw (ne_eqb b blank_byte solid, ne_eqb b m.filling none.no_filling, ne_eqb b m.thousands none.no_thousands) in
    let some : 1 ≤ byte_count x (without_marks m field) =
    subst (λ (c : ℕ). 1 ≤ byte_count c (without_marks m field)) read (kept_counts m field j inside is kept) in
    converts_none (without_marks m field) (λ t form. omega (arith, some, ap (byte_count x) form.written, none_text no-text t))

-- Published: a field with a point that is no mark is refused with 8.
pub stray_point : (m : Marks) (field : List ℕ) (j : ℕ) → j < length field → get_or field j 0 ≡ point_byte → NoMark m point_byte
    → read_marked m field ≡ refused 8 0
unfolding read_byte
stray_point m field j inside is none =
    stray m field j {x = no_text_byte} inside is none (λ e. omega arith) (rw (ne_eqb point_byte m.decimal none.no_decimal))
    (record {
      foreign = record { below = omega arith; no_plus = λ e. omega arith; no_minus = λ e. omega arith; no_point_lem = λ e. omega arith };
      no_blank = λ e. omega arith;
    })

-- Published: so is a field with a comma that is no mark.
pub stray_comma : (m : Marks) (field : List ℕ) (j : ℕ) → j < length field → get_or field j 0 ≡ comma_byte → NoMark m comma_byte
    → read_marked m field ≡ refused 8 0
unfolding read_byte
stray_comma m field j inside is none =
    stray m field j {x = comma_byte} inside is none (λ e. omega arith) (rw (ne_eqb comma_byte m.decimal none.no_decimal))
    (record {
      foreign = record { below = omega arith; no_plus = λ e. omega arith; no_minus = λ e. omega arith; no_point_lem = λ e. omega arith };
      no_blank = λ e. omega arith;
    })
