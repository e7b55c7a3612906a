-- Laws of the alpha texts of a list: those of numbers that a body holds exist, and how long their line is. Assumes nothing.
use Prim.Native.Nat.{ℕ, suc, ◌+◌, ◌*◌, ◌/◌, ◌%◌, ◌<◌, ◌≤◌}
use mathlib.Core.Path.{◌≡◌, refl, ap, sym, ◌∙◌, subst}
use mathlib.Core.List.{List, [], ◌∷◌}
use mathlib.Core.Bool.{Bool, true, false}
use native.Mathlib.Omega.{arith}
use native.Mathlib.Nat.{suc_inj}
use lib.ListN.{length, take, drop, length-append, length-drop}
use lib.Seq.{length-take-le}
use Rattle.decimal.specs.declared.image.Image.{Image}
use Rattle.decimal.specs.declared.number.Number.{Number}
use Rattle.decimal.specs.Answer.{Answer, done, ◌then◌}
use Rattle.decimal.specs.Image.{hashes, image_bytes}
use Rattle.decimal.specs.Truncation.{truncated_to}
use Rattle.decimal.proofs.ImageLaws.{reads_image}
use Rattle.decimal.proofs.TruncationLaws.{fit_truncation}
use Rattle.codec.specs.Columns.{Checked, AllChecked, Sound, sign_count, exponent_count, column_size, body_size}
use Rattle.codec.specs.Unpacking.{unpack_columns, unpack_body}
use Rattle.codec.specs.Alpha.{blank_byte, alpha_text, alpha_under, alpha_of, alpha_texts, parted, fraction_length, exponent_length, tail_length, text_length, line_length}
use Rattle.decimal.proofs.AnswerLaws.{then_done}
use Rattle.codec.proofs.ColumnTheorem.{column_packs}
use Rattle.codec.proofs.ReadBackTheorem.{body_view, unpack_view}
use Rattle.codec.proofs.AlphaLaws.{under_done, alpha_under_length, alpha_read, fraction_few}
use Rattle.codec.proofs.ContentsLaws.{sign_few}

-- One text.

-- the text under an image's bytes is that under the image
pub alpha_under_lem : {im : Image} → Checked im → (n : Number) → alpha_of (image_bytes im) n ≡ alpha_under im n
alpha_under_lem {im} checked n =
    alpha_read (image_bytes im) n im (reads_image 0 {im = im} (record { rendered = refl; nonempty = checked.nonempty }) checked.fits)

-- The texts of a list.

-- the texts of a list: the first number's, and the others'
pub record TextsStep (im : Image) (ims : List Image) (n : Number) (ns : List Number) (texts : List (List ℕ)) : Type 0 where
  pub text : List ℕ
  pub others : List (List ℕ)
  pub first : alpha_under im n ≡ done text
  pub rest : alpha_texts ims ns ≡ done others
  pub joined : text ∷ others ≡ texts

module _ (im : Image) (ims : List Image) (checked : Checked im) (n : Number) (ns : List Number) where
  -- what texts tell of the first
  pub texts_view : {texts : List (List ℕ)} → alpha_texts (im ∷ ims) (n ∷ ns) ≡ done texts → TextsStep im ims n ns texts
  unfolding alpha_texts
  texts_view {texts} h =
      let one = then_done (alpha_of (image_bytes im) n) (λ (text : List ℕ). alpha_texts ims ns then λ (others : List (List ℕ)). done (text ∷ others)) h in
      let two = then_done (alpha_texts ims ns) (λ (others : List (List ℕ)). done (one.value ∷ others)) one.second in
      let last : ◌≡◌ {A = Answer (List (List ℕ))} (done (one.value ∷ two.value)) (done texts) = two.second in
      record {
        text = one.value;
        others = two.value;
        first = sym (alpha_under_lem checked n) ∙ one.first;
        rest = two.first;
        joined = cc;
      }

  -- and the other way
  pub texts_step :
      {text : List ℕ} {others : List (List ℕ)}
      → alpha_under im n ≡ done text
      → alpha_texts ims ns ≡ done others
      → alpha_texts (im ∷ ims) (n ∷ ns) ≡ done (text ∷ others)
  unfolding alpha_texts ◌then◌
  texts_step p q = rw (alpha_under_lem checked n ∙ p, q)

-- one text per column
pub texts_count :
    {ims : List Image}
    → AllChecked ims
    → (ns : List Number) {texts : List (List ℕ)}
    → length ns ≡ length ims
    → alpha_texts ims ns ≡ done texts
    → length texts ≡ length ims
unfolding alpha_texts
texts_count AllChecked.none ns {texts} same h = let e : [] ≡ texts = cc in sym (ap length e)
texts_count (AllChecked.more checked others) [] same h = absurd (omega arith)
texts_count (AllChecked.more {im} {ims} checked others) (n ∷ ns) same h =
    let step = texts_view im ims checked n ns h in
    sym (ap length step.joined) ∙ ap suc (texts_count others ns (suc_inj same) step.rest)

-- one more text and a blank
parted_more : (t u : List ℕ) (us : List (List ℕ)) → length (parted (t ∷ (u ∷ us))) ≡ length t + suc (length (parted (u ∷ us)))
unfolding parted
parted_more t u us = length-append t (blank_byte ∷ parted (u ∷ us))

-- a text before the others
line_from :
    (text : List ℕ) {ims : List Image}
    → AllChecked ims
    → (ns : List Number) {texts : List (List ℕ)}
    → length ns ≡ length ims
    → alpha_texts ims ns ≡ done texts
    → suc (length (parted (text ∷ texts))) ≡ suc (length text) + line_length ims
unfolding alpha_texts line_length parted
line_from text AllChecked.none ns {texts} same h =
    let none : [] ≡ texts = cc in
    let line : length (parted (text ∷ texts)) ≡ length text = sym (ap (λ (l : List (List ℕ)). length (parted (text ∷ l))) none) in
    omega arith
line_from text (AllChecked.more checked others) [] same h = absurd (omega arith)
line_from text (AllChecked.more {im} {ims} checked others) (n ∷ ns) same h =
    let step = texts_view im ims checked n ns h in
    let line = ap (λ (l : List (List ℕ)). length (parted (text ∷ l))) step.joined in
    omega (
      arith,
      line,
      parted_more text step.text step.others,
      line_from step.text others ns (suc_inj same) step.rest,
      alpha_under_length im n step.first,
    )

-- Published: the texts with a byte between them and one behind the last are as long as the images say.
pub texts_length :
    {ims : List Image}
    → AllChecked ims
    → (ns : List Number) {texts : List (List ℕ)}
    → 1 ≤ length ims
    → length ns ≡ length ims
    → alpha_texts ims ns ≡ done texts
    → suc (length (parted texts)) ≡ line_length ims
unfolding line_length
texts_length AllChecked.none ns some same h = absurd (omega arith)
texts_length (AllChecked.more checked others) [] some same h = absurd (omega arith)
texts_length (AllChecked.more {im} {ims} checked others) (n ∷ ns) some same h =
    let step = texts_view im ims checked n ns h in
    let line = ap (λ (l : List (List ℕ)). length (parted l)) step.joined in
    omega (arith, line, line_from step.text others ns (suc_inj same) step.rest, alpha_under_length im n step.first)

-- The texts of numbers that a body holds.

-- columns that are read have a number each
columns_count : (column : ℕ) (ims : List Image) (body : List ℕ) {ns : List Number} → unpack_columns column ims body ≡ done ns → length ns ≡ length ims
unfolding unpack_columns
columns_count column [] body {ns} h = let none : [] ≡ ns = cc in sym (ap length none)
columns_count column (im ∷ ims) body h =
    let step = unpack_view column im ims body h in
    sym (ap length step.joined) ∙ ap suc (columns_count (suc column) ims (drop (column_size im) body) step.others)

-- so has a body that is read
pub unpacked_count : (ims : List Image) (body : List ℕ) {ns : List Number} → unpack_body ims body ≡ done ns → length ns ≡ length ims
unpacked_count ims body h = columns_count 0 ims body (body_view ims body h).1

-- columns that are read have a text each
columns_texts :
    (column : ℕ) {ims : List Image}
    → AllChecked ims
    → (body : List ℕ) {ns : List Number}
    → length body ≡ body_size ims
    → unpack_columns column ims body ≡ done ns
    → (texts : List (List ℕ)) × (alpha_texts ims ns ≡ done texts)
unfolding body_size alpha_texts
columns_texts column AllChecked.none body {ns} sized h = ([], refl)
columns_texts column (AllChecked.more {im} {ims} checked others) body {ns} sized h =
    let k = column_size im in
    let step = unpack_view column im ims body h in
    let front : length (take k body) ≡ k = length-take-le k body (omega arith) in
    let left : length (drop k body) ≡ body_size ims = length-drop k body ∙ omega arith in
    let packing = column_packs im checked column (take k body) step.number front step.first in
    let text = under_done im step.number (fit_truncation 0 im step.number packing.fit) in
    let rest = columns_texts (suc column) others (drop k body) left step.others in (
      alpha_text im (truncated_to im step.number) ∷ rest.0,
      subst (λ (l : List Number). alpha_texts (im ∷ ims) l ≡ done (alpha_text im (truncated_to im step.number) ∷ rest.0)) step.joined
          (texts_step im ims checked step.number step.numbers text rest.1),
    )

-- Published: the numbers that a body is read as have alpha texts.
pub unpacked_texts :
    {ims : List Image}
    → AllChecked ims
    → (body : List ℕ) {ns : List Number}
    → unpack_body ims body ≡ done ns
    → (texts : List (List ℕ)) × (alpha_texts ims ns ≡ done texts)
unpacked_texts {ims} checked body h = let p = body_view ims body h in columns_texts 0 checked body p.0 p.1

-- How long a line is, at most and at least.

-- no line is empty
pub line_some : (ims : List Image) → Sound ims → 0 < line_length ims
unfolding line_length
line_some [] s = absurd (omega (arith, s.low))
line_some (im ∷ ims) s = omega arith

-- a column's text and one byte are at most four times the column's bytes
pub column_text : {im : Image} → Checked im → suc (text_length im) ≤ 4 * column_size im
unfolding column_size text_length tail_length exponent_length
column_text {im} checked = go im.exponential refl
  where
    go : (b : Bool)
        → im.exponential ≡ b
        → suc (sign_count im.sign + (im.integer + (fraction_length im.fraction + exponent_length b)))
        ≤ 4 * ((sign_count im.sign + (hashes im + exponent_count b) + (sign_count im.sign + (hashes im + exponent_count b)) % 2) / 2)
    go true e = omega (arith, checked.nonempty, fraction_few im.fraction, sign_few im.sign)
    go false e = omega (arith, checked.nonempty, fraction_few im.fraction, sign_few im.sign)

-- Published: a line is at most four times as long as the body.
pub line_bound : {ims : List Image} → AllChecked ims → line_length ims ≤ 4 * body_size ims
unfolding line_length body_size
line_bound AllChecked.none = omega arith
line_bound (AllChecked.more checked others) = omega (arith, column_text checked, line_bound others)
