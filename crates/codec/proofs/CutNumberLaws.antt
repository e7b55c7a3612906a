-- Laws of the number that a cut stands for. Assumes nothing.
use Prim.Native.Nat.{ℕ}
use mathlib.Core.Path.{◌≡◌, ap, sym, ◌∙◌}
use mathlib.Core.List.{List}
use Rattle.decimal.specs.declared.image.Image.{Image}
use Rattle.decimal.specs.declared.number.Number.{Number}
use Rattle.decimal.specs.Answer.{Answer, done, ◌then◌, mapped}
use lib.ListN.{length}
use Rattle.decimal.specs.Truncation.{Truncated, truncated_to, number_of}
use Rattle.decimal.proofs.AnswerLaws.{then_both, done_same, mapped_back}
use Rattle.decimal.proofs.TruncationLaws.{fit_truncation}
use Rattle.codec.specs.Columns.{column_size, Checked}
use Rattle.codec.specs.Alpha.{alpha_text, alpha_under}
use Rattle.codec.specs.Unpacking.{as_half, parts_number, halves_number, unpack_column}
use Rattle.codec.proofs.ColumnTheorem.{column_packs, halves_pass, packing_stands}

-- A column's number is the one that the cut read from it stands for.
pub column_number :
    (im : Image) → Checked im → (column : ℕ) (bytes : List ℕ) {n : Number}
    → length bytes ≡ column_size im
    → unpack_column column im bytes ≡ done n
    → number_of 0 im (truncated_to im n) ≡ done n
column_number im checked column bytes {n} sized read =
    let p = column_packs im checked column bytes n sized read in
    let s = packing_stands im n p in
    let same : s.number ≡ n = done_same (sym (s.stands_for column) ∙ (halves_pass im checked column bytes n sized read).stands) in
    ap (number_of 0 im) (sym p.cut) ∙ s.stands_for 0 ∙ ap {B = Answer Number} done same

-- A column that is read in one place is read in each.
pub column_any :
    (im : Image) → Checked im → (place : ℕ) (bytes : List ℕ) {n : Number}
    → length bytes ≡ column_size im
    → unpack_column place im bytes ≡ done n
    → (column : ℕ) → unpack_column column im bytes ≡ done n
unfolding unpack_column halves_number parts_number as_half
column_any im checked place bytes {n} sized read column =
    let p = halves_pass im checked place bytes n sized read in
    let s = packing_stands im n (column_packs im checked place bytes n sized read) in
    let same : s.number ≡ n = done_same (sym (s.stands_for place) ∙ p.stands) in
    rw (p.in_digits, p.in_exponent, p.in_pad, p.breaks) (ap (as_half column) (s.stands_for column ∙ ap {B = Answer Number} done same))

-- so what is read as a cut is unpacked to the cut's number
pub column_read :
    (im : Image) → Checked im → (column : ℕ) (bytes : List ℕ) {t : Truncated} {number : Number}
    → length bytes ≡ column_size im
    → done t ≡ mapped (truncated_to im) (unpack_column column im bytes)
    → number_of 0 im t ≡ done number
    → done number ≡ unpack_column column im bytes
column_read im checked column bytes {t} {number} sized cut stands =
    let back = mapped_back (truncated_to im) (unpack_column column im bytes) cut in
    sym stands ∙ ap (number_of 0 im) back.2 ∙ column_number im checked column bytes sized back.1 ∙ sym back.1

-- Published: the alpha text of the number that a column is unpacked to, under the column's image, is the text of the cut that is read: no
-- number need be made.
pub column_alpha :
    (im : Image) → Checked im → (column : ℕ) (bytes : List ℕ) {t : Truncated}
    → length bytes ≡ column_size im
    → done t ≡ mapped (truncated_to im) (unpack_column column im bytes)
    → (unpack_column column im bytes then λ n. alpha_under im n) ≡ done (alpha_text im t)
unfolding alpha_under
column_alpha im checked column bytes {t} sized cut =
    let back = mapped_back (truncated_to im) (unpack_column column im bytes) cut in
    let p = column_packs im checked column bytes back.0 sized back.1 in
    then_both (λ n. alpha_under im n) back.1
    (then_both (λ u. done (alpha_text im u)) (fit_truncation 0 im back.0 p.fit) (ap (λ (u : Truncated). done (alpha_text im u)) (sym back.2)))
