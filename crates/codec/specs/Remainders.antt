-- Document 02, (ii): packing also gives what truncation cut off its numbers. "A refused packing gives no remainder."
use Rattle.std.specs.Prelude.{ℕ, suc, ◌+◌, ◌*◌, ◌^◌, ◌≡◌, List, [], ◌∷◌, ◌↔◌}
use Rattle.decimal.specs.declared.image.Image.{Image}
use Rattle.decimal.specs.declared.number.Number.{Number}
use Rattle.decimal.specs.declared.remainder.Remainder.{Remainder}
use Rattle.decimal.specs.Answer.{Answer, done, refused, ◌then◌}
use Rattle.decimal.specs.Number.{magnitude}
use Rattle.decimal.specs.Truncation.{Truncated, packed_truncation}
use Rattle.decimal.specs.Remainder.{IsRemainder, cut_off}
use Rattle.codec.specs.declared.remainders.Packed.{Packed}
use Rattle.codec.specs.Contents.{IsContents, read_alone}
use Rattle.codec.specs.Packing.{packing, packing_under}
use Rattle.codec.specs.Unpacking.{unpacking}

-- what is cut off the columns' numbers, in order; refused as their packing is
unfoldable pub cut_columns : ℕ → List Image → List Number → Answer (List Remainder)
cut_columns column [] ns = done []
cut_columns column (im ∷ ims) [] = done []
cut_columns column (im ∷ ims) (n ∷ ns) =
    packed_truncation column im n then λ t. (cut_columns (suc column) ims ns then λ rs. done (cut_off im n t ∷ rs))

-- the packing call's remainders, one per column; refused as packing is
unfoldable pub packing_remainders : List ℕ → List Number → ℕ → Answer (List Remainder)
packing_remainders contents ns room =
    packing contents ns room then λ _. (read_alone contents then λ table. cut_columns 0 table.images ns)

-- the remainders of a list that is packed under the images of a contents; refused as packing there is
unfoldable pub remainders_under : List Image → List Number → ℕ → Answer (List Remainder)
remainders_under ims ns room = packing_under ims ns room then λ _. cut_columns 0 ims ns

-- what the code gives of a packing: how many bytes were written, and the remainders
abbrev pub size_of : Packed → ℕ
size_of packed = packed.size

abbrev pub remainders_of : Packed → List Remainder
remainders_of packed = packed.remainders.items

-- Exactly which remainders packing gives: what is proved of the definitions above.

-- one remainder per column: what the truncation that packing uses leaves of the column's number
pub data RemainderEach : ℕ → List Image → List Number → List Remainder → Type 0 where
  none : {column : ℕ} → RemainderEach column [] [] []
  one :
      {column : ℕ} {im : Image} {n : Number} {t : Truncated} {r : Remainder} {ims : List Image} {ns : List Number} {rs : List Remainder}
      → packed_truncation column im n ≡ done t
      → IsRemainder im n t r
      → RemainderEach (suc column) ims ns rs
      → RemainderEach column (im ∷ ims) (n ∷ ns) (r ∷ rs)

-- each number's magnitude is that of the number read back for it, plus r × 10^power of its remainder
pub data SumEach : List Number → List Number → List Remainder → Type 0 where
  none : SumEach [] [] []
  one :
      {n t : Number} {r : Remainder} {ns ts : List Number} {rs : List Remainder}
      → magnitude t + r.whole * 10 ^ r.power ≡ magnitude n
      → SumEach ns ts rs
      → SumEach (n ∷ ns) (t ∷ ts) (r ∷ rs)

pub record RemaindersExactly (contents : List ℕ) (ns : List Number) (room : ℕ) : Type 0 where
  -- remainders are given exactly where a body is, and they are what packing's truncations leave
  pub given :
      (rs : List Remainder)
      → (packing_remainders contents ns room ≡ done rs)
      ↔ ((body : List ℕ) × (packing contents ns room ≡ done body) × (ims : List Image) × IsContents contents ims × RemainderEach 0 ims ns rs)
  -- they are refused exactly as packing is
  pub refuses :
      (number place : ℕ) → (packing_remainders contents ns room ≡ refused number place) ↔ (packing contents ns room ≡ refused number place)
  -- what the body is read back as and the remainders make the magnitudes that were packed
  pub read_back :
      {body : List ℕ} {ts : List Number} {rs : List Remainder}
      → packing contents ns room ≡ done body
      → unpacking contents body ≡ done ts
      → packing_remainders contents ns room ≡ done rs
      → SumEach ns ts rs
