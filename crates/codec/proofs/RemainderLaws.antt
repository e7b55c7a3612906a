-- Laws of what packing leaves of its numbers, column by column. Assumes nothing.
use Prim.Native.Nat.{ℕ, suc, ◌+◌}
use mathlib.Core.Path.{◌≡◌, refl, ap, ap₂, sym, ◌∙◌}
use mathlib.Core.List.{List, [], ◌∷◌, ◌++◌, append_assoc, append-nil}
use native.Mathlib.Omega.{arith}
use lib.ListN.{length, length-append}
use Rattle.std.proofs.Common.{◌⊎◌}
use Rattle.decimal.specs.declared.image.Image.{Image}
use Rattle.decimal.specs.declared.number.Number.{Number}
use Rattle.decimal.specs.declared.remainder.Remainder.{Remainder}
use Rattle.decimal.specs.Answer.{done, refused, ◌then◌}
use Rattle.decimal.specs.Truncation.{truncated_to, Fit}
use Rattle.decimal.specs.Remainder.{cut_off}
use Rattle.decimal.proofs.AnswerLaws.{then_done, then_next, then_refused}
use Rattle.codec.specs.Answers.{within}
use Rattle.codec.specs.Contents.{Table, read_alone}
use Rattle.codec.specs.Packing.{pack_list, body_of, packing_under, packing, AllPack}
use Rattle.codec.specs.Packing.AllPack.{none, one}
use Rattle.codec.specs.Remainders.{cut_columns, packing_remainders, remainders_under}
use Rattle.codec.proofs.PackLaws.{packed_anywhere, packs_fit, packs_length}
use Rattle.codec.proofs.BodyLaws.{packed_only, next_packs, none_packs}
use Rattle.codec.proofs.RoomTheorem.{packing_body}

-- Column by column.

-- what truncation leaves of a list that packs
unfoldable pub left_of : List Image → List Number → List Remainder
left_of [] ns = []
left_of (im ∷ ims) [] = []
left_of (im ∷ ims) (n ∷ ns) = cut_off im n (truncated_to im n) ∷ left_of ims ns

-- packing leaves it
pub packs_left : (column : ℕ) {ims : List Image} {ns : List Number} → AllPack ims ns → cut_columns column ims ns ≡ done (left_of ims ns)
unfolding cut_columns ◌then◌ left_of
packs_left column none = refl
packs_left column (one {im} {n} p ps) = rw (packed_anywhere 0 im n (p.truncated 0) column, packs_left (suc column) ps)

-- one remainder per column
pub left_length : (ims : List Image) (ns : List Number) → length ns ≡ length ims → length (left_of ims ns) ≡ length ims
unfolding left_of
left_length [] ns e = refl
left_length (im ∷ ims) [] e = absurd (omega arith)
left_length (im ∷ ims) (n ∷ ns) e = ap suc (left_length ims ns (omega arith))

-- The loop that finds them: of the columns that are left each packs, and what it leaves comes behind what is found.
pub record Leaving (all : List Remainder) (ims : List Image) (ns : List Number) (found : List Remainder) : Type 0 where
  pub packs : AllPack ims ns
  pub room : length found + length ims ≡ length all
  pub whole : found ++ left_of ims ns ≡ all

-- before the first column
pub leaving_starts :
    {ims left_ims : List Image} {ns left_ns : List Number} → AllPack ims ns → left_ims ≡ ims → left_ns ≡ ns → Leaving (left_of ims ns) left_ims left_ns []
leaving_starts {ims} {left_ims} {ns} packs images numbers =
    rw (images, numbers) (record { packs = packs; room = omega (arith, left_length ims ns (packs_length packs)); whole = refl })

module _ {all : List Remainder} {ims later_ims : List Image} {ns later_ns : List Number} {found : List Remainder} {im : Image} {n : Number}
    (l : Leaving all ims ns found) (images : ims ≡ im ∷ later_ims) (numbers : ns ≡ n ∷ later_ns) where
  -- the next number fits its image
  pub left_fits : Fit im n
  left_fits = packs_fit (next_packs l.packs images numbers).0

  -- one remainder more
  pub leaving_turns :
      {r : Remainder} {after : List Remainder} → r ≡ cut_off im n (truncated_to im n) → after ≡ found ++ r ∷ [] → Leaving all later_ims later_ns after
  unfolding left_of
  leaving_turns {r} {after} same pushed =
      rw pushed
      (record {
        packs = (next_packs l.packs images numbers).1;
        room = omega (arith, length-append found (r ∷ []), ap length images, l.room);
        whole =
            append_assoc found (r ∷ []) (left_of later_ims later_ns)
            ∙ ap (λ (x : Remainder). found ++ x ∷ left_of later_ims later_ns) same
            ∙ ap₂ (λ (a : List Image) (b : List Number). found ++ left_of a b) (sym images) (sym numbers)
            ∙ l.whole;
      })

-- behind the last column all are found
pub leaving_ends :
    {all : List Remainder} {ims : List Image} {ns : List Number} {found : List Remainder}
    → Leaving all ims ns found
    → (length ims ≡ 0) ⊎ (length ns ≡ 0)
    → all ≡ found
unfolding left_of
leaving_ends {all} {ims} {ns} {found} l end =
    let left = none_packs l.packs end in
    let none : left_of ims ns ≡ [] = ap₂ left_of left.0 left.1 in
    sym l.whole ∙ ap (λ (rest : List Remainder). found ++ rest) none ∙ append-nil found

-- The call.

-- a packing that is refused leaves nothing
pub left_refused :
    (contents : List ℕ) (ns : List Number) (room : ℕ) {x y : ℕ}
    → packing contents ns room ≡ refused x y
    → packing_remainders contents ns room ≡ refused x y
unfolding packing_remainders
left_refused contents ns room h = then_refused _ h

-- a list that has a body under a contents packs under its images
pub body_packs :
    (contents : List ℕ) (ns : List Number) (room : ℕ) {table : Table} {body : List ℕ}
    → read_alone contents ≡ done table
    → packing contents ns room ≡ done body
    → AllPack table.images ns
unfolding body_of
body_packs contents ns room {table} reads h =
    packed_only table.images ns (sym (then_next (λ (t : Table). pack_list t.images ns) reads) ∙ packing_body contents ns room h)

-- with a body the remainders are those of its columns
pub remainders_found :
    (contents : List ℕ) (ns : List Number) (room : ℕ) {table : Table} {body : List ℕ}
    → read_alone contents ≡ done table
    → packing contents ns room ≡ done body
    → packing_remainders contents ns room ≡ cut_columns 0 table.images ns
unfolding packing_remainders
remainders_found contents ns room {table} reads h = then_next _ h ∙ then_next (λ (t : Table). cut_columns 0 t.images ns) reads

-- and packing leaves what its truncations leave
pub body_left :
    (contents : List ℕ) (ns : List Number) (room : ℕ) {table : Table} {body : List ℕ}
    → read_alone contents ≡ done table
    → packing contents ns room ≡ done body
    → packing_remainders contents ns room ≡ done (left_of table.images ns)
body_left contents ns room {table} reads h = remainders_found contents ns room reads h ∙ packs_left 0 (body_packs contents ns room reads h)

module _ (ims : List Image) (ns : List Number) (room : ℕ) where
  -- the same of a list under images: refused as packing is
  pub under_left_refused : {x y : ℕ} → packing_under ims ns room ≡ refused x y → remainders_under ims ns room ≡ refused x y
  unfolding remainders_under
  under_left_refused h = then_refused _ h

  -- with a body it packs
  pub under_packs : {body : List ℕ} → packing_under ims ns room ≡ done body → AllPack ims ns
  unfolding packing_under
  under_packs h =
      packed_only ims ns (then_done (pack_list ims ns) (within room) h).first

  -- and the remainders are those of its columns
  pub under_found : {body : List ℕ} → packing_under ims ns room ≡ done body → remainders_under ims ns room ≡ cut_columns 0 ims ns
  unfolding remainders_under
  under_found h = then_next _ h
