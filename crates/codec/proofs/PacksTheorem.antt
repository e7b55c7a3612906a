-- When a list packs: the packing call gives a body exactly where document 01's conditions hold, and is refused otherwise than with 6
-- exactly where they do not. Assumes nothing.
use Prim.Native.Nat.{ℕ}
use mathlib.Core.Path.{◌≡◌, refl, subst}
use mathlib.Core.Logic.{◌↔◌, ⊎_elim}
use mathlib.Core.List.{List}
use native.Mathlib.Omega.{arith}
use lib.ListN.{length}
use Rattle.decimal.specs.declared.image.Image.{Image}
use Rattle.decimal.specs.declared.number.Number.{Number}
use Rattle.decimal.specs.Answer.{Answer, done, refused}
use Rattle.decimal.proofs.AnswerLaws.{then_done, then_both}
use Rattle.decimal.proofs.DigitLaws.{le_or_lt}
use Rattle.codec.specs.Columns.{AllChecked}
use Rattle.codec.specs.Contents.{AllImages, IsContents, Table, read_alone}
use Rattle.codec.specs.Order.{Bytes}
use Rattle.codec.specs.Unpacking.{unpacking}
use Rattle.codec.specs.Packing.{PacksEach, Packs, AllPack, pack_list, body_of, packing}
use Rattle.codec.proofs.ContentsTheorem.{alone_exactly, contents_unique}
use Rattle.codec.proofs.PackLaws.{conditions_pack, pack_conditions}
use Rattle.codec.proofs.BodyLaws.{packs_exactly}
use Rattle.codec.proofs.ReadBackTheorem.{contents_accepts}
use Rattle.codec.proofs.RoomTheorem.{within_done, longer_refused, none_refused, body_not_six}

-- the conditions hold where each number is truncated to be packed
all_pack : {ims : List Image} {ns : List Number} → AllImages ims → PacksEach ims ns → AllPack ims ns
all_pack AllImages.none PacksEach.none = AllPack.none
all_pack (AllImages.more some others) (PacksEach.one p ps) = AllPack.one (conditions_pack some p) (all_pack others ps)

-- and only there
all_conditions : {ims : List Image} {ns : List Number} → AllPack ims ns → PacksEach ims ns
all_conditions AllPack.none = PacksEach.none
all_conditions (AllPack.one p ps) = PacksEach.one (pack_conditions p) (all_conditions ps)

-- no image is refused there
each_checked : {ims : List Image} {ns : List Number} → AllImages ims → PacksEach ims ns → AllChecked ims
each_checked AllImages.none PacksEach.none = AllChecked.none
each_checked (AllImages.more some others) (PacksEach.one p ps) =
    AllChecked.more (record { nonempty = some; fits = p.fits }) (each_checked others ps)

-- a list packs under images exactly where it has a body
pub packs_list : {ims : List Image} → AllImages ims → (ns : List Number) → PacksEach ims ns ↔ ((body : List ℕ) × (pack_list ims ns ≡ done body))
packs_list {ims} images ns =
    (λ packs. (packs_exactly ims ns).0 (all_pack images packs), λ packed. all_conditions ((packs_exactly ims ns).1 packed))

-- Published: a contents under which a list packs is read.
pub packs_read : {contents : List ℕ} {ims : List Image} {ns : List Number} → IsContents contents ims → Packs contents ns
    → read_alone contents ≡ done (record { images = ims; size = length contents })
packs_read {contents} {ims} {ns} is p =
    let checked = each_checked p.is_contents.each p.each in
    (alone_exactly contents).1
    (record {
      is_contents = is;
      checked = subst (λ (l : List Image). AllChecked l) (contents_unique p.is_contents is) checked;
      size = refl;
    })

-- Published: a list packs under a contents exactly where it has a body.
pub packs_contents : (contents : List ℕ) (ns : List Number) → Packs contents ns ↔ ((body : List ℕ) × (body_of contents ns ≡ done body))
unfolding body_of
packs_contents contents ns = (there, back)
  where
    there : Packs contents ns → (body : List ℕ) × (body_of contents ns ≡ done body)
    there p =
        let packed = (packs_list p.is_contents.each ns).0 p.each in
        (packed.0, then_both (λ (table : Table). pack_list table.images ns) (packs_read p.is_contents p) packed.1)

    back : ((body : List ℕ) × (body_of contents ns ≡ done body)) → Packs contents ns
    back packed =
        let b = then_done (read_alone contents) (λ (table : Table). pack_list table.images ns) packed.1 in
        let is = ((alone_exactly contents).0 b.first).is_contents in
        record { images = b.value.images; is_contents = is; each = (packs_list is.each ns).1 (packed.0, b.second) }

-- Published: a body is accepted under a contents exactly when some list of numbers packs to it there.
pub packs_accepts :
    (contents : List ℕ) {body : List ℕ}
    → Bytes body
    → ((ts : List Number) × (unpacking contents body ≡ done ts)) ↔ ((ns : List Number) × Packs contents ns × (body_of contents ns ≡ done body))
packs_accepts contents {body} known = (
  (λ r. let a = (contents_accepts contents known).0 r in (a.0, (packs_contents contents a.0).1 (body, a.1), a.1)),
  (λ r. (contents_accepts contents known).1 (r.0, r.2)),
)

-- whatever the room, a list that packs is refused with 6 or not at all
pub packs_six : (contents : List ℕ) (ns : List Number) (room : ℕ) → Packs contents ns → {number place : ℕ} → packing contents ns room ≡ refused number place → number ≡ 6
packs_six contents ns room packs {number} {place} h =
    let packed = (packs_contents contents ns).0 packs in
    ⊎_elim
    (λ fits. let d = within_done contents ns room packed.1 fits in let z : ◌≡◌ {A = ℕ} 0 1 = cc in absurd (omega arith))
    (λ long. let r = longer_refused contents ns room packed.1 long in cc)
    (le_or_lt (length packed.0) room)

-- and one that does not pack is refused otherwise than with 6
pub not_packs : (contents : List ℕ) (ns : List Number) (room : ℕ) → (Packs contents ns → ⊥) → (number : ℕ) × (place : ℕ) × (packing contents ns room ≡ refused number place) × (number ≡ 6 → ⊥)
not_packs contents ns room none = go (body_of contents ns) refl
  where
    go : (a : Answer (List ℕ)) → body_of contents ns ≡ a → (number : ℕ) × (place : ℕ) × (packing contents ns room ≡ refused number place) × (number ≡ 6 → ⊥)
    go (done body) e = absurd (none ((packs_contents contents ns).1 (body, e)))
    go (refused number place) e = (number, place, none_refused contents ns room e, body_not_six contents ns e)
