-- Document 02, (ii): packing gives remainders exactly where it gives a body, one per column, each what the truncation that packing uses
-- leaves; with what the body is read back as they make the magnitudes that were packed. Assumes nothing.
use Prim.Native.Nat.{ℕ, suc}
use mathlib.Core.Path.{◌≡◌, refl, ap, ap₂, sym, subst, ◌∙◌}
use mathlib.Core.List.{List, ◌∷◌}
use Rattle.std.proofs.Common.{Result, Ok, Err}
use Rattle.decimal.specs.declared.refusal.Refusal.{Refusal}
use Rattle.codec.specs.declared.remainders.Packed.{Packed}
use Rattle.decimal.specs.declared.image.Image.{Image}
use Rattle.decimal.specs.declared.number.Number.{Number}
use Rattle.decimal.specs.declared.remainder.Remainder.{Remainder}
use Rattle.decimal.specs.Answer.{Answer, done, refused, mapped, meaning}
use Rattle.decimal.specs.Truncation.{Truncated, truncated_to}
use Rattle.decimal.specs.Remainder.{IsRemainder}
use Rattle.decimal.proofs.AnswerLaws.{never, never_done, done_same, one_answer, refused_first}
use Rattle.decimal.proofs.RemainderLaws.{remainder_fit}
use Rattle.decimal.proofs.RemainderTheorem.{left_once, fit_left, remainder_exactly}
use Rattle.codec.specs.Contents.{IsContents, Table, read_alone}
use Rattle.codec.specs.Order.{Truncations}
use Rattle.codec.specs.Packing.{packing, AllPack}
use Rattle.codec.specs.Unpacking.{unpacking}
use Rattle.codec.specs.Remainders.{packing_remainders, remainders_of, RemainderEach, SumEach, RemaindersExactly}
use Rattle.codec.proofs.ContentsTheorem.{alone_exactly, contents_unique}
use Rattle.codec.proofs.PackLaws.{packed_anywhere, packs_under, packs_fit}
use Rattle.codec.proofs.RoomTheorem.{packing_body}
use Rattle.codec.proofs.ReadBackTheorem.{contents_packs, contents_read_back}
use Rattle.codec.proofs.RemainderLaws.{left_of, left_refused, body_packs, body_left}

-- Column by column.

-- what truncation leaves of a list that packs is left by the truncations that packing uses
packs_each : (column : ℕ) {ims : List Image} {ns : List Number} → AllPack ims ns → RemainderEach column ims ns (left_of ims ns)
unfolding left_of
packs_each column AllPack.none = RemainderEach.none
packs_each column (AllPack.one {im} {n} p ps) =
    RemainderEach.one (packed_anywhere 0 im n (p.truncated 0) column) (fit_left im n (packs_fit p)) (packs_each (suc column) ps)

-- and nothing else is
each_left : {column : ℕ} {ims : List Image} {ns : List Number} {rs : List Remainder} → RemainderEach column ims ns rs → rs ≡ left_of ims ns
unfolding left_of
each_left RemainderEach.none = refl
each_left (RemainderEach.one {column} {im} {n} {t} {r} cut left others) =
    let to : t ≡ truncated_to im n = one_answer cut (packed_anywhere column im n cut column) in
    let own : IsRemainder im n (truncated_to im n) r = subst (λ (k : Truncated). IsRemainder im n k r) to left in
    ap₂ ◌∷◌ (left_once im n (fit_left im n (packs_fit (packs_under column im n cut))) own) (each_left others)

-- with the truncations as numbers
packs_sum : {ims : List Image} {ns ts : List Number} → AllPack ims ns → Truncations ims ns ts → SumEach ns ts (left_of ims ns)
unfolding left_of
packs_sum AllPack.none Truncations.none = SumEach.none
packs_sum (AllPack.one {im} {n} p ps) (Truncations.one cut others) =
    SumEach.one ((remainder_exactly 0 im n).number_sum (cut 0) (remainder_fit im n (packs_fit p) 0)) (packs_sum ps others)

-- What a call gives.

-- Published: where there are remainders, a call's list is that of them, and has no place behind the last one;
pub list_places : (r : Result Packed Refusal) {rs : List Remainder}
    → mapped remainders_of (meaning r) ≡ done rs
    → (p : Packed) × (r ≡ Ok p) × (p.remainders.items ≡ rs)
unfolding mapped
list_places (Ok p) h = (p, refl, done_same h)
list_places (Err e) h = never_done h

-- where there are none, it has no list.
no_list : (r : Result Packed Refusal) {number place : ℕ} → mapped remainders_of (meaning r) ≡ refused number place → (e : Refusal) × (r ≡ Err e)
unfolding mapped
no_list (Ok p) h = never_done (sym h)
no_list (Err e) h = (e, refl)

-- The packing call.

module _ (contents : List ℕ) (ns : List Number) (room : ℕ) where
  -- where there is a body, the contents is read
  body_read : {body : List ℕ} → packing contents ns room ≡ done body → (table : Table) × (read_alone contents ≡ done table)
  body_read h = let p = contents_packs contents ns (packing_body contents ns room h) in (p.0, p.1)

  -- where there are remainders, there is a body
  remainders_body : {rs : List Remainder} → packing_remainders contents ns room ≡ done rs → (body : List ℕ) × (packing contents ns room ≡ done body)
  remainders_body {rs} h = go (packing contents ns room) refl
    where
      go : (a : Answer (List ℕ)) → packing contents ns room ≡ a → (body : List ℕ) × (packing contents ns room ≡ done body)
      go (done body) e = (body, e)
      go (refused x y) e = never (left_refused contents ns room e) h

  -- what is given with a body is left by its truncations
  given_each :
      {rs : List Remainder}
      → packing_remainders contents ns room ≡ done rs
      → (body : List ℕ) × (packing contents ns room ≡ done body) × (ims : List Image) × IsContents contents ims × RemainderEach 0 ims ns rs
  given_each {rs} h =
      let b = remainders_body h in
      let t = body_read b.1 in
      let same : left_of t.0.images ns ≡ rs = one_answer (body_left contents ns room t.1 b.1) h in
      let each = packs_each 0 (body_packs contents ns room t.1 b.1) in
      (b.0, b.1, t.0.images, ((alone_exactly contents).0 t.1).is_contents, subst (RemainderEach 0 t.0.images ns) same each)

  -- and what its truncations leave is given
  each_given :
      {rs : List Remainder} {body : List ℕ} {ims : List Image}
      → packing contents ns room ≡ done body
      → IsContents contents ims
      → RemainderEach 0 ims ns rs
      → packing_remainders contents ns room ≡ done rs
  each_given {rs} {body} {ims} packed is each =
      let t = body_read packed in
      let same : t.0.images ≡ ims = contents_unique ((alone_exactly contents).0 t.1).is_contents is in
      body_left contents ns room t.1 packed ∙ ap done (ap (λ (l : List Image). left_of l ns) same ∙ sym (each_left each))

  -- refused only where packing is
  refused_as : (number place : ℕ) → packing_remainders contents ns room ≡ refused number place → packing contents ns room ≡ refused number place
  unfolding packing_remainders
  refused_as number place h =
      refused_first (packing contents ns room) _ (λ body e. (left_of (body_read e).0.images ns, body_left contents ns room (body_read e).1 e)) h

  -- Published: where packing is refused, the call that gives the remainders is too, and has no list.
  pub refused_places : (r : Result Packed Refusal) {number place : ℕ}
      → mapped remainders_of (meaning r) ≡ packing_remainders contents ns room
      → packing contents ns room ≡ refused number place
      → (e : Refusal) × (r ≡ Err e)
  refused_places r given h = no_list r (given ∙ left_refused contents ns room h)

  -- what the body is read back as, and the remainders
  back_sum :
      {body : List ℕ} {ts : List Number} {rs : List Remainder}
      → packing contents ns room ≡ done body
      → unpacking contents body ≡ done ts
      → packing_remainders contents ns room ≡ done rs
      → SumEach ns ts rs
  back_sum {body} {ts} {rs} packed read h =
      let b = contents_read_back contents (packing_body contents ns room packed) in
      let numbers : b.2 ≡ ts = one_answer b.4 read in
      let remainders : left_of b.0.images ns ≡ rs = one_answer (body_left contents ns room b.1 packed) h in
      subst (SumEach ns ts) remainders
      (subst (λ (l : List Number). SumEach ns l (left_of b.0.images ns)) numbers (packs_sum (body_packs contents ns room b.1 packed) b.3))

  -- Published: packing gives these remainders exactly.
  pub remainders_exactly : RemaindersExactly contents ns room
  remainders_exactly =
      record {
        given = λ rs. (given_each, λ p. each_given p.1 p.3 p.4);
        refuses = λ number place. (refused_as number place, left_refused contents ns room);
        read_back = back_sum;
      }
