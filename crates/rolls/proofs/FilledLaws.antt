-- Laws of bodies of one size, one behind the other: taken apart and joined, and those of a file. Assumes nothing.
use Rattle.std.proofs.Common.{◌≡◌, ℕ, zero, suc, ◌+◌, ◌*◌, ◌/◌, ◌%◌, ◌<◌, ◌≤◌, false, List, [], ◌∷◌, length, take, drop, refl, ap, ap₂, sym, subst, ◌∙◌, arith, zero-mul, get_or}
use lib.Seq.{length-take-le, drop-drop}
use lib.ListN.{length-drop, take-append-drop}
use native.Mathlib.Nat.{div-add-mod', suc-mul, mul-mod_left}
use Rattle.std.proofs.Math.Nat.{mul-div_cancel}
use Rattle.std.specs.List.{concat}
use Rattle.codec.specs.Bodies.{bodies}
use Rattle.records.specs.Files.RecordFile.{record_count, bodies_in}
use Rattle.codec.proofs.BodiesLaws.{bodies_ahead}
use Rattle.rolls.specs.Runs.{all_bodies}
use borrow.Author.Tests.{eq-eqb, ne_eqb}
use lib.Dec.{eqb}
use Rattle.rolls.proofs.FallLaws.{not_both}
use Rattle.records.proofs.FileProofs.JoinedLaws.{joined_all}
use Rattle.codec.specs.Columns.{body_size}
use Rattle.codec.specs.Contents.{Table}
use Rattle.codec.specs.Order.{Bytes}

-- bytes that are bodies of one size, one behind the other
pub record Filled (size : ℕ) (bytes : List ℕ) : Type 0 where
  pub count : ℕ
  pub fills : length bytes ≡ count * size

-- where nothing is left over
pub filled_whole : (size : ℕ) (bytes : List ℕ) → length bytes % size ≡ 0 → Filled size bytes
filled_whole size bytes h = record { count = length bytes / size; fills = let split = div-add-mod' (length bytes) size in omega arith }

-- and nothing is left over
pub filled_rest : {size : ℕ} {bytes : List ℕ} → Filled size bytes → length bytes % size ≡ 0
filled_rest {size} f = ap (λ (n : ℕ). n % size) f.fills ∙ mul-mod_left f.count size

module _ {size : ℕ} (some : 0 < size) where
  -- their count
  pub filled_count : {bytes : List ℕ} (f : Filled size bytes) → length bytes / size ≡ f.count
  filled_count f = ap (λ (n : ℕ). n / size) f.fills ∙ mul-div_cancel f.count some

  -- one is there where bytes are
  pub filled_some : {bytes : List ℕ} → Filled size bytes → eqb (length bytes) 0 ≡ false → size ≤ length bytes
  filled_some {bytes} f n = go f.count f.fills
    where
      go : (count : ℕ) → length bytes ≡ count * size → size ≤ length bytes
      go zero h = not_both (eq-eqb (length bytes) 0 (h ∙ zero-mul size)) n
      go (suc k) h = omega (arith, h, suc-mul k size)

  -- none are no bodies
  pub filled_none : (bytes : List ℕ) → length bytes ≡ 0 → all_bodies size bytes ≡ []
  unfolding bodies
  filled_none bytes h =
      ap (λ (n : ℕ). bodies n size bytes) (ap (λ (n : ℕ). n / size) (h ∙ sym (zero-mul size)) ∙ mul-div_cancel 0 some)

  -- the first of them, and the others
  pub record Next (bytes : List ℕ) : Type 0 where
    pub sized : length (take size bytes) ≡ size
    pub others : Filled size (drop size bytes)
    pub splits : all_bodies size bytes ≡ take size bytes ∷ all_bodies size (drop size bytes)
    pub less : length (drop size bytes) + size ≡ length bytes

  pub filled_next : {bytes : List ℕ} → Filled size bytes → eqb (length bytes) 0 ≡ false → Next bytes
  filled_next {bytes} f n =
      let room = filled_some f n in
      let sized : length (take size bytes) ≡ size = length-take-le size bytes room in
      let same = take-append-drop size bytes in
      let a = bodies_ahead size f.count (take size bytes) (drop size bytes) some (ap length same ∙ f.fills) sized in
      let rest : Filled size (drop size bytes) = record { count = a.others; fills = a.reaches } in
      record {
        sized = sized;
        others = rest;
        splits =
            ap₂ (λ (n : ℕ) (l : List ℕ). bodies n size l) (filled_count f) (sym same)
            ∙ a.splits
            ∙ ap (λ (n : ℕ). take size bytes ∷ bodies n size (drop size bytes)) (sym (filled_count rest));
        less = omega (arith, length-drop size bytes);
      }

  -- so many dropped at the front
  pub record Dropped (k : ℕ) (bytes left : List ℕ) : Type 0 where
    pub rest : Filled size left
    pub same : all_bodies size left ≡ drop k (all_bodies size bytes)
    pub length_left : length left + k * size ≡ length bytes

  pub filled_drop : (k : ℕ) {bytes : List ℕ} → Filled size bytes → k ≤ length (all_bodies size bytes) → Dropped k bytes (drop (k * size) bytes)
  filled_drop zero {bytes} f l =
      subst (Dropped 0 bytes) (ap (λ (n : ℕ). drop n bytes) (sym (zero-mul size)))
      (record { rest = f; same = refl; length_left = omega (arith, zero-mul size) })
  filled_drop (suc k) {bytes} f l =
      let next = filled_next f (some_there l) in
      let more = filled_drop k next.others (omega (arith, l, ap length next.splits)) in
      subst (Dropped (suc k) bytes) (drop-drop (k * size) size bytes ∙ ap (λ (n : ℕ). drop n bytes) (omega (arith, suc-mul k size)))
      (record {
        rest = more.rest;
        same = more.same ∙ ap (drop (suc k)) (sym next.splits);
        length_left = omega (arith, more.length_left, next.less, suc-mul k size);
      })
    where
      some_there : suc k ≤ length (all_bodies size bytes) → eqb (length bytes) 0 ≡ false
      some_there l = ne_eqb (length bytes) 0 (λ h. let none : length (all_bodies size bytes) ≡ 0 = ap length (filled_none bytes h) in omega arith)

  -- all of them joined are the bytes
  pub filled_joined : {bytes : List ℕ} → Filled size bytes → concat (all_bodies size bytes) ≡ bytes
  filled_joined {bytes} f = ap (λ (n : ℕ). concat (bodies n size bytes)) (filled_count f) ∙ joined_all size f.count bytes f.fills

-- The bodies of a file.

-- a file's bodies are those behind its contents
pub bodies_behind : (table : Table) (file : List ℕ) → bodies_in table file ≡ all_bodies (body_size table.images) (drop table.size file)
unfolding bodies_in record_count
bodies_behind table file =
    ap (λ (n : ℕ). bodies (n / body_size table.images) (body_size table.images) (drop table.size file)) (sym (length-drop table.size file))

-- Bytes.

-- lent bytes are bytes
pub bytes_known : (bytes : List ℕ) → ((i : ℕ) → get_or bytes i 0 < 256) → Bytes bytes
bytes_known [] h = Bytes.none
bytes_known (b ∷ bs) h = Bytes.more (h 0) (bytes_known bs (λ i. h (suc i)))
