-- Laws of whole bodies one behind the other: checked in turn, and what a check of all tells of each. Assumes nothing.
use Prim.Native.Nat.{ℕ, zero, suc, ◌+◌, ◌*◌, ◌/◌, ◌%◌, ◌<◌, ◌≤◌}
use mathlib.Core.Path.{◌≡◌, refl, ap, ap₂, sym, ◌∙◌}
use mathlib.Core.List.{List, [], ◌∷◌, ◌++◌}
use mathlib.Core.Bool.{Bool, true, false}
use native.Mathlib.Omega.{arith}
use native.Mathlib.Nat.{div-add-mod', suc-mul, zero-mul, add-mul, mul-mod_left}
use lib.Dec.{eqb}
use lib.ListN.{length, take, drop, get_or, length-append, length-drop}
use lib.Seq.{take-length, take-take, drop-drop, length-take-le}
use borrow.Author.Tests.{eq-eqb, ne_eqb, eqb-true, eqb-false}
use Rattle.std.proofs.Math.Seq.{drop-append_seam}
use Rattle.std.proofs.lemmas.List.{take-append-le, drop-take}
use Rattle.std.proofs.Math.Nat.{mul-div_cancel}
use Rattle.decimal.specs.declared.image.Image.{Image}
use Rattle.decimal.specs.declared.number.Number.{Number}
use Rattle.decimal.specs.Answer.{Answer, done, refused, ◌then◌, checked_only}
use Rattle.decimal.proofs.AnswerLaws.{never_done, then_next, then_refused}
use Rattle.std.specs.declared.slice.ChunksExact.{ChunksExact}
use Rattle.std.specs.Slice.Iter.{chunks_exact_size}
use Rattle.codec.specs.Columns.{body_size}
use Rattle.codec.specs.Unpacking.{unpack_body}
use Rattle.codec.specs.Bodies.{bodies, check_each, check_bodies}

-- So many bodies.

-- so many bodies are as many
pub bodies_count : (n size : ℕ) (bytes : List ℕ) → length (bodies n size bytes) ≡ n
unfolding bodies
bodies_count zero size bytes = refl
bodies_count (suc n) size bytes = ap suc (bodies_count n size (drop size bytes))

-- bytes that are so many bodies, of which one is taken off the front: the bytes behind it are the others
pub record Ahead (size count : ℕ) (body behind : List ℕ) : Type 0 where
  pub others : ℕ
  pub one : others + 1 ≡ count
  pub reaches : length behind ≡ others * size
  pub inside : size + length behind ≤ count * size
  pub splits : bodies count size (body ++ behind) ≡ body ∷ bodies others size behind

-- the body that is taken
taken_front : (size : ℕ) (body behind : List ℕ) → length body ≡ size → take size (body ++ behind) ≡ body
taken_front size body behind h =
    ap (λ (k : ℕ). take k (body ++ behind)) (sym h) ∙ take-append-le (length body) body behind (omega arith) ∙ take-length body

-- and the others
taken_rest : (size : ℕ) (body behind : List ℕ) → length body ≡ size → drop size (body ++ behind) ≡ behind
taken_rest size body behind h = ap (λ (k : ℕ). drop k (body ++ behind)) (sym h) ∙ drop-append_seam body behind

pub bodies_ahead :
    (size count : ℕ) (body behind : List ℕ) → 0 < size → length (body ++ behind) ≡ count * size → length body ≡ size → Ahead size count body behind
unfolding bodies
bodies_ahead size zero body behind s h e = absurd (omega (arith, zero-mul size, length-append body behind))
bodies_ahead size (suc n) body behind s h e =
    record {
      one = omega arith;
      others = n;
      reaches = omega (arith, suc-mul n size, length-append body behind);
      inside = omega (arith, length-append body behind);
      splits = ap₂ (λ (x y : List ℕ). x ∷ bodies n size y) (taken_front size body behind e) (taken_rest size body behind e);
    }

-- a loop over bodies starts with pieces of a body's size
pub pieces_start : {pieces items : ChunksExact ℕ} {size : ℕ} → pieces ≡ items → chunks_exact_size items ≡ size → chunks_exact_size pieces ≡ size
pieces_start e h = ap chunks_exact_size e ∙ h

-- which are not empty
pub pieces_some : {pieces items : ChunksExact ℕ} {size : ℕ} → pieces ≡ items → chunks_exact_size items ≡ size → 0 < size → (0 < chunks_exact_size pieces) × Unit {0}
pieces_some e h some = (omega (arith, pieces_start e h, some), tt)

-- bytes that are shorter than a body are none
pub bodies_over : (size : ℕ) (rest : List ℕ) (count : ℕ) → length rest ≡ count * size → length rest < size → count ≡ 0
bodies_over size rest zero h l = refl
bodies_over size rest (suc n) h l = absurd (omega (arith, suc-mul n size))

-- Bodies in turn.

module _ (ims : List Image) (b : List ℕ) (bs : List (List ℕ)) where
  -- the check of one, then of the others
  pub each_next : check_each ims (b ∷ bs) ≡ (checked_only (unpack_body ims b) then λ t. check_each ims bs)
  unfolding check_each checked_only ◌then◌
  each_next = go (unpack_body ims b)
    where
      go : (a : Answer (List Number)) → (a then λ ns. check_each ims bs) ≡ (checked_only a then λ t. check_each ims bs)
      go (done ns) = refl
      go (refused x y) = refl

-- a refused one refuses all
pub each_bad : (ims : List Image) (b : List ℕ) (bs : List (List ℕ)) {x y : ℕ} → checked_only (unpack_body ims b) ≡ refused x y → check_each ims (b ∷ bs) ≡ refused x y
unfolding ◌then◌
each_bad ims b bs h = each_next ims b bs ∙ rw h refl

-- and one that can be read leaves the others
pub each_good : (ims : List Image) (b : List ℕ) (bs : List (List ℕ)) → checked_only (unpack_body ims b) ≡ done tt → check_each ims (b ∷ bs) ≡ check_each ims bs
unfolding ◌then◌
each_good ims b bs h = each_next ims b bs ∙ rw h refl

-- bodies of which the first can't be read or all can
each_first : (ims : List Image) (b : List ℕ) (bs : List (List ℕ)) → check_each ims (b ∷ bs) ≡ done tt → (checked_only (unpack_body ims b) ≡ done tt) × (check_each ims bs ≡ done tt)
each_first ims b bs h = go (checked_only (unpack_body ims b)) refl
  where
    go : (a : Answer (Unit {0})) → checked_only (unpack_body ims b) ≡ a → (checked_only (unpack_body ims b) ≡ done tt) × (check_each ims bs ≡ done tt)
    go (done u) e = (e, sym (each_good ims b bs e) ∙ h)
    go (refused x y) e = never_done (sym (each_bad ims b bs e) ∙ h)

-- Published: of bodies that can all be read each can.
pub each_read : (ims : List Image) (bs : List (List ℕ)) → check_each ims bs ≡ done tt → (r : ℕ) → r < length bs → checked_only (unpack_body ims (get_or bs r [])) ≡ done tt
each_read ims [] h r l = absurd (omega arith)
each_read ims (b ∷ bs) h zero l = (each_first ims b bs h).0
each_read ims (b ∷ bs) h (suc r) l = each_read ims bs (each_first ims b bs h).1 r (omega arith)

-- Bytes that are bodies, checked.

module _ (ims : List Image) (bytes : List ℕ) where
  -- where the last body is incomplete
  pub bodies_torn : (length bytes % body_size ims ≡ 0 → ⊥) → check_bodies ims bytes ≡ refused 11 0
  unfolding check_bodies
  bodies_torn other = rw (ne_eqb (length bytes % body_size ims) 0 other)

  -- and where they are whole
  pub bodies_whole : length bytes % body_size ims ≡ 0 → check_bodies ims bytes ≡ check_each ims (bodies (length bytes / body_size ims) (body_size ims) bytes)
  unfolding check_bodies
  bodies_whole same = rw (eq-eqb (length bytes % body_size ims) 0 same)

-- Published: bytes that are bodies which can all be read are whole bodies, each of which can be read.
pub bodies_read :
    (ims : List Image) (bytes : List ℕ) → check_bodies ims bytes ≡ done tt
    → (length bytes % body_size ims ≡ 0) × (check_each ims (bodies (length bytes / body_size ims) (body_size ims) bytes) ≡ done tt)
bodies_read ims bytes h = go (eqb (length bytes % body_size ims) 0) refl
  where
    go :
        (b : Bool) → eqb (length bytes % body_size ims) 0 ≡ b
        → (length bytes % body_size ims ≡ 0) × (check_each ims (bodies (length bytes / body_size ims) (body_size ims) bytes) ≡ done tt)
    go true e = let whole = eqb-true (length bytes % body_size ims) 0 e in (whole, sym (bodies_whole ims bytes whole) ∙ h)
    go false e = never_done (sym (bodies_torn ims bytes (eqb-false (length bytes % body_size ims) 0 e)) ∙ h)

-- What a walk over bodies has: whether those that are left can be read says whether all can.
pub record CheckingBodies (ims : List Image) (bytes rest : List ℕ) : Type 0 where
  pub left : ℕ
  pub reaches : length rest ≡ left * body_size ims
  pub says : check_bodies ims bytes ≡ check_each ims (bodies left (body_size ims) rest)

-- before the first
pub bodies_start : (ims : List Image) (bytes : List ℕ) {rest : List ℕ} → length bytes % body_size ims ≡ 0 → rest ≡ bytes → CheckingBodies ims bytes rest
bodies_start ims bytes {rest} whole same =
    record {
      left = length bytes / body_size ims;
      reaches = omega (arith, ap length same, div-add-mod' (length bytes) (body_size ims));
      says = bodies_whole ims bytes whole ∙ ap (λ (l : List ℕ). check_each ims (bodies (length bytes / body_size ims) (body_size ims) l)) (sym same);
    }

module _ {ims : List Image} {bytes rest : List ℕ} (k : CheckingBodies ims bytes rest) (some : 0 < body_size ims) where
  -- behind the last
  pub bodies_end : length rest < body_size ims → check_bodies ims bytes ≡ done tt
  unfolding bodies check_each
  bodies_end few = k.says ∙ ap (λ (n : ℕ). check_each ims (bodies n (body_size ims) rest)) (bodies_over (body_size ims) rest k.left k.reaches few)

  module _ (body behind : List ℕ) (split : rest ≡ body ++ behind) (size : length body ≡ body_size ims) where
    ahead : Ahead (body_size ims) k.left body behind
    ahead = bodies_ahead (body_size ims) k.left body behind some (sym (ap length split) ∙ k.reaches) size

    splits : bodies k.left (body_size ims) rest ≡ body ∷ bodies ahead.others (body_size ims) behind
    splits = ap (bodies k.left (body_size ims)) split ∙ ahead.splits

    -- a body that can be read
    pub bodies_turn : checked_only (unpack_body ims body) ≡ done tt → CheckingBodies ims bytes behind
    bodies_turn h =
        record {
          left = ahead.others;
          reaches = ahead.reaches;
          says = k.says ∙ ap (check_each ims) splits ∙ each_good ims body (bodies ahead.others (body_size ims) behind) h;
        }

    -- and one that can't
    pub bodies_stop : {x y : ℕ} → checked_only (unpack_body ims body) ≡ refused x y → check_bodies ims bytes ≡ refused x y
    bodies_stop h = k.says ∙ ap (check_each ims) splits ∙ each_bad ims body (bodies ahead.others (body_size ims) behind) h

-- Blocks of bodies.

-- so many bodies in front, and so many behind them
bodies_apart : (n m size : ℕ) (bytes : List ℕ) → bodies (n + m) size bytes ≡ bodies n size (take (n * size) bytes) ++ bodies m size (drop (n * size) bytes)
unfolding bodies
bodies_apart zero m size bytes =
    let none : bytes ≡ drop (zero * size) bytes = ap (λ (k : ℕ). drop k bytes) (sym (zero-mul size)) in
    let many : zero + m ≡ m = omega arith in
    ap (λ (k : ℕ). bodies k size bytes) many ∙ ap (bodies m size) none
bodies_apart (suc n) m size bytes =
    let long : size + n * size ≡ suc n * size = omega (arith, suc-mul n size) in
    let front : take size bytes ≡ take size (take (suc n * size) bytes) = sym (take-take size (suc n * size) bytes (omega (arith, long))) in
    let others : take (n * size) (drop size bytes) ≡ drop size (take (suc n * size) bytes) =
    sym (drop-take size (n * size) bytes) ∙ ap (λ (k : ℕ). drop size (take k bytes)) long in
    let behind : drop (n * size) (drop size bytes) ≡ drop (suc n * size) bytes = drop-drop (n * size) size bytes ∙ ap (λ (k : ℕ). drop k bytes) long in
    let many : suc n + m ≡ suc (n + m) = omega arith in
    ap (λ (k : ℕ). bodies k size bytes) many
    ∙ ap (λ (bs : List (List ℕ)). take size bytes ∷ bs) (bodies_apart n m size (drop size bytes))
    ∙ ap (λ (b : List ℕ). b ∷ (bodies n size (take (n * size) (drop size bytes)) ++ bodies m size (drop (n * size) (drop size bytes)))) front
    ∙ ap₂ (λ (x y : List ℕ). take size (take (suc n * size) bytes) ∷ (bodies n size x ++ bodies m size y)) others behind

-- bodies are checked, then those behind them
each_apart : (ims : List Image) (bs others : List (List ℕ)) → check_each ims (bs ++ others) ≡ (check_each ims bs then λ t. check_each ims others)
unfolding check_each ◌then◌
each_apart ims [] others = refl
each_apart ims (b ∷ bs) others = go (unpack_body ims b) (each_apart ims bs others)
  where
    go :
        (a : Answer (List Number))
        → check_each ims (bs ++ others) ≡ (check_each ims bs then λ t. check_each ims others)
        → (a then λ ns. check_each ims (bs ++ others)) ≡ ((a then λ ns. check_each ims bs) then λ t. check_each ims others)
    go (done ns) h = h
    go (refused x y) h = refl

module _ (ims : List Image) (n : ℕ) (block : List ℕ) (sized : length block ≡ n * body_size ims) where
  -- so many bodies are whole
  block_whole : length block % body_size ims ≡ 0
  block_whole = ap (λ (k : ℕ). k % body_size ims) sized ∙ mul-mod_left n (body_size ims)

  -- and each of them is checked
  block_each : 0 < body_size ims → check_bodies ims block ≡ check_each ims (bodies n (body_size ims) block)
  block_each some =
      bodies_whole ims block block_whole
      ∙ ap (λ (k : ℕ). check_each ims (bodies k (body_size ims) block)) (ap (λ (k : ℕ). k / body_size ims) sized ∙ mul-div_cancel n some)

-- What a walk over blocks has: so many bodies are left, and whether they can be read says whether all can.
pub record CheckingBlocks (ims : List Image) (bytes rest : List ℕ) (count : ℕ) : Type 0 where
  pub reaches : length rest ≡ count * body_size ims
  pub inside : length rest ≤ length bytes
  pub says : check_bodies ims bytes ≡ check_each ims (bodies count (body_size ims) rest)

-- before the first
pub blocks_start : (ims : List Image) (bytes : List ℕ) → length bytes % body_size ims ≡ 0 → CheckingBlocks ims bytes bytes (length bytes / body_size ims)
blocks_start ims bytes whole =
    record { reaches = omega (arith, div-add-mod' (length bytes) (body_size ims)); inside = omega arith; says = bodies_whole ims bytes whole }

-- behind the last
pub blocks_end : {ims : List Image} {bytes rest : List ℕ} {count : ℕ} → CheckingBlocks ims bytes rest count → count ≡ 0 → check_bodies ims bytes ≡ done tt
unfolding bodies check_each
blocks_end {ims} {bytes} {rest} k none = k.says ∙ ap (λ (n : ℕ). check_each ims (bodies n (body_size ims) rest)) none

module _ {ims : List Image} {bytes rest : List ℕ} {count : ℕ} (k : CheckingBlocks ims bytes rest count) (taken others : ℕ) (parts : taken + others ≡ count)
    {n : ℕ} (long : n ≡ taken * body_size ims) where
  parted : length rest ≡ n + others * body_size ims
  parted = k.reaches ∙ ap (λ (m : ℕ). m * body_size ims) (sym parts) ∙ add-mul taken others (body_size ims) ∙ omega (arith, long)

  -- the bytes of so many bodies are there
  pub block_within : n ≤ length rest
  block_within = omega (arith, parted)

  module _ {block : List ℕ} (front : block ≡ take n rest) where
    sized : length block ≡ taken * body_size ims
    sized = ap length front ∙ length-take-le n rest block_within ∙ long

    -- and they are whole
    pub block_asked : length block % body_size ims ≡ 0
    block_asked = block_whole ims taken block sized

    module _ {behind : List ℕ} (back : behind ≡ drop n rest) (some : 0 < body_size ims) where
      block_first : check_bodies ims bytes ≡ (check_bodies ims block then λ t. check_each ims (bodies others (body_size ims) behind))
      block_first =
          k.says
          ∙ ap (λ (m : ℕ). check_each ims (bodies m (body_size ims) rest)) (sym parts)
          ∙ ap (check_each ims) (bodies_apart taken others (body_size ims) rest)
          ∙ ap (λ (m : ℕ). check_each ims (bodies taken (body_size ims) (take m rest) ++ bodies others (body_size ims) (drop m rest))) (sym long)
          ∙ ap₂ (λ (x y : List ℕ). check_each ims (bodies taken (body_size ims) x ++ bodies others (body_size ims) y)) (sym front) (sym back)
          ∙ each_apart ims (bodies taken (body_size ims) block) (bodies others (body_size ims) behind)
          ∙ ap (λ (a : Answer (Unit {0})). a then λ t. check_each ims (bodies others (body_size ims) behind)) (sym (block_each ims taken block sized some))

      -- a block whose bodies can be read
      pub blocks_turn : check_bodies ims block ≡ done tt → CheckingBlocks ims bytes behind others
      blocks_turn h =
          record {
            reaches = omega (arith, ap length back, length-drop n rest, parted);
            inside = omega (arith, ap length back, length-drop n rest, k.inside);
            says = block_first ∙ then_next (λ t. check_each ims (bodies others (body_size ims) behind)) h;
          }

      -- and one with a body that can't
      pub blocks_stop : {x y : ℕ} → check_bodies ims block ≡ refused x y → check_bodies ims bytes ≡ refused x y
      blocks_stop h = block_first ∙ then_refused (λ t. check_each ims (bodies others (body_size ims) behind)) h
