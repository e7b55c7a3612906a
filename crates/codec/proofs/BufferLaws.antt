-- Laws of a buffer that bytes are written into. Assumes nothing.
use Prim.Native.Nat.{ℕ, ◌+◌, ◌<◌, ◌≤◌}
use mathlib.Core.Path.{◌≡◌, refl, ap, ap₂, sym, ◌∙◌}
use mathlib.Core.List.{List, [], ◌∷◌, ◌++◌, append_assoc}
use native.Mathlib.Omega.{arith}
use native.Mathlib.Nat.{zero-add}
use lib.ListN.{length, take, drop, get_or, set, length-append, length-drop}
use lib.Seq.{paste, take_at, drop-drop, drop-append-add, length-take-le, take-length}
use borrow.Rule.Slice.PartMut.{put_mid}
use Rattle.std.proofs.lemmas.Slice.{put_mid-paste}
use Rattle.std.proofs.lemmas.List.{take_all, take_more, take_more_set}
use Rattle.decimal.specs.Answer.{Answer, done, refused}
use Rattle.decimal.proofs.AnswerLaws.{never_done}
use Rattle.codec.specs.Answers.{stored_in, sized, written}

-- bytes copied one by one
pub written_pasted : (b : List ℕ) (start : ℕ) (s : List ℕ) (n : ℕ) → n ≡ length s → paste b start s n ≡ written b start s
unfolding written
written_pasted b start s n e = rw e (ap (λ (l : List ℕ). take start b ++ l ++ drop (start + length s) b) (take-length s))

-- a part of a buffer, from a place on, that the bytes fill
pub part_written : (b : List ℕ) (start n : ℕ) {part bytes : List ℕ} → part ≡ bytes → n ≡ length bytes → put_mid start n b part ≡ written b start bytes
part_written b start n {part} {bytes} e h = put_mid-paste start n b part bytes n e refl h ∙ written_pasted b start bytes n h

-- the first part of a buffer, that the bytes fill
pub part_stored : (b bytes : List ℕ) {part : List ℕ} {n : ℕ} → part ≡ bytes → length bytes ≡ n → part ++ drop n b ≡ stored_in (done bytes) b
unfolding stored_in
part_stored b bytes e h = ap₂ (λ (l : List ℕ) (k : ℕ). l ++ drop k b) e (sym h)

-- no bytes
pub written_none : (b : List ℕ) → written b 0 [] ≡ b
unfolding written
written_none b = refl

-- at the buffer's start
pub written_stored : (b s : List ℕ) → written b 0 s ≡ stored_in (done s) b
unfolding written stored_in
written_stored b s = ap (λ (k : ℕ). s ++ drop k b) (zero-add (length s))

-- and it is done where that is
pub sized_back : (a : Answer (List ℕ)) {size : ℕ} → done size ≡ sized a → (bytes : List ℕ) × (a ≡ done bytes)
unfolding sized
sized_back (done bytes) h = (bytes, refl)
sized_back (refused x y) h = never_done (sym h)

-- Published: the length that a writing call answers is inside the buffer.
pub stored_size : (a : Answer (List ℕ)) (b : List ℕ) {after : List ℕ} {size : ℕ} → done size ≡ sized a → after ≡ stored_in a b → size ≤ length after
unfolding sized stored_in
stored_size (done bytes) b {after} {size} told same =
    let long : size ≡ length bytes = cc in
    omega (arith, ap length same, length-append bytes (drop (length bytes) b))
stored_size (refused number place) b {after} {size} told same = let z : ◌≡◌ {A = ℕ} 0 1 = cc in absurd (omega arith)

module _ (b : List ℕ) (start : ℕ) (s : List ℕ) where
  -- what stands up to the end of the bytes
  front_length : start ≤ length b → length (take start b ++ s) ≡ start + length s
  front_length h = length-append (take start b) s ∙ ap (λ (k : ℕ). k + length s) (length-take-le start b h)

  -- the buffer keeps its length
  pub written_length : start + length s ≤ length b → length (written b start s) ≡ length b
  unfolding written
  written_length h =
      length-append (take start b ++ s) (drop (start + length s) b)
      ∙ omega (arith, front_length (omega arith), length-drop (start + length s) b)

  -- writing on behind what was written
  pub written_next :
      (t : List ℕ)
      → start + length s + length t ≤ length b
      → written (written b start s) (start + length s) t ≡ written b start (s ++ t)
  unfolding written
  written_next t h =
      let front : List ℕ = take start b ++ s in
      let m : ℕ = start + length s in
      let long : length front ≡ m = front_length (omega arith) in
      let tail : drop (m + length t) (front ++ drop m b) ≡ drop (m + length t) b =
      ap (λ (k : ℕ). drop (k + length t) (front ++ drop m b)) (sym long)
      ∙ drop-append-add front (drop m b) (length t)
      ∙ drop-drop (length t) m b in
      let ends : m + length t ≡ start + length (s ++ t) = omega (arith, length-append s t) in
      ap₂ (λ (x y : List ℕ). x ++ t ++ y) (take_at front (drop m b) m long) (tail ∙ ap (λ (k : ℕ). drop k b) ends)
      ∙ ap (λ (x : List ℕ). x ++ drop (start + length (s ++ t)) b) (append_assoc (take start b) s t)

-- A target that is written from its start on, and that the bytes fill.

module _ (bytes target : List ℕ) (same : length target ≡ length bytes) (k : ℕ) (front : take k target ≡ take k bytes) where
  -- one byte more
  pub front_more : {b : ℕ} → k < length target → b ≡ get_or bytes k 0 → take (k + 1) (set target k b) ≡ take (k + 1) bytes
  front_more {b} h byte =
      take_more_set target k b h ∙ ap₂ (λ (l : List ℕ) (x : ℕ). l ++ x ∷ []) front byte ∙ sym (take_more bytes k 0 (omega arith))

  -- all of them
  pub front_all : length target ≤ k → target ≡ bytes
  front_all h = sym (take_all k target h) ∙ front ∙ take_all k bytes (omega arith)
