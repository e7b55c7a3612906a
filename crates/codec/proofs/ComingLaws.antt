-- Laws of bytes written into a buffer one behind the other. Assumes nothing.
use Prim.Native.Nat.{ℕ, suc, ◌+◌, ◌<◌, ◌≤◌}
use mathlib.Core.Path.{◌≡◌, refl, ap, ap₂, sym, ◌∙◌}
use mathlib.Core.List.{List, [], ◌∷◌, ◌++◌, append-nil, append_assoc}
use native.Mathlib.Omega.{arith}
use lib.ListN.{length, take, drop, set, length-append, length-drop}
use lib.Seq.{append_snoc, set_split, drop-drop, take_all, take-length, length-take-le}
use borrow.Rule.Slice.PartMut.{put_mid}
use Rattle.std.proofs.lemmas.List.{take-append-le}
use Rattle.codec.specs.Answers.{written}
use Rattle.codec.proofs.BufferLaws.{written_length}

-- one byte
pub written_byte : (b : List ℕ) (place byte : ℕ) → place < length b → set b place byte ≡ written b place (byte ∷ [])
unfolding written
written_byte b place byte h =
    let e : suc place ≡ place + 1 = omega arith in
    set_split b place byte h
    ∙ sym (append_snoc (take place b) byte (drop (suc place) b))
    ∙ ap (λ (k : ℕ). (take place b ++ (byte ∷ [])) ++ drop k b) e

-- what stands up to their end
pub written_front : (b : List ℕ) (place : ℕ) (s : List ℕ) → place ≤ length b → take (place + length s) (written b place s) ≡ take place b ++ s
unfolding written
written_front b place s h =
    let front = take place b ++ s in
    let rest = drop (place + length s) b in
    let size : place + length s ≡ length front = omega (arith, length-append (take place b) s, length-take-le place b h) in
    ap (λ (k : ℕ). take k (front ++ rest)) size
    ∙ take-append-le (length front) front rest (omega arith)
    ∙ take-length front

-- A buffer that is written from its start on: what stands, and what comes behind it, are the whole.
pub record Coming (now : List ℕ) (out : ℕ) (after whole : List ℕ) : Type 0 where
  pub inside : out ≤ length now
  pub joined : take out now ++ after ≡ whole

-- nothing stands
pub coming_starts : (now whole : List ℕ) → Coming now 0 whole whole
coming_starts now whole = record { inside = omega arith; joined = refl }

-- together they are as long as the buffer
pub coming_long : {now : List ℕ} {out : ℕ} {after whole : List ℕ} → Coming now out after whole → length now ≡ length whole → out + length after ≡ length now
coming_long {now} {out} {after} w long = omega (arith, ap length w.joined, length-append (take out now) after, length-take-le out now w.inside)

module _ (s after : List ℕ) {now : List ℕ} {out : ℕ} {whole : List ℕ} (w : Coming now out (s ++ after) whole) (long : length now ≡ length whole) where
  -- there is room for what comes first
  pub coming_room : out + length s ≤ length now
  coming_room = omega (arith, coming_long w long, length-append s after)

  -- it is written
  pub coming_bytes : {next : List ℕ} {m : ℕ} → m ≡ length s → next ≡ written now out s → Coming next (out + m) after whole
  coming_bytes {next} {m} size put =
      record {
        inside = omega (arith, size, ap length put, written_length now out s coming_room, coming_room);
        joined =
            ap₂ (λ (k : ℕ) (l : List ℕ). take (out + k) l ++ after) size put
            ∙ ap (λ (l : List ℕ). l ++ after) (written_front now out s w.inside)
            ∙ append_assoc (take out now) s after
            ∙ w.joined;
      }

-- one byte
pub coming_byte :
    {now : List ℕ} {out byte : ℕ} {after whole : List ℕ}
    → Coming now out (byte ∷ after) whole
    → length now ≡ length whole
    → Coming (set now out byte) (out + 1) after whole
coming_byte {now} {out} {byte} {after} w long =
    let room = coming_room (byte ∷ []) after w long in
    coming_bytes (byte ∷ []) after w long refl (written_byte now out byte (omega arith))

-- nothing comes
pub coming_ends : {now : List ℕ} {out : ℕ} {whole : List ℕ} → Coming now out [] whole → length now ≡ length whole → now ≡ whole
coming_ends {now} {out} w long =
    let all = sym (append-nil (take out now)) ∙ w.joined in
    sym (take_all out now (omega (arith, ap length all, length-take-le out now w.inside))) ∙ all

-- A part of a buffer that is lent.

-- bytes put in the place of as many of the buffer's are written there
pub mid_written : (b : List ℕ) (place : ℕ) (bytes : List ℕ) → put_mid place (length bytes) b bytes ≡ written b place bytes
unfolding written
mid_written b place bytes =
    ap (λ (l : List ℕ). take place b ++ (bytes ++ l)) (drop-drop (length bytes) place b)
    ∙ sym (append_assoc (take place b) bytes (drop (place + length bytes) b))

-- a part of a buffer that is lent is as long as asked
pub lent_length : (b : List ℕ) (place n : ℕ) → place + n ≤ length b → length (take n (drop place b)) ≡ n
lent_length b place n h = length-take-le n (drop place b) (omega (arith, length-drop place b))

-- and so are those that a call writes there
pub lent_written :
    (b : List ℕ) (place : ℕ) {n : ℕ} (bytes : List ℕ) {lent : List ℕ} → n ≡ length bytes → lent ≡ bytes → put_mid place n b lent ≡ written b place bytes
lent_written b place bytes {lent} size same = ap₂ (λ (k : ℕ) (l : List ℕ). put_mid place k b l) size same ∙ mid_written b place bytes
