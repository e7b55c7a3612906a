-- Laws of the loop that writes merged records: the bodies that are left of each file, and what is written before them. Assumes nothing.
use Rattle.std.proofs.Common.{◌≡◌, ℕ, ◌+◌, ◌-◌, ◌%◌, ◌^◌, ◌<◌, ◌≤◌, Bool, true, false, List, [], ◌∷◌, ◌++◌, length, length-append, ◌⊎◌, inl, inr, take, drop, refl, ap, ap₂, sym, ◌∙◌, arith, append_assoc, append-nil, take-take}
use lib.Seq.{take_at, length-take-le}
use lib.ListN.{drop_of_length-le}
use borrow.Rule.Slice.PartMut.{put_mid}
use Rattle.std.proofs.lemmas.List.{nil_from_length}
use Rattle.std.specs.List.{concat}
use Rattle.codec.specs.Answers.{written}
use Rattle.codec.proofs.BufferLaws.{part_written, written_length, written_next}
use Rattle.rolls.specs.Merging.{merged, not_behind}
use Rattle.rolls.specs.Runs.{all_bodies}
use lib.Dec.{eqb}
use Rattle.std.specs.Prelude.{leb}
use Rattle.codec.specs.Order.{Bytes}
use Rattle.codec.specs.Ordering.{run_of}
use Rattle.codec.proofs.ReadBackTheorem.{bytes_take}
use Rattle.rolls.specs.Runs.{run_at}
use Rattle.rolls.proofs.RunLaws.{runs_compared}
use Rattle.rolls.proofs.FilledLaws.{Filled, filled_whole, filled_none, Next, filled_next, filled_joined}
use Rattle.rolls.proofs.MergeLaws.{merged_none, none_merged, merged_first, merged_second}

-- the first bodies of two files are compared by the runs at the front of what is left of them
module _ {size width : ℕ} {first second : List ℕ} (within : width ≤ size) (few : width ≤ 8) (known : Bytes first) (other_known : Bytes second)
    (some : size ≤ length first) (other_some : size ≤ length second) {one other : ℕ} (run : one ≡ run_at width first) (other_run : other ≡ run_at width second) where
  runs_go : leb one other ≡ not_behind width (take size first) (take size second)
  runs_go =
      ap₂ leb (run ∙ ap (λ (l : List ℕ). run_of l % 2 ^ 64) (sym (take-take width size first within))) (other_run ∙ ap (λ (l : List ℕ). run_of l % 2 ^ 64) (sym (take-take width size second within)))
      ∙ runs_compared width (take size first) (take size second) few
      (bytes_take width (bytes_take size known))
      (bytes_take width (bytes_take size other_known))
      (ap length (take-take width size first within) ∙ length-take-le width first (omega arith))
      (ap length (take-take width size second within) ∙ length-take-le width second (omega arith))

  pub runs_tell : {first_goes : Bool} → leb one other ≡ first_goes → not_behind width (take size first) (take size second) ≡ first_goes
  runs_tell h = sym runs_go ∙ h

-- The loop: what is written, and the bodies that are left of both files merged, are the whole.
pub record Writing (size width : ℕ) (all first second target : List ℕ) (at : ℕ) : Type 0 where
  pub one : Filled size first
  pub two : Filled size second
  pub room : at + (length first + length second) ≡ length target
  pub whole : take at target ++ concat (merged (not_behind width) (all_bodies size first) (all_bodies size second)) ≡ all

-- at the start
pub writing_starts :
    {size : ℕ} (width : ℕ) {first second target : List ℕ}
    → length first % size ≡ 0
    → length second % size ≡ 0
    → length target ≡ length first + length second
    → Writing size width (concat (merged (not_behind width) (all_bodies size first) (all_bodies size second))) first second target 0
writing_starts {size} width {first} {second} h g room =
    record { one = filled_whole size first h; two = filled_whole size second g; room = omega arith; whole = refl }

module _ {size width : ℕ} {all first second target : List ℕ} {at : ℕ} (w : Writing size width all first second target at) (some : 0 < size) where
  -- a body more is written, which goes before what is left then
  body_written :
      (body : List ℕ) {part left other : List ℕ}
      → length body ≡ size
      → part ≡ body
      → Filled size left
      → Filled size other
      → size + (length left + length other) ≡ length first + length second
      → merged (not_behind width) (all_bodies size first) (all_bodies size second) ≡ body ∷ merged (not_behind width) (all_bodies size left) (all_bodies size other)
      → Writing size width all left other (put_mid at (at + size - at) target part) (at + size)
  unfolding written
  body_written body {part} {left} {other} sized same one two lengths next =
      let room : at + size ≤ length target = omega (arith, w.room, lengths) in
      let zs : List (List ℕ) = merged (not_behind width) (all_bodies size left) (all_bodies size other) in
      let now : put_mid at (at + size - at) target part ≡ written target at body = part_written target at (at + size - at) same (omega arith) in
      let front : take (at + size) (written target at body) ≡ take at target ++ body =
      take_at (take at target ++ body) (drop (at + length body) target) (at + size)
      (length-append (take at target) body ∙ omega (arith, length-take-le at target (omega arith))) in
      record {
        one = one;
        two = two;
        room = omega (arith, w.room, lengths, ap length now, written_length target at body (omega arith));
        whole =
            ap (λ (l : List ℕ). take (at + size) l ++ concat zs) now
            ∙ ap (λ (l : List ℕ). l ++ concat zs) front
            ∙ append_assoc (take at target) body (concat zs)
            ∙ ap (λ (bs : List (List ℕ)). take at target ++ concat bs) (sym next)
            ∙ w.whole;
      }

  module _ (first_some : eqb (length first) 0 ≡ false) (second_some : eqb (length second) 0 ≡ false) where
    -- the first body of either file
    one : Next some first
    one = filled_next some w.one first_some

    two : Next some second
    two = filled_next some w.two second_some

    -- the first file's body is written
    pub writing_first :
        {part behind : List ℕ}
        → part ≡ take size first
        → behind ≡ drop size first
        → not_behind width (take size first) (take size second) ≡ true
        → Writing size width all behind second (put_mid at (at + size - at) target part) (at + size)
    writing_first same left h =
        rw left
        (body_written (take size first) one.sized same one.others w.two (omega (arith, one.less))
        (ap₂ (merged (not_behind width)) one.splits two.splits
        ∙ merged_first (not_behind width) (all_bodies size (drop size first)) (all_bodies size (drop size second)) h
        ∙ ap (λ (bs : List (List ℕ)). take size first ∷ merged (not_behind width) (all_bodies size (drop size first)) bs) (sym two.splits)))

    -- the second's is
    pub writing_second :
        {part behind : List ℕ}
        → part ≡ take size second
        → behind ≡ drop size second
        → not_behind width (take size first) (take size second) ≡ false
        → Writing size width all first behind (put_mid at (at + size - at) target part) (at + size)
    writing_second same left h =
        rw left
        (body_written (take size second) two.sized same w.one two.others (omega (arith, two.less))
        (ap₂ (merged (not_behind width)) one.splits two.splits
        ∙ merged_second (not_behind width) (all_bodies size (drop size first)) (all_bodies size (drop size second)) h
        ∙ ap (λ (bs : List (List ℕ)). take size second ∷ merged (not_behind width) bs (all_bodies size (drop size second))) (sym one.splits)))

  -- where one file has no more, the other's bodies are the rest
  writing_ends : (length first ≡ 0) ⊎ (length second ≡ 0) → take at target ++ (first ++ second) ≡ all
  writing_ends (inl h) =
      ap (λ (l : List ℕ). take at target ++ l)
      (ap (λ (l : List ℕ). l ++ second) (nil_from_length first h)
      ∙ sym (ap concat (ap (λ (bs : List (List ℕ)). merged (not_behind width) bs (all_bodies size second)) (filled_none some _ h) ∙ none_merged (not_behind width) (all_bodies size second)) ∙ filled_joined some w.two))
      ∙ w.whole
  writing_ends (inr h) =
      ap (λ (l : List ℕ). take at target ++ l)
      (ap (λ (l : List ℕ). first ++ l) (nil_from_length second h) ∙ append-nil first
      ∙ sym (ap concat (ap (merged (not_behind width) (all_bodies size first)) (filled_none some _ h) ∙ merged_none (not_behind width) (all_bodies size first)) ∙ filled_joined some w.one))
      ∙ w.whole

  -- and they are written behind what is written, those of the first file and those of the second
  pub writing_tail :
      {part more : List ℕ}
      → part ≡ first
      → more ≡ second
      → (length first ≡ 0) ⊎ (length second ≡ 0)
      → put_mid (at + length first) (length (put_mid at (at + length first - at) target part) - (at + length first)) (put_mid at (at + length first - at) target part) more ≡ all
  unfolding written
  writing_tail {part} {more} same next end =
      let m : ℕ = at + length first in
      let now : List ℕ = put_mid at (m - at) target part in
      let one : now ≡ written target at first = part_written target at (m - at) same (omega arith) in
      let long : length now ≡ length target = ap length one ∙ written_length target at first (omega (arith, w.room)) in
      let none : drop (at + length (first ++ second)) target ≡ [] = drop_of_length-le target (omega (arith, w.room, length-append first second)) in
      part_written now m (length now - m) next (omega (arith, long, w.room))
      ∙ ap (λ (l : List ℕ). written l m second) one
      ∙ written_next target at first second (omega (arith, w.room))
      ∙ ap (λ (l : List ℕ). (take at target ++ (first ++ second)) ++ l) none
      ∙ append-nil (take at target ++ (first ++ second))
      ∙ writing_ends end
