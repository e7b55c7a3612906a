-- Document 02, (iii): the first record at least as large as a position is one number; the walk gives it for positions that do not fall; it
-- makes at most as many comparisons as there are positions and records. Assumes nothing.
use Prim.Native.Nat.{ℕ, zero, suc, ◌+◌, ◌<◌, ◌≤◌}
use mathlib.Core.Path.{◌≡◌, refl, ap, ap₂, sym, ◌∙◌}
use mathlib.Core.Bool.{Bool, true, false}
use mathlib.Core.List.{List, [], ◌∷◌}
use native.Mathlib.Omega.{arith}
use mathlib.Core.Logic.{⊎_elim}
use lib.ListN.{length, get_or}
use Rattle.decimal.specs.declared.number.Number.{Number}
use Rattle.decimal.specs.Number.{zero_number}
use Rattle.decimal.proofs.DigitLaws.{le_or_lt}
use Rattle.rolls.specs.Falling.{at_most, NeverFall, fall}
use Rattle.rolls.specs.Searching.{IsFirst, first_record, first_records, giving, comparing, walk, found}
use Rattle.rolls.specs.Finding.{Finds}
use Rattle.rolls.proofs.FallLaws.{not_both, at_most_transitive}
use Rattle.rolls.proofs.FallTheorem.{fall_view, fall_tail, fall_exactly}

-- The first record.

-- no first column is
pub first_none : (position : Number) → first_record [] position ≡ 0
unfolding first_record
first_none position = refl

module _ (column : Number) (columns : List Number) (position : Number) where
  -- the first column is at least the position
  pub first_here : at_most position column ≡ true → first_record (column ∷ columns) position ≡ 0
  unfolding first_record
  first_here h = rw h

  -- it is not
  pub first_later : at_most position column ≡ false → first_record (column ∷ columns) position ≡ suc (first_record columns position)
  unfolding first_record
  first_later h = rw h

  -- and the sentence in the same two cases
  is_here : at_most position column ≡ true → IsFirst (column ∷ columns) position 0
  is_here h = record { inside = omega arith; reaches = λ l. h; earlier = λ s l. absurd (omega arith) }

  is_later : {r : ℕ} → at_most position column ≡ false → IsFirst columns position r → IsFirst (column ∷ columns) position (suc r)
  is_later {r} h f =
      record {
        inside = let i = f.inside in omega arith;
        reaches = λ l. f.reaches (omega arith);
        earlier = before;
      }
    where
      before : (s : ℕ) → s < suc r → at_most position (get_or (column ∷ columns) s zero_number) ≡ false
      before zero l = h
      before (suc s) l = f.earlier s (omega arith)

-- what is computed is that record
pub is_first : (columns : List Number) (position : Number) → IsFirst columns position (first_record columns position)
unfolding first_record
is_first [] position = record { inside = omega arith; reaches = λ l. absurd (omega arith); earlier = λ s l. absurd (omega arith) }
is_first (column ∷ columns) position = go (at_most position column) refl (is_first columns position)
  where
    go : (b : Bool) → at_most position column ≡ b → IsFirst columns position (first_record columns position)
        → IsFirst (column ∷ columns) position (first_record (column ∷ columns) position)
    go true h f = rw (first_here column columns position h) (is_here column columns position h)
    go false h f = rw (first_later column columns position h) (is_later column columns position h f)

-- there is only one
first_only : (columns : List Number) (position : Number) {r s : ℕ} → IsFirst columns position r → IsFirst columns position s → r ≡ s
first_only columns position {r} {s} f g =
    ⊎_elim
    (λ (h : r ≤ s).
    ⊎_elim
    (λ (k : s ≤ r). omega arith)
    (λ (k : r < s). not_both (f.reaches (let i = g.inside in omega arith)) (g.earlier r k))
    (le_or_lt s r))
    (λ (h : s < r). not_both (g.reaches (let i = f.inside in omega arith)) (f.earlier s h))
    (le_or_lt r s)

-- The first records of a list.

pub firsts_count : (columns ps : List Number) → length (first_records columns ps) ≡ length ps
unfolding first_records
firsts_count columns [] = refl
firsts_count columns (p ∷ ps) = ap suc (firsts_count columns ps)

pub firsts_at : (columns ps : List Number) (i : ℕ) → i < length ps → get_or (first_records columns ps) i 0 ≡ first_record columns (get_or ps i zero_number)
unfolding first_records
firsts_at columns [] i l = absurd (omega arith)
firsts_at columns (p ∷ ps) zero l = refl
firsts_at columns (p ∷ ps) (suc i) l = firsts_at columns ps i (omega arith)

-- counted from a record number on
firsts_from : ℕ → List Number → List Number → List ℕ
firsts_from r columns [] = []
firsts_from r columns (p ∷ ps) = (r + first_record columns p) ∷ firsts_from r columns ps

firsts_zero : (columns ps : List Number) → firsts_from 0 columns ps ≡ first_records columns ps
unfolding firsts_from first_records
firsts_zero columns [] = refl
firsts_zero columns (p ∷ ps) = ap₂ (λ (n : ℕ) (l : List ℕ). n ∷ l) (omega arith) (firsts_zero columns ps)

-- The walk.

-- a first column that is below the first of positions that do not fall is below all
data AllAbove (column : Number) : List Number → Type 0 where
  none : AllAbove column []
  more : {p : Number} {ps : List Number} → at_most p column ≡ false → AllAbove column ps → AllAbove column (p ∷ ps)

all_above : (column p : Number) (ps : List Number) → fall (p ∷ ps) ≡ false → at_most p column ≡ false → AllAbove column (p ∷ ps)
all_above column p [] h a = AllAbove.more a AllAbove.none
all_above column p (q ∷ ps) h a =
    let v = fall_view p q ps h in
    AllAbove.more a (all_above column q ps v.1 (above (at_most q column) refl v.0))
  where
    above : (b : Bool) → at_most q column ≡ b → at_most p q ≡ true → at_most q column ≡ false
    above true e g = not_both (at_most_transitive p q column g e) a
    above false e g = e

-- then no position has its record
firsts_skip : (r : ℕ) {column : Number} (columns : List Number) {ps : List Number} → AllAbove column ps → firsts_from r (column ∷ columns) ps ≡ firsts_from (suc r) columns ps
unfolding firsts_from
firsts_skip r columns AllAbove.none = refl
firsts_skip r {column} columns (AllAbove.more {p} {ps} h others) =
    ap₂ (λ (n : ℕ) (l : List ℕ). n ∷ l) (omega (arith, first_later column columns p h)) (firsts_skip r columns others)

-- the walk's answers, from a record number on
walk_from : (r : ℕ) (ps columns : List Number) → fall ps ≡ false → (walk r ps columns).records ≡ firsts_from r columns ps
unfolding walk giving comparing firsts_from
walk_from r [] columns h = refl
walk_from r (p ∷ ps) [] h = ap₂ (λ (n : ℕ) (l : List ℕ). n ∷ l) (omega (arith, first_none p)) (walk_from r ps [] (fall_tail p ps h))
walk_from r (p ∷ ps) (column ∷ columns) h =
    go (at_most p column) refl (walk_from r ps (column ∷ columns) (fall_tail p ps h)) (walk_from (suc r) (p ∷ ps) columns h)
  where
    go : (b : Bool)
        → at_most p column ≡ b
        → (walk r ps (column ∷ columns)).records ≡ firsts_from r (column ∷ columns) ps
        → (walk (suc r) (p ∷ ps) columns).records ≡ firsts_from (suc r) columns (p ∷ ps)
        → (walk r (p ∷ ps) (column ∷ columns)).records ≡ firsts_from r (column ∷ columns) (p ∷ ps)
    go true e same next = rw e (ap₂ (λ (n : ℕ) (l : List ℕ). n ∷ l) (omega (arith, first_here column columns p e)) same)
    go false e same next = rw e (next ∙ sym (firsts_skip r columns (all_above column p ps h e)))

-- Published: for positions that do not fall the walk gives the first records.
pub walk_firsts : (ps columns : List Number) → fall ps ≡ false → (walk 0 ps columns).records ≡ first_records columns ps
walk_firsts ps columns h = walk_from 0 ps columns h ∙ firsts_zero columns ps

-- Published: it makes at most positions plus records comparisons.
pub walk_few : (r : ℕ) (ps columns : List Number) → (walk r ps columns).comparisons ≤ length ps + length columns
unfolding walk giving comparing
walk_few r [] columns = omega arith
walk_few r (p ∷ ps) [] = let l = walk_few r ps [] in omega arith
walk_few r (p ∷ ps) (column ∷ columns) = go (at_most p column) refl (walk_few r ps (column ∷ columns)) (walk_few (suc r) (p ∷ ps) columns)
  where
    go : (b : Bool)
        → at_most p column ≡ b
        → (walk r ps (column ∷ columns)).comparisons ≤ length ps + length (column ∷ columns)
        → (walk (suc r) (p ∷ ps) columns).comparisons ≤ length (p ∷ ps) + length columns
        → (walk r (p ∷ ps) (column ∷ columns)).comparisons ≤ length (p ∷ ps) + length (column ∷ columns)
    go true e one two = rw e (omega arith)
    go false e one two = rw e (omega arith)

-- Published: what the call gives for positions and first columns that do not fall.
pub finds : (ps columns : List Number) → NeverFall ps → NeverFall columns → Finds ps columns (found ps columns)
unfolding found
finds ps columns p k =
    record {
      counted = firsts_count columns ps;
      first = λ i l. rw (firsts_at columns ps i l) (is_first columns (get_or ps i zero_number));
      only = λ i r l f. first_only columns (get_or ps i zero_number) f (is_first columns (get_or ps i zero_number)) ∙ sym (firsts_at columns ps i l);
      later = λ i r l above below. behind i r l above below;
      walked =
          ap (λ (rs : List ℕ). record { records = rs; comparisons = (walk 0 ps columns).comparisons })
          (walk_firsts ps columns ((fall_exactly ps).1 p));
      few = walk_few 0 ps columns;
    }
  where
    behind : (i r : ℕ) → i < length ps → get_or (first_records columns ps) i 0 ≤ r → r < length columns
        → at_most (get_or ps i zero_number) (get_or columns r zero_number) ≡ true
    behind i r l above below =
        let position : Number = get_or ps i zero_number in
        let at : ℕ = first_record columns position in
        let same : get_or (first_records columns ps) i 0 ≡ at = firsts_at columns ps i l in
        let here : at < length columns = omega arith in
        at_most_transitive position (get_or columns at zero_number) (get_or columns r zero_number) ((is_first columns position).reaches here)
        (k.in_order at r (omega arith) below)
