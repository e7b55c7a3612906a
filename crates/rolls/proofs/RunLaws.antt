-- Laws of records compared by the runs of their first columns: what falls, and which are at least a position. Assumes nothing.
use Rattle.std.proofs.Common.{◌≡◌, ℕ, suc, ◌+◌, ◌%◌, ◌^◌, ◌<◌, ◌≤◌, Bool, true, false, not, ◌||◌, List, [], ◌∷◌, Option, length, map, take, drop, refl, ap, ap₂, sym, ◌∙◌, arith, ⊎_elim, take-take}
use Rattle.std.specs.Prelude.{leb}
use lib.Dec.{ltb, eqb}
use borrow.Author.Tests.{le-leb, lt-leb, lt-ltb, le-ltb, eqb-true}
use Rattle.decimal.specs.declared.image.Image.{Image}
use Rattle.decimal.specs.declared.number.Number.{Number}
use Rattle.decimal.specs.Answer.{pick}
use Rattle.decimal.specs.Number.{normal}
use Rattle.decimal.proofs.DigitLaws.{le_or_lt}
use Rattle.codec.specs.Columns.{column_size, Checked}
use Rattle.codec.specs.Order.{UnsignedFixed, Bytes}
use Rattle.codec.specs.Ordering.{run_of, reaches, LeastRun}
use Rattle.codec.proofs.OrderingLaws.{column_few_bytes, runs_order, run_whole}
use Rattle.records.proofs.FileProofs.JoinedLaws.{Each, each_first, each_others}
use Rattle.rolls.specs.Falling.{at_most, fall}
use Rattle.rolls.specs.Searching.{first_record}
use Rattle.rolls.specs.Merging.{first_column_of, not_behind}
use Rattle.rolls.specs.Runs.{run_at, runs_in, runs_fall, first_reaching}
use Rattle.rolls.proofs.FilledLaws.{Filled, filled_whole, filled_none, filled_next}
use Rattle.rolls.proofs.FirstColumnOrder.{first_image, FirstColumn, first_columns_compare}

-- Runs as the code holds them.

-- a run is not below another
not_below : (a b : ℕ) → not (ltb b a) ≡ leb a b
not_below a b = ⊎_elim (λ le. ap not (le-ltb b a le) ∙ sym (le-leb a b le)) (λ lt. ap not (lt-ltb b a lt) ∙ sym (lt-leb a b lt)) (le_or_lt a b)

-- bytes at the front of bodies are compared by their runs
pub runs_compared :
    (width : ℕ) (x y : List ℕ)
    → width ≤ 8
    → Bytes (take width x)
    → Bytes (take width y)
    → length (take width x) ≡ width
    → length (take width y) ≡ width
    → leb (run_at width x) (run_at width y) ≡ not_behind width x y
runs_compared width x y few p q l m =
    ap₂ leb (run_whole (take width x) p (omega arith)) (run_whole (take width y) q (omega arith))
    ∙ sym (not_below (run_of (take width x)) (run_of (take width y)))
    ∙ ap not (sym (runs_order (take width y) (take width x) q p (omega arith)))

module _ (ims : List Image) (kind : UnsignedFixed (first_image ims)) (checked : Checked (first_image ims)) where
  abbrev width : ℕ
  width = column_size (first_image ims)

  abbrev column : List ℕ → Number
  column = first_column_of ims

  -- first columns compare as runs
  first_columns_run : {x y : List ℕ} → FirstColumn ims x → FirstColumn ims y → at_most (column x) (column y) ≡ leb (run_at width x) (run_at width y)
  first_columns_run {x} {y} f g =
      first_columns_compare ims kind checked f g ∙ sym (runs_compared width x y (column_few_bytes (first_image ims) kind checked) f.known g.known f.sized g.sized)

  -- so they fall as runs
  pub first_columns_fall : (bs : List (List ℕ)) → Each (FirstColumn ims) bs → runs_fall (map (run_at width) bs) ≡ fall (map column bs)
  unfolding runs_fall fall
  first_columns_fall [] e = refl
  first_columns_fall (x ∷ []) e = refl
  first_columns_fall (x ∷ (y ∷ bs)) e =
      ap₂ (λ (a b : Bool). not a || b) (sym (first_columns_run (each_first e) (each_first (each_others e)))) (first_columns_fall (y ∷ bs) (each_others e))

  module _ {p : Number} {least : Option ℕ} (l : LeastRun (first_image ims) p least) (is_normal : normal p ≡ true) where
    -- a first column is at least a position where its run reaches the least one
    first_column_reaches : {x : List ℕ} → FirstColumn ims x → at_most p (column x) ≡ reaches least (run_at width x)
    unfolding at_most
    first_column_reaches {x} f =
        l.tells checked kind is_normal 0 (take width x) (column x) f.known f.sized f.reads
        ∙ ap (reaches least) (sym (run_whole (take width x) f.known (omega (arith, f.sized, column_few_bytes (first_image ims) kind checked))))

    -- so its record is the first one that does
    pub first_reaches : (bs : List (List ℕ)) → Each (FirstColumn ims) bs → first_reaching least (map (run_at width) bs) ≡ first_record (map column bs) p
    unfolding first_reaching first_record
    first_reaches [] e = refl
    first_reaches (x ∷ bs) e =
        ap₂ (λ (b : Bool) (n : ℕ). pick b 0 (suc n)) (sym (first_column_reaches (each_first e))) (first_reaches bs (each_others e))

-- The loops over bodies that are left.

-- the runs fall as those that are left do behind the last
pub record Falling (width size : ℕ) (all left : List ℕ) (last : ℕ) : Type 0 where
  pub filled : Filled size left
  pub same : runs_fall (runs_in width size all) ≡ runs_fall (last ∷ runs_in width size left)

-- so many runs do not reach the least one, and those that are left before the first that does
pub record Counting (width size : ℕ) (least : Option ℕ) (all left : List ℕ) (below : ℕ) : Type 0 where
  pub filled : Filled size left
  pub same : first_reaching least (runs_in width size all) ≡ below + first_reaching least (runs_in width size left)
  pub few : below + length left ≤ length all

module _ {width size : ℕ} (some : 0 < size) (within : width ≤ size) where
  -- the runs of bodies, where there is one: its own, as the code reads it from what is left, and the others
  runs_next : {left : List ℕ} → Filled size left → eqb (length left) 0 ≡ false → runs_in width size left ≡ run_at width left ∷ runs_in width size (drop size left)
  runs_next {left} f n =
      ap (map (run_at width)) (filled_next some f n).splits
      ∙ ap (λ (l : List ℕ). run_of l % 2 ^ 64 ∷ runs_in width size (drop size left)) (take-take width size left within)

  -- and where there is none
  runs_none : (left : List ℕ) → eqb (length left) 0 ≡ true → runs_in width size left ≡ []
  runs_none left n = ap (map (run_at width)) (filled_none some left (eqb-true (length left) 0 n))

  -- at the start
  nothing_before : (rs : List ℕ) → runs_fall rs ≡ runs_fall (0 ∷ rs)
  unfolding runs_fall
  nothing_before [] = refl
  nothing_before (r ∷ rs) = sym (ap (λ (b : Bool). not b || runs_fall (r ∷ rs)) (le-leb 0 r (omega arith)))

  pub falling_starts : (bytes : List ℕ) → length bytes % size ≡ 0 → Falling width size bytes bytes 0
  falling_starts bytes h = record { filled = filled_whole size bytes h; same = nothing_before (runs_in width size bytes) }

  module _ {all left : List ℕ} {last : ℕ} (w : Falling width size all left last) where
    -- a body is left
    falling_next : eqb (length left) 0 ≡ false → runs_fall (runs_in width size all) ≡ (not (leb last (run_at width left)) || runs_fall (run_at width left ∷ runs_in width size (drop size left)))
    unfolding runs_fall
    falling_next n = w.same ∙ ap (λ (rs : List ℕ). runs_fall (last ∷ rs)) (runs_next w.filled n)

    -- its run is below the last
    pub falling_stops : {run : ℕ} → eqb (length left) 0 ≡ false → run ≡ run_at width left → run < last → true ≡ runs_fall (runs_in width size all)
    falling_stops n e l =
        sym (falling_next n ∙ ap (λ (b : Bool). not b || runs_fall (run_at width left ∷ runs_in width size (drop size left))) (lt-leb last (run_at width left) (omega (arith, e))))

    -- it is not
    pub falling_turns : {run : ℕ} → eqb (length left) 0 ≡ false → run ≡ run_at width left → last ≤ run → Falling width size all (drop size left) run
    falling_turns {run} n e l =
        record {
          filled = (filled_next some w.filled n).others;
          same =
              falling_next n
              ∙ ap (λ (b : Bool). not b || runs_fall (run_at width left ∷ runs_in width size (drop size left))) (le-leb last (run_at width left) (omega (arith, e)))
              ∙ ap (λ (r : ℕ). runs_fall (r ∷ runs_in width size (drop size left))) (sym e);
        }

    -- none is left
    pub falling_ends : eqb (length left) 0 ≡ true → false ≡ runs_fall (runs_in width size all)
    unfolding runs_fall
    falling_ends n = sym (w.same ∙ ap (λ (rs : List ℕ). runs_fall (last ∷ rs)) (runs_none left n))

  module _ {least : Option ℕ} where
    -- at the start
    pub counting_starts : (bytes : List ℕ) → length bytes % size ≡ 0 → Counting width size least bytes bytes 0
    counting_starts bytes h = record { filled = filled_whole size bytes h; same = omega arith; few = omega arith }

    module _ {all left : List ℕ} {below : ℕ} (w : Counting width size least all left below) where
      counting_next :
          eqb (length left) 0 ≡ false
          → first_reaching least (runs_in width size all) ≡ below + pick (reaches least (run_at width left)) 0 (suc (first_reaching least (runs_in width size (drop size left))))
      unfolding first_reaching
      counting_next n = w.same ∙ ap (λ (rs : List ℕ). below + first_reaching least rs) (runs_next w.filled n)

      -- a run that reaches it
      pub counting_stops : {run : ℕ} → eqb (length left) 0 ≡ false → run ≡ run_at width left → reaches least run ≡ true → below ≡ first_reaching least (runs_in width size all)
      counting_stops n e r =
          sym
          (counting_next n
          ∙ ap (λ (b : Bool). below + pick b 0 (suc (first_reaching least (runs_in width size (drop size left))))) (ap (reaches least) (sym e) ∙ r)
          ∙ omega arith)

      -- one that does not
      pub counting_turns : {run : ℕ} → eqb (length left) 0 ≡ false → run ≡ run_at width left → reaches least run ≡ false → Counting width size least all (drop size left) (below + 1)
      counting_turns n e r =
          let next = filled_next some w.filled n in
          record {
            filled = next.others;
            same =
                counting_next n
                ∙ ap (λ (b : Bool). below + pick b 0 (suc (first_reaching least (runs_in width size (drop size left))))) (ap (reaches least) (sym e) ∙ r)
                ∙ omega arith;
            few = omega (arith, w.few, next.less);
          }

      -- none is left
      pub counting_ends : eqb (length left) 0 ≡ true → below ≡ first_reaching least (runs_in width size all)
      unfolding first_reaching
      counting_ends n = sym (w.same ∙ ap (λ (rs : List ℕ). below + first_reaching least rs) (runs_none left n) ∙ omega arith)
