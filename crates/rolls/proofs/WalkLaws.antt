-- Laws of the walk, one position after the other. Assumes nothing.
use Rattle.std.proofs.Common.{◌≡◌, ℕ, zero, suc, ◌+◌, ◌*◌, ◌/◌, ◌%◌, ◌<◌, ◌≤◌, Bool, true, false, not, ◌&&◌, List, [], ◌∷◌, ◌++◌, Option, length, map, take, drop, get_or, add-one, refl, ap, ap₂, sym, subst, ◌∙◌, arith, drop-cons, append_assoc, append-nil, zero-mul}
use Rattle.std.specs.Prelude.{IfSome, IsSomeAnd, Some, None}
use Rattle.std.proofs.lemmas.List.{length-map}
use Rattle.std.specs.List.{drop-map}
use native.Mathlib.Nat.{add-mul}
use Rattle.std.proofs.Math.Nat.{mul-le-mul_left}
use Rattle.std.proofs.lemmas.List.{get_or_default}
use Rattle.std.proofs.Common.{length-append}
use lib.ListN.{drop_of_length-le}
use lib.Dec.{eqb}
use mir.Val.{bool_byte}
use borrow.Author.Tests.{eqb-true}
use Rattle.decimal.specs.declared.image.Image.{Image}
use Rattle.decimal.specs.declared.number.Number.{Number}
use Rattle.decimal.specs.Answer.{done}
use Rattle.decimal.proofs.BoolLaws.{and_true}
use Rattle.decimal.specs.Number.{zero_number, normal}
use Rattle.codec.specs.Columns.{column_size, body_size, Checked}
use Rattle.codec.specs.Lists.{no_image}
use Rattle.codec.specs.Order.{UnsignedFixed, Bytes}
use Rattle.codec.specs.Ordering.{LeastRun}
use Rattle.codec.proofs.ContentsLaws.{checked_at}
use Rattle.codec.proofs.FrontLaws.{body_some}
use Rattle.records.proofs.FileProofs.JoinedLaws.{Each, each_bytes}
use Rattle.rolls.specs.Falling.{at_most, normal_at_most}
use Rattle.rolls.specs.Merging.{first_column_of}
use Rattle.rolls.specs.Searching.{Search, giving, comparing, walk, first_record, check_numbers}
use Rattle.rolls.specs.Runs.{all_bodies, runs_in, first_reaching, Ordered}
use Rattle.rolls.proofs.FilledLaws.{Filled, filled_whole, filled_rest, Dropped, filled_drop, filled_none, filled_next}
use Rattle.rolls.proofs.FindTheorem.{first_here, first_later, first_none, is_first}
use Rattle.rolls.proofs.FirstColumnLaws.{each_read}
use Rattle.rolls.proofs.FirstColumnOrder.{first_image, FirstColumn, first_columns}
use Rattle.rolls.proofs.PageLaws.{all_normal}
use Rattle.rolls.proofs.RunLaws.{first_reaches}

-- The steps of the walk.

module _ (r : ℕ) (p : Number) (ps : List Number) where
  -- the record is at least as large: the next position
  walk_reached :
      (k : Number) (ks : List Number)
      → at_most p k ≡ true
      → walk r (p ∷ ps) (k ∷ ks) ≡ record { records = r ∷ (walk r ps (k ∷ ks)).records; comparisons = 1 + (walk r ps (k ∷ ks)).comparisons }
  unfolding walk giving comparing
  walk_reached k ks h = rw h (ap (λ (n : ℕ). record { records = r ∷ (walk r ps (k ∷ ks)).records; comparisons = n }) (omega arith))

  -- else the next record
  walk_passed : (k : Number) (ks : List Number) → at_most p k ≡ false → walk r (p ∷ ps) (k ∷ ks) ≡ comparing (walk (suc r) (p ∷ ps) ks)
  unfolding walk
  walk_passed k ks h = rw h

  -- a position left over
  walk_left : walk r (p ∷ ps) [] ≡ record { records = r ∷ (walk r ps []).records; comparisons = 0 + (walk r ps []).comparisons }
  unfolding walk giving
  walk_left = ap (λ (n : ℕ). record { records = r ∷ (walk r ps []).records; comparisons = n }) (omega arith)

-- A walk behind what was found before it.

abbrev pub joined : List ℕ → ℕ → Search → Search
joined given compared s = record { records = given ++ s.records; comparisons = compared + s.comparisons }

module _ (given : List ℕ) (compared : ℕ) where
  -- what was found in two parts
  joined_joined : (more : List ℕ) (others : ℕ) (s : Search) → joined given compared (joined more others s) ≡ joined (given ++ more) (compared + others) s
  joined_joined more others s =
      ap₂ (λ (l : List ℕ) (n : ℕ). record { records = l; comparisons = n }) (sym (append_assoc given more s.records)) (omega arith)

  -- nothing behind it
  joined_none : (r : ℕ) (ks : List Number) → joined given compared (walk r [] ks) ≡ record { records = given; comparisons = compared }
  unfolding walk
  joined_none r ks = ap₂ (λ (l : List ℕ) (n : ℕ). record { records = l; comparisons = n }) (append-nil given) (omega arith)

-- nothing before it
joined_first : (s : Search) → joined [] 0 s ≡ s
joined_first s = ap (λ (n : ℕ). record { records = s.records; comparisons = n }) (omega arith)

-- the comparison with the record that is found, where there is one
abbrev pub found_one : List Number → ℕ
found_one [] = 0
found_one (k ∷ ks) = 1

-- what the walk finds where so many records stand before the position's own: they are compared, and its own, where there is one
abbrev pub behind_position : ℕ → List Number → List Number → ℕ → Search
behind_position r ps ks c = joined ((r + c) ∷ []) (c + found_one (drop c ks)) (walk (r + c) ps (drop c ks))

-- none stands before it
none_before : (r : ℕ) (ps ks : List Number) → record { records = r ∷ (walk r ps ks).records; comparisons = found_one ks + (walk r ps ks).comparisons } ≡ behind_position r ps ks 0
none_before r ps ks =
    ap₂ (λ (m n : ℕ). joined (m ∷ []) n (walk m ps ks)) (omega arith) (omega arith)

-- one more does
one_before :
    (r : ℕ) (k : Number) (ps ks : List Number) (c : ℕ) → comparing (behind_position (suc r) ps ks c) ≡ behind_position r ps (k ∷ ks) (suc c)
unfolding comparing
one_before r k ps ks c =
    let n : ℕ = found_one (drop c ks) in
    let place : suc r + c ≡ r + suc c = omega arith in
    ap (λ (m : ℕ). record { records = m ∷ (walk m ps (drop c ks)).records; comparisons = suc (c + n + (walk m ps (drop c ks)).comparisons) }) place
    ∙ ap (λ (m : ℕ). record { records = (r + suc c) ∷ (walk (r + suc c) ps (drop c ks)).records; comparisons = m }) (omega arith)

-- one position
walk_position : (r : ℕ) (p : Number) (ps ks : List Number) → walk r (p ∷ ps) ks ≡ behind_position r ps ks (first_record ks p)
walk_position r p ps [] = walk_left r p ps ∙ none_before r ps [] ∙ ap (behind_position r ps []) (sym (first_none p))
walk_position r p ps (k ∷ ks) = go (at_most p k) refl (walk_position (suc r) p ps ks)
  where
    go : (b : Bool) → at_most p k ≡ b → walk (suc r) (p ∷ ps) ks ≡ behind_position (suc r) ps ks (first_record ks p)
        → walk r (p ∷ ps) (k ∷ ks) ≡ behind_position r ps (k ∷ ks) (first_record (k ∷ ks) p)
    go true h others =
        walk_reached r p ps k ks h ∙ none_before r ps (k ∷ ks) ∙ ap (behind_position r ps (k ∷ ks)) (sym (first_here k ks p h))
    go false h others =
        walk_passed r p ps k ks h
        ∙ ap comparing others
        ∙ one_before r k ps ks (first_record ks p)
        ∙ ap (behind_position r ps (k ∷ ks)) (sym (first_later k ks p h))

-- The walk over a file's records.

-- what is found for the positions before an index, and what the walk finds for the others in the bodies that are left, is the whole
pub record Walking (ims : List Image) (all : List ℕ) (ps : List Number) (left : List ℕ) (index r compared : ℕ) (given : List ℕ) : Type 0 where
  pub filled : Filled (body_size ims) left
  pub reached : length left + r * body_size ims ≡ length all
  pub each : Each (FirstColumn ims) (all_bodies (body_size ims) left)
  pub whole :
      joined given compared (walk r (drop index ps) (map (first_column_of ims) (all_bodies (body_size ims) left)))
      ≡ walk 0 ps (map (first_column_of ims) (all_bodies (body_size ims) all))
  pub settled : length given ≡ index
  pub few : compared ≤ r + index

-- what is known of bodies that can be compared
pub record Told (ims : List Image) (bytes : List ℕ) : Type 0 where
  pub checked : Checked (first_image ims)
  pub some : 0 < body_size ims
  pub width : column_size (first_image ims) ≤ body_size ims
  pub filled : Filled (body_size ims) bytes
  pub each : Each (FirstColumn ims) (all_bodies (body_size ims) bytes)

-- a column is not longer than a body
pub column_within : (ims : List Image) → 1 ≤ length ims → column_size (first_image ims) ≤ body_size ims
unfolding body_size
column_within [] low = absurd (omega arith)
column_within (im ∷ ims) low = omega arith

pub ordered_told : {ims : List Image} {bytes : List ℕ} → Ordered ims bytes → Bytes bytes → Told ims bytes
ordered_told {ims} {bytes} o known =
    record {
      checked = checked_at o.sound.all 0 no_image (omega (arith, o.sound.low));
      some = body_some o.sound.all o.sound.low;
      width = column_within ims o.sound.low;
      filled = filled_whole (body_size ims) bytes o.whole;
      each =
          first_columns ims (all_bodies (body_size ims) bytes) o.sound.low
          (each_bytes (length bytes / body_size ims) (body_size ims) bytes known)
          (each_read ims (all_bodies (body_size ims) bytes) o.read);
    }

-- the position's own record is there where bodies are left
found_left : {size : ℕ} (some : 0 < size) (im : List ℕ → Number) {bytes : List ℕ} → Filled size bytes → found_one (map im (all_bodies size bytes)) ≡ bool_byte (not (eqb (length bytes) 0))
found_left {size} some im {bytes} f = go (eqb (length bytes) 0) refl
  where
    go : (b : Bool) → eqb (length bytes) 0 ≡ b → found_one (map im (all_bodies size bytes)) ≡ bool_byte (not b)
    go true h = ap (λ (bs : List (List ℕ)). found_one (map im bs)) (filled_none some bytes (eqb-true (length bytes) 0 h))
    go false h = ap (λ (bs : List (List ℕ)). found_one (map im bs)) (filled_next some f h).splits

-- at the first position
pub walking_starts : {ims : List Image} {bytes : List ℕ} (ps : List Number) → Told ims bytes → Walking ims bytes ps bytes 0 0 0 []
walking_starts {ims} {bytes} ps t =
    record {
      filled = t.filled;
      reached = omega (arith, zero-mul (body_size ims));
      each = t.each;
      whole = joined_first (walk 0 ps (map (first_column_of ims) (all_bodies (body_size ims) bytes)));
      settled = refl;
      few = omega arith;
    }

-- it is at most one
pub one_few : (b : Bool) → bool_byte b ≤ 1
one_few true = omega arith
one_few false = omega arith

-- each of so many dropped
each_dropped : {P : List ℕ → Type 0} (k : ℕ) {bs : List (List ℕ)} → Each P bs → Each P (drop k bs)
each_dropped zero e = e
each_dropped (suc k) Each.none = Each.none
each_dropped (suc k) (Each.more p e) = each_dropped k e

module _ {ims : List Image} {all : List ℕ} {ps : List Number} {left : List ℕ} {index r compared : ℕ} {given : List ℕ}
    (w : Walking ims all ps left index r compared given) (kind : UnsignedFixed (first_image ims)) (checked : Checked (first_image ims)) (some : 0 < body_size ims) where
  abbrev size : ℕ
  size = body_size ims

  abbrev columns : List Number
  columns = map (first_column_of ims) (all_bodies size left)

  module _ (more : index < length ps) {least : Option ℕ} (l : LeastRun (first_image ims) (get_or ps index zero_number) least)
      (is_normal : normal (get_or ps index zero_number) ≡ true)
      {c : ℕ} (counted : c ≡ first_reaching least (runs_in (column_size (first_image ims)) size left)) where
    -- so many records stand before the position's
    pub below : c ≡ first_record columns (get_or ps index zero_number)
    below = counted ∙ first_reaches ims kind checked l is_normal (all_bodies size left) w.each

    -- which are in what is left
    few_below : c ≤ length (all_bodies size left)
    few_below = let i = (is_first columns (get_or ps index zero_number)).inside in omega (arith, below, i, length-map (all_bodies size left) (first_column_of ims))

    dropped : Dropped some c left (drop (c * size) left)
    dropped = filled_drop some c w.filled few_below

    pub below_inside : c * size ≤ length left
    below_inside = omega (arith, dropped.length_left)

    pub walking_turns :
        {left_now : List ℕ} {one compared_now : ℕ} {given_now : List ℕ}
        → left_now ≡ drop (c * size) left
        → one ≡ bool_byte (not (eqb (length left_now) 0))
        → compared_now ≡ compared + (c + one)
        → given_now ≡ given ++ (r + c) ∷ []
        → Walking ims all ps left_now (index + 1) (r + c) compared_now given_now
    walking_turns {left_now} {one} {compared_now} {given_now} e o n g =
        let p : Number = get_or ps index zero_number in
        let others : List Number = drop (suc index) ps in
        let d = dropped in
        let behind : map (first_column_of ims) (all_bodies size (drop (c * size) left)) ≡ drop c columns = ap (map (first_column_of ims)) d.same ∙ sym (drop-map (first_column_of ims) c (all_bodies size left)) in
        let found : one ≡ found_one (drop c columns) = o ∙ ap (λ (l : List ℕ). bool_byte (not (eqb (length l) 0))) e ∙ sym (found_left some (first_column_of ims) d.rest) ∙ ap found_one behind in
        record {
          filled = subst (Filled size) (sym e) d.rest;
          reached = omega (arith, ap length e, d.length_left, w.reached, add-mul r c size);
          each = subst (λ (l : List ℕ). Each (FirstColumn ims) (all_bodies size l)) (sym e) (subst (Each (FirstColumn ims)) (sym d.same) (each_dropped c w.each));
          whole =
              (λ i. joined (g i) (n i) (walk (r + c) (drop (add-one index i) ps) (map (first_column_of ims) (all_bodies size (e i)))))
              ∙ (λ i. joined (given ++ (r + c) ∷ []) (compared + (c + found i)) (walk (r + c) others (behind i)))
              ∙ sym (joined_joined given compared ((r + c) ∷ []) (c + found_one (drop c columns)) (walk (r + c) others (drop c columns)))
              ∙ ap (λ (m : ℕ). joined given compared (behind_position r others columns m)) below
              ∙ ap (joined given compared) (sym (walk_position r p others columns))
              ∙ ap (λ (l : List Number). joined given compared (walk r l columns)) (sym (drop-cons ps index zero_number more))
              ∙ w.whole;
          settled = ap length g ∙ omega (arith, length-append given ((r + c) ∷ []), w.settled);
          few = omega (arith, w.few, o, one_few (not (eqb (length left_now) 0)));
        }

-- at the last
pub walking_ends :
    {ims : List Image} {all : List ℕ} {ps : List Number} {left : List ℕ} {index r compared : ℕ} {given : List ℕ}
    → Walking ims all ps left index r compared given
    → length ps ≤ index
    → record { records = given; comparisons = compared } ≡ walk 0 ps (map (first_column_of ims) (all_bodies (body_size ims) all))
walking_ends {ims} {ps = ps} {left} {r = r} {compared} {given} w l =
    let columns : List Number = map (first_column_of ims) (all_bodies (body_size ims) left) in
    sym (joined_none given compared r columns)
    ∙ ap (λ (qs : List Number). joined given compared (walk r qs columns)) (sym (drop_of_length-le ps l))
    ∙ w.whole

-- a number that is at most another, both in normal form, is
at_most_told : (a b : Number) → normal_at_most a b ≡ true → at_most a b ≡ true
unfolding normal_at_most
at_most_told a b h = (and_true (normal b) (at_most a b) (and_true (normal a) (normal b && at_most a b) h).1).1

-- a number at hand is at least a position
front_told : (front : Option Number) (p k : Number) → IfSome front (λ n. n ≡ k) → IsSomeAnd front (λ n. normal_at_most p n ≡ true) → normal_at_most p k ≡ true
front_told (Some n) p k f reached = ap (normal_at_most p) (sym f) ∙ reached
front_told None p k f reached = absurd reached

-- The loop over the positions.

-- a position more, as the code holds what it goes by
pub record Step (ims : List Image) (all : List ℕ) (ps : List Number) (left : List ℕ) (index r compared : ℕ) (given : List ℕ) (size c : ℕ) : Type 0 where
  pub inside : c * size ≤ length left
  pub few : r + c ≤ length all
  pub sums : {one : ℕ} → one ≤ 1 → compared + (c + one) ≤ length all + (index + 1)
  pub turns :
      {left_now : List ℕ} {one compared_now : ℕ} {given_now : List ℕ}
      → left_now ≡ drop (c * size) left
      → one ≡ bool_byte (not (eqb (length left_now) 0))
      → compared_now ≡ compared + (c + one)
      → given_now ≡ given ++ (r + c) ∷ []
      → Walking ims all ps left_now (index + 1) (r + c) compared_now given_now

-- the record number is at most the count of bytes
pub walking_few : {ims : List Image} {all : List ℕ} {ps : List Number} {left : List ℕ} {index r compared : ℕ} {given : List ℕ}
    → Walking ims all ps left index r compared given → 0 < body_size ims → r + length left ≤ length all
walking_few {ims} {r = r} w some = let wide : r * 1 ≤ r * body_size ims = mul-le-mul_left r some in omega (arith, w.reached)

module _ {ims : List Image} {all : List ℕ} {ps : List Number} {left : List ℕ} {index r compared : ℕ} {given : List ℕ}
    (w : Walking ims all ps left index r compared given) (o : Ordered ims all) (known : Bytes all) where
  -- what is asked of the count
  pub counts_asked : {width size : ℕ} → width ≡ column_size (first_image ims) → size ≡ body_size ims → (width ≤ size) × (0 < size) × (length left % size ≡ 0)
  counts_asked {width} {size} k s =
      let t = ordered_told o known in
      (omega (arith, t.width), omega (arith, t.some), ap (λ (n : ℕ). length left % n) s ∙ filled_rest w.filled)

  -- a position left over, where no body is left
  pub walking_past : {given_now : List ℕ} → index < length ps → eqb (length left) 0 ≡ true → given_now ≡ given ++ r ∷ [] → Walking ims all ps left (index + 1) r compared given_now
  walking_past more n g =
      let t = ordered_told o known in
      let p : Number = get_or ps index zero_number in
      let others : List Number = drop (suc index) ps in
      let columns : List Number = map (first_column_of ims) (all_bodies (body_size ims) left) in
      let none : columns ≡ [] = ap (map (first_column_of ims)) (filled_none t.some left (eqb-true (length left) 0 n)) in
      let same : compared ≡ compared + 0 = omega arith in
      record {
        filled = w.filled;
        reached = w.reached;
        each = w.each;
        whole =
            (λ i. joined (g i) (same i) (walk r (drop (add-one index i) ps) (none i)))
            ∙ sym (joined_joined given compared (r ∷ []) 0 (walk r others []))
            ∙ ap (joined given compared) (sym (walk_left r p others))
            ∙ ap (λ (ks : List Number). joined given compared (walk r (p ∷ others) ks)) (sym none)
            ∙ ap (λ (l : List Number). joined given compared (walk r l columns)) (sym (drop-cons ps index zero_number more))
            ∙ w.whole;
        settled = ap length g ∙ omega (arith, length-append given (r ∷ []), w.settled);
        few = omega (arith, w.few);
      }

  -- a position that the record at the front reaches, as a number at hand tells
  pub walking_reached :
      {given_now : List ℕ}
      → index < length ps
      → eqb (length left) 0 ≡ false
      → (front : Option Number) (d : Number)
      → IfSome front (λ n. n ≡ first_column_of ims (take (body_size ims) left))
      → IsSomeAnd front (λ n. normal_at_most (get_or ps index d) n ≡ true)
      → given_now ≡ given ++ r ∷ []
      → Walking ims all ps left (index + 1) r (compared + 1) given_now
  walking_reached more n front d f reached g =
      let t = ordered_told o known in
      let p : Number = get_or ps index zero_number in
      let others : List Number = drop (suc index) ps in
      let size : ℕ = body_size ims in
      let columns : List Number = map (first_column_of ims) (all_bodies size left) in
      let k : Number = first_column_of ims (take size left) in
      let ks : List Number = map (first_column_of ims) (all_bodies size (drop size left)) in
      let splits : columns ≡ k ∷ ks = ap (map (first_column_of ims)) (filled_next t.some w.filled n).splits in
      let position : get_or ps index d ≡ p = get_or_default ps index d zero_number more in
      let low : at_most p k ≡ true = at_most_told p k (ap (λ (m : Number). normal_at_most m k) (sym position) ∙ front_told front (get_or ps index d) k f reached) in
      record {
        filled = w.filled;
        reached = w.reached;
        each = w.each;
        whole =
            (λ i. joined (g i) (compared + 1) (walk r (drop (add-one index i) ps) (splits i)))
            ∙ sym (joined_joined given compared (r ∷ []) 1 (walk r others (k ∷ ks)))
            ∙ ap (joined given compared) (sym (walk_reached r p others k ks low))
            ∙ ap (λ (l : List Number). joined given compared (walk r (p ∷ others) l)) (sym splits)
            ∙ ap (λ (l : List Number). joined given compared (walk r l columns)) (sym (drop-cons ps index zero_number more))
            ∙ w.whole;
        settled = ap length g ∙ omega (arith, length-append given (r ∷ []), w.settled);
        few = omega (arith, w.few);
      }

  pub step_told :
      check_numbers 0 ps ≡ done tt
      → index < length ps
      → {im : Image} (d : Number) {least : Option ℕ}
      → im ≡ first_image ims
      → LeastRun im (get_or ps index d) least
      → {width size c : ℕ}
      → width ≡ column_size (first_image ims)
      → size ≡ body_size ims
      → c ≡ first_reaching least (runs_in width size left)
      → Step ims all ps left index r compared given size c
  step_told normals more {im} d {least} e l {width} {size} {c} k s counted =
      let t = ordered_told o known in
      let position : get_or ps index d ≡ get_or ps index zero_number = get_or_default ps index d zero_number more in
      let least_is : LeastRun (first_image ims) (get_or ps index zero_number) least = subst (λ (p : Number). LeastRun (first_image ims) p least) position (subst (λ (i : Image). LeastRun i (get_or ps index d) least) e l) in
      let count : c ≡ first_reaching least (runs_in (column_size (first_image ims)) (body_size ims) left) = counted ∙ (λ i. first_reaching least (runs_in (k i) (s i) left)) in
      let is_normal = all_normal ps normals index more in
      let inside = below_inside w o.kind t.checked t.some more least_is is_normal count in
      let next = walking_turns w o.kind t.checked t.some more least_is is_normal count refl refl refl refl in
      let few : r + c ≤ length all = omega (arith, walking_few next t.some) in
      record {
        inside = omega (arith, inside, ap (λ (n : ℕ). c * n) s);
        few = few;
        sums = λ h. omega (arith, w.few, few);
        turns = λ a b n g. walking_turns w o.kind t.checked t.some more least_is is_normal count (a ∙ ap (λ (n : ℕ). drop (c * n) left) s) b n g;
      }
