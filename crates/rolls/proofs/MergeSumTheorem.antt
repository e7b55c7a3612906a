-- Document 02, (vi): "For any positions that (iii) takes, the record number it gives for each on the result is the sum of those it gives on
-- the two files", over the definition of (iii)'s answer. The three files take the same positions. Assumes nothing.
use Rattle.std.proofs.Common.{◌≡◌, ℕ, suc, ◌+◌, ◌<◌, Bool, true, false, List, [], ◌∷◌, length, map, get_or, refl, ap, ap₂, sym, subst, ◌∙◌, arith}
use Rattle.std.specs.Prelude.{◌↔◌}
use Rattle.decimal.specs.declared.number.Number.{Number}
use Rattle.decimal.specs.Answer.{done}
use Rattle.decimal.specs.Number.{zero_number}
use Rattle.decimal.proofs.AnswerLaws.{one_answer}
use Rattle.codec.specs.Contents.{Table}
use Rattle.codec.specs.Lists.{no_image}
use Rattle.codec.specs.Order.{UnsignedFixed}
use Rattle.records.specs.Files.RecordFile.{read_file, bodies_in}
use Rattle.rolls.specs.Falling.{at_most, NeverFall}
use Rattle.rolls.specs.Searching.{first_columns_of, first_columns_in, Search, first_record, found, searching}
use Rattle.rolls.specs.Merging.{first_column_of, by_first_column, merged, merged_file}
use Rattle.rolls.specs.MergedFiles.{Mergeable, Sums}
use Rattle.rolls.proofs.FallLaws.{at_most_transitive}
use Rattle.rolls.proofs.FindTheorem.{first_here, first_later, firsts_count, firsts_at}
use Rattle.rolls.proofs.AskTheorem.{page_asked, asked, answered}
use Rattle.rolls.proofs.MergeLaws.{merged_by}
use Rattle.rolls.proofs.MergeTheorem.{other_way, merge_exactly}
use Rattle.rolls.proofs.FirstColumnLaws.{first_columns_are, first_columns_read}
use Rattle.rolls.proofs.MergedTheorem.{zs, merged_exactly, merged_reads, merged_bodies, first_falls_not, second_falls_not, all_read}

-- The first record at least as large, in two lists and in the merged one.

module _ (column : List ℕ → Number) (p : Number) where
  -- the record number of a position
  abbrev at_in : List (List ℕ) → ℕ
  at_in bs = first_record (map column bs) p

  -- of a list that begins with a first column at least as large it is 0
  at_here : (b : List ℕ) (bs : List (List ℕ)) → at_most p (column b) ≡ true → at_in (b ∷ bs) ≡ 0
  at_here b bs h = first_here (column b) (map column bs) p h

  -- else it is one more than that of the others
  at_later : (b : List ℕ) (bs : List (List ℕ)) → at_most p (column b) ≡ false → at_in (b ∷ bs) ≡ suc (at_in bs)
  at_later b bs h = first_later (column b) (map column bs) p h

  first_goes :
      (x : List ℕ) (xs : List (List ℕ)) (y : List ℕ) (ys : List (List ℕ))
      → by_first_column column x y ≡ true
      → at_in (merged (by_first_column column) xs (y ∷ ys)) ≡ at_in xs + at_in (y ∷ ys)
      → at_in (x ∷ merged (by_first_column column) xs (y ∷ ys)) ≡ at_in (x ∷ xs) + at_in (y ∷ ys)
  first_goes x xs y ys h r = go (at_most p (column x)) refl
    where
      go : (b : Bool) → at_most p (column x) ≡ b → at_in (x ∷ merged (by_first_column column) xs (y ∷ ys)) ≡ at_in (x ∷ xs) + at_in (y ∷ ys)
      go true k =
          omega (
            arith,
            at_here x (merged (by_first_column column) xs (y ∷ ys)) k,
            at_here x xs k,
            at_here y ys (at_most_transitive p (column x) (column y) k h),
          )
      go false k = omega (arith, r, at_later x (merged (by_first_column column) xs (y ∷ ys)) k, at_later x xs k)

  second_goes :
      (x : List ℕ) (xs : List (List ℕ)) (y : List ℕ) (ys : List (List ℕ))
      → by_first_column column x y ≡ false
      → at_in (merged (by_first_column column) (x ∷ xs) ys) ≡ at_in (x ∷ xs) + at_in ys
      → at_in (y ∷ merged (by_first_column column) (x ∷ xs) ys) ≡ at_in (x ∷ xs) + at_in (y ∷ ys)
  second_goes x xs y ys h r = go (at_most p (column y)) refl
    where
      go : (b : Bool) → at_most p (column y) ≡ b → at_in (y ∷ merged (by_first_column column) (x ∷ xs) ys) ≡ at_in (x ∷ xs) + at_in (y ∷ ys)
      go true k =
          omega (
            arith,
            at_here y (merged (by_first_column column) (x ∷ xs) ys) k,
            at_here y ys k,
            at_here x xs (at_most_transitive p (column y) (column x) k (other_way (column x) (column y) h)),
          )
      go false k = omega (arith, r, at_later y (merged (by_first_column column) (x ∷ xs) ys) k, at_later y ys k)

  none_at : at_in [] ≡ 0
  unfolding first_record
  none_at = refl

  -- it is the sum
  pub places_add : (xs ys : List (List ℕ)) → at_in (merged (by_first_column column) xs ys) ≡ at_in xs + at_in ys
  places_add =
      merged_by (by_first_column column) (λ xs ys zs. at_in zs ≡ at_in xs + at_in ys)
      (λ ys. omega (arith, none_at))
      (λ x xs. omega (arith, none_at))
      first_goes
      second_goes

-- for each position
module _ (column : List ℕ → Number) (xs ys : List (List ℕ)) (ps : List Number) where
  pub found_adds : Sums (found ps (map column xs)) (found ps (map column ys)) (found ps (map column (merged (by_first_column column) xs ys)))
  unfolding found
  found_adds =
      record {
        counted = (
          firsts_count (map column (merged (by_first_column column) xs ys)) ps ∙ sym (firsts_count (map column xs) ps),
          firsts_count (map column (merged (by_first_column column) xs ys)) ps ∙ sym (firsts_count (map column ys) ps),
        );
        each =
            λ i l.
            let inside : i < length ps = omega (arith, l, firsts_count (map column (merged (by_first_column column) xs ys)) ps) in
            firsts_at (map column (merged (by_first_column column) xs ys)) ps i inside
            ∙ places_add column (get_or ps i zero_number) xs ys
            ∙ ap₂ (λ (a b : ℕ). a + b) (sym (firsts_at (map column xs) ps i inside)) (sym (firsts_at (map column ys) ps i inside));
      }

-- Files.

-- a file's answer is that of its first columns, for positions that another file takes
taken_here :
    (one : List ℕ) {table : Table} {columns : List Number}
    → read_file one ≡ done table
    → first_columns_in table one ≡ done columns
    → UnsignedFixed (get_or table.images 0 no_image)
    → NeverFall columns
    → (other : List ℕ) (ps : List Number) {s : Search}
    → searching other ps ≡ done s
    → searching one ps ≡ done (found ps columns)
taken_here one reads known kind order other ps g = answered (page_asked (asked other ps g).1 reads known kind order)

module _ {first second file : List ℕ} (h : merged_file first second ≡ done file) (m : Mergeable first second) where
  -- the first columns of the merged file
  merged_columns : first_columns_in m.table file ≡ done (map (first_column_of m.table.images) (zs m))
  merged_columns = ap (first_columns_of m.table.images) (merged_bodies h m) ∙ first_columns_read m.table.images (zs m) (all_read m)

  -- which do not fall
  merged_order : NeverFall (map (first_column_of m.table.images) (zs m))
  merged_order = ((merge_exactly (first_column_of m.table.images) (first_falls_not m) (second_falls_not m) (zs m)).1 refl).in_order

  -- the three files take the same positions.
  alike :
      (ps : List Number)
      → (((s : Search) × (searching first ps ≡ done s)) ↔ ((s : Search) × (searching file ps ≡ done s)))
      × (((s : Search) × (searching second ps ≡ done s)) ↔ ((s : Search) × (searching file ps ≡ done s)))
  alike ps = (
    (
      (λ t. (found ps (map (first_column_of m.table.images) (zs m)), taken_here file (merged_reads h m) merged_columns m.kind merged_order _ ps t.1)),
      (λ t. (found ps m.first_file_columns, taken_here first m.first_file m.first_read m.kind m.first_order _ ps t.1)),
    ),
    (
      (λ t. (found ps (map (first_column_of m.table.images) (zs m)), taken_here file (merged_reads h m) merged_columns m.kind merged_order _ ps t.1)),
      (λ t. (found ps m.second_file_columns, taken_here second m.second_file m.second_read m.kind m.second_order _ ps t.1)),
    ),
  )

  -- for each the record number on the result is the sum of those on the two files.
  adds :
      (ps : List Number) {s t u : Search}
      → searching first ps ≡ done s
      → searching second ps ≡ done t
      → searching file ps ≡ done u
      → Sums s t u
  adds ps {s} {t} {u} f g r =
      let one : s ≡ found ps (map (first_column_of m.table.images) (bodies_in m.table first)) =
      one_answer f (taken_here first m.first_file m.first_read m.kind m.first_order first ps f)
      ∙ ap (found ps) (first_columns_are m.table.images (bodies_in m.table first) m.first_read) in
      let two : t ≡ found ps (map (first_column_of m.table.images) (bodies_in m.table second)) =
      one_answer g (taken_here second m.second_file m.second_read m.kind m.second_order second ps g)
      ∙ ap (found ps) (first_columns_are m.table.images (bodies_in m.table second) m.second_read) in
      let both : u ≡ found ps (map (first_column_of m.table.images) (zs m)) = one_answer r (taken_here file (merged_reads h m) merged_columns m.kind merged_order file ps r) in
      subst (λ (x : Search). Sums x t u) (sym one)
      (subst (λ (x : Search). Sums (found ps (map (first_column_of m.table.images) (bodies_in m.table first))) x u) (sym two)
      (subst (Sums (found ps (map (first_column_of m.table.images) (bodies_in m.table first))) (found ps (map (first_column_of m.table.images) (bodies_in m.table second)))) (sym both)
      (found_adds (first_column_of m.table.images) (bodies_in m.table first) (bodies_in m.table second) ps)))

-- Published: the merged file takes the same positions as each of the two.
pub takes_alike :
    (first second : List ℕ) {file : List ℕ}
    → merged_file first second ≡ done file
    → (ps : List Number)
    → (((s : Search) × (searching first ps ≡ done s)) ↔ ((s : Search) × (searching file ps ≡ done s)))
    × (((s : Search) × (searching second ps ≡ done s)) ↔ ((s : Search) × (searching file ps ≡ done s)))
takes_alike first second {file} h ps = alike h ((merged_exactly first second file).0 h).0 ps

-- Published: for each position the record number on the result is the sum of those on the two files.
pub positions_add :
    (first second : List ℕ) {file : List ℕ}
    → merged_file first second ≡ done file
    → (ps : List Number) {s t u : Search}
    → searching first ps ≡ done s
    → searching second ps ≡ done t
    → searching file ps ≡ done u
    → Sums s t u
positions_add first second {file} h ps f g r = adds h ((merged_exactly first second file).0 h).0 ps f g r
