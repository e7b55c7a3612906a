-- Document 02, (vi): what is merged by the first columns, of two lists that do not fall, meets the four clauses, and no other list does.
-- Assumes nothing.
use Rattle.std.proofs.Common.{◌≡◌, ℕ, zero, suc, ◌+◌, ◌<◌, Bool, true, false, not, List, [], ◌∷◌, length, map, get_or, refl, ap, ap₂, sym, subst, ◌∙◌, arith}
use mathlib.Core.Logic.{⊎_elim}
use Rattle.std.specs.Prelude.{◌↔◌, bytes_eq, cond}
use Rattle.std.specs.declared.cmp.Ordering.{Ordering}
use Rattle.std.specs.declared.cmp.Ordering.TheVariants.{Less, Equal, Greater}
use Rattle.std.proofs.lemmas.List.{get_or-map, length-map}
use Rattle.std.proofs.lemmas.List.Sums.{sum_by-cons}
use Rattle.decimal.specs.declared.number.Number.{Number}
use Rattle.decimal.specs.Number.{zero_number}
use Rattle.decimal.specs.Comparison.{value_order, is_at_most, opposite}
use Rattle.decimal.proofs.ComparisonTheorem.{order_opposite, order_total}
use Rattle.rolls.specs.Falling.{at_most, NeverFall, fall}
use Rattle.rolls.specs.Merging.{Entry, is_from, of_camera, times, first_at, IsMerge, merged, by_first_column}
use Rattle.rolls.proofs.FallLaws.{not_both, at_most_transitive, at_most_itself}
use Rattle.rolls.proofs.FallTheorem.{fall_view, fall_tail, fall_exactly}
use Rattle.records.proofs.FileProofs.JoinedLaws.{Each, each_first, each_others, each_so}
use Rattle.rolls.proofs.MergeLaws.{merged_by, merged_none, none_merged, merged_first, merged_second, merged_each}

-- Two first columns.

-- of two that are equal the second is at most the first
equal_back : (a b : Number) → value_order a b ≡ Equal → at_most b a ≡ true
unfolding at_most
equal_back a b h = ap is_at_most (order_opposite a b ∙ ap opposite h)

-- two of which each is at most the other are equal
equal_said : (a b : Number) → at_most a b ≡ true → at_most b a ≡ true → value_order a b ≡ Equal
unfolding at_most
equal_said a b h g = go (value_order a b) refl
  where
    go : (o : Ordering) → value_order a b ≡ o → value_order a b ≡ Equal
    go Less e = not_both g (ap is_at_most (order_opposite a b ∙ ap opposite e))
    go Equal e = e
    go Greater e = not_both h (ap is_at_most e)

-- where the first is not at most the second, the second is at most the first
pub other_way : (a b : Number) → at_most a b ≡ false → at_most b a ≡ true
unfolding at_most
other_way a b h = ⊎_elim (λ l. not_both l h) (λ l. l) (order_total a b)

-- Entries.

abbrev pub bodies_of : List Entry → List (List ℕ)
bodies_of es = map (λ (e : Entry). e.body) es

-- an entry's camera is this one, or not
is_so : (c : Bool) (e : Entry) → is_from c e ≡ true → e.is_first ≡ c
is_so true e h = h
is_so false e h = go e.is_first h
  where
    go : (b : Bool) → not b ≡ true → b ≡ false
    go true g = sym g
    go false g = refl

is_not : {B : Type 0} (c : Bool) (e : Entry) → is_from c e ≡ false → e.is_first ≡ c → B
is_not true e h g = not_both g h
is_not false e h g = go e.is_first h g
  where
    go : {B : Type 0} (b : Bool) → not b ≡ false → b ≡ false → B
    go true p q = not_both refl q
    go false p q = not_both refl p

-- all of one camera
all_from : Bool → List (List ℕ) → List Entry
all_from c [] = []
all_from c (b ∷ bs) = record { is_first = c; body = b } ∷ all_from c bs

-- their bodies
all_bodies_of : (c : Bool) (bs : List (List ℕ)) → bs ≡ bodies_of (all_from c bs)
unfolding all_from
all_bodies_of c [] = refl
all_bodies_of c (b ∷ bs) = ap (λ (l : List (List ℕ)). b ∷ l) (all_bodies_of c bs)

-- and their cameras
all_first : (bs : List (List ℕ)) → (of_camera true (all_from true bs) ≡ bs) × (of_camera false (all_from true bs) ≡ [])
unfolding all_from of_camera
all_first [] = (refl, refl)
all_first (b ∷ bs) = (ap (λ (l : List (List ℕ)). b ∷ l) (all_first bs).0, (all_first bs).1)

all_second : (bs : List (List ℕ)) → (of_camera true (all_from false bs) ≡ []) × (of_camera false (all_from false bs) ≡ bs)
unfolding all_from of_camera
all_second [] = (refl, refl)
all_second (b ∷ bs) = ((all_second bs).0, ap (λ (l : List (List ℕ)). b ∷ l) (all_second bs).1)

camera_of_all : (c : Bool) (bs : List (List ℕ)) (i : ℕ) → i < length bs → first_at (all_from c bs) i ≡ c
unfolding all_from
camera_of_all c [] i l = absurd (omega arith)
camera_of_all c (b ∷ bs) zero l = refl
camera_of_all c (b ∷ bs) (suc i) l = camera_of_all c bs i (omega arith)

module _ (c : Bool) where
  -- one more entry, of this camera or not
  of_more : (e : Entry) (es : List Entry) → is_from c e ≡ true → of_camera c (e ∷ es) ≡ e.body ∷ of_camera c es
  unfolding of_camera
  of_more e es h = rw h

  of_same : (e : Entry) (es : List Entry) → is_from c e ≡ false → of_camera c (e ∷ es) ≡ of_camera c es
  unfolding of_camera
  of_same e es h = rw h

  of_none : of_camera c [] ≡ []
  unfolding of_camera
  of_none = refl

  -- what each record of a camera has, a record at a place has that is of that camera
  camera_has :
      {P : List ℕ → Type 0} (es : List Entry) (j : ℕ)
      → j < length es → first_at es j ≡ c → Each P (of_camera c es) → P (get_or (bodies_of es) j [])
  camera_has [] j l h a = absurd (omega arith)
  camera_has {P} (e ∷ es) zero l h a = go (is_from c e) refl
    where
      go : (b : Bool) → is_from c e ≡ b → P e.body
      go true k = each_first (subst (Each P) (of_more e es k) a)
      go false k = is_not c e k h
  camera_has {P} (e ∷ es) (suc j) l h a = camera_has es j (omega arith) h (go (is_from c e) refl)
    where
      go : (b : Bool) → is_from c e ≡ b → Each P (of_camera c es)
      go true k = each_others (subst (Each P) (of_more e es k) a)
      go false k = subst (Each P) (of_same e es k) a

  -- where a body stands, and of which camera it is there
  pub record Among (es : List Entry) (b : List ℕ) : Type 0 where
    pub place : ℕ
    pub inside : place < length es
    pub there : get_or (bodies_of es) place [] ≡ b
    pub camera : first_at es place ≡ c

  -- each record of a camera stands among all
  pub camera_stands : (es : List Entry) (r : ℕ) → r < length (of_camera c es) → Among es (get_or (of_camera c es) r [])
  camera_stands [] r l = absurd (omega (arith, ap length of_none))
  camera_stands (e ∷ es) r l = go (is_from c e) refl r l (λ k g. camera_stands es k g)
    where
      later : {b : List ℕ} → Among es b → Among (e ∷ es) b
      later a = let i = a.inside in record { place = suc a.place; inside = omega arith; there = a.there; camera = a.camera }

      go : (t : Bool) → is_from c e ≡ t → (r : ℕ) → r < length (of_camera c (e ∷ es))
          → ((k : ℕ) → k < length (of_camera c es) → Among es (get_or (of_camera c es) k []))
          → Among (e ∷ es) (get_or (of_camera c (e ∷ es)) r [])
      go true k zero l others =
          subst (λ (bs : List (List ℕ)). Among (e ∷ es) (get_or bs 0 [])) (sym (of_more e es k)) (record { place = 0; inside = omega arith; there = refl; camera = is_so c e k })
      go true k (suc r) l others =
          subst (λ (bs : List (List ℕ)). Among (e ∷ es) (get_or bs (suc r) [])) (sym (of_more e es k)) (later (others r (omega (arith, ap length (of_more e es k)))))
      go false k r l others =
          subst (λ (bs : List (List ℕ)). Among (e ∷ es) (get_or bs r [])) (sym (of_same e es k)) (later (others r (omega (arith, ap length (of_same e es k)))))

  -- so does the first
  stands : (es : List Entry) {b : List ℕ} {bs : List (List ℕ)} → of_camera c es ≡ b ∷ bs → Among es b
  stands es h = subst (λ (l : List (List ℕ)). Among es (get_or l 0 [])) h (camera_stands es 0 (omega (arith, ap length h)))

-- a body stands among all as often as among those of both cameras
counted :
    (body : List ℕ) (es : List Entry) → times body (bodies_of es) ≡ times body (of_camera true es) + times body (of_camera false es)
unfolding of_camera
counted body [] = refl
counted body (e ∷ es) = go e.is_first refl (counted body es)
  where
    one : List ℕ → ℕ
    one b = cond (bytes_eq body b) 1 0

    go : (c : Bool) → e.is_first ≡ c
        → times body (bodies_of es) ≡ times body (of_camera true es) + times body (of_camera false es)
        → times body (bodies_of (e ∷ es)) ≡ times body (of_camera true (e ∷ es)) + times body (of_camera false (e ∷ es))
    go true k r =
        rw (of_more true e es k, of_same false e es (ap not k))
        (omega (arith, r, sum_by-cons one e.body (bodies_of es), sum_by-cons one e.body (of_camera true es)))
    go false k r =
        rw (of_same true e es k, of_more false e es (ap not k))
        (omega (arith, r, sum_by-cons one e.body (bodies_of es), sum_by-cons one e.body (of_camera false es)))

module _ (column : List ℕ → Number) where
  abbrev columns : List (List ℕ) → List Number
  columns bs = map column bs

  -- a first column at a place
  first_column_at : (bs : List (List ℕ)) (j : ℕ) → j < length bs → get_or (columns bs) j zero_number ≡ column (get_or bs j [])
  first_column_at bs j l = get_or-map column bs j [] zero_number l

  -- a body's first column is at least another
  abbrev From : Number → List ℕ → Type 0
  From k b = at_most k (column b) ≡ true

  -- so are those of all behind it, where none falls
  all_from_first : (b : List ℕ) (bs : List (List ℕ)) → fall (columns (b ∷ bs)) ≡ false → Each (From (column b)) bs
  all_from_first b [] h = Each.none
  all_from_first b (d ∷ ds) h =
      let v = fall_view (column b) (column d) (columns ds) h in
      Each.more v.0 (each_so (λ x p. at_most_transitive (column b) (column d) (column x) v.0 p) (all_from_first d ds v.1))

  -- and back
  none_falls : (b : List ℕ) (bs : List (List ℕ)) → Each (From (column b)) bs → fall (columns bs) ≡ false → fall (columns (b ∷ bs)) ≡ false
  unfolding fall
  none_falls b [] e h = refl
  none_falls b (d ∷ ds) e h = rw (each_first e) h

  -- on equal first columns the first camera's stand first
  abbrev Ties : List Entry → Type 0
  Ties es =
      (i j : ℕ) → i < j → j < length es
      → value_order (get_or (columns (bodies_of es)) i zero_number) (get_or (columns (bodies_of es)) j zero_number) ≡ Equal
      → first_at es i ≡ false
      → first_at es j ≡ false

  -- as many bodies as entries
  pub entries_count : (es : List Entry) → length (bodies_of es) ≡ length es
  entries_count es = length-map es (λ (e : Entry). e.body)

  -- the first column of an entry
  first_column_of_entry : (es : List Entry) (j : ℕ) → j < length es → get_or (columns (bodies_of es)) j zero_number ≡ column (get_or (bodies_of es) j [])
  first_column_of_entry es j l = first_column_at (bodies_of es) j (omega (arith, entries_count es))

  -- Two lists that do not fall, merged.

  record Labelled (xs ys zs : List (List ℕ)) : Type 0 where
    pub entries : List Entry
    pub whole : zs ≡ bodies_of entries
    pub in_order : fall (columns zs) ≡ false
    pub firsts : of_camera true entries ≡ xs
    pub seconds : of_camera false entries ≡ ys
    pub ties : Ties entries

  -- those of one camera alone
  alone_second : (ys : List (List ℕ)) → fall (columns ys) ≡ false → Labelled [] ys ys
  alone_second ys h =
      record {
        entries = all_from false ys;
        whole = all_bodies_of false ys;
        in_order = h;
        firsts = (all_second ys).0;
        seconds = (all_second ys).1;
        ties = λ i j k l e f. camera_of_all false ys j (omega (arith, l, ap length (all_bodies_of false ys), entries_count (all_from false ys)));
      }

  alone_first : (xs : List (List ℕ)) → fall (columns xs) ≡ false → Labelled xs [] xs
  alone_first xs h =
      record {
        entries = all_from true xs;
        whole = all_bodies_of true xs;
        in_order = h;
        firsts = (all_first xs).0;
        seconds = (all_first xs).1;
        ties =
            λ i j k l e f.
            not_both (camera_of_all true xs i (omega (arith, k, l, ap length (all_bodies_of true xs), entries_count (all_from true xs)))) f;
      }

  -- a record of the first camera before all others
  ties_first : (b : List ℕ) (es : List Entry) → Ties es → Ties (record { is_first = true; body = b } ∷ es)
  ties_first b es t zero j k l e f = not_both refl f
  ties_first b es t (suc i) zero k l e f = absurd (omega arith)
  ties_first b es t (suc i) (suc j) k l e f = t i j (omega arith) (omega arith) e f

  -- one of the second camera, behind which no record of the first has an equal first column
  ties_second :
      (b : List ℕ) (es : List Entry)
      → ((j : ℕ) → j < length es → value_order (column b) (get_or (columns (bodies_of es)) j zero_number) ≡ Equal → first_at es j ≡ false)
      → Ties es
      → Ties (record { is_first = false; body = b } ∷ es)
  ties_second b es n t zero zero k l e f = absurd (omega arith)
  ties_second b es n t zero (suc j) k l e f = n j (omega arith) e
  ties_second b es n t (suc i) zero k l e f = absurd (omega arith)
  ties_second b es n t (suc i) (suc j) k l e f = t i j (omega arith) (omega arith) e f

  -- where all of the first camera are at least a first column that is not at most another, none of them has that other
  no_tie :
      (x y : List ℕ) (es : List Entry) {xs : List (List ℕ)}
      → at_most (column x) (column y) ≡ false
      → of_camera true es ≡ xs
      → Each (From (column x)) xs
      → (j : ℕ) → j < length es
      → value_order (column y) (get_or (columns (bodies_of es)) j zero_number) ≡ Equal
      → first_at es j ≡ false
  no_tie x y es h c a j l e = go (first_at es j) refl
    where
      go : (b : Bool) → first_at es j ≡ b → b ≡ false
      go false k = refl
      go true k =
          let there : Number = get_or (columns (bodies_of es)) j zero_number in
          let above : at_most (column x) there ≡ true =
          ap (at_most (column x)) (first_column_of_entry es j l) ∙ camera_has true {P = From (column x)} es j l k (subst (Each (From (column x))) (sym c) a) in
          not_both (at_most_transitive (column x) there (column y) above (equal_back (column y) there e)) h

  -- the first list's first record goes first
  takes_first :
      (x : List ℕ) (xs : List (List ℕ)) (y : List ℕ) (ys : List (List ℕ))
      → by_first_column column x y ≡ true
      → (fall (columns xs) ≡ false → fall (columns (y ∷ ys)) ≡ false → Labelled xs (y ∷ ys) (merged (by_first_column column) xs (y ∷ ys)))
      → fall (columns (x ∷ xs)) ≡ false
      → fall (columns (y ∷ ys)) ≡ false
      → Labelled (x ∷ xs) (y ∷ ys) (x ∷ merged (by_first_column column) xs (y ∷ ys))
  takes_first x xs y ys h r f g =
      let m = r (fall_tail (column x) (columns xs) f) g in
      let e : Entry = record { is_first = true; body = x } in
      let from_y : Each (From (column x)) (y ∷ ys) =
      Each.more h (each_so (λ b p. at_most_transitive (column x) (column y) (column b) h p) (all_from_first y ys g)) in
      record {
        entries = e ∷ m.entries;
        whole = ap (λ (l : List (List ℕ)). x ∷ l) m.whole;
        in_order = none_falls x (merged (by_first_column column) xs (y ∷ ys)) (merged_each (by_first_column column) xs (y ∷ ys) (all_from_first x xs f) from_y) m.in_order;
        firsts = of_more true e m.entries refl ∙ ap (λ (l : List (List ℕ)). x ∷ l) m.firsts;
        seconds = of_same false e m.entries refl ∙ m.seconds;
        ties = ties_first x m.entries m.ties;
      }

  -- the second's does
  takes_second :
      (x : List ℕ) (xs : List (List ℕ)) (y : List ℕ) (ys : List (List ℕ))
      → by_first_column column x y ≡ false
      → (fall (columns (x ∷ xs)) ≡ false → fall (columns ys) ≡ false → Labelled (x ∷ xs) ys (merged (by_first_column column) (x ∷ xs) ys))
      → fall (columns (x ∷ xs)) ≡ false
      → fall (columns (y ∷ ys)) ≡ false
      → Labelled (x ∷ xs) (y ∷ ys) (y ∷ merged (by_first_column column) (x ∷ xs) ys)
  takes_second x xs y ys h r f g =
      let m = r f (fall_tail (column y) (columns ys) g) in
      let e : Entry = record { is_first = false; body = y } in
      let back : at_most (column y) (column x) ≡ true = other_way (column x) (column y) h in
      let from_x : Each (From (column x)) (x ∷ xs) = Each.more (at_most_itself (column x)) (all_from_first x xs f) in
      let from_y : Each (From (column y)) (x ∷ xs) = each_so (λ b p. at_most_transitive (column y) (column x) (column b) back p) from_x in
      record {
        entries = e ∷ m.entries;
        whole = ap (λ (l : List (List ℕ)). y ∷ l) m.whole;
        in_order = none_falls y (merged (by_first_column column) (x ∷ xs) ys) (merged_each (by_first_column column) (x ∷ xs) ys from_y (all_from_first y ys g)) m.in_order;
        firsts = of_same true e m.entries refl ∙ m.firsts;
        seconds = of_more false e m.entries refl ∙ ap (λ (l : List (List ℕ)). y ∷ l) m.seconds;
        ties = ties_second y m.entries (no_tie x y m.entries h m.firsts from_x) m.ties;
      }

  labelled : (xs ys : List (List ℕ)) → fall (columns xs) ≡ false → fall (columns ys) ≡ false → Labelled xs ys (merged (by_first_column column) xs ys)
  labelled =
      merged_by (by_first_column column) (λ xs ys zs. fall (columns xs) ≡ false → fall (columns ys) ≡ false → Labelled xs ys zs)
      (λ ys f g. alone_second ys g)
      (λ x xs f g. alone_first (x ∷ xs) f)
      takes_first
      takes_second

  -- the four clauses
  clauses : {xs ys zs : List (List ℕ)} → Labelled xs ys zs → IsMerge column xs ys zs
  clauses {xs} {ys} {zs} m =
      record {
        entries = m.entries;
        whole = m.whole;
        in_order = (fall_exactly (columns zs)).0 m.in_order;
        as_often = λ body. ap (times body) m.whole ∙ counted body m.entries ∙ ap₂ (λ (a b : List (List ℕ)). times body a + times body b) m.firsts m.seconds;
        firsts = m.firsts;
        seconds = m.seconds;
        ties =
            subst
            (λ (bs : List (List ℕ)).
            (i j : ℕ) → i < j → j < length bs
            → value_order (get_or (columns bs) i zero_number) (get_or (columns bs) j zero_number) ≡ Equal
            → first_at m.entries i ≡ false
            → first_at m.entries j ≡ false)
            (sym m.whole)
            (λ i j k l. m.ties i j k (omega (arith, l, entries_count m.entries)));
      }

  -- There is only one.

  -- what is merged, by its entries: they are in order, and on equal first columns the first camera's stand first
  one_merge :
      (es : List Entry) → fall (columns (bodies_of es)) ≡ false → Ties es
      → bodies_of es ≡ merged (by_first_column column) (of_camera true es) (of_camera false es)
  one_merge [] h t =
      sym
      (ap₂ (merged (by_first_column column)) (of_none true) (of_none false) ∙ none_merged (by_first_column column) [])
  one_merge (e ∷ es) h t =
      go e.is_first refl (of_camera true es) refl (of_camera false es) refl
      (one_merge es (fall_tail (column e.body) (columns (bodies_of es)) h) (λ i j k l. t (suc i) (suc j) (omega arith) (omega arith)))
    where
      above : (b : List ℕ) {c : Bool} → Among c es b → at_most (column e.body) (column b) ≡ true
      above b a =
          let i = a.inside in
          let n = ((fall_exactly (columns (bodies_of (e ∷ es)))).0 h).in_order 0 (suc a.place) (omega arith) (omega (arith, i, entries_count es, length-map (bodies_of (e ∷ es)) column)) in
          sym (ap (at_most (column e.body)) (first_column_of_entry es a.place i ∙ ap column a.there)) ∙ n

      below : (b : List ℕ) → e.is_first ≡ false → Among true es b → at_most (column b) (column e.body) ≡ false
      below b c a = other (at_most (column b) (column e.body)) refl
        where
          other : (s : Bool) → at_most (column b) (column e.body) ≡ s → at_most (column b) (column e.body) ≡ false
          other false g = g
          other true g =
              let same = equal_said (column e.body) (column b) (above b a) g in
              let i = a.inside in
              not_both a.camera (t 0 (suc a.place) (omega arith) (omega arith) (ap (value_order (column e.body)) (first_column_of_entry es a.place i ∙ ap column a.there) ∙ same) c)

      go : (c : Bool) → e.is_first ≡ c
          → (xs : List (List ℕ)) → of_camera true es ≡ xs
          → (ys : List (List ℕ)) → of_camera false es ≡ ys
          → bodies_of es ≡ merged (by_first_column column) (of_camera true es) (of_camera false es)
          → bodies_of (e ∷ es) ≡ merged (by_first_column column) (of_camera true (e ∷ es)) (of_camera false (e ∷ es))
      go true c xs p [] q r =
          rw (of_more true e es c, of_same false e es (ap not c), q)
          (ap (λ (l : List (List ℕ)). e.body ∷ l)
          (r ∙ ap (merged (by_first_column column) (of_camera true es)) q ∙ merged_none (by_first_column column) (of_camera true es))
          ∙ sym (merged_none (by_first_column column) (e.body ∷ of_camera true es)))
      go true c xs p (y ∷ ys) q r =
          rw (of_more true e es c, of_same false e es (ap not c), q)
          (ap (λ (l : List (List ℕ)). e.body ∷ l) (r ∙ ap (merged (by_first_column column) (of_camera true es)) q)
          ∙ sym (merged_first (by_first_column column) (of_camera true es) ys (above y (stands false es q))))
      go false c [] p ys q r =
          rw (of_same true e es c, of_more false e es (ap not c), p)
          (ap (λ (l : List (List ℕ)). e.body ∷ l)
          (r ∙ ap (λ (l : List (List ℕ)). merged (by_first_column column) l (of_camera false es)) p ∙ none_merged (by_first_column column) (of_camera false es))
          ∙ sym (none_merged (by_first_column column) (e.body ∷ of_camera false es)))
      go false c (x ∷ xs) p ys q r =
          rw (of_same true e es c, of_more false e es (ap not c), p)
          (ap (λ (l : List (List ℕ)). e.body ∷ l) (r ∙ ap (λ (l : List (List ℕ)). merged (by_first_column column) l (of_camera false es)) p)
          ∙ sym (merged_second (by_first_column column) xs (of_camera false es) (below x c (stands true es p))))

  -- so what meets the clauses
  one_list : {xs ys zs : List (List ℕ)} → IsMerge column xs ys zs → zs ≡ merged (by_first_column column) xs ys
  one_list {xs} {ys} {zs} m =
      m.whole
      ∙ one_merge m.entries (ap (λ (bs : List (List ℕ)). fall (columns bs)) (sym m.whole) ∙ (fall_exactly (columns zs)).1 m.in_order)
      (λ i j k l e f. m.ties i j k (omega (arith, l, ap length m.whole, entries_count m.entries)) (ap (λ (bs : List (List ℕ)). value_order (get_or (columns bs) i zero_number) (get_or (columns bs) j zero_number)) m.whole ∙ e) f)
      ∙ ap₂ (merged (by_first_column column)) m.firsts m.seconds

  -- Published: of two lists that do not fall, the one that is computed and no other is merged by the four clauses.
  pub merge_exactly :
      {xs ys : List (List ℕ)} → NeverFall (columns xs) → NeverFall (columns ys) → (zs : List (List ℕ)) → IsMerge column xs ys zs ↔ (zs ≡ merged (by_first_column column) xs ys)
  merge_exactly {xs} {ys} f g zs =
      (one_list, λ e. subst (IsMerge column xs ys) (sym e) (clauses (labelled xs ys ((fall_exactly (columns xs)).1 f) ((fall_exactly (columns ys)).1 g))))
