-- Laws of reading a body back: the digits of a column as one whole number, its parts, and the columns from the left. Assumes nothing.
use Prim.Native.Nat.{ℕ, suc, ◌+◌, ◌*◌, ◌^◌, ◌<◌, ◌≤◌}
use mathlib.Core.Path.{◌≡◌, refl, ap, sym, ◌∙◌}
use mathlib.Core.List.{List, [], ◌∷◌, ◌++◌, append-nil}
use mathlib.Core.Bool.{Bool, true, false, ◌&&◌}
use native.Mathlib.Numerals.{add-one}
use native.Mathlib.Omega.{arith}
use borrow.Author.Tests.{ltb-true, eq-eqb, ne_eqb}
use lib.Dec.{ltb}
use lib.ListN.{length, take, drop, get_or, length-append, length-drop, drop_of_length-le}
use lib.Seq.{drop-cons, append_snoc}
use Rattle.decimal.specs.declared.image.Image.{Image}
use Rattle.decimal.specs.declared.number.Number.{Number}
use Rattle.decimal.specs.Answer.{Answer, done, refused, ◌then◌, pick, checked_only, given, mapped}
use Rattle.decimal.specs.Digits.{value_of, Digits}
use Rattle.decimal.proofs.BoolLaws.{and_true}
use Rattle.decimal.proofs.PowerLaws.{times_ten}
use Rattle.decimal.proofs.AnswerLaws.{never_done, then_same, mapped_back, mapped_refused_back}
use Rattle.decimal.proofs.KeptLaws.{checked_refused}
use Rattle.codec.specs.Columns.{column_size, body_size}
use Rattle.codec.specs.Unpacking.{all_digits, unpack_column, unpack_columns, unpack_body, read_on}

-- Runs of digits.

-- halves that the test takes for digits are digits
pub all_digits_lem : (ds : List ℕ) → all_digits ds ≡ true → Digits ds
unfolding all_digits Digits
all_digits_lem [] h = tt
all_digits_lem (d ∷ ds) h = let both = and_true (ltb d 10) (all_digits ds) h in (ltb-true d 10 both.0, all_digits_lem ds both.1)

-- conjunctions in two groups
and_assoc : (a b c : Bool) → (a && (b && c)) ≡ ((a && b) && c)
and_assoc true b c = refl
and_assoc false b c = refl

-- digits in two parts
pub all_append : (xs ys : List ℕ) → all_digits (xs ++ ys) ≡ (all_digits xs && all_digits ys)
unfolding all_digits
all_append [] ys = refl
all_append (x ∷ xs) ys = ap (λ (b : Bool). ltb x 10 && b) (all_append xs ys) ∙ and_assoc (ltb x 10) (all_digits xs) (all_digits ys)

-- what halves are read to: their value behind the start, where all are digits
pub read_all : (v : ℕ) (ds : List ℕ) → read_on v ds ≡ pick (all_digits ds) (done (v * 10 ^ length ds + value_of ds)) (refused 7 0)
unfolding read_on all_digits value_of
read_all v [] = ap {B = Answer ℕ} done (omega arith)
read_all v (d ∷ ds) = go (ltb d 10) refl (read_all (v * 10 + d) ds)
  where
    go : (b : Bool) → ltb d 10 ≡ b
        → read_on (v * 10 + d) ds ≡ pick (all_digits ds) (done ((v * 10 + d) * 10 ^ length ds + value_of ds)) (refused 7 0)
        → read_on v (d ∷ ds) ≡ pick (all_digits (d ∷ ds)) (done (v * 10 ^ length (d ∷ ds) + value_of (d ∷ ds))) (refused 7 0)
    go true p rest =
        let same : (v * 10 + d) * 10 ^ length ds + value_of ds ≡ v * 10 ^ suc (length ds) + (d * 10 ^ length ds + value_of ds) =
        omega (arith, times_ten v (length ds)) in
        rw p (rest ∙ ap (λ (k : ℕ). pick {A = Answer ℕ} (all_digits ds) (done k) (refused 7 0)) same)
    go false p rest = rw p

-- halves that are read as a whole number are digits, and it is their value
pub read_value : (ds : List ℕ) {v : ℕ} → read_on 0 ds ≡ done v → (all_digits ds ≡ true) × (v ≡ value_of ds)
read_value ds {v} h = go (all_digits ds) refl
  where
    go : (b : Bool) → all_digits ds ≡ b → (all_digits ds ≡ true) × (v ≡ value_of ds)
    go true p =
        let same : done v ≡ done (0 * 10 ^ length ds + value_of ds) = sym h ∙ read_all 0 ds ∙ rw p in
        let values : v ≡ 0 * 10 ^ length ds + value_of ds = cc in
        (p, omega arith)
    go false p =
        let other : done v ≡ refused 7 0 = sym h ∙ read_all 0 ds ∙ rw p in
        let z : ◌≡◌ {A = ℕ} 0 1 = cc in
        absurd (omega arith)

-- halves that are not have one that is no digit
pub read_none : (ds : List ℕ) → read_on 0 ds ≡ refused 7 0 → all_digits ds ≡ false
read_none ds h = go (all_digits ds) refl
  where
    go : (b : Bool) → all_digits ds ≡ b → all_digits ds ≡ false
    go true p =
        let other : ◌≡◌ {A = Answer ℕ} (done (0 * 10 ^ length ds + value_of ds)) (refused 7 0) = sym (read_all 0 ds ∙ rw p) ∙ h in
        let z : ◌≡◌ {A = ℕ} 0 1 = cc in
        absurd (omega arith)
    go false p = p

-- The columns, from the left.

-- one number more before those that follow
then_twice :
    (a : Answer (List Number)) (ns : List Number) (n : Number)
    → ((a then λ (rest : List Number). done (n ∷ rest)) then λ (rest : List Number). done (ns ++ rest))
    ≡ (a then λ (rest : List Number). done ((ns ++ (n ∷ [])) ++ rest))
unfolding ◌then◌
then_twice (done rest) ns n = ap {B = Answer (List Number)} done (sym (append_snoc ns n rest))
then_twice (refused number place) ns n = refl

-- so many columns are read: with the numbers of the columns that are left theirs are the whole
pub record Unpacking (ims : List Image) (body : List ℕ) (numbers : List Number) (behind : List ℕ) (column : ℕ) : Type 0 where
  pub counted : length numbers ≡ column
  pub left : length behind ≡ body_size (drop column ims)
  pub rest : unpack_columns 0 ims body ≡ (unpack_columns column (drop column ims) behind then λ (ns : List Number). done (numbers ++ ns))

-- before the first column
pub columns_start : (ims : List Image) (body : List ℕ) → length body ≡ body_size ims → Unpacking ims body [] body 0
columns_start ims body sized =
    record {
      counted = refl;
      left = sized;
      rest = sym (then_same (unpack_columns 0 ims body));
    }

module _ {ims : List Image} {body : List ℕ} {numbers : List Number} {behind : List ℕ} {column : ℕ} (u : Unpacking ims body numbers behind column)
    (d : Image) (more : column < length ims) where
  -- the next column's image
  abbrev im : Image
  im = get_or ims column d

  -- the next column stands before those that are left
  next_column : drop column ims ≡ im ∷ drop (suc column) ims
  next_column = drop-cons ims column d more

  -- its size is part of what is left
  columns_left : body_size (drop column ims) ≡ column_size im + body_size (drop (suc column) ims)
  unfolding body_size
  columns_left = ap body_size next_column

  -- the next column is inside what is left
  pub column_inside : column_size im ≤ length behind
  column_inside = omega (arith, columns_left, u.left)

  -- and its number comes first
  columns_rest :
      unpack_columns column (drop column ims) behind
      ≡ (unpack_column column im (take (column_size im) behind) then λ (n : Number).
      (unpack_columns (suc column) (drop (suc column) ims) (drop (column_size im) behind) then λ (ns : List Number). done (n ∷ ns)))
  unfolding unpack_columns
  columns_rest = ap (λ (l : List Image). unpack_columns column l behind) next_column

  module _ {size : ℕ} (sized : size ≡ column_size im) where
    -- the part of the body that the code takes off
    same_part : unpack_column column im (take (column_size im) behind) ≡ unpack_column column im (take size behind)
    same_part = ap (λ (k : ℕ). unpack_column column im (take k behind)) (sym sized)

    -- a column that is refused
    pub columns_refused :
        {number place : ℕ} → unpack_column column im (take size behind) ≡ refused number place → unpack_columns 0 ims body ≡ refused number place
    unfolding ◌then◌
    columns_refused h = u.rest ∙ rw (columns_rest, same_part ∙ h)

    -- a column that is read
    pub columns_turn :
        {n : Number} {after : List Number}
        → unpack_column column im (take size behind) ≡ done n
        → after ≡ numbers ++ (n ∷ [])
        → Unpacking ims body after (drop size behind) (column + 1)
    unfolding ◌then◌
    columns_turn {n} h pushed =
        rw (sized, pushed)
        (record {
          counted = omega (arith, length-append numbers (n ∷ []), u.counted);
          left = rw (add-one column) (omega (arith, columns_left, u.left, length-drop (column_size im) behind));
          rest =
              u.rest
              ∙ rw (columns_rest, same_part ∙ h, add-one column)
              (then_twice (unpack_columns (suc column) (drop (suc column) ims) (drop (column_size im) behind)) numbers n);
        })

-- behind the last column
pub columns_end :
    {ims : List Image} {body : List ℕ} {numbers : List Number} {behind : List ℕ} {column : ℕ}
    → Unpacking ims body numbers behind column
    → length ims ≤ column
    → unpack_columns 0 ims body ≡ done numbers
unfolding unpack_columns ◌then◌
columns_end {ims} {body} {numbers} u h =
    u.rest ∙ rw (drop_of_length-le ims h) (ap {B = Answer (List Number)} done (append-nil numbers))

-- The columns, checked: there are numbers that those that were read stand for.
pub record CheckingColumns (ims : List Image) (body behind : List ℕ) (column : ℕ) : Type 0 where
  pub numbers : List Number
  pub unpacks : Unpacking ims body numbers behind column

-- before the first column
pub checking_start : (ims : List Image) (body : List ℕ) → length body ≡ body_size ims → CheckingColumns ims body body 0
checking_start ims body sized = record { numbers = []; unpacks = columns_start ims body sized }

module _ {ims : List Image} {body behind : List ℕ} {column : ℕ} (k : CheckingColumns ims body behind column) (d : Image)
    (more : column < length ims) where
  -- the next column is inside what is left
  pub checking_inside : column_size (get_or ims column d) ≤ length behind
  checking_inside = column_inside k.unpacks d more

  module _ {B : Type 0} (f : Number → B) {size : ℕ} {bytes : List ℕ} (sized : size ≡ column_size (get_or ims column d)) (part : bytes ≡ take size behind) where
    -- a column that is read
    pub checking_turn :
        {y : B} → done y ≡ mapped f (unpack_column column (get_or ims column d) bytes) → CheckingColumns ims body (drop size behind) (column + 1)
    checking_turn h =
        let back = mapped_back f (unpack_column column (get_or ims column d) bytes) h in
        record {
          numbers = k.numbers ++ (back.0 ∷ []);
          unpacks = columns_turn k.unpacks d more sized (ap (unpack_column column (get_or ims column d)) (sym part) ∙ back.1) refl;
        }

    -- a column that is refused
    pub checking_refused :
        {number place : ℕ} → refused number place ≡ mapped f (unpack_column column (get_or ims column d) bytes) → unpack_columns 0 ims body ≡ refused number place
    checking_refused h =
        columns_refused k.unpacks d more sized
        (ap (unpack_column column (get_or ims column d)) (sym part) ∙ mapped_refused_back f (unpack_column column (get_or ims column d) bytes) h)

-- A body under a contents, and under images.

module _ (ims : List Image) (body : List ℕ) where
  -- a body of another length
  pub under_other : (length body ≡ body_size ims → ⊥) → unpack_body ims body ≡ refused 11 0
  unfolding unpack_body
  under_other other = rw (ne_eqb (length body) (body_size ims) other)

  -- a body of its length
  pub under_columns : length body ≡ body_size ims → unpack_body ims body ≡ unpack_columns 0 ims body
  unfolding unpack_body
  under_columns same = rw (eq-eqb (length body) (body_size ims) same)

-- An answer by its check and what it gives.

-- one that is done gives it
pub given_done : {A : Type 0} {a : Answer (List A)} → done tt ≡ checked_only a → a ≡ done (given a)
unfolding checked_only given
given_done {a = done xs} h = refl
given_done {a = refused x y} h = never_done (sym h)

-- one that is refused is refused so
pub given_refused : {A : Type 0} {a : Answer (List A)} {number place : ℕ} → refused number place ≡ checked_only a → a ≡ refused number place
given_refused {a} h = checked_refused a (sym h)
