-- Laws of contents: what reading one tells. Assumes nothing.
use Prim.Native.Nat.{ℕ, zero, suc, ◌+◌, ◌-◌, ◌*◌, ◌<◌, ◌≤◌}
use mathlib.Core.Path.{◌≡◌, refl, ap, ap₂, sym, subst, ◌∙◌}
use mathlib.Core.Bool.{Bool, true, false, ◌&&◌}
use mathlib.Core.List.{List, [], ◌∷◌, ◌++◌, append_assoc, append-nil}
use native.Mathlib.Omega.{arith}
use native.Mathlib.Numerals.{add-one}
use lib.ListN.{length, take, drop, get_or, length-append, length-drop}
use lib.Dec.{ltb, leb, eqb}
use borrow.Author.Tests.{le-ltb, ltb-false, leb-true, le-leb, eqb-true, eq-eqb, ne_eqb}
use Rattle.decimal.specs.declared.image.Sign.{Sign}
use Rattle.decimal.specs.declared.image.Sign.TheVariants.{Unsigned, Plus, Minus}
use Rattle.decimal.specs.declared.image.Image.{Image}
use Rattle.decimal.specs.Answer.{Answer, done, refused, ◌then◌, pick}
use Rattle.decimal.specs.Image.{read_image}
use Rattle.decimal.proofs.BoolLaws.{and_true}
use Rattle.decimal.proofs.ImageLaws.{read_done}
use Rattle.decimal.proofs.AnswerLaws.{never_done, done_same, then_done}
use Rattle.codec.specs.Lists.{max_columns}
use Rattle.codec.specs.Columns.{sign_count, exponent_count, half_count, pad_count, column_size, body_size, Checked, AllChecked, none, more, Sound}
use Rattle.codec.specs.Contents.{Table, read_column, column_length, read_columns, columns_length, read_contents, read_alone, check_count}

-- the image of each column is one of 1 to 13 # signs
pub checked_at : {ims : List Image} → AllChecked ims → (i : ℕ) (d : Image) → i < length ims → Checked (get_or ims i d)
checked_at none i d h = absurd (omega arith)
checked_at (more c cs) zero d h = c
checked_at (more c cs) (suc i) d h = checked_at cs i d (omega arith)

-- a column that is read has such an image
pub column_checked : (place : ℕ) (bytes : List ℕ) {im : Image} → read_column place bytes ≡ done im → Checked im
unfolding read_column
column_checked place [] h = never_done h
column_checked place (n ∷ bytes) {im} h = go (ltb (length bytes) n) h
  where
    go : (b : Bool) → pick b (refused 11 0) (read_image place (take n bytes)) ≡ done im → Checked im
    go true e = never_done e
    go false e = let r = read_done place (take n bytes) im e in record { nonempty = r.0.nonempty; fits = r.1 }

module _ (column n : ℕ) (bytes : List ℕ) where
  -- the image of a column that is all there is read
  pub column_read : n ≤ length bytes → read_column column (n ∷ bytes) ≡ read_image column (take n bytes)
  unfolding read_column
  column_read h = rw (le-ltb (length bytes) n h)

-- columns that are read have such images, as many as there are columns
pub columns_checked : (left place : ℕ) (bytes : List ℕ) {ims : List Image} → read_columns left place bytes ≡ done ims → AllChecked ims × (length ims ≡ left)
unfolding read_columns
columns_checked zero place bytes {ims} h =
    let same : [] ≡ ims = cc in
    subst (λ (l : List Image). AllChecked l × (length l ≡ 0)) same (none, refl)
columns_checked (suc left) place bytes {ims} h =
    let b =
    then_done (read_column place bytes)
    (λ (im : Image). read_columns left (suc place) (drop (column_length bytes) bytes) then λ (rest : List Image). done (im ∷ rest)) h in
    let c = then_done (read_columns left (suc place) (drop (column_length bytes) bytes)) (λ (rest : List Image). done (b.value ∷ rest)) b.second in
    let d = columns_checked left (suc place) (drop (column_length bytes) bytes) c.first in
    let last : ◌≡◌ {A = Answer (List Image)} (done (b.value ∷ c.value)) (done ims) = c.second in
    let same : b.value ∷ c.value ≡ ims = cc in
    subst (λ (l : List Image). AllChecked l × (length l ≡ suc left)) same
    (more (column_checked place bytes b.first) d.0, ap suc d.1)

-- a contents that is read is sound
pub contents_sound : (bytes : List ℕ) {table : Table} → read_contents bytes ≡ done table → Sound table.images
unfolding read_contents
contents_sound [] h = never_done h
contents_sound (count ∷ bytes) {table} h = go (leb 1 count && leb count max_columns) refl h
  where
    made : List Image → Answer Table
    made ims = done (record { images = ims; size = suc (columns_length count bytes) })

    go : (b : Bool) → (leb 1 count && leb count max_columns) ≡ b → pick b (read_columns count 0 bytes then made) (refused 10 0) ≡ done table → Sound table.images
    go true t e =
        let both = and_true (leb 1 count) (leb count max_columns) t in
        let low = leb-true 1 count both.0 in
        let high = leb-true count max_columns both.1 in
        let b = then_done (read_columns count 0 bytes) made e in
        let told : ◌≡◌ {A = Answer Table} (done (record { images = b.value; size = suc (columns_length count bytes) })) (done table) = b.second in
        let same : ◌≡◌ {A = Table} (record { images = b.value; size = suc (columns_length count bytes) }) table = cc in
        let d = columns_checked count 0 bytes b.first in
        subst (λ (t : Table). Sound t.images) same
        (record { all = d.0; low = omega (arith, d.1); high = omega (arith, d.1) })
    go false t e = never_done e

-- a contents lent alone is read, and goes to the end of the bytes
pub alone_told : (bytes : List ℕ) {table : Table} → read_alone bytes ≡ done table → (read_contents bytes ≡ done table) × (table.size ≡ length bytes)
unfolding read_alone
alone_told bytes {table} h =
    let b = then_done (read_contents bytes) (λ (t : Table). pick (eqb t.size (length bytes)) (done t) (refused 11 0)) h in
    go b.value (eqb b.value.size (length bytes)) refl b.first b.second
  where
    go :
        (t : Table) (k : Bool)
        → eqb t.size (length bytes) ≡ k
        → read_contents bytes ≡ done t
        → pick k (done t) (refused 11 0) ≡ done table
        → (read_contents bytes ≡ done table) × (table.size ≡ length bytes)
    go t true same reads e =
        let this : t ≡ table = done_same e in
        (reads ∙ e, ap (λ (x : Table). x.size) (sym this) ∙ eqb-true t.size (length bytes) same)
    go t false same reads e = never_done e

-- so it is sound too
pub alone_sound : (bytes : List ℕ) {table : Table} → read_alone bytes ≡ done table → Sound table.images
alone_sound bytes h = contents_sound bytes (alone_told bytes h).0

-- a contents that is read has such images
pub alone_checked : (bytes : List ℕ) {table : Table} → read_alone bytes ≡ done table → AllChecked table.images
alone_checked bytes h = (alone_sound bytes h).all

-- and 1 to 16 of them
pub alone_count : (bytes : List ℕ) {table : Table} → read_alone bytes ≡ done table → (1 ≤ length table.images) × (length table.images ≤ max_columns)
alone_count bytes h = let s = alone_sound bytes h in (s.low, s.high)

module _ (bytes : List ℕ) where
  -- a contents that is refused is refused alone
  pub alone_first : {number place : ℕ} → read_contents bytes ≡ refused number place → read_alone bytes ≡ refused number place
  unfolding read_alone ◌then◌
  alone_first h = rw h

  -- one that fills the bytes is the same alone
  pub alone_same : {table : Table} → read_contents bytes ≡ done table → table.size ≡ length bytes → read_alone bytes ≡ done table
  unfolding read_alone ◌then◌
  alone_same {table} h l = rw (h, eq-eqb table.size (length bytes) l)

  -- one that does not is refused alone
  pub alone_more : {table : Table} → read_contents bytes ≡ done table → (table.size ≡ length bytes → ⊥) → read_alone bytes ≡ refused 11 0
  unfolding read_alone ◌then◌
  alone_more {table} h l = rw (h, ne_eqb table.size (length bytes) l)

-- a column's halves fill its bytes
pub column_halves_lem : (im : Image) → column_size im + column_size im ≡ half_count im + pad_count im
unfolding column_size
column_halves_lem im = omega arith

-- the sign takes at most one half
pub sign_few : (s : Sign) → sign_count s ≤ 1
sign_few Unsigned = omega arith
sign_few Plus = omega arith
sign_few Minus = omega arith

-- and the exponent at most two
pub exponent_few : (b : Bool) → exponent_count b ≤ 2
exponent_few true = omega arith
exponent_few false = omega arith

-- a column has 1 to 9 bytes
pub column_some : {im : Image} → Checked im → 0 < column_size im
unfolding column_size
column_some {im} checked = omega (arith, checked.nonempty)

pub column_few : {im : Image} → Checked im → column_size im ≤ 9
unfolding column_size
column_few {im} checked = omega (arith, checked.fits, sign_few im.sign, exponent_few im.exponential)

-- a body under one column more
body_more : (ims : List Image) (im : Image) → body_size (ims ++ im ∷ []) ≡ body_size ims + column_size im
unfolding body_size
body_more [] im = omega arith
body_more (j ∷ ims) im = omega (arith, body_more ims im)

-- a column that is read ends within the bytes
pub column_inside : (column : ℕ) (bytes : List ℕ) {im : Image} → read_column column bytes ≡ done im → column_length bytes ≤ length bytes
unfolding read_column column_length
column_inside column [] h = omega arith
column_inside column (n ∷ bytes) {im} h = go (ltb (length bytes) n) refl h
  where
    go : (b : Bool) → ltb (length bytes) n ≡ b → pick b (refused 11 0) (read_image column (take n bytes)) ≡ done im → suc n ≤ suc (length bytes)
    go true t e = never_done e
    go false t e = let l = ltb-false (length bytes) n t in omega arith

-- images put in front of those that an answer has
unfoldable pub in_front : List Image → Answer (List Image) → Answer (List Image)
in_front ims (done rest) = done (ims ++ rest)
in_front ims (refused number place) = refused number place

-- none in front
front_none : (a : Answer (List Image)) → in_front [] a ≡ a
unfolding in_front
front_none (done rest) = refl
front_none (refused x y) = refl

-- the first of the columns left is read
columns_turn :
    (left column : ℕ) (bytes : List ℕ) (ims : List Image) {im : Image}
    → read_column column bytes ≡ done im
    → in_front ims (read_columns (suc left) column bytes) ≡ in_front (ims ++ im ∷ []) (read_columns left (suc column) (drop (column_length bytes) bytes))
unfolding read_columns in_front ◌then◌
columns_turn left column bytes ims {im} h = rw h (go (read_columns left (suc column) (drop (column_length bytes) bytes)))
  where
    go : (a : Answer (List Image)) → in_front ims (a then λ rest. done (im ∷ rest)) ≡ in_front (ims ++ im ∷ []) a
    go (done rest) = ap {B = Answer (List Image)} done (sym (append_assoc ims (im ∷ []) rest))
    go (refused x y) = refl

-- or refused
columns_refused :
    (left column : ℕ) (bytes : List ℕ) (ims : List Image) {number place : ℕ}
    → read_column column bytes ≡ refused number place
    → in_front ims (read_columns (suc left) column bytes) ≡ refused number place
unfolding read_columns in_front ◌then◌
columns_refused left column bytes ims h = rw h

-- The loop that reads the columns: the images read, with those that the rest gives behind them, are those of the whole.
pub record Reading (bytes : List ℕ) (count : ℕ) (ims : List Image) (body : ℕ) (rest : List ℕ) (column : ℕ) : Type 0 where
  pub as_many : length ims ≡ column
  pub size : body ≡ body_size ims
  pub few : body ≤ 9 * column
  pub left : in_front ims (read_columns (count - column) column rest) ≡ read_columns count 0 bytes
  pub lengths : length rest + columns_length count bytes ≡ length bytes + columns_length (count - column) rest

-- before the first column
pub reading_starts : (bytes : List ℕ) (count : ℕ) → Reading bytes count [] 0 bytes 0
unfolding body_size
reading_starts bytes count =
    let all : count - 0 ≡ count = omega arith in
    record {
      as_many = refl;
      size = refl;
      few = omega arith;
      left = front_none _ ∙ ap (λ (k : ℕ). read_columns k 0 bytes) all;
      lengths = ap (λ (k : ℕ). length bytes + columns_length k bytes) (sym all);
    }

module _ {bytes : List ℕ} {count : ℕ} {ims : List Image} {body : ℕ} {rest : List ℕ} {column : ℕ} (r : Reading bytes count ims body rest column) where
  -- one column further
  pub reading_turns :
      {im : Image} {images : List Image} {behind : List ℕ} {size : ℕ}
      → column < count
      → read_column column rest ≡ done im
      → images ≡ ims ++ im ∷ []
      → behind ≡ drop (column_length rest) rest
      → size ≡ column_size im
      → Reading bytes count images (body + size) behind (column + 1)
  unfolding columns_length
  reading_turns {im} {images} {behind} {size} h e pushed dropped z =
      let left-now : count - column ≡ suc (count - (column + 1)) = omega arith in
      let left-then = count - (column + 1) in
      let step : columns_length (count - column) rest ≡ column_length rest + columns_length left-then behind =
      ap (λ (k : ℕ). columns_length k rest) left-now ∙ ap (λ (k : List ℕ). column_length rest + columns_length left-then k) (sym dropped) in
      let some = column_few (column_checked column rest e) in
      rw pushed
      (record {
        as_many = length-append ims (im ∷ []) ∙ ap (λ (k : ℕ). k + 1) r.as_many;
        size = omega (arith, r.size, body_more ims im);
        few = omega (arith, r.few);
        left =
            ap (λ (k : ℕ). in_front (ims ++ im ∷ []) (read_columns left-then k behind)) (add-one column)
            ∙ ap (λ (k : List ℕ). in_front (ims ++ im ∷ []) (read_columns left-then (suc column) k)) dropped
            ∙ sym (columns_turn left-then column rest ims e)
            ∙ ap (λ (k : ℕ). in_front ims (read_columns k column rest)) (sym left-now)
            ∙ r.left;
        lengths = omega (arith, step, r.lengths, column_inside column rest e, ap length dropped, length-drop (column_length rest) rest);
      })

  -- a column is refused
  pub reading_refused :
      {number place : ℕ} → column < count → read_column column rest ≡ refused number place → read_columns count 0 bytes ≡ refused number place
  reading_refused h e =
      let left-now : count - column ≡ suc (count - (column + 1)) = omega arith in
      sym r.left
      ∙ ap (λ (k : ℕ). in_front ims (read_columns k column rest)) left-now
      ∙ columns_refused (count - (column + 1)) column rest ims e

  module _ (end : count ≤ column) where
    -- behind the last column
    pub reading_ends : read_columns count 0 bytes ≡ done ims
    unfolding read_columns in_front
    reading_ends =
        let none_left : count - column ≡ 0 = omega arith in
        sym r.left
        ∙ ap (λ (k : ℕ). in_front ims (read_columns k column rest)) none_left
        ∙ ap {B = Answer (List Image)} done (append-nil ims)

    -- what is left and the length of the contents are the whole
    pub reading_length : length rest + columns_length count bytes ≡ length bytes
    unfolding columns_length
    reading_length =
        let none_left : count - column ≡ 0 = omega arith in
        let none-long : columns_length (count - column) rest ≡ 0 = ap (λ (k : ℕ). columns_length k rest) none_left in
        omega (arith, r.lengths)

-- a count that can be is 1 to 16
pub count_within : (count : ℕ) → done tt ≡ check_count count → (1 ≤ count) × (count ≤ max_columns)
unfolding check_count
count_within count h = go (leb 1 count && leb count max_columns) refl h
  where
    go : (b : Bool) → (leb 1 count && leb count max_columns) ≡ b → ◌≡◌ {A = Answer (Unit {0})} (done tt) (pick b (done tt) (refused 10 0)) → (1 ≤ count) × (count ≤ max_columns)
    go true t e = let both = and_true (leb 1 count) (leb count max_columns) t in (leb-true 1 count both.0, leb-true count max_columns both.1)
    go false t e = never_done (sym e)

-- one that cannot be is refused ahead of what follows
pub count_refused :
    {A : Type 0} (count : ℕ) (behind : Answer A) {number place : ℕ}
    → refused number place ≡ check_count count
    → pick (leb 1 count && leb count max_columns) behind (refused 10 0) ≡ refused number place
unfolding check_count
count_refused {A} count behind {number} {place} h = go (leb 1 count && leb count max_columns) h
  where
    go : (b : Bool) → ◌≡◌ {A = Answer (Unit {0})} (refused number place) (pick b (done tt) (refused 10 0)) → pick b behind (refused 10 0) ≡ refused number place
    go true e = never_done e
    go false e = let same_number : 10 ≡ number = cc in let same_place : 0 ≡ place = cc in ap₂ refused same_number same_place

module _ (count : ℕ) (bytes : List ℕ) where
  -- the count decides first
  pub contents_counted : {number place : ℕ} → refused number place ≡ check_count count → read_contents (count ∷ bytes) ≡ refused number place
  unfolding read_contents
  contents_counted h = count_refused count _ h

  module _ (low : 1 ≤ count) (high : count ≤ max_columns) where
    -- then the columns do
    contents_read :
        {ims : List Image} → read_columns count 0 bytes ≡ done ims → read_contents (count ∷ bytes) ≡ done (record { images = ims; size = suc (columns_length count bytes) })
    unfolding read_contents ◌then◌
    contents_read h = rw (le-leb 1 count low, le-leb count max_columns high, h)

    -- with their refusal too
    pub contents_stopped : {number place : ℕ} → read_columns count 0 bytes ≡ refused number place → read_contents (count ∷ bytes) ≡ refused number place
    unfolding read_contents ◌then◌
    contents_stopped h = rw (le-leb 1 count low, le-leb count max_columns high, h)

    -- what the loop has read is the contents
    pub contents_made :
        {ims : List Image} {body column size : ℕ} {rest : List ℕ}
        → Reading bytes count ims body rest column
        → count ≤ column
        → size + length rest ≡ suc (length bytes)
        → read_contents (count ∷ bytes) ≡ done (record { images = ims; size = size })
    contents_made {ims} {body} {column} {size} {rest} r h fills =
        let same : suc (columns_length count bytes) ≡ size = omega (arith, reading_length r h, fills) in
        contents_read (reading_ends r h) ∙ λ i. done (record { images = ims; size = same i })
