-- Demand 2, "a body is accepted exactly when some list of numbers packs to it", and demand 3 as far as bodies go: a body is read back as
-- the truncations of the list that packs to it. Assumes nothing.
use Prim.Native.Nat.{ℕ, zero, suc, ◌+◌, ◌≤◌}
use mathlib.Core.Path.{◌≡◌, refl, ap, ap₂, sym, ◌∙◌, subst, subst⁻¹}
use mathlib.Core.Bool.{Bool, true, false, not}
use mathlib.Core.List.{List, [], ◌∷◌, ◌++◌}
use mathlib.Core.Logic.{◌↔◌}
use native.Mathlib.Omega.{arith}
use native.Mathlib.Nat.{suc_inj}
use lib.Dec.{eqb}
use lib.ListN.{length, take, drop, get_or, take-append-drop, length-append, length-drop}
use lib.Seq.{take_at, drop_at, length-take-le}
use borrow.Author.Tests.{eq-eqb, eqb-true}
use Rattle.decimal.specs.declared.image.Image.{Image}
use Rattle.decimal.specs.declared.number.Number.{Number}
use Rattle.decimal.specs.Answer.{Answer, done, refused, ◌then◌, pick}
use Rattle.decimal.specs.Digits.{value_of}
use Rattle.decimal.specs.Number.{exponent_limit, zero_number, normal}
use Rattle.decimal.specs.Truncation.{Truncated, packed_truncation, number_of}
use Rattle.decimal.proofs.NumberLaws.{zero_normal}
use Rattle.decimal.proofs.MagnitudeLaws.{scaled_normal}
use Rattle.decimal.proofs.AnswerLaws.{never_done, done_same, then_done, then_both}
use Rattle.codec.specs.Lists.{any_of}
use Rattle.codec.specs.Halves.{halves_of}
use Rattle.codec.specs.Columns.{AllChecked, column_size, body_size}
use Rattle.codec.specs.Contents.{Table, read_alone}
use Rattle.codec.specs.Packing.{column_bytes, pack_columns, pack_list, body_of}
use Rattle.codec.specs.Unpacking.{all_digits, all_zero, sign_part, digit_part, exponent_part, pad_part, said_by, breaks_rules, as_half, parts_number}
use Rattle.codec.specs.Unpacking.{halves_number, unpack_column, unpack_columns, unpack_body, unpacking}
use Rattle.codec.specs.Order.{Truncations, Bytes}
use Rattle.codec.proofs.BodyLaws.{pack_view}
use Rattle.codec.proofs.ContentsLaws.{alone_checked}
use Rattle.codec.proofs.HalfLaws.{column_length_lem}
use Rattle.codec.proofs.ColumnTheorem.{column_accepts, ColumnBack, column_round}

-- Answers in order.

-- a test that was passed
pick_view : {A : Type 0} (t : Bool) (a : Answer A) (number place : ℕ) {b : A} → pick t a (refused number place) ≡ done b → (t ≡ true) × (a ≡ done b)
pick_view true a number place h = (refl, h)
pick_view false a number place {b} h = never_done h

-- and one that refused nothing
unless_view : {A : Type 0} (t : Bool) (a : Answer A) (number place : ℕ) {b : A} → pick t (refused number place) a ≡ done b → a ≡ done b
unless_view true a number place h = never_done h
unless_view false a number place h = h

-- Columns.

-- one column more is packed
pack_step :
    (column : ℕ) (im : Image) (ims : List Image) (n : Number) (ns : List Number) {t : Truncated} {rest : List ℕ}
    → packed_truncation column im n ≡ done t
    → pack_columns (suc column) ims ns ≡ done rest
    → pack_columns column (im ∷ ims) (n ∷ ns) ≡ done (column_bytes im t ++ rest)
unfolding pack_columns ◌then◌
pack_step column im ims n ns p q = rw (p, q)

-- one column more is read
unpack_step :
    (column : ℕ) (im : Image) (ims : List Image) (bytes : List ℕ) {n : Number} {ns : List Number}
    → unpack_column column im (take (column_size im) bytes) ≡ done n
    → unpack_columns (suc column) ims (drop (column_size im) bytes) ≡ done ns
    → unpack_columns column (im ∷ ims) bytes ≡ done (n ∷ ns)
unfolding unpack_columns ◌then◌
unpack_step column im ims bytes p q = rw (p, q)

-- and the other way
pub record UnpackStep (column : ℕ) (im : Image) (ims : List Image) (bytes : List ℕ) (ns : List Number) : Type 0 where
  pub number : Number
  pub numbers : List Number
  pub first : unpack_column column im (take (column_size im) bytes) ≡ done number
  pub others : unpack_columns (suc column) ims (drop (column_size im) bytes) ≡ done numbers
  pub joined : number ∷ numbers ≡ ns

-- what columns that are read tell of the first
pub unpack_view :
    (column : ℕ) (im : Image) (ims : List Image) (bytes : List ℕ) {ns : List Number}
    → unpack_columns column (im ∷ ims) bytes ≡ done ns
    → UnpackStep column im ims bytes ns
unfolding unpack_columns
unpack_view column im ims bytes {ns} h =
    let one = then_done (unpack_column column im (take (column_size im) bytes)) (λ n. (unpack_columns (suc column) ims (drop (column_size im) bytes) then λ ns. done (n ∷ ns))) h in
    let two = then_done (unpack_columns (suc column) ims (drop (column_size im) bytes)) (λ ns. done (one.value ∷ ns)) one.second in
    record { number = one.value; numbers = two.value; first = one.first; others = two.first; joined = done_same two.second }

-- Reading back what was packed.

-- what packed columns give back
record ColumnsBack (ims : List Image) (ns : List Number) (body : List ℕ) : Type 0 where
  pub numbers : List Number
  pub are_truncated : Truncations ims ns numbers
  pub unpacked : (column : ℕ) → unpack_columns column ims body ≡ done numbers
  pub packed_again : (column : ℕ) → pack_columns column ims numbers ≡ done body
  pub count : length numbers ≡ length ims
  pub size : length body ≡ body_size ims

-- no column
back_none : ColumnsBack [] [] []
unfolding unpack_columns pack_columns body_size
back_none =
    record {
      numbers = [];
      are_truncated = Truncations.none;
      unpacked = λ column. refl;
      packed_again = λ column. refl;
      count = refl;
      size = refl;
    }

-- one column more
back_more :
    (im : Image) (ims : List Image) (n : Number) (ns : List Number) (t : Truncated) (rest : List ℕ)
    → ColumnBack im n t
    → ColumnsBack ims ns rest
    → ColumnsBack (im ∷ ims) (n ∷ ns) (column_bytes im t ++ rest)
unfolding body_size
back_more im ims n ns t rest first others =
    let bytes = column_bytes im t ++ rest in
    let sized = column_length_lem im t in
    record {
      numbers = first.number ∷ others.numbers;
      are_truncated = Truncations.one first.is_truncated others.are_truncated;
      unpacked =
          λ column.
          unpack_step column im ims bytes
          (ap (unpack_column column im) (take_at (column_bytes im t) rest (column_size im) sized) ∙ first.unpacked column)
          (ap (unpack_columns (suc column) ims) (drop_at (column_bytes im t) rest (column_size im) sized) ∙ others.unpacked (suc column));
      packed_again =
          λ column. pack_step column im ims first.number others.numbers (first.packed_again column) (others.packed_again (suc column));
      count = ap suc others.count;
      size = length-append (column_bytes im t) rest ∙ ap₂ (λ (a b : ℕ). a + b) sized others.size;
    }

-- every list that is packed is read back
columns_back :
    (column : ℕ) (ims : List Image) (ns : List Number) {body : List ℕ}
    → length ns ≡ length ims
    → pack_columns column ims ns ≡ done body
    → ColumnsBack ims ns body
unfolding pack_columns
columns_back column [] [] same h = subst (λ (l : List ℕ). ColumnsBack [] [] l) (done_same h) back_none
columns_back column [] (n ∷ ns) same h = absurd (omega arith)
columns_back column (im ∷ ims) [] same h = absurd (omega arith)
columns_back column (im ∷ ims) (n ∷ ns) same h =
    let step = pack_view column im ims n ns h in
    subst (λ (l : List ℕ). ColumnsBack (im ∷ ims) (n ∷ ns) l) step.joined
    (back_more im ims n ns step.to step.rest (column_round column im n step.first)
    (columns_back (suc column) ims ns (suc_inj same) step.others))

-- Reading what packs.

-- the first bytes of bytes are bytes
pub bytes_take : (k : ℕ) {bs : List ℕ} → Bytes bs → Bytes (take k bs)
bytes_take zero h = Bytes.none
bytes_take (suc k) Bytes.none = Bytes.none
bytes_take (suc k) (Bytes.more p h) = Bytes.more p (bytes_take k h)

-- and so are the others
pub bytes_drop : (k : ℕ) {bs : List ℕ} → Bytes bs → Bytes (drop k bs)
bytes_drop zero h = h
bytes_drop (suc k) Bytes.none = Bytes.none
bytes_drop (suc k) (Bytes.more p h) = bytes_drop k h

-- a list of no length is empty
no_bytes : (bs : List ℕ) → length bs ≡ 0 → bs ≡ []
no_bytes [] h = refl
no_bytes (b ∷ bs) h = absurd (omega arith)

-- columns that are read pack to what was read
record ColumnsAccept (ims : List Image) (body : List ℕ) (ns : List Number) : Type 0 where
  pub packs : (column : ℕ) → pack_columns column ims ns ≡ done body
  pub count : length ns ≡ length ims

-- one column more
accept_more :
    (im : Image) (ims : List Image) (n : Number) (ns : List Number) (t : Truncated) (rest : List ℕ)
    → ((column : ℕ) → packed_truncation column im n ≡ done t)
    → ColumnsAccept ims rest ns
    → ColumnsAccept (im ∷ ims) (column_bytes im t ++ rest) (n ∷ ns)
accept_more im ims n ns t rest first others =
    record { packs = λ column. pack_step column im ims n ns (first column) (others.packs (suc column)); count = ap suc others.count }

-- every body that is read is packed from what was read
columns_accept :
    (column : ℕ) {ims : List Image} (body : List ℕ) {ns : List Number}
    → AllChecked ims
    → Bytes body
    → length body ≡ body_size ims
    → unpack_columns column ims body ≡ done ns
    → ColumnsAccept ims body ns
unfolding unpack_columns body_size pack_columns
columns_accept column body AllChecked.none known sized h =
    let nothing = no_bytes body sized in
    subst (λ (l : List Number). ColumnsAccept [] body l) (done_same h)
    (subst⁻¹ (λ (l : List ℕ). ColumnsAccept [] l []) nothing (record { packs = λ c. refl; count = refl }))
columns_accept column body (AllChecked.more {im} {ims} checked others) known sized h =
    let step = unpack_view column im ims body h in
    let k = column_size im in
    let fits : k ≤ length body = omega arith in
    let one = column_accepts im checked column (take k body) (bytes_take k known) (length-take-le k body fits) step.first in
    let left : length (drop k body) ≡ body_size ims = length-drop k body ∙ omega arith in
    let two = columns_accept (suc column) (drop k body) others (bytes_drop k known) left step.others in
    subst (λ (l : List Number). ColumnsAccept (im ∷ ims) body l) step.joined
    (subst (λ (l : List ℕ). ColumnsAccept (im ∷ ims) l (step.number ∷ step.numbers))
    (ap (λ (l : List ℕ). l ++ drop k body) one.2 ∙ take-append-drop k body)
    (accept_more im ims step.number step.numbers one.0 (drop k body) one.1 two))

-- Lists and bodies.

-- a list is packed where it has one number per column and the columns are packed
list_view : (ims : List Image) (ns : List Number) {body : List ℕ} → pack_list ims ns ≡ done body → (length ns ≡ length ims) × (pack_columns 0 ims ns ≡ done body)
unfolding pack_list
list_view ims ns h =
    let p = pick_view (eqb (length ns) (length ims)) (pack_columns 0 ims ns) 10 0 h in (eqb-true (length ns) (length ims) p.0, p.1)

-- and the other way
list_done : (ims : List Image) (ns : List Number) {body : List ℕ} → length ns ≡ length ims → pack_columns 0 ims ns ≡ done body → pack_list ims ns ≡ done body
unfolding pack_list
list_done ims ns same h = rw (eq-eqb (length ns) (length ims) same) h

-- a body is read where it has its size and the columns are read
pub body_view : (ims : List Image) (body : List ℕ) {ns : List Number} → unpack_body ims body ≡ done ns → (length body ≡ body_size ims) × (unpack_columns 0 ims body ≡ done ns)
unfolding unpack_body
body_view ims body h =
    let p = pick_view (eqb (length body) (body_size ims)) (unpack_columns 0 ims body) 11 0 h in (eqb-true (length body) (body_size ims) p.0, p.1)

-- and the other way
body_done : (ims : List Image) (body : List ℕ) {ns : List Number} → length body ≡ body_size ims → unpack_columns 0 ims body ≡ done ns → unpack_body ims body ≡ done ns
unfolding unpack_body
body_done ims body same h = rw (eq-eqb (length body) (body_size ims) same) h

-- Published: the body that a list packs to is read back as the list's truncations, which pack to it again.
pub read_back :
    {ims : List Image}
    → AllChecked ims
    → {ns : List Number} {body : List ℕ}
    → pack_list ims ns ≡ done body
    → (ts : List Number) × Truncations ims ns ts × (unpack_body ims body ≡ done ts) × (pack_list ims ts ≡ done body)
read_back {ims} checked {ns} {body} h =
    let p = list_view ims ns h in
    let b = columns_back 0 ims ns p.0 p.1 in
    (b.numbers, b.are_truncated, body_done ims body b.size (b.unpacked 0), list_done ims b.numbers b.count (b.packed_again 0))

-- Published: a body is accepted exactly when some list of numbers packs to it.
pub accepts :
    {ims : List Image}
    → AllChecked ims
    → {body : List ℕ}
    → Bytes body
    → ((ts : List Number) × (unpack_body ims body ≡ done ts)) ↔ ((ns : List Number) × (pack_list ims ns ≡ done body))
accepts {ims} checked {body} known = (
  (λ r.
      let p = body_view ims body r.1 in
      let a = columns_accept 0 body checked known p.0 p.1 in
      (r.0, list_done ims r.0 a.count (a.packs 0))),
  (λ r. let b = read_back checked r.1 in (b.0, b.2)),
)

-- The same for every contents; where it is refused, neither side holds.

-- a list is packed where the contents is read and the list is packed under its images
pub contents_packs :
    (contents : List ℕ) (ns : List Number) {body : List ℕ}
    → body_of contents ns ≡ done body
    → (table : Table) × (read_alone contents ≡ done table) × (pack_list table.images ns ≡ done body)
unfolding body_of
contents_packs contents ns h =
    let b = then_done (read_alone contents) (λ table. pack_list table.images ns) h in (b.value, b.first, b.second)

-- and the other way
packs_contents :
    (contents : List ℕ) (ns : List Number) {table : Table} {body : List ℕ}
    → read_alone contents ≡ done table
    → pack_list table.images ns ≡ done body
    → body_of contents ns ≡ done body
unfolding body_of
packs_contents contents ns p q = then_both (λ (table : Table). pack_list table.images ns) p q

-- a body is read where the contents is read and the body is read under its images
contents_unpacks :
    (contents body : List ℕ) {ns : List Number}
    → unpacking contents body ≡ done ns
    → (table : Table) × (read_alone contents ≡ done table) × (unpack_body table.images body ≡ done ns)
unfolding unpacking
contents_unpacks contents body h =
    let b = then_done (read_alone contents) (λ table. unpack_body table.images body) h in (b.value, b.first, b.second)

-- and the other way
unpacks_contents :
    (contents body : List ℕ) {table : Table} {ns : List Number}
    → read_alone contents ≡ done table
    → unpack_body table.images body ≡ done ns
    → unpacking contents body ≡ done ns
unfolding unpacking
unpacks_contents contents body p q = then_both (λ (table : Table). unpack_body table.images body) p q

-- Published: the body that a list packs to under a contents is read back as the list's truncations, which pack to it again.
pub contents_read_back :
    (contents : List ℕ) {ns : List Number} {body : List ℕ}
    → body_of contents ns ≡ done body
    → (table : Table) × (read_alone contents ≡ done table)
    × (ts : List Number) × Truncations table.images ns ts × (unpacking contents body ≡ done ts) × (body_of contents ts ≡ done body)
contents_read_back contents {ns} {body} h =
    let p = contents_packs contents ns h in
    let b = read_back (alone_checked contents p.1) p.2 in
    (p.0, p.1, b.0, b.1, unpacks_contents contents body p.1 b.2, packs_contents contents b.0 p.1 b.3)

-- Published: a body is accepted under a contents exactly when some list of numbers packs to it there.
pub contents_accepts :
    (contents : List ℕ) {body : List ℕ}
    → Bytes body
    → ((ts : List Number) × (unpacking contents body ≡ done ts)) ↔ ((ns : List Number) × (body_of contents ns ≡ done body))
contents_accepts contents {body} known = (
  (λ r.
      let p = contents_unpacks contents body r.1 in
      let a = (accepts (alone_checked contents p.1) known).0 (r.0, p.2) in
      (a.0, packs_contents contents a.0 p.1 a.1)),
  (λ r. let b = contents_read_back contents r.1 in (b.2, b.4)),
)

-- Numbers in normal form.

-- a number that is given whatever refuses it
half_given : (column : ℕ) (a : Answer Number) {n : Number} → as_half column a ≡ done n → a ≡ done n
unfolding as_half
half_given column (done m) h = h
half_given column (refused number place) h = never_done h

-- what a column is read as
column_normal : (column : ℕ) (im : Image) (bytes : List ℕ) {n : Number} → unpack_column column im bytes ≡ done n → normal n ≡ true
unfolding unpack_column halves_number parts_number number_of said_by
column_normal column im bytes h =
    let hs = halves_of bytes in
    let sign = sign_part im.sign hs in
    let whole = value_of (digit_part im hs) in
    let size = value_of (exponent_part im hs) in
    let t = said_by sign whole size in
    let parts = unless_view (any_of (not (all_digits (digit_part im hs)) ∷ (not (all_digits (exponent_part im hs)) ∷ (not (all_zero (pad_part im hs)) ∷ []))))
    (parts_number column im sign whole size) 7 column h in
    let half = unless_view (breaks_rules im sign whole size) (as_half column (number_of column im t)) 7 column parts in
    scaled_normal column t.negative t.whole t.x (exponent_limit + im.fraction) (half_given column (number_of column im t) half)

-- and all columns
columns_normal :
    (column : ℕ) (ims : List Image) (bytes : List ℕ) {ns : List Number}
    → unpack_columns column ims bytes ≡ done ns
    → (i : ℕ)
    → normal (get_or ns i zero_number) ≡ true
unfolding unpack_columns
columns_normal column [] bytes {ns} h i =
    let none : [] ≡ ns = done_same h in
    ap (λ (l : List Number). normal (get_or l i zero_number)) (sym none) ∙ zero_normal
columns_normal column (im ∷ ims) bytes h zero =
    let step = unpack_view column im ims bytes h in
    ap (λ (l : List Number). normal (get_or l 0 zero_number)) (sym step.joined) ∙ column_normal column im (take (column_size im) bytes) step.first
columns_normal column (im ∷ ims) bytes h (suc i) =
    let step = unpack_view column im ims bytes h in
    ap (λ (l : List Number). normal (get_or l (suc i) zero_number)) (sym step.joined)
    ∙ columns_normal (suc column) ims (drop (column_size im) bytes) step.others i

-- Published: the numbers that a body is read as are in normal form.
pub unpacked_normal : (ims : List Image) (body : List ℕ) {ns : List Number} → unpack_body ims body ≡ done ns → (i : ℕ) → normal (get_or ns i zero_number) ≡ true
unpacked_normal ims body h i = columns_normal 0 ims body (body_view ims body h).1 i
