-- Laws of packed bodies: the body that a list packs to, checking and writing its columns from the left, and how the packing call is
-- refused. Published: a list is packed exactly where it packs, and its body has the length that the images say. Assumes nothing.
use Prim.Native.Nat.{ℕ, zero, suc, ◌+◌, ◌-◌, ◌<◌, ◌≤◌}
use mathlib.Core.Path.{◌≡◌, refl, ap, ap₂, sym, ◌∙◌}
use mathlib.Core.List.{List, [], ◌∷◌, ◌++◌, append-nil, append_assoc}
use mathlib.Core.Bool.{Bool, true, false}
use Rattle.std.proofs.Common.{◌⊎◌, ⊎_elim}
use native.Mathlib.Omega.{arith}
use native.Mathlib.Numerals.{add-one}
use lib.Dec.{eqb}
use lib.ListN.{length, take, drop, get_or, length-append}
use lib.Seq.{take_at, length-take-le}
use Rattle.std.proofs.lemmas.List.{take_all}
use borrow.Author.Tests.{eq-eqb, ne_eqb, lt-ltb, le-ltb, eqb-true}
use Rattle.decimal.specs.declared.image.Image.{Image}
use Rattle.decimal.specs.declared.number.Number.{Number}
use Rattle.decimal.specs.Answer.{Answer, done, refused, ◌then◌, pick, checked_only}
use Rattle.decimal.specs.Truncation.{Truncated, truncated_to, packed_truncation, Fit}
use Rattle.decimal.proofs.KeptLaws.{checked_refused}
use Rattle.decimal.proofs.AnswerLaws.{one_answer, done_same, then_done}
use Rattle.codec.specs.Answers.{within, written}
use Rattle.codec.specs.Columns.{column_size, body_size, AllChecked}
use Rattle.codec.specs.Contents.{read_alone}
use Rattle.codec.specs.Packing.AllPack.{none, one}
use Rattle.codec.specs.Packing.{column_bytes, pack_columns, pack_list, body_of, packing_under, packing, AllPack, PacksUnder}
use borrow.Rule.Slice.PartMut.{put_mid}
use Rattle.codec.proofs.BufferLaws.{part_written, written_length}
use Rattle.codec.proofs.HalfLaws.{column_length_lem}
use Rattle.codec.proofs.PackLaws.{packed_anywhere, packs_under, packs_fit, packs_length}

-- the bytes of the truncations, one column behind the other
unfoldable pub bytes_of : List Image → List Number → List ℕ
bytes_of [] ns = []
bytes_of (im ∷ ims) [] = []
bytes_of (im ∷ ims) (n ∷ ns) = column_bytes im (truncated_to im n) ++ bytes_of ims ns

-- a list that packs is packed to them
pub packs_columns : (column : ℕ) {ims : List Image} {ns : List Number} → AllPack ims ns → pack_columns column ims ns ≡ done (bytes_of ims ns)
unfolding pack_columns ◌then◌ bytes_of
packs_columns column none = refl
packs_columns column (one {im} {n} p ps) = rw (packed_anywhere 0 im n (p.truncated 0) column, packs_columns (suc column) ps)

-- where a list is packed, it packs
pub columns_pack : (column : ℕ) (ims : List Image) (ns : List Number) {body : List ℕ} → length ns ≡ length ims → pack_columns column ims ns ≡ done body → AllPack ims ns
unfolding pack_columns ◌then◌
columns_pack column [] [] e h = none
columns_pack column [] (n ∷ ns) e h = absurd (omega arith)
columns_pack column (im ∷ ims) [] e h = absurd (omega arith)
columns_pack column (im ∷ ims) (n ∷ ns) {body} e h =
    first (λ bytes g. columns_pack (suc column) ims ns {body = bytes} (omega arith) g) (packed_truncation column im n) refl
  where
    never : (x y : ℕ) → pack_columns column (im ∷ ims) (n ∷ ns) ≡ refused x y → AllPack (im ∷ ims) (n ∷ ns)
    never x y r = let z : ◌≡◌ {A = ℕ} 0 1 = cc in absurd (omega arith)

    rest : ((bytes : List ℕ) → pack_columns (suc column) ims ns ≡ done bytes → AllPack ims ns) → {t : Truncated} → packed_truncation column im n ≡ done t → (a : Answer (List ℕ)) → pack_columns (suc column) ims ns ≡ a → AllPack (im ∷ ims) (n ∷ ns)
    rest later f (done bytes) g = one (packs_under column im n f) (later bytes g)
    rest later f (refused x y) g = never x y (rw (f, g))

    first : ((bytes : List ℕ) → pack_columns (suc column) ims ns ≡ done bytes → AllPack ims ns) → (a : Answer Truncated) → packed_truncation column im n ≡ a → AllPack (im ∷ ims) (n ∷ ns)
    first later (done t) f = rest later f (pack_columns (suc column) ims ns) refl
    first later (refused x y) f = never x y (rw f)

-- columns that are packed: the first is, and those behind it
pub record PackStep (column : ℕ) (im : Image) (ims : List Image) (n : Number) (ns : List Number) (body : List ℕ) : Type 0 where
  pub to : Truncated
  pub rest : List ℕ
  pub first : packed_truncation column im n ≡ done to
  pub others : pack_columns (suc column) ims ns ≡ done rest
  pub joined : column_bytes im to ++ rest ≡ body

-- what packed columns tell of the first
pub pack_view :
    (column : ℕ) (im : Image) (ims : List Image) (n : Number) (ns : List Number) {body : List ℕ}
    → pack_columns column (im ∷ ims) (n ∷ ns) ≡ done body
    → PackStep column im ims n ns body
unfolding pack_columns
pack_view column im ims n ns {body} h =
    let one = then_done (packed_truncation column im n) (λ t. (pack_columns (suc column) ims ns then λ rest. done (column_bytes im t ++ rest))) h in
    let two = then_done (pack_columns (suc column) ims ns) (λ rest. done (column_bytes im one.value ++ rest)) one.second in
    record { to = one.value; rest = two.value; first = one.first; others = two.first; joined = done_same two.second }

-- the bytes of a list are as many as the images say
pub bytes_length : (ims : List Image) (ns : List Number) → length ns ≡ length ims → length (bytes_of ims ns) ≡ body_size ims
unfolding bytes_of body_size
bytes_length [] ns e = refl
bytes_length (im ∷ ims) [] e = absurd (omega arith)
bytes_length (im ∷ ims) (n ∷ ns) e =
    length-append (column_bytes im (truncated_to im n)) (bytes_of ims ns)
    ∙ ap₂ (λ (a b : ℕ). a + b) (column_length_lem im (truncated_to im n)) (bytes_length ims ns (omega arith))

-- so a list that is packed column by column has a body of that length
pub packed_size : (ims : List Image) (ns : List Number) {body : List ℕ} → length ns ≡ length ims → pack_columns 0 ims ns ≡ done body → length body ≡ body_size ims
packed_size ims ns same h =
    ap length (one_answer h (packs_columns 0 (columns_pack 0 ims ns same h))) ∙ bytes_length ims ns same

-- the size of one column more
pub size_next : (ims : List Image) (k : ℕ) (d : Image) → k < length ims → body_size (take (suc k) ims) ≡ body_size (take k ims) + column_size (get_or ims k d)
unfolding body_size
size_next [] k d h = absurd (omega arith)
size_next (im ∷ ims) zero d h = omega arith
size_next (im ∷ ims) (suc k) d h = omega (arith, size_next ims k d (omega arith))

-- Checking the columns from the left.

-- what was not refused was done
pub checked_done : {A : Type 0} (a : Answer A) → checked_only a ≡ done tt → (r : A) × (a ≡ done r)
unfolding checked_only
checked_done (done r) h = (r, refl)
checked_done (refused x y) h = let z : ◌≡◌ {A = ℕ} 0 1 = cc in absurd (omega arith)

-- a step that refuses nothing leaves the refusals as they are
then_checked : {A B : Type 0} (a : Answer A) (f : A → B) → checked_only (a then λ r. done (f r)) ≡ checked_only a
unfolding checked_only ◌then◌
then_checked (done r) f = refl
then_checked (refused x y) f = refl

module _ (column : ℕ) (im : Image) (n : Number) (ims : List Image) (ns : List Number) where
  -- behind a number that packs the rest decides
  pub check_turn :
      checked_only (packed_truncation column im n) ≡ done tt
      → checked_only (pack_columns column (im ∷ ims) (n ∷ ns)) ≡ checked_only (pack_columns (suc column) ims ns)
  unfolding pack_columns ◌then◌
  check_turn h =
      let f = checked_done (packed_truncation column im n) h in
      rw f.1 (then_checked (pack_columns (suc column) ims ns) (λ (rest : List ℕ). column_bytes im f.0 ++ rest))

  -- a number that is refused decides
  pub check_refused :
      {x y : ℕ}
      → checked_only (packed_truncation column im n) ≡ refused x y
      → pack_columns column (im ∷ ims) (n ∷ ns) ≡ refused x y
  unfolding pack_columns ◌then◌
  check_refused h = rw (checked_refused (packed_truncation column im n) h)

-- The loop that checks them, over the columns that are left.

-- before the first
pub checking_starts :
    {ims left_ims : List Image} {ns left_ns : List Number} {k : ℕ}
    → AllChecked ims
    → left_ims ≡ ims
    → left_ns ≡ ns
    → k ≡ 0
    → AllChecked left_ims × (checked_only (pack_columns 0 ims ns) ≡ checked_only (pack_columns k left_ims left_ns))
checking_starts all images numbers start = rw (images, numbers, start) (all, refl)

module _ {k column : ℕ} {ims later_ims : List Image} {ns later_ns : List Number} {im : Image} {n : Number}
    (images : ims ≡ im ∷ later_ims) (numbers : ns ≡ n ∷ later_ns) (same : column ≡ k) where
  -- behind a number that packs the rest decides
  pub columns_turn :
      {next : ℕ}
      → next ≡ k + 1
      → checked_only (packed_truncation column im n) ≡ done tt
      → checked_only (pack_columns k ims ns) ≡ checked_only (pack_columns next later_ims later_ns)
  columns_turn behind h =
      rw (images, numbers, behind, add-one k) (check_turn k im n later_ims later_ns (ap (λ (i : ℕ). checked_only (packed_truncation i im n)) (sym same) ∙ h))

  -- a number that is refused decides
  pub columns_refused :
      {x y : ℕ} → checked_only (packed_truncation column im n) ≡ refused x y → checked_only (pack_columns k ims ns) ≡ refused x y
  unfolding checked_only
  columns_refused h =
      rw (images, numbers)
      (ap checked_only (check_refused k im n later_ims later_ns (ap (λ (i : ℕ). checked_only (packed_truncation i im n)) (sym same) ∙ h)))

-- where no column is left nothing is refused
pub columns_end : (k : ℕ) (ims : List Image) (ns : List Number) → (length ims ≡ 0) ⊎ (length ns ≡ 0) → checked_only (pack_columns k ims ns) ≡ done tt
unfolding pack_columns checked_only
columns_end k [] ns h = refl
columns_end k (im ∷ ims) [] h = refl
columns_end k (im ∷ ims) (n ∷ ns) h = ⊎_elim (λ none. absurd (omega arith)) (λ none. absurd (omega arith)) h

-- the first of a list that packs does, and so do the others
first_packs : {im : Image} {n : Number} {ims : List Image} {ns : List Number} → AllPack (im ∷ ims) (n ∷ ns) → PacksUnder im n × AllPack ims ns
first_packs (one p ps) = (p, ps)

-- so the column that is next packs, and those behind it
pub next_packs :
    {ims later_ims : List Image} {ns later_ns : List Number} {im : Image} {n : Number}
    → AllPack ims ns
    → ims ≡ im ∷ later_ims
    → ns ≡ n ∷ later_ns
    → PacksUnder im n × AllPack later_ims later_ns
next_packs packs images numbers = first_packs (rw numbers at (rw images at packs))

-- where a list that packs has no image or no number left, it has neither
pub none_packs : {ims : List Image} {ns : List Number} → AllPack ims ns → (length ims ≡ 0) ⊎ (length ns ≡ 0) → (ims ≡ []) × (ns ≡ [])
none_packs none h = (refl, refl)
none_packs (one {im} {n} {ims} {ns} p ps) h =
    ⊎_elim (λ (z : length (im ∷ ims) ≡ 0). absurd (omega arith)) (λ (z : length (n ∷ ns) ≡ 0). absurd (omega arith)) h

-- The loop that writes the columns: those that are left pack and fill what is left of the body; behind what is written they make the whole.
pub record Writing (all : List ℕ) (ims : List Image) (ns : List Number) (start : ℕ) (body : List ℕ) : Type 0 where
  pub packs : AllPack ims ns
  pub room : start + body_size ims ≡ length body
  pub whole : take start body ++ bytes_of ims ns ≡ all

-- before the first column
pub writing_starts :
    {ims left_ims : List Image} {ns left_ns : List Number} {body : List ℕ}
    → AllPack ims ns
    → length body ≡ body_size ims
    → left_ims ≡ ims
    → left_ns ≡ ns
    → Writing (bytes_of ims ns) left_ims left_ns 0 body
writing_starts packs sized images numbers = rw (images, numbers) (record { packs = packs; room = omega arith; whole = refl })

module _ {all : List ℕ} {ims later_ims : List Image} {ns later_ns : List Number} {start : ℕ} {body : List ℕ} {im : Image} {n : Number}
    (w : Writing all ims ns start body) (images : ims ≡ im ∷ later_ims) (numbers : ns ≡ n ∷ later_ns) where
  -- the next number fits its image
  pub next_fits : Fit im n
  next_fits = packs_fit (next_packs w.packs images numbers).0

  -- and its column is inside the body
  pub next_room : (start + column_size im) + body_size later_ims ≡ length body
  unfolding body_size
  next_room = omega (arith, ap body_size images, w.room)

  -- one more column is written
  pub writing_turns :
      {size : ℕ} {part : List ℕ}
      → size ≡ column_size im
      → part ≡ column_bytes im (truncated_to im n)
      → Writing all later_ims later_ns (start + size) (put_mid start (start + size - start) body part)
  unfolding bytes_of written
  writing_turns {size} {part} sized made =
      let column : List ℕ = column_bytes im (truncated_to im n) in
      let long : length column ≡ column_size im = column_length_lem im (truncated_to im n) in
      let now : put_mid start (start + size - start) body part ≡ written body start column = part_written body start (start + size - start) made (omega arith) in
      let front : take (start + size) (written body start column) ≡ take start body ++ column =
      take_at (take start body ++ column) (drop (start + length column) body) (start + size)
      (length-append (take start body) column ∙ omega (arith, length-take-le start body (omega (arith, next_room)))) in
      rw now
      (record {
        packs = (next_packs w.packs images numbers).1;
        room = omega (arith, next_room, written_length body start column (omega (arith, next_room)));
        whole =
            ap (λ (l : List ℕ). l ++ bytes_of later_ims later_ns) front
            ∙ append_assoc (take start body) column (bytes_of later_ims later_ns)
            ∙ ap₂ (λ (a : List Image) (b : List Number). take start body ++ bytes_of a b) (sym images) (sym numbers)
            ∙ w.whole;
      })

-- behind the last column the body is the whole
pub writing_ends :
    {all : List ℕ} {ims : List Image} {ns : List Number} {start : ℕ} {body : List ℕ}
    → Writing all ims ns start body
    → (length ims ≡ 0) ⊎ (length ns ≡ 0)
    → all ≡ body
unfolding bytes_of body_size
writing_ends {all} {ims} {ns} {start} {body} w end =
    let left = none_packs w.packs end in
    let none : bytes_of ims ns ≡ [] = ap₂ bytes_of left.0 left.1 in
    sym w.whole
    ∙ ap (λ (l : List ℕ). take start body ++ l) none
    ∙ append-nil (take start body)
    ∙ take_all start body (omega (arith, w.room, ap body_size left.0))

-- The packing call.

-- refused as the contents is
pub packing_contents :
    (contents : List ℕ) (ns : List Number) (room : ℕ) {x y : ℕ} → read_alone contents ≡ refused x y → packing contents ns room ≡ refused x y
unfolding packing body_of ◌then◌
packing_contents contents ns room h = rw h

-- Whether a list packs under images.

module _ (ims : List Image) (ns : List Number) where
  -- 10 for a list of another length
  pub list_other : (length ns ≡ length ims → ⊥) → checked_only (pack_list ims ns) ≡ refused 10 0
  unfolding pack_list checked_only
  list_other h = rw (ne_eqb (length ns) (length ims) h)

  -- a list of the right length is refused as its columns are
  pub list_each : length ns ≡ length ims → checked_only (pack_list ims ns) ≡ checked_only (pack_columns 0 ims ns)
  unfolding pack_list
  list_each same = rw (eq-eqb (length ns) (length ims) same)

-- Published: a list is packed exactly where it packs, and its body has the length that the images say.

-- a list of the right length is packed column by column
list_same : (ims : List Image) (ns : List Number) → length ns ≡ length ims → pack_list ims ns ≡ pack_columns 0 ims ns
unfolding pack_list
list_same ims ns same = rw (eq-eqb (length ns) (length ims) same)

-- a list that is packed has one number per column
pub packed_count : (ims : List Image) (ns : List Number) {body : List ℕ} → pack_list ims ns ≡ done body → length ns ≡ length ims
unfolding pack_list
packed_count ims ns {body} h = go (eqb (length ns) (length ims)) refl h
  where
    go : (b : Bool) → eqb (length ns) (length ims) ≡ b → pick b (pack_columns 0 ims ns) (refused 10 0) ≡ done body → length ns ≡ length ims
    go true e k = eqb-true (length ns) (length ims) e
    go false e k = let z : ◌≡◌ {A = ℕ} 0 1 = cc in absurd (omega arith)

-- so its columns are packed
pub packed_columns : (ims : List Image) (ns : List Number) {body : List ℕ} → pack_list ims ns ≡ done body → pack_columns 0 ims ns ≡ done body
packed_columns ims ns h = sym (list_same ims ns (packed_count ims ns h)) ∙ h

-- a list that packs is packed to the bytes of its truncations
pub packs_packed : {ims : List Image} {ns : List Number} → AllPack ims ns → pack_list ims ns ≡ done (bytes_of ims ns)
packs_packed {ims} {ns} packs = list_same ims ns (packs_length packs) ∙ packs_columns 0 packs

-- and only such a list is packed
pub packed_only : (ims : List Image) (ns : List Number) {body : List ℕ} → pack_list ims ns ≡ done body → AllPack ims ns
packed_only ims ns h = let same = packed_count ims ns h in columns_pack 0 ims ns same (sym (list_same ims ns same) ∙ h)

-- both ways
pub packs_exactly :
    (ims : List Image) (ns : List Number)
    → (AllPack ims ns → (body : List ℕ) × (pack_list ims ns ≡ done body))
    × ((body : List ℕ) × (pack_list ims ns ≡ done body) → AllPack ims ns)
packs_exactly ims ns = (λ packs. (bytes_of ims ns, packs_packed packs), λ packed. packed_only ims ns packed.1)

-- the body of a list is the bytes of its truncations
pub packed_bytes : (ims : List Image) (ns : List Number) {body : List ℕ} → pack_list ims ns ≡ done body → body ≡ bytes_of ims ns
packed_bytes ims ns h = let e = packs_packed (packed_only ims ns h) in cc

-- and as long as the images say
pub packed_length : (ims : List Image) (ns : List Number) {body : List ℕ} → pack_list ims ns ≡ done body → length body ≡ body_size ims
packed_length ims ns h = ap length (packed_bytes ims ns h) ∙ bytes_length ims ns (packed_count ims ns h)

-- a list that packs under images: each of its numbers packs under its own
pub record Packable (ims : List Image) (ns : List Number) : Type 0 where
  pub packs : AllPack ims ns
  pub body : pack_list ims ns ≡ done (bytes_of ims ns)
  pub size : length (bytes_of ims ns) ≡ body_size ims

module _ (ims : List Image) (ns : List Number) where
  -- which is where the list is not refused
  pub packable : checked_only (pack_list ims ns) ≡ done tt → Packable ims ns
  packable h =
      let packs = packed_only ims ns (checked_done (pack_list ims ns) h).1 in
      record { packs = packs; body = packs_packed packs; size = bytes_length ims ns (packs_length packs) }

  module _ (room : ℕ) where
    -- else it is refused whatever the room
    pub list_refused : {x y : ℕ} → checked_only (pack_list ims ns) ≡ refused x y → packing_under ims ns room ≡ refused x y
    unfolding packing_under ◌then◌
    list_refused h = rw (checked_refused (pack_list ims ns) h)

    -- 6 where its body is longer than the buffer
    pub list_room : Packable ims ns → room < body_size ims → packing_under ims ns room ≡ refused 6 0
    unfolding packing_under ◌then◌ within
    list_room p h = rw (p.body, lt-ltb room (length (bytes_of ims ns)) (omega (arith, p.size)))

    -- else the body
    pub list_done : {body : List ℕ} → Packable ims ns → pack_columns 0 ims ns ≡ done body → body_size ims ≤ room → packing_under ims ns room ≡ done body
    unfolding packing_under ◌then◌ within
    list_done p packed h =
        let same = one_answer (packs_columns 0 p.packs) packed in
        rw (p.body, le-ltb room (length (bytes_of ims ns)) (omega (arith, p.size)), same)
