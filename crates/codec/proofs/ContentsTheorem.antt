-- Document 01, Record file: what is read as a contents is exactly the bytes of 1 to 16 images with 1 to 13 # signs each, and what is read
-- of it are these images. Assumes nothing.
use Prim.Native.Nat.{ℕ, zero, suc, ◌+◌, ◌<◌, ◌≤◌}
use mathlib.Core.Path.{◌≡◌, refl, ap, ap₂, sym, subst, ◌∙◌}
use mathlib.Core.Logic.{◌↔◌}
use mathlib.Core.Bool.{Bool, true, false, ◌&&◌}
use mathlib.Core.List.{List, [], ◌∷◌, ◌++◌, append_assoc, append-nil}
use native.Mathlib.Omega.{arith}
use native.Mathlib.Nat.{suc_inj}
use lib.ListN.{length, take, drop, get_or, length-append, take-append-drop}
use lib.Seq.{length-take-le, take-append_seam, drop-append_seam, drop-append-add}
use lib.Dec.{ltb, leb}
use borrow.Author.Tests.{ltb-false, le-ltb, leb-true, le-leb}
use Rattle.decimal.specs.declared.image.Sign.{Sign}
use Rattle.decimal.specs.declared.image.Sign.TheVariants.{Unsigned, Plus, Minus}
use Rattle.decimal.specs.declared.image.Image.{Image}
use Rattle.decimal.specs.Answer.{Answer, done, refused, ◌then◌, pick}
use Rattle.decimal.specs.Digits.{precision}
use Rattle.decimal.specs.Image.{plus_byte, minus_byte, hash_byte, point_byte, up_byte, ups, sign_bytes, times, fraction_bytes, up_bytes, image_bytes, hashes, IsImage, read_image}
use Rattle.decimal.proofs.BoolLaws.{and_true}
use Rattle.decimal.proofs.AnswerLaws.{never_done, then_done, then_refused}
use Rattle.decimal.proofs.ImageLaws.{read_done, reads_image, reads_too_many, image_unique}
use Rattle.codec.specs.Lists.{max_columns, no_image}
use Rattle.codec.specs.Columns.{Checked, AllChecked, none, more}
use Rattle.codec.specs.Contents.{entry_bytes, entries_bytes, contents_bytes, AllImages, IsContents}
use Rattle.codec.specs.Contents.{Table, read_column, column_length, read_columns, columns_length, read_contents, read_alone}
use Rattle.codec.specs.Order.{Bytes}
use Rattle.codec.specs.Alpha.{fraction_length, tail_length, text_length, line_length}
use Rattle.codec.proofs.AlphaLaws.{fraction_few, exponent_few, image_length}
use Rattle.codec.proofs.ContentsLaws.{sign_few, columns_checked, contents_stopped, alone_told, alone_same}

-- A column.

-- a column that is read: its length byte, and the bytes of its image
record ColumnRead (column : ℕ) (bytes : List ℕ) (im : Image) : Type 0 where
  size : ℕ
  behind : List ℕ
  front : bytes ≡ size ∷ behind
  fits : size ≤ length behind
  reads : read_image column (take size behind) ≡ done im

column_read : (column : ℕ) (bytes : List ℕ) {im : Image} → read_column column bytes ≡ done im → ColumnRead column bytes im
unfolding read_column
column_read column [] h = never_done h
column_read column (n ∷ bytes) {im} h = go (ltb (length bytes) n) refl h
  where
    go :
        (b : Bool)
        → ltb (length bytes) n ≡ b
        → pick b (refused 11 0) (read_image column (take n bytes)) ≡ done im
        → ColumnRead column (n ∷ bytes) im
    go true t e = never_done e
    go false t e = record { size = n; behind = bytes; front = refl; fits = ltb-false (length bytes) n t; reads = e }

-- such bytes are read so
column_made : (column n : ℕ) (bytes : List ℕ) → n ≤ length bytes → read_column column (n ∷ bytes) ≡ read_image column (take n bytes)
unfolding read_column
column_made column n bytes h = rw (le-ltb (length bytes) n h)

-- bytes of which the first is the length of an image that is read behind it
entry_front :
    (column size : ℕ) (behind : List ℕ) {im : Image}
    → size ≤ length behind
    → read_image column (take size behind) ≡ done im
    → size ∷ behind ≡ entry_bytes im ++ drop size behind
unfolding entry_bytes
entry_front column size behind {im} fits reads =
    let is : take size behind ≡ image_bytes im = (read_done column (take size behind) im reads).0.rendered in
    let long : size ≡ length (image_bytes im) = sym (length-take-le size behind fits) ∙ ap length is in
    ap₂ ◌∷◌ long (sym (take-append-drop size behind) ∙ ap (λ (l : List ℕ). l ++ drop size behind) is)

-- where a column is read, the bytes begin with its length byte and its image
column_entry : (column : ℕ) (bytes : List ℕ) {im : Image} → read_column column bytes ≡ done im → bytes ≡ entry_bytes im ++ drop (column_length bytes) bytes
unfolding column_length
column_entry column bytes {im} h =
    let r = column_read column bytes h in
    subst (λ (l : List ℕ). l ≡ entry_bytes im ++ drop (column_length l) l) (sym r.front)
    (entry_front column r.size r.behind r.fits r.reads)

module _ (im : Image) (rest : List ℕ) where
  -- such bytes are read as the column
  entry_read : (column : ℕ) → Checked im → read_column column (entry_bytes im ++ rest) ≡ done im
  unfolding entry_bytes
  entry_read column checked =
      let own = image_bytes im in
      let is : IsImage own im = record { rendered = refl; nonempty = checked.nonempty } in
      column_made column (length own) (own ++ rest) (omega (arith, length-append own rest))
      ∙ ap (read_image column) (take-append_seam own rest)
      ∙ reads_image column is checked.fits

  -- it is as long as they are
  entry_size : column_length (entry_bytes im ++ rest) ≡ length (entry_bytes im)
  unfolding entry_bytes column_length
  entry_size = refl

  -- and ends behind them
  entry_behind : drop (column_length (entry_bytes im ++ rest)) (entry_bytes im ++ rest) ≡ rest
  entry_behind = ap (λ (n : ℕ). drop n (entry_bytes im ++ rest)) entry_size ∙ drop-append_seam (entry_bytes im) rest

-- The columns.

-- columns that are read: the first, and the others
record ColumnsTold (left column : ℕ) (bytes : List ℕ) (ims : List Image) : Type 0 where
  image : Image
  images : List Image
  first : read_column column bytes ≡ done image
  others : read_columns left (suc column) (drop (column_length bytes) bytes) ≡ done images
  whole : image ∷ images ≡ ims

columns_told :
    (left column : ℕ) (bytes : List ℕ) {ims : List Image}
    → read_columns (suc left) column bytes ≡ done ims
    → ColumnsTold left column bytes ims
unfolding read_columns
columns_told left column bytes {ims} h =
    let rest = read_columns left (suc column) (drop (column_length bytes) bytes) in
    let b = then_done (read_column column bytes) (λ (im : Image). rest then λ (l : List Image). done (im ∷ l)) h in
    let c = then_done rest (λ (l : List Image). done (b.value ∷ l)) b.second in
    let last : ◌≡◌ {A = Answer (List Image)} (done (b.value ∷ c.value)) (done ims) = c.second in
    record { image = b.value; images = c.value; first = b.first; others = c.first; whole = cc }

-- where columns are read, the bytes begin with those of their images
columns_entries :
    (left column : ℕ) (bytes : List ℕ) {ims : List Image}
    → read_columns left column bytes ≡ done ims
    → (rest : List ℕ) × (bytes ≡ entries_bytes ims ++ rest)
unfolding read_columns entries_bytes
columns_entries zero column bytes {ims} h =
    let same : [] ≡ ims = cc in
    (bytes, ap (λ (l : List Image). entries_bytes l ++ bytes) same)
columns_entries (suc left) column bytes h =
    let t = columns_told left column bytes h in
    let others = columns_entries left (suc column) (drop (column_length bytes) bytes) t.others in
    let own = entry_bytes t.image in (
      others.0,
      column_entry column bytes t.first
          ∙ ap (λ (l : List ℕ). own ++ l) others.1
          ∙ sym (append_assoc own (entries_bytes t.images) others.0)
          ∙ ap (λ (l : List Image). entries_bytes l ++ others.0) t.whole,
    )

-- such bytes are read as the columns
entries_read : {ims : List Image} → AllChecked ims → (column : ℕ) (rest : List ℕ) → read_columns (length ims) column (entries_bytes ims ++ rest) ≡ done ims
unfolding read_columns entries_bytes ◌then◌
entries_read none column rest = refl
entries_read (more {im} {ims} c cs) column rest =
    let behind = entries_bytes ims ++ rest in
    rw (append_assoc (entry_bytes im) (entries_bytes ims) rest, entry_read im behind column c, entry_behind im behind, entries_read cs (suc column) rest)

-- and are as long as they are
entries_size : (ims : List Image) (rest : List ℕ) → columns_length (length ims) (entries_bytes ims ++ rest) ≡ length (entries_bytes ims)
unfolding columns_length entries_bytes
entries_size [] rest = refl
entries_size (im ∷ ims) rest =
    let behind = entries_bytes ims ++ rest in
    rw (append_assoc (entry_bytes im) (entries_bytes ims) rest, entry_behind im behind, entry_size im behind, entries_size ims rest)
    (sym (length-append (entry_bytes im) (entries_bytes ims)))

-- The contents.

-- a contents that is read: its count byte, and its columns
record ContentsTold (bytes : List ℕ) (table : Table) : Type 0 where
  count : ℕ
  behind : List ℕ
  front : bytes ≡ count ∷ behind
  low : 1 ≤ count
  high : count ≤ max_columns
  reads : read_columns count 0 behind ≡ done table.images
  whole : table.size ≡ suc (columns_length count behind)

contents_told : (bytes : List ℕ) {table : Table} → read_contents bytes ≡ done table → ContentsTold bytes table
unfolding read_contents
contents_told [] h = never_done h
contents_told (count ∷ bytes) {table} h = go (leb 1 count && leb count max_columns) refl h
  where
    made : List Image → Answer Table
    made ims = done (record { images = ims; size = suc (columns_length count bytes) })

    go :
        (b : Bool)
        → (leb 1 count && leb count max_columns) ≡ b
        → pick b (read_columns count 0 bytes then made) (refused 10 0) ≡ done table
        → ContentsTold (count ∷ bytes) table
    go true t e =
        let both = and_true (leb 1 count) (leb count max_columns) t in
        let b = then_done (read_columns count 0 bytes) made e in
        let size = suc (columns_length count bytes) in
        let told : ◌≡◌ {A = Answer Table} (done (record { images = b.value; size = size })) (done table) = b.second in
        let same : ◌≡◌ {A = Table} (record { images = b.value; size = size }) table = cc in
        record {
          count = count;
          behind = bytes;
          front = refl;
          low = leb-true 1 count both.0;
          high = leb-true count max_columns both.1;
          reads = b.first ∙ ap (λ (k : Table). done k.images) same;
          whole = sym (ap (λ (k : Table). k.size) same);
        }
    go false t e = never_done e

-- such bytes are read so
contents_made :
    (count : ℕ) (bytes : List ℕ) {table : Table}
    → 1 ≤ count
    → count ≤ max_columns
    → read_columns count 0 bytes ≡ done table.images
    → table.size ≡ suc (columns_length count bytes)
    → read_contents (count ∷ bytes) ≡ done table
unfolding read_contents ◌then◌
contents_made count bytes {table} low high h e =
    rw (le-leb 1 count low, le-leb count max_columns high, h)
    (ap (λ (k : ℕ). done (record { images = table.images; size = k })) (sym e))

-- how long the columns are
entries_length : (ims : List Image) → length (entries_bytes ims) ≡ line_length ims
unfolding entries_bytes entry_bytes line_length
entries_length [] = refl
entries_length (im ∷ ims) =
    length-append (entry_bytes im) (entries_bytes ims)
    ∙ ap₂ (λ (m n : ℕ). suc m + n) (image_length im) (entries_length ims)

-- Published: a contents has one byte for the count, and as many more as texts under its images with one byte behind each.
pub contents_length : (ims : List Image) → length (contents_bytes ims) ≡ suc (line_length ims)
unfolding contents_bytes
contents_length ims = ap suc (entries_length ims)

-- images of 1 to 13 # signs are images
pub checked_images : {ims : List Image} → AllChecked ims → AllImages ims
checked_images none = AllImages.none
checked_images (more c cs) = AllImages.more c.nonempty (checked_images cs)

-- bytes begin with a contents of which no image is refused with 2: its images and its length
pub record Begins (bytes : List ℕ) (table : Table) : Type 0 where
  pub own : List ℕ
  pub behind : List ℕ
  pub whole : bytes ≡ own ++ behind
  pub is_contents : IsContents own table.images
  pub checked : AllChecked table.images
  pub size : table.size ≡ length own

-- bytes that are read as a contents begin with one
contents_begins : (bytes : List ℕ) {table : Table} → read_contents bytes ≡ done table → Begins bytes table
unfolding contents_bytes
contents_begins bytes {table} h =
    let t = contents_told bytes h in
    let ims = table.images in
    let c = columns_checked t.count 0 t.behind t.reads in
    let e = columns_entries t.count 0 t.behind t.reads in
    record {
      own = contents_bytes ims;
      behind = e.0;
      whole = t.front ∙ ap₂ ◌∷◌ (sym c.1) e.1;
      is_contents =
          record { rendered = refl; low = omega (arith, c.1, t.low); high = omega (arith, c.1, t.high); each = checked_images c.0 };
      checked = c.0;
      size =
          t.whole
          ∙ ap₂ (λ (n : ℕ) (l : List ℕ). suc (columns_length n l)) (sym c.1) e.1
          ∙ ap suc (entries_size ims e.0);
    }

-- and bytes that begin with one are read as it
begins_contents : (bytes : List ℕ) {table : Table} → Begins bytes table → read_contents bytes ≡ done table
unfolding contents_bytes
begins_contents bytes {table} b =
    let ims = table.images in
    let behind = entries_bytes ims ++ b.behind in
    ap read_contents (b.whole ∙ ap (λ (l : List ℕ). l ++ b.behind) b.is_contents.rendered)
    ∙ contents_made (length ims) behind b.is_contents.low b.is_contents.high (entries_read b.checked 0 b.behind)
    (b.size ∙ ap length b.is_contents.rendered ∙ ap suc (sym (entries_size ims b.behind)))

-- Published: reading a contents at the front of bytes is not refused exactly where they begin with a contents of which no image is refused
-- with 2, and it gives its images and its length.
pub contents_exactly : (bytes : List ℕ) {table : Table} → (read_contents bytes ≡ done table) ↔ Begins bytes table
contents_exactly bytes = (contents_begins bytes, begins_contents bytes)

-- bytes that are no longer than their beginning are it
no_more : (own behind : List ℕ) → length (own ++ behind) ≡ length own → behind ≡ []
no_more own [] h = refl
no_more own (b ∷ behind) h = absurd (omega (arith, length-append own (b ∷ behind)))

-- bytes are a contents of which no image is refused with 2: its images and its length
pub record Alone (bytes : List ℕ) (table : Table) : Type 0 where
  pub is_contents : IsContents bytes table.images
  pub checked : AllChecked table.images
  pub size : table.size ≡ length bytes

-- Published: reading a contents lent alone is not refused exactly where the bytes are a contents of which no image is refused with 2, and
-- it gives its images and its length.
pub alone_exactly : (bytes : List ℕ) {table : Table} → (read_alone bytes ≡ done table) ↔ Alone bytes table
alone_exactly bytes {table} = (there, back)
  where
    there : read_alone bytes ≡ done table → Alone bytes table
    there h =
        let t = alone_told bytes h in
        let b = contents_begins bytes t.0 in
        let none_behind : b.behind ≡ [] =
        no_more b.own b.behind (sym (ap length b.whole) ∙ sym t.1 ∙ b.size) in
        let same : bytes ≡ b.own = b.whole ∙ ap (λ (l : List ℕ). b.own ++ l) none_behind ∙ append-nil b.own in
        record { is_contents = subst (λ (l : List ℕ). IsContents l table.images) (sym same) b.is_contents; checked = b.checked; size = t.1 }

    back : Alone bytes table → read_alone bytes ≡ done table
    back a =
        alone_same bytes
        (begins_contents bytes
        (record {
          own = bytes;
          behind = [];
          whole = sym (append-nil bytes);
          is_contents = a.is_contents;
          checked = a.checked;
          size = a.size;
        }))
        a.size

-- A contents has one list of images.

-- a column is one image
entry_unique :
    {a b : Image} {xs ys : List ℕ}
    → 0 < hashes a
    → 0 < hashes b
    → entry_bytes a ++ xs ≡ entry_bytes b ++ ys
    → (a ≡ b) × (xs ≡ ys)
unfolding entry_bytes
entry_unique {a} {b} {xs} {ys} some other e =
    let size : length (image_bytes a) ≡ length (image_bytes b) = cc in
    let rest : image_bytes a ++ xs ≡ image_bytes b ++ ys = cc in
    let same : image_bytes a ≡ image_bytes b =
    sym (take-append_seam (image_bytes a) xs) ∙ (λ i. take (size i) (rest i)) ∙ take-append_seam (image_bytes b) ys in
    let first : IsImage (image_bytes a) a = record { rendered = refl; nonempty = some } in
    let second : IsImage (image_bytes a) b = record { rendered = same; nonempty = other } in (
      image_unique first second,
      sym (drop-append_seam (image_bytes a) xs) ∙ (λ i. drop (size i) (rest i)) ∙ drop-append_seam (image_bytes b) ys,
    )

-- and the columns are one list of images
entries_unique : {ims bs : List Image} → AllImages ims → AllImages bs → length ims ≡ length bs → entries_bytes ims ≡ entries_bytes bs → ims ≡ bs
unfolding entries_bytes
entries_unique AllImages.none AllImages.none l e = refl
entries_unique AllImages.none (AllImages.more q qs) l e = absurd (omega arith)
entries_unique (AllImages.more p ps) AllImages.none l e = absurd (omega arith)
entries_unique (AllImages.more p ps) (AllImages.more q qs) l e =
    let u = entry_unique p q e in
    ap₂ ◌∷◌ u.0 (entries_unique ps qs (suc_inj l) u.1)

-- Published: bytes are a contents of one list of images at most.
pub contents_unique : {bytes : List ℕ} {ims others : List Image} → IsContents bytes ims → IsContents bytes others → ims ≡ others
unfolding contents_bytes
contents_unique {bytes} {ims} {others} a b =
    let same : length ims ∷ entries_bytes ims ≡ length others ∷ entries_bytes others = sym a.rendered ∙ b.rendered in
    entries_unique a.each b.each (cc) (cc)

-- An image refused with 2.

-- the first image of more than 13 # signs stands in this column
pub data FirstMany : List Image → ℕ → Type 0 where
  here : {im : Image} {ims : List Image} → precision < hashes im → FirstMany (im ∷ ims) 0
  later : {im : Image} {ims : List Image} {i : ℕ} → hashes im ≤ precision → FirstMany ims i → FirstMany (im ∷ ims) (suc i)

-- such a column is refused with 2
entry_many : (im : Image) (rest : List ℕ) (column : ℕ) → 0 < hashes im → precision < hashes im → read_column column (entry_bytes im ++ rest) ≡ refused 2 column
unfolding entry_bytes
entry_many im rest column some many =
    let own = image_bytes im in
    let is : IsImage own im = record { rendered = refl; nonempty = some } in
    column_made column (length own) (own ++ rest) (omega (arith, length-append own rest))
    ∙ ap (read_image column) (take-append_seam own rest)
    ∙ reads_too_many column is many

-- and so are the columns
entries_many :
    {ims : List Image} {i : ℕ}
    → AllImages ims
    → FirstMany ims i
    → (column : ℕ) (rest : List ℕ)
    → read_columns (length ims) column (entries_bytes ims ++ rest) ≡ refused 2 (column + i)
unfolding read_columns entries_bytes ◌then◌
entries_many AllImages.none h column rest = elim h [ ]
entries_many (AllImages.more {im} {ims} some others) (FirstMany.here many) column rest =
    rw (append_assoc (entry_bytes im) (entries_bytes ims) rest, entry_many im (entries_bytes ims ++ rest) column some many)
    (ap (λ (n : ℕ). refused 2 n) (omega arith))
entries_many (AllImages.more {im} {ims} some others) (FirstMany.later {i = i} few first) column rest =
    let behind = entries_bytes ims ++ rest in
    let c : Checked im = record { nonempty = some; fits = few } in
    rw (
      append_assoc (entry_bytes im) (entries_bytes ims) rest,
      entry_read im behind column c,
      entry_behind im behind,
      entries_many others first (suc column) rest,
    )
    (ap (λ (n : ℕ). refused 2 n) (omega arith))

-- Published: a contents lent alone of which an image is refused with 2 is refused so, at the first such column.
pub alone_many : {bytes : List ℕ} {ims : List Image} {i : ℕ} → IsContents bytes ims → FirstMany ims i → read_alone bytes ≡ refused 2 i
unfolding contents_bytes read_alone
alone_many {bytes} {ims} {i} is first =
    let columns : read_columns (length ims) 0 (entries_bytes ims) ≡ refused 2 i =
    ap (read_columns (length ims) 0) (sym (append-nil (entries_bytes ims)))
    ∙ entries_many is.each first 0 []
    ∙ ap (λ (n : ℕ). refused 2 n) (omega arith) in
    then_refused _
    (ap read_contents is.rendered ∙ contents_stopped (length ims) (entries_bytes ims) is.low is.high columns)

-- The bytes of a column.

-- where a column begins among the others
entries_at : (ims : List Image) (i : ℕ) → i < length ims
    → (rest : List ℕ) × (drop (length (entries_bytes (take i ims))) (entries_bytes ims) ≡ entry_bytes (get_or ims i no_image) ++ rest)
unfolding entries_bytes
entries_at [] i h = absurd (omega arith)
entries_at (im ∷ ims) zero h = (entries_bytes ims, refl)
entries_at (im ∷ ims) (suc i) h =
    let r = entries_at ims i (omega arith) in (
      r.0,
      ap (λ (n : ℕ). drop n (entry_bytes im ++ entries_bytes ims)) (length-append (entry_bytes im) (entries_bytes (take i ims)))
          ∙ drop-append-add (entry_bytes im) (entries_bytes ims) (length (entries_bytes (take i ims)))
          ∙ r.1,
    )

-- Published: the bytes of a column's image in a contents, behind its length byte, are those of the image.
pub column_image : {contents : List ℕ} {ims : List Image} → IsContents contents ims → (i : ℕ) → i < length ims
    → take (suc (length (image_bytes (get_or ims i no_image)))) (drop (suc (length (entries_bytes (take i ims)))) contents) ≡ length (image_bytes (get_or ims i no_image)) ∷ image_bytes (get_or ims i no_image)
unfolding contents_bytes entry_bytes
column_image {contents} {ims} c i h =
    let im = get_or ims i no_image in
    let r = entries_at ims i h in
    ap (λ (l : List ℕ). take (suc (length (image_bytes im))) (drop (suc (length (entries_bytes (take i ims)))) l)) c.rendered
    ∙ ap (take (suc (length (image_bytes im)))) r.1
    ∙ take-append_seam (entry_bytes im) r.0

-- Each is a byte.

-- the # signs behind a point have their bytes
fraction_covers : (f : ℕ) → f ≤ fraction_length f
unfolding fraction_length
fraction_covers zero = omega arith
fraction_covers (suc f) = omega arith

-- Published: an image has as many bytes as # signs or more, and at most six more: its sign, its point and four 5E bytes.
pub image_short : (im : Image) → (hashes im ≤ length (image_bytes im)) × (length (image_bytes im) ≤ hashes im + 6)
unfolding text_length tail_length
image_short im =
    let long = image_length im in
    let f = im.fraction in (
      omega (arith, fraction_covers f),
      omega (arith, sign_few im.sign, fraction_few f, exponent_few im.exponential),
    )

-- bytes behind bytes
bytes_append : {xs ys : List ℕ} → Bytes xs → Bytes ys → Bytes (xs ++ ys)
bytes_append Bytes.none h = h
bytes_append (Bytes.more b r) h = Bytes.more b (bytes_append r h)

-- one byte some times
bytes_times : (n b : ℕ) → b < 256 → Bytes (times n b)
unfolding times
bytes_times zero b h = Bytes.none
bytes_times (suc n) b h = Bytes.more h (bytes_times n b h)

-- a sign
bytes_sign : (s : Sign) → Bytes (sign_bytes s)
unfolding sign_bytes
bytes_sign Unsigned = Bytes.none
bytes_sign Plus = Bytes.more {b = plus_byte} (omega arith) Bytes.none
bytes_sign Minus = Bytes.more {b = minus_byte} (omega arith) Bytes.none

-- a point and # signs
bytes_fraction : (f : ℕ) → Bytes (fraction_bytes f)
unfolding fraction_bytes
bytes_fraction zero = Bytes.none
bytes_fraction (suc f) = Bytes.more {b = point_byte} (omega arith) (bytes_times (suc f) hash_byte (omega arith))

-- the four 5E bytes
bytes_up : (b : Bool) → Bytes (up_bytes b)
unfolding up_bytes
bytes_up true = bytes_times ups up_byte (omega arith)
bytes_up false = Bytes.none

-- an image
bytes_image : (im : Image) → Bytes (image_bytes im)
unfolding image_bytes
bytes_image im =
    bytes_append (bytes_sign im.sign)
    (bytes_append (bytes_times im.integer hash_byte (omega arith)) (bytes_append (bytes_fraction im.fraction) (bytes_up im.exponential)))

-- the columns
bytes_entries : {ims : List Image} → AllChecked ims → Bytes (entries_bytes ims)
unfolding entries_bytes entry_bytes
bytes_entries none = Bytes.none
bytes_entries (more {im} c cs) =
    let short = image_short im in
    bytes_append (Bytes.more {b = length (image_bytes im)} (omega (arith, short.1, c.fits)) (bytes_image im)) (bytes_entries cs)

-- Published: the count, the length of each image of 1 to 13 # signs, and what its image is made of, are bytes.
pub contents_bytes_lem : {ims : List Image} → AllChecked ims → length ims ≤ max_columns → Bytes (contents_bytes ims)
unfolding contents_bytes
contents_bytes_lem {ims} checked few = Bytes.more {b = length ims} (omega arith) (bytes_entries checked)
