-- Document 01, Record file: the table of contents. A byte with the count of columns, then per column a length byte and the image.
use Rattle.std.specs.Prelude.{ℕ, zero, suc, ◌+◌, ◌<◌, ◌≤◌, ◌≡◌, List, [], ◌∷◌, ◌++◌, ◌&&◌, length, take, drop, ltb, leb, eqb}
use Rattle.decimal.specs.declared.image.Image.{Image}
use Rattle.decimal.specs.Answer.{Answer, done, refused, ◌then◌, pick}
use Rattle.decimal.specs.Image.{image_bytes, hashes, read_image}
use Rattle.codec.specs.Lists.{max_columns}

-- What a contents is, and its bytes.

-- a column: a length byte and the image
unfoldable pub entry_bytes : Image → List ℕ
entry_bytes im = length (image_bytes im) ∷ image_bytes im

-- the columns, in order
unfoldable pub entries_bytes : List Image → List ℕ
entries_bytes [] = []
entries_bytes (im ∷ ims) = entry_bytes im ++ entries_bytes ims

-- the bytes of a contents: a byte with the count of columns, then the columns
unfoldable pub contents_bytes : List Image → List ℕ
contents_bytes ims = length ims ∷ entries_bytes ims

-- at least one # stands in each image
pub data AllImages : List Image → Type 0 where
  none : AllImages []
  more : {im : Image} {ims : List Image} → 0 < hashes im → AllImages ims → AllImages (im ∷ ims)

-- "A contents is 1 to 16 images": bytes are a contents, and of these images
pub record IsContents (bytes : List ℕ) (ims : List Image) : Type 0 where
  pub rendered : bytes ≡ contents_bytes ims
  pub low : 1 ≤ length ims
  pub high : length ims ≤ max_columns
  pub each : AllImages ims

-- Reading one. (The proofs' ContentsTheorem: what is read is exactly a contents of which no image is refused with 2.)

-- a column at the front of bytes: 11 where the bytes end inside it, then 1 and 2 for its image
unfoldable pub read_column : ℕ → List ℕ → Answer Image
read_column column [] = refused 11 0
read_column column (n ∷ bytes) = pick (ltb (length bytes) n) (refused 11 0) (read_image column (take n bytes))

-- how many bytes a column takes
unfoldable pub column_length : List ℕ → ℕ
column_length [] = 0
column_length (n ∷ bytes) = suc n

-- the images of so many columns, from the left
unfoldable pub read_columns : ℕ → ℕ → List ℕ → Answer (List Image)
read_columns zero column bytes = done []
read_columns (suc left) column bytes =
    read_column column bytes then λ im.
    (read_columns left (suc column) (drop (column_length bytes) bytes) then λ ims. done (im ∷ ims))

-- and how many bytes they take
unfoldable pub columns_length : ℕ → List ℕ → ℕ
columns_length zero bytes = 0
columns_length (suc left) bytes = column_length bytes + columns_length left (drop (column_length bytes) bytes)

-- a table of contents: its images, and its own length in bytes
pub record Table : Type 0 where
  pub images : List Image
  pub size : ℕ

-- a contents at the front of bytes: 11 where there is none, 10 for the count, then the columns from the left
unfoldable pub read_contents : List ℕ → Answer Table
read_contents [] = refused 11 0
read_contents (count ∷ bytes) =
    pick (leb 1 count && leb count max_columns)
    (read_columns count 0 bytes then λ ims. done (record { images = ims; size = suc (columns_length count bytes) }))
    (refused 10 0)

-- a contents lent alone: 11 where bytes go on behind it
unfoldable pub read_alone : List ℕ → Answer Table
read_alone bytes = read_contents bytes then λ table. pick (eqb table.size (length bytes)) (done table) (refused 11 0)

-- a contents can have so many columns: 10 where not
unfoldable pub check_count : ℕ → Answer (Unit {0})
check_count count = pick (leb 1 count && leb count max_columns) (done tt) (refused 10 0)
