-- Document 02, (vi): two cameras' files merged into one.
use Rattle.std.specs.Prelude.{ℕ, ◌+◌, ◌<◌, ◌≡◌, Bool, true, false, not, ◌||◌, List, [], ◌∷◌, ◌++◌, length, map, get_or, take, count_by, bytes_eq}
use Rattle.std.specs.List.{concat}
use Rattle.std.specs.declared.cmp.Ordering.TheVariants.{Equal}
use Rattle.decimal.specs.declared.image.Image.{Image}
use Rattle.decimal.specs.declared.number.Number.{Number}
use Rattle.decimal.specs.Answer.{Answer, done, ◌then◌, pick, given}
use Rattle.decimal.specs.Digits.{comes_before}
use Rattle.decimal.specs.Number.{zero_number}
use Rattle.decimal.specs.Comparison.{value_order}
use Rattle.codec.specs.Answers.{within}
use Rattle.codec.specs.Contents.{Table}
use Rattle.codec.specs.Unpacking.{unpack_body}
use Rattle.records.specs.Files.RecordFile.{read_file, bodies_in}
use Rattle.rolls.specs.Falling.{at_most, NeverFall, fall}
use Rattle.rolls.specs.Searching.{first_columns_in, check_kind, refuse_where}

-- What merging is, apart from how it is done.

-- a record of the merged file: the camera whose file it is from, the first or not, and its body
pub record Entry : Type 0 where
  pub is_first : Bool
  pub body : List ℕ

-- whether a record is from the first camera, or from the second
abbrev pub is_from : Bool → Entry → Bool
is_from true e = e.is_first
is_from false e = not e.is_first

-- the bodies of one camera's records, in their order
unfoldable pub of_camera : Bool → List Entry → List (List ℕ)
of_camera c [] = []
of_camera c (e ∷ es) = pick (is_from c e) (e.body ∷ of_camera c es) (of_camera c es)

-- how often a body stands among others
abbrev pub times : List ℕ → List (List ℕ) → ℕ
times body bs = count_by (bytes_eq body) bs

-- a record's first column as a number, by its body
unfoldable pub first_column_of : List Image → List ℕ → Number
first_column_of ims body = get_or (given (unpack_body ims body)) 0 zero_number

-- whether record number i of the merged file is from the first camera
abbrev pub first_at : List Entry → ℕ → Bool
first_at es i = get_or (map (λ e. e.is_first) es) i true

-- the records zs are those of two files, xs and ys, merged by their first columns
pub record IsMerge (column : List ℕ → Number) (xs ys zs : List (List ℕ)) : Type 0 where
  -- from which camera each is
  pub entries : List Entry
  pub whole : zs ≡ map (λ e. e.body) entries
  -- "The result doesn't fall"
  pub in_order : NeverFall (map column zs)
  -- it "holds each record of both as often as both together do"
  pub as_often : (body : List ℕ) → times body zs ≡ times body xs + times body ys
  -- it "keeps each camera's own order"
  pub firsts : of_camera true entries ≡ xs
  pub seconds : of_camera false entries ≡ ys
  -- "on equal first columns the first camera's records stand first"
  pub ties :
      (i j : ℕ) → i < j → j < length zs
      → value_order (get_or (map column zs) i zero_number) (get_or (map column zs) j zero_number) ≡ Equal
      → first_at entries i ≡ false
      → first_at entries j ≡ false

-- And computed.

-- two files' records merged, the first of them first where a test holds (the proofs' MergeTheorem: where the test is the order of the first columns,
-- and neither falls, these and no others are merged by the first columns)
unfoldable pub merged : (List ℕ → List ℕ → Bool) → List (List ℕ) → List (List ℕ) → List (List ℕ)
merged goes [] ys = ys
merged goes (x ∷ xs) [] = x ∷ xs
merged goes (x ∷ xs) (y ∷ ys) = pick (goes x y) (x ∷ merged goes xs (y ∷ ys)) (y ∷ merged goes (x ∷ xs) ys)

-- by the order of the first columns
abbrev pub by_first_column : (List ℕ → Number) → List ℕ → List ℕ → Bool
by_first_column column x y = at_most (column x) (column y)

-- Files.

-- a file that is read whole: its contents, and whether its records fall
pub record WholeFile : Type 0 where
  pub table : Table
  pub falls : Bool

-- refused as the file is, then with 7
unfoldable pub read_whole : List ℕ → Answer WholeFile
read_whole file =
    read_file file then λ table. (first_columns_in table file then λ columns. done (record { table = table; falls = fall columns }))

-- the bytes of a file's contents
abbrev pub contents_in : Table → List ℕ → List ℕ
contents_in table file = take table.size file

-- 17 where two contents differ in any byte, "right before 16", then 15 where a file falls
unfoldable pub check_pair : List ℕ → List ℕ → List Image → Bool → Answer (Unit {0})
check_pair contents other ims falling =
    refuse_where (not (bytes_eq contents other)) 17 then λ _. (check_kind ims then λ _. refuse_where falling 15)

-- a contents, and records behind it
abbrev pub file_with : List ℕ → List (List ℕ) → List ℕ
file_with contents bs = contents ++ concat bs

-- the contents that two files have which can be merged: refused as the first file is, then as the second is, then with 17, 16, 15
unfoldable pub common_table : List ℕ → List ℕ → Answer Table
common_table first second =
    read_whole first then λ one.
    (read_whole second then λ two.
    (check_pair (contents_in one.table first) (contents_in two.table second) one.table.images (one.falls || two.falls) then λ _. done one.table))

-- the merged file
unfoldable pub merged_file : List ℕ → List ℕ → Answer (List ℕ)
merged_file first second =
    common_table first second then λ table.
    done
    (file_with (contents_in table first) (merged (by_first_column (first_column_of table.images)) (bodies_in table first) (bodies_in table second)))

-- the call: last 6
unfoldable pub merging : List ℕ → List ℕ → ℕ → Answer (List ℕ)
merging first second room = merged_file first second then within room

-- What the code's helpers find.

-- two files have the same contents, of a first column that can be compared: 17, then 16
unfoldable pub check_contents : List ℕ → List ℕ → List Image → Answer (Unit {0})
check_contents contents other ims = refuse_where (not (bytes_eq contents other)) 17 then λ _. check_kind ims

-- the second of two bodies does not come before the first, by so many bytes at the front
abbrev pub not_behind : ℕ → List ℕ → List ℕ → Bool
not_behind width x y = not (comes_before (take width y) (take width x))
