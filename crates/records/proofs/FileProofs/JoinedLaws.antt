-- Laws of lists of bodies: each of one size, joined and taken apart again; each of bytes; and the file that a contents and bodies make.
-- Assumes nothing.
use Rattle.std.proofs.Common.{◌≡◌, ℕ, zero, suc, ◌-◌, ◌*◌, ◌/◌, ◌%◌, List, [], ◌∷◌, ◌++◌, length, length-append, take, drop, refl, ap, ap₂, sym, ◌∙◌, arith, zero-mul, take-append-drop}
use lib.Seq.{take_at, drop_at, take-length}
use lib.ListN.{length-drop}
use Rattle.std.proofs.lemmas.List.{nil_from_length}
use native.Mathlib.Nat.{suc-mul}
use Rattle.std.proofs.Math.Nat.{mul-div_cancel, mul-mod_left}
use Rattle.std.specs.List.{concat}
use Rattle.decimal.specs.Answer.{done}
use Rattle.codec.specs.Columns.{body_size}
use Rattle.codec.specs.Contents.{Table, read_contents, read_alone}
use Rattle.codec.specs.Order.{Bytes}
use Rattle.codec.proofs.ContentsLaws.{alone_told}
use Rattle.codec.proofs.FrontLaws.{contents_front, contents_body}
use Rattle.codec.proofs.ReadBackTheorem.{bytes_take, bytes_drop}
use Rattle.codec.specs.Bodies.{bodies}
use Rattle.records.specs.Files.RecordFile.{read_file, record_count, bodies_in}
use Rattle.records.proofs.FileProofs.BodiesLaws.{file_reaches}
use Rattle.records.proofs.FileProofs.FileLaws.{file_done, file_told}

-- each body of a list has a property
pub data Each (P : List ℕ → Type 0) : List (List ℕ) → Type 0 where
  none : Each P []
  more : {b : List ℕ} {bs : List (List ℕ)} → P b → Each P bs → Each P (b ∷ bs)

-- the first has it, and the others
pub each_first : {P : List ℕ → Type 0} {b : List ℕ} {bs : List (List ℕ)} → Each P (b ∷ bs) → P b
each_first (Each.more p e) = p

pub each_others : {P : List ℕ → Type 0} {b : List ℕ} {bs : List (List ℕ)} → Each P (b ∷ bs) → Each P bs
each_others (Each.more p e) = e

-- another property that follows
pub each_so : {P Q : List ℕ → Type 0} {bs : List (List ℕ)} → ((b : List ℕ) → P b → Q b) → Each P bs → Each Q bs
each_so f Each.none = Each.none
each_so f (Each.more {b} p e) = Each.more (f b p) (each_so f e)

-- Bodies of one size, joined.

-- a body has this size
abbrev pub Sized : ℕ → List ℕ → Type 0
Sized size b = length b ≡ size

module _ (size : ℕ) where
  pub joined_length : (bs : List (List ℕ)) → Each (Sized size) bs → length (concat bs) ≡ length bs * size
  joined_length [] e = sym (zero-mul size)
  joined_length (b ∷ bs) e =
      length-append b (concat bs) ∙ omega (arith, each_first e, joined_length bs (each_others e), suc-mul (length bs) size)

  -- they are taken off it again
  pub joined_bodies : (bs : List (List ℕ)) → Each (Sized size) bs → bodies (length bs) size (concat bs) ≡ bs
  unfolding bodies
  joined_bodies [] e = refl
  joined_bodies (b ∷ bs) e =
      ap₂ (λ (x : List ℕ) (y : List (List ℕ)). x ∷ y)
      (take_at b (concat bs) size (each_first e))
      (ap (bodies (length bs) size) (drop_at b (concat bs) size (each_first e)) ∙ joined_bodies bs (each_others e))

  -- bytes that are taken apart, joined
  pub joined_all : (count : ℕ) (bytes : List ℕ) → length bytes ≡ count * size → concat (bodies count size bytes) ≡ bytes
  unfolding bodies
  joined_all zero bytes h = sym (nil_from_length bytes (h ∙ zero-mul size))
  joined_all (suc n) bytes h =
      ap (λ (l : List ℕ). take size bytes ++ l) (joined_all n (drop size bytes) (omega (arith, length-drop size bytes, suc-mul n size)))
      ∙ take-append-drop size bytes

-- the bodies of a file, joined
pub bodies_joined_are : (table : Table) (file : List ℕ) → read_file file ≡ done table → concat (bodies_in table file) ≡ drop table.size file
unfolding bodies_in
bodies_joined_are table file reads =
    joined_all (body_size table.images) (record_count table file) (drop table.size file) (file_reaches (file_told file reads))

-- Bytes.

-- those of each body
pub each_bytes : (n size : ℕ) (bytes : List ℕ) → Bytes bytes → Each Bytes (bodies n size bytes)
unfolding bodies
each_bytes zero size bytes h = Each.none
each_bytes (suc n) size bytes h = Each.more (bytes_take size h) (each_bytes n size (drop size bytes) (bytes_drop size h))

pub bodies_bytes : (table : Table) (file : List ℕ) → Bytes file → Each Bytes (bodies_in table file)
unfolding bodies_in
bodies_bytes table file h = each_bytes (record_count table file) (body_size table.images) (drop table.size file) (bytes_drop table.size h)

-- A file that a contents and bodies make.

-- a contents lent alone stands before bytes
contents_whole : (contents rest : List ℕ) {table : Table} → (read_contents contents ≡ done table) × (table.size ≡ length contents) → read_contents (contents ++ rest) ≡ done table
contents_whole contents rest {table} told =
    ap (λ (l : List ℕ). read_contents (l ++ rest)) (sym (ap (λ (k : ℕ). take k contents) told.1 ∙ take-length contents)) ∙ contents_front contents rest told.0

module _ (contents : List ℕ) {table : Table} (alone : read_alone contents ≡ done table) (bs : List (List ℕ)) (sized : Each (Sized (body_size table.images)) bs) where
  abbrev made : List ℕ
  made = contents ++ concat bs

  -- the contents has its length
  front_length : length contents ≡ table.size
  front_length = sym (alone_told contents alone).1

  -- it stands at the front
  pub made_contents : take table.size made ≡ contents
  made_contents = take_at contents (concat bs) table.size front_length

  -- and the bodies behind it
  pub made_behind : drop table.size made ≡ concat bs
  made_behind = drop_at contents (concat bs) table.size front_length

  -- as many bytes as bodies
  behind_length : length made - table.size ≡ length bs * body_size table.images
  behind_length = sym (length-drop table.size made) ∙ ap length made_behind ∙ joined_length (body_size table.images) bs sized

  -- so it is a file with this contents,
  pub made_reads : read_file made ≡ done table
  made_reads =
      file_done made (contents_whole contents (concat bs) (alone_told contents alone))
      (ap (λ (n : ℕ). n % body_size table.images) behind_length ∙ mul-mod_left (length bs) (body_size table.images))

  -- of as many records,
  pub made_count : record_count table made ≡ length bs
  unfolding record_count
  made_count =
      ap (λ (n : ℕ). n / body_size table.images) behind_length ∙ mul-div_cancel (length bs) (contents_body contents (alone_told contents alone).0)

  -- which have these bodies
  pub made_bodies : bodies_in table made ≡ bs
  unfolding bodies_in
  made_bodies =
      ap₂ (λ (n : ℕ) (l : List ℕ). bodies n (body_size table.images) l) made_count made_behind
      ∙ joined_bodies (body_size table.images) bs sized
