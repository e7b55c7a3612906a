-- Laws of the first columns of records: read body by body, and read where a file's bodies are checked. Assumes nothing.
use Rattle.std.proofs.Common.{◌≡◌, ℕ, List, [], ◌∷◌, map, get_or, refl, ap, sym, ◌∙◌}
use Rattle.decimal.specs.declared.image.Image.{Image}
use Rattle.decimal.specs.declared.number.Number.{Number}
use Rattle.decimal.specs.Answer.{Answer, done, refused, ◌then◌, given, checked_only}
use Rattle.decimal.specs.Number.{zero_number}
use Rattle.decimal.proofs.AnswerLaws.{never_done, done_same, then_done, then_last, one_answer}
use Rattle.decimal.proofs.KeptLaws.{checked_refused}
use Rattle.codec.specs.Columns.{body_size}
use Rattle.codec.specs.Contents.{Table}
use Rattle.codec.specs.Unpacking.{unpack_body}
use Rattle.codec.proofs.ReadBackTheorem.{body_view}
use Rattle.records.specs.Files.Listing.{checked_file}
use Rattle.records.specs.Files.RecordFile.{read_file, bodies_in}
use Rattle.codec.specs.Bodies.{check_each}
use Rattle.records.proofs.FileProofs.CheckedLaws.{checked_read}
use Rattle.records.proofs.FileProofs.JoinedLaws.{Each, each_so, each_first, each_others, Sized}
use Rattle.rolls.specs.Searching.{first_columns_of, first_columns_in}
use Rattle.rolls.specs.Merging.{first_column_of}

-- the first columns of records: that of the first record, and those of the others
pub record FirstColumnsStep (ims : List Image) (b : List ℕ) (bs : List (List ℕ)) (columns : List Number) : Type 0 where
  pub numbers : List Number
  pub reads : unpack_body ims b ≡ done numbers
  pub others : List Number
  pub rest : first_columns_of ims bs ≡ done others
  pub joined : get_or numbers 0 zero_number ∷ others ≡ columns

pub first_columns_view : (ims : List Image) (b : List ℕ) (bs : List (List ℕ)) {columns : List Number} → first_columns_of ims (b ∷ bs) ≡ done columns → FirstColumnsStep ims b bs columns
unfolding first_columns_of
first_columns_view ims b bs h =
    let one = then_done (unpack_body ims b) (λ (ns : List Number). (first_columns_of ims bs then λ ks. done (get_or ns 0 zero_number ∷ ks))) h in
    let two = then_done (first_columns_of ims bs) (λ (ks : List Number). done (get_or one.value 0 zero_number ∷ ks)) one.second in
    record { numbers = one.value; reads = one.first; others = two.value; rest = two.first; joined = done_same two.second }

-- Bodies that are read.

-- a body that is read
pub record BodyRead (ims : List Image) (body : List ℕ) : Type 0 where
  pub numbers : List Number
  pub reads : unpack_body ims body ≡ done numbers

-- where first columns are read, each body is
pub each_read : (ims : List Image) (bs : List (List ℕ)) {columns : List Number} → first_columns_of ims bs ≡ done columns → Each (BodyRead ims) bs
each_read ims [] h = Each.none
each_read ims (b ∷ bs) h = let v = first_columns_view ims b bs h in Each.more (record { numbers = v.numbers; reads = v.reads }) (each_read ims bs v.rest)

module _ (ims : List Image) where
  -- they have the size
  pub read_sized : (bs : List (List ℕ)) → Each (BodyRead ims) bs → Each (Sized (body_size ims)) bs
  read_sized bs e = each_so (λ b r. (body_view ims b r.reads).0) e

  -- the first column is the first number that is read
  pub first_column_read : (b : List ℕ) {ns : List Number} → unpack_body ims b ≡ done ns → first_column_of ims b ≡ get_or ns 0 zero_number
  unfolding first_column_of given
  first_column_read b h = ap (λ (a : Answer (List Number)). get_or (given a) 0 zero_number) h

  -- and first columns
  pub first_columns_read : (bs : List (List ℕ)) → Each (BodyRead ims) bs → first_columns_of ims bs ≡ done (map (first_column_of ims) bs)
  unfolding first_columns_of ◌then◌
  first_columns_read [] e = refl
  first_columns_read (b ∷ bs) e =
      let r = each_first e in
      rw (r.reads, first_columns_read bs (each_others e))
      (ap (λ (k : Number). done (k ∷ map (first_column_of ims) bs)) (sym (first_column_read b r.reads)))

  -- so the first columns that are read are those
  pub first_columns_are : (bs : List (List ℕ)) {columns : List Number} → first_columns_of ims bs ≡ done columns → columns ≡ map (first_column_of ims) bs
  first_columns_are bs h = one_answer h (first_columns_read bs (each_read ims bs h))

-- A file whose bodies are checked.

-- bodies are read where their first columns are
bodies_read : (ims : List Image) (bs : List (List ℕ)) → check_each ims bs ≡ checked_only (first_columns_of ims bs)
unfolding check_each first_columns_of checked_only ◌then◌
bodies_read ims [] = refl
bodies_read ims (b ∷ bs) = go (unpack_body ims b) (bodies_read ims bs)
  where
    go : (a : Answer (List Number)) → check_each ims bs ≡ checked_only (first_columns_of ims bs)
        → (a then λ _. check_each ims bs) ≡ checked_only (a then λ ns. (first_columns_of ims bs then λ columns. done (get_or ns 0 zero_number ∷ columns)))
    go (refused x y) h = refl
    go (done ns) h = h ∙ next (first_columns_of ims bs)
      where
        next : (a : Answer (List Number)) → checked_only a ≡ checked_only (a then λ columns. done (get_or ns 0 zero_number ∷ columns))
        next (refused x y) = refl
        next (done columns) = refl

-- an answer that is not refused
given_done : (a : Answer (List Number)) → checked_only a ≡ done tt → (columns : List Number) × (a ≡ done columns)
unfolding checked_only
given_done (done columns) h = (columns, refl)
given_done (refused x y) h = never_done h

-- a check with a result behind it, without it
without_result : (a : Answer (Unit {0})) (t : Table) → checked_only (a then λ _. done t) ≡ a
unfolding checked_only ◌then◌
without_result (done tt) t = refl
without_result (refused x y) t = refl

module _ (file : List ℕ) {table : Table} (reads : read_file file ≡ done table) where
  -- its bodies say whether it is refused
  file_checked : checked_file file ≡ (checked_only (first_columns_in table file) then λ _. done table)
  unfolding ◌then◌
  file_checked = checked_read file ∙ rw reads (ap (λ (a : Answer (Unit {0})). a then λ _. done table) (bodies_read table.images (bodies_in table file)))

  -- as the first body that is refused
  pub checked_stops : {x y : ℕ} → checked_file file ≡ refused x y → first_columns_in table file ≡ refused x y
  unfolding checked_only
  checked_stops h =
      checked_refused (first_columns_in table file)
      (sym (without_result (checked_only (first_columns_in table file)) table) ∙ ap checked_only (sym file_checked ∙ h))

  -- or not
  pub checked_columns : {t : Table} → checked_file file ≡ done t → (columns : List Number) × (first_columns_in table file ≡ done columns)
  checked_columns h = given_done (first_columns_in table file) (then_last (checked_only (first_columns_in table file)) (done table) (sym file_checked ∙ h)).0
