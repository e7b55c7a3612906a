-- Laws of what is asked of files that are merged: of a file read whole, and of two. Assumes nothing.
use Rattle.std.proofs.Common.{◌≡◌, ℕ, Bool, true, false, not, List, sym, ◌∙◌, ◌||◌, refl, ap}
use Rattle.std.specs.Prelude.{bytes_eq}
use Rattle.decimal.specs.declared.image.Image.{Image}
use Rattle.decimal.specs.Answer.{done, refused, ◌then◌, Answer}
use Rattle.decimal.proofs.AnswerLaws.{one_answer, done_same, then_done, then_last}
use Rattle.codec.specs.Contents.{Table, read_alone}
use Rattle.records.specs.Files.RecordFile.{read_file}
use Rattle.rolls.specs.Falling.{fall}
use Rattle.rolls.specs.Searching.{first_columns_in, check_kind, refuse_where}
use Rattle.rolls.specs.Merging.{read_whole, check_pair, check_contents, WholeFile, contents_in}
use Rattle.records.specs.Files.Listing.{checked_file}
use Rattle.records.proofs.FileProofs.RecordLinesLaws.{checked_refused}
use Rattle.rolls.proofs.FirstColumnLaws.{checked_stops}
use Rattle.std.proofs.lemmas.Slice.Eq.{bytes_eq-Decides}
use Rattle.decimal.specs.declared.number.Number.{Number}
use Rattle.codec.proofs.FrontLaws.{contents_alone}
use Rattle.records.proofs.FileProofs.FileLaws.{file_told}
use Rattle.rolls.specs.MergedFiles.{Mergeable}
use Rattle.rolls.proofs.FallTheorem.{fall_exactly}
use Rattle.rolls.proofs.FallLaws.{not_both}
use Rattle.rolls.proofs.PageLaws.{kind_told}
use Rattle.rolls.proofs.SearchLaws.{not_refused, FileChecked}

-- A file read whole.

module _ (file : List ℕ) where
  -- refused as the file is
  pub whole_unread : {x y : ℕ} → read_file file ≡ refused x y → read_whole file ≡ refused x y
  unfolding read_whole ◌then◌
  whole_unread h = rw h

  module _ {table : Table} (reads : read_file file ≡ done table) where
    -- 7
    pub whole_bad : {x y : ℕ} → first_columns_in table file ≡ refused x y → read_whole file ≡ refused x y
    unfolding read_whole ◌then◌
    whole_bad h = rw (reads, h)

    -- nothing
    pub whole_fine : {columns : List _} → first_columns_in table file ≡ done columns → read_whole file ≡ done (record { table = table; falls = fall columns })
    unfolding read_whole ◌then◌
    whole_fine h = rw (reads, h)

  -- as its bodies are
  pub whole_stops : {x y : ℕ} → refused x y ≡ checked_file file → read_whole file ≡ refused x y
  whole_stops {x} {y} h = go (read_file file) refl
    where
      go : (a : Answer Table) → read_file file ≡ a → read_whole file ≡ refused x y
      go (done t) reads = whole_bad reads (checked_stops file reads (sym h))
      go (refused i j) reads = whole_unread (reads ∙ sym (h ∙ checked_refused file reads))

  -- and where it is checked
  pub whole_checked : {table : Table} (c : FileChecked file table) → read_whole file ≡ done (record { table = table; falls = fall c.columns })
  whole_checked c = whole_fine c.held.reads c.read

-- what is known of it
pub record WholeTold (file : List ℕ) (w : WholeFile) : Type 0 where
  pub reads : read_file file ≡ done w.table
  pub columns : List Number
  pub read : first_columns_in w.table file ≡ done columns
  pub falls : w.falls ≡ fall columns

pub whole_view : (file : List ℕ) {w : WholeFile} → read_whole file ≡ done w → WholeTold file w
unfolding read_whole
whole_view file {w} h =
    let a = then_done (read_file file) (λ (t : Table). (first_columns_in t file then λ (columns : List Number). done (record { table = t; falls = fall columns }))) h in
    let b = then_done (first_columns_in a.value file) (λ (columns : List Number). done (record { table = a.value; falls = fall columns })) a.second in
    let same : ◌≡◌ {A = WholeFile} (record { table = a.value; falls = fall b.value }) w = done_same b.second in
    record {
      reads = a.first ∙ ap (λ (v : WholeFile). done v.table) same;
      columns = b.value;
      read = ap (λ (v : WholeFile). first_columns_in v.table file) (sym same) ∙ b.first;
      falls = sym (ap (λ (v : WholeFile). v.falls) same);
    }

-- What is asked of two files.

module _ (contents other : List ℕ) (ims : List Image) where
  -- 17
  pub contents_differ : true ≡ not (bytes_eq contents other) → check_contents contents other ims ≡ refused 17 0
  unfolding check_contents refuse_where ◌then◌
  contents_differ h = rw (sym h)

  -- 16, or nothing
  pub contents_kind : false ≡ not (bytes_eq contents other) → check_contents contents other ims ≡ check_kind ims
  unfolding check_contents refuse_where ◌then◌
  contents_kind h = rw (sym h)

  -- and 15 behind them
  pub pair_parts : (falls : Bool) → check_pair contents other ims falls ≡ (check_contents contents other ims then λ _. refuse_where falls 15)
  unfolding check_pair check_contents ◌then◌
  pair_parts falls = go (refuse_where (not (bytes_eq contents other)) 17)
    where
      go : (a : Answer (Unit {0})) → (a then λ _. (check_kind ims then λ _. refuse_where falls 15)) ≡ ((a then λ _. check_kind ims) then λ _. refuse_where falls 15)
      go (refused x y) = refl
      go (done u) = refl

-- Two files that are taken.

-- bytes that the test takes for the same are
pub same_bytes : (xs ys : List ℕ) → not (bytes_eq xs ys) ≡ false → xs ≡ ys
same_bytes xs ys h = go (bytes_eq xs ys) refl h
  where
    go : (b : Bool) → bytes_eq xs ys ≡ b → not b ≡ false → xs ≡ ys
    go true e k = (bytes_eq-Decides xs ys).0 e
    go false e k = not_both refl k

-- and the other way
bytes_same : (xs ys : List ℕ) → xs ≡ ys → bytes_eq xs ys ≡ true
bytes_same xs ys h = (bytes_eq-Decides xs ys).1 h

-- what is not refused
pub record PairTaken (contents other : List ℕ) (ims : List Image) (falls : Bool) : Type 0 where
  pub same : contents ≡ other
  pub kind : check_kind ims ≡ done tt
  pub stands : falls ≡ false

pub pair_taken : (contents other : List ℕ) (ims : List Image) (falls : Bool) → check_pair contents other ims falls ≡ done tt → PairTaken contents other ims falls
unfolding check_pair
pair_taken contents other ims falls h =
    let one = then_last (refuse_where (not (bytes_eq contents other)) 17) (check_kind ims then λ _. refuse_where falls 15) h in
    let two = then_last (check_kind ims) (refuse_where falls 15) one.1 in
    record {
      same = same_bytes contents other (not_refused (not (bytes_eq contents other)) 17 one.0);
      kind = two.0;
      stands = not_refused falls 15 two.1;
    }

-- and the other way
pub pair_fine : (contents other : List ℕ) (ims : List Image) (falls : Bool) → PairTaken contents other ims falls → check_pair contents other ims falls ≡ done tt
unfolding check_pair refuse_where ◌then◌
pair_fine contents other ims falls t = rw (bytes_same contents other t.same, t.kind, t.stands) refl

-- neither of two tests holds
neither : (a b : Bool) → (a || b) ≡ false → (a ≡ false) × (b ≡ false)
neither false b h = (refl, h)
neither true b h = not_both refl h

-- all that is asked, where two files that were read are taken
pub pair_view :
    (first second : List ℕ) {one two : WholeFile}
    → read_whole first ≡ done one
    → read_whole second ≡ done two
    → check_pair (contents_in one.table first) (contents_in two.table second) one.table.images (one.falls || two.falls) ≡ done tt
    → (m : Mergeable first second) × (m.table ≡ one.table) × (two.table ≡ one.table)
pair_view first second {one} {two} p q h =
    let a = whole_view first p in
    let b = whole_view second q in
    let t = pair_taken (contents_in one.table first) (contents_in two.table second) one.table.images (one.falls || two.falls) h in
    let f = neither one.falls two.falls t.stands in
    let alone : read_alone (contents_in two.table second) ≡ done one.table =
    ap read_alone (sym t.same) ∙ contents_alone first (file_told first a.reads).contents in
    let tables : two.table ≡ one.table = one_answer (contents_alone second (file_told second b.reads).contents) alone in (
      record {
        table = one.table;
        first_file = a.reads;
        second_file = b.reads ∙ ap {B = Answer Table} done tables;
        contents = t.same ∙ ap (λ (t : Table). contents_in t second) tables;
        first_file_columns = a.columns;
        second_file_columns = b.columns;
        first_read = a.read;
        second_read = ap (λ (t : Table). first_columns_in t second) (sym tables) ∙ b.read;
        kind = kind_told one.table.images t.kind;
        first_order = (fall_exactly a.columns).0 (sym a.falls ∙ f.0);
        second_order = (fall_exactly b.columns).0 (sym b.falls ∙ f.1);
      },
      refl,
      tables,
    )
