-- Document 02, (vi), for files: two files are merged exactly where all that is asked of them holds; the result is their merged file by the

-- four clauses, and no other file is. It has every record of both, byte for byte, and no more; merging with a file of no records gives the
-- other. Assumes nothing.
use Rattle.std.proofs.Common.{◌≡◌, ℕ, ◌+◌, ◌<◌, ◌≤◌, Bool, true, false, ◌||◌, List, [], ◌++◌, length, length-append, map, get_or, take, drop, refl, ap, ap₂, sym, subst, ◌∙◌, arith}
use lib.Seq.{length-take-le, take-append_seam}
use lib.ListN.{take-append-drop, length-drop}
use borrow.Author.Tests.{le-ltb}
use Rattle.std.specs.List.{concat}
use Rattle.std.specs.Prelude.{◌↔◌}
use Rattle.std.proofs.lemmas.List.{nil_from_length}
use Rattle.decimal.specs.declared.number.Number.{Number}
use Rattle.decimal.specs.Answer.{Answer, done, ◌then◌}
use Rattle.decimal.proofs.AnswerLaws.{one_answer, then_done}
use Rattle.codec.specs.Answers.{within}
use Rattle.codec.specs.Columns.{body_size}
use Rattle.codec.specs.Contents.{Table, contents_bytes, read_contents}
use Rattle.codec.proofs.ContentsTheorem.{contents_exactly}
use Rattle.codec.specs.Unpacking.{unpack_body}
use Rattle.codec.proofs.FrontLaws.{contents_same}
use Rattle.records.specs.Files.RecordFile.{read_file, record_count, bodies_in, shown_part}
use Rattle.records.proofs.FileProofs.BodiesLaws.{records_count}
use Rattle.records.proofs.FileProofs.FileLaws.{file_told, within_told}
use Rattle.records.proofs.FileProofs.FileTheorem.{record_at}
use Rattle.rolls.specs.Falling.{NeverFall, fall}
use Rattle.rolls.specs.Merging.{of_camera, WholeFile, contents_in, common_table, IsMerge, first_column_of, by_first_column, merged, file_with, merged_file, merging}
use Rattle.rolls.specs.MergedFiles.{Mergeable, MergedFile, HasRecord}
use Rattle.rolls.proofs.FallTheorem.{fall_exactly}
use Rattle.rolls.proofs.PageLaws.{kind_fine}
use Rattle.records.proofs.FileProofs.JoinedLaws.{Each}
use Rattle.rolls.proofs.MergeLaws.{merged_each, merged_length, merged_joined, merged_none, none_merged}
use Rattle.rolls.proofs.MergeTheorem.{merge_exactly, entries_count, camera_stands}
use Rattle.rolls.proofs.MergeCallLaws.{whole_fine, pair_fine}
use Rattle.records.proofs.FileProofs.JoinedLaws.{Sized, bodies_joined_are}
use Rattle.rolls.proofs.MergePairLaws.{common_view}
use Rattle.rolls.proofs.FirstColumnLaws.{BodyRead, each_read, read_sized, first_columns_are}
use Rattle.rolls.proofs.MergeFileLaws.{made_reads, made_contents, made_bodies}

-- What is asked.

-- of what is merged
mergeable_of : (first second : List ℕ) {file : List ℕ} → merged_file first second ≡ done file → Mergeable first second
unfolding merged_file
mergeable_of first second h =
    let t =
    then_done (common_table first second)
    (λ (t : Table). done (file_with (contents_in t first) (merged (by_first_column (first_column_of t.images)) (bodies_in t first) (bodies_in t second))))
    h in
    (common_view first second t.first).0

module _ {first second : List ℕ} (m : Mergeable first second) where
  abbrev table : Table
  table = m.table

  abbrev column : List ℕ → Number
  column = first_column_of table.images

  abbrev xs : List (List ℕ)
  xs = bodies_in table first

  abbrev ys : List (List ℕ)
  ys = bodies_in table second

  -- the bodies of both merged
  abbrev pub zs : List (List ℕ)
  zs = merged (by_first_column column) xs ys

  -- the file that is computed
  abbrev pub result : List ℕ
  result = file_with (contents_in table first) zs

  -- the first columns of both
  first_file_columns_are : m.first_file_columns ≡ map column xs
  first_file_columns_are = first_columns_are table.images xs m.first_read

  second_file_columns_are : m.second_file_columns ≡ map column ys
  second_file_columns_are = first_columns_are table.images ys m.second_read

  pub first_falls_not : NeverFall (map column xs)
  first_falls_not = subst NeverFall first_file_columns_are m.first_order

  pub second_falls_not : NeverFall (map column ys)
  second_falls_not = subst NeverFall second_file_columns_are m.second_order

  -- the bodies of both are read, so that each merged one is
  pub all_read : Each (BodyRead table.images) zs
  all_read = merged_each (by_first_column column) xs ys (each_read table.images xs m.first_read) (each_read table.images ys m.second_read)

  all_sized : Each (Sized (body_size table.images)) zs
  all_sized = read_sized table.images zs all_read

  -- the call's definition gives it
  pub merges_to : merged_file first second ≡ done result
  unfolding merged_file common_table ◌then◌
  merges_to =
      let one : WholeFile = record { table = table; falls = fall m.first_file_columns } in
      let two : WholeFile = record { table = table; falls = fall m.second_file_columns } in
      let none : (fall m.first_file_columns || fall m.second_file_columns) ≡ false =
      ap₂ (λ (a b : Bool). a || b) ((fall_exactly m.first_file_columns).1 m.first_order) ((fall_exactly m.second_file_columns).1 m.second_order) in
      let fine =
      pair_fine (contents_in table first) (contents_in table second) table.images (fall m.first_file_columns || fall m.second_file_columns)
      (record { same = m.contents; kind = kind_fine table.images m.kind; stands = none }) in
      rw (whole_fine first m.first_file m.first_read, whole_fine second m.second_file m.second_read, fine) refl

  -- it is the merged file
  pub result_reads : read_file result ≡ done table
  result_reads = made_reads first m.first_file zs all_sized

  pub result_bodies : bodies_in table result ≡ zs
  result_bodies = made_bodies first m.first_file zs all_sized

  result_merged : MergedFile first second result
  result_merged =
      record {
        table = table;
        reads = result_reads;
        contents = made_contents first m.first_file zs all_sized;
        records = subst (IsMerge column xs ys) (sym result_bodies) ((merge_exactly column first_falls_not second_falls_not zs).1 refl);
      }

  -- and no other is
  result_only : {file : List ℕ} → MergedFile first second file → file ≡ result
  result_only {file} f =
      let told = file_told file f.reads in
      let same : f.table ≡ table =
      one_answer (contents_same file first told.contents (sym f.contents)) (file_told first m.first_file).contents in
      let records = subst (λ (t : Table). IsMerge (first_column_of t.images) (bodies_in t first) (bodies_in t second) (bodies_in t file)) same f.records in
      sym (take-append-drop f.table.size file)
      ∙ ap₂ (λ (a b : List ℕ). a ++ b) f.contents (sym (bodies_joined_are f.table file f.reads))
      ∙ ap (λ (t : Table). file_with (contents_in t first) (bodies_in t file)) same
      ∙ ap (file_with (contents_in table first)) ((merge_exactly column first_falls_not second_falls_not (bodies_in table file)).0 records)

-- Published: two files are merged exactly where all that is asked of them holds, and the result is then their merged file by the four clauses.
pub merged_exactly : (first second file : List ℕ) → (merged_file first second ≡ done file) ↔ (Mergeable first second × MergedFile first second file)
merged_exactly first second file = (
  (λ h. let m = mergeable_of first second h in (m, subst (MergedFile first second) (one_answer (merges_to m) h) (result_merged m))),
  (λ p. merges_to p.0 ∙ ap {B = Answer (List ℕ)} done (sym (result_only p.0 p.1))),
)

-- Published: two files have one merged file.
pub merged_only : {first second f g : List ℕ} → Mergeable first second → MergedFile first second f → MergedFile first second g → f ≡ g
merged_only m f g = result_only m f ∙ sym (result_only m g)

-- Published: the call gives it exactly where the buffer has the room.
pub merging_exactly :
    (first second : List ℕ) (room : ℕ) {file : List ℕ}
    → (merging first second room ≡ done file) ↔ (Mergeable first second × MergedFile first second file × (length file ≤ room))
unfolding merging within ◌then◌
merging_exactly first second room {file} = (
  (λ h.
      let both = then_done (merged_file first second) (within room) h in
      let told = within_told room both.value both.second in
      let e = (merged_exactly first second file).0 (both.first ∙ ap {B = Answer (List ℕ)} done told.0) in
      (e.0, e.1, omega (arith, told.1))),
  (λ p. rw ((merged_exactly first second file).1 (p.0, p.1), le-ltb room (length file) p.2) refl),
)

-- Published: contents of the same images have the same bytes, so that files of the same images are not refused for their contents.
pub contents_same_bytes :
    (first second : List ℕ) {one two : Table}
    → read_file first ≡ done one
    → read_file second ≡ done two
    → one.images ≡ two.images
    → contents_in one first ≡ contents_in two second
contents_same_bytes first second {one} {two} h g e =
    front first (file_told first h).contents ∙ ap contents_bytes e ∙ sym (front second (file_told second g).contents)
  where
    front : (file : List ℕ) {table : Table} → read_contents file ≡ done table → contents_in table file ≡ contents_bytes table.images
    front file {table} h =
        let f = (contents_exactly file).0 h in
        ap₂ take f.size f.whole ∙ take-append_seam f.own f.behind ∙ f.is_contents.rendered

-- What the merged file has.

module _ {first second file : List ℕ} (h : merged_file first second ≡ done file) (m : Mergeable first second) where
  -- the file is the one that is computed
  pub file_is : file ≡ result m
  file_is = one_answer h (merges_to m)

  pub merged_reads : read_file file ≡ done m.table
  merged_reads = ap read_file file_is ∙ result_reads m

  pub merged_bodies : bodies_in m.table file ≡ merged (by_first_column (first_column_of m.table.images)) (bodies_in m.table first) (bodies_in m.table second)
  merged_bodies = ap (bodies_in m.table) file_is ∙ result_bodies m

  -- Published: its record count is the sum.
  pub count_added : record_count m.table file ≡ record_count m.table first + record_count m.table second
  count_added =
      sym (records_count m.table file)
      ∙ ap length merged_bodies
      ∙ merged_length (by_first_column (first_column_of m.table.images)) (bodies_in m.table first) (bodies_in m.table second)
      ∙ ap₂ (λ (a b : ℕ). a + b) (records_count m.table first) (records_count m.table second)

  -- Published: the contents stands in it once, and else it has the bytes of both.
  pub length_added : length file + m.table.size ≡ length first + length second
  length_added =
      let f = file_told first m.first_file in
      let g = file_told second m.second_file in
      let joined : (one : List ℕ) → read_file one ≡ done m.table → length (concat (bodies_in m.table one)) ≡ length (drop m.table.size one) =
      λ one reads. ap length (bodies_joined_are m.table one reads) in
      omega (
        arith,
        f.within,
        g.within,
        ap length file_is,
        length-append (contents_in m.table first) (concat (zs m)),
        length-take-le m.table.size first f.within,
        merged_joined (by_first_column (first_column_of m.table.images)) (bodies_in m.table first) (bodies_in m.table second),
        joined first m.first_file,
        joined second m.second_file,
        length-drop m.table.size first,
        length-drop m.table.size second,
      )

  -- a body of the merged list is a record of the file
  has_record : (place : ℕ) {body : List ℕ} → place < length (bodies_in m.table file) → get_or (bodies_in m.table file) place [] ≡ body → HasRecord m.table file body
  has_record place l e =
      let inside : place < record_count m.table file = omega (arith, records_count m.table file) in
      record { number = place; inside = inside; same = record_at file place merged_reads inside ∙ e }

  -- Published: each record of both files is in it, byte for byte.
  pub records_kept :
      ((r : ℕ) → r < record_count m.table first → HasRecord m.table file (shown_part first r))
      × ((r : ℕ) → r < record_count m.table second → HasRecord m.table file (shown_part second r))
  records_kept = (kept true first m.first_file labels.firsts, kept false second m.second_file labels.seconds)
    where
      labels : IsMerge (first_column_of m.table.images) (bodies_in m.table first) (bodies_in m.table second) (bodies_in m.table file)
      labels =
          subst (IsMerge (first_column_of m.table.images) (bodies_in m.table first) (bodies_in m.table second)) (sym merged_bodies)
          ((merge_exactly (first_column_of m.table.images) (first_falls_not m) (second_falls_not m) _).1 refl)

      kept : (c : Bool) (one : List ℕ) → read_file one ≡ done m.table → of_camera c labels.entries ≡ bodies_in m.table one
          → (r : ℕ) → r < record_count m.table one → HasRecord m.table file (shown_part one r)
      kept c one reads same r l =
          let a = camera_stands c labels.entries r (omega (arith, ap length same, records_count m.table one)) in
          let i = a.inside in
          has_record a.place (omega (arith, i, entries_count (first_column_of m.table.images) labels.entries, ap length labels.whole))
          (ap (λ (bs : List (List ℕ)). get_or bs a.place []) labels.whole
          ∙ a.there
          ∙ ap (λ (bs : List (List ℕ)). get_or bs r []) same
          ∙ sym (record_at one r reads l))

  -- Published: so a record of both files is unpacked from it to the same numbers.
  pub numbers_kept :
      {body : List ℕ} (r : HasRecord m.table file body) → unpack_body m.table.images (shown_part file r.number) ≡ unpack_body m.table.images body
  numbers_kept r = ap (unpack_body m.table.images) r.same

  -- the contents of both, and the bodies behind it, are a file
  contents_and : {one : List ℕ} → read_file one ≡ done m.table → file_with (contents_in m.table one) (bodies_in m.table one) ≡ one
  contents_and {one} reads =
      ap (λ (l : List ℕ). contents_in m.table one ++ l) (bodies_joined_are m.table one reads) ∙ take-append-drop m.table.size one

  -- Published: merging with a file of no records gives the other.
  pub empty_merged : (record_count m.table first ≡ 0 → file ≡ second) × (record_count m.table second ≡ 0 → file ≡ first)
  empty_merged = (
    (λ none.
        let no : bodies_in m.table first ≡ [] = nil_from_length (bodies_in m.table first) (records_count m.table first ∙ none) in
        file_is
        ∙ ap₂ file_with m.contents
        (ap (λ (bs : List (List ℕ)). merged (by_first_column (first_column_of m.table.images)) bs (bodies_in m.table second)) no
        ∙ none_merged (by_first_column (first_column_of m.table.images)) (bodies_in m.table second))
        ∙ contents_and m.second_file),
    (λ none.
        let no : bodies_in m.table second ≡ [] = nil_from_length (bodies_in m.table second) (records_count m.table second ∙ none) in
        file_is
        ∙ ap (file_with (contents_in m.table first))
        (ap (merged (by_first_column (first_column_of m.table.images)) (bodies_in m.table first)) no
        ∙ merged_none (by_first_column (first_column_of m.table.images)) (bodies_in m.table first))
        ∙ contents_and m.first_file),
  )
