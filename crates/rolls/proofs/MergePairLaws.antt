-- Laws of the call that merges: the contents of two files, and the file that it makes of them. Assumes nothing.
use Rattle.std.proofs.Common.{◌≡◌, ℕ, ◌+◌, ◌%◌, ◌<◌, ◌≤◌, Bool, not, refl, ◌||◌, List, length, length-append, get_or, take, drop, ap, ap₂, sym, subst, ◌∙◌, arith}
use lib.Seq.{length-take-le}
use lib.ListN.{length-drop}
use Rattle.std.specs.List.{concat}
use Rattle.std.specs.Prelude.{bytes_eq}
use borrow.Author.Tests.{lt-ltb, le-ltb}
use Rattle.decimal.specs.declared.image.Image.{Image}
use Rattle.decimal.specs.Answer.{Answer, done, refused, ◌then◌}
use Rattle.decimal.proofs.AnswerLaws.{done_same, then_done, then_last, one_answer}
use Rattle.codec.specs.Answers.{within}
use Rattle.codec.specs.Columns.{column_size, body_size, AllChecked}
use Rattle.codec.specs.Contents.{Table, read_alone}
use Rattle.codec.proofs.FrontLaws.{contents_alone}
use Rattle.codec.proofs.OrderingLaws.{column_few_bytes}
use Rattle.codec.specs.Lists.{no_image}
use Rattle.codec.specs.Order.{UnsignedFixed, Bytes}
use Rattle.codec.proofs.ContentsLaws.{contents_sound, checked_at}
use Rattle.codec.proofs.ReadBackTheorem.{bytes_drop}
use Rattle.records.specs.Files.RecordFile.{read_file, bodies_in}
use Rattle.records.proofs.FileProofs.FileLaws.{file_told}
use Rattle.records.specs.Files.Listing.{checked_file}
use Rattle.rolls.specs.Falling.{fall}
use Rattle.rolls.specs.Searching.{first_columns_in, check_kind, refuse_where}
use Rattle.rolls.specs.Merging.{WholeFile, read_whole, contents_in, check_pair, check_contents, common_table, first_column_of, by_first_column, merged, file_with, merged_file, merging, not_behind}
use Rattle.rolls.specs.Runs.{all_bodies, runs_in, runs_fall}
use Rattle.rolls.specs.MergedFiles.{Mergeable}
use Rattle.records.proofs.FileProofs.JoinedLaws.{Each}
use Rattle.rolls.proofs.MergeLaws.{merged_alike, merged_joined}
use Rattle.records.proofs.FileProofs.JoinedLaws.{bodies_bytes}
use Rattle.rolls.proofs.FilledLaws.{filled_whole, filled_joined, bodies_behind}
use Rattle.rolls.proofs.FirstColumnLaws.{BodyRead, each_read}
use Rattle.rolls.proofs.MergeCallLaws.{whole_stops, whole_checked, pair_parts, pair_view, same_bytes}
use Rattle.rolls.proofs.SearchLaws.{FileChecked, file_ordered, ordered_falls, ordered_asked, not_refused}
use Rattle.rolls.proofs.PageLaws.{kind_told}
use Rattle.records.proofs.FileProofs.BodiesLaws.{FileHeld}
use Rattle.rolls.proofs.WalkLaws.{column_within}
use Rattle.rolls.proofs.FirstColumnOrder.{first_image, first_columns, first_columns_compare}

-- The contents of two files, as the code finds it.

module _ (first second : List ℕ) where
  -- refused as the first file is
  pub common_one : {x y : ℕ} → refused x y ≡ checked_file first → common_table first second ≡ refused x y
  unfolding common_table ◌then◌
  common_one h = rw (whole_stops first h)

  module _ {one : Table} (c : FileChecked first one) where
    -- as the second is
    pub common_two : {x y : ℕ} → refused x y ≡ checked_file second → common_table first second ≡ refused x y
    unfolding common_table ◌then◌
    common_two h = rw (whole_checked first c, whole_stops second h)

    module _ {two : Table} (d : FileChecked second two) {contents other : List ℕ} {ims : List Image}
        (front : contents ≡ take one.size first) (other_front : other ≡ take two.size second) (images : ims ≡ one.images) where
      -- the check, as the definition has it
      common_parts : {falls : Bool} → falls ≡ (fall c.columns || fall d.columns)
          → common_table first second ≡ ((check_contents contents other ims then λ _. refuse_where falls 15) then λ _. done one)
      unfolding common_table ◌then◌
      common_parts {falls} told =
          rw (whole_checked first c, whole_checked second d)
          (ap (λ (a : Answer (Unit {0})). a then λ _. done one)
          ((λ i. check_pair (sym front i) (sym other_front i) (sym images i) (sym told i)) ∙ pair_parts contents other ims falls))

      -- 17, 16
      pub common_contents : {x y : ℕ} → refused x y ≡ check_contents contents other ims → common_table first second ≡ refused x y
      unfolding ◌then◌
      common_contents h = common_parts refl ∙ rw (sym h)

      module _ (fine : done tt ≡ check_contents contents other ims) where
        -- both have one table
        same_table : two ≡ one
        unfolding ◌then◌ check_contents
        same_table =
            let taken = then_last (refuse_where (not (bytes_eq contents other)) 17) (check_kind ims) (sym fine) in
            let same = same_bytes contents other (not_refused (not (bytes_eq contents other)) 17 taken.0) in
            one_answer (contents_alone second (file_told second d.held.reads).contents)
            (ap read_alone (sym other_front ∙ sym same ∙ front) ∙ contents_alone first (file_told first c.held.reads).contents)

        -- of a first column that can be compared
        same_kind : UnsignedFixed (first_image one.images)
        unfolding ◌then◌ check_contents
        same_kind = kind_told one.images (ap check_kind (sym images) ∙ (then_last (refuse_where (not (bytes_eq contents other)) 17) (check_kind ims) (sym fine)).1)

        -- so the bodies of both can be, and they fall as their first columns do
        pub record BothOrdered (bytes others : List ℕ) (width size : ℕ) : Type 0 where
          pub one_asked : (width ≤ size) × (0 < size) × (length bytes % size ≡ 0)
          pub two_asked : (width ≤ size) × (0 < size) × (length others % size ≡ 0)
          pub falls : (runs_fall (runs_in width size bytes) || runs_fall (runs_in width size others)) ≡ (fall c.columns || fall d.columns)

        pub both_ordered :
            {bytes others : List ℕ}
            → bytes ≡ drop one.size first
            → others ≡ drop two.size second
            → Bytes first
            → Bytes second
            → {width size : ℕ}
            → width ≡ column_size (first_image one.images)
            → size ≡ body_size one.images
            → BothOrdered bytes others width size
        both_ordered {bytes} {others} e f known other_known {width} {size} k s =
            let same = same_table in
            let second_one : FileChecked second one =
            record {
              held = subst (FileHeld second) same d.held;
              columns = d.columns;
              read = ap (λ (t : Table). first_columns_in t second) (sym same) ∙ d.read;
            } in
            let o = file_ordered c same_kind e in
            let p = file_ordered second_one same_kind (f ∙ ap (λ (t : Table). drop t.size second) same) in
            let bytes_are : Bytes bytes = subst Bytes (sym e) (bytes_drop one.size known) in
            let others_are : Bytes others = subst Bytes (sym f) (bytes_drop two.size other_known) in
            record {
              one_asked = ordered_asked o.0 bytes_are k s;
              two_asked = ordered_asked p.0 others_are k s;
              falls = ap₂ (λ (a b : Bool). a || b) (ordered_falls o.0 bytes_are k s ∙ ap fall o.1) (ordered_falls p.0 others_are k s ∙ ap fall p.1);
            }

        -- 15
        pub common_falls : {falls : Bool} → falls ≡ (fall c.columns || fall d.columns) → {x y : ℕ} → refused x y ≡ refuse_where falls 15 → common_table first second ≡ refused x y
        unfolding ◌then◌
        common_falls told h = common_parts told ∙ rw (sym fine, sym h)

        -- nothing
        pub common_done : {falls : Bool} → falls ≡ (fall c.columns || fall d.columns) → done tt ≡ refuse_where falls 15 → done one ≡ common_table first second
        unfolding ◌then◌
        common_done told h = sym (common_parts told ∙ rw (sym fine, sym h))

-- Records compared by bytes.

-- so they are merged by the bytes of it as by its value
pub merged_by_bytes :
    (ims : List Image) (xs ys : List (List ℕ))
    → AllChecked ims
    → 1 ≤ length ims
    → UnsignedFixed (get_or ims 0 no_image)
    → Each Bytes xs
    → Each Bytes ys
    → Each (BodyRead ims) xs
    → Each (BodyRead ims) ys
    → merged (by_first_column (first_column_of ims)) xs ys ≡ merged (not_behind (column_size (get_or ims 0 no_image))) xs ys
merged_by_bytes ims xs ys a low kind p q r s =
    merged_alike (by_first_column (first_column_of ims)) (not_behind (column_size (first_image ims)))
    (λ x y f g. first_columns_compare ims kind (checked_at a 0 no_image (omega (arith, low))) f g)
    xs ys
    (first_columns ims xs low p r)
    (first_columns ims ys low q s)

-- The call, as the definition has it.

-- refused as the two files are
pub merging_refused : (first second : List ℕ) (room : ℕ) {x y : ℕ} → refused x y ≡ common_table first second → merging first second room ≡ refused x y
unfolding merging merged_file ◌then◌
merging_refused first second room h = rw (sym h)

-- two files of which the contents is found
pub common_view : (first second : List ℕ) {table : Table} → common_table first second ≡ done table → (m : Mergeable first second) × (m.table ≡ table)
unfolding common_table
common_view first second {table} h =
    let one =
    then_done (read_whole first)
    (λ (one : WholeFile).
    (read_whole second then λ (two : WholeFile).
    (check_pair (contents_in one.table first) (contents_in two.table second) one.table.images (one.falls || two.falls) then λ _. done one.table)))
    h in
    let w = one.value in
    let two =
    then_done (read_whole second)
    (λ (two : WholeFile). (check_pair (contents_in w.table first) (contents_in two.table second) w.table.images (w.falls || two.falls) then λ _. done w.table))
    one.second in
    let v = two.value in
    let pair = then_last (check_pair (contents_in w.table first) (contents_in v.table second) w.table.images (w.falls || v.falls)) (done w.table) two.second in
    let p = pair_view first second one.first two.first pair.0 in
    (p.0, ◌∙◌ {a = p.0.table} p.1 (done_same pair.1))

-- What the code makes.

module _ (first second : List ℕ) (t : Table) where
  -- the file that is made
  abbrev pub made_file : List ℕ
  made_file =
      file_with
      (take t.size first)
      (merged (not_behind (column_size (get_or t.images 0 no_image))) (all_bodies (body_size t.images) (drop t.size first)) (all_bodies (body_size t.images) (drop t.size second)))

  -- what the code goes by
  pub record CodeMade : Type 0 where
    pub first_within : t.size ≤ length first
    pub second_within : t.size ≤ length second
    pub image : 0 < length t.images
    pub width : column_size (get_or t.images 0 no_image) ≤ (body_size t.images)
    pub few : column_size (get_or t.images 0 no_image) ≤ 8
    pub some : 0 < (body_size t.images)
    pub first_whole : length (drop t.size first) % (body_size t.images) ≡ 0
    pub second_whole : length (drop t.size second) % (body_size t.images) ≡ 0
    pub made : Bytes first → Bytes second → merged_file first second ≡ done made_file
    pub long : length made_file ≡ length first + length (drop t.size second)

module _ (first second : List ℕ) where
  -- by what was read
  table_made : {table : Table} → common_table first second ≡ done table → CodeMade first second table
  unfolding merged_file ◌then◌
  table_made {table} h =
      let view = common_view first second h in
      let m = view.0 in
      let reads : read_file first ≡ done table = m.first_file ∙ ap {B = Answer Table} done view.1 in
      let other_reads : read_file second ≡ done table = m.second_file ∙ ap {B = Answer Table} done view.1 in
      let f = file_told first reads in
      let g = file_told second other_reads in
      let sound = contents_sound first f.contents in
      let size : ℕ = body_size table.images in
      let width : ℕ = column_size (get_or table.images 0 no_image) in
      let whole : length (drop table.size first) % size ≡ 0 = ap (λ (n : ℕ). n % size) (length-drop table.size first) ∙ f.whole in
      let other_whole : length (drop table.size second) % size ≡ 0 = ap (λ (n : ℕ). n % size) (length-drop table.size second) ∙ g.whole in
      record {
        first_within = f.within;
        second_within = g.within;
        image = omega (arith, sound.low);
        width = column_within table.images sound.low;
        few =
            column_few_bytes (get_or table.images 0 no_image) (subst (λ (t : Table). UnsignedFixed (get_or t.images 0 no_image)) view.1 m.kind)
            (checked_at sound.all 0 no_image (omega (arith, sound.low)));
        some = f.some;
        first_whole = whole;
        second_whole = other_whole;
        made =
            λ known other_known.
            rw h
            (ap (λ (bs : List (List ℕ)). done (file_with (contents_in table first) bs))
            (merged_by_bytes table.images (bodies_in table first) (bodies_in table second) sound.all sound.low
            (subst (λ (t : Table). UnsignedFixed (get_or t.images 0 no_image)) view.1 m.kind)
            (bodies_bytes table first known)
            (bodies_bytes table second other_known)
            (subst (λ (t : Table). Each (BodyRead t.images) (bodies_in t first)) view.1 (each_read m.table.images (bodies_in m.table first) m.first_read))
            (subst (λ (t : Table). Each (BodyRead t.images) (bodies_in t second)) view.1 (each_read m.table.images (bodies_in m.table second) m.second_read))
            ∙ ap₂ (merged (not_behind width)) (bodies_behind table first) (bodies_behind table second)));
        long =
            length-append (contents_in table first) (concat (merged (not_behind width) (all_bodies size (drop table.size first)) (all_bodies size (drop table.size second))))
            ∙ omega (
              arith,
              length-take-le table.size first f.within,
              f.within,
              length-drop table.size first,
              merged_joined (not_behind width) (all_bodies size (drop table.size first)) (all_bodies size (drop table.size second)),
              ap length (filled_joined f.some (filled_whole size (drop table.size first) whole)),
              ap length (filled_joined f.some (filled_whole size (drop table.size second) other_whole)),
            );
      }

  -- and as the code holds it
  pub code_made : {t : Table} → done t ≡ common_table first second → CodeMade first second t
  code_made h = table_made (sym h)

  -- so it is inside both files, and has an image
  pub common_first : {t : Table} → done t ≡ common_table first second → t.size ≤ length first
  common_first h = (code_made h).first_within

  pub common_second : {t : Table} → done t ≡ common_table first second → t.size ≤ length second
  common_second h = (code_made h).second_within

  pub common_images : {t : Table} → done t ≡ common_table first second → 0 < length t.images
  common_images h = (code_made h).image

module _ {first second : List ℕ} {t : Table} (c : CodeMade first second t) (known : Bytes first) (other_known : Bytes second) (room : ℕ) where
  -- 6 where there is not the room
  pub made_short : room < length first + length (drop t.size second) → merging first second room ≡ refused 6 0
  unfolding merging within ◌then◌
  made_short h = rw (c.made known other_known, lt-ltb room (length (made_file first second t)) (omega (arith, c.long)))

  -- else the file
  pub made_done : length first + length (drop t.size second) ≤ room → merging first second room ≡ done (made_file first second t)
  unfolding merging within ◌then◌
  made_done h = rw (c.made known other_known, le-ltb room (length (made_file first second t)) (omega (arith, c.long)))
