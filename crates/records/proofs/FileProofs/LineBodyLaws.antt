-- Laws of the body of a line, written as its numbers are read: the columns that are written, and those of the numbers that are left, are
-- the body. Assumes nothing.
use Rattle.std.proofs.Common.{◌≡◌, ℕ, zero, suc, ◌+◌, ◌<◌, ◌≤◌, List, [], ◌∷◌, ◌++◌, length, drop, get_or, length-drop, ap, ap₂, refl, sym, subst, ◌∙◌, arith}
use lib.Seq.{drop-cons}
use lib.ListN.{drop_of_length-le}
use native.Mathlib.Numerals.{add-one}
use Rattle.decimal.specs.declared.image.Image.{Image}
use Rattle.decimal.specs.declared.number.Number.{Number}
use Rattle.decimal.specs.Answer.{Answer, done, refused, ◌then◌}
use Rattle.decimal.specs.Truncation.{Truncated, Fit, truncated_to, packed_truncation}
use Rattle.decimal.proofs.AnswerLaws.{done_same, never_done, then_done}
use Rattle.codec.specs.declared.text.TextNumber.{TextNumber}
use Rattle.codec.specs.Lists.{max_columns}
use Rattle.codec.specs.Answers.{within, sized, stored_in}
use Rattle.codec.specs.Packing.{column_bytes, storing_column, pack_columns, pack_list}
use Rattle.codec.proofs.BufferLaws.{written_length}
use Rattle.codec.proofs.ColumnTheorem.{Packing, packed_view}
use Rattle.codec.proofs.PackLaws.{storing_packed}
use Rattle.codec.proofs.BodyLaws.{packed_count, packed_columns, packed_length, PackStep, pack_view}
use Rattle.records.specs.Files.Entering.{read_parted, numbers_of, read_line, line_body, body_in, HasBody}
use Rattle.codec.proofs.ComingLaws.{Coming, coming_starts, coming_room, coming_bytes, coming_ends}
use Rattle.records.proofs.WritingLaws.{part_behind, put_behind, behind_all, part_written}
use Rattle.records.proofs.FileProofs.ReportLaws.{within_some}
use Rattle.records.proofs.FileProofs.EntryLaws.{parted_within}

-- numbers of a line of which the first is known
record NumberStep (left k : ℕ) (rest : List ℕ) (n : Number) (ns : List Number) : Type 0 where
  pub others : ℕ
  pub text : TextNumber
  pub reads : read_parted k rest ≡ done text
  pub number : text.number ≡ n
  pub behind : numbers_of others (suc k) (drop text.used rest) ≡ done ns

first_same : {n m : Number} {ns ms : List Number} → ◌≡◌ {A = List Number} (n ∷ ns) (m ∷ ms) → n ≡ m
first_same h = cc

others_same : {n m : Number} {ns ms : List Number} → ◌≡◌ {A = List Number} (n ∷ ns) (m ∷ ms) → ns ≡ ms
others_same h = cc

numbers_view : (left k : ℕ) (rest : List ℕ) {n : Number} {ns : List Number} → numbers_of left k rest ≡ done (n ∷ ns) → NumberStep left k rest n ns
unfolding numbers_of
numbers_view left k [] {n} {ns} h = absurd (omega (arith, ap length (done_same h)))
numbers_view zero k (b ∷ bs) h = never_done h
numbers_view (suc left) k (b ∷ bs) {n} {ns} h =
    let one = then_done (read_parted k (b ∷ bs)) (λ (t : TextNumber). (numbers_of left (suc k) (drop t.used (b ∷ bs)) then λ (l : List Number). done (t.number ∷ l))) h in
    let two = then_done (numbers_of left (suc k) (drop one.value.used (b ∷ bs))) (λ (l : List Number). done (one.value.number ∷ l)) one.second in
    let same = done_same two.second in
    record {
      others = left;
      text = one.value;
      reads = one.first;
      number = first_same same;
      behind = two.first ∙ ap {B = Answer (List Number)} done (others_same same);
    }

-- a column that is next: its number, and those behind it
record ColumnStep (left k : ℕ) (rest : List ℕ) (im : Image) (ims : List Image) (numbers : List Number) (after : List ℕ) : Type 0 where
  pub number : Number
  pub others : List Number
  pub split : numbers ≡ number ∷ others
  pub packs : PackStep k im ims number others after
  pub text : NumberStep left k rest number others

column_step :
    (left k : ℕ) (rest : List ℕ) (im : Image) (ims : List Image) (numbers : List Number) {after : List ℕ}
    → 0 < length numbers
    → numbers_of left k rest ≡ done numbers
    → pack_columns k (im ∷ ims) numbers ≡ done after
    → ColumnStep left k rest im ims numbers after
column_step left k rest im ims [] some read columns = absurd (omega (arith, some))
column_step left k rest im ims (n ∷ ns) some read columns =
    record { number = n; others = ns; split = refl; packs = pack_view k im ims n ns columns; text = numbers_view left k rest read }

-- The numbers that are left from column k on, the columns that they make, and the bytes that come.
pub record Left (ims : List Image) (body : List ℕ) (k : ℕ) (rest now : List ℕ) (at : ℕ) : Type 0 where
  pub left : ℕ
  pub numbers : List Number
  pub after : List ℕ
  pub read : numbers_of left k rest ≡ done numbers
  pub counted : length numbers ≡ length (drop k ims)
  pub columns : pack_columns k (drop k ims) numbers ≡ done after
  pub comes : Coming now at after body
  pub long : length now ≡ length body

module _ {ims : List Image} {line target : List ℕ} (has : HasBody ims line target) where
  -- at the first column all are left
  pub left_starts : Left ims (body_in ims line) 0 line target 0
  unfolding line_body
  left_starts =
      let b = then_done (read_line line) (λ (ns : List Number). pack_list ims ns) has.has in
      record {
        left = max_columns;
        numbers = b.value;
        after = body_in ims line;
        read = b.first;
        counted = packed_count ims b.value b.second;
        columns = packed_columns ims b.value b.second;
        comes = coming_starts target (body_in ims line);
        long = has.long ∙ sym (packed_length ims b.value b.second);
      }

module _ {ims : List Image} {body : List ℕ} {k : ℕ} {rest now : List ℕ} {at : ℕ} (l : Left ims body k rest now at) where
  -- behind the last column the body stands
  pub left_ends : length ims ≤ k → now ≡ body
  unfolding pack_columns
  left_ends over =
      let none : drop k ims ≡ [] = drop_of_length-le ims over in
      let nothing : [] ≡ l.after = done_same (sym (ap (λ (m : List Image). pack_columns k m l.numbers) none) ∙ l.columns) in
      coming_ends (subst (λ (s : List ℕ). Coming now at s body) (sym nothing) l.comes) l.long

  module _ (d : Image) (more : k < length ims) where
    -- the image of the column
    abbrev pub image_at : Image
    image_at = get_or ims k d

    next_image : drop k ims ≡ image_at ∷ drop (suc k) ims
    next_image = drop-cons ims k d more

    -- its number, and those behind it
    step : ColumnStep l.left k rest image_at (drop (suc k) ims) l.numbers l.after
    step =
        column_step l.left k rest image_at (drop (suc k) ims) l.numbers (omega (arith, l.counted, ap length next_image))
        l.read (ap (λ (m : List Image). pack_columns k m l.numbers) (sym next_image) ∙ l.columns)

    abbrev text : TextNumber
    text = step.text.text

    abbrev column : List ℕ
    column = column_bytes image_at step.packs.to

    -- is not refused
    pub number_reads : {B : Type 0} {number place : ℕ} → refused number place ≡ read_parted k rest → B
    number_reads h = never_done (h ∙ step.text.reads)

    module _ {read : TextNumber} (told : done read ≡ read_parted k rest) where
      read_same : read ≡ text
      read_same = done_same (told ∙ step.text.reads)

      pub read_inside : read.used ≤ length rest
      read_inside = parted_within k rest (sym told)

      -- and fits the image
      packs_at : packed_truncation k image_at read.number ≡ done step.packs.to
      packs_at =
          ap (λ (t : TextNumber). packed_truncation k image_at t.number) read_same ∙ ap (packed_truncation k image_at) step.text.number ∙ step.packs.first

      packing : Packing image_at read.number step.packs.to
      packing = packed_view k image_at read.number packs_at

      pub number_fits : Fit image_at read.number
      number_fits = packing.fit

      module _ {im : Image} {cut : Truncated} (said : cut ≡ truncated_to image_at read.number) (own : im ≡ image_at) where
        -- it comes next
        comes_next : Coming now at (column ++ step.packs.rest) body
        comes_next = subst (λ (s : List ℕ). Coming now at s body) (sym step.packs.joined) l.comes

        column_room : at + length column ≤ length now
        column_room = coming_room column step.packs.rest comes_next l.long

        -- there is room for it
        abbrev pub call_at : Answer (List ℕ)
        call_at = storing_column im cut (length (part_behind now at))

        writes : call_at ≡ done column
        writes =
            ap₂ (λ (i : Image) (t : Truncated). storing_column i t (length (part_behind now at))) own said
            ∙ storing_packed k image_at read.number packs_at (length (part_behind now at))
            ∙ ap (λ (t : Truncated). within (length (part_behind now at)) (column_bytes image_at t)) (sym packing.cut)
            ∙ within_some (length (part_behind now at)) column (omega (arith, ap length (behind_all now at), length-drop at now, column_room))

        pub column_stored : {B : Type 0} {number place : ℕ} → refused number place ≡ sized call_at → B
        unfolding sized
        column_stored h = never_done (h ∙ ap sized writes)

        module _ {size : ℕ} (sizes : done size ≡ sized call_at) where
          column_length : size ≡ length column
          unfolding sized
          column_length = done_same (sizes ∙ ap sized writes)

          pub column_fits : at + size ≤ length now
          column_fits = omega (arith, column_room, column_length)

          -- behind it the others are left
          pub left_turns : {last : List ℕ} → last ≡ stored_in call_at (part_behind now at)
              → Left ims body (k + 1) (part_behind rest read.used) (put_behind now at last) (at + size)
          left_turns {last} stored =
              let next = part_written now at column (stored ∙ ap (λ (a : Answer (List ℕ)). stored_in a (part_behind now at)) writes) in
              let behind : drop text.used rest ≡ part_behind rest read.used =
              ap (λ (t : TextNumber). drop t.used rest) (sym read_same) ∙ sym (behind_all rest read.used) in
              rw (add-one k)
              (record {
                left = step.text.others;
                numbers = step.others;
                after = step.packs.rest;
                read = ap (numbers_of step.text.others (suc k)) (sym behind) ∙ step.text.behind;
                counted = omega (arith, l.counted, ap length next_image, ap length step.split);
                columns = step.packs.others;
                comes = coming_bytes column step.packs.rest comes_next l.long column_length next;
                long = ap length next ∙ written_length now at column column_room ∙ l.long;
              })
