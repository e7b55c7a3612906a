-- A file cut short: its whole length is the longest used length whose bodies are whole; cut to it, the file is read, and shows every record that
-- was whole; a file that is not torn has its own length. Assumes nothing.
use Prim.Native.Nat.{ℕ, ◌+◌, ◌-◌, ◌*◌, ◌/◌, ◌%◌, ◌<◌, ◌≤◌}
use mathlib.Core.Path.{◌≡◌, refl, ap, sym, subst, ◌∙◌}
use mathlib.Core.List.{List, [], ◌++◌, append-nil}
use mathlib.Core.Logic.{◌↔◌}
use native.Mathlib.Omega.{arith}
use native.Mathlib.Nat.{mod-eq_of_lt, div-add-mod', add-mul-mod_self_right, mul-mod_left, mul-div_cancel, mul-le-mul_right, le-div_iff_mul-le, le_antisymm}
use lib.ListN.{length, take, drop, length-append}
use lib.Seq.{length-take-le, take-take, take-length, take-append-le, take-append_seam, take-append-add}
use Rattle.std.proofs.lemmas.List.{drop-take}
use lib.Dec.{ltb}
use borrow.Author.Tests.{le-ltb}
use Rattle.decimal.specs.declared.number.Number.{Number}
use Rattle.decimal.specs.Answer.{Answer, done, refused}
use Rattle.decimal.proofs.AnswerLaws.{never_done, done_same, then_done}
use Rattle.decimal.proofs.RefusalLaws.{only_done, only_refused, only_choice, only_then}
use Rattle.codec.specs.Answers.{within, written}
use Rattle.codec.specs.Columns.{body_size}
use Rattle.codec.specs.Contents.{Table, read_contents}
use Rattle.codec.specs.Packing.{pack_list}
use Rattle.codec.proofs.BodyLaws.{packed_length}
use Rattle.codec.proofs.FrontLaws.{contents_same, contents_within, contents_body}
use Rattle.codec.proofs.RefusalLaws.{contents_refusals, list_refusals}
use Rattle.records.specs.declared.files.whole.WholeLength.{WholeLength}
use Rattle.records.specs.Files.RecordFile.{read_file, record_count, read_used, added, shown, part_of, shown_part}
use Rattle.records.specs.Files.Adding.{file_before, FileRefusable}
use Rattle.records.specs.Files.WholeLength.{WholeBodies, IsWhole, whole_in, whole_length_of, cut_to, CutBack, AddsBehind, cut_in_add}
use Rattle.records.proofs.FileProofs.FileLaws.{FileRead, file_done, file_told, shown_there, added_packed, added_told}
use Rattle.records.proofs.FileProofs.FileTheorem.{after_put}
use Rattle.records.proofs.FileProofs.WholeLengthLaws.{whole_refused, whole_done}

-- What the whole length is.

module _ (file : List ℕ) {table : Table} (contents : read_contents file ≡ done table) where
  -- the size of a body, and the bytes behind the contents
  abbrev size : ℕ
  size = body_size table.images

  abbrev behind : ℕ
  behind = length file - table.size

  -- it has the contents, and as many bodies as the bytes behind that have room for
  whole_made : (whole_in table file).length ≡ table.size + behind / size * size
  unfolding whole_in
  whole_made = let parts = div-add-mod' behind size in omega (arith, contents_within file contents)

  -- what stands behind it is the rest
  whole_rest : (whole_in table file).length + (whole_in table file).behind ≡ length file
  unfolding whole_in
  whole_rest = let parts = div-add-mod' behind size in omega (arith, contents_within file contents)

  -- no longer used length within the file has whole bodies
  whole_longest : (used : ℕ) → WholeBodies table used → used ≤ length file → used ≤ (whole_in table file).length
  whole_longest used b inside =
      let few : b.count ≤ behind / size =
      (le-div_iff_mul-le {k = size} {x = b.count} {y = behind} (contents_body file contents)).1 (omega (arith, b.fills)) in
      let less = mul-le-mul_right size few in
      omega (arith, b.fills, whole_made)

  -- its bodies are whole
  whole_bodies : WholeBodies table (whole_in table file).length
  whole_bodies = record { count = behind / size; fills = whole_made }

  -- so it is what the sentence says
  whole_is : IsWhole file (whole_in table file)
  whole_is =
      record {
        table = table;
        contents = contents;
        whole = whole_bodies;
        inside = omega (arith, whole_rest);
        longest = whole_longest;
        behind = whole_rest;
      }

-- Published: the call's answer is the longest used length whose bodies are whole, and the count of bytes behind it, and nothing else is.
pub whole_exactly : (file : List ℕ) (w : WholeLength) → (whole_length_of file ≡ done w) ↔ IsWhole file w
unfolding whole_length_of
whole_exactly file w = (
  λ h.
      let b = then_done (read_contents file) (λ (t : Table). done (whole_in t file)) h in
      subst (IsWhole file) (done_same b.second) (whole_is file b.first),
  λ t.
      let own : WholeLength = whole_in t.table file in
      let all = whole_rest file t.contents in
      let most : w.length ≤ own.length = whole_longest file t.contents w.length t.whole t.inside in
      let least : own.length ≤ w.length = t.longest own.length (whole_bodies file t.contents) (omega arith) in
      let same : own.length ≡ w.length = le_antisymm least most in
      let rest : own.behind ≡ w.behind = omega (arith, t.behind) in
      whole_done file t.contents ∙ λ i. done (record { length = same i; behind = rest i }),
)

-- Published: the call is refused exactly as the contents at the front of the file is: never with 11 for a body.
pub whole_refused_exactly :
    (file : List ℕ) {number place : ℕ}
    → (whole_length_of file ≡ refused number place) ↔ (read_contents file ≡ refused number place)
whole_refused_exactly file {number} {place} = (go (read_contents file) refl, whole_refused file)
  where
    go : (a : Answer Table) → read_contents file ≡ a → whole_length_of file ≡ refused number place → read_contents file ≡ refused number place
    go (done t) e h = never_done (sym h ∙ whole_done file e)
    go (refused x y) e h =
        let q : ◌≡◌ {A = Answer WholeLength} (refused x y) (refused number place) = sym (whole_refused file e) ∙ h in
        let n : x ≡ number = cc in
        let p : y ≡ place = cc in
        e ∙ λ i. refused (n i) (p i)

-- Published: no other refusals are given.
pub whole_refusals : (file : List ℕ) {number place : ℕ} → whole_length_of file ≡ refused number place → FileRefusable number place
whole_refusals file h =
    (contents_refusals {kind = FileRefusable} (λ column. FileRefusable.no_image_lem) (λ column. FileRefusable.many_digits) FileRefusable.wrong_length file
    FileRefusable.wrong_count).each ((whole_refused_exactly file).0 h)

-- Cutting a file.

module _ (file : List ℕ) {table : Table} (contents : read_contents file ≡ done table) where
  -- so many bytes of it
  abbrev first : ℕ → List ℕ
  first used = take used file

  -- they have its contents where they reach so far
  first_contents : (used : ℕ) → table.size ≤ used → read_contents (first used) ≡ done table
  first_contents used h = contents_same file (first used) contents (take-take table.size used file h)

  -- bodies behind a contents leave nothing over
  bodies_only : (used : ℕ) → WholeBodies table used → (used - table.size) % body_size table.images ≡ 0
  bodies_only used b =
      let left : used - table.size ≡ b.count * body_size table.images = omega (arith, b.fills) in
      ap (λ (n : ℕ). n % body_size table.images) left ∙ mul-mod_left b.count (body_size table.images)

  -- Published: the used lengths of which a file is read, and not refused with 11 for its bodies, are those whose bodies are whole.
  pub used_exactly : (used : ℕ) → used ≤ length file → (read_file (first used) ≡ done table) ↔ WholeBodies table used
  used_exactly used inside = (
    λ h.
        let t = file_told (first used) h in
        let n = length-take-le used file inside in
        let parts = div-add-mod' (length (first used) - table.size) (body_size table.images) in
        record {
          count = (length (first used) - table.size) / body_size table.images;
          fills = omega (arith, t.within, t.whole);
        },
    λ b.
        file_done (first used) (first_contents used (omega (arith, b.fills)))
        (ap (λ (n : ℕ). (n - table.size) % body_size table.images) (length-take-le used file inside) ∙ bodies_only used b),
  )

  -- what it is cut to
  abbrev whole : WholeLength
  whole = whole_in table file

  abbrev left : List ℕ
  left = cut_to whole file

  -- the count of its whole bodies
  abbrev count : ℕ
  count = (length file - table.size) / body_size table.images

  -- the whole length is within the file
  whole_inside : whole.length ≤ length file
  whole_inside = omega (arith, whole_rest file contents)

  -- what is left is so long
  left_long : length left ≡ table.size + count * body_size table.images
  left_long = length-take-le whole.length file whole_inside ∙ whole_made file contents

  -- it is a file of the same contents
  left_reads : read_file left ≡ done table
  left_reads = (used_exactly whole.length whole_inside).1 (whole_bodies file contents)

  -- of as many records as were whole
  left_count : record_count table left ≡ record_count table file
  unfolding record_count
  left_count =
      let n : length left - table.size ≡ count * body_size table.images = omega (arith, left_long) in
      ap (λ (k : ℕ). k / body_size table.images) n ∙ mul-div_cancel count (contents_body file contents)

  -- a whole record ends within what is left
  left_inside : (r : ℕ) → r < record_count table file → table.size + r * body_size table.images + body_size table.images ≤ whole.length
  unfolding record_count
  left_inside r h =
      let most = mul-le-mul_right {m = r + 1} {n = count} (body_size table.images) (omega arith) in
      omega (arith, whole_made file contents)

  -- each is shown where it stood
  left_shows :
      (r : ℕ)
      → r < record_count table file
      → shown left r ≡ done (record { start = table.size + r * body_size table.images; size = body_size table.images })
  left_shows r h = shown_there left r left_reads (omega (arith, left_count))

  -- a part of a list that ends within its first elements is the same part of these
  part_kept : (start size most : ℕ) → start + size ≤ most → take size (drop start (take most file)) ≡ take size (drop start file)
  part_kept start size most h =
      let n : start + (most - start) ≡ most = omega arith in
      ap (λ (k : ℕ). take size (drop start (take k file))) (sym n)
      ∙ ap (take size) (drop-take start (most - start) file)
      ∙ take-take size (most - start) (drop start file) (omega arith)

  -- with the bytes that it had
  left_part :
      (r : ℕ)
      → r < record_count table file
      → shown_part left r ≡ take (body_size table.images) (drop (table.size + r * body_size table.images) file)
  unfolding part_of
  left_part r h =
      ap (part_of left) (left_shows r h)
      ∙ part_kept (table.size + r * body_size table.images) (body_size table.images) whole.length (left_inside r h)

  -- so all of it stands
  left_stands : CutBack file whole
  left_stands =
      record {
        table = table;
        contents = contents;
        reads = left_reads;
        counted = left_count;
        shows = left_shows;
        part = left_part;
      }

-- Published: cut to its whole length, a file is read, with the contents that it had, and shows every record that was whole.
pub cut_back : (file : List ℕ) (w : WholeLength) → whole_length_of file ≡ done w → CutBack file w
unfolding whole_length_of
cut_back file w h =
    let b = then_done (read_contents file) (λ (t : Table). done (whole_in t file)) h in
    subst (CutBack file) (done_same b.second) (left_stands file b.first)

-- Adding behind the whole length.

-- a used length within a buffer is looked at as the file of so many bytes
used_file : (buffer : List ℕ) (used : ℕ) → used ≤ length buffer → read_used buffer used ≡ read_file (take used buffer)
unfolding read_used
used_file buffer used h = rw (le-ltb (length buffer) used h)

-- any number but 11
abbrev not_eleven : ℕ → ℕ → Type 0
not_eleven number place = number ≡ 11 → ⊥

module _ (file buffer : List ℕ) (w : WholeLength) (h : whole_length_of file ≡ done w) (same : take w.length buffer ≡ cut_to w file) (inside : w.length ≤ length buffer) where
  -- Published: with the file's whole bodies in the first bytes of a buffer, records are added behind them.
  pub adds_behind : AddsBehind file buffer w
  adds_behind =
      let c = cut_back file w h in
      let reads : read_used buffer w.length ≡ done c.table = used_file buffer w.length inside ∙ ap read_file same ∙ c.reads in
      record { table = c.table; contents = c.contents; reads = reads; adds = λ ns. added_packed buffer w.length ns reads }

  -- Published: so adding is never refused with 11 there.
  pub adds_no_length : (ns : List Number) {place : ℕ} → added buffer w.length ns ≡ refused 11 place → ⊥
  unfolding within
  adds_no_length ns {place} e =
      let t = adds_behind in
      let six : not_eleven 6 0 = λ z. absurd (omega arith) in
      (only_then {kind = not_eleven} (pack_list t.table.images ns)
      (list_refusals {kind = not_eleven} (λ column. λ z. absurd (omega arith)) (λ column. λ z. absurd (omega arith)) (λ column. λ z. absurd (omega arith))
      (λ column. λ z. absurd (omega arith)) (λ column. λ z. absurd (omega arith)) t.table.images ns (λ z. absurd (omega arith)))
      (λ body. only_choice (ltb (length buffer - w.length) (length body)) (only_refused six) only_done)).each
      (sym (t.adds ns) ∙ e) refl

-- Files that are not torn.

-- so many bodies and a shorter rest leave the rest over
rest_over : (n k size : ℕ) → n % size ≡ 0 → k < size → (n + k) % size ≡ k
rest_over n k size whole less =
    let parts = div-add-mod' n size in
    let same : n + k ≡ k + n / size * size = omega arith in
    ap (λ (m : ℕ). m % size) same ∙ add-mul-mod_self_right k (n / size) size ∙ mod-eq_of_lt less

module _ (file rest : List ℕ) {table : Table} (reads : read_file file ≡ done table) (less : length rest < body_size table.images) where
  -- what the file tells
  told : FileRead file table
  told = file_told file reads

  -- bytes behind it change nothing of its contents
  torn_contents : read_contents (file ++ rest) ≡ done table
  torn_contents = contents_same file (file ++ rest) told.contents (take-append-le table.size file rest told.within)

  -- fewer than a body has are the rest
  torn_rest : (length (file ++ rest) - table.size) % body_size table.images ≡ length rest
  torn_rest =
      let n : length (file ++ rest) - table.size ≡ length file - table.size + length rest = omega (arith, length-append file rest, told.within) in
      ap (λ (k : ℕ). k % body_size table.images) n ∙ rest_over (length file - table.size) (length rest) (body_size table.images) told.whole less

  -- Published: a file behind which fewer bytes stand than a body has is the whole of it, and they are the bytes behind.
  pub torn_length : whole_length_of (file ++ rest) ≡ done (record { length = length file; behind = length rest })
  unfolding whole_in
  torn_length =
      let n : length (file ++ rest) - length rest ≡ length file = omega (arith, length-append file rest) in
      whole_done (file ++ rest) torn_contents
      ∙ (λ i. done (record { length = length (file ++ rest) - torn_rest i; behind = torn_rest i }))
      ∙ λ i. done (record { length = n i; behind = length rest })

-- Published: so every call on what such a file is cut to has the file itself.
pub torn_cut : (file rest : List ℕ) → cut_to (record { length = length file; behind = length rest }) (file ++ rest) ≡ file
torn_cut file rest = take-append_seam file rest

-- Published: a file that is not torn has its own length, with no byte behind it;
pub own_length : (file : List ℕ) {table : Table} → read_file file ≡ done table → whole_length_of file ≡ done (record { length = length file; behind = 0 })
own_length file reads =
    let t = file_told file reads in
    ap whole_length_of (sym (append-nil file)) ∙ torn_length file [] reads t.some

-- Published: and a file with no byte behind its whole length is not torn.
pub none_torn : (file : List ℕ) (w : WholeLength) → whole_length_of file ≡ done w → w.behind ≡ 0 → (table : Table) × (read_file file ≡ done table)
none_torn file w h none =
    let c = cut_back file w h in
    let sum = ((whole_exactly file w).0 h).behind in
    let all : w.length ≡ length file = omega arith in
    (c.table, ap read_file (sym (take-length file) ∙ ap (λ (k : ℕ). take k file) (sym all)) ∙ c.reads)

-- Published: what an add has written where not all bytes of the body were has the file before as its whole.
pub add_cut :
    (buffer : List ℕ) (used : ℕ) (ns : List Number) {body : List ℕ} (count : ℕ)
    → added buffer used ns ≡ done body
    → count < length body
    → (whole_length_of (cut_in_add buffer used body count) ≡ done (record { length = used; behind = count }))
    × (take used (cut_in_add buffer used body count) ≡ file_before buffer used)
add_cut buffer used ns {body} count h less =
    let t = added_told buffer used ns h in
    let long = packed_length t.table.images ns t.packs in
    let before : List ℕ = file_before buffer used in
    let inside : used ≤ length buffer = omega (arith, t.room) in
    let size : length before ≡ used = length-take-le used buffer inside in
    let rest : length (take count body) ≡ count = length-take-le count body (omega arith) in
    let same : cut_in_add buffer used body count ≡ before ++ take count body =
    sym (take-take (used + count) (used + length body) (written buffer used body) (omega arith))
    ∙ ap (take (used + count)) (after_put buffer used body inside)
    ∙ ap (λ (k : ℕ). take (k + count) (before ++ body)) (sym size)
    ∙ take-append-add before body count in (
      ap whole_length_of same
          ∙ torn_length before (take count body) t.reads (omega (arith, rest))
          ∙ λ i. done (record { length = size i; behind = rest i }),
      ap (take used) same
          ∙ ap (λ (k : ℕ). take k (before ++ take count body)) (sym size)
          ∙ take-append_seam before (take count body),
    )
