-- Laws of entering records: the lines of a text, the numbers of a line, and the bodies that they make. Assumes nothing.
use Rattle.std.proofs.Common.{◌≡◌, ℕ, suc, ◌+◌, ◌-◌, ◌*◌, ◌<◌, ◌≤◌, ◌==◌, Bool, true, false, not, cond, List, [], ◌∷◌, ◌++◌, length, take, drop, length-drop, length-append, append_assoc, append-nil, ap, ap₂, sym, refl, subst, ◌∙◌, arith}
use Rattle.std.specs.Prelude.{Option, None, Some, is_some, MatchOption, nat_eq}
use Rattle.std.specs.Borrow.{Bor}
use Rattle.std.specs.Cmp.Lexicographic.{pointwise}
use Rattle.std.specs.List.{prefix_len}
use Rattle.codec.specs.Walking.{line_end}
use Rattle.std.proofs.Common.{◌⊎◌, ⊎_elim}
use Rattle.decimal.specs.Answer.{Answer, done, refused, ◌then◌, pick, checked_only, given}
use Rattle.decimal.specs.declared.number.Number.{Number}
use Rattle.codec.specs.Lists.{max_columns}
use Rattle.codec.specs.declared.text.TextNumber.{TextNumber}
use Rattle.codec.specs.Text.{read_text, legal_length}
use Rattle.records.specs.declared.files.entering.Lines.{Lines}
use Rattle.records.specs.Files.Listing.{columns_word, records_word}
use Rattle.records.specs.Files.Entering.{line_size, first_line, behind_line, onto, lines_in, placed, is_parted, read_parted, numbers_of, read_line, line_body}
use Rattle.records.specs.Files.Entering.{Entry, entered, rejected, at_line, on_line, next_of, begins_with, check_count, is_foot, line_bodies, text_bodies, bodies_of, counted_bodies, given_bodies, body_in, HasBody, Fills}
use Rattle.decimal.specs.declared.image.Image.{Image}
use Rattle.decimal.proofs.AnswerLaws.{never, never_done, done_same}
use Rattle.decimal.proofs.KeptLaws.{checked_refused}
use Rattle.codec.proofs.BodyLaws.{checked_done}
use Rattle.codec.proofs.UnpackLaws.{given_done}
use borrow.Author.Tests.{ne_eqb}
use native.Mathlib.Numerals.{add-one}
use Rattle.decimal.proofs.BoolLaws.{zero_or_not}
use Rattle.codec.proofs.ComingLaws.{Coming, coming_starts, coming_long, coming_room, coming_bytes, coming_ends, lent_written}
use Rattle.records.proofs.WritingLaws.{part_behind, behind_all}
use Rattle.codec.proofs.BufferLaws.{written_length}
use borrow.Rule.Slice.PartMut.{put_mid}
use Rattle.std.specs.List.{concat}
use Rattle.codec.specs.Packing.{pack_list}
use Rattle.codec.specs.Columns.{body_size}
use Rattle.codec.proofs.BodyLaws.{packed_length}
use native.Mathlib.Nat.{suc-mul}
use Rattle.std.proofs.Common.{zero-mul, inl, inr}
use Rattle.decimal.proofs.AnswerLaws.{then_done}
use Rattle.codec.proofs.LongestTheorem.{longest}
use Rattle.codec.proofs.ReadingTheorem.{read_done}
use Rattle.codec.proofs.TextLaws.{reads_none}

-- The lines of a text.

-- the bytes before the first 0A, as the library counts them
pub size_prefix : (bytes : List ℕ) → prefix_len (λ b. not (b == line_end)) bytes ≡ line_size bytes
size_prefix [] = refl
size_prefix (b ∷ bs) = go (b == line_end) (size_prefix bs)
  where
    go : (k : Bool) → prefix_len (λ b. not (b == line_end)) bs ≡ line_size bs → cond (not k) (1 + prefix_len (λ b. not (b == line_end)) bs) 0 ≡ pick k 0 (suc (line_size bs))
    go true h = refl
    go false h = omega (arith, h)

-- are within the text
pub line_inside : (text : List ℕ) → line_size text ≤ length text
line_inside [] = omega arith
line_inside (b ∷ bs) = go (b == line_end) (line_inside bs)
  where
    go : (k : Bool) → line_size bs ≤ length bs → pick k 0 (suc (line_size bs)) ≤ suc (length bs)
    go true h = omega arith
    go false h = omega (arith, h)

-- a text that has bytes is its first line and the lines behind it
split_first :
    (b : ℕ) (bs : List ℕ) (k : Bool)
    → onto b (lines_in bs) ≡ (b ∷ first_line bs) ∷ lines_in (behind_line bs)
    → pick k ([] ∷ lines_in bs) (onto b (lines_in bs))
    ≡ take (pick k 0 (suc (line_size bs))) (b ∷ bs) ∷ lines_in (drop 1 (drop (pick k 0 (suc (line_size bs))) (b ∷ bs)))
split_first b bs true h = refl
split_first b bs false h = h

pub lines_split : (text : List ℕ) → 0 < length text → lines_in text ≡ first_line text ∷ lines_in (behind_line text)
unfolding lines_in onto
lines_split [] h = absurd (omega arith)
lines_split (b ∷ []) h = split_first b [] (b == line_end) refl
lines_split (b ∷ (c ∷ cs)) h = split_first b (c ∷ cs) (b == line_end) (ap (onto b) (lines_split (c ∷ cs) (omega arith)))

-- fewer bytes stand behind it
pub behind_fewer : (text : List ℕ) → 0 < length text → length (behind_line text) < length text
behind_fewer text some =
    omega (arith, some, length-drop 1 (drop (line_size text) text), length-drop (line_size text) text)

-- a text has no line only where it has no byte
pub lines_none : (text : List ℕ) → length (lines_in text) ≡ 0 → length text ≡ 0
lines_none [] h = refl
lines_none (b ∷ bs) h = absurd (omega (arith, ap length (lines_split (b ∷ bs) (omega arith))))

no_lines : (text : List ℕ) → length text ≡ 0 → lines_in text ≡ []
unfolding lines_in
no_lines [] h = refl
no_lines (b ∷ bs) h = absurd (omega (arith, h))

-- The numbers of a line.

-- a number that is read uses bytes, and none behind the text
pub read_some : (text : List ℕ) {t : TextNumber} → read_text text ≡ done t → 0 < t.used
read_some text {t} h =
    ⊎_elim
    (λ (none : legal_length text ≡ 0). never (reads_none text none) h)
    (λ (some : legal_length text ≡ 0 → ⊥). omega (arith, some, (read_done text h).0))
    (zero_or_not (legal_length text))

pub read_within : (text : List ℕ) {t : TextNumber} → read_text text ≡ done t → t.used ≤ length text
read_within text h = omega (arith, (read_done text h).0, (longest text).inside)

module _ (index : ℕ) (text : List ℕ) where
  -- refused as it is read, with its index
  pub parted_refused : {number place : ℕ} → read_text text ≡ refused number place → read_parted index text ≡ refused number index
  unfolding read_parted placed ◌then◌
  parted_refused h = rw h

  -- else it is parted
  pub parted_done : {t : TextNumber} → read_text text ≡ done t → is_parted text t.used ≡ true → read_parted index text ≡ done t
  unfolding read_parted placed ◌then◌
  parted_done h e = rw (h, e)

  -- or 8
  pub parted_none : {t : TextNumber} → read_text text ≡ done t → is_parted text t.used ≡ false → read_parted index text ≡ refused 8 index
  unfolding read_parted placed ◌then◌
  parted_none h e = rw (h, e)

  -- a number that is read parted is read
  pub parted_told : {t : TextNumber} → read_parted index text ≡ done t → (read_text text ≡ done t) × (is_parted text t.used ≡ true)
  unfolding read_parted placed ◌then◌
  parted_told {t} h = go (read_text text) refl h
    where
      chosen : (r : TextNumber) (k : Bool) → is_parted text r.used ≡ k → read_text text ≡ done r → pick k (done r) (refused 8 index) ≡ done t
          → (read_text text ≡ done t) × (is_parted text t.used ≡ true)
      chosen r true k e h = let same : r ≡ t = done_same h in (subst (λ (x : TextNumber). read_text text ≡ done x) same e, subst (λ (x : TextNumber). is_parted text x.used ≡ true) same k)
      chosen r false k e h = never_done h

      go : (a : Answer TextNumber) → read_text text ≡ a
          → (placed index a then λ (r : TextNumber). pick (is_parted text r.used) (done r) (refused 8 index)) ≡ done t
          → (read_text text ≡ done t) × (is_parted text t.used ≡ true)
      go (done r) e h = chosen r (is_parted text r.used) refl e h
      go (refused number place) e h = never_done h

-- and so uses bytes, and none behind the text
pub parted_some : (index : ℕ) (text : List ℕ) {t : TextNumber} → read_parted index text ≡ done t → 0 < t.used
parted_some index text h = read_some text (parted_told index text h).0

pub parted_within : (index : ℕ) (text : List ℕ) {t : TextNumber} → read_parted index text ≡ done t → t.used ≤ length text
parted_within index text h = read_within text (parted_told index text h).0

-- so fewer are left
pub parted_fewer : (index : ℕ) (text : List ℕ) {t : TextNumber} → read_parted index text ≡ done t → length (part_behind text t.used) < length text
parted_fewer index text {t} h = omega (arith, ap length (behind_all text t.used), length-drop t.used text, parted_some index text h, parted_within index text h)

-- Reading a line: the numbers that are read and those that are left are the whole.

-- numbers before those of an answer
unfoldable pub before : List Number → Answer (List Number) → Answer (List Number)
before front (done ns) = done (front ++ ns)
before front (refused number place) = refused number place

nothing_before : (a : Answer (List Number)) → a ≡ before [] a
unfolding before
nothing_before (done ns) = refl
nothing_before (refused number place) = refl

before_none : (front : List Number) → before front (done []) ≡ done front
unfolding before
before_none front = ap (λ (l : List Number). done l) (append-nil front)

before_number : (front : List Number) (n : Number) (a : Answer (List Number))
    → before front (a then λ (ns : List Number). done (n ∷ ns)) ≡ before (front ++ n ∷ []) a
unfolding before ◌then◌
before_number front n (done ns) = ap (λ (l : List Number). done l) (sym (append_assoc front (n ∷ []) ns))
before_number front n (refused number place) = refl

-- no byte is left
numbers_end : (left index : ℕ) (rest : List ℕ) → length rest ≡ 0 → numbers_of left index rest ≡ done []
unfolding numbers_of
numbers_end left index [] none = refl
numbers_end left index (b ∷ bs) none = absurd (omega (arith, none))

-- bytes are left, and no number may follow
numbers_full : (index : ℕ) (rest : List ℕ) → 0 < length rest → numbers_of 0 index rest ≡ refused 10 0
unfolding numbers_of
numbers_full index [] some = absurd (omega (arith, some))
numbers_full index (b ∷ bs) some = refl

-- the next number is refused
pub numbers_refused : (left index : ℕ) (rest : List ℕ) {number place : ℕ} → 0 < length rest → read_parted index rest ≡ refused number place → numbers_of (suc left) index rest ≡ refused number place
unfolding numbers_of ◌then◌
numbers_refused left index [] some h = absurd (omega (arith, some))
numbers_refused left index (b ∷ bs) some h = rw h

-- or read
pub numbers_number : (left index : ℕ) (rest : List ℕ) {t : TextNumber} → 0 < length rest → read_parted index rest ≡ done t
    → numbers_of (suc left) index rest ≡ (numbers_of left (suc index) (drop t.used rest) then λ (ns : List Number). done (t.number ∷ ns))
unfolding numbers_of ◌then◌
numbers_number left index [] some h = absurd (omega (arith, some))
numbers_number left index (b ∷ bs) some h = rw h

-- the numbers that are read, with those that are left
pub record LineRead (line : List ℕ) (front : List Number) (rest : List ℕ) : Type 0 where
  pub left : ℕ
  pub room : left + length front ≡ max_columns
  pub whole : read_line line ≡ before front (numbers_of left (length front) rest)

-- the start
pub line_starts : (line : List ℕ) → LineRead line [] line
unfolding before
line_starts line = record { left = max_columns; room = refl; whole = nothing_before (numbers_of max_columns 0 line) }

module _ {line : List ℕ} {front : List Number} {rest : List ℕ} (r : LineRead line front rest) where
  -- the end
  pub line_ends : length rest ≡ 0 → done front ≡ read_line line
  line_ends none = sym (r.whole ∙ ap (before front) (numbers_end r.left (length front) rest none) ∙ before_none front)

  -- there is no room for one more
  pub line_full : 0 < length rest → max_columns ≤ length front → read_line line ≡ refused 10 0
  unfolding before
  line_full some full =
      let none : r.left ≡ 0 = omega (arith, r.room) in
      r.whole ∙ ap (λ (n : ℕ). before front (numbers_of n (length front) rest)) none ∙ ap (before front) (numbers_full (length front) rest some)

  -- the next number is refused
  pub line_refused : {number place : ℕ} → 0 < length rest → length front < max_columns → read_parted (length front) rest ≡ refused number place → read_line line ≡ refused number place
  unfolding before
  line_refused some room h =
      let one : r.left ≡ suc (r.left - 1) = omega (arith, r.room) in
      r.whole ∙ ap (λ (n : ℕ). before front (numbers_of n (length front) rest)) one
      ∙ ap (before front) (numbers_refused (r.left - 1) (length front) rest some h)

  -- a number more
  pub line_turns : {t : TextNumber} {next : List Number} → 0 < length rest → length front < max_columns → read_parted (length front) rest ≡ done t
      → next ≡ front ++ t.number ∷ [] → LineRead line next (part_behind rest t.used)
  line_turns {t} {next} some room h pushed =
      let one : r.left ≡ suc (r.left - 1) = omega (arith, r.room) in
      let moved = behind_all rest t.used in
      let many : suc (length front) ≡ length next = omega (arith, ap length pushed, length-append front (t.number ∷ [])) in
      record {
        left = r.left - 1;
        room = omega (arith, r.room, many);
        whole =
            r.whole
            ∙ ap (λ (n : ℕ). before front (numbers_of n (length front) rest)) one
            ∙ ap (before front) (numbers_number (r.left - 1) (length front) rest some h)
            ∙ before_number front t.number (numbers_of (r.left - 1) (suc (length front)) (drop t.used rest))
            ∙ (λ i. before (sym pushed i) (numbers_of (r.left - 1) (many i) (sym moved i)));
      }

-- The body of a line.

module _ (ims : List Image) (line : List ℕ) where
  -- refused as the line's numbers are
  pub body_refused : {number place : ℕ} → checked_only (read_line line) ≡ refused number place → checked_only (line_body ims line) ≡ refused number place
  unfolding line_body checked_only ◌then◌
  body_refused h = rw (checked_refused (read_line line) h)

  -- else as packing them is
  pub body_read :
      {ns : List Number}
      → ns ≡ given (read_line line)
      → checked_only (read_line line) ≡ done tt
      → checked_only (line_body ims line) ≡ checked_only (pack_list ims ns)
  unfolding line_body ◌then◌
  body_read {ns} e h =
      ap (λ (a : Answer (List Number)). checked_only (a then λ ns. pack_list ims ns)) (given_done (sym h))
      ∙ ap (λ (l : List Number). checked_only (pack_list ims l)) (sym e)

-- The lines that have a count.

-- a test does not hold and fail
pub two_values : {B : Type 0} {b : Bool} → b ≡ true → b ≡ false → B
two_values p q = let e : ◌≡◌ {A = Bool} true false = sym p ∙ q in let z : ◌≡◌ {A = ℕ} 0 1 = cc in absurd (omega arith)

-- a text without such a line
headless : (ims : List Image) (text : List ℕ) → begins_with columns_word (first_line text) ≡ false → text_bodies ims (lines_in text) ≡ line_bodies ims 1 0 (lines_in text)
unfolding text_bodies line_bodies lines_in
headless ims [] h = refl
headless ims (b ∷ bs) h =
    let split = lines_split (b ∷ bs) (omega arith) in
    ap (text_bodies ims) split ∙ rw h refl ∙ sym (ap (line_bodies ims 1 0) split)

-- and one with it
headed :
    (ims : List Image) (text : List ℕ)
    → begins_with columns_word (first_line text) ≡ true
    → text_bodies ims (lines_in text)
    ≡ on_line 1 (check_count (length ims) (drop 8 (first_line text))) (λ _. line_bodies ims 2 0 (lines_in (behind_line text)))
unfolding text_bodies begins_with
headed ims [] h = absurd (two_values h refl)
headed ims (b ∷ bs) h = ap (text_bodies ims) (lines_split (b ∷ bs) (omega arith)) ∙ rw h refl

-- the same of the line and the bytes behind it that the code has
module _ (ims : List Image) (text : List ℕ) {line : List ℕ} (e : line ≡ first_line text) where
  -- a text whose first line does not begin with `columns`
  pub head_none : begins_with columns_word line ≡ false → text_bodies ims (lines_in text) ≡ line_bodies ims 1 0 (lines_in text)
  head_none h = headless ims text (ap (begins_with columns_word) (sym e) ∙ h)

  module _ (starts : begins_with columns_word line ≡ true) {digits : List ℕ} (d : digits ≡ drop 8 line) where
    -- what its count decides
    head_counted :
        {a : Answer (Unit {0})}
        → a ≡ check_count (length ims) digits
        → text_bodies ims (lines_in text) ≡ on_line 1 a (λ _. line_bodies ims 2 0 (lines_in (behind_line text)))
    head_counted h =
        headed ims text (ap (begins_with columns_word) (sym e) ∙ starts)
        ∙ ap (λ (b : Answer (Unit {0})). on_line 1 b (λ _. line_bodies ims 2 0 (lines_in (behind_line text))))
        (ap (λ (l : List ℕ). check_count (length ims) (drop 8 l)) (sym e) ∙ sym (h ∙ ap (check_count (length ims)) d))

    -- one that has the count of columns
    pub head_good : {behind : List ℕ} → behind ≡ behind_line text → done tt ≡ check_count (length ims) digits → text_bodies ims (lines_in text) ≡ line_bodies ims 2 0 (lines_in behind)
    unfolding on_line
    head_good b h = head_counted h ∙ ap (λ (r : List ℕ). line_bodies ims 2 0 (lines_in r)) (sym b)

    -- or another
    pub head_bad : {number place : ℕ} → refused number place ≡ check_count (length ims) digits → text_bodies ims (lines_in text) ≡ at_line 1 number place
    unfolding on_line
    head_bad h = head_counted h

module _ (line behind : List ℕ) where
  -- a line behind which bytes stand is no last one
  pub foot_behind : 0 < length behind → is_foot line (lines_in behind) ≡ false
  unfolding is_foot
  foot_behind some = rw (ne_eqb (length (lines_in behind)) 0 (λ none. omega (arith, some, lines_none behind none)))

  module _ (last : length behind ≡ 0) where
    none_behind : lines_in behind ≡ []
    none_behind = no_lines behind last

    word_decides : is_foot line (lines_in behind) ≡ begins_with records_word line
    unfolding is_foot
    word_decides = rw none_behind

    -- else the word that it begins with decides
    pub foot_found :
        (r : Option (Bor (List ℕ)))
        → MatchOption r (pointwise nat_eq (take 8 line) records_word ≡ false)
        (λ x. (pointwise nat_eq (take 8 line) records_word ≡ true) × (x.now ≡ drop 8 line) × (length x.now + 8 ≡ length line))
        → is_some r ≡ is_foot line (lines_in behind)
    unfolding begins_with
    foot_found None h = sym (word_decides ∙ h)
    foot_found (Some x) h = sym (word_decides ∙ h.0)

-- The records of lines.

-- the first line of bytes, and those behind it
line_step :
    (ims : List Image) (first k : ℕ) (rest : List ℕ)
    → 0 < length rest
    → line_bodies ims first k (lines_in rest)
    ≡ pick (is_foot (first_line rest) (lines_in (behind_line rest)))
    (on_line (first + k) (check_count k (drop 8 (first_line rest))) (λ _. entered []))
    (on_line (first + k) (line_body ims (first_line rest))
    (λ body. next_of (line_bodies ims first (suc k) (lines_in (behind_line rest))) (λ bs. entered (body ∷ bs))))
unfolding line_bodies
line_step ims first k rest some = ap (line_bodies ims first k) (lines_split rest some)

-- a line of a record
line_more :
    (ims : List Image) (first k : ℕ) (rest : List ℕ) {body : List ℕ}
    → 0 < length rest
    → is_foot (first_line rest) (lines_in (behind_line rest)) ≡ false
    → line_body ims (first_line rest) ≡ done body
    → line_bodies ims first k (lines_in rest) ≡ next_of (line_bodies ims first (suc k) (lines_in (behind_line rest))) (λ bs. entered (body ∷ bs))
unfolding on_line
line_more ims first k rest some line read = line_step ims first k rest some ∙ rw (line, read)

-- a record more is counted
count_one : (k : ℕ) (body : List ℕ) (e : Entry (List (List ℕ))) → counted_bodies k (next_of e (λ bs. entered (body ∷ bs))) ≡ counted_bodies (k + 1) e
unfolding counted_bodies next_of
count_one k body (entered bs) = ap {B = Entry ℕ} entered (omega arith)
count_one k body (rejected number place) = refl
count_one k body (at_line line number place) = refl

-- the records that are counted, with those that are left
pub record Counting (ims : List Image) (lines : Lines) (records : ℕ) (rest : List ℕ) : Type 0 where
  pub whole : counted_bodies 0 (bodies_of ims lines) ≡ counted_bodies records (line_bodies ims lines.first records (lines_in rest))
  pub few : records + length rest ≤ length lines.text.now

-- the start
pub count_starts : (ims : List Image) (lines : Lines) → Counting ims lines 0 lines.text.now
count_starts ims lines = record { whole = refl; few = omega arith }

module _ {ims : List Image} {lines : Lines} {records : ℕ} {rest : List ℕ} (c : Counting ims lines records rest) where
  -- the end
  pub count_ends : length rest ≡ 0 → entered records ≡ counted_bodies 0 (bodies_of ims lines)
  unfolding counted_bodies next_of line_bodies lines_in
  count_ends none = go rest none c.whole
    where
      go : (r : List ℕ) → length r ≡ 0 → counted_bodies 0 (bodies_of ims lines) ≡ counted_bodies records (line_bodies ims lines.first records (lines_in r))
          → entered records ≡ counted_bodies 0 (bodies_of ims lines)
      go [] none w = ap {B = Entry ℕ} entered (omega arith) ∙ sym w
      go (b ∷ bs) none w = absurd (omega (arith, none))

  module _ (some : 0 < length rest) where
    module _ (foot : is_foot (first_line rest) (lines_in (behind_line rest)) ≡ true) where
      -- a last line with their count
      pub count_foot : check_count records (drop 8 (first_line rest)) ≡ done tt → entered records ≡ counted_bodies 0 (bodies_of ims lines)
      unfolding counted_bodies next_of on_line
      count_foot h =
          let step : line_bodies ims lines.first records (lines_in rest) ≡ entered [] = line_step ims lines.first records rest some ∙ rw (foot, h) in
          ap {B = Entry ℕ} entered (omega arith) ∙ sym (c.whole ∙ ap (counted_bodies records) step)

      -- or another
      pub count_other : {number place : ℕ} → check_count records (drop 8 (first_line rest)) ≡ refused number place
          → at_line (lines.first + records) number place ≡ counted_bodies 0 (bodies_of ims lines)
      unfolding counted_bodies next_of on_line
      count_other {number} {place} h =
          let step : line_bodies ims lines.first records (lines_in rest) ≡ at_line (lines.first + records) number place =
          line_step ims lines.first records rest some ∙ rw (foot, h) in
          sym (c.whole ∙ ap (counted_bodies records) step)

    module _ (line : is_foot (first_line rest) (lines_in (behind_line rest)) ≡ false) where
      -- a line of a record that is refused
      pub count_bad : {number place : ℕ} → checked_only (line_body ims (first_line rest)) ≡ refused number place
          → at_line (lines.first + records) number place ≡ counted_bodies 0 (bodies_of ims lines)
      unfolding counted_bodies next_of on_line
      count_bad {number} {place} h =
          let step : line_bodies ims lines.first records (lines_in rest) ≡ at_line (lines.first + records) number place =
          line_step ims lines.first records rest some ∙ rw (line, checked_refused (line_body ims (first_line rest)) h) in
          sym (c.whole ∙ ap (counted_bodies records) step)

      -- or one more
      count_one_more : checked_only (line_body ims (first_line rest)) ≡ done tt → Counting ims lines (records + 1) (behind_line rest)
      count_one_more h =
          let body = checked_done (line_body ims (first_line rest)) h in
          let left = line_bodies ims lines.first (suc records) (lines_in (behind_line rest)) in
          let step = line_more ims lines.first records rest some line body.1 in
          record {
            whole =
                c.whole
                ∙ ap (counted_bodies records) step
                ∙ count_one records body.0 left
                ∙ ap (λ (k : ℕ). counted_bodies (records + 1) (line_bodies ims lines.first k (lines_in (behind_line rest)))) (sym (add-one records));
            few = omega (arith, c.few, behind_fewer rest some);
          }

  -- the same of the line and the bytes behind it that the code has
  pub count_turns :
      {line behind : List ℕ}
      → line ≡ first_line rest
      → behind ≡ behind_line rest
      → 0 < length rest
      → is_foot line (lines_in behind) ≡ false
      → checked_only (line_body ims line) ≡ done tt
      → Counting ims lines (records + 1) behind
  count_turns e b some foot read =
      let last : is_foot (first_line rest) (lines_in (behind_line rest)) ≡ false = ap₂ (λ (l r : List ℕ). is_foot l (lines_in r)) (sym e) (sym b) ∙ foot in
      let body : checked_only (line_body ims (first_line rest)) ≡ done tt = ap (λ (l : List ℕ). checked_only (line_body ims l)) (sym e) ∙ read in
      subst (λ (r : List ℕ). Counting ims lines (records + 1) r) (sym b) (count_one_more some last body)

  -- whose bytes are fewer
  pub count_fewer : {behind : List ℕ} → behind ≡ behind_line rest → 0 < length rest → length behind < length rest
  count_fewer b some = omega (arith, ap length b, behind_fewer rest some)

-- Writing the bodies of lines.

-- a list of no length
pub nothing : {A : Type 0} (xs : List A) → length xs ≡ 0 → xs ≡ []
nothing [] h = refl
nothing (x ∷ xs) h = absurd (omega (arith, h))

-- what is entered is not refused
pub never_entered : {A B : Type 0} {a : A} {line number place : ℕ} → at_line line number place ≡ entered a → B
never_entered h = let z : ◌≡◌ {A = ℕ} 0 1 = cc in absurd (omega arith)

pub never_rejected : {A B : Type 0} {a : A} {number place : ℕ} → rejected number place ≡ entered a → B
never_rejected h = let z : ◌≡◌ {A = ℕ} 0 1 = cc in absurd (omega arith)

pub entered_same : {A : Type 0} {a b : A} → ◌≡◌ {A = Entry A} (entered a) (entered b) → a ≡ b
entered_same h = cc

-- a line that has a body, and the lines behind it
pub record LineStep (ims : List Image) (first k : ℕ) (line : List ℕ) (lines : List (List ℕ)) (bs : List (List ℕ)) : Type 0 where
  pub body : List ℕ
  pub others : List (List ℕ)
  pub read : line_body ims line ≡ done body
  pub behind : line_bodies ims first (suc k) lines ≡ entered others
  pub joined : body ∷ others ≡ bs

-- lines that have bodies are a last line with a count, or such a line
pub line_view :
    (ims : List Image) (first k : ℕ) (line : List ℕ) (lines : List (List ℕ)) {bs : List (List ℕ)}
    → line_bodies ims first k (line ∷ lines) ≡ entered bs
    → ((is_foot line lines ≡ true) × ([] ≡ bs)) ⊎ LineStep ims first k line lines bs
unfolding line_bodies on_line next_of
line_view ims first k line lines {bs} h = go (is_foot line lines) refl h
  where
    more : List ℕ → Entry (List (List ℕ))
    more body = next_of (line_bodies ims first (suc k) lines) (λ others. entered (body ∷ others))

    counted : (a : Answer (Unit {0})) → on_line (first + k) a (λ _. entered []) ≡ entered bs → [] ≡ bs
    counted (done tt) h = entered_same h
    counted (refused number place) h = never_entered h

    behind_view : (body : List ℕ) (e : Entry (List (List ℕ))) → line_body ims line ≡ done body → line_bodies ims first (suc k) lines ≡ e
        → next_of e (λ others. entered (body ∷ others)) ≡ entered bs → LineStep ims first k line lines bs
    behind_view body (entered others) read e h = record { body = body; others = others; read = read; behind = e; joined = entered_same h }
    behind_view body (rejected number place) read e h = never_rejected h
    behind_view body (at_line n number place) read e h = never_entered h

    body_view : (a : Answer (List ℕ)) → line_body ims line ≡ a → on_line (first + k) a more ≡ entered bs → LineStep ims first k line lines bs
    body_view (done body) read h = behind_view body (line_bodies ims first (suc k) lines) read refl h
    body_view (refused number place) read h = never_entered h

    go : (b : Bool)
        → is_foot line lines ≡ b
        → pick b (on_line (first + k) (check_count k (drop 8 line)) (λ _. entered [])) (on_line (first + k) (line_body ims line) more) ≡ entered bs
        → ((is_foot line lines ≡ true) × ([] ≡ bs)) ⊎ LineStep ims first k line lines bs
    go true foot h = inl (foot, counted (check_count k (drop 8 line)) h)
    go false foot h = inr (body_view (line_body ims line) refl h)

-- a body that a line has is as long as its images say
body_long : (ims : List Image) (line : List ℕ) {body : List ℕ} → line_body ims line ≡ done body → length body ≡ body_size ims
unfolding line_body
body_long ims line h = let b = then_done (read_line line) (λ (ns : List Number). pack_list ims ns) h in packed_length ims b.value b.second

-- and so are all of them together
pub bodies_long : (ims : List Image) (first k : ℕ) (lines : List (List ℕ)) {bs : List (List ℕ)} → line_bodies ims first k lines ≡ entered bs
    → length (concat bs) ≡ length bs * body_size ims
unfolding line_bodies
bodies_long ims first k [] {bs} h = ap (λ (l : List (List ℕ)). length (concat l)) (sym (entered_same h)) ∙ sym (ap (λ (l : List (List ℕ)). length l * body_size ims) (sym (entered_same h)) ∙ zero-mul (body_size ims))
bodies_long ims first k (line ∷ lines) {bs} h =
    ⊎_elim
    (λ (foot : (is_foot line lines ≡ true) × ([] ≡ bs)).
    subst (λ (l : List (List ℕ)). length (concat l) ≡ length l * body_size ims) foot.1 (sym (zero-mul (body_size ims))))
    (λ (s : LineStep ims first k line lines bs).
    let behind = bodies_long ims first (suc k) lines s.behind in
    subst (λ (l : List (List ℕ)). length (concat l) ≡ length l * body_size ims) s.joined
    (omega (arith, length-append s.body (concat s.others), body_long ims line s.read, behind, suc-mul (length s.others) (body_size ims))))
    (line_view ims first k line lines h)

-- no line is left
end_bodies : (ims : List Image) (first k : ℕ) {bs : List (List ℕ)} → line_bodies ims first k (lines_in []) ≡ entered bs → [] ≡ bs
unfolding line_bodies lines_in
end_bodies ims first k h = entered_same h

-- the bodies that are written, with those that are left
pub record Filling (ims : List Image) (lines : Lines) (now : List ℕ) (out : ℕ) (rest : List ℕ) : Type 0 where
  pub before : ℕ
  pub left : List (List ℕ)
  pub given : line_bodies ims lines.first before (lines_in rest) ≡ entered left
  pub comes : Coming now out (concat left) (concat (given_bodies (bodies_of ims lines)))
  pub long : length now ≡ length (concat (given_bodies (bodies_of ims lines)))

module _ {ims : List Image} {lines : Lines} {body : ℕ} {target : List ℕ} (f : Fills ims lines body target) where
  -- the start
  pub fill_starts : Filling ims lines target 0 lines.text.now
  unfolding given_bodies
  fill_starts =
      let sized : length f.bodies * body ≡ length f.bodies * body_size ims = ap (λ (n : ℕ). length f.bodies * n) f.each in
      let long : length target ≡ length (concat f.bodies) = omega (arith, f.long, sized, bodies_long ims lines.first 0 (lines_in lines.text.now) f.given) in
      record {
        before = 0;
        left = f.bodies;
        given = f.given;
        comes = subst (λ (l : List (List ℕ)). Coming target 0 (concat f.bodies) (concat l)) (sym (ap given_bodies f.given)) (coming_starts target (concat f.bodies));
        long = long ∙ ap (λ (l : List (List ℕ)). length (concat l)) (sym (ap given_bodies f.given));
      }

  module _ {now : List ℕ} {out : ℕ} {rest : List ℕ} (w : Filling ims lines now out rest) where
    -- the end
    pub fill_ends : length now ≤ out → now ≡ concat (given_bodies (bodies_of ims lines))
    fill_ends over = coming_ends (subst (λ (l : List ℕ). Coming now out l (concat (given_bodies (bodies_of ims lines)))) none w.comes) w.long
      where
        none : concat w.left ≡ []
        none = nothing (concat w.left) (omega (arith, over, coming_long w.comes w.long))

    -- a body is left
    module _ (some : out < length now) where
      fill_step : LineStep ims lines.first w.before (first_line rest) (lines_in (behind_line rest)) w.left
      fill_step = go rest w.given
        where
          full : {B : Type 0} → [] ≡ w.left → B
          full none = absurd (omega (arith, some, coming_long w.comes w.long, ap (λ (l : List (List ℕ)). length (concat l)) none))

          go : (r : List ℕ) → line_bodies ims lines.first w.before (lines_in r) ≡ entered w.left
              → LineStep ims lines.first w.before (first_line r) (lines_in (behind_line r)) w.left
          go [] h = full (end_bodies ims lines.first w.before h)
          go (b ∷ bs) h =
              ⊎_elim (λ foot. full foot.1) (λ s. s)
              (line_view ims lines.first w.before (first_line (b ∷ bs)) (lines_in (behind_line (b ∷ bs)))
              (ap (line_bodies ims lines.first w.before) (sym (lines_split (b ∷ bs) (omega arith))) ∙ h))

      -- as long as its images say
      fill_long : length fill_step.body ≡ body
      fill_long = body_long ims (first_line rest) fill_step.read ∙ sym f.each

      -- it comes next
      fill_next : Coming now out (fill_step.body ++ concat fill_step.others) (concat (given_bodies (bodies_of ims lines)))
      fill_next = subst (λ (l : List (List ℕ)). Coming now out (concat l) (concat (given_bodies (bodies_of ims lines)))) (sym fill_step.joined) w.comes

      -- there is room for it
      pub fill_room : out + body ≤ length now
      fill_room = omega (arith, coming_room fill_step.body (concat fill_step.others) fill_next w.long, fill_long)

      -- its line has it
      module _ {line : List ℕ} (e : line ≡ first_line rest) where
        line_reads : line_body ims line ≡ done fill_step.body
        line_reads = ap (line_body ims) e ∙ fill_step.read

        body_is : body_in ims line ≡ fill_step.body
        unfolding given
        body_is = ap given line_reads

        pub fill_has : (lent : List ℕ) → length lent ≡ body → HasBody ims line lent
        fill_has lent size = record { has = line_reads ∙ ap {B = Answer (List ℕ)} done (sym body_is); long = size ∙ f.each }

        -- it is written
        pub fill_turns :
            {put behind : List ℕ} {n m : ℕ}
            → put ≡ body_in ims line
            → n ≡ body
            → m ≡ body
            → behind ≡ behind_line rest
            → Filling ims lines (put_mid out n now put) (out + m) behind
        fill_turns {put} {behind} {n} {m} written one two b =
            let next = lent_written now out fill_step.body (one ∙ sym fill_long) (written ∙ body_is) in
            record {
              before = suc w.before;
              left = fill_step.others;
              given = ap (λ (r : List ℕ). line_bodies ims lines.first (suc w.before) (lines_in r)) b ∙ fill_step.behind;
              comes = coming_bytes fill_step.body (concat fill_step.others) fill_next w.long (two ∙ sym fill_long) next;
              long = ap length next ∙ written_length now out fill_step.body (omega (arith, fill_room, fill_long)) ∙ w.long;
            }
