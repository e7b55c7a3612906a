-- The line that entering tells is the first bad one, by its number from 1. Assumes nothing.
use Rattle.std.proofs.Common.{◌≡◌, ℕ, suc, ◌+◌, Bool, true, false, List, [], ◌∷◌, ◌++◌, length, drop, ap, sym, refl, subst, ◌∙◌, arith}
use Rattle.std.specs.Prelude.{bytes_eq}
use Rattle.std.specs.List.{concat}
use Rattle.decimal.specs.declared.image.Image.{Image}
use Rattle.decimal.specs.Answer.{Answer, done, refused, pick}
use Rattle.decimal.proofs.BoolLaws.{and_true}
use Rattle.codec.specs.Contents.{Table, read_alone}
use Rattle.records.specs.Files.Listing.{columns_word, records_word}
use Rattle.records.specs.Files.Writing.{decimal_text}
use Rattle.records.specs.Files.Entering.{lines_in, line_body, Entry, entered, rejected, at_line, first_of, on_line, next_of, begins_with, check_count, is_foot, line_bodies, text_bodies, entry_of}
use Rattle.records.specs.Files.EnteredBack.{behind_columns, HaveBodies, IsBad, FirstBad}
use Rattle.records.proofs.FileProofs.EntryLaws.{nothing}
use borrow.Author.Tests.{eqb-true}
use lib.Dec.{eqb}

-- Answers that differ.

never_given : {A B : Type 0} {a : A} {n number place : ℕ} → entered a ≡ at_line n number place → B
never_given h = let z : ◌≡◌ {A = ℕ} 0 1 = cc in absurd (omega arith)

never_call : {A B : Type 0} {x y n number place : ℕ} → ◌≡◌ {A = Entry A} (rejected x y) (at_line n number place) → B
never_call h = let z : ◌≡◌ {A = ℕ} 0 1 = cc in absurd (omega arith)

-- a line's refusal is one, and has one number
record Same (m x y n number place : ℕ) : Type 0 where
  line : m ≡ n
  first : x ≡ number
  second : y ≡ place

same_line : {A : Type 0} {m x y n number place : ℕ} → ◌≡◌ {A = Entry A} (at_line m x y) (at_line n number place) → Same m x y n number place
same_line h = record { line = cc; first = cc; second = cc }

-- another count is refused with 10
count_ten : (k : ℕ) (bytes : List ℕ) {x y : ℕ} → check_count k bytes ≡ refused x y → (x ≡ 10) × (y ≡ 0)
unfolding check_count
count_ten k bytes {x} {y} h = go (bytes_eq bytes (decimal_text k)) h
  where
    go : (b : Bool) → ◌≡◌ {A = Answer (Unit {0})} (pick b (done tt) (refused 10 0)) (refused x y) → (x ≡ 10) × (y ≡ 0)
    go true h = let z : ◌≡◌ {A = ℕ} 0 1 = cc in absurd (omega arith)
    go false h = (cc, cc)

-- a last line with a count has no line behind it, and begins with its word
last_line : (line : List ℕ) (lines : List (List ℕ)) → is_foot line lines ≡ true → (lines ≡ []) × (begins_with records_word line ≡ true)
unfolding is_foot
last_line line lines h =
    let both = and_true (eqb (length lines) 0) (begins_with records_word line) h in (nothing lines (eqb-true (length lines) 0 both.0), both.1)

module _ (ims : List Image) where
  -- Lines of records, of which the first has this number.

  -- why one is refused
  data BadRecord (line : List ℕ) (behind : List (List ℕ)) : ℕ → ℕ → Type 0 where
    numbers : {number place : ℕ} → line_body ims line ≡ refused number place → BadRecord line behind number place
    records : behind ≡ [] → begins_with records_word line ≡ true → BadRecord line behind 10 0

  -- which is why it is refused behind any lines
  bad_behind : (before : List (List ℕ)) (line : List ℕ) (behind : List (List ℕ)) {number place : ℕ} → BadRecord line behind number place → IsBad ims before line behind number place
  bad_behind before line behind (numbers h) = IsBad.numbers h
  bad_behind before line behind (records e h) = IsBad.records e h

  record BadOf (m : ℕ) (lines : List (List ℕ)) (n number place : ℕ) : Type 0 where
    before : List (List ℕ)
    line : List ℕ
    behind : List (List ℕ)
    split : lines ≡ before ++ (line ∷ behind)
    numbered : n ≡ m + length before
    good : HaveBodies ims before
    bad : BadRecord line behind number place

  -- the first of them
  bad_here : (m : ℕ) (line : List ℕ) (lines : List (List ℕ)) {x y n number place : ℕ} → Same m x y n number place → BadRecord line lines x y
      → BadOf m (line ∷ lines) n number place
  bad_here m line lines {x} {y} {n} {number} {place} s bad =
      let m_is = s.line in
      record {
        before = [];
        line = line;
        behind = lines;
        split = refl;
        numbered = omega arith;
        good = HaveBodies.none;
        bad = subst (λ (k : ℕ). BadRecord line lines number k) s.second (subst (λ (k : ℕ). BadRecord line lines k y) s.first bad);
      }

  -- one behind the first
  bad_later : (first k : ℕ) (line : List ℕ) (lines : List (List ℕ)) {body : List ℕ} {n number place : ℕ}
      → line_body ims line ≡ done body
      → BadOf (first + suc k) lines n number place
      → BadOf (first + k) (line ∷ lines) n number place
  bad_later first k line lines read b =
      let numbered = b.numbered in
      record {
        before = line ∷ b.before;
        line = b.line;
        behind = b.behind;
        split = ap (λ (ls : List (List ℕ)). line ∷ ls) b.split;
        numbered = omega arith;
        good = HaveBodies.more read b.good;
        bad = b.bad;
      }

  bad_record : (first k : ℕ) (lines : List (List ℕ)) {n number place : ℕ} → line_bodies ims first k lines ≡ at_line n number place → BadOf (first + k) lines n number place
  unfolding line_bodies on_line next_of is_foot
  bad_record first k [] h = never_given h
  bad_record first k (line ∷ lines) {n} {number} {place} h = go (is_foot line lines) refl h (λ e. bad_record first (suc k) lines e)
    where
      later : Type 0
      later = line_bodies ims first (suc k) lines ≡ at_line n number place → BadOf (first + suc k) lines n number place

      counted : is_foot line lines ≡ true → (a : Answer (Unit {0})) → check_count k (drop 8 line) ≡ a → on_line {B = List (List ℕ)} (first + k) a (λ _. entered []) ≡ at_line n number place
          → BadOf (first + k) (line ∷ lines) n number place
      counted foot (done tt) e h = never_given h
      counted foot (refused x y) e h =
          let ten = count_ten k (drop 8 line) e in
          let same = same_line h in
          bad_here (first + k) line lines (record { line = same.line; first = sym ten.0 ∙ same.first; second = sym ten.1 ∙ same.second })
          (records (last_line line lines foot).0 (last_line line lines foot).1)

      more : List ℕ → Entry (List (List ℕ))
      more body = next_of (line_bodies ims first (suc k) lines) (λ others. entered (body ∷ others))

      behind : (body : List ℕ) (e : Entry (List (List ℕ))) → line_body ims line ≡ done body → line_bodies ims first (suc k) lines ≡ e
          → next_of e (λ others. entered (body ∷ others)) ≡ at_line n number place → later → BadOf (first + k) (line ∷ lines) n number place
      behind body (entered others) read e h ih = never_given h
      behind body (rejected x y) read e h ih = never_call h
      behind body (at_line m x y) read e h ih = bad_later first k line lines read (ih (e ∙ h))

      read_body : (a : Answer (List ℕ)) → line_body ims line ≡ a → on_line (first + k) a more ≡ at_line n number place → later → BadOf (first + k) (line ∷ lines) n number place
      read_body (done body) read h ih = behind body (line_bodies ims first (suc k) lines) read refl h ih
      read_body (refused x y) read h ih = bad_here (first + k) line lines (same_line h) (numbers read)

      go : (b : Bool) → is_foot line lines ≡ b
          → pick b (on_line (first + k) (check_count k (drop 8 line)) (λ _. entered [])) (on_line (first + k) (line_body ims line) more) ≡ at_line n number place
          → later → BadOf (first + k) (line ∷ lines) n number place
      go true foot h ih = counted foot (check_count k (drop 8 line)) refl h
      go false foot h ih = read_body (line_body ims line) refl h ih

  -- The lines of a text.

  -- a first line that does not begin with `columns` is one of a record
  kept : (line : List ℕ) (lines before : List (List ℕ)) (other : List ℕ) (behind : List (List ℕ)) → begins_with columns_word line ≡ false → line ∷ lines ≡ before ++ (other ∷ behind)
      → behind_columns before ≡ before
  unfolding behind_columns
  kept line lines [] other behind none e = refl
  kept line lines (b ∷ bs) other behind none e = let same : line ≡ b = cc in rw (ap (begins_with columns_word) (sym same) ∙ none) refl

  text_bad : (lines : List (List ℕ)) {n number place : ℕ} → text_bodies ims lines ≡ at_line n number place → FirstBad ims lines n number place
  unfolding text_bodies on_line behind_columns
  text_bad [] h = never_given h
  text_bad (line ∷ lines) {n} {number} {place} h = go (begins_with columns_word line) refl h
    where
      headed : begins_with columns_word line ≡ true → (a : Answer (Unit {0})) → check_count (length ims) (drop 8 line) ≡ a
          → on_line 1 a (λ _. line_bodies ims 2 0 lines) ≡ at_line n number place → FirstBad ims (line ∷ lines) n number place
      headed starts (done tt) e h =
          let b = bad_record 2 0 lines h in
          let numbered = b.numbered in
          record {
            before = line ∷ b.before;
            line = b.line;
            behind = b.behind;
            split = ap (λ (ls : List (List ℕ)). line ∷ ls) b.split;
            numbered = omega arith;
            good = rw starts b.good;
            bad = bad_behind (line ∷ b.before) b.line b.behind b.bad;
          }
      headed starts (refused x y) e h =
          let ten = count_ten (length ims) (drop 8 line) e in
          let same = same_line h in
          let first = same.line in
          record {
            before = [];
            line = line;
            behind = lines;
            split = refl;
            numbered = omega arith;
            good = HaveBodies.none;
            bad =
                subst (λ (k : ℕ). IsBad ims [] line lines number k) (sym ten.1 ∙ same.second)
                (subst (λ (k : ℕ). IsBad ims [] line lines k 0) (sym ten.0 ∙ same.first) (IsBad.columns refl starts));
          }

      go : (b : Bool) → begins_with columns_word line ≡ b
          → pick b (on_line 1 (check_count (length ims) (drop 8 line)) (λ _. line_bodies ims 2 0 lines)) (line_bodies ims 1 0 (line ∷ lines)) ≡ at_line n number place
          → FirstBad ims (line ∷ lines) n number place
      go true starts h = headed starts (check_count (length ims) (drop 8 line)) refl h
      go false starts h =
          let b = bad_record 1 0 (line ∷ lines) h in
          let numbered = b.numbered in
          record {
            before = b.before;
            line = b.line;
            behind = b.behind;
            split = b.split;
            numbered = omega arith;
            good = subst (λ (ls : List (List ℕ)). HaveBodies ims ls) (sym (kept line lines b.before b.line b.behind starts b.split)) b.good;
            bad = bad_behind b.before b.line b.behind b.bad;
          }

-- Published: where entering tells a line, the contents is read, and that line of the text is the first bad one, with its refusal.
pub first_bad :
    (contents text : List ℕ) {n number place : ℕ}
    → entry_of contents text ≡ at_line n number place
    → (table : Table) × (read_alone contents ≡ done table) × FirstBad table.images (lines_in text) n number place
unfolding entry_of first_of next_of
first_bad contents text {n} {number} {place} h = go (read_alone contents) refl h
  where
    view : {table : Table} → read_alone contents ≡ done table → (e : Entry (List (List ℕ))) → text_bodies table.images (lines_in text) ≡ e
        → next_of e (λ bs. entered (contents ++ concat bs)) ≡ at_line n number place
        → (table : Table) × (read_alone contents ≡ done table) × FirstBad table.images (lines_in text) n number place
    view alone (entered bs) e h = never_given h
    view alone (rejected x y) e h = never_call h
    view {table} alone (at_line m x y) e h =
        let same = same_line h in
        (table, alone, text_bad table.images (lines_in text) (e ∙ (λ i. at_line (same.line i) (same.first i) (same.second i))))

    go : (a : Answer Table) → read_alone contents ≡ a
        → first_of a (λ table. next_of (text_bodies table.images (lines_in text)) (λ bs. entered (contents ++ concat bs))) ≡ at_line n number place
        → (table : Table) × (read_alone contents ≡ done table) × FirstBad table.images (lines_in text) n number place
    go (done table) alone h = view alone (text_bodies table.images (lines_in text)) refl h
    go (refused x y) alone h = never_call h
