-- Document 01, Record file: the numbers that walking a text gives are those that it is cut into from the place on, each the longest beginning
-- of what is left that has the form of a text number; and there is one such cut. Assumes nothing.
use Prim.Native.Nat.{ℕ, zero, suc, ◌+◌, ◌-◌, ◌<◌, ◌≤◌}
use mathlib.Core.Path.{◌≡◌, refl, ap, sym, subst, ◌∙◌}
use mathlib.Core.Logic.{◌↔◌, ⊎_elim}
use mathlib.Core.List.{List, [], ◌∷◌}
use native.Mathlib.Omega.{arith}
use lib.ListN.{length, drop, length-drop, drop_of_length-le}
use lib.Seq.{drop-drop}
use Rattle.decimal.specs.declared.number.Number.{Number}
use Rattle.decimal.specs.Answer.{Answer, done, refused}
use Rattle.decimal.proofs.BoolLaws.{zero_or_not}
use Rattle.decimal.proofs.DigitLaws.{le_or_lt}
use Rattle.codec.specs.declared.walking.Stop.{Stop}
use Rattle.codec.specs.declared.walking.Stop.TheVariants as gives
use Rattle.codec.specs.Lists.{max_columns}
use Rattle.codec.specs.Text.{LongestForm, reading_in, legal_length}
use Rattle.codec.specs.Walking.{Walk, stop_before, stopped, numbers_in, walking, walk_meaning, Foremost, Pieces}
use Rattle.codec.proofs.LongestTheorem.{longest, longest_unique, empty_length}
use Rattle.codec.proofs.ReadingTheorem.{beginning_size, beginning_value, some_beginning}
use Rattle.codec.proofs.WalkLaws.{stop_end, stop_none, stop_many, behind, numbers_stop, numbers_full, numbers_number, numbers_refused}

-- The longest beginning.

-- where a text number begins, it is foremost
foremost : (bytes : List ℕ) → (legal_length bytes ≡ 0 → ⊥) → {a : Answer Number} → (reading_in bytes).number ≡ a → Foremost bytes (legal_length bytes) a
foremost bytes some e =
    let b = some_beginning bytes some in
    record { parts = b.0; beginning = b.1; value = sym (beginning_value bytes b.1) ∙ e }

-- and the one that is foremost is read: its length
foremost_size : {bytes : List ℕ} {size : ℕ} {a : Answer Number} → Foremost bytes size a → legal_length bytes ≡ size
foremost_size {bytes} f = sym (beginning_size bytes f.beginning)

-- so one begins
foremost_some : {bytes : List ℕ} {size : ℕ} {a : Answer Number} → Foremost bytes size a → legal_length bytes ≡ 0 → ⊥
foremost_some f none = omega (arith, foremost_size f, f.beginning.some)

-- and its number
foremost_number : {bytes : List ℕ} {size : ℕ} {a : Answer Number} → Foremost bytes size a → (reading_in bytes).number ≡ a
foremost_number {bytes} f = beginning_value bytes f.beginning ∙ f.value

-- What walking gives.

module _ (text : List ℕ) where
  -- a walk is the cut from a number's index and a place on
  abbrev PiecesBy : ℕ → ℕ → Walk → Type 0
  PiecesBy index place w = Pieces text index place w.numbers w.place (walk_meaning w.answer)

  -- where reading stops, the cut does
  stop_cut : (index place : ℕ) (answer : Answer Stop) → Pieces text index place [] place (walk_meaning answer) → PiecesBy index place (stopped answer place)
  unfolding stopped
  stop_cut index place answer h = h

  -- no text number begins there
  none_cut : (index place : ℕ) → legal_length (drop place text) ≡ 0 → PiecesBy index place (stopped (done (stop_before (drop place text))) place)
  none_cut index place none =
      ⊎_elim
      (λ (end : length text ≤ place).
      subst (λ (a : Stop). PiecesBy index place (stopped (done a) place)) (stop_end text place end) (stop_cut index place (done gives.End) (Pieces.ends end)))
      (λ (inside : place < length text).
      subst (λ (a : Stop). PiecesBy index place (stopped (done a) place)) (stop_none text place inside none)
      (stop_cut index place (done gives.NoNumber)
      (Pieces.none inside (subst (λ (n : ℕ). LongestForm (drop place text) n) none (longest (drop place text))))))
      (le_or_lt (length text) place)

  -- what is read is inside the text
  some_inside : (place : ℕ) → (legal_length (drop place text) ≡ 0 → ⊥) → place < length text
  some_inside place some = omega (arith, (longest (drop place text)).inside, length-drop place text)

  -- one more begins there, and there is no room
  full_cut : (index place : ℕ) → max_columns ≤ index → (legal_length (drop place text) ≡ 0 → ⊥) → PiecesBy index place (stopped (done (stop_before (drop place text))) place)
  full_cut index place full some =
      subst (λ (a : Stop). PiecesBy index place (stopped (done a) place)) (stop_many text place (some_inside place some) some)
      (stop_cut index place (done gives.TooMany) (Pieces.full full (foremost (drop place text) some refl)))

  -- a number before the others
  behind_cut : {index place size : ℕ} {n : Number} (w : Walk) → index < max_columns → Foremost (drop place text) size (done n) → PiecesBy (suc index) (place + size) w → PiecesBy index place (behind (n ∷ []) w)
  unfolding behind
  behind_cut w room f h = Pieces.more room f h

  -- one begins there, and there is room
  some_cut :
      (left index place : ℕ)
      → index < max_columns
      → (legal_length (drop place text) ≡ 0 → ⊥)
      → ((next : ℕ) → PiecesBy (suc index) next (numbers_in left (suc index) next (drop next text)))
      → PiecesBy index place (numbers_in (suc left) index place (drop place text))
  some_cut left index place room some others = go (reading_in (drop place text)).number refl
    where
      bytes : List ℕ
      bytes = drop place text

      go : (a : Answer Number) → (reading_in bytes).number ≡ a → PiecesBy index place (numbers_in (suc left) index place bytes)
      go (done n) e =
          let next = place + legal_length bytes in
          let rest : drop next text ≡ drop (legal_length bytes) bytes = sym (drop-drop (legal_length bytes) place text) in
          subst (λ (w : Walk). PiecesBy index place w) (sym (numbers_number index place bytes left some e))
          (behind_cut (numbers_in left (suc index) next (drop (legal_length bytes) bytes)) room (foremost bytes some e)
          (subst (λ (l : List ℕ). PiecesBy (suc index) next (numbers_in left (suc index) next l)) rest (others next)))
      go (refused number other) e =
          subst (λ (w : Walk). PiecesBy index place w) (sym (numbers_refused index place bytes left some e))
          (stop_cut index place (refused number index) (Pieces.stops room (foremost bytes some e)))

  -- each walk is a cut
  numbers_cut : (left index place : ℕ) → left + index ≡ max_columns → PiecesBy index place (numbers_in left index place (drop place text))
  numbers_cut zero index place room =
      let bytes = drop place text in
      subst (λ (w : Walk). PiecesBy index place w) (sym (numbers_full index place bytes))
      (⊎_elim (none_cut index place) (full_cut index place (omega arith)) (zero_or_not (legal_length bytes)))
  numbers_cut (suc left) index place room =
      let bytes = drop place text in
      ⊎_elim
      (λ (none : legal_length bytes ≡ 0).
      subst (λ (w : Walk). PiecesBy index place w) (sym (numbers_stop index place bytes (suc left) none)) (none_cut index place none))
      (λ (some : legal_length bytes ≡ 0 → ⊥).
      some_cut left index place (omega arith) some (λ next. numbers_cut left (suc index) next (omega arith)))
      (zero_or_not (legal_length bytes))

-- There is one cut.

-- a walk has these numbers, and stops there and so
pub record Gives (w : Walk) (ns : List Number) (stop : ℕ) (answer : Answer (Unit {0})) : Type 0 where
  pub numbers : w.numbers ≡ ns
  pub place : w.place ≡ stop
  pub meaning : walk_meaning w.answer ≡ answer

-- one that stops
stopped_gives : {w : Walk} (answer : Answer Stop) (place : ℕ) → w ≡ stopped answer place → Gives w [] place (walk_meaning answer)
unfolding stopped
stopped_gives answer place e =
    record {
      numbers = ap (λ (w : Walk). w.numbers) e;
      place = ap (λ (w : Walk). w.place) e;
      meaning = ap (λ (w : Walk). walk_meaning w.answer) e;
    }

-- one with a number before the others
behind_gives : {v w : Walk} {n : Number} {ns : List Number} {stop : ℕ} {answer : Answer (Unit {0})} → v ≡ behind (n ∷ []) w → Gives w ns stop answer → Gives v (n ∷ ns) stop answer
unfolding behind
behind_gives {n = n} e g =
    record {
      numbers = ap (λ (w : Walk). w.numbers) e ∙ ap (λ (l : List Number). n ∷ l) g.numbers;
      place = ap (λ (w : Walk). w.place) e ∙ g.place;
      meaning = ap (λ (w : Walk). walk_meaning w.answer) e ∙ g.meaning;
    }

module _ (text : List ℕ) where
  -- each cut is what the walk gives
  cut_numbers :
      {index place stop : ℕ} {ns : List Number} {answer : Answer (Unit {0})}
      → Pieces text index place ns stop answer
      → (left : ℕ)
      → left + index ≡ max_columns
      → Gives (numbers_in left index place (drop place text)) ns stop answer
  cut_numbers (Pieces.ends {index} {place} end) left room =
      let none = ap legal_length (drop_of_length-le text end) ∙ empty_length in
      stopped_gives (done gives.End) place (numbers_stop index place (drop place text) left none ∙ ap (λ (a : Stop). stopped (done a) place) (sym (stop_end text place end)))
  cut_numbers (Pieces.none {index} {place} inside zero-long) left room =
      let none = longest_unique (longest (drop place text)) zero-long in
      stopped_gives (done gives.NoNumber) place (numbers_stop index place (drop place text) left none ∙ ap (λ (a : Stop). stopped (done a) place) (sym (stop_none text place inside none)))
  cut_numbers (Pieces.full {index} {place} full f) left room =
      let some = foremost_some f in
      let no_room : left ≡ 0 = omega arith in
      stopped_gives (done gives.TooMany) place
      (ap (λ (n : ℕ). numbers_in n index place (drop place text)) no_room
      ∙ numbers_full index place (drop place text)
      ∙ ap (λ (a : Stop). stopped (done a) place) (sym (stop_many text place (some_inside text place some) some)))
  cut_numbers (Pieces.stops {index} {place} {number = number} more f) left room =
      let one_left : left ≡ suc (left - 1) = omega arith in
      stopped_gives (refused number index) place
      (ap (λ (n : ℕ). numbers_in n index place (drop place text)) one_left
      ∙ numbers_refused index place (drop place text) (left - 1) (foremost_some f) (foremost_number f))
  cut_numbers (Pieces.more {index} {place} {size} {n = n} more f others) left room =
      let bytes = drop place text in
      let one_left : left ≡ suc (left - 1) = omega arith in
      let rest = cut_numbers others (left - 1) (omega arith) in
      behind_gives
      (ap (λ (n : ℕ). numbers_in n index place bytes) one_left
      ∙ numbers_number index place bytes (left - 1) (foremost_some f) (foremost_number f)
      ∙ ap (λ (k : ℕ). behind (n ∷ []) (numbers_in (left - 1) (suc index) (place + k) (drop k bytes))) (foremost_size f)
      ∙ ap (λ (l : List ℕ). behind (n ∷ []) (numbers_in (left - 1) (suc index) (place + size) l)) (drop-drop size place text))
      rest

-- Published: a text is cut so from a place on exactly where walking gives these numbers, stops there, and says this.
pub walking_exactly : (text : List ℕ) (from : ℕ) {ns : List Number} {stop : ℕ} {answer : Answer (Unit {0})}
    → Pieces text 0 from ns stop answer ↔ Gives (walking text from) ns stop answer
unfolding walking
walking_exactly text from {ns} {stop} {answer} = (λ cut. cut_numbers text cut max_columns refl, λ g. back (numbers_cut text max_columns 0 from refl) g)
  where
    back : {w : Walk} → PiecesBy text 0 from w → Gives w ns stop answer → Pieces text 0 from ns stop answer
    back {w} cut g =
        let h : Pieces text 0 from ns w.place (walk_meaning w.answer) = subst (λ (l : List Number). Pieces text 0 from l w.place (walk_meaning w.answer)) g.numbers cut in
        let k : Pieces text 0 from ns stop (walk_meaning w.answer) = subst (λ (n : ℕ). Pieces text 0 from ns n (walk_meaning w.answer)) g.place h in
        subst (λ (a : Answer (Unit {0})). Pieces text 0 from ns stop a) g.meaning k
