-- Laws of walking a text: the next text number from a place on, the next place where one begins, and the loops over them.
-- Assumes nothing.
use Prim.Native.Nat.{ℕ, zero, suc, ◌+◌, ◌-◌, ◌<◌, ◌≤◌, ◌^◌}
use mathlib.Core.Path.{◌≡◌, refl, ap, sym, ◌∙◌}
use mathlib.Core.Logic.{⊎_elim}
use mathlib.Core.List.{List, [], ◌∷◌, ◌++◌, append-nil, append_assoc}
use mathlib.Core.Bool.{Bool, true, false}
use native.Mathlib.Numerals.{add-one}
use native.Mathlib.Omega.{arith}
use borrow.Author.Tests.{eq-eqb, ne_eqb}
use lib.Dec.{eqb}
use lib.ListN.{length, drop, get_or, length-append, length-drop, drop_of_length-le}
use lib.Seq.{drop-cons, drop-drop}
use Rattle.decimal.specs.declared.number.Number.{Number}
use Rattle.decimal.specs.Answer.{Answer, done, refused, pick}
use Rattle.decimal.proofs.BoolLaws.{zero_or_not}
use Rattle.codec.specs.declared.walking.Stop.{Stop}
use Rattle.codec.specs.declared.walking.Stop.TheVariants as gives
use Rattle.codec.specs.Lists.{max_columns}
use Rattle.codec.specs.Alpha.{blank_byte}
use Rattle.codec.specs.Text.{all_digits_of, blanks_in, parts_in, no_reading, reading_in, legal_length}
use Rattle.codec.specs.Walking.{bytes_before, number_place, Walk, stop_before, stopped, with_number, numbers_in, walking}
use Rattle.codec.proofs.TextLaws.{legal_none, legal_digits}
use Rattle.codec.proofs.LongestTheorem.{longest, empty_length, empty_reading}

-- The next text number.

-- there is none from the end on
pub reading_end : (text : List ℕ) (place : ℕ) → length text ≤ place → no_reading ≡ reading_in (drop place text)
reading_end text place h = sym (ap reading_in (drop_of_length-le text h) ∙ empty_reading)

-- the bytes used, where there are some, are within the text
pub used_inside : (text : List ℕ) (place : ℕ) → (legal_length (drop place text) ≡ 0 → ⊥) → place + legal_length (drop place text) ≤ length
    text
used_inside text place some = omega (arith, (longest (drop place text)).inside, length-drop place text)

-- so a place moved on by them is a number of 64 bits
pub moved_fits : (text : List ℕ) (place : ℕ) → place < 2 ^ 64 → length text < 2 ^ 64 → place + legal_length (drop place text) < 2 ^ 64
moved_fits text place p l =
    ⊎_elim
    (λ (none : legal_length (drop place text) ≡ 0). omega arith)
    (λ (some : legal_length (drop place text) ≡ 0 → ⊥). omega (arith, used_inside text place some))
    (zero_or_not (legal_length (drop place text)))

-- Blanks before a text number.

-- a blank is counted with those behind it
blank_first : (b : ℕ) (bs : List ℕ) → eqb b blank_byte ≡ true → blanks_in (b ∷ bs) ≡ suc (blanks_in bs)
blank_first b bs e = rw e

-- another byte is none
blank_other : (b : ℕ) (bs : List ℕ) → eqb b blank_byte ≡ false → blanks_in (b ∷ bs) ≡ 0
blank_other b bs e = rw e

-- behind the blanks stands none
blanks_over : (bytes : List ℕ) → blanks_in (drop (blanks_in bytes) bytes) ≡ 0
blanks_over [] = refl
blanks_over (b ∷ bs) = step (eqb b blank_byte) refl (blanks_over bs)
  where
    step : (test : Bool) → eqb b blank_byte ≡ test → blanks_in (drop (blanks_in bs) bs) ≡ 0
        → blanks_in (drop (pick test (suc (blanks_in bs)) 0) (b ∷ bs)) ≡ 0
    step true e ih = ih
    step false e ih = blank_other b bs e

-- the digits that are read of bytes are those that are read behind their blanks
digits_over : (bytes : List ℕ) → all_digits_of (parts_in (drop (blanks_in bytes) bytes)).numeral ≡ all_digits_of (parts_in bytes).numeral
unfolding parts_in
digits_over bytes = rw (blanks_over bytes)

-- Published: a text number begins at blanks exactly where one begins behind them.
pub begins_over : (bytes : List ℕ) → legal_length (drop (blanks_in bytes) bytes) ≡ 0 → legal_length bytes ≡ 0
begins_over bytes none = legal_none bytes (sym (ap length (digits_over bytes)) ∙ legal_digits (drop (blanks_in bytes) bytes) none)

pub begins_behind : (bytes : List ℕ) → legal_length bytes ≡ 0 → legal_length (drop (blanks_in bytes) bytes) ≡ 0
begins_behind bytes none = legal_none (drop (blanks_in bytes) bytes) (ap length (digits_over bytes) ∙ legal_digits bytes none)

-- where none begins behind the blanks, none begins among them
before_over : (bytes : List ℕ) → legal_length (drop (blanks_in bytes) bytes) ≡ 0
    → bytes_before bytes ≡ blanks_in bytes + bytes_before (drop (blanks_in bytes) bytes)
unfolding bytes_before
before_over [] none = refl
before_over (b ∷ bs) none = step (eqb b blank_byte) refl (before_over bs) none
  where
    first : legal_length (drop (blanks_in (b ∷ bs)) (b ∷ bs)) ≡ 0 → bytes_before (b ∷ bs) ≡ suc (bytes_before bs)
    first h = rw (eq-eqb (legal_length (b ∷ bs)) 0 (begins_over (b ∷ bs) h))

    step : (test : Bool) → eqb b blank_byte ≡ test
        → (legal_length (drop (blanks_in bs) bs) ≡ 0 → bytes_before bs ≡ blanks_in bs + bytes_before (drop (blanks_in bs) bs))
        → legal_length (drop (pick test (suc (blanks_in bs)) 0) (b ∷ bs)) ≡ 0
        → bytes_before (b ∷ bs) ≡ pick test (suc (blanks_in bs)) 0 + bytes_before (drop (pick test (suc (blanks_in bs)) 0) (b ∷ bs))
    step true e ih h = omega (arith, first (ap (λ (n : ℕ). legal_length (drop n (b ∷ bs))) (blank_first b bs e) ∙ h), ih h)
    step false e ih h = omega arith

-- Skipping.

-- what is left before the next text number, from a place of the skip on
abbrev pub Skipping : List ℕ → ℕ → ℕ → Type 0
Skipping text from place = place + bytes_before (drop place text) ≡ number_place text from

module _ (text : List ℕ) (place : ℕ) (inside : place < length text) where
  -- a text number begins at a place
  before_some : (legal_length (drop place text) ≡ 0 → ⊥) → bytes_before (drop place text) ≡ 0
  unfolding bytes_before
  before_some some =
      let cons = drop-cons text place 0 inside in
      ap bytes_before cons ∙ rw (ne_eqb (legal_length (get_or text place 0 ∷ drop (suc place) text)) 0 (λ e. some (ap legal_length cons ∙ e)))

  -- none begins there
  before_none : legal_length (drop place text) ≡ 0 → bytes_before (drop place text) ≡ suc (bytes_before (drop (place + 1) text))
  unfolding bytes_before
  before_none none =
      let cons = drop-cons text place 0 inside in
      rw (add-one place)
      (ap bytes_before cons ∙ rw (eq-eqb (legal_length (get_or text place 0 ∷ drop (suc place) text)) 0 (sym (ap legal_length cons) ∙ none)))

module _ (text : List ℕ) (from : ℕ) where
  module _ (place : ℕ) (skipping : Skipping text from place) where
    -- a text number begins behind the blanks that stand here
    pub skip_here : {blanks : ℕ} → place < length text → blanks ≡ blanks_in (drop place text)
        → (legal_length (drop (place + blanks) text) ≡ 0 → ⊥) → place ≡ number_place text from
    skip_here {blanks} h count some =
        let bytes = drop place text in
        let behind : drop (place + blanks) text ≡ drop (blanks_in bytes) bytes =
        sym (drop-drop blanks place text) ∙ ap (λ (n : ℕ). drop n bytes) count in
        let none = before_some text place h (λ e. some (ap legal_length behind ∙ begins_behind bytes e)) in
        omega arith

    module _ {blanks : ℕ} (count : blanks ≡ blanks_in (drop place text)) where
      -- none begins behind the blanks that stand here
      skip_blanks : legal_length (drop (place + blanks) text) ≡ 0 → Skipping text from (place + blanks)
      skip_blanks none =
          let bytes = drop place text in
          let behind : drop (place + blanks) text ≡ drop (blanks_in bytes) bytes =
          sym (drop-drop blanks place text) ∙ ap (λ (n : ℕ). drop n bytes) count in
          omega (arith, before_over bytes (sym (ap legal_length behind) ∙ none), ap bytes_before behind)

      -- so skipping goes on behind the byte that stands there
      pub skip_past : place + blanks < length text → legal_length (drop (place + blanks) text) ≡ 0 → Skipping text from (place + blanks + 1)
      skip_past h none = omega (arith, skip_blanks none, before_none text (place + blanks) h none)

      -- or ends where blanks stand up to the end
      pub skip_blank_end : length text ≤ place + blanks → place + blanks ≡ number_place text from
      unfolding bytes_before
      skip_blank_end h =
          let empty = drop_of_length-le text h in
          omega (arith, skip_blanks (ap legal_length empty ∙ empty_length), ap bytes_before empty)

    -- the end
    pub skip_ends : length text ≤ place → place ≡ number_place text from
    unfolding bytes_before
    skip_ends h =
        let none : bytes_before (drop place text) ≡ 0 = ap bytes_before (drop_of_length-le text h) in
        omega arith

-- Why reading stops.

module _ (text : List ℕ) (place : ℕ) where
  -- the end
  pub stop_end : length text ≤ place → gives.End ≡ stop_before (drop place text)
  unfolding stop_before
  stop_end h = rw (eq-eqb (length (drop place text)) 0 (omega (arith, length-drop place text)))

  module _ (inside : place < length text) where
    -- no text number begins here
    pub stop_none : legal_length (drop place text) ≡ 0 → gives.NoNumber ≡ stop_before (drop place text)
    unfolding stop_before
    stop_none none =
        rw (
          ne_eqb (length (drop place text)) 0 (λ e. omega (arith, length-drop place text)),
          eq-eqb (legal_length (drop place text)) 0 none,
        )

    -- one begins here
    pub stop_many : (legal_length (drop place text) ≡ 0 → ⊥) → gives.TooMany ≡ stop_before (drop place text)
    unfolding stop_before
    stop_many some =
        rw (
          ne_eqb (length (drop place text)) 0 (λ e. omega (arith, length-drop place text)),
          ne_eqb (legal_length (drop place text)) 0 some,
        )

-- Reading all numbers.

-- numbers before those of a walk
unfoldable pub behind : List Number → Walk → Walk
behind ns w = record { answer = w.answer; numbers = ns ++ w.numbers; place = w.place }

-- behind one number and others
behind_next : (ns : List Number) (n : Number) (w : Walk) → behind ns (behind (n ∷ []) w) ≡ behind (ns ++ n ∷ []) w
unfolding behind
behind_next ns n w = rw (append_assoc ns (n ∷ []) w.numbers)

-- nothing more behind numbers
behind_stopped : (ns : List Number) (answer : Answer Stop) (place : ℕ) → behind ns (stopped answer place) ≡ record { answer = answer; numbers = ns; place = place }
unfolding behind stopped
behind_stopped ns answer place = rw (append-nil ns)

module _ (index place : ℕ) (bytes : List ℕ) where
  -- no text number begins here
  pub numbers_stop : (left : ℕ) → legal_length bytes ≡ 0 → numbers_in left index place bytes ≡ stopped (done (stop_before bytes)) place
  unfolding numbers_in
  numbers_stop zero none = refl
  numbers_stop (suc left) none = rw (eq-eqb (legal_length bytes) 0 none)

  -- there is no room
  pub numbers_full : numbers_in 0 index place bytes ≡ stopped (done (stop_before bytes)) place
  unfolding numbers_in
  numbers_full = refl

  module _ (left : ℕ) (some : legal_length bytes ≡ 0 → ⊥) where
    -- a number before those behind it
    pub numbers_number : {n : Number} → (reading_in bytes).number ≡ done n
        → numbers_in (suc left) index place bytes
        ≡ behind (n ∷ []) (numbers_in left (suc index) (place + legal_length bytes) (drop (legal_length bytes) bytes))
    unfolding numbers_in with_number behind
    numbers_number e = rw (ne_eqb (legal_length bytes) 0 some, e)

    -- a number refused
    pub numbers_refused : {number at_place : ℕ} → (reading_in bytes).number ≡ refused number at_place
        → numbers_in (suc left) index place bytes ≡ stopped (refused number index) place
    unfolding numbers_in with_number
    numbers_refused e = rw (ne_eqb (legal_length bytes) 0 some, e)

-- the numbers that are read, and with those that are left they are the whole
pub record Collecting (text : List ℕ) (from : ℕ) (front : List Number) (place : ℕ) : Type 0 where
  pub left : ℕ
  pub room : left + length front ≡ max_columns
  pub whole : walking text from ≡ behind front (numbers_in left (length front) place (drop place text))

module _ (text : List ℕ) (from : ℕ) where
  -- the start
  pub collecting_starts : Collecting text from [] from
  unfolding walking behind
  collecting_starts = record { left = max_columns; room = refl; whole = refl }

  module _ {front : List Number} {place : ℕ} (r : Collecting text from front place) where
    -- what is answered where no number more is read
    answered : (answer : Answer Stop) → numbers_in r.left (length front) place (drop place text) ≡ stopped answer place
        → ◌≡◌ {A = Walk} (record { answer = answer; numbers = front; place = place }) (walking text from)
    answered answer e = sym (r.whole ∙ ap (behind front) e ∙ behind_stopped front answer place)

    -- no text number begins here
    pub collecting_stops : {stop : Stop} → legal_length (drop place text) ≡ 0 → stop ≡ stop_before (drop place text)
        → ◌≡◌ {A = Walk} (record { answer = done stop; numbers = front; place = place }) (walking text from)
    collecting_stops {stop} none e =
        answered (done stop) (numbers_stop (length front) place (drop place text) r.left none ∙ ap (λ (a : Stop). stopped (done a) place) (sym e))

    -- there is no room for one more
    pub collecting_ends : {stop : Stop} → max_columns ≤ length front → stop ≡ stop_before (drop place text)
        → ◌≡◌ {A = Walk} (record { answer = done stop; numbers = front; place = place }) (walking text from)
    collecting_ends {stop} full e =
        let none : r.left ≡ 0 = omega (arith, r.room) in
        answered (done stop)
        (ap (λ (n : ℕ). numbers_in n (length front) place (drop place text)) none
        ∙ numbers_full (length front) place (drop place text)
        ∙ ap (λ (a : Stop). stopped (done a) place) (sym e))

    module _ (more : length front < max_columns) (some : legal_length (drop place text) ≡ 0 → ⊥) where
      -- there is room for one more
      one_left : r.left ≡ suc (r.left - 1)
      one_left = omega (arith, r.room)

      -- a number refused
      pub collecting_refused : {number at_place index : ℕ} → (reading_in (drop place text)).number ≡ refused number at_place → index ≡ length front
          → ◌≡◌ {A = Walk} (record { answer = refused number index; numbers = front; place = place }) (walking text from)
      collecting_refused {number} e many =
          (λ i. record { answer = refused number (many i); numbers = front; place = place })
          ∙ answered _
          (ap (λ (n : ℕ). numbers_in n (length front) place (drop place text)) one_left
          ∙ numbers_refused (length front) place (drop place text) (r.left - 1) some e)

      -- a number more
      pub collecting_turns : {n : Number} {used : ℕ} {after : List Number}
          → (reading_in (drop place text)).number ≡ done n
          → used ≡ legal_length (drop place text)
          → after ≡ front ++ n ∷ []
          → Collecting text from after (place + used)
      collecting_turns {n} {used} {after} e size pushed =
          let count = length front in
          let many : suc count ≡ length (front ++ n ∷ []) = omega (arith, length-append front (n ∷ [])) in
          let rest = numbers_in (r.left - 1) (length (front ++ n ∷ [])) (place + used) (drop (place + used) text) in
          let moved : numbers_in (r.left - 1) (suc count) (place + legal_length (drop place text))
          (drop (legal_length (drop place text)) (drop place text)) ≡ rest =
          (λ i. numbers_in (r.left - 1) (many i) (place + sym size i) (drop (sym size i) (drop place text)))
          ∙ ap (numbers_in (r.left - 1) (length (front ++ n ∷ [])) (place + used)) (drop-drop used place text) in
          rw pushed
          (record {
            left = r.left - 1;
            room = omega (arith, r.room, many);
            whole =
                r.whole
                ∙ ap (λ (m : ℕ). behind front (numbers_in m count place (drop place text))) one_left
                ∙ ap (behind front) (numbers_number count place (drop place text) (r.left - 1) some e)
                ∙ ap (λ (w : Walk). behind front (behind (n ∷ []) w)) moved
                ∙ behind_next front n rest;
          })
