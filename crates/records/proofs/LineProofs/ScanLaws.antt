-- The laws of the scanner's loop: the longest field so far, or what is found from here on, is the field.
-- Assumes nothing.
use Prim.Native.Nat.{ℕ, zero, suc, ◌+◌, ◌-◌, ◌*◌, ◌<◌, ◌≤◌}
use native.Mathlib.Omega.{arith}
use native.Mathlib.Numerals.{add-one}
use mathlib.Core.Path.{◌≡◌, refl, ap, sym, subst, ◌∙◌}
use mathlib.Core.List.{List, [], ◌∷◌}
use mathlib.Core.Bool.{Bool, true, false, false≢true}
use Rattle.std.specs.Prelude.{◌==◌}
use lib.Dec.{eqb}
use lib.ListN.{length, take, drop, get_or, length-drop, drop_of_length-le}
use lib.Seq.{drop-cons, drop-drop, get_or-drop}
use borrow.Author.Tests.{eqb-true, ne_eqb}
use Rattle.decimal.specs.Image.{State, Start, Signed, Integer, Comma, Point, Fraction, Up, Stopped}
use Rattle.decimal.specs.Answer.{pick}
use Rattle.decimal.specs.declared.machine.State.{State as CodeState}
use Rattle.decimal.specs.declared.machine.State.TheVariants as code
use Rattle.decimal.specs.Image.{ups, state_of, hash_byte, hashes_in, next_state, run_state, integer_hash, fraction_hash, is_exponential, counted, integers_from, fractions_from, scanned_image}
use Rattle.decimal.proofs.ImageLaws.{hash_once}
use Rattle.decimal.proofs.ImageTails.{stopped_stays}
use Rattle.decimal.proofs.StepLaws.{hash_again, run_inside}
use Rattle.std.proofs.Common.{max}
use Rattle.std.proofs.lemmas.List.{take_rest}
use Rattle.records.specs.declared.lines.scanning.Scanned.{Scanned}
use Rattle.records.specs.Lines.Scanning.{is_field_state, is_stopped, longest_from, field_length, scanned_field}

-- what is found later, else the best so far
abbrev pub later : ℕ → ℕ → ℕ
later k best = pick (eqb k 0) best k

-- a number above zero is not zero
pub suc_eqb : (k : ℕ) → eqb (suc k) 0 ≡ false
suc_eqb k = ne_eqb (suc k) 0 (λ e. omega arith)

-- with nothing so far, what is found later
pub later_zero : (k : ℕ) → later k 0 ≡ k
later_zero zero = refl
later_zero (suc k) = rw (suc_eqb k)

-- one turn: a length of a field is the best from there on
pub later_turn : (k read best : ℕ) (t : Bool) → later (later k (pick t (suc read) 0)) best ≡ later k (pick t (suc read) best)
later_turn zero read best true = rw (suc_eqb read)
later_turn zero read best false = refl
later_turn (suc k) read best t = simp suc_eqb

-- from the state in which no field begins none is found
pub stopped_none : (read : ℕ) (bytes : List ℕ) → longest_from Stopped read bytes ≡ 0
unfolding longest_from
stopped_none read [] = refl
stopped_none read (b ∷ bs) = rw (stopped_stays b, stopped_none (suc read) bs)

-- the state that the code's test finds
pub is_stopped_lem : (s : State) → is_stopped s ≡ true → s ≡ Stopped
is_stopped_lem Start h = absurd (false≢true h)
is_stopped_lem Signed h = absurd (false≢true h)
is_stopped_lem (Integer g) h = absurd (false≢true h)
is_stopped_lem Comma h = absurd (false≢true h)
is_stopped_lem (Point g) h = absurd (false≢true h)
is_stopped_lem (Fraction g) h = absurd (false≢true h)
is_stopped_lem (Up n) h = absurd (false≢true h)
is_stopped_lem Stopped h = refl

-- What was read of bytes, one byte more.

-- the state leads on
run_more : (s : State) (bs : List ℕ) (n : ℕ) → n < length bs → run_state s (take (suc n) bs) ≡ next_state (run_state s (take n bs)) (get_or bs n 0)
unfolding run_state
run_more s [] n h = absurd (omega arith)
run_more s (b ∷ bs) zero h = refl
run_more s (b ∷ bs) (suc n) h = run_more (next_state s b) bs n (omega arith)

-- a count goes on
counted_on : (t : Bool) (a b c : ℕ) → a ≡ b + c → counted t a ≡ counted t b + c
counted_on true a b c e = omega arith
counted_on false a b c e = omega arith

-- the # signs before the point
integers_more : (s : State) (bs : List ℕ) (n : ℕ) → n < length bs
    → integers_from s (take (suc n) bs) ≡ integers_from s (take n bs) + counted (integer_hash (run_state s (take (suc n) bs))) 0
unfolding run_state integers_from
integers_more s [] n h = absurd (omega arith)
integers_more s (b ∷ bs) zero h = omega arith
integers_more s (b ∷ bs) (suc n) h = counted_on (integer_hash (next_state s b)) _ _ _ (integers_more (next_state s b) bs n (omega arith))

-- and behind it
fractions_more : (s : State) (bs : List ℕ) (n : ℕ) → n < length bs
    → fractions_from s (take (suc n) bs) ≡ fractions_from s (take n bs) + counted (fraction_hash (run_state s (take (suc n) bs))) 0
unfolding run_state fractions_from
fractions_more s [] n h = absurd (omega arith)
fractions_more s (b ∷ bs) zero h = omega arith
fractions_more s (b ∷ bs) (suc n) h = counted_on (fraction_hash (next_state s b)) _ _ _ (fractions_more (next_state s b) bs n (omega arith))

-- a # always ends a field
hash_field : (s : State) → is_field_state s ≡ false → (counted (integer_hash s) 0 ≡ 0) × (counted (fraction_hash s) 0 ≡ 0)
hash_field Start h = (refl, refl)
hash_field Signed h = (refl, refl)
hash_field (Integer g) h = absurd (false≢true (sym h))
hash_field Comma h = (refl, refl)
hash_field (Point g) h = (refl, refl)
hash_field (Fraction g) h = absurd (false≢true (sym h))
hash_field (Up n) h = (refl, refl)
hash_field Stopped h = (refl, refl)

-- The scanner's loop, behind so many bytes: the state that they led to, and what was scanned, the longest field so far. The bytes behind that
-- field have no # sign. The field of all bytes is the longest so far, or is found from here on.

pub record Scanning (bytes : List ℕ) (scanned : Scanned) (state : State) (read : ℕ) : Type 0 where
  pub finds : later (longest_from state read (drop read bytes)) scanned.length ≡ field_length bytes
  pub few : scanned.integer + scanned.fraction ≤ read
  pub comes : state ≡ run_state Start (take read bytes)
  pub integers : scanned.integer ≡ integers_from Start (take read bytes)
  pub fractions : scanned.fraction ≡ fractions_from Start (take read bytes)
  pub own_integers : scanned.integer ≡ integers_from Start (take scanned.length bytes)
  pub own_fractions : scanned.fraction ≡ fractions_from Start (take scanned.length bytes)
  pub kind : scanned.exponential ≡ is_exponential (run_state Start (take scanned.length bytes))

-- before the first byte
pub scanning_starts : (bytes : List ℕ)
    → Scanning bytes (record { length = 0; integer = 0; fraction = 0; exponential = false }) Start 0
unfolding field_length run_state integers_from fractions_from
scanning_starts bytes =
    record {
      finds = later_zero _;
      few = omega arith;
      comes = refl;
      integers = refl;
      fractions = refl;
      own_integers = refl;
      own_fractions = refl;
      kind = refl;
    }

module _ {bytes : List ℕ} {scanned : Scanned} {s t : State} {read : ℕ}
    (r : Scanning bytes scanned s read) (h : read < length bytes) (e : t ≡ next_state s (get_or bytes read 0)) where
  -- the longest field is the one that ends here, if one does
  next_finds : later (longest_from t (suc read) (drop (suc read) bytes)) (pick (is_field_state t) (suc read) scanned.length) ≡ field_length bytes
  unfolding longest_from
  next_finds =
      let rest : List ℕ = drop (suc read) bytes in
      sym (later_turn (longest_from t (suc read) rest) read scanned.length (is_field_state t))
      ∙ ap (λ (x : State). later (later (longest_from x (suc read) rest) (pick (is_field_state x) (suc read) 0)) scanned.length) e
      ∙ ap (λ (l : List ℕ). later (longest_from s read l) scanned.length) (sym (drop-cons bytes read 0 h))
      ∙ r.finds

  -- the next state
  next_comes : t ≡ run_state Start (take (suc read) bytes)
  next_comes = e ∙ ap (λ (x : State). next_state x (get_or bytes read 0)) r.comes ∙ sym (run_more Start bytes read h)

  -- the next counts
  next_integers : integers_from Start (take (suc read) bytes) ≡ scanned.integer + counted (integer_hash t) 0
  next_integers =
      integers_more Start bytes read h
      ∙ ap (λ (x : State). integers_from Start (take read bytes) + counted (integer_hash x) 0) (sym next_comes)
      ∙ ap (λ (n : ℕ). n + counted (integer_hash t) 0) (sym r.integers)

  next_fractions : fractions_from Start (take (suc read) bytes) ≡ scanned.fraction + counted (fraction_hash t) 0
  next_fractions =
      fractions_more Start bytes read h
      ∙ ap (λ (x : State). fractions_from Start (take read bytes) + counted (fraction_hash x) 0) (sym next_comes)
      ∙ ap (λ (n : ℕ). n + counted (fraction_hash t) 0) (sym r.fractions)

  -- where a field ends here
  pub scanning_field : {x : Scanned} → is_field_state t ≡ true → x.length ≡ read + 1 → x.integer ≡ scanned.integer + counted (integer_hash t) 0
      → x.fraction ≡ scanned.fraction + counted (fraction_hash t) 0
      → x.exponential ≡ is_exponential t
      → Scanning bytes x t (read + 1)
  scanning_field {x} w n p q z =
      let size : x.length ≡ suc read = n ∙ add-one read in
      let many : x.integer ≡ integers_from Start (take (suc read) bytes) = p ∙ sym next_integers in
      let rest : x.fraction ≡ fractions_from Start (take (suc read) bytes) = q ∙ sym next_fractions in
      rw (add-one read)
      (record {
        finds = ap (later (longest_from t (suc read) (drop (suc read) bytes))) size ∙ (rw w at next_finds);
        few = omega (arith, hash_once t refl refl, r.few);
        comes = next_comes;
        integers = many;
        fractions = rest;
        own_integers = many ∙ ap (λ (l : ℕ). integers_from Start (take l bytes)) (sym size);
        own_fractions = rest ∙ ap (λ (l : ℕ). fractions_from Start (take l bytes)) (sym size);
        kind = z ∙ ap is_exponential next_comes ∙ ap (λ (l : ℕ). is_exponential (run_state Start (take l bytes))) (sym size);
      })

  -- where none does
  pub scanning_none : is_field_state t ≡ false → Scanning bytes scanned t (read + 1)
  scanning_none w =
      rw (add-one read)
      (record {
        finds = rw w at next_finds;
        few = omega (arith, r.few);
        comes = next_comes;
        integers = omega (arith, next_integers, (hash_field t w).0);
        fractions = omega (arith, next_fractions, (hash_field t w).1);
        own_integers = r.own_integers;
        own_fractions = r.own_fractions;
        kind = r.kind;
      })

-- A run of # signs is read in one step.

-- each of the # signs that bytes begin with
run_byte : (bs : List ℕ) (n : ℕ) → n < hashes_in bs → get_or bs n 0 ≡ hash_byte
run_byte [] n h = absurd (omega arith)
run_byte (b ∷ bs) n h = go (eqb b hash_byte) refl (run_byte bs) n h
  where
    go : (test : Bool) → eqb b hash_byte ≡ test → ((m : ℕ) → m < hashes_in bs → get_or bs m 0 ≡ hash_byte)
        → (m : ℕ) → m < pick test (suc (hashes_in bs)) 0
        → get_or (b ∷ bs) m 0 ≡ hash_byte
    go false e r m l = absurd (omega arith)
    go true e r zero l = eqb-true b hash_byte e
    go true e r (suc m) l = r m (omega arith)

-- so many # signs, or one byte, behind a place: all bytes but the first are # signs
pub record Step (bytes : List ℕ) (read size : ℕ) : Type 0 where
  pub some : 0 < size
  pub inside : read + size ≤ length bytes
  pub signs : (n : ℕ) → 0 < n → n < size → get_or bytes (read + n) 0 ≡ hash_byte
  pub first : 1 < size → get_or bytes read 0 ≡ hash_byte

module _ {bytes : List ℕ} {scanned : Scanned} {s t : State} {read size : ℕ}
    (r : Scanning bytes scanned s read) (e : t ≡ next_state s (get_or bytes read 0)) (k : Step bytes read size) where
  -- each byte of the step leads to the state that the first leads to
  step_stays : {m : ℕ} → suc m < size → t ≡ next_state t (get_or bytes (read + suc m) 0)
  step_stays {m} h =
      let hash : t ≡ next_state s hash_byte = e ∙ ap (next_state s) (k.first (omega arith)) in
      rw (k.signs (suc m) (omega arith), hash) (sym (hash_again s))

  module _ (w : is_field_state t ≡ true) where
    -- where a field ends behind so many of them
    field_steps : (m : ℕ) (x : Scanned) → suc m ≤ size → x.length ≡ read + suc m → x.integer ≡ scanned.integer + suc m * counted (integer_hash t) 0
        → x.fraction ≡ scanned.fraction + suc m * counted (fraction_hash t) 0
        → x.exponential ≡ is_exponential t
        → Scanning bytes x t (read + suc m)
    field_steps zero x h n p q z = scanning_field r (omega (arith, k.inside)) e w n (omega arith) (omega arith) z
    field_steps (suc m) x h n p q z =
        let y : Scanned = record { length = read + suc m; integer = scanned.integer + suc m * counted (integer_hash t) 0; fraction = scanned.fraction + suc m * counted (fraction_hash t) 0; exponential = is_exponential t } in
        let next : read + suc m + 1 ≡ read + suc (suc m) = omega arith in
        subst (Scanning bytes x t) next
        (scanning_field (field_steps m y (omega arith) refl refl refl refl) (omega (arith, k.inside)) (step_stays (omega arith)) w (n ∙ sym next) (omega arith) (omega arith) z)

    -- where one ends behind all of them
    pub scanning_fields : {x : Scanned} → x.length ≡ read + size → x.integer ≡ scanned.integer + size * counted (integer_hash t) 0
        → x.fraction ≡ scanned.fraction + size * counted (fraction_hash t) 0
        → x.exponential ≡ is_exponential t
        → Scanning bytes x t (read + size)
    scanning_fields {x} n p q z =
        let all : suc (size - 1) ≡ size = omega (arith, k.some) in
        subst (λ (m : ℕ). Scanning bytes x t (read + m)) all
        (field_steps (size - 1) x (omega (arith, k.some)) (n ∙ ap (λ (m : ℕ). read + m) (sym all))
        (p ∙ ap (λ (m : ℕ). scanned.integer + m * counted (integer_hash t) 0) (sym all))
        (q ∙ ap (λ (m : ℕ). scanned.fraction + m * counted (fraction_hash t) 0) (sym all)) z)

  module _ (w : is_field_state t ≡ false) where
    -- where none ends behind so many of them
    none_steps : (m : ℕ) → suc m ≤ size → Scanning bytes scanned t (read + suc m)
    none_steps zero h = scanning_none r (omega (arith, k.inside)) e w
    none_steps (suc m) h =
        let next : read + suc m + 1 ≡ read + suc (suc m) = omega arith in
        subst (Scanning bytes scanned t) next (scanning_none (none_steps m (omega arith)) (omega (arith, k.inside)) (step_stays (omega arith)) w)

    -- where none ends behind all of them
    pub scanning_nones : Scanning bytes scanned t (read + size)
    scanning_nones =
        let all : suc (size - 1) ≡ size = omega (arith, k.some) in
        subst (λ (n : ℕ). Scanning bytes scanned t (read + n)) all (none_steps (size - 1) (omega (arith, k.some)))

-- the longest field so far is the field
scanning_found : {bytes : List ℕ} {scanned : Scanned} {s : State} {read : ℕ} → Scanning bytes scanned s read → scanned.length ≡ field_length bytes
    → scanned ≡ scanned_field bytes
unfolding scanned_field scanned_image
scanning_found {bytes} r e =
    λ i. record {
      length = e i;
      integer = (r.own_integers ∙ ap (λ (n : ℕ). integers_from Start (take n bytes)) e) i;
      fraction = (r.own_fractions ∙ ap (λ (n : ℕ). fractions_from Start (take n bytes)) e) i;
      exponential = (r.kind ∙ ap (λ (n : ℕ). is_exponential (run_state Start (take n bytes))) e) i;
    }

-- where no field begins so
pub scanning_stops : {bytes : List ℕ} {scanned : Scanned} {s t : State} {read : ℕ} → Scanning bytes scanned s read → read < length bytes
    → t ≡ next_state s (get_or bytes read 0)
    → is_stopped t ≡ true
    → scanned ≡ scanned_field bytes
scanning_stops {bytes} {scanned} {s} {t} {read} r h e z =
    let u : t ≡ Stopped = is_stopped_lem t z in
    let next = scanning_none r h e (ap is_field_state u) in
    let nothing : longest_from t (read + 1) (drop (read + 1) bytes) ≡ 0 =
    ap (λ (x : State). longest_from x (read + 1) (drop (read + 1) bytes)) u ∙ stopped_none (read + 1) (drop (read + 1) bytes) in
    scanning_found next (sym (ap (λ (k : ℕ). later k scanned.length) nothing) ∙ next.finds)

-- behind the last byte
pub scanning_ends : {bytes : List ℕ} {scanned : Scanned} {s : State} {read : ℕ} → Scanning bytes scanned s read → length bytes ≤ read
    → scanned ≡ scanned_field bytes
unfolding longest_from
scanning_ends {bytes} {scanned} {s} {read} r h =
    scanning_found r
    (sym (ap (λ (l : List ℕ). later (longest_from s read l) scanned.length) (drop_of_length-le bytes h)) ∙ r.finds)

-- so many bytes, each counted once, or not at all
once : (n size : ℕ) → n + size ≡ n + size * 1
once n size = omega arith

none : (n size : ℕ) → n ≡ n + size * 0
none n size = omega arith

-- the other states are no field's
pub no_field_state : (s : CodeState) → (s ≡ code.Integer → ⊥) → (s ≡ code.Grouped → ⊥) → (s ≡ code.Fraction → ⊥) → (s ≡ code.GroupedFraction → ⊥)
    → (s ≡ code.Exponential → ⊥)
    → is_field_state (state_of s) ≡ false
no_field_state code.Start i g f h e = refl
no_field_state code.Signed i g f h e = refl
no_field_state code.Integer i g f h e = absurd (i refl)
no_field_state code.Grouped i g f h e = absurd (g refl)
no_field_state code.Comma i g f h e = refl
no_field_state code.Point i g f h e = refl
no_field_state code.GroupedPoint i g f h e = refl
no_field_state code.Fraction i g f h e = absurd (f refl)
no_field_state code.GroupedFraction i g f h e = absurd (h refl)
no_field_state code.FirstUp i g f h e = refl
no_field_state code.SecondUp i g f h e = refl
no_field_state code.ThirdUp i g f h e = refl
no_field_state code.Exponential i g f h e = absurd (e refl)
no_field_state code.Stopped i g f h e = refl

-- The scanner's loop as the code goes: the bytes behind those that were read are left.

pub record Onward (bytes : List ℕ) (scanned : Scanned) (state : State) (read : ℕ) (rest : List ℕ) : Type 0 where
  pub scanning : Scanning bytes scanned state read
  pub left : rest ≡ drop read bytes
  pub inside : read ≤ length bytes

-- before the first byte
pub onward_starts : (bytes : List ℕ) → Onward bytes (record { length = 0; integer = 0; fraction = 0; exponential = false }) Start 0 bytes
onward_starts bytes = record { scanning = scanning_starts bytes; left = refl; inside = omega arith }

-- behind the last byte
pub onward_ends : {bytes rest : List ℕ} {scanned : Scanned} {s : State} {read : ℕ} → Onward bytes scanned s read rest → length rest ≡ 0
    → scanned ≡ scanned_field bytes
onward_ends {bytes} {read = read} r h = scanning_ends r.scanning (omega (arith, ap length r.left, length-drop read bytes))

-- the # signs that stand there, or one byte, by the first byte and those behind it
pub step_is : (rest : List ℕ) {size : ℕ} → 0 < length rest
    → size ≡ pick (get_or rest 0 0 == hash_byte) (hashes_in (take (length rest - 1) (drop 1 rest)) + 1) 1
    → size ≡ max (hashes_in rest) 1
step_is [] h e = absurd (omega arith)
step_is (b ∷ bs) {size} h e =
    go (b == hash_byte) (e ∙ ap (λ (l : List ℕ). pick (b == hash_byte) (hashes_in l + 1) 1) (take_rest (b ∷ bs) 1))
  where
    go : (test : Bool) → size ≡ pick test (hashes_in bs + 1) 1 → size ≡ max (pick test (suc (hashes_in bs)) 0) 1
    go true w = omega arith
    go false w = omega arith

module _ {bytes rest : List ℕ} {scanned : Scanned} {s t : State} {read : ℕ}
    (r : Onward bytes scanned s read rest) (h : 0 < length rest) (e : t ≡ next_state s (get_or rest 0 0)) where
  -- a byte is left
  onward_more : read < length bytes
  onward_more = omega (arith, ap length r.left, length-drop read bytes)

  -- each byte that is left
  onward_byte : (n : ℕ) → get_or rest n 0 ≡ get_or bytes (read + n) 0
  onward_byte n = ap (λ (l : List ℕ). get_or l n 0) r.left ∙ get_or-drop read bytes n 0

  -- the first one leads to the next state
  onward_next : t ≡ next_state s (get_or bytes read 0)
  onward_next = let same : read + 0 ≡ read = omega arith in e ∙ ap (next_state s) (onward_byte 0 ∙ ap (λ (n : ℕ). get_or bytes n 0) same)

  -- where no field begins so
  pub onward_stops : is_stopped t ≡ true → scanned ≡ scanned_field bytes
  onward_stops z = scanning_stops r.scanning onward_more onward_next z

  module _ {size : ℕ} (k : size ≡ max (hashes_in rest) 1) where
    -- the # signs that stand there, or one byte
    pub onward_step : Step bytes read size
    onward_step =
        let same : read + 0 ≡ read = omega arith in
        record {
          some = omega arith;
          inside = omega (arith, run_inside hash_byte rest, ap length r.left, length-drop read bytes, r.inside);
          signs = λ n a b. sym (onward_byte n) ∙ run_byte rest n (omega arith);
          first = λ a. ap (λ (n : ℕ). get_or bytes n 0) (sym same) ∙ sym (onward_byte 0) ∙ run_byte rest 0 (omega arith);
        }

    -- they are left
    pub onward_within : size ≤ length rest
    onward_within = omega (arith, run_inside hash_byte rest)

    -- what is left behind them
    onward_left : {next : List ℕ} → next ≡ take (length rest - size) (drop size rest) → next ≡ drop (read + size) bytes
    onward_left {next} l =
        let all : size + read ≡ read + size = omega arith in
        l ∙ take_rest rest size ∙ ap (drop size) r.left ∙ drop-drop size read bytes

    -- where a field ends behind them
    onward_field : {next : List ℕ} {x : Scanned} → next ≡ take (length rest - size) (drop size rest) → is_field_state t ≡ true → x.length ≡ read + size
        → x.integer ≡ scanned.integer + size * counted (integer_hash t) 0
        → x.fraction ≡ scanned.fraction + size * counted (fraction_hash t) 0
        → x.exponential ≡ is_exponential t
        → Onward bytes x t (read + size) next
    onward_field l w n p q z =
        record { scanning = scanning_fields r.scanning onward_next onward_step w n p q z; left = onward_left l; inside = onward_step.inside }

    -- with # signs before the point
    pub onward_integer : {next : List ℕ} {g : Bool} → t ≡ Integer g → next ≡ take (length rest - size) (drop size rest)
        → Onward bytes (record { length = read + size; integer = scanned.integer + size; fraction = scanned.fraction; exponential = false }) t (read + size) next
    onward_integer u l =
        onward_field l (ap is_field_state u) refl
        (once scanned.integer size ∙ ap (λ (s : State). scanned.integer + size * counted (integer_hash s) 0) (sym u))
        (none scanned.fraction size ∙ ap (λ (s : State). scanned.fraction + size * counted (fraction_hash s) 0) (sym u))
        (sym (ap is_exponential u))

    -- with # signs behind it
    pub onward_fraction : {next : List ℕ} {g : Bool} → t ≡ Fraction g → next ≡ take (length rest - size) (drop size rest)
        → Onward bytes (record { length = read + size; integer = scanned.integer; fraction = scanned.fraction + size; exponential = false }) t (read + size) next
    onward_fraction u l =
        onward_field l (ap is_field_state u) refl
        (none scanned.integer size ∙ ap (λ (s : State). scanned.integer + size * counted (integer_hash s) 0) (sym u))
        (once scanned.fraction size ∙ ap (λ (s : State). scanned.fraction + size * counted (fraction_hash s) 0) (sym u))
        (sym (ap is_exponential u))

    -- with the four 5E bytes
    pub onward_exponential : {next : List ℕ} → t ≡ Up ups → next ≡ take (length rest - size) (drop size rest)
        → Onward bytes (record { length = read + size; integer = scanned.integer; fraction = scanned.fraction; exponential = true }) t (read + size) next
    onward_exponential u l =
        onward_field l (ap is_field_state u) refl
        (none scanned.integer size ∙ ap (λ (s : State). scanned.integer + size * counted (integer_hash s) 0) (sym u))
        (none scanned.fraction size ∙ ap (λ (s : State). scanned.fraction + size * counted (fraction_hash s) 0) (sym u))
        (sym (ap is_exponential u))

    -- where none does
    pub onward_none : {next : List ℕ} → next ≡ take (length rest - size) (drop size rest) → is_field_state t ≡ false
        → Onward bytes scanned t (read + size) next
    onward_none l w =
        record { scanning = scanning_nones r.scanning onward_next onward_step w; left = onward_left l; inside = onward_step.inside }

-- a scanned field's length
pub scanned_length : (bytes : List ℕ) {scanned : Scanned} → scanned ≡ scanned_field bytes → scanned.length ≡ field_length bytes
unfolding scanned_field
scanned_length bytes e = ap (λ (s : Scanned). s.length) e
