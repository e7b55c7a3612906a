-- The laws of the reader's loop, which reads a run of # signs in one step: such a run leads to one state, and all of it counts there.
-- Assumes nothing.
use Rattle.std.proofs.Common.{◌≡◌, ℕ, suc, ◌+◌, ◌-◌, ◌*◌, ◌<◌, ◌≤◌, Bool, true, false, eqb, List, [], ◌∷◌, length, get_or, drop, sym, refl, ap, ◌∙◌, max, cond, ◌==◌, nat_lt, arith, length-drop}
use Rattle.std.proofs.Math.Nat.{mul-le-mul_left}
use Rattle.std.specs.List.{prefix_len}
use Rattle.std.proofs.lemmas.List.Sums.{prefix_len-le-length}
use borrow.Author.Tests.{eqb-true, eq-eqb, ne_eqb}
use Rattle.decimal.specs.declared.image.Scan.{Scan}
use Rattle.decimal.specs.Answer.{pick}
use Rattle.decimal.specs.Image.{State, Start, Signed, Integer, Comma, Point, Fraction, Up, Stopped, state_of, hash_byte}
use Rattle.decimal.specs.Image.{plus_byte, minus_byte, point_byte, comma_byte, up_byte, ups, after_sign, after_point, after_comma, after_up, next_state, run_state, integer_hash, fraction_hash, counted, integers_from, fractions_from, leading_run, hashes_in, Scanned}
use Rattle.decimal.proofs.ImageLaws.{hash_once}

-- the bytes of one value that bytes begin with, in the library's words
pub run_prefix : (byte : ℕ) (bytes : List ℕ) → prefix_len (λ b. b == byte) bytes ≡ leading_run byte bytes
run_prefix byte [] = refl
run_prefix byte (b ∷ bs) = go (b == byte) (run_prefix byte bs)
  where
    go : (test : Bool) {m n : ℕ} → m ≡ n → cond test (1 + m) 0 ≡ pick test (suc n) 0
    go true e = omega arith
    go false e = refl

-- they are within the bytes
pub run_inside : (byte : ℕ) (bytes : List ℕ) → leading_run byte bytes ≤ length bytes
run_inside byte bytes = rw (← run_prefix byte bytes) (prefix_len-le-length (λ b. b == byte) bytes)

-- The reader's loop: what was read and what is left make the whole.

-- the state and the counts before the bytes that are left
pub record Reading (bytes : List ℕ) (state : State) (before behind : ℕ) (rest : List ℕ) : Type 0 where
  pub few : before + behind + length rest ≤ length bytes
  pub ends : run_state state rest ≡ run_state Start bytes
  pub integers : before + integers_from state rest ≡ integers_from Start bytes
  pub fractions : behind + fractions_from state rest ≡ fractions_from Start bytes

-- before the first byte
pub reading_starts : (bytes : List ℕ) → Reading bytes Start 0 0 bytes
reading_starts bytes = record { few = omega arith; ends = refl; integers = omega arith; fractions = omega arith }

-- behind the last byte
pub reading_ends : {bytes : List ℕ} {scan : Scan} (rest : List ℕ) → Reading bytes (state_of scan.state) scan.integer scan.fraction rest
    → length rest ≡ 0 → Scanned bytes scan
unfolding run_state integers_from fractions_from
reading_ends [] r h = record { ended = r.ends; integers = omega (arith, r.integers); fractions = omega (arith, r.fractions) }
reading_ends (b ∷ bs) r h = absurd (omega arith)

-- a # behind a # leads nowhere else
pub hash_again : (s : State) → next_state (next_state s hash_byte) hash_byte ≡ next_state s hash_byte
unfolding next_state
hash_again Start = refl
hash_again Signed = refl
hash_again (Integer g) = refl
hash_again Comma = refl
hash_again (Point g) = refl
hash_again (Fraction g) = refl
hash_again (Up n) = refl
hash_again Stopped = refl

-- one more where a state counts
count_one : (test : Bool) (n : ℕ) {i : ℕ} → i ≡ counted test 0 → counted test n ≡ i + n
count_one true n e = omega arith
count_one false n e = omega arith

-- so many bytes are read in one state, and each of them counts there
record Passed (t : State) (i f k : ℕ) (bs : List ℕ) : Type 0 where
  inside : k ≤ length bs
  ends : run_state t (drop k bs) ≡ run_state t bs
  integers : k * i + integers_from t (drop k bs) ≡ integers_from t bs
  fractions : k * f + fractions_from t (drop k bs) ≡ fractions_from t bs

-- no byte
passed_none : (t : State) (i f : ℕ) (bs : List ℕ) → Passed t i f 0 bs
passed_none t i f bs = record { inside = omega arith; ends = refl; integers = omega arith; fractions = omega arith }

-- the # signs that bytes begin with, in a state where a # leads nowhere else
passed_hashes : {t : State} {i f : ℕ} → i ≡ counted (integer_hash t) 0 → f ≡ counted (fraction_hash t) 0 → next_state t hash_byte ≡ t
    → (bs : List ℕ) → Passed t i f (hashes_in bs) bs
unfolding run_state integers_from fractions_from
passed_hashes {t} {i} {f} p q stays [] = passed_none t i f []
passed_hashes {t} {i} {f} p q stays (b ∷ bs) = go (eqb b hash_byte) refl (passed_hashes p q stays bs)
  where
    go : (test : Bool) → eqb b hash_byte ≡ test → Passed t i f (hashes_in bs) bs → Passed t i f (pick test (suc (hashes_in bs)) 0) (b ∷ bs)
    go false e r = passed_none t i f (b ∷ bs)
    go true e r =
        let same : next_state t b ≡ t = ap (next_state t) (eqb-true b hash_byte e) ∙ stays in
        record {
          inside = omega (arith, r.inside);
          ends = r.ends ∙ ap (λ (x : State). run_state x bs) (sym same);
          integers = rw same (omega (arith, count_one (integer_hash t) (integers_from t bs) p, r.integers));
          fractions = rw same (omega (arith, count_one (fraction_hash t) (fractions_from t bs) q, r.fractions));
        }

-- what a step leaves
pub record Stepped (bytes : List ℕ) (t : State) (before behind k i f : ℕ) (rest : List ℕ) : Type 0 where
  pub inside : k ≤ length rest
  pub few : before + k * i + (behind + k * f) ≤ length bytes
  pub reading : Reading bytes t (before + k * i) (behind + k * f) (drop k rest)

-- one step further: the # signs that stand there, or one byte
pub reading_steps : {bytes : List ℕ} {s t : State} {before behind k i f : ℕ} (rest : List ℕ)
    → Reading bytes s before behind rest
    → 0 < length rest
    → t ≡ next_state s (get_or rest 0 0)
    → k ≡ max (hashes_in rest) 1
    → i ≡ counted (integer_hash t) 0
    → f ≡ counted (fraction_hash t) 0
    → Stepped bytes t before behind k i f rest
unfolding run_state integers_from fractions_from
reading_steps [] r h e l p q = absurd (omega arith)
reading_steps {bytes} {s} {t} {before} {behind} {k} {i} {f} (b ∷ bs) r h e l p q = go (eqb b hash_byte) refl l
  where
    step : (m : ℕ) → k ≡ suc m → Passed t i f m bs → Stepped bytes t before behind k i f (b ∷ bs)
    step m is passed =
        let few : k * (i + f) ≤ k * 1 = mul-le-mul_left {m = i + f} {n = 1} k (hash_once t p q) in
        let left : length (drop k (b ∷ bs)) ≡ length bs - m = rw is (length-drop m bs) in
        let ends : run_state t (drop k (b ∷ bs)) ≡ run_state Start bytes = rw is (passed.ends ∙ ap (λ (x : State). run_state x bs) e ∙ r.ends) in
        let ahead : integers_from s (b ∷ bs) ≡ i + integers_from t bs = rw (← e) (count_one (integer_hash t) (integers_from t bs) p) in
        let aside : fractions_from s (b ∷ bs) ≡ f + fractions_from t bs = rw (← e) (count_one (fraction_hash t) (fractions_from t bs) q) in
        record {
          inside = omega (arith, passed.inside);
          few = omega (arith, r.few, passed.inside);
          reading = record {
            few = omega (arith, r.few, passed.inside);
            ends = ends;
            integers = rw is (omega (arith, passed.integers, r.integers));
            fractions = rw is (omega (arith, passed.fractions, r.fractions));
          };
        }

    go : (test : Bool) → eqb b hash_byte ≡ test → k ≡ max (pick test (suc (hashes_in bs)) 0) 1 → Stepped bytes t before behind k i f (b ∷ bs)
    go true same is =
        let hash : t ≡ next_state s hash_byte = e ∙ ap (next_state s) (eqb-true b hash_byte same) in
        step (hashes_in bs) (omega arith) (passed_hashes p q (rw hash (hash_again s)) bs)
    go false other is = step 0 is (passed_none t i f bs)

-- a state that counts nothing
abbrev Quiet : State → Type 0
Quiet t = (integer_hash t ≡ false) × (fraction_hash t ≡ false)

quiet_pick : (test : Bool) (x y : State) → Quiet x → Quiet y → Quiet (pick test x y)
quiet_pick true x y p q = p
quiet_pick false x y p q = q

quiet_sign : (s : State) → Quiet (after_sign s)
quiet_sign Start = (refl, refl)
quiet_sign Signed = (refl, refl)
quiet_sign (Integer g) = (refl, refl)
quiet_sign Comma = (refl, refl)
quiet_sign (Point g) = (refl, refl)
quiet_sign (Fraction g) = (refl, refl)
quiet_sign (Up n) = (refl, refl)
quiet_sign Stopped = (refl, refl)

quiet_point : (s : State) → Quiet (after_point s)
quiet_point Start = (refl, refl)
quiet_point Signed = (refl, refl)
quiet_point (Integer g) = (refl, refl)
quiet_point Comma = (refl, refl)
quiet_point (Point g) = (refl, refl)
quiet_point (Fraction g) = (refl, refl)
quiet_point (Up n) = (refl, refl)
quiet_point Stopped = (refl, refl)

quiet_comma : (s : State) → Quiet (after_comma s)
quiet_comma Start = (refl, refl)
quiet_comma Signed = (refl, refl)
quiet_comma (Integer g) = (refl, refl)
quiet_comma Comma = (refl, refl)
quiet_comma (Point g) = (refl, refl)
quiet_comma (Fraction g) = (refl, refl)
quiet_comma (Up n) = (refl, refl)
quiet_comma Stopped = (refl, refl)

quiet_up : (s : State) → Quiet (after_up s)
quiet_up Start = (refl, refl)
quiet_up Signed = (refl, refl)
quiet_up (Integer g) = quiet_pick g _ _ (refl, refl) (refl, refl)
quiet_up Comma = (refl, refl)
quiet_up (Point g) = (refl, refl)
quiet_up (Fraction g) = quiet_pick g _ _ (refl, refl) (refl, refl)
quiet_up (Up n) = quiet_pick (nat_lt n ups) _ _ (refl, refl) (refl, refl)
quiet_up Stopped = (refl, refl)

-- a byte that is no # counts nothing
quiet_other : (s : State) (b : ℕ) → eqb b hash_byte ≡ false → Quiet (next_state s b)
unfolding next_state
quiet_other s b other =
    quiet_pick (b == plus_byte) _ _ (quiet_sign s)
    (quiet_pick (b == minus_byte) _ _ (quiet_sign s)
    (rw other
    (quiet_pick (b == point_byte) _ _ (quiet_point s)
    (quiet_pick (b == comma_byte) _ _ (quiet_comma s) (quiet_pick (b == up_byte) _ _ (quiet_up s) (refl, refl))))))

-- one byte further, where it is no #
pub reading_other : {bytes : List ℕ} {s t : State} {before behind : ℕ} (rest : List ℕ)
    → Reading bytes s before behind rest
    → 0 < length rest
    → t ≡ next_state s (get_or rest 0 0)
    → (get_or rest 0 0 ≡ hash_byte → ⊥)
    → Reading bytes t before behind (drop 1 rest)
reading_other [] r h e other = absurd (omega arith)
reading_other {bytes} {s} {t} {before} {behind} (b ∷ bs) r h e other =
    let quiet = quiet_other s b (ne_eqb b hash_byte other) in
    let none : counted (integer_hash t) 0 ≡ 0 = ap (λ (x : State). counted (integer_hash x) 0) e ∙ ap (λ (x : Bool). counted x 0) quiet.0 in
    let nothing : counted (fraction_hash t) 0 ≡ 0 = ap (λ (x : State). counted (fraction_hash x) 0) e ∙ ap (λ (x : Bool). counted x 0) quiet.1 in
    let alone : 1 ≡ max (hashes_in (b ∷ bs)) 1 = rw (ne_eqb b hash_byte other) refl in
    let stepped = reading_steps {k = 1} {i = 0} {f = 0} (b ∷ bs) r h e alone (sym none) (sym nothing) in
    let read = stepped.reading in
    record { few = omega (arith, read.few); ends = read.ends; integers = omega (arith, read.integers); fractions = omega (arith, read.fractions) }

-- and a run of # signs further
pub reading_run : {bytes : List ℕ} {s t : State} {before behind more i f : ℕ} (rest : List ℕ)
    → Reading bytes s before behind rest
    → 0 < length rest
    → t ≡ next_state s (get_or rest 0 0)
    → get_or rest 0 0 ≡ hash_byte
    → more ≡ hashes_in (drop 1 rest)
    → i ≡ counted (integer_hash t) 0
    → f ≡ counted (fraction_hash t) 0
    → Stepped bytes t before behind (more + 1) i f rest
reading_run [] r h e same run p q = absurd (omega arith)
reading_run {more = more} (b ∷ bs) r h e same run p q =
    reading_steps {k = more + 1} (b ∷ bs) r h e (rw (eq-eqb b hash_byte same) (omega (arith, run))) p q
