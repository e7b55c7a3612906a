-- Each field runs to an accepting state, with its own sign, counts and kind.
-- Assumes nothing.
use Prim.Native.Nat.{ℕ, zero, suc, ◌+◌, ◌<◌, ◌≤◌}
use native.Mathlib.Omega.{arith}
use mathlib.Core.Path.{◌≡◌, refl, ap, ◌∙◌, subst⁻¹}
use mathlib.Core.List.{List, [], ◌∷◌, ◌++◌}
use mathlib.Core.Bool.{Bool, true, false}
use lib.ListN.{length}
use Rattle.decimal.specs.declared.image.Sign.{Sign}
use Rattle.decimal.specs.declared.image.Sign.TheVariants.{Unsigned, Plus, Minus}
use Rattle.decimal.specs.Image.{State, Start, Signed, Integer, Comma, Point, Fraction}
use Rattle.decimal.specs.Image.{plus_byte, minus_byte, hash_byte, point_byte, comma_byte, sign_bytes, times, fraction_bytes, up_bytes}
use Rattle.decimal.specs.Image.{next_state, run_state, is_exponential, integer_hash, fraction_hash, counted, integers_from, fractions_from, leading_sign}
use Rattle.records.specs.Lines.Scanning.{run_bytes, Positive, total, is_field_state}
use Rattle.records.proofs.LineProofs.FieldTails.{Kind, fixed, plain, More, none, some, run_more}

-- bytes read from a state on are accepted, with this kind and these counts
pub record FieldRun (s : State) (bs : List ℕ) (kind : Bool) (before behind : ℕ) : Type 0 where
  pub accepted : is_field_state (run_state s bs) ≡ true
  pub exponential : is_exponential (run_state s bs) ≡ kind
  pub integers : integers_from s bs ≡ before
  pub fractions : fractions_from s bs ≡ behind

-- one byte more in front
over : (s : State) (b : ℕ) {bs : List ℕ} {kind : Bool} {before behind : ℕ} → FieldRun (next_state s b) bs kind before behind
    → FieldRun s (b ∷ bs) kind (counted (integer_hash (next_state s b)) before) (counted (fraction_hash (next_state s b)) behind)
unfolding run_state integers_from fractions_from
over s b r =
    record {
      accepted = r.accepted;
      exponential = r.exponential;
      integers = ap (counted (integer_hash (next_state s b))) r.integers;
      fractions = ap (counted (fraction_hash (next_state s b))) r.fractions;
    }

-- the count written in another way
counting : {s : State} {bs : List ℕ} {kind : Bool} {before other behind : ℕ} → FieldRun s bs kind before behind → before ≡ other
    → FieldRun s bs kind other behind
counting r e = record { accepted = r.accepted; exponential = r.exponential; integers = r.integers ∙ e; fractions = r.fractions }

-- # signs behind the point
fraction_run : {g kind : Bool} → Kind g kind → (behind : ℕ) → FieldRun (Fraction g) (times behind hash_byte ++ up_bytes kind) kind 0 behind
unfolding run_state next_state integers_from fractions_from times up_bytes
fraction_run plain zero = record { accepted = refl; exponential = refl; integers = refl; fractions = refl }
fraction_run fixed zero = record { accepted = refl; exponential = refl; integers = refl; fractions = refl }
fraction_run {g} k (suc n) = over (Fraction g) hash_byte (fraction_run k n)

-- the bytes behind the sign
abbrev pub body_bytes : List ℕ → ℕ → Bool → List ℕ
body_bytes runs behind kind = run_bytes runs ++ (fraction_bytes behind ++ up_bytes kind)

-- behind the last run
last_run : {g kind : Bool} → Kind g kind → (behind : ℕ) → FieldRun (Integer g) (fraction_bytes behind ++ up_bytes kind) kind 0 behind
unfolding run_state next_state integers_from fractions_from times fraction_bytes up_bytes
last_run plain zero = record { accepted = refl; exponential = refl; integers = refl; fractions = refl }
last_run fixed zero = record { accepted = refl; exponential = refl; integers = refl; fractions = refl }
last_run {g} k (suc n) = over (Integer g) point_byte (over (Point g) hash_byte (fraction_run k n))

-- a # in front of a run is one more in it
more_front : {s : State} {kind : Bool} {before behind : ℕ} (n : ℕ) (ns : List ℕ)
    → FieldRun s (hash_byte ∷ body_bytes (n ∷ ns) behind kind) kind before behind → FieldRun s (body_bytes (suc n ∷ ns) behind kind) kind before behind
more_front {s} {kind} {before} {behind} n ns r =
    subst⁻¹ (λ (l : List ℕ). FieldRun s l kind before behind) (run_more n ns (fraction_bytes behind ++ up_bytes kind)) r

-- a run of # signs in front of the others
first_run : {g kind : Bool} {behind rest : ℕ} (n : ℕ) (ns : List ℕ) → FieldRun (Integer g) (body_bytes (0 ∷ ns) behind kind) kind rest behind
    → FieldRun (Integer g) (body_bytes (n ∷ ns) behind kind) kind (n + rest) behind
unfolding next_state
first_run zero ns r = counting r (omega arith)
first_run {g} (suc n) ns r = more_front n ns (counting (over (Integer g) hash_byte (first_run n ns r)) (omega arith))

-- a fixed-point field has any runs
any_runs : (ns : List ℕ) → More ns false
any_runs [] = none
any_runs (n ∷ ns) = some

-- the runs behind the first, with their commas
other_runs : {g kind : Bool} → Kind g kind → (ns : List ℕ) → More ns kind → Positive ns → (behind : ℕ)
    → FieldRun (Integer g) (body_bytes (0 ∷ ns) behind kind) kind (total ns) behind
unfolding next_state run_bytes times Positive total
other_runs k [] m p behind = last_run k behind
other_runs k (zero ∷ ns) m p behind = absurd (omega (arith, p.0))
other_runs {g} k (suc n ∷ ns) some p behind =
    over (Integer g) comma_byte
    (more_front n ns
    (counting (over Comma hash_byte (first_run n ns (other_runs fixed ns (any_runs ns) p.1 behind))) (omega arith)))

-- each kind goes on where no comma was read
each_kind : (kind : Bool) → Kind false kind
each_kind true = plain
each_kind false = fixed

-- the runs that a field of a kind has
allowed : (kind : Bool) (n : ℕ) (ns : List ℕ) → (kind ≡ true → length (n ∷ ns) ≤ 1) → More ns kind
allowed kind n [] h = none
allowed false n (m ∷ ns) h = some
allowed true n (m ∷ ns) h = let l : length (n ∷ (m ∷ ns)) ≤ 1 = h refl in absurd (omega arith)

-- the states before the first #
data Begins : State → Type 0 where
  start : Begins Start
  signed : Begins Signed

-- a # that begins
begin_hash : {s : State} {bs : List ℕ} {kind : Bool} {before behind : ℕ} → Begins s → FieldRun (Integer false) bs kind before behind
    → FieldRun s (hash_byte ∷ bs) kind (suc before) behind
unfolding next_state
begin_hash start r = over Start hash_byte r
begin_hash signed r = over Signed hash_byte r

-- a point that begins
begin_point : {s : State} {bs : List ℕ} {kind : Bool} {before behind : ℕ} → Begins s → FieldRun (Point false) bs kind before behind
    → FieldRun s (point_byte ∷ bs) kind before behind
unfolding next_state
begin_point start r = over Start point_byte r
begin_point signed r = over Signed point_byte r

-- what stands behind the sign
body_run : {s : State} → Begins s → (runs : List ℕ) (behind : ℕ) (kind : Bool) → Positive runs → 0 < total runs + behind
    → (kind ≡ true → length runs ≤ 1) → FieldRun s (body_bytes runs behind kind) kind (total runs) behind
unfolding next_state run_bytes times fraction_bytes Positive total
body_run b [] zero kind p h l = absurd (omega arith)
body_run b [] (suc n) kind p h l = begin_point b (over (Point false) hash_byte (fraction_run (each_kind kind) n))
body_run b (zero ∷ ns) behind kind p h l = absurd (omega (arith, p.0))
body_run b (suc n ∷ ns) behind kind p h l =
    more_front n ns
    (counting (begin_hash b (first_run n ns (other_runs (each_kind kind) ns (allowed kind (suc n) ns l) p.1 behind))) (omega arith))

-- each field, with its sign
pub whole_run : (sign : Sign) (runs : List ℕ) (behind : ℕ) (kind : Bool) → Positive runs → 0 < total runs + behind
    → (kind ≡ true → length runs ≤ 1) → FieldRun Start (sign_bytes sign ++ body_bytes runs behind kind) kind (total runs) behind
unfolding next_state sign_bytes
whole_run Unsigned runs behind kind p h l = body_run start runs behind kind p h l
whole_run Plus runs behind kind p h l = over Start plus_byte (body_run signed runs behind kind p h l)
whole_run Minus runs behind kind p h l = over Start minus_byte (body_run signed runs behind kind p h l)

-- the sign that is read
pub whole_sign : (sign : Sign) (runs : List ℕ) (behind : ℕ) (kind : Bool) → Positive runs → 0 < total runs + behind
    → leading_sign (sign_bytes sign ++ body_bytes runs behind kind) ≡ sign
unfolding leading_sign sign_bytes run_bytes fraction_bytes Positive total
whole_sign Unsigned [] zero kind p h = absurd (omega arith)
whole_sign Unsigned [] (suc n) kind p h = refl
whole_sign Unsigned (zero ∷ ns) behind kind p h = absurd (omega (arith, p.0))
whole_sign Unsigned (suc n ∷ ns) behind kind p h = ap leading_sign (run_more n ns (fraction_bytes behind ++ up_bytes kind))
whole_sign Plus runs behind kind p h = refl
whole_sign Minus runs behind kind p h = refl
