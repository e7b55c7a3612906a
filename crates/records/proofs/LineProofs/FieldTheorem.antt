-- Document 01, Print lines: the machine accepts exactly the fields of the grammar, and what it finds at the front of bytes is the longest one.
-- Assumes nothing.
use Prim.Native.Nat.{ℕ, zero, suc, ◌+◌, ◌-◌, ◌<◌, ◌≤◌}
use native.Mathlib.Omega.{arith}
use mathlib.Core.Path.{◌≡◌, refl, ap, ◌∙◌}
use mathlib.Core.Logic.{◌⊎◌, inl, inr, ⊎_elim}
use mathlib.Core.List.{List, [], ◌∷◌, ◌++◌}
use mathlib.Core.Bool.{Bool, true, false}
use lib.ListN.{length, take}
use lib.Seq.{take-length}
use Rattle.decimal.specs.declared.image.Image.{Image}
use Rattle.decimal.specs.Image.{State, Start}
use Rattle.decimal.specs.Answer.{pick}
use Rattle.decimal.specs.Image.{times, hash_byte, sign_bytes, fraction_bytes, up_bytes, image_bytes, IsImage, next_state, run_state, scanned_image}
use Rattle.records.specs.Lines.Scanning.{Field, run_bytes, field_bytes, Positive, total, IsField, LongestField, is_field_state, longest_from, field_length}
use Rattle.records.proofs.LineProofs.ScanLaws.{later, suc_eqb}
use Rattle.records.proofs.LineProofs.FieldTails.{some_field}
use Rattle.records.proofs.LineProofs.FieldRuns.{FieldRun, whole_run, whole_sign}

-- The machine and the grammar.

-- a field is accepted, with its kind and counts
field_run : (f : Field) → Positive f.runs → 0 < total f.runs + f.fraction → (f.exponential ≡ true → length f.runs ≤ 1)
    → FieldRun Start (field_bytes f) f.exponential (total f.runs) f.fraction
unfolding field_bytes
field_run f p h l = whole_run f.sign f.runs f.fraction f.exponential p h l

-- each field is accepted
pub accepts_field : {bytes : List ℕ} {f : Field} → IsField bytes f → is_field_state (run_state Start bytes) ≡ true
accepts_field {bytes} {f} r =
    ap (λ (l : List ℕ). is_field_state (run_state Start l)) r.rendered ∙ (field_run f r.positive r.nonempty r.plain).accepted

-- bytes that are accepted are a field
pub field_accepted : (bytes : List ℕ) → is_field_state (run_state Start bytes) ≡ true → (f : Field) × IsField bytes f
field_accepted bytes h = some_field bytes h

-- what the machine reads of a field
field_bytes_image : (f : Field) → Positive f.runs → 0 < total f.runs + f.fraction → (f.exponential ≡ true → length f.runs ≤ 1)
    → scanned_image (field_bytes f) ≡ record { sign = f.sign; integer = total f.runs; fraction = f.fraction; exponential = f.exponential }
unfolding field_bytes scanned_image
field_bytes_image f p h l =
    let r = field_run f p h l in
    let s = whole_sign f.sign f.runs f.fraction f.exponential p h in
    λ k. record { sign = s k; integer = r.integers k; fraction = r.fractions k; exponential = r.exponential k }

-- the machine reads a field's sign, counts and kind
pub field_image_lem : {bytes : List ℕ} {f : Field} → IsField bytes f
    → scanned_image bytes ≡ record { sign = f.sign; integer = total f.runs; fraction = f.fraction; exponential = f.exponential }
field_image_lem {bytes} {f} r = ap scanned_image r.rendered ∙ field_bytes_image f r.positive r.nonempty r.plain

-- The longest field.

-- what is found from a state on: nothing, or a length at which the bytes are a field's
record Finds (s : State) (read : ℕ) (bs : List ℕ) (k : ℕ) : Type 0 where
  above : read < k
  inside : k ≤ read + length bs
  holds : is_field_state (run_state s (take (k - read) bs)) ≡ true

-- one byte more in front
finds_over : {s : State} {read : ℕ} {bs : List ℕ} {k : ℕ} (b : ℕ) → Finds (next_state s b) (suc read) bs k → Finds s read (b ∷ bs) k
unfolding run_state
finds_over {s} {read} {bs} {k} b r =
    let n : k - read ≡ suc (k - suc read) = omega (arith, r.above) in
    record {
      above = omega (arith, r.above);
      inside = omega (arith, r.inside);
      holds = ap (λ (m : ℕ). is_field_state (run_state s (take m (b ∷ bs)))) n ∙ r.holds;
    }

-- a field that ends with this byte
finds_here : {s : State} (read b : ℕ) (bs : List ℕ) → is_field_state (next_state s b) ≡ true → Finds s read (b ∷ bs) (suc read)
unfolding run_state
finds_here {s} read b bs h =
    let n : suc read - read ≡ 1 = omega arith in
    record {
      above = omega arith;
      inside = omega arith;
      holds = ap (λ (m : ℕ). is_field_state (run_state s (take m (b ∷ bs)))) n ∙ h;
    }

-- what is found later, else here, else nothing
choose : (P : ℕ → Type 0) (k n : ℕ) (t : Bool) → (k ≡ 0) ⊎ P k → (t ≡ true → P n)
    → (later k (pick t n 0) ≡ 0) ⊎ P (later k (pick t n 0))
choose P zero n true c h = inr (h refl)
choose P zero n false c h = inl refl
choose P (suc k) n t (inl e) h = absurd (omega arith)
choose P (suc k) n t (inr p) h = inr (rw (suc_eqb k) p)

-- the length that the machine finds
finds : (s : State) (read : ℕ) (bs : List ℕ) → (longest_from s read bs ≡ 0) ⊎ Finds s read bs (longest_from s read bs)
unfolding longest_from
finds s read [] = inl refl
finds s read (b ∷ bs) =
    let t = next_state s b in
    choose
    (Finds s read (b ∷ bs))
    (longest_from t (suc read) bs)
    (suc read)
    (is_field_state t)
    (⊎_elim (λ e. inl e) (λ r. inr (finds_over b r)) (finds t (suc read) bs))
    (finds_here read b bs)

-- what is found later is not below what was found there
later_least : (k x n : ℕ) → 0 < n → n ≤ k → n ≤ later k x
later_least zero x n p h = absurd (omega arith)
later_least (suc k) x n p h = rw (suc_eqb k) h

-- nor below what is found here
later_here : (k n : ℕ) → (k ≡ 0) ⊎ (n < k) → n ≤ later k n
later_here zero n h = omega arith
later_here (suc k) n (inl e) = absurd (omega arith)
later_here (suc k) n (inr h) = rw (suc_eqb k) (omega arith)

-- no longer beginning leads to a state that is a field's
none_longer : (s : State) (read : ℕ) (bs : List ℕ) (n : ℕ) → n < length bs → is_field_state (run_state s (take (suc n) bs)) ≡ true
    → suc (read + n) ≤ longest_from s read bs
unfolding longest_from run_state
none_longer s read [] n h f = absurd (omega arith)
none_longer s read (b ∷ bs) zero h f =
    let t = next_state s b in
    let k = longest_from t (suc read) bs in
    let l : suc read ≤ later k (suc read) = later_here k (suc read) (⊎_elim (λ e. inl e) (λ r. inr r.above) (finds t (suc read) bs)) in
    rw f (omega arith)
none_longer s read (b ∷ bs) (suc n) h f =
    let t = next_state s b in
    let k = longest_from t (suc read) bs in
    let ih : suc (suc read + n) ≤ k = none_longer t (suc read) bs n (omega arith) f in
    later_least k (pick (is_field_state t) (suc read) 0) (suc (read + suc n)) (omega arith) (omega arith)

-- the length that is found lies within the bytes
found_inside : {bytes : List ℕ} {k : ℕ} → (k ≡ 0) ⊎ Finds Start 0 bytes k → k ≤ length bytes
found_inside (inl e) = omega arith
found_inside (inr r) = omega (arith, r.inside)

-- and a field ends there, if it is not 0
found_field : {bytes : List ℕ} {k : ℕ} → (k ≡ 0) ⊎ Finds Start 0 bytes k → (k ≡ 0 → ⊥) → (f : Field) × IsField (take k bytes) f
found_field (inl e) h = absurd (h e)
found_field {bytes} {k} (inr r) h =
    let n : k ≡ k - 0 = omega arith in
    field_accepted (take k bytes) (ap (λ (m : ℕ). is_field_state (run_state Start (take m bytes))) n ∙ r.holds)

-- no longer beginning is a field
found_longest : (bytes : List ℕ) (n : ℕ) (f : Field) → n ≤ length bytes → IsField (take n bytes) f → n ≤ longest_from Start 0 bytes
found_longest bytes zero f h r = omega arith
found_longest bytes (suc n) f h r =
    let l : suc (0 + n) ≤ longest_from Start 0 bytes = none_longer Start 0 bytes n (omega arith) (accepts_field r) in
    omega arith

-- the length that the machine finds at the front of bytes is that of the longest field
pub longest_field : (bytes : List ℕ) → LongestField bytes (field_length bytes)
unfolding field_length
longest_field bytes =
    let r = finds Start 0 bytes in
    record { inside = found_inside r; is_field = found_field r; longest = found_longest bytes }

-- Images.

-- the runs of an image: one, or none where no # stands before the point
abbrev run_of : ℕ → List ℕ
run_of zero = []
run_of (suc n) = suc n ∷ []

-- its bytes
run_of_bytes : (n : ℕ) → times n hash_byte ≡ run_bytes (run_of n)
unfolding times run_bytes
run_of_bytes zero = refl
run_of_bytes (suc n) = refl

-- it is not empty
run_of_positive : (n : ℕ) → Positive (run_of n)
unfolding Positive
run_of_positive zero = tt
run_of_positive (suc n) = (omega arith, tt)

-- its count
run_of_total : (n : ℕ) → total (run_of n) ≡ n
unfolding total
run_of_total zero = refl
run_of_total (suc n) = omega arith

-- it is one at most
run_of_length : (n : ℕ) → length (run_of n) ≤ 1
run_of_length zero = omega arith
run_of_length (suc n) = omega arith

-- an image is a field
pub image_field : {bytes : List ℕ} {im : Image} → IsImage bytes im → (f : Field) × IsField bytes f
unfolding image_bytes field_bytes
image_field {bytes} {im} r =
    let n = im.integer in
    let t : total (run_of n) ≡ n = run_of_total n in
    let p : 0 < im.integer + im.fraction = r.nonempty in (
      record { sign = im.sign; runs = run_of n; fraction = im.fraction; exponential = im.exponential },
      record {
        rendered =
            r.rendered
            ∙ ap (λ (l : List ℕ). sign_bytes im.sign ++ (l ++ (fraction_bytes im.fraction ++ up_bytes im.exponential))) (run_of_bytes n);
        positive = run_of_positive n;
        nonempty = omega arith;
        plain = λ e. run_of_length n;
      },
    )

-- an image scanned as a line is one field of its whole length
pub image_whole : {bytes : List ℕ} {im : Image} → IsImage bytes im → field_length bytes ≡ length bytes
image_whole {bytes} r =
    let f = image_field r in
    let l = longest_field bytes in
    let all : IsField (take (length bytes) bytes) f.0 = rw (take-length bytes) f.1 in
    let least : length bytes ≤ field_length bytes = l.longest (length bytes) f.0 (omega arith) all in
    let most : field_length bytes ≤ length bytes = l.inside in
    omega arith
