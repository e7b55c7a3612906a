-- What the machine accepts is an image: each state from which an image is reached accepts tails of images, by going over the bytes.
-- Assumes nothing.
use Rattle.std.proofs.Common.{◌≡◌, ℕ, zero, suc, ◌+◌, ◌-◌, ◌<◌, ◌≤◌, Bool, true, false, eqb, ltb, ◌⊎◌, List, [], ◌∷◌, ◌++◌, sym, refl, ap, ◌∙◌, subst, inl, inr, ⊎_elim, arith, ltb-true, eqb-true}
use mathlib.Core.Path.{subst⁻¹}
use mathlib.Core.Bool.{false≢true}
use Rattle.decimal.specs.declared.image.Sign.{Sign}
use Rattle.decimal.specs.declared.image.Sign.TheVariants.{Unsigned, Plus, Minus}
use Rattle.decimal.specs.declared.image.Image.{Image}
use Rattle.decimal.specs.Answer.{pick}
use Rattle.decimal.specs.Image.{State, Start, Signed, Integer, Comma, Point, Fraction, Up, Stopped}
use Rattle.decimal.specs.Image.{plus_byte, minus_byte, hash_byte, point_byte, comma_byte, up_byte, ups}
use Rattle.decimal.specs.Image.{sign_bytes, times, fraction_bytes, up_bytes, image_bytes, IsImage, next_state, run_state, is_image}

-- The bytes that matter, and the others.

-- what a byte is to the machine
pub data ByteView : ℕ → Type 0 where
  is_plus : ByteView plus_byte
  is_minus : ByteView minus_byte
  is_hash : ByteView hash_byte
  is_point : ByteView point_byte
  is_comma : ByteView comma_byte
  is_up : ByteView up_byte
  is_other : {b : ℕ} → ((s : State) → next_state s b ≡ Stopped) → ByteView b

-- a number is a key or not
pub key : (b k : ℕ) → (b ≡ k) ⊎ (eqb b k ≡ false)
key b k = go (eqb b k) refl
  where
    go : (t : Bool) → eqb b k ≡ t → (b ≡ k) ⊎ (eqb b k ≡ false)
    go true e = inl (eqb-true b k e)
    go false e = inr e

-- a byte that is no key stops the machine
pub other : (b : ℕ) → eqb b plus_byte ≡ false → eqb b minus_byte ≡ false → eqb b hash_byte ≡ false → eqb b point_byte ≡ false
    → eqb b comma_byte ≡ false → eqb b up_byte ≡ false → (s : State) → next_state s b ≡ Stopped
unfolding next_state
other b p m h o c u s = simp (p, m, h, o, c, u)

-- each byte is one of them
pub view : (b : ℕ) → ByteView b
view b =
    or_else plus_byte is_plus λ p. or_else minus_byte is_minus λ m. or_else hash_byte is_hash λ h. or_else point_byte is_point λ o.
    or_else comma_byte is_comma λ c. or_else up_byte is_up λ u. is_other (other b p m h o c u)
  where
    or_else : (k : ℕ) → ByteView k → (eqb b k ≡ false → ByteView b) → ByteView b
    or_else k v f = ⊎_elim (λ e. subst⁻¹ ByteView e v) f (key b k)

-- The state in which no field begins, and the 5E bytes, for each test of states that accepts after four 5E bytes and not there.

-- no byte leads out of the state in which no field begins
stopped_view : {b : ℕ} → ByteView b → next_state Stopped b ≡ Stopped
unfolding next_state
stopped_view is_plus = refl
stopped_view is_minus = refl
stopped_view is_hash = refl
stopped_view is_point = refl
stopped_view is_comma = refl
stopped_view is_up = refl
stopped_view (is_other e) = e Stopped

-- the same of each byte
pub stopped_stays : (b : ℕ) → next_state Stopped b ≡ Stopped
stopped_stays b = stopped_view (view b)

-- nor do bytes
stopped_runs : (bs : List ℕ) → run_state Stopped bs ≡ Stopped
unfolding run_state
stopped_runs [] = refl
stopped_runs (b ∷ bs) = rw (stopped_stays b, stopped_runs bs)

module _ (accepts : State → Bool) (stopped-not : accepts Stopped ≡ false) where
  -- where the machine stopped nothing is accepted
  pub stopped_rejects : {A : Type 0} (bs : List ℕ) → accepts (run_state Stopped bs) ≡ true → A
  stopped_rejects bs h = absurd (false≢true (sym (ap accepts (stopped_runs bs) ∙ stopped-not) ∙ h))

  module _ (four : (n : ℕ) → accepts (Up n) ≡ eqb n ups) where
    -- behind n of the 5E bytes stand the others
    abbrev UpTail : ℕ → List ℕ → Type 0
    UpTail n bs = accepts (run_state (Up n) bs) ≡ true → bs ≡ times (ups - n) up_byte

    -- one 5E byte, which counts on below four
    up_step : (n : ℕ) (bs : List ℕ) → ((m : ℕ) → UpTail m bs) → (t : Bool) → ltb n ups ≡ t
        → accepts (run_state (pick t (Up (n + 1)) Stopped) bs) ≡ true → up_byte ∷ bs ≡ times (ups - n) up_byte
    unfolding times
    up_step n bs ih true e h =
        let l : n < ups = ltb-true n ups e in
        let m : suc (ups - (n + 1)) ≡ ups - n = omega arith in
        ap (λ (l : List ℕ). up_byte ∷ l) (ih (n + 1) h) ∙ ap (λ (k : ℕ). times k up_byte) m
    up_step n bs ih false e h = stopped_rejects bs h

    -- one byte behind 5E bytes
    up_byte_lem : (n : ℕ) {b : ℕ} (bs : List ℕ) → ((m : ℕ) → UpTail m bs) → ByteView b → UpTail n (b ∷ bs)
    unfolding run_state next_state
    up_byte_lem n bs ih is_plus h = stopped_rejects bs h
    up_byte_lem n bs ih is_minus h = stopped_rejects bs h
    up_byte_lem n bs ih is_hash h = stopped_rejects bs h
    up_byte_lem n bs ih is_point h = stopped_rejects bs h
    up_byte_lem n bs ih is_comma h = stopped_rejects bs h
    up_byte_lem n bs ih is_up h = up_step n bs ih (ltb n ups) refl h
    up_byte_lem n bs ih (is_other e) h = stopped_rejects bs (subst (λ (s : State). accepts (run_state s bs) ≡ true) (e (Up n)) h)

    -- all bytes behind 5E bytes
    pub ups_behind : (n : ℕ) (bs : List ℕ) → UpTail n bs
    unfolding run_state times
    ups_behind n [] h = ap (λ (k : ℕ). times (ups - k) up_byte) (sym (eqb-true n ups (sym (four n) ∙ h)))
    ups_behind n (b ∷ bs) h = up_byte_lem n bs (λ m. ups_behind m bs) (view b) h

-- The states from which no image is reached: a comma was read, or the bytes begin no field.

data Dead : State → Type 0 where
  comma : Dead Comma
  integer : Dead (Integer true)
  point : Dead (Point true)
  fraction : Dead (Fraction true)
  stopped : Dead Stopped

-- no byte leads out of them
dead_step : {s : State} {b : ℕ} → ByteView b → Dead s → Dead (next_state s b)
unfolding next_state
dead_step is_plus comma = stopped
dead_step is_plus integer = stopped
dead_step is_plus point = stopped
dead_step is_plus fraction = stopped
dead_step is_plus stopped = stopped
dead_step is_minus comma = stopped
dead_step is_minus integer = stopped
dead_step is_minus point = stopped
dead_step is_minus fraction = stopped
dead_step is_minus stopped = stopped
dead_step is_hash comma = integer
dead_step is_hash integer = integer
dead_step is_hash point = fraction
dead_step is_hash fraction = fraction
dead_step is_hash stopped = stopped
dead_step is_point comma = stopped
dead_step is_point integer = point
dead_step is_point point = stopped
dead_step is_point fraction = stopped
dead_step is_point stopped = stopped
dead_step is_comma comma = stopped
dead_step is_comma integer = comma
dead_step is_comma point = stopped
dead_step is_comma fraction = stopped
dead_step is_comma stopped = stopped
dead_step is_up comma = stopped
dead_step is_up integer = stopped
dead_step is_up point = stopped
dead_step is_up fraction = stopped
dead_step is_up stopped = stopped
dead_step {s} (is_other e) d = subst⁻¹ Dead (e s) stopped

-- and none of them is an image's
dead_none : {s : State} → Dead s → (bs : List ℕ) → is_image (run_state s bs) ≡ true → ⊥
unfolding run_state
dead_none comma [] h = false≢true h
dead_none integer [] h = false≢true h
dead_none point [] h = false≢true h
dead_none fraction [] h = false≢true h
dead_none stopped [] h = false≢true h
dead_none {s = s} d (b ∷ bs) h = dead_none {s = next_state s b} (dead_step (view b) d) bs h

-- What the live states accept: the tails of images.

-- the machine stopped, so that there is no image
halted : {A : Type 0} (bs : List ℕ) → is_image (run_state Stopped bs) ≡ true → A
halted bs h = stopped_rejects is_image refl bs h

halted_by : {A : Type 0} {s : State} (bs : List ℕ) → s ≡ Stopped → is_image (run_state s bs) ≡ true → A
halted_by bs e h = halted bs (subst (λ (s : State). is_image (run_state s bs) ≡ true) e h)

-- behind n of the 5E bytes stand the others
up_tail : (n : ℕ) (bs : List ℕ) → is_image (run_state (Up n) bs) ≡ true → bs ≡ times (ups - n) up_byte
up_tail = ups_behind is_image refl (λ n. refl)

-- # signs behind the point, at least so many, and the 5E bytes or none
record Behind (least : ℕ) (bs : List ℕ) : Type 0 where
  count : ℕ
  kind : Bool
  enough : least ≤ count
  made : bs ≡ times count hash_byte ++ up_bytes kind

behind_more : {bs : List ℕ} → Behind 0 bs → Behind 1 (hash_byte ∷ bs)
unfolding times
behind_more r =
    record { count = suc r.count; kind = r.kind; enough = omega arith; made = ap (λ (l : List ℕ). hash_byte ∷ l) r.made }

behind_any : {bs : List ℕ} → Behind 1 bs → Behind 0 bs
behind_any r = record { count = r.count; kind = r.kind; enough = omega arith; made = r.made }

fraction_byte : {b : ℕ} (bs : List ℕ) → (is_image (run_state (Fraction false) bs) ≡ true → Behind 0 bs) → ByteView b
    → is_image (run_state (Fraction false) (b ∷ bs)) ≡ true → Behind 0 (b ∷ bs)
unfolding run_state next_state times up_bytes
fraction_byte bs ih is_plus h = halted bs h
fraction_byte bs ih is_minus h = halted bs h
fraction_byte bs ih is_hash h = behind_any (behind_more (ih h))
fraction_byte bs ih is_point h = halted bs h
fraction_byte bs ih is_comma h = halted bs h
fraction_byte bs ih is_up h =
    record { count = 0; kind = true; enough = omega arith; made = ap (λ (l : List ℕ). up_byte ∷ l) (up_tail 1 bs h) }
fraction_byte bs ih (is_other e) h = halted_by bs (e (Fraction false)) h

fraction_tail : (bs : List ℕ) → is_image (run_state (Fraction false) bs) ≡ true → Behind 0 bs
unfolding run_state times up_bytes
fraction_tail [] h = record { count = 0; kind = false; enough = omega arith; made = refl }
fraction_tail (b ∷ bs) h = fraction_byte bs (fraction_tail bs) (view b) h

point_byte_lem : {b : ℕ} (bs : List ℕ) → ByteView b → is_image (run_state (Point false) (b ∷ bs)) ≡ true → Behind 1 (b ∷ bs)
unfolding run_state next_state
point_byte_lem bs is_plus h = halted bs h
point_byte_lem bs is_minus h = halted bs h
point_byte_lem bs is_hash h = behind_more (fraction_tail bs h)
point_byte_lem bs is_point h = halted bs h
point_byte_lem bs is_comma h = halted bs h
point_byte_lem bs is_up h = halted bs h
point_byte_lem bs (is_other e) h = halted_by bs (e (Point false)) h

point_tail_lem : (bs : List ℕ) → is_image (run_state (Point false) bs) ≡ true → Behind 1 bs
unfolding run_state
point_tail_lem [] h = absurd (false≢true h)
point_tail_lem (b ∷ bs) h = point_byte_lem bs (view b) h

-- # signs and the point, at least so many #, and the 5E bytes or none
record Body (least : ℕ) (bs : List ℕ) : Type 0 where
  before : ℕ
  behind : ℕ
  kind : Bool
  enough : least ≤ before + behind
  made : bs ≡ times before hash_byte ++ (fraction_bytes behind ++ up_bytes kind)

body_more : {bs : List ℕ} → Body 0 bs → Body 1 (hash_byte ∷ bs)
unfolding times
body_more r =
    record {
      before = suc r.before;
      behind = r.behind;
      kind = r.kind;
      enough = omega arith;
      made = ap (λ (l : List ℕ). hash_byte ∷ l) r.made;
    }

body_any : {bs : List ℕ} → Body 1 bs → Body 0 bs
body_any r = record { before = r.before; behind = r.behind; kind = r.kind; enough = omega arith; made = r.made }

body_point : {bs : List ℕ} → Behind 1 bs → Body 1 (point_byte ∷ bs)
unfolding times fraction_bytes
body_point {bs} r = go r.count r.enough r.made
  where
    go : (n : ℕ) → 1 ≤ n → bs ≡ times n hash_byte ++ up_bytes r.kind → Body 1 (point_byte ∷ bs)
    go zero h e = absurd (omega arith)
    go (suc n) h e =
        record
        { before = 0; behind = suc n; kind = r.kind; enough = omega arith; made = ap (λ (l : List ℕ). point_byte ∷ l) e }

integer_byte : {b : ℕ} (bs : List ℕ) → (is_image (run_state (Integer false) bs) ≡ true → Body 0 bs) → ByteView b
    → is_image (run_state (Integer false) (b ∷ bs)) ≡ true → Body 0 (b ∷ bs)
unfolding run_state next_state times fraction_bytes up_bytes
integer_byte bs ih is_plus h = halted bs h
integer_byte bs ih is_minus h = halted bs h
integer_byte bs ih is_hash h = body_any (body_more (ih h))
integer_byte bs ih is_point h = body_any (body_point (point_tail_lem bs h))
integer_byte bs ih is_comma h = absurd (dead_none comma bs h)
integer_byte bs ih is_up h =
    record { before = 0; behind = 0; kind = true; enough = omega arith; made = ap (λ (l : List ℕ). up_byte ∷ l) (up_tail 1 bs h) }
integer_byte bs ih (is_other e) h = halted_by bs (e (Integer false)) h

integer_tail : (bs : List ℕ) → is_image (run_state (Integer false) bs) ≡ true → Body 0 bs
unfolding run_state times fraction_bytes up_bytes
integer_tail [] h = record { before = 0; behind = 0; kind = false; enough = omega arith; made = refl }
integer_tail (b ∷ bs) h = integer_byte bs (integer_tail bs) (view b) h

signed_byte : {b : ℕ} (bs : List ℕ) → ByteView b → is_image (run_state Signed (b ∷ bs)) ≡ true → Body 1 (b ∷ bs)
unfolding run_state next_state
signed_byte bs is_plus h = halted bs h
signed_byte bs is_minus h = halted bs h
signed_byte bs is_hash h = body_more (integer_tail bs h)
signed_byte bs is_point h = body_point (point_tail_lem bs h)
signed_byte bs is_comma h = halted bs h
signed_byte bs is_up h = halted bs h
signed_byte bs (is_other e) h = halted_by bs (e Signed) h

signed_tail : (bs : List ℕ) → is_image (run_state Signed bs) ≡ true → Body 1 bs
unfolding run_state
signed_tail [] h = absurd (false≢true h)
signed_tail (b ∷ bs) h = signed_byte bs (view b) h

-- the image that bytes are
pub record Found (bytes : List ℕ) : Type 0 where
  pub image : Image
  pub holds : IsImage bytes image

found : (sign : Sign) {bs : List ℕ} → Body 1 bs → Found (sign_bytes sign ++ bs)
unfolding image_bytes
found sign r =
    record {
      image = record { sign = sign; integer = r.before; fraction = r.behind; exponential = r.kind };
      holds = record { rendered = ap (λ (l : List ℕ). sign_bytes sign ++ l) r.made; nonempty = r.enough };
    }

start_byte : {b : ℕ} (bs : List ℕ) → ByteView b → is_image (run_state Start (b ∷ bs)) ≡ true → Found (b ∷ bs)
unfolding run_state next_state sign_bytes
start_byte bs is_plus h = found Plus (signed_tail bs h)
start_byte bs is_minus h = found Minus (signed_tail bs h)
start_byte bs is_hash h = found Unsigned (body_more (integer_tail bs h))
start_byte bs is_point h = found Unsigned (body_point (point_tail_lem bs h))
start_byte bs is_comma h = halted bs h
start_byte bs is_up h = halted bs h
start_byte bs (is_other e) h = halted_by bs (e Start) h

-- bytes that are accepted are an image
pub some_image : (bytes : List ℕ) → is_image (run_state Start bytes) ≡ true → Found bytes
unfolding run_state
some_image [] h = absurd (false≢true h)
some_image (b ∷ bs) h = start_byte bs (view b) h
