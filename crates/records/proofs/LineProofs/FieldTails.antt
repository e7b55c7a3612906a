-- What the machine accepts is a field: each state from which a field is reached accepts tails of fields, by going over the bytes.
-- Assumes nothing.
use Prim.Native.Nat.{ℕ, zero, suc, ◌+◌, ◌<◌, ◌≤◌, ◌-◌}
use native.Mathlib.Omega.{arith}
use mathlib.Core.Path.{◌≡◌, refl, ap, sym, ◌∙◌, subst}
use mathlib.Core.List.{List, [], ◌∷◌, ◌++◌}
use mathlib.Core.Bool.{Bool, true, false, false≢true}
use lib.ListN.{length}
use Rattle.decimal.specs.declared.image.Sign.{Sign}
use Rattle.decimal.specs.declared.image.Sign.TheVariants.{Unsigned, Plus, Minus}
use Rattle.decimal.specs.Image.{State, Start, Signed, Integer, Comma, Point, Fraction, Up, Stopped}
use Rattle.decimal.specs.Answer.{pick}
use Rattle.decimal.specs.Image.{hash_byte, point_byte, comma_byte, up_byte, ups, sign_bytes, times, fraction_bytes, up_bytes, next_state, run_state}
use Rattle.decimal.proofs.ImageTails.{ByteView, is_plus, is_minus, is_hash, is_point, is_comma, is_up, is_other, view, stopped_rejects, ups_behind}
use Rattle.records.specs.Lines.Scanning.{Field, run_bytes, field_bytes, Positive, total, IsField, is_field_state}

-- The machine that stopped.

-- no field is found from there on
halted : {A : Type 0} (bs : List ℕ) → is_field_state (run_state Stopped bs) ≡ true → A
halted bs h = stopped_rejects is_field_state refl bs h

-- the same of a state that is this one
halted_by : {A : Type 0} {s : State} (bs : List ℕ) → s ≡ Stopped → is_field_state (run_state s bs) ≡ true → A
halted_by bs e h = halted bs (subst (λ (s : State). is_field_state (run_state s bs) ≡ true) e h)

-- behind n of the 5E bytes stand the others
up_tail : (n : ℕ) (bs : List ℕ) → is_field_state (run_state (Up n) bs) ≡ true → bs ≡ times (ups - n) up_byte
up_tail = ups_behind is_field_state refl (λ n. refl)

-- Which kinds go on: a field with a comma is fixed point.

-- behind a comma or not, the field is exponential or not
pub data Kind : (grouped exponential : Bool) → Type 0 where
  fixed : {grouped : Bool} → Kind grouped false
  plain : Kind false true

-- What the states accept: the tails of fields.

-- # signs behind the point, at least so many, and the 5E bytes or none
record Behind (grouped : Bool) (least : ℕ) (bs : List ℕ) : Type 0 where
  count : ℕ
  exponential : Bool
  kind : Kind grouped exponential
  enough : least ≤ count
  made : bs ≡ times count hash_byte ++ up_bytes exponential

-- one # more
behind_more : {g : Bool} {bs : List ℕ} → Behind g 0 bs → Behind g 1 (hash_byte ∷ bs)
unfolding times
behind_more r =
    record {
      count = suc r.count;
      exponential = r.exponential;
      kind = r.kind;
      enough = omega arith;
      made = ap (λ (l : List ℕ). hash_byte ∷ l) r.made;
    }

-- at least one is at least none
behind_any : {g : Bool} {bs : List ℕ} → Behind g 1 bs → Behind g 0 bs
behind_any r = record { count = r.count; exponential = r.exponential; kind = r.kind; enough = omega arith; made = r.made }

-- the first of the 5E bytes, behind no comma
behind_up : (g : Bool) (bs : List ℕ) → is_field_state (run_state (pick g Stopped (Up 1)) bs) ≡ true → Behind g 0 (up_byte ∷ bs)
unfolding times up_bytes
behind_up true bs h = halted bs h
behind_up false bs h =
    record {
      count = 0;
      exponential = true;
      kind = plain;
      enough = omega arith;
      made = ap (λ (l : List ℕ). up_byte ∷ l) (up_tail 1 bs h);
    }

-- one byte behind a # behind the point
fraction_byte : (g : Bool) {b : ℕ} (bs : List ℕ) → (is_field_state (run_state (Fraction g) bs) ≡ true → Behind g 0 bs) → ByteView b
    → is_field_state (run_state (Fraction g) (b ∷ bs)) ≡ true → Behind g 0 (b ∷ bs)
unfolding run_state next_state
fraction_byte g bs ih is_plus h = halted bs h
fraction_byte g bs ih is_minus h = halted bs h
fraction_byte g bs ih is_hash h = behind_any (behind_more (ih h))
fraction_byte g bs ih is_point h = halted bs h
fraction_byte g bs ih is_comma h = halted bs h
fraction_byte g bs ih is_up h = behind_up g bs h
fraction_byte g bs ih (is_other e) h = halted_by bs (e (Fraction g)) h

-- all bytes behind a # behind the point
fraction_tail : (g : Bool) (bs : List ℕ) → is_field_state (run_state (Fraction g) bs) ≡ true → Behind g 0 bs
unfolding run_state times up_bytes
fraction_tail g [] h = record { count = 0; exponential = false; kind = fixed; enough = omega arith; made = refl }
fraction_tail g (b ∷ bs) h = fraction_byte g bs (fraction_tail g bs) (view b) h

-- one byte behind the point
point_byte_lem : (g : Bool) {b : ℕ} (bs : List ℕ) → ByteView b → is_field_state (run_state (Point g) (b ∷ bs)) ≡ true → Behind g 1 (b ∷ bs)
unfolding run_state next_state
point_byte_lem g bs is_plus h = halted bs h
point_byte_lem g bs is_minus h = halted bs h
point_byte_lem g bs is_hash h = behind_more (fraction_tail g bs h)
point_byte_lem g bs is_point h = halted bs h
point_byte_lem g bs is_comma h = halted bs h
point_byte_lem g bs is_up h = halted bs h
point_byte_lem g bs (is_other e) h = halted_by bs (e (Point g)) h

-- all bytes behind the point
point_tail_lem : (g : Bool) (bs : List ℕ) → is_field_state (run_state (Point g) bs) ≡ true → Behind g 1 bs
unfolding run_state
point_tail_lem g [] h = absurd (false≢true h)
point_tail_lem g (b ∷ bs) h = point_byte_lem g bs (view b) h

-- the runs behind the first, which only fixed-point fields have
pub data More : List ℕ → Bool → Type 0 where
  none : {exponential : Bool} → More [] exponential
  some : {n : ℕ} {ns : List ℕ} → More (n ∷ ns) false

-- behind a # before the point: more of its run, at least so many, other runs, the # signs behind the point, and the 5E bytes or none
record Body (grouped : Bool) (least : ℕ) (bs : List ℕ) : Type 0 where
  first : ℕ
  others : List ℕ
  fraction : ℕ
  exponential : Bool
  kind : Kind grouped exponential
  more : More others exponential
  positive : Positive others
  enough : least ≤ first
  made : bs ≡ run_bytes (first ∷ others) ++ (fraction_bytes fraction ++ up_bytes exponential)

-- one # more in the first run
pub run_more : (n : ℕ) (ns bs : List ℕ) → run_bytes (suc n ∷ ns) ++ bs ≡ hash_byte ∷ (run_bytes (n ∷ ns) ++ bs)
unfolding run_bytes times
run_more n [] bs = refl
run_more n (m ∷ ns) bs = refl

-- one # more before the point
body_more : {g : Bool} {bs : List ℕ} → Body g 0 bs → Body g 1 (hash_byte ∷ bs)
body_more r =
    record {
      first = suc r.first;
      others = r.others;
      fraction = r.fraction;
      exponential = r.exponential;
      kind = r.kind;
      more = r.more;
      positive = r.positive;
      enough = omega arith;
      made = ap (λ (l : List ℕ). hash_byte ∷ l) r.made ∙ sym (run_more r.first r.others (fraction_bytes r.fraction ++ up_bytes r.exponential));
    }

-- at least one before the point is at least none
body_any : {g : Bool} {bs : List ℕ} → Body g 1 bs → Body g 0 bs
body_any r =
    record {
      first = r.first;
      others = r.others;
      fraction = r.fraction;
      exponential = r.exponential;
      kind = r.kind;
      more = r.more;
      positive = r.positive;
      enough = omega arith;
      made = r.made;
    }

-- nothing more
body_end : (g : Bool) → Body g 0 []
unfolding run_bytes times fraction_bytes up_bytes Positive
body_end g =
    record {
      first = 0;
      others = [];
      fraction = 0;
      exponential = false;
      kind = fixed;
      more = none;
      positive = tt;
      enough = omega arith;
      made = refl;
    }

-- the bytes behind the point, with it
point_made : (n : ℕ) (bs : List ℕ) → 1 ≤ n → fraction_bytes n ++ bs ≡ point_byte ∷ (times n hash_byte ++ bs)
unfolding fraction_bytes
point_made zero bs h = absurd (omega arith)
point_made (suc n) bs h = refl

-- the point
body_point : {g : Bool} {bs : List ℕ} → Behind g 1 bs → Body g 0 (point_byte ∷ bs)
unfolding run_bytes times Positive
body_point r =
    record {
      first = 0;
      others = [];
      fraction = r.count;
      exponential = r.exponential;
      kind = r.kind;
      more = none;
      positive = tt;
      enough = omega arith;
      made =
          ap (λ (l : List ℕ). point_byte ∷ l) r.made ∙ sym (point_made r.count (up_bytes r.exponential) r.enough);
    }

-- the first of the 5E bytes, behind no comma
body_up : (g : Bool) (bs : List ℕ) → is_field_state (run_state (pick g Stopped (Up 1)) bs) ≡ true → Body g 0 (up_byte ∷ bs)
unfolding run_bytes times fraction_bytes up_bytes Positive
body_up true bs h = halted bs h
body_up false bs h =
    record {
      first = 0;
      others = [];
      fraction = 0;
      exponential = true;
      kind = plain;
      more = none;
      positive = tt;
      enough = omega arith;
      made = ap (λ (l : List ℕ). up_byte ∷ l) (up_tail 1 bs h);
    }

-- a comma and the next run
body_comma : {g : Bool} {bs : List ℕ} → Body true 1 bs → Body g 0 (comma_byte ∷ bs)
unfolding run_bytes times Positive
body_comma {g} {bs} r = go r.exponential r.kind r.made
  where
    go : (e : Bool) → Kind true e → bs ≡ run_bytes (r.first ∷ r.others) ++ (fraction_bytes r.fraction ++ up_bytes e) → Body g 0 (comma_byte ∷ bs)
    go e fixed m =
        record {
          first = 0;
          others = r.first ∷ r.others;
          fraction = r.fraction;
          exponential = false;
          kind = fixed;
          more = some;
          positive = (r.enough, r.positive);
          enough = omega arith;
          made = ap (λ (l : List ℕ). comma_byte ∷ l) m;
        }

-- what the states before the point accept: # signs or more runs, and a # behind a comma
record Tails (bs : List ℕ) : Type 0 where
  integer : (g : Bool) → is_field_state (run_state (Integer g) bs) ≡ true → Body g 0 bs
  comma : is_field_state (run_state Comma bs) ≡ true → Body true 1 bs

-- one byte behind a # before the point
integer_byte : (g : Bool) {b : ℕ} (bs : List ℕ) → Tails bs → ByteView b → is_field_state (run_state (Integer g) (b ∷ bs)) ≡ true → Body g 0 (b ∷ bs)
unfolding run_state next_state
integer_byte g bs ih is_plus h = halted bs h
integer_byte g bs ih is_minus h = halted bs h
integer_byte g bs ih is_hash h = body_any (body_more (ih.integer g h))
integer_byte g bs ih is_point h = body_point (point_tail_lem g bs h)
integer_byte g bs ih is_comma h = body_comma (ih.comma h)
integer_byte g bs ih is_up h = body_up g bs h
integer_byte g bs ih (is_other e) h = halted_by bs (e (Integer g)) h

-- one byte behind a comma
comma_byte_lem : {b : ℕ} (bs : List ℕ) → Tails bs → ByteView b → is_field_state (run_state Comma (b ∷ bs)) ≡ true → Body true 1 (b ∷ bs)
unfolding run_state next_state
comma_byte_lem bs ih is_plus h = halted bs h
comma_byte_lem bs ih is_minus h = halted bs h
comma_byte_lem bs ih is_hash h = body_more (ih.integer true h)
comma_byte_lem bs ih is_point h = halted bs h
comma_byte_lem bs ih is_comma h = halted bs h
comma_byte_lem bs ih is_up h = halted bs h
comma_byte_lem bs ih (is_other e) h = halted_by bs (e Comma) h

-- all bytes behind them
tails : (bs : List ℕ) → Tails bs
unfolding run_state
tails [] = record { integer = λ g h. body_end g; comma = λ h. absurd (false≢true h) }
tails (b ∷ bs) =
    let ih = tails bs in
    record { integer = λ g h. integer_byte g bs ih (view b) h; comma = λ h. comma_byte_lem bs ih (view b) h }

-- the parts behind the sign
record Parts (bs : List ℕ) : Type 0 where
  runs : List ℕ
  fraction : ℕ
  exponential : Bool
  positive : Positive runs
  nonempty : 0 < total runs + fraction
  plain_runs : exponential ≡ true → length runs ≤ 1
  made : bs ≡ run_bytes runs ++ (fraction_bytes fraction ++ up_bytes exponential)

-- an exponential field has one run
one_run : (n : ℕ) {ns : List ℕ} {e : Bool} → More ns e → e ≡ true → length (n ∷ ns) ≤ 1
one_run n none h = omega arith
one_run n some h = absurd (false≢true h)

-- the parts that begin with a #
parts_hash : {bs : List ℕ} → Body false 0 bs → Parts (hash_byte ∷ bs)
unfolding Positive total
parts_hash s =
    let r = body_more s in
    let p : 1 ≤ r.first = r.enough in
    record {
      runs = r.first ∷ r.others;
      fraction = r.fraction;
      exponential = r.exponential;
      positive = (p, r.positive);
      nonempty = omega arith;
      plain_runs = one_run r.first r.more;
      made = r.made;
    }

-- the parts that begin with the point
parts_point : {bs : List ℕ} → Behind false 1 bs → Parts (point_byte ∷ bs)
unfolding run_bytes Positive total
parts_point r =
    let p : 1 ≤ r.count = r.enough in
    record {
      runs = [];
      fraction = r.count;
      exponential = r.exponential;
      positive = tt;
      nonempty = omega arith;
      plain_runs = λ h. omega arith;
      made =
          ap (λ (l : List ℕ). point_byte ∷ l) r.made ∙ sym (point_made r.count (up_bytes r.exponential) r.enough);
    }

-- one byte behind a sign
signed_byte : {b : ℕ} (bs : List ℕ) → ByteView b → is_field_state (run_state Signed (b ∷ bs)) ≡ true → Parts (b ∷ bs)
unfolding run_state next_state
signed_byte bs is_plus h = halted bs h
signed_byte bs is_minus h = halted bs h
signed_byte bs is_hash h = parts_hash ((tails bs).integer false h)
signed_byte bs is_point h = parts_point (point_tail_lem false bs h)
signed_byte bs is_comma h = halted bs h
signed_byte bs is_up h = halted bs h
signed_byte bs (is_other e) h = halted_by bs (e Signed) h

-- all bytes behind a sign
signed_tail : (bs : List ℕ) → is_field_state (run_state Signed bs) ≡ true → Parts bs
unfolding run_state
signed_tail [] h = absurd (false≢true h)
signed_tail (b ∷ bs) h = signed_byte bs (view b) h

-- the field of a sign and its parts
found : (sign : Sign) {bs : List ℕ} → Parts bs → (f : Field) × IsField (sign_bytes sign ++ bs) f
unfolding field_bytes
found sign r = (
  record { sign = sign; runs = r.runs; fraction = r.fraction; exponential = r.exponential },
  record {
    rendered = ap (λ (l : List ℕ). sign_bytes sign ++ l) r.made;
    positive = r.positive;
    nonempty = r.nonempty;
    plain = r.plain_runs;
  },
)

-- the first byte
start_byte : {b : ℕ} (bs : List ℕ) → ByteView b → is_field_state (run_state Start (b ∷ bs)) ≡ true → (f : Field) × IsField (b ∷ bs) f
unfolding run_state next_state sign_bytes
start_byte bs is_plus h = found Plus (signed_tail bs h)
start_byte bs is_minus h = found Minus (signed_tail bs h)
start_byte bs is_hash h = found Unsigned (parts_hash ((tails bs).integer false h))
start_byte bs is_point h = found Unsigned (parts_point (point_tail_lem false bs h))
start_byte bs is_comma h = halted bs h
start_byte bs is_up h = halted bs h
start_byte bs (is_other e) h = halted_by bs (e Start) h

-- bytes that are accepted are a field
pub some_field : (bytes : List ℕ) → is_field_state (run_state Start bytes) ≡ true → (f : Field) × IsField bytes f
unfolding run_state
some_field [] h = absurd (false≢true h)
some_field (b ∷ bs) h = start_byte bs (view b) h
