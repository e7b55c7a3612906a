-- The laws of a line's fields: found from the left, and the next one behind a place of the line.
-- Assumes nothing.
use Prim.Native.Nat.{ℕ, zero, suc, pred, ◌+◌, ◌-◌, ◌<◌, ◌≤◌, min}
use native.Mathlib.Omega.{arith}
use native.Mathlib.Numerals.{add-one}
use mathlib.Core.Path.{◌≡◌, refl, ap, sym, ◌∙◌, subst}
use mathlib.Core.Logic.{◌⊎◌, ⊎_elim, inl, inr}
use mathlib.Core.List.{List, [], ◌∷◌, ◌++◌}
use mathlib.Core.Bool.{Bool, true, false, ◌||◌}
use lib.Dec.{eqb}
use lib.ListN.{length, take, drop, get_or, drop_of_length-le, length-drop}
use lib.Seq.{drop-cons, drop-drop, length-take-le, take_all, get_or-take}
use borrow.Author.Tests.{eq-eqb, ne_eqb}
use Rattle.std.proofs.lemmas.List.{length-take, take_rest}
use Rattle.decimal.specs.declared.image.Sign.{Sign}
use Rattle.decimal.specs.declared.image.Sign.TheVariants.{Unsigned}
use Rattle.decimal.specs.Image.{Start, Stopped}
use Rattle.decimal.specs.Answer.{done, refused, pick}
use Rattle.decimal.specs.Digits.{precision}
use Rattle.decimal.specs.Image.{plus_byte, minus_byte, hash_byte, point_byte, comma_byte, up_byte, hashes, next_state, sign_of, leading_sign, scanned_image}
use Rattle.decimal.proofs.DigitLaws.{le_or_lt}
use Rattle.decimal.proofs.ImageLaws.{first_sign}
use Rattle.records.specs.declared.lines.line_fields.Field.{Field}
use Rattle.records.specs.declared.lines.scanning.Scanned.{Scanned}
use Rattle.records.specs.Lines.Scanning.{longest_from, field_length, scanned_field}
use Rattle.records.specs.Lines.Printing.{literals, check_fields, Reached, at_start, after_field}
use Rattle.records.specs.Lines.LineFields.{field_of, fields_from, fields_at, line_fields, max_fields, begins_field, Listed}
use Rattle.records.proofs.LineProofs.ScanLaws.{stopped_none, scanned_length}
use Rattle.records.proofs.LineProofs.FieldTheorem.{longest_field}
use Rattle.records.proofs.LineProofs.CheckLaws.{no_bytes_field, left_cons, literals_literal, literals_inside, literals_stop, some_literal, literal_first, check_literal, check_field, check_many, check_end, field_inside, hashes_few, drop_pred, reached_next}

-- Bytes that begin no field.

-- other bytes than + - # . lead nowhere
starts_not : (b : ℕ) → begins_field b ≡ false → (bs : List ℕ) → field_length (b ∷ bs) ≡ 0
unfolding field_length longest_from next_state
starts_not b h bs = rw (stops, stopped_none 1 bs)
  where
    either : (s t : Bool) → (s || t) ≡ false → (s ≡ false) × (t ≡ false)
    either false t e = (refl, e)
    either true t e = let z : ◌≡◌ {A = ℕ} 0 1 = cc in absurd (omega arith)

    go : (s t : Bool) → pick s Stopped (pick t Stopped Stopped) ≡ Stopped
    go true t = refl
    go false true = refl
    go false false = refl

    stops : next_state Start b ≡ Stopped
    stops =
        let p = either (eqb b plus_byte) (eqb b minus_byte || (eqb b hash_byte || eqb b point_byte)) h in
        let m = either (eqb b minus_byte) (eqb b hash_byte || eqb b point_byte) p.1 in
        let n = either (eqb b hash_byte) (eqb b point_byte) m.1 in
        rw (p.0, m.0, n.0, n.1) (go (eqb b comma_byte) (eqb b up_byte))

-- bytes of which the first is another are literal there
pub begins_not : (bytes : List ℕ) → 0 < length bytes → begins_field (get_or bytes 0 0) ≡ false → field_length bytes ≡ 0
begins_not bytes h e = ap field_length (drop-cons bytes 0 0 h) ∙ starts_not (get_or bytes 0 0) e (drop 1 bytes)

-- The fields from a place on.

-- inside a field the bytes are passed over
fields_inside : (place k : ℕ) (bs : List ℕ) → fields_from place k bs ≡ fields_from (place + k) 0 (drop k bs)
unfolding fields_from
fields_inside place zero bs = let e : place ≡ place + 0 = omega arith in ap (λ (p : ℕ). fields_from p 0 bs) e
fields_inside place (suc k) [] = refl
fields_inside place (suc k) (b ∷ bs) =
    let e : suc place + k ≡ place + suc k = omega arith in
    fields_inside (suc place) k bs ∙ ap (λ (p : ℕ). fields_from p 0 (drop k bs)) e

-- a literal byte is passed over
fields_cons_literal : (place b : ℕ) (bs : List ℕ) → field_length (b ∷ bs) ≡ 0 → fields_from place 0 (b ∷ bs) ≡ fields_from (suc place) 0 bs
unfolding fields_from
fields_cons_literal place b bs e = rw (eq-eqb (field_length (b ∷ bs)) 0 e)

-- a field is followed by those behind it
fields_cons_field : (place : ℕ) (bs : List ℕ) → (field_length bs ≡ 0 → ⊥)
    → fields_from place 0 bs ≡ field_of place bs ∷ fields_from (place + field_length bs) 0 (drop (field_length bs) bs)
unfolding fields_from
fields_cons_field place [] e = absurd (e no_bytes_field)
fields_cons_field place (b ∷ bs) e =
    let n : ℕ = field_length (b ∷ bs) in
    let k : suc place + pred n ≡ place + n = omega arith in
    rw (ne_eqb (field_length (b ∷ bs)) 0 e)
    (ap (λ (l : List Field). field_of place (b ∷ bs) ∷ l)
    (fields_inside (suc place) (pred n) bs
    ∙ ap (λ (p : ℕ). fields_from p 0 (drop (pred n) bs)) k
    ∙ ap (fields_from (place + n) 0) (drop_pred n b bs e)))

-- none stands behind a line's end
pub fields_end : (line : List ℕ) (k : ℕ) → length line ≤ k → fields_at line k ≡ []
unfolding fields_at fields_from
fields_end line k h = ap (fields_from k 0) (drop_of_length-le line h)

-- a literal byte is passed over
pub fields_literal : (line : List ℕ) (k : ℕ) → field_length (drop k line) ≡ 0 → fields_at line (k + 1) ≡ fields_at line k
unfolding fields_at
fields_literal line k e = ⊎_elim ends goes (le_or_lt (length line) k)
  where
    ends : length line ≤ k → fields_at line (k + 1) ≡ fields_at line k
    ends h = fields_end line (k + 1) (omega arith) ∙ sym (fields_end line k h)

    goes : k < length line → fields_at line (k + 1) ≡ fields_at line k
    goes h =
        let l = left_cons line k h in
        ap (λ (p : ℕ). fields_from p 0 (drop (k + 1) line)) (add-one k)
        ∙ sym
        (ap (fields_from k 0) l
        ∙ fields_cons_literal k (get_or line k 0) (drop (k + 1) line) (ap field_length (sym l) ∙ e))

-- a field is followed by those behind it
pub fields_field : (line : List ℕ) (k : ℕ) → (field_length (drop k line) ≡ 0 → ⊥)
    → fields_at line k ≡ field_of k (drop k line) ∷ fields_at line (k + field_length (drop k line))
unfolding fields_at
fields_field line k e =
    fields_cons_field k (drop k line) e
    ∙ ap (λ (l : List ℕ). field_of k (drop k line) ∷ fields_from (k + field_length (drop k line)) 0 l) (drop-drop (field_length (drop k line)) k line)

-- literal bytes are passed one by one
fields_over : (line : List ℕ) (n k : ℕ) → length (literals (drop k line)) ≡ n → fields_at line (k + n) ≡ fields_at line k
fields_over line zero k e = let z : k + 0 ≡ k = omega arith in ap (fields_at line) z
fields_over line (suc n) k e =
    let f : field_length (drop k line) ≡ 0 = literal_first (drop k line) n e in
    let one = literals_literal line k (some_literal line k n e) f in
    let z : k + suc n ≡ k + 1 + n = omega arith in
    ap (fields_at line) z ∙ fields_over line n (k + 1) (omega arith) ∙ fields_literal line k f

-- a scanned field's # signs
pub scanned_hashes : (bytes : List ℕ) {scanned : Scanned} → scanned ≡ scanned_field bytes
    → scanned.integer + scanned.fraction ≡ hashes (scanned_image (take (field_length bytes) bytes))
unfolding scanned_field
scanned_hashes bytes e = ap (λ (s : Scanned). s.integer + s.fraction) e

-- it is no longer than the bytes, and has no more # signs
pub scanned_few : (bytes : List ℕ) {scanned : Scanned} → scanned ≡ scanned_field bytes
    → (scanned.length ≤ length bytes) × (scanned.integer + scanned.fraction ≤ length bytes)
scanned_few bytes e =
    let f : List ℕ = take (field_length bytes) bytes in
    let inside = (longest_field bytes).inside in
    (omega (arith, scanned_length bytes e), omega (arith, scanned_hashes bytes e, hashes_few f, length-take-le (field_length bytes) bytes inside))

-- The walk over a line that finds them: so many are found, the first ones are listed, and the others are still to come.

pub record Finding (line : List ℕ) (fields : List Field) (count place : ℕ) : Type 0 where
  pub few : count ≤ place
  pub within : count ≤ length (line_fields line)
  pub inside : place ≤ length line
  pub checks : check_fields count 0 (drop place line) ≡ check_fields 0 0 line
  pub rest : drop count (line_fields line) ≡ fields_at line place
  pub held : fields ≡ take max_fields (take count (line_fields line))

-- of a list's first elements so many
take_fewer : {A : Type 0} (n m : ℕ) (xs : List A) → n ≤ m → take n (take m xs) ≡ take n xs
take_fewer zero m xs h = refl
take_fewer (suc n) zero xs h = absurd (omega arith)
take_fewer (suc n) (suc m) [] h = refl
take_fewer (suc n) (suc m) (x ∷ xs) h = ap (λ (l : List _). x ∷ l) (take_fewer n m xs (omega arith))

-- a list's first elements with the next one
take_next : {A : Type 0} (x : A) (xs rest : List A) (n : ℕ) → drop n xs ≡ x ∷ rest → (take (n + 1) xs ≡ take n xs ++ (x ∷ [])) × (drop (n + 1) xs ≡ rest) × (n < length xs)
take_next x [] rest zero e = let z : ◌≡◌ {A = ℕ} 0 1 = cc in absurd (omega arith)
take_next x [] rest (suc n) e = let z : ◌≡◌ {A = ℕ} 0 1 = cc in absurd (omega arith)
take_next x (y ∷ xs) rest zero e = (cc, cc, omega arith)
take_next x (y ∷ xs) rest (suc n) e =
    let r = take_next x xs rest n e in
    (rw (add-one (suc n)) (ap (λ (l : List _). y ∷ l) (rw (add-one n) at r.0)), rw (add-one (suc n)) (rw (add-one n) at r.1), omega (arith, r.2))

-- the next element, listed where there is room
held_next : {A : Type 0} (m n : ℕ) (xs : List A) {rest held next : List A} {x : A} → drop n xs ≡ x ∷ rest → held ≡ take m (take n xs)
    → ((length held < m) × (next ≡ held ++ (x ∷ []))) ⊎ ((m ≤ length held) × (next ≡ held))
    → next ≡ take m (take (n + 1) xs)
held_next {A} m n xs {rest} {held} {next} {x} e h w =
    let t = take_next x xs rest n e in
    let size : length (take n xs) ≡ n = length-take-le n xs (omega (arith, t.2)) in
    let long : length held ≡ min m n = ap length h ∙ length-take m (take n xs) ∙ ap (min m) size in
    let more : length (take (n + 1) xs) ≡ n + 1 = length-take-le (n + 1) xs (omega (arith, t.2)) in
    ⊎_elim
    (λ p.
    p.1
    ∙ ap (λ (l : List A). l ++ (x ∷ [])) (h ∙ take_all m (take n xs) (omega (arith, p.0)))
    ∙ sym t.0
    ∙ sym (take_all m (take (n + 1) xs) (omega (arith, p.0))))
    (λ p.
    p.1
    ∙ h
    ∙ take_fewer m n xs (omega (arith, p.0))
    ∙ sym (take_fewer m (n + 1) xs (omega (arith, p.0))))
    w

module _ {line : List ℕ} {fields : List Field} {count place : ℕ} (r : Finding line fields count place) where
  -- a literal byte is passed over
  finding_literal : place < length line → field_length (drop place line) ≡ 0 → Finding line fields count (place + 1)
  finding_literal h e =
      record {
        few = omega (arith, r.few);
        within = r.within;
        inside = omega arith;
        checks = check_literal count line place h e ∙ r.checks;
        rest = r.rest ∙ sym (fields_literal line place e);
        held = r.held;
      }

  -- a field is refused for its # signs
  finding_many : (field_length (drop place line) ≡ 0 → ⊥) → precision < hashes (scanned_image (take (field_length (drop place line)) (drop place line)))
      → check_fields 0 0 line ≡ refused 2 count
  finding_many e h = sym r.checks ∙ check_many count (drop place line) e h

  -- a field is passed over, and listed where there is room
  finding_field : {size : ℕ} {next : List Field} → size ≡ field_length (drop place line) → (size ≡ 0 → ⊥)
      → hashes (scanned_image (take (field_length (drop place line)) (drop place line))) ≤ precision
      → ((length fields < max_fields) × (next ≡ fields ++ (field_of place (drop place line) ∷ []))) ⊎ ((max_fields ≤ length fields) × (next ≡ fields))
      → Finding line next (count + 1) (place + size)
  finding_field {size} {next} n e h w =
      let some : field_length (drop place line) ≡ 0 → ⊥ = λ z. e (n ∙ z) in
      let list = r.rest ∙ fields_field line place some in
      let all = take_next (field_of place (drop place line)) (line_fields line) (fields_at line (place + field_length (drop place line))) count list in
      rw n
      (record {
        few = omega (arith, r.few, some);
        within = omega (arith, all.2);
        inside = field_inside line place r.inside;
        checks = check_field count line place some h ∙ r.checks;
        rest = all.1;
        held = held_next max_fields count (line_fields line) list r.held w;
      })

-- The walk as the code goes: the bytes from its place on are left.

pub record Walking (line : List ℕ) (fields : List Field) (count : ℕ) (rest : List ℕ) : Type 0 where
  pub finding : Finding line fields count (length line - length rest)
  pub left : rest ≡ drop (length line - length rest) line
  pub inside : length rest ≤ length line

-- before the first byte
pub walking_starts : (line : List ℕ) {fields : List Field} → fields ≡ [] → Walking line fields 0 line
walking_starts line {fields} e =
    let none : 0 ≡ length line - length line = omega arith in
    let start : Finding line fields 0 0 = record { few = omega arith; within = omega arith; inside = omega arith; checks = refl; rest = refl; held = e } in
    record { finding = subst (Finding line fields 0) none start; left = ap (λ (k : ℕ). drop k line) none; inside = omega arith }

module _ {line : List ℕ} {fields : List Field} {count : ℕ} {rest : List ℕ} (r : Walking line fields count rest) where
  -- so many bytes further
  walking_moves : {n more : ℕ} {next : List ℕ} {held : List Field} → n ≤ length rest → next ≡ take (length rest - n) (drop n rest)
      → Finding line held more (length line - length rest + n)
      → Walking line held more next
  walking_moves {n} {more} {next} {held} h l f =
      let over : next ≡ drop n rest = l ∙ take_rest rest n in
      let size : length next ≡ length rest - n = ap length over ∙ length-drop n rest in
      let place : length line - length rest + n ≡ length line - length next = omega (arith, size, r.inside, h) in
      record {
        finding = subst (Finding line held more) place f;
        left = over ∙ ap (drop n) r.left ∙ drop-drop n (length line - length rest) line ∙ ap (λ (k : ℕ). drop k line) place;
        inside = omega (arith, size, r.inside);
      }

  -- a literal byte is passed over
  pub walking_literal : {next : List ℕ} → 0 < length rest → field_length rest ≡ 0 → next ≡ take (length rest - 1) (drop 1 rest) → Walking line fields count next
  walking_literal h z l =
      walking_moves (omega arith) l
      (finding_literal r.finding (omega (arith, r.inside)) (ap field_length (sym r.left) ∙ z))

  -- where none is left, all is found: the first ones are listed, and all are counted
  pub found_listed : length rest ≡ 0 → (check_fields 0 0 line ≡ done tt) × Listed line fields × (count ≡ length (line_fields line))
  found_listed e =
      let f = r.finding in
      let place : ℕ = length line - length rest in
      let over : length line ≤ place = omega arith in
      let none : drop count (line_fields line) ≡ [] = f.rest ∙ fields_end line place over in
      let left : length (line_fields line) - count ≡ 0 = sym (length-drop count (line_fields line)) ∙ ap length none in
      let all : take count (line_fields line) ≡ line_fields line = take_all count (line_fields line) (omega arith) in (
        sym f.checks ∙ check_end count line place over,
        record { first = f.held ∙ ap (take max_fields) all },
        omega (arith, left, f.within),
      )

  module _ {scanned : Scanned} (e : scanned ≡ scanned_field rest) where
    -- a literal byte is passed over
    pub walking_byte : {next : List ℕ} → 0 < length rest → scanned.length ≡ 0 → next ≡ take (length rest - 1) (drop 1 rest) → Walking line fields count next
    walking_byte h z = walking_literal h (sym (scanned_length rest e) ∙ z)

    module _ (some : scanned.length ≡ 0 → ⊥) where
      -- what was scanned is the field there
      field_there : field_length (drop (length line - length rest) line) ≡ 0 → ⊥
      field_there z = some (scanned_length rest e ∙ ap field_length r.left ∙ z)

      hashes_there : scanned.integer + scanned.fraction ≡ hashes (scanned_image (take (field_length (drop (length line - length rest) line)) (drop (length line - length rest) line)))
      hashes_there = scanned_hashes rest e ∙ ap (λ (bs : List ℕ). hashes (scanned_image (take (field_length bs) bs))) r.left

      -- it is refused for its # signs
      pub found_refused : precision < scanned.integer + scanned.fraction → check_fields 0 0 line ≡ refused 2 count
      found_refused h = finding_many r.finding field_there (omega (arith, hashes_there))

      -- it is passed over, and listed where there is room
      pub walking_turn : {next : List ℕ} {held : List Field} → scanned.integer + scanned.fraction ≤ precision
          → ((length fields < max_fields) × (held ≡ fields ++ (field_of (length line - length rest) rest ∷ []))) ⊎ ((max_fields ≤ length fields) × (held ≡ fields))
          → next ≡ take (length rest - scanned.length) (drop scanned.length rest)
          → Walking line held (count + 1) next
      walking_turn {next} {held} h w l =
          walking_moves (scanned_few rest e).0 l
          (finding_field r.finding (scanned_length rest e ∙ ap field_length r.left) some (omega (arith, hashes_there))
          (⊎_elim
          (λ p. inl (p.0, p.1 ∙ ap (λ (bs : List ℕ). fields ++ (field_of (length line - length rest) bs ∷ [])) r.left))
          (λ p. inr p)
          w))

-- The sign of a field is that of its first byte.
field_sign : (bytes : List ℕ) → 0 < field_length bytes → sign_of (get_or bytes 0 0) ≡ leading_sign (take (field_length bytes) bytes)
field_sign bytes some =
    let size : ℕ = field_length bytes in
    let long : length (take size bytes) ≡ size = length-take-le size bytes (longest_field bytes).inside in
    sym (ap sign_of (get_or-take size bytes 0 0 some)) ∙ first_sign (take size bytes) (omega arith)

-- What is scanned of bytes is the field that they begin with.
pub field_made : (bytes : List ℕ) (place : ℕ) {scanned : Scanned} {sign : Sign} → scanned ≡ scanned_field bytes
    → 0 < scanned.length
    → sign ≡ sign_of (get_or bytes 0 0)
    → record {
      start = place;
      length = scanned.length;
      image =
          record {
            sign = sign;
            integer = scanned.integer;
            fraction = scanned.fraction;
            exponential = scanned.exponential;
          };
    }
    ≡ field_of place bytes
unfolding field_of scanned_field scanned_image
field_made bytes place {scanned} {sign} e some f =
    let n : scanned.length ≡ field_length bytes = scanned_length bytes e in
    λ i. record {
      start = place;
      length = n i;
      image =
          record {
            sign = (f ∙ field_sign bytes (omega arith)) i;
            integer = ap (λ (s : Scanned). s.integer) e i;
            fraction = ap (λ (s : Scanned). s.fraction) e i;
            exponential = ap (λ (s : Scanned). s.exponential) e i;
          };
    }

-- The next field behind a place of the line.

-- what stands for a field behind a list's end
abbrev pub no_field : Field
no_field =
    record {
      start = 0;
      length = 0;
      image = record { sign = Unsigned; integer = 0; fraction = 0; exponential = false };
    }

-- behind so many fields, at a place of the line
pub record AtField (line : List ℕ) (next place : ℕ) : Type 0 where
  pub inside : place ≤ length line
  pub rest : drop next (line_fields line) ≡ fields_at line place
  pub reached : Reached line place

-- a field is the next one: behind the literal bytes, as long as found there, with its image; and the place behind it
pub record NextField (line : List ℕ) (next place : ℕ) (f : Field) : Type 0 where
  pub first : f.start ≡ place + length (literals (drop place line))
  pub there : f.start < length line
  pub found : f.length ≡ field_length (drop f.start line)
  pub some : f.length ≡ 0 → ⊥
  pub reached : Reached line f.start
  pub image_read : f.image ≡ scanned_image (take f.length (drop f.start line))
  pub on : AtField line (next + 1) (f.start + f.length)

-- before the first field
pub at_first : (line : List ℕ) → AtField line 0 0
at_first line = record { inside = omega arith; rest = refl; reached = at_start }

module _ {line : List ℕ} {next place : ℕ} (r : AtField line next place) where
  -- the place behind the literal bytes is inside the line
  literals_within : place + length (literals (drop place line)) ≤ length line
  literals_within = omega (arith, literals_inside (drop place line), length-drop place line, r.inside)

  -- the fields left are those from there on
  rest_there : drop next (line_fields line) ≡ fields_at line (place + length (literals (drop place line)))
  rest_there = r.rest ∙ sym (fields_over line (length (literals (drop place line))) place refl)

  -- where the line goes on there, a field stands there
  some_there : place + length (literals (drop place line)) < length line → field_length (drop (place + length (literals (drop place line))) line) ≡ 0 → ⊥
  some_there h z =
      literals_stop (drop place line) (omega (arith, length-drop place line))
      (ap field_length (drop-drop (length (literals (drop place line))) place line) ∙ z)

  -- it is the next one
  next_there : place + length (literals (drop place line)) < length line
      → drop next (line_fields line)
      ≡ field_of (place + length (literals (drop place line))) (drop (place + length (literals (drop place line))) line)
      ∷ fields_at line
      (place + length (literals (drop place line)) + field_length (drop (place + length (literals (drop place line))) line))
  next_there h = rest_there ∙ fields_field line (place + length (literals (drop place line))) (some_there h)

  -- with no field left, all bytes are literal
  pub no_next : length (line_fields line) ≤ next → length line ≡ place + length (literals (drop place line))
  no_next h =
      ⊎_elim
      (λ l. omega (arith, literals_within))
      (λ l.
      let none = ap length (drop_of_length-le (line_fields line) h) in
      let some = ap length (next_there l) in
      absurd (omega arith))
      (le_or_lt (length line) (place + length (literals (drop place line))))

  -- with a field left, it stands behind the literal bytes
  pub next_field : next < length (line_fields line) → NextField line next place (get_or (line_fields line) next no_field)
  unfolding field_of
  next_field h =
      let start : ℕ = place + length (literals (drop place line)) in
      let size : ℕ = field_length (drop start line) in
      let more : start < length line =
      ⊎_elim
      (λ l.
      let none = ap length (rest_there ∙ fields_end line start l) in
      absurd (omega (arith, length-drop next (line_fields line))))
      (λ l. l)
      (le_or_lt (length line) start) in
      let list = sym (drop-cons (line_fields line) next no_field h) ∙ next_there more in
      let same : field_of start (drop start line) ≡ get_or (line_fields line) next no_field = ap (λ (l : List Field). get_or l 0 no_field) (sym list) in
      subst (NextField line next place) same
      (record {
        first = refl;
        there = more;
        found = refl;
        some = some_there more;
        reached = reached_next r.reached;
        image_read = refl;
        on =
            record {
              inside = field_inside line start (omega arith);
              rest = ap (λ (k : ℕ). drop k (line_fields line)) (add-one next) ∙ ap (drop 1) list;
              reached = after_field (reached_next r.reached) (some_there more) refl;
            };
      })

-- The list of a line's first fields.

module _ {line : List ℕ} {fields : List Field} (listed : Listed line fields) where
  -- it has those that there are, or is full
  listed_length : length fields ≡ min max_fields (length (line_fields line))
  listed_length = ap length listed.first ∙ length-take max_fields (line_fields line)

  -- where it has none, the line has none
  pub listed_none : length fields ≡ 0 → length line ≤ length (literals line)
  listed_none h = omega (arith, listed_length, no_next (at_first line) (omega (arith, listed_length)))

  -- where it has one, the line has one
  pub listed_one : 0 < length fields → length (literals line) < length line
  listed_one h =
      let f = next_field (at_first line) (omega (arith, listed_length)) in
      omega (arith, f.first, f.there)

  -- and the other way round
  pub listed_some : length (literals line) < length line → 0 < length fields
  listed_some h = ⊎_elim (λ z. absurd (omega (arith, listed_none (omega arith)))) (λ z. z) (le_or_lt (length fields) 0)

  -- an element of it is the line's next field
  pub listed_next : {next place : ℕ} → AtField line next place → next < length fields → NextField line next place (get_or fields next no_field)
  listed_next {next} {place} r h =
      let same : get_or (line_fields line) next no_field ≡ get_or fields next no_field =
      sym (ap (λ (x : List Field). get_or x next no_field) listed.first ∙ get_or-take max_fields (line_fields line) next no_field (omega (arith, listed_length))) in
      subst (NextField line next place) same (next_field r (omega (arith, listed_length)))

  -- behind its last one, the rest of the line is literal, unless it is full
  pub listed_over : {next place : ℕ} → AtField line next place → length fields ≤ next → next < max_fields
      → length line ≡ place + length (literals (drop place line))
  listed_over r h l = no_next r (omega (arith, listed_length))
