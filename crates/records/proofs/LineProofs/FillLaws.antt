-- Laws of a number's bytes in a fixed-point field under valid marks: without the marks they are the sign, the digits with some zeros before them
-- left out, the point and the digits behind it.
-- Assumes nothing.
use Prim.Native.Nat.{ℕ, zero, suc, ◌+◌, ◌/◌, ◌^◌, ◌<◌, ◌≤◌}
use mathlib.Core.Path.{◌≡◌, refl, ap, sym, subst, ◌∙◌}
use mathlib.Core.List.{List, [], ◌∷◌, ◌++◌, append-nil}
use mathlib.Core.Bool.{Bool, true, false, ◌&&◌}
use native.Mathlib.Omega.{arith}
use native.Mathlib.Numerals.{add-one}
use borrow.Author.Tests.{eqb-true, ltb-true}
use lib.Dec.{eqb, ltb}
use lib.ListN.{length, take, drop, get_or}
use lib.Seq.{drop-cons, drop_at, take-length}
use Rattle.decimal.specs.declared.image.Sign.{Sign}
use Rattle.decimal.specs.declared.image.Sign.TheVariants.{Unsigned, Plus, Minus}
use Rattle.decimal.specs.declared.image.Image.{Image}
use Rattle.decimal.specs.Answer.{pick}
use Rattle.decimal.specs.Digits.{digits_of, zeros, Digits}
use Rattle.decimal.specs.Image.{plus_byte, minus_byte, hash_byte, point_byte, comma_byte, hashes, sign_bytes, times, fraction_bytes}
use Rattle.decimal.specs.Truncation.{Truncated}
use Rattle.decimal.proofs.BoolLaws.{and_true}
use Rattle.decimal.proofs.DigitLaws.{digits_length, digits_split, digits_first, digit_below, digits_are_digits}
use Rattle.codec.specs.Alpha.{blank_byte, zero_byte, digit_bytes}
use Rattle.codec.specs.Text.{point_bytes}
use Rattle.codec.proofs.AlphaForm.{alpha_sign, alpha_point}
use Rattle.records.specs.declared.lines.fields.Fill.{Fill}
use Rattle.records.specs.Lines.Scanning.{run_bytes, total}
use Rattle.records.specs.declared.lines.marks.Marks.{Marks}
use Rattle.records.specs.Lines.Marks.{ValidMarks, without_marks}
use Rattle.records.specs.Lines.Fields.{suppressed, fill_byte, fill_next, fill_bytes, sign_byte_of}
use Rattle.records.proofs.LineProofs.MarkLaws.{drops_blank, drops_filling, drops_thousands, keeps_digit, keeps_plus, keeps_minus, keeps_decimal}

-- what was filled so far
abbrev pub so_far : Bool → ℕ → Fill
so_far shown used = record { shown = shown; used = used }

-- what is left of a field's bytes without the marks
unfoldable pub marked : Marks → Image → Truncated → Bool → ℕ → List ℕ → List ℕ
marked m im t shown used bs = without_marks m (fill_bytes m im t (so_far shown used) bs)

-- n elements of a list from a place on
unfoldable pub elements : List ℕ → ℕ → ℕ → List ℕ
elements ds u zero = []
elements ds u (suc n) = get_or ds u 0 ∷ elements ds (u + 1) n

-- they are a part of the list
elements_part : (ds : List ℕ) (u n : ℕ) → u + n ≤ length ds → elements ds u n ≡ take n (drop u ds)
unfolding elements
elements_part ds u zero h = refl
elements_part ds u (suc n) h =
    let here : drop u ds ≡ get_or ds u 0 ∷ drop (suc u) ds = drop-cons ds u 0 (omega arith) in
    ap (λ (l : List ℕ). get_or ds u 0 ∷ l) (elements_part ds (u + 1) n (omega arith))
    ∙ ap (λ (m : ℕ). get_or ds u 0 ∷ take n (drop m ds)) (add-one u)
    ∙ sym (ap (λ (l : List ℕ). take (suc n) l) here)

-- the digits of an image
abbrev digits_under : Image → Truncated → List ℕ
digits_under im t = digits_of (hashes im) t.whole

-- the digits before the point
pub elements_before : (im : Image) (t : Truncated) → elements (digits_under im t) 0 im.integer ≡ digits_of im.integer (t.whole / 10 ^ im.fraction)
elements_before im t =
    elements_part (digits_under im t) 0 im.integer (omega (arith, digits_length (hashes im) t.whole))
    ∙ digits_first im.integer im.fraction t.whole

-- the digits behind it
pub elements_behind : (im : Image) (t : Truncated) → elements (digits_under im t) im.integer im.fraction ≡ digits_of im.fraction t.whole
elements_behind im t =
    let i = im.integer in
    let f = im.fraction in
    let front = digits_of i (t.whole / 10 ^ f) in
    let back = digits_of f t.whole in
    let rest : drop i (digits_under im t) ≡ back =
    ap (λ (l : List ℕ). drop i l) (digits_split i f t.whole) ∙ drop_at front back i (digits_length i (t.whole / 10 ^ f)) in
    elements_part (digits_under im t) i f (omega (arith, digits_length (hashes im) t.whole))
    ∙ ap (λ (l : List ℕ). take f l) rest
    ∙ ap (λ (n : ℕ). take n back) (sym (digits_length f t.whole))
    ∙ take-length back

-- Bytes without the marks.

module _ {m : Marks} (valid : ValidMarks m) where
  -- digits stay
  pub marks_digits : (ds : List ℕ) → Digits ds → (r : List ℕ) → without_marks m (digit_bytes ds ++ r) ≡ digit_bytes ds ++ without_marks m r
  unfolding Digits digit_bytes
  marks_digits [] h r = refl
  marks_digits (d ∷ ds) h r =
      keeps_digit valid (digit_bytes ds ++ r) d h.0 ∙ ap (λ (l : List ℕ). (zero_byte + d) ∷ l) (marks_digits ds h.1 r)

  -- a sign under + stays
  pub marks_plus : (negative : Bool) (r : List ℕ) → without_marks m (pick negative minus_byte plus_byte ∷ r) ≡ sign_bytes (pick negative Minus Plus) ++ without_marks m r
  unfolding sign_bytes
  marks_plus true r = keeps_minus valid r
  marks_plus false r = keeps_plus valid r

  -- under − the minus stays and the blank goes
  pub marks_minus : (negative : Bool) (r : List ℕ) → without_marks m (pick negative minus_byte blank_byte ∷ r) ≡ sign_bytes (pick negative Minus Unsigned) ++ without_marks m r
  unfolding sign_bytes
  marks_minus true r = keeps_minus valid r
  marks_minus false r = drops_blank m r

-- # signs and commas, with the count of the # signs
pub data Body : List ℕ → ℕ → Type 0 where
  end : Body [] 0
  hash : {bs : List ℕ} {n : ℕ} → Body bs n → Body (hash_byte ∷ bs) (suc n)
  comma : {bs : List ℕ} {n : ℕ} → Body bs n → Body (comma_byte ∷ bs) n

-- # signs before others
hashes_body : (n : ℕ) {bs : List ℕ} {m : ℕ} → Body bs m → Body (times n hash_byte ++ bs) (n + m)
unfolding times
hashes_body zero {bs} {m} b = let e : m ≡ 0 + m = omega arith in rw e at b
hashes_body (suc n) {bs} {m} b = let e : suc (n + m) ≡ suc n + m = omega arith in rw e at (hash (hashes_body n b))

-- # signs alone
pub times_body : (n : ℕ) → Body (times n hash_byte) n
unfolding times
times_body zero = end
times_body (suc n) = hash (times_body n)

-- the runs of a field
pub runs_body : (runs : List ℕ) → Body (run_bytes runs) (total runs)
unfolding run_bytes total
runs_body [] = end
runs_body (n ∷ []) = let e : n ≡ n + 0 = omega arith in subst (λ (m : ℕ). Body (times n hash_byte) m) e (times_body n)
runs_body (n ∷ (m ∷ ns)) = hashes_body n (comma (runs_body (m ∷ ns)))

module _ {m : Marks} (valid : ValidMarks m) (im : Image) (t : Truncated) where
  -- the digit at a place
  abbrev digit_at : ℕ → ℕ
  digit_at u = get_or (digits_under im t) u 0

  -- it is a digit
  digit_at_below : (u : ℕ) → digit_at u < 10
  digit_at_below u = digit_below (digits_under im t) (digits_are_digits (hashes im) t.whole) u

  -- a # that becomes a filling byte
  hash_blank : (u : ℕ) (bs : List ℕ) → (eqb (digit_at u) 0 && ltb (u + 1) im.integer) ≡ true → marked m im t false u (hash_byte ∷ bs) ≡ marked m im t false (u + 1) bs
  unfolding marked fill_bytes fill_byte fill_next
  hash_blank u bs h = rw h (drops_filling m (fill_bytes m im t (so_far false (u + 1)) bs))

  -- a # that becomes a digit
  hash_digit : (s : Bool) (u : ℕ) (bs : List ℕ) → suppressed im t (so_far s u) ≡ false
      → marked m im t s u (hash_byte ∷ bs) ≡ (zero_byte + digit_at u) ∷ marked m im t true (u + 1) bs
  unfolding marked fill_bytes fill_byte fill_next
  hash_digit s u bs h = rw h (keeps_digit valid (fill_bytes m im t (so_far true (u + 1)) bs) (digit_at u) (digit_at_below u))

  -- a thousands mark goes, or its filling byte
  comma_gone : (s : Bool) (u : ℕ) (bs : List ℕ) → marked m im t s u (comma_byte ∷ bs) ≡ marked m im t s u bs
  unfolding marked fill_bytes fill_byte fill_next
  comma_gone true u bs = drops_thousands m (fill_bytes m im t (so_far true u) bs)
  comma_gone false u bs = drops_filling m (fill_bytes m im t (so_far false u) bs)

  -- a decimal mark is a point
  point_stays : (s : Bool) (u : ℕ) (bs : List ℕ) → marked m im t s u (point_byte ∷ bs) ≡ point_byte ∷ marked m im t true u bs
  unfolding marked fill_bytes fill_byte fill_next
  point_stays s u bs = keeps_decimal valid (fill_bytes m im t (so_far true u) bs)

  -- the end
  marked_end : (s : Bool) (u : ℕ) → marked m im t s u [] ≡ []
  unfolding marked fill_bytes without_marks
  marked_end s u = refl

  -- the sign
  pub marked_sign : (sign : Sign) (bs : List ℕ)
      → marked m im t false 0 (sign_bytes sign ++ bs) ≡ sign_bytes (alpha_sign sign t.negative) ++ marked m im t false 0 bs
  unfolding marked fill_bytes fill_byte fill_next sign_byte_of sign_bytes alpha_sign
  marked_sign Unsigned bs = refl
  marked_sign Plus bs = marks_plus valid t.negative (fill_bytes m im t (so_far false 0) bs)
  marked_sign Minus bs = marks_minus valid t.negative (fill_bytes m im t (so_far false 0) bs)

  -- where a digit was shown, all digits are
  fill_shown : {bs : List ℕ} {n : ℕ} → Body bs n → (u : ℕ) (r : List ℕ)
      → marked m im t true u (bs ++ r) ≡ digit_bytes (elements (digits_under im t) u n) ++ marked m im t true (u + n) r
  unfolding elements digit_bytes
  fill_shown end u r = ap (λ (k : ℕ). marked m im t true k r) (omega arith)
  fill_shown (hash {bs} {n} b) u r =
      hash_digit true u (bs ++ r) refl
      ∙ ap (λ (l : List ℕ). (zero_byte + digit_at u) ∷ l) (fill_shown b (u + 1) r)
      ∙ ap (λ (k : ℕ). (zero_byte + digit_at u) ∷ (digit_bytes (elements (digits_under im t) (u + 1) n) ++ marked m im t true k r)) (omega arith)
  fill_shown (comma {bs} {n} b) u r = comma_gone true u (bs ++ r) ∙ fill_shown b u r

  -- where none was shown, some zeros are left out, but not all digits
  pub record Hidden (bs : List ℕ) (u n : ℕ) (r : List ℕ) : Type 0 where
    pub count : ℕ
    pub digits : List ℕ
    pub then_shown : Bool
    pub all : elements (digits_under im t) u n ≡ zeros count ++ digits
    pub some : 0 < n → 1 ≤ length digits
    pub shows : marked m im t false u (bs ++ r) ≡ digit_bytes digits ++ marked m im t then_shown (u + n) r

  -- so it is with # signs and commas up to the point
  pub fill_hidden : {bs : List ℕ} {n : ℕ} → Body bs n → (u : ℕ) (r : List ℕ) → u + n ≡ im.integer → Hidden bs u n r
  unfolding elements digit_bytes zeros
  fill_hidden end u r e =
      record {
        count = 0;
        digits = [];
        then_shown = false;
        all = refl;
        some = λ h. absurd (omega arith);
        shows = ap (λ (k : ℕ). marked m im t false k r) (omega arith);
      }
  fill_hidden (comma {bs} {n} b) u r e =
      let rest = fill_hidden b u r e in
      record {
        count = rest.count;
        digits = rest.digits;
        then_shown = rest.then_shown;
        all = rest.all;
        some = rest.some;
        shows = comma_gone false u (bs ++ r) ∙ rest.shows;
      }
  fill_hidden (hash {bs} {n} b) u r e = go (fill_hidden b (u + 1) r (omega arith)) (eqb (digit_at u) 0 && ltb (u + 1) im.integer) refl
    where
      go : Hidden bs (u + 1) n r → (k : Bool) → (eqb (digit_at u) 0 && ltb (u + 1) im.integer) ≡ k → Hidden (hash_byte ∷ bs) u (suc n) r
      go rest true h =
          let both = and_true (eqb (digit_at u) 0) (ltb (u + 1) im.integer) h in
          let more : u + 1 < im.integer = ltb-true (u + 1) im.integer both.1 in
          let nought : digit_at u ≡ 0 = eqb-true (digit_at u) 0 both.0 in
          record {
            count = suc rest.count;
            digits = rest.digits;
            then_shown = rest.then_shown;
            all = λ i. nought i ∷ rest.all i;
            some = λ z. rest.some (omega arith);
            shows =
                hash_blank u (bs ++ r) h
                ∙ rest.shows
                ∙ ap (λ (k : ℕ). digit_bytes rest.digits ++ marked m im t rest.then_shown k r) (omega arith);
          }
      go rest false h =
          record {
            count = 0;
            digits = elements (digits_under im t) u (suc n);
            then_shown = true;
            all = refl;
            some = λ z. omega arith;
            shows =
                hash_digit false u (bs ++ r) h
                ∙ ap (λ (l : List ℕ). (zero_byte + digit_at u) ∷ l) (fill_shown b (u + 1) r)
                ∙ ap (λ (k : ℕ). (zero_byte + digit_at u) ∷ (digit_bytes (elements (digits_under im t) (u + 1) n) ++ marked m im t true k r)) (omega arith);
          }

  -- the point and the digits behind it
  pub fill_fraction : (s : Bool) → marked m im t s im.integer (fraction_bytes im.fraction) ≡ point_bytes (alpha_point im.fraction t.whole)
  unfolding fraction_bytes point_bytes alpha_point
  fill_fraction s = go im.fraction refl
    where
      go : (f : ℕ) → im.fraction ≡ f → marked m im t s im.integer (fraction_bytes f) ≡ point_bytes (alpha_point f t.whole)
      go zero e = marked_end s im.integer
      go (suc f) e =
          let i = im.integer in
          let ds = elements (digits_under im t) i (suc f) in
          let same : ds ≡ digits_of (suc f) t.whole =
          ap (λ (m : ℕ). elements (digits_under im t) i m) (sym e) ∙ elements_behind im t ∙ ap (λ (m : ℕ). digits_of m t.whole) e in
          point_stays s i (times (suc f) hash_byte)
          ∙ ap (λ (l : List ℕ). point_byte ∷ marked m im t true i l) (sym (append-nil (times (suc f) hash_byte)))
          ∙ ap (λ (l : List ℕ). point_byte ∷ l) (fill_shown (times_body (suc f)) i [])
          ∙ ap (λ (l : List ℕ). point_byte ∷ (digit_bytes ds ++ l)) (marked_end true (i + suc f))
          ∙ ap (λ (l : List ℕ). point_byte ∷ l) (append-nil (digit_bytes ds))
          ∙ ap (λ (l : List ℕ). point_byte ∷ digit_bytes l) same
