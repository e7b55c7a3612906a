-- Document 01, Print lines: what a number prints in a field is what the sentence about it says, under any marks. The sentence stands in
-- FieldRule, apart from the machine that fills the field.
-- Assumes nothing.
use Prim.Native.Nat.{ℕ, zero, suc, ◌+◌, ◌-◌, ◌/◌, ◌%◌, ◌^◌, ◌<◌, ◌≤◌}
use native.Mathlib.Omega.{arith}
use native.Mathlib.Nat.{div-lt_iff_lt-mul, div-eq_of_lt, mod-eq_of_lt, le-div_iff_mul-le}
use mathlib.Core.Path.{◌≡◌, refl, ap, sym, subst, subst⁻¹, ◌∙◌}
use mathlib.Core.Logic.{◌⊎◌, inl, inr, ⊎_elim}
use mathlib.Core.List.{List, [], ◌∷◌, ◌++◌, append-nil}
use mathlib.Core.Bool.{Bool, true, false, not, ◌&&◌, and-false}
use borrow.Author.Tests.{eq-eqb, ne_eqb, lt-ltb, le-ltb}
use lib.Dec.{ltb, eqb}
use lib.ListN.{length, take, drop, get_or, length-append, get_or-append}
use lib.Seq.{append_snoc, take-append_seam, get_or-append_seam, get_or-drop, drop-drop}
use Rattle.decimal.specs.declared.image.Sign.{Sign}
use Rattle.decimal.specs.declared.image.Sign.TheVariants.{Unsigned, Plus, Minus}
use Rattle.decimal.specs.declared.image.Image.{Image}
use Rattle.decimal.specs.declared.number.Number.{Number}
use Rattle.decimal.specs.Answer.{Answer, done, refused, ◌then◌, pick}
use Rattle.decimal.specs.Digits.{digits_of, leading_zeros}
use Rattle.decimal.specs.Image.{plus_byte, minus_byte, hash_byte, point_byte, comma_byte, hashes, sign_bytes, times, fraction_bytes, up_bytes, image_bytes, scanned_image}
use Rattle.decimal.specs.Truncation.{Truncated, truncation, truncated_to}
use Rattle.decimal.proofs.PowerLaws.{pow10_pos, pow10_add, pow10_suc}
use Rattle.decimal.proofs.DigitLaws.{le_or_lt, leading_none, leading_more, leading_at_most, digits_length, digits_split}
use Rattle.decimal.proofs.TruncationLaws.{truncation_fit, truncation_done}
use Rattle.codec.specs.Alpha.{blank_byte, zero_byte, digit_bytes, sign_text, fraction_text, exponent_text, alpha_text}
use Rattle.codec.proofs.AlphaLaws.{text_length_lem, image_length}
use Rattle.codec.proofs.FitLaws.{whole_size}
use Rattle.records.specs.declared.lines.marks.Marks.{Marks}
use Rattle.records.specs.declared.lines.fields.Element.TheVariants as element
use Rattle.records.specs.Lines.Marks.{document_marks, with_decimal}
use Rattle.records.specs.Lines.Scanning.{Field, IsField, run_bytes, field_bytes}
use Rattle.records.specs.Lines.Fields.{suppressed, sign_byte_of, fill_byte, fill_next, fill_bytes, nothing_filled, shown_marked, number_marked, or_field, element_bytes, hash_count}
use Rattle.records.specs.Lines.FieldRule.{integer_zeros, hidden_digits, without_commas, alpha_behind, rule_byte, bytes_from, rule_bytes, number_by_rule}
use Rattle.records.proofs.LineProofs.FieldTheorem.{field_image_lem}
use Rattle.records.proofs.LineProofs.FieldLaws.{count_append, exponential_image}
use Rattle.records.proofs.LineProofs.MarkLaws.{decimal_length, decimal_append, decimal_digits, decimal_sign}
use Rattle.records.proofs.LineProofs.FillLaws.{so_far, elements, elements_before, elements_behind, Body, runs_body, times_body}
use Rattle.records.proofs.LineProofs.FieldBackTheorem.{field_image, in_field}

-- The leading zeros among digits.

-- each digit among them is zero
leading_zero : (n k u : ℕ) → k < 10 ^ n → u < leading_zeros n k → get_or (digits_of n k) u 0 ≡ 0
unfolding digits_of leading_zeros
leading_zero zero k u below h = absurd (omega arith)
leading_zero (suc n) k zero below h =
    ⊎_elim (λ full. absurd (omega (arith, leading_none n k full))) (λ fewer. ap (λ (q : ℕ). q % 10) (div-eq_of_lt fewer)) (le_or_lt (10 ^ n) k)
leading_zero (suc n) k (suc u) below h =
    ⊎_elim
    (λ full. absurd (omega (arith, leading_none n k full)))
    (λ fewer. leading_zero n k u fewer (omega (arith, leading_more n k fewer)))
    (le_or_lt (10 ^ n) k)

-- the digit behind them is not
leading_digit : (n k : ℕ) → k < 10 ^ n → leading_zeros n k < n → 0 < get_or (digits_of n k) (leading_zeros n k) 0
unfolding digits_of
leading_digit zero k below h = absurd (omega arith)
leading_digit (suc n) k below h =
    ⊎_elim
    (λ full.
    let some : 1 ≤ k / 10 ^ n = (le-div_iff_mul-le (pow10_pos n)).1 (omega arith) in
    let few : k / 10 ^ n < 10 = (div-lt_iff_lt-mul (pow10_pos n)).1 (omega (arith, pow10_suc n)) in
    rw (leading_none n k full, mod-eq_of_lt few) some)
    (λ fewer. rw (leading_more n k fewer) (leading_digit n k fewer (omega (arith, leading_more n k fewer))))
    (le_or_lt (10 ^ n) k)

-- The rule, read along the field.

-- what prints for the rest of a field, before which u # signs stand, where this is left of the alpha text
unfoldable pub ruled : Marks → ℕ → ℕ → List ℕ → List ℕ → List ℕ
ruled m hidden u [] text = []
ruled m hidden u (b ∷ bs) text =
    pick (eqb b comma_byte)
    (pick (ltb hidden u) m.thousands m.filling)
    (pick (eqb b hash_byte && ltb u hidden) m.filling (get_or text 0 0))
    ∷ ruled m hidden (pick (eqb b hash_byte) (u + 1) u) bs (pick (eqb b comma_byte) text (drop 1 text))

-- a field without its commas, in two parts
without_append : (xs ys : List ℕ) → without_commas (xs ++ ys) ≡ without_commas xs ++ without_commas ys
unfolding without_commas
without_append [] ys = refl
without_append (b ∷ xs) ys = go (eqb b comma_byte) (without_append xs ys)
  where
    go : (c : Bool)
        → without_commas (xs ++ ys) ≡ without_commas xs ++ without_commas ys
        → pick c (without_commas (xs ++ ys)) (b ∷ without_commas (xs ++ ys)) ≡ pick c (without_commas xs) (b ∷ without_commas xs) ++ without_commas ys
    go true e = e
    go false e = ap (λ (l : List ℕ). b ∷ l) e

-- the # signs before the next byte
hash_next : (before : List ℕ) (b : ℕ) → hash_count (before ++ (b ∷ [])) ≡ pick (eqb b hash_byte) (hash_count before + 1) (hash_count before)
unfolding hash_count
hash_next before b = count_append before (b ∷ []) ∙ go (eqb b hash_byte)
  where
    go : (c : Bool) → hash_count before + (pick c 1 0 + 0) ≡ pick c (hash_count before + 1) (hash_count before)
    go true = omega arith
    go false = omega arith

-- what is left of the text there
text_next : (text before : List ℕ) (b : ℕ)
    → drop (length (without_commas (before ++ (b ∷ [])))) text
    ≡ pick (eqb b comma_byte) (drop (length (without_commas before)) text) (drop 1 (drop (length (without_commas before)) text))
unfolding without_commas
text_next text before b =
    ap (λ (l : List ℕ). drop (length l) text) (without_append before (b ∷ [])) ∙ go (eqb b comma_byte)
  where
    start : List ℕ
    start = without_commas before

    go : (c : Bool) → drop (length (start ++ pick c [] (b ∷ []))) text ≡ pick c (drop (length start) text) (drop 1 (drop (length start) text))
    go true = ap (λ (l : List ℕ). drop (length l) text) (append-nil start)
    go false = ap (λ (n : ℕ). drop n text) (length-append start (b ∷ [])) ∙ sym (drop-drop 1 (length start) text)

-- its first byte
first_left : (text : List ℕ) (n : ℕ) → get_or (drop n text) 0 0 ≡ get_or text n 0
first_left text n = let same : n + 0 ≡ n = omega arith in get_or-drop n text 0 0 ∙ ap (λ (k : ℕ). get_or text k 0) same

module _ (m : Marks) (im : Image) (t : Truncated) (field : List ℕ) where
  -- the byte at a position
  abbrev byte_at : ℕ → ℕ
  byte_at p = rule_byte m im t (take p field) (get_or field p 0)

  -- behind a beginning of the field
  byte_behind : (before : List ℕ) (b : ℕ) (bs : List ℕ) → field ≡ before ++ b ∷ bs → byte_at (length before) ≡ rule_byte m im t before b
  byte_behind before b bs is =
      ap (λ (l : List ℕ). rule_byte m im t (take (length before) l) (get_or l (length before) 0)) is
      ∙ rw (take-append_seam before (b ∷ bs), get_or-append_seam before b bs 0)

  -- and of what is left of the text there
  byte_left : (before : List ℕ) (b : ℕ)
      → rule_byte m im t before b
      ≡ pick (eqb b comma_byte)
      (pick (ltb (hidden_digits im t) (hash_count before)) m.thousands m.filling)
      (pick (eqb b hash_byte && ltb (hash_count before) (hidden_digits im t)) m.filling (get_or (drop (length (without_commas before)) (with_decimal m (alpha_text im t))) 0 0))
  unfolding rule_byte alpha_behind
  byte_left before b =
      ap
      (λ (c : ℕ).
      pick (eqb b comma_byte)
      (pick (ltb (hidden_digits im t) (hash_count before)) m.thousands m.filling)
      (pick (eqb b hash_byte && ltb (hash_count before) (hidden_digits im t)) m.filling c))
      (sym (first_left (with_decimal m (alpha_text im t)) (length (without_commas before))))

  -- the rule for the rest of the field
  rule_rest : (before bs : List ℕ) → field ≡ before ++ bs
      → bytes_from byte_at (length before) (length bs)
      ≡ ruled m (hidden_digits im t) (hash_count before) bs (drop (length (without_commas before)) (with_decimal m (alpha_text im t)))
  unfolding bytes_from ruled
  rule_rest before [] is = refl
  rule_rest before (b ∷ bs) is =
      let text = with_decimal m (alpha_text im t) in
      let hidden = hidden_digits im t in
      let longer : suc (length before) ≡ length (before ++ (b ∷ [])) = omega (arith, length-append before (b ∷ [])) in
      let head = byte_behind before b bs is ∙ byte_left before b in
      let tail =
      ap (λ (n : ℕ). bytes_from byte_at n (length bs)) longer
      ∙ rule_rest (before ++ (b ∷ [])) bs (is ∙ sym (append_snoc before b bs))
      ∙ (λ i. ruled m hidden (hash_next before b i) bs (text_next text before b i)) in
      λ i. head i ∷ tail i

  -- and for the whole of it
  pub rule_whole : rule_bytes m field im t ≡ ruled m (hidden_digits im t) 0 field (with_decimal m (alpha_text im t))
  unfolding rule_bytes hash_count without_commas
  rule_whole = rule_rest [] field refl

-- the byte at a position of a list that is made by position
made_at : (byte : ℕ → ℕ) (start n p : ℕ) → p < n → get_or (bytes_from byte start n) p 0 ≡ byte (start + p)
unfolding bytes_from
made_at byte start zero p h = absurd (omega arith)
made_at byte start (suc n) zero h = let same : start ≡ start + 0 = omega arith in ap byte same
made_at byte start (suc n) (suc p) h =
    let same : suc start + p ≡ start + suc p = omega arith in made_at byte (suc start) n p (omega arith) ∙ ap byte same

-- the rule for a position
rule_at : (m : Marks) (im : Image) (t : Truncated) (field : List ℕ) (p : ℕ) → p < length field
    → get_or (rule_bytes m field im t) p 0 ≡ rule_byte m im t (take p field) (get_or field p 0)
unfolding rule_bytes
rule_at m im t field p inside =
    let byte : ℕ → ℕ = λ q. rule_byte m im t (take q field) (get_or field q 0) in
    let same : 0 + p ≡ p = omega arith in
    made_at byte 0 (length field) p inside ∙ ap byte same

-- What the machine writes.

-- one number is not below another exactly where the other is below the next
not_less : (u s : ℕ) → not (ltb u s) ≡ ltb s (u + 1)
not_less u s =
    ⊎_elim
    (λ h. ap not (le-ltb u s h) ∙ sym (lt-ltb s (u + 1) (omega arith)))
    (λ h. ap not (lt-ltb u s h) ∙ sym (le-ltb s (u + 1) (omega arith)))
    (le_or_lt s u)

module _ (m : Marks) (im : Image) (t : Truncated) (below : t.whole < 10 ^ hashes im) (kind : im.exponential ≡ false) where
  -- the digits of the image
  abbrev all_digits : List ℕ
  all_digits = digits_of (hashes im) t.whole

  -- the digits before the point are those of the whole part
  front : (u : ℕ) → u < im.integer → get_or all_digits u 0 ≡ get_or (digits_of im.integer (t.whole / 10 ^ im.fraction)) u 0
  front u h =
      let k = t.whole / 10 ^ im.fraction in
      ap (λ (l : List ℕ). get_or l u 0) (digits_split im.integer im.fraction t.whole)
      ∙ get_or-append (digits_of im.integer k) (digits_of im.fraction t.whole) 0 u (omega (arith, digits_length im.integer k))

  -- which has at most i digits
  front_below : t.whole / 10 ^ im.fraction < 10 ^ im.integer
  front_below = (div-lt_iff_lt-mul (pow10_pos im.fraction)).1 (rw (← pow10_add im.integer im.fraction) below)

  -- at most all of them are leading zeros
  zeros_most : integer_zeros im t ≤ im.integer
  unfolding integer_zeros
  zeros_most = leading_at_most im.integer (t.whole / 10 ^ im.fraction)

  -- the hidden digits are the leading zeros, or all digits before the point but the last
  hidden_are :
      ((integer_zeros im t < im.integer) × (hidden_digits im t ≡ integer_zeros im t))
      ⊎ ((integer_zeros im t ≡ im.integer) × (hidden_digits im t ≡ im.integer - 1))
  unfolding hidden_digits
  hidden_are =
      let z = integer_zeros im t in
      let i = im.integer in
      let most = zeros_most in
      let fixed : hidden_digits im t ≡ pick (ltb z i) z (i - 1) = ap (λ (e : Bool). pick e 0 (pick (ltb z i) z (i - 1))) kind in
      ⊎_elim
      (λ all. inr (omega arith, fixed ∙ ap (λ (b : Bool). pick b z (i - 1)) (le-ltb z i all)))
      (λ some. inl (some, fixed ∙ ap (λ (b : Bool). pick b z (i - 1)) (lt-ltb z i some)))
      (le_or_lt i z)

  -- so that they are at most i
  hidden_most : hidden_digits im t ≤ im.integer
  hidden_most = ⊎_elim (λ e. omega (arith, e.0, e.1)) (λ e. omega (arith, e.0, e.1)) hidden_are

  -- a hidden digit is a leading zero
  hidden_leading : (u : ℕ) → u < hidden_digits im t → u < integer_zeros im t
  hidden_leading u h = ⊎_elim (λ e. omega (arith, e.0, e.1)) (λ e. omega (arith, e.0, e.1)) hidden_are

  -- and not the last digit
  hidden_inside : (u : ℕ) → u < hidden_digits im t → u + 1 < im.integer
  hidden_inside u h = ⊎_elim (λ e. omega (arith, e.0, e.1)) (λ e. omega (arith, e.0, e.1)) hidden_are

  -- so that it is zero
  hidden_zero : (u : ℕ) → u < hidden_digits im t → get_or all_digits u 0 ≡ 0
  unfolding integer_zeros
  hidden_zero u h =
      front u (omega (arith, hidden_inside u h))
      ∙ leading_zero im.integer (t.whole / 10 ^ im.fraction) u front_below (hidden_leading u h)

  -- the digit behind the leading zeros is not
  first_digit : integer_zeros im t < im.integer → 0 < get_or all_digits (integer_zeros im t) 0
  unfolding integer_zeros
  first_digit h =
      let k = t.whole / 10 ^ im.fraction in
      omega (arith, front (leading_zeros im.integer k) h, leading_digit im.integer k front_below h)

  -- the machine hides no digit from there on
  first_shown : (u : ℕ) → u < im.integer → u ≡ hidden_digits im t → (eqb (get_or all_digits u 0) 0 && ltb (u + 1) im.integer) ≡ false
  first_shown u inside is =
      ⊎_elim
      (λ e.
      let some : get_or all_digits u 0 ≡ 0 → ⊥ = λ z. omega (arith, first_digit e.0, ap (λ (k : ℕ). get_or all_digits k 0) (is ∙ e.1)) in
      ap (λ (b : Bool). b && ltb (u + 1) im.integer) (ne_eqb (get_or all_digits u 0) 0 some))
      (λ e.
      ap (λ (b : Bool). eqb (get_or all_digits u 0) 0 && b) (le-ltb (u + 1) im.integer (omega (arith, e.1)))
      ∙ and-false (eqb (get_or all_digits u 0) 0))
      hidden_are

  -- what the machine hides
  suppressed_is : (u : ℕ) → u < im.integer → suppressed im t (so_far (ltb (hidden_digits im t) u) u) ≡ ltb u (hidden_digits im t)
  suppressed_is u inside =
      let s = hidden_digits im t in
      let zero? = eqb (get_or all_digits u 0) 0 in
      let more? = ltb (u + 1) im.integer in
      ⊎_elim
      (λ none.
      ⊎_elim
      (λ same.
      ap (λ (b : Bool). not b && (zero? && more?)) (le-ltb s u (omega arith))
      ∙ first_shown u inside (omega arith)
      ∙ sym (le-ltb u s (omega arith)))
      (λ past. ap (λ (b : Bool). not b && (zero? && more?)) (lt-ltb s u past) ∙ sym (le-ltb u s (omega arith)))
      (le_or_lt u s))
      (λ some.
      ap (λ (b : Bool). not b && (zero? && more?)) (le-ltb s u (omega arith))
      ∙ (λ i. eq-eqb (get_or all_digits u 0) 0 (hidden_zero u some) i && lt-ltb (u + 1) im.integer (hidden_inside u some) i)
      ∙ sym (lt-ltb u s some))
      (le_or_lt s u)

  -- the bytes that the machine writes behind u # signs, and those of the rule
  abbrev filled_from : Bool → ℕ → List ℕ → List ℕ
  filled_from shown u bs = fill_bytes m im t (so_far shown u) bs

  abbrev ruled_from : ℕ → List ℕ → List ℕ → List ℕ
  ruled_from u bs text = ruled m (hidden_digits im t) u bs text

  -- they are the same for a # before the point
  turns_hash : (u : ℕ) (bs text : List ℕ) → u < im.integer → filled_from (ltb (hidden_digits im t) (u + 1)) (u + 1) bs ≡ ruled_from (u + 1) bs text
      → filled_from (ltb (hidden_digits im t) u) u (hash_byte ∷ bs) ≡ ruled_from u (hash_byte ∷ bs) ((zero_byte + get_or all_digits u 0) ∷ text)
  unfolding fill_bytes fill_byte fill_next ruled
  turns_hash u bs text inside next =
      let s = hidden_digits im t in
      let digit = zero_byte + get_or all_digits u 0 in
      ap (λ (b : Bool). pick b m.filling digit ∷ filled_from (not b) (u + 1) bs) (suppressed_is u inside)
      ∙ ap (λ (b : Bool). pick (ltb u s) m.filling digit ∷ filled_from b (u + 1) bs) (not_less u s)
      ∙ ap (λ (l : List ℕ). pick (ltb u s) m.filling digit ∷ l) next

  -- for a comma there
  turns_comma : (u : ℕ) (bs text : List ℕ) → filled_from (ltb (hidden_digits im t) u) u bs ≡ ruled_from u bs text
      → filled_from (ltb (hidden_digits im t) u) u (comma_byte ∷ bs) ≡ ruled_from u (comma_byte ∷ bs) text
  unfolding fill_bytes fill_byte fill_next ruled
  turns_comma u bs text next = ap (λ (l : List ℕ). pick (ltb (hidden_digits im t) u) m.thousands m.filling ∷ l) next

  -- for the # signs and commas before the point
  turns_body : {bs : List ℕ} {n : ℕ} → Body bs n → (u : ℕ) (r text : List ℕ) → u + n ≡ im.integer
      → filled_from (ltb (hidden_digits im t) im.integer) im.integer r ≡ ruled_from im.integer r text
      → filled_from (ltb (hidden_digits im t) u) u (bs ++ r) ≡ ruled_from u (bs ++ r) (digit_bytes (elements all_digits u n) ++ text)
  unfolding elements digit_bytes
  turns_body Body.end u r text e next = subst⁻¹ (λ (k : ℕ). filled_from (ltb (hidden_digits im t) k) k r ≡ ruled_from k r text) (omega arith) next
  turns_body (Body.hash {bs} {n} b) u r text e next =
      turns_hash u (bs ++ r) (digit_bytes (elements all_digits (u + 1) n) ++ text) (omega arith) (turns_body b (u + 1) r text (omega arith) next)
  turns_body (Body.comma {bs} {n} b) u r text e next =
      turns_comma u (bs ++ r) (digit_bytes (elements all_digits u n) ++ text) (turns_body b u r text e next)

  -- for a # behind the point, where each digit is shown
  turns_shown : (u : ℕ) (bs text : List ℕ) → im.integer ≤ u → filled_from true (u + 1) bs ≡ ruled_from (u + 1) bs text
      → filled_from true u (hash_byte ∷ bs) ≡ ruled_from u (hash_byte ∷ bs) ((zero_byte + get_or all_digits u 0) ∷ text)
  unfolding fill_bytes fill_byte fill_next ruled
  turns_shown u bs text behind next =
      let digit = zero_byte + get_or all_digits u 0 in
      ap (λ (l : List ℕ). digit ∷ l) next
      ∙ ap (λ (b : Bool). pick b m.filling digit ∷ ruled_from (u + 1) bs text) (sym (le-ltb u (hidden_digits im t) (omega (arith, hidden_most))))

  -- for all of them
  turns_fraction : (n u : ℕ) → im.integer ≤ u
      → filled_from true u (times n hash_byte) ≡ ruled_from u (times n hash_byte) (digit_bytes (elements all_digits u n))
  unfolding times elements digit_bytes fill_bytes ruled
  turns_fraction zero u behind = refl
  turns_fraction (suc n) u behind =
      turns_shown u (times n hash_byte) (digit_bytes (elements all_digits (u + 1) n)) behind (turns_fraction n (u + 1) (omega arith))

  -- for the point and what stands behind it
  turns_point : filled_from (ltb (hidden_digits im t) im.integer) im.integer (fraction_bytes im.fraction)
      ≡ ruled_from im.integer (fraction_bytes im.fraction) (with_decimal m (fraction_text im.fraction t.whole))
  unfolding fraction_bytes fraction_text with_decimal fill_bytes fill_byte fill_next ruled
  turns_point = go im.fraction refl
    where
      go : (f : ℕ) → im.fraction ≡ f
          → filled_from (ltb (hidden_digits im t) im.integer) im.integer (fraction_bytes f)
          ≡ ruled_from im.integer (fraction_bytes f) (with_decimal m (fraction_text f t.whole))
      go zero e = refl
      go (suc f) e =
          let i = im.integer in
          let same : digit_bytes (elements all_digits i (suc f)) ≡ with_decimal m (digit_bytes (digits_of (suc f) t.whole)) =
          ap (λ (n : ℕ). digit_bytes (elements all_digits i n)) (sym e)
          ∙ ap digit_bytes (elements_behind im t)
          ∙ ap (λ (n : ℕ). digit_bytes (digits_of n t.whole)) e
          ∙ sym (decimal_digits m (digits_of (suc f) t.whole)) in
          ap (λ (l : List ℕ). m.decimal ∷ l)
          (turns_fraction (suc f) i (omega arith) ∙ ap (λ (l : List ℕ). ruled_from i (times (suc f) hash_byte) l) same)

  -- for the sign
  turns_sign : (sign : Sign) (r text : List ℕ) → filled_from false 0 r ≡ ruled_from 0 r text
      → filled_from false 0 (sign_bytes sign ++ r) ≡ ruled_from 0 (sign_bytes sign ++ r) (sign_text sign t.negative ++ text)
  unfolding sign_bytes sign_text fill_bytes fill_byte fill_next sign_byte_of ruled
  turns_sign Unsigned r text next = next
  turns_sign Plus r text next = ap (λ (l : List ℕ). pick t.negative minus_byte plus_byte ∷ l) next
  turns_sign Minus r text next = ap (λ (l : List ℕ). pick t.negative minus_byte blank_byte ∷ l) next

  -- the alpha text of a fixed-point image, with the decimal mark
  pub text_parts : with_decimal m (alpha_text im t)
      ≡ sign_text im.sign t.negative
      ++ (digit_bytes (digits_of im.integer (t.whole / 10 ^ im.fraction)) ++ with_decimal m (fraction_text im.fraction t.whole))
  unfolding alpha_text exponent_text
  text_parts =
      let sign = sign_text im.sign t.negative in
      let digits = digits_of im.integer (t.whole / 10 ^ im.fraction) in
      let behind = fraction_text im.fraction t.whole in
      ap (λ (e : Bool). with_decimal m (sign ++ (digit_bytes digits ++ (behind ++ exponent_text e t)))) kind
      ∙ ap (λ (l : List ℕ). with_decimal m (sign ++ (digit_bytes digits ++ l))) (append-nil behind)
      ∙ decimal_append m sign (digit_bytes digits ++ behind)
      ∙ ap (λ (l : List ℕ). with_decimal m sign ++ l) (decimal_append m (digit_bytes digits) behind)
      ∙ (λ i. decimal_sign m im.sign t.negative i ++ (decimal_digits m digits i ++ with_decimal m behind))

  -- so that they are the same for a whole field
  turns_field : {bs : List ℕ} → Body bs im.integer
      → filled_from false 0 (sign_bytes im.sign ++ (bs ++ fraction_bytes im.fraction))
      ≡ ruled_from 0 (sign_bytes im.sign ++ (bs ++ fraction_bytes im.fraction)) (with_decimal m (alpha_text im t))
  turns_field {bs} b =
      let s = hidden_digits im t in
      let rest = bs ++ fraction_bytes im.fraction in
      let behind = with_decimal m (fraction_text im.fraction t.whole) in
      let digits = digit_bytes (digits_of im.integer (t.whole / 10 ^ im.fraction)) in
      let body : filled_from false 0 rest ≡ ruled_from 0 rest (digits ++ behind) =
      ap (λ (shown : Bool). filled_from shown 0 rest) (sym (le-ltb s 0 (omega arith)))
      ∙ turns_body b 0 (fraction_bytes im.fraction) behind (omega arith) turns_point
      ∙ ap (λ (l : List ℕ). ruled_from 0 rest (digit_bytes l ++ behind)) (elements_before im t) in
      turns_sign im.sign rest (digits ++ behind) body
      ∙ ap (λ (l : List ℕ). ruled_from 0 (sign_bytes im.sign ++ rest) l) (sym text_parts)

-- Fixed-point fields.

-- a fixed-point field has no 5E bytes
pub fixed_bytes : (f : Field) → f.exponential ≡ false → field_bytes f ≡ sign_bytes f.sign ++ (run_bytes f.runs ++ fraction_bytes f.fraction)
unfolding field_bytes up_bytes
fixed_bytes f kind =
    let behind = fraction_bytes f.fraction in
    ap (λ (e : Bool). sign_bytes f.sign ++ (run_bytes f.runs ++ (behind ++ up_bytes e))) kind
    ∙ ap (λ (l : List ℕ). sign_bytes f.sign ++ (run_bytes f.runs ++ l)) (append-nil behind)

-- what the machine writes there is what the rule says
fixed_rule : (m : Marks) (f : Field) (t : Truncated) → t.whole < 10 ^ hashes (field_image f) → f.exponential ≡ false
    → fill_bytes m (field_image f) t nothing_filled (field_bytes f) ≡ rule_bytes m (field_bytes f) (field_image f) t
fixed_rule m f t below kind =
    let im = field_image f in
    ap (fill_bytes m im t nothing_filled) (fixed_bytes f kind)
    ∙ turns_field m im t below kind (runs_body f.runs)
    ∙ ap (λ (l : List ℕ). ruled m (hidden_digits im t) 0 l (with_decimal m (alpha_text im t))) (sym (fixed_bytes f kind))
    ∙ sym (rule_whole m im t (field_bytes f))

-- Fields and their images.

-- # signs and commas without the commas
without_body : {bs : List ℕ} {n : ℕ} → Body bs n → without_commas bs ≡ times n hash_byte
unfolding without_commas times
without_body Body.end = refl
without_body (Body.hash b) = ap (λ (l : List ℕ). hash_byte ∷ l) (without_body b)
without_body (Body.comma b) = without_body b

-- a sign has none
without_sign : (sign : Sign) → without_commas (sign_bytes sign) ≡ sign_bytes sign
unfolding without_commas sign_bytes
without_sign Unsigned = refl
without_sign Plus = refl
without_sign Minus = refl

-- nor what stands behind the point
without_fraction : (f : ℕ) → without_commas (fraction_bytes f) ≡ fraction_bytes f
unfolding without_commas fraction_bytes
without_fraction zero = refl
without_fraction (suc f) = ap (λ (l : List ℕ). point_byte ∷ l) (without_body (times_body (suc f)))

-- nor the 5E bytes
without_ups : (kind : Bool) → without_commas (up_bytes kind) ≡ up_bytes kind
unfolding without_commas up_bytes times
without_ups true = refl
without_ups false = refl

-- a field's bytes without the commas
without_field : (f : Field) → without_commas (field_bytes f) ≡ image_bytes (field_image f)
unfolding field_bytes image_bytes
without_field f =
    let runs = run_bytes f.runs in
    let behind = fraction_bytes f.fraction in
    let ups = up_bytes f.exponential in
    without_append (sign_bytes f.sign) (runs ++ (behind ++ ups))
    ∙ ap (λ (l : List ℕ). without_commas (sign_bytes f.sign) ++ l) (without_append runs (behind ++ ups))
    ∙ ap (λ (l : List ℕ). without_commas (sign_bytes f.sign) ++ (without_commas runs ++ l)) (without_append behind ups)
    ∙ (λ i. without_sign f.sign i ++ (without_body (runs_body f.runs) i ++ (without_fraction f.fraction i ++ without_ups f.exponential i)))

-- Published: a field without its commas is its image.
pub field_without_commas : {field : List ℕ} {f : Field} → IsField field f → without_commas field ≡ image_bytes (scanned_image field)
field_without_commas {field} {f} is = ap without_commas is.rendered ∙ without_field f ∙ sym (ap image_bytes (field_image_lem is))

-- Exponential fields.

-- without its commas a field is not longer
pub without_shorter : (bs : List ℕ) → length (without_commas bs) ≤ length bs
unfolding without_commas
without_shorter [] = omega arith
without_shorter (b ∷ bs) = go (eqb b comma_byte) (without_shorter bs)
  where
    go : (c : Bool) → length (without_commas bs) ≤ length bs → length (pick c (without_commas bs) (b ∷ without_commas bs)) ≤ suc (length bs)
    go true h = omega arith
    go false h = omega arith

-- where nothing is hidden and no comma stands, the rule is the text
ruled_plain : (m : Marks) (u : ℕ) (bs text : List ℕ) → length (without_commas bs) ≡ length bs → length bs ≡ length text → ruled m 0 u bs text ≡ text
unfolding ruled without_commas
ruled_plain m u [] [] none size = refl
ruled_plain m u [] (c ∷ text) none size = absurd (omega arith)
ruled_plain m u (b ∷ bs) [] none size = absurd (omega arith)
ruled_plain m u (b ∷ bs) (c ∷ text) none size =
    go (eqb b comma_byte) none (λ (rest : length (without_commas bs) ≡ length bs). ruled_plain m (pick (eqb b hash_byte) (u + 1) u) bs text rest (omega arith))
  where
    next : ℕ
    next = pick (eqb b hash_byte) (u + 1) u

    shown : (eqb b hash_byte && ltb u 0) ≡ false
    shown = ap (λ (l : Bool). eqb b hash_byte && l) (le-ltb u 0 (omega arith)) ∙ and-false (eqb b hash_byte)

    go : (k : Bool)
        → length (pick k (without_commas bs) (b ∷ without_commas bs)) ≡ suc (length bs)
        → (length (without_commas bs) ≡ length bs → ruled m 0 next bs text ≡ text)
        → pick k (pick (ltb 0 u) m.thousands m.filling) (pick (eqb b hash_byte && ltb u 0) m.filling c) ∷ ruled m 0 next bs (pick k (c ∷ text) text) ≡ c ∷ text
    go true h rest = absurd (omega (arith, without_shorter bs))
    go false h rest = λ i. ap (λ (k : Bool). pick k m.filling c) shown i ∷ rest (omega arith) i

-- in exponential form nothing is hidden
hidden_none : (im : Image) (t : Truncated) → im.exponential ≡ true → hidden_digits im t ≡ 0
unfolding hidden_digits
hidden_none im t kind = rw kind

-- so that the rule is the alpha text there
exponential_rule : (m : Marks) {field : List ℕ} {f : Field} → IsField field f → (t : Truncated) → (scanned_image field).exponential ≡ true
    → with_decimal m (alpha_text (scanned_image field) t) ≡ rule_bytes m field (scanned_image field) t
exponential_rule m {field} {f} is t kind =
    let im = scanned_image field in
    let text = with_decimal m (alpha_text im t) in
    let whole : field ≡ image_bytes im = (exponential_image is kind).rendered in
    let none : length (without_commas field) ≡ length field = ap length (field_without_commas is) ∙ sym (ap length whole) in
    let size : length field ≡ length text = ap length whole ∙ image_length im ∙ sym (decimal_length m (alpha_text im t) ∙ text_length_lem im t) in
    sym (rule_whole m im t field ∙ ap (λ (s : ℕ). ruled m s 0 field text) (hidden_none im t kind) ∙ ruled_plain m 0 field text none size)

-- What a number prints.

-- in a fixed-point field
fixed_shown : (m : Marks) {field : List ℕ} {f : Field} → IsField field f → (t : Truncated) → t.whole < 10 ^ hashes (scanned_image field)
    → (scanned_image field).exponential ≡ false
    → fill_bytes m (scanned_image field) t nothing_filled field ≡ rule_bytes m field (scanned_image field) t
fixed_shown m {field} {f} is t below kind =
    let same = field_image_lem is in
    let small : t.whole < 10 ^ hashes (field_image f) = subst (λ (im : Image). t.whole < 10 ^ hashes im) same below in
    let fixed : f.exponential ≡ false = sym (ap (λ (im : Image). im.exponential) same) ∙ kind in
    (λ i. fill_bytes m (same i) t nothing_filled (is.rendered i))
    ∙ fixed_rule m f t small fixed
    ∙ sym (λ i. rule_bytes m (is.rendered i) (same i) t)

-- Published: a truncated number prints in a field what the rule says.
pub shown_by_rule : (m : Marks) {field : List ℕ} {f : Field} → IsField field f → (t : Truncated) → t.whole < 10 ^ hashes (scanned_image field)
    → shown_marked m field (scanned_image field) t ≡ rule_bytes m field (scanned_image field) t
unfolding shown_marked
shown_by_rule m {field} is t below = go (scanned_image field).exponential refl
  where
    go : (e : Bool) → (scanned_image field).exponential ≡ e
        → pick e (with_decimal m (alpha_text (scanned_image field) t)) (fill_bytes m (scanned_image field) t nothing_filled field)
        ≡ rule_bytes m field (scanned_image field) t
    go true kind = exponential_rule m is t kind
    go false kind = fixed_shown m is t below kind

-- a truncation has at most n digits
pub truncation_below : (im : Image) (n : Number) {t : Truncated} → truncation 0 im n ≡ done t → t.whole < 10 ^ hashes im
unfolding truncated_to
truncation_below im n h = subst⁻¹ (λ (t : Truncated). t.whole < 10 ^ hashes im) (truncation_done 0 im n h) (whole_size im n (truncation_fit 0 im n h))

-- Published: so does a number, under any marks; and it is spilled where the rule says so.
pub number_by_rule_lem : (m : Marks) {field : List ℕ} {f : Field} → IsField field f → (n : Number) → number_marked m field n ≡ number_by_rule m field n
unfolding number_marked number_by_rule ◌then◌
number_by_rule_lem m {field} is n = go (truncation 0 (scanned_image field) n) refl
  where
    go : (a : Answer Truncated) → truncation 0 (scanned_image field) n ≡ a
        → (a then λ t. done (shown_marked m field (scanned_image field) t)) ≡ (a then λ t. done (rule_bytes m field (scanned_image field) t))
    go (done t) e = ap done (shown_by_rule m is t (truncation_below (scanned_image field) n e))
    go (refused number place) e = refl

-- Published: the bytes of a number that is not spilled.
pub bytes_by_rule : (m : Marks) {field : List ℕ} {f : Field} → IsField field f → (n : Number) {bytes : List ℕ}
    → (h : number_marked m field n ≡ done bytes)
    → bytes ≡ rule_bytes m field (scanned_image field) (in_field m field n h).to
bytes_by_rule m {field} is n h =
    let t = in_field m field n h in
    t.bytes_are ∙ shown_by_rule m is t.to (truncation_below (scanned_image field) n t.truncated)

-- Published: what a number that is an element of a line prints in its field, with document 01's marks.
pub element_by_rule : {field : List ℕ} {f : Field} → IsField field f → (texts : List ℕ) (n : Number)
    → element_bytes texts field (element.Number n) ≡ or_field field (number_by_rule document_marks field n)
unfolding element_bytes
element_by_rule {field} is texts n = ap (or_field field) (number_by_rule_lem document_marks is n)

-- Published: each byte that such a number prints is the rule's for its position.
pub byte_by_rule : (m : Marks) {field : List ℕ} {f : Field} → IsField field f → (n : Number) {bytes : List ℕ}
    → (h : number_marked m field n ≡ done bytes)
    → (p : ℕ)
    → p < length field
    → get_or bytes p 0 ≡ rule_byte m (scanned_image field) (in_field m field n h).to (take p field) (get_or field p 0)
byte_by_rule m {field} is n h p inside =
    ap (λ (l : List ℕ). get_or l p 0) (bytes_by_rule m is n h) ∙ rule_at m (scanned_image field) (in_field m field n h).to field p inside
