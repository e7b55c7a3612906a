-- Laws of half bytes: packing and halving are inverse, a column's halves are below 16 and have its length, and packed bytes come in the
-- order of their halves. Assumes nothing.
use Prim.Native.Nat.{ℕ, zero, suc, ◌+◌, ◌-◌, ◌*◌, ◌^◌, ◌<◌, ◌≤◌}
use mathlib.Core.Path.{◌≡◌, refl, ap, ap₂, sym, ◌∙◌}
use mathlib.Core.Bool.{Bool, true, false}
use mathlib.Core.Logic.{⊎_elim}
use mathlib.Core.List.{List, [], ◌∷◌, ◌++◌}
use native.Mathlib.Omega.{arith}
use native.Mathlib.Nat.{add-zero, mod-lt, suc_inj, div-add-mod', div-lt_iff_lt-mul}
use borrow.Author.Tests.{lt-ltb, le-ltb, eq-eqb, ne_eqb, eqb-true, eqb-false}
use lib.Dec.{ltb, eqb}
use lib.Arith.{digits_div, digits_mod}
use lib.ListN.{length, length-append}
use Rattle.decimal.specs.declared.image.Sign.{Sign}
use Rattle.decimal.specs.declared.image.Sign.TheVariants.{Unsigned, Plus, Minus}
use Rattle.decimal.specs.declared.image.Image.{Image}
use Rattle.decimal.specs.Answer.{pick}
use Rattle.decimal.specs.Digits.{digits_of, zeros, Halves, comes_before}
use Rattle.decimal.specs.Number.{exponent_limit}
use Rattle.decimal.specs.Image.{hashes}
use Rattle.decimal.specs.Truncation.{Truncated}
use Rattle.decimal.proofs.DigitLaws.{le_or_lt, digits_length, zeros_length}
use Rattle.decimal.proofs.PackedLaws.{zeros_halves, halves_append, digit_halves}
use Rattle.codec.specs.Columns.{sign_count, exponent_count, half_count, pad_count, column_size}
use Rattle.codec.specs.Halves.{pack_halves, halves_of}
use Rattle.codec.specs.Packing.{exponent_size, sign_half, sign_halves, exponent_halves, column_halves, column_bytes}
use Rattle.codec.specs.Order.{Bytes}
use Rattle.codec.proofs.ContentsLaws.{column_halves_lem}

-- Packing.

-- two halves fill a byte
pub pack_halves_length : (hs : List ℕ) (k : ℕ) → length hs ≡ k + k → length (pack_halves hs) ≡ k
unfolding pack_halves
pack_halves_length [] zero e = refl
pack_halves_length [] (suc k) e = absurd (omega arith)
pack_halves_length (h ∷ []) zero e = absurd (omega arith)
pack_halves_length (h ∷ []) (suc k) e = absurd (omega arith)
pack_halves_length (h ∷ (l ∷ hs)) zero e = absurd (omega arith)
pack_halves_length (h ∷ (l ∷ hs)) (suc k) e = ap suc (pack_halves_length hs k (omega arith))

-- lists of one length are packed to lists of one length
pub packed_same_length : (xs ys : List ℕ) → length xs ≡ length ys → length (pack_halves xs) ≡ length (pack_halves ys)
unfolding pack_halves
packed_same_length [] [] e = refl
packed_same_length [] (y ∷ ys) e = absurd (omega arith)
packed_same_length (x ∷ []) [] e = absurd (omega arith)
packed_same_length (x ∷ []) (y ∷ []) e = refl
packed_same_length (x ∷ []) (y ∷ (m ∷ ys)) e = absurd (omega arith)
packed_same_length (x ∷ (l ∷ xs)) [] e = absurd (omega arith)
packed_same_length (x ∷ (l ∷ xs)) (y ∷ []) e = absurd (omega arith)
packed_same_length (x ∷ (l ∷ xs)) (y ∷ (m ∷ ys)) e = ap suc (packed_same_length xs ys (suc_inj (suc_inj e)))

-- the halves of what halves are packed to are those halves
pub halves_of_packed : (hs : List ℕ) (k : ℕ) → length hs ≡ k + k → Halves hs → halves_of (pack_halves hs) ≡ hs
unfolding pack_halves halves_of Halves
halves_of_packed [] k e b = refl
halves_of_packed (h ∷ []) zero e b = absurd (omega arith)
halves_of_packed (h ∷ []) (suc k) e b = absurd (omega arith)
halves_of_packed (h ∷ (l ∷ hs)) zero e b = absurd (omega arith)
halves_of_packed (h ∷ (l ∷ hs)) (suc k) e b =
    rw (digits_div h b.1.0, digits_mod h b.1.0, halves_of_packed hs k (omega arith) b.1.1)

-- bytes are what their halves are packed to
pub packed_of_halves : (bs : List ℕ) → pack_halves (halves_of bs) ≡ bs
unfolding pack_halves halves_of
packed_of_halves [] = refl
packed_of_halves (b ∷ bs) = rw (div-add-mod' b 16, packed_of_halves bs)

-- a byte has two halves
pub halves_length : (bs : List ℕ) → length (halves_of bs) ≡ length bs + length bs
unfolding halves_of
halves_length [] = refl
halves_length (b ∷ bs) = omega (arith, halves_length bs)

-- the halves of bytes are halves
pub bytes_halves : {bs : List ℕ} → Bytes bs → Halves (halves_of bs)
unfolding halves_of Halves
bytes_halves Bytes.none = tt
bytes_halves (Bytes.more {b} p h) =
    ((div-lt_iff_lt-mul {k = 16} {x = b} {y = 16} (omega arith)).1 (omega arith), (mod-lt b {m = 16} (omega arith), bytes_halves h))

-- halves are packed to bytes
pub packed_bytes : (hs : List ℕ) → Halves hs → Bytes (pack_halves hs)
unfolding pack_halves Halves
packed_bytes [] g = Bytes.none
packed_bytes (h ∷ []) g = Bytes.more {b = h * 16} (omega (arith, g.0)) Bytes.none
packed_bytes (h ∷ (l ∷ hs)) g = Bytes.more {b = h * 16 + l} (omega (arith, g.0, g.1.0)) (packed_bytes hs g.1.1)

-- A column's halves.

-- a sign half is at most 1 and 8
sign_below : (negative below : Bool) → pick negative 1 0 + pick below 8 0 < 2 ^ 4
sign_below true true = omega arith
sign_below true false = omega arith
sign_below false true = omega arith
sign_below false false = omega arith

-- the sign half is a half
pub sign_half_below : (t : Truncated) → sign_half t < 2 ^ 4
unfolding sign_half
sign_half_below t = sign_below t.negative (ltb t.x exponent_limit)

-- the sign part is halves
pub sign_halves_below : (s : Sign) (t : Truncated) → Halves (sign_halves s t)
unfolding sign_halves Halves
sign_halves_below Unsigned t = tt
sign_halves_below Plus t = (sign_half_below t, tt)
sign_halves_below Minus t = (sign_half_below t, tt)

-- the exponent part is halves
pub exponent_halves_below : (b : Bool) (t : Truncated) → Halves (exponent_halves b t)
unfolding exponent_halves Halves
exponent_halves_below true t = digit_halves 2 (exponent_size t)
exponent_halves_below false t = tt

-- each of a column's halves is below 16
pub column_halves_below : (im : Image) (t : Truncated) → Halves (column_halves im t)
unfolding column_halves
column_halves_below im t =
    halves_append _ _ (sign_halves_below im.sign t)
    (halves_append _ _ (digit_halves (hashes im) t.whole)
    (halves_append _ _ (exponent_halves_below im.exponential t) (zeros_halves (pad_count im))))

-- the length of the sign part
pub sign_halves_length : (s : Sign) (t : Truncated) → length (sign_halves s t) ≡ sign_count s
unfolding sign_halves
sign_halves_length Unsigned t = refl
sign_halves_length Plus t = refl
sign_halves_length Minus t = refl

-- the length of the exponent part
pub exponent_halves_length : (b : Bool) (t : Truncated) → length (exponent_halves b t) ≡ exponent_count b
unfolding exponent_halves
exponent_halves_length true t = digits_length 2 (exponent_size t)
exponent_halves_length false t = refl

-- a column's halves are as many as its size says
pub column_halves_length : (im : Image) (t : Truncated) → length (column_halves im t) ≡ half_count im + pad_count im
unfolding column_halves
column_halves_length im t =
    let s = sign_halves im.sign t in
    let d = digits_of (hashes im) t.whole in
    let x = exponent_halves im.exponential t in
    let z = zeros (pad_count im) in
    omega (
      arith,
      length-append s (d ++ (x ++ z)),
      length-append d (x ++ z),
      length-append x z,
      sign_halves_length im.sign t,
      digits_length (hashes im) t.whole,
      exponent_halves_length im.exponential t,
      zeros_length (pad_count im),
    )

-- which is twice the count of its bytes
pub column_even : (im : Image) (t : Truncated) → length (column_halves im t) ≡ column_size im + column_size im
column_even im t = column_halves_length im t ∙ sym (column_halves_lem im)

-- a column has as many bytes as its size says
pub column_length_lem : (im : Image) (t : Truncated) → length (column_bytes im t) ≡ column_size im
unfolding column_bytes
column_length_lem im t = pack_halves_length (column_halves im t) (column_size im) (column_even im t)

-- |x| is within its limit
pub exponent_size_few : (x : ℕ) → x ≤ 2 * exponent_limit → pick (ltb x exponent_limit) (exponent_limit - x) (x - exponent_limit) ≤ exponent_limit
exponent_size_few x h = go (ltb x exponent_limit)
  where
    go : (b : Bool) → pick b (exponent_limit - x) (x - exponent_limit) ≤ exponent_limit
    go true = omega arith
    go false = omega arith

-- Order.

-- two tests are the same where they hold together
pub same_test : (a b c d : ℕ) → (a < b → c < d) → (b ≤ a → d ≤ c) → ltb a b ≡ ltb c d
same_test a b c d less above =
    ⊎_elim
    (λ h. le-ltb a b h ∙ sym (le-ltb c d (above h)))
    (λ h. lt-ltb a b h ∙ sym (lt-ltb c d (less h)))
    (le_or_lt b a)

-- a byte is compared by its high half, then by its low half
byte_order :
    (h l i m : ℕ) (b : Bool)
    → l < 16
    → m < 16
    → pick (eqb (h * 16 + l) (i * 16 + m)) b (ltb (h * 16 + l) (i * 16 + m)) ≡ pick (eqb h i) (pick (eqb l m) b (ltb l m)) (ltb h i)
byte_order h l i m b p q = high (eqb h i) refl
  where
    low : h ≡ i → (s : Bool) → eqb l m ≡ s → pick (eqb (h * 16 + l) (i * 16 + m)) b (ltb (h * 16 + l) (i * 16 + m)) ≡ pick s b (ltb l m)
    low e true f = rw (eq-eqb (h * 16 + l) (i * 16 + m) (omega (arith, eqb-true l m f)))
    low e false f =
        rw (ne_eqb (h * 16 + l) (i * 16 + m) (λ z. eqb-false l m f (omega arith)))
        (same_test (h * 16 + l) (i * 16 + m) l m (λ z. omega arith) (λ z. omega arith))

    high : (s : Bool)
        → eqb h i ≡ s
        → pick (eqb (h * 16 + l) (i * 16 + m)) b (ltb (h * 16 + l) (i * 16 + m)) ≡ pick s (pick (eqb l m) b (ltb l m)) (ltb h i)
    high true e = low (eqb-true h i e) (eqb l m) refl
    high false e =
        let ne = eqb-false h i e in
        rw (ne_eqb (h * 16 + l) (i * 16 + m) (λ z. ne (omega arith)))
        (same_test (h * 16 + l) (i * 16 + m) h i (λ z. omega arith) (λ z. omega arith))

-- packed bytes come in the order of their halves
pub packed_order :
    (xs ys : List ℕ) → Halves xs → Halves ys → length xs ≡ length ys → comes_before (pack_halves xs) (pack_halves ys) ≡ comes_before xs ys
unfolding comes_before pack_halves Halves
packed_order [] [] h g e = refl
packed_order [] (c ∷ ys) h g e = absurd (omega arith)
packed_order (a ∷ []) [] h g e = absurd (omega arith)
packed_order (a ∷ []) (c ∷ []) h g e =
    ap₂ (λ (x y : ℕ). pick (eqb x y) false (ltb x y)) (sym (add-zero (a * 16))) (sym (add-zero (c * 16)))
    ∙ byte_order a 0 c 0 false (omega arith) (omega arith)
packed_order (a ∷ []) (c ∷ (m ∷ ys)) h g e = absurd (omega arith)
packed_order (a ∷ (l ∷ xs)) [] h g e = absurd (omega arith)
packed_order (a ∷ (l ∷ xs)) (c ∷ []) h g e = absurd (omega arith)
packed_order (a ∷ (l ∷ xs)) (c ∷ (m ∷ ys)) h g e =
    byte_order a l c m (comes_before (pack_halves xs) (pack_halves ys)) h.1.0 g.1.0
    ∙ ap (λ (b : Bool). pick (eqb a c) (pick (eqb l m) b (ltb l m)) (ltb a c)) (packed_order xs ys h.1.1 g.1.1 (suc_inj (suc_inj e)))
