-- Laws of bytes and whole numbers written into a buffer. Assumes nothing.
use Prim.Native.Nat.{ℕ, zero, suc, ◌+◌, ◌-◌, ◌*◌, ◌/◌, ◌%◌, ◌^◌, ◌<◌, ◌≤◌}
use native.Mathlib.Nat.{mul-le-mul_right, mod-eq_of_lt}
use native.Mathlib.Nat.{div-one, div-lt_iff_lt-mul, le-div_iff_mul-le}
use native.Mathlib.Omega.{arith}
use native.Mathlib.Numerals.{add-one}
use borrow.Author.Tests.{ne_eqb}
use mathlib.Core.Path.{◌≡◌, refl, ap, ap₂, sym, ◌∙◌}
use mathlib.Core.Logic.{◌⊎◌, inl, inr, ⊎_elim}
use mathlib.Core.List.{List, [], ◌∷◌, ◌++◌, append-nil, append_assoc}
use mathlib.Core.Bool.{Bool, true, false}
use lib.Dec.{eqb}
use lib.ListN.{length, take, drop, get_or, set, length-append, length-drop, drop_of_length-le}
use lib.Seq.{take-suc-set, drop-length, append_snoc, drop-drop, take_all}
use Rattle.std.proofs.lemmas.Fmt.{decimal_digit, decimal_step}
use Rattle.std.specs.Fmt.{decimal}
use Rattle.decimal.specs.Answer.{done, pick}
use Rattle.decimal.specs.Digits.{digits_of, value_of, zeros, Digits}
use Rattle.decimal.proofs.PowerLaws.{pow10_pos, pow10_suc, pow10_mono}
use Rattle.decimal.proofs.DigitLaws.{le_or_lt, digits_length, digits_last, digits_padded, digits_are_digits}
use Rattle.decimal.proofs.DigitLaws.{value_of_digits, value_below, digits_of_value}
use Rattle.codec.specs.Answers.{stored_in, written}
use Rattle.codec.specs.Alpha.{zero_byte, digit_bytes}
use Rattle.codec.proofs.AlphaLaws.{digit_bytes_length}
use Rattle.records.specs.Files.Writing.{whole_digits, without_zeros, decimal_text}

-- Bytes written one by one.

-- a byte stored behind those that stand
pub stored_behind : (now : List ℕ) (j b : ℕ) (rest : List ℕ) → j < length now → take j now ++ b ∷ rest ≡ take (j + 1) (set now j b) ++ rest
stored_behind now j b rest h =
    sym (append_snoc (take j now) b rest)
    ∙ ap (λ (l : List ℕ). l ++ rest) (sym (take-suc-set now j b h))
    ∙ ap (λ (k : ℕ). take k (set now j b) ++ rest) (sym (add-one j))

-- Bytes written into a part of a buffer that is lent.

-- what follows a place, as the code lends it
abbrev pub part_behind : List ℕ → ℕ → List ℕ
part_behind b place = take (length b - place) (drop place b)

-- the whole buffer, with other bytes in that part
abbrev pub put_behind : List ℕ → ℕ → List ℕ → List ℕ
put_behind b place bytes = take place b ++ (bytes ++ drop (length b - place) (drop place b))

-- the part goes to the buffer's end
pub behind_all : (b : List ℕ) (place : ℕ) → part_behind b place ≡ drop place b
behind_all b place = take_all (length b - place) (drop place b) (omega (arith, length-drop place b))

-- so no byte stands behind it
behind_none : (b : List ℕ) (place : ℕ) → drop (length b - place) (drop place b) ≡ []
behind_none b place = drop_of_length-le (drop place b) {i = length b - place} (omega (arith, length-drop place b))

-- it comes back with bytes at its start: they are written from the place on
pub part_written :
    (b : List ℕ) (place : ℕ) (bytes : List ℕ) {last : List ℕ}
    → last ≡ stored_in (done bytes) (part_behind b place)
    → put_behind b place last ≡ written b place bytes
unfolding stored_in written
part_written b place bytes {last} h =
    let stored : last ≡ bytes ++ drop (place + length bytes) b =
    h
    ∙ ap (λ (l : List ℕ). bytes ++ drop (length bytes) l) (behind_all b place)
    ∙ ap (λ (l : List ℕ). bytes ++ l) (drop-drop (length bytes) place b) in
    ap₂ (λ (x y : List ℕ). take place b ++ (x ++ y)) stored (behind_none b place)
    ∙ ap (λ (l : List ℕ). take place b ++ l) (append-nil (bytes ++ drop (place + length bytes) b))
    ∙ sym (append_assoc (take place b) bytes (drop (place + length bytes) b))

-- Three parts that calls write, one behind the other from a buffer's start on, where the buffer is split behind each.
pub parts_stored :
    (b first middle last : List ℕ) {f m l : ℕ} {rest foot x y z : List ℕ}
    → f ≡ length first
    → m ≡ length middle
    → l ≡ length last
    → rest ≡ drop f b
    → foot ≡ drop m rest
    → x ≡ first
    → y ≡ middle
    → z ≡ last
    → x ++ (y ++ (z ++ drop l foot)) ≡ stored_in (done (first ++ (middle ++ last))) b
unfolding stored_in
parts_stored b first middle last {f} {m} {l} {rest} {foot} one two three p q hx hy hz =
    let size : f + m + l ≡ length (first ++ (middle ++ last)) =
    omega (arith, length-append first (middle ++ last), length-append middle last) in
    let behind : drop l foot ≡ drop (length (first ++ (middle ++ last))) b =
    ap (drop l) (q ∙ ap (drop m) p ∙ drop-drop m f b) ∙ drop-drop l (f + m) b ∙ ap (λ (k : ℕ). drop k b) size in
    rw (hx, hy, hz, behind) (sym (append_assoc first (middle ++ last) _ ∙ ap (λ (t : List ℕ). first ++ t) (append_assoc middle last _)))

-- Digits without the zeros that they begin with.

-- zeros before other digits are left out
zeros_left_out : (z d : ℕ) (ds : List ℕ) → without_zeros (zeros z ++ (d ∷ ds)) ≡ without_zeros (d ∷ ds)
unfolding zeros without_zeros
zeros_left_out zero d ds = refl
zeros_left_out (suc zero) d ds = refl
zeros_left_out (suc (suc z)) d ds = zeros_left_out (suc z) d ds

-- digits that begin with no zero are all kept
all_kept : (d : ℕ) (ds : List ℕ) → 0 < d → without_zeros (d ∷ ds) ≡ d ∷ ds
unfolding without_zeros
all_kept d [] h = refl
all_kept d (e ∷ ds) h = ap (λ (b : Bool). pick b (without_zeros (e ∷ ds)) (d ∷ (e ∷ ds))) (ne_eqb d 0 (omega arith))

-- no digits are added
kept_few : (ds : List ℕ) → length (without_zeros ds) ≤ length ds
unfolding without_zeros
kept_few [] = omega arith
kept_few (d ∷ []) = omega arith
kept_few (d ∷ (e ∷ ds)) = go (eqb d 0) (kept_few (e ∷ ds))
  where
    go :
        (b : Bool)
        → length (without_zeros (e ∷ ds)) ≤ length (e ∷ ds)
        → length (pick b (without_zeros (e ∷ ds)) (d ∷ (e ∷ ds))) ≤ length (d ∷ (e ∷ ds))
    go true h = omega arith
    go false h = omega arith

-- one digit is kept
kept_some : (ds : List ℕ) → 1 ≤ length ds → 1 ≤ length (without_zeros ds)
unfolding without_zeros
kept_some [] h = h
kept_some (d ∷ []) h = h
kept_some (d ∷ (e ∷ ds)) h = go (eqb d 0) (kept_some (e ∷ ds) (omega arith))
  where
    go : (b : Bool) → 1 ≤ length (without_zeros (e ∷ ds)) → 1 ≤ length (pick b (without_zeros (e ∷ ds)) (d ∷ (e ∷ ds)))
    go true l = l
    go false l = omega arith

-- The decimal text of a whole number.

-- it has a byte
pub decimal_some : (n : ℕ) → 1 ≤ length (decimal_text n)
unfolding decimal_text
decimal_some n =
    let ds = digits_of whole_digits n in
    omega (arith, digit_bytes_length (without_zeros ds), kept_some ds (omega (arith, digits_length whole_digits n)))

-- it has at most 20
pub decimal_few : (n : ℕ) → length (decimal_text n) ≤ whole_digits
unfolding decimal_text
decimal_few n =
    let ds = digits_of whole_digits n in
    omega (arith, digit_bytes_length (without_zeros ds), kept_few ds, digits_length whole_digits n)

-- and so many bytes are counted at most
pub counted_few : (n : ℕ) {size : ℕ} → size ≡ length (decimal_text n) → size ≤ whole_digits
counted_few n e = omega (arith, e, decimal_few n)

-- a number of at most k + 1 digits is written with no others
decimal_cut : (n k : ℕ) → k < whole_digits → n < 10 ^ suc k → decimal_text n ≡ digit_bytes (without_zeros (digits_of (suc k) n))
unfolding decimal_text digits_of
decimal_cut n k few below =
    let z : ℕ = whole_digits - suc k in
    let places : whole_digits ≡ z + suc k = omega arith in
    ap (λ (w : ℕ). digit_bytes (without_zeros (digits_of w n))) places
    ∙ ap (λ (ds : List ℕ). digit_bytes (without_zeros ds)) (digits_padded z (suc k) n below)
    ∙ ap digit_bytes (zeros_left_out z (n / 10 ^ k % 10) (digits_of k n))

-- and with at most so many bytes
pub decimal_small : (n k : ℕ) → n < 10 ^ suc k → length (decimal_text n) ≤ suc k
decimal_small n k below =
    ⊎_elim
    (λ many. omega (arith, decimal_few n))
    (λ few.
    let ds = digits_of (suc k) n in
    omega (arith, ap length (decimal_cut n k few below), digit_bytes_length (without_zeros ds), kept_few ds, digits_length (suc k) n))
    (le_or_lt whole_digits k)

-- the first of k + 1 digits of a number that fills them
first_digit : (n k : ℕ) → 10 ^ k ≤ n → n < 10 ^ suc k → 0 < n / 10 ^ k % 10
first_digit n k low below =
    let some : 1 ≤ n / 10 ^ k = (le-div_iff_mul-le (pow10_pos k)).1 (omega arith) in
    let few : n / 10 ^ k < 10 = (div-lt_iff_lt-mul (pow10_pos k)).1 (omega (arith, pow10_suc k)) in
    omega arith

-- a number fills k + 1 digits where the first is not 0, and always fills one digit
unfoldable pub Fills : ℕ → ℕ → Type 0
Fills n k = (k ≡ 0) ⊎ (10 ^ k ≤ n)

-- a number that fills k + 1 digits and has no more is written with them
pub decimal_filled : (n k : ℕ) → k < whole_digits → n < 10 ^ suc k → Fills n k → decimal_text n ≡ digit_bytes (digits_of (suc k) n)
unfolding Fills without_zeros digits_of
decimal_filled n zero few below fills = decimal_cut n zero few below
decimal_filled n (suc k) few below fills =
    ⊎_elim
    (λ e. absurd (omega arith))
    (λ low.
    decimal_cut n (suc k) few below
    ∙ ap digit_bytes (all_kept (n / 10 ^ suc k % 10) (digits_of (suc k) n) (first_digit n (suc k) low below)))
    fills

-- each number fills some digits and has no more
filled_places : (w n : ℕ) → n < 10 ^ suc w → (k : ℕ) × (k ≤ w) × (n < 10 ^ suc k) × Fills n k
unfolding Fills
filled_places zero n below = (zero, omega arith, below, inl refl)
filled_places (suc w) n below =
    ⊎_elim
    (λ low. (suc w, omega arith, below, inr low))
    (λ high. let less = filled_places w n high in (less.0, omega (arith, less.1), less.2, less.3))
    (le_or_lt (10 ^ suc w) n)

-- the digits of a decimal text: it has their bytes, their value is the number, and the first is not 0 unless the number is below ten,
-- which is then the only digit
pub record DecimalDigits (n : ℕ) (text : List ℕ) : Type 0 where
  pub digits : List ℕ
  pub shown : text ≡ digit_bytes digits
  pub below_ten : Digits digits
  pub value : value_of digits ≡ n
  pub first : 10 ≤ n → 0 < get_or digits 0 0
  pub only : n < 10 → digits ≡ n ∷ []

-- the decimal text of a number of at most 20 digits has them
pub decimal_value : (n : ℕ) → n < 10 ^ whole_digits → DecimalDigits n (decimal_text n)
unfolding Fills digits_of
decimal_value n below = go (filled_places (whole_digits - 1) n below)
  where
    go : (k : ℕ) × (k ≤ whole_digits - 1) × (n < 10 ^ suc k) × Fills n k → DecimalDigits n (decimal_text n)
    go (k, few, under, fills) =
        record {
          digits = digits_of (suc k) n;
          shown = decimal_filled n k (omega arith) under fills;
          below_ten = digits_are_digits (suc k) n;
          value = value_of_digits (suc k) n under;
          first = λ h. ⊎_elim (λ e. absurd (omega (arith, ap (λ (m : ℕ). 10 ^ suc m) e))) (λ low. first_digit n k low under) fills;
          only = λ h. one_place k fills h;
        }
      where
        one_place : (k : ℕ) → Fills n k → n < 10 → digits_of (suc k) n ≡ n ∷ []
        one_place zero fills h = ap (λ (m : ℕ). m % 10 ∷ []) (div-one n) ∙ ap (λ (m : ℕ). m ∷ []) (mod-eq_of_lt h)
        one_place (suc k) fills h = ⊎_elim (λ e. absurd (omega arith)) (λ low. absurd (omega (arith, pow10_suc k, pow10_pos k))) fills

-- a number of at most 20 digits fills no more
few_places : (n k : ℕ) → n < 10 ^ whole_digits → 10 ^ k ≤ n → k < whole_digits
few_places n k below low = ⊎_elim (λ many. absurd (omega (arith, pow10_mono many))) (λ few. few) (le_or_lt whole_digits k)

-- and no other text has such digits
pub decimal_unique : (n : ℕ) (text : List ℕ) → n < 10 ^ whole_digits → DecimalDigits n text → text ≡ decimal_text n
unfolding Fills value_of Digits
decimal_unique n text below d = ⊎_elim (λ h. d.shown ∙ many d.digits d.below_ten d.value (d.first h)) few (le_or_lt 10 n)
  where
    few : n < 10 → text ≡ decimal_text n
    few h = let own = decimal_value n below in d.shown ∙ ap digit_bytes (d.only h ∙ sym (own.only h)) ∙ sym own.shown

    many : (ds : List ℕ) → Digits ds → value_of ds ≡ n → 0 < get_or ds 0 0 → digit_bytes ds ≡ decimal_text n
    many [] digits value first = absurd (omega arith)
    many (x ∷ ds) digits value first =
        let k = length ds in
        let low : 1 * 10 ^ k ≤ x * 10 ^ k = mul-le-mul_right (10 ^ k) first in
        let under : value_of (x ∷ ds) < 10 ^ suc k = value_below (x ∷ ds) digits in
        sym
        (decimal_filled n k (few_places n k below (omega arith)) (omega arith) (inr (omega arith))
        ∙ ap digit_bytes (ap (λ (m : ℕ). digits_of (suc k) m) (sym value) ∙ digits_of_value (x ∷ ds) digits))

-- some of them, and the largest number that the code holds
pub record KnownDecimals : Type 0 where
  pub none : decimal_text 0 ≡ 0x30 ∷ []
  pub ten : decimal_text 10 ≡ 0x31 ∷ (0x30 ∷ [])
  pub columns : decimal_text 16 ≡ 0x31 ∷ (0x36 ∷ [])
  pub records : decimal_text 65533 ≡ 0x36 ∷ (0x35 ∷ (0x35 ∷ (0x33 ∷ (0x33 ∷ []))))
  pub most : length (decimal_text (2 ^ 64 - 1)) ≡ whole_digits

pub known_decimals : KnownDecimals
unfolding decimal_text without_zeros digits_of digit_bytes
known_decimals = record { none = refl; ten = refl; columns = refl; records = refl; most = refl }

-- The count of digits: one more than those of the power of ten that the number reaches.

pub digits_counted :
    (value others : ℕ) → value < 10 ^ whole_digits → 10 ^ others ≤ value → value < 10 * 10 ^ others → others + 1 ≡ length (decimal_text value)
unfolding Fills
digits_counted value others below low high =
    let under : value < 10 ^ suc others = omega (arith, pow10_suc others) in
    add-one others
    ∙ sym
    (ap length (decimal_filled value others (few_places value others below low) under (inr low))
    ∙ digit_bytes_length (digits_of (suc others) value)
    ∙ digits_length (suc others) value)

-- the number that reaches none has one digit
pub none_counted : (value : ℕ) → value ≡ 0 → 1 ≡ length (decimal_text value)
none_counted value e = sym (ap (λ (n : ℕ). length (decimal_text n)) e ∙ ap length known_decimals.none)

-- The text that the library writes.

-- digits put behind digits have their bytes behind theirs
digit_bytes_append : (xs ys : List ℕ) → digit_bytes (xs ++ ys) ≡ digit_bytes xs ++ digit_bytes ys
unfolding digit_bytes
digit_bytes_append [] ys = refl
digit_bytes_append (x ∷ xs) ys = ap (λ (l : List ℕ). (zero_byte + x) ∷ l) (digit_bytes_append xs ys)

-- of a number that fills k + 1 digits and has no more it writes them
library_filled : (k n : ℕ) → n < 2 ^ 64 → n < 10 ^ suc k → Fills n k → decimal n ≡ digit_bytes (digits_of (suc k) n)
unfolding Fills digits_of digit_bytes
library_filled zero n small below fills =
    decimal_digit n (omega arith)
    ∙ ap (λ (m : ℕ). (zero_byte + m) ∷ []) (sym (ap (λ (m : ℕ). m % 10) (div-one n) ∙ mod-eq_of_lt (omega arith)))
library_filled (suc k) n small below fills =
    let low : 10 ^ suc k ≤ n = ⊎_elim (λ e. absurd (omega arith)) (λ h. h) fills in
    decimal_step n (omega (arith, low, pow10_suc k, pow10_pos k)) small
    ∙ ap (λ (l : List ℕ). l ++ ((zero_byte + n % 10) ∷ []))
    (library_filled k (n / 10) (omega (arith, small)) (omega (arith, below, pow10_suc (suc k))) (inr (omega (arith, low, pow10_suc k))))
    ∙ sym (ap digit_bytes (digits_last (suc k) n) ∙ digit_bytes_append (digits_of (suc k) (n / 10)) (n % 10 ∷ []))

-- and so it writes each number's decimal text
pub decimal_library : (n : ℕ) → n < 2 ^ 64 → decimal n ≡ decimal_text n
decimal_library n small =
    let p = filled_places (whole_digits - 1) n (omega (arith, small)) in
    library_filled p.0 n small p.2 p.3 ∙ sym (decimal_filled n p.0 (omega (arith, p.1)) p.2 p.3)

-- written to the end of bytes of its length, it is all of them
pub decimal_whole :
    (n : ℕ) (old new : List ℕ) (start : ℕ) → n < 2 ^ 64 → length old ≡ length (decimal_text n)
    → start + length (decimal n) ≡ length old → drop start new ≡ decimal n ++ drop (length old) old → new ≡ decimal_text n
decimal_whole n old new start small e first put =
    let none : start ≡ 0 = omega (arith, e, first, ap length (decimal_library n small)) in
    ap (λ (k : ℕ). drop k new) (sym none)
    ∙ put
    ∙ ap (λ (l : List ℕ). decimal n ++ l) (drop-length old)
    ∙ append-nil (decimal n)
    ∙ decimal_library n small
