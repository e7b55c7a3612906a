-- Laws of runs of half bytes in a number: the bytes that a run makes, the run of a column's sign half and digits, and the column's bytes
-- as the bytes of that run and what stands behind it. Assumes nothing.
use Prim.Native.Nat.{ℕ, zero, suc, ◌+◌, ◌-◌, ◌*◌, ◌/◌, ◌%◌, ◌^◌, ◌<◌, ◌≤◌}
use mathlib.Core.Path.{◌≡◌, refl, ap, ap₂, sym, ◌∙◌}
use mathlib.Core.List.{List, [], ◌∷◌, ◌++◌, append-nil, append_assoc}
use mathlib.Core.Bool.{Bool, true, false}
use native.Mathlib.Omega.{arith}
use native.Mathlib.Nat.{div-one, suc-add, mod-eq_of_lt}
use lib.Bits.{bit_or, or_shifted}
use lib.Pow.{shl_exact, shr-shr, mod-pow-add}
use lib.ListN.{length, get_or, take, drop, length-append}
use Rattle.std.specs.Int.{w128, to_be_bytes}
use Rattle.std.proofs.lemmas.List.{take_all}
use Rattle.decimal.specs.declared.image.Image.{Image}
use Rattle.decimal.specs.Digits.{precision, digits_of, packed_of, halves_in, zeros, Halves}
use Rattle.decimal.specs.Number.{exponent_limit}
use Rattle.decimal.specs.Image.{hashes}
use Rattle.decimal.specs.Truncation.{Truncated}
use Rattle.decimal.proofs.DigitLaws.{digits_length, digits_padded, zeros_length}
use Rattle.decimal.proofs.PackedLaws.{packed_append, packed_below, packed_zeros, halves_of_packed, halves_append, digit_halves}
use Rattle.codec.specs.Columns.{sign_count, half_count, pad_count, column_size}
use Rattle.codec.specs.Halves.{pack_halves}
use Rattle.codec.specs.Alpha.{zero_at}
use Rattle.codec.specs.Packing.{exponent_size, sign_halves, exponent_halves, column_halves, column_bytes}
use Rattle.codec.proofs.ContentsLaws.{sign_few, exponent_few}
use Rattle.codec.proofs.HalfLaws.{sign_halves_below, sign_halves_length, exponent_halves_below, exponent_halves_length, column_even, column_halves_below}

-- The bytes that a run makes.

-- a byte is two half bytes
byte_halves : (run s : ℕ) → run / 2 ^ (4 * suc (2 * s)) % 2 ^ 4 * 16 + run / 2 ^ (4 * (2 * s)) % 2 ^ 4 ≡ run / 2 ^ (8 * s) % 2 ^ 8
byte_halves run s =
    let high : run / 2 ^ (4 * suc (2 * s)) ≡ run / 2 ^ (8 * s) / 2 ^ 4 = ap (λ (m : ℕ). run / 2 ^ m) (omega arith) ∙ sym (shr-shr run (8 * s) 4) in
    let low : run / 2 ^ (4 * (2 * s)) ≡ run / 2 ^ (8 * s) = ap (λ (m : ℕ). run / 2 ^ m) (omega arith) in
    ap₂ (λ (h l : ℕ). h % 2 ^ 4 * 16 + l % 2 ^ 4) high low ∙ sym (mod-pow-add (run / 2 ^ (8 * s)) 4 4)

-- the bytes of a run, the first one apart
pub bytes_more : (size run : ℕ) → pack_halves (halves_in (2 * suc size) run) ≡ run / 2 ^ (8 * size) % 2 ^ 8 ∷ pack_halves (halves_in (2 * size) run)
unfolding pack_halves halves_in
bytes_more size run =
    let even : 2 * suc size ≡ suc (suc (2 * size)) = omega arith in
    ap (λ (n : ℕ). pack_halves (halves_in n run)) even
    ∙ ap (λ (b : ℕ). b ∷ pack_halves (halves_in (2 * size) run)) (byte_halves run size)

-- 2 size half bytes make size bytes
pub run_length : (size run : ℕ) → length (pack_halves (halves_in (2 * size) run)) ≡ size
unfolding pack_halves halves_in
run_length zero run = refl
run_length (suc size) run = ap length (bytes_more size run) ∙ ap suc (run_length size run)

-- each of the bytes
pub run_at : (size run k : ℕ) → k < size → get_or (pack_halves (halves_in (2 * size) run)) k 0 ≡ run / 2 ^ (8 * (size - 1 - k)) % 2 ^ 8
run_at zero run k h = absurd (omega arith)
run_at (suc size) run zero h =
    let place : size ≡ suc size - 1 - zero = omega arith in
    ap (λ (l : List ℕ). get_or l zero 0) (bytes_more size run) ∙ ap (λ (m : ℕ). run / 2 ^ (8 * m) % 2 ^ 8) place
run_at (suc size) run (suc k) h =
    let place : size - 1 - k ≡ suc size - 1 - suc k = omega arith in
    ap (λ (l : List ℕ). get_or l (suc k) 0) (bytes_more size run)
    ∙ run_at size run k (omega arith)
    ∙ ap (λ (m : ℕ). run / 2 ^ (8 * m) % 2 ^ 8) place

-- The run of a column.

-- the digits of a number that has no more of them than an image
pub run_digits : {n whole run : ℕ} → n ≤ precision → whole < 10 ^ n → run ≡ packed_of (digits_of precision whole) → run ≡ packed_of (digits_of n whole)
run_digits {n} {whole} few small e =
    let parts : precision ≡ precision - n + n = omega arith in
    e
    ∙ ap (λ (k : ℕ). packed_of (digits_of k whole)) parts
    ∙ ap packed_of (digits_padded (precision - n) n whole small)
    ∙ packed_zeros (precision - n) (digits_of n whole)

-- half bytes put behind others
pub run_joined :
    (w : ℕ) (hs ts : List ℕ) {n run behind : ℕ}
    → length ts ≡ n
    → 4 * (length hs + n) ≤ w
    → Halves hs
    → Halves ts
    → run ≡ packed_of hs
    → behind ≡ packed_of ts
    → bit_or (run * 2 ^ (4 * n) % 2 ^ w) behind ≡ packed_of (hs ++ ts)
run_joined w hs ts {n} {run} {behind} long few first last front back =
    let above : run < 2 ^ (4 * length hs) = rw front (packed_below hs first) in
    let below : behind < 2 ^ (4 * n) = rw (back, ← long) (packed_below ts last) in
    let exact : run * 2 ^ (4 * n) % 2 ^ w ≡ run * 2 ^ (4 * n) = shl_exact (4 * length hs) (4 * n) w above (omega arith) in
    ap (λ (h : ℕ). bit_or h behind) exact
    ∙ or_shifted run (4 * n) behind below
    ∙ rw (front, back, ← long) (sym (packed_append hs ts))

-- zero half bytes put behind others
pub run_padded :
    (hs : List ℕ) (n : ℕ) {run : ℕ}
    → length hs + n ≤ 32
    → Halves hs
    → run ≡ packed_of hs
    → run * 2 ^ (4 * n) % 2 ^ 128 ≡ packed_of (hs ++ zeros n)
unfolding packed_of
run_padded hs n {run} few halves e =
    let above : run < 2 ^ (4 * length hs) = rw e (packed_below hs halves) in
    let none : packed_of (zeros n) ≡ 0 = ap packed_of (sym (append-nil (zeros n))) ∙ packed_zeros n [] in
    shl_exact (4 * length hs) (4 * n) 128 above (omega arith)
    ∙ rw e (omega (arith, none, packed_append hs (zeros n), ap (λ (k : ℕ). packed_of hs * 2 ^ (4 * k)) (zeros_length n)))

-- the two digits of |x|
pub exponent_made :
    (t : Truncated) {size : ℕ}
    → size ≡ exponent_size t
    → size ≤ exponent_limit
    → bit_or (size / 10 * 2 ^ 4 % 2 ^ 64) (size % 10) ≡ packed_of (exponent_halves true t)
unfolding exponent_halves digits_of packed_of Halves
exponent_made t {size} sized small =
    let tens : size / 10 ≡ size / 10 % 10 = sym (mod-eq_of_lt (omega arith)) in
    let ones : size % 10 ≡ size / 1 % 10 = ap (λ (k : ℕ). k % 10) (omega arith) in
    run_joined 64 (size / 10 ∷ []) (size % 10 ∷ []) {run = size / 10} {behind = size % 10} refl (omega arith) (omega arith, tt) (omega arith, tt) (omega arith) (omega arith)
    ∙ ap₂ (λ (a b : ℕ). packed_of (a ∷ (b ∷ []))) tens ones
    ∙ ap (λ (k : ℕ). packed_of (digits_of 2 k)) sized

module _ (im : Image) (t : Truncated) where
  -- a column's half bytes before the exponent: the sign half, if the image has a sign, and the digits
  abbrev pub column_front : List ℕ
  column_front = sign_halves im.sign t ++ digits_of (hashes im) t.whole

  -- their count
  pub front_length : length column_front ≡ sign_count im.sign + hashes im
  front_length =
      length-append (sign_halves im.sign t) (digits_of (hashes im) t.whole)
      ∙ ap₂ (λ (a b : ℕ). a + b) (sign_halves_length im.sign t) (digits_length (hashes im) t.whole)

  -- they are half bytes
  pub front_halves : Halves column_front
  front_halves =
      halves_append (sign_halves im.sign t) (digits_of (hashes im) t.whole) (sign_halves_below im.sign t) (digit_halves (hashes im) t.whole)

  -- the exponent, where there is one, put behind them
  pub exponent_joined :
      {run size : ℕ}
      → hashes im ≤ precision
      → im.exponential ≡ true
      → run ≡ packed_of column_front
      → size ≡ packed_of (exponent_halves true (zero_at t.x))
      → bit_or (run * 2 ^ 8 % 2 ^ 128) size ≡ packed_of (column_front ++ exponent_halves im.exponential t)
  unfolding exponent_halves exponent_size
  exponent_joined few kind front behind =
      run_joined 128 column_front (exponent_halves true t) (exponent_halves_length true t) (omega (arith, front_length, sign_few im.sign)) front_halves (exponent_halves_below true t) front behind
      ∙ ap (λ (b : Bool). packed_of (column_front ++ exponent_halves b t)) (sym kind)

  -- in fixed point there is none
  pub exponent_none :
      {run : ℕ} → im.exponential ≡ false → run ≡ packed_of column_front → run ≡ packed_of (column_front ++ exponent_halves im.exponential t)
  unfolding exponent_halves
  exponent_none kind front = front ∙ rw kind (ap packed_of (sym (append-nil column_front)))

  -- and the pad behind it
  pub column_padded :
      {run count : ℕ}
      → hashes im ≤ precision
      → run ≡ packed_of (column_front ++ exponent_halves im.exponential t)
      → count ≡ half_count im
      → run * 2 ^ (4 * (count % 2)) % 2 ^ 128 ≡ packed_of (column_halves im t)
  unfolding column_halves
  column_padded {run} few before counted =
      let tail = exponent_halves im.exponential t in
      let long : length (column_front ++ tail) ≡ half_count im =
      length-append column_front tail ∙ omega (arith, front_length, exponent_halves_length im.exponential t) in
      ap (λ (n : ℕ). run * 2 ^ (4 * (n % 2)) % 2 ^ 128) counted
      ∙ run_padded (column_front ++ tail) (pad_count im) (omega (arith, sign_few im.sign, exponent_few im.exponential))
      (halves_append column_front tail front_halves (exponent_halves_below im.exponential t)) before
      ∙ ap packed_of (append_assoc column_front tail (zeros (pad_count im)) ∙ append_assoc (sign_halves im.sign t) (digits_of (hashes im) t.whole) (tail ++ zeros (pad_count im)))

  -- a run of a whole column makes the column's bytes
  pub run_column :
      {size run : ℕ} → size ≡ column_size im → run ≡ packed_of (column_halves im t) → pack_halves (halves_in (2 * size) run) ≡ column_bytes im t
  unfolding column_bytes
  run_column {size} sized made =
      ap (λ (r : ℕ). pack_halves (halves_in (2 * size) r)) made
      ∙ ap pack_halves (halves_of_packed (2 * size) (column_halves im t) (omega (arith, column_even im t)) (column_halves_below im t))

  -- a column is at most as many bytes as a run of half bytes makes
  pub run_room : hashes im ≤ precision → column_size im ≤ 16
  unfolding column_size
  run_room few = omega (arith, sign_few im.sign, exponent_few im.exponential)

-- one byte more
pub more_bytes : (size n : ℕ) {rest : List ℕ} → rest ≡ pack_halves (halves_in (2 * size) n) → n / 2 ^ (8 * size) % 2 ^ 8 ∷ rest ≡ pack_halves (halves_in (2 * suc size) n)
more_bytes size n e = ap (λ (l : List ℕ). n / 2 ^ (8 * size) % 2 ^ 8 ∷ l) e ∙ sym (bytes_more size n)

-- the bytes of a run of 16, the highest first
pub wide_bytes : (n : ℕ) → to_be_bytes w128 n ≡ pack_halves (halves_in 32 n)
unfolding pack_halves halves_in
wide_bytes n =
    let last : n % 2 ^ 8 ≡ n / 2 ^ 0 % 2 ^ 8 = ap (λ (k : ℕ). k % 2 ^ 8) (sym (div-one n)) in
    let four = more_bytes 3 n (more_bytes 2 n (more_bytes 1 n (ap (λ (b : ℕ). b ∷ []) last ∙ more_bytes 0 n refl))) in
    let eight = more_bytes 7 n (more_bytes 6 n (more_bytes 5 n (more_bytes 4 n four))) in
    more_bytes 15 n (more_bytes 14 n (more_bytes 13 n (more_bytes 12 n (more_bytes 11 n (more_bytes 10 n (more_bytes 9 n (more_bytes 8 n eight)))))))

-- the last bytes of a run
pub last_bytes : (j m k : ℕ) → drop j (pack_halves (halves_in (2 * (j + m)) k)) ≡ pack_halves (halves_in (2 * m) k)
last_bytes zero m k = ap (λ (n : ℕ). pack_halves (halves_in (2 * n) k)) (omega arith)
last_bytes (suc j) m k =
    ap (λ (n : ℕ). drop (suc j) (pack_halves (halves_in (2 * n) k))) (suc-add j m) ∙ ap (drop (suc j)) (bytes_more (j + m) k) ∙ last_bytes j m k

-- so they are of a run of fewer bytes
pub run_bytes : (m n : ℕ) → m ≤ 16 → take (16 - (16 - m)) (drop (16 - m) (to_be_bytes w128 n)) ≡ pack_halves (halves_in (2 * m) n)
run_bytes m n few =
    let skipped : ℕ = 16 - m in
    let all : 2 * (skipped + m) ≡ 32 = omega arith in
    ap (take (16 - skipped)) (ap (drop skipped) (wide_bytes n ∙ ap (λ (k : ℕ). pack_halves (halves_in k n)) (sym all)) ∙ last_bytes skipped m n)
    ∙ take_all (16 - skipped) (pack_halves (halves_in (2 * m) n)) (omega (arith, run_length m n))
