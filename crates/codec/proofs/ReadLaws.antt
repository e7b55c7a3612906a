-- Laws of a column's bytes read as one run of half bytes, and of the parts of that run. Assumes nothing.
use Prim.Native.Nat.{ℕ, suc, ◌+◌, ◌-◌, ◌*◌, ◌/◌, ◌%◌, ◌^◌, ◌<◌, ◌≤◌}
use mathlib.Core.Path.{◌≡◌, refl, ap, sym, ◌∙◌}
use mathlib.Core.List.{List, [], ◌∷◌, ◌++◌, append_assoc}
use native.Mathlib.Omega.{arith}
use lib.Bits.{bit_and, bit_or, or_shifted, and_mask}
use lib.Pow.{shl_exact, pow-add}
use lib.ListN.{length, take, get_or}
use Rattle.std.proofs.lemmas.List.{take_more, take_all}
use Rattle.decimal.specs.declared.image.Sign.{Sign}
use Rattle.decimal.specs.declared.image.Sign.TheVariants.{Unsigned, Plus, Minus}
use Rattle.decimal.specs.declared.image.Image.{Image}
use Rattle.decimal.specs.Digits.{packed_of, Halves}
use Rattle.decimal.specs.Image.{hashes}
use Rattle.decimal.proofs.PackedLaws.{packed_append, packed_first, packed_last}
use Rattle.codec.specs.Columns.{sign_count, exponent_count, half_count, pad_count, column_size, Checked}
use Rattle.codec.specs.Reading.{PartsOf}
use Rattle.codec.specs.Halves.{halves_of}
use Rattle.codec.specs.Order.{Bytes}
use Rattle.codec.specs.Unpacking.{sign_part, digit_part, exponent_part, pad_part}
use Rattle.codec.proofs.ContentsLaws.{column_halves_lem, column_few}
use Rattle.codec.proofs.HalfLaws.{bytes_halves, halves_length}
use Rattle.codec.proofs.ColumnTheorem.{halves_whole, digit_part_length, exponent_part_length, pad_part_length}

-- the halves of bytes in two parts
pub bytes_append : (bs cs : List ℕ) → halves_of (bs ++ cs) ≡ halves_of bs ++ halves_of cs
unfolding halves_of
bytes_append [] cs = refl
bytes_append (b ∷ bs) cs = ap (λ (l : List ℕ). b / 16 ∷ (b % 16 ∷ l)) (bytes_append bs cs)

-- bytes are read up to a place
pub record Read (bytes : List ℕ) (run i : ℕ) : Type 0 where
  pub small : run < 2 ^ (8 * i)
  pub same : run ≡ packed_of (halves_of (take i bytes))

-- before the first
pub read_starts : (bytes : List ℕ) → Read bytes 0 0
unfolding halves_of packed_of
read_starts bytes = record { small = omega arith; same = refl }

-- one more
pub read_more :
    (w : ℕ) {bytes : List ℕ} {run i b : ℕ}
    → Read bytes run i
    → i < length bytes
    → 8 * i + 8 ≤ w
    → b < 2 ^ 8
    → b ≡ get_or bytes i 0
    → Read bytes (bit_or (run * 2 ^ 8 % 2 ^ w) b) (i + 1)
unfolding halves_of packed_of
read_more w {bytes} {run} {i} {b} r more few byte same =
    let made : bit_or (run * 2 ^ 8 % 2 ^ w) b ≡ run * 2 ^ 8 + b =
    ap (λ (k : ℕ). bit_or k b) (shl_exact (8 * i) 8 w r.small (omega arith)) ∙ or_shifted run 8 b byte in
    let next : 2 ^ (8 * (i + 1)) ≡ 2 ^ (8 * i) * 2 ^ 8 = ap (λ (k : ℕ). 2 ^ k) (omega arith) ∙ pow-add 2 (8 * i) 8 in
    let taken : packed_of (halves_of (take (i + 1) bytes)) ≡ packed_of (halves_of (take i bytes)) * 2 ^ 8 + (b / 16 * 2 ^ 4 + b % 16) =
    ap (λ (l : List ℕ). packed_of (halves_of l)) (take_more bytes i 0 more)
    ∙ ap packed_of (bytes_append (take i bytes) (get_or bytes i 0 ∷ []))
    ∙ packed_append (halves_of (take i bytes)) (get_or bytes i 0 / 16 ∷ (get_or bytes i 0 % 16 ∷ []))
    ∙ ap (λ (c : ℕ). packed_of (halves_of (take i bytes)) * 2 ^ 8 + (c / 16 * 2 ^ 4 + (c % 16 * 1 + 0))) (sym same)
    ∙ omega arith in
    record { small = omega arith; same = made ∙ omega (arith, taken, r.same) }

-- all of them
pub read_ends : {bytes : List ℕ} {run i : ℕ} → Read bytes run i → length bytes ≤ i → run ≡ packed_of (halves_of bytes)
read_ends {bytes} {run} {i} r h = r.same ∙ ap (λ (l : List ℕ). packed_of (halves_of l)) (take_all i bytes h)

-- Parts of a run.

-- a mask of the last half bytes
pub masked : (run n : ℕ) → n ≤ 31 → bit_and run (1 * 2 ^ (4 * n) % 2 ^ 128 - 1) ≡ run % 2 ^ (4 * n)
masked run n few =
    let one : 1 * 2 ^ (4 * n) % 2 ^ 128 ≡ 1 * 2 ^ (4 * n) = shl_exact 1 (4 * n) 128 (omega arith) (omega arith) in
    let mask : 1 * 2 ^ (4 * n) % 2 ^ 128 - 1 ≡ 2 ^ (4 * n) - 1 = omega (arith, one) in
    ap (bit_and run) mask ∙ and_mask run (4 * n)

-- the same in a u64
pub masked_few : (run n : ℕ) → n ≤ 15 → bit_and run (1 * 2 ^ (4 * n) % 2 ^ 64 - 1) ≡ run % 2 ^ (4 * n)
masked_few run n few =
    let one : 1 * 2 ^ (4 * n) % 2 ^ 64 ≡ 1 * 2 ^ (4 * n) = shl_exact 1 (4 * n) 64 (omega arith) (omega arith) in
    let mask : 1 * 2 ^ (4 * n) % 2 ^ 64 - 1 ≡ 2 ^ (4 * n) - 1 = omega (arith, one) in
    ap (bit_and run) mask ∙ and_mask run (4 * n)

-- a run's first half bytes and its last ones
pub run_split :
    (xs ys : List ℕ) {run n : ℕ}
    → Halves ys
    → length ys ≡ n
    → run ≡ packed_of (xs ++ ys)
    → (run / 2 ^ (4 * n) ≡ packed_of xs) × (run % 2 ^ (4 * n) ≡ packed_of ys)
run_split xs ys h long same = rw (same, ← long) (packed_first xs ys h, packed_last xs ys h)

-- halves in two parts
pub halves_parts : (xs ys : List ℕ) → Halves (xs ++ ys) → Halves xs × Halves ys
unfolding Halves
halves_parts [] ys h = (tt, h)
halves_parts (x ∷ xs) ys h = let rest = halves_parts xs ys h.1 in ((h.0, rest.0), rest.1)

-- the sign half
pub sign_read : (s : Sign) (hs : List ℕ) → sign_count s ≤ length hs → packed_of (take (sign_count s) hs) ≡ sign_part s hs
unfolding sign_part packed_of
sign_read Unsigned hs h = refl
sign_read Plus [] h = absurd (omega arith)
sign_read Plus (a ∷ hs) h = omega arith
sign_read Minus [] h = absurd (omega arith)
sign_read Minus (a ∷ hs) h = omega arith

-- a column is at most sixteen bytes
pub bytes_few : (im : Image) (bytes : List ℕ) → Checked im → length bytes ≡ column_size im → length bytes ≤ 16
bytes_few im bytes checked sized = omega (arith, column_few checked)

module _ (im : Image) (bytes : List ℕ) (known : Bytes bytes) (checked : Checked im) (sized : length bytes ≡ column_size im) where
  abbrev hs : List ℕ
  hs = halves_of bytes

  -- the halves of bytes of a column's size
  pub filled : length hs ≡ half_count im + pad_count im
  filled = halves_length bytes ∙ omega (arith, column_halves_lem im)

  -- the run's parts are the column's
  pub run_parts :
      {run count unpadded pad exponents front exponent places sign digits : ℕ}
      → run ≡ packed_of hs
      → count ≡ half_count im
      → exponents ≡ exponent_count im.exponential
      → places ≡ hashes im
      → unpadded ≡ run / 2 ^ (4 * (count % 2))
      → pad ≡ run % 2 ^ (4 * (count % 2))
      → front ≡ unpadded / 2 ^ (4 * exponents)
      → exponent ≡ unpadded % 2 ^ (4 * exponents)
      → sign ≡ front / 2 ^ (4 * places)
      → digits ≡ front % 2 ^ (4 * places)
      → PartsOf im hs (record { sign = sign; digits = digits; exponent = exponent; pad = pad })
  run_parts read padded powers fields e1 e2 e3 e4 e5 e6 =
      let ss = take (sign_count im.sign) hs in
      let ds = digit_part im hs in
      let es = exponent_part im hs in
      let ps = pad_part im hs in
      let whole : ss ++ (ds ++ (es ++ ps)) ≡ hs = halves_whole im hs filled in
      let all : Halves (ss ++ (ds ++ (es ++ ps))) = rw whole (bytes_halves known) in
      let one = halves_parts ss (ds ++ (es ++ ps)) all in
      let two = halves_parts ds (es ++ ps) one.1 in
      let three = halves_parts es ps two.1 in
      let grouped =
      read ∙ ap packed_of (sym whole ∙ sym (append_assoc ss ds (es ++ ps)) ∙ sym (append_assoc (ss ++ ds) es ps)) in
      let a = run_split ((ss ++ ds) ++ es) ps three.1 (pad_part_length im hs filled ∙ ap (λ (n : ℕ). n % 2) (sym padded)) grouped in
      let b = run_split (ss ++ ds) es three.0 (exponent_part_length im hs filled ∙ sym powers) (e1 ∙ a.0) in
      let c = run_split ss ds two.0 (digit_part_length im hs filled ∙ sym fields) (e3 ∙ b.0) in
      record {
        sign = e5 ∙ c.0 ∙ sign_read im.sign hs (omega (arith, filled));
        digits = e6 ∙ c.1;
        exponent = e4 ∙ b.1;
        pad = e2 ∙ a.1;
      }

-- lent bytes are bytes
pub bytes_known : (bytes : List ℕ) → ((i : ℕ) → get_or bytes i 0 < 256) → Bytes bytes
bytes_known [] h = Bytes.none
bytes_known (b ∷ bs) h = Bytes.more (h 0) (bytes_known bs (λ i. h (suc i)))
