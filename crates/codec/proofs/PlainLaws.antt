-- Laws of bytes none of whose half bytes is above 9, and of the columns that are known to be readable then. Assumes nothing.
use Prim.Native.Nat.{ℕ, suc, ◌+◌, ◌-◌, ◌*◌, ◌/◌, ◌%◌, ◌^◌, ◌<◌, ◌≤◌}
use mathlib.Core.Path.{◌≡◌, refl, ap, ap₂, sym, ◌∙◌}
use mathlib.Core.List.{List, [], ◌∷◌, ◌++◌}
use mathlib.Core.Bool.{Bool, true, false, ◌&&◌}
use mathlib.Core.Logic.{⊎_elim}
use native.Mathlib.Omega.{arith}
use native.Mathlib.Nat.{div-one, mod-one}
use lib.Pow.{split}
use Rattle.codec.specs.Order.{Bytes}
use lib.Bits.{bit_and, bit_or}
use lib.Dec.{eqb}
use lib.ListN.{length, take, drop, get_or, drop_of_length-le}
use lib.Seq.{drop-cons, length-take-le}
use borrow.Author.Tests.{eq-eqb, ne_eqb, le-leb, lt-leb}
use Rattle.std.proofs.lemmas.List.{take_more}
use Rattle.std.proofs.lemmas.Nat.{le_or_l, le_or_r}
use Rattle.decimal.specs.declared.image.Sign.{Sign}
use Rattle.decimal.specs.declared.image.Sign.TheVariants.{Unsigned, Plus, Minus}
use Rattle.decimal.specs.declared.image.Image.{Image}
use Rattle.decimal.specs.declared.number.Number.{Number}
use Rattle.decimal.specs.Answer.{Answer, done, refused, pick, checked_only, mapped}
use Rattle.decimal.proofs.AnswerLaws.{never_done, mapped_back, mapped_done}
use Rattle.decimal.specs.Digits.{packed_of, halves_in, Halves}
use Rattle.decimal.specs.Number.{exponent_limit}
use Rattle.decimal.specs.Image.{hashes}
use Rattle.decimal.proofs.BoolLaws.{zero_or_not, and_true}
use Rattle.codec.specs.declared.reading.ColumnHalves.{ColumnHalves}
use Rattle.codec.specs.Lists.{any_of}
use Rattle.codec.specs.Columns.{sign_count, exponent_count, half_count, pad_count, column_size, body_size, Checked}
use Rattle.codec.specs.Cuts.{outside, whole_in}
use Rattle.codec.specs.Halves.{halves_of}
use Rattle.codec.specs.Reading.{PartsOf}
use Rattle.codec.specs.Unpacking.{all_digits, all_zero, sign_part, digit_part, exponent_part, pad_part, breaks_rules, minus_bit, said_by, halves_number, read_on, unpack_column, unpack_body}
use Rattle.codec.proofs.HalfLaws.{halves_length}
use Rattle.codec.proofs.ContentsLaws.{sign_few}
use Rattle.codec.proofs.CutLaws.{zero_tested}
use Rattle.codec.proofs.ColumnTheorem.{halves_whole}
use Rattle.codec.proofs.CutReadLaws.{digits_all, digits_known, pad_zero, read_cut}
use Rattle.codec.proofs.NibbleLaws.{byte_tested}
use Rattle.codec.proofs.ReadLaws.{bytes_append, run_parts}
use Rattle.codec.proofs.CutNumberLaws.{column_any}
use Rattle.codec.proofs.UnpackLaws.{all_append, CheckingColumns, checking_inside, checking_turn, columns_end, under_columns}

-- Digits, byte by byte.

-- the code's marks of a byte
abbrev pub byte_marks : ℕ → ℕ
byte_marks b = bit_and (bit_and (b / 8) (bit_or (b / 4) (b / 2))) 0x11

-- they tell of its halves
byte_tells : (b : ℕ) → b < 256 → eqb (byte_marks b) 0 ≡ all_digits (halves_of (b ∷ []))
unfolding halves_of halves_in
byte_tells b few = byte_tested b ∙ ap all_digits (ap₂ (λ (h l : ℕ). h ∷ (l ∷ [])) (omega arith) (ap (λ (k : ℕ). k % 2 ^ 4) (div-one b)))

-- nothing is set in either
or_none : (a b : ℕ) → eqb (bit_or a b) 0 ≡ (eqb a 0 && eqb b 0)
or_none a b = ⊎_elim none (λ nz. ne_eqb (bit_or a b) 0 (λ e. nz (omega (arith, le_or_l a b))) ∙ rw (ne_eqb a 0 nz) refl) (zero_or_not a)
  where
    none : a ≡ 0 → eqb (bit_or a b) 0 ≡ (eqb a 0 && eqb b 0)
    none z = ⊎_elim both (λ nz. ne_eqb (bit_or a b) 0 (λ e. nz (omega (arith, le_or_r a b))) ∙ rw (eq-eqb a 0 z, ne_eqb b 0 nz) refl) (zero_or_not b)
      where
        both : b ≡ 0 → eqb (bit_or a b) 0 ≡ (eqb a 0 && eqb b 0)
        both w = rw (z, w) refl

-- one byte more
pub marked_more :
    (bytes : List ℕ) (above i : ℕ) → i < length bytes → get_or bytes i 0 < 256 → eqb above 0 ≡ all_digits (halves_of (take i bytes))
    → eqb (bit_or above (byte_marks (get_or bytes i 0))) 0 ≡ all_digits (halves_of (take (i + 1) bytes))
marked_more bytes above i more few same =
    let b = get_or bytes i 0 in
    or_none above (byte_marks b)
    ∙ ap₂ ◌&&◌ same (byte_tells b few)
    ∙ sym (all_append (halves_of (take i bytes)) (halves_of (b ∷ [])))
    ∙ ap all_digits (sym (bytes_append (take i bytes) (b ∷ [])))
    ∙ ap (λ (l : List ℕ). all_digits (halves_of l)) (sym (take_more bytes i 0 more))

-- digits in two parts are digits in each
pub digits_parts : (bs cs : List ℕ) → all_digits (halves_of (bs ++ cs)) ≡ true → (all_digits (halves_of bs) ≡ true) × (all_digits (halves_of cs) ≡ true)
digits_parts bs cs h =
    and_true (all_digits (halves_of bs)) (all_digits (halves_of cs))
    (sym (ap all_digits (bytes_append bs cs) ∙ all_append (halves_of bs) (halves_of cs)) ∙ h)

-- The padding of a column.

-- the last half of bytes is that of the last byte
last_half : (bytes : List ℕ) → 0 < length bytes → get_or (halves_of bytes) (length bytes + length bytes - 1) 0 ≡ get_or bytes (length bytes - 1) 0 % 16
unfolding halves_of
last_half [] some = absurd (omega arith)
last_half (b ∷ []) some = refl
last_half (b ∷ (c ∷ bs)) some =
    let n = length bs in
    ap (λ (i : ℕ). get_or (halves_of (b ∷ (c ∷ bs))) i 0) {x = suc (suc n) + suc (suc n) - 1} {y = suc (suc (suc n + suc n - 1))} (omega arith)
    ∙ last_half (c ∷ bs) (omega arith)
    ∙ ap (λ (i : ℕ). get_or (b ∷ (c ∷ bs)) i 0 % 16) {x = suc (suc n - 1)} {y = suc (suc n) - 1} (omega arith)

-- no padding, or one half that is 0
pub pad_none : (im : Image) (bytes : List ℕ) → length (halves_of bytes) ≡ half_count im + pad_count im → half_count im % 2 ≡ 0 → all_zero (pad_part im (halves_of bytes)) ≡ true
unfolding pad_part all_zero
pad_none im bytes filled even = ap all_zero (drop_of_length-le (halves_of bytes) {i = half_count im} (omega (arith, filled, even)))

pub pad_last :
    (im : Image) (bytes : List ℕ) → length (halves_of bytes) ≡ half_count im + pad_count im → 0 < length bytes → (half_count im % 2 ≡ 0 → ⊥)
    → eqb (get_or bytes (length bytes - 1) 0 % 16) 0 ≡ all_zero (pad_part im (halves_of bytes))
unfolding pad_part all_zero
pad_last im bytes filled some odd =
    let hs = halves_of bytes in
    let k = half_count im in
    let one : k + 1 ≡ length hs = omega (arith, filled, odd) in
    let twice : length hs ≡ length bytes + length bytes = omega (arith, halves_length bytes) in
    let last : get_or hs k 0 ≡ get_or bytes (length bytes - 1) 0 % 16 =
    ap (λ (i : ℕ). get_or hs i 0) {x = k} {y = length bytes + length bytes - 1} (omega (arith, one, twice)) ∙ last_half bytes some in
    let test : Bool = eqb (get_or bytes (length bytes - 1) 0 % 16) 0 in
    and_last test
    ∙ ap (λ (x : ℕ). eqb x 0 && true) (sym last)
    ∙ ap (λ (l : List ℕ). eqb (get_or hs k 0) 0 && all_zero l) (sym (drop_of_length-le hs {i = suc k} (omega arith)))
    ∙ ap all_zero (sym (drop-cons hs k 0 (omega arith)))
  where
    and_last : (b : Bool) → b ≡ (b && true)
    and_last true = refl
    and_last false = refl

-- Columns of fixed-point images.

module _ (im : Image) (hs : List ℕ) (checked : Checked im) (kind : im.exponential ≡ false) {p : ColumnHalves} (parts : PartsOf im hs p) where
  -- no exponent
  exponent_none : exponent_part im hs ≡ []
  unfolding exponent_part
  exponent_none = ap (λ (e : Bool). take (exponent_count e) (drop (sign_count im.sign + hashes im) hs)) kind

  pub fixed_sized : done 0 ≡ read_on 0 (halves_of (p.exponent ∷ []))
  unfolding halves_of read_on packed_of
  fixed_sized = sym (ap (λ (e : ℕ). read_on 0 (halves_of (e ∷ []))) (parts.exponent ∙ ap packed_of exponent_none))

  module _ (low : p.sign ≤ 1) where
    -- x is 0
    pub fixed_x : exponent_limit ≡ (said_by p.sign (whole_in (hashes im) p.digits) 0).x
    unfolding said_by
    fixed_x = sym (ap (λ (b : Bool). pick b (exponent_limit - 0) (exponent_limit + 0)) (lt-leb 8 p.sign (omega arith)))

    pub fixed_inside : outside im (said_by p.sign (whole_in (hashes im) p.digits) 0).x ≡ false
    fixed_inside =
        let few = checked.fits in
        ap (outside im) (sym fixed_x)
        ∙ rw (le-leb 1 (exponent_limit + im.integer) (omega arith), le-leb (exponent_limit + im.integer) (2 * exponent_limit + 1) (omega arith)) refl

    -- and no rule is broken where a minus is on no zero
    pub fixed_unbroken : (p.sign ≡ 1 → eqb (whole_in (hashes im) p.digits) 0 ≡ false) → breaks_rules im p.sign (whole_in (hashes im) p.digits) 0 ≡ false
    unfolding breaks_rules
    fixed_unbroken some = ⊎_elim plus (λ n. minus (omega (arith, n, low))) (zero_or_not p.sign)
      where
        plus_rules : (b : Bool) → any_of (false ∷ (false ∷ (false ∷ ((b && false) ∷ (false ∷ []))))) ≡ false
        plus_rules true = refl
        plus_rules false = refl

        plus : p.sign ≡ 0 → breaks_rules im p.sign (whole_in (hashes im) p.digits) 0 ≡ false
        plus none = rw (none, kind) (plus_rules (eqb (whole_in (hashes im) p.digits) 0))

        minus : p.sign ≡ 1 → breaks_rules im p.sign (whole_in (hashes im) p.digits) 0 ≡ false
        minus one = rw (some one, one, kind) refl

module _
    (im : Image) (hs : List ℕ) (checked : Checked im) (filled : length hs ≡ half_count im + pad_count im) (halves : Halves hs)
    (kind : im.exponential ≡ false) (digits : all_digits hs ≡ true) (zero : all_zero (pad_part im hs) ≡ true) {p : ColumnHalves} (parts : PartsOf im hs p) where
  -- its parts have their form
  in_digits : all_digits (digit_part im hs) ≡ true
  in_digits =
      let ss = take (sign_count im.sign) hs in
      let ds = digit_part im hs in
      let rest = exponent_part im hs ++ pad_part im hs in
      let behind = and_true (all_digits ss) (all_digits (ds ++ rest)) (sym (ap all_digits (sym (halves_whole im hs filled)) ∙ all_append ss (ds ++ rest)) ∙ digits) in
      (and_true (all_digits ds) (all_digits rest) (sym (all_append ds rest) ∙ behind.1)).0

  form : (all_digits (halves_in 16 p.digits) && eqb p.pad 0) ≡ true
  form = ap₂ ◌&&◌ (digits_all im 0 hs checked filled halves parts ∙ in_digits) (pad_zero im 0 hs checked filled halves parts ∙ zero)

  -- so it can be read
  pub fixed_reads : p.sign ≤ 1 → (p.sign ≡ 1 → 0 < p.digits) → checked_only (halves_number 0 im hs) ≡ done tt
  unfolding checked_only
  fixed_reads low some =
      let sized = fixed_sized im hs checked kind parts in
      let known = digits_known im 0 hs checked filled halves parts form sized in
      let rules = fixed_unbroken im hs checked kind parts low (λ one. sym (zero_tested known) ∙ ne_eqb p.digits 0 (λ none. omega (arith, some one))) in
      ap checked_only (read_cut im 0 hs checked filled halves parts form sized rules (fixed_inside im hs checked kind parts low)).1

-- it has at most eight bytes
pub fixed_few : (im : Image) (bytes : List ℕ) → Checked im → length bytes ≡ column_size im → im.exponential ≡ false → length bytes ≤ 8
unfolding column_size
fixed_few im bytes checked sized kind = omega (arith, checked.fits, sized, ap exponent_count kind, sign_few im.sign)

-- Columns with neither a sign nor an exponent.

-- no sign
plain_sign : (s : Sign) (hs : List ℕ) → sign_count s ≡ 0 → sign_part s hs ≡ 0
unfolding sign_part
plain_sign Unsigned hs h = refl
plain_sign Plus hs h = absurd (omega arith)
plain_sign Minus hs h = absurd (omega arith)

module _ (im : Image) (hs : List ℕ) (unsigned : sign_count im.sign ≡ 0) {p : ColumnHalves} (parts : PartsOf im hs p) where
  -- no sign half
  pub plain_none : p.sign ≡ 0
  plain_none = parts.sign ∙ plain_sign im.sign hs unsigned

  -- the sign is a plus
  pub plain_plus : false ≡ minus_bit p.sign
  plain_plus = ap minus_bit (sym plain_none)

-- it can be read
pub plain_reads :
    (im : Image) (hs : List ℕ) (checked : Checked im) (filled : length hs ≡ half_count im + pad_count im) (halves : Halves hs)
    → im.exponential ≡ false → sign_count im.sign ≡ 0 → all_digits hs ≡ true → all_zero (pad_part im hs) ≡ true
    → checked_only (halves_number 0 im hs) ≡ done tt
plain_reads im hs checked filled halves kind unsigned digits zero =
    let none = plain_sign im.sign hs unsigned in
    let p : ColumnHalves =
    record { sign = sign_part im.sign hs; digits = packed_of (digit_part im hs); exponent = packed_of (exponent_part im hs); pad = packed_of (pad_part im hs) } in
    let parts : PartsOf im hs p = record { sign = refl; digits = refl; exponent = refl; pad = refl } in
    fixed_reads im hs checked filled halves kind digits zero parts (omega (arith, none)) (λ one. absurd (omega (arith, none, one)))

-- the parts of its run
pub plain_parts :
    (im : Image) (bytes : List ℕ) (known : Bytes bytes) (checked : Checked im) (sized : length bytes ≡ column_size im)
    → im.exponential ≡ false
    → sign_count im.sign ≡ 0
    → {run count front pad : ℕ}
    → run ≡ packed_of (halves_of bytes)
    → count ≡ half_count im
    → front ≡ run / 2 ^ (4 * (count % 2))
    → pad ≡ run % 2 ^ (4 * (count % 2))
    → PartsOf im (halves_of bytes) (record { sign = 0; digits = front; exponent = 0; pad = pad })
plain_parts im bytes known checked sized kind unsigned {run} {count} {front} {pad} read padded one two =
    let n = hashes im in
    let all =
    run_parts im bytes known checked sized read padded (ap exponent_count (sym kind)) refl one two (sym (div-one front)) (sym (mod-one front)) refl refl in
    let none : front / 2 ^ (4 * n) ≡ 0 = all.sign ∙ plain_sign im.sign (halves_of bytes) unsigned in
    let whole : front % 2 ^ (4 * n) ≡ front = omega (arith, split front (4 * n), ap (λ (k : ℕ). k * 2 ^ (4 * n)) none) in
    record {
      sign = sym none ∙ all.sign;
      digits = sym whole ∙ all.digits;
      exponent = all.exponent;
      pad = all.pad;
    }

-- A column that is read.

-- what is done with a number is done
pub ok_reads : {A B : Type 0} (f : A → B) (g : Number → B) {m : Answer A} (a : Answer Number) {x : A} → m ≡ done x → mapped f m ≡ mapped g a → checked_only a ≡ done tt
unfolding checked_only
ok_reads f g {m} a {x} told same =
    let back = mapped_back g a (sym (mapped_done f told) ∙ same) in
    ap checked_only back.1

-- Bodies none of whose half bytes is above 9: all their columns are read.
pub checking_ends :
    {ims : List Image} {body behind : List ℕ} {column : ℕ} → CheckingColumns ims body behind column → length ims ≤ column → length body ≡ body_size ims
    → checked_only (unpack_body ims body) ≡ done tt
unfolding checked_only
checking_ends {ims} {body} k over sized = ap checked_only (under_columns ims body sized ∙ columns_end k.unpacks over)

-- one more column
pub readable_turn :
    {ims : List Image} {body behind : List ℕ} {column : ℕ} (k : CheckingColumns ims body behind column) (d : Image)
    → column < length ims → Checked (get_or ims column d) → {size : ℕ} {bytes : List ℕ}
    → size ≡ column_size (get_or ims column d)
    → bytes ≡ take size behind
    → checked_only (unpack_column 0 (get_or ims column d) bytes) ≡ done tt
    → CheckingColumns ims body (drop size behind) (column + 1)
unfolding checked_only
readable_turn {ims} {body} {behind} {column} k d more checked {size} {bytes} sized part h =
    let im = get_or ims column d in
    let long : length bytes ≡ column_size im = ap length part ∙ length-take-le size behind (omega (arith, sized, checking_inside k d more)) ∙ sized in
    let read = number_there (unpack_column 0 im bytes) h in
    checking_turn k d more (λ n. n) sized part (sym (ap (mapped (λ n. n)) (column_any im checked 0 bytes long read.1 column) ∙ mapped_done (λ n. n) refl))
  where
    number_there : (a : Answer Number) → checked_only a ≡ done tt → (n : Number) × (a ≡ done n)
    number_there (done n) h = (n, refl)
    number_there (refused x y) h = never_done h
