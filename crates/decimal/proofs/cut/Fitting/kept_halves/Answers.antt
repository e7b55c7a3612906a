-- `Fitting::kept_halves` meets its contract: the first digits, with zeros before them. Assumes nothing.
use Rattle.std.proofs.Common.{◌≡◌, ℕ, ◌+◌, ◌*◌, ◌/◌, ◌^◌, ◌<◌, take, sym, ap, ◌∙◌, div-lt_iff_lt-mul, add_comm, arith}
use Rattle.decimal.specs.Digits.{precision, digits_of, packed_of}
use Rattle.decimal.specs.Truncation.{kept_count, dropped_count}
use Rattle.decimal.proofs.PowerLaws.{pow10_pos, pow10_add}
use Rattle.decimal.proofs.DigitLaws.{digits_first, digits_padded}
use Rattle.decimal.proofs.PackedLaws.{packed_zeros}
use Rattle.decimal.proofs.NumberLaws.{normal_high}
use Rattle.decimal.proofs.KeptLaws.{kept_size, kept_whole}
use Rattle.decimal.proofs.cut.Fitting.kept_halves.Goals as goal

-- of w digits the first n are kept, and d dropped
kept : (w d n m : ℕ) → w ≡ n + d → m < 10 ^ w → packed_of (take n (digits_of w m)) ≡ packed_of (digits_of w (m / 10 ^ d))
kept w d n m e below =
    let power : 10 ^ w ≡ 10 ^ n * 10 ^ d = ap (λ (q : ℕ). 10 ^ q) e ∙ pow10_add n d in
    let small : m / 10 ^ d < 10 ^ n = (div-lt_iff_lt-mul (pow10_pos d)).1 (rw power at below) in
    rw (e, digits_first n d m, add_comm n d, digits_padded d n (m / 10 ^ d) small) (sym (packed_zeros d (digits_of n (m / 10 ^ d))))

pub packed_digits-requires : goal.packed_digits-requires
packed_digits-requires c =
    let f = c.args.self.now in
    (normal_high f.number f.fits.number_checked, omega (arith, kept_size f.image f.number f.fits, f.fits.size, c.kept_count.ensures))

pub returns : goal.returns
returns c =
    let f = c.args.self.now in
    let m = f.number.mantissa in
    c.packed_digits.ensures
    ∙ ap (λ (k : ℕ). packed_of (take k (digits_of precision m))) c.kept_count.ensures
    ∙ kept precision (dropped_count f.image f.number) (kept_count f.image f.number) m (omega (arith, kept_size f.image f.number f.fits, f.fits.size)) (normal_high f.number f.fits.number_checked)
    ∙ sym (ap (λ (k : ℕ). packed_of (digits_of precision k)) (kept_whole f.image f.number f.fits))
