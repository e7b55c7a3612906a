-- `next_digit` meets its contract: the image's digits are the last half bytes of the truncation. Assumes nothing.
use Prim.Native.Nat.{ℕ, ◌-◌, ◌*◌, ◌/◌, ◌^◌}
use mathlib.Core.Path.{◌≡◌, ap, sym, ◌∙◌}
use mathlib.Core.List.{List}
use lib.Bits.{bit_and, and_mask}
use lib.ListN.{get_or}
use Rattle.decimal.specs.Digits.{precision, digits_of, value_of, halves_in}
use Rattle.decimal.specs.Image.{hashes}
use Rattle.decimal.proofs.PackedLaws.{last_halves, half_at}
use Rattle.records.proofs.lines.fields.FieldNumber.next_digit.Goals as goal

pub returns : goal.returns
returns c =
    let s = c.args.self.now.cut in
    let fill = c.args.fill in
    let n = hashes s.image in
    let whole = value_of (halves_in precision s.halves) in
    let digits : halves_in n s.halves ≡ digits_of n whole = ap (halves_in n) s.made.digits ∙ last_halves precision n whole s.made.size in
    ap (λ (k : ℕ). bit_and (s.halves / 2 ^ (4 * (k - 1 - fill.used))) 15) c.hashes.ensures
    ∙ and_mask (s.halves / 2 ^ (4 * (n - 1 - fill.used))) 4
    ∙ sym (half_at n s.halves fill.used c.requires)
    ∙ ap (λ (l : List ℕ). get_or l fill.used 0) digits
