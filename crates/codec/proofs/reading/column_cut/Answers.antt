-- `column_cut` meets its contract: the parts of a column that can be read break no rule. Assumes nothing.
use Prim.Native.Nat.{ℕ, ◌+◌, ◌*◌, ◌/◌}
use mathlib.Core.Path.{ap, ◌∙◌}
use native.Mathlib.Omega.{arith}
use lib.Bits.{and_mask}
use lib.Dec.{eqb}
use Rattle.codec.specs.Halves.{halves_of}
use Rattle.codec.specs.Order.{Bytes}
use Rattle.codec.specs.Unpacking.{unpack_column, said_by}
use Rattle.codec.proofs.HalfLaws.{bytes_halves}
use Rattle.codec.proofs.ReadLaws.{bytes_known, filled}
use Rattle.codec.proofs.CutReadLaws.{size_few, cut_is, cut_read, read_form, read_size, read_rules, read_inside}
use Rattle.codec.proofs.reading.column_cut.Goals as goal

pub signed_exponent-requires : goal.signed_exponent-requires
unfolding unpack_column
signed_exponent-requires c =
    let im = c.args.image in
    let bytes = c.args.bytes.now in
    let known : Bytes bytes = bytes_known _ (λ i. omega (arith, c.type_inv.bytes i)) in
    let long = filled im bytes known c.requires.0 c.requires.1 in
    let parts = c.column_halves-halves.ensures in
    let two = c.from-size.ensures ∙ ap (λ (k : ℕ). c.column_halves-halves.result.exponent / 16 * 10 + k) (and_mask c.column_halves-halves.result.exponent 4) in
    let form = read_form im 0 (halves_of bytes) c.requires.0 long (bytes_halves known) c.requires.2 parts in
    let sized = read_size im 0 (halves_of bytes) c.requires.0 long (bytes_halves known) c.requires.2 parts two in
    size_few im 0 (halves_of bytes) c.requires.0 long (bytes_halves known) parts form sized

pub invariant_of-result : goal.invariant_of-result
unfolding unpack_column said_by
invariant_of-result c =
    let im = c.args.image in
    let bytes = c.args.bytes.now in
    let known : Bytes bytes = bytes_known _ (λ i. omega (arith, c.type_inv.bytes i)) in
    let long = filled im bytes known c.requires.0 c.requires.1 in
    let parts = c.column_halves-halves.ensures in
    let two = c.from-size.ensures ∙ ap (λ (k : ℕ). c.column_halves-halves.result.exponent / 16 * 10 + k) (and_mask c.column_halves-halves.result.exponent 4) in
    let form = read_form im 0 (halves_of bytes) c.requires.0 long (bytes_halves known) c.requires.2 parts in
    let sized = read_size im 0 (halves_of bytes) c.requires.0 long (bytes_halves known) c.requires.2 parts two in
    let rules = read_rules im 0 (halves_of bytes) c.requires.0 long (bytes_halves known) c.requires.2 parts two in
    let inside = read_inside im 0 (halves_of bytes) c.requires.0 long (bytes_halves known) c.requires.2 parts two in
    record { made = cut_is im 0 (halves_of bytes) c.requires.0 long (bytes_halves known) parts form sized rules inside (ap (λ (k : ℕ). eqb k 1) (and_mask c.column_halves-halves.result.sign 3)) c.signed_exponent.ensures }

pub returns-clause-cut : goal.returns-clause-cut
unfolding unpack_column said_by
returns-clause-cut c =
    let im = c.args.image in
    let bytes = c.args.bytes.now in
    let known : Bytes bytes = bytes_known _ (λ i. omega (arith, c.type_inv.bytes i)) in
    let long = filled im bytes known c.requires.0 c.requires.1 in
    let parts = c.column_halves-halves.ensures in
    let two = c.from-size.ensures ∙ ap (λ (k : ℕ). c.column_halves-halves.result.exponent / 16 * 10 + k) (and_mask c.column_halves-halves.result.exponent 4) in
    let form = read_form im 0 (halves_of bytes) c.requires.0 long (bytes_halves known) c.requires.2 parts in
    let sized = read_size im 0 (halves_of bytes) c.requires.0 long (bytes_halves known) c.requires.2 parts two in
    let rules = read_rules im 0 (halves_of bytes) c.requires.0 long (bytes_halves known) c.requires.2 parts two in
    let inside = read_inside im 0 (halves_of bytes) c.requires.0 long (bytes_halves known) c.requires.2 parts two in
    cut_read im 0 (halves_of bytes) c.requires.0 long (bytes_halves known) parts form sized rules inside (ap (λ (k : ℕ). eqb k 1) (and_mask c.column_halves-halves.result.sign 3)) c.signed_exponent.ensures
