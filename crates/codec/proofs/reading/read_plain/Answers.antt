-- `read_plain` meets its contract: refused where the form is, else the cut that the digits say. Assumes nothing.
use Prim.Native.Nat.{◌≤◌}
use mathlib.Core.Path.{sym, ◌∙◌}
use native.Mathlib.Omega.{arith}
use Rattle.decimal.specs.Answer.{mapped}
use Rattle.decimal.specs.Truncation.{truncated_to}
use Rattle.decimal.proofs.AnswerLaws.{mapped_refused}
use Rattle.codec.specs.Halves.{halves_of}
use Rattle.codec.specs.Order.{Bytes}
use Rattle.codec.specs.Unpacking.{unpack_column}
use Rattle.codec.proofs.HalfLaws.{bytes_halves}
use Rattle.codec.proofs.ReadLaws.{bytes_known, filled}
use Rattle.codec.proofs.CutReadLaws.{refused_form, cut_is, cut_read}
use Rattle.codec.proofs.PlainLaws.{fixed_sized, fixed_unbroken, fixed_inside, fixed_x, plain_none, plain_plus}
use Rattle.codec.proofs.reading.read_plain.Goals as goal

pub returns-then-not-is_formed-clause-cut : goal.returns-then-not-is_formed-clause-cut
unfolding unpack_column mapped
returns-then-not-is_formed-clause-cut c =
    let im = c.args.image in
    let bytes = c.args.bytes.now in
    let known : Bytes bytes = bytes_known _ (λ i. omega (arith, c.type_inv.bytes i)) in
    let long = filled im bytes known c.requires.0 c.requires.1 in
    let parts = c.plain_halves-halves.ensures in
    sym (mapped_refused (truncated_to im) (refused_form im c.args.column (halves_of bytes) c.requires.0 long (bytes_halves known) parts (sym c.is_formed.ensures ∙ c.if-not-is_formed.true)))

pub invariant_of-result : goal.invariant_of-result
invariant_of-result c =
    let im = c.args.image in
    let bytes = c.args.bytes.now in
    let known : Bytes bytes = bytes_known _ (λ i. omega (arith, c.type_inv.bytes i)) in
    let long = filled im bytes known c.requires.0 c.requires.1 in
    let parts = c.plain_halves-halves.ensures in
    let form = sym c.is_formed.ensures ∙ c.if-not-is_formed.false in
    let none = plain_none im (halves_of bytes) c.requires.3 parts in
    let low : c.plain_halves-halves.result.sign ≤ 1 = omega (arith, none) in
    let sized = fixed_sized im (halves_of bytes) c.requires.0 c.requires.2 parts in
    let rules = fixed_unbroken im (halves_of bytes) c.requires.0 c.requires.2 parts low (λ one. absurd (omega (arith, none, one))) in
    let inside = fixed_inside im (halves_of bytes) c.requires.0 c.requires.2 parts low in
    let plus = plain_plus im (halves_of bytes) c.requires.3 parts in
    let x = fixed_x im (halves_of bytes) c.requires.0 c.requires.2 parts low in
    record { made = cut_is im c.args.column (halves_of bytes) c.requires.0 long (bytes_halves known) parts form sized rules inside plus x }

pub returns-clause-cut : goal.returns-clause-cut
unfolding unpack_column mapped
returns-clause-cut c =
    let im = c.args.image in
    let bytes = c.args.bytes.now in
    let known : Bytes bytes = bytes_known _ (λ i. omega (arith, c.type_inv.bytes i)) in
    let long = filled im bytes known c.requires.0 c.requires.1 in
    let parts = c.plain_halves-halves.ensures in
    let form = sym c.is_formed.ensures ∙ c.if-not-is_formed.false in
    let none = plain_none im (halves_of bytes) c.requires.3 parts in
    let low : c.plain_halves-halves.result.sign ≤ 1 = omega (arith, none) in
    let sized = fixed_sized im (halves_of bytes) c.requires.0 c.requires.2 parts in
    let rules = fixed_unbroken im (halves_of bytes) c.requires.0 c.requires.2 parts low (λ one. absurd (omega (arith, none, one))) in
    let inside = fixed_inside im (halves_of bytes) c.requires.0 c.requires.2 parts low in
    let plus = plain_plus im (halves_of bytes) c.requires.3 parts in
    let x = fixed_x im (halves_of bytes) c.requires.0 c.requires.2 parts low in
    cut_read im c.args.column (halves_of bytes) c.requires.0 long (bytes_halves known) parts form sized rules inside plus x
