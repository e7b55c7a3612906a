-- `read_column` meets its contract: refused where the parts are, else the cut that they say. Assumes nothing.
use Prim.Native.Nat.{ℕ}
use mathlib.Core.Path.{ap, sym, ◌∙◌}
use native.Mathlib.Omega.{arith}
use lib.Bits.{and_mask}
use lib.Dec.{eqb, leb}
use Rattle.decimal.specs.Answer.{done, mapped, Answer}
use Rattle.decimal.specs.Truncation.{truncated_to}
use Rattle.decimal.proofs.AnswerLaws.{mapped_refused}
use Rattle.codec.specs.Halves.{halves_of}
use Rattle.codec.specs.Cuts.{outside}
use Rattle.codec.specs.Order.{Bytes}
use Rattle.codec.specs.Unpacking.{unpack_column, said_by}
use Rattle.codec.proofs.HalfLaws.{bytes_halves}
use Rattle.codec.proofs.ReadLaws.{bytes_known, filled}
use Rattle.codec.proofs.CutReadLaws.{refused_form, refused_exponent, refused_rules, refused_outside, digits_known, size_few, cut_is, cut_read, x_few}
use Rattle.codec.proofs.reading.read_column.Goals as goal

pub returns-then-not-is_formed-clause-cut : goal.returns-then-not-is_formed-clause-cut
unfolding unpack_column mapped
returns-then-not-is_formed-clause-cut c =
    let im = c.args.image in
    let bytes = c.args.bytes.now in
    let known : Bytes bytes = bytes_known _ (λ i. omega (arith, c.type_inv.bytes i)) in
    let long = filled im bytes known c.requires.0 c.requires.1 in
    let parts = c.column_halves-halves.ensures in
    sym (mapped_refused (truncated_to im) (refused_form im c.args.column (halves_of bytes) c.requires.0 long (bytes_halves known) parts (sym c.is_formed.ensures ∙ c.if-not-is_formed.true)))

pub returns-in_default-clause-cut : goal.returns-in_default-clause-cut
unfolding unpack_column mapped
returns-in_default-clause-cut c =
    let im = c.args.image in
    let bytes = c.args.bytes.now in
    let known : Bytes bytes = bytes_known _ (λ i. omega (arith, c.type_inv.bytes i)) in
    let long = filled im bytes known c.requires.0 c.requires.1 in
    let parts = c.column_halves-halves.ensures in
    sym (mapped_refused (truncated_to im) (refused_exponent im c.args.column (halves_of bytes) c.requires.0 long (bytes_halves known) parts c.in_default.ensures))

pub invariant_of-digits : goal.invariant_of-digits
invariant_of-digits c =
    let im = c.args.image in
    let bytes = c.args.bytes.now in
    let known : Bytes bytes = bytes_known _ (λ i. omega (arith, c.type_inv.bytes i)) in
    let long = filled im bytes known c.requires.0 c.requires.1 in
    let parts = c.column_halves-halves.ensures in
    let form = sym c.is_formed.ensures ∙ c.if-not-is_formed.false in
    record { checked = c.requires.0; are = digits_known im c.args.column (halves_of bytes) c.requires.0 long (bytes_halves known) parts form c.in-Some.ensures }

pub returns-then-breaks_rules-clause-cut : goal.returns-then-breaks_rules-clause-cut
unfolding unpack_column mapped
returns-then-breaks_rules-clause-cut c =
    let im = c.args.image in
    let bytes = c.args.bytes.now in
    let known : Bytes bytes = bytes_known _ (λ i. omega (arith, c.type_inv.bytes i)) in
    let long = filled im bytes known c.requires.0 c.requires.1 in
    let parts = c.column_halves-halves.ensures in
    let form = sym c.is_formed.ensures ∙ c.if-not-is_formed.false in
    let sized = ap {B = Answer ℕ} done c.from-size.ensures ∙ c.in-Some.ensures in
    sym (mapped_refused (truncated_to im) (refused_rules im c.args.column (halves_of bytes) c.requires.0 long (bytes_halves known) parts form sized (sym c.breaks_rules.ensures ∙ c.if-breaks_rules.true)))

pub signed_exponent-x-requires : goal.signed_exponent-x-requires
signed_exponent-x-requires c =
    let im = c.args.image in
    let bytes = c.args.bytes.now in
    let known : Bytes bytes = bytes_known _ (λ i. omega (arith, c.type_inv.bytes i)) in
    let long = filled im bytes known c.requires.0 c.requires.1 in
    let parts = c.column_halves-halves.ensures in
    let form = sym c.is_formed.ensures ∙ c.if-not-is_formed.false in
    let sized = ap {B = Answer ℕ} done c.from-size.ensures ∙ c.in-Some.ensures in
    size_few im c.args.column (halves_of bytes) c.requires.0 long (bytes_halves known) parts form sized

pub is_outside-requires : goal.is_outside-requires
is_outside-requires c =
    let im = c.args.image in
    let bytes = c.args.bytes.now in
    let known : Bytes bytes = bytes_known _ (λ i. omega (arith, c.type_inv.bytes i)) in
    let long = filled im bytes known c.requires.0 c.requires.1 in
    let parts = c.column_halves-halves.ensures in
    let form = sym c.is_formed.ensures ∙ c.if-not-is_formed.false in
    let sized = ap {B = Answer ℕ} done c.from-size.ensures ∙ c.in-Some.ensures in
    x_few (leb 8 c.column_halves-halves.result.sign) (size_few im c.args.column (halves_of bytes) c.requires.0 long (bytes_halves known) parts form sized) c.signed_exponent-x.ensures

pub returns-then-is_outside-clause-cut : goal.returns-then-is_outside-clause-cut
unfolding unpack_column mapped said_by
returns-then-is_outside-clause-cut c =
    let im = c.args.image in
    let bytes = c.args.bytes.now in
    let known : Bytes bytes = bytes_known _ (λ i. omega (arith, c.type_inv.bytes i)) in
    let long = filled im bytes known c.requires.0 c.requires.1 in
    let parts = c.column_halves-halves.ensures in
    let form = sym c.is_formed.ensures ∙ c.if-not-is_formed.false in
    let sized = ap {B = Answer ℕ} done c.from-size.ensures ∙ c.in-Some.ensures in
    let rules = sym c.breaks_rules.ensures ∙ c.if-breaks_rules.false in
    sym (mapped_refused (truncated_to im) (refused_outside im c.args.column (halves_of bytes) c.requires.0 long (bytes_halves known) parts form sized rules (sym (c.is_outside.ensures ∙ ap (outside im) c.signed_exponent-x.ensures) ∙ c.if-is_outside.true)))

pub invariant_of-result : goal.invariant_of-result
unfolding said_by
invariant_of-result c =
    let im = c.args.image in
    let bytes = c.args.bytes.now in
    let known : Bytes bytes = bytes_known _ (λ i. omega (arith, c.type_inv.bytes i)) in
    let long = filled im bytes known c.requires.0 c.requires.1 in
    let parts = c.column_halves-halves.ensures in
    let form = sym c.is_formed.ensures ∙ c.if-not-is_formed.false in
    let sized = ap {B = Answer ℕ} done c.from-size.ensures ∙ c.in-Some.ensures in
    let rules = sym c.breaks_rules.ensures ∙ c.if-breaks_rules.false in
    record { made = cut_is im c.args.column (halves_of bytes) c.requires.0 long (bytes_halves known) parts form sized rules (sym (c.is_outside.ensures ∙ ap (outside im) c.signed_exponent-x.ensures) ∙ c.if-is_outside.false) (ap (λ (k : ℕ). eqb k 1) (and_mask c.column_halves-halves.result.sign 3)) c.signed_exponent-x.ensures }

pub returns-clause-cut : goal.returns-clause-cut
unfolding unpack_column mapped said_by
returns-clause-cut c =
    let im = c.args.image in
    let bytes = c.args.bytes.now in
    let known : Bytes bytes = bytes_known _ (λ i. omega (arith, c.type_inv.bytes i)) in
    let long = filled im bytes known c.requires.0 c.requires.1 in
    let parts = c.column_halves-halves.ensures in
    let form = sym c.is_formed.ensures ∙ c.if-not-is_formed.false in
    let sized = ap {B = Answer ℕ} done c.from-size.ensures ∙ c.in-Some.ensures in
    let rules = sym c.breaks_rules.ensures ∙ c.if-breaks_rules.false in
    cut_read im c.args.column (halves_of bytes) c.requires.0 long (bytes_halves known) parts form sized rules (sym (c.is_outside.ensures ∙ ap (outside im) c.signed_exponent-x.ensures) ∙ c.if-is_outside.false) (ap (λ (k : ℕ). eqb k 1) (and_mask c.column_halves-halves.result.sign 3)) c.signed_exponent-x.ensures
