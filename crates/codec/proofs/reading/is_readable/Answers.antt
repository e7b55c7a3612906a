-- `is_readable` meets its contract. Assumes nothing.
use mathlib.Core.Path.{sym, ◌∙◌}
use native.Mathlib.Omega.{arith}
use borrow.Author.Tests.{eq-eqb}
use Rattle.std.proofs.lemmas.Bool.{not-true}
use Rattle.decimal.specs.CutMeaning.{said_by_cut}
use Rattle.decimal.specs.Truncation.{truncated_to}
use Rattle.decimal.proofs.AnswerLaws.{ok_given}
use Rattle.codec.specs.Halves.{halves_of}
use Rattle.codec.specs.Order.{Bytes}
use Rattle.codec.specs.Unpacking.{unpack_column}
use Rattle.codec.proofs.HalfLaws.{bytes_halves}
use Rattle.codec.proofs.CutReadLaws.{pad_zero}
use Rattle.codec.proofs.ReadLaws.{bytes_known, filled}
use Rattle.codec.proofs.PlainLaws.{fixed_few, fixed_reads, plain_reads, ok_reads}
use Rattle.codec.proofs.reading.is_readable.Goals as goal

pub returns-then-is_plain : goal.returns-then-is_plain
unfolding unpack_column
returns-then-is_plain c h =
    let im = c.args.image in
    let bytes = c.args.bytes.now in
    let known : Bytes bytes = bytes_known _ (λ i. omega (arith, c.type_inv.bytes i)) in
    let plain = c.is_plain.ensures c.if-is_plain.true in
    plain_reads im (halves_of bytes) c.requires.0 (filled im bytes known c.requires.0 c.requires.1) (bytes_halves known) plain.0 plain.1 c.requires.2 (sym c.is_padded.ensures ∙ h)

pub narrow_halves-requires : goal.narrow_halves-requires
narrow_halves-requires c =
    (c.requires.0, c.requires.1, fixed_few c.args.image c.args.bytes.now c.requires.0 c.requires.1 (not-true c.args.image.exponential c.if-not-image.true))

pub returns-then-not-image : goal.returns-then-not-image
unfolding unpack_column
returns-then-not-image c h =
    let im = c.args.image in
    let bytes = c.args.bytes.now in
    let known : Bytes bytes = bytes_known _ (λ i. omega (arith, c.type_inv.bytes i)) in
    let long = filled im bytes known c.requires.0 c.requires.1 in
    let parts = c.narrow_halves.ensures in
    let keeps = c.keeps_rules.ensures h in
    let zero = sym (pad_zero im 0 (halves_of bytes) c.requires.0 long (bytes_halves known) parts) ∙ eq-eqb c.narrow_halves.result.pad 0 keeps.0 in
    fixed_reads im (halves_of bytes) c.requires.0 long (bytes_halves known) (not-true c.args.image.exponential c.if-not-image.true) c.requires.2 zero parts keeps.1 keeps.2

pub returns : goal.returns
returns c h =
    let ok = ok_given c.read_column.result (sym c.is_ok.ensures.value ∙ h) in
    ok_reads said_by_cut (truncated_to c.args.image) (unpack_column 0 c.args.image c.args.bytes.now) ok.1 c.read_column.ensures.cut
