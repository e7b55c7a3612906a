-- `narrow_halves` meets its contract: the parts of the run are those of the column. Assumes nothing.
use Prim.Native.Nat.{◌<◌}
use native.Mathlib.Omega.{arith}
use Rattle.codec.specs.Order.{Bytes}
use Rattle.codec.specs.Halves.{halves_of}
use Rattle.codec.specs.Unpacking.{sign_part}
use Rattle.codec.proofs.HalfLaws.{bytes_halves}
use Rattle.codec.proofs.ColumnTheorem.{sign_part_low}
use Rattle.codec.proofs.ReadLaws.{bytes_known, run_parts}
use Rattle.codec.proofs.reading.narrow_halves.Goals as goal

pub read_few-run-requires : goal.read_few-run-requires
read_few-run-requires c = c.requires.2

pub overflow_cast-result : goal.overflow_cast-result
overflow_cast-result c =
    let known : Bytes c.args.bytes.now = bytes_known _ (λ i. omega (arith, c.type_inv.bytes i)) in
    let parts = run_parts c.args.image c.args.bytes.now known c.requires.0 c.requires.1 c.read_few-run.ensures
    c.half_count.ensures c.exponent_count.ensures c.hashes.ensures
    c.split_few-unpadded.ensures.first c.split_few-unpadded.ensures.last c.split_few-front.ensures.first c.split_few-front.ensures.last
    c.split_few-sign.ensures.first c.split_few-sign.ensures.last in
    let low : sign_part c.args.image.sign (halves_of c.args.bytes.now) < 16 =
    sign_part_low c.args.image.sign (halves_of c.args.bytes.now) (bytes_halves known) in
    omega (arith, parts.sign, low)

pub returns : goal.returns
returns c =
    let known : Bytes c.args.bytes.now = bytes_known _ (λ i. omega (arith, c.type_inv.bytes i)) in
    run_parts c.args.image c.args.bytes.now known c.requires.0 c.requires.1 c.read_few-run.ensures
    c.half_count.ensures c.exponent_count.ensures c.hashes.ensures
    c.split_few-unpadded.ensures.first c.split_few-unpadded.ensures.last c.split_few-front.ensures.first c.split_few-front.ensures.last
    c.split_few-sign.ensures.first c.split_few-sign.ensures.last
