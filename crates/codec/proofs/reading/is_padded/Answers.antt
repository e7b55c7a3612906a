-- `is_padded` meets its contract. Assumes nothing.
use Prim.Native.Nat.{ℕ, ◌-◌, ◌%◌}
use mathlib.Core.Path.{ap, sym, ◌∙◌}
use native.Mathlib.Omega.{arith}
use lib.Bits.{and_mask}
use lib.Dec.{eqb}
use lib.ListN.{length, get_or}
use Rattle.codec.specs.Order.{Bytes}
use Rattle.codec.proofs.ContentsLaws.{column_some}
use Rattle.codec.proofs.ReadLaws.{bytes_known, filled}
use Rattle.codec.proofs.PlainLaws.{pad_none, pad_last}
use Rattle.codec.proofs.reading.is_padded.Goals as goal

pub returns-then-half_count-eq0 : goal.returns-then-half_count-eq0
returns-then-half_count-eq0 c =
    let known : Bytes c.args.bytes.now = bytes_known _ (λ i. omega (arith, c.type_inv.bytes i)) in
    sym (pad_none c.args.image c.args.bytes.now (filled c.args.image c.args.bytes.now known c.requires.0 c.requires.1) (ap (λ (n : ℕ). n % 2) (sym c.half_count.ensures) ∙ c.if-half_count-eq0.true))

pub overflow_sub-result : goal.overflow_sub-result
overflow_sub-result c = omega (arith, c.requires.1, column_some c.requires.0)

pub bounds-bytes-bytes : goal.bounds-bytes-bytes
bounds-bytes-bytes c = omega (arith, c.requires.1, column_some c.requires.0)

pub returns : goal.returns
returns c =
    let bytes = c.args.bytes.now in
    let known : Bytes bytes = bytes_known _ (λ i. omega (arith, c.type_inv.bytes i)) in
    ap (λ (n : ℕ). eqb n 0) (and_mask (get_or bytes (length bytes - 1) 0) 4)
    ∙ pad_last c.args.image bytes (filled c.args.image bytes known c.requires.0 c.requires.1) (omega (arith, c.requires.1, column_some c.requires.0))
    (λ e. c.if-half_count-eq0.false (ap (λ (n : ℕ). n % 2) c.half_count.ensures ∙ e))
