-- `front_run` meets its contract: the bytes that are not asked for are shifted off. Assumes nothing.
use Rattle.std.proofs.Common.{◌≡◌, ℕ, ◌-◌, ◌*◌, ◌/◌, ◌^◌, length, ap, ◌∙◌, arith}
use Rattle.codec.proofs.OrderingLaws.{front_read, front_shifted}
use Rattle.codec.proofs.ordering.front_run.Goals as goal

pub returns : goal.returns
returns c =
    let long : length c.args.front ≡ 8 = omega arith in
    ap (λ (r : ℕ). r / 2 ^ (8 * (8 - c.args.size))) (c.from_be_bytes.ensures ∙ front_read c.args.front long)
    ∙ front_shifted c.args.front long c.args.size c.requires.1 c.requires.2
