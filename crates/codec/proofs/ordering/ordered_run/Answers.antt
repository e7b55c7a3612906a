-- `ordered_run` meets its contract: eight bytes are read at once, where they are there. Assumes nothing.
use Rattle.std.proofs.Common.{ℕ, ◌%◌, ◌^◌, take, ap, sym, subst, ◌∙◌, arith, take-take}
use lib.Seq.{length-take-le}
use Rattle.decimal.specs.Digits.{packed_of}
use Rattle.codec.specs.Halves.{halves_of}
use Rattle.codec.specs.Order.{Bytes}
use Rattle.codec.specs.Ordering.{run_of}
use Rattle.codec.proofs.OrderingLaws.{run_whole}
use Rattle.codec.proofs.ReadBackTheorem.{bytes_take}
use Rattle.codec.proofs.ReadLaws.{bytes_known}
use Rattle.codec.proofs.ordering.ordered_run.Goals as goal

pub returns-then-size-eq0 : goal.returns-then-size-eq0
unfolding halves_of packed_of
returns-then-size-eq0 c = ap (λ (n : ℕ). run_of (take n c.args.bytes.now) % 2 ^ 64) (sym c.if-size-eq0.true)

pub front_run-requires : goal.front_run-requires
front_run-requires c = (
  omega arith,
  omega arith,
  subst Bytes (sym c.in-Some.ensures.cases.same) (bytes_take 8 (bytes_known c.args.bytes.now (λ i. omega (arith, c.type_inv.bytes i)))),
)

pub returns-in-Some : goal.returns-in-Some
returns-in-Some c =
    let front = c.in-Some.ensures.cases in
    c.front_run.ensures
    ∙ ap run_of (ap (take c.args.size) front.same ∙ take-take c.args.size 8 c.args.bytes.now (omega arith))
    ∙ sym
    (run_whole (take c.args.size c.args.bytes.now) (bytes_take c.args.size (bytes_known c.args.bytes.now (λ i. omega (arith, c.type_inv.bytes i))))
    (omega (arith, length-take-le c.args.size c.args.bytes.now (omega (arith, front.enough)))))
