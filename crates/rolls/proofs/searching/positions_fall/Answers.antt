-- `positions_fall` meets its contract: whether each position and the next are in order tells it. Assumes nothing.
use Rattle.std.proofs.Common.{rules, of_calls}
use Rattle.std.proofs.lemmas.Fn.{always_returns_same}
use Rattle.rolls.specs.Falling.{normal_at_most}
use Rattle.rolls.proofs.FallLaws.{sorted_told}
use Rattle.rolls.proofs.PageLaws.{all_normal}
use Rattle.rolls.proofs.searching.positions_fall.Goals as goal

pub returns : goal.returns
returns c =
    let ps = c.args.positions.now in
    sorted_told ps (all_normal ps c.requires) c.is_sorted_by.result (c.is_sorted_by.ensures.cases normal_at_most (always_returns_same _ _ _ (λ a r f k. search (rules, of_calls))))
