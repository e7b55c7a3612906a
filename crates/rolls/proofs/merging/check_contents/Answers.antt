-- `check_contents` meets its contract: 17, then 16. Assumes nothing.
use Rattle.std.proofs.Common.{sym, ◌∙◌}
use Rattle.rolls.proofs.MergeCallLaws.{contents_differ, contents_kind}
use Rattle.rolls.proofs.merging.check_contents.Goals as goal

pub returns-then-ne : goal.returns-then-ne
returns-then-ne c = sym (contents_differ _ _ _ (sym c.if-ne.true ∙ c.ne.ensures))

pub returns : goal.returns
returns c = c.check_kind.ensures ∙ sym (contents_kind _ _ _ (sym c.if-ne.false ∙ c.ne.ensures))
