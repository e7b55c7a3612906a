-- `image::leading_run` meets its contract: the bytes taken are those of the value. Assumes nothing.
use Rattle.std.proofs.Common.{rules, tests, ◌∙◌, ◌==◌}
use Rattle.std.proofs.lemmas.Iterator.{YieldsList-from_slice}
use Rattle.std.proofs.lemmas.Iterator.Consumers.{count_from_yields_List}
use Rattle.std.proofs.lemmas.Iterator.Search.{YieldsList-from_take_while}
use Rattle.std.proofs.lemmas.List.Folds.{length-prefix_len}
use Rattle.decimal.proofs.StepLaws.{run_prefix}
use Rattle.decimal.proofs.image.leading_run.Goals as goal

pub returns : goal.returns
returns c =
    let bytes = c.args.bytes.now in
    count_from_yields_List c.take_while.result c.count.result c.count.ensures.ran
    (YieldsList-from_take_while _ (λ b. b == c.args.byte) (YieldsList-from_slice bytes cc) c.take_while.ensures.closure c.take_while.ensures.done
    (λ x b q k. search (rules, tests)))
    ∙ length-prefix_len (λ b. b == c.args.byte) bytes
    ∙ run_prefix c.args.byte bytes
