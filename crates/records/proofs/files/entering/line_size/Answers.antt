-- `line_size` meets its contract: the bytes taken are those before the first 0A. Assumes nothing.
use Rattle.std.proofs.Common.{rules, tests, not, ◌∙◌, ◌==◌}
use Rattle.std.proofs.lemmas.Iterator.{YieldsList-from_slice}
use Rattle.std.proofs.lemmas.Iterator.Consumers.{count_from_yields_List}
use Rattle.std.proofs.lemmas.Iterator.Search.{YieldsList-from_take_while}
use Rattle.std.proofs.lemmas.List.Folds.{length-prefix_len}
use Rattle.codec.specs.Walking.{line_end}
use Rattle.records.proofs.FileProofs.EntryLaws.{size_prefix}
use Rattle.records.proofs.files.entering.line_size.Goals as goal

pub returns : goal.returns
returns c =
    let bytes = c.args.text.now in
    count_from_yields_List c.take_while.result c.count.result c.count.ensures.ran
    (YieldsList-from_take_while _ (λ b. not (b == line_end)) (YieldsList-from_slice bytes cc) c.take_while.ensures.closure c.take_while.ensures.done
    (λ x b q k. search (rules, tests)))
    ∙ length-prefix_len (λ b. not (b == line_end)) bytes
    ∙ size_prefix bytes
