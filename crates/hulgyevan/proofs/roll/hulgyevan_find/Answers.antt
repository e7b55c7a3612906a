-- `hulgyevan_find` meets its contract: refused as finding is, then with 6 where the records have no room. Assumes nothing.
use Rattle.std.proofs.Common.{ℕ, List, ap, ◌∙◌, arith}
use Rattle.decimal.specs.Answer.{done, mapped}
use Rattle.codec.specs.Answers.{stored_in}
use Rattle.hulgyevan.proofs.RollLaws.{finds_refused, finds_long, finds_done}
use Rattle.hulgyevan.proofs.roll.hulgyevan_find.Goals as goal

pub returns-then-records-len : goal.returns-then-records-len
unfolding mapped
returns-then-records-len c =
    let a = c.args in
    let told = finds_long a.file.now _ a.records.now a.comparisons.now c.in-Ok.ensures (omega arith) in
    record { word = c.refusal_word.ensures ∙ told.word; records = told.records; comparisons = told.comparisons }

pub returns-else-records-len : goal.returns-else-records-len
unfolding mapped
returns-else-records-len c =
    let a = c.args in
    let told = finds_done a.file.now _ a.records.now a.comparisons.now c.in-Ok.ensures (omega arith) in
    record { word = told.word; records = c.store_sizes.ensures ∙ ap (λ (l : List ℕ). stored_in (done l) a.records.now) c.deref.ensures.0 ∙ told.records; comparisons = told.comparisons }

pub returns-in-Err : goal.returns-in-Err
unfolding mapped
returns-in-Err c =
    let a = c.args in
    let told = finds_refused a.file.now _ a.records.now a.comparisons.now c.in-Err.ensures in
    record { word = c.refusal_word-in-Err.ensures ∙ told.word; records = told.records; comparisons = told.comparisons }
