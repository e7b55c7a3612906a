-- `show` meets its contract: what it gives is the part of the file that is the body. Assumes nothing.
use Rattle.std.proofs.Common.{List, ℕ, ap, ◌∙◌}
use Rattle.records.specs.Files.RecordFile.{shown_bodies}
use Rattle.records.proofs.FileProofs.HeldLaws.{given_part}
use Rattle.records.proofs.files.record_file.show.Goals as goal

pub returns-clause-part : goal.returns-clause-part
returns-clause-part c =
    given_part c.args.file.now c.args.index c.body.result (c.body.ensures ∙ ap (λ (file : List ℕ). shown_bodies file c.args.index) c.in_ok-read.ensures.bytes)
