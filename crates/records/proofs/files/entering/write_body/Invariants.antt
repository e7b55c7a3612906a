-- `write_body` meets its contract. The loop's invariant is `Left`: the columns that are written, and those of the numbers that are left,
-- are the body. Assumes nothing.
use Rattle.records.specs.Files.Entering.{body_in}
use Rattle.records.proofs.FileProofs.LineBodyLaws.{Left}
use Rattle.records.proofs.files.entering.write_body.Given as goal

abbrev pub invariant-loop-column : goal.invariant-loop-column
invariant-loop-column l = Left l.images (body_in l.images l.line) l.column l.rest l.target l.at
