-- `fill` meets its contract. The loop's invariant: the filled bytes and those that are still to come make the filled field, and there
-- are digits left for it. Assumes nothing.
use Rattle.decimal.specs.CutMeaning.{said_by_cut}
use Rattle.records.specs.Lines.Fields.{fill_bytes, nothing_filled}
use Rattle.records.proofs.LineProofs.FieldLaws.{Filling}
use Rattle.records.proofs.lines.fields.FieldNumber.fill.Given as goal

abbrev pub invariant-loop-byte : goal.invariant-loop-byte
invariant-loop-byte l =
    let s = l.self in
    let t = said_by_cut s.cut in
    Filling s.marks s.cut.image t (fill_bytes s.marks s.cut.image t nothing_filled l.initial.field) l.field l.fill l.byte-index
