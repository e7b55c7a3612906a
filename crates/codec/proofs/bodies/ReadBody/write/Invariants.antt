-- `ReadBody::write` meets its contract. The loop's invariant: what stands, and what comes behind the first columns' texts, are the whole.
-- Assumes nothing.
use Rattle.codec.proofs.BodyTextLaws.{Columns, Texting}
use Rattle.codec.proofs.bodies.ReadBody.write.Given as goal

abbrev pub invariant-loop-column : goal.invariant-loop-column
invariant-loop-column l = record {
  columns : Columns l.images l.self.bytes.now l.column l.rest;
  texting : Texting l.images l.self.bytes.now l.target l.out l.column;
}
