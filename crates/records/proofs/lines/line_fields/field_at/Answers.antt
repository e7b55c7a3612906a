-- `lines::line_fields::field_at` meets its contract: what was scanned, with the sign that the field begins with. Assumes nothing.
use Rattle.records.proofs.LineProofs.LineFieldLaws.{field_made}
use Rattle.records.proofs.lines.line_fields.field_at.Goals as goal

pub returns : goal.returns
returns c = field_made c.args.bytes.now c.args.at c.requires.1 c.requires.2 c.of_byte.ensures
