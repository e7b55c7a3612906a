-- Document 02, (i): "Read-back from text, as users rely on it, uses the whole text." Of what demand 3 says is read back, each alpha text and
-- each print field is read using the whole of it; a field's text is what dropping blanks and commas leaves.
use Rattle.std.specs.Prelude.{ℕ, List, [], ◌∷◌}
use Rattle.decimal.specs.declared.image.Image.{Image}
use Rattle.decimal.specs.declared.number.Number.{Number}
use Rattle.codec.specs.Text.{ReadWhole}
use Rattle.records.specs.Lines.Marks.{document_marks, without_marks}
use Rattle.records.specs.Lines.Printing.{Print}
use Rattle.records.specs.Demand.{ReadBack}

-- the texts of print fields
unfoldable pub field_texts : List Print → List (List ℕ)
field_texts [] = []
field_texts (p ∷ ps) = without_marks document_marks p.bytes ∷ field_texts ps

-- what is read back of a list uses the whole of each text
pub record UsesWhole {contents : List ℕ} {ims : List Image} {given : List Number} (back : ReadBack contents ims given) : Type 0 where
  pub of_texts : ReadWhole back.texts back.numbers
  pub of_fields : ReadWhole (field_texts back.fields) back.numbers
