-- Document 02, (i): what demand 3 says is read back from alpha texts and print fields is read using the whole of each text.
-- Assumes nothing.
use Prim.Native.Nat.{ℕ}
use mathlib.Core.Path.{◌≡◌, refl}
use mathlib.Core.Logic.{◌↔◌}
use mathlib.Core.List.{List, [], ◌∷◌}
use lib.ListN.{length}
use Rattle.decimal.specs.declared.image.Image.{Image}
use Rattle.decimal.specs.declared.number.Number.{Number}
use Rattle.decimal.specs.Answer.{done}
use Rattle.codec.specs.Text.{read_text, read_texts}
use Rattle.codec.proofs.ReadingTheorem.{whole_text, texts_whole}
use Rattle.records.specs.declared.lines.marks.Marks.{Marks}
use Rattle.records.specs.Lines.Marks.{without_marks}
use Rattle.records.specs.Lines.Fields.{read_marked}
use Rattle.records.specs.Lines.Printing.{Print}
use Rattle.records.specs.Demand.{read_fields, ReadBack}
use Rattle.records.specs.WholeRead.{field_texts, UsesWhole}

-- Published: a field is read back as a number, under any marks, exactly where that number is read of what dropping the marks leaves, and uses
-- all of it.
pub field_whole : (m : Marks) (field : List ℕ) (n : Number)
    → (read_marked m field ≡ done n) ↔ (read_text (without_marks m field) ≡ done (record { number = n; used = length (without_marks m field) }))
unfolding read_marked
field_whole m field n = (whole_text (without_marks m field)).number n

-- reading fields back is reading their texts back
fields_texts : (ps : List Print) → read_fields ps ≡ read_texts (field_texts ps)
unfolding read_fields read_texts field_texts read_marked
fields_texts [] = refl
fields_texts (p ∷ ps) = rw (fields_texts ps)

-- Published: what is read back of a list uses the whole of each text.
pub uses_whole : {contents : List ℕ} {ims : List Image} {given : List Number} (back : ReadBack contents ims given) → UsesWhole back
uses_whole back =
    record {
      of_texts = texts_whole back.texts back.of_texts;
      of_fields = texts_whole (field_texts back.fields) (rw (fields_texts back.fields) at back.of_fields);
    }
