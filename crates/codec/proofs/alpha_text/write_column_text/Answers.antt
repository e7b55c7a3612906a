-- `write_column_text` meets its contract: the text is that of the cut. Assumes nothing.
use mathlib.Core.Path.{sym, ap, ◌∙◌}
use mathlib.Core.List.{List}
use Prim.Native.Nat.{ℕ}
use Rattle.decimal.specs.Answer.{Answer, done}
use Rattle.decimal.specs.declared.image.Image.{Image}
use Rattle.decimal.specs.CutMeaning.{said_by_cut}
use Rattle.codec.specs.Alpha.{alpha_text}
use Rattle.codec.proofs.CutNumberLaws.{column_alpha}
use Rattle.codec.proofs.alpha_text.write_column_text.Goals as goal

pub returns : goal.returns
returns c =
    let a = c.args in
    ap {B = Answer (List ℕ)} done (c.write_text.ensures ∙ ap (λ (im : Image). alpha_text im (said_by_cut c.column_cut.result)) c.column_cut.ensures.image)
    ∙ sym (column_alpha a.image c.requires.0 0 a.bytes.now c.requires.1 c.column_cut.ensures.cut)
