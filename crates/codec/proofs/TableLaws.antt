-- Laws of the images of a contents. Assumes nothing.
use Prim.Native.Nat.{ℕ, ◌<◌}
use mathlib.Core.Path.{◌≡◌}
use mathlib.Core.List.{List, ◌∷◌}
use lib.ListN.{length, get_or}
use Rattle.decimal.specs.declared.image.Image.{Image}
use Rattle.codec.specs.Columns.{Checked, AllChecked, Sound}
use Rattle.codec.specs.Columns.AllChecked.{more}
use Rattle.codec.proofs.ContentsLaws.{checked_at}

-- each has 1 to 13 # signs
pub table_column : (ims : List Image) (s : Sound ims) (i : ℕ) (d : Image) → i < length ims → Checked (get_or ims i d)
table_column ims s i d h = checked_at s.all i d h

-- the first of such images is one, and so are the others
first_checked : {im : Image} {ims : List Image} → AllChecked (im ∷ ims) → Checked im × AllChecked ims
first_checked (more c cs) = (c, cs)

pub next_checked : {im : Image} {ims later : List Image} → AllChecked ims → ims ≡ im ∷ later → Checked im × AllChecked later
next_checked all images = first_checked (rw images at all)
