-- Document 02, (vi): records compare by the bytes of their first column as by its value. This is where the order of columns is used.
-- Assumes nothing.
use Rattle.std.proofs.Common.{◌≡◌, ℕ, List, [], ◌∷◌, ◌≤◌, length, take, ap, sym, ◌∙◌, arith, get_or}
use lib.Seq.{length-take-le}
use Rattle.decimal.specs.declared.image.Image.{Image}
use Rattle.decimal.specs.declared.number.Number.{Number}
use Rattle.decimal.specs.Answer.{Answer, done, given}
use Rattle.decimal.specs.Number.{zero_number}
use Rattle.codec.specs.Columns.{column_size, body_size, Checked}
use Rattle.codec.specs.Lists.{no_image}
use Rattle.codec.specs.Order.{UnsignedFixed, Bytes}
use Rattle.codec.specs.Unpacking.{unpack_column, unpack_body}
use Rattle.codec.proofs.OrderingLaws.{ColumnRead, column_reads, columns_compare}
use Rattle.codec.proofs.ReadBackTheorem.{bytes_take, body_view, unpack_view}
use Rattle.rolls.specs.Falling.{at_most}
use Rattle.rolls.specs.Merging.{first_column_of, by_first_column, not_behind}
use Rattle.records.proofs.FileProofs.JoinedLaws.{Each, each_first, each_others}
use Rattle.rolls.proofs.FirstColumnLaws.{BodyRead}

-- the first image
abbrev pub first_image : List Image → Image
first_image ims = get_or ims 0 no_image

-- what is known of a record's first column: it is read as a number
pub record FirstColumn (ims : List Image) (body : List ℕ) : Type 0 where
  pub known : Bytes (take (column_size (first_image ims)) body)
  pub sized : length (take (column_size (first_image ims)) body) ≡ column_size (first_image ims)
  pub reads : unpack_column 0 (first_image ims) (take (column_size (first_image ims)) body) ≡ done (first_column_of ims body)

-- a body that is read has one
pub first_column : (ims : List Image) (body : List ℕ) {ns : List Number} → 1 ≤ length ims → Bytes body → unpack_body ims body ≡ done ns → FirstColumn ims body
unfolding first_column_of given body_size
first_column [] body low known h = absurd (omega arith)
first_column (im ∷ ims) body {ns} low known h =
    let both = body_view (im ∷ ims) body h in
    let step = unpack_view 0 im ims body both.1 in
    record {
      known = bytes_take (column_size im) known;
      sized = length-take-le (column_size im) body (omega (arith, both.0));
      reads =
          step.first
          ∙ ap {B = Answer Number} done
          (sym (ap (λ (x : Answer (List Number)). get_or (given x) 0 zero_number) h ∙ ap (λ (l : List Number). get_or l 0 zero_number) (sym step.joined)));
    }

-- bodies that are read have
pub first_columns : (ims : List Image) (bs : List (List ℕ)) → 1 ≤ length ims → Each Bytes bs → Each (BodyRead ims) bs → Each (FirstColumn ims) bs
first_columns ims [] low known reads = Each.none
first_columns ims (b ∷ bs) low known reads =
    Each.more (first_column ims b low (each_first known) (each_first reads).reads) (first_columns ims bs low (each_others known) (each_others reads))

module _ (ims : List Image) (kind : UnsignedFixed (first_image ims)) (checked : Checked (first_image ims)) where
  -- its digits
  column_read : {x : List ℕ} → FirstColumn ims x → ColumnRead (first_image ims) (take (column_size (first_image ims)) x) (first_column_of ims x)
  column_read {x} f = column_reads (first_image ims) kind checked 0 (take (column_size (first_image ims)) x) (first_column_of ims x) f.known f.sized f.reads

  -- Published: of two records the first's first column is at most the second's, by value, exactly where the second's first column does not come before the first's.
  pub first_columns_compare : {x y : List ℕ} → FirstColumn ims x → FirstColumn ims y → by_first_column (first_column_of ims) x y ≡ not_behind (column_size (first_image ims)) x y
  unfolding at_most
  first_columns_compare f g = columns_compare (first_image ims) kind (column_read f) (column_read g)
