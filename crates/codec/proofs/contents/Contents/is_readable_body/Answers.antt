-- `Contents::is_readable_body` meets its contract. Assumes nothing.
use Prim.Native.Nat.{ℕ}
use mathlib.Core.Path.{◌≡◌, ap, sym, subst, ◌∙◌}
use mathlib.Core.List.{List}
use mathlib.Core.Bool.{true}
use lib.ListN.{length, take, drop, take-append-drop}
use Rattle.std.proofs.lemmas.List.{length-take-le}
use Rattle.decimal.specs.declared.image.Image.{Image}
use Rattle.codec.specs.Columns.{body_size, Sound}
use Rattle.codec.specs.Halves.{halves_of}
use Rattle.codec.specs.Unpacking.{all_digits, unpack_body}
use Rattle.decimal.specs.Answer.{checked_only}
use Rattle.codec.proofs.TableLaws.{table_column}
use Rattle.codec.proofs.UnpackLaws.{checking_start, checking_inside}
use Rattle.codec.proofs.PlainLaws.{digits_parts, checking_ends, readable_turn}
use Rattle.codec.proofs.contents.Contents.is_readable_body.Goals as goal

-- the digits of bytes that are split
split_digits : (k : ℕ) (bytes : List ℕ) → all_digits (halves_of bytes) ≡ true → (all_digits (halves_of (take k bytes)) ≡ true) × (all_digits (halves_of (drop k bytes)) ≡ true)
split_digits k bytes h = digits_parts (take k bytes) (drop k bytes) (ap (λ (l : List ℕ). all_digits (halves_of l)) (take-append-drop k bytes) ∙ h)

pub loop-image-init : goal.loop-image-init
loop-image-init c =
    record {
      checking = checking_start c.images-images.result.now c.args.body.now (c.requires.0 ∙ ap body_size (sym c.images-images.ensures.images));
      digits = c.requires.1;
    }

pub split_at-requires : goal.split_at-requires
split_at-requires c = rw (c.column_size.ensures) (checking_inside c.loop-image.invariant.checking _ c.loop-image-test.true)

pub is_readable-requires : goal.is_readable-requires
is_readable-requires c =
    let ims = c.images-images.result.now in
    let sound : Sound ims = subst (λ (ims : List Image). Sound ims) (sym c.images-images.ensures.images) c.images-images.ensures.sound in
    let more = c.loop-image-test.true in (
      table_column ims sound c.loop-image.image-index _ more,
      ap length c.split_at.ensures.front
          ∙ length-take-le _ _ (rw (c.column_size.ensures) (checking_inside c.loop-image.invariant.checking _ more))
          ∙ c.column_size.ensures,
      ap (λ (l : List ℕ). all_digits (halves_of l)) c.split_at.ensures.front ∙ (split_digits c.column_size.result c.loop-image.rest.now c.loop-image.invariant.digits).0,
    )

pub loop-image-preserved : goal.loop-image-preserved
loop-image-preserved c =
    let ims = c.images-images.result.now in
    let sound : Sound ims = subst (λ (ims : List Image). Sound ims) (sym c.images-images.ensures.images) c.images-images.ensures.sound in
    let more = c.loop-image-test.true in
    rw c.split_at.ensures.back
    (record {
      checking =
          readable_turn c.loop-image.invariant.checking _ more (table_column ims sound c.loop-image.image-index _ more) c.column_size.ensures c.split_at.ensures.front
          (c.is_readable.ensures c.if-not-is_readable.false);
      digits = (split_digits c.column_size.result c.loop-image.rest.now c.loop-image.invariant.digits).1;
    })

pub returns : goal.returns
returns c h =
    ap (λ (ims : List Image). checked_only (unpack_body ims c.args.body.now)) (sym c.images-images.ensures.images)
    ∙ checking_ends c.loop-image.invariant.checking c.loop-image-test.false (c.requires.0 ∙ ap body_size (sym c.images-images.ensures.images))
