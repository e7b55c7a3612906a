-- Demand 3 whole, over the definitions that the calls promise. A contents is `IsContents`, 1 to 16 images and their bytes, and a list packs
-- under it where `Packs` holds, document 01's conditions; the body that it packs to is `body_of`. Document 01, "Packed bodies", "Alpha text"
-- and "Print lines", says how each of the three is read back.
use Rattle.std.specs.Prelude.{ℕ, ◌≡◌, ◌↔◌, List, [], ◌∷◌, true}
use Rattle.decimal.specs.declared.image.Image.{Image}
use Rattle.decimal.specs.declared.number.Number.{Number}
use Rattle.decimal.specs.Answer.{Answer, done, ◌then◌}
use Rattle.decimal.specs.Digits.{comes_before}
use Rattle.decimal.specs.Image.{image_bytes}
use Rattle.codec.specs.Contents.{IsContents}
use Rattle.codec.specs.Packing.{body_of, Packs}
use Rattle.codec.specs.Unpacking.{unpacking}
use Rattle.codec.specs.Order.{AllUnsignedFixed, truncated_magnitudes, FirstSmaller, Truncations}
use Rattle.codec.specs.Alpha.{alpha_texts}
use Rattle.codec.specs.Text.{read_texts}
use Rattle.records.specs.declared.lines.fields.Element.TheVariants as element
use Rattle.records.specs.Lines.Fields.{read_field}
use Rattle.records.specs.Lines.Printing.{Print, printed}

-- Print fields: "A column's print field is its image printed as the only field of a line without literal bytes, its number being the
-- only element; it is read back by dropping blanks and commas and converting the whole of what is left."

-- a column's print field; the line is the image's own bytes, as they stand in the contents (codec's ContentsTheorem, `column_image`)
unfoldable pub print_field : Image → Number → Answer Print
print_field im n = printed (image_bytes im) (element.Number n ∷ []) []

-- the print fields of a list, each under its column's image
unfoldable pub print_fields : List Image → List Number → Answer (List Print)
print_fields [] ns = done []
print_fields (im ∷ ims) [] = done []
print_fields (im ∷ ims) (n ∷ ns) = print_field im n then λ p. (print_fields ims ns then λ ps. done (p ∷ ps))

-- print fields read back, each by itself
unfoldable pub read_fields : List Print → Answer (List Number)
read_fields [] = done []
read_fields (p ∷ ps) = read_field p.bytes then λ t. (read_fields ps then λ ts. done (t ∷ ts))

-- no field is spilled
pub data NoneSpilled : List Print → Type 0 where
  none : NoneSpilled []
  more : {p : Print} {ps : List Print} → p.spilled ≡ 0 → NoneSpilled ps → NoneSpilled (p ∷ ps)

-- What is read back of a list under a contents of these images: `numbers` is the one same list.
pub record ReadBack (contents : List ℕ) (ims : List Image) (given : List Number) : Type 0 where
  -- the body that the list packs to
  pub body : List ℕ
  pub packed : body_of contents given ≡ done body
  pub numbers : List Number
  -- "In each column it has the truncation of the number given (of its magnitude if the image is unsigned)."
  pub truncated : Truncations ims given numbers
  -- "the body"
  pub of_body : unpacking contents body ≡ done numbers
  -- "the alpha texts"
  pub texts : List (List ℕ)
  pub written : alpha_texts ims given ≡ done texts
  pub of_texts : read_texts texts ≡ done numbers
  -- "and the print fields are read back as one same list"
  pub fields : List Print
  pub shown : print_fields ims given ≡ done fields
  pub none_spilled : NoneSpilled fields
  pub of_fields : read_fields fields ≡ done numbers
  -- "That list packs again under the same contents, and to the same body."
  pub packs_again : Packs contents numbers
  pub same_body : body_of contents numbers ≡ done body

-- What holds of two lists under a contents of unsigned fixed-point images.
pub record Ordered (contents : List ℕ) (ims : List Image) (ms ns : List Number) : Type 0 where
  -- the bodies that they pack to
  pub first : List ℕ
  pub packs_first : body_of contents ms ≡ done first
  pub second : List ℕ
  pub packs_second : body_of contents ns ≡ done second
  -- "the first list's body comes before the second's exactly when the truncated magnitudes differ in some column and, in the first such
  -- column, the first list's is smaller."
  pub order : (comes_before first second ≡ true) ↔ FirstSmaller (truncated_magnitudes ims ms) (truncated_magnitudes ims ns)
  -- "The two bodies are equal exactly when no column differs."
  pub equality : (first ≡ second) ↔ (truncated_magnitudes ims ms ≡ truncated_magnitudes ims ns)

-- Demand 3, sentence by sentence.
pub record Demand3 : Type 0 where
  -- "The order of packed bodies, byte by byte from the first, is the order of positions. For every contents of unsigned fixed-point
  -- images and every two lists that pack under it, .."
  pub order :
      (contents : List ℕ) {ims : List Image}
      → IsContents contents ims
      → AllUnsignedFixed ims
      → (ms ns : List Number)
      → Packs contents ms
      → Packs contents ns
      → Ordered contents ims ms ns
  -- "For every contents, whatever its images, and every list that packs under it, the body, the alpha texts and the print fields are read
  -- back as one same list. In each column it has the truncation of the number given (of its magnitude if the image is unsigned). That
  -- list packs again under the same contents, and to the same body."
  pub read_back : (contents : List ℕ) {ims : List Image} → IsContents contents ims → (ns : List Number) → Packs contents ns → ReadBack contents ims ns
