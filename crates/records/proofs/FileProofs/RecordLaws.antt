-- Laws of a record's line: its texts and the line's end. Assumes nothing.
use Rattle.std.proofs.Common.{◌≡◌, ℕ, suc, ◌-◌, ◌<◌, List, [], ◌∷◌, ◌++◌, length, take, drop, set, refl, ap, sym, ◌∙◌, length-append, length-drop, length-set, arith}
use lib.Seq.{take-length}
use Rattle.std.proofs.lemmas.List.{take-append-le}
use Rattle.decimal.specs.declared.image.Image.{Image}
use Rattle.decimal.specs.Answer.{Answer, done, refused, given, checked_only}
use Rattle.decimal.proofs.AnswerLaws.{done_same, never_done}
use Rattle.codec.specs.Columns.{Sound}
use Rattle.codec.specs.Unpacking.{unpack_body}
use Rattle.codec.specs.Answers.{stored_in, sized}
use Rattle.codec.specs.Bodies.{body_text, writing_texts}
use Rattle.codec.specs.Alpha.{parted, line_length}
use Rattle.codec.specs.Walking.{line_end}
use Rattle.codec.proofs.BodyTextLaws.{has_texts, text_is, texts_fit}
use Rattle.codec.proofs.LineLaws.{line_some}
use Rattle.records.specs.Files.Listing.{record_line, body_line}
use Rattle.codec.proofs.ComingLaws.{Coming, coming_byte, coming_ends}

-- a record's line and its end
pub line_length_lem : (texts : List (List ℕ)) → length (record_line texts) ≡ suc (length (parted texts))
unfolding record_line
line_length_lem texts = length-append (parted texts) (line_end ∷ []) ∙ omega arith

-- Writing the line of a body that can be read.
module _ {ims : List Image} (sound : Sound ims) (body : List ℕ) (reads : checked_only (unpack_body ims body) ≡ done tt) (target : List ℕ)
    (long : length target ≡ line_length ims) where
  -- its texts
  abbrev text : List ℕ
  text = given (body_text ims body)

  text_given : done text ≡ body_text ims body
  unfolding given
  text_given =
      let is = text_is (has_texts refl sound reads) in
      ap {B = Answer (List ℕ)} done (ap given (sym is)) ∙ is

  -- fit with a byte more
  fit : (writing_texts ims body (length target) ≡ done text) × (length text ≡ length target - 1)
  fit = texts_fit (has_texts refl sound reads) target (omega (arith, line_some ims sound, long)) (omega arith) text_given

  -- so they are not refused
  pub texts_stored : {B : Type 0} {number place : ℕ} → refused number place ≡ sized (writing_texts ims body (length target)) → B
  unfolding sized
  texts_stored h = never_done (h ∙ ap sized fit.0)

  module _ {size : ℕ} (told : done size ≡ sized (writing_texts ims body (length target))) where
    size_is : size ≡ length text
    unfolding sized
    size_is = done_same (told ∙ ap sized fit.0)

    module _ {now : List ℕ} (stored : now ≡ stored_in (writing_texts ims body (length target)) target) where
      now_is : now ≡ text ++ drop (length text) target
      unfolding stored_in
      now_is = stored ∙ ap (λ (a : Answer (List ℕ)). stored_in a target) fit.0

      now_long : length now ≡ length target
      now_long = omega (arith, ap length now_is, length-append text (drop (length text) target), length-drop (length text) target, fit.1, line_some ims sound, long)

      -- one byte is left
      pub end_inside : size < length now
      end_inside = omega (arith, now_long, size_is, fit.1, line_some ims sound, long)

      -- for the line's end
      front : take size now ≡ text
      front =
          ap (λ (l : List ℕ). take size l) now_is
          ∙ ap (λ (k : ℕ). take k (text ++ drop (length text) target)) size_is
          ∙ take-append-le (length text) text (drop (length text) target) (omega arith)
          ∙ take-length text

      pub line_ends : set now size line_end ≡ body_line ims body
      line_ends =
          let whole : List ℕ = text ++ line_end ∷ [] in
          let w : Coming now size (line_end ∷ []) whole = record { inside = omega (arith, end_inside); joined = ap (λ (l : List ℕ). l ++ line_end ∷ []) front } in
          let size_same : length now ≡ length whole = omega (arith, now_long, length-append text (line_end ∷ []), fit.1, line_some ims sound, long) in
          coming_ends (coming_byte w size_same) (omega (arith, size_same, length-set now size line_end))
