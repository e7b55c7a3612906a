-- The lines of a text: what stands before each 0A, and behind the last one if bytes do. Assumes nothing.
use Rattle.std.proofs.Common.{◌≡◌, ℕ, suc, ◌<◌, Bool, true, false, List, [], ◌∷◌, ◌++◌, ◌↔◌, length, ap, sym, refl, subst, ◌∙◌, arith, eqb, ◌==◌}
use borrow.Author.Tests.{eqb-true}
use Rattle.decimal.specs.Answer.{pick}
use Rattle.codec.specs.StrictText.{byte_count}
use Rattle.codec.specs.Walking.{line_end}
use Rattle.records.specs.Files.Entering.{onto, lines_in, Unended, LinesOf}
use Rattle.records.proofs.FileProofs.EntryLaws.{two_values}

-- a byte before the first line, where it is no 0A
onto_line : (b : ℕ) (line : List ℕ) (rest : List (List ℕ)) (k : Bool) (bs : List ℕ) (tail : List (List ℕ))
    → k ≡ false
    → lines_in bs ≡ line ∷ rest
    → pick k tail (onto b (lines_in bs)) ≡ (b ∷ line) ∷ rest
unfolding onto
onto_line b line rest false bs tail e h = ap (onto b) h
onto_line b line rest true bs tail e h = two_values refl e

-- no byte of a line is one
counts_none : (b : ℕ) (bs : List ℕ) → byte_count line_end (b ∷ bs) ≡ 0 → (eqb b line_end ≡ false) × (byte_count line_end bs ≡ 0)
unfolding byte_count
counts_none b bs h = go (eqb b line_end) refl h
  where
    go : (k : Bool) → eqb b line_end ≡ k → pick k (suc (byte_count line_end bs)) (byte_count line_end bs) ≡ 0 → (eqb b line_end ≡ false) × (byte_count line_end bs ≡ 0)
    go true e h = absurd (omega (arith, h))
    go false e h = (e, h)

-- such a line is the first of a text that it and 0A begin
pub lines_ended : (line rest : List ℕ) → byte_count line_end line ≡ 0 → lines_in (line ++ (line_end ∷ rest)) ≡ line ∷ lines_in rest
unfolding lines_in
lines_ended [] rest h = refl
lines_ended (b ∷ line) rest h =
    let c = counts_none b line h in onto_line b line (lines_in rest) (b == line_end) (line ++ (line_end ∷ rest)) ([] ∷ lines_in (line ++ (line_end ∷ rest))) c.0 (lines_ended line rest c.1)

-- a byte more in a line
unended_more : (b : ℕ) (line : List ℕ) → eqb b line_end ≡ false → Unended line → Unended (b ∷ line)
unfolding byte_count
unended_more b line e h = rw (e, h)

-- a line of one byte
onto_first : (b : ℕ) (k : Bool) (bs : List ℕ) (tail : List (List ℕ)) → k ≡ false → pick k tail (onto b (lines_in bs)) ≡ onto b (lines_in bs)
onto_first b false bs tail e = refl
onto_first b true bs tail e = two_values refl e

-- a last line that lacks its 0A
lines_last : (line : List ℕ) → Unended line → 0 < length line → lines_in line ≡ line ∷ []
unfolding lines_in onto
lines_last [] h some = absurd (omega (arith, some))
lines_last (b ∷ []) h some = let c = counts_none b [] h in onto_first b (b == line_end) [] ([] ∷ lines_in []) c.0
lines_last (b ∷ (c ∷ cs)) h some =
    let n = counts_none b (c ∷ cs) h in onto_line b (c ∷ cs) [] (b == line_end) (c ∷ cs) ([] ∷ lines_in (c ∷ cs)) n.0 (lines_last (c ∷ cs) n.1 (omega arith))

-- a byte before lines
onto_lines : (b : ℕ) {lines : List (List ℕ)} {text : List ℕ} → eqb b line_end ≡ false → LinesOf lines text → LinesOf (onto b lines) (b ∷ text)
unfolding onto byte_count
onto_lines b e LinesOf.none = LinesOf.last (unended_more b [] e refl) (omega arith)
onto_lines b e (LinesOf.last {line} h some) = LinesOf.last (unended_more b line e h) (omega arith)
onto_lines b e (LinesOf.more {line} h l) = LinesOf.more (unended_more b line e h) l

-- a text's lines are its lines
lines_are : (text : List ℕ) → LinesOf (lines_in text) text
unfolding lines_in byte_count
lines_are [] = LinesOf.none
lines_are (b ∷ bs) = go (eqb b line_end) refl (lines_are bs)
  where
    go : (k : Bool) → eqb b line_end ≡ k → LinesOf (lines_in bs) bs → LinesOf (pick k ([] ∷ lines_in bs) (onto b (lines_in bs))) (b ∷ bs)
    go true e l = subst (λ (x : ℕ). LinesOf ([] ∷ lines_in bs) (x ∷ bs)) (sym (eqb-true b line_end e)) (LinesOf.more {line = []} refl l)
    go false e l = onto_lines b e l

-- and there are no others
of_lines : {lines : List (List ℕ)} {text : List ℕ} → LinesOf lines text → lines_in text ≡ lines
unfolding lines_in
of_lines LinesOf.none = refl
of_lines (LinesOf.last {line} h some) = lines_last line h some
of_lines (LinesOf.more {line} {lines} {text} h l) = lines_ended line text h ∙ ap (λ (ls : List (List ℕ)). line ∷ ls) (of_lines l)

-- Published: the lines of a text are these, and no others.
pub lines_exactly : (text : List ℕ) (lines : List (List ℕ)) → (lines_in text ≡ lines) ↔ LinesOf lines text
lines_exactly text lines = ((λ h. subst (λ (ls : List (List ℕ)). LinesOf ls text) h (lines_are text)), of_lines)
