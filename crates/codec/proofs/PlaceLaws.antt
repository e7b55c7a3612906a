-- The places of a list behind its last item.
use Rattle.std.proofs.Common.{arith, ◌≡◌, ℕ, suc, ◌+◌, ◌-◌, ◌<◌, List, [], ◌∷◌, ◌++◌, length, take, drop, replicate, slice_set, sym, ap, ◌∙◌}
use Rattle.std.proofs.Common.{length-take-le}
use Rattle.std.proofs.lemmas.List.{set_split, take_more_set, drop-replicate, append_assoc, drop-drop}
use Rattle.std.proofs.Math.Seq.{drop-append_seam}

-- an item that is written in the first blank place is one item more, and one blank place fewer
pub item_placed :
    {X : Type 0} (n c : ℕ) (l : List X) (b x : X)
    → c < n
    → length l ≡ n
    → l ≡ take c l ++ replicate (n - c) b
    → slice_set l c x ≡ take (c + 1) (slice_set l c x) ++ replicate (n - (c + 1)) b
item_placed n c l b x few size h =
    let inside : c < length l = omega (arith, few, size) in
    let sized : length (take c l) ≡ c = length-take-le c l (omega (arith, inside)) in
    let blanks : drop c l ≡ replicate (n - c) b =
    ap (drop c) h
    ∙ sym (ap (λ m. drop m (take c l ++ replicate (n - c) b)) sized)
    ∙ drop-append_seam (take c l) (replicate (n - c) b) in
    let fewer : n - c - 1 ≡ n - (c + 1) = omega arith in
    let next : suc c ≡ c + 1 = omega arith in
    let left : drop (suc c) l ≡ replicate (n - (c + 1)) b =
    ap (λ m. drop m l) next ∙ sym (drop-drop 1 c l) ∙ ap (drop 1) blanks ∙ drop-replicate 1 (n - c) b ∙ ap (λ m. replicate m b) fewer in
    set_split l c x inside
    ∙ ap (λ r. take c l ++ x ∷ r) left
    ∙ sym (append_assoc (take c l) (x ∷ []) (replicate (n - (c + 1)) b))
    ∙ ap (λ f. f ++ replicate (n - (c + 1)) b) (sym (take_more_set l c x inside))
