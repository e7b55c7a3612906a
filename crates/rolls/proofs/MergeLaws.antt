-- Laws of records merged by a test, for any test: an induction over the two lists, and what holds of each record. Assumes nothing.
use Rattle.std.proofs.Common.{◌≡◌, ℕ, ◌+◌, Bool, true, false, List, [], ◌∷◌, length, length-append, refl, ap, sym, ◌∙◌, arith}
use Rattle.std.specs.List.{concat}
use Rattle.rolls.specs.Merging.{merged}
use Rattle.records.proofs.FileProofs.JoinedLaws.{Each, each_first, each_others}

-- What holds of two lists and the merged one, step by step.
module _
    (goes : List ℕ → List ℕ → Bool)
    (P : List (List ℕ) → List (List ℕ) → List (List ℕ) → Type 0)
    (no_first : (ys : List (List ℕ)) → P [] ys ys)
    (no_second : (x : List ℕ) (xs : List (List ℕ)) → P (x ∷ xs) [] (x ∷ xs))
    (takes_first :
    (x : List ℕ) (xs : List (List ℕ)) (y : List ℕ) (ys : List (List ℕ))
    → goes x y ≡ true
    → P xs (y ∷ ys) (merged goes xs (y ∷ ys))
    → P (x ∷ xs) (y ∷ ys) (x ∷ merged goes xs (y ∷ ys)))
    (takes_second :
    (x : List ℕ) (xs : List (List ℕ)) (y : List ℕ) (ys : List (List ℕ))
    → goes x y ≡ false
    → P (x ∷ xs) ys (merged goes (x ∷ xs) ys)
    → P (x ∷ xs) (y ∷ ys) (y ∷ merged goes (x ∷ xs) ys)) where
  pub merged_by : (xs ys : List (List ℕ)) → P xs ys (merged goes xs ys)
  unfolding merged
  merged_by [] ys = no_first ys
  merged_by (x ∷ xs) [] = no_second x xs
  merged_by (x ∷ xs) (y ∷ ys) = go (goes x y) refl (merged_by xs (y ∷ ys)) (merged_by (x ∷ xs) ys)
    where
      go : (b : Bool)
          → goes x y ≡ b
          → P xs (y ∷ ys) (merged goes xs (y ∷ ys))
          → P (x ∷ xs) ys (merged goes (x ∷ xs) ys)
          → P (x ∷ xs) (y ∷ ys) (merged goes (x ∷ xs) (y ∷ ys))
      go true e one two = rw e (takes_first x xs y ys e one)
      go false e one two = rw e (takes_second x xs y ys e two)

module _ (goes : List ℕ → List ℕ → Bool) where
  -- what is merged with nothing stays
  pub merged_none : (xs : List (List ℕ)) → merged goes xs [] ≡ xs
  unfolding merged
  merged_none [] = refl
  merged_none (x ∷ xs) = refl

  pub none_merged : (ys : List (List ℕ)) → merged goes [] ys ≡ ys
  unfolding merged
  none_merged ys = refl

  module _ {x y : List ℕ} (xs ys : List (List ℕ)) where
    -- the first list's record goes first, or the second's
    pub merged_first : goes x y ≡ true → merged goes (x ∷ xs) (y ∷ ys) ≡ x ∷ merged goes xs (y ∷ ys)
    unfolding merged
    merged_first h = rw h

    pub merged_second : goes x y ≡ false → merged goes (x ∷ xs) (y ∷ ys) ≡ y ∷ merged goes (x ∷ xs) ys
    unfolding merged
    merged_second h = rw h

  -- what each record of both has, each of the merged ones has
  pub merged_each : {P : List ℕ → Type 0} (xs ys : List (List ℕ)) → Each P xs → Each P ys → Each P (merged goes xs ys)
  merged_each {P} =
      merged_by goes (λ xs ys zs. Each P xs → Each P ys → Each P zs) (λ ys e f. f) (λ x xs e f. e)
      (λ x xs y ys h r e f. Each.more (each_first e) (r (each_others e) f))
      (λ x xs y ys h r e f. Each.more (each_first f) (r e (each_others f)))

  -- there are as many as in both
  pub merged_length : (xs ys : List (List ℕ)) → length (merged goes xs ys) ≡ length xs + length ys
  merged_length =
      merged_by goes (λ xs ys zs. length zs ≡ length xs + length ys) (λ ys. omega arith) (λ x xs. omega arith)
      (λ x xs y ys h r. omega (arith, r))
      (λ x xs y ys h r. omega (arith, r))

-- two tests that answer alike of the records that have a property merge them alike
pub merged_alike :
    {P : List ℕ → Type 0} (goes does : List ℕ → List ℕ → Bool)
    → ((x y : List ℕ) → P x → P y → goes x y ≡ does x y)
    → (xs ys : List (List ℕ)) → Each P xs → Each P ys → merged goes xs ys ≡ merged does xs ys
merged_alike {P} goes does alike =
    merged_by goes (λ xs ys zs. Each P xs → Each P ys → zs ≡ merged does xs ys)
    (λ ys e f. sym (none_merged does ys))
    (λ x xs e f. sym (merged_none does (x ∷ xs)))
    (λ x xs y ys h r e f.
    ap (λ (zs : List (List ℕ)). x ∷ zs) (r (each_others e) f)
    ∙ sym (merged_first does xs ys (sym (alike x y (each_first e) (each_first f)) ∙ h)))
    (λ x xs y ys h r e f.
    ap (λ (zs : List (List ℕ)). y ∷ zs) (r e (each_others f))
    ∙ sym (merged_second does xs ys (sym (alike x y (each_first e) (each_first f)) ∙ h)))

-- The lengths of what is merged.

-- a list of bodies joined
joined_more : (b : List ℕ) (bs : List (List ℕ)) → length (concat (b ∷ bs)) ≡ length b + length (concat bs)
joined_more b bs = length-append b (concat bs)

-- merged lists have the bytes of both
pub merged_joined : (goes : List ℕ → List ℕ → Bool) (xs ys : List (List ℕ)) → length (concat (merged goes xs ys)) ≡ length (concat xs) + length (concat ys)
merged_joined goes =
    merged_by goes (λ xs ys zs. length (concat zs) ≡ length (concat xs) + length (concat ys)) (λ ys. omega arith) (λ x xs. omega arith)
    (λ x xs y ys h r. omega (arith, r, joined_more x (merged goes xs (y ∷ ys)), joined_more x xs))
    (λ x xs y ys h r. omega (arith, r, joined_more y (merged goes (x ∷ xs) ys), joined_more y ys))
