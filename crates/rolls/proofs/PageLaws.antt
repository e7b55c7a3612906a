-- Laws of a page's positions, looked through from the left, and what is asked of them. Assumes nothing.
use Rattle.std.proofs.Common.{◌≡◌, ℕ, zero, suc, ◌+◌, ◌<◌, Bool, true, false, List, [], ◌∷◌, length, drop, get_or, add-one, refl, ap, sym, ◌∙◌, arith, drop-cons}
use Rattle.decimal.specs.declared.image.Image.{Image}
use Rattle.decimal.specs.declared.number.Number.{Number}
use Rattle.decimal.specs.declared.image.Sign.{Sign}
use Rattle.decimal.specs.declared.image.Sign.TheVariants.{Unsigned, Plus, Minus}
use Rattle.decimal.specs.Answer.{Answer, done, refused, ◌then◌, pick}
use Rattle.decimal.specs.Number.{zero_number, normal, check_number}
use Rattle.decimal.proofs.NumberLaws.{check_abnormal}
use Rattle.decimal.proofs.AnswerLaws.{never, never_done, then_done}
use Rattle.codec.specs.Lists.{no_image}
use Rattle.codec.specs.Order.{UnsignedFixed}
use Rattle.rolls.specs.Falling.{fall}
use Rattle.rolls.specs.Searching.{check_numbers, is_unsigned_fixed, check_kind, refuse_where, check_positions, check_page}

-- a test that was passed
pub passed : (b : Bool) (number : ℕ) → pick {A = Answer (Unit {0})} b (done tt) (refused number 0) ≡ done tt → b ≡ true
passed true number h = refl
passed false number h = never_done h

-- The first image.

-- an image's kind, tested
kind_true : (im : Image) → is_unsigned_fixed im ≡ true → UnsignedFixed im
kind_true im h = go im.exponential refl im.sign refl
  where
    go : (e : Bool) → im.exponential ≡ e → (s : Sign) → im.sign ≡ s → UnsignedFixed im
    go true k s m = let wrong : false ≡ true = sym (rw k) ∙ h in let z : ◌≡◌ {A = ℕ} 0 1 = cc in absurd (omega arith)
    go false k Unsigned m = record { unsigned = m; fixed = k }
    go false k Plus m = let wrong : false ≡ true = sym (rw (k, m)) ∙ h in let z : ◌≡◌ {A = ℕ} 0 1 = cc in absurd (omega arith)
    go false k Minus m = let wrong : false ≡ true = sym (rw (k, m)) ∙ h in let z : ◌≡◌ {A = ℕ} 0 1 = cc in absurd (omega arith)

kind_said : (im : Image) → UnsignedFixed im → is_unsigned_fixed im ≡ true
kind_said im k = rw (k.fixed, k.unsigned)

module _ (ims : List Image) where
  -- the first image's kind is not refused exactly where it is unsigned fixed point
  pub kind_told : check_kind ims ≡ done tt → UnsignedFixed (get_or ims 0 no_image)
  unfolding check_kind
  kind_told h = kind_true (get_or ims 0 no_image) (passed (is_unsigned_fixed (get_or ims 0 no_image)) 16 h)

  pub kind_fine : UnsignedFixed (get_or ims 0 no_image) → check_kind ims ≡ done tt
  unfolding check_kind
  kind_fine k = rw (kind_said (get_or ims 0 no_image) k)

-- Normal form.

module _ (ps : List Number) (k : ℕ) (d : Number) (here : k < length ps) where
  -- behind a position in normal form the rest decides
  pub numbers_turn : {n : Number} → check_number k (get_or ps k d) ≡ done n → check_numbers k (drop k ps) ≡ check_numbers (k + 1) (drop (k + 1) ps)
  unfolding check_numbers ◌then◌
  numbers_turn h = ap (check_numbers k) (drop-cons ps k d here) ∙ rw h (ap (λ (i : ℕ). check_numbers i (drop i ps)) (sym (add-one k)))

  -- one that is refused decides
  pub numbers_refused : {x y : ℕ} → check_number k (get_or ps k d) ≡ refused x y → check_numbers k (drop k ps) ≡ refused x y
  unfolding check_numbers ◌then◌
  numbers_refused h = ap (check_numbers k) (drop-cons ps k d here) ∙ rw h

-- all that are looked through are in normal form
numbers_normal : (index : ℕ) (ps : List Number) → check_numbers index ps ≡ done tt → (i : ℕ) → i < length ps → normal (get_or ps i zero_number) ≡ true
unfolding check_numbers
numbers_normal index [] h i l = absurd (omega arith)
numbers_normal index (p ∷ ps) h zero l =
    let both = then_done (check_number index p) (λ (n : Number). check_numbers (suc index) ps) h in checked (normal p) refl both.first
  where
    checked : (b : Bool) → normal p ≡ b → {n : Number} → check_number index p ≡ done n → normal p ≡ true
    checked true e g = e
    checked false e g = never (check_abnormal p index e) g
numbers_normal index (p ∷ ps) h (suc i) l =
    let both = then_done (check_number index p) (λ (n : Number). check_numbers (suc index) ps) h in
    numbers_normal (suc index) ps both.second i (omega arith)

pub all_normal : (ps : List Number) → check_numbers 0 ps ≡ done tt → (i : ℕ) → i < length ps → normal (get_or ps i zero_number) ≡ true
all_normal ps h i l = numbers_normal 0 ps h i l

-- What is asked of a page.

module _ (ims : List Image) (ps : List Number) where
  -- 3
  pub page_abnormal : {x y : ℕ} → check_numbers 0 ps ≡ refused x y → check_positions ims ps ≡ refused x y
  unfolding check_positions ◌then◌
  page_abnormal h = rw h

  module _ (normals : check_numbers 0 ps ≡ done tt) where
    -- 16
    pub page_kind : {x y : ℕ} → check_kind ims ≡ refused x y → check_positions ims ps ≡ refused x y
    unfolding check_positions ◌then◌
    page_kind k = rw (normals, k)

    -- 14, or nothing
    pub page_positions : check_kind ims ≡ done tt → check_positions ims ps ≡ refuse_where (fall ps) 14
    unfolding check_positions ◌then◌
    page_positions k = rw (normals, k)

  -- and 15 behind them
  pub page_parts : (falls : Bool) → check_page ims ps falls ≡ (check_positions ims ps then λ _. refuse_where falls 15)
  unfolding check_page check_positions ◌then◌
  page_parts falls = go (check_numbers 0 ps) (check_kind ims)
    where
      go : (a b : Answer (Unit {0}))
          → (a then λ _. (b then λ _. (refuse_where (fall ps) 14 then λ _. refuse_where falls 15)))
          ≡ ((a then λ _. (b then λ _. refuse_where (fall ps) 14)) then λ _. refuse_where falls 15)
      go (refused x y) b = refl
      go (done u) (refused x y) = refl
      go (done u) (done v) = refl

  -- nothing is refused
  pub page_fine : {falls : Bool} → check_numbers 0 ps ≡ done tt → check_kind ims ≡ done tt → fall ps ≡ false → falls ≡ false → check_page ims ps falls ≡ done tt
  unfolding check_page refuse_where ◌then◌
  page_fine n k f r = rw (n, k, f, r)
