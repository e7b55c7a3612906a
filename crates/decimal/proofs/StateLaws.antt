-- What each arm of the machine's steps and tests gives, by the states that it is taken for. Assumes nothing.
use Rattle.std.proofs.Common.{◌≡◌, ℕ, Bool, true, false, not, T, List, [], ◌∷◌, refl}
use types.Run.{OneOf, miss}
use mir.Val.{has_key}
use denote.Enum.Declared as Declared
use Rattle.decimal.specs.declared.machine.State.{State as CodeState}
use Rattle.decimal.specs.declared.machine.State.TheVariants as code
use Rattle.decimal.specs.Image.{state_of, after_sign, after_hash, after_point, after_comma, after_up}
use Rattle.decimal.specs.Image.{is_image, integer_hash, fraction_hash, is_exponential, counted}
use Rattle.decimal.specs.contracts.machine.State as proofs-state

-- the number of a state of the code
abbrev pub tag : CodeState → ℕ
tag s = Declared.tag_of proofs-state.the_type s

-- what an arm of a match on a state shows: something of each state whose number is one of its keys
abbrev pub Arm : List ℕ → (CodeState → Type 0) → Type 0
Arm keys P = (s : CodeState) → OneOf keys (tag s) → P s

-- one of the keys, as a test that computes
has_key_lem : (keys : List ℕ) (n : ℕ) → OneOf keys n → T (has_key keys n)
has_key_lem keys n h = go (has_key keys n) (miss keys n)
  where
    go : (t : Bool) → (T (not t) → OneOf keys n → ⊥) → T t
    go true m = tt
    go false m = absurd (m tt h)

-- a state whose number is no key
pub none : {A : Type 0} → ⊥ → A
none h = absurd h

module _ (keys : List ℕ) (P : CodeState → Type 0) where
  -- an arm by its states, each where its number is a key
  pub arm :
      (T (has_key keys 0) → P code.Start)
      → (T (has_key keys 1) → P code.Signed)
      → (T (has_key keys 2) → P code.Integer)
      → (T (has_key keys 3) → P code.Grouped)
      → (T (has_key keys 4) → P code.Comma)
      → (T (has_key keys 5) → P code.Point)
      → (T (has_key keys 6) → P code.GroupedPoint)
      → (T (has_key keys 7) → P code.Fraction)
      → (T (has_key keys 8) → P code.GroupedFraction)
      → (T (has_key keys 9) → P code.FirstUp)
      → (T (has_key keys 10) → P code.SecondUp)
      → (T (has_key keys 11) → P code.ThirdUp)
      → (T (has_key keys 12) → P code.Exponential)
      → (T (has_key keys 13) → P code.Stopped)
      → Arm keys P
  arm a b c d e f g h i j k l m n code.Start w = a (has_key_lem keys 0 w)
  arm a b c d e f g h i j k l m n code.Signed w = b (has_key_lem keys 1 w)
  arm a b c d e f g h i j k l m n code.Integer w = c (has_key_lem keys 2 w)
  arm a b c d e f g h i j k l m n code.Grouped w = d (has_key_lem keys 3 w)
  arm a b c d e f g h i j k l m n code.Comma w = e (has_key_lem keys 4 w)
  arm a b c d e f g h i j k l m n code.Point w = f (has_key_lem keys 5 w)
  arm a b c d e f g h i j k l m n code.GroupedPoint w = g (has_key_lem keys 6 w)
  arm a b c d e f g h i j k l m n code.Fraction w = h (has_key_lem keys 7 w)
  arm a b c d e f g h i j k l m n code.GroupedFraction w = i (has_key_lem keys 8 w)
  arm a b c d e f g h i j k l m n code.FirstUp w = j (has_key_lem keys 9 w)
  arm a b c d e f g h i j k l m n code.SecondUp w = k (has_key_lem keys 10 w)
  arm a b c d e f g h i j k l m n code.ThirdUp w = l (has_key_lem keys 11 w)
  arm a b c d e f g h i j k l m n code.Exponential w = m (has_key_lem keys 12 w)
  arm a b c d e f g h i j k l m n code.Stopped w = n (has_key_lem keys 13 w)

-- `after_sign` gives this state
abbrev AfterSignIs : CodeState → CodeState → Type 0
AfterSignIs r s = state_of r ≡ after_sign (state_of s)

pub sign_else : Arm (1 ∷ 2 ∷ 3 ∷ 4 ∷ 5 ∷ 6 ∷ 7 ∷ 8 ∷ 9 ∷ 10 ∷ 11 ∷ 12 ∷ 13 ∷ []) (AfterSignIs code.Stopped)
sign_else =
    arm (1 ∷ 2 ∷ 3 ∷ 4 ∷ 5 ∷ 6 ∷ 7 ∷ 8 ∷ 9 ∷ 10 ∷ 11 ∷ 12 ∷ 13 ∷ []) (AfterSignIs code.Stopped) none (λ h. refl) (λ h. refl) (λ h. refl) (λ h. refl) (λ h. refl) (λ h. refl) (λ h. refl) (λ h. refl) (λ h. refl) (λ h. refl) (λ h. refl) (λ h. refl) (λ h. refl)

-- `after_hash` gives this state
abbrev AfterHashIs : CodeState → CodeState → Type 0
AfterHashIs r s = state_of r ≡ after_hash (state_of s)

pub hash_integer : Arm (0 ∷ 1 ∷ 2 ∷ []) (AfterHashIs code.Integer)
hash_integer =
    arm (0 ∷ 1 ∷ 2 ∷ []) (AfterHashIs code.Integer) (λ h. refl) (λ h. refl) (λ h. refl) none none none none none none none none none none none

pub hash_grouped : Arm (3 ∷ 4 ∷ []) (AfterHashIs code.Grouped)
hash_grouped =
    arm (3 ∷ 4 ∷ []) (AfterHashIs code.Grouped) none none none (λ h. refl) (λ h. refl) none none none none none none none none none

pub hash_fraction : Arm (5 ∷ 7 ∷ []) (AfterHashIs code.Fraction)
hash_fraction =
    arm (5 ∷ 7 ∷ []) (AfterHashIs code.Fraction) none none none none none (λ h. refl) none (λ h. refl) none none none none none none

pub hash_grouped_fraction : Arm (6 ∷ 8 ∷ []) (AfterHashIs code.GroupedFraction)
hash_grouped_fraction =
    arm (6 ∷ 8 ∷ []) (AfterHashIs code.GroupedFraction) none none none none none none (λ h. refl) none (λ h. refl) none none none none none

pub hash_else : Arm (9 ∷ 10 ∷ 11 ∷ 12 ∷ 13 ∷ []) (AfterHashIs code.Stopped)
hash_else =
    arm (9 ∷ 10 ∷ 11 ∷ 12 ∷ 13 ∷ []) (AfterHashIs code.Stopped) none none none none none none none none none (λ h. refl) (λ h. refl) (λ h. refl) (λ h. refl) (λ h. refl)

-- `after_point` gives this state
abbrev AfterPointIs : CodeState → CodeState → Type 0
AfterPointIs r s = state_of r ≡ after_point (state_of s)

pub point_point : Arm (0 ∷ 1 ∷ 2 ∷ []) (AfterPointIs code.Point)
point_point =
    arm (0 ∷ 1 ∷ 2 ∷ []) (AfterPointIs code.Point) (λ h. refl) (λ h. refl) (λ h. refl) none none none none none none none none none none none

pub point_else : Arm (4 ∷ 5 ∷ 6 ∷ 7 ∷ 8 ∷ 9 ∷ 10 ∷ 11 ∷ 12 ∷ 13 ∷ []) (AfterPointIs code.Stopped)
point_else =
    arm (4 ∷ 5 ∷ 6 ∷ 7 ∷ 8 ∷ 9 ∷ 10 ∷ 11 ∷ 12 ∷ 13 ∷ []) (AfterPointIs code.Stopped) none none none none (λ h. refl) (λ h. refl) (λ h. refl) (λ h. refl) (λ h. refl) (λ h. refl) (λ h. refl) (λ h. refl) (λ h. refl) (λ h. refl)

-- `after_comma` gives this state
abbrev AfterCommaIs : CodeState → CodeState → Type 0
AfterCommaIs r s = state_of r ≡ after_comma (state_of s)

pub comma_comma : Arm (2 ∷ 3 ∷ []) (AfterCommaIs code.Comma)
comma_comma =
    arm (2 ∷ 3 ∷ []) (AfterCommaIs code.Comma) none none (λ h. refl) (λ h. refl) none none none none none none none none none none

pub comma_else : Arm (0 ∷ 1 ∷ 4 ∷ 5 ∷ 6 ∷ 7 ∷ 8 ∷ 9 ∷ 10 ∷ 11 ∷ 12 ∷ 13 ∷ []) (AfterCommaIs code.Stopped)
comma_else =
    arm (0 ∷ 1 ∷ 4 ∷ 5 ∷ 6 ∷ 7 ∷ 8 ∷ 9 ∷ 10 ∷ 11 ∷ 12 ∷ 13 ∷ []) (AfterCommaIs code.Stopped) (λ h. refl) (λ h. refl) none none (λ h. refl) (λ h. refl) (λ h. refl) (λ h. refl) (λ h. refl) (λ h. refl) (λ h. refl) (λ h. refl) (λ h. refl) (λ h. refl)

-- `after_up` gives this state
abbrev AfterUpIs : CodeState → CodeState → Type 0
AfterUpIs r s = state_of r ≡ after_up (state_of s)

pub up_first : Arm (2 ∷ 7 ∷ []) (AfterUpIs code.FirstUp)
up_first =
    arm (2 ∷ 7 ∷ []) (AfterUpIs code.FirstUp) none none (λ h. refl) none none none none (λ h. refl) none none none none none none

pub up_else : Arm (0 ∷ 1 ∷ 3 ∷ 4 ∷ 5 ∷ 6 ∷ 8 ∷ 12 ∷ 13 ∷ []) (AfterUpIs code.Stopped)
up_else =
    arm (0 ∷ 1 ∷ 3 ∷ 4 ∷ 5 ∷ 6 ∷ 8 ∷ 12 ∷ 13 ∷ []) (AfterUpIs code.Stopped) (λ h. refl) (λ h. refl) none (λ h. refl) (λ h. refl) (λ h. refl) (λ h. refl) none (λ h. refl) none none none (λ h. refl) (λ h. refl)

-- `is_image` says so
abbrev IsImageIs : Bool → CodeState → Type 0
IsImageIs r s = r ≡ is_image (state_of s)

pub image_is : Arm (2 ∷ 7 ∷ 12 ∷ []) (IsImageIs true)
image_is =
    arm (2 ∷ 7 ∷ 12 ∷ []) (IsImageIs true) none none (λ h. refl) none none none none (λ h. refl) none none none none (λ h. refl) none

pub image_else : Arm (0 ∷ 1 ∷ 3 ∷ 4 ∷ 5 ∷ 6 ∷ 8 ∷ 9 ∷ 10 ∷ 11 ∷ 13 ∷ []) (IsImageIs false)
image_else =
    arm (0 ∷ 1 ∷ 3 ∷ 4 ∷ 5 ∷ 6 ∷ 8 ∷ 9 ∷ 10 ∷ 11 ∷ 13 ∷ []) (IsImageIs false) (λ h. refl) (λ h. refl) none (λ h. refl) (λ h. refl) (λ h. refl) (λ h. refl) none (λ h. refl) (λ h. refl) (λ h. refl) (λ h. refl) none (λ h. refl)

-- `integer_hash` counts so
abbrev IntegerHashIs : ℕ → CodeState → Type 0
IntegerHashIs r s = r ≡ counted (integer_hash (state_of s)) 0

pub integer_counts : Arm (2 ∷ 3 ∷ []) (IntegerHashIs 1)
integer_counts =
    arm (2 ∷ 3 ∷ []) (IntegerHashIs 1) none none (λ h. refl) (λ h. refl) none none none none none none none none none none

pub integer_else : Arm (0 ∷ 1 ∷ 4 ∷ 5 ∷ 6 ∷ 7 ∷ 8 ∷ 9 ∷ 10 ∷ 11 ∷ 12 ∷ 13 ∷ []) (IntegerHashIs 0)
integer_else =
    arm (0 ∷ 1 ∷ 4 ∷ 5 ∷ 6 ∷ 7 ∷ 8 ∷ 9 ∷ 10 ∷ 11 ∷ 12 ∷ 13 ∷ []) (IntegerHashIs 0) (λ h. refl) (λ h. refl) none none (λ h. refl) (λ h. refl) (λ h. refl) (λ h. refl) (λ h. refl) (λ h. refl) (λ h. refl) (λ h. refl) (λ h. refl) (λ h. refl)

-- `fraction_hash` counts so
abbrev FractionHashIs : ℕ → CodeState → Type 0
FractionHashIs r s = r ≡ counted (fraction_hash (state_of s)) 0

pub fraction_counts : Arm (7 ∷ 8 ∷ []) (FractionHashIs 1)
fraction_counts =
    arm (7 ∷ 8 ∷ []) (FractionHashIs 1) none none none none none none none (λ h. refl) (λ h. refl) none none none none none

pub fraction_else : Arm (0 ∷ 1 ∷ 2 ∷ 3 ∷ 4 ∷ 5 ∷ 6 ∷ 9 ∷ 10 ∷ 11 ∷ 12 ∷ 13 ∷ []) (FractionHashIs 0)
fraction_else =
    arm (0 ∷ 1 ∷ 2 ∷ 3 ∷ 4 ∷ 5 ∷ 6 ∷ 9 ∷ 10 ∷ 11 ∷ 12 ∷ 13 ∷ []) (FractionHashIs 0) (λ h. refl) (λ h. refl) (λ h. refl) (λ h. refl) (λ h. refl) (λ h. refl) (λ h. refl) none none (λ h. refl) (λ h. refl) (λ h. refl) (λ h. refl) (λ h. refl)

-- `is_exponential` says so
abbrev IsExponentialIs : Bool → CodeState → Type 0
IsExponentialIs r s = r ≡ is_exponential (state_of s)

pub exponential_is : Arm (9 ∷ 10 ∷ 11 ∷ 12 ∷ []) (IsExponentialIs true)
exponential_is =
    arm (9 ∷ 10 ∷ 11 ∷ 12 ∷ []) (IsExponentialIs true) none none none none none none none none none (λ h. refl) (λ h. refl) (λ h. refl) (λ h. refl) none

pub exponential_else : Arm (0 ∷ 1 ∷ 2 ∷ 3 ∷ 4 ∷ 5 ∷ 6 ∷ 7 ∷ 8 ∷ 13 ∷ []) (IsExponentialIs false)
exponential_else =
    arm (0 ∷ 1 ∷ 2 ∷ 3 ∷ 4 ∷ 5 ∷ 6 ∷ 7 ∷ 8 ∷ 13 ∷ []) (IsExponentialIs false) (λ h. refl) (λ h. refl) (λ h. refl) (λ h. refl) (λ h. refl) (λ h. refl) (λ h. refl) (λ h. refl) (λ h. refl) none none none none (λ h. refl)
