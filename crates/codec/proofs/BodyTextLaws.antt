-- Laws of the alpha texts of a body's numbers: one after the other, and how the code writes them. Assumes nothing.
use Prim.Native.Nat.{ℕ, zero, suc, ◌+◌, ◌-◌, ◌<◌, ◌≤◌}
use mathlib.Core.Path.{◌≡◌, refl, ap, sym, subst, subst₂, ◌∙◌}
use mathlib.Core.List.{List, [], ◌∷◌, ◌++◌, append-nil}
use mathlib.Core.Logic.{◌⊎◌, ⊎_elim}
use native.Mathlib.Omega.{arith}
use native.Mathlib.Numerals.{add-one}
use lib.ListN.{length, take, drop, get_or, set, length-drop, drop_of_length-le}
use lib.Seq.{drop-cons, drop-drop, length-take-le}
use borrow.Author.Tests.{lt-ltb, le-ltb}
use borrow.Rule.Slice.PartMut.{put_mid}
use Rattle.decimal.specs.declared.image.Image.{Image}
use Rattle.decimal.specs.declared.number.Number.{Number}
use Rattle.decimal.specs.Answer.{Answer, done, refused, ◌then◌, given, checked_only}
use Rattle.decimal.specs.Number.{zero_number}
use Rattle.decimal.proofs.AnswerLaws.{done_same, never_done, then_both, then_next}
use Rattle.codec.specs.Columns.{AllChecked, none, more, Checked, Sound, column_size, body_size}
use Rattle.codec.specs.Unpacking.{unpack_column, unpack_columns, unpack_body}
use Rattle.codec.specs.Answers.{within}
use Rattle.codec.specs.Bodies.{body_text, writing_texts}
use Rattle.codec.specs.Contents.{contents_bytes}
use Rattle.codec.specs.Alpha.{blank_byte, alpha_under, alpha_texts, parted, text_length, line_length}
use Rattle.codec.proofs.ContentsLaws.{checked_at}
use Rattle.codec.proofs.ComingLaws.{Coming, coming_starts, coming_long, coming_room, coming_byte, coming_bytes, coming_ends, lent_written}
use Rattle.codec.proofs.AlphaLaws.{alpha_under_length}
use Rattle.codec.proofs.CutNumberLaws.{column_any}
use Rattle.codec.proofs.ContentsTheorem.{contents_length}
use Rattle.codec.proofs.LineLaws.{line_some, texts_view, texts_count, texts_length, unpacked_count, unpacked_texts}
use Rattle.codec.proofs.ReadBackTheorem.{body_view, unpack_view, UnpackStep}

-- The texts one after the other.

-- other texts, a blank before each
unfoldable pub texts_tail : List (List ℕ) → List ℕ
texts_tail [] = []
texts_tail (t ∷ ts) = blank_byte ∷ (t ++ texts_tail ts)

-- what comes behind the first k texts
unfoldable pub texts_rest : ℕ → List (List ℕ) → List ℕ
texts_rest zero texts = parted texts
texts_rest (suc k) texts = texts_tail (drop (suc k) texts)

-- they begin with the first
parted_first : (t : List ℕ) (ts : List (List ℕ)) → parted (t ∷ ts) ≡ t ++ texts_tail ts
unfolding parted texts_tail
parted_first t [] = sym (append-nil t)
parted_first t (u ∷ us) = ap (λ (l : List ℕ). t ++ blank_byte ∷ l) (parted_first u us)

-- the text that comes next, with nothing before the first
rest_first : (k : ℕ) (texts : List (List ℕ)) → k ≡ 0 → k < length texts → texts_rest k texts ≡ get_or texts k [] ++ texts_rest (k + 1) texts
unfolding texts_rest
rest_first zero (t ∷ ts) e h = parted_first t ts
rest_first zero [] e h = absurd (omega arith)
rest_first (suc k) texts e h = absurd (omega arith)

-- and a blank before each other
rest_next :
    (k : ℕ) (texts : List (List ℕ)) → 0 < k → k < length texts → texts_rest k texts ≡ blank_byte ∷ (get_or texts k [] ++ texts_rest (k + 1) texts)
unfolding texts_rest texts_tail
rest_next zero texts e h = absurd (omega arith)
rest_next (suc k) texts e h = rw (add-one (suc k)) (ap texts_tail (drop-cons texts (suc k) [] h))

-- behind all texts nothing comes
rest_end : (k : ℕ) (texts : List (List ℕ)) → length texts ≤ k → texts_rest k texts ≡ []
unfolding texts_rest texts_tail parted
rest_end zero [] h = refl
rest_end zero (t ∷ ts) h = absurd (omega arith)
rest_end (suc k) texts h = ap texts_tail (drop_of_length-le texts h)

-- The numbers of the texts.

-- the text of a column, which has a number
texts_at :
    {ims : List Image}
    → AllChecked ims
    → (ns : List Number) {texts : List (List ℕ)}
    → alpha_texts ims ns ≡ done texts
    → (k : ℕ) (d : Image) (e : Number)
    → k < length texts
    → (k < length ns) × (alpha_under (get_or ims k d) (get_or ns k e) ≡ done (get_or texts k []))
unfolding alpha_texts
texts_at none ns {texts} h k d e l = absurd (omega (arith, ap length (done_same {m = []} {n = texts} h)))
texts_at (more c cs) [] {texts} h k d e l = absurd (omega (arith, ap length (done_same {m = []} {n = texts} h)))
texts_at (more {im} {ims} c cs) (n ∷ ns) {texts} h zero d e l =
    let s = texts_view im ims c n ns h in
    (omega arith, s.first ∙ ap (λ (x : List (List ℕ)). done (get_or x 0 [])) s.joined)
texts_at (more {im} {ims} c cs) (n ∷ ns) {texts} h (suc k) d e l =
    let s = texts_view im ims c n ns h in
    let long = ap length s.joined in
    let behind = texts_at cs ns s.rest k d e (omega arith) in
    (omega (arith, behind.0), behind.1 ∙ ap (λ (x : List (List ℕ)). done (get_or x (suc k) [])) s.joined)

-- What is left of a list from a place on.

-- begins with the item there
dropped_item : {A : Type 0} (l : List A) (k : ℕ) (d : A) {x : A} {rest : List A} → x ∷ rest ≡ drop k l → x ≡ get_or l k d
dropped_item l k d h = ap (λ (m : List _). get_or m 0 d) (h ∙ drop-cons l k d (omega (arith, ap length h, length-drop k l)))

-- and then has what is left from the next place on
dropped_next : {A : Type 0} (l : List A) (k : ℕ) {x : A} {rest : List A} → x ∷ rest ≡ drop k l → rest ≡ drop (k + 1) l
dropped_next l k h = ap (drop 1) h ∙ drop-drop 1 k l

-- A body's texts.

-- they are those of its numbers
abbrev pub texts_in : List Image → List ℕ → List (List ℕ)
texts_in ims body = given (unpack_body ims body then λ ns. alpha_texts ims ns)

-- What a body that can be read tells of them.
pub record HasTexts (ims : List Image) (body : List ℕ) : Type 0 where
  pub checked : AllChecked ims
  pub numbers : List Number
  pub unpacks : unpack_body ims body ≡ done numbers
  pub exist : alpha_texts ims numbers ≡ done (texts_in ims body)
  pub counted : length (texts_in ims body) ≡ length ims
  pub long : suc (length (parted (texts_in ims body))) ≡ line_length ims

-- a body that can be read is unpacked to numbers
pub body_numbers : (ims : List Image) (body : List ℕ) → checked_only (unpack_body ims body) ≡ done tt → (ns : List Number) × (unpack_body ims body ≡ done ns)
unfolding checked_only
body_numbers ims body h = go (unpack_body ims body) refl
  where
    go : (a : Answer (List Number)) → unpack_body ims body ≡ a → (ns : List Number) × (unpack_body ims body ≡ done ns)
    go (done ns) e = (ns, e)
    go (refused x y) e = never_done (sym (ap checked_only e) ∙ h)

texts_there : {ims : List Image} → Sound ims → (body : List ℕ) → checked_only (unpack_body ims body) ≡ done tt → HasTexts ims body
unfolding given
texts_there {ims} sound body h =
    let read = body_numbers ims body h in
    let texts = unpacked_texts sound.all body read.1 in
    let same : texts_in ims body ≡ texts.0 = ap given (then_both (λ ns. alpha_texts ims ns) read.1 texts.1) in
    let shown : alpha_texts ims read.0 ≡ done (texts_in ims body) = texts.1 ∙ ap {B = Answer (List (List ℕ))} done (sym same) in
    record {
      checked = sound.all;
      numbers = read.0;
      unpacks = read.1;
      exist = shown;
      counted = texts_count sound.all read.0 (unpacked_count ims body read.1) shown;
      long = texts_length sound.all read.0 sound.low (unpacked_count ims body read.1) shown;
    }

-- the same by images that are the contents' own
pub has_texts :
    {own ims : List Image} {body : List ℕ} → own ≡ ims → Sound ims → checked_only (unpack_body ims body) ≡ done tt → HasTexts own body
has_texts {body = body} same sound h = subst (λ (l : List Image). HasTexts l body) (sym same) (texts_there sound body h)

-- What a walk over a body has before column k: the bytes that are left are those of the columns that are.
pub record Columns (ims : List Image) (body : List ℕ) (k : ℕ) (rest : List ℕ) : Type 0 where
  pub size : length rest ≡ body_size (drop k ims)
  pub numbers : unpack_columns k (drop k ims) rest ≡ done (drop k (given (unpack_body ims body)))

-- what comes behind the first k texts
abbrev pub Texting : List Image → List ℕ → List ℕ → ℕ → ℕ → Type 0
Texting ims body now out k = Coming now out (texts_rest k (texts_in ims body)) (parted (texts_in ims body))

-- the text of column k comes, and what is behind it
abbrev pub Separated : List Image → List ℕ → List ℕ → ℕ → ℕ → Type 0
Separated ims body now out k = Coming now out (get_or (texts_in ims body) k [] ++ texts_rest (k + 1) (texts_in ims body)) (parted (texts_in ims body))

-- Writing the texts of a body's numbers, each under its image.
module _ {ims : List Image} {body : List ℕ} (has : HasTexts ims body) where
  -- the numbers
  numbers_are : given (unpack_body ims body) ≡ has.numbers
  unfolding given
  numbers_are = ap given has.unpacks

  -- the texts are the body's
  pub text_is : done (parted (texts_in ims body)) ≡ body_text ims body
  unfolding body_text
  text_is = sym (then_both (λ ns. alpha_texts ims ns then λ texts. done (parted texts)) has.unpacks (then_both (λ texts. done (parted texts)) has.exist refl))

  -- at the first column all are left
  pub columns_start : Columns ims body 0 body
  columns_start =
      let view = body_view ims body has.unpacks in
      record { size = view.0; numbers = view.1 ∙ ap {B = Answer (List Number)} done (sym numbers_are) }

  -- and no text stands
  pub texts_start : (now : List ℕ) → Texting ims body now 0 0
  unfolding texts_rest
  texts_start now = coming_starts now (parted (texts_in ims body))

  module _ (k : ℕ) {now : List ℕ} {out : ℕ} (w : Texting ims body now out k) (long : suc (length now) ≡ line_length ims) where
    whole_long : length now ≡ length (parted (texts_in ims body))
    whole_long = omega (arith, has.long)

    -- behind the first text a blank comes
    pub blank_room : 0 < k → k < length ims → out < length now
    blank_room some h =
        omega (arith, coming_long w whole_long, ap length (rest_next k (texts_in ims body) some (omega (arith, has.counted, h))))

    -- behind all texts, they are the whole
    pub texts_end : length ims ≤ k → now ≡ parted (texts_in ims body)
    texts_end h =
        coming_ends
        (subst (λ (l : List ℕ). Coming now out l (parted (texts_in ims body))) (rest_end k (texts_in ims body) (omega (arith, has.counted))) w)
        whole_long

    -- behind others, the next text comes once its blank is written
    pub text_comes :
        k < length ims
        → {next : List ℕ} {place : ℕ}
        → ((0 < k) × (next ≡ set now out blank_byte) × (place ≡ out + 1)) ⊎ ((k ≡ 0) × (next ≡ now) × (place ≡ out))
        → Separated ims body next place k
    text_comes h {next} {place} =
        let texts : List (List ℕ) = texts_in ims body in
        let more : k < length texts = omega (arith, has.counted) in
        ⊎_elim
        (λ (others : (0 < k) × (next ≡ set now out blank_byte) × (place ≡ out + 1)).
        subst₂ (λ (l : List ℕ) (n : ℕ). Separated ims body l n k) (sym others.1) (sym others.2)
        (coming_byte (subst (λ (l : List ℕ). Coming now out l (parted texts)) (rest_next k texts others.0 more) w) whole_long))
        (λ (first : (k ≡ 0) × (next ≡ now) × (place ≡ out)).
        subst₂ (λ (l : List ℕ) (n : ℕ). Separated ims body l n k) (sym first.1) (sym first.2)
        (subst (λ (l : List ℕ). Coming now out l (parted texts)) (rest_first k texts first.0 more) w))

  module _ (d : Image) {k : ℕ} {rest : List ℕ} (p : Columns ims body k rest) (more : k < length ims) where
    -- the column's image
    abbrev image_at : Image
    image_at = get_or ims k d

    -- it stands before those that are left
    next_image : drop k ims ≡ image_at ∷ drop (suc k) ims
    next_image = drop-cons ims k d more

    -- what its bytes are read as
    next_view : UnpackStep k image_at (drop (suc k) ims) rest (drop k (given (unpack_body ims body)))
    next_view = unpack_view k image_at (drop (suc k) ims) rest (ap (λ (l : List Image). unpack_columns k l rest) (sym next_image) ∙ p.numbers)

    next_size : length rest ≡ column_size image_at + body_size (drop (suc k) ims)
    unfolding body_size
    next_size = p.size ∙ ap body_size next_image

    -- its image has 1 to 13 # signs
    pub column_checked : Checked image_at
    column_checked = checked_at has.checked k d more

    -- its bytes are inside
    pub column_inside : column_size image_at ≤ length rest
    column_inside = omega (arith, next_size)

    -- the next columns
    pub columns_turn : {width : ℕ} → width ≡ column_size image_at → Columns ims body (k + 1) (drop width rest)
    columns_turn {width} wide =
        rw (wide, add-one k)
        (record {
          size = omega (arith, next_size, length-drop (column_size image_at) rest);
          numbers =
              next_view.others
              ∙ ap {B = Answer (List Number)} done (dropped_next (given (unpack_body ims body)) k next_view.joined ∙ ap (λ (j : ℕ). drop j (given (unpack_body ims body))) (add-one k));
        })

    -- its text
    column_text : alpha_under image_at next_view.number ≡ done (get_or (texts_in ims body) k [])
    column_text =
        ap (alpha_under image_at) (dropped_item (given (unpack_body ims body)) k zero_number next_view.joined ∙ ap (λ (l : List Number). get_or l k zero_number) numbers_are)
        ∙ (texts_at has.checked has.numbers has.exist k d zero_number (omega (arith, has.counted, more))).1

    -- which is as long as the image says
    pub text_long : length (get_or (texts_in ims body) k []) ≡ text_length image_at
    text_long = alpha_under_length image_at next_view.number column_text

    module _ {width : ℕ} {bytes : List ℕ} (wide : width ≡ column_size image_at) (part : bytes ≡ take width rest) where
      -- the column can be read
      column_number : unpack_column k image_at bytes ≡ done next_view.number
      column_number = ap (unpack_column k image_at) (part ∙ ap (λ (j : ℕ). take j rest) wide) ∙ next_view.first

      column_long : length bytes ≡ column_size image_at
      column_long = ap length part ∙ length-take-le width rest (omega (arith, wide, column_inside)) ∙ wide

      column_zero : unpack_column 0 image_at bytes ≡ done next_view.number
      column_zero = column_any image_at column_checked k bytes column_long column_number 0

      pub column_reads : checked_only (unpack_column 0 image_at bytes) ≡ done tt
      unfolding checked_only
      column_reads = ap checked_only column_zero

      -- to its text
      pub column_writes : {text : List ℕ} → done text ≡ (unpack_column 0 image_at bytes then λ n. alpha_under image_at n) → text ≡ get_or (texts_in ims body) k []
      unfolding ◌then◌
      column_writes {text} h = done_same (h ∙ ap (λ (a : Answer Number). a then λ n. alpha_under image_at n) column_zero ∙ column_text)

    module _ {now : List ℕ} {out : ℕ} (w : Separated ims body now out k) (long : suc (length now) ≡ line_length ims) where
      -- there is room for the text
      pub text_room : out + text_length image_at ≤ length now
      text_room = omega (arith, coming_room (get_or (texts_in ims body) k []) (texts_rest (k + 1) (texts_in ims body)) w (omega (arith, has.long)), text_long)

      -- and what comes behind it
      pub text_turns :
          {n m : ℕ} {text : List ℕ}
          → n ≡ text_length image_at
          → m ≡ text_length image_at
          → text ≡ get_or (texts_in ims body) k []
          → Texting ims body (put_mid out n now text) (out + m) (k + 1)
      text_turns one two same =
          coming_bytes (get_or (texts_in ims body) k []) (texts_rest (k + 1) (texts_in ims body)) w (omega (arith, has.long)) (two ∙ sym text_long)
          (lent_written now out (get_or (texts_in ims body) k []) (one ∙ sym text_long) same)

-- The texts into a buffer.

-- a contents has two bytes more than its bodies' texts
pub texts_size : {ims : List Image} {size : ℕ} → Sound ims → size ≡ length (contents_bytes ims) → (2 ≤ size) × (suc (size - 2) ≡ line_length ims)
texts_size {ims} sound same =
    let some = line_some ims sound in
    let long = contents_length ims in
    (omega (arith, long), omega (arith, long))

module _ {ims : List Image} {body : List ℕ} (has : HasTexts ims body) (buffer : List ℕ) {size : ℕ} (long : suc size ≡ line_length ims) where
  -- where there is no room
  pub texts_long : length buffer < size → writing_texts ims body (length buffer) ≡ refused 6 0
  unfolding writing_texts within
  texts_long few =
      then_next (within (length buffer)) (sym (text_is has))
      ∙ (rw (lt-ltb (length buffer) (length (parted (texts_in ims body))) (omega (arith, has.long))) refl)

  -- and where there is
  pub texts_fit : {text : List ℕ} → size ≤ length buffer → done text ≡ body_text ims body → (writing_texts ims body (length buffer) ≡ done text) × (length text ≡ size)
  unfolding writing_texts within
  texts_fit {text} fits h =
      let same : text ≡ parted (texts_in ims body) = done_same (h ∙ sym (text_is has)) in
      let sized : length text ≡ size = omega (arith, ap length same, has.long) in
      (then_next (within (length buffer)) (sym h) ∙ rw (le-ltb (length buffer) (length text) (omega arith)) refl, sized)
