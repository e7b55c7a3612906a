-- Laws of the call that enters records, one for each case. Assumes nothing.
use Rattle.std.proofs.Common.{◌≡◌, ℕ, List, refl, sym, ap, arith}
use Rattle.records.specs.Files.Entering.{Entry, entered, rejected, at_line, next_of, sized_entry}
use Rattle.records.proofs.FileProofs.EntryLaws.{never_entered, never_rejected}
use Rattle.hulgyevan.specs.Outcomes.{refusal_word, outcome, value_or}
use Rattle.hulgyevan.specs.Files.{answer_in, line_or}

-- refusals of the call and of lines are not the same
call_no_line : {A B : Type 0} {line number place other third : ℕ} → ◌≡◌ {A = Entry A} (rejected number place) (at_line line other third) → B
call_no_line h = let z : ◌≡◌ {A = ℕ} 0 1 = cc in absurd (omega arith)

-- Each case of the definition.
done_word : (e : Entry (List ℕ)) {size : ℕ} → entered size ≡ sized_entry e → outcome (answer_in e) ≡ 0
unfolding outcome answer_in sized_entry next_of
done_word (entered bytes) h = refl
done_word (rejected number place) h = never_rejected (sym h)
done_word (at_line line number place) h = never_entered (sym h)

done_line : (e : Entry (List ℕ)) (before : ℕ) {size : ℕ} → entered size ≡ sized_entry e → line_or e before ≡ before
unfolding line_or sized_entry next_of
done_line (entered bytes) before h = refl
done_line (rejected number place) before h = never_rejected (sym h)
done_line (at_line line number place) before h = never_entered (sym h)

call_word : (e : Entry (List ℕ)) {number place : ℕ} → rejected number place ≡ sized_entry e → outcome (answer_in e) ≡ refusal_word number place
unfolding outcome answer_in sized_entry next_of
call_word (entered bytes) h = never_rejected h
call_word (rejected n p) {number} {place} h =
    let first : n ≡ number = cc in let second : p ≡ place = cc in λ i. refusal_word (first i) (second i)
call_word (at_line line n p) h = call_no_line h

call_line : (e : Entry (List ℕ)) (before : ℕ) {number place : ℕ} → rejected number place ≡ sized_entry e → line_or e before ≡ 0
unfolding line_or sized_entry next_of
call_line (entered bytes) before h = never_rejected h
call_line (rejected n p) before h = refl
call_line (at_line line n p) before h = call_no_line h

line_word : (e : Entry (List ℕ)) {line number place : ℕ} → at_line line number place ≡ sized_entry e → outcome (answer_in e) ≡ refusal_word number place
unfolding outcome answer_in sized_entry next_of
line_word (entered bytes) h = never_entered h
line_word (rejected n p) h = call_no_line (sym h)
line_word (at_line l n p) {line} {number} {place} h =
    let first : n ≡ number = cc in let second : p ≡ place = cc in λ i. refusal_word (first i) (second i)

line_line : (e : Entry (List ℕ)) (before : ℕ) {line number place : ℕ} → at_line line number place ≡ sized_entry e → line_or e before ≡ line
unfolding line_or sized_entry next_of
line_line (entered bytes) before h = never_entered h
line_line (rejected n p) before h = call_no_line (sym h)
line_line (at_line l n p) before {line} h = cc

-- The file was entered.
module _ (e : Entry (List ℕ)) {size : ℕ} (h : entered size ≡ sized_entry e) where
  pub enter_done_word : outcome (answer_in e) ≡ 0
  enter_done_word = done_word e h

  pub enter_done_size : (before : ℕ) → value_or (answer_in (sized_entry e)) before ≡ size
  unfolding value_or answer_in
  enter_done_size before = sym (ap (λ (a : Entry ℕ). value_or (answer_in a) before) h)

  pub enter_done_line : (before : ℕ) → line_or e before ≡ before
  enter_done_line before = done_line e before h

-- The call was refused.
module _ (e : Entry (List ℕ)) {number place : ℕ} (h : rejected number place ≡ sized_entry e) where
  pub enter_call_word : outcome (answer_in e) ≡ refusal_word number place
  enter_call_word = call_word e h

  pub enter_call_size : (before : ℕ) → value_or (answer_in (sized_entry e)) before ≡ before
  unfolding value_or answer_in
  enter_call_size before = sym (ap (λ (a : Entry ℕ). value_or (answer_in a) before) h)

  pub enter_call_line : (before : ℕ) → line_or e before ≡ 0
  enter_call_line before = call_line e before h

-- A line was.
module _ (e : Entry (List ℕ)) {line number place : ℕ} (h : at_line line number place ≡ sized_entry e) where
  pub enter_line_word : outcome (answer_in e) ≡ refusal_word number place
  enter_line_word = line_word e h

  pub enter_line_size : (before : ℕ) → value_or (answer_in (sized_entry e)) before ≡ before
  unfolding value_or answer_in
  enter_line_size before = sym (ap (λ (a : Entry ℕ). value_or (answer_in a) before) h)

  pub enter_line_line : (before : ℕ) → line_or e before ≡ line
  enter_line_line before = line_line e before h
