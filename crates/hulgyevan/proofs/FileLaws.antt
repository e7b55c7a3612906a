-- Laws of the calls for record files. Assumes nothing.
use Rattle.std.proofs.Common.{◌≡◌, ℕ, ◌-◌, ◌≤◌, List, sym, ap, ◌∙◌, arith}
use Rattle.std.specs.declared.ops.Range.{Range}
use Rattle.decimal.specs.Answer.{Answer, done, refused, mapped}
use Rattle.decimal.proofs.AnswerLaws.{mapped_back, mapped_refused_back}
use Rattle.records.specs.Files.RecordFile.{Part, shown, range_of}
use Rattle.records.proofs.FileProofs.FileLaws.{range_shown}
use Rattle.hulgyevan.specs.Outcomes.{refusal_word, outcome, value_or}
use Rattle.hulgyevan.specs.Files.{part_start, part_size}
use Rattle.hulgyevan.proofs.OutcomeLaws.{outcome_done, outcome_refused}

-- the range of a record that is shown has its start before its end
pub range_ordered : (file : List ℕ) (index : ℕ) {q : Range ℕ} → done q ≡ mapped range_of (shown file index) → q.start ≤ q.end
range_ordered file index h = (range_shown file index h).ordered

-- The part of a file that the code finds.
module _ (a : Answer Part) where
  pub shown_refused : {number place : ℕ} → refused number place ≡ mapped range_of a → outcome a ≡ refusal_word number place
  shown_refused h = outcome_refused (sym (mapped_refused_back range_of a h))

  module _ {q : Range ℕ} (h : done q ≡ mapped range_of a) where
    pub shown_word : outcome a ≡ 0
    shown_word = outcome_done (sym (mapped_back range_of a h).1)

    pub shown_start : (before : ℕ) → value_or (mapped part_start a) before ≡ q.start
    unfolding value_or mapped
    shown_start before =
        let t = mapped_back range_of a h in
        ap (λ (x : Answer Part). value_or (mapped part_start x) before) t.1 ∙ sym (ap (λ (r : Range ℕ). r.start) t.2)

    pub shown_size : (before : ℕ) → value_or (mapped part_size a) before ≡ q.end - q.start
    unfolding value_or mapped
    shown_size before =
        let t = mapped_back range_of a h in
        let first = ap (λ (r : Range ℕ). r.start) t.2 in
        let last = ap (λ (r : Range ℕ). r.end) t.2 in
        ap (λ (x : Answer Part). value_or (mapped part_size x) before) t.1 ∙ omega arith
