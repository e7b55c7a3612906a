-- The refusals that the two calls of document 02, (vii), can give, and no others; 18 exactly where the place is another; 6 never where the body
-- that was foretold has its room. Assumes nothing.
use Prim.Native.Nat.{ℕ, ◌+◌, ◌-◌, ◌≤◌}
use mathlib.Core.Path.{◌≡◌, refl, ap, sym, ◌∙◌}
use mathlib.Core.Bool.{Bool}
use mathlib.Core.List.{List}
use mathlib.Core.Logic.{⊎_elim}
use native.Mathlib.Omega.{arith}
use lib.ListN.{length}
use borrow.Author.Tests.{le-ltb}
use Rattle.decimal.specs.declared.number.Number.{Number}
use Rattle.decimal.specs.Answer.{Answer, done, refused, ◌then◌, pick}
use Rattle.decimal.proofs.AnswerLaws.{never_done}
use Rattle.decimal.proofs.RefusalLaws.{RefusesOnly, only_done, only_refused, only_then}
use Rattle.codec.specs.Answers.{within}
use Rattle.codec.specs.Packing.{pack_list}
use Rattle.codec.proofs.BodyLaws.{packed_length}
use Rattle.codec.proofs.RefusalLaws.{list_refusals}
use Rattle.records.specs.declared.files.reserving.Reservation.{Reservation}
use Rattle.records.specs.Files.RecordFile.{read_used, added}
use Rattle.records.specs.Files.Reserving.{reserved, filled}
use Rattle.records.specs.Files.TwoCalls.{Differs, WriteRefusable}
use Rattle.records.specs.Files.Adding.{FileRefusable}
use Rattle.records.proofs.FileProofs.RefusalLaws.{used_refused, added_refusals, add_refusals}
use Rattle.records.proofs.FileProofs.FileLaws.{added_packed}
use Rattle.records.proofs.FileProofs.ReserveLaws.{same_or_differs, filled_same}
use Rattle.records.proofs.FileProofs.ReserveTheorem.{Reserves, reserves_told, filled_next, write_exactly}

-- Published: the first call gives 1, 2, 10 and 11 alone, "and never 6";
pub reserve_refusals : (buffer : List ℕ) (used : ℕ) {number place : ℕ} → reserved buffer used ≡ refused number place → FileRefusable number place
unfolding reserved
reserve_refusals buffer used h =
    (only_then {kind = FileRefusable} (read_used buffer used) (used_refused buffer used) (λ table. only_done)).each h

-- Published: the second what the old call gives, and 18.
pub write_refusals :
    (buffer : List ℕ) (used : ℕ) (r : Reservation) (ns : List Number) {number place : ℕ}
    → filled buffer used r ns ≡ refused number place
    → WriteRefusable number place
write_refusals buffer used r ns h =
    ⊎_elim (λ e. WriteRefusable.old (add_refusals buffer used ns (sym (filled_same buffer used r ns e) ∙ h)))
    (λ d. (only_refused {kind = WriteRefusable} {A = List ℕ} WriteRefusable.other_place).each (sym ((write_exactly buffer used r ns).0 d) ∙ h))
    (same_or_differs buffer used r)

-- any number but one
abbrev not_number : ℕ → ℕ → ℕ → Type 0
not_number k number place = number ≡ k → ⊥

-- the old call never gives 18
added_never : (buffer : List ℕ) (used : ℕ) (ns : List Number) → RefusesOnly (not_number 18) (added buffer used ns)
added_never buffer used ns =
    added_refusals {kind = not_number 18} (λ column. λ z. absurd (omega arith)) (λ column. λ z. absurd (omega arith)) (λ z. absurd (omega arith))
    (λ column. λ z. absurd (omega arith)) (λ column. λ z. absurd (omega arith)) (λ column. λ z. absurd (omega arith)) buffer used ns
    (λ z. absurd (omega arith)) (λ z. absurd (omega arith))

-- Published: so 18 is said exactly where the file's used length, or the body's size under its contents, is not the one in the answer.
pub differs_exactly :
    (buffer : List ℕ) (used : ℕ) (r : Reservation) (ns : List Number)
    → (filled buffer used r ns ≡ refused 18 0 → Differs buffer used r)
    × (Differs buffer used r → filled buffer used r ns ≡ refused 18 0)
differs_exactly buffer used r ns = (
  λ h.
      ⊎_elim (λ e. absurd ((added_never buffer used ns).each (sym (filled_same buffer used r ns e) ∙ h) refl)) (λ d. d) (same_or_differs buffer used r),
  (write_exactly buffer used r ns).0,
)

-- Published: where the body that the first call foretold has its room, the second is not refused with 6.
pub room_enough :
    (buffer : List ℕ) (used : ℕ) (ns : List Number) {r : Reservation} {place : ℕ}
    → reserved buffer used ≡ done r
    → r.start + r.size ≤ length buffer
    → filled buffer used r ns ≡ refused 6 place
    → ⊥
unfolding within ◌then◌
room_enough buffer used ns {r} {place} first room h = go (pack_list t.table.images ns) refl (sym packed ∙ h)
  where
    t : Reserves buffer used r
    t = reserves_told buffer used first

    packed : filled buffer used r ns ≡ (pack_list t.table.images ns then within (length buffer - used))
    packed = filled_next buffer used ns first ∙ added_packed buffer used ns t.reads

    go : (a : Answer (List ℕ)) → pack_list t.table.images ns ≡ a → (a then within (length buffer - used)) ≡ refused 6 place → ⊥
    go (done body) e q =
        let long = packed_length t.table.images ns e in
        let start = t.start in
        let size = t.size in
        let fits : length body ≤ length buffer - used = omega arith in
        never_done (sym q ∙ ap (λ (b : Bool). pick b (refused 6 0) (done body)) (le-ltb (length buffer - used) (length body) fits))
    go (refused number place) e q =
        let z : number ≡ 6 = cc in
        (list_refusals {kind = not_number 6} (λ column. λ z. absurd (omega arith)) (λ column. λ z. absurd (omega arith)) (λ column. λ z. absurd (omega arith))
        (λ column. λ z. absurd (omega arith)) (λ column. λ z. absurd (omega arith)) t.table.images ns (λ z. absurd (omega arith))).each e z
