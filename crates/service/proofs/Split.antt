-- The header's split of an answer is right: the quotient by 4,294,967,296 is the refusal's number or 0, the remainder is the count or length.
-- For each function that an export calls, of whatever its contract lets it answer: `Learnt` is the toolchain's own reading of the contract, for the arguments a in their
-- order, the answer r, and the arguments s as the call leaves them. Assumes nothing.
use Prim.Native.Nat.{ℕ, ◌<◌}
use native.Mathlib.Omega.{arith}
use mathlib.Core.Path.{◌≡◌, ap, ◌∙◌}
use mathlib.Core.List.{List}
use contract.Lifetimes.{Lfts}
use Rattle.format.specs.Records.{value_width}
use Rattle.calls.specs.Answers.{Answer, packed, unpacked}
use Rattle.calls.specs.Calls.{checked, check_terms, check_log, append, report, served}
use Rattle.calls.proofs.AnswerLaws.{packed-split}
use Rattle.service.proofs.Values.{append-below, report-below}
use Rattle.service.proofs.agreements_check_terms.Reads as check-terms
use Rattle.service.proofs.agreements_check_log.Reads as check-log
use Rattle.service.proofs.agreements_append.Reads as appending
use Rattle.service.proofs.agreements_report.Reads as reporting

-- an answer whose value is below 4,294,967,296
split_below : {r : ℕ} (a : Answer) → a.value < 4294967296 → r ≡ packed a → unpacked r ≡ a
split_below a h e = ap unpacked e ∙ packed-split a h

-- call 1
pub check-terms-splits : (κs : Lfts 1) (a : _) (r : _) (s : _) → check-terms.Learnt κs a r s → let terms = a.0.now in unpacked r ≡ check_terms terms
unfolding check_terms checked
check-terms-splits κs a r s h = split_below _ (omega arith) h

-- call 2
pub check-log-splits : (κs : Lfts 2) (a : _) (r : _) (s : _) → check-log.Learnt κs a r s
    → let terms = a.0.now in let log = a.1.0.now in let used = a.1.1.0 in
    unpacked r ≡ check_log value_width terms log used
unfolding check_log checked
check-log-splits κs a r s h = split_below _ (omega arith) h

-- call 3
pub append-splits : (κs : Lfts 3) (a : _) (r : _) (s : _) → appending.Learnt κs a r s
    → let terms = a.0.now in let log = a.1.0.now in let used = a.1.1.0 in let event = a.1.1.1.0.now in
    unpacked r ≡ (append value_width terms log used event).answer
unfolding served
append-splits κs a r s h = split_below _ (append-below _ _ _ _) (ap (λ (x : ℕ × List ℕ). x.0) h)

-- call 4
pub report-splits : (κs : Lfts 3) (a : _) (r : _) (s : _) → reporting.Learnt κs a r s
    → let terms = a.0.now in let log = a.1.0.now in let used = a.1.1.0 in let moment = a.1.1.1.0 in let page = a.1.1.1.1.0.now in
    unpacked r ≡ (report value_width terms log used moment page).answer
unfolding served
report-splits κs a r s h = split_below _ (report-below _ _ _ _ _) (ap (λ (x : ℕ × List ℕ). x.0) h)
