-- Demand 3 in force: the statement of specs/Demand.antt, for every result and all memory at exit that the contracts of calls 3 and 4 allow
-- (specs/Made.antt).
--     calls_last          calls that come to what the model says of them last, by the model's theorem
--     append-by-model     a call of append comes to it where its contract says so;     report-by-model     so does one of report
--     in-force            demand 3 for `append::append` and `report::report`
--     served-in-force     demand 3 for the calls of `service`, which the exports call (`service_c` says it of these)
-- Assumes nothing.
use Prim.Native.Nat.{ℕ}
use mathlib.Core.Path.{◌≡◌, refl, ap, ap₂, sym, subst, ◌∙◌}
use mathlib.Core.List.{List, [], ◌∷◌, map}
use contract.Lifetimes.{Lfts}
use denote.Triple.Clauses.{AtExit}
use borrow.Fn.Kinds.{Dens, ended_of}
use Rattle.format.specs.Records.{value_width}
use Rattle.calls.specs.Answers.{Answer, counted_answer, unpacked}
use Rattle.calls.specs.Calls.{Outcome, outcome, append, report, served}
use Rattle.calls.specs.Lasting.{Accepted, HeldLog, held_after, after_append, after_appends, NoneBefore, report_on}
use Rattle.calls.proofs.Lasts.{report-lasts, alike_same}
use Rattle.append.proofs.append.Kinds as append_kinds
use Rattle.append.proofs.append.Reads as append_reads
use Rattle.report.proofs.report.Kinds as report_kinds
use Rattle.report.proofs.report.Reads as report_reads
use Rattle.service.proofs.Split.{append-splits, report-splits}
use Rattle.service.proofs.agreements_append.Reads as served_append_reads
use Rattle.service.proofs.agreements_report.Reads as served_report_reads
use Rattle.lasting.specs.Demand.{AppendRelation, ReportRelation, AppendCall, held_at_end, MadeInOrder, NoneEarlier, GivenLasts, AlikeGiveSame, CallsLast}
use Rattle.lasting.specs.Made.{AppendContract, AppendBy, ReportContract, ReportBy, AppendMade, ReportMade, AppendServed, ReportServed}

-- appends that come to what the model says of them
abbrev AppendsByModel : AppendRelation → Type 0
AppendsByModel appends =
    (terms : List ℕ) (held : HeldLog) (event : List ℕ) (o : Outcome) → appends terms held event o
    → o ≡ append value_width terms held.buffer held.used event

-- reports that come to what the model says of them
abbrev ReportsByModel : ReportRelation → Type 0
ReportsByModel reports =
    (terms : List ℕ) (held : HeldLog) (m : ℕ) (page : List ℕ) (o : Outcome) → reports terms held m page o
    → o ≡ report_on value_width terms held m page

-- the events that a list brought
abbrev events : List AppendCall → List (List ℕ)
events calls = map (λ (call : AppendCall). call.event) calls

module _ (appends : AppendRelation) (by-model : AppendsByModel appends) (terms : List ℕ) where
  -- the log held after an append is the model's
  after_one : (held : HeldLog) (call : AppendCall) → appends terms held call.event call.outcome → held_after held call.outcome ≡ after_append value_width terms held call.event
  unfolding after_append
  after_one held call made = ap (held_after held) (by-model terms held call.event call.outcome made)

  -- so is the log held after a list of them
  after-all : (held : HeldLog) (calls : List AppendCall) → MadeInOrder appends terms held calls → held_at_end held calls ≡ after_appends value_width terms held (events calls)
  unfolding held_at_end after_appends
  after-all held [] made = refl
  after-all held (call ∷ calls) made =
      after-all (held_after held call.outcome) calls made.1 ∙ ap (λ (h : HeldLog). after_appends value_width terms h (events calls)) (after_one held call made.0)

  -- and what is said of the stamps of accepted events
  none_before : (m : ℕ) (held : HeldLog) (calls : List AppendCall) → MadeInOrder appends terms held calls → NoneEarlier m calls → NoneBefore value_width terms m held (events calls)
  none_before m held [] made late = tt
  none_before m held (call ∷ calls) made late = (
    λ ok. late.0 (subst Accepted (sym (by-model terms held call.event call.outcome made.0)) ok),
    subst (λ (h : HeldLog). NoneBefore value_width terms m h (events calls)) (after_one held call made.0) (none_before m (held_after held call.outcome) calls made.1 late.1),
  )

module _ (appends : AppendRelation) (reports : ReportRelation) (appends-by-model : AppendsByModel appends) (reports-by-model : ReportsByModel reports) where
  -- the first half
  given-lasts : GivenLasts appends reports
  given-lasts terms held m page given made ok calls in_order late m' not-before page' later made' ok' =
      let ends = after-all appends appends-by-model terms held calls in_order in
      let none = none_before appends appends-by-model terms m held calls in_order late in
      let is = reports-by-model terms held m page given made in
      let is' = reports-by-model terms (held_at_end held calls) m' page' later made' ∙ ap (λ (h : HeldLog). report_on value_width terms h m' page') ends in
      rw (is, is') (report-lasts value_width terms held m page (subst Accepted is ok) (events calls) none m' not-before page' (subst Accepted is' ok'))

  -- the second half
  alike-give-same : AlikeGiveSame reports
  alike-give-same terms m held held' page page' one other made ok made' ok' alike =
      let is = reports-by-model terms held m page one made in
      let is' = reports-by-model terms held' m page' other made' in
      rw (is, is') (alike_same value_width terms m held held' page page' (subst Accepted is ok) (subst Accepted is' ok') alike)

  -- both
  calls_last : CallsLast appends reports
  calls_last = (given-lasts, alike-give-same)

-- calls of append whose contract says what the model says
append-by-model : (A : Type 0) (contract : AppendContract A) (answer_of : A → Answer)
    → ((κs : Lfts 3) (a : Dens κs append_kinds.ps) (r : A) (s : AtExit (ended_of 3 append_kinds.ps append_kinds.r) κs) → contract κs a r s
    → outcome (answer_of r) s.1.0.now ≡ append value_width a.0.now a.1.0.now a.1.1.0 a.1.1.1.0.now)
    → AppendsByModel (AppendBy A contract answer_of)
append-by-model A contract answer_of says terms held event o made =
    sym (λ i. outcome (made.answered i) (made.left_at_exit i))
    ∙ says made.lifetimes made.lent made.result made.at_exit made.ensured
    ∙ (λ i. append value_width (made.of_terms i) (made.of_buffer i) (made.of_used i) (made.of_event i))

-- calls of report whose contract says what the model says
report-by-model : (A : Type 0) (contract : ReportContract A) (answer_of : A → Answer)
    → ((κs : Lfts 3) (a : Dens κs report_kinds.ps) (r : A) (s : AtExit (ended_of 3 report_kinds.ps report_kinds.r) κs) → contract κs a r s
    → outcome (answer_of r) s.1.1.1.1.0.now ≡ report value_width a.0.now a.1.0.now a.1.1.0 a.1.1.1.0 a.1.1.1.1.0.now)
    → ReportsByModel (ReportBy A contract answer_of)
unfolding report_on
report-by-model A contract answer_of says terms held m page o made =
    sym (λ i. outcome (made.answered i) (made.left_at_exit i))
    ∙ says made.lifetimes made.lent made.result made.at_exit made.ensured
    ∙ (λ i. report value_width (made.of_terms i) (made.of_buffer i) (made.of_used i) (made.of_moment i) (made.of_page i))

-- demand 3 for the calls of the code, whose contracts are the model's equations
pub in-force : CallsLast AppendMade ReportMade
in-force =
    calls_last AppendMade ReportMade
    (append-by-model _ append_reads.Learnt counted_answer (λ κs a r s says. says))
    (report-by-model _ report_reads.Learnt counted_answer (λ κs a r s says. says))

-- a number that is split into an outcome's answer, and the bytes served with it, are that outcome
served-back : (n : ℕ) (left : List ℕ) (o : Outcome) → (n, left) ≡ served o → unpacked n ≡ o.answer → outcome (unpacked n) left ≡ o
unfolding served
served-back n left o e split = ap₂ outcome split (ap (λ (x : ℕ × List ℕ). x.1) e)

-- demand 3 for the calls of `service`
pub served-in-force : CallsLast AppendServed ReportServed
served-in-force =
    calls_last AppendServed ReportServed
    (append-by-model _ served_append_reads.Learnt unpacked (λ κs a r s says. served-back _ _ _ says (append-splits κs a r s says)))
    (report-by-model _ served_report_reads.Learnt unpacked (λ κs a r s says. served-back _ _ _ says (report-splits κs a r s says)))
