-- Demand 3 in force speaks of something: calls on the sample share that meet its premises, of the code and of `service`. A report at 45 is
-- given, of a log whose last record is stamped 60; an append stamped 44 is refused, one stamped 45, below the last record, accepted; the report at
-- 46 has one row more, which is struck. Assumes nothing.
use Prim.Native.Nat.{ℕ}
use native.Mathlib.Omega.{arith}
use mathlib.Core.Path.{◌≡◌, refl}
use mathlib.Core.List.{List, [], ◌∷◌, ◌++◌}
use denote.MutBor.{MutBor}
use denote.Ref.{Bor}
use Rattle.calls.specs.declared.Refusal.TheVariants.{KeyPresent}
use Rattle.std.specs.Prelude.{Ok, Err}
use Rattle.format.specs.Records.{value_width}
use Rattle.calls.specs.Answers.{Answer, counted_answer, unpacked}
use Rattle.calls.specs.Calls.{Outcome}
use Rattle.calls.specs.Lasting.{HeldLog, Remains, SameReport}
use Rattle.calls.proofs.Computes.{computes}
use Rattle.calls.proofs.Sample.{terms, log, writing, rest, row, gives}
use Rattle.calls.proofs.Instance.{held, other}
use Rattle.append.proofs.append.Reads as append_reads
use Rattle.report.proofs.report.Reads as report_reads
use Rattle.service.proofs.agreements_append.Reads as served_append_reads
use Rattle.service.proofs.agreements_report.Reads as served_report_reads
use Rattle.lasting.specs.Demand.{AppendRelation, ReportRelation, AppendCall, held_at_end, MadeInOrder, CallsLast}
use Rattle.lasting.specs.Made.{AppendContract, AppendBy, ReportContract, ReportBy, AppendMade, ReportMade, AppendServed, ReportServed}
use Rattle.lasting.proofs.InForce.{in-force, served-in-force}

-- Written (5, 2) again, at 44, is refused with 13; Written (5, 3) at 45 is accepted
abbrev pub calls : List AppendCall
calls =
    record { event = writing 44 2; outcome = gives 13 0 (log 60 ++ rest 24) }
    ∷ record { event = writing 45 3; outcome = gives 0 69 (log 60 ++ (writing 45 3 ++ rest 11)) }
    ∷ []

-- the report at 45 has two rows
abbrev pub given : Outcome
given = gives 0 2 (row 1 10 ++ (row 2 30 ++ rest 18))

-- the report at 46 has three
abbrev pub later : Outcome
later = gives 0 3 (row 1 10 ++ (row 2 30 ++ (row 5 45 ++ rest 6)))

-- the report at 45 of a log that differs from 45 on, on a shorter page
abbrev pub of_other : Outcome
of_other = gives 0 2 (row 1 10 ++ (row 2 30 ++ rest 4))

-- calls of a kind that come to this
pub record Tried (appends : AppendRelation) (reports : ReportRelation) : Type 0 where
  -- the report at 45
  pub given_made : reports terms held 45 (rest 54) given
  -- both appends
  pub appends-made : MadeInOrder appends terms held calls
  -- the report at 46
  pub later-made : reports terms (held_at_end held calls) 46 (rest 60) later
  -- the report of the other log
  pub other-made : reports terms other 45 (rest 40) of_other

-- where demand 3 holds of such calls, it says this of them, in both halves
lasts-of : (appends : AppendRelation) (reports : ReportRelation) → CallsLast appends reports → Tried appends reports
    → Remains value_width 45 given later × SameReport value_width given of_other
unfolding computes
lasts-of appends reports lasts tried = (
  lasts.0 terms held 45 (rest 54) given tried.given_made refl calls tried.appends-made
      (λ e. absurd (omega arith), (λ e. omega arith, tt)) 46 (omega arith) (rest 60) later tried.later-made refl,
  lasts.1 terms 45 held other (rest 54) (rest 40) given of_other tried.given_made refl tried.other-made refl refl,
)

-- bytes as they are lent, at some place of memory
abbrev lent_as : List ℕ → Bor (List ℕ)
lent_as bytes = record { ref_ptr = (0, 0); now = bytes }

-- and as they are lent to be written
abbrev lent_for : List ℕ → MutBor (List ℕ)
lent_for bytes = record { ref_ptr = (0, 0); ghost_name = 0; now = bytes }

-- a result and a buffer at exit that a contract of append allows make a call
append-by : (A : Type 0) (contract : AppendContract A) (answer_of : A → Answer) (held : HeldLog) (event : List ℕ) (result : A) (outcome : Outcome)
    → contract ([], ([], ([], tt))) (lent_as terms, (lent_for held.buffer, (held.used, (lent_as event, tt)))) result (lent_as terms, (lent_for outcome.left, (held.used, (lent_as event, tt))))
    → answer_of result ≡ outcome.answer → AppendBy A contract answer_of terms held event outcome
append-by A contract answer_of held event result outcome ensured answered = record {
  lifetimes = ([], ([], ([], tt)));
  lent = (lent_as terms, (lent_for held.buffer, (held.used, (lent_as event, tt))));
  result = result;
  at_exit = (lent_as terms, (lent_for outcome.left, (held.used, (lent_as event, tt))));
  ensured = ensured;
  of_terms = refl;
  of_buffer = refl;
  of_used = refl;
  of_event = refl;
  answered = answered;
  left_at_exit = refl;
}

-- a result and a page at exit that a contract of report allows make a call
report-by : (A : Type 0) (contract : ReportContract A) (answer_of : A → Answer) (held : HeldLog) (m : ℕ) (page : List ℕ) (result : A) (outcome : Outcome)
    → contract ([], ([], ([], tt))) (lent_as terms, (lent_as held.buffer, (held.used, (m, (lent_for page, tt))))) result (lent_as terms, (lent_as held.buffer, (held.used, (m, (lent_for outcome.left, tt)))))
    → answer_of result ≡ outcome.answer → ReportBy A contract answer_of terms held m page outcome
report-by A contract answer_of held m page result outcome ensured answered = record {
  lifetimes = ([], ([], ([], tt)));
  lent = (lent_as terms, (lent_as held.buffer, (held.used, (m, (lent_for page, tt)))));
  result = result;
  at_exit = (lent_as terms, (lent_as held.buffer, (held.used, (m, (lent_for outcome.left, tt)))));
  ensured = ensured;
  of_terms = refl;
  of_buffer = refl;
  of_used = refl;
  of_moment = refl;
  of_page = refl;
  answered = answered;
  left_at_exit = refl;
}

-- calls of the code
pub made : Tried AppendMade ReportMade
unfolding computes held_at_end
made = record {
  given_made = report-by _ report_reads.Learnt counted_answer held 45 (rest 54) (Ok 2) given refl refl;
  appends-made = (
    append-by _ append_reads.Learnt counted_answer held (writing 44 2) (Err KeyPresent) _ refl refl,
    (append-by _ append_reads.Learnt counted_answer held (writing 45 3) (Ok 69) _ refl refl, tt),
  );
  later-made = report-by _ report_reads.Learnt counted_answer (held_at_end held calls) 46 (rest 60) (Ok 3) later refl refl;
  other-made = report-by _ report_reads.Learnt counted_answer other 45 (rest 40) (Ok 2) of_other refl refl;
}

-- calls of `service`: 55,834,574,848 is 13 times 4,294,967,296
pub made-served : Tried AppendServed ReportServed
unfolding computes held_at_end
made-served = record {
  given_made = report-by _ served_report_reads.Learnt unpacked held 45 (rest 54) 2 given refl refl;
  appends-made = (
    append-by _ served_append_reads.Learnt unpacked held (writing 44 2) 55834574848 _ refl refl,
    (append-by _ served_append_reads.Learnt unpacked held (writing 45 3) 69 _ refl refl, tt),
  );
  later-made = report-by _ served_report_reads.Learnt unpacked (held_at_end held calls) 46 (rest 60) 3 later refl refl;
  other-made = report-by _ served_report_reads.Learnt unpacked other 45 (rest 40) 2 of_other refl refl;
}

-- demand 3 in force, on the calls of the code
pub made-lasts : Remains value_width 45 given later × SameReport value_width given of_other
made-lasts = lasts-of AppendMade ReportMade in-force made

-- and on those of `service`
pub served-lasts : Remains value_width 45 given later × SameReport value_width given of_other
served-lasts = lasts-of AppendServed ReportServed served-in-force made-served
