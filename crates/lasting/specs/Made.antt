-- Calls 3 and 4 as they were made: with every result, and every buffer or page at exit, that the call's contract allows. A contract is taken
-- as the toolchain states it to a caller (`Learnt`). Assumes nothing: these are definitions.
use Rattle.std.specs.Prelude.{ℕ, ◌≡◌, List}
use contract.Lifetimes.{Lfts}
use denote.Triple.Clauses.{AtExit}
use borrow.Fn.Kinds.{Dens, ended_of}
use Rattle.calls.specs.Answers.{Answer, counted_answer, unpacked}
use Rattle.calls.specs.Calls.{Outcome}
use Rattle.calls.specs.Lasting.{HeldLog}
use Rattle.append.proofs.append.Kinds as append_kinds
use Rattle.append.proofs.append.Reads as append_reads
use Rattle.report.proofs.report.Kinds as report_kinds
use Rattle.report.proofs.report.Reads as report_reads
use Rattle.service.proofs.agreements_append.Reads as served_append_reads
use Rattle.service.proofs.agreements_report.Reads as served_report_reads
use Rattle.lasting.specs.Demand.{AppendRelation, ReportRelation}

-- what can be said of a call with the parameters of append and a result in A: of lifetimes, arguments, result and parameters at exit
abbrev pub AppendContract : Type 0 → Type 1
AppendContract A = (κs : Lfts 3) → Dens κs append_kinds.ps → A → AtExit (ended_of 3 append_kinds.ps append_kinds.r) κs → Type 0

-- a call that meets such a contract; answer_of gives the answer that a result stands for (call 3)
pub record AppendBy (A : Type 0) (contract : AppendContract A) (answer_of : A → Answer) (terms : List ℕ) (held : HeldLog) (event : List ℕ) (outcome : Outcome) : Type 0 where
  -- the lifetimes of the lent slices
  pub lifetimes : Lfts 3
  -- the arguments
  pub lent : Dens lifetimes append_kinds.ps
  -- what is returned
  pub result : A
  -- the parameters at exit
  pub at_exit : AtExit (ended_of 3 append_kinds.ps append_kinds.r) lifetimes
  -- they meet the contract
  pub ensured : contract lifetimes lent result at_exit
  -- the first argument is the terms
  pub of_terms : lent.0.now ≡ terms
  -- the second the buffer
  pub of_buffer : lent.1.0.now ≡ held.buffer
  -- the third the used length
  pub of_used : lent.1.1.0 ≡ held.used
  -- the fourth the event
  pub of_event : lent.1.1.1.0.now ≡ event
  -- the result stands for the answer
  pub answered : answer_of result ≡ outcome.answer
  -- the buffer at exit is what is left
  pub left_at_exit : at_exit.1.0.now ≡ outcome.left

-- what can be said of a call with the parameters of report and a result in A
abbrev pub ReportContract : Type 0 → Type 1
ReportContract A = (κs : Lfts 3) → Dens κs report_kinds.ps → A → AtExit (ended_of 3 report_kinds.ps report_kinds.r) κs → Type 0

-- a call that meets such a contract; answer_of gives the answer that a result stands for (call 4)
pub record ReportBy (A : Type 0) (contract : ReportContract A) (answer_of : A → Answer) (terms : List ℕ) (held : HeldLog) (m : ℕ) (page : List ℕ) (outcome : Outcome) : Type 0 where
  -- the lifetimes of the lent slices
  pub lifetimes : Lfts 3
  -- the arguments
  pub lent : Dens lifetimes report_kinds.ps
  -- what is returned
  pub result : A
  -- the parameters at exit
  pub at_exit : AtExit (ended_of 3 report_kinds.ps report_kinds.r) lifetimes
  -- they meet the contract
  pub ensured : contract lifetimes lent result at_exit
  -- the first argument is the terms
  pub of_terms : lent.0.now ≡ terms
  -- the second the buffer
  pub of_buffer : lent.1.0.now ≡ held.buffer
  -- the third the used length
  pub of_used : lent.1.1.0 ≡ held.used
  -- the fourth the moment
  pub of_moment : lent.1.1.1.0 ≡ m
  -- the fifth the page
  pub of_page : lent.1.1.1.1.0.now ≡ page
  -- the result stands for the answer
  pub answered : answer_of result ≡ outcome.answer
  -- the page at exit is what is left
  pub left_at_exit : at_exit.1.1.1.1.0.now ≡ outcome.left

-- calls of `append::append`
abbrev pub AppendMade : AppendRelation
AppendMade = AppendBy _ append_reads.Learnt counted_answer

-- calls of `report::report`
abbrev pub ReportMade : ReportRelation
ReportMade = ReportBy _ report_reads.Learnt counted_answer

-- calls of `service::agreements_append`, which the export of that name calls
abbrev pub AppendServed : AppendRelation
AppendServed = AppendBy _ served_append_reads.Learnt unpacked

-- calls of `service::agreements_report`, likewise
abbrev pub ReportServed : ReportRelation
ReportServed = ReportBy _ served_report_reads.Learnt unpacked
