-- `standing` meets its contract: the checks of call 2, then the schema, then the subject, then its entries. Assumes nothing.
use native.Mathlib.Omega.{arith}
use mathlib.Core.Path.{◌≡◌}
use mathlib.Core.List.{List, ◌++◌}
use lib.ListN.{length, take}
use Rattle.std.proofs.lemmas.Result.{err_from_is_err_and}
use Rattle.format.specs.Fields.{terms_of}
use Rattle.format.specs.Records.{value_width}
use Rattle.calls.specs.Calls.{Check, refusal, log_checks}
use Rattle.terms.proofs.Faults.{schemas_count}
use Rattle.event_log.proofs.Checks.{log-kept}
use Rattle.report.specs.Shown.{FoundAt}
use Rattle.report.proofs.Sought.{standing-refused, standing-past, standing-nobody, standing-shown}
use Rattle.report.proofs.standing.Goals.{After-find_subject, In_ok-call}
use Rattle.report.proofs.standing.Goals as goal

-- the log is accepted: what comes after it decides
kept : (c : In_ok-call) → let a = c.args in (more : List Check) → refusal (log_checks value_width a.terms.now a.log.now a.used ++ more) ≡ refusal more
kept c = (log-kept _ _ _ c.in_ok-call.was (rw c.of-outline.ensures at c.check_log_under.ensures.answer)).1

-- how many schemas there are
told : (c : In_ok-call) → c.of-outline.result.layout.schemas ≡ length (terms_of c.args.terms.now).schemas
told c = rw (← c.of-outline.ensures) (omega (arith, c.of-outline.result.laid_out.placed.1, schemas_count c.of-outline.result.terms.now))

-- what is found
found : (c : After-find_subject) → let a = c.args in FoundAt a.terms.now (take a.used a.log.now) a.schema a.key a.moment c.find_subject.result
found c = rw (c.in_ok-call.ensures.bytes.0, c.in_ok-call.ensures.bytes.1, c.of-outline.ensures) at c.find_subject.ensures

pub returns-in_err-call : goal.returns-in_err-call
returns-in_err-call c =
    let a = c.args in
    let p = err_from_is_err_and c.from_residual.result c.from_residual.ensures.1 in
    rw (p.1, p.2) (standing-refused a.terms.now a.log.now a.used a.schema a.key a.moment c.in_err-call.was (rw c.of-outline.ensures at c.check_log_under.ensures.answer))

pub returns-then-outline-schema : goal.returns-then-outline-schema
returns-then-outline-schema c =
    let a = c.args in
    let ok = (goal.at.returns-then-outline-schema c).In_ok-call in
    standing-past a.terms.now a.log.now a.used a.schema a.key a.moment (kept ok) (omega (arith, told ok, c.if-outline-schema.true))

pub returns-in_default : goal.returns-in_default
returns-in_default c =
    let a = c.args in
    let ok = (goal.at.returns-in_default c).In_ok-call in
    standing-nobody a.terms.now a.log.now a.used a.schema a.key a.moment (kept ok) (omega (arith, told ok, c.if-outline-schema.false))
    (rw c.in_default.is at (found (goal.at.returns-in_default c).After-find_subject))

pub returns : goal.returns
returns c =
    let a = c.args in
    let ok = (goal.at.returns c).In_ok-call in
    standing-shown a.terms.now a.log.now a.used a.schema a.key a.moment (kept ok) (omega (arith, told ok, c.if-outline-schema.false)) c.in-Some.at
    (rw c.in-Some.is at (found (goal.at.returns c).After-find_subject))
    (rw (c.of.ensures.0, c.of.ensures.1, c.of.ensures.2, c.of.ensures.3, c.in_ok-call.ensures.bytes.0, c.in_ok-call.ensures.bytes.1, c.of-outline.ensures) at c.entries_of.ensures)
