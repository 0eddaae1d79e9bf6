-- `report` meets its contract: the checks of call 2, then the page's length, then the rows. Assumes nothing.
use mathlib.Core.Path.{◌≡◌, ◌∙◌}
use mathlib.Core.List.{List, ◌++◌}
use Rattle.std.proofs.lemmas.Result.{err_from_is_err_and}
use Rattle.format.specs.Records.{value_width}
use Rattle.calls.specs.Calls.{Check, refusal, log_checks}
use Rattle.event_log.proofs.Checks.{log-kept}
use Rattle.report.proofs.Reports.{report-refused, report-short, report-written}
use Rattle.report.proofs.report.Goals.{In_ok-call}
use Rattle.report.proofs.report.Goals as goal

-- the log is accepted: what comes after it decides
kept : (c : In_ok-call) → let a = c.args in (more : List Check) → refusal (log_checks value_width a.terms.now a.log.now a.used ++ more) ≡ refusal more
kept c = (log-kept _ _ _ c.in_ok-call.was (rw c.of-outline.ensures at c.check_log_under.ensures.answer)).1

pub returns-in_err-call : goal.returns-in_err-call
returns-in_err-call c =
    let a = c.args in
    let p = err_from_is_err_and c.from_residual.result c.from_residual.ensures.1 in
    rw (p.1, p.2) (report-refused a.terms.now a.log.now a.used a.moment a.page.now c.in_err-call.was (rw c.of-outline.ensures at c.check_log_under.ensures.answer))

pub returns-then-too_short : goal.returns-then-too_short
returns-then-too_short c =
    let a = c.args in
    let call = c.in_ok-call.ensures.bytes in
    report-short a.terms.now a.log.now a.used a.moment a.page.now (kept (goal.at.returns-then-too_short c).In_ok-call) (call.0 ∙ c.of-outline.ensures) call.1
    c.too_short.ensures c.if-too_short.true

pub returns : goal.returns
returns c =
    let a = c.args in
    let call = c.in_ok-call.ensures.bytes in
    report-written a.terms.now a.log.now a.used a.moment a.page.now (kept (goal.at.returns c).In_ok-call) (call.0 ∙ c.of-outline.ensures) call.1
    c.too_short.ensures c.if-too_short.false c.write_rows.ensures
