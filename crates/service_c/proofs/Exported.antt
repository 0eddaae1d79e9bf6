-- What is proved of the four functions of `service` holds of the exports: both promise the same of the same arguments. `Learnt` is the
-- toolchain's own reading of a contract, for the arguments a in their order, the answer r, and the arguments s as the call leaves them.
--     …-splits              the header's split of an export's answer is right
--     exported-in-force     demand 3 for the exports of calls 3 and 4
-- Assumes nothing.
use mathlib.Core.Path.{◌≡◌}
use contract.Lifetimes.{Lfts}
use Rattle.format.specs.Records.{value_width}
use Rattle.calls.specs.Answers.{unpacked}
use Rattle.calls.specs.Calls.{check_terms, check_log, append, report}
use Rattle.service.proofs.Split as split
use Rattle.lasting.specs.Demand.{AppendRelation, ReportRelation, CallsLast}
use Rattle.lasting.specs.Made.{AppendBy, ReportBy}
use Rattle.lasting.proofs.InForce.{served-in-force}
use Rattle.service_c.proofs.agreements_check_terms.Reads as check-terms
use Rattle.service_c.proofs.agreements_check_log.Reads as check-log
use Rattle.service_c.proofs.agreements_append.Reads as appending
use Rattle.service_c.proofs.agreements_report.Reads as reporting

-- call 1
pub check-terms-splits : (κs : Lfts 1) (a : _) (r : _) (s : _) → check-terms.Learnt κs a r s → let terms = a.0.now in unpacked r ≡ check_terms terms
check-terms-splits = split.check-terms-splits

-- call 2
pub check-log-splits : (κs : Lfts 2) (a : _) (r : _) (s : _) → check-log.Learnt κs a r s
    → let terms = a.0.now in let log = a.1.0.now in let used = a.1.1.0 in
    unpacked r ≡ check_log value_width terms log used
check-log-splits = split.check-log-splits

-- call 3
pub append-splits : (κs : Lfts 3) (a : _) (r : _) (s : _) → appending.Learnt κs a r s
    → let terms = a.0.now in let log = a.1.0.now in let used = a.1.1.0 in let event = a.1.1.1.0.now in
    unpacked r ≡ (append value_width terms log used event).answer
append-splits = split.append-splits

-- call 4
pub report-splits : (κs : Lfts 3) (a : _) (r : _) (s : _) → reporting.Learnt κs a r s
    → let terms = a.0.now in let log = a.1.0.now in let used = a.1.1.0 in let moment = a.1.1.1.0 in let page = a.1.1.1.1.0.now in
    unpacked r ≡ (report value_width terms log used moment page).answer
report-splits = split.report-splits

-- calls of the export `agreements_append`
abbrev pub AppendExported : AppendRelation
AppendExported = AppendBy _ appending.Learnt unpacked

-- calls of the export `agreements_report`
abbrev pub ReportExported : ReportRelation
ReportExported = ReportBy _ reporting.Learnt unpacked

-- demand 3 for the exports
pub exported-in-force : CallsLast AppendExported ReportExported
exported-in-force = served-in-force
