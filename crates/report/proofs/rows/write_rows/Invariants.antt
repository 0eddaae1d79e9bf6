-- What the loop of `write_rows` keeps.
use Rattle.report.specs.Shown.{schemas_from}
use Rattle.report.proofs.Pages.{Left}
use Rattle.report.proofs.rows.write_rows.Given as goal

abbrev pub invariant-loop-schema : goal.invariant-loop-schema
invariant-loop-schema l =
    let rows = schemas_from l.call.terms.now l.call.bytes.now l.moment in
    Left l.initial.page 0 (rows 0) l.page l.to (rows l.schema)
