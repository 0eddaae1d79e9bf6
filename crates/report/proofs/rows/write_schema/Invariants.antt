-- What the loop of `write_schema` keeps: a record stands at each place that is left, and the rows of those are left.
use mathlib.Core.List.{flat_map}
use Rattle.meaning.specs.Lists.{All}
use Rattle.format.specs.Fields.{terms_of}
use Rattle.records.specs.Holds.{Stands}
use Rattle.records.specs.Walk.{places_left}
use Rattle.report.specs.Shown.{record_rows, rows_from}
use Rattle.report.proofs.Pages.{Left}
use Rattle.report.proofs.rows.write_schema.Given as goal

abbrev pub invariant-loop-at : goal.invariant-loop-at
invariant-loop-at l =
    let terms = l.call.terms.now in
    let log = l.call.bytes.now in
    All (Stands (terms_of terms) log) (places_left l.at-iterator)
    × Left l.initial.page l.from (rows_from terms log l.schema l.moment 0) l.page l.to (flat_map (record_rows terms log l.schema l.moment) (places_left l.at-iterator))
