-- `count_schema` meets its contract: the rows of all records are added. Assumes nothing.
use native.Mathlib.Omega.{arith}
use mathlib.Core.Path.{ap, sym, ◌∙◌}
use mathlib.Core.List.{flat_map}
use lib.ListN.{length}
use borrow.Author.Rules.{rules}
use borrow.Author.Tests.{tests}
use Rattle.std.proofs.lemmas.Iterator.{YieldsList-from_map}
use Rattle.std.proofs.lemmas.Iterator.Consumers.{YieldsList-at, sum_by_from_yields_List}
use Rattle.std.proofs.lemmas.Iterator.Adapters.{at_most_from_yields_List, fits_from_length}
use Rattle.std.proofs.lemmas.List.Concat.{length-flat_map}
use Rattle.format.specs.Fields.{terms_of}
use Rattle.records.specs.Holds.{places_in}
use Rattle.report.specs.Shown.{record_rows}
use Rattle.records.proofs.Items.{walk-road, serves_at_places}
use Rattle.report.proofs.RowSteps.{log-shown}
use Rattle.report.proofs.Most.{log-places, log-few}
use Rattle.report.proofs.rows.count_schema.Goals as goal

pub sum-requires-clause-can : goal.sum-requires-clause-can
sum-requires-clause-can c =
    let road = YieldsList-at c.map.ensures.source (walk-road _ _ c.new.ensures c.log.ensures) in
    (tt, serves_at_places _ _ road (λ x q h. search (rules, tests)) (λ x st. search rules))

pub sum-requires-clause-fits : goal.sum-requires-clause-fits
sum-requires-clause-fits c =
    let a = c.args.call.now in
    let road = YieldsList-at c.map.ensures.source (walk-road _ _ c.new.ensures c.log.ensures) in
    fits_from_length _ _ 32768 _ (at_most_from_yields_List road (omega (arith, log-places (terms_of a.terms.now) a.bytes.now, a.indexed.short)))
    c.map.ensures.closure (omega arith) (λ x r q k. search (rules, tests))

pub returns : goal.returns
unfolding flat_map
returns c =
    let a = c.args.call.now in
    let places = places_in (terms_of a.terms.now) a.bytes.now in
    let rows = record_rows a.terms.now a.bytes.now c.args.schema c.args.moment in
    let road = YieldsList-at c.map.ensures.source (walk-road _ _ c.new.ensures c.log.ensures) in
    let sums = sum_by_from_yields_List (λ at. length (rows at)) places c.map.result c.sum.result c.sum.ensures.ran (YieldsList-from_map _ _ road c.map.ensures.closure (λ x r q k. search (rules, tests))) in
    let few = log-few a.terms.now a.bytes.now c.args.schema c.args.moment in
    let result = sums ∙ sym (length-flat_map rows places) ∙ sym (ap length (log-shown a.terms.now a.bytes.now c.args.schema c.args.moment)) in
    (result, omega (arith, result, few, a.indexed.short))
