-- `rows_at_most` meets its contract: no schema has more rows than its bound. Assumes nothing.
use native.Mathlib.Omega.{arith}
use lib.ListN.{length}
use borrow.Author.Rules.{rules}
use borrow.Author.Tests.{tests}
use Rattle.std.specs.List.{range_with_len}
use Rattle.std.proofs.lemmas.Iterator.{YieldsList-from_map}
use Rattle.std.proofs.lemmas.Iterator.Consumers.{sum_by_from_yields_List}
use Rattle.std.proofs.lemmas.Iterator.Adapters.{fits_from_length}
use Rattle.std.proofs.lemmas.List.Sums.{sum_by-le-sum_by}
use Rattle.terms.proofs.Faults.{schemas_count}
use Rattle.report.specs.Shown.{rows_from, most_rows}
use Rattle.report.proofs.Walks.{numbers-road, numbers-few}
use Rattle.report.proofs.RowSteps.{schemas-count}
use Rattle.report.proofs.Most.{schema-most}
use Rattle.report.proofs.rows.rows_at_most.Goals as goal

pub sum-requires-clause-fits : goal.sum-requires-clause-fits
sum-requires-clause-fits c =
    let a = c.args.call.now in
    fits_from_length _ _ 16 _ (numbers-few _ c.map.ensures.source a.terms.now a.placed.1) c.map.ensures.closure (omega arith) (λ x r q k. search (rules, tests))

pub returns : goal.returns
returns c m =
    let a = c.args.call.now in
    let n = a.layout.now.schemas in
    let most = most_rows a.terms.now a.bytes.now in
    let sums = sum_by_from_yields_List most (range_with_len 0 n) c.map.result c.sum.result c.sum.ensures.ran
    (YieldsList-from_map _ _ (numbers-road n c.map.ensures.source) c.map.ensures.closure (λ x r q k. search (rules, tests))) in
    omega (
      arith,
      sums,
      schemas-count a.terms.now a.bytes.now m 0 n (omega (arith, a.placed.1, schemas_count a.terms.now)),
      sum_by-le-sum_by (λ j. length (rows_from a.terms.now a.bytes.now j m 0)) most (range_with_len 0 n) (λ j. schema-most a.terms.now a.bytes.now j m),
    )
