-- `find_subject` meets its contract: the first place that is sought. Assumes nothing.
use mathlib.Core.Path.{sym, ◌∙◌}
use borrow.Author.Rules.{rules}
use borrow.Author.Tests.{tests}
use Rattle.std.proofs.lemmas.Iterator.Search.{find_from_yields_List}
use Rattle.std.proofs.lemmas.Iterator.Adapters.{option_map_id}
use Rattle.meaning.specs.Rows.{is_sought}
use Rattle.format.specs.Fields.{terms_of}
use Rattle.evaluate.specs.Seen.{record_in}
use Rattle.records.proofs.Items.{walk-road, serves_at_places}
use Rattle.report.proofs.Sought.{found-at}
use Rattle.report.proofs.find_subject.Goals as goal

pub find-requires-clause-callable : goal.find-requires-clause-callable
find-requires-clause-callable c =
    serves_at_places _ _ (walk-road _ _ c.new.ensures c.log.ensures) (λ x q h. search (rules, tests)) (λ x st. search rules)

pub returns : goal.returns
returns c =
    let a = c.args in
    let terms = a.call.now.terms.now in
    let log = a.call.now.bytes.now in
    found-at terms log a.schema a.key a.moment (
    sym (option_map_id c.find.result)
    ∙ find_from_yields_List (λ at. is_sought (terms_of terms) a.schema a.key a.moment (record_in terms log at)) _ _ c.find.result c.find.ensures.ran
    (walk-road _ _ c.new.ensures c.log.ensures) (λ x b q k. search (rules, tests))
    )
