-- `count_record` meets its contract: none for another kind, else one for each entry with a time. Assumes nothing.
use native.Mathlib.Omega.{arith}
use mathlib.Core.Path.{ap, sym, ◌∙◌}
use mathlib.Core.List.{flat_map}
use lib.ListN.{length}
use borrow.Author.Rules.{rules}
use borrow.Author.Tests.{tests}
use Rattle.std.proofs.lemmas.Iterator.{YieldsList-from_slice, YieldsList-from_map}
use Rattle.std.proofs.lemmas.Iterator.Consumers.{YieldsList-at, sum_by_from_yields_List}
use Rattle.std.proofs.lemmas.Iterator.Adapters.{at_most_from_yields_List, fits_from_length}
use Rattle.std.proofs.lemmas.List.Concat.{length-flat_map}
use Rattle.meaning.specs.declared.Stage.{Stage}
use Rattle.meaning.specs.Stages.{stages}
use Rattle.meaning.specs.Rows.{row_of, row_at, entry}
use Rattle.report.specs.Wanted.{terms_asked, record_asked}
use Rattle.report.proofs.RowSteps.{record-other, record-shown}
use Rattle.report.proofs.Most.{record-five}
use Rattle.report.proofs.rows.count_record.Goals as goal

pub returns-then-not-is_subject : goal.returns-then-not-is_subject
returns-then-not-is_subject c = (sym (ap length (record-other _ _ _ _ _ (sym c.is_subject.ensures ∙ c.if-not-is_subject.true))), omega arith)

pub sum-requires-clause-fits : goal.sum-requires-clause-fits
unfolding stages
sum-requires-clause-fits c =
    fits_from_length _ _ 5 _ (at_most_from_yields_List (YieldsList-at c.map.ensures.source (YieldsList-from_slice stages cc)) (omega arith)) c.map.ensures.closure (omega arith) (λ x r q k. search (rules, tests))

pub returns : goal.returns
unfolding stages flat_map
returns c =
    let a = c.args.asked.now in
    let e = c.entries_of-entries.result in
    let rows = λ (s : Stage). row_at (row_of (terms_asked a) a.schema (record_asked a) s) (entry s e) in
    let shown = record-shown a.subject.call.now.terms.now a.subject.call.now.bytes.now a.schema a.moment a.subject.at (sym c.is_subject.ensures ∙ c.if-not-is_subject.false) c.entries_of-entries.ensures in
    let sums = sum_by_from_yields_List (λ s. length (rows s)) stages c.map.result c.sum.result c.sum.ensures.ran
    (YieldsList-from_map _ (λ s. length (rows s)) (YieldsList-at c.map.ensures.source (YieldsList-from_slice stages cc)) c.map.ensures.closure (λ x r q k. search (rules, tests))) in
    let result = sums ∙ sym (length-flat_map rows stages) ∙ sym (ap length shown) in
    (result, omega (arith, result, record-five a.subject.call.now.terms.now a.subject.call.now.bytes.now a.schema a.moment a.subject.at))
