-- `write_schema` meets its contract: the rows of the records so far are put, those of the records that are left are left. Assumes nothing.
use mathlib.Core.Path.{◌≡◌}
use mathlib.Core.List.{◌∷◌}
use Rattle.meaning.specs.Lists.{All}
use Rattle.format.specs.Fields.{terms_of}
use Rattle.records.specs.Holds.{Stands, places_in}
use Rattle.records.specs.Walk.{places_left}
use Rattle.records.proofs.Places.{places-stand}
use Rattle.report.specs.Shown.{record_rows}
use Rattle.report.proofs.RowSteps.{log-shown}
use Rattle.report.proofs.Pages.{place-next, place-none, left-all, left-room, left-next, left_end}
use Rattle.report.proofs.rows.write_schema.Goals.{In-Some}
use Rattle.report.proofs.rows.write_schema.Goals as goal

-- a record stands at the place of a turn, and at those that are left
stand : (c : In-Some) → let call = c.args.call.now in All (Stands (terms_of call.terms.now) call.bytes.now) (c.in-Some.at ∷ places_left c.next.new.self)
stand c = rw c.in-Some.ensures.steps at c.loop-at.invariant.0

pub loop-at-init : goal.loop-at-init
loop-at-init c =
    let call = c.args.call.now in
    let all : places_left c.into_iter-at-iterator.result ≡ places_in (terms_of call.terms.now) call.bytes.now =
    rw c.into_iter-at-iterator.ensures.into_iter_gives (rw (c.log.ensures.0, c.log.ensures.1) at c.new-at-items.ensures) in
    rw all (places-stand (terms_of call.terms.now) call.bytes.now, left-all _ _ (log-shown call.terms.now call.bytes.now c.args.schema c.args.moment) c.requires.rows_fit)

pub of-requires-clause-stands : goal.of-requires-clause-stands
of-requires-clause-stands c = (stand c).0

pub write_record-to-requires : goal.write_record-to-requires
write_record-to-requires c =
    let rows = record_rows c.args.call.now.terms.now c.args.call.now.bytes.now c.args.schema c.args.moment in
    rw (c.of.ensures.0, c.of.ensures.1, c.of.ensures.2, c.of.ensures.3) (left-room c.loop-at.invariant.1 _ _ (place-next rows c.in-Some.ensures.steps))

pub loop-at-preserved : goal.loop-at-preserved
loop-at-preserved c =
    let rows = record_rows c.args.call.now.terms.now c.args.call.now.bytes.now c.args.schema c.args.moment in
    ((stand (goal.at.loop-at-preserved c).In-Some).1, left-next c.loop-at.invariant.1 _ _ (place-next rows c.in-Some.ensures.steps) (rw (c.of.ensures.0, c.of.ensures.1, c.of.ensures.2, c.of.ensures.3) at c.write_record-to.ensures))

pub returns : goal.returns
returns c = left_end c.loop-at.invariant.1 (place-none (record_rows c.args.call.now.terms.now c.args.call.now.bytes.now c.args.schema c.args.moment) c.in-None.ensures.steps.0)
