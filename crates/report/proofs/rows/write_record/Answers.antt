-- `write_record` meets its contract: the rows of the stages before one are put, those of the stages from it on are left. Assumes nothing.
use native.Mathlib.Omega.{arith}
use mathlib.Core.Path.{sym, ◌∙◌}
use Rattle.meaning.specs.Stages.{stages}
use Rattle.format.specs.Records.{row_length}
use Rattle.report.proofs.RowSteps.{record-other}
use Rattle.report.proofs.Pages.{no_rows, rows-whose, stage-next, stage-none, left-all, left-room, left-next, left_end}
use Rattle.report.proofs.rows.write_record.Goals as goal

pub returns-then-not-is_subject : goal.returns-then-not-is_subject
unfolding row_length
returns-then-not-is_subject c =
    rw (record-other _ _ _ _ _ (sym c.is_subject.ensures ∙ c.if-not-is_subject.true)) (omega arith, no_rows c.args.page.now c.args.from)

pub loop-stage-init : goal.loop-stage-init
loop-stage-init c =
    left-all _ _ (rows-whose _ _ _ _ _ c.agreement_of-whose.result (sym c.is_subject.ensures ∙ c.if-not-is_subject.false) c.agreement_of-whose.ensures c.entries_of-entries.ensures) c.requires

pub write_entry-to-requires : goal.write_entry-to-requires
unfolding stages
write_entry-to-requires c =
    rw c.of.ensures (left-room c.loop-stage.invariant _ _ (stage-next c.agreement_of-whose.result c.entries_of-entries.result c.loop-stage.stage-index c.loop-stage-test.true))

pub loop-stage-preserved : goal.loop-stage-preserved
unfolding stages
loop-stage-preserved c =
    left-next c.loop-stage.invariant _ _ (stage-next c.agreement_of-whose.result c.entries_of-entries.result c.loop-stage.stage-index c.loop-stage-test.true) (rw c.of.ensures at c.write_entry-to.ensures)

pub returns : goal.returns
returns c = left_end c.loop-stage.invariant (stage-none _ _ _ c.loop-stage-test.false)
