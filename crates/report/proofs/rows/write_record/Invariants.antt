-- What the loop of `write_record` keeps: the rows of the stages that are left are left.
use mathlib.Core.List.{flat_map}
use lib.ListN.{drop}
use Rattle.meaning.specs.Stages.{stages}
use Rattle.report.specs.Wanted.{rows_asked}
use Rattle.report.proofs.Pages.{Left, stage_rows}
use Rattle.report.proofs.rows.write_record.Given as goal

abbrev pub invariant-loop-stage : goal.invariant-loop-stage
invariant-loop-stage l =
    Left l.initial.page l.from (rows_asked l.asked) l.page l.to (flat_map (stage_rows l.whose l.entries) (drop l.stage-index stages))
