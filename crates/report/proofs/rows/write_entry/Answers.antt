-- `write_entry` meets its contract: one row where the entry is reached. Assumes nothing.
use Rattle.format.specs.Records.{row_length}
use Rattle.report.specs.Shown.{row_by}
use Rattle.report.proofs.Pages.{row_put}
use Rattle.report.proofs.rows.write_entry.Goals as goal

pub returns : goal.returns
unfolding row_by row_length
returns c =
    let a = c.args in
    row_put (row_by a.agreement a.stage) c.in-At.is a.page.now a.to c.put_row.ensures
