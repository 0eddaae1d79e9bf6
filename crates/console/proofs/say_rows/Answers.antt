-- A row that is printed is one more.
use Rattle.std.proofs.Common.{arith, [], ◌∷◌, ◌++◌}
use Rattle.std.proofs.lemmas.Grind.{common_steps}
use Rattle.console.proofs.RowReading.{row_more}
use Rattle.console.proofs.say_rows.Goals as goal

pub loop-preserved : goal.loop-preserved
loop-preserved g c =
    let (rows, whole, long) = c.loop.invariant in
    (rows ++ c.in-Some.row ∷ [], row_more rows c.in-Some.row c.in-Some.left.now whole c.in-Some.ensures.found, grind (arith, common_steps, long))
