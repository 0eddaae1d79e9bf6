-- No more than five answers of a case differ.
use Rattle.std.proofs.Common.{◌*◌, ◌≤◌}
use Rattle.compare.proofs.compare_all.Given as goal

abbrev pub invariant-loop-number : goal.invariant-loop-number
invariant-loop-number g l = l.different ≤ 5 * l.number
