-- What fills the room stays: the bytes that are copied are there.
use Rattle.std.proofs.Common.{◌≤◌}
use Rattle.cases.proofs.token.put_copies.Given as goal

abbrev pub invariant-loop : goal.invariant-loop
invariant-loop g l = l.size ≤ l.room.filled
