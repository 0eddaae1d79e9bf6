-- What fills the room stays, and each turn takes two digits.
use Rattle.std.proofs.Common.{◌≤◌, length}
use Rattle.cases.proofs.token.put_digits.Given as goal

abbrev pub invariant-loop-byte : goal.invariant-loop-byte
invariant-loop-byte g l = l.initial.room.filled ≤ l.room.filled

abbrev pub decreases-loop-byte : goal.decreases-loop-byte
decreases-loop-byte g l = length l.rest
