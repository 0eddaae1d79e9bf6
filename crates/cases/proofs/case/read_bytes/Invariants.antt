-- Each turn takes a token.
use Rattle.std.proofs.Common.{◌≤◌}
use Rattle.cases.specs.Left.{left}
use Rattle.cases.proofs.case.read_bytes.Given as goal

abbrev pub invariant-loop-word : goal.invariant-loop-word
invariant-loop-word g l = left l.words ≤ left l.initial.words

abbrev pub decreases-loop-word : goal.decreases-loop-word
decreases-loop-word g l = left l.words
