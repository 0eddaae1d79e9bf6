-- Each turn takes a case.
use Rattle.cases.specs.Left.{left}
use Rattle.cases.proofs.run_cases.Given as goal

abbrev pub decreases-loop-words : goal.decreases-loop-words
decreases-loop-words g l = left l.words
