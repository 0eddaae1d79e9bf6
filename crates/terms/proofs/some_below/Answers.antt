-- `some_below` meets its contract: the answer is left to the numbers from `n` on. Assumes nothing.
use native.Mathlib.Omega.{arith}
use mathlib.Core.Path.{sym, ◌∙◌}
use Rattle.terms.proofs.Steps.{left-start, left-found, left-next, left_end}
use Rattle.terms.proofs.some_below.Goals as goal

pub loop-n-init : goal.loop-n-init
loop-n-init g c p h = left-start _ _

pub returns-then-test : goal.returns-then-test
returns-then-test g c p h = left-found _ _ c.loop-n.n (c.loop-n.invariant p h) (omega arith) (sym (h c.loop-n.n _ (omega arith) c.test.ensures) ∙ c.if-test.true)

pub loop-n-preserved : goal.loop-n-preserved
loop-n-preserved g c p h = left-next _ _ c.loop-n.n (c.loop-n.invariant p h) (omega arith) (sym (h c.loop-n.n _ (omega arith) c.test.ensures) ∙ c.if-test.false)

pub returns : goal.returns
returns g c p h = left_end _ _ c.loop-n.n (c.loop-n.invariant p h) (omega arith)
