-- `window_has` meets its contract. Assumes nothing.
use Rattle.terms.proofs.Steps.{window-asked}
use Rattle.terms.proofs.window_has.Goals as goal

pub returns-then-test : goal.returns-then-test
returns-then-test g c p h = rw (window-asked, ← h _ _ c.test.ensures, c.if-test.true)

pub returns-then-bound_has : goal.returns-then-bound_has
returns-then-bound_has g c p h =
    rw (window-asked, ← h _ _ c.test.ensures, c.if-test.false, ← c.bound_has.ensures p h, c.if-bound_has.true)

pub returns : goal.returns
returns g c p h =
    rw (window-asked, ← h _ _ c.test.ensures, c.if-test.false, ← c.bound_has.ensures p h, c.if-bound_has.false) (c.bound_has-2.ensures p h)
