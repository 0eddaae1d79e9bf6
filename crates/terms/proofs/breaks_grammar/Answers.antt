-- `breaks_grammar` meets its contract. Assumes nothing.
use mathlib.Core.Bool.{or-true}
use borrow.Author.Tests.{eq-eqb, ne_eqb}
use Rattle.terms.proofs.Faults.{grammar-here}
use Rattle.terms.proofs.breaks_grammar.Goals.{then-layout-eq0-via-then-layout-eq0, then-layout-eq0-via-else-layout-eq0+then-layout-eq0-2}
use Rattle.terms.proofs.breaks_grammar.Goals as goal

pub returns-then-layout-eq0 : goal.returns-then-layout-eq0
returns-then-layout-eq0 c = elim c.then-layout-eq0.branch [
  | then-layout-eq0-via-then-layout-eq0 w ↦ rw (grammar-here _ _ c.args.outline.now.laid_out, eq-eqb _ _ w.if-layout-eq0.true)
  | then-layout-eq0-via-else-layout-eq0+then-layout-eq0-2 w ↦ rw (grammar-here _ _ c.args.outline.now.laid_out, eq-eqb _ _ w.if-layout-eq0-2.true, or-true)
]

pub returns : goal.returns
returns c = rw (grammar-here _ _ c.args.outline.now.laid_out, ne_eqb _ _ c.if-layout-eq0.false, ne_eqb _ _ c.if-layout-eq0-2.false)
