-- `kind_wrong` meets its contract: number, mask and key are tested. Assumes nothing.
use mathlib.Core.Bool.{or-true}
use borrow.Author.Tests.{eq-eqb, ne_eqb}
use Rattle.format.specs.Bytes.{byte_at}
use Rattle.format.proofs.KindLaws.{kind-wrong-here}
use Rattle.fields.proofs.kind_wrong.Goals.{then-from-i-via-then-from-i, then-from-i-via-else-from-i+then-mask-eq0}
use Rattle.fields.proofs.kind_wrong.Goals as goal

pub returns-then-from-i : goal.returns-then-from-i
unfolding byte_at
returns-then-from-i c = elim c.then-from-i.branch [
  | then-from-i-via-then-from-i w ↦ rw (kind-wrong-here, ne_eqb _ _ (rw c.from.ensures at w.if-from-i.true))
  | then-from-i-via-else-from-i+then-mask-eq0 w ↦ rw (kind-wrong-here, ← c.u16_at-mask.ensures, eq-eqb _ _ w.if-mask-eq0.true, or-true)
]

pub returns : goal.returns
unfolding byte_at
returns c =
    rw (kind-wrong-here, eq-eqb _ _ (rw c.from.ensures at c.if-from-i.false), ← c.u16_at-mask.ensures, ne_eqb _ _ c.if-mask-eq0.false, c.carries.ensures)
