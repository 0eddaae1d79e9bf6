-- `mask_of` meets its contract: the mask at its place, or none past the last kind. Assumes nothing.
use native.Mathlib.Omega.{arith}
use mathlib.Core.Path.{sym}
use Rattle.format.proofs.KindLaws.{kind-here, mask-here, mask-past}
use Rattle.fields.proofs.kinds.Kinds.mask_of.Goals as goal

pub returns-then-self-k : goal.returns-then-self-k
returns-then-self-k c = let a = c.args in sym (mask-past a.self.terms.now a.kind (omega arith)).0

pub u16_at-requires : goal.u16_at-requires
u16_at-requires c = let a = c.args in omega (arith, (kind-here a.self.terms.now a.kind (omega arith)).1)

pub returns : goal.returns
returns c = rw (c.u16_at.ensures, c.from-k.ensures) (sym (mask-here c.args.self.terms.now c.args.kind (omega arith)))
