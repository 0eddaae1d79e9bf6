-- `key_of` meets its contract: the key at its place, or none past the last kind. Assumes nothing.
use native.Mathlib.Omega.{arith}
use mathlib.Core.Path.{sym}
use Rattle.format.specs.Bytes.{byte_at}
use Rattle.format.proofs.KindLaws.{kind-here, key_here, mask-past}
use Rattle.fields.proofs.kinds.Kinds.key_of.Goals as goal

pub returns-then-self-k : goal.returns-then-self-k
returns-then-self-k c = let a = c.args in sym (mask-past a.self.terms.now a.kind (omega arith)).1

pub bounds-self-k : goal.bounds-self-k
bounds-self-k c = let a = c.args in omega (arith, (kind-here a.self.terms.now a.kind (omega arith)).1)

pub returns : goal.returns
unfolding byte_at
returns c = rw c.from-k.ensures (sym (key_here c.args.self.terms.now c.args.kind (omega arith)))
