-- `shares_none` meets its contract. Assumes nothing.
use native.Mathlib.Omega.{arith}
use Rattle.format.specs.Fields.{shares_none}
use Rattle.meaning.proofs.MaskLaws.{unshared-and}
use Rattle.terms.proofs.shares_none.Goals as goal

pub returns : goal.returns
unfolding shares_none
returns c = rw (← c.kind_of.ensures, ← c.kinds-kinds.ensures.0, ← c.mask_of.ensures, ← c.mask_of-2.ensures) (unshared-and _ _ (omega arith))
