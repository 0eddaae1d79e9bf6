-- `leaf_wrong` meets its contract, by the kind of leaf. Assumes nothing.
use mathlib.Core.Path.{sym, ◌∙◌}
use Rattle.fields.proofs.Leaves.{wrong-count, wrong-happening}
use Rattle.fields.proofs.leaf_wrong.Goals as goal

pub returns-in-Count : goal.returns-in-Count
returns-in-Count c t h = c.count_wrong.ensures t h ∙ sym (wrong-count t _ _ c.requires c.in-Count.is)

pub returns-in_default : goal.returns-in_default
returns-in_default c t h = c.happening_wrong.ensures t h ∙ sym (wrong-happening t _ _ c.requires c.in_default.not-Count)
