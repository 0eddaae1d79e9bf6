-- `leaf_at` meets its contract, by the kind of leaf. Assumes nothing.
use Rattle.fields.proofs.Leaves.{count-as, happening-as}
use Rattle.fields.proofs.leaf_at.Goals as goal

pub returns-in-Count : goal.returns-in-Count
returns-in-Count c = rw (c.unwrap_or.ensures, c.neither.ensures) (count-as _ _ _ c.requires c.in-Count.is c.count_at.ensures)

pub returns-in_default : goal.returns-in_default
returns-in_default c =
    rw (c.unwrap_or-in_default.ensures, c.neither-in_default.ensures) (happening-as _ _ _ c.requires c.in_default.not-Count c.happening_at.ensures)
