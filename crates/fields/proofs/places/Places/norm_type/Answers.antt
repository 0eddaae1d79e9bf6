-- `norm_type` meets its contract: the first byte of the head. Assumes nothing.
use mathlib.Core.Path.{sym, ◌∙◌}
use Rattle.format.specs.Bytes.{byte_at}
use Rattle.fields.proofs.Schemas.{type-here}
use Rattle.fields.proofs.places.Places.norm_type.Goals as goal

pub returns : goal.returns
unfolding byte_at
returns c = c.norm_type_of.ensures ∙ rw c.head_at.ensures.0 (sym (type-here _ _ _ c.args.self.placed.2 c.requires))
