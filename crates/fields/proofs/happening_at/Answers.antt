-- `happening_at` meets its contract: each answer by what is read so far. Assumes nothing.
use mathlib.Core.Option.{bind}
use Rattle.format.specs.Bytes.{byte_at}
use Rattle.fields.proofs.Leaves.{happening-here}
use Rattle.fields.proofs.happening_at.Goals as goal

pub returns-in_err-event : goal.returns-in_err-event
unfolding byte_at bind
returns-in_err-event c = rw (happening-here, c.from_residual.ensures, ← c.in_err-event.ensures)

pub returns-in_err-lower : goal.returns-in_err-lower
unfolding byte_at bind
returns-in_err-lower c = rw (happening-here, c.from_residual-in_err-lower.ensures, ← c.in_ok-event.ensures, ← c.in_err-lower.ensures)

pub returns-in_err-upper : goal.returns-in_err-upper
unfolding byte_at bind
returns-in_err-upper c =
    rw (happening-here, c.from_residual-in_err-upper.ensures, ← c.in_ok-event.ensures, ← c.in_ok-lower.ensures, ← c.in_err-upper.ensures)

pub returns : goal.returns
unfolding byte_at bind
returns c = rw (happening-here, ← c.in_ok-event.ensures, ← c.in_ok-lower.ensures, ← c.in_ok-upper.ensures)
