-- `bound_at` meets its contract where an event is read for it, and where no sign is. Assumes nothing.
use mathlib.Core.Path.{sym}
use mathlib.Core.Option.{bind}
use Rattle.format.specs.Bytes.{byte_at}
use Rattle.format.specs.Fields.{bound_of}
use Rattle.fields.proofs.bound_at.Goals as goal

pub returns-in_err-event_of-in-Plus : goal.returns-in_err-event_of-in-Plus
unfolding bound_of byte_at bind
returns-in_err-event_of-in-Plus c =
    rw (c.from_residual.ensures, sym (rw c.in-Plus.is at c.in-Ok.ensures), ← c.in_err-event_of-in-Plus.ensures)

pub returns-in_err-event_of-in-Minus : goal.returns-in_err-event_of-in-Minus
unfolding bound_of byte_at bind
returns-in_err-event_of-in-Minus c =
    rw (c.from_residual-in_err-event_of-in-Minus.ensures, sym (rw c.in-Minus.is at c.in-Ok.ensures), ← c.in_err-event_of-in-Minus.ensures)

pub returns-in_ok-event_of-in-Plus : goal.returns-in_ok-event_of-in-Plus
unfolding bound_of byte_at bind
returns-in_ok-event_of-in-Plus c =
    rw (sym (rw c.in-Plus.is at c.in-Ok.ensures), ← c.in_ok-event_of-in-Plus.ensures, ← c.u32_at-offset.ensures)

pub returns-in_ok-event_of-in-Minus : goal.returns-in_ok-event_of-in-Minus
unfolding bound_of byte_at bind
returns-in_ok-event_of-in-Minus c =
    rw (sym (rw c.in-Minus.is at c.in-Ok.ensures), ← c.in_ok-event_of-in-Minus.ensures, ← c.u32_at-offset.ensures)
