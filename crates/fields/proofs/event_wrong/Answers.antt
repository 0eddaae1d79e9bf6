-- `event_wrong` meets its contract: each answer by what the form names. Assumes nothing.
use Rattle.format.proofs.FieldLaws.{event-wrong-as}
use Rattle.fields.proofs.event_wrong.Goals as goal

pub returns-in-Some-Kind : goal.returns-in-Some-Kind
returns-in-Some-Kind c t h = rw (event-wrong-as, ← c.event_of.ensures, c.in-Some-Kind.is, c.in-Some-Kind.field-0-is, h, c.from.ensures)

pub returns-in-Some-StageOf : goal.returns-in-Some-StageOf
returns-in-Some-StageOf c t h = rw (event-wrong-as, ← c.event_of.ensures, c.in-Some-StageOf.is, c.in-Some-StageOf.field-0-is)

pub returns-in-None : goal.returns-in-None
returns-in-None c t h = rw (event-wrong-as, ← c.event_of.ensures, c.in-None.is)
