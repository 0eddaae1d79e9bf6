-- A bound is known since its event happens, and never where that never does.
use Rattle.evaluate.proofs.Leaves.{since-first, never-first}
use Rattle.evaluate.proofs.happening_by.Goals as goal

pub returns-in-Some : goal.returns-in-Some
returns-in-Some c = λ clause here. since-first _ _ _ _ c.args.bound c.in_ok-event.event (c.in_ok-event.ensures clause) here c.in-Some.is

pub returns-in-None : goal.returns-in-None
returns-in-None c = λ clause here. never-first _ _ _ _ c.args.bound c.in_ok-event.event (c.in_ok-event.ensures clause) here c.in-None.is
