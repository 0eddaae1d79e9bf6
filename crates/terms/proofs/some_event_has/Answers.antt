-- `some_event_has` meets its contract. Assumes nothing.
use Rattle.meaning.specs.Terms.{leaf_events}
use Rattle.terms.proofs.some_event_has.Goals as goal

pub returns-in-Happens : goal.returns-in-Happens
unfolding leaf_events
returns-in-Happens g c p h = rw c.in-Happens.is (c.window_has.ensures p h)

pub returns-in-Counts : goal.returns-in-Counts
unfolding leaf_events
returns-in-Counts g c p h = rw c.in-Counts.is (c.window_has-in-Counts.ensures p h)
