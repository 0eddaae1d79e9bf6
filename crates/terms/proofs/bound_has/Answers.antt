-- `bound_has` meets its contract. Assumes nothing.
use mathlib.Core.Logic.{inl, inr}
use Rattle.meaning.specs.Lists.{any_of}
use Rattle.meaning.specs.Terms.{bound_events}
use Rattle.meaning.proofs.ListLaws.{any-one}
use Rattle.terms.proofs.bound_has.Goals as goal

pub returns-in-Plus : goal.returns-in-Plus
unfolding bound_events
returns-in-Plus g c p h = elim c.in-Plus.is [
  | inl e ↦ rw (e.1, any-one) (h _ _ c.test.ensures)
  | inr e ↦ rw (e.1, any-one) (h _ _ c.test.ensures)
]

pub returns-in-Plain : goal.returns-in-Plain
unfolding any_of bound_events
returns-in-Plain g c p h = elim c.in-Plain.is [
  | inl e ↦ rw e.1
  | inr e ↦ rw e
]
