-- `leaf_unshared` meets its contract. Assumes nothing.
use borrow.Author.Rules.{rules}
use Rattle.format.specs.Fields.{shares_none, terms_of}
use Rattle.terms.specs.Questions.{leaf_unshared}
use Rattle.terms.proofs.leaf_unshared.Goals as goal

pub returns : goal.returns
unfolding leaf_unshared
returns c = rw (← c.leaf_at-leaf.ensures) (c.some_event_has.ensures (shares_none (terms_of c.args.places.terms.now) c.args.subject) (λ e b post. search rules))
