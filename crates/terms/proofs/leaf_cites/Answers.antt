-- `leaf_cites` meets its contract. Assumes nothing.
use borrow.Author.Rules.{rules}
use Rattle.format.specs.Fields.{cites_from}
use Rattle.terms.specs.Questions.{leaf_cites}
use Rattle.terms.proofs.leaf_cites.Goals as goal

pub returns : goal.returns
unfolding leaf_cites
returns c = rw (← c.leaf_at-leaf.ensures) (c.some_event_has.ensures (cites_from c.args.rank) (λ e b post. search rules))
