-- The items fall at each call.
use Rattle.terms.proofs.+expression_has.Given as goal

abbrev pub decreases-expression_has : goal.decreases-expression_has
decreases-expression_has g l = l.spot.items
