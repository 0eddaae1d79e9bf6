-- The items fall at each call.
use Rattle.grammar.proofs.+pass_expression.Given as goal

abbrev pub decreases-pass_expression : goal.decreases-pass_expression
decreases-pass_expression l = l.spot.now.items
