-- What is at hand of the leaf's event is at hand whatever the bounds are.
use Rattle.evaluate.proofs.hand_for_lower.Goals as goal

pub returns-then-is_by : goal.returns-then-is_by
returns-then-is_by c = λ clause only upper. c.happening_of-of_leaf.ensures clause only
