-- `read_clause` meets its contract: a clause is an expression within the grammar's count. Assumes nothing.
use native.Mathlib.Omega.{arith}
use Rattle.format.specs.Grammar.{expr_limit, read_clause}
use Rattle.grammar.proofs.read_clause.Goals as goal

pub returns-in_err-end : goal.returns-in_err-end
unfolding read_clause expr_limit
returns-in_err-end c = rw c.from_residual.ensures (c.in_err-end.ensures 31 (omega arith))

pub returns : goal.returns
unfolding read_clause expr_limit
returns c = let f = c.in_ok-end.ensures 31 (omega arith) in (f.0, f.1, f.3, f.4)
