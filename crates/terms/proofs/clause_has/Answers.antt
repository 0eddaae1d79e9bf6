-- `clause_has` meets its contract: a clause is an expression within the grammar's count. Assumes nothing.
use Prim.Native.Nat.{ℕ}
use mathlib.Core.Path.{◌≡◌, sym}
use mathlib.Core.Bool.{Bool, true, false, not}
use mathlib.Core.List.{List}
use Rattle.std.specs.Prelude.{Option, Some, None, is_some}
use Rattle.meaning.specs.Terms.{Expr}
use Rattle.format.specs.Grammar.{expr_limit, read_clause}
use Rattle.grammar.specs.declared.Spot.{Spot}
use Rattle.terms.specs.Questions.{clause_has, WalkedOver}
use Rattle.terms.proofs.clause_has.Goals as goal

-- the walk found a leaf, or went past all
told : (s : List ℕ) (P : (List ℕ → Bool) → Type 0) (items : ℕ) (x : Expr (List ℕ)) (t : List ℕ) (r : Option Spot) (b : Bool) → WalkedOver s P items x t r → is_some r ≡ not b
    → (p : List ℕ → Bool) → P p → b ≡ clause_has p x
told s P items x t None true h e p asks = sym (h p asks)
told s P items x t None false h e p asks = cc
told s P items x t (Some end) true h e p asks = cc
told s P items x t (Some end) false h e p asks = sym (h.0 p asks)

pub expression_has-requires : goal.expression_has-requires
unfolding read_clause expr_limit
expression_has-requires g c = let clause = c.requires.clause.1 in rw c.start.ensures ((clause.0, clause.1.0, clause.1.1), c.requires.test)

pub returns : goal.returns
unfolding read_clause expr_limit
returns g c p asks x e = told _ _ _ x e.0 _ _ ((rw c.start.ensures at c.expression_has.ensures) x e.0 e.1) c.is_none.ensures p asks
