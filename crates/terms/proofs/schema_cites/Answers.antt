-- `schema_cites` meets its contract. Assumes nothing.
use native.Mathlib.Omega.{arith}
use mathlib.Core.Path.{sym, ◌∙◌}
use borrow.Author.Rules.{rules}
use Rattle.terms.specs.Questions.{leaf_cites}
use Rattle.terms.proofs.Faults.{citation-here}
use Rattle.terms.proofs.schema_cites.Goals as goal

pub returns : goal.returns
returns c =
    let a = c.args in
    c.clauses_have.ensures leaf_cites (λ rank h at item b is post. search rules) ∙ sym (citation-here a.places.terms.now a.n (omega (arith, a.places.placed.1)))
