-- `schema_unshared` meets its contract. Assumes nothing.
use native.Mathlib.Omega.{arith}
use borrow.Author.Rules.{rules}
use Rattle.format.specs.Fields.{terms_of}
use Rattle.terms.specs.Questions.{leaf_unshared}
use Rattle.terms.proofs.Faults.{unshared-here}
use Rattle.terms.proofs.schema_unshared.Goals as goal

pub returns : goal.returns
returns c =
    let a = c.args in
    rw (unshared-here a.places.terms.now a.n (omega (arith, a.places.placed.1)), ← c.subject_of-subject.ensures)
    (c.clauses_have.ensures (λ rank. leaf_unshared (terms_of a.places.terms.now) c.subject_of-subject.result) (λ rank h at item b is post. search rules))
