-- `clauses_have` meets its contract: create, detach and consequent in turn. Assumes nothing.
use Prim.Native.Nat.{ℕ, ◌+◌, ◌*◌, ◌<◌}
use native.Mathlib.Omega.{arith}
use mathlib.Core.Path.{sym, ◌∙◌}
use lib.ListN.{length, get_or}
use Rattle.format.specs.Grammar.{file_of}
use Rattle.fields.proofs.Schemas.{schema-there}
use Rattle.grammar.specs.Places.{no_items, ClausesAt}
use Rattle.terms.specs.Questions.{clauses_have}
use Rattle.terms.proofs.clauses_have.Given.{Over}
use Rattle.terms.proofs.clauses_have.Goals.{Start}
use Rattle.terms.proofs.clauses_have.Goals as goal

-- the schema is there, and its ranks are those of starts
there : (g : Over) (c : Start g) → (c.args.n < length (file_of c.args.places.terms.now).schemas) × (3 * c.args.n + 2 < 48)
there g c = schema-there c.args.places.terms.now c.args.places.placed.1 c.requires.schema

-- where its clauses stand
laid : (g : Over) (c : Start g) → let s = c.args.places.terms.now in let starts = c.args.places.starts.now in let n = c.args.n in
    (end : ℕ) × ClausesAt s (get_or (file_of s).schemas n no_items) (get_or starts (3 * n) 0) (get_or starts (3 * n + 1) 0) (get_or starts (3 * n + 2) 0) end
laid g c = c.args.places.placed.2 c.args.n (there g c).0

pub overflow_mul-n : goal.overflow_mul-n
overflow_mul-n g c = omega (arith, there g c)

pub clause_has-requires : goal.clause_has-requires
clause_has-requires g c = let h = there g c in record {
  clause = (omega arith, (_, (_, (laid g c).1.create_read)));
  test = c.requires.test (3 * c.args.n) (omega arith);
}

pub returns-then-clause_has : goal.returns-then-clause_has
unfolding clauses_have
returns-then-clause_has g c p asks =
    let h = there g (goal.at.returns-then-clause_has g c).Start in
    let create = c.clause_has.ensures (p (3 * c.args.n)) (asks (3 * c.args.n) (omega arith)) _ (_, (laid g (goal.at.returns-then-clause_has g c).Start).1.create_read) in
    rw (sym create ∙ c.if-clause_has.true)

pub overflow_mul-n-2 : goal.overflow_mul-n-2
overflow_mul-n-2 g c = omega (arith, there g (goal.at.overflow_mul-n-2 g c).Start)

pub overflow_add-n : goal.overflow_add-n
overflow_add-n g c = omega (arith, there g (goal.at.overflow_add-n g c).Start)

pub clause_has-requires-2 : goal.clause_has-requires-2
clause_has-requires-2 g c = let h = there g (goal.at.clause_has-requires-2 g c).Start in record {
  clause = (omega arith, (_, (_, (laid g (goal.at.clause_has-requires-2 g c).Start).1.detach_read)));
  test = c.requires.test (3 * c.args.n + 1) (omega arith);
}

pub returns-then-clause_has-2 : goal.returns-then-clause_has-2
unfolding clauses_have
returns-then-clause_has-2 g c p asks =
    let h = there g (goal.at.returns-then-clause_has-2 g c).Start in
    let create = c.clause_has.ensures (p (3 * c.args.n)) (asks (3 * c.args.n) (omega arith)) _ (_, (laid g (goal.at.returns-then-clause_has-2 g c).Start).1.create_read) in
    let detach = c.clause_has-2.ensures (p (3 * c.args.n + 1)) (asks (3 * c.args.n + 1) (omega arith)) _ (_, (laid g (goal.at.returns-then-clause_has-2 g c).Start).1.detach_read) in
    rw (sym create ∙ c.if-clause_has.false, sym detach ∙ c.if-clause_has-2.true)

pub overflow_mul-n-3 : goal.overflow_mul-n-3
overflow_mul-n-3 g c = omega (arith, there g (goal.at.overflow_mul-n-3 g c).Start)

pub overflow_add-n-2 : goal.overflow_add-n-2
overflow_add-n-2 g c = omega (arith, there g (goal.at.overflow_add-n-2 g c).Start)

pub clause_has-requires-3 : goal.clause_has-requires-3
clause_has-requires-3 g c = let h = there g (goal.at.clause_has-requires-3 g c).Start in record {
  clause = (omega arith, (_, (_, (laid g (goal.at.clause_has-requires-3 g c).Start).1.consequent_read)));
  test = c.requires.test (3 * c.args.n + 2) (omega arith);
}

pub returns : goal.returns
unfolding clauses_have
returns g c p asks =
    let h = there g (goal.at.returns g c).Start in
    let create = c.clause_has.ensures (p (3 * c.args.n)) (asks (3 * c.args.n) (omega arith)) _ (_, (laid g (goal.at.returns g c).Start).1.create_read) in
    let detach = c.clause_has-2.ensures (p (3 * c.args.n + 1)) (asks (3 * c.args.n + 1) (omega arith)) _ (_, (laid g (goal.at.returns g c).Start).1.detach_read) in
    rw (sym create ∙ c.if-clause_has.false, sym detach ∙ c.if-clause_has-2.false) (c.clause_has-3.ensures (p (3 * c.args.n + 2)) (asks (3 * c.args.n + 2) (omega arith)) _ (_, (laid g (goal.at.returns g c).Start).1.consequent_read))
