-- `schema_wrong` meets its contract: the head, then the leaves. Assumes nothing.
use Prim.Native.Nat.{◌<◌}
use native.Mathlib.Omega.{arith}
use mathlib.Core.Path.{◌≡◌, sym, ◌∙◌}
use lib.ListN.{length, get_or}
use borrow.Author.Rules.{rules}
use Rattle.format.specs.Grammar.{file_of}
use Rattle.format.specs.Fields.{head_wrong, leaf_wrong, terms_of}
use Rattle.format.proofs.KindLaws.{kinds_count}
use Rattle.grammar.specs.Places.{no_items}
use Rattle.terms.proofs.Faults.{field-here}
use Rattle.terms.proofs.schema_wrong.Goals.{After-head_wrong}
use Rattle.terms.proofs.schema_wrong.Goals as goal

-- the schema is there
there : (c : After-head_wrong) → c.args.n < length (file_of c.args.places.terms.now).schemas
there c = omega (arith, c.args.places.placed.1)

-- the head
head-is : (c : After-head_wrong) → head_wrong (terms_of c.args.places.terms.now) (get_or (file_of c.args.places.terms.now).schemas c.args.n no_items).head ≡ c.head_wrong.result
head-is c = rw ((c.args.places.placed.2 c.args.n (there c)).1.head_body, ← c.head_at.ensures.0, ← c.kinds.ensures.0) (sym c.head_wrong.ensures)

pub head_at-requires : goal.head_at-requires
head_at-requires c = omega (arith, c.args.places.placed.1)

pub head_wrong-requires : goal.head_wrong-requires
head_wrong-requires c = rw c.kinds.ensures.0 c.head_at.ensures.1

pub returns-then-head_wrong : goal.returns-then-head_wrong
returns-then-head_wrong c = rw (field-here, head-is (goal.at.returns-then-head_wrong c).After-head_wrong ∙ c.if-head_wrong.true)

pub returns : goal.returns
returns c =
    let s = c.args.places.terms.now in
    let count = c.args.places.placed.0 ∙ sym (kinds_count s) in
    rw (field-here, head-is (goal.at.returns c).After-head_wrong ∙ c.if-head_wrong.false)
    (c.clauses_have.ensures (λ rank. leaf_wrong (terms_of s)) (λ rank h at item b is post. search rules))
