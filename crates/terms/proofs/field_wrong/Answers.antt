-- `field_wrong` meets its contract: the kinds, then the schemas. Assumes nothing.
use Prim.Native.Nat.{◌+◌, ◌*◌, ◌≤◌}
use native.Mathlib.Omega.{arith}
use mathlib.Core.Path.{◌≡◌, ap, sym, ◌∙◌}
use lib.ListN.{length, take, drop}
use borrow.Author.Rules.{rules}
use Rattle.meaning.specs.Lists.{numbers_from, any_of}
use Rattle.format.specs.Grammar.{file_of}
use Rattle.format.specs.Fields.{kind_wrong}
use Rattle.format.proofs.KindLaws.{kind-here}
use Rattle.terms.proofs.Faults.{kind-fault, field-fault, field-faults}
use Rattle.terms.proofs.field_wrong.Goals.{After-some_below, After-some_below-2}
use Rattle.terms.proofs.field_wrong.Goals as goal

pub some_below-requires : goal.some_below-requires
some_below-requires c n h =
    let inside : 5 * n + 5 ≤ length c.args.places.terms.now = omega (arith, (kind-here c.args.places.terms.now n (omega arith)).1) in
    search rules

-- the kinds
kinds-are : (c : After-some_below) → let s = c.args.places.terms.now in
    c.some_below.result ≡ any_of (kind-fault s) (numbers_from 0 (length (file_of s).kinds))
kinds-are c =
    let s = c.args.places.terms.now in
    rw (← c.args.places.placed.0) (c.some_below.ensures (kind-fault s) (λ n b h post.
    let told : b ≡ kind_wrong n (take 4 (drop (5 * n + 1) s)) = search rules in
    told ∙ sym (ap (kind_wrong n) (kind-here s n (omega arith)).0)))

-- the schemas
schemas-are : (c : After-some_below-2) → let s = c.args.places.terms.now in
    c.some_below-2.result ≡ any_of (field-fault s) (numbers_from 0 (length (file_of s).schemas))
schemas-are c =
    let s = c.args.places.terms.now in
    rw (← c.args.places.placed.1) (c.some_below-2.ensures (field-fault s) (λ n b h post. search rules))

pub returns-then-some_below : goal.returns-then-some_below
returns-then-some_below c = rw (field-faults, sym (kinds-are (goal.at.returns-then-some_below c).After-some_below) ∙ c.if-some_below.true)

pub returns : goal.returns
returns c = rw (field-faults, sym (kinds-are (goal.at.returns c).After-some_below) ∙ c.if-some_below.false) (schemas-are c)
