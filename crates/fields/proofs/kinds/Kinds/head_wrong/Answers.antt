-- `head_wrong` meets its contract: each answer by the tests before it. Assumes nothing.
use mathlib.Core.Path.{◌≡◌, sym, ◌∙◌}
use mathlib.Core.Bool.{◌||◌}
use lib.Dec.{ltb, eqb}
use borrow.Author.Tests.{le-leb, lt-leb}
use Rattle.format.specs.Bytes.{byte_at}
use Rattle.format.proofs.KindLaws.{head-wrong-here}
use Rattle.fields.proofs.Leaves.{untyped}
use Rattle.fields.proofs.kinds.Kinds.head_wrong.Goals.{After-is_err}
use Rattle.fields.proofs.kinds.Kinds.head_wrong.Goals as goal

-- the type
type-is : (c : After-is_err) → let byte = byte_at c.args.self.terms.now c.args.at in (eqb byte 0 || ltb 4 byte) ≡ c.is_err.result
unfolding byte_at
type-is c = sym (c.is_err.ensures.value ∙ untyped _ _ c.try_from.ensures)

pub returns-then-is_err : goal.returns-then-is_err
returns-then-is_err c =
    rw (head-wrong-here _ _ _ c.args.self.counted, type-is (goal.at.returns-then-is_err c).After-is_err ∙ c.if-is_err.true)

pub returns-then-self-from : goal.returns-then-self-from
unfolding byte_at
returns-then-self-from c =
    rw (head-wrong-here _ _ _ c.args.self.counted, type-is (goal.at.returns-then-self-from c).After-is_err ∙ c.if-is_err.false, le-leb _ _ (rw c.from.ensures at c.if-self-from.true))

pub returns-then-not-carries : goal.returns-then-not-carries
unfolding byte_at
returns-then-not-carries c =
    rw (
      head-wrong-here _ _ _ c.args.self.counted,
      type-is (goal.at.returns-then-not-carries c).After-is_err ∙ c.if-is_err.false,
      lt-leb _ _ (rw c.from.ensures at c.if-self-from.false),
      ← c.mask_of-mask.ensures,
      ← c.carries.ensures,
      c.if-not-carries.true,
    )

pub returns : goal.returns
unfolding byte_at
returns c =
    rw (
      head-wrong-here _ _ _ c.args.self.counted,
      type-is (goal.at.returns c).After-is_err ∙ c.if-is_err.false,
      lt-leb _ _ (rw c.from.ensures at c.if-self-from.false),
      ← c.mask_of-mask.ensures,
      ← c.carries.ensures,
      c.if-not-carries.false,
      c.carries-2.ensures,
    )
