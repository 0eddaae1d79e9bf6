-- `happening_wrong` meets its contract: each answer by the tests before it. Assumes nothing.
use borrow.Author.Tests.{eq-eqb, ne_eqb}
use Rattle.format.specs.Bytes.{byte_at}
use Rattle.fields.proofs.Leaves.{happening-wrong-here}
use Rattle.fields.proofs.happening_wrong.Goals as goal

pub returns-then-event_wrong : goal.returns-then-event_wrong
unfolding byte_at
returns-then-event_wrong c t h = rw (happening-wrong-here t _ _, ← c.event_wrong.ensures t h, c.if-event_wrong.true)

pub returns-then-terms-at : goal.returns-then-terms-at
unfolding byte_at
returns-then-terms-at c t h =
    rw (happening-wrong-here t _ _, ← c.event_wrong.ensures t h, c.if-event_wrong.false, eq-eqb _ _ c.if-terms-at.true)

pub returns-then-bound_wrong : goal.returns-then-bound_wrong
unfolding byte_at
returns-then-bound_wrong c t h =
    rw (happening-wrong-here t _ _, ← c.event_wrong.ensures t h, c.if-event_wrong.false, ne_eqb _ _ c.if-terms-at.false, ← c.bound_wrong.ensures t h, c.if-bound_wrong.true)

pub returns : goal.returns
unfolding byte_at
returns c t h =
    rw (
      happening-wrong-here t _ _,
      ← c.event_wrong.ensures t h,
      c.if-event_wrong.false,
      ne_eqb _ _ c.if-terms-at.false,
      ← c.bound_wrong.ensures t h,
      c.if-bound_wrong.false,
      c.bound_wrong-2.ensures t h,
    )
