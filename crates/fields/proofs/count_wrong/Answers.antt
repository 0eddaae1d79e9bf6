-- `count_wrong` meets its contract: each answer by the tests before it. Assumes nothing.
use Prim.Native.Nat.{◌+◌}
use mathlib.Core.Path.{◌≡◌}
use mathlib.Core.Bool.{true, false}
use lib.Dec.{eqb}
use borrow.Author.Tests.{le-leb, lt-leb, eq-eqb, ne_eqb}
use Rattle.format.specs.Bytes.{byte_at}
use Rattle.fields.proofs.Leaves.{count-wrong-here}
use Rattle.fields.proofs.count_wrong.Goals as goal

pub returns-then-kinds-from : goal.returns-then-kinds-from
unfolding byte_at
returns-then-kinds-from c t h = rw (count-wrong-here t _ _, ← h, le-leb _ _ (rw c.from.ensures at c.if-kinds-from.true))

pub returns-then-terms-at : goal.returns-then-terms-at
unfolding byte_at
returns-then-terms-at c t h =
    rw (count-wrong-here t _ _, ← h, lt-leb _ _ (rw c.from.ensures at c.if-kinds-from.false), eq-eqb _ _ c.if-terms-at.true)

pub returns-then-bound_wrong : goal.returns-then-bound_wrong
unfolding byte_at
returns-then-bound_wrong c t h =
    rw (count-wrong-here t _ _, ← h, lt-leb _ _ (rw c.from.ensures at c.if-kinds-from.false), ne_eqb _ _ c.if-terms-at.false, ← c.bound_wrong.ensures t h, c.if-bound_wrong.true)

pub returns-then-terms-at-2 : goal.returns-then-terms-at-2
unfolding byte_at
returns-then-terms-at-2 c t h =
    let a = c.args in
    let is_open : eqb (byte_at a.terms.now (a.at + 13)) 3 ≡ true = eq-eqb _ _ c.if-terms-at-2.true in
    rw (
      count-wrong-here t _ _,
      ← h,
      lt-leb _ _ (rw c.from.ensures at c.if-kinds-from.false),
      ne_eqb _ _ c.if-terms-at.false,
      ← c.bound_wrong.ensures t h,
      c.if-bound_wrong.false,
      is_open,
    )

pub returns : goal.returns
unfolding byte_at
returns c t h =
    let a = c.args in
    let not-open : eqb (byte_at a.terms.now (a.at + 13)) 3 ≡ false = ne_eqb _ _ c.if-terms-at-2.false in
    rw (
      count-wrong-here t _ _,
      ← h,
      lt-leb _ _ (rw c.from.ensures at c.if-kinds-from.false),
      ne_eqb _ _ c.if-terms-at.false,
      ← c.bound_wrong.ensures t h,
      c.if-bound_wrong.false,
      not-open,
      c.bound_wrong-2.ensures t h,
    )
