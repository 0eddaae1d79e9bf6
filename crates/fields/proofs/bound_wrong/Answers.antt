-- `bound_wrong` meets its contract: each answer by the sign and the tests. Assumes nothing.
use native.Mathlib.Omega.{arith}
use Prim.Native.Nat.{◌≤◌}
use mathlib.Core.Path.{◌≡◌, sym}
use mathlib.Core.Logic.{◌⊎◌, inl, inr}
use mathlib.Core.Bool.{or-true}
use borrow.Author.Tests.{eq-eqb, ne_eqb}
use Rattle.format.specs.Bytes.{byte_at}
use Rattle.format.specs.Fields.{not_zero, offset_limit, bound_wrong}
use Rattle.format.proofs.PlaceLaws.{event-bound-wrong, no-bound-wrong}
use Rattle.fields.specs.declared.Sign.TheVariants.{Plus, Minus}
use Rattle.fields.proofs.bound_wrong.Goals.{In-Plus, then-form-ne0-via-then-form-ne0, then-form-ne0-via-else-form-ne0+then-number-ne0, then-form-ne0-2-via-then-form-ne0-2, then-form-ne0-2-via-else-form-ne0-2+then-number-ne0-2}
use Rattle.fields.proofs.bound_wrong.Goals as goal

-- the byte of a sign with an event
event-sign : (c : In-Plus) → (c.in-Ok.sign ≡ Plus) ⊎ (c.in-Ok.sign ≡ Minus) → (1 ≤ byte_at c.args.terms.now c.args.at) × (byte_at c.args.terms.now c.args.at ≤ 2)
unfolding byte_at
event-sign c (inl e) = let b = rw e at c.in-Ok.ensures in (omega (arith, b), omega (arith, b))
event-sign c (inr e) = let b = rw e at c.in-Ok.ensures in (omega (arith, b), omega (arith, b))

pub returns-in_default : goal.returns-in_default
unfolding byte_at
returns-in_default c t h =
    rw (no-bound-wrong t c.args.terms.now c.args.at (λ e. c.in_default.ensures.1 (omega arith)) (omega (arith, c.in_default.ensures.1)))

pub returns-then-form-ne0 : goal.returns-then-form-ne0
unfolding bound_wrong not_zero byte_at
returns-then-form-ne0 c t h = elim c.then-form-ne0.branch [
  | then-form-ne0-via-then-form-ne0 w ↦ rw (sym (rw c.in-Plain.is at c.in-Ok.ensures), ne_eqb _ _ w.if-form-ne0.true)
  | then-form-ne0-via-else-form-ne0+then-number-ne0 w ↦ rw (sym (rw c.in-Plain.is at c.in-Ok.ensures), ne_eqb _ _ w.if-number-ne0.true, or-true)
]

pub returns-else-number-ne0 : goal.returns-else-number-ne0
unfolding bound_wrong not_zero offset_limit byte_at
returns-else-number-ne0 c t h =
    rw (sym (rw c.in-Plain.is at c.in-Ok.ensures), eq-eqb _ _ c.if-form-ne0.false, eq-eqb _ _ c.if-number-ne0.false, c.u32_at-offset.ensures)

pub returns-then-form-ne0-2 : goal.returns-then-form-ne0-2
unfolding bound_wrong not_zero byte_at
returns-then-form-ne0-2 c t h = elim c.then-form-ne0-2.branch [
  | then-form-ne0-2-via-then-form-ne0-2 w ↦ rw (sym (rw c.in-Open.is at c.in-Ok.ensures), ne_eqb _ _ w.if-form-ne0-2.true)
  | then-form-ne0-2-via-else-form-ne0-2+then-number-ne0-2 w ↦ rw (sym (rw c.in-Open.is at c.in-Ok.ensures), ne_eqb _ _ w.if-number-ne0-2.true, or-true)
]

pub returns-else-number-ne0-2 : goal.returns-else-number-ne0-2
unfolding bound_wrong not_zero byte_at
returns-else-number-ne0-2 c t h =
    rw (sym (rw c.in-Open.is at c.in-Ok.ensures), eq-eqb _ _ c.if-form-ne0-2.false, eq-eqb _ _ c.if-number-ne0-2.false, c.u32_at-offset.ensures)

pub returns-then-event_wrong : goal.returns-then-event_wrong
unfolding byte_at
returns-then-event_wrong c t h =
    let b = event-sign (goal.at.returns-then-event_wrong c).In-Plus c.in-Plus.is in
    rw (event-bound-wrong t c.args.terms.now c.args.at (λ e. omega arith) (omega arith), ← c.event_wrong.ensures t h, c.if-event_wrong.true)

pub returns-else-event_wrong : goal.returns-else-event_wrong
unfolding offset_limit byte_at
returns-else-event_wrong c t h =
    let b = event-sign (goal.at.returns-else-event_wrong c).In-Plus c.in-Plus.is in
    rw (
      event-bound-wrong t c.args.terms.now c.args.at (λ e. omega arith) (omega arith),
      ← c.event_wrong.ensures t h,
      c.if-event_wrong.false,
      c.u32_at-offset.ensures,
    )
