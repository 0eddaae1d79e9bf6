-- The row has the bytes that it is read from.
use Rattle.std.proofs.Common.{arith, sym, ◌∙◌}
use Rattle.console.proofs.RowReading.{all-bytes, none_named, row_back, stage_named}
use Rattle.console.proofs.row_of.Goals as goal

pub returns-clause-found : goal.returns-clause-found
returns-clause-found c =
    rw (c.u32_at.ensures, c.u32_at-2.ensures, c.u32_at-3.ensures, c.u32_at-4.ensures) (
    row_back c.in-Ok.stage c.args.bytes.now c.requires (all-bytes c.args.bytes.now (λ i. omega (arith, c.type_inv.bytes i))) (stage_named _ _ c.in-Ok.stage (sym c.try_from.ensures ∙ c.in-Ok.is))
    )

pub returns-in_default-clause-none : goal.returns-in_default-clause-none
returns-in_default-clause-none c none = none_named c.args.bytes.now _ _ (sym c.try_from.ensures ∙ c.in_default.is)
