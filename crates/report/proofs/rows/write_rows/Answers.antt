-- `write_rows` meets its contract: the rows of the schemas before a number are put, those of the schemas from it on are left. Assumes nothing.
use Prim.Native.Nat.{◌+◌}
use native.Mathlib.Nat.{zero-add, mul-div_right}
use native.Mathlib.Omega.{arith}
use mathlib.Core.Path.{◌≡◌, refl}
use mathlib.Core.List.{◌++◌}
use lib.Dec.{lit<}
use Rattle.format.specs.Records.{row_length}
use Rattle.terms.proofs.Faults.{schemas_count}
use Rattle.report.specs.Shown.{rows_from, schemas_from}
use Rattle.report.proofs.RowSteps.{schemas-step, schemas-none}
use Rattle.report.proofs.Pages.{left-all, left-room, left-next, left_end}
use Rattle.report.proofs.rows.write_rows.Goals.{In-loop-schema}
use Rattle.report.proofs.rows.write_rows.Goals as goal

-- the rows of the schema come first
next : (c : In-loop-schema) → let call = c.args.call.now in let j = c.loop-schema.schema in let m = c.args.moment in
    schemas_from call.terms.now call.bytes.now m j ≡ rows_from call.terms.now call.bytes.now j m 0 ++ schemas_from call.terms.now call.bytes.now m (j + 1)
next c =
    let call = c.args.call.now in
    schemas-step call.terms.now call.bytes.now c.args.moment c.loop-schema.schema (omega (arith, c.loop-schema-test.true, call.placed.1, schemas_count call.terms.now))

pub loop-schema-init : goal.loop-schema-init
loop-schema-init c = left-all c.args.page.now 0 refl (rw zero-add c.requires)

pub write_schema-to-requires-clause-rows_fit : goal.write_schema-to-requires-clause-rows_fit
write_schema-to-requires-clause-rows_fit c = left-room c.loop-schema.invariant _ _ (next (goal.at.write_schema-to-requires-clause-rows_fit c).In-loop-schema)

pub loop-schema-preserved : goal.loop-schema-preserved
loop-schema-preserved c = left-next c.loop-schema.invariant _ _ (next (goal.at.loop-schema-preserved c).In-loop-schema) c.write_schema-to.ensures

pub returns : goal.returns
unfolding row_length
returns c =
    let call = c.args.call.now in
    let end = left_end c.loop-schema.invariant (schemas-none call.terms.now call.bytes.now c.args.moment c.loop-schema.schema (omega (arith, c.loop-schema-test.false, call.placed.1, schemas_count call.terms.now))) in
    (rw (end.0, zero-add) (mul-div_right _ (lit< tt)), end.1)
