-- `pass_expression` meets its contract: one step for each answer; the items fall at each call. Assumes nothing.
use native.Mathlib.Omega.{arith}
use Rattle.format.proofs.PlaceLaws.{byte_inside}
use Rattle.grammar.proofs.Steps.{connects-code, ends-code, expr-no-items, expr-no-kind, expr-head, expr-cut, expr-end, expr-no-first, expr-both}
use Rattle.grammar.proofs.+pass_expression.Goals as goal

pub returns-then-start-eq0 : goal.returns-then-start-eq0
returns-then-start-eq0 t c =
    let start = c.args.spot.now in
    expr-no-items start.items c.args.s.now start.at c.if-start-eq0.true

pub returns-in_default : goal.returns-in_default
returns-in_default t c =
    let start = c.args.spot.now in
    expr-no-kind start.items c.args.s.now start.at (λ low high. c.in_default.ensures (omega arith) high)

pub item_end-requires : goal.item_end-requires
item_end-requires t c = (byte_inside c.args.s.now c.args.spot.now.at (ends-code c.in-Leaf.is c.in-Some.ensures), c.in-Some.ensures)

pub returns-in_default-item_end : goal.returns-in_default-item_end
returns-in_default-item_end t c =
    let start = c.args.spot.now in
    expr-cut start.items c.args.s.now start.at c.in-Leaf.is c.in-Some.ensures c.in_default-item_end.ensures

pub after-requires-clause-kind_byte : goal.after-requires-clause-kind_byte
after-requires-clause-kind_byte t c = omega (arith, byte_inside c.args.s.now c.args.spot.now.at (omega (arith, connects-code c.in-And.is c.in-Some.ensures)))

pub returns-then-not-pass_expression : goal.returns-then-not-pass_expression
returns-then-not-pass_expression t c =
    let start = c.args.spot.now in
    expr-no-first start.items c.args.s.now start.at c.in-And.is c.in-Some.ensures (omega arith) (rw c.after.ensures at c.if-not-pass_expression.ensures)

pub returns-in-Some-item_end : goal.returns-in-Some-item_end
returns-in-Some-item_end t c =
    let start = c.args.spot.now in
    expr-end start.items c.args.s.now start.at c.in-Leaf.is c.in-Some.ensures c.in-Some-item_end.ensures (omega arith)

pub returns-else-not-pass_expression : goal.returns-else-not-pass_expression
returns-else-not-pass_expression t c =
    let start = c.args.spot.now in
    expr-both start.items c.args.s.now start.at c.in-And.is c.in-Some.ensures (omega arith) _ (rw c.after.ensures at c.if-not-pass_expression.ensures) c.pass_expression-in-And.ensures

pub returns-in-Kind : goal.returns-in-Kind
returns-in-Kind t c =
    let start = c.args.spot.now in
    expr-head start.items c.args.s.now start.at c.in-Kind.is c.in-Some.ensures
