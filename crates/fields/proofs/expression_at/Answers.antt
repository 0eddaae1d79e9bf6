-- `expression_at` meets its contract, item by item. Assumes nothing.
use Prim.Native.Nat.{ℕ, ◌+◌, ◌-◌}
use native.Mathlib.Omega.{arith}
use mathlib.Core.Path.{◌≡◌, sym, ◌∙◌}
use Rattle.std.specs.Prelude.{Some}
use Rattle.meaning.specs.declared.Atom.{Atom}
use Rattle.meaning.specs.Terms.{Expr}
use Rattle.format.specs.Bytes.{byte_at}
use Rattle.format.proofs.ExprLaws.{expr-always, Joining, and-joins, or-joins, except-joins}
use Rattle.format.proofs.GrammarLaws.{E}
use Rattle.grammar.proofs.Steps.{connects-code, Reads}
use Rattle.fields.specs.Decoded.{JoinedAt}
use Rattle.fields.proofs.Expressions.{no_items, no_kind, inside, leaf-unread, leaf-read, head_unread, is-except, first-spot, first-unread, second-unread, joined_at}
use Rattle.fields.proofs.expression_at.Goals.{In-And, In_ok-second-in-And, In_ok-read_expression-in-And}
use Rattle.fields.proofs.expression_at.Goals as goal

-- where a connective's first operand stands
first-is : (c : In-And) → c.after-rest.result ≡ record { at = c.args.spot.at + 1; items = c.args.spot.items - 1 }
first-is c = c.after-rest.ensures ∙ first-spot c.args.spot c.in-And.is

-- it is read
first-read : (c : In_ok-second-in-And) → Reads (c.args.spot.items - 1) c.args.terms.now (c.args.spot.at + 1) (Some c.in_ok-second-in-And.second)
first-read c = rw (first-is (goal.at.In_ok-second-in-And c).In-And) at c.in_ok-second-in-And.ensures

-- a connective of the two
joined : (c : In_ok-read_expression-in-And) → {kind : ℕ} {join : E → E → E} {over : Expr Atom → Expr Atom → Expr Atom} → Joining kind join over
    → byte_at c.args.terms.now c.args.spot.at ≡ kind → JoinedAt over c.args.terms.now c.args.spot c.after-rest.result c.in_ok-second-in-And.second
joined c is k =
    let a = c.args in
    let second = c.in_ok-second-in-And.second in
    rw (first-is (goal.at.In_ok-read_expression-in-And c).In-And)
    (joined_at a.terms.now a.spot.at a.spot.items second (first-read (goal.at.In_ok-read_expression-in-And c).In_ok-second-in-And) is (omega arith)
    c.in_ok-read_expression-in-And.field-0 (c.in_ok-read_expression-in-And.ensures second.items (omega arith)) k)

pub returns-then-spot-eq0 : goal.returns-then-spot-eq0
returns-then-spot-eq0 c = let a = c.args in no_items a.terms.now a.spot.at a.spot.items (omega arith)

pub returns-in_err-item : goal.returns-in_err-item
returns-in_err-item c =
    let a = c.args in
    rw c.from_residual.ensures (no_kind a.terms.now a.spot.at a.spot.items (λ low high. c.in_err-item.ensures (omega arith) high))

pub after-rest-requires-clause-kind_byte : goal.after-rest-requires-clause-kind_byte
after-rest-requires-clause-kind_byte c = let a = c.args in omega (arith, inside a.terms.now a.spot.at a.spot.items c.in_ok-item.item c.in_ok-item.ensures)

pub returns-then-terms-rest : goal.returns-then-terms-rest
returns-then-terms-rest c =
    let a = c.args in
    leaf-unread a.terms.now a.spot.at a.spot.items c.in-Leaf.is c.in_ok-item.ensures (omega (arith, rw c.after-rest.ensures at c.if-terms-rest.true))

pub returns-else-terms-rest : goal.returns-else-terms-rest
returns-else-terms-rest c =
    let a = c.args in
    rw c.leaf_at.ensures (leaf-read a.terms.now a.spot.at a.spot.items (c.in-Leaf.is, c.in_ok-item.ensures, omega (arith, rw c.after-rest.ensures at c.if-terms-rest.false)) (omega arith))

pub returns-in_err-second-in-And : goal.returns-in_err-second-in-And
returns-in_err-second-in-And c =
    let a = c.args in
    let code = connects-code c.in-And.is c.in_ok-item.ensures in
    let unread = rw (first-is (goal.at.returns-in_err-second-in-And c).In-And) at c.in_err-second-in-And.ensures in
    rw c.from_residual-in_err-second-in-And.ensures (first-unread a.terms.now a.spot.at a.spot.items unread code.0 code.1)

pub returns-in_err-read_expression-in-And : goal.returns-in_err-read_expression-in-And
returns-in_err-read_expression-in-And c =
    let a = c.args in
    let code = connects-code c.in-And.is c.in_ok-item.ensures in
    let read = first-read (goal.at.returns-in_err-read_expression-in-And c).In_ok-second-in-And in
    rw c.from_residual-in_err-read_expression-in-And.ensures
    (second-unread a.terms.now a.spot.at a.spot.items c.in_ok-second-in-And.second read c.in_err-read_expression-in-And.ensures code.0 code.1)

pub returns-in-And-item : goal.returns-in-And-item
returns-in-And-item c = joined (goal.at.returns-in-And-item c).In_ok-read_expression-in-And and-joins (sym (rw c.in-And-item.is at c.in_ok-item.ensures))

pub returns-in-Or : goal.returns-in-Or
returns-in-Or c = joined (goal.at.returns-in-Or c).In_ok-read_expression-in-And or-joins (sym (rw c.in-Or.is at c.in_ok-item.ensures))

pub returns-in_default : goal.returns-in_default
returns-in_default c =
    let is = is-except c.in-And.is c.in_default.not-And c.in_default.not-Or in
    joined (goal.at.returns-in_default c).In_ok-read_expression-in-And except-joins (sym (rw is at c.in_ok-item.ensures))

pub returns-in-Always : goal.returns-in-Always
returns-in-Always c =
    let a = c.args in
    expr-always a.terms.now a.spot.at a.spot.items (omega arith) (sym (rw c.in-Always.is at c.in_ok-item.ensures)) (inside a.terms.now a.spot.at a.spot.items c.in_ok-item.item c.in_ok-item.ensures)

pub returns-in-Kind : goal.returns-in-Kind
returns-in-Kind c = let a = c.args in head_unread a.terms.now a.spot.at a.spot.items c.in-Kind.is c.in_ok-item.ensures
