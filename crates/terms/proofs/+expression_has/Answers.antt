-- `expression_has` meets its contract: one step for each answer; the items fall at each call. Assumes nothing.
use Prim.Native.Nat.{ℕ, ◌≤◌, ◌<◌}
use native.Mathlib.Omega.{arith}
use lib.ListN.{length}
use borrow.Author.Rules.{rules}
use Rattle.terms.proofs.Clauses.{stands_here, stands-item, stands-leaf, leaf-found, leaf-past, always-past, stands-first, stands-second, first_found, first-falls, second_walks}
use Rattle.fields.specs.Decoded.{LeafAt}
use Rattle.terms.proofs.+expression_has.Goals.{In-Leaf, Start}
use Rattle.terms.proofs.+expression_has.Given.{Over}
use Rattle.terms.proofs.+expression_has.Goals as goal

-- the expression and its first item are within the bytes
here : (g : Over) (t : ℕ) (a : Start g t) → (a.args.spot.at < length a.args.terms.now) × (1 ≤ a.args.spot.items)
here g t a = stands_here _ _ _ a.requires.0

-- so is a leaf
leaf-here : (g : Over) (t : ℕ) (c : In-Leaf g t) → LeafAt c.args.terms.now c.args.spot.at c.in_ok-item.item
leaf-here g t c = stands-leaf _ _ _ c.requires.0 c.in-Leaf.is c.in_ok-item.ensures

pub returns-in_err-item : goal.returns-in_err-item
returns-in_err-item g t c = absurd (stands-item _ _ _ c.requires.0 c.in_err-item.ensures)

pub test-requires : goal.test-requires
test-requires g t c = let may = c.requires.1 _ _ (leaf-here g t c) in search rules

pub returns-then-test : goal.returns-then-test
returns-then-test g t c =
    let a = c.args in
    let is = leaf-here g t (goal.at.returns-then-test g t c).In-Leaf in
    leaf-found _ _ a.spot.at a.spot.items is {b = c.test.result} (λ p asks. asks _ _ _ is c.test.ensures) c.if-test.true

pub after-rest-requires-clause-kind_byte : goal.after-rest-requires-clause-kind_byte
after-rest-requires-clause-kind_byte g t c = omega (arith, here g t (goal.at.after-rest-requires-clause-kind_byte g t c).Start)

pub after-rest-requires-clause-items : goal.after-rest-requires-clause-items
after-rest-requires-clause-items g t c = (here g t (goal.at.after-rest-requires-clause-items g t c).Start).1

pub expression_has-requires : goal.expression_has-requires
expression_has-requires g t c =
    λ κs lives. (
      rw c.after-rest.ensures (omega (arith, here g t (goal.at.expression_has-requires g t c).Start)),
      (lives, (rw c.after-rest.ensures (stands-first _ (λ p. Unit {0}) _ _ c.in-And.is c.in_ok-item.ensures c.requires.0), c.requires.1)),
    )

pub returns-in_err-second-in-And : goal.returns-in_err-second-in-And
returns-in_err-second-in-And g t c =
    let a = c.args in
    rw c.from_residual-in_err-second-in-And.ensures (first_found _ _ a.spot.at a.spot.items {item = c.in_ok-item.item} c.in-And.is c.in_ok-item.ensures (rw c.after-rest.ensures at c.in_err-second-in-And.ensures))

pub expression_has-requires-in-And : goal.expression_has-requires-in-And
expression_has-requires-in-And g t c =
    let a = c.args in
    let w = c.requires.0 in
    let second = c.in_ok-second-in-And.second in
    let walks = rw c.after-rest.ensures at c.in_ok-second-in-And.ensures in
    λ κs lives. (
      omega (arith, first-falls _ _ a.spot.at a.spot.items {item = c.in_ok-item.item} c.in-And.is c.in_ok-item.ensures second walks w),
      (lives, (stands-second _ _ a.spot.at a.spot.items {item = c.in_ok-item.item} c.in-And.is c.in_ok-item.ensures second walks w, c.requires.1)),
    )

pub returns-else-test : goal.returns-else-test
returns-else-test g t c =
    let a = c.args in
    let is = leaf-here g t (goal.at.returns-else-test g t c).In-Leaf in
    rw c.after-rest.ensures (leaf-past _ _ a.spot.at a.spot.items is {b = c.test.result} (λ p asks. asks _ _ _ is c.test.ensures) c.if-test.false)

pub returns-in_ok-second-in-And : goal.returns-in_ok-second-in-And
returns-in_ok-second-in-And g t c =
    let a = c.args in
    second_walks _ _ a.spot.at a.spot.items {item = c.in_ok-item.item} c.in-And.is c.in_ok-item.ensures c.in_ok-second-in-And.second (rw c.after-rest.ensures at c.in_ok-second-in-And.ensures) c.expression_has-in-And.result c.expression_has-in-And.ensures

pub returns-in-Always : goal.returns-in-Always
returns-in-Always g t c =
    let a = c.args in
    rw c.after-rest.ensures (always-past _ _ a.spot.at a.spot.items {item = c.in_ok-item.item} c.in-Always.is c.in_ok-item.ensures (here g t (goal.at.returns-in-Always g t c).Start).0)
