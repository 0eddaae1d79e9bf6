-- `item_end` meets its contract: one law of an item at a place for each answer. Assumes nothing.
use native.Mathlib.Omega.{arith}
use mathlib.Core.Path.{sym}
use Rattle.format.proofs.PlaceLaws.{item-here, item-short}
use Rattle.grammar.proofs.item_end.Goals as goal

pub returns-then-s-at : goal.returns-then-s-at
returns-then-s-at c =
    let a = c.args in
    item-short _ _ a.s.now a.at (omega (arith, c.body-body.ensures))

pub returns : goal.returns
returns c =
    let a = c.args in
    rw c.body-body.ensures (_, item-here _ _ a.s.now a.at (sym c.requires.1) (omega arith), omega arith, omega arith)
