-- `read_item` meets its contract: one law of an item at a place for each answer. Assumes nothing.
use native.Mathlib.Omega.{arith}
use mathlib.Core.Path.{◌≡◌, refl, sym, ◌∙◌}
use Prim.Native.Nat.{◌+◌}
use denote.Enum.Declared.{tag_of}
use Rattle.format.specs.Bytes.{byte_at}
use Rattle.format.proofs.PlaceLaws.{item-past, item-other}
use Rattle.grammar.specs.contracts.Item.{the_type}
use Rattle.grammar.specs.declared.Item.{Item}
use Rattle.grammar.specs.declared.Item.TheVariants.{Kind, Schema, Leaf, And, Or, Except, Always, Count}
use Rattle.grammar.specs.Items.{code_of}
use Rattle.grammar.proofs.read_item.Goals.{then-s-at-via-then-s-at, then-s-at-via-else-s-at+then-s-at-2}
use Rattle.grammar.proofs.read_item.Goals as goal

-- the item byte, as the code takes it of the item
code-is : (k : Item) → tag_of the_type k + 1 ≡ code_of k
code-is Kind = refl
code-is Schema = refl
code-is Leaf = refl
code-is And = refl
code-is Or = refl
code-is Except = refl
code-is Always = refl
code-is Count = refl

pub returns-then-s-at : goal.returns-then-s-at
unfolding byte_at
returns-then-s-at c =
    let a = c.args in
    elim c.then-s-at.branch [
      | then-s-at-via-then-s-at w ↦ item-past _ _ a.s.now a.at (omega arith)
      | then-s-at-via-else-s-at+then-s-at-2 w ↦ item-other _ _ a.s.now a.at (λ e. w.if-s-at-2.true (e ∙ sym (code-is a.kind)))
    ]

pub item_end-requires : goal.item_end-requires
unfolding byte_at
item_end-requires c = (c.if-s-at.false, sym (c.if-s-at-2.false ∙ code-is c.args.kind))
