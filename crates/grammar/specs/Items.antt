-- The items of terms by their item bytes. Assumes nothing: these are definitions.
use Rattle.std.specs.Prelude.{◌≡◌, ℕ, ◌≤◌, List, Option, MatchOption, Result, MatchResult}
use Rattle.format.specs.Bytes.{byte_at}
use Rattle.grammar.specs.declared.Item.{Item}
use Rattle.grammar.specs.declared.Item.TheVariants.{Kind, Schema, Leaf, And, Or, Except, Always, Count}
use Rattle.grammar.specs.declared.UnknownItem.{UnknownItem}

-- an item's byte (Terms items)
abbrev pub code_of : Item → ℕ
code_of Kind = 1
code_of Schema = 2
code_of Leaf = 3
code_of And = 4
code_of Or = 5
code_of Except = 6
code_of Always = 7
code_of Count = 8

-- how many bytes its body has (item 01 to item 08)
abbrev pub body_of : Item → ℕ
body_of Kind = 4
body_of Schema = 4
body_of Leaf = 16
body_of And = 0
body_of Or = 0
body_of Except = 0
body_of Always = 0
body_of Count = 19

-- the item with this item byte, or an error with a byte that no item has
abbrev pub Names : ℕ → Result Item UnknownItem → Type 0
Names byte r = MatchResult r (λ item. code_of item ≡ byte) (λ e. (e.0 ≡ byte) × (1 ≤ byte → byte ≤ 8 → ⊥))

-- the item that the byte at a place of terms names, or none if it names no item
abbrev pub ItemAt : List ℕ → ℕ → Option Item → Type 0
ItemAt s at r = MatchOption r (1 ≤ byte_at s at → byte_at s at ≤ 8 → ⊥) (λ item. code_of item ≡ byte_at s at)
