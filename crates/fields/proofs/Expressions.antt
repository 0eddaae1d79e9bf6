-- What stands at a place of terms, by the byte there and, of a connective, by what the code reads after it.
--     no_items, no_kind, head_unread, leaf-unread     nothing is read
--     leaf-read                                       a leaf or a count
--     first-spot                                      where a connective's first operand stands
--     first-unread, second-unread                     nothing is read where an operand of a connective is not
--     joined_at                                       a connective of two operands that are
-- Assumes nothing.
use Prim.Native.Nat.{ℕ, suc, ◌+◌, ◌-◌, ◌≤◌, ◌<◌}
use native.Mathlib.Omega.{arith}
use mathlib.Core.Path.{◌≡◌, refl, ap, sym, ◌∙◌}
use mathlib.Core.List.{List}
use mathlib.Core.Logic.{◌⊎◌, inl, inr}
use mathlib.Core.Option.{Option, none, some}
use lib.ListN.{length, drop}
use Rattle.meaning.specs.declared.Atom.{Atom}
use Rattle.meaning.specs.Terms.{Expr, leaf}
use Rattle.format.specs.Bytes.{byte_at}
use Rattle.format.specs.Grammar.{size, read_expr}
use Rattle.format.specs.Fields.{neither, leaf_from, expr_at}
use Rattle.format.proofs.ReaderLaws.{none-some, found-eq}
use Rattle.format.proofs.GrammarLaws.{E, size-positive}
use Rattle.format.proofs.PlaceLaws.{byte_inside, item-short}
use Rattle.format.proofs.ExprLaws.{expr-leaf, Joining, joins, Parts, read-cut, join_is, expr-some, expr-none, expr-join}
use Rattle.std.specs.Prelude as std
use Rattle.grammar.specs.declared.Item.{Item}
use Rattle.grammar.specs.declared.Item.TheVariants.{Kind, Schema, Leaf, And, Or, Except, Always, Count}
use Rattle.grammar.specs.declared.Spot.{Spot}
use Rattle.grammar.specs.Items.{code_of, body_of}
use Rattle.grammar.specs.Found.{after_item, FoundExpr}
use Rattle.grammar.proofs.Steps.{Connects, first-at, as-leaf, Reads, expr-no-items, expr-no-kind}
use Rattle.fields.specs.Decoded.{LeafAt, leaf_item, JoinedAt}

-- an item byte is not what stands past the end
some-code : (k : Item) → 1 ≤ code_of k
some-code Kind = omega arith
some-code Schema = omega arith
some-code Leaf = omega arith
some-code And = omega arith
some-code Or = omega arith
some-code Except = omega arith
some-code Always = omega arith
some-code Count = omega arith

-- the last of the three that join two
pub is-except : {k : Item} → Connects k → (k ≡ And → ⊥) → (k ≡ Or → ⊥) → k ≡ Except
is-except (inl e) h g = absurd (h e)
is-except (inr (inl e)) h g = absurd (g e)
is-except (inr (inr e)) h g = e

-- the spot of a connective's first operand
pub first-spot : {k : Item} (spot : Spot) → Connects k → after_item spot k ≡ record { at = spot.at + 1; items = spot.items - 1 }
first-spot spot is = ap (λ (n : ℕ). record { at = n; items = spot.items - 1 }) (first-at is spot.at)

module _ (s : List ℕ) (at items : ℕ) where
  -- no items are left
  pub no_items : items ≡ 0 → expr_at s at items ≡ leaf neither
  no_items e = expr-none items s at items (omega arith) (expr-no-items items s at e items (omega arith))

  -- no item byte of an expression
  pub no_kind : (3 ≤ byte_at s at → byte_at s at ≤ 8 → ⊥) → expr_at s at items ≡ leaf neither
  no_kind out = expr-none items s at items (omega arith) (expr-no-kind items s at out items (omega arith))

  -- an item byte stands inside the bytes
  pub inside : (k : Item) → code_of k ≡ byte_at s at → at < length s
  inside k b = byte_inside s at (omega (arith, b, some-code k))

  -- a leaf or a count that is cut off
  pub leaf-unread : {k : Item} → (k ≡ Leaf) ⊎ (k ≡ Count) → code_of k ≡ byte_at s at → length s < at + suc (body_of k) → expr_at s at items ≡ leaf neither
  leaf-unread {k} is b l = expr-none items s at items (omega arith) (read-cut (as-leaf is) items items s at (sym b) (item-short (code_of k) (body_of k) s at (omega arith)))

  -- one that is whole
  pub leaf-read : {k : Item} → LeafAt s at k → 0 < items → expr_at s at items ≡ leaf (leaf_from (leaf_item s at k))
  leaf-read h p = expr-leaf (as-leaf h.0) s at items p (sym h.1) h.2

  -- no item of an expression
  pub head_unread : {k : Item} → (k ≡ Kind) ⊎ (k ≡ Schema) → code_of k ≡ byte_at s at → expr_at s at items ≡ leaf neither
  head_unread (inl e) b = let f : 1 ≡ byte_at s at = rw e at b in no_kind (λ low high. omega arith)
  head_unread (inr e) b = let f : 2 ≡ byte_at s at = rw e at b in no_kind (λ low high. omega arith)

  -- a connective that cannot have been read
  unread : (low : 4 ≤ byte_at s at) (high : byte_at s at ≤ 6)
      → ((x : E) (t : List ℕ) → Parts (joins (byte_at s at) low high).join items s at x t → ⊥) → expr_at s at items ≡ leaf neither
  unread low high out = go (read_expr items items (drop at s)) refl
    where
      go : (o : Option (E × List ℕ)) → read_expr items items (drop at s) ≡ o → expr_at s at items ≡ leaf neither
      go none e = expr-none items s at items (omega arith) e
      go (some f) e = absurd (out f.0 f.1 (join_is (joins (byte_at s at) low high).is items items s at f.0 f.1 refl e))

  -- the first operand is not read
  pub first-unread : Reads (items - 1) s (at + 1) std.None → 4 ≤ byte_at s at → byte_at s at ≤ 6 → expr_at s at items ≡ leaf neither
  first-unread read low high = unread low high (λ x t p. none-some (sym (read (items - 1) (omega arith)) ∙ p.first))

  module _ (second : Spot) (read : Reads (items - 1) s (at + 1) (std.Some second)) where
    -- what is read of the first
    before-second : FoundExpr (items - 1) (items - 1) s (at + 1) (std.Some second)
    before-second = read (items - 1) (omega arith)

    -- the items that it leaves
    leaves-items : items - 1 - size before-second.0 ≡ second.items
    leaves-items = omega (arith, before-second.2)

    -- the second operand is not read
    pub second-unread : Reads second.items s second.at std.None → 4 ≤ byte_at s at → byte_at s at ≤ 6 → expr_at s at items ≡ leaf neither
    second-unread more low high =
        unread low high λ x t p.
        let same = found-eq (sym p.first ∙ before-second.1) in
        let count : items - 1 - size p.a ≡ second.items = rw same.0 leaves-items in
        none-some (sym (more second.items (omega arith)) ∙ (rw (count, same.1) at p.second))

    -- a connective of the two
    pub joined_at : {kind : ℕ} {join : E → E → E} {joined : Expr Atom → Expr Atom → Expr Atom} → Joining kind join joined → 0 < items
        → (end : Spot) → FoundExpr second.items second.items s second.at (std.Some end) → byte_at s at ≡ kind
        → JoinedAt joined s (record { at = at; items = items }) (record { at = at + 1; items = items - 1 }) second
    joined_at is h end b k =
        let a = before-second in
        let q : read_expr second.items (items - 1 - size a.0) (drop second.at s) ≡ some (b.0, drop end.at s) = rw leaves-items b.1 in (
          rw (expr-some (items - 1) s (at + 1) (items - 1) a.0 (drop second.at s) a.1, expr-some second.items s second.at second.items b.0 (drop end.at s) b.1)
              (expr-join is (items - 1) second.items s at items a.0 b.0 (drop second.at s) (drop end.at s) k a.1 q),
          omega arith,
          omega (arith, a.2, size-positive a.0),
          omega (arith, a.3, a.4),
          refl,
        )
