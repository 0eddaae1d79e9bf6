-- A test of leaves over an expression as the code reads it: one lemma for each answer.
--     stands_here, stands-item, stands-leaf an expression and its first item are within the bytes
--     leaf-found, leaf-past, always-past    at a leaf, and at always
--     stands-first, stands-second           the operands of a connective stand after its byte
--     first_found, second_walks             at a connective
--     first-falls                           fewer items are left for the second operand
-- Assumes nothing.
use Prim.Native.Nat.{ℕ, suc, ◌+◌, ◌-◌, ◌≤◌, ◌<◌}
use native.Mathlib.Omega.{arith}
use mathlib.Core.Path.{◌≡◌, refl, ap, sym, ◌∙◌}
use Rattle.format.proofs.ReaderLaws.{none-some}
use mathlib.Core.Bool.{Bool, true, false, ◌||◌}
use mathlib.Core.List.{List}
use mathlib.Core.Option.{some}
use lib.ListN.{length, drop}
use Rattle.meaning.specs.Lists.{any_of}
use Rattle.meaning.specs.Terms.{leaves}
use Rattle.format.specs.Bytes.{byte_at}
use Rattle.format.specs.Grammar.{size, read_expr}
use Rattle.meaning.proofs.ListLaws.{any_append}
use Rattle.format.proofs.GrammarLaws.{E, Connective, size-positive, expr-read}
use Rattle.format.proofs.ExprLaws.{Joins, joins, Parts, read-inside, read_none, leaf-is, always-is, join_is}
use Rattle.grammar.specs.Found.{StandsExpr}
use Rattle.std.specs.Prelude.{Option, Some, None}
use mathlib.Core.Logic.{◌⊎◌, inl, inr}
use Rattle.grammar.specs.declared.Item.{Item}
use Rattle.grammar.specs.declared.Item.TheVariants.{Kind, Schema, Leaf, Always, Count}
use Rattle.grammar.specs.declared.Spot.{Spot}
use Rattle.grammar.specs.Items.{code_of, body_of}
use Rattle.grammar.proofs.Steps.{Connects, connects-code, first-at, as-leaf}
use Rattle.fields.specs.Decoded.{LeafAt, leaf_item}
use Rattle.terms.specs.Questions.{clause_has, WalkedOver, Walks}

-- a connective has what either operand has
join-has : {kind : ℕ} {join : E → E → E} → Connective kind join → (q : List ℕ → Bool) (a b : E) → clause_has q (join a b) ≡ (clause_has q a || clause_has q b)
unfolding clause_has
join-has is q a b = rw is.of-leaves (any_append q (leaves a) (leaves b))

module _ (s : List ℕ) (at items : ℕ) (w : StandsExpr s at items) where
  -- it stands within the bytes, and has an item
  pub stands_here : (at < length s) × (1 ≤ items)
  stands_here = (read-inside items items s at w.0 w.1 w.2, omega (arith, (expr-read items items (drop at s) w.0 w.1 w.2).1, size-positive w.0))

  -- its first byte is an item's
  pub stands-item : (1 ≤ byte_at s at → byte_at s at ≤ 8 → ⊥) → ⊥
  stands-item out = none-some (sym (read_none items items s at (λ low high. out (omega arith) high)) ∙ w.2)

  -- a leaf has its body
  pub stands-leaf : {item : Item} → (item ≡ Leaf) ⊎ (item ≡ Count) → code_of item ≡ byte_at s at → LeafAt s at item
  stands-leaf is e = (is, e, (leaf-is items items s at w.0 w.1 w.2 (as-leaf is) (sym e)).2)

module _ (s : List ℕ) (P : (List ℕ → Bool) → Type 0) (at items : ℕ) where
  -- no expression starts with the item of a kind or of a schema
  unread : (x : E) (t : List ℕ) → read_expr items items (drop at s) ≡ some (x, t) → byte_at s at < 3 → ⊥
  unread x t found h = none-some (sym (read_none items items s at (λ low high. omega arith)) ∙ found)

  module _ {item : Item} (is : LeafAt s at item) {b : Bool} (h : (q : List ℕ → Bool) → P q → b ≡ q (leaf_item s at item)) where
    -- a leaf that passes it
    pub leaf-found : b ≡ true → Walks s P at items None
    unfolding clause_has leaves any_of
    leaf-found b x t found q asks = rw ((leaf-is items items s at x t found (as-leaf is.0) (sym is.1)).0, ← h q asks, b)

    -- a leaf that fails it
    pub leaf-past : b ≡ false → Walks s P at items (Some (record { at = at + 1 + body_of item; items = items - 1 }))
    unfolding clause_has leaves any_of size
    leaf-past b x t found =
        let l = leaf-is items items s at x t found (as-leaf is.0) (sym is.1) in
        let one : size x ≡ 1 = ap size l.0 in
        let end : at + suc (body_of item) ≡ at + 1 + body_of item = omega arith in
        (λ q asks. rw (l.0, ← h q asks, b), rw (← end) l.1, omega (arith, is.2), omega (arith, (expr-read items items (drop at s) x t found).1))

  -- always: no other item is left that can be read
  pub always-past : {item : Item} → (item ≡ Always) ⊎ ((item ≡ Kind) ⊎ (item ≡ Schema)) → code_of item ≡ byte_at s at → at < length s
      → Walks s P at items (Some (record { at = at + 1 + body_of item; items = items - 1 }))
  unfolding clause_has leaves any_of size
  always-past {item} (inl g) e inside x t found =
      let f : 7 ≡ byte_at s at = rw g at e in
      let l = always-is items items s at x t found (λ low high. omega arith) (λ h. omega arith) in
      let one : size x ≡ 1 = ap size l.0 in
      let end : at + 1 ≡ at + 1 + body_of item = omega (arith, ap body_of g) in
      (λ q asks. rw l.0, rw (← end) l.1, omega arith, omega (arith, (expr-read items items (drop at s) x t found).1))
  always-past (inr (inl g)) e inside x t found = let f : 1 ≡ byte_at s at = rw g at e in absurd (unread x t found (omega arith))
  always-past (inr (inr g)) e inside x t found = let f : 2 ≡ byte_at s at = rw g at e in absurd (unread x t found (omega arith))

  module _ {item : Item} (is : Connects item) (here : code_of item ≡ byte_at s at) where
    -- the connective
    j : Joins (byte_at s at)
    j = joins (byte_at s at) (connects-code is here).0 (connects-code is here).1

    -- its operands
    parts : (x : E) (t : List ℕ) → read_expr items items (drop at s) ≡ some (x, t) → Parts j.join items s at x t
    parts x t found = join_is j.is items items s at x t refl found

    pub stands-first : StandsExpr s at items → StandsExpr s (at + 1 + body_of item) (items - 1)
    stands-first w = let p = parts w.0 w.1 w.2 in rw (first-at is at) (p.a, p.u, p.first)

    -- the first has it
    pub first_found : Walks s P (at + 1 + body_of item) (items - 1) None → Walks s P at items None
    first_found walks x t found q asks =
        let p = parts x t found in
        let has : clause_has q p.a ≡ true = (rw (first-at is at) at walks) p.a p.u p.first q asks in
        rw (p.is, join-has j.is.is q p.a p.b, has)

    module _ (second : Spot) (walks : Walks s P (at + 1 + body_of item) (items - 1) (Some second)) where
      -- what the first leaves
      left : (x : E) (t : List ℕ) (found : read_expr items items (drop at s) ≡ some (x, t)) → let p = parts x t found in
          ((q : List ℕ → Bool) → P q → clause_has q p.a ≡ false) × (read_expr second.items second.items (drop second.at s) ≡ some (p.b, t)) × (size p.a + second.items ≡ items - 1)
      left x t found =
          let p = parts x t found in
          let w : WalkedOver s P (items - 1) p.a p.u (Some second) = (rw (first-at is at) at walks) p.a p.u p.first in
          let rest : items - 1 - size p.a ≡ second.items = omega arith in
          (w.0, rw (← rest, ← w.1) p.second, w.3)

      -- the second stands after the first
      pub stands-second : StandsExpr s at items → StandsExpr s second.at second.items
      stands-second w = ((parts w.0 w.1 w.2).b, w.1, (left w.0 w.1 w.2).1)

      -- fewer items are left for it
      pub first-falls : StandsExpr s at items → second.items < items
      first-falls w = omega (arith, (left w.0 w.1 w.2).2, (expr-read items items (drop at s) w.0 w.1 w.2).1, size-positive w.0)

      -- what is found in the second
      pub second_walks : (r : Option Spot) → Walks s P second.at second.items r → Walks s P at items r
      second_walks r f x t found = go r (f p.b t l.1)
        where
          p : Parts j.join items s at x t
          p = parts x t found

          l : ((q : List ℕ → Bool) → P q → clause_has q p.a ≡ false) × (read_expr second.items second.items (drop second.at s) ≡ some (p.b, t)) × (size p.a + second.items ≡ items - 1)
          l = left x t found

          same : (q : List ℕ → Bool) → P q → clause_has q x ≡ clause_has q p.b
          same q asks = ap (clause_has q) p.is ∙ join-has j.is.is q p.a p.b ∙ ap (λ (b : Bool). b || clause_has q p.b) (l.0 q asks)

          go : (r : Option Spot) → WalkedOver s P second.items p.b t r → WalkedOver s P items x t r
          go None h = λ q asks. same q asks ∙ h q asks
          go (Some end) h =
              (λ q asks. same q asks ∙ h.0 q asks, h.1, h.2, omega (arith, l.2, ap size p.is, j.is.is.items p.a p.b, (expr-read items items (drop at s) x t found).1))
