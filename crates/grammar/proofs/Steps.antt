-- The readers of the model at the places and numbers that the code has.
--     Ends, Connects, as-leaf, first-at     items by what they are in an expression: their bytes and bodies
--     Reads, expr-…                         an expression: one lemma for each answer of the code
--     item-ends, schema-found               where an item ends, and a schema with the places of its clauses
--     starts-step                           the starts of one schema more
-- Assumes nothing.
use Prim.Native.Nat.{ℕ, zero, suc, ◌+◌, ◌-◌, ◌*◌, ◌≤◌, ◌<◌}
use native.Mathlib.Omega.{arith}
use mathlib.Core.Path.{◌≡◌, refl, ap, sym, ◌∙◌}
use mathlib.Core.Bool.{Bool, true, false}
use mathlib.Core.Logic.{◌⊎◌, inl, inr}
use mathlib.Core.List.{List, [], ◌∷◌, ◌++◌}
use mathlib.Core.Option.{none, some, bind}
use lib.Dec.{ltb}
use lib.ListN.{length, get_or, take, drop, set, length-append, length-drop, length-set, get_or-append}
use lib.Seq.{drop-drop, take_at, get_or_at, get_or-set_same, get_or-set_other}
use borrow.Author.Tests.{ltb-true, ltb-false}
use Rattle.meaning.specs.Terms.{leaf, always}
use Rattle.format.specs.Bytes.{byte_at, item}
use Rattle.format.specs.Grammar.{SchemaItems, size, read_both, read_leaf, read_expr, read_clause, read_schema}
use Rattle.std.specs.Prelude.{Option, Some, None}
use Rattle.grammar.specs.declared.Item.{Item}
use Rattle.grammar.specs.declared.Item.TheVariants.{Kind, Schema, Leaf, And, Or, Except, Always, Count}
use Rattle.grammar.specs.declared.Spot.{Spot}
use Rattle.grammar.specs.Items.{code_of, body_of}
use Rattle.grammar.specs.Found.{Found, FoundExpr}
use Rattle.grammar.specs.Places.{ClausesAt, no_items, Starts}
use Rattle.format.proofs.ReaderLaws.{none-some, item-sound}
use Rattle.format.proofs.PlaceLaws.{drop_here, byte_inside, item-here}
use Rattle.format.proofs.ExprLaws.{Joins, joins, LeafItem, leaf-item, count-item, reads-leaf, read-cut, read-always, read_none}

-- what is read at a connective's byte
join-reads : (n items : ℕ) (s : List ℕ) (at : ℕ) (low : 4 ≤ byte_at s at) (high : byte_at s at ≤ 6)
    → read_expr (suc n) (suc items) (drop at s) ≡ read_both (read_expr n) items (joins (byte_at s at) low high).join (drop (at + 1) s)
join-reads n items s at low high = rw (drop_here s at (byte_inside s at (omega arith))) ((joins (byte_at s at) low high).is.reads n items (drop (at + 1) s))

-- what is read as the second operand ends the whole
joined : (n items : ℕ) (s : List ℕ) (at middle left : ℕ) → 4 ≤ byte_at s at → byte_at s at ≤ 6 → FoundExpr n items s (at + 1) (Some (record { at = middle; items = left }))
    → (r : Option Spot) → FoundExpr n left s middle r → FoundExpr (suc n) (suc items) s at r
unfolding read_both bind
joined n items s at middle left low high a r b = go r b
  where
    j : Joins (byte_at s at)
    j = joins (byte_at s at) low high

    count : items - size a.0 ≡ left
    count = omega arith

    go : (r : Option Spot) → FoundExpr n left s middle r → FoundExpr (suc n) (suc items) s at r
    go (Some end) b = (j.join a.0 b.0, rw (join-reads n items s at low high, a.1, count, b.1), omega (arith, j.is.is.items a.0 b.0), omega arith, b.4)
    go None b = rw (join-reads n items s at low high, a.1, count, b)

-- an item that is read ends after its body, which is what is read
pub item-ends : (kind n : ℕ) (s : List ℕ) (at end : ℕ) {x : List ℕ} → item kind n (drop at s) ≡ some (x, drop end s) → end ≤ length s
    → (end ≡ at + 1 + n) × (x ≡ take n (drop (at + 1) s))
item-ends kind n s at end {x} e h =
    let front = item-sound kind n (drop at s) e in
    let after : drop (at + 1) s ≡ x ++ drop end s = sym (drop-drop 1 at s) ∙ ap (drop 1) front.0 in
    (omega (arith, simp (length-drop, length-append) at (ap length front.0), front.1), rw after (sym (take_at x (drop end s) n front.1)))

-- the items that end an expression, and those that join two
abbrev pub Ends : Item → Type 0
Ends k = (k ≡ Leaf) ⊎ ((k ≡ Always) ⊎ (k ≡ Count))

abbrev pub Connects : Item → Type 0
Connects k = (k ≡ And) ⊎ ((k ≡ Or) ⊎ (k ≡ Except))

-- the item bytes of those that join two
pub connects-code : {k : Item} {b : ℕ} → Connects k → code_of k ≡ b → (4 ≤ b) × (b ≤ 6)
connects-code {b = b} (inl e) h = let f : 4 ≡ b = rw e at h in (omega arith, omega arith)
connects-code {b = b} (inr (inl e)) h = let f : 5 ≡ b = rw e at h in (omega arith, omega arith)
connects-code {b = b} (inr (inr e)) h = let f : 6 ≡ b = rw e at h in (omega arith, omega arith)

-- their body is empty
pub connects-body : {k : Item} → Connects k → body_of k ≡ 0
connects-body (inl e) = ap body_of e
connects-body (inr (inl e)) = ap body_of e
connects-body (inr (inr e)) = ap body_of e

-- so their first operand stands right after their byte
pub first-at : {k : Item} → Connects k → (at : ℕ) → at + 1 + body_of k ≡ at + 1
first-at is at = omega (arith, connects-body is)

-- both kinds of leaf, by their byte and the length of their body
pub as-leaf : {k : Item} → (k ≡ Leaf) ⊎ (k ≡ Count) → LeafItem (code_of k) (body_of k)
as-leaf (inl e) = rw e leaf-item
as-leaf (inr e) = rw e count-item

-- the item byte of one that ends an expression is not 0
pub ends-code : {k : Item} {b : ℕ} → Ends k → code_of k ≡ b → 1 ≤ b
ends-code {b = b} (inl e) h = let f : 3 ≡ b = rw e at h in omega arith
ends-code {b = b} (inr (inl e)) h = let f : 7 ≡ b = rw e at h in omega arith
ends-code {b = b} (inr (inr e)) h = let f : 8 ≡ b = rw e at h in omega arith

-- what the reader of expressions promises, whatever depth the model's is allowed
abbrev pub Reads : ℕ → List ℕ → ℕ → Option Spot → Type 0
Reads items s at r = (n : ℕ) → items ≤ n → FoundExpr n items s at r

module _ (items : ℕ) (s : List ℕ) (at : ℕ) where
  -- it is enough to go one deeper, with one item taken
  one-taken : (r : Option Spot) → 1 ≤ items → ((n : ℕ) → items ≤ suc n → FoundExpr (suc n) (suc (items - 1)) s at r) → Reads items s at r
  one-taken r p f zero h = absurd (omega arith)
  one-taken r p f (suc n) h = let e : suc (items - 1) ≡ items = omega arith in rw e at (f n h)

  -- no items are left
  pub expr-no-items : items ≡ 0 → Reads items s at None
  unfolding read_expr
  expr-no-items e n h = rw e (elim n as (λ k. read_expr k 0 (drop at s) ≡ none) [ zero ↦ refl | suc n ↦ refl ])

  -- no item byte of an expression
  pub expr-no-kind : (3 ≤ byte_at s at → byte_at s at ≤ 8 → ⊥) → Reads items s at None
  expr-no-kind out n h = read_none n items s at out

  module _ {kind body : ℕ} (is : LeafItem kind body) (b : byte_at s at ≡ kind) where
    -- a leaf that is cut off
    expr-no-leaf : item kind body (drop at s) ≡ none → Reads items s at None
    expr-no-leaf f n h = read-cut is n items s at b f

    -- a leaf
    expr-leaf : {end : ℕ} → Found (item kind body) s at (Some end) → 1 ≤ items → Reads items s at (Some (record { at = end; items = items - 1 }))
    unfolding read_leaf bind size
    expr-leaf {end} f p =
        one-taken (Some (record { at = end; items = items - 1 })) p (λ n h. (leaf (kind ∷ f.0), rw (reads-leaf is n (items - 1) s at b, f.1), omega arith, f.2, f.3))

  -- always
  expr-always : 1 ≤ items → byte_at s at ≡ 7 → Reads items s at (Some (record { at = at + 1; items = items - 1 }))
  unfolding size
  expr-always p b n h =
      let in_bytes = byte_inside s at (omega arith) in
      (always, read-always n items s at (omega arith) p b in_bytes, omega arith, omega arith, omega arith)

  -- always has no body
  always-here : byte_at s at ≡ 7 → item 7 0 (drop at s) ≡ some (take 0 (drop (at + 1) s), drop (at + 1 + 0) s)
  always-here b = item-here 7 0 s at b (omega (arith, byte_inside s at (omega arith)))

  -- no item of an expression
  pub expr-head : {k : Item} → (k ≡ Kind) ⊎ (k ≡ Schema) → code_of k ≡ byte_at s at → Reads items s at None
  expr-head (inl e) b = let f : 1 ≡ byte_at s at = rw e at b in expr-no-kind (λ low high. omega arith)
  expr-head (inr e) b = let f : 2 ≡ byte_at s at = rw e at b in expr-no-kind (λ low high. omega arith)

  -- a leaf, always or a count: it is cut off
  pub expr-cut : {k : Item} → Ends k → code_of k ≡ byte_at s at → item (code_of k) (body_of k) (drop at s) ≡ none → Reads items s at None
  expr-cut (inl e) b f = expr-no-leaf leaf-item (sym (rw e at b)) (rw e at f)
  expr-cut (inr (inl e)) b f = none-some (sym (rw e at f) ∙ always-here (sym (rw e at b)))
  expr-cut (inr (inr e)) b f = expr-no-leaf count-item (sym (rw e at b)) (rw e at f)

  -- or it is read
  pub expr-end : {k : Item} {end : ℕ} → Ends k → code_of k ≡ byte_at s at → Found (item (code_of k) (body_of k)) s at (Some end) → 1 ≤ items
      → Reads items s at (Some (record { at = end; items = items - 1 }))
  expr-end (inl e) b f p = expr-leaf leaf-item (sym (rw e at b)) (rw e at f) p
  expr-end {end = end} (inr (inl e)) b f p =
      let here = sym (rw e at b) in
      let g : (x : List ℕ) × (item 7 0 (drop at s) ≡ some (x, drop end s)) × (at < end) × (end ≤ length s) = rw e at f in
      let last : end ≡ at + 1 = omega (arith, (item-ends 7 0 s at end g.1 g.3).0) in
      rw last (expr-always p here)
  expr-end (inr (inr e)) b f p = expr-leaf count-item (sym (rw e at b)) (rw e at f) p

  module _ {k : Item} (is : Connects k) (b : code_of k ≡ byte_at s at) (p : 1 ≤ items) where
    -- its byte
    low : 4 ≤ byte_at s at
    low = (connects-code is b).0

    high : byte_at s at ≤ 6
    high = (connects-code is b).1

    -- a connective without its first operand
    pub expr-no-first : Reads (items - 1) s (at + 1 + body_of k) None → Reads items s at None
    unfolding read_both bind
    expr-no-first f = one-taken None p (λ n h. rw (join-reads n (items - 1) s at low high, rw (first-at is at) at f n (omega arith)))

    -- a connective: what its second operand gives
    pub expr-both : (r : Option Spot) {middle : Spot} → Reads (items - 1) s (at + 1 + body_of k) (Some middle) → Reads middle.items s middle.at r → Reads items s at r
    expr-both r {middle} f g = one-taken r p (λ n h.
        let a = rw (first-at is at) at f n (omega arith) in
        joined n (items - 1) s at middle.at middle.items low high a r (g n (omega arith)))

-- a schema, with the places of its clauses
pub schema-found : (s : List ℕ) (at create detach consequent end : ℕ) → Found (item 2 4) s at (Some create) → Found read_clause s create (Some detach)
    → Found read_clause s detach (Some consequent) → Found read_clause s consequent (Some end)
    → (x : SchemaItems) × (read_schema (drop at s) ≡ some (x, drop end s)) × ClausesAt s x create detach consequent end
unfolding read_schema bind
schema-found s at create detach consequent end h c r u =
    let ends = item-ends 2 4 s at create h.1 h.3 in
    let body : create - 4 ≡ at + 1 = omega arith in (
      record { head = h.0; create = c.0; detach = r.0; consequent = u.0 },
      rw (h.1, c.1, r.1, u.1),
      record {
        head_body = rw body ends.1;
        head_inside = (omega arith, h.3);
        create_read = c.1;
        detach_read = r.1;
        consequent_read = u.1;
        inside = u.3;
      },
    )

-- three stores, one place after another
abbrev three : List ℕ → ℕ → ℕ → ℕ → ℕ → List ℕ
three l i a b c = set (set (set l i a) (i + 1) b) (i + 2) c

-- what stands at the three places
three-here : (l : List ℕ) (i a b c : ℕ) → i + 2 < length l
    → (get_or (three l i a b c) i 0 ≡ a) × (get_or (three l i a b c) (i + 1) 0 ≡ b) × (get_or (three l i a b c) (i + 2) 0 ≡ c)
three-here l i a b c h =
    let one = set l i a in
    let two = set one (i + 1) b in (
      get_or-set_other two (i + 2) i c 0 (λ e. omega arith) ∙ get_or-set_other one (i + 1) i b 0 (λ e. omega arith) ∙ get_or-set_same l i a 0 (omega arith),
      get_or-set_other two (i + 2) (i + 1) c 0 (λ e. omega arith) ∙ get_or-set_same one (i + 1) b 0 (omega (arith, length-set l i a)),
      get_or-set_same two (i + 2) c 0 (omega (arith, length-set one (i + 1) b, length-set l i a)),
    )

-- what stands before them is kept
three-before : (l : List ℕ) (i a b c j : ℕ) → j < i → get_or (three l i a b c) j 0 ≡ get_or l j 0
three-before l i a b c j h =
    get_or-set_other (set (set l i a) (i + 1) b) (i + 2) j c 0 (λ e. omega arith)
    ∙ get_or-set_other (set l i a) (i + 1) j b 0 (λ e. omega arith) ∙ get_or-set_other l i j a 0 (λ e. omega arith)

-- the clauses of a schema start where the array says for its rank
abbrev StartsAt : List ℕ → SchemaItems → List ℕ → ℕ → Type 0
StartsAt s x starts n = (end : ℕ) × ClausesAt s x (get_or starts (3 * n) 0) (get_or starts (3 * n + 1) 0) (get_or starts (3 * n + 2) 0) end

-- the starts of one schema more
pub starts-step : (s : List ℕ) (done : List SchemaItems) (starts : List ℕ) (x : SchemaItems) (n create detach consequent end : ℕ)
    → length done ≡ n → 3 * n + 2 < length starts → ClausesAt s x create detach consequent end → Starts s done starts
    → Starts s (done ++ (x ∷ [])) (set (set (set starts (3 * n) create) (3 * n + 1) detach) (3 * n + 2) consequent)
starts-step s done starts x n create detach consequent end e l clauses f m h = go (ltb m n) refl
  where
    go : (b : Bool) → ltb m n ≡ b → StartsAt s (get_or (done ++ (x ∷ [])) m no_items) (three starts (3 * n) create detach consequent) m
    go true p =
        let less = ltb-true m n p in
        let before = three-before starts (3 * n) create detach consequent in
        rw (
          get_or-append done (x ∷ []) no_items m (omega arith),
          before (3 * m) (omega arith),
          before (3 * m + 1) (omega arith),
          before (3 * m + 2) (omega arith),
        )
        (f m (omega arith))
    go false p =
        let same : m ≡ n = omega (arith, ltb-false m n p, length-append done (x ∷ [])) in
        let here = three-here starts (3 * n) create detach consequent l in
        rw (same, get_or_at done x [] no_items n e, here.0, here.1, here.2) (end, clauses)
