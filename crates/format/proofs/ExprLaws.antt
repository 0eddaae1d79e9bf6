-- The expression at a place of the terms, and what the expression that items stand for has of theirs.
--     leaves-from, any-event          its leaves, and a test of its events, leaf by leaf of its items
--     expr-deep, expr-depth           depth as much as items is enough
--     Joining, and-joins, …, joins    the connectives, in items and in meaning
--     LeafItem, leaf-item, count-item, reads-leaf   the two kinds of leaf, how each is read
--     read-leaf, read-cut, read-always, read_join, read_none   what is read at a place, by the byte there
--     read-inside, leaf-is, always-is, join_is     the way back: what was read there, by the byte
--     expr-some, expr-none, expr-clause   what stands at a place, by what is read there
--     expr-leaf, expr-always, expr-join   the same by the byte there and, of a connective, by what was read after it
-- Assumes nothing.
use Prim.Native.Nat.{ℕ, zero, suc, ◌+◌, ◌-◌, ◌≤◌, ◌<◌}
use native.Mathlib.Omega.{arith}
use mathlib.Core.Path.{◌≡◌, refl, ap, sym, ◌∙◌}
use mathlib.Core.Bool.{Bool, true, false}
use mathlib.Core.List.{List, ◌∷◌, ◌++◌, map, map-append, append_assoc}
use mathlib.Core.Option.{Option, none, some, bind}
use lib.Dec.{eqb, ltb}
use lib.ListN.{length, take, drop, length-append, length-drop}
use borrow.Author.Tests.{le-leb, ltb-true, ltb-false, eqb-true, eqb-false}
use Rattle.meaning.specs.declared.Event.{Event}
use Rattle.meaning.specs.declared.Atom.{Atom}
use Rattle.meaning.specs.Lists.{any_of}
use Rattle.meaning.specs.Terms.{Expr, leaf, and, or, except, always, leaves, leaf_events}
use Rattle.format.specs.Bytes.{or_else, byte_at, item}
use Rattle.format.specs.Grammar.{size, read_both, read_leaf, read_expr, expr_limit, read_clause, expr_bytes, WholeLeaf}
use Rattle.format.specs.Fields.{neither, leaf_from, expr_from, expr_at, any_event}
use Rattle.meaning.proofs.ListLaws.{all_append, any-map}
use Rattle.format.proofs.ReaderLaws.{none-some, found-eq, bind-cases}
use Rattle.format.proofs.GrammarLaws.{size-positive, expr-long, E, Connective, and_is, or_is, except-is, expr-read, expr-whole}
use Rattle.format.proofs.PlaceLaws.{drop_here, byte_inside, item-here, item-other, item-short}

-- the leaves of what items stand for are what the leaves stand for
pub leaves-from : (x : E) → leaves (expr_from x) ≡ map leaf_from (leaves x)
unfolding leaves expr_from
leaves-from (leaf item) = refl
leaves-from (and a b) = rw (leaves-from a, leaves-from b, map-append)
leaves-from (or a b) = rw (leaves-from a, leaves-from b, map-append)
leaves-from (except a b) = rw (leaves-from a, leaves-from b, map-append)
leaves-from always = refl

-- a test of the events is made leaf by leaf
pub any-event : (p : Event → Bool) (x : E) → any_event p (expr_from x) ≡ any_of (λ item. any_of p (leaf_events (leaf_from item))) (leaves x)
unfolding any_event
any-event p x = ap (any_of (λ l. any_of p (leaf_events l))) (leaves-from x) ∙ any-map (λ l. any_of p (leaf_events l)) leaf_from (leaves x)

-- what is read at some depth is read at any that is as much as the items
pub expr-deep : (n m items : ℕ) (s : List ℕ) (x : E) (t : List ℕ) → items ≤ m → read_expr n items s ≡ some (x, t) → read_expr m items s ≡ some (x, t)
expr-deep n m items s x t h e =
    let found = expr-read n items s x t e in
    rw found.0 (expr-whole m items x t (omega (arith, found.1)) found.1 found.2)

-- depth as much as items is enough
pub expr-depth : (n m items : ℕ) (s : List ℕ) → items ≤ n → items ≤ m → read_expr n items s ≡ read_expr m items s
expr-depth n m items s h k = go (read_expr n items s) (read_expr m items s) refl refl
  where
    go : (o p : Option (E × List ℕ)) → read_expr n items s ≡ o → read_expr m items s ≡ p → o ≡ p
    go (some x) p e f = sym (expr-deep n m items s x.0 x.1 k e) ∙ f
    go none (some y) e f = sym e ∙ expr-deep m n items s y.0 y.1 h f
    go none none e f = refl

-- one reading alone
or-none : {A : Type 0} (o : Option A) → or_else o none ≡ o
or-none none = refl
or-none (some a) = refl

-- a connective of items, how it is read, and the one of what they stand for
pub record Joining (kind : ℕ) (join : E → E → E) (joined : Expr Atom → Expr Atom → Expr Atom) : Type 0 where
  -- in bytes, items and leaves
  pub is : Connective kind join
  -- after its byte stand its operands
  pub reads : (n items : ℕ) (u : List ℕ) → read_expr (suc n) (suc items) (kind ∷ u) ≡ read_both (read_expr n) items join u
  -- in meaning
  pub from : (a b : E) → expr_from (join a b) ≡ joined (expr_from a) (expr_from b)

-- item 04
pub and-joins : Joining 4 and and
unfolding expr_from read_leaf read_expr item bind
and-joins = record { is = and_is; reads = λ n items u. rw (le-leb 0 (length u) (omega arith)) (or-none _); from = λ a b. refl }

-- item 05
pub or-joins : Joining 5 or or
unfolding expr_from read_leaf read_expr item bind
or-joins = record { is = or_is; reads = λ n items u. rw (le-leb 0 (length u) (omega arith)) (or-none _); from = λ a b. refl }

-- item 06
pub except-joins : Joining 6 except except
unfolding expr_from read_leaf read_expr item bind
except-joins = record { is = except-is; reads = λ n items u. rw (le-leb 0 (length u) (omega arith)) (or-none _); from = λ a b. refl }

-- the connective of a byte
pub record Joins (b : ℕ) : Type 0 where
  -- of items
  pub join : E → E → E
  -- of what they stand for
  pub joined : Expr Atom → Expr Atom → Expr Atom
  -- it is one
  pub is : Joining b join joined

-- each of the bytes 4, 5 and 6 has one
pub joins : (b : ℕ) → 4 ≤ b → b ≤ 6 → Joins b
joins b low high = go (eqb b 4) (eqb b 5) refl refl
  where
    go : (p q : Bool) → eqb b 4 ≡ p → eqb b 5 ≡ q → Joins b
    go true q e f = rw (eqb-true b 4 e) (record { join = and; joined = and; is = and-joins })
    go false true e f = rw (eqb-true b 5 f) (record { join = or; joined = or; is = or-joins })
    go false false e f =
        let six : b ≡ 6 = omega (arith, eqb-false b 4 e, eqb-false b 5 f) in
        rw six (record { join = except; joined = except; is = except-joins })

-- a kind of leaf: its item byte, its body's length, and how it is read
pub record LeafItem (kind n : ℕ) : Type 0 where
  -- nothing else is read at its byte
  pub reads : (m items : ℕ) (u : List ℕ) → read_expr (suc m) (suc items) (kind ∷ u) ≡ read_leaf kind n (kind ∷ u)
  -- it is not the byte that stands past the end
  pub some_byte : 0 < kind

-- item 03
pub leaf-item : LeafItem 3 16
unfolding read_leaf read_expr item bind
leaf-item = record { reads = λ m items u. or-none _; some_byte = omega arith }

-- item 08
pub count-item : LeafItem 8 19
unfolding read_leaf read_expr item bind
count-item = record { reads = λ m items u. refl; some_byte = omega arith }

module _ {kind n : ℕ} (is : LeafItem kind n) (m items : ℕ) (s : List ℕ) (at : ℕ) (here : byte_at s at ≡ kind) where
  -- what is read at its byte
  pub reads-leaf : read_expr (suc m) (suc items) (drop at s) ≡ read_leaf kind n (drop at s)
  reads-leaf =
      let front : drop at s ≡ kind ∷ drop (at + 1) s = drop_here s at (byte_inside s at (omega (arith, is.some_byte))) ∙ ap (λ (b : ℕ). b ∷ drop (at + 1) s) here in
      rw front (is.reads m items (drop (at + 1) s))

-- a leaf at a place
pub read-leaf : {kind n : ℕ} → LeafItem kind n → (m items : ℕ) (s : List ℕ) (at : ℕ) → 0 < m → 0 < items → byte_at s at ≡ kind → at + suc n ≤ length s
    → read_expr m items (drop at s) ≡ some (leaf (take (suc n) (drop at s)), drop (at + suc n) s)
unfolding read_leaf bind
read-leaf is zero items s at g h e l = absurd (omega arith)
read-leaf is (suc m) zero s at g h e l = absurd (omega arith)
read-leaf {kind} {n} is (suc m) (suc items) s at g h e l =
    let end : at + 1 + n ≡ at + suc n = omega arith in
    let whole : take (suc n) (drop at s) ≡ kind ∷ take n (drop (at + 1) s) = rw (drop_here s at (omega arith), e) in
    rw (reads-leaf is m items s at e, item-here kind n s at e (omega arith), end, whole)

-- a leaf that is cut off is not read
pub read-cut : {kind n : ℕ} → LeafItem kind n → (m items : ℕ) (s : List ℕ) (at : ℕ) → byte_at s at ≡ kind → item kind n (drop at s) ≡ none → read_expr m items (drop at s) ≡ none
unfolding read_leaf read_expr bind
read-cut is zero items s at e l = refl
read-cut is (suc m) zero s at e l = refl
read-cut {kind} {n} is (suc m) (suc items) s at e l = rw (reads-leaf is m items s at e, l)

-- always at a place
pub read-always : (n items : ℕ) (s : List ℕ) (at : ℕ) → 0 < n → 0 < items → byte_at s at ≡ 7 → at < length s
    → read_expr n items (drop at s) ≡ some (always, drop (at + 1) s)
read-always n items s at g h e l = rw (drop_here s at l, e) (unfold expr_bytes size leaves in (expr-whole n items always (drop (at + 1) s) g h tt))

-- what is read stands before the end
pub read-inside : (n items : ℕ) (s : List ℕ) (at : ℕ) (x : E) (t : List ℕ) → read_expr n items (drop at s) ≡ some (x, t) → at < length s
read-inside n items s at x t e =
    let found = expr-read n items (drop at s) x t e in
    omega (arith, ap length found.0, length-append (expr_bytes x) t, length-drop at s, expr-long x found.2)

-- a connective at a place, by what was read after its byte
pub read_join : {kind : ℕ} {join : E → E → E} → Connective kind join
    → (n m k : ℕ) (s : List ℕ) (at items : ℕ) (a b : E) (u t : List ℕ) → items ≤ k → byte_at s at ≡ kind
    → read_expr n (items - 1) (drop (at + 1) s) ≡ some (a, u) → read_expr m (items - 1 - size a) u ≡ some (b, t) → read_expr k items (drop at s) ≡ some (join a b, t)
read_join {kind} {join} is n m k s at items a b u t h e p q =
    let left = expr-read n (items - 1) (drop (at + 1) s) a u p in
    let right = expr-read m (items - 1 - size a) u b t q in
    let front : drop at s ≡ expr_bytes (join a b) ++ t =
    rw (is.bytes, append_assoc) (cc (drop_here s at (omega (arith, read-inside n (items - 1) s (at + 1) a u p)), e, left.0, right.0)) in
    let count : size (join a b) ≤ items = omega (arith, is.items a b, left.1, right.1, size-positive a, size-positive b) in
    rw front (expr-whole k items (join a b) t (omega arith) count (rw is.of-leaves (all_append WholeLeaf (leaves a) (leaves b) left.2 right.2)))

-- nothing is read where no item of an expression stands
pub read_none : (n items : ℕ) (s : List ℕ) (at : ℕ) → (3 ≤ byte_at s at → byte_at s at ≤ 8 → ⊥) → read_expr n items (drop at s) ≡ none
unfolding read_leaf read_expr bind
read_none zero items s at out = refl
read_none (suc n) zero s at out = refl
read_none (suc n) (suc items) s at out =
    simp (
      item-other 3 16 s at (λ b. out (omega arith) (omega arith)),
      item-other 4 0 s at (λ b. out (omega arith) (omega arith)),
      item-other 5 0 s at (λ b. out (omega arith) (omega arith)),
      item-other 6 0 s at (λ b. out (omega arith) (omega arith)),
      item-other 7 0 s at (λ b. out (omega arith) (omega arith)),
      item-other 8 19 s at (λ b. out (omega arith) (omega arith)),
    )

-- what was read at a connective's byte: its operands, one after the other
pub record Parts (join : E → E → E) (items : ℕ) (s : List ℕ) (at : ℕ) (x : E) (t : List ℕ) : Type 0 where
  -- the first operand
  pub a : E
  -- the second
  pub b : E
  -- the bytes after the first
  pub u : List ℕ
  -- x joins them
  pub is : x ≡ join a b
  -- the first stands after the byte
  pub first : read_expr (items - 1) (items - 1) (drop (at + 1) s) ≡ some (a, u)
  -- the second after the first
  pub second : read_expr (items - 1 - size a) (items - 1 - size a) u ≡ some (b, t)

-- something is read only where depth and items are left
some_left : (n items : ℕ) (s : List ℕ) (x : E) (t : List ℕ) → read_expr n items s ≡ some (x, t) → (0 < n) × (0 < items)
unfolding read_expr
some_left zero items s x t e = none-some e
some_left (suc n) zero s x t e = none-some e
some_left (suc n) (suc items) s x t e = (omega arith, omega arith)

module _ (n items : ℕ) (s : List ℕ) (at : ℕ) (x : E) (t : List ℕ) (found : read_expr n items (drop at s) ≡ some (x, t)) where
  -- at a leaf's byte a leaf was read
  pub leaf-is : {kind size : ℕ} → LeafItem kind size → byte_at s at ≡ kind → (x ≡ leaf (take (suc size) (drop at s))) × (t ≡ drop (at + suc size) s) × (at + suc size ≤ length s)
  leaf-is {kind} {size} is e = go (ltb (length s) (at + suc size)) refl
    where
      go : (b : Bool) → ltb (length s) (at + suc size) ≡ b → (x ≡ leaf (take (suc size) (drop at s))) × (t ≡ drop (at + suc size) s) × (at + suc size ≤ length s)
      go true l =
          let short = item-short kind size s at (omega (arith, ltb-true (length s) (at + suc size) l)) in
          none-some (sym (read-cut is n items s at e short) ∙ found)
      go false l =
          let inside = ltb-false (length s) (at + suc size) l in
          let more = some_left n items (drop at s) x t found in
          let same = found-eq (sym found ∙ read-leaf is n items s at more.0 more.1 e inside) in
          (same.0, same.1, inside)

  -- where no leaf and no connective stands, always was read
  pub always-is : (3 ≤ byte_at s at → byte_at s at ≤ 6 → ⊥) → (byte_at s at ≡ 8 → ⊥) → (x ≡ always) × (t ≡ drop (at + 1) s)
  always-is out no-count = go (eqb (byte_at s at) 7) refl
    where
      go : (b : Bool) → eqb (byte_at s at) 7 ≡ b → (x ≡ always) × (t ≡ drop (at + 1) s)
      go true e =
          let more = some_left n items (drop at s) x t found in
          found-eq (sym found ∙ read-always n items s at more.0 more.1 (eqb-true _ 7 e) (read-inside n items s at x t found))
      go false e =
          let other = eqb-false (byte_at s at) 7 e in
          none-some (sym (read_none n items s at (λ low high. out low (omega (arith, other, no-count)))) ∙ found)

-- at a connective's byte it and its operands were read
pub join_is : {kind : ℕ} {join : E → E → E} {joined : Expr Atom → Expr Atom → Expr Atom} → Joining kind join joined
    → (n items : ℕ) (s : List ℕ) (at : ℕ) (x : E) (t : List ℕ) → byte_at s at ≡ kind → read_expr n items (drop at s) ≡ some (x, t) → Parts join items s at x t
unfolding read_both
join_is is zero items s at x t k e = absurd (omega (arith, some_left zero items (drop at s) x t e))
join_is is (suc n) zero s at x t k e = absurd (omega (arith, some_left (suc n) zero (drop at s) x t e))
join_is is (suc n) (suc items) s at x t k e =
    bind-cases (read_expr n items (drop (at + 1) s)) _ (rw (drop_here s at (read-inside (suc n) (suc items) s at x t e), k, is.reads n items) at e) λ a p e₁.
    bind-cases (read_expr n (items - size a.0) a.1) _ e₁ λ b q e₂.
    let same = found-eq e₂ in
    let one : (k : ℕ) → suc k - 1 ≡ k = λ k. omega arith in
    record {
      a = a.0;
      b = b.0;
      u = a.1;
      is = sym same.0;
      first = rw (one items) (expr-deep n items items _ _ _ (omega arith) p);
      second = rw (← same.1, one items) (expr-deep n (items - size a.0) (items - size a.0) _ _ _ (omega arith) q);
    }

-- what stands at a place, by what is read there
pub expr-some : (n : ℕ) (s : List ℕ) (at items : ℕ) (x : E) (t : List ℕ) → read_expr n items (drop at s) ≡ some (x, t) → expr_at s at items ≡ expr_from x
unfolding expr_at
expr-some n s at items x t e = rw (expr-deep n items items (drop at s) x t (omega arith) e, expr_at)

-- where nothing is read
pub expr-none : (n : ℕ) (s : List ℕ) (at items : ℕ) → items ≤ n → read_expr n items (drop at s) ≡ none → expr_at s at items ≡ leaf neither
unfolding expr_at
expr-none n s at items h e = rw (expr-depth items n items (drop at s) (omega arith) h ∙ e, expr_at)

-- a clause
pub expr-clause : (s : List ℕ) (at : ℕ) (x : E) (t : List ℕ) → read_clause (drop at s) ≡ some (x, t) → expr_at s at expr_limit ≡ expr_from x
unfolding read_clause
expr-clause s at x t e = expr-some expr_limit s at expr_limit x t e

-- a leaf
pub expr-leaf : {kind n : ℕ} → LeafItem kind n → (s : List ℕ) (at items : ℕ) → 0 < items → byte_at s at ≡ kind → at + suc n ≤ length s
    → expr_at s at items ≡ leaf (leaf_from (take (suc n) (drop at s)))
unfolding expr_from
expr-leaf is s at items h e l = expr-some items s at items _ _ (read-leaf is items items s at h h e l)

-- always
pub expr-always : (s : List ℕ) (at items : ℕ) → 0 < items → byte_at s at ≡ 7 → at < length s → expr_at s at items ≡ always
unfolding expr_from
expr-always s at items h e l = expr-some items s at items _ _ (read-always items items s at h h e l)

-- the same of what stands there
pub expr-join : {kind : ℕ} {join : E → E → E} {joined : Expr Atom → Expr Atom → Expr Atom} → Joining kind join joined
    → (n m : ℕ) (s : List ℕ) (at items : ℕ) (a b : E) (u t : List ℕ) → byte_at s at ≡ kind
    → read_expr n (items - 1) (drop (at + 1) s) ≡ some (a, u) → read_expr m (items - 1 - size a) u ≡ some (b, t)
    → expr_at s at items ≡ joined (expr_from a) (expr_from b)
expr-join {join = join} is n m s at items a b u t e p q =
    expr-some items s at items (join a b) t (read_join is.is n m items s at items a b u t (omega arith) e p q) ∙ is.from a b
