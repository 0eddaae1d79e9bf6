-- An expression that occurs does not fail: one of its two times is none, where what comes once happens by at most one record.
--     NotBoth, not-both     of every expression
--     early-not-both        a leaf that occurs does not fail early
--     count-not-both        of a count
--     occurs-alone          where it occurs it does not fail
-- Assumes nothing.
use Prim.Native.Nat.{ℕ}
use native.Mathlib.Omega.{arith}
use mathlib.Core.Path.{◌≡◌, refl, ap, sym, ◌∙◌}
use mathlib.Core.Logic.{◌⊎◌, inl, inr}
use mathlib.Core.Bool.{Bool, true, false}
use mathlib.Core.List.{[], ◌∷◌}
use lib.Dec.{leb, ltb}
use borrow.Author.Tests.{leb-true, le-ltb, le-leb}
use Rattle.meaning.specs.declared.Time.{Time}
use Rattle.meaning.specs.declared.Time.TheVariants.{At, Never}
use Rattle.meaning.specs.declared.Event.{Event}
use Rattle.meaning.specs.declared.Edge.{Edge}
use Rattle.meaning.specs.declared.Edge.TheVariants.{Minute, Endless}
use Rattle.meaning.specs.declared.Leaf.{Leaf}
use Rattle.meaning.specs.declared.CountLeaf.{CountLeaf}
use Rattle.meaning.specs.declared.Atom.{Atom}
use Rattle.meaning.specs.declared.Atom.TheVariants.{Happens, Counts}
use Rattle.meaning.specs.declared.Times.{Times}
use Rattle.meaning.specs.Time.{later_of, earlier_of, before, from, once_known, if_never, only_if}
use Rattle.meaning.specs.Terms.{Terms, Expr, leaf, and, or, except, always}
use Rattle.meaning.specs.Log.{Record, Log}
use Rattle.meaning.specs.Meaning.{StageTimes, earliest, from_edge, before_edge, reached, edge_of, happening, comes_once, and_of, or_of, except_of, first, first_within, known, leaf_occurrence, failure_at, failure_at_end, first_before, early_failure, leaf_failure, count_within, count_time, times_of}
use Rattle.meaning.proofs.TimeLaws.{before-from, before-never}
use Rattle.meaning.proofs.EdgeLaws.{never-within}
use Rattle.meaning.proofs.Once.{HappensOnce, only-within}

-- one of two times is none
abbrev pub NotBoth : Times → Type 0
NotBoth a = (a.occurs ≡ Never) ⊎ (a.fails ≡ Never)

-- a minute is not none
not_none : {A : Type 0} {n : ℕ} → At n ≡ Never → A
not_none e = let z : ◌≡◌ {A = ℕ} 0 1 = cc in absurd (omega arith)

-- the later of two times is none where the first is
later_first : {a : Time} (b : Time) → a ≡ Never → later_of a b ≡ Never
unfolding later_of
later_first b e = rw e

-- and where the second is
later_second : (a : Time) {b : Time} → b ≡ Never → later_of a b ≡ Never
unfolding later_of
later_second (At n) e = rw e
later_second Never e = refl

-- the earlier of two times is none where both are
earlier-both : {a b : Time} → a ≡ Never → b ≡ Never → earlier_of a b ≡ Never
unfolding earlier_of
earlier-both e f = rw (e, f)

-- and only there
earlier-none : (a b : Time) → earlier_of a b ≡ Never → (a ≡ Never) × (b ≡ Never)
unfolding earlier_of
earlier-none (At a) (At b) e = not_none e
earlier-none (At a) Never e = not_none e
earlier-none Never b e = (refl, e)

-- of a and b
and-not-both : (a b : Times) → NotBoth a → NotBoth b → NotBoth (and_of a b)
unfolding and_of
and-not-both a b (inl p) q = inl (later_first b.occurs p)
and-not-both a b (inr p) (inl q) = inl (later_second a.occurs q)
and-not-both a b (inr p) (inr q) = inr (earlier-both p q)

-- of a or b
or-not-both : (a b : Times) → NotBoth a → NotBoth b → NotBoth (or_of a b)
unfolding or_of
or-not-both a b (inr p) q = inr (later_first b.fails p)
or-not-both a b (inl p) (inr q) = inr (later_second a.fails q)
or-not-both a b (inl p) (inl q) = inl (earlier-both p q)

-- of a except b
except-not-both : (a b : Times) → NotBoth a → NotBoth b → NotBoth (except_of a b)
unfolding except_of
except-not-both a b (inl p) q = inl (later_first b.fails p)
except-not-both a b (inr p) (inr q) = inl (later_second a.occurs q)
except-not-both a b (inr p) (inl q) = inr (earlier-both p q)

-- what does not happen from 0 on does not happen from any edge on
from_start : (l : Edge) (t : Time) → from_edge (Minute 0) t ≡ Never → from_edge l t ≡ Never
unfolding from_edge from
from_start (Minute l) (At n) e = not_none {n = n} (rw (le-leb 0 n (omega arith)) at e)
from_start (Minute l) Never e = refl
from_start Endless t e = refl

-- a leaf by its windows: with something in its window there is something before its upper edge
by-windows : (ahead inside end : Time) (g h : ℕ) → (ahead ≡ Never → inside ≡ Never)
    → (later_of (At g) (later_of (At h) inside) ≡ Never) ⊎ (later_of (At h) (if_never ahead end (later_of (At g) (if_never inside end Never))) ≡ Never)
unfolding later_of if_never
by-windows ahead Never end g h i = inl refl
by-windows Never (At n) end g h i = inl (ap (λ (t : Time). later_of (At g) (later_of (At h) t)) (i refl))
by-windows (At m) (At n) end g h i = inr refl

-- a count by its number of records: above the threshold, or not
by_number : (n threshold : ℕ) (end : Time) (g h : ℕ)
    → (later_of (At g) (later_of (At h) (only_if (ltb threshold n) end)) ≡ Never) ⊎ (later_of (At g) (later_of (At h) (only_if (leb n threshold) end)) ≡ Never)
unfolding later_of only_if
by_number n threshold end g h = go (leb n threshold) refl
  where
    go : (b : Bool) → leb n threshold ≡ b
        → (later_of (At g) (later_of (At h) (only_if (ltb threshold n) end)) ≡ Never) ⊎ (later_of (At g) (later_of (At h) (only_if (leb n threshold) end)) ≡ Never)
    go true e = inl (rw (le-ltb threshold n (leb-true n threshold e)))
    go false e = inr (rw e)

-- what is at a lower edge or after it is not before it
two-sides : (l : ℕ) (u : Edge) (t : Time) → (from_edge (Minute l) (before_edge u t) ≡ Never) ⊎ (from_edge (Minute 0) (before_edge (Minute l) t) ≡ Never)
unfolding from_edge before_edge from before
two-sides l u Never = inl (never-within (Minute l) u)
two-sides l u (At n) = go (leb l n) refl u
  where
    go : (b : Bool) → leb l n ≡ b → (u : Edge) → (from_edge (Minute l) (before_edge u (At n)) ≡ Never) ⊎ (from_edge (Minute 0) (before_edge (Minute l) (At n)) ≡ Never)
    go true e u = inr (rw (le-ltb n l (leb-true l n e)))
    go false e (Minute m) = inl (sym (before-from m l (At n)) ∙ rw e (before-never m))
    go false e Endless = inl (rw e)

-- what excludes each of two times excludes the earlier of them
with-neither : {a b c : Time} → (a ≡ Never) ⊎ (b ≡ Never) → (a ≡ Never) ⊎ (c ≡ Never) → (a ≡ Never) ⊎ (earlier_of b c ≡ Never)
with-neither (inl p) q = inl p
with-neither (inr p) (inl q) = inl q
with-neither (inr p) (inr q) = inr (earlier-both p q)

module _ (times : StageTimes) (terms : Terms) (subject : Record) where
  -- a window in which nothing happens from 0 on has nothing from any edge on
  window-empty : (log : Log) (l u : Edge) (e : Event) → first_within times terms log subject (Minute 0) u e ≡ Never → first_within times terms log subject l u e ≡ Never
  unfolding first_within earliest
  window-empty [] l u e none = refl
  window-empty (r ∷ log) l u e none =
      let each = earlier-none _ _ none in
      earlier-both (from_start l (before_edge u (happening times terms subject e r)) each.0) (window-empty log l u e each.1)

  module _ (log : Log) where
    -- a leaf does not occur and fail at its end
    end-not-both : (x : Leaf) → (leaf_occurrence times terms log subject x ≡ Never) ⊎ (failure_at_end times terms log subject x ≡ Never)
    unfolding leaf_occurrence failure_at_end failure_at once_known
    end-not-both x = go (known times terms log subject x.lower) refl (known times terms log subject x.upper) refl
      where
        go : (lower : Time) → known times terms log subject x.lower ≡ lower → (upper : Time) → known times terms log subject x.upper ≡ upper
            → (leaf_occurrence times terms log subject x ≡ Never) ⊎ (failure_at_end times terms log subject x ≡ Never)
        go Never e upper f = inl (rw e)
        go (At g) e Never f = inr (rw f)
        go (At g) e (At h) f =
            rw (e, f)
            (by-windows (first_within times terms log subject (Minute 0) (edge_of x.upper h) x.event) (first_within times terms log subject (edge_of x.lower g) (edge_of x.upper h) x.event)
            (reached (edge_of x.upper h)) g h (window-empty log (edge_of x.lower g) (edge_of x.upper h) x.event))

    -- of a count
    pub count-not-both : (x : CountLeaf) → NotBoth (times_of times terms log subject (leaf (Counts x)))
    unfolding times_of count_time once_known later_of
    count-not-both x = go (known times terms log subject x.lower) refl (known times terms log subject x.upper) refl
      where
        go : (lower : Time) → known times terms log subject x.lower ≡ lower → (upper : Time) → known times terms log subject x.upper ≡ upper
            → NotBoth (times_of times terms log subject (leaf (Counts x)))
        go Never e upper f = inl (rw e)
        go (At g) e Never f = inl (rw (e, f))
        go (At g) e (At h) f = rw (e, f) (by_number (count_within times terms log subject (edge_of x.lower g) (edge_of x.upper h) x.kind) x.threshold (reached (edge_of x.upper h)) g h)

    module _ (once : HappensOnce times terms log subject) where
      -- what comes once is not both in a window and before it
      within-or-before : (l u : Edge) (e : Event) → comes_once terms subject e ≡ true
          → (first_within times terms log subject l u e ≡ Never) ⊎ (first_before times terms log subject l e ≡ Never)
      unfolding first_before
      within-or-before (Minute l) u e only =
          rw (only-within times terms log subject (Minute l) u e (once e only), only-within times terms log subject (Minute 0) (Minute l) e (once e only))
          (two-sides l u (first times terms log subject e))
      within-or-before Endless u e only = inr refl

      -- a leaf does not occur and fail early
      pub early-not-both : (x : Leaf) → (leaf_occurrence times terms log subject x ≡ Never) ⊎ (early_failure times terms log subject x ≡ Never)
      unfolding leaf_occurrence early_failure once_known only_if later_of
      early-not-both x = go (comes_once terms subject x.event) refl (known times terms log subject x.lower) refl (known times terms log subject x.upper) refl
        where
          go : (b : Bool) → comes_once terms subject x.event ≡ b → (lower : Time) → known times terms log subject x.lower ≡ lower
              → (upper : Time) → known times terms log subject x.upper ≡ upper
              → (leaf_occurrence times terms log subject x ≡ Never) ⊎ (early_failure times terms log subject x ≡ Never)
          go false o lower e upper f = inr (rw o)
          go true o Never e upper f = inl (rw e)
          go true o (At g) e Never f = inl (rw (e, f))
          go true o (At g) e (At h) f = elim (within-or-before (edge_of x.lower g) (edge_of x.upper h) x.event o) [
            | inl p ↦ inl (rw (e, f, p))
            | inr p ↦ inr (rw (o, e, p))
          ]

      -- of every expression
      pub not-both : (x : Expr Atom) → NotBoth (times_of times terms log subject x)
      unfolding times_of leaf_failure
      not-both (leaf (Happens x)) = with-neither (end-not-both x) (early-not-both x)
      not-both (leaf (Counts x)) = count-not-both x
      not-both (and a b) = and-not-both _ _ (not-both a) (not-both b)
      not-both (or a b) = or-not-both _ _ (not-both a) (not-both b)
      not-both (except a b) = except-not-both _ _ (not-both a) (not-both b)
      not-both always = inr refl

      -- one that occurs does not fail
      pub occurs-alone : (x : Expr Atom) {n : ℕ} → (times_of times terms log subject x).occurs ≡ At n → (times_of times terms log subject x).fails ≡ Never
      occurs-alone x e = elim (not-both x) [ inl p ↦ not_none (sym e ∙ p) | inr p ↦ p ]
