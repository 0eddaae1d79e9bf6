-- One step of each check of terms: tests of lists as the code makes them.
--     window-asked                  a test of the events of a window, one after another
--     Left, left-…                  a test of the numbers below n, one after another
-- Assumes nothing.
use Prim.Native.Nat.{ℕ, suc, ◌+◌, ◌-◌, ◌≤◌, ◌<◌}
use native.Mathlib.Nat.{sub-zero}
use native.Mathlib.Numerals.{add-one}
use native.Mathlib.Omega.{arith}
use mathlib.Core.Path.{◌≡◌, ap, sym, ◌∙◌}
use mathlib.Core.Bool.{Bool, true, false, ◌||◌}
use mathlib.Core.List.{◌∷◌, ◌++◌}
use Rattle.meaning.specs.declared.Event.{Event}
use Rattle.meaning.specs.declared.Bound.{Bound}
use Rattle.meaning.specs.Lists.{numbers_from, any_of}
use Rattle.meaning.specs.Terms.{bound_events}
use Rattle.meaning.proofs.ListLaws.{any_here, any-behind, any_append}

-- a test of an event, of its window's lower bound and of its upper one
pub window-asked : (p : Event → Bool) (e : Event) (l u : Bound) → any_of p (e ∷ (bound_events l ++ bound_events u))
    ≡ (p e || (any_of p (bound_events l) || any_of p (bound_events u)))
unfolding any_of
window-asked p e l u = ap (λ (b : Bool). p e || b) (any_append p (bound_events l) (bound_events u))

-- a test of the numbers below n, of which those from i on are left
abbrev pub Left : (ℕ → Bool) → ℕ → ℕ → Type 0
Left p n i = any_of p (numbers_from i (n - i)) ≡ any_of p (numbers_from 0 n)

module _ (p : ℕ → Bool) (n : ℕ) where
  -- at the start all are left
  pub left-start : Left p n 0
  left-start = rw (sub-zero n)

  module _ (i : ℕ) (left : Left p n i) where
    -- the next number passes it
    pub left-found : i < n → p i ≡ true → true ≡ any_of p (numbers_from 0 n)
    unfolding numbers_from
    left-found h e = let next : n - i ≡ suc (n - suc i) = omega arith in sym (any_here p i (numbers_from (suc i) (n - suc i)) e) ∙ (rw next at left)

    -- it fails it: those after it are left
    pub left-next : i < n → p i ≡ false → Left p n (i + 1)
    unfolding numbers_from
    left-next h e = let next : n - i ≡ suc (n - suc i) = omega arith in rw (add-one i) (sym (any-behind p i (numbers_from (suc i) (n - suc i)) e) ∙ (rw next at left))

    -- no number is left
    pub left_end : n ≤ i → false ≡ any_of p (numbers_from 0 n)
    unfolding numbers_from any_of
    left_end h = let past : n - i ≡ 0 = omega arith in rw past at left
