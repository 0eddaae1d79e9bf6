-- The edges of a window: they commute with `before m`, and the window from 0 on without an end lets everything in. Assumes nothing.
use Prim.Native.Nat.{ℕ}
use native.Mathlib.Omega.{arith}
use mathlib.Core.Path.{◌≡◌, refl, ap, fun_ext}
use borrow.Author.Tests.{le-leb, le-ltb}
use mathlib.Core.List.{[], ◌∷◌}
use Rattle.meaning.specs.declared.Time.{Time}
use Rattle.meaning.specs.declared.Time.TheVariants.{At, Never}
use Rattle.meaning.specs.declared.Event.{Event}
use Rattle.meaning.specs.declared.Edge.{Edge}
use Rattle.meaning.specs.declared.Edge.TheVariants.{Minute, Endless}
use Rattle.meaning.specs.Time.{before, from, earlier_of}
use Rattle.meaning.specs.Terms.{Terms}
use Rattle.meaning.specs.Log.{Record, Log}
use Rattle.meaning.specs.Meaning.{StageTimes, earliest, from_edge, before_edge, happening, first, first_within}
use Rattle.meaning.proofs.TimeLaws.{before-from, before-comm}

-- through the lower edge
pub before-from_edge : (m : ℕ) (l : Edge) (t : Time) → before m (from_edge l t) ≡ from_edge l (before m t)
unfolding from_edge before
before-from_edge m (Minute l) t = before-from m l t
before-from_edge m Endless t = refl

-- through the upper edge
pub before-before_edge : (m : ℕ) (u : Edge) (t : Time) → before m (before_edge u t) ≡ before_edge u (before m t)
unfolding before_edge
before-before_edge m (Minute u) t = before-comm m u t
before-before_edge m Endless t = refl

-- what never happens is in no window
pub never-within : (l u : Edge) → from_edge l (before_edge u Never) ≡ Never
unfolding from_edge before_edge from before
never-within (Minute l) (Minute u) = refl
never-within (Minute l) Endless = refl
never-within Endless u = refl

-- every time is in the window from 0 on
whole : (t : Time) → t ≡ from_edge (Minute 0) (before_edge Endless t)
unfolding from_edge before_edge from
whole (At n) = rw (le-leb 0 n (omega arith))
whole Never = refl

-- an event's earliest happening is the first one in that window
pub first-whole : (times : StageTimes) (terms : Terms) (log : Log) (subject : Record) (e : Event)
    → first times terms log subject e ≡ first_within times terms log subject (Minute 0) Endless e
unfolding first first_within
first-whole times terms log subject e = ap (λ (f : Record → Time). earliest f log) (fun_ext λ r. whole (happening times terms subject e r))

-- what never happens is not from an edge on
from_never : (l : Edge) → from_edge l Never ≡ Never
unfolding from_edge from
from_never (Minute l) = refl
from_never Endless = refl

-- nothing is before minute 0
none_yet : (t : Time) → before_edge (Minute 0) t ≡ Never
unfolding before_edge before
none_yet (At n) = rw (le-ltb n 0 (omega arith))
none_yet Never = refl

-- so nothing happens there
pub none-before : (times : StageTimes) (terms : Terms) (log : Log) (subject : Record) (l : Edge) (e : Event)
    → first_within times terms log subject l (Minute 0) e ≡ Never
unfolding first_within earliest earlier_of
none-before times terms [] subject l e = refl
none-before times terms (r ∷ log) subject l e = rw (none_yet (happening times terms subject e r), from_never l) (none-before times terms log subject l e)

-- an open lower bound lets nothing in
pub none_within : (times : StageTimes) (terms : Terms) (log : Log) (subject : Record) (u : Edge) (e : Event)
    → first_within times terms log subject Endless u e ≡ Never
unfolding first_within earliest earlier_of from_edge
none_within times terms [] subject u e = refl
none_within times terms (r ∷ log) subject u e = none_within times terms log subject u e
