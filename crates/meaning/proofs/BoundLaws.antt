-- Bounds, over any width: a bound lies exactly at its event plus or minus the offset, below zero at zero, and is not cut; times are.
-- Assumes nothing.
use Prim.Native.Nat.{ℕ, ◌+◌, ◌-◌, ◌≤◌, ◌<◌}
use native.Mathlib.Omega.{arith}
use mathlib.Core.Path.{◌≡◌, refl, ap}
use mathlib.Core.Bool.{Bool, cond}
use borrow.Author.Tests.{le-leb, lt-leb}
use Rattle.meaning.specs.declared.Time.TheVariants.{At, Never}
use Rattle.meaning.specs.declared.Event.{Event}
use Rattle.meaning.specs.declared.Bound.TheVariants.{Plus, Minus}
use Rattle.meaning.specs.declared.Edge.TheVariants.{Minute}
use Rattle.meaning.specs.Time.{last_minute, cut}
use Rattle.meaning.specs.Meaning.{edge_of, reached}

-- event plus offset: exactly there, however large the sum, and never before the event
pub bound-plus : (e : Event) (n g : ℕ) → (edge_of (Plus e n) g ≡ Minute (g + n)) × (g ≤ g + n)
unfolding edge_of
bound-plus e n g = (refl, omega arith)

-- event minus offset: exactly there, and never after the event
pub bound-minus : (e : Event) (n g : ℕ) → (edge_of (Minus e n) g ≡ Minute (g - n)) × (g - n ≤ g)
unfolding edge_of
bound-minus e n g = (refl, omega arith)

-- where the offset is no larger than g the difference is a true one: nothing is lost
pub bound-exact : (e : Event) (n r : ℕ) → edge_of (Minus e n) (r + n) ≡ Minute r
unfolding edge_of
bound-exact e n r = ap Minute (omega arith)

-- below zero counts as zero
pub bound-floor : (e : Event) (n g : ℕ) → g ≤ n → edge_of (Minus e n) g ≡ Minute 0
unfolding edge_of
bound-floor e n g h = ap Minute (omega arith)

-- the time at which a bound is reached is the bound's own minute, up to the last one
pub reached-at : (r : ℕ) → r ≤ last_minute → reached (Minute r) ≡ At r
unfolding reached cut
reached-at r h = ap (λ (b : Bool). cond b (At r) Never) (le-leb r last_minute h)

-- past the last minute it is never reached
pub reached-never : (r : ℕ) → last_minute < r → reached (Minute r) ≡ Never
unfolding reached cut
reached-never r h = ap (λ (b : Bool). cond b (At r) Never) (lt-leb r last_minute h)
