-- What a clause weighs in the cycle, by the times that are asked of it.
--     weight                                          the rank first; a clause of which nothing is asked makes no call
--     weighs                                          what a clause weighs of which a time is asked
--     create-below, detach-below, consequent-below    what a stage asks of its clauses weighs less than the stage
-- Assumes nothing.
use Prim.Native.Nat.{ℕ, ◌+◌, ◌*◌, ◌≤◌, ◌<◌}
use native.Mathlib.Omega.{arith}
use mathlib.Core.Path.{◌≡◌}
use mathlib.Core.Logic.{◌⊎◌, inl, inr}
use Rattle.meaning.specs.declared.Stage.{Stage}
use Rattle.meaning.specs.declared.Stage.TheVariants.{Created, Detached, Expired, Discharged, Violated}
use Rattle.meaning.specs.declared.NormType.{NormType}
use Rattle.meaning.specs.Terms.{rank}
use Rattle.meaning.proofs.Equation.{rank-least}
use Rattle.times.specs.declared.Needed.{Needed}
use Rattle.times.specs.declared.Needed.TheVariants.{Neither, Occurrence, Failure, Both}
use Rattle.times.specs.NeededTimes.{detach_needs, consequent_needs}

-- a clause of which nothing is needed makes no call
unfoldable pub weight : Needed → ℕ → ℕ
weight Neither k = 0
weight Occurrence k = k * 512 + 300
weight Failure k = k * 512 + 300
weight Both k = k * 512 + 300

-- one of which a time is asked
pub weighs : (n : Needed) (k : ℕ) → (n ≡ Occurrence) ⊎ ((n ≡ Failure) ⊎ (n ≡ Both)) → weight n k ≡ k * 512 + 300
unfolding weight
weighs n k (inl e) = rw e
weighs n k (inr (inl e)) = rw e
weighs n k (inr (inr e)) = rw e

-- the most that a clause of rank k weighs
most : (p : Needed) (k : ℕ) → weight p k ≤ k * 512 + 300
unfolding weight
most Neither k = omega arith
most Occurrence k = omega arith
most Failure k = omega arith
most Both k = omega arith

-- what is needed of each clause weighs less than the stage
pub create-below : (s : Stage) (j k : ℕ) → k ≡ 3 * j → weight Occurrence k < rank s j * 512 + 511
unfolding weight
create-below s j k e = omega (arith, rank-least s j)

pub detach-below : (s : Stage) (j k : ℕ) (n : Needed) → k ≡ 3 * j + 1 → n ≡ detach_needs s → weight n k < rank s j * 512 + 511
unfolding weight rank
detach-below Created j k n e f = rw f (omega arith)
detach-below Detached j k n e f = rw f (omega arith)
detach-below Expired j k n e f = rw f (omega arith)
detach-below Discharged j k n e f = rw f (omega arith)
detach-below Violated j k n e f = rw f (omega arith)

pub consequent-below : (s : Stage) (norm : NormType) (j k : ℕ) (n : Needed) → k ≡ 3 * j + 2 → n ≡ consequent_needs s norm → weight n k < rank s j * 512 + 511
unfolding weight rank
consequent-below Created norm j k n e f = rw f (omega arith)
consequent-below Detached norm j k n e f = rw f (omega arith)
consequent-below Expired norm j k n e f = rw f (omega arith)
consequent-below Discharged norm j k n e f = omega (arith, most n k)
consequent-below Violated norm j k n e f = omega (arith, most n k)

-- what the search for the proof of `stage_time` cites
pub ruleset stages = (create-below, detach-below)
