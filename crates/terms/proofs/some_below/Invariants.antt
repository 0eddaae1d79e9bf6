-- What the loop of `some_below` keeps.
use Prim.Native.Nat.{ℕ, ◌<◌}
use mathlib.Core.Path.{◌≡◌}
use mathlib.Core.Bool.{Bool}
use Rattle.terms.proofs.Steps.{Left}
use Rattle.terms.proofs.some_below.Given as goal

-- the answer is left to the numbers from n on
abbrev pub invariant-loop-n : goal.invariant-loop-n
invariant-loop-n g l =
    (p : ℕ → Bool) → ((n : ℕ) (b : Bool) → n < l.limit → goal.F-post g l.test n b → b ≡ p n) → Left p l.limit l.n
