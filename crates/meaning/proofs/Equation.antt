-- The document's own equation: a stage's time is what its clauses say, with the same times for the stages that they cite.
-- It needs no rule on citations, since a clause of rank k sees only stages of smaller rank. Document 01, 'Citation' and 'When things happen'.
-- Assumes nothing.
use Prim.Native.Nat.{ℕ, zero, suc, ◌+◌, ◌*◌, ◌≤◌, ◌<◌}
use native.Mathlib.Omega.{arith}
use mathlib.Core.Path.{◌≡◌, ap, fun_ext}
use borrow.Author.Tests.{lt-ltb, le-ltb}
use Rattle.meaning.specs.declared.Time.TheVariants.{At, Never}
use Rattle.meaning.specs.declared.Stage.{Stage}
use Rattle.meaning.specs.declared.Stage.TheVariants.{Created, Detached, Expired, Discharged, Violated}
use Rattle.meaning.specs.declared.NormType.{NormType}
use Rattle.meaning.specs.declared.Atom.{Atom}
use Rattle.meaning.specs.declared.Times.{Times}
use Rattle.meaning.specs.Time.{later_of, only_if}
use Rattle.meaning.specs.Terms.{Terms, Expr, schema_at, rank}
use Rattle.meaning.specs.Log.{Record, Log}
use Rattle.meaning.specs.Meaning.{StageTimes, cited, times_of, stage_from, stage_step, times_within, stage_time}
use Rattle.meaning.proofs.TimeLaws.{Side, early, late, side}

-- a clause of rank k sees a stage of smaller rank as it is
pub cited-below : (k : ℕ) (times : StageTimes) (s : Stage) (j : ℕ) (r : Record) → rank s j < k → cited k times s j r ≡ times s j r
unfolding cited only_if
cited-below k times s j r h = rw (lt-ltb (rank s j) k h, cited)

-- and any other stage as one that never happens
pub cited-above : (k : ℕ) (times : StageTimes) (s : Stage) (j : ℕ) (r : Record) → k ≤ rank s j → cited k times s j r ≡ Never
unfolding cited only_if
cited-above k times s j r h = rw (le-ltb (rank s j) k h, cited)

-- a stage ranks no lower than its create clause
pub rank-least : (s : Stage) (j : ℕ) → 3 * j ≤ rank s j
unfolding rank
rank-least Created j = omega arith
rank-least Detached j = omega arith
rank-least Expired j = omega arith
rank-least Discharged j = omega arith
rank-least Violated j = omega arith

-- two families of stage times are the same on ranks below k
abbrev pub SameBelow : ℕ → StageTimes → StageTimes → Type 0
SameBelow k times times' = (s : Stage) (j : ℕ) → rank s j < k → (r : Record) → times s j r ≡ times' s j r

-- a clause of rank k sees no difference above
pub cited-same : (k : ℕ) (times times' : StageTimes) → SameBelow k times times' → cited k times ≡ cited k times'
cited-same k times times' same = fun_ext λ s. fun_ext λ j. fun_ext λ r. go s j r (side k (rank s j))
  where
    go : (s : Stage) (j : ℕ) (r : Record) → Side k (rank s j) → cited k times s j r ≡ cited k times' s j r
    go s j r (early h) = rw (cited-below k times s j r h, cited-below k times' s j r h) (same s j h r)
    go s j r (late h) = rw (cited-above k times s j r h, cited-above k times' s j r h)

-- a stage of schema j depends on the clauses of ranks up to its own
stage_from-same : (s : Stage) (j : ℕ) (type : NormType) {c c' r r' u u' : Times} → (3 * j ≤ rank s j → c ≡ c') → (3 * j + 1 ≤ rank s j → r ≡ r') → (3 * j + 2 ≤ rank s j → u ≡ u')
    → stage_from s type c r u ≡ stage_from s type c' r' u'
unfolding rank stage_from
stage_from-same Created j type p q w = rw (p (omega arith))
stage_from-same Detached j type p q w = rw (p (omega arith), q (omega arith))
stage_from-same Expired j type p q w = rw (p (omega arith), q (omega arith))
stage_from-same Discharged j type p q w = rw (p (omega arith), q (omega arith), w (omega arith))
stage_from-same Violated j type p q w = rw (p (omega arith), q (omega arith), w (omega arith))

-- so it depends on stages of smaller rank alone
pub stage_step-same : (terms : Terms) (log : Log) (times times' : StageTimes) (s : Stage) (j : ℕ) → SameBelow (rank s j) times times' → (subject : Record)
    → stage_step times terms log s j subject ≡ stage_step times' terms log s j subject
unfolding stage_step
stage_step-same terms log times times' s j same subject = ap (later_of (At subject.stamp)) (stage_from-same s j (schema_at terms j).type (clause _ _) (clause _ _) (clause _ _))
  where
    clause : (k : ℕ) (x : Expr Atom) → k ≤ rank s j → times_of (cited k times) terms log subject x ≡ times_of (cited k times') terms log subject x
    clause k x h = rw (cited-same k times times' (λ s' j' q. same s' j' (omega arith)))

-- a stage's time does not depend on the depth, once that is above its rank
pub times-stable : (terms : Terms) (log : Log) (n n' : ℕ) (s : Stage) (j : ℕ) → rank s j < n → rank s j < n' → (subject : Record)
    → times_within terms log n s j subject ≡ times_within terms log n' s j subject
unfolding times_within
times-stable terms log zero n' s j p q subject = absurd (omega arith)
times-stable terms log (suc n) zero s j p q subject = absurd (omega arith)
times-stable terms log (suc n) (suc n') s j p q subject =
    stage_step-same terms log (times_within terms log n) (times_within terms log n') s j
    (λ s' j' h. times-stable terms log n n' s' j' (omega arith) (omega arith)) subject

-- the equation: each stage's time is what its clauses give, with these same times for the stages that they cite
pub time-equation : (terms : Terms) (log : Log) (s : Stage) (j : ℕ) (subject : Record)
    → stage_time terms log s j subject ≡ stage_step (stage_time terms log) terms log s j subject
unfolding stage_time times_within
time-equation terms log s j subject =
    stage_step-same terms log (times_within terms log (rank s j)) (stage_time terms log) s j
    (λ s' j' h. times-stable terms log (rank s j) (suc (rank s' j')) s' j' h (omega arith)) subject
