-- A time is at most the last minute, or there is none, where the stamps are at most the last minute.
-- It is put so that a moment past the last minute takes nothing away: then it follows by the laws of `before`. Assumes nothing.
use Prim.Native.Nat.{ℕ, zero, suc, ◌≤◌, ◌<◌}
use native.Mathlib.Omega.{arith}
use mathlib.Core.Path.{◌≡◌, refl, ap₂, ◌∙◌}
use mathlib.Core.Bool.{Bool, true, false, cond}
use mathlib.Core.List.{[], ◌∷◌, flat_map}
use lib.Dec.{leb}
use borrow.Author.Tests.{leb-true}
use Rattle.meaning.specs.declared.Time.{Time}
use Rattle.meaning.specs.declared.Time.TheVariants.{At, Never}
use Rattle.meaning.specs.declared.Stage.{Stage}
use Rattle.meaning.specs.declared.Event.{Event}
use Rattle.meaning.specs.declared.Event.TheVariants.{Kind, StageOf}
use Rattle.meaning.specs.declared.Bound.{Bound}
use Rattle.meaning.specs.declared.Bound.TheVariants.{Plain, Plus, Minus, Open}
use Rattle.meaning.specs.declared.Leaf.{Leaf}
use Rattle.meaning.specs.declared.CountLeaf.{CountLeaf}
use Rattle.meaning.specs.declared.Atom.{Atom}
use Rattle.meaning.specs.declared.Atom.TheVariants.{Happens, Counts}
use Rattle.meaning.specs.declared.Edge.{Edge}
use Rattle.meaning.specs.declared.Edge.TheVariants.{Minute, Endless}
use Rattle.meaning.specs.declared.Row.{Row}
use Rattle.meaning.specs.Lists.{All}
use Rattle.meaning.specs.Time.{later_of, before, cut, last_minute}
use Rattle.meaning.specs.Stages.{stages}
use Rattle.meaning.specs.Terms.{Terms, Expr, leaf, and, or, except, always, rank}
use Rattle.meaning.specs.Log.{Record, Log}
use Rattle.meaning.specs.Meaning.{StageTimes, cited, earliest, reached, time_by, happening, first, first_within, known, leaf_occurrence, failure_at, failure_at_end, first_before, early_failure, leaf_failure, count_time, times_of, stage_step, times_within, stage_time}
use Rattle.meaning.specs.Rows.{row_of, row_at, is_subject, subject_rows, timed_rows}
use Rattle.meaning.proofs.ListLaws.{all-flat_map, all-each}
use Rattle.meaning.proofs.TimeLaws.{before-lt, before-le, Side, early, late, side, before-later, before-earlier, before-once_known, before-if_never, before-only_if, before-never}
use Rattle.meaning.proofs.EdgeLaws.{before-from_edge, before-before_edge}
use Rattle.meaning.proofs.RelatedTimes.{Kept, Related, and-related, or-related, except-related, stage-related}

-- the stamps of a log are at most the last minute
abbrev pub StampsFit : Log → Type 0
StampsFit log = All (λ (r : Record). r.stamp ≤ last_minute) log

-- a time that m lets through
abbrev Fits : ℕ → Time → Time → Type 0
Fits m a b = before m a ≡ b

fits_kept : (m : ℕ) → Kept (Fits m)
fits_kept m = record {
  later = λ p q. simp (before-later, p, q);
  earlier = λ p q. simp (before-earlier, p, q);
  never = before-never m;
}

-- a stage's times that m lets through, for subjects whose stamps fit
abbrev StagesFit : ℕ → StageTimes → Type 0
StagesFit m times = (s : Stage) (j : ℕ) (r : Record) → r.stamp ≤ last_minute → before m (times s j r) ≡ times s j r

module _ (m : ℕ) (past : last_minute < m) where
  earliest-fits : (f : Record → Time) → ((r : Record) → r.stamp ≤ last_minute → before m (f r) ≡ f r) → (log : Log) → StampsFit log → before m (earliest f log) ≡ earliest f log
  unfolding earliest
  earliest-fits f fits [] h = before-never m
  earliest-fits f fits (r ∷ log) h = simp (before-earlier, fits r h.0, earliest-fits f fits log h.1)

  reached-fits : (u : Edge) → before m (reached u) ≡ reached u
  unfolding reached cut
  reached-fits (Minute u) = go (leb u last_minute) refl
    where
      go : (b : Bool) → leb u last_minute ≡ b → before m (cond b (At u) Never) ≡ cond b (At u) Never
      go true e = let h : u ≤ last_minute = leb-true u last_minute e in before-lt m u (omega arith)
      go false e = before-never m
  reached-fits Endless = before-never m

  cited-fits : (times : StageTimes) → StagesFit m times → (k : ℕ) → StagesFit m (cited k times)
  unfolding cited
  cited-fits times fits k s j r h = simp (before-only_if, fits s j r h)

  module _ (times : StageTimes) (fits : StagesFit m times) (terms : Terms) (log : Log) (log_fits : StampsFit log) (subject : Record) where
    happening-fits : (e : Event) (r : Record) → r.stamp ≤ last_minute → before m (happening times terms subject e r) ≡ happening times terms subject e r
    unfolding happening time_by
    happening-fits e r h = simp (before-only_if, by_fits e)
      where
        by_fits : (e : Event) → before m (time_by times e r) ≡ time_by times e r
        by_fits (Kind k) = before-lt m r.stamp (omega arith)
        by_fits (StageOf s j) = fits s j r h

    first_fits : (e : Event) → before m (first times terms log subject e) ≡ first times terms log subject e
    unfolding first
    first_fits e = earliest-fits (happening times terms subject e) (happening-fits e) log log_fits

    within-fits : (l u : Edge) (e : Event) → before m (first_within times terms log subject l u e) ≡ first_within times terms log subject l u e
    unfolding first_within
    within-fits l u e = earliest-fits _ (λ r h. simp (before-from_edge, before-before_edge, happening-fits e r h)) log log_fits

    known-fits : (b : Bound) → before m (known times terms log subject b) ≡ known times terms log subject b
    unfolding known
    known-fits (Plain n) = before-lt m 0 (omega arith)
    known-fits (Plus e n) = first_fits e
    known-fits (Minus e n) = first_fits e
    known-fits Open = before-lt m 0 (omega arith)

    failure_at-fits : (lower : Bound) (u : Edge) (e : Event) → before m (failure_at times terms log subject lower u e) ≡ failure_at times terms log subject lower u e
    unfolding failure_at
    failure_at-fits lower u e = simp (before-if_never, before-once_known, before-never, known-fits, reached-fits)

    first_before-fits : (l : Edge) (e : Event) → before m (first_before times terms log subject l e) ≡ first_before times terms log subject l e
    unfolding first_before
    first_before-fits (Minute l) e = within-fits (Minute 0) (Minute l) e
    first_before-fits Endless e = before-never m

    leaf_failure-fits : (x : Leaf) → before m (leaf_failure times terms log subject x) ≡ leaf_failure times terms log subject x
    unfolding leaf_failure failure_at_end early_failure
    leaf_failure-fits x = simp (before-earlier, before-only_if, before-once_known, known-fits, failure_at-fits, first_before-fits)

    count_time-fits : (passes : ℕ → Bool) (x : CountLeaf) → before m (count_time times terms log subject passes x) ≡ count_time times terms log subject passes x
    unfolding count_time
    count_time-fits passes x = simp (before-once_known, before-only_if, known-fits, reached-fits)

    times_of-fits : (x : Expr Atom) → Related (Fits m) (times_of times terms log subject x) (times_of times terms log subject x)
    unfolding times_of leaf_occurrence
    times_of-fits (leaf (Happens x)) = (simp (before-once_known, known-fits, within-fits), leaf_failure-fits x)
    times_of-fits (leaf (Counts x)) = (count_time-fits _ x, count_time-fits _ x)
    times_of-fits (and a b) = and-related (Fits m) (fits_kept m) _ _ _ _ (times_of-fits a) (times_of-fits b)
    times_of-fits (or a b) = or-related (Fits m) (fits_kept m) _ _ _ _ (times_of-fits a) (times_of-fits b)
    times_of-fits (except a b) = except-related (Fits m) (fits_kept m) _ _ _ _ (times_of-fits a) (times_of-fits b)
    times_of-fits always = (before-lt m 0 (omega arith), before-never m)

  stage_step-fits : (times : StageTimes) → StagesFit m times → (terms : Terms) (log : Log) → StampsFit log → StagesFit m (stage_step times terms log)
  unfolding stage_step
  stage_step-fits times fits terms log log_fits s j r h =
      before-later m _ _ ∙ ap₂ later_of (before-lt m r.stamp (omega arith)) (stage-related (Fits m) (fits_kept m) _ _ _ _ _ _ (clause _ _) (clause _ _) (clause _ _) s _)
    where
      clause : (k : ℕ) (x : Expr Atom) → Related (Fits m) (times_of (cited k times) terms log r x) (times_of (cited k times) terms log r x)
      clause k x = times_of-fits (cited k times) (cited-fits times fits k) terms log log_fits r x

  times_within-fits : (terms : Terms) (log : Log) → StampsFit log → (n : ℕ) → StagesFit m (times_within terms log n)
  unfolding times_within
  times_within-fits terms log log_fits zero s j r h = before-never m
  times_within-fits terms log log_fits (suc n) s j r h = stage_step-fits (times_within terms log n) (times_within-fits terms log log_fits n) terms log log_fits s j r h

  -- A time is at most the last minute: a moment past it takes no time away.
  pub time-fits : (terms : Terms) (log : Log) → StampsFit log → (s : Stage) (j : ℕ) (r : Record) → r.stamp ≤ last_minute
      → before m (stage_time terms log s j r) ≡ stage_time terms log s j r
  unfolding stage_time
  time-fits terms log log_fits s j r h = times_within-fits terms log log_fits (suc (rank s j)) s j r h

-- So a stage has no time, or one that is at most the last minute.
pub time-at-most : (terms : Terms) (log : Log) → StampsFit log → (s : Stage) (j : ℕ) (r : Record) → r.stamp ≤ last_minute
    → (t : ℕ) → stage_time terms log s j r ≡ At t → t ≤ last_minute
time-at-most terms log log_fits s j r h t e = go (side (suc last_minute) t)
  where
    same : before (suc last_minute) (stage_time terms log s j r) ≡ stage_time terms log s j r
    same = time-fits (suc last_minute) (omega arith) terms log log_fits s j r h

    go : Side (suc last_minute) t → t ≤ last_minute
    go (early k) = omega arith
    go (late k) = let z : ◌≡◌ {A = ℕ} 0 1 = cc (same, e, before-le (suc last_minute) t k) in omega arith

-- a row's time is at most the last minute
abbrev pub RowFits : Row → Type 0
RowFits x = x.time ≤ last_minute

row_at-fits : (f : ℕ → Row) → ((t : ℕ) → (f t).time ≡ t) → (t : Time) → before (suc last_minute) t ≡ t → All RowFits (row_at f t)
unfolding row_at
row_at-fits f timed (At t) e = go (side (suc last_minute) t)
  where
    go : Side (suc last_minute) t → ((f t).time ≤ last_minute) × Unit {0}
    go (early h) = (rw timed (omega arith), tt)
    go (late h) = let z : ◌≡◌ {A = ℕ} 0 1 = cc (e, before-le (suc last_minute) t h) in omega arith
row_at-fits f timed Never e = tt

-- So every row of a log is timed by a number that four bytes hold and that is smaller than the largest of these.
pub row-time : (terms : Terms) (log : Log) → StampsFit log → All RowFits (timed_rows terms log)
unfolding timed_rows subject_rows row_of
row-time terms log log_fits = all-each RowFits _ (λ j. all-flat_map _ RowFits (subject_rows terms log j) (of-subject j) log log_fits) _
  where
    of-subject : (j : ℕ) (r : Record) → r.stamp ≤ last_minute → All RowFits (subject_rows terms log j r)
    of-subject j r h = go (is_subject terms j r)
      where
        go : (b : Bool) → All RowFits (elim b [ true ↦ flat_map (λ s. row_at (row_of terms j r s) (stage_time terms log s j r)) stages | false ↦ [] ])
        go true = all-each RowFits _ (λ s. row_at-fits _ (λ t. refl) _ (time-fits (suc last_minute) (omega arith) terms log log_fits s j r h)) stages
        go false = tt
