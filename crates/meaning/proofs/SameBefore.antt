-- What is before m depends only on the records stamped before m. No order of the stamps is used, and no rule on citations.
--     earliest-same      the earliest of happenings
--     times-same         expressions
--     time-same          stages
-- Two times are the same before m where `before m` makes them equal. Assumes nothing.
use Prim.Native.Nat.{ℕ, zero, suc, ◌+◌, ◌*◌, ◌≤◌}
use native.Mathlib.Omega.{arith}
use mathlib.Core.Path.{◌≡◌, refl, ap, ap₂, sym, ◌∙◌, fun_ext}
use mathlib.Core.Bool.{Bool}
use mathlib.Core.List.{[], ◌∷◌}
use Rattle.meaning.specs.declared.Time.{Time}
use Rattle.meaning.specs.declared.Time.TheVariants.{Never}
use Rattle.meaning.specs.declared.Stage.{Stage}
use Rattle.meaning.specs.declared.Event.{Event}
use Rattle.meaning.specs.declared.Event.TheVariants.{Kind, StageOf}
use Rattle.meaning.specs.declared.Bound.{Bound}
use Rattle.meaning.specs.declared.Bound.TheVariants.{Plain, Plus, Minus, Open}
use Rattle.meaning.specs.declared.Leaf.{Leaf}
use Rattle.meaning.specs.declared.CountLeaf.{CountLeaf}
use Rattle.meaning.specs.declared.Atom.{Atom}
use Rattle.meaning.specs.declared.Atom.TheVariants.{Happens, Counts}
use Rattle.meaning.specs.declared.Edge.{Edge}
use Rattle.meaning.specs.declared.Edge.TheVariants.{Minute, Endless}
use Rattle.meaning.specs.Time.{later_of, before, only_if}
use Rattle.meaning.specs.Terms.{Terms, Expr, leaf, and, or, except, always, schema_at, rank}
use Rattle.meaning.specs.Log.{Record, Log}
use Rattle.meaning.specs.Meaning.{StageTimes, cited, earliest, one, tally, from_edge, before_edge, reached, time_by, happening, first, first_within, known, leaf_occurrence, failure_at, failure_at_end, first_before, early_failure, leaf_failure, count_within, count_time, times_of, stage_step, times_within, stage_time}
use Rattle.meaning.specs.Rows.{strike}
use Rattle.meaning.proofs.TimeLaws.{Side, early, late, side, before-le, before-later, before-earlier, before-once_known, before-before, before-cut, before-never, before-if_never, if_never-never, before-only_if, only_if-never, once_known-never}
use Rattle.meaning.proofs.EdgeLaws.{before-from_edge, before-before_edge, never-within}
use Rattle.meaning.proofs.GatherLaws.{earliest-gathers, tally-gathers, gathers-strike}
use Rattle.meaning.proofs.RelatedTimes.{Kept, Related, and-related, or-related, except-related, stage-related}

-- the records of a log that are stamped before m, in log order
abbrev pub records_before : ℕ → Log → Log
records_before m log = strike (λ (r : Record). r.stamp) m log

-- records stamped at m or later give no time before m
abbrev pub Late : ℕ → (Record → Time) → Type 0
Late m f = (r : Record) → m ≤ r.stamp → before m (f r) ≡ Never

-- stage times of which late subjects have none before m
abbrev pub LateStages : ℕ → StageTimes → Type 0
LateStages m times = (s : Stage) (j : ℕ) → Late m (times s j)

-- what is before m of the earliest is the earliest of what is before m
before-earliest : (m : ℕ) (f : Record → Time) (log : Log) → before m (earliest f log) ≡ earliest (λ r. before m (f r)) log
unfolding earliest
before-earliest m f [] = before-never m
before-earliest m f (r ∷ log) = before-earlier m (f r) (earliest f log) ∙ rw (before-earliest m f log)

-- only the records before m count for what is before m
earliest-before : (m : ℕ) (f : Record → Time) → Late m f → (log : Log) → before m (earliest f log) ≡ earliest (λ r. before m (f r)) (records_before m log)
earliest-before m f out log = before-earliest m f log ∙ gathers-strike (earliest-gathers (λ r. before m (f r))) m out log

-- the same before m, for two ways to time the records and two logs alike before m
pub earliest-same : (m : ℕ) (f g : Record → Time) → Late m f → Late m g → ((r : Record) → before m (f r) ≡ before m (g r))
    → (log log' : Log) → records_before m log ≡ records_before m log' → before m (earliest f log) ≡ before m (earliest g log')
earliest-same m f g outf outg same log log' alike =
    earliest-before m f outf log
    ∙ ap₂ (λ (h : Record → Time) (l : Log). earliest h l) (fun_ext same) alike
    ∙ sym (earliest-before m g outg log')

-- an event's happenings by late records are late
happening-late : (m : ℕ) (terms : Terms) (subject : Record) (times : StageTimes) → LateStages m times → (e : Event) → Late m (happening times terms subject e)
unfolding happening time_by
happening-late m terms subject times out e r h = simp (before-only_if, by-late e, only_if-never)
  where
    by-late : (e : Event) → before m (time_by times e r) ≡ Never
    by-late (Kind k) = before-le m r.stamp h
    by-late (StageOf s j) = out s j r h

-- happenings that are all before m have their earliest before m
earliest-early : (m : ℕ) (f : Record → Time) → ((r : Record) → before m (f r) ≡ f r) → (log : Log) → before m (earliest f log) ≡ earliest f log
unfolding earliest before
earliest-early m f in-time [] = refl
earliest-early m f in-time (r ∷ log) = simp (before-earlier, in-time, earliest-early m f in-time log)

-- what is before an edge that is not after m is before m
within-early : (m : ℕ) (l : Edge) (u : ℕ) → u ≤ m → (t : Time) → before m (from_edge l (before_edge (Minute u) t)) ≡ from_edge l (before_edge (Minute u) t)
unfolding before_edge
within-early m l u h t = simp (before-from_edge, before-before)

within-before : (m : ℕ) (terms : Terms) (subject : Record) (times : StageTimes) (log : Log) (l : Edge) (u : ℕ) → u ≤ m → (e : Event)
    → before m (first_within times terms log subject l (Minute u) e) ≡ first_within times terms log subject l (Minute u) e
unfolding first_within
within-before m terms subject times log l u h e = earliest-early m _ (λ r. within-early m l u h (happening times terms subject e r)) log

-- an edge is at most m, or what comes at it is not before m
data EdgeSide (m : ℕ) : Edge → Type 0 where
  near : (u : ℕ) → u ≤ m → EdgeSide m (Minute u)
  far : (u : Edge) → before m (reached u) ≡ Never → EdgeSide m u

edge_side : (m : ℕ) (u : Edge) → EdgeSide m u
unfolding reached before
edge_side m (Minute u) = go (side m u)
  where
    go : Side m u → EdgeSide m (Minute u)
    go (early h) = near u (omega arith)
    go (late h) = far (Minute u) (before-cut m u h)
edge_side m Endless = far Endless refl

-- two times are the same before m
abbrev pub Same : ℕ → Time → Time → Type 0
Same m a b = before m a ≡ before m b

same_kept : (m : ℕ) → Kept (Same m)
same_kept m = record {
  later = λ p q. simp (before-later, p, q);
  earlier = λ p q. simp (before-earlier, p, q);
  never = refl;
}

module _ (m : ℕ) (terms : Terms) (subject : Record) (times times' : StageTimes) (log log' : Log)
    (late-times : LateStages m times) (late-times' : LateStages m times')
    (same-times : (s : Stage) (j : ℕ) (r : Record) → before m (times s j r) ≡ before m (times' s j r))
    (alike : records_before m log ≡ records_before m log') where
  happening-same : (e : Event) (r : Record) → before m (happening times terms subject e r) ≡ before m (happening times' terms subject e r)
  unfolding happening time_by
  happening-same e r = simp (before-only_if, by-same e)
    where
      by-same : (e : Event) → before m (time_by times e r) ≡ before m (time_by times' e r)
      by-same (Kind k) = refl
      by-same (StageOf s j) = same-times s j r

  first-same : (e : Event) → before m (first times terms log subject e) ≡ before m (first times' terms log' subject e)
  unfolding first
  first-same e = earliest-same m _ _ (happening-late m terms subject times late-times e) (happening-late m terms subject times' late-times' e) (happening-same e) log log' alike

  known_same : (b : Bound) → before m (known times terms log subject b) ≡ before m (known times' terms log' subject b)
  unfolding known
  known_same (Plain n) = refl
  known_same (Plus e n) = first-same e
  known_same (Minus e n) = first-same e
  known_same Open = refl

  within-late : (ts : StageTimes) → LateStages m ts → (l u : Edge) (e : Event) → Late m (λ r. from_edge l (before_edge u (happening ts terms subject e r)))
  within-late ts out l u e r h = rw (before-from_edge m l, before-before_edge m u, happening-late m terms subject ts out e r h) (never-within l u)

  within_same : (l u : Edge) (e : Event) → before m (first_within times terms log subject l u e) ≡ before m (first_within times' terms log' subject l u e)
  unfolding first_within
  within_same l u e = earliest-same m _ _ (within-late times late-times l u e) (within-late times' late-times' l u e) same log log' alike
    where
      same : (r : Record) → before m (from_edge l (before_edge u (happening times terms subject e r))) ≡ before m (from_edge l (before_edge u (happening times' terms subject e r)))
      same r = simp (before-from_edge, before-before_edge, happening-same e r)

  leaf_occurrence-same : (x : Leaf) → before m (leaf_occurrence times terms log subject x) ≡ before m (leaf_occurrence times' terms log' subject x)
  unfolding leaf_occurrence
  leaf_occurrence-same x = simp (before-once_known, known_same, within_same)

  -- before an edge that is not after m the two logs have the very same happenings
  within-equal : (l : Edge) (u : ℕ) → u ≤ m → (e : Event) → first_within times terms log subject l (Minute u) e ≡ first_within times' terms log' subject l (Minute u) e
  within-equal l u h e = sym (within-before m terms subject times log l u h e) ∙ within_same l (Minute u) e ∙ within-before m terms subject times' log' l u h e

  failure_at-same : (lower : Bound) (u : Edge) (e : Event) → before m (failure_at times terms log subject lower u e) ≡ before m (failure_at times' terms log' subject lower u e)
  unfolding failure_at
  failure_at-same lower u e = go (edge_side m u)
    where
      go : {u : Edge} → EdgeSide m u → before m (failure_at times terms log subject lower u e) ≡ before m (failure_at times' terms log' subject lower u e)
      go (near u h) = simp (before-if_never, before-once_known, known_same, within-equal)
      go (far u h) = simp (before-if_never, before-once_known, before-never, h, if_never-never, once_known-never)

  first_before-same : (l : Edge) (e : Event) → before m (first_before times terms log subject l e) ≡ before m (first_before times' terms log' subject l e)
  unfolding first_before
  first_before-same (Minute l) e = within_same (Minute 0) (Minute l) e
  first_before-same Endless e = refl

  leaf_failure-same : (x : Leaf) → before m (leaf_failure times terms log subject x) ≡ before m (leaf_failure times' terms log' subject x)
  unfolding leaf_failure failure_at_end early_failure
  leaf_failure-same x = simp (before-earlier, before-only_if, before-once_known, known_same, failure_at-same, first_before-same)

  -- and as many records of a kind
  count-equal : (l : Edge) (u : ℕ) → u ≤ m → (k : ℕ) → count_within times terms log subject l (Minute u) k ≡ count_within times' terms log' subject l (Minute u) k
  unfolding count_within happening time_by one
  count-equal l u h k = leave-out log ∙ ap (tally f) alike ∙ sym (leave-out log')
    where
      f : Record → Time
      f r = from_edge l (before_edge (Minute u) (happening times terms subject (Kind k) r))

      late_f : (r : Record) → m ≤ r.stamp → one (f r) ≡ 0
      late_f r p = ap one (sym (within-early m l u h (happening times terms subject (Kind k) r)) ∙ within-late times late-times l (Minute u) (Kind k) r p)

      leave-out : (log : Log) → tally f log ≡ tally f (records_before m log)
      leave-out = gathers-strike (tally-gathers f) m late_f

  -- what is settled at an edge is the same before m: by the same records, or since the edge is not before m
  settled_same : (passes : ℕ → Bool) (l u : Edge) (k : ℕ)
      → before m (only_if (passes (count_within times terms log subject l u k)) (reached u)) ≡ before m (only_if (passes (count_within times' terms log' subject l u k)) (reached u))
  settled_same passes l u k = go (edge_side m u)
    where
      go : {u : Edge} → EdgeSide m u
          → before m (only_if (passes (count_within times terms log subject l u k)) (reached u)) ≡ before m (only_if (passes (count_within times' terms log' subject l u k)) (reached u))
      go (near u h) = rw (count-equal l u h k)
      go (far u h) = simp (before-only_if, h, only_if-never)

  count_time-same : (passes : ℕ → Bool) (x : CountLeaf) → before m (count_time times terms log subject passes x) ≡ before m (count_time times' terms log' subject passes x)
  unfolding count_time
  count_time-same passes x = simp (before-once_known, known_same, settled_same passes)

  -- expressions
  pub times-same : (x : Expr Atom) → Related (Same m) (times_of times terms log subject x) (times_of times' terms log' subject x)
  unfolding times_of
  times-same (leaf (Happens x)) = (leaf_occurrence-same x, leaf_failure-same x)
  times-same (leaf (Counts x)) = (count_time-same _ x, count_time-same _ x)
  times-same (and a b) = and-related (Same m) (same_kept m) _ _ _ _ (times-same a) (times-same b)
  times-same (or a b) = or-related (Same m) (same_kept m) _ _ _ _ (times-same a) (times-same b)
  times-same (except a b) = except-related (Same m) (same_kept m) _ _ _ _ (times-same a) (times-same b)
  times-same always = (refl, refl)

-- a guard on citations takes late stages to late ones, and the same to the same
cited-late : (m k : ℕ) (times : StageTimes) → LateStages m times → LateStages m (cited k times)
unfolding cited
cited-late m k times out s j r h = simp (before-only_if, out s j r h, only_if-never)

cited-same : (m k : ℕ) (times times' : StageTimes) → ((s : Stage) (j : ℕ) (r : Record) → before m (times s j r) ≡ before m (times' s j r))
    → (s : Stage) (j : ℕ) (r : Record) → before m (cited k times s j r) ≡ before m (cited k times' s j r)
unfolding cited
cited-same m k times times' same s j r = simp (before-only_if, same s j r)

-- a stage of a late subject is late
stage_step-late : (m : ℕ) (times : StageTimes) (terms : Terms) (log : Log) → LateStages m (stage_step times terms log)
unfolding stage_step later_of
stage_step-late m times terms log s j r h = rw (before-later, before-le m r.stamp h)

times_within-late : (m : ℕ) (terms : Terms) (log : Log) (n : ℕ) → LateStages m (times_within terms log n)
unfolding times_within
times_within-late m terms log zero s j r h = before-never m
times_within-late m terms log (suc n) s j r h = stage_step-late m (times_within terms log n) terms log s j r h

-- a subject stamped at m or later has no stage before m
pub time-late : (m : ℕ) (terms : Terms) (log : Log) → LateStages m (stage_time terms log)
unfolding stage_time
time-late m terms log s j = times_within-late m terms log (suc (rank s j)) s j

module _ (m : ℕ) (terms : Terms) (log log' : Log) (alike : records_before m log ≡ records_before m log') where
  times_within-same : (n : ℕ) (s : Stage) (j : ℕ) (r : Record) → before m (times_within terms log n s j r) ≡ before m (times_within terms log' n s j r)
  unfolding times_within stage_step
  times_within-same zero s j r = refl
  times_within-same (suc n) s j r =
      simp before-later
      (ap₂ later_of refl
      (stage-related (Same m) (same_kept m) _ _ _ _ _ _ (clause (times_within-same n) (3 * j) _) (clause (times_within-same n) (3 * j + 1) _) (clause (times_within-same n) (3 * j + 2) _) s (schema_at terms j).type))
    where
      clause : ((s : Stage) (j : ℕ) (r : Record) → before m (times_within terms log n s j r) ≡ before m (times_within terms log' n s j r)) → (k : ℕ) (x : Expr Atom)
          → Related (Same m) (times_of (cited k (times_within terms log n)) terms log r x) (times_of (cited k (times_within terms log' n)) terms log' r x)
      clause same k =
          times-same m terms r (cited k (times_within terms log n)) (cited k (times_within terms log' n)) log log'
          (cited-late m k _ (times_within-late m terms log n)) (cited-late m k _ (times_within-late m terms log' n)) (cited-same m k _ _ same) alike

  -- stages: two logs alike before m have the same stages before m
  pub time-same : (s : Stage) (j : ℕ) (r : Record) → before m (stage_time terms log s j r) ≡ before m (stage_time terms log' s j r)
  unfolding stage_time
  time-same s j r = times_within-same (suc (rank s j)) s j r
