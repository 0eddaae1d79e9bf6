-- When things happen, for one subject: events, bounds, leaves, expressions and the five stages.
-- Document 01, 'When things happen', and 'Citation' of 'Terms and log'; document 02, wishes 1 and 4. Assumes nothing: these are definitions.
use Rattle.std.specs.Prelude.{ℕ, zero, suc, ◌+◌, ◌-◌, ◌*◌, Bool, ◌&&◌, [], ◌∷◌, eqb, leb, ltb}
use Rattle.meaning.specs.declared.Time.{Time}
use Rattle.meaning.specs.declared.Time.TheVariants.{At, Never}
use Rattle.meaning.specs.declared.Stage.{Stage}
use Rattle.meaning.specs.declared.Stage.TheVariants.{Created, Detached, Expired, Discharged, Violated}
use Rattle.meaning.specs.declared.NormType.{NormType}
use Rattle.meaning.specs.declared.NormType.TheVariants.{Commitment, Authorization, Prohibition, Power}
use Rattle.meaning.specs.declared.Event.{Event}
use Rattle.meaning.specs.declared.Event.TheVariants.{Kind, StageOf}
use Rattle.meaning.specs.declared.Bound.{Bound}
use Rattle.meaning.specs.declared.Bound.TheVariants.{Plain, Plus, Minus, Open}
use Rattle.meaning.specs.declared.Leaf.{Leaf}
use Rattle.meaning.specs.declared.CountLeaf.{CountLeaf}
use Rattle.meaning.specs.declared.Atom.{Atom}
use Rattle.meaning.specs.declared.Atom.TheVariants.{Happens, Counts}
use Rattle.meaning.specs.declared.Edge.{Edge}
use Rattle.meaning.specs.declared.Edge.TheVariants.{Minute, Endless}
use Rattle.meaning.specs.declared.Times.{Times}
use Rattle.meaning.specs.Time.{later_of, earlier_of, before, from, once_known, if_never, only_if, cut}
use Rattle.meaning.specs.Terms.{Terms, Expr, leaf, and, or, except, always, kind_at, kind_of, schema_at, rank}
use Rattle.meaning.specs.Log.{Record, Log, carries, correlate}

-- times of stages: of a stage of a schema, for a subject (stages)
abbrev pub StageTimes : Type 0
StageTimes = Stage → ℕ → Record → Time

-- what a clause of rank k sees: stages of smaller rank (Citation)
unfoldable pub cited : ℕ → StageTimes → StageTimes
cited k times s j subject = only_if (ltb (rank s j) k) (times s j subject)

-- the earliest of the times that a log's records give (bounds, leaf occurs)
unfoldable pub earliest : (Record → Time) → Log → Time
earliest f [] = Never
earliest f (r ∷ log) = earlier_of (f r) (earliest f log)

-- 1 for a time, 0 for none (count)
unfoldable pub one : Time → ℕ
one (At n) = 1
one Never = 0

-- how many of a log's records give a time (count)
unfoldable pub tally : (Record → Time) → Log → ℕ
tally f [] = 0
tally f (r ∷ log) = one (f r) + tally f log

-- what is at the lower edge or later (leaf occurs)
unfoldable pub from_edge : Edge → Time → Time
from_edge (Minute l) t = from l t
from_edge Endless t = Never

-- what is before the upper edge (leaf occurs)
unfoldable pub before_edge : Edge → Time → Time
before_edge (Minute r) t = before r t
before_edge Endless t = t

-- the time of the upper edge: none if it is open or past the last minute (leaf fails)
unfoldable pub reached : Edge → Time
reached (Minute r) = cut r
reached Endless = Never

-- a bound's value, with g the earliest happening of its event (bounds)
unfoldable pub edge_of : Bound → ℕ → Edge
edge_of (Plain n) g = Minute n
edge_of (Plus e n) g = Minute (g + n)
edge_of (Minus e n) g = Minute (g - n)
edge_of Open g = Endless

-- when an event happens by the record r: at its stamp, or at the stage's time for it (happenings)
unfoldable pub time_by : StageTimes → Event → Record → Time
time_by times (Kind k) r = At r.stamp
time_by times (StageOf s j) r = times s j r

-- the same for a subject: by a record of the event's kind that correlates with it (happenings)
unfoldable pub happening : StageTimes → Terms → Record → Event → Record → Time
happening times terms subject e r = only_if (eqb r.kind (kind_of terms e) && correlate terms subject r) (time_by times e r)

-- an event comes once for a subject whose kind carries the key attribute of the event's kind, since no key repeats; a stage's kind is its schema's
-- subject kind (wish 4)
unfoldable pub comes_once : Terms → Record → Event → Bool
comes_once terms subject e = carries (kind_at terms subject.kind).mask (kind_at terms (kind_of terms e)).key

-- and: both are needed, one failure is enough (expressions)
unfoldable pub and_of : Times → Times → Times
and_of a b = record { occurs = later_of a.occurs b.occurs; fails = earlier_of a.fails b.fails }

-- or: one is enough, both have to fail (expressions)
unfoldable pub or_of : Times → Times → Times
or_of a b = record { occurs = earlier_of a.occurs b.occurs; fails = later_of a.fails b.fails }

-- a except b: a has to occur and b to fail; a's failure or b's occurrence ends it (expressions)
unfoldable pub except_of : Times → Times → Times
except_of a b = record { occurs = later_of a.occurs b.fails; fails = earlier_of a.fails b.occurs }

-- for the stages that may be cited, the terms, the log and the subject
module _ (times : StageTimes) (terms : Terms) (log : Log) (subject : Record) where
  -- the earliest happening of an event (bounds)
  unfoldable pub first : Event → Time
  first e = earliest (happening times terms subject e) log

  -- the earliest happening in a window: its lower edge is inside, its upper one is not (leaf occurs)
  unfoldable pub first_within : Edge → Edge → Event → Time
  first_within l u e = earliest (λ r. from_edge l (before_edge u (happening times terms subject e r))) log

  -- when a bound is known (bounds)
  unfoldable pub known : Bound → Time
  known (Plain n) = At 0
  known (Plus e n) = first e
  known (Minus e n) = first e
  known Open = At 0

  -- the earliest happening in the window, but not before both bounds are known (leaf occurs)
  unfoldable pub leaf_occurrence : Leaf → Time
  leaf_occurrence x =
      once_known (known x.lower) λ g.
      once_known (known x.upper) λ h.
      first_within (edge_of x.lower g) (edge_of x.upper h) x.event

  -- failure at the upper edge: with nothing before it; or with nothing in the window, once the lower bound is known (leaf fails)
  unfoldable pub failure_at : Bound → Edge → Event → Time
  failure_at lower u e =
      if_never (first_within (Minute 0) u e) (reached u)
      (once_known (known lower) λ g. if_never (first_within (edge_of lower g) u e) (reached u) Never)

  -- at the end, the upper bound: no such failure without a known one, nor before that bound is known (leaf fails)
  unfoldable pub failure_at_end : Leaf → Time
  failure_at_end x = once_known (known x.upper) λ h. failure_at x.lower (edge_of x.upper h) x.event

  -- the earliest happening before the lower edge; before an open one, which accepted terms do not have, there is none (wish 4)
  unfoldable pub first_before : Edge → Event → Time
  first_before (Minute l) e = first_within (Minute 0) (Minute l) e
  first_before Endless e = Never

  -- early, whatever the upper bound: an event that comes once happens before the lower one; no such failure before that bound is known (wish 4)
  unfoldable pub early_failure : Leaf → Time
  early_failure x = only_if (comes_once terms subject x.event) (once_known (known x.lower) λ g. first_before (edge_of x.lower g) x.event)

  -- a leaf fails at its end or early, whichever is first (leaf fails; wish 4)
  unfoldable pub leaf_failure : Leaf → Time
  leaf_failure x = earlier_of (failure_at_end x) (early_failure x)

  -- how many records of a kind lie in a window; a stage is never counted (count)
  unfoldable pub count_within : Edge → Edge → ℕ → ℕ
  count_within l u k = tally (λ r. from_edge l (before_edge u (happening times terms subject (Kind k) r))) log

  -- a count is settled when its window has ended and both bounds are known; none, where the number of records does not pass a test (count)
  unfoldable pub count_time : (ℕ → Bool) → CountLeaf → Time
  count_time passes c =
      once_known (known c.lower) λ g.
      once_known (known c.upper) λ h.
      only_if (passes (count_within (edge_of c.lower g) (edge_of c.upper h) c.kind)) (reached (edge_of c.upper h))

  -- the times of an expression; a count occurs with more records than its threshold, and fails with as many or fewer (expressions, count)
  unfoldable pub times_of : Expr Atom → Times
  times_of (leaf (Happens x)) = record { occurs = leaf_occurrence x; fails = leaf_failure x }
  times_of (leaf (Counts c)) = record { occurs = count_time (λ n. ltb c.threshold n) c; fails = count_time (λ n. leb n c.threshold) c }
  times_of (and a b) = and_of (times_of a) (times_of b)
  times_of (or a b) = or_of (times_of a) (times_of b)
  times_of (except a b) = except_of (times_of a) (times_of b)
  times_of always = record { occurs = At 0; fails = Never }

-- what brings a stage about, from the times of the clauses c, r and u (stages)
unfoldable pub stage_from : Stage → NormType → Times → Times → Times → Time
stage_from Created type c r u = c.occurs
stage_from Detached type c r u = (and_of c r).occurs
stage_from Expired type c r u = (except_of c r).occurs
stage_from Discharged Commitment c r u = (or_of (and_of c u) (and_of r u)).occurs
stage_from Discharged Authorization c r u = (and_of (and_of c r) u).occurs
stage_from Discharged Prohibition c r u = (except_of (and_of c r) u).occurs
stage_from Discharged Power c r u = (and_of (and_of c r) u).occurs
stage_from Violated Commitment c r u = (except_of (and_of c r) u).occurs
stage_from Violated Authorization c r u = Never
stage_from Violated Prohibition c r u = (and_of (and_of c r) u).occurs
stage_from Violated Power c r u = Never

-- a stage's time from the times of other stages: not before its subject's stamp; each clause sees stages of smaller rank only (stages, Citation)
unfoldable pub stage_step : StageTimes → Terms → Log → StageTimes
stage_step times terms log s j subject =
    let schema = schema_at terms j in
    let clause : ℕ → Expr Atom → Times = λ k x. times_of (cited k times) terms log subject x in
    later_of (At subject.stamp)
    (stage_from s schema.type (clause (3 * j) schema.create) (clause (3 * j + 1) schema.detach) (clause (3 * j + 2) schema.consequent))

-- the stages, with citations followed n deep (Citation)
unfoldable pub times_within : Terms → Log → ℕ → StageTimes
times_within terms log zero s j subject = Never
times_within terms log (suc n) s j subject = stage_step (times_within terms log n) terms log s j subject

-- a stage's time (stages): ranks fall, so citations go no deeper than its own rank
unfoldable pub stage_time : Terms → Log → StageTimes
stage_time terms log s j subject = times_within terms log (suc (rank s j)) s j subject
