-- The functions of the cycle meet their contracts, their calls within the cycle being smaller. Assumes nothing.
use Prim.Native.Nat.{ℕ}
use native.Mathlib.Omega.{arith}
use mathlib.Core.Path.{◌≡◌, refl, ap, sym, ◌∙◌}
use mathlib.Core.List.{◌∷◌}
use mathlib.Core.Logic.{inl, inr}
use borrow.Author.Rules.{rules}
use Rattle.meaning.specs.declared.Bound.TheVariants.{Plain}
use Rattle.meaning.specs.Terms.{kind_of}
use Rattle.meaning.specs.Meaning.{cited, stage_time}
use Rattle.meaning.proofs.Once.{HappensOnce}
use Rattle.meaning.proofs.Equation.{rank-least}
use Rattle.format.specs.Grammar.{expr_limit}
use Rattle.format.specs.Fields.{terms_of}
use Rattle.index.specs.Asked.{found}
use Rattle.index.specs.Walk.{marked_left}
use Rattle.marks.specs.Marks.{Marks}
use Rattle.marks.proofs.Scans.{OfKind, of-mark}
use Rattle.times.specs.NeededTimes.{needed_of}
use Rattle.evaluate.specs.declared.clause.Clause.{Clause}
use Rattle.evaluate.specs.Seen.{log_in, record_in, under, known_as}
use Rattle.evaluate.proofs.Happens.{happens-once}
use Rattle.evaluate.proofs.Expressions.{occurs-times, stage-here}
use Rattle.evaluate.proofs.Leaves.{event-never, plus-known, count-more, count-few, only-here, early-zero, early-recurs, early-never, early-no-lower, early-open, early-first, ends-first, fails-empty, fails_met, fails-missed, occurs}
use Rattle.evaluate.proofs.Scan.{scan-start, scan-take}
use Rattle.evaluate.proofs.Weights.{consequent-below}
use Rattle.evaluate.proofs.+stage_times.Goals.{first_within-After-into_iter-at-iterator, first_within-In-Some}
use Rattle.evaluate.proofs.+stage_times.Goals as goal

-- for a call's clause and subject what comes once happens by one record at most
call-once : (clause : Clause) → let call = clause.subject.call.now in
    HappensOnce (cited clause.rank (stage_time (terms_of call.terms.now) (log_in call.terms.now call.bytes.now))) (terms_of call.terms.now) (log_in call.terms.now call.bytes.now)
    (record_in call.terms.now call.bytes.now clause.subject.at)
call-once clause = let call = clause.subject.call.now in happens-once call.terms.now call.bytes.now clause.rank clause.subject.at call.kinds call.once

-- clause_times: the times of a clause, as many as are needed

pub clause_times-returns-in-At : goal.clause_times-returns-in-At
unfolding needed_of expr_limit
clause_times-returns-in-At t c =
    rw c.in-Both.is (occurs-times _ _ _ _ _ (call-once c.args.clause.now) (rw (c.start-at.ensures, c.places.ensures.1) at (sym c.occurrence-in-Both.ensures ∙ c.in-At.is)))

-- count_times: the times of a count

pub count_times-returns-then-count-number : goal.count_times-returns-then-count-number
count_times-returns-then-count-number t c =
    count-more _ _ _ _ _ c.known_bound.ensures c.in-Some.is c.known_bound-2.ensures c.in-Some-known_bound.is
    c.reached-ended.ensures c.later_of.ensures c.later_of-settled.ensures c.count_within-number.ensures c.if-count-number.true

pub count_times-returns-else-count-number : goal.count_times-returns-else-count-number
count_times-returns-else-count-number t c =
    count-few _ _ _ _ _ c.known_bound.ensures c.in-Some.is c.known_bound-2.ensures c.in-Some-known_bound.is
    c.reached-ended.ensures c.later_of.ensures c.later_of-settled.ensures c.count_within-number.ensures c.if-count-number.false

-- early_failure: when a leaf fails before its lower bound

pub early_failure-returns-in_default-first : goal.early_failure-returns-in_default-first
early_failure-returns-in_default-first t c =
    let only = rw c.in-Some.is at c.requires.only_of in
    early-never _ _ _ _ _ (call-once c.args.clause.now) only.0 only.1 c.in_default-first.is

pub early_failure-returns-in_default-lower_of : goal.early_failure-returns-in_default-lower_of
early_failure-returns-in_default-lower_of t c =
    let only = rw c.in-Some.is at c.requires.only_of in
    early-no-lower _ _ _ _ _ (call-once c.args.clause.now) only.0 only.1 c.lower_of.ensures c.in_default-lower_of.is

pub early_failure-returns-in-Minute : goal.early_failure-returns-in-Minute
early_failure-returns-in-Minute t c =
    let only = rw c.in-Some.is at c.requires.only_of in
    early-first _ _ _ _ _ (call-once c.args.clause.now) only.0 only.1 c.lower_of.ensures c.in-Some-lower_of.is c.in-Minute.is c.within.ensures c.later_of.ensures

pub early_failure-returns-in-Endless : goal.early_failure-returns-in-Endless
early_failure-returns-in-Endless t c =
    let only = rw c.in-Some.is at c.requires.only_of in
    early-open _ _ _ _ _ (call-once c.args.clause.now) only.0 only.1 c.lower_of.ensures c.in-Some-lower_of.is c.in-Endless.is

-- failure_at_end: when a leaf fails at its upper bound

-- nothing is before the upper bound
pub failure_at_end-returns-in_default-first_of : goal.failure_at_end-returns-in_default-first_of
failure_at_end-returns-in_default-first_of t c =
    fails-empty _ _ _ _ _ c.requires.upper_of c.in-Some.is c.reached.ensures c.in-At.is
    c.first_of.ensures c.in_default-first_of.is c.later_of.ensures

-- something is in the window
pub failure_at_end-returns-in-At-first_of-2 : goal.failure_at_end-returns-in-At-first_of-2
failure_at_end-returns-in-At-first_of-2 t c =
    fails_met _ _ _ _ _ c.requires.upper_of c.in-Some.is c.reached.ensures c.in-At.is
    c.first_of.ensures c.in-At-first_of.is c.lower_of.ensures c.in-Some-lower_of.is
    c.first_of-2.ensures c.in-At-first_of-2.is

-- something is before the upper bound, nothing in the window
pub failure_at_end-returns-in-Never : goal.failure_at_end-returns-in-Never
failure_at_end-returns-in-Never t c =
    fails-missed _ _ _ _ _ c.requires.upper_of c.in-Some.is c.reached.ensures c.in-At.is
    c.first_of.ensures c.in-At-first_of.is c.lower_of.ensures c.in-Some-lower_of.is
    c.first_of-2.ensures c.in-Never.is c.later_of-in-Never.ensures c.later_of-in-Never-2.ensures

-- first_of: what is in a window of an event whose only happening is at hand

pub first_of-returns-in-Some : goal.first_of-returns-in-Some
first_of-returns-in-Some t c =
    let only = rw c.in-Some.is at c.requires in
    only-here _ _ _ _ c.args.leaf (call-once c.args.clause.now) only.0 only.1 c.args.window.lower c.args.window.upper c.within.ensures

-- first_within: the earliest happening in a window: a walk along the chain of the subject's mark

-- the kind is the event's
first_within-kind : (t : ℕ) (c : first_within-After-into_iter-at-iterator t) → let a = c.args in c.kind_of-kind.result ≡ kind_of (terms_of a.clause.now.subject.call.now.terms.now) a.event
first_within-kind t c = rw c.places.ensures.0 at c.kind_of-kind.ensures

-- the mark is the subject's
first_within-marks : (t : ℕ) (c : first_within-After-into_iter-at-iterator t) → let s = c.args.clause.now.subject in
    Marks s.call.now.terms.now s.call.now.bytes.now s.at c.kind_of-kind.result c.mark_of-mark.result
first_within-marks t c = let e = c.record.ensures in rw (e.0, e.1, e.2) at c.mark_of-mark.ensures

-- at first all its records are left
first_within-all : (t : ℕ) (c : first_within-After-into_iter-at-iterator t) → let call = c.args.clause.now.subject.call.now in
    marked_left c.into_iter-at-iterator.result ≡ found (terms_of call.terms.now) call.bytes.now c.mark_of-mark.result
first_within-all t c = rw c.into_iter-at-iterator.ensures.into_iter_gives (rw (c.index.ensures.0, c.index.ensures.1) at c.marked-at-items.ensures)

-- the record of a turn is of the event's kind, and so are those that are left
first_within-own : (t : ℕ) (c : first_within-In-Some t) → let call = c.args.clause.now.subject.call.now in
    OfKind call.terms.now call.bytes.now (kind_of (terms_of call.terms.now) c.args.event) (c.in-Some.at ∷ marked_left c.next.new.self)
first_within-own t c = rw c.in-Some.ensures.steps at c.loop-at.invariant.0

pub first_within-loop-at-init : goal.first_within-loop-at-init
first_within-loop-at-init t c =
    let i = (goal.at.first_within-loop-at-init t c).After-into_iter-at-iterator in
    let kind = first_within-kind t i in
    let marks = first_within-marks t i in
    rw (first_within-all t i) (rw (← kind) (of-mark marks), scan-start _ _ _ _ _ _ _ kind marks)

pub first_within-loop-at-preserved : goal.first_within-loop-at-preserved
first_within-loop-at-preserved t c = (
  (first_within-own t (goal.at.first_within-loop-at-preserved t c).In-Some).1,
  scan-take _ _ _ _ _ _ _ c.loop-at.first c.in-Some.at (marked_left c.next.new.self) c.in-Some.ensures.steps c.loop-at.invariant.1 c.happening-time.ensures c.within.ensures c.earlier_of-first.ensures,
)

-- happening: when an event happens by a record

pub happening-stage_time-requires : goal.happening-stage_time-requires
happening-stage_time-requires t c = (omega arith, omega (arith, rank-least c.in-StageOf.stage c.in-StageOf.schema, c.args.clause.now.ranked))

-- known_bound: the value of a bound

pub known_bound-returns-in_default : goal.known_bound-returns-in_default
known_bound-returns-in_default t c = event-never _ _ _ _ _ _ _ c.first.ensures (inl c.in-Plus.is) c.in_default.is

pub known_bound-returns-in_default-first : goal.known_bound-returns-in_default-first
known_bound-returns-in_default-first t c = event-never _ _ _ _ _ _ _ c.first-in-Minus.ensures (inr c.in-Minus.is) c.in_default-first.is

pub known_bound-returns-in-At : goal.known_bound-returns-in-At
known_bound-returns-in-At t c = search (plus-known, rules)

-- known_by: a bound by what is at hand

pub known_by-returns-in-Some-event_of : goal.known_by-returns-in-Some-event_of
known_by-returns-in-Some-event_of t c =
    let same : c.in-Some.at_hand.event ≡ c.in-Some-event_of.event = search rules in
    let hand = rw c.in-Some.is at c.requires in
    c.known_since.ensures ∙ ap (known_as c.args.bound) (hand ∙ rw same (sym (c.in-Some-event_of.ensures c.args.clause.now)))

-- leaf_failure: when a leaf fails

-- what is at hand for its upper bound
pub leaf_failure-known_by-upper-requires : goal.leaf_failure-known_by-upper-requires
leaf_failure-known_by-upper-requires t c = (omega arith, c.happening_of.ensures c.args.clause.now c.only_happening-only.ensures)

-- its end is no later than the only happening
pub leaf_failure-returns-then-ends_by : goal.leaf_failure-returns-then-ends_by
leaf_failure-returns-then-ends_by t c =
    let (e, f, end, only, by) = c.ends_by.ensures c.if-ends_by.true in
    let once = rw only at c.only_happening-only.ensures in
    ends-first _ _ _ _ _ (call-once c.args.clause.now) once.0 once.1 refl by end c.failure_at_end-at_end.ensures

-- leaf_occurrence: when a leaf occurs

-- both bounds are known
pub leaf_occurrence-returns : goal.leaf_occurrence-returns
leaf_occurrence-returns t c =
    occurs _ _ _ _ _ c.known_bound.ensures c.in-Some.is c.known_bound-2.ensures c.in-Some-known_bound.is
    c.first_within-first.ensures c.later_of.ensures c.later_of-2.ensures

-- lower_at_hand: the lower bound, where it is at hand or needed

pub lower_at_hand-known_by-requires : goal.lower_at_hand-known_by-requires
lower_at_hand-known_by-requires t c = (omega arith, c.hand_for_lower-hand.ensures c.args.clause.now c.requires.only_of c.requires.upper_of)

-- only_happening: the only happening of a leaf's event

pub only_happening-returns-in-Plain-eq0 : goal.only_happening-returns-in-Plain-eq0
only_happening-returns-in-Plain-eq0 t c =
    let zero = c.in-Plain-eq0 in early-zero _ _ _ _ _ (zero.is ∙ ap Plain (sym zero.field-0-is ∙ zero.field-0-test))

pub only_happening-returns-in_default : goal.only_happening-returns-in_default
unfolding under record_in
only_happening-returns-in_default t c = (sym c.comes_once.ensures ∙ c.if-comes_once.true, c.first.ensures)

pub only_happening-returns-in_default-2 : goal.only_happening-returns-in_default-2
only_happening-returns-in_default-2 t c = early-recurs _ _ _ _ _ c.comes_once.ensures c.if-comes_once.false

-- stage_time: the time of a cited stage

pub stage_time-clause_times-requires-3 : goal.stage_time-clause_times-requires-3
stage_time-clause_times-requires-3 t c = (omega (arith, consequent-below c.args.stage _ c.args.schema _ _ c.of-clauses.ensures.2.1 c.consequent_needs.ensures), tt)

pub stage_time-returns : goal.stage_time-returns
stage_time-returns t c =
    let s = c.args.subject.now in
    let call = s.call.now in
    let of = c.of-clauses.ensures in
    let e = c.record.ensures in
    stage-here call.terms.now call.bytes.now call.layout.now.starts s.at c.args.schema call.placed.2 c.requires c.args.stage c.stage_from.ensures
    (rw c.places.ensures.0 at c.norm_type-norm.ensures) (rw (e.0, e.1, e.2) at c.stamp.ensures) c.detach_needs.ensures c.consequent_needs.ensures
    (rw (of.0.0, of.0.1) at c.clause_times.ensures) (rw (of.1.0, of.1.1) at c.clause_times-2.ensures) (rw (of.2.0, of.2.1) at c.clause_times-3.ensures)
