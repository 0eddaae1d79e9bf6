-- One law for each answer about a bound, a leaf and a count, for what bytes stand for.
--     plain_known, open-known                   a bound without an event is known from the start
--     first-here                                an event's earliest happening
--     event-never, plus-known, minus-known      a bound with an event, by its earliest happening
--     since-first, never-first                  that happening, by what is known of the bound
--     occurs, occurs-no-…                       when a leaf occurs, and when not
--     fails-empty, fails-missed                 when a leaf fails at its end, the upper bound
--     fails-no-…, fails-unreached, fails_met    when it does not
--     only-here                                 of an event that comes once, what is in a window
--     early-first                               when a leaf fails early, before its lower bound
--     early-zero, early-recurs, early-never,    when it does not
--         early-no-lower, early-open
--     ends-first                                a failure at its end that is no later than the only happening
--     either_failure                            it fails at its end or early
--     count-no-…, count-more, count-few         the times of a count
-- Assumes nothing.
use Prim.Native.Nat.{ℕ, ◌+◌, ◌-◌, ◌≤◌, ◌<◌}
use native.Mathlib.Omega.{arith}
use mathlib.Core.Path.{◌≡◌, refl, ap, ap₂, sym, ◌∙◌, fun_ext}
use mathlib.Core.Logic.{◌⊎◌, inl, inr}
use mathlib.Core.Bool.{Bool, true, false}
use mathlib.Core.List.{List}
use lib.Dec.{leb, ltb}
use borrow.Author.Tests.{lt-ltb, le-ltb, le-leb, lt-leb}
use Rattle.meaning.specs.declared.Time.{Time}
use Rattle.meaning.specs.declared.Time.TheVariants.{At, Never}
use Rattle.meaning.specs.declared.Event.{Event}
use Rattle.meaning.specs.declared.Bound.{Bound}
use Rattle.meaning.specs.declared.Bound.TheVariants.{Plain, Plus, Minus, Open}
use Rattle.meaning.specs.declared.Leaf.{Leaf}
use Rattle.meaning.specs.declared.CountLeaf.{CountLeaf}
use Rattle.meaning.specs.declared.Atom.TheVariants.{Counts}
use Rattle.meaning.specs.declared.Edge.{Edge}
use Rattle.meaning.specs.declared.Edge.TheVariants.{Minute, Endless}
use Rattle.meaning.specs.declared.Times.{Times}
use Rattle.meaning.specs.Time.{later_of, earlier_of, from, once_known, if_never, only_if}
use Rattle.meaning.specs.Terms.{leaf}
use Rattle.meaning.specs.Meaning.{StageTimes, cited, from_edge, before_edge, reached, edge_of, comes_once, first, first_within, known, leaf_occurrence, failure_at, failure_at_end, first_before, early_failure, leaf_failure, count_within, count_time, times_of, stage_time}
use Rattle.format.specs.Fields.{terms_of}
use Rattle.format.specs.Records.{value_width, records_in}
use Rattle.meaning.proofs.TimeLaws.{Side, early, late, side, before-lt, before-le, if_never-never, once_known-never, only_if-never}
use Rattle.meaning.proofs.EdgeLaws.{first-whole, never-within, none-before}
use Rattle.meaning.proofs.Once.{HappensOnce, only-within}
use Rattle.records.specs.Holds.{record_at}
use Rattle.evaluate.specs.declared.Known.{Known}
use Rattle.std.specs.Prelude.{Option, Some, None}
use Rattle.evaluate.specs.Seen.{log_in, record_in, under, known_as}

-- a known bound: its value, and the minute since which it is known
known_at : (b : Bound) (t : Time) {r : Option Known} {k : Known} → r ≡ known_as b t → r ≡ Some k → (t ≡ At k.since) × (k.edge ≡ edge_of b k.since)
unfolding known_as
known_at b (At n) e f = let same : ◌≡◌ {A = Known} (record { edge = edge_of b n; since = n }) _ = cc in (ap (λ (k : Known). At k.since) same, sym (ap (λ (k : Known). k.edge) same) ∙ ap (λ (k : Known). edge_of b k.since) same)
known_at b Never e f = absurd (cc)

-- an unknown bound is known at no minute
known-never : (b : Bound) (t : Time) {r : Option Known} → r ≡ known_as b t → r ≡ None → t ≡ Never
unfolding known_as
known-never b (At n) e f = absurd (cc)
known-never b Never e f = refl

-- none stays none, whenever the bounds are known
never-settled : (g h : ℕ) → later_of (At g) (later_of (At h) Never) ≡ Never
unfolding later_of
never-settled g h = refl

-- what is none or at f, since whenever it is known, comes after a time at e that is no later
later-kept : (e f : ℕ) (t : Time) (b : ℕ → Time) → e ≤ f → ((g : ℕ) → (b g ≡ Never) ⊎ (b g ≡ At f)) → At e ≡ earlier_of (At e) (once_known t b)
unfolding once_known later_of earlier_of
later-kept e f Never b h all = refl
later-kept e f (At g) b h all = go (all g)
  where
    go : (b g ≡ Never) ⊎ (b g ≡ At f) → At e ≡ earlier_of (At e) (later_of (At g) (b g))
    go (inl q) = rw q
    go (inr q) = rw q (ap At (omega arith))

module _ (terms log : List ℕ) (k subject : ℕ) where
  -- a plain bound is known from the start
  pub plain_known : (b : Bound) (n : ℕ) → b ≡ Plain n → Some (record { edge = Minute n; since = 0 }) ≡ known_as b (under known terms log k subject b)
  unfolding under known known_as edge_of
  plain_known b n e = rw e

  -- so is an open one
  pub open-known : (b : Bound) → b ≡ Open → Some (record { edge = Endless; since = 0 }) ≡ known_as b (under known terms log k subject b)
  unfolding under known known_as edge_of
  open-known b e = rw e

  -- an event's earliest happening is the first one in the window from 0 on
  pub first-here : (e : Event) {r : Time} → r ≡ under first_within terms log k subject (Minute 0) Endless e → r ≡ under first terms log k subject e
  unfolding under
  first-here e p = p ∙ sym (first-whole _ _ _ _ e)

  module _ (b : Bound) (e : Event) (n : ℕ) {r : Time} (here : r ≡ under first terms log k subject e) where
    -- without a happening of its event a bound is unknown
    pub event-never : (b ≡ Plus e n) ⊎ (b ≡ Minus e n) → r ≡ Never → None ≡ known_as b (under known terms log k subject b)
    unfolding under known known_as
    event-never (inl p) q = rw p (sym (ap (known_as (Plus e n)) (sym here ∙ q)))
    event-never (inr p) q = rw p (sym (ap (known_as (Minus e n)) (sym here ∙ q)))

    module _ {g : ℕ} (at : r ≡ At g) {u : Edge} where
      -- a bound after its event is known when that happens
      pub plus-known : b ≡ Plus e n → u ≡ Minute (g + n) → Some (record { edge = u; since = g }) ≡ known_as b (under known terms log k subject b)
      unfolding under known known_as edge_of
      plus-known p q = rw (p, q) (sym (ap (known_as (Plus e n)) (sym here ∙ at)))

      -- so is one before its event
      pub minus-known : b ≡ Minus e n → u ≡ Minute (g - n) → Some (record { edge = u; since = g }) ≡ known_as b (under known terms log k subject b)
      unfolding under known known_as edge_of
      minus-known p q = rw (p, q) (sym (ap (known_as (Minus e n)) (sym here ∙ at)))

  -- by what is known of a bound, the earliest happening of its event
  module _ (b : Bound) (e : Event) (of : under known terms log k subject b ≡ under first terms log k subject e) {r : Option Known} (here : r ≡ known_as b (under known terms log k subject b)) where
    pub since-first : {v : Known} → r ≡ Some v → At v.since ≡ under first terms log k subject e
    since-first p = sym (known_at b _ here p).0 ∙ of

    pub never-first : r ≡ None → Never ≡ under first terms log k subject e
    never-first p = sym (known-never b _ here p) ∙ of

  module _ (x : Leaf) where
    module _ {r : Option Known} (lower : r ≡ known_as x.lower (under known terms log k subject x.lower)) where
      -- without a known lower bound a leaf never occurs
      pub occurs-no-lower : r ≡ None → Never ≡ under leaf_occurrence terms log k subject x
      unfolding under leaf_occurrence once_known
      occurs-no-lower p = rw (known-never x.lower _ lower p)

      module _ {from : Known} (since : r ≡ Some from) {s : Option Known} (upper : s ≡ known_as x.upper (under known terms log k subject x.upper)) where
        -- nor without a known upper bound
        pub occurs-no-upper : s ≡ None → Never ≡ under leaf_occurrence terms log k subject x
        unfolding under leaf_occurrence once_known later_of
        occurs-no-upper p = rw ((known_at x.lower _ lower since).0, known-never x.upper _ upper p)

        -- it occurs at the earliest happening in its window, but not before both are known
        pub occurs : {to : Known} {f a b : Time} → s ≡ Some to → f ≡ under first_within terms log k subject from.edge to.edge x.event
            → a ≡ later_of (At to.since) f → b ≡ later_of (At from.since) a → b ≡ under leaf_occurrence terms log k subject x
        unfolding under leaf_occurrence once_known
        occurs till e p q =
            let low = known_at x.lower _ lower since in
            let high = known_at x.upper _ upper till in
            rw (q, p, e, low.0, high.0, low.1, high.1)

    module _ {s : Option Known} (upper : s ≡ known_as x.upper (under known terms log k subject x.upper)) where
      -- without a known upper bound a leaf never fails at its end
      pub fails-no-upper : s ≡ None → Never ≡ under failure_at_end terms log k subject x
      unfolding under failure_at_end once_known
      fails-no-upper p = rw (known-never x.upper _ upper p)

      module _ {to : Known} (till : s ≡ Some to) {r : Time} (end : r ≡ reached to.edge) where
        -- it fails at that bound, but not before it is known
        fails-at : under failure_at_end terms log k subject x ≡ later_of (At to.since) (under failure_at terms log k subject x.lower to.edge x.event)
        unfolding under failure_at_end once_known
        fails-at = let high = known_at x.upper _ upper till in rw (high.0, high.1)

        -- a bound that is not reached is no failure
        pub fails-unreached : r ≡ Never → Never ≡ under failure_at_end terms log k subject x
        unfolding under failure_at later_of
        fails-unreached p =
            rw (fails-at, ← end, p, fun_ext λ g. if_never-never (under first_within terms log k subject (edge_of x.lower g) to.edge x.event)) (rw (once_known-never _, if_never-never _))

        module _ {m : ℕ} (at : r ≡ At m) {f : Time} (ahead : f ≡ under first_within terms log k subject (Minute 0) to.edge x.event) where
          -- with nothing before it, it is one
          pub fails-empty : {a : Time} → f ≡ Never → a ≡ later_of (At to.since) (At m) → a ≡ under failure_at_end terms log k subject x
          unfolding under failure_at if_never
          fails-empty p q = rw (q, fails-at, ← ahead, p, ← end, at)

          module _ {n : ℕ} (some : f ≡ At n) {q : Option Known} (lower : q ≡ known_as x.lower (under known terms log k subject x.lower)) where
            -- with something before it, not without a known lower bound
            pub fails-no-lower : q ≡ None → Never ≡ under failure_at_end terms log k subject x
            unfolding under failure_at once_known if_never later_of
            fails-no-lower p = rw (fails-at, ← ahead, some, known-never x.lower _ lower p)

            module _ {from : Known} (since : q ≡ Some from) {w : Time} (inside : w ≡ under first_within terms log k subject from.edge to.edge x.event) where
              -- nor with something in the window
              pub fails_met : {i : ℕ} → w ≡ At i → Never ≡ under failure_at_end terms log k subject x
              unfolding under failure_at once_known if_never later_of
              fails_met p = let low = known_at x.lower _ lower since in rw (fails-at, ← ahead, some, low.0, ← low.1, ← inside, p)

              -- with nothing in the window, but not before the lower bound is known
              pub fails-missed : {a b : Time} → w ≡ Never → a ≡ later_of (At from.since) (At m) → b ≡ later_of (At to.since) a → b ≡ under failure_at_end terms log k subject x
              unfolding under failure_at once_known if_never
              fails-missed p e d = let low = known_at x.lower _ lower since in rw (d, e, fails-at, ← ahead, some, low.0, ← low.1, ← inside, p, ← end, at)

    -- nothing is before a lower bound at minute 0
    pub early-zero : x.lower ≡ Plain 0 → under early_failure terms log k subject x ≡ Never
    unfolding under early_failure first_before known edge_of once_known later_of
    early-zero e = rw (e, none-before) (only_if-never _)

    -- by an event that recurs a leaf never fails early
    pub early-recurs : {o : Bool} → o ≡ comes_once (terms_of terms) (record_at (terms_of terms) log subject) x.event → o ≡ false → under early_failure terms log k subject x ≡ Never
    unfolding under early_failure only_if record_in
    early-recurs once p = rw (← once, p)

    module _ (once : HappensOnce (cited k (stage_time (terms_of terms) (log_in terms log))) (terms_of terms) (log_in terms log) (record_in terms log subject))
        (yes : under (λ ts t l s. comes_once t s x.event) terms log k subject ≡ true) {only : Time} (here : only ≡ under first terms log k subject x.event) where
      -- what is in a window is the only happening, where that lies in it, else none
      pub only-here : (l u : Edge) {t : Time} → t ≡ from_edge l (before_edge u only) → t ≡ under first_within terms log k subject l u x.event
      unfolding under
      only-here l u e = e ∙ rw here (sym (only-within _ _ _ _ l u x.event (once x.event yes)))

      -- what never happens is before no edge
      none-early : only ≡ Never → (l : Edge) → under first_before terms log k subject l x.event ≡ Never
      unfolding under first_before
      none-early p (Minute l) = sym (only-here (Minute 0) (Minute l) (rw p (sym (never-within (Minute 0) (Minute l)))))
      none-early p Endless = refl

      -- so it does not fail a leaf early
      pub early-never : only ≡ Never → Never ≡ under early_failure terms log k subject x
      unfolding under early_failure only_if
      early-never p = rw (yes, fun_ext λ g. none-early p (edge_of x.lower g)) (sym (once_known-never _))

      module _ {r : Option Known} (lower : r ≡ known_as x.lower (under known terms log k subject x.lower)) where
        -- nor without a known lower bound
        pub early-no-lower : r ≡ None → Never ≡ under early_failure terms log k subject x
        unfolding under early_failure only_if once_known
        early-no-lower p = rw (yes, known-never x.lower _ lower p)

        module _ {from : Known} (since : r ≡ Some from) where
          -- it fails when the event happens before that bound, but not before it is known
          early-by : {t : Time} → t ≡ under first_before terms log k subject from.edge x.event → later_of (At from.since) t ≡ under early_failure terms log k subject x
          unfolding under early_failure only_if once_known
          early-by e = let low = known_at x.lower _ lower since in rw (yes, low.0, e, low.1)

          -- nothing is before an open bound
          pub early-open : from.edge ≡ Endless → Never ≡ under early_failure terms log k subject x
          unfolding under first_before later_of
          early-open p = early-by {t = Never} (rw p)

          -- before another one: the only happening, where it lies before that bound
          pub early-first : {l : ℕ} {f a : Time} → from.edge ≡ Minute l → f ≡ from_edge (Minute 0) (before_edge from.edge only) → a ≡ later_of (At from.since) f
              → a ≡ under early_failure terms log k subject x
          unfolding under first_before
          early-first {l} p e q = q ∙ early-by (rw p (only-here (Minute 0) (Minute l) (rw p at e)))

      -- what is before an edge is the only happening or none
      only-or-none : {f : ℕ} → only ≡ At f → (l : Edge) → (under first_before terms log k subject l x.event ≡ Never) ⊎ (under first_before terms log k subject l x.event ≡ At f)
      unfolding under first_before from_edge before_edge from
      only-or-none p Endless = inl refl
      only-or-none {f} p (Minute l) = go (side l f)
        where
          go : Side l f → (under first_within terms log k subject (Minute 0) (Minute l) x.event ≡ Never) ⊎ (under first_within terms log k subject (Minute 0) (Minute l) x.event ≡ At f)
          go (early h) = inr (sym (only-here (Minute 0) (Minute l) (rw (p, before-lt l f h, le-leb 0 f (omega arith)) refl)))
          go (late h) = inl (sym (only-here (Minute 0) (Minute l) (rw (p, before-le l f h) refl)))

      -- early it fails no sooner than the only happening: a failure at its end that is no later comes first
      pub ends-first : {e f : ℕ} {a : Time} → only ≡ At f → e ≤ f → a ≡ At e → a ≡ under failure_at_end terms log k subject x → a ≡ under leaf_failure terms log k subject x
      unfolding under leaf_failure early_failure only_if
      ends-first {e} {f} p h is end = rw (yes, ← end, is) (later-kept e f _ _ h (λ g. only-or-none p (edge_of x.lower g)))

    -- it fails at its end or early
    pub either_failure : {a b c : Time} → a ≡ under failure_at_end terms log k subject x → b ≡ under early_failure terms log k subject x
        → c ≡ earlier_of a b → c ≡ under leaf_failure terms log k subject x
    unfolding under leaf_failure
    either_failure e f p = rw (p, e, f)

  module _ (x : CountLeaf) where
    -- the times of a count
    abbrev pub count_in : Times
    count_in = under times_of terms log k subject (leaf (Counts x))

    module _ {r : Option Known} (lower : r ≡ known_as x.lower (under known terms log k subject x.lower)) where
      -- without a known lower bound a count is not settled
      pub count-no-lower : r ≡ None → record { occurs = Never; fails = Never } ≡ count_in
      unfolding under times_of count_time once_known
      count-no-lower p = rw (known-never x.lower _ lower p)

      module _ {from : Known} (since : r ≡ Some from) {s : Option Known} (upper : s ≡ known_as x.upper (under known terms log k subject x.upper)) where
        -- nor without a known upper bound
        pub count-no-upper : s ≡ None → record { occurs = Never; fails = Never } ≡ count_in
        unfolding under times_of count_time once_known later_of
        count-no-upper p = rw ((known_at x.lower _ lower since).0, known-never x.upper _ upper p)

        module _ {to : Known} (till : s ≡ Some to) {e a b : Time} (end : e ≡ reached to.edge) (p : a ≡ later_of (At to.since) e) (q : b ≡ later_of (At from.since) a)
            {n : ℕ} (number : (ts : StageTimes) → n ≡ count_within ts (terms_of terms) (records_in value_width (terms_of terms) log) (record_at (terms_of terms) log subject) from.edge to.edge x.kind) where
          -- it is settled when the window has ended, but not before both bounds are known
          count-time : (passes : ℕ → Bool) → under count_time terms log k subject passes x ≡ later_of (At from.since) (later_of (At to.since) (only_if (passes n) e))
          unfolding under log_in record_in count_time once_known
          count-time passes =
              let low = known_at x.lower _ lower since in
              let high = known_at x.upper _ upper till in
              rw (low.0, high.0, ← low.1, ← high.1, ← number (cited k (stage_time (terms_of terms) (log_in terms log))), ← end)

          -- with more records than the threshold it occurs
          pub count-more : x.threshold < n → record { occurs = b; fails = Never } ≡ count_in
          unfolding under times_of only_if
          count-more m =
              ap₂ (λ (o f : Time). record { occurs = o; fails = f })
              (sym (count-time (λ n. ltb x.threshold n) ∙ rw (lt-ltb x.threshold n m, q, p)))
              (sym (count-time (λ n. leb n x.threshold) ∙ rw (lt-leb n x.threshold m) (never-settled from.since to.since)))

          -- with as many or fewer it fails
          pub count-few : n ≤ x.threshold → record { occurs = Never; fails = b } ≡ count_in
          unfolding under times_of only_if
          count-few m =
              ap₂ (λ (o f : Time). record { occurs = o; fails = f })
              (sym (count-time (λ n. ltb x.threshold n) ∙ rw (le-ltb x.threshold n m) (never-settled from.since to.since)))
              (sym (count-time (λ n. leb n x.threshold) ∙ rw (le-leb n x.threshold m, q, p)))

-- what the search for the proofs of `known_bound` and `first`, of `leaf_occurrence`, of `failure_at_end` and of `count_times` cites
pub ruleset bounds = (plain_known, open-known, minus-known, first-here)

pub ruleset occurrences = (occurs-no-lower, occurs-no-upper)

pub ruleset end_failures = (fails-no-upper, fails-unreached, fails-no-lower)

pub ruleset counts = (count-no-lower, count-no-upper)
