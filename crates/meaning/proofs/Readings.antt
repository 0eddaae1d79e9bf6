-- Words of document 01 that could be read in a second way and that its sample leaves open, as far as they are about terms and records, not about
-- bytes: each case is a log under terms, given as data, beside the rows that the words give, closed by computation. A1 to A13 number these readings.
-- Beside them stand counts (document 02, wish 1), records in order of arrival with stamps in any order (wish 3), events that come once (wish 4), the
-- connectives, each type of norm, each sign of a bound, citations, the order of rows, and what refusals 9 and 16 ask of records. The expected
-- outcomes are written from the documents. Assumes nothing.
use Prim.Native.Nat.{ℕ}
use mathlib.Core.Path.{refl}
use mathlib.Core.Bool.{Bool, true, false}
use mathlib.Core.List.{List, [], ◌∷◌, ◌++◌, flatten}
use mathlib.Core.Option.{Option, none, some}
use Rattle.meaning.specs.declared.Stage.{Stage}
use Rattle.meaning.specs.declared.Stage.TheVariants.{Created, Detached, Expired, Discharged, Violated}
use Rattle.meaning.specs.declared.NormType.{NormType}
use Rattle.meaning.specs.declared.NormType.TheVariants.{Commitment, Authorization, Prohibition, Power}
use Rattle.meaning.specs.declared.Event.{Event}
use Rattle.meaning.specs.declared.Event.TheVariants.{Kind, StageOf}
use Rattle.meaning.specs.declared.Bound.{Bound}
use Rattle.meaning.specs.declared.Bound.TheVariants.{Plain, Plus, Minus, Open}
use Rattle.meaning.specs.declared.Atom.{Atom}
use Rattle.meaning.specs.declared.Atom.TheVariants.{Happens, Counts}
use Rattle.meaning.specs.declared.Row.{Row}
use Rattle.meaning.specs.Terms as terms
use Rattle.meaning.specs.Terms.{EventKind, Expr, and, or, except, always, Schema, Terms}
use Rattle.meaning.specs.Log.{Record, Log, key_repeats}
use Rattle.meaning.specs.Rows.{report_rows, subject_of}
use Rattle.meaning.proofs.Cases.{Case, case, Hold, hold-all}
use Rattle.meaning.proofs.Computes.{computes}

-- what a case shows: rows, whether a condition holds, or the subject that is found
pub data Shown : Type 0 where
  rows : List Row → Shown
  holds : Bool → Shown
  found_is : Option Record → Shown

-- a kind: mask of attributes, key attribute
abbrev kind : ℕ → ℕ → EventKind
kind mask key = record { mask = mask; key = key }

-- one schema: type, subject kind, privileged, liable, then create, detach, consequent
abbrev schema : NormType → ℕ → ℕ → ℕ → Expr Atom → Expr Atom → Expr Atom → List Schema
schema type subject privileged liable create detach consequent =
    record {
      type = type;
      subject = subject;
      privileged = privileged;
      liable = liable;
      create = create;
      detach = detach;
      consequent = consequent;
    }
    ∷ []

-- a leaf: an event, a lower and an upper bound
abbrev leaf : Event → Bound → Bound → Expr Atom
leaf event lower upper = terms.leaf (Happens (record { event = event; lower = lower; upper = upper }))

-- a count: more than so many records of the kind with a number, a lower and an upper bound
abbrev more_than : ℕ → ℕ → Bound → Bound → Expr Atom
more_than threshold kind lower upper = terms.leaf (Counts (record { kind = kind; threshold = threshold; lower = lower; upper = upper }))

-- the events: kinds S, E, F and O, and a stage of the schema j
abbrev S : Event
S = Kind 0

abbrev E : Event
E = Kind 1

abbrev F : Event
F = Kind 2

abbrev O : Event
O = Kind 3

abbrev created : ℕ → Event
created j = StageOf Created j

abbrev detached : ℕ → Event
detached j = StageOf Detached j

abbrev expired : ℕ → Event
expired j = StageOf Expired j

abbrev discharged : ℕ → Event
discharged j = StageOf Discharged j

abbrev violated : ℕ → Event
violated j = StageOf Violated j

-- S carries attribute 0, its key. E and F carry it too, and a key of their own, so that they recur; O carries it alone, so that it comes once for an S
abbrev kinds : List EventKind
kinds = kind 0b1 0 ∷ kind 0b11 1 ∷ kind 0b101 2 ∷ kind 0b1 0 ∷ []

-- one norm on S
abbrev norm : NormType → Expr Atom → Expr Atom → Expr Atom → List Schema
norm type create detach consequent = schema type 0 0 0 create detach consequent

-- a log of one record: kind, stamp, values
abbrev event : ℕ → ℕ → List ℕ → Log
event kind stamp values = record { kind = kind; stamp = stamp; values = values } ∷ []

-- S with key 7; E and F of that S, each with its stamp for a key; its O
abbrev s_at : ℕ → Log
s_at t = event 0 t (7 ∷ [])

abbrev e_at : ℕ → Log
e_at t = event 1 t (7 ∷ t ∷ [])

abbrev f_at : ℕ → Log
f_at t = event 2 t (7 ∷ t ∷ [])

abbrev o_at : ℕ → Log
o_at t = event 3 t (7 ∷ [])

-- a clause that never occurs and fails at 0; one that neither occurs nor fails as long as there is no F
abbrev nothing : Expr Atom
nothing = except always always

abbrev waiting : Expr Atom
waiting = leaf F (Plain 0) Open

-- E before 10, F before 20
abbrev E10 : Expr Atom
E10 = leaf E (Plain 0) (Plain 10)

abbrev F20 : Expr Atom
F20 = leaf F (Plain 0) (Plain 20)

-- the rows of a log at a moment, under schemas over kinds; over S, E, F and O; and at the last moment there is
abbrev reported_under : List EventKind → List Schema → ℕ → Log → Shown
reported_under ks schemas m log = rows (report_rows (record { kinds = ks; schemas = schemas }) log m)

abbrev reported_at : ℕ → List Schema → Log → Shown
reported_at m schemas log = reported_under kinds schemas m log

abbrev last_moment : ℕ
last_moment = 4294967295

abbrev reported : List Schema → Log → Shown
reported = reported_at last_moment

-- a row of schema j for an S with that key, which stands for both parties: stage, then time
abbrev row_on : ℕ → ℕ → Stage → ℕ → Row
row_on j key stage t = record { stage = stage; schema = j; key = key; privileged = key; liable = key; time = t }

abbrev row : Stage → ℕ → Row
row stage t = row_on 0 7 stage t

-- a clause as the detach clause of an authorization that is always created, S at 0: detached is its occurrence, expired its failure
abbrev detaching : Expr Atom → Log → Shown
detaching clause log = reported (norm Authorization always clause nothing) (s_at 0 ++ log)

abbrev occurs_at : ℕ → Shown
occurs_at t = rows (row Created 0 ∷ row Detached t ∷ [])

abbrev fails_at : ℕ → Shown
fails_at t = rows (row Created 0 ∷ row Expired t ∷ [])

abbrev does_neither : Shown
does_neither = rows (row Created 0 ∷ [])

-- A6: schema 0 is violated at the last minute, 4,294,967,294; schema 1 has that detach clause
abbrev at_the_end : Expr Atom → List Schema
at_the_end clause = norm Commitment always always (leaf E (Plain 0) (Plus S 2147483647)) ++ norm Authorization always clause nothing

-- schema 1 detaches with F before that minute plus the offset
abbrev end_of_time : ℕ → List Schema
end_of_time offset = at_the_end (leaf F (Plain 0) (Plus (violated 0) offset))

abbrev end_rows : List Row → Shown
end_rows more =
    rows (row Created 2147483647 ∷ row Detached 2147483647 ∷ row Violated 4294967294 ∷ row_on 1 7 Created 2147483647 ∷ more)

-- S and E with these masks; their keys are attributes 0 and 2
abbrev sharing : ℕ → ℕ → Log → Shown
sharing s e log = reported_under (kind s 0 ∷ kind e 2 ∷ []) (norm Authorization always E10 nothing) last_moment log

-- leaves, bounds and times
abbrev leaf_cases : List (Case Shown)
leaf_cases =
    -- A1: each event correlates with the subject. E and F need not agree with each other: here they differ on attribute 3, which S doesn't carry
    case
    (reported_under
    (kind 0b1 0 ∷ kind 0b1011 1 ∷ kind 0b1101 2 ∷ [])
    (norm Authorization always (leaf E (Plus F 0) Open) nothing)
    last_moment
    (s_at 0 ++ event 2 1 (7 ∷ 1 ∷ 9 ∷ []) ++ event 1 2 (7 ∷ 1 ∷ 5 ∷ [])))
    (occurs_at 2)
    -- A1: a bound's event too: an F of another S leaves the bound unknown
    ∷ case (detaching (leaf E (Plus F 0) Open) (event 2 1 (8 ∷ 1 ∷ []) ++ e_at 2)) does_neither
    -- A2: nothing before r: the lower bound plays no part, unknown or known late
    ∷ case (detaching (leaf E (Plus F 0) (Plain 10)) []) (fails_at 10)
    ∷ case (detaching (leaf E (Plus F 0) (Plain 10)) (f_at 20)) (fails_at 10)
    -- A3: something before r, nothing in the window: the lower bound has to be known, and its known-time counts
    ∷ case (detaching (leaf E (Plus F 0) (Plain 10)) (e_at 5)) does_neither
    ∷ case (detaching (leaf E (Plus F 0) (Plain 10)) (e_at 5 ++ f_at 7)) (fails_at 10)
    ∷ case (detaching (leaf E (Plus F 0) (Plain 10)) (e_at 5 ++ f_at 20)) (fails_at 20)
    -- A4: r itself is outside: neither in the window nor before r
    ∷ case (detaching (leaf E (Plus F 0) (Plain 10)) (e_at 10)) (fails_at 10)
    ∷ case (detaching E10 (e_at 9)) (occurs_at 9)
    ∷ case (detaching E10 (e_at 10)) (fails_at 10)
    -- the lower bound is inside
    ∷ case (detaching (leaf E (Plain 5) Open) (e_at 4)) does_neither
    ∷ case (detaching (leaf E (Plain 5) Open) (e_at 5)) (occurs_at 5)
    -- a plain bound is a minute of its own, not counted from the subject's stamp
    ∷ case (reported (norm Authorization always (leaf E (Plain 5) (Plain 7)) nothing) (s_at 4 ++ e_at 6)) (rows (row Created 4 ∷ row Detached 6 ∷ []))
    -- A5: known-times count where a bound lies before its event; below zero is zero
    ∷ case (detaching (leaf E (Plain 0) (Minus F 3)) (f_at 20)) (fails_at 20)
    ∷ case (detaching (leaf E (Plain 0) (Minus F 3)) (e_at 4 ++ f_at 20)) (occurs_at 20)
    ∷ case (detaching (leaf E (Minus F 5) Open) (e_at 1 ++ f_at 2)) (occurs_at 2)
    ∷ case (detaching (leaf E (Minus F 5) Open) (e_at 0 ++ f_at 2)) (occurs_at 2)
    ∷ case (detaching (leaf E (Plain 0) (Minus F 5)) (e_at 0 ++ f_at 2)) (fails_at 2)
    -- each sign as the upper bound, last minute inside and first outside: F-3 with F at 20, F+3 with F at 5
    ∷ case (detaching (leaf E (Plain 0) (Minus F 3)) (e_at 16 ++ f_at 20)) (occurs_at 20)
    ∷ case (detaching (leaf E (Plain 0) (Minus F 3)) (e_at 17 ++ f_at 20)) (fails_at 20)
    ∷ case (detaching (leaf E (Plain 0) (Plus F 3)) (f_at 5 ++ e_at 7)) (occurs_at 7)
    ∷ case (detaching (leaf E (Plain 0) (Plus F 3)) (f_at 5 ++ e_at 8)) (fails_at 8)
    ∷ case (detaching (leaf E (Plain 0) (Plus F 3)) (e_at 2 ++ f_at 5)) (occurs_at 5)
    -- each sign as the lower bound, last minute outside and first inside
    ∷ case (detaching (leaf E (Minus F 3) Open) (e_at 16 ++ f_at 20)) does_neither
    ∷ case (detaching (leaf E (Minus F 3) Open) (e_at 17 ++ f_at 20)) (occurs_at 20)
    ∷ case (detaching (leaf E (Plus F 3) Open) (f_at 5 ++ e_at 7)) does_neither
    ∷ case (detaching (leaf E (Plus F 3) Open) (f_at 5 ++ e_at 8)) (occurs_at 8)
    -- a bound takes its event's earliest happening
    ∷ case (detaching (leaf E (Plus F 0) (Plus F 3)) (f_at 5 ++ e_at 6 ++ f_at 6)) (occurs_at 6)
    ∷ case (detaching (leaf E (Plus F 0) (Plus F 3)) (f_at 5 ++ f_at 6 ++ e_at 8)) (fails_at 8)
    -- A6: bound values are not cut, so F's window is not over at 4,294,967,294; times are
    ∷ case (reported (end_of_time 2) (s_at 2147483647 ++ f_at 2147483647)) (end_rows (row_on 1 7 Detached 4294967294 ∷ []))
    ∷ case (reported (end_of_time 2) (s_at 2147483647)) (end_rows [])
    ∷ case (reported (end_of_time 0) (s_at 2147483647)) (end_rows (row_on 1 7 Expired 4294967294 ∷ []))
    -- A6: no 32-bit moment shows a time past the last minute; asked at a larger number, there still is none
    ∷ case (reported_at 8589934592 (end_of_time 1) (s_at 2147483647)) (end_rows [])
    ∷ case (reported_at 8589934592 (end_of_time 2) (s_at 2147483647)) (end_rows [])
    -- A7: a window looks at all happenings, not at the first alone
    ∷ case (detaching (leaf E (Plain 10) (Plain 20)) (e_at 5 ++ e_at 12)) (occurs_at 12)
    -- A8: an unknown upper bound is no end: what recurs neither occurs nor fails by it
    ∷ case (detaching (leaf E (Plain 0) (Plus F 9)) (e_at 5)) does_neither
    ∷ case (detaching (leaf E (Plain 0) (Plus F 9)) []) does_neither
    ∷ case (detaching (leaf E (Plain 0) (Plus F 9)) (e_at 5 ++ f_at 8)) (occurs_at 8)
    -- A9: what is open does not fail at its end, so where its event recurs nothing follows from its failure
    ∷ case (detaching (except (leaf E (Plain 0) (Plain 9)) (leaf F (Plain 0) Open)) (e_at 3)) does_neither
    ∷ case (detaching (except (leaf E (Plain 0) (Plain 9)) (leaf F (Plain 0) Open)) (f_at 4)) (fails_at 4)
    -- A10: the discharge of a commitment does not ask for its creation
    ∷ case (reported (norm Commitment (leaf E (Plain 0) (Plain 0)) always always) (s_at 4)) (rows (row Discharged 4 ∷ []))
    -- A11: no stage lies before the subject's stamp, and none that is cited: E at 2 is before created of schema 0
    ∷ case (reported (norm Authorization always (leaf E (Plain 0) (Plain 0)) nothing) (s_at 4)) (rows (row Created 4 ∷ row Expired 4 ∷ []))
    ∷ case
    (reported (norm Authorization always waiting nothing ++ norm Authorization always (leaf E (Plus (created 0) 0) Open) nothing) (e_at 2 ++ s_at 4))
    (rows (row Created 4 ∷ row_on 1 7 Created 4 ∷ []))
    -- A11: an event before the subject's stamp counts, the stage waits for the stamp
    ∷ case (reported (norm Authorization always E10 nothing) (e_at 2 ++ s_at 4)) (rows (row Created 4 ∷ row Detached 4 ∷ []))
    -- A11: a window whose lower bound is at or past its upper is empty
    ∷ case (detaching (leaf E (Plain 10) (Plain 5)) (e_at 7)) (fails_at 5)
    ∷ case (detaching (leaf E (Plain 10) (Plain 5)) (e_at 3)) (fails_at 5)
    -- A12: an event of the subject's own kind is the subject's own; it comes once, so one before the window fails at once (wish 4)
    ∷ case
    (reported (norm Authorization always (leaf S (Plain 3) (Plain 9)) nothing) (s_at 1 ++ event 0 5 (8 ∷ [])))
    (rows (row Created 1 ∷ row Expired 1 ∷ row_on 0 8 Created 5 ∷ row_on 0 8 Detached 5 ∷ []))
    ∷ case
    (reported (norm Authorization always (leaf S (Plain 3) (Plain 9)) nothing) (s_at 5 ++ event 0 1 (8 ∷ [])))
    (rows (row Created 5 ∷ row Detached 5 ∷ row_on 0 8 Created 1 ∷ row_on 0 8 Expired 1 ∷ []))
    -- correlation takes every shared attribute: two, of which one or the other differs; and attribute 15
    ∷ case (sharing 0b11 0b111 (event 0 0 (7 ∷ 8 ∷ []) ++ event 1 5 (7 ∷ 8 ∷ 1 ∷ []))) (occurs_at 5)
    ∷ case (sharing 0b11 0b111 (event 0 0 (7 ∷ 8 ∷ []) ++ event 1 5 (7 ∷ 9 ∷ 1 ∷ []))) (fails_at 10)
    ∷ case (sharing 0b11 0b111 (event 0 0 (7 ∷ 8 ∷ []) ++ event 1 5 (6 ∷ 8 ∷ 1 ∷ []))) (fails_at 10)
    ∷ case (sharing 0x8001 0x8004 (event 0 0 (7 ∷ 8 ∷ []) ++ event 1 5 (1 ∷ 8 ∷ []))) (occurs_at 5)
    ∷ case (sharing 0x8001 0x8004 (event 0 0 (7 ∷ 8 ∷ []) ++ event 1 5 (1 ∷ 9 ∷ []))) (fails_at 10)
    ∷ []

-- counts: E is kind 1, F kind 2, S kind 0
abbrev count_cases : List (Case Shown)
count_cases =
    -- it is settled when the window ends, not when the count is passed; what is at the upper bound is outside, at the lower one inside
    case (detaching (more_than 1 1 (Plain 0) (Plain 10)) (e_at 1 ++ e_at 2)) (occurs_at 10)
    ∷ case (detaching (more_than 1 1 (Plain 0) (Plain 10)) (e_at 1 ++ e_at 10)) (fails_at 10)
    ∷ case (detaching (more_than 0 1 (Plain 5) (Plain 10)) (e_at 5)) (occurs_at 10)
    ∷ case (detaching (more_than 0 1 (Plain 5) (Plain 10)) (e_at 4)) (fails_at 10)
    -- two are not more than two; two at one minute are two
    ∷ case (detaching (more_than 2 1 (Plain 0) (Plain 10)) (e_at 1 ++ e_at 2)) (fails_at 10)
    ∷ case (detaching (more_than 1 1 (Plain 0) (Plain 10)) (event 1 3 (7 ∷ 1 ∷ []) ++ event 1 3 (7 ∷ 2 ∷ []))) (occurs_at 10)
    -- any threshold will do
    ∷ case (detaching (more_than 4294967295 1 (Plain 0) (Plain 10)) (e_at 1)) (fails_at 10)
    -- a bound that is unknown settles nothing, the lower one too
    ∷ case (detaching (more_than 0 1 (Plain 0) (Plus F 9)) []) does_neither
    ∷ case (detaching (more_than 0 1 (Plain 0) (Plus F 9)) (e_at 5)) does_neither
    ∷ case (detaching (more_than 0 1 (Plus F 0) (Plain 10)) []) does_neither
    ∷ case (detaching (more_than 0 1 (Plus F 0) (Plain 10)) (e_at 5)) does_neither
    ∷ case (detaching (more_than 0 1 (Plus F 0) (Plain 10)) (f_at 20)) (fails_at 20)
    -- it is not settled before both bounds are known
    ∷ case (detaching (more_than 0 1 (Minus F 15) (Plain 10)) (e_at 6 ++ f_at 20)) (occurs_at 20)
    ∷ case (detaching (more_than 0 1 (Plain 0) (Minus F 3)) (e_at 4 ++ f_at 20)) (occurs_at 20)
    ∷ case (detaching (more_than 0 1 (Plain 0) (Minus F 3)) (f_at 20)) (fails_at 20)
    -- below zero counts as zero
    ∷ case (detaching (more_than 0 1 (Minus F 5) (Plain 10)) (e_at 0 ++ f_at 2)) (occurs_at 10)
    ∷ case (detaching (more_than 0 1 (Plain 0) (Minus F 5)) (e_at 0 ++ f_at 2)) (fails_at 2)
    -- an empty window; the lower bound's value does not delay it
    ∷ case (detaching (more_than 0 1 (Plain 20) (Plain 10)) (e_at 5)) (fails_at 10)
    ∷ case (detaching (more_than 0 1 (Plain 5) (Plain 5)) (e_at 5)) (fails_at 5)
    -- records of another subject do not count; the subject counts itself
    ∷ case (detaching (more_than 0 1 (Plain 0) (Plain 10)) (event 1 5 (8 ∷ 5 ∷ []))) (fails_at 10)
    ∷ case (reported (norm Authorization always (more_than 0 0 (Plain 0) (Plain 9)) nothing) (s_at 3)) (rows (row Created 3 ∷ row Detached 9 ∷ []))
    -- A6: a time past the last minute is none, at a larger moment too; the bound's own value is neither cut nor wrapped
    ∷ case (reported_at 8589934592 (at_the_end (more_than 0 2 (Plain 0) (Plus (violated 0) 1))) (s_at 2147483647 ++ f_at 2147483647)) (end_rows [])
    ∷ case (reported_at 8589934592 (at_the_end (more_than 0 2 (Plain 0) (Plus (violated 0) 2))) (s_at 2147483647)) (end_rows [])
    ∷ case (reported (at_the_end (more_than 0 2 (Plain 0) (Plus (violated 0) 0))) (s_at 2147483647 ++ f_at 2147483647)) (end_rows (row_on 1 7 Detached 4294967294 ∷ []))
    -- under a connective
    ∷ case (detaching (except E10 (more_than 0 2 (Plain 0) (Plain 20))) (e_at 5)) (occurs_at 20)
    ∷ case (detaching (except E10 (more_than 0 2 (Plain 0) (Plain 20))) (e_at 5 ++ f_at 8)) (fails_at 20)
    -- under a cited stage, and between two
    ∷ case
    (reported (norm Authorization always (more_than 1 1 (Plain 0) (Plain 10)) nothing ++ norm Authorization always (leaf (detached 0) (Plain 0) (Plain 20)) nothing) (s_at 0 ++ e_at 1 ++ e_at 2))
    (rows (row Created 0 ∷ row Detached 10 ∷ row_on 1 7 Created 0 ∷ row_on 1 7 Detached 10 ∷ []))
    ∷ case
    (reported (norm Authorization always E10 nothing ++ norm Authorization always (more_than 0 1 (Plus (detached 0) 1) (Plus (detached 0) 9)) nothing) (s_at 0 ++ e_at 5 ++ e_at 6))
    (rows (row Created 0 ∷ row Detached 5 ∷ row_on 1 7 Created 0 ∷ row_on 1 7 Detached 14 ∷ []))
    ∷ []

-- and, or, except: occurrence and failure
abbrev connective_cases : List (Case Shown)
connective_cases =
    case (detaching (and E10 F20) (e_at 5 ++ f_at 8)) (occurs_at 8)
    ∷ case (detaching (and E10 F20) (e_at 5)) (fails_at 20)
    ∷ case (detaching (and E10 F20) (f_at 8)) (fails_at 10)
    ∷ case (detaching (and E10 F20) []) (fails_at 10)
    ∷ case (detaching (or E10 F20) (e_at 5 ++ f_at 8)) (occurs_at 5)
    ∷ case (detaching (or E10 F20) (e_at 5)) (occurs_at 5)
    ∷ case (detaching (or E10 F20) (f_at 12)) (occurs_at 12)
    ∷ case (detaching (or E10 F20) []) (fails_at 20)
    ∷ case (detaching (except E10 F20) (e_at 5)) (occurs_at 20)
    ∷ case (detaching (except E10 F20) (e_at 5 ++ f_at 8)) (fails_at 8)
    ∷ case (detaching (except E10 F20) (f_at 8)) (fails_at 8)
    ∷ case (detaching (except E10 F20) (f_at 12)) (fails_at 10)
    ∷ case (detaching (except E10 F20) []) (fails_at 10)
    ∷ case (detaching (except F20 E10) (f_at 2)) (occurs_at 10)
    ∷ case (detaching always []) (occurs_at 0)
    ∷ case (detaching nothing []) (fails_at 0)
    ∷ case (detaching waiting []) does_neither
    ∷ []

-- the types of norm, each with every stage: always; E before 10; F before 20
abbrev typed : NormType → Log → Shown
typed type log = reported (norm type always E10 F20) (s_at 0 ++ log)

abbrev type_cases : List (Case Shown)
type_cases =
    -- detached, then the consequent
    case (typed Commitment (e_at 5 ++ f_at 8)) (rows (row Created 0 ∷ row Detached 5 ∷ row Discharged 8 ∷ []))
    ∷ case (typed Authorization (e_at 5 ++ f_at 8)) (rows (row Created 0 ∷ row Detached 5 ∷ row Discharged 8 ∷ []))
    ∷ case (typed Prohibition (e_at 5 ++ f_at 8)) (rows (row Created 0 ∷ row Detached 5 ∷ row Violated 8 ∷ []))
    ∷ case (typed Power (e_at 5 ++ f_at 8)) (rows (row Created 0 ∷ row Detached 5 ∷ row Discharged 8 ∷ []))
    -- the consequent first: a commitment needs no detachment to be discharged
    ∷ case (typed Commitment (f_at 3 ++ e_at 5)) (rows (row Created 0 ∷ row Detached 5 ∷ row Discharged 3 ∷ []))
    ∷ case (typed Authorization (f_at 3 ++ e_at 5)) (rows (row Created 0 ∷ row Detached 5 ∷ row Discharged 5 ∷ []))
    ∷ case (typed Prohibition (f_at 3 ++ e_at 5)) (rows (row Created 0 ∷ row Detached 5 ∷ row Violated 5 ∷ []))
    ∷ case (typed Power (f_at 3 ++ e_at 5)) (rows (row Created 0 ∷ row Detached 5 ∷ row Discharged 5 ∷ []))
    -- detached, and the consequent fails: authorization and power are never violated
    ∷ case (typed Commitment (e_at 5)) (rows (row Created 0 ∷ row Detached 5 ∷ row Violated 20 ∷ []))
    ∷ case (typed Authorization (e_at 5)) (rows (row Created 0 ∷ row Detached 5 ∷ []))
    ∷ case (typed Prohibition (e_at 5)) (rows (row Created 0 ∷ row Detached 5 ∷ row Discharged 20 ∷ []))
    ∷ case (typed Power (e_at 5)) (rows (row Created 0 ∷ row Detached 5 ∷ []))
    -- never detached
    ∷ case (typed Commitment (f_at 8)) (rows (row Created 0 ∷ row Expired 10 ∷ row Discharged 8 ∷ []))
    ∷ case (typed Authorization (f_at 8)) (rows (row Created 0 ∷ row Expired 10 ∷ []))
    ∷ case (typed Prohibition (f_at 8)) (rows (row Created 0 ∷ row Expired 10 ∷ []))
    ∷ case (typed Power (f_at 8)) (rows (row Created 0 ∷ row Expired 10 ∷ []))
    -- never detached, and the consequent fails: nobody violates
    ∷ case (typed Commitment []) (rows (row Created 0 ∷ row Expired 10 ∷ []))
    ∷ case (typed Prohibition []) (rows (row Created 0 ∷ row Expired 10 ∷ []))
    -- never created: nothing, but for A10
    ∷ case (reported (norm Commitment nothing always nothing) (s_at 4)) (rows [])
    ∷ case (reported (norm Authorization nothing always always) (s_at 4)) (rows [])
    ∷ case (reported (norm Prohibition nothing always always) (s_at 4)) (rows [])
    ∷ case (reported (norm Prohibition nothing always nothing) (s_at 4)) (rows [])
    ∷ case (reported (norm Power nothing nothing always) (s_at 4)) (rows [])
    -- created late: detached and expired wait for it
    ∷ case (reported (norm Authorization F20 E10 nothing) (s_at 0 ++ e_at 5 ++ f_at 8)) (rows (row Created 8 ∷ row Detached 8 ∷ []))
    ∷ case (reported (norm Authorization F20 E10 nothing) (s_at 0 ++ f_at 12)) (rows (row Created 12 ∷ row Expired 12 ∷ []))
    ∷ case (reported (norm Authorization F20 E10 nothing) (s_at 0 ++ e_at 5)) (rows [])
    ∷ []

-- an authorization with E before 10 as schema 0, and schema 1, whose detach clause cites it
abbrev citing : Expr Atom → Log → Shown
citing clause log = reported (norm Authorization always E10 nothing ++ norm Authorization always clause nothing) (s_at 0 ++ log)

-- R is kind 2; P, kind 0, has many of Q, kind 1, which share attribute 1 with it. Schema 0 is on Q, schema 1 on P with that detach clause
abbrev many_of : Expr Atom → Log → Shown
many_of clause log =
    reported_under
    (kind 0b10 1 ∷ kind 0b11 0 ∷ kind 0b11 0 ∷ [])
    (schema Authorization 1 0 0 always waiting nothing ++ schema Authorization 0 1 1 always clause nothing)
    last_moment
    log

-- P at 0; one Q of another P at 1; two of its own at 2 and 4; and its R at 3
abbrev many_log : Log
many_log = event 0 0 (7 ∷ []) ++ event 1 1 (1 ∷ 8 ∷ []) ++ event 1 2 (2 ∷ 7 ∷ []) ++ event 2 3 (9 ∷ 7 ∷ []) ++ event 1 4 (3 ∷ 7 ∷ [])

abbrev stage_cases : List (Case Shown)
stage_cases =
    -- a cited stage as a leaf's event
    case (citing (leaf (detached 0) (Plain 0) Open) (e_at 5)) (rows (row Created 0 ∷ row Detached 5 ∷ row_on 1 7 Created 0 ∷ row_on 1 7 Detached 5 ∷ []))
    ∷ case (citing (leaf (expired 0) (Plain 0) (Plain 11)) []) (rows (row Created 0 ∷ row Expired 10 ∷ row_on 1 7 Created 0 ∷ row_on 1 7 Detached 10 ∷ []))
    ∷ case (citing (leaf (expired 0) (Plain 0) (Plain 10)) []) (rows (row Created 0 ∷ row Expired 10 ∷ row_on 1 7 Created 0 ∷ row_on 1 7 Expired 10 ∷ []))
    -- in a bound, with both signs
    ∷ case (citing (leaf F (Plus (detached 0) 2) Open) (e_at 5 ++ f_at 6)) (rows (row Created 0 ∷ row Detached 5 ∷ row_on 1 7 Created 0 ∷ []))
    ∷ case (citing (leaf F (Plus (detached 0) 2) Open) (e_at 5 ++ f_at 7)) (rows (row Created 0 ∷ row Detached 5 ∷ row_on 1 7 Created 0 ∷ row_on 1 7 Detached 7 ∷ []))
    ∷ case (citing (leaf F (Minus (detached 0) 2) Open) (f_at 3 ++ e_at 5)) (rows (row Created 0 ∷ row Detached 5 ∷ row_on 1 7 Created 0 ∷ row_on 1 7 Detached 5 ∷ []))
    ∷ case (citing (leaf F (Plain 0) (Plus (expired 0) 0)) (f_at 4)) (rows (row Created 0 ∷ row Expired 10 ∷ row_on 1 7 Created 0 ∷ row_on 1 7 Detached 10 ∷ []))
    -- discharged, which ranks with the last clause
    ∷ case
    (reported (norm Authorization always always always ++ norm Authorization always (leaf (discharged 0) (Plain 0) Open) nothing) (s_at 4))
    (rows (row Created 4 ∷ row Detached 4 ∷ row Discharged 4 ∷ row_on 1 7 Created 4 ∷ row_on 1 7 Detached 4 ∷ []))
    -- an authorization's violated may be cited; it never happens
    ∷ case (citing (leaf F (Plain 0) (Plus (violated 0) 0)) (f_at 4)) (rows (row Created 0 ∷ row Expired 10 ∷ row_on 1 7 Created 0 ∷ []))
    -- a schema cites its own earlier stages
    ∷ case
    (reported (norm Commitment always E10 (leaf F (Plus (detached 0) 0) (Plus (detached 0) 5))) (s_at 0 ++ e_at 5 ++ f_at 9))
    (rows (row Created 0 ∷ row Detached 5 ∷ row Discharged 9 ∷ []))
    ∷ case
    (reported (norm Commitment always E10 (leaf F (Plus (detached 0) 0) (Plus (detached 0) 5))) (s_at 0 ++ e_at 5 ++ f_at 10))
    (rows (row Created 0 ∷ row Detached 5 ∷ row Violated 10 ∷ []))
    ∷ case (reported (norm Authorization always (leaf E (Plus (created 0) 3) Open) nothing) (s_at 4 ++ e_at 6)) (rows (row Created 4 ∷ []))
    ∷ case (reported (norm Authorization always (leaf E (Plus (created 0) 3) Open) nothing) (s_at 4 ++ e_at 7)) (rows (row Created 4 ∷ row Detached 7 ∷ []))
    -- a stage happens for each correlated subject of its schema: all of them count in a leaf, the earliest in a bound
    ∷ case
    (many_of (leaf (created 0) (Plain 3) Open) many_log)
    (rows (row_on 0 1 Created 1 ∷ row_on 0 2 Created 2 ∷ row_on 0 3 Created 4 ∷ row_on 1 7 Created 0 ∷ row_on 1 7 Detached 4 ∷ []))
    ∷ case
    (many_of (leaf F (Plus (created 0) 0) (Plus (created 0) 2)) many_log)
    (rows (row_on 0 1 Created 1 ∷ row_on 0 2 Created 2 ∷ row_on 0 3 Created 4 ∷ row_on 1 7 Created 0 ∷ row_on 1 7 Detached 3 ∷ []))
    ∷ []

-- rows: what stands in them, and their order
abbrev row_cases : List (Case Shown)
row_cases =
    -- key and parties are read from their own attributes, by place among those that the mask has: 2, 8 and 15 here
    case
    (reported_under (kind 0x8104 15 ∷ []) (schema Authorization 0 8 2 always always nothing) last_moment (event 0 4 (1 ∷ 2 ∷ 3 ∷ [])))
    (rows
    (record { stage = Created; schema = 0; key = 3; privileged = 2; liable = 1; time = 4 }
    ∷ record { stage = Detached; schema = 0; key = 3; privileged = 2; liable = 1; time = 4 }
    ∷ []))
    -- schema by schema, in each the subjects in log order, for each the stages 1 to 5
    ∷ case
    (reported (norm Authorization always always nothing ++ norm Authorization always nothing nothing) (event 0 1 (9 ∷ []) ++ e_at 1 ++ event 0 2 (7 ∷ [])))
    (rows
    (row_on 0 9 Created 1 ∷ row_on 0 9 Detached 1 ∷ row_on 0 7 Created 2 ∷ row_on 0 7 Detached 2
    ∷ row_on 1 9 Created 1 ∷ row_on 1 9 Expired 1 ∷ row_on 1 7 Created 2 ∷ row_on 1 7 Expired 2
    ∷ []))
    -- a subject is a record of its schema's subject kind alone
    ∷ case
    (reported (schema Authorization 1 0 1 always always nothing) (s_at 0 ++ e_at 3))
    (rows
    (record { stage = Created; schema = 0; key = 3; privileged = 7; liable = 3; time = 3 }
    ∷ record { stage = Detached; schema = 0; key = 3; privileged = 7; liable = 3; time = 3 }
    ∷ []))
    -- A13: a moment takes rows away, not records: a later record may stand in the log
    ∷ case (reported_at 10 (norm Authorization always E10 nothing) (s_at 0 ++ f_at 30)) (rows (row Created 0 ∷ []))
    ∷ case (reported_at 11 (norm Authorization always E10 nothing) (s_at 0 ++ f_at 30)) (rows (row Created 0 ∷ row Expired 10 ∷ []))
    ∷ case (reported_at 0 (norm Authorization always E10 nothing) (s_at 0 ++ f_at 30)) (rows [])
    ∷ []

-- an authorization that E detaches, whenever it happens
abbrev any_E : List Schema
any_E = norm Authorization always (leaf E (Plain 0) Open) nothing

-- records stand in order of arrival, with stamps in any order (document 02, wish 3)
abbrev arrival_cases : List (Case Shown)
arrival_cases =
    -- the earliest is the smallest stamp, wherever it stands: of a leaf, in its window, of a bound, of a count's bound
    case (detaching (leaf E (Plain 0) Open) (e_at 9 ++ e_at 4)) (occurs_at 4)
    ∷ case (detaching (leaf E (Plain 0) Open) (e_at 4 ++ e_at 9)) (occurs_at 4)
    ∷ case (detaching (leaf E (Plain 5) (Plain 20)) (e_at 9 ++ e_at 4 ++ e_at 7 ++ e_at 8)) (occurs_at 7)
    ∷ case (detaching (leaf E (Plus F 2) (Plus F 3)) (f_at 9 ++ f_at 4 ++ e_at 6)) (occurs_at 6)
    ∷ case (detaching (leaf E (Plus F 2) (Plus F 3)) (f_at 9 ++ f_at 4 ++ e_at 11)) (fails_at 7)
    ∷ case (detaching (more_than 1 1 (Plus F 0) (Plus F 3)) (f_at 9 ++ e_at 6 ++ f_at 4 ++ e_at 5)) (occurs_at 7)
    -- the subject may arrive last, after the subjects of a schema that it cites; of these the earliest counts
    ∷ case (reported any_E (e_at 5 ++ s_at 0)) (rows (row Created 0 ∷ row Detached 5 ∷ []))
    ∷ case
    (many_of
    (leaf F (Plus (created 0) 0) (Plus (created 0) 2))
    (event 2 3 (9 ∷ 7 ∷ []) ++ event 1 4 (3 ∷ 7 ∷ []) ++ event 1 2 (2 ∷ 7 ∷ []) ++ event 0 0 (7 ∷ [])))
    (rows (row_on 0 3 Created 4 ∷ row_on 0 2 Created 2 ∷ row_on 1 7 Created 0 ∷ row_on 1 7 Detached 3 ∷ []))
    -- rows go by place in the log, not by time
    ∷ case (reported any_E (event 0 40 (6 ∷ []) ++ event 0 10 (5 ∷ []))) (rows (row_on 0 6 Created 40 ∷ row_on 0 5 Created 10 ∷ []))
    -- a report at 10, and the one after an upload stamped before it: the case that demand 3 leaves out; one stamped 10 changes nothing at 10
    ∷ case (reported_at 10 any_E (s_at 0)) (rows (row Created 0 ∷ []))
    ∷ case (reported_at 10 any_E (s_at 0 ++ e_at 5)) (rows (row Created 0 ∷ row Detached 5 ∷ []))
    ∷ case (reported_at 10 any_E (s_at 0 ++ e_at 10)) (rows (row Created 0 ∷ []))
    -- nor does one stamped 10 that arrives before an earlier one
    ∷ case (reported_at 10 any_E (e_at 10 ++ s_at 0)) (rows (row Created 0 ∷ []))
    ∷ []

-- O from a minute on, without an end
abbrev O_from : ℕ → Expr Atom
O_from n = leaf O (Plain n) Open

-- events that come once: before the window they fail a leaf at once (document 02, wish 4)
abbrev once_cases : List (Case Shown)
once_cases =
    -- before the lower bound: at the happening, not at the bound; at the bound is not early
    case (detaching (O_from 10) (o_at 3)) (fails_at 3)
    ∷ case (detaching (O_from 3) (o_at 3)) (occurs_at 3)
    ∷ case (detaching (O_from 3) (o_at 2)) (fails_at 2)
    ∷ case (detaching (O_from 10) []) does_neither
    -- nothing is before minute 0
    ∷ case (detaching (O_from 0) (o_at 0)) (occurs_at 0)
    -- nor before an open lower bound: the leaf that stands for one that cannot be read has it
    ∷ case (detaching (leaf O Open Open) (o_at 3)) does_neither
    -- the earlier of the two failures
    ∷ case (detaching (leaf O (Plain 10) (Plain 20)) (o_at 3)) (fails_at 3)
    ∷ case (detaching (leaf O (Plain 10) (Plain 20)) (o_at 20)) (fails_at 20)
    ∷ case (detaching (leaf O (Plain 10) (Plain 2)) (o_at 3)) (fails_at 2)
    ∷ case (detaching (leaf O (Plain 10) (Plain 5)) (o_at 3)) (fails_at 3)
    -- the lower bound has to be known, and its known-time counts
    ∷ case (detaching (leaf O (Plus F 5) Open) (o_at 3 ++ f_at 8)) (fails_at 8)
    ∷ case (detaching (leaf O (Plus F 5) Open) (f_at 8 ++ o_at 3)) (fails_at 8)
    ∷ case (detaching (leaf O (Plus F 5) Open) (o_at 3)) does_neither
    ∷ case (detaching (leaf O (Plus F 5) Open) (f_at 8 ++ o_at 11)) (fails_at 11)
    ∷ case (detaching (leaf O (Minus F 3) Open) (o_at 3 ++ f_at 8)) (fails_at 8)
    ∷ case (detaching (leaf O (Minus F 3) Open) (o_at 5 ++ f_at 8)) (occurs_at 8)
    -- below zero is zero
    ∷ case (detaching (leaf O (Minus F 9) Open) (o_at 3 ++ f_at 5)) (occurs_at 5)
    -- known late, with a closed upper bound: the earlier failure is the early one, then the one at the upper bound
    ∷ case (detaching (leaf O (Plus F 5) (Plain 20)) (o_at 3 ++ f_at 8)) (fails_at 8)
    ∷ case (detaching (leaf O (Plus F 5) (Plain 6)) (o_at 7 ++ f_at 8)) (fails_at 6)
    -- an upper bound that is not known, or known late, does not delay it
    ∷ case (detaching (leaf O (Plain 10) (Plus F 5)) (o_at 3)) (fails_at 3)
    ∷ case (detaching (leaf O (Plain 10) (Plus F 5)) (o_at 3 ++ f_at 30)) (fails_at 3)
    -- what recurs does not fail early; the events of bounds are not judged
    ∷ case (detaching (leaf E (Plain 10) Open) (e_at 3)) does_neither
    ∷ case (detaching (leaf E (Plus O 5) Open) (o_at 3 ++ e_at 4)) does_neither
    ∷ case (detaching (leaf E (Plain 10) (Plus O 5)) (o_at 3 ++ e_at 4)) (fails_at 8)
    -- no stage lies before its subject
    ∷ case (reported (norm Authorization always (O_from 10) nothing) (o_at 3 ++ s_at 6)) (rows (row Created 6 ∷ row Expired 6 ∷ []))
    -- the O of another S is nobody's
    ∷ case (detaching (O_from 10) (event 3 3 (8 ∷ []))) does_neither
    ∷ case (detaching (O_from 10) (event 3 3 (8 ∷ []) ++ o_at 12)) (occurs_at 12)
    -- the subject's own kind comes once too
    ∷ case
    (reported (norm Authorization always (leaf S (Plus S 5) Open) nothing) (s_at 4))
    (rows (row Created 4 ∷ row Expired 4 ∷ []))
    -- except: an early failure lets it occur
    ∷ case (detaching (except always (O_from 10)) (o_at 3)) (occurs_at 3)
    ∷ case (detaching (except always (O_from 10)) (o_at 12)) (fails_at 12)
    -- a count fails when its window has ended, and not without an end
    ∷ case (detaching (more_than 0 3 (Plain 10) (Plain 20)) (o_at 3)) (fails_at 20)
    ∷ case (detaching (more_than 0 3 (Plain 10) (Plus F 5)) (o_at 3)) does_neither
    ∷ []

-- authorizations: schema 0 on a kind, with that create clause, and not detached before 100; schema 1 on S, whose detach clause cites it
abbrev cited_on : ℕ → Expr Atom → Expr Atom → List Schema
cited_on kind create clause = schema Authorization kind 0 0 create (leaf F (Plain 100) Open) nothing ++ norm Authorization always clause nothing

-- schema 0 is created for an E, at its stamp, which is its key
abbrev created_for_e : ℕ → Row
created_for_e t = record { stage = Created; schema = 0; key = t; privileged = 7; liable = 7; time = t }

-- created of schema 0, from 10 on
abbrev created_from_10 : Expr Atom
created_from_10 = leaf (created 0) (Plain 10) Open

-- S carries attribute 0, its key, and 1. P, kind 1, carries 1 alone, its key. Q, kind 2, and R, kind 3, carry 0, 1 and 2; the key is 2 for Q, 1 for R.
-- The detach clause is the event from 10 on. S at 0 with 7 and 8
abbrev lent_key : Event → Log → Shown
lent_key e log =
    reported_under
    (kind 0b11 0 ∷ kind 0b10 1 ∷ kind 0b111 2 ∷ kind 0b111 1 ∷ [])
    (norm Authorization always (leaf e (Plain 10) Open) nothing)
    last_moment
    (event 0 0 (7 ∷ 8 ∷ []) ++ log)

-- which key tells that an event comes once, and which kind a stage is judged by (document 02, wish 4)
abbrev once_kind_cases : List (Case Shown)
once_kind_cases =
    -- the key of the event's kind, where the subject carries it; it need not be the subject's own key
    case (lent_key (Kind 1) (event 1 3 (8 ∷ []))) (fails_at 3)
    ∷ case (lent_key (Kind 3) (event 3 3 (7 ∷ 8 ∷ 5 ∷ []))) (fails_at 3)
    -- sharing attributes with the subject is not enough
    ∷ case (lent_key (Kind 2) (event 2 3 (7 ∷ 8 ∷ 5 ∷ []))) does_neither
    -- it still has to correlate
    ∷ case (lent_key (Kind 1) (event 1 3 (9 ∷ []))) does_neither
    ∷ case (lent_key (Kind 3) (event 3 3 (9 ∷ 8 ∷ 5 ∷ []))) does_neither
    -- a stage is judged by its schema's subject kind: S, O, and E, which recurs
    ∷ case
    (reported (cited_on 0 waiting created_from_10) (s_at 0 ++ f_at 3))
    (rows (row Created 3 ∷ row_on 1 7 Created 0 ∷ row_on 1 7 Expired 3 ∷ []))
    ∷ case
    (reported (cited_on 0 waiting created_from_10) (s_at 0 ++ f_at 12))
    (rows (row Created 12 ∷ row_on 1 7 Created 0 ∷ row_on 1 7 Detached 12 ∷ []))
    ∷ case
    (reported (cited_on 3 always created_from_10) (s_at 0 ++ o_at 3))
    (rows (row Created 3 ∷ row_on 1 7 Created 0 ∷ row_on 1 7 Expired 3 ∷ []))
    ∷ case (reported (cited_on 1 always created_from_10) (s_at 0 ++ e_at 3)) (rows (created_for_e 3 ∷ row_on 1 7 Created 0 ∷ []))
    ∷ case
    (reported (cited_on 1 always created_from_10) (s_at 0 ++ e_at 3 ++ e_at 12))
    (rows (created_for_e 3 ∷ created_for_e 12 ∷ row_on 1 7 Created 0 ∷ row_on 1 7 Detached 12 ∷ []))
    -- A6: a lower bound past the last minute still has a happening before it
    ∷ case (reported (at_the_end (leaf (violated 0) (Plus (violated 0) 1) Open)) (s_at 2147483647)) (end_rows (row_on 1 7 Expired 4294967294 ∷ []))
    ∷ []

-- terms of one norm on S without leaves, for what is asked of records alone
abbrev good : Terms
good = record { kinds = kinds; schemas = norm Authorization always always always }

-- what refusal 9 asks of a log's records
abbrev repeats : Log → Shown
repeats log = holds (key_repeats good log)

-- what refusal 16 looks for: the subject of schema 0 with a key, stamped before a moment
abbrev found : ℕ → ℕ → Log → Shown
found key m log = found_is (subject_of good log 0 key m)

abbrev record_cases : List (Case Shown)
record_cases =
    -- 9: one kind and one key; the key alone decides, and only within a kind
    case (repeats (s_at 1 ++ event 0 2 (8 ∷ []))) (holds false)
    ∷ case (repeats (s_at 1 ++ s_at 2)) (holds true)
    ∷ case (repeats (s_at 1 ++ e_at 2 ++ s_at 3)) (holds true)
    ∷ case (repeats (event 1 1 (7 ∷ 5 ∷ []) ++ event 2 1 (7 ∷ 5 ∷ []))) (holds false)
    ∷ case (repeats (event 1 1 (7 ∷ 5 ∷ []) ++ event 1 1 (8 ∷ 5 ∷ []))) (holds true)
    ∷ case (repeats (event 1 1 (7 ∷ 5 ∷ []) ++ event 1 1 (7 ∷ 6 ∷ []))) (holds false)
    -- 9 and 16, whatever the stamps are
    ∷ case (repeats (event 1 20 (7 ∷ 5 ∷ []) ++ event 1 10 (8 ∷ 5 ∷ []))) (holds true)
    ∷ case (repeats (event 1 20 (7 ∷ 5 ∷ []) ++ event 1 10 (8 ∷ 6 ∷ []))) (holds false)
    ∷ case (found 7 5 (event 0 9 (8 ∷ []) ++ s_at 4)) (found_is (some (record { kind = 0; stamp = 4; values = 7 ∷ [] })))
    ∷ case (found 8 5 (event 0 9 (8 ∷ []) ++ s_at 4)) (found_is none)
    -- 16: a subject of the schema, with the key, stamped before the moment
    ∷ case (found 7 5 (event 0 4 (8 ∷ []) ++ s_at 4)) (found_is (some (record { kind = 0; stamp = 4; values = 7 ∷ [] })))
    ∷ case (found 7 4 (event 0 4 (8 ∷ []) ++ s_at 4)) (found_is none)
    ∷ case (found 9 5 (event 0 4 (8 ∷ []) ++ s_at 4)) (found_is none)
    ∷ case (found 5 9 (s_at 4 ++ e_at 5)) (found_is none)
    ∷ []

leaf_hold : Hold leaf_cases
unfolding computes
leaf_hold = refl

count_hold : Hold count_cases
unfolding computes
count_hold = refl

connective_hold : Hold connective_cases
unfolding computes
connective_hold = refl

type_hold : Hold type_cases
unfolding computes
type_hold = refl

stage_hold : Hold stage_cases
unfolding computes
stage_hold = refl

row_hold : Hold row_cases
unfolding computes
row_hold = refl

arrival_hold : Hold arrival_cases
unfolding computes
arrival_hold = refl

once_hold : Hold once_cases
unfolding computes
once_hold = refl

once_kind_hold : Hold once_kind_cases
unfolding computes
once_kind_hold = refl

record_hold : Hold record_cases
unfolding computes
record_hold = refl

-- the parts of the second list that are about terms and records
abbrev pub parts : List (List (Case Shown))
parts = leaf_cases ∷ count_cases ∷ connective_cases ∷ type_cases ∷ stage_cases ∷ row_cases ∷ arrival_cases ∷ once_cases ∷ once_kind_cases ∷ record_cases ∷ []

-- each gives what the document's words say; the parts are computed one by one, which is quicker than all at once
pub readings : Hold (flatten parts)
readings = hold-all parts (leaf_hold, (count_hold, (connective_hold, (type_hold, (stage_hold, (row_hold, (arrival_hold, (once_hold, (once_kind_hold, (record_hold, tt))))))))))
