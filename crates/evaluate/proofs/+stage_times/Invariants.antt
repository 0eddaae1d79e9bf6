-- What falls at each call of the cycle: the rank of the clause first, then the items left, then the order in which the functions call each other.
-- What the loop of `first_within` keeps. Assumes nothing.
use Prim.Native.Nat.{◌+◌, ◌*◌}
use Rattle.meaning.specs.Terms.{rank, kind_of}
use Rattle.format.specs.Fields.{terms_of}
use Rattle.index.specs.Walk.{marked_left}
use Rattle.marks.proofs.Scans.{OfKind}
use Rattle.evaluate.proofs.Scan.{Scanned}
use Rattle.evaluate.proofs.Weights.{weight}
use Rattle.evaluate.proofs.+stage_times.Given as goal

abbrev pub decreases-clause_times : goal.decreases-clause_times
decreases-clause_times l = weight l.needed l.clause.now.rank

abbrev pub decreases-count_times : goal.decreases-count_times
decreases-count_times l = l.clause.now.rank * 512 + 8

abbrev pub decreases-early_failure : goal.decreases-early_failure
decreases-early_failure l = l.clause.now.rank * 512 + 8

abbrev pub decreases-failure : goal.decreases-failure
decreases-failure l = l.clause.now.rank * 512 + l.spot.items * 8 + 10

abbrev pub decreases-failure_at_end : goal.decreases-failure_at_end
decreases-failure_at_end l = l.clause.now.rank * 512 + 8

abbrev pub decreases-first : goal.decreases-first
decreases-first l = l.clause.now.rank * 512 + 4

abbrev pub decreases-first_of : goal.decreases-first_of
decreases-first_of l = l.clause.now.rank * 512 + 4

abbrev pub decreases-first_within : goal.decreases-first_within
decreases-first_within l = l.clause.now.rank * 512 + 3

abbrev pub decreases-happening : goal.decreases-happening
decreases-happening l = l.clause.now.rank * 512 + 2

abbrev pub decreases-known_bound : goal.decreases-known_bound
decreases-known_bound l = l.clause.now.rank * 512 + 5

abbrev pub decreases-known_by : goal.decreases-known_by
decreases-known_by l = l.clause.now.rank * 512 + 6

abbrev pub decreases-leaf_failure : goal.decreases-leaf_failure
decreases-leaf_failure l = l.clause.now.rank * 512 + 9

abbrev pub decreases-leaf_occurrence : goal.decreases-leaf_occurrence
decreases-leaf_occurrence l = l.clause.now.rank * 512 + 8

abbrev pub decreases-lower_at_hand : goal.decreases-lower_at_hand
decreases-lower_at_hand l = l.clause.now.rank * 512 + 7

abbrev pub decreases-lower_of : goal.decreases-lower_of
decreases-lower_of l = l.clause.now.rank * 512 + 7

abbrev pub decreases-occurrence : goal.decreases-occurrence
decreases-occurrence l = l.clause.now.rank * 512 + l.spot.items * 8 + 10

abbrev pub decreases-only_happening : goal.decreases-only_happening
decreases-only_happening l = l.clause.now.rank * 512 + 5

abbrev pub decreases-stage_time : goal.decreases-stage_time
decreases-stage_time l = rank l.stage l.schema * 512 + 511

abbrev pub invariant-first_within-loop-at : goal.invariant-first_within-loop-at
invariant-first_within-loop-at l =
    let subject = l.clause.subject in
    let call = subject.call.now in
    let left = marked_left l.at-iterator in
    OfKind call.terms.now call.bytes.now (kind_of (terms_of call.terms.now) l.event) left
    × Scanned call.terms.now call.bytes.now l.clause.rank subject.at l.window.lower l.window.upper l.event l.first left
