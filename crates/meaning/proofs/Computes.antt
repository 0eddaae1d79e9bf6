-- One name that opens every definition of this layer: what is closed by computation says `unfolding computes`. Assumes nothing.
use mathlib.Core.List.{flat_map, flatten}
use Rattle.meaning.specs.Lists.{numbers_from, is_empty, any_of}
use Rattle.meaning.specs.Time.{later_of, earlier_of, before, from, once_known, if_never, only_if, last_minute, cut}
use Rattle.meaning.specs.Stages.{stages}
use Rattle.meaning.specs.Terms.{kind_at, schema_at, kind_of, rank, leaves, bound_events, leaf_events}
use Rattle.meaning.specs.Log.{carries, place, attributes, carried, value_of, key_of, agree, both_carry, agree_below, correlate, has_key, same_key, key_repeats}
use Rattle.meaning.specs.Meaning.{cited, earliest, one, tally, from_edge, before_edge, reached, edge_of, time_by, happening, comes_once, and_of, or_of, except_of, first, first_within, known, leaf_occurrence, failure_at, failure_at_end, first_before, early_failure, leaf_failure, count_within, count_time, times_of, stage_from, stage_step, times_within, stage_time}
use Rattle.meaning.specs.Rows.{row_of, row_at, is_subject, subject_rows, timed_rows, strike, report_rows, find, is_sought, subject_of, not_yet, entries_of}

-- opens all definitions of specs/, and those of the library that they use
unfoldable pub computes : Unit {0}
unfolding flat_map flatten numbers_from is_empty any_of later_of earlier_of before from once_known if_never only_if last_minute cut stages kind_at schema_at kind_of rank leaves bound_events leaf_events carries place attributes carried value_of key_of agree both_carry agree_below correlate has_key same_key key_repeats cited earliest one tally from_edge before_edge reached edge_of time_by happening comes_once and_of or_of except_of first first_within known leaf_occurrence failure_at failure_at_end first_before early_failure leaf_failure count_within count_time times_of stage_from stage_step times_within stage_time row_of row_at is_subject subject_rows timed_rows strike report_rows find is_sought subject_of not_yet entries_of
computes = tt
