-- One name that opens every definition of this layer and of those below: what is closed by computation says `unfolding computes`. Assumes nothing.
use Rattle.calls.specs.Answers.{checked_answer, counted_answer, standing_answer, packed, unpacked}
use Rattle.calls.specs.Calls.{refusal, terms_limit, log_limit, terms_too_long, terms_checks, used_too_long, used_checks, record_checks, log_checks, key_present, no_room, event_checks, page_too_short, page_checks, no_schema, missing, standing_subject, key_checks, checked, check_terms, check_log, served, unless_refused, append, on_page, rows_of, report, entries_for, standing_as, standing}
use Rattle.calls.specs.Lasting.{used_after, held_after, after_append, after_appends, report_on, rows_given, rows_left, bytes_before}
use Rattle.format.proofs.Computes as below

-- opens all definitions of specs/, those of the layers below, and those of the library that they use
unfoldable pub computes : Unit {0}
unfolding below.computes checked_answer counted_answer standing_answer packed unpacked refusal terms_limit log_limit terms_too_long terms_checks used_too_long used_checks record_checks log_checks key_present no_room event_checks page_too_short page_checks no_schema missing standing_subject key_checks checked check_terms check_log served unless_refused append on_page rows_of report entries_for standing_as standing used_after held_after after_append after_appends report_on rows_given rows_left bytes_before
computes = tt
