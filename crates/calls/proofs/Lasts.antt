-- Demand 3, over the calls: a given report lasts, and two logs alike before m give equal reports at m (specs/Lasting.antt).
--     appends-alike    no list of appends changes what is stamped before m
--     report-lasts     the first half
--     alike_same       the second half
--     lasting          both
-- For every width w of a value, and with no premise but the calls' own acceptance. Assumes nothing.
use Prim.Native.Nat.{ℕ, zero, suc, ◌≤◌}
use native.Mathlib.Omega.{arith}
use mathlib.Core.Path.{◌≡◌, refl, ap, sym, ◌∙◌}
use mathlib.Core.List.{List, [], ◌∷◌, ◌++◌, map, flat_map, flatten, append-nil}
use lib.ListN.{length, take, length-map}
use borrow.Author.Tests.{le-ltb}
use Rattle.meaning.specs.declared.Row.{Row}
use Rattle.meaning.specs.Lists.{All}
use Rattle.meaning.specs.Time.{last_minute}
use Rattle.meaning.specs.Rows.{strike}
use Rattle.format.specs.Fields.{terms_of}
use Rattle.format.specs.Records.{stamp_in, read_log, records_in, row_bytes, time_in, log_of}
use Rattle.calls.specs.Calls.{rows_of, append, report}
use Rattle.calls.specs.Lasting.{Accepted, HeldLog, used_after, held_after, after_append, after_appends, NoneBefore, report_on, rows_given, rows_left, ReportLasts, bytes_before, AlikeReportSame, Lasting}
use Rattle.meaning.proofs.ListLaws.{all-imp, flatten-map}
use Rattle.meaning.proofs.StrikeLaws.{strike-append, strike-all, strike-map}
use Rattle.meaning.proofs.LastMinute.{RowFits}
use Rattle.meaning.proofs.RowsSame.{rows_same, rows-strike}
use Rattle.format.proofs.RecordLaws.{OneRecord}
use Rattle.format.proofs.LogLaws.{log-unbroken, log-records, log-append, records-equal, event-one, records-alike}
use Rattle.format.proofs.RowBytesLaws.{row-timed}
use Rattle.calls.proofs.RefusalLaws.{AppendAccepted, append-accepted}
use Rattle.calls.proofs.WriteLaws.{append-refused, ReportKeeps, report-keeps, append-keeps}
use Rattle.calls.proofs.AcceptedLaws.{report-times}
use Rattle.calls.proofs.PageLaws.{page-rows}

-- the bytes of each record of a held log
abbrev held-records : ℕ → List ℕ → HeldLog → List (List ℕ)
held-records w terms held = (read_log w (terms_of terms) (take held.used held.buffer)).0

module _ (w : ℕ) (terms : List ℕ) (held : HeldLog) (event : List ℕ) where
  -- a refused append leaves the log as it was held
  after-refused : (n : ℕ) → (append w terms held.buffer held.used event).answer.number ≡ suc n → after_append w terms held event ≡ held
  unfolding after_append held_after used_after
  after-refused n e = rw (e, (append-refused w terms held.buffer held.used event (λ z. absurd (omega arith))).same)

  -- an accepted append adds its event to the records
  records-after : Accepted (append w terms held.buffer held.used event)
      → held-records w terms (after_append w terms held event) ≡ held-records w terms held ++ (event ∷ [])
  unfolding after_append held_after used_after
  records-after ok =
      ap (λ (s : List ℕ). (read_log w (terms_of terms) s).0) (rw (ok, used_after) (append-keeps w terms held.buffer held.used event ok).used-bytes)
      ∙ ap (λ (x : List (List ℕ) × List ℕ). x.0)
      (log-append w (terms_of terms) (take held.used held.buffer) event (log-unbroken w (terms_of terms) _ none-holds.log-ok.whole) (event-one w (terms_of terms) event none-holds.one-record))
    where
      none-holds : AppendAccepted w terms held.buffer held.used event
      none-holds = (append-accepted w terms held.buffer held.used event).0 ok

  -- an append whose event, if accepted, is stamped m or later changes nothing that is stamped before m
  append-alike : (m : ℕ) → (Accepted (append w terms held.buffer held.used event) → m ≤ stamp_in event)
      → strike stamp_in m (held-records w terms (after_append w terms held event)) ≡ strike stamp_in m (held-records w terms held)
  unfolding strike
  append-alike m late = go (append w terms held.buffer held.used event).answer.number refl
    where
      go : (n : ℕ) → (append w terms held.buffer held.used event).answer.number ≡ n
          → strike stamp_in m (held-records w terms (after_append w terms held event)) ≡ strike stamp_in m (held-records w terms held)
      go zero e =
          ap (strike stamp_in m) (records-after e) ∙ strike-append stamp_in m (held-records w terms held) (event ∷ [])
          ∙ rw (le-ltb (stamp_in event) m (late e)) (append-nil (strike stamp_in m (held-records w terms held)))
      go (suc n) e = ap (λ (h : HeldLog). strike stamp_in m (held-records w terms h)) (after-refused n e)

-- no list of appends, accepted or refused, changes what is stamped before m
appends-alike : (w : ℕ) (terms : List ℕ) (m : ℕ) (held : HeldLog) (events : List (List ℕ)) → NoneBefore w terms m held events
    → strike stamp_in m (held-records w terms (after_appends w terms held events)) ≡ strike stamp_in m (held-records w terms held)
unfolding after_appends
appends-alike w terms m held [] late = refl
appends-alike w terms m held (event ∷ events) late = appends-alike w terms m (after_append w terms held event) events late.1 ∙ append-alike w terms held event m late.0

-- the time of a row is in its last four bytes
rows-timed : (w : ℕ) (terms log : List ℕ) (used m : ℕ) → All (λ x. time_in w (row_bytes w x) ≡ x.time) (rows_of w terms log used m)
unfolding last_minute
rows-timed w terms log used m =
    all-imp RowFits (λ x. time_in w (row_bytes w x) ≡ x.time) (λ x h. row-timed w x (omega arith)) (rows_of w terms log used m) (report-times w terms log used m)

-- striking an accepted report's bytes is striking its rows
rows_left_lem : (w : ℕ) (terms log : List ℕ) (used m : ℕ) (page : List ℕ) → Accepted (report w terms log used m page)
    → (k : ℕ) → rows_left w k (report w terms log used m page) ≡ map (row_bytes w) (strike (λ (x : Row). x.time) k (rows_of w terms log used m))
unfolding rows_left
rows_left_lem w terms log used m page ok k =
    rw (page-rows w terms log used m page ok)
    (strike-map (λ (x : Row). x.time) (time_in w) (row_bytes w) k (rows_of w terms log used m) (rows-timed w terms log used m))

-- two held logs with the same records before m have the same rows at m
same_rows : (w : ℕ) (terms : List ℕ) (m : ℕ) (held held' : HeldLog) → strike stamp_in m (held-records w terms held) ≡ strike stamp_in m (held-records w terms held')
    → rows_of w terms held.buffer held.used m ≡ rows_of w terms held'.buffer held'.used m
unfolding rows_of log_of records_in
same_rows w terms m held held' alike = rows_same m (terms_of terms) _ _ (records-alike w (terms_of terms) m (held-records w terms held) (held-records w terms held') alike)

-- the first half of demand 3
pub report-lasts : ReportLasts
unfolding report_on rows_of rows_given
report-lasts w terms held m page ok events late m' later page' ok' = record {
  same_bytes = ap flatten left ∙ flatten-map (row_bytes w) rows ∙ sym kept.rows-first;
  same_count = ap length left ∙ length-map rows (row_bytes w) ∙ sym kept.counted;
}
  where
    after : HeldLog
    after = after_appends w terms held events

    rows : List Row
    rows = rows_of w terms held.buffer held.used m

    kept : ReportKeeps w rows page (report w terms held.buffer held.used m page)
    kept = report-keeps w terms held.buffer held.used m page ok

    left : rows_left w m (report w terms after.buffer after.used m' page') ≡ map (row_bytes w) rows
    left =
        rows_left_lem w terms after.buffer after.used m' page' ok' m
        ∙ ap (map (row_bytes w))
        (rows-strike m m' later (terms_of terms) (log_of w terms after.buffer after.used)
        ∙ same_rows w terms m after held (appends-alike w terms m held events late))

-- the second half of demand 3
pub alike_same : AlikeReportSame
unfolding report_on bytes_before rows_given
alike_same w terms m held held' page page' ok ok' alike = record {
  equal_count = kept.counted ∙ ap length same ∙ sym kept'.counted;
  equal_rows = kept.rows-first ∙ ap (flat_map (row_bytes w)) same ∙ sym kept'.rows-first;
}
  where
    kept : ReportKeeps w (rows_of w terms held.buffer held.used m) page (report w terms held.buffer held.used m page)
    kept = report-keeps w terms held.buffer held.used m page ok

    kept' : ReportKeeps w (rows_of w terms held'.buffer held'.used m) page' (report w terms held'.buffer held'.used m page')
    kept' = report-keeps w terms held'.buffer held'.used m page' ok'

    before-m : (h : HeldLog) → All (OneRecord w (terms_of terms)) (strike stamp_in m (held-records w terms h))
    before-m h = strike-all stamp_in (OneRecord w (terms_of terms)) m _ (log-records w (terms_of terms) (take h.used h.buffer))

    same : rows_of w terms held.buffer held.used m ≡ rows_of w terms held'.buffer held'.used m
    same = same_rows w terms m held held' (records-equal w (terms_of terms) _ _ (before-m held) (before-m held') alike)

-- demand 3 whole
pub lasting : Lasting
lasting = (report-lasts, alike_same)
