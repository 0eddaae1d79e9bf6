-- The rows of a report in the order in which they are counted and written: by schema, then by record, then by stage.
--     kind_is                          the kind of a record is its first byte
--     record-other, record-shown       the rows of one record under a schema
--     log-shown, rows_step             those of the records of a log, and of those from a place on
--     schemas-step, schemas-none, schemas-count
--                                      those of the schemas from a number on, and how many
--     all-rows                         these are the rows of call 4
-- Assumes nothing.
use Prim.Native.Nat.{ℕ, zero, suc, ◌+◌, ◌-◌, ◌≤◌, ◌<◌}
use native.Mathlib.Nat.{sub-zero}
use native.Mathlib.Numerals.{add-one}
use native.Mathlib.Omega.{arith}
use mathlib.Core.Path.{◌≡◌, ap, ◌∙◌}
use mathlib.Core.Bool.{true, false}
use mathlib.Core.List.{List, [], ◌++◌, flat_map}
use lib.ListN.{length, length-append, take}
use Rattle.std.specs.List.{sum_by, range_with_len}
use Rattle.std.proofs.lemmas.List.Sums.{sum_by-cons}
use Rattle.std.proofs.lemmas.List.Folds.{flat_map-map}
use Rattle.meaning.specs.declared.Entries.{Entries}
use Rattle.meaning.specs.declared.Row.{Row}
use Rattle.meaning.specs.Lists.{numbers_from}
use Rattle.meaning.specs.Stages.{stages}
use Rattle.meaning.specs.Rows.{row_of, row_at, is_subject, subject_rows, timed_rows, strike, report_rows, entries_of, entry}
use Rattle.meaning.proofs.StrikeLaws.{strike-append, strike-flat_map}
use Rattle.meaning.proofs.RowLaws.{rows_at, subject_rows_at, strike-subject}
use Rattle.format.specs.Bytes.{byte_at}
use Rattle.format.specs.Fields.{terms_of}
use Rattle.format.specs.Records.{value_width, log_of}
use Rattle.format.proofs.WalkLaws.{kind-here}
use Rattle.calls.specs.Calls.{rows_of}
use Rattle.records.specs.Holds.{record_at, places_in}
use Rattle.records.proofs.Places.{records-same}
use Rattle.records.proofs.Steps.{Step}
use Rattle.evaluate.specs.Seen.{log_in, record_in}
use Rattle.report.specs.Shown.{entries_in, timely, record_rows, rows_from, schemas_from}

module _ (terms log : List ℕ) where
  -- the kind of the record at a place is its first byte
  pub kind_is : (at : ℕ) → (record_in terms log at).kind ≡ byte_at log at
  unfolding record_in
  kind_is at = kind-here value_width (terms_of terms) log at

  module _ (schema m : ℕ) where
    module _ (at : ℕ) where
      -- a record of another kind has no row
      pub record-other : is_subject (terms_of terms) schema (record_in terms log at) ≡ false → record_rows terms log schema m at ≡ []
      unfolding record_rows timely subject_rows strike
      record-other ne = rw (ne, subject_rows)

      -- a subject has a row for each entry with a time, in the order of the stages
      pub record-shown : is_subject (terms_of terms) schema (record_in terms log at) ≡ true → {e : Entries} → e ≡ entries_in terms log at schema m
          → record_rows terms log schema m at ≡ flat_map (λ s. row_at (row_of (terms_of terms) schema (record_in terms log at) s) (entry s e)) stages
      unfolding record_rows timely subject_rows_at rows_at entries_in entries_of stages flat_map
      record-shown is e = strike-subject (terms_of terms) (log_in terms log) m schema (record_in terms log at) ∙ rw (is, subject_rows_at, e)

      -- the rows of a record come before those of the records after it
      pub rows_step : {end : ℕ} → Step (terms_of terms) log at end → rows_from terms log schema m at ≡ record_rows terms log schema m at ++ rows_from terms log schema m end
      unfolding rows_from record_rows timely record_in flat_map
      rows_step here = rw here.records (strike-append (λ (x : Row). x.time) m _ _)

    -- the rows of a log are those of its records
    pub log-shown : rows_from terms log schema m 0 ≡ flat_map (record_rows terms log schema m) (places_in (terms_of terms) log)
    unfolding rows_from record_rows timely record_in flat_map
    log-shown =
        let t = terms_of terms in
        rw (← (records-same t log))
        (strike-flat_map (λ (x : Row). x.time) m _ _ ∙ flat_map-map (λ r. strike (λ (x : Row). x.time) m (subject_rows t (log_in terms log) schema r)) (record_at t log) (places_in t log))

  module _ (m : ℕ) where
    -- the rows of a schema come before those of the schemas after it
    pub schemas-step : (j : ℕ) → j < length (terms_of terms).schemas → schemas_from terms log m j ≡ rows_from terms log j m 0 ++ schemas_from terms log m (j + 1)
    unfolding schemas_from rows_from timely numbers_from log_in flat_map
    schemas-step j h =
        let n = length (terms_of terms).schemas in
        let next : n - j ≡ suc (n - suc j) = omega arith in
        rw (add-one j, next) (strike-append (λ (x : Row). x.time) m _ _)

    -- past the last schema there are no rows
    pub schemas-none : (j : ℕ) → length (terms_of terms).schemas ≤ j → schemas_from terms log m j ≡ []
    unfolding schemas_from timely numbers_from strike flat_map
    schemas-none j h = let past : length (terms_of terms).schemas - j ≡ 0 = omega arith in rw past

    -- as many as the schemas have
    pub schemas-count : (j n : ℕ) → j + n ≡ length (terms_of terms).schemas → length (schemas_from terms log m j) ≡ sum_by (λ i. length (rows_from terms log i m 0)) (range_with_len j n)
    schemas-count j zero h = rw (schemas-none j (omega arith))
    schemas-count j (suc n) h =
        rw (schemas-step j (omega arith), length-append, sum_by-cons) (ap (λ k. length (rows_from terms log j m 0) + k) (schemas-count (j + 1) n (omega arith)))

-- the rows of call 4 are those of all schemas over the used bytes
pub all-rows : (terms log : List ℕ) (used m : ℕ) → rows_of value_width terms log used m ≡ schemas_from terms (take used log) m 0
unfolding rows_of report_rows timed_rows schemas_from timely log_of log_in
all-rows terms log used m = rw (sub-zero (length (terms_of terms).schemas))
