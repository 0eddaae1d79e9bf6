-- The rows and entries of what bytes hold, as far as they are counted or written. Assumes nothing: these are definitions.
use Rattle.std.specs.Prelude.{ℕ, ◌-◌, ◌*◌, ◌≡◌, length, drop, Option, Some, None}
use mathlib.Core.List.{List, flat_map}
use Rattle.std.proofs.Math.Option.{Option as Maybe, none, some}
use Rattle.meaning.specs.declared.Stage.{Stage}
use Rattle.meaning.specs.declared.Entries.{Entries}
use Rattle.meaning.specs.declared.Row.{Row}
use Rattle.meaning.specs.Lists.{numbers_from}
use Rattle.meaning.specs.Terms.{schema_at}
use Rattle.meaning.specs.Log.{Record}
use Rattle.meaning.specs.Rows.{subject_rows, strike, subject_of, entries_of}
use Rattle.format.specs.Bytes.{written}
use Rattle.format.specs.Fields.{terms_of}
use Rattle.format.specs.Records.{value_width, records_in, row_bytes}
use Rattle.records.specs.Holds.{Stands}
use Rattle.index.specs.Asked.{all_of, found}
use Rattle.evaluate.specs.Seen.{log_in, record_in}
use Rattle.report.specs.declared.rows.Agreement.{Agreement}

-- the entries of the subject at a place (call 5)
unfoldable pub entries_in : List ℕ → List ℕ → ℕ → ℕ → ℕ → Entries
entries_in terms log subject schema m = entries_of (terms_of terms) (log_in terms log) m schema (record_in terms log subject)

-- the row of a stage of an agreement, since a minute (call 4)
unfoldable pub row_by : Agreement → Stage → ℕ → Row
row_by a s t = record { stage = s; schema = a.schema; key = a.key; privileged = a.privileged; liable = a.liable; time = t }

-- rows that are timed before the moment (call 4)
unfoldable pub timely : ℕ → List Row → List Row
timely m rows = strike (λ (x : Row). x.time) m rows

-- the rows of the record at a place under a schema (call 4)
unfoldable pub record_rows : List ℕ → List ℕ → ℕ → ℕ → ℕ → List Row
record_rows terms log schema m at = timely m (subject_rows (terms_of terms) (log_in terms log) schema (record_in terms log at))

-- the rows of the records from a place on under a schema (call 4)
unfoldable pub rows_from : List ℕ → List ℕ → ℕ → ℕ → ℕ → List Row
rows_from terms log schema m at = timely m (flat_map (subject_rows (terms_of terms) (log_in terms log) schema) (records_in value_width (terms_of terms) (drop at log)))

-- the rows under the schemas from a number on (call 4)
unfoldable pub schemas_from : List ℕ → List ℕ → ℕ → ℕ → List Row
schemas_from terms log m j =
    timely m (flat_map (λ i. flat_map (subject_rows (terms_of terms) (log_in terms log) i) (log_in terms log))
    (numbers_from j (length (terms_of terms).schemas - j)))

-- the most rows that a schema may have: five for each record that is found of its subject kind (call 4)
unfoldable pub most_rows : List ℕ → List ℕ → ℕ → ℕ
most_rows terms log schema = 5 * length (found (terms_of terms) log (all_of (schema_at (terms_of terms) schema).subject))

-- a page with rows put at a place, and every other byte as it was (call 4)
unfoldable pub with_rows : List ℕ → ℕ → List Row → List ℕ
with_rows page at rows = written page at (flat_map (row_bytes value_width) rows)

-- the place where a record stands in a log, or none
abbrev pub PlaceOf : List ℕ → List ℕ → Maybe Record → Option ℕ → Type 0
PlaceOf terms log r (Some at) = (r ≡ some (record_in terms log at)) × Stands (terms_of terms) log at
PlaceOf terms log r None = r ≡ none

-- the place of the subject that a standing asks for, or none (call 5)
abbrev pub FoundAt : List ℕ → List ℕ → ℕ → ℕ → ℕ → Option ℕ → Type 0
FoundAt terms log schema key m place = PlaceOf terms log (subject_of (terms_of terms) (log_in terms log) schema key m) place
