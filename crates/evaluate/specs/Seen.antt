-- The model's meaning of what bytes hold, for a clause of a rank and the subject at a place of the log. Assumes nothing: these are definitions.
use Rattle.std.specs.Prelude.{ℕ, List, Option, Some, None}
use Rattle.meaning.specs.declared.Time.{Time}
use Rattle.meaning.specs.declared.Time.TheVariants.{At, Never}
use Rattle.meaning.specs.declared.Stage.{Stage}
use Rattle.meaning.specs.declared.Bound.{Bound}
use Rattle.meaning.specs.Terms.{Terms}
use Rattle.meaning.specs.Log.{Record, Log}
use Rattle.meaning.specs.Meaning.{StageTimes, cited, edge_of, stage_time}
use Rattle.format.specs.Fields.{terms_of}
use Rattle.format.specs.Records.{value_width, records_in}
use Rattle.records.specs.Holds.{record_at}
use Rattle.evaluate.specs.declared.Known.{Known}

-- the records in the bytes of a log
unfoldable pub log_in : List ℕ → List ℕ → Log
log_in terms log = records_in value_width (terms_of terms) log

-- the record at a place of a log
unfoldable pub record_in : List ℕ → List ℕ → ℕ → Record
record_in terms log at = record_at (terms_of terms) log at

-- a stage's time for the subject at a place
unfoldable pub stage_in : List ℕ → List ℕ → ℕ → Stage → ℕ → Time
stage_in terms log subject s j = stage_time (terms_of terms) (log_in terms log) s j (record_in terms log subject)

-- a rule of the meaning, for a clause of rank k and the subject at a place
unfoldable pub under : {A : Type 0} → (StageTimes → Terms → Log → Record → A) → List ℕ → List ℕ → ℕ → ℕ → A
under rule terms log k subject = rule (cited k (stage_time (terms_of terms) (log_in terms log))) (terms_of terms) (log_in terms log) (record_in terms log subject)

-- a bound's value and the minute since which it is known, if there is one
unfoldable pub known_as : Bound → Time → Option Known
known_as bound (At g) = Some (record { edge = edge_of bound g; since = g })
known_as bound Never = None
