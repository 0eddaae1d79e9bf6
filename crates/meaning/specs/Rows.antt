-- The rows of a log, of a report at a moment, and the entries of a standing.
-- Document 01, 'Calls', 4 and 5. Assumes nothing: these are definitions.
use Rattle.std.specs.Prelude.{ℕ, Bool, true, false, cond, ◌&&◌, ltb, eqb, length}
use mathlib.Core.List.{List, [], ◌∷◌, flat_map}
use Rattle.std.proofs.Math.Option.{Option, none, some}
use Rattle.meaning.specs.declared.Time.{Time}
use Rattle.meaning.specs.declared.Time.TheVariants.{At, Never}
use Rattle.meaning.specs.declared.Stage.{Stage}
use Rattle.meaning.specs.declared.Stage.TheVariants.{Created, Detached, Expired, Discharged, Violated}
use Rattle.meaning.specs.declared.Row.{Row}
use Rattle.meaning.specs.declared.Entries.{Entries}
use Rattle.meaning.specs.Lists.{numbers_from}
use Rattle.meaning.specs.Time.{before}
use Rattle.meaning.specs.Stages.{stages}
use Rattle.meaning.specs.Terms.{Terms, schema_at}
use Rattle.meaning.specs.Log.{Record, Log, value_of, key_of}
use Rattle.meaning.specs.Meaning.{stage_time}

-- the row of a subject's stage at the minute t (call 4)
unfoldable pub row_of : Terms → ℕ → Record → Stage → ℕ → Row
row_of terms j subject s t = record {
  stage = s;
  schema = j;
  key = key_of terms subject;
  privileged = value_of terms subject (schema_at terms j).privileged;
  liable = value_of terms subject (schema_at terms j).liable;
  time = t;
}

-- one row where there is a time, else none (call 4)
unfoldable pub row_at : (ℕ → Row) → Time → List Row
row_at f (At t) = f t ∷ []
row_at f Never = []

-- whether a record is a subject of schema j ('When things happen', first sentence)
unfoldable pub is_subject : Terms → ℕ → Record → Bool
is_subject terms j r = eqb r.kind (schema_at terms j).subject

-- the rows of a record under schema j, stage by stage (call 4)
unfoldable pub subject_rows : Terms → Log → ℕ → Record → List Row
subject_rows terms log j r = elim (is_subject terms j r) [
  | true ↦ flat_map (λ s. row_at (row_of terms j r s) (stage_time terms log s j r)) stages
  | false ↦ []
]

-- every row that a log has, in the order of a report (call 4)
unfoldable pub timed_rows : Terms → Log → List Row
timed_rows terms log = flat_map (λ j. flat_map (subject_rows terms log j) log) (numbers_from 0 (length terms.schemas))

-- what is timed m or later is struck out; the rest stays in its order (words of demand 3)
unfoldable pub strike : {A : Type 0} → (A → ℕ) → ℕ → List A → List A
strike timed m [] = []
strike timed m (x ∷ rows) = cond (ltb (timed x) m) (x ∷ strike timed m rows) (strike timed m rows)

-- the rows of a report at the moment m (call 4)
unfoldable pub report_rows : Terms → Log → ℕ → List Row
report_rows terms log m = strike (λ (x : Row). x.time) m (timed_rows terms log)

-- the first record that passes a test (call 5)
unfoldable pub find : (Record → Bool) → Log → Option Record
find p [] = none
find p (r ∷ log) = cond (p r) (some r) (find p log)

-- whether a record is the subject of schema j with a key, stamped before the moment (call 5; table, 16)
unfoldable pub is_sought : Terms → ℕ → ℕ → ℕ → Record → Bool
is_sought terms j key m r = is_subject terms j r && eqb (key_of terms r) key && ltb r.stamp m

-- the subject of schema j with a key, stamped before the moment, if there is one (call 5)
unfoldable pub subject_of : Terms → Log → ℕ → ℕ → ℕ → Option Record
subject_of terms log j key m = find (is_sought terms j key m) log

-- five entries not yet (call 5)
unfoldable pub not_yet : Entries
not_yet = record { created = Never; detached = Never; expired = Never; discharged = Never; violated = Never }

-- a subject's five entries at the moment m (call 5)
unfoldable pub entries_of : Terms → Log → ℕ → ℕ → Record → Entries
entries_of terms log m j subject = record {
  created = before m (stage_time terms log Created j subject);
  detached = before m (stage_time terms log Detached j subject);
  expired = before m (stage_time terms log Expired j subject);
  discharged = before m (stage_time terms log Discharged j subject);
  violated = before m (stage_time terms log Violated j subject);
}

-- the entry of a stage (call 5)
abbrev pub entry : Stage → Entries → Time
entry Created e = e.created
entry Detached e = e.detached
entry Expired e = e.expired
entry Discharged e = e.discharged
entry Violated e = e.violated
