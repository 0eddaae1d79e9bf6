-- Counts and lengths keep below 4,294,967,296: an append ends within the limit of a log, and a report has at most five rows for each record under
-- each schema. Assumes nothing.
use Prim.Native.Nat.{ℕ, zero, suc, ◌*◌, ◌≤◌, ◌<◌}
use native.Mathlib.Nat.{mul-suc}
use native.Mathlib.Omega.{arith}
use mathlib.Core.Path.{◌≡◌, refl}
use mathlib.Core.Bool.{Bool, true, false}
use mathlib.Core.List.{List, [], ◌∷◌, flat_map}
use lib.ListN.{length, length-append, length-map, length-take, take}
use Rattle.meaning.specs.declared.Row.{Row}
use Rattle.meaning.specs.Lists.{numbers_from}
use Rattle.meaning.specs.Stages.{stages}
use Rattle.meaning.specs.Terms.{Terms}
use Rattle.meaning.specs.Log.{Record, Log}
use Rattle.meaning.specs.Rows.{is_subject}
use Rattle.format.specs.Grammar.{schemas_limit}
use Rattle.format.specs.Fields.{terms_of}
use Rattle.format.specs.Records.{value_width, read_record, read_log, records_in, log_of}
use Rattle.calls.specs.Calls.{log_limit, append, rows_of, report}
use Rattle.meaning.proofs.RowLaws.{rows_at, subject_rows_at, row_one, report-order}
use Rattle.format.proofs.ReaderLaws.{many-count}
use Rattle.format.proofs.GrammarLaws.{file-read}
use Rattle.calls.proofs.RefusalLaws.{report-accepted}
use Rattle.calls.proofs.WriteLaws.{report-refused, append-refused, report-keeps, append-keeps}
use Rattle.terms.proofs.Faults.{schemas_count}
use Rattle.event_log.proofs.Checks.{used-short}

-- where each element gives at most k others, all of them give at most k times as many
few-each : {A B : Type 0} (k : ℕ) (f : A → List B) → ((x : A) → length (f x) ≤ k) → (l : List A) → length (flat_map f l) ≤ k * length l
unfolding flat_map
few-each k f h [] = omega arith
few-each k f h (x ∷ l) = rw (length-append, mul-suc) (omega (arith, h x, few-each k f h l))

-- so many numbers
numbers-count : (n count : ℕ) → length (numbers_from n count) ≤ count
unfolding numbers_from
numbers-count n zero = omega arith
numbers-count n (suc count) = omega (arith, numbers-count (suc n) count)

-- a record has at most five rows under a schema
few-subject : (terms : Terms) (log : Log) (m j : ℕ) (r : Record) → length (subject_rows_at terms log m j r) ≤ 5
unfolding subject_rows_at rows_at stages
few-subject terms log m j r = go (is_subject terms j r)
  where
    go : (b : Bool) → length {A = Row} (elim b [ true ↦ flat_map (rows_at terms log m j r) stages | false ↦ [] ]) ≤ 5
    go true = few-each 1 (rows_at terms log m j r) (λ s. row_one _ _) stages
    go false = omega arith

-- at most 32,768 records have at most 163,840 rows under a schema
few-schema : (terms : Terms) (log : Log) (m j : ℕ) → length log ≤ 32768 → length (flat_map (subject_rows_at terms log m j) log) ≤ 163840
few-schema terms log m j h = omega (arith, few-each 5 (subject_rows_at terms log m j) (few-subject terms log m j) log)

-- there are no more records than bytes
few-records : (terms : Terms) (s : List ℕ) → length (records_in value_width terms s) ≤ length s
unfolding records_in read_log
few-records terms s = rw length-map (many-count (read_record value_width terms) (length s) s)

-- at most 32,768 bytes have at most 2,621,440 rows, since there are at most 16 schemas
few-rows : (terms log : List ℕ) (used m : ℕ) → length (take used log) ≤ 32768 → length (rows_of value_width terms log used m) ≤ 2621440
unfolding schemas_limit rows_of log_of
few-rows terms log used m h =
    let schemas = length (terms_of terms).schemas in
    let records = records_in value_width (terms_of terms) (take used log) in
    let few : length records ≤ 32768 = omega (arith, few-records (terms_of terms) (take used log)) in
    let rows : ℕ → List Row = λ j. flat_map (subject_rows_at (terms_of terms) records m j) records in
    rw report-order
    (omega (arith, few-each 163840 rows (λ j. few-schema (terms_of terms) records m j few) (numbers_from 0 schemas), numbers-count 0 schemas, schemas_count terms, (file-read terms).2))

-- a bound on the value of an accepted call is one on every value, since with a refusal it is 0
below : {value : ℕ} (number : ℕ) → (number ≡ 0 → value < 4294967296) → (¬ (number ≡ 0) → value ≡ 0) → value < 4294967296
below zero accepted refused = accepted refl
below (suc n) accepted refused = omega (arith, refused (λ e. omega (arith, e)))

-- what call 3 measures, whatever it is given
pub append-below : (terms log : List ℕ) (used : ℕ) (event : List ℕ) → (append value_width terms log used event).answer.value < 4294967296
unfolding log_limit
append-below terms log used event =
    below (append value_width terms log used event).answer.number (λ a. omega (arith, (append-keeps value_width terms log used event a).in-limit))
    (λ r. (append-refused value_width terms log used event r).nothing)

-- what call 4 counts, whatever it is given
pub report-below : (terms log : List ℕ) (used m : ℕ) (page : List ℕ) → (report value_width terms log used m page).answer.value < 4294967296
report-below terms log used m page =
    below (report value_width terms log used m page).answer.number
    (λ a.
    let fits = ((report-accepted value_width terms log used m page).0 a).0.used-fits in
    omega (arith, (report-keeps value_width terms log used m page a).counted, few-rows terms log used m (omega (arith, length-take used log, used-short log used fits))))
    (λ r. (report-refused value_width terms log used m page r).nothing)
