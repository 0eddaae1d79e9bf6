-- How many rows there are at most: five for each record, and so for each that is found of the subject kind.
--     record-five      of a record
--     log-few          of a log, by its bytes
--     schema-most      of a schema, by the records that an index finds
-- Assumes nothing.
use Prim.Native.Nat.{ℕ, zero, suc, ◌+◌, ◌*◌, ◌≤◌}
use native.Mathlib.Omega.{arith}
use mathlib.Core.Path.{◌≡◌, refl, ap, sym, ◌∙◌}
use mathlib.Core.Bool.{Bool, true, false}
use mathlib.Core.List.{List, [], flat_map, map}
use mathlib.Core.Option.{Option, none, some}
use lib.Dec.{eqb}
use lib.ListN.{length, length-map, get_or, drop}
use Rattle.std.specs.List.{sum_by}
use Rattle.std.proofs.lemmas.List.Concat.{length-flat_map}
use Rattle.std.proofs.lemmas.List.Sums.{sum_by-cons, sum_by-le}
use Rattle.meaning.specs.declared.Row.{Row}
use Rattle.meaning.specs.declared.Stage.{Stage}
use Rattle.meaning.specs.Stages.{stages}
use Rattle.meaning.specs.Terms.{Terms, schema_at}
use Rattle.meaning.specs.Log.{Record, Log}
use Rattle.meaning.specs.Meaning.{stage_time}
use Rattle.meaning.specs.Rows.{row_of, row_at, is_subject, subject_rows}
use Rattle.meaning.proofs.GatherLaws.{Gathers}
use Rattle.meaning.proofs.StrikeLaws.{strike-le}
use Rattle.meaning.proofs.RowLaws.{row_one}
use Rattle.format.specs.Fields.{terms_of}
use Rattle.format.specs.Records.{value_width, read_record, records_in}
use Rattle.format.proofs.WalkLaws.{kind-here}
use Rattle.records.specs.Holds.{record_at, onward, places_from, places_in}
use Rattle.index.specs.Asked.{all_of, hit, found}
use Rattle.index.proofs.Found.{found_all, all-hit}
use Rattle.evaluate.specs.Seen.{log_in, record_in}
use Rattle.report.specs.Shown.{timely, record_rows, rows_from, most_rows}
use Rattle.report.proofs.RowSteps.{log-shown}

module _ (t : Terms) (all : Log) (j : ℕ) where
  -- five stages give five rows at most
  five : (r : Record) → length (flat_map (λ s. row_at (row_of t j r s) (stage_time t all s j r)) stages) ≤ 5
  unfolding stages flat_map
  five r =
      let rows = λ (s : Stage). row_at (row_of t j r s) (stage_time t all s j r) in
      omega (arith, length-flat_map rows stages, sum_by-le (λ s. length (rows s)) 1 stages (λ k d h. row_one (row_of t j r (get_or stages k d)) _))

  -- so a record has five at most
  subject-five : (r : Record) → length (subject_rows t all j r) ≤ 5
  unfolding subject_rows
  subject-five r = go (is_subject t j r) (flat_map (λ s. row_at (row_of t j r s) (stage_time t all s j r)) stages) (five r)
    where
      go : (b : Bool) (own : List Row) → length own ≤ 5 → length {A = Row} (elim b [ true ↦ own | false ↦ [] ]) ≤ 5
      go true own h = h
      go false own h = omega arith

  -- how many rows the records of a log have
  rows_had : Log → ℕ
  rows_had log = sum_by (λ r. length (subject_rows t all j r)) log

  gathers : Gathers ◌+◌ 0 (λ r. length (subject_rows t all j r)) rows_had
  unfolding rows_had
  gathers = record { empty = refl; more = sum_by-cons _; assoc = λ a b c. omega arith; swap = λ a b. omega arith; alone = λ a. omega arith }

  -- a record that is not found has none
  unfound : (log : List ℕ) (at : ℕ) → hit t log (all_of (schema_at t j).subject) at ≡ false → length (subject_rows t all j (record_at t log at)) ≡ 0
  unfolding subject_rows is_subject
  unfound log at e =
      let other : is_subject t j (record_at t log at) ≡ false = ap (λ (k : ℕ). eqb k (schema_at t j).subject) (kind-here value_width t log at) ∙ sym (all-hit t log (schema_at t j).subject at) ∙ e in
      rw (other, subject_rows)

-- the record at a place has five at most
pub record-five : (terms log : List ℕ) (j m at : ℕ) → length (record_rows terms log j m at) ≤ 5
unfolding record_rows timely
record-five terms log j m at =
    let rows = subject_rows (terms_of terms) (log_in terms log) j (record_in terms log at) in
    omega (arith, strike-le (λ (x : Row). x.time) m rows, subject-five (terms_of terms) (log_in terms log) j (record_in terms log at))

-- no more records are read than there are bytes
places-few : (t : Terms) (log : List ℕ) (n at : ℕ) → length (places_from n t log at) ≤ n
unfolding places_from onward
places-few t log zero at = omega arith
places-few t log (suc n) at = go (read_record value_width t (drop at log)) _ (places-few t log n _)
  where
    go : (found : Option (List ℕ × List ℕ)) (rest : List ℕ) → length rest ≤ n → length (onward found at rest) ≤ suc n
    go none rest h = omega arith
    go (some x) rest h = omega arith

-- the places of a log
pub log-places : (t : Terms) (log : List ℕ) → length (places_in t log) ≤ length log
unfolding places_in
log-places t log = places-few t log (length log) 0

-- so a log has five for each byte at most
pub log-few : (terms log : List ℕ) (j m : ℕ) → length (rows_from terms log j m 0) ≤ 5 * length log
unfolding flat_map
log-few terms log j m =
    let places = places_in (terms_of terms) log in
    rw (log-shown terms log j m)
    (omega (arith, length-flat_map (record_rows terms log j m) places, sum_by-le (λ at. length (record_rows terms log j m at)) 5 places (λ k d h. record-five terms log j m _), log-places (terms_of terms) log))

-- a schema has five for each record of its subject kind at most
pub schema-most : (terms log : List ℕ) (j m : ℕ) → length (rows_from terms log j m 0) ≤ most_rows terms log j
unfolding rows_from timely most_rows rows_had log_in flat_map
schema-most terms log j m =
    let t = terms_of terms in
    let all = log_in terms log in
    let q = all_of (schema_at t j).subject in
    let rows = flat_map (subject_rows t all j) (records_in value_width t log) in
    let here = map (record_at t log) (found t log q) in
    omega (
      arith,
      strike-le (λ (x : Row). x.time) m rows,
      length-flat_map (subject_rows t all j) (records_in value_width t log),
      found_all (gathers t all j) t log q (unfound t all j log),
      sum_by-le (λ r. length (subject_rows t all j r)) 5 here (λ k d h. subject-five t all j _),
      length-map (found t log q) (record_at t log),
    )
