-- Reports over the meaning last: logs alike before m have the same rows at m, and striking a later report at m gives the report at m.
-- Assumes nothing.
use Prim.Native.Nat.{ℕ, ◌≤◌}
use mathlib.Core.Path.{◌≡◌, refl, ap, ap₂, sym, ◌∙◌, fun_ext}
use mathlib.Core.Bool.{Bool, true, false}
use mathlib.Core.List.{List, [], ◌∷◌, flat_map}
use lib.ListN.{length}
use Rattle.meaning.specs.declared.Stage.{Stage}
use Rattle.meaning.specs.declared.Row.{Row}
use Rattle.meaning.specs.Lists.{numbers_from}
use Rattle.meaning.specs.Stages.{stages}
use Rattle.meaning.specs.Terms.{Terms}
use Rattle.meaning.specs.Log.{Record, Log}
use Rattle.meaning.specs.Rows.{row_at, is_subject, timed_rows, strike, report_rows}
use Rattle.meaning.proofs.StrikeLaws.{strike-strike, flat_map-strike}
use Rattle.meaning.proofs.RowLaws.{rows_at, subject_rows_at, report-order}
use Rattle.meaning.proofs.SameBefore.{records_before, time-same, time-late}

none_each : {A : Type 0} (f : A → List Row) → ((x : A) → f x ≡ []) → (l : List A) → flat_map f l ≡ []
unfolding flat_map
none_each f none [] = refl
none_each f none (x ∷ l) = rw (none x) (none_each f none l)

-- a subject stamped at m or later has no row before m
rows-late : (m : ℕ) (terms : Terms) (log : Log) (j : ℕ) (r : Record) → m ≤ r.stamp → subject_rows_at terms log m j r ≡ []
unfolding subject_rows_at rows_at row_at
rows-late m terms log j r h = go (is_subject terms j r)
  where
    go : (b : Bool) → ◌≡◌ {A = List Row} (elim b [ true ↦ flat_map (rows_at terms log m j r) stages | false ↦ [] ]) []
    go true = none_each (rows_at terms log m j r) (λ s. rw (time-late m terms log s j r h)) stages
    go false = refl

module _ (m : ℕ) (terms : Terms) (log log' : Log) (alike : records_before m log ≡ records_before m log') where
  subject-same : (j : ℕ) (r : Record) → subject_rows_at terms log m j r ≡ subject_rows_at terms log' m j r
  unfolding subject_rows_at rows_at
  subject-same j r = go (is_subject terms j r)
    where
      stage : (s : Stage) → rows_at terms log m j r s ≡ rows_at terms log' m j r s
      stage s = rw (time-same m terms log log' alike)

      go : (b : Bool) → ◌≡◌ {A = List Row} (elim b [ true ↦ flat_map (rows_at terms log m j r) stages | false ↦ [] ])
          (elim b [ true ↦ flat_map (rows_at terms log' m j r) stages | false ↦ [] ])
      go true = ap (λ (f : Stage → List Row). flat_map f stages) (fun_ext stage)
      go false = refl

  schema-same : (j : ℕ) → flat_map (subject_rows_at terms log m j) log ≡ flat_map (subject_rows_at terms log' m j) log'
  schema-same j =
      flat_map-strike (λ (r : Record). r.stamp) m _ (rows-late m terms log j) log
      ∙ ap₂ (λ (f : Record → List Row) (l : Log). flat_map f l) (fun_ext (subject-same j)) alike
      ∙ sym (flat_map-strike (λ (r : Record). r.stamp) m _ (rows-late m terms log' j) log')

  -- logs alike before m have the same rows at m
  pub rows_same : report_rows terms log m ≡ report_rows terms log' m
  rows_same =
      report-order terms log m
      ∙ ap (λ (f : ℕ → List Row). flat_map f (numbers_from 0 (length terms.schemas))) (fun_ext schema-same)
      ∙ sym (report-order terms log' m)

-- a later report struck at m is the report at m
pub rows-strike : (m m' : ℕ) → m ≤ m' → (terms : Terms) (log : Log) → strike (λ (x : Row). x.time) m (report_rows terms log m') ≡ report_rows terms log m
unfolding report_rows
rows-strike m m' h terms log = strike-strike (λ (x : Row). x.time) m m' h (timed_rows terms log)
