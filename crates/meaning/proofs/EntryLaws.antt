-- A subject's five entries show the times of its rows in the report of the same moment, no other and none missing.
-- Document 01, 'Calls', 5. Assumes nothing.
use Prim.Native.Nat.{ℕ, ◌<◌}
use native.Mathlib.Omega.{arith}
use mathlib.Core.Path.{◌≡◌, refl, ap, sym, ◌∙◌}
use mathlib.Core.Logic.{◌↔◌}
use mathlib.Core.Bool.{Bool, true, false, cond, ◌&&◌}
use mathlib.Core.List.{[], ◌∷◌, Memᴰ}
use mathlib.Core.Option.{some}
use lib.Dec.{ltb, eqb}
use lib.ListN.{length}
use borrow.Author.Tests.{ltb-true, eqb-true}
use Rattle.meaning.specs.declared.Time.{Time}
use Rattle.meaning.specs.declared.Time.TheVariants.{At, Never}
use Rattle.meaning.specs.declared.Stage.{Stage}
use Rattle.meaning.specs.declared.Stage.TheVariants.{Created, Detached, Expired, Discharged, Violated}
use Rattle.meaning.specs.declared.Entries.{Entries}
use Rattle.meaning.specs.declared.Row.{Row}
use Rattle.meaning.specs.Time.{before}
use Rattle.meaning.specs.Terms.{Terms}
use Rattle.meaning.specs.Log.{Record, Log, key_of, key_repeats}
use Rattle.meaning.specs.Meaning.{stage_time}
use Rattle.meaning.specs.Rows.{row_of, is_subject, report_rows, find, is_sought, subject_of, entries_of, entry}
use Rattle.meaning.proofs.BoolLaws.{and-true}
use Rattle.meaning.proofs.TimeLaws.{before-lt}
use Rattle.meaning.proofs.RowLaws.{before_at, row-of, row-of-subject}

-- the subject of schema j with a key, stamped before m
pub record IsSubjectOf (terms : Terms) (log : Log) (j key m : ℕ) (r : Record) : Type 0 where
  -- in the log
  pub logged : Memᴰ r log
  -- of the schema's subject kind
  pub is-subject : is_subject terms j r ≡ true
  -- with the key
  pub has_key : key_of terms r ≡ key
  -- stamped before the moment
  pub stamped : r.stamp < m

-- entries that show the rows of a subject in the report at m
pub record Shows (terms : Terms) (log : Log) (m j : ℕ) (r : Record) (e : Entries) : Type 0 where
  -- an entry is a time exactly if the report has the subject's row of that stage with that time
  pub shown : (s : Stage) (t : ℕ) → (entry s e ≡ At t) ↔ Memᴰ (row_of terms j r s t) (report_rows terms log m)
  -- every row of that schema and key is shown
  pub none-missing : (x : Row) → Memᴰ x (report_rows terms log m) → x.schema ≡ j → x.key ≡ key_of terms r → entry x.stage e ≡ At x.time
  -- an entry is not yet exactly if the report has no row of that schema, key and stage
  pub not_yet : (s : Stage) → (entry s e ≡ Never)
      ↔ ((x : Row) → Memᴰ x (report_rows terms log m) → x.schema ≡ j → x.key ≡ key_of terms r → x.stage ≡ s → ⊥)

find-some : (p : Record → Bool) (log : Log) (r : Record) → find p log ≡ some r → Memᴰ r log × (p r ≡ true)
unfolding find
find-some p [] r e = let z : ◌≡◌ {A = ℕ} 0 1 = cc in absurd (omega arith)
find-some p (q ∷ log) r e = go (p q) refl e (find-some p log r)
  where
    go : (b : Bool) → p q ≡ b → cond b (some q) (find p log) ≡ some r → (find p log ≡ some r → Memᴰ r log × (p r ≡ true))
        → Memᴰ r (q ∷ log) × (p r ≡ true)
    go true t e ih = let same : r ≡ q = cc in (Memᴰ.head same, ap p same ∙ t)
    go false t e ih = (Memᴰ.tail (ih e).0, (ih e).1)

-- what makes a record the one that is looked for
pub sought : (terms : Terms) (j key m : ℕ) (r : Record) → is_sought terms j key m r ≡ true → (is_subject terms j r ≡ true) × (key_of terms r ≡ key) × (r.stamp < m)
unfolding is_sought
sought terms j key m r e =
    let a = and-true (is_subject terms j r && eqb (key_of terms r) key) (ltb r.stamp m) e in
    let b = and-true (is_subject terms j r) (eqb (key_of terms r) key) a.0 in
    (b.0, eqb-true (key_of terms r) key b.1, ltb-true r.stamp m a.1)

-- The subject that is looked for is found in the log.
pub subject-found : (terms : Terms) (log : Log) (j key m : ℕ) (r : Record) → subject_of terms log j key m ≡ some r → IsSubjectOf terms log j key m r
unfolding subject_of
subject-found terms log j key m r e =
    let found = find-some _ log r e in
    let has = sought terms j key m r found.1 in
    record { logged = found.0; is-subject = has.0; has_key = has.1; stamped = has.2 }

entry_of : (terms : Terms) (log : Log) (m j : ℕ) (r : Record) (s : Stage) → entry s (entries_of terms log m j r) ≡ before m (stage_time terms log s j r)
unfolding entries_of
entry_of terms log m j r Created = refl
entry_of terms log m j r Detached = refl
entry_of terms log m j r Expired = refl
entry_of terms log m j r Discharged = refl
entry_of terms log m j r Violated = refl

-- A subject's entries show its rows, where no kind and key stands twice in the log.
pub entries-show : (terms : Terms) (log : Log) (m j : ℕ) (r : Record) → key_repeats terms log ≡ false → j < length terms.schemas
    → Memᴰ r log → is_subject terms j r ≡ true → Shows terms log m j r (entries_of terms log m j r)
unfolding row_of
entries-show terms log m j r once declared logged is-subject = record { shown = λ s t. (there s t, here s t); none-missing = missed; not_yet = λ s. (empty s, waits s) }
  where
    there : (s : Stage) (t : ℕ) → entry s (entries_of terms log m j r) ≡ At t → Memᴰ (row_of terms j r s t) (report_rows terms log m)
    there s t e = (row-of-subject terms log m j r once declared logged is-subject s t).1 (before_at m (stage_time terms log s j r) t (sym (entry_of terms log m j r s) ∙ e))

    missed : (x : Row) → Memᴰ x (report_rows terms log m) → x.schema ≡ j → x.key ≡ key_of terms r → entry x.stage (entries_of terms log m j r) ≡ At x.time
    missed x k a b = let h = row-of terms log m j r x once logged is-subject k a b in entry_of terms log m j r x.stage ∙ ap (before m) h.0 ∙ before-lt m x.time h.1

    here : (s : Stage) (t : ℕ) → Memᴰ (row_of terms j r s t) (report_rows terms log m) → entry s (entries_of terms log m j r) ≡ At t
    here s t k = missed (row_of terms j r s t) k refl refl

    empty : (s : Stage) → entry s (entries_of terms log m j r) ≡ Never → (x : Row) → Memᴰ x (report_rows terms log m) → x.schema ≡ j → x.key ≡ key_of terms r → x.stage ≡ s → ⊥
    empty s e x k a b c = let z : ◌≡◌ {A = ℕ} 0 1 = cc (missed x k a b, e, c) in omega arith

    waits : (s : Stage) → ((x : Row) → Memᴰ x (report_rows terms log m) → x.schema ≡ j → x.key ≡ key_of terms r → x.stage ≡ s → ⊥)
        → entry s (entries_of terms log m j r) ≡ Never
    waits s h = go (entry s (entries_of terms log m j r)) refl
      where
        go : (t : Time) → entry s (entries_of terms log m j r) ≡ t → t ≡ Never
        go (At t) e = absurd (h (row_of terms j r s t) (there s t e) refl refl refl)
        go Never e = refl
