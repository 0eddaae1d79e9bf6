-- The rows of a report: which they are, in which order, and none twice.
-- Document 01, 'Calls', 4. Assumes nothing.
use Prim.Native.Nat.{ℕ, ◌≤◌, ◌<◌}
use native.Mathlib.Omega.{arith}
use mathlib.Core.Path.{◌≡◌, refl, ap, sym, ◌∙◌, fun_ext}
use mathlib.Core.Logic.{◌↔◌, ◌⊎◌, inl, inr}
use mathlib.Core.Bool.{Bool, true, false, cond}
use mathlib.Core.List.Memᴰ
use mathlib.Core.List.{List, [], ◌∷◌, flat_map, Memᴰ}
use lib.Dec.{ltb}
use lib.ListN.{length}
use borrow.Author.Tests.{eqb-true, eq-eqb}
use Rattle.meaning.specs.declared.Time.{Time}
use Rattle.meaning.specs.declared.Time.TheVariants.{At, Never}
use Rattle.meaning.specs.declared.Stage.{Stage}
use Rattle.meaning.specs.declared.Row.{Row}
use Rattle.meaning.specs.Lists.{numbers_from, any_of}
use Rattle.meaning.specs.Time.{before}
use Rattle.meaning.specs.Stages.{stages}
use Rattle.meaning.specs.Terms.{Terms, schema_at}
use Rattle.meaning.specs.Log.{Record, Log, key_of, has_key, same_key, key_repeats}
use Rattle.meaning.specs.Meaning.{stage_time}
use Rattle.meaning.specs.Rows.{row_of, row_at, is_subject, subject_rows, timed_rows, strike, report_rows}
use Rattle.meaning.proofs.BoolLaws.{or-false}
use Rattle.meaning.proofs.MemberLaws.{any_of-none, mem-flat_map, flat_map-mem, mem-numbers, numbers-mem, stages-mem, Distinct, Apart, distinct-flat_map, apart_by, distinct-numbers, distinct-stages}
use Rattle.meaning.proofs.TimeLaws.{before-lt, before-le, before-never, Side, early, late, side}
use Rattle.meaning.proofs.StrikeLaws.{strike-flat_map}

-- a time has at most one row
pub row_one : (f : ℕ → Row) (t : Time) → length (row_at f t) ≤ 1
unfolding row_at
row_one f (At t) = omega arith
row_one f Never = omega arith

-- the row of a record's stage where its time is before m, else none
unfoldable pub rows_at : Terms → Log → ℕ → ℕ → Record → Stage → List Row
rows_at terms log m j r s = row_at (row_of terms j r s) (before m (stage_time terms log s j r))

-- the rows of a record under schema j that are timed before m
unfoldable pub subject_rows_at : Terms → Log → ℕ → ℕ → Record → List Row
subject_rows_at terms log m j r = elim (is_subject terms j r) [ true ↦ flat_map (rows_at terms log m j r) stages | false ↦ [] ]

strike-row_at : (terms : Terms) (m j : ℕ) (r : Record) (s : Stage) (t : Time)
    → strike (λ (x : Row). x.time) m (row_at (row_of terms j r s) t) ≡ row_at (row_of terms j r s) (before m t)
unfolding strike row_at row_of before
strike-row_at terms m j r s (At n) = go (ltb n m)
  where
    go : (b : Bool) → cond b (row_of terms j r s n ∷ []) [] ≡ row_at (row_of terms j r s) (cond b (At n) Never)
    go true = refl
    go false = refl
strike-row_at terms m j r s Never = refl

-- a report keeps the rows of a record that are timed before m
pub strike-subject : (terms : Terms) (log : Log) (m j : ℕ) (r : Record)
    → strike (λ (x : Row). x.time) m (subject_rows terms log j r) ≡ subject_rows_at terms log m j r
unfolding subject_rows subject_rows_at rows_at strike
strike-subject terms log m j r = go (is_subject terms j r)
  where
    go : (b : Bool) → strike (λ (x : Row). x.time) m (elim b [ true ↦ flat_map (λ s. row_at (row_of terms j r s) (stage_time terms log s j r)) stages | false ↦ [] ])
        ≡ elim b [ true ↦ flat_map (rows_at terms log m j r) stages | false ↦ [] ]
    go true = strike-flat_map _ m _ stages ∙ ap (λ (f : Stage → List Row). flat_map f stages) (fun_ext λ s. strike-row_at terms m j r s _)
    go false = refl

-- The rows come by schema, within it by the place of the subject in the log, within that by stage, as far as a stage is reached before the moment.
pub report-order : (terms : Terms) (log : Log) (m : ℕ)
    → report_rows terms log m ≡ flat_map (λ j. flat_map (subject_rows_at terms log m j) log) (numbers_from 0 (length terms.schemas))
unfolding report_rows timed_rows
report-order terms log m =
    strike-flat_map _ m _ _
    ∙ ap (λ (f : ℕ → List Row). flat_map f (numbers_from 0 (length terms.schemas)))
    (fun_ext λ j. strike-flat_map _ m _ log ∙ ap (λ (f : Record → List Row). flat_map f log) (fun_ext (strike-subject terms log m j)))

-- why a row is in a report
pub record InReport (terms : Terms) (log : Log) (m : ℕ) (x : Row) : Type 0 where
  -- of a schema
  pub schema : ℕ
  -- of a record
  pub subject : Record
  -- of a stage
  pub stage : Stage
  -- at a minute
  pub minute : ℕ
  -- the schema is one of the terms
  pub declared : schema < length terms.schemas
  -- the record is in the log
  pub logged : Memᴰ subject log
  -- it is a subject of the schema
  pub is-subject : is_subject terms schema subject ≡ true
  -- the minute is the stage's time
  pub timed : stage_time terms log stage schema subject ≡ At minute
  -- it is before the moment
  pub in-time : minute < m
  -- the row says just that
  pub says : x ≡ row_of terms schema subject stage minute

-- A time before m is a time, and before m.
pub before_at : (m : ℕ) (t : Time) (n : ℕ) → before m t ≡ At n → (t ≡ At n) × (n < m)
before_at m (At k) n e = go (side m k)
  where
    go : Side m k → (◌≡◌ {A = Time} (At k) (At n)) × (n < m)
    go (early h) = let same : k ≡ n = cc (e, before-lt m k h) in (ap At same, omega arith)
    go (late h) = let z : ◌≡◌ {A = ℕ} 0 1 = cc (e, before-le m k h) in absurd (omega arith)
before_at m Never n e = let z : ◌≡◌ {A = ℕ} 0 1 = cc (e, before-never m) in absurd (omega arith)

row_at-mem : (f : ℕ → Row) (t : Time) {x : Row} → Memᴰ x (row_at f t) → (n : ℕ) × (t ≡ At n) × (x ≡ f n)
unfolding row_at
row_at-mem f (At n) k = (n, refl, Memᴰ.eq_of_singleton k)
row_at-mem f Never k = absurd (Memᴰ.not-nil k)

-- a row of a stage
rows_at-mem : (terms : Terms) (log : Log) (m j : ℕ) (r : Record) (s : Stage) {x : Row} → Memᴰ x (rows_at terms log m j r s)
    → (n : ℕ) × (stage_time terms log s j r ≡ At n) × (n < m) × (x ≡ row_of terms j r s n)
unfolding rows_at
rows_at-mem terms log m j r s k =
    let found = row_at-mem (row_of terms j r s) _ k in
    let h = before_at m _ found.0 found.1 in
    (found.0, h.0, h.1, found.2)

mem-rows_at : (terms : Terms) (log : Log) (m j : ℕ) (r : Record) (s : Stage) (n : ℕ) → stage_time terms log s j r ≡ At n → n < m
    → Memᴰ (row_of terms j r s n) (rows_at terms log m j r s)
unfolding rows_at row_at
mem-rows_at terms log m j r s n e h = rw (e, before-lt m n h) (Memᴰ.head refl)

-- a row of a record
subject_rows_at-mem : (terms : Terms) (log : Log) (m j : ℕ) (r : Record) {x : Row} → Memᴰ x (subject_rows_at terms log m j r)
    → (is_subject terms j r ≡ true) × ((s : Stage) × Memᴰ x (rows_at terms log m j r s))
unfolding subject_rows_at
subject_rows_at-mem terms log m j r {x} k = go (is_subject terms j r) k
  where
    go : (b : Bool) → Memᴰ x (elim b [ true ↦ flat_map (rows_at terms log m j r) stages | false ↦ [] ])
        → (b ≡ true) × ((s : Stage) × Memᴰ x (rows_at terms log m j r s))
    go true k = let found = mem-flat_map (rows_at terms log m j r) stages k in (refl, (found.0, found.2))
    go false k = absurd (Memᴰ.not-nil k)

mem-subject_rows_at : (terms : Terms) (log : Log) (m j : ℕ) (r : Record) (s : Stage) {x : Row} → is_subject terms j r ≡ true
    → Memᴰ x (rows_at terms log m j r s) → Memᴰ x (subject_rows_at terms log m j r)
unfolding subject_rows_at
mem-subject_rows_at terms log m j r s e k = rw (e, subject_rows_at) (flat_map-mem (rows_at terms log m j r) (stages-mem s) k)

-- A row for schema, subject and stage is in the report if and only if that stage's time is before the moment; and there is no other row.
pub row-exact : (terms : Terms) (log : Log) (m : ℕ) (x : Row) → Memᴰ x (report_rows terms log m) ↔ InReport terms log m x
row-exact terms log m x = rw report-order (there, here)
  where
    there : Memᴰ x (flat_map (λ j. flat_map (subject_rows_at terms log m j) log) (numbers_from 0 (length terms.schemas))) → InReport terms log m x
    there k =
        let a = mem-flat_map (λ j. flat_map (subject_rows_at terms log m j) log) _ k in
        let b = mem-flat_map (subject_rows_at terms log m a.0) log a.2 in
        let c = subject_rows_at-mem terms log m a.0 b.0 b.2 in
        let d = rows_at-mem terms log m a.0 b.0 c.1.0 c.1.1 in
        record {
          schema = a.0;
          subject = b.0;
          stage = c.1.0;
          minute = d.0;
          declared = omega (arith, mem-numbers 0 (length terms.schemas) a.1);
          logged = b.1;
          is-subject = c.0;
          timed = d.1;
          in-time = d.2;
          says = d.3;
        }

    here : InReport terms log m x → Memᴰ x (flat_map (λ j. flat_map (subject_rows_at terms log m j) log) (numbers_from 0 (length terms.schemas)))
    here i =
        flat_map-mem (λ j. flat_map (subject_rows_at terms log m j) log) (numbers-mem 0 _ i.schema (omega arith) (omega (arith, i.declared)))
        (flat_map-mem (subject_rows_at terms log m i.schema) i.logged
        (mem-subject_rows_at terms log m i.schema i.subject i.stage i.is-subject
        (rw i.says (mem-rows_at terms log m i.schema i.subject i.stage i.minute i.timed i.in-time))))

-- records of one kind with one key are told so
pub same-key : (terms : Terms) (q r : Record) → q.kind ≡ r.kind → key_of terms q ≡ key_of terms r → same_key terms q r ≡ true
unfolding same_key has_key
same-key terms q r a b = simp (eq-eqb q.kind r.kind a, eq-eqb (key_of terms q) (key_of terms r) b)

-- a record and a later one are not of one kind with one key
later-differs : (terms : Terms) (r : Record) (log : Log) (q : Record) → any_of (same_key terms r) log ≡ false → Memᴰ q log
    → r.kind ≡ q.kind → key_of terms r ≡ key_of terms q → ⊥
later-differs terms r log q e k a b = let z : ◌≡◌ {A = ℕ} 0 1 = cc (any_of-none (same_key terms r) log e k, same-key terms r q a b) in omega arith

-- In an accepted log one kind and key is one record.
pub key-once : (terms : Terms) (log : Log) (q r : Record) → key_repeats terms log ≡ false → Memᴰ q log → Memᴰ r log
    → q.kind ≡ r.kind → key_of terms q ≡ key_of terms r → q ≡ r
unfolding key_repeats
key-once terms [] q r e k k' a b = absurd (Memᴰ.not-nil k)
key-once terms (x ∷ log) q r e k k' a b = go (or-false (any_of (same_key terms x) log) _ e) (Memᴰ.cases_cons k) (Memᴰ.cases_cons k') (key-once terms log q r)
  where
    go : (any_of (same_key terms x) log ≡ false) × (key_repeats terms log ≡ false) → (q ≡ x) ⊎ Memᴰ q log → (r ≡ x) ⊎ Memᴰ r log
        → (key_repeats terms log ≡ false → Memᴰ q log → Memᴰ r log → q.kind ≡ r.kind → key_of terms q ≡ key_of terms r → q ≡ r)
        → q ≡ r
    go h (inl s) (inl t) ih = s ∙ sym t
    go h (inl s) (inr t) ih = absurd (later-differs terms x log r h.0 t (ap (λ (z : Record). z.kind) (sym s) ∙ a) (ap (key_of terms) (sym s) ∙ b))
    go h (inr s) (inl t) ih = absurd (later-differs terms x log q h.0 s (ap (λ (z : Record). z.kind) (sym t) ∙ sym a) (ap (key_of terms) (sym t) ∙ sym b))
    go h (inr s) (inr t) ih = ih h.1 s t a b

-- A subject is of the schema's subject kind.
pub subject-kind : (terms : Terms) (j : ℕ) (r : Record) → is_subject terms j r ≡ true → r.kind ≡ (schema_at terms j).subject
unfolding is_subject
subject-kind terms j r e = eqb-true r.kind (schema_at terms j).subject e

-- what a row of a record says of it
subject-row : (terms : Terms) (log : Log) (m j : ℕ) (r : Record) {x : Row} → Memᴰ x (subject_rows_at terms log m j r)
    → (r.kind ≡ (schema_at terms j).subject) × (x.schema ≡ j) × (x.key ≡ key_of terms r)
unfolding row_of
subject-row terms log m j r k =
    let c = subject_rows_at-mem terms log m j r k in
    let d = rows_at-mem terms log m j r c.1.0 c.1.1 in
    (subject-kind terms j r c.0, ap (λ (x : Row). x.schema) d.3, ap (λ (x : Row). x.key) d.3)

apart-subjects : (terms : Terms) (whole : Log) (m j : ℕ) (log : Log) → key_repeats terms log ≡ false → Apart (subject_rows_at terms whole m j) log
unfolding key_repeats
apart-subjects terms whole m j [] e = tt
apart-subjects terms whole m j (r ∷ log) e = (differ, apart-subjects terms whole m j log first.1)
  where
    first : (any_of (same_key terms r) log ≡ false) × (key_repeats terms log ≡ false)
    first = or-false (any_of (same_key terms r) log) (key_repeats terms log) e

    differ : (q : Record) (x : Row) → Memᴰ q log → Memᴰ x (subject_rows_at terms whole m j r) → Memᴰ x (subject_rows_at terms whole m j q) → ⊥
    differ q x i k k' =
        let a = subject-row terms whole m j r k in
        let b = subject-row terms whole m j q k' in
        later-differs terms r log q first.0 i (a.0 ∙ sym b.0) (sym a.2 ∙ b.2)

distinct-subject : (terms : Terms) (log : Log) (m j : ℕ) (r : Record) → Distinct (subject_rows_at terms log m j r)
unfolding subject_rows_at rows_at row_at row_of
distinct-subject terms log m j r = go (is_subject terms j r)
  where
    one : (s : Stage) (t : Time) → Distinct (row_at (row_of terms j r s) t)
    one s (At n) = (Memᴰ.not-nil, tt)
    one s Never = tt

    told : (s : Stage) (x : Row) → Memᴰ x (rows_at terms log m j r s) → x.stage ≡ s
    told s x k = ap (λ (x : Row). x.stage) (rows_at-mem terms log m j r s k).3

    go : (b : Bool) → Distinct {A = Row} (elim b [ true ↦ flat_map (rows_at terms log m j r) stages | false ↦ [] ])
    go true = distinct-flat_map (rows_at terms log m j r) (λ s. one s (before m (stage_time terms log s j r))) stages (apart_by (λ (x : Row). x.stage) (rows_at terms log m j r) told stages distinct-stages)
    go false = tt

-- No row stands twice in a report over an accepted log: rows differ by schema, by the subject's key or by stage.
pub rows-distinct : (terms : Terms) (log : Log) (m : ℕ) → key_repeats terms log ≡ false → Distinct (report_rows terms log m)
rows-distinct terms log m e =
    rw report-order
    (distinct-flat_map of-schema (λ j. distinct-flat_map (subject_rows_at terms log m j) (distinct-subject terms log m j) log (apart-subjects terms log m j log e))
    schemas (apart_by (λ (x : Row). x.schema) of-schema told schemas (distinct-numbers 0 (length terms.schemas))))
  where
    schemas : List ℕ
    schemas = numbers_from 0 (length terms.schemas)

    of-schema : ℕ → List Row
    of-schema j = flat_map (subject_rows_at terms log m j) log

    told : (j : ℕ) (x : Row) → Memᴰ x (of-schema j) → x.schema ≡ j
    told j x k = let found = mem-flat_map (subject_rows_at terms log m j) log k in (subject-row terms log m j found.0 found.2).1

-- A row of a subject's schema and key is that subject's.
pub row-of : (terms : Terms) (log : Log) (m j : ℕ) (r : Record) (x : Row) → key_repeats terms log ≡ false → Memᴰ r log → is_subject terms j r ≡ true
    → Memᴰ x (report_rows terms log m) → x.schema ≡ j → x.key ≡ key_of terms r → (stage_time terms log x.stage j r ≡ At x.time) × (x.time < m)
unfolding row_of
row-of terms log m j r x once logged is-subject k a b =
    let i = (row-exact terms log m x).0 k in
    let schema : i.schema ≡ j = ap (λ (y : Row). y.schema) (sym i.says) ∙ a in
    let key : key_of terms i.subject ≡ key_of terms r = ap (λ (y : Row). y.key) (sym i.says) ∙ b in
    let stage : x.stage ≡ i.stage = ap (λ (y : Row). y.stage) i.says in
    let minute : x.time ≡ i.minute = ap (λ (y : Row). y.time) i.says in
    let kind : i.subject.kind ≡ r.kind = cc (subject-kind terms i.schema i.subject i.is-subject, subject-kind terms j r is-subject, schema) in
    let same : i.subject ≡ r = key-once terms log i.subject r once i.logged logged kind key in
    (cc (i.timed, schema, stage, minute, same), omega (arith, minute, i.in-time))

-- So, over an accepted log, a subject's row of a stage is in the report if and only if that stage's time, for this subject, is before the moment.
pub row-of-subject : (terms : Terms) (log : Log) (m j : ℕ) (r : Record) → key_repeats terms log ≡ false → j < length terms.schemas
    → Memᴰ r log → is_subject terms j r ≡ true → (s : Stage) (t : ℕ)
    → Memᴰ (row_of terms j r s t) (report_rows terms log m) ↔ ((stage_time terms log s j r ≡ At t) × (t < m))
unfolding row_of
row-of-subject terms log m j r once declared logged is-subject s t = (
  λ k. row-of terms log m j r (row_of terms j r s t) once logged is-subject k refl refl,
  λ h. (row-exact terms log m (row_of terms j r s t)).1 (record {
    schema = j;
    subject = r;
    stage = s;
    minute = t;
    declared = declared;
    logged = logged;
    is-subject = is-subject;
    timed = h.0;
    in-time = h.1;
    says = refl;
  }),
)
