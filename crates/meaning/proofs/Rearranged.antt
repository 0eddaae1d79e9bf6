-- The order of arrival decides the order of rows and nothing else: a log in another order has the same times, the same rows and the same subjects.
--     stage-times          each stage of each subject has the same time
--     schema-rows, rows    the rows of a schema, and of a report, are the same, each as often
--     entries              a subject has the same entries
--     keys, key-there      a key repeats in both or in neither; it is there in both or in neither
--     subjects             where none repeats, the same subject is found for a key
-- Another order of a log is a rearrangement of it, `Permᴰ`. Assumes nothing.
use Prim.Native.Nat.{ℕ, zero, suc}
use mathlib.Core.Path.{◌≡◌, refl, ap, ap₂, sym, ◌∙◌, fun_ext}
use mathlib.Core.Bool.{Bool, true, false, cond, ◌||◌}
use mathlib.Core.List.{[], ◌∷◌, flat_map, Memᴰ, Permᴰ}
use mathlib.Core.Option.{some}
use lib.ListN.{length}
use Rattle.meaning.specs.declared.Time.{Time}
use Rattle.meaning.specs.declared.Stage.{Stage}
use Rattle.meaning.specs.declared.Event.{Event}
use Rattle.meaning.specs.declared.Bound.{Bound}
use Rattle.meaning.specs.declared.Bound.TheVariants.{Plain, Plus, Minus, Open}
use Rattle.meaning.specs.declared.Atom.{Atom}
use Rattle.meaning.specs.declared.Atom.TheVariants.{Happens, Counts}
use Rattle.meaning.specs.declared.Edge.{Edge}
use Rattle.meaning.specs.declared.Edge.TheVariants.{Minute, Endless}
use Rattle.meaning.specs.declared.Row.{Row}
use Rattle.meaning.specs.Lists.{numbers_from, any_of}
use Rattle.meaning.specs.Stages.{stages}
use Rattle.meaning.specs.Terms.{Terms, Expr, leaf, and, or, except, always, rank}
use Rattle.meaning.specs.Log.{Record, Log, key_of, has_key, same_key, key_repeats}
use Rattle.meaning.specs.Meaning.{StageTimes, first, first_within, known, leaf_occurrence, failure_at, failure_at_end, first_before, early_failure, leaf_failure, count_within, count_time, times_of, stage_step, times_within, stage_time}
use Rattle.meaning.specs.Rows.{row_of, row_at, is_subject, subject_rows, timed_rows, report_rows, find, is_sought, subject_of, entries_of}
use Rattle.meaning.proofs.BoolLaws.{or-false, or-across, eqb-swap}
use Rattle.meaning.proofs.ListLaws.{flat_map-each, flat_map-moved}
use Rattle.meaning.proofs.GatherLaws.{earliest-gathers, tally-gathers, any-gathers, gathers-moved}
use Rattle.meaning.proofs.StrikeLaws.{strike-moved}
use Rattle.meaning.proofs.RowLaws.{key-once, subject-kind}
use Rattle.meaning.proofs.EntryLaws.{sought}

module _ {log log' : Log} (moved : Permᴰ log log') (terms : Terms) where
  module _ (times : StageTimes) (subject : Record) where
    -- when a bound is known
    known-moved : (b : Bound) → known times terms log subject b ≡ known times terms log' subject b
    unfolding known first
    known-moved (Plain n) = refl
    known-moved (Plus e n) = gathers-moved (earliest-gathers _) moved
    known-moved (Minus e n) = gathers-moved (earliest-gathers _) moved
    known-moved Open = refl

    -- the earliest happening in a window
    within-moved : (l u : Edge) (e : Event) → first_within times terms log subject l u e ≡ first_within times terms log' subject l u e
    unfolding first_within
    within-moved l u e = gathers-moved (earliest-gathers _) moved

    -- and before a lower edge
    before-moved : (l : Edge) (e : Event) → first_before times terms log subject l e ≡ first_before times terms log' subject l e
    unfolding first_before
    before-moved (Minute l) e = within-moved (Minute 0) (Minute l) e
    before-moved Endless e = refl

    -- how many records of a kind lie in one
    count-moved : (l u : Edge) (k : ℕ) → count_within times terms log subject l u k ≡ count_within times terms log' subject l u k
    unfolding count_within
    count-moved l u k = gathers-moved (tally-gathers _) moved

    -- expressions
    times-moved : (x : Expr Atom) → times_of times terms log subject x ≡ times_of times terms log' subject x
    unfolding times_of leaf_occurrence leaf_failure failure_at_end failure_at early_failure count_time
    times-moved (leaf (Happens x)) = simp (known-moved, within-moved, before-moved)
    times-moved (leaf (Counts c)) = simp (known-moved, count-moved)
    times-moved (and a b) = rw (times-moved a, times-moved b)
    times-moved (or a b) = rw (times-moved a, times-moved b)
    times-moved (except a b) = rw (times-moved a, times-moved b)
    times-moved always = refl

  -- what the clauses of a stage give
  step-moved : (times : StageTimes) (s : Stage) (j : ℕ) (subject : Record) → stage_step times terms log s j subject ≡ stage_step times terms log' s j subject
  unfolding stage_step
  step-moved times s j subject = simp times-moved

  -- stages, with citations followed n deep
  within_depth : (n : ℕ) (s : Stage) (j : ℕ) (subject : Record) → times_within terms log n s j subject ≡ times_within terms log' n s j subject
  unfolding times_within
  within_depth zero s j subject = refl
  within_depth (suc n) s j subject =
      ap (λ (times : StageTimes). stage_step times terms log s j subject) (fun_ext λ s. fun_ext λ j. fun_ext (within_depth n s j))
      ∙ step-moved (times_within terms log' n) s j subject

  -- stages: each has the same time
  pub stage-times : (s : Stage) (j : ℕ) (subject : Record) → stage_time terms log s j subject ≡ stage_time terms log' s j subject
  unfolding stage_time
  stage-times s j subject = within_depth (suc (rank s j)) s j subject

  -- the rows of a record under a schema
  subject_rows-moved : (j : ℕ) → subject_rows terms log j ≡ subject_rows terms log' j
  unfolding subject_rows
  subject_rows-moved j =
      fun_ext λ r. ap (λ (t : Stage → Time). elim (is_subject terms j r) [ true ↦ flat_map (λ s. row_at (row_of terms j r s) (t s)) stages | false ↦ [] ])
      (fun_ext λ s. stage-times s j r)

  -- the rows of a schema: the same, each as often
  pub schema-rows : (j : ℕ) → Permᴰ (flat_map (subject_rows terms log j) log) (flat_map (subject_rows terms log' j) log')
  schema-rows j = rw (subject_rows-moved j) (flat_map-moved (subject_rows terms log' j) moved)

  -- the rows of a report: the same, each as often
  pub rows : (m : ℕ) → Permᴰ (report_rows terms log m) (report_rows terms log' m)
  unfolding report_rows timed_rows
  rows m = strike-moved (λ (x : Row). x.time) m (flat_map-each _ _ schema-rows (numbers_from 0 (length terms.schemas)))

  -- a subject's entries
  pub entries : (m j : ℕ) (subject : Record) → entries_of terms log m j subject ≡ entries_of terms log' m j subject
  unfolding entries_of
  entries m j subject = simp stage-times

-- two records have the same kind and key either way
same_key-swap : (terms : Terms) (q r : Record) → same_key terms q r ≡ same_key terms r q
unfolding same_key has_key
same_key-swap terms q r = rw (eqb-swap q.kind r.kind, eqb-swap (key_of terms q) (key_of terms r))

-- refusal 13: whether a record's kind and key are there
pub key-there : {log log' : Log} → Permᴰ log log' → (terms : Terms) (r : Record) → any_of (same_key terms r) log ≡ any_of (same_key terms r) log'
key-there moved terms r = gathers-moved (any-gathers (same_key terms r)) moved

-- refusal 9: whether a key repeats
pub keys : {log log' : Log} → Permᴰ log log' → (terms : Terms) → key_repeats terms log ≡ key_repeats terms log'
unfolding key_repeats any_of
keys Permᴰ.nil terms = refl
keys (Permᴰ.cons {b = r} {l₁ = log} e moved) terms =
    ap (λ x. key_repeats terms (x ∷ log)) e ∙ ap₂ (λ x y. x || y) (key-there moved terms r) (keys moved terms)
keys (Permᴰ.swap {a' = q} {b' = r} {l = log} d e) terms =
    ap₂ (λ x y. key_repeats terms (x ∷ y ∷ log)) d e
    ∙ rw (same_key-swap terms r q) (or-across (same_key terms q r) (any_of (same_key terms r) log) (any_of (same_key terms q) log) (key_repeats terms log))
keys (Permᴰ.trans moved further) terms = keys moved terms ∙ keys further terms

-- where no key repeats, the subject with a key is the same
pub subjects : {log log' : Log} → Permᴰ log log' → (terms : Terms) → key_repeats terms log ≡ false → (j key m : ℕ)
    → subject_of terms log j key m ≡ subject_of terms log' j key m
unfolding subject_of find key_repeats
subjects Permᴰ.nil terms once j key m = refl
subjects (Permᴰ.cons {a = r} {l₁ = log} e moved) terms once j key m =
    rw (sym e, subjects moved terms (or-false (any_of (same_key terms r) log) _ once).1 j key m)
subjects (Permᴰ.swap {a = q} {b = r} {l = log} d e) terms once j key m =
    rw (sym d, sym e) (go (is_sought terms j key m q) refl (is_sought terms j key m r) refl)
  where
    go : (s : Bool) → is_sought terms j key m q ≡ s → (t : Bool) → is_sought terms j key m r ≡ t
        → cond s (some q) (cond t (some r) (find (is_sought terms j key m) log)) ≡ cond t (some r) (cond s (some q) (find (is_sought terms j key m) log))
    go true a true b =
        let one = sought terms j key m q a in
        let two = sought terms j key m r b in
        ap some (key-once terms (q ∷ r ∷ log) q r once (Memᴰ.head refl) (Memᴰ.tail (Memᴰ.head refl))
        (subject-kind terms j q one.0 ∙ sym (subject-kind terms j r two.0)) (one.1 ∙ sym two.1))
    go true a false b = refl
    go false a t b = refl
subjects (Permᴰ.trans moved further) terms once j key m = subjects moved terms once j key m ∙ subjects further terms (sym (keys moved terms) ∙ once) j key m
