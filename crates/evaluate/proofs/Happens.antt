-- An event's happenings by a record of its kind, by what the code knows: one law for each answer.
--     happens-not, happens-kind, happens-above, happens-stage
--     happens-once    in what was accepted an event that comes once happens by one record at most
-- Assumes nothing.
use Prim.Native.Nat.{ℕ, ◌≤◌, ◌<◌}
use mathlib.Core.Path.{◌≡◌, sym, ◌∙◌}
use mathlib.Core.Bool.{Bool, true, false, ◌&&◌}
use mathlib.Core.List.{List}
use lib.Dec.{eqb}
use borrow.Author.Tests.{eq-eqb}
use Rattle.meaning.specs.declared.Time.{Time}
use Rattle.meaning.specs.declared.Time.TheVariants.{At, Never}
use Rattle.meaning.specs.declared.Stage.{Stage}
use Rattle.meaning.specs.declared.Event.{Event}
use Rattle.meaning.specs.declared.Event.TheVariants.{Kind, StageOf}
use Rattle.meaning.specs.Time.{only_if}
use Rattle.meaning.specs.Terms.{kind_of, rank}
use Rattle.meaning.specs.Log.{Record, correlate, key_repeats}
use Rattle.meaning.specs.Meaning.{cited, time_by, happening, stage_time}
use Rattle.format.specs.Bytes.{byte_at}
use Rattle.format.specs.Fields.{terms_of}
use Rattle.format.specs.Records.{value_width, records_in}
use Rattle.meaning.proofs.Equation.{cited-below, cited-above}
use Rattle.meaning.proofs.Once.{HappensOnce, once}
use Rattle.format.proofs.LogLaws.{keys-had}
use Rattle.table.specs.declared.Table.{Table}
use Rattle.table.specs.Table.{KindsIn}
use Rattle.records.proofs.Steps.{stands-stamped}
use Rattle.format.proofs.WalkLaws.{kind-here}
use Rattle.records.specs.Holds.{record_at}
use Rattle.evaluate.specs.Seen.{log_in, record_in, stage_in, under}

-- when an event happens by a record, for a clause of rank k and the subject at a place
abbrev pub happens : List ℕ → List ℕ → ℕ → ℕ → Event → Record → Time
happens terms log k subject = under (λ times t l s. happening times t s) terms log k subject

module _ (terms log : List ℕ) (k subject at : ℕ) (event : Event) {found : Bool}
    (is : byte_at log at ≡ kind_of (terms_of terms) event) (e : found ≡ correlate (terms_of terms) (record_at (terms_of terms) log subject) (record_at (terms_of terms) log at)) where
  -- what the meaning tests
  test : (eqb (record_in terms log at).kind (kind_of (terms_of terms) event) && correlate (terms_of terms) (record_in terms log subject) (record_in terms log at)) ≡ found
  unfolding record_in
  test = rw (eq-eqb (record_at (terms_of terms) log at).kind (kind_of (terms_of terms) event) (kind-here value_width (terms_of terms) log at ∙ is)) (sym e)

  -- it is not so
  pub happens-not : found ≡ false → Never ≡ happens terms log k subject event (record_in terms log at)
  unfolding under happening only_if
  happens-not f = rw (test ∙ f, happening)

  -- it is so: the event says when
  happens-by : found ≡ true → happens terms log k subject event (record_in terms log at)
      ≡ time_by (cited k (stage_time (terms_of terms) (log_in terms log))) event (record_in terms log at)
  unfolding under happening only_if
  happens-by f = rw (test ∙ f, happening)

  -- a kind: at the record's stamp
  pub happens-kind : {n stamp : ℕ} → found ≡ true → event ≡ Kind n → stamp ≡ (record_at (terms_of terms) log at).stamp
      → At stamp ≡ happens terms log k subject event (record_in terms log at)
  unfolding time_by record_in
  happens-kind f v s = rw (happens-by f, v, s)

  -- a stage that does not rank below the clause: never
  pub happens-above : {s : Stage} {j : ℕ} → found ≡ true → event ≡ StageOf s j → k ≤ rank s j
      → Never ≡ happens terms log k subject event (record_in terms log at)
  unfolding time_by
  happens-above {s} {j} f v h = rw (happens-by f, v) (sym (cited-above k _ s j _ h))

  -- one that does: at its time for the record
  pub happens-stage : {s : Stage} {j : ℕ} {t : Time} → found ≡ true → event ≡ StageOf s j → rank s j < k → t ≡ stage_in terms log at s j
      → t ≡ happens terms log k subject event (record_in terms log at)
  unfolding time_by stage_in
  happens-stage {s} {j} f v h e = rw (happens-by f, v) (e ∙ sym (cited-below k _ s j _ h))

-- in what was accepted each kind carries its key and no key repeats: so what comes once happens by one record at most
pub happens-once : (terms log : List ℕ) (k subject : ℕ) {table : Table} → KindsIn (terms_of terms) table
    → key_repeats (terms_of terms) (records_in value_width (terms_of terms) log) ≡ false
    → HappensOnce (cited k (stage_time (terms_of terms) (log_in terms log))) (terms_of terms) (log_in terms log) (record_in terms log subject)
unfolding log_in
happens-once terms log k subject kinds new = once _ (terms_of terms) _ (keys-had value_width (terms_of terms) log kinds.carried) new _

-- what the search for the proof of `happening` cites
pub ruleset happenings = (happens-not, happens-kind, happens-above, happens-stage, stands-stamped)
