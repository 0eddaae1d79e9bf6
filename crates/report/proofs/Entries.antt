-- The entries of a subject, from the times of its clauses, each worked out once.
--     entry_here      one entry: a stage's time, where it is before the moment
--     entries-here    all five
-- Assumes nothing.
use Prim.Native.Nat.{ℕ, ◌+◌, ◌*◌, ◌<◌}
use mathlib.Core.Path.{◌≡◌, refl}
use mathlib.Core.List.{List}
use lib.ListN.{length}
use Rattle.meaning.specs.declared.Time.{Time}
use Rattle.meaning.specs.declared.Time.TheVariants.{At}
use Rattle.meaning.specs.declared.Times.{Times}
use Rattle.meaning.specs.declared.Stage.{Stage}
use Rattle.meaning.specs.declared.Stage.TheVariants.{Created, Detached, Expired, Discharged, Violated}
use Rattle.meaning.specs.declared.NormType.{NormType}
use Rattle.meaning.specs.declared.Entries.{Entries}
use Rattle.meaning.specs.Time.{later_of, before}
use Rattle.meaning.specs.Terms.{schema_at}
use Rattle.meaning.specs.Meaning.{stage_from}
use Rattle.meaning.specs.Rows.{entries_of}
use Rattle.format.specs.Grammar.{file_of}
use Rattle.format.specs.Fields.{terms_of}
use Rattle.grammar.specs.Places.{Starts}
use Rattle.records.specs.Holds.{record_at}
use Rattle.times.specs.declared.Needed.{Needed}
use Rattle.times.specs.declared.Needed.TheVariants.{Occurrence, Both}
use Rattle.times.specs.NeededTimes.{needed_of, consequent_needs_all}
use Rattle.times.proofs.Needs.{rows-need}
use Rattle.evaluate.specs.Seen.{stage_in}
use Rattle.evaluate.proofs.Expressions.{clause_in, stage-whole}
use Rattle.report.specs.Shown.{entries_in}

module _ (terms log starts : List ℕ) (subject j : ℕ) (laid : Starts terms (file_of terms).schemas starts) (h : j < length (file_of terms).schemas)
    {norm : NormType} {stamp : ℕ} {needed : Needed} {c r u : Times}
    (type : norm ≡ (schema_at (terms_of terms) j).type) (stamped : stamp ≡ (record_at (terms_of terms) log subject).stamp) (needs : needed ≡ consequent_needs_all norm)
    (create : c ≡ needed_of Occurrence (clause_in terms log starts subject (3 * j)))
    (detach : r ≡ needed_of Both (clause_in terms log starts subject (3 * j + 1)))
    (consequent : u ≡ needed_of needed (clause_in terms log starts subject (3 * j + 2))) (m : ℕ) where
  -- one entry: a stage's time, where it is before the moment
  pub entry_here : (s : Stage) {time entry : Time} → time ≡ later_of (At stamp) (stage_from s norm c r u) → entry ≡ before m time → entry ≡ before m (stage_in terms log subject s j)
  entry_here s e b = rw (b, e, create, detach, consequent, needs, rows-need, stage-whole terms log starts subject j laid h s type stamped)

  -- all five
  pub entries-here : {a b d e f : Time} → let entry = λ (s : Stage). before m (later_of (At stamp) (stage_from s norm c r u)) in
      a ≡ entry Created → b ≡ entry Detached → d ≡ entry Expired → e ≡ entry Discharged → f ≡ entry Violated
      → ◌≡◌ {A = Entries} (record { created = a; detached = b; expired = d; discharged = e; violated = f }) (entries_in terms log subject j m)
  unfolding entries_in entries_of stage_in
  entries-here a b d e f = rw (entry_here Created refl a, entry_here Detached refl b, entry_here Expired refl d, entry_here Discharged refl e, entry_here Violated refl f)
