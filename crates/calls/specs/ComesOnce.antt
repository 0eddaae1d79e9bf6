-- What comes once for a subject: in an accepted log it happens by one record at most. The statement; its proof is `comes-once` in proofs/AcceptedLaws.antt.
-- Document 02, wish 4, with refusals 3 and 9 of the table. Assumes nothing: these are definitions.
use Rattle.std.specs.Prelude.{ℕ, true, false, ◌≡◌, ◌<◌, ◌≤◌}
use mathlib.Core.Logic.{◌⊎◌}
use mathlib.Core.List.{List, ◌∷◌, ◌++◌}
use Rattle.meaning.specs.declared.Time.TheVariants.{Never}
use Rattle.meaning.specs.declared.Event.{Event}
use Rattle.meaning.specs.declared.Leaf.{Leaf}
use Rattle.meaning.specs.Lists.{All}
use Rattle.meaning.specs.Terms.{Terms}
use Rattle.meaning.specs.Log.{Record, Log, correlate}
use Rattle.meaning.specs.Meaning.{StageTimes, tally, happening, comes_once, leaf_occurrence, early_failure}
use Rattle.format.specs.Fields.{terms_of}
use Rattle.format.specs.Records.{log_of}
use Rattle.calls.specs.Calls.{check_log}

-- of terms and a log, whatever times their stages have
pub record ComesOnce (terms : Terms) (log : Log) : Type 0 where
  -- what comes once for a subject happens by one record at most
  pub by_one : (times : StageTimes) (subject : Record) (e : Event) → comes_once terms subject e ≡ true → tally (happening times terms subject e) log ≤ 1
  -- so no leaf both occurs and fails early
  pub not_both : (times : StageTimes) (subject : Record) (x : Leaf) → (leaf_occurrence times terms log subject x ≡ Never) ⊎ (early_failure times terms log subject x ≡ Never)
  -- and two records of one kind do not correlate
  pub apart : (front middle back : Log) (q r : Record) → log ≡ front ++ (q ∷ (middle ++ (r ∷ back))) → q.kind ≡ r.kind → correlate terms q r ≡ false

-- It holds of accepted terms and logs; `w` is how many bytes a value has. That terms are bytes, as lent memory is, makes a mask 16 bits wide, so that
-- a key in it is one of the attributes that correlation compares.
abbrev pub AcceptedOnce : Type 0
AcceptedOnce =
    (w : ℕ) (terms log : List ℕ) (used : ℕ) → All (λ b. b < 256) terms → (check_log w terms log used).number ≡ 0
    → ComesOnce (terms_of terms) (log_of w terms log used)
