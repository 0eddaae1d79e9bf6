-- Calls on the same records in another order of arrival: only the order of a report's rows may differ.
--     rows-moved        the rows of a report are the same, each as often
--     report-answers    so its number and its count are the same, on every page
--     append-answers    an append to a buffer of the same length has the same number and length
--     standing-same     a standing is the same
-- Assumes nothing.
use Prim.Native.Nat.{ℕ, zero, suc}
use mathlib.Core.Path.{◌≡◌, refl, fun_ext}
use mathlib.Core.List.{List, Permᴰ}
use lib.ListN.{length}
use Rattle.meaning.specs.Log.{Record}
use Rattle.format.specs.Fields.{terms_of}
use Rattle.format.specs.Records.{record_from, log_of}
use Rattle.calls.specs.Calls.{key_present, no_room, event_checks, append, page_too_short, page_checks, rows_of, standing_subject, key_checks, Outcome, unless_refused, on_page, report, standing}
use Rattle.meaning.proofs.ListLaws.{length-moved}
use Rattle.meaning.proofs.Rearranged.{rows, entries, key-there, subjects}
use Rattle.calls.proofs.RefusalLaws.{LogAccepted, own-decide}

-- two outcomes with the same answer, each unless it is refused
answer-same : (n : ℕ) (bytes bytes' : List ℕ) (o o' : Outcome) → o.answer ≡ o'.answer → (unless_refused n bytes o).answer ≡ (unless_refused n bytes' o').answer
unfolding unless_refused
answer-same zero bytes bytes' o o' e = e
answer-same (suc n) bytes bytes' o o' e = refl

-- two accepted logs, the records of the one a rearrangement of the other's
module _ (w : ℕ) (terms log log' : List ℕ) (used used' : ℕ) (ok : LogAccepted w terms log used) (ok' : LogAccepted w terms log' used')
    (moved : Permᴰ (log_of w terms log used) (log_of w terms log' used')) where
  -- the rows
  pub rows-moved : (m : ℕ) → Permᴰ (rows_of w terms log used m) (rows_of w terms log' used' m)
  unfolding rows_of
  rows-moved m = rows moved (terms_of terms) m

  -- number and count of a report
  pub report-answers : (m : ℕ) (page : List ℕ) → (report w terms log used m page).answer ≡ (report w terms log' used' m page).answer
  unfolding report on_page page_checks page_too_short
  report-answers m page =
      rw (own-decide w terms log used ok, own-decide w terms log' used' ok', length-moved (rows-moved m))
      (answer-same _ page page _ _ refl)

  -- refusal 13
  present-same : (r : Record) → key_present (terms_of terms) r (log_of w terms log used) ≡ key_present (terms_of terms) r (log_of w terms log' used')
  unfolding key_present
  present-same r = key-there moved (terms_of terms) r

  -- number and length of an append
  pub append-answers : used ≡ used' → length log ≡ length log' → (event : List ℕ)
      → (append w terms log used event).answer ≡ (append w terms log' used' event).answer
  unfolding append event_checks no_room
  append-answers same long event =
      rw (own-decide w terms log used ok, own-decide w terms log' used' ok', present-same (record_from w (terms_of terms) event), same, long)
      (answer-same _ log log' _ _ refl)

  -- a standing
  pub standing-same : (schema key m : ℕ) → standing w terms log used schema key m ≡ standing w terms log' used' schema key m
  unfolding standing standing_subject key_checks
  standing-same schema key m =
      rw (own-decide w terms log used ok, own-decide w terms log' used' ok', subjects moved (terms_of terms) ok.once schema key m, fun_ext (entries moved (terms_of terms) m schema)) refl
