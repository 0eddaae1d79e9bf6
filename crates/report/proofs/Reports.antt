-- What call 4 answers and leaves on the page, by what is known of its checks.
--     report-refused     refused as call 2
--     report-short       refused by 10
--     report-written     the count, and the rows on the page
-- Assumes nothing.
use Prim.Native.Nat.{ℕ, ◌*◌}
use mathlib.Core.Path.{◌≡◌}
use mathlib.Core.Bool.{Bool, true, false}
use mathlib.Core.List.{List, ◌++◌}
use lib.Dec.{ltb}
use lib.ListN.{length, take}
use Rattle.calls.specs.declared.Refusal.{Refusal}
use Rattle.calls.specs.declared.Refusal.TheVariants.{PageTooShort}
use Rattle.std.specs.Prelude.{Result, Ok, Err}
use Rattle.format.specs.Records.{value_width, row_length}
use Rattle.calls.specs.Answers.{checked_answer, counted_answer}
use Rattle.calls.specs.Calls.{Check, refusal, log_checks, page_too_short, page_checks, check_log, outcome, unless_refused, on_page, rows_of, report}
use Rattle.calls.proofs.WriteLaws.{refused-outcome}
use Rattle.event_log.proofs.Checks.{log-refused}
use Rattle.report.specs.Shown.{schemas_from, with_rows}
use Rattle.report.proofs.RowSteps.{all-rows}

module _ (terms log : List ℕ) (used m : ℕ) (page : List ℕ) where
  -- the refusals of call 2 come first
  pub report-refused : {A : Type 0} {found : Result A Refusal} {x : Refusal} → found ≡ Err x → checked_answer found ≡ check_log value_width terms log used
      → outcome (counted_answer (Err x)) page ≡ report value_width terms log used m page
  unfolding counted_answer report on_page
  report-refused {x = x} is e = refused-outcome x (log-refused terms log used is e (page_checks value_width (rows_of value_width terms log used m) page)) page _

  -- what was accepted is these terms and the used bytes of the log
  module _ (kept : (more : List Check) → refusal (log_checks value_width terms log used ++ more) ≡ refusal more)
      {under bytes : List ℕ} (these : under ≡ terms) (used_bytes : bytes ≡ take used log)
      {short : Bool} (measured : short ≡ ltb (length page) (row_length value_width * length (schemas_from under bytes m 0))) where
    -- its rows are the report's
    rows : rows_of value_width terms log used m ≡ schemas_from under bytes m 0
    rows = rw (these, used_bytes) (all-rows terms log used m)

    -- a page that is too short for the rows
    pub report-short : short ≡ true → outcome (counted_answer (Err PageTooShort)) page ≡ report value_width terms log used m page
    unfolding counted_answer report on_page unless_refused page_checks page_too_short refusal
    report-short h = rw (kept, rows, ← measured, h)

    -- one that has room for them
    pub report-written : short ≡ false → {count : ℕ} {left : List ℕ} → (count ≡ length (schemas_from under bytes m 0)) × (left ≡ with_rows page 0 (schemas_from under bytes m 0))
        → outcome (counted_answer (Ok count)) left ≡ report value_width terms log used m page
    unfolding counted_answer report on_page unless_refused page_checks page_too_short refusal with_rows
    report-written h e = rw (kept, rows, ← measured, h, e.0, e.1)
