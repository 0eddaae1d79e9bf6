-- The page of an accepted report: cut into pieces of a row's length it is the rows in bytes, and over a log of bytes no piece stands twice.
-- Assumes nothing.
use Prim.Native.Nat.{ℕ, ◌*◌, ◌<◌}
use mathlib.Core.Path.{◌≡◌, sym, subst}
use mathlib.Core.List.{List, map, Memᴰ}
use lib.ListN.{take, take-append-drop}
use Rattle.meaning.specs.declared.Row.{Row}
use Rattle.meaning.specs.Lists.{All}
use Rattle.format.specs.Bytes.{pieces}
use Rattle.format.specs.Fields.{terms_of}
use Rattle.format.specs.Records.{row_length, row_bytes, WholeRecord, log_of}
use Rattle.calls.specs.Calls.{rows_of, Outcome, report}
use Rattle.calls.specs.Lasting.{Accepted}
use Rattle.meaning.proofs.MemberLaws.{member-has, Distinct, distinct-form}
use Rattle.meaning.proofs.LastMinute.{RowFits}
use Rattle.format.proofs.LogLaws.{log-unbroken, records-back}
use Rattle.format.proofs.RowBytesLaws.{rows_in, FitsBytes, row_told, row_fits}
use Rattle.calls.proofs.RefusalLaws.{report-accepted}
use Rattle.calls.proofs.WriteLaws.{ReportKeeps, report-keeps}
use Rattle.calls.proofs.AcceptedLaws.{report-distinct, report-times}

-- the page's pieces are the rows
pub page-rows : (w : ℕ) (terms log : List ℕ) (used m : ℕ) (page : List ℕ) → Accepted (report w terms log used m page)
    → pieces (row_length w) (report w terms log used m page).answer.value (report w terms log used m page).left ≡ map (row_bytes w) (rows_of w terms log used m)
page-rows w terms log used m page ok =
    rw (kept.counted, ← take-append-drop (row_length w * o.answer.value) o.left, kept.rows-first) (rows_in w (rows_of w terms log used m) _)
  where
    o : Outcome
    o = report w terms log used m page

    kept : ReportKeeps w (rows_of w terms log used m) page o
    kept = report-keeps w terms log used m page ok

-- over a log of bytes no row stands twice on the page
pub page-distinct : (w : ℕ) (terms log : List ℕ) (used m : ℕ) (page : List ℕ) → Accepted (report w terms log used m page) → All (λ b. b < 256) (take used log)
    → Distinct (pieces (row_length w) (report w terms log used m page).answer.value (report w terms log used m page).left)
unfolding rows_of log_of
page-distinct w terms log used m page ok bytes =
    subst Distinct (sym (page-rows w terms log used m page ok))
    (distinct-form (row_bytes w) rows (λ x y i k. row_told w x y (fits x i) (fits y k)) (report-distinct w terms log used m page ok))
  where
    rows : List Row
    rows = rows_of w terms log used m

    good : All (WholeRecord w (terms_of terms)) (log_of w terms log used)
    good = (records-back w (terms_of terms) (take used log) bytes (log-unbroken w (terms_of terms) (take used log) ((report-accepted w terms log used m page).0 ok).0.whole)).0

    fits : (x : Row) → Memᴰ x rows → FitsBytes w x
    fits x k = row_fits w (terms_of terms) (log_of w terms log used) m good x (member-has RowFits rows (report-times w terms log used m) k) k
