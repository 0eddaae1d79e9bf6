-- Demand 3: a given report lasts. The statement, over the outcomes of calls 3 and 4; its proof is proofs/Lasts.antt.
-- Document 00, demand 3, in the words that document 01 gives for it after the table of 'Calls'. Assumes nothing: these are definitions.
use Rattle.std.specs.Prelude.{ℕ, zero, suc, ◌*◌, ◌≤◌, ◌≡◌, length, take}
use mathlib.Core.List.{List, [], ◌∷◌, flatten}
use Rattle.meaning.specs.Rows.{strike}
use Rattle.format.specs.Bytes.{pieces}
use Rattle.format.specs.Fields.{terms_of}
use Rattle.format.specs.Records.{stamp_in, read_log, row_length, time_in}
use Rattle.calls.specs.Calls.{Outcome, append, report}

-- accepted: the outcome's number is 0
abbrev pub Accepted : Outcome → Type 0
Accepted o = o.answer.number ≡ 0

-- a log as its holder has it: the buffer and the used length
pub record HeldLog : Type 0 where
  -- every byte of the buffer, those past the used length too
  pub buffer : List ℕ
  -- the used length
  pub used : ℕ

-- the used length after an append: the one returned if it was accepted, else the one before
unfoldable pub used_after : ℕ → ℕ → ℕ → ℕ
used_after zero returned used = returned
used_after (suc n) returned used = used

-- the held log after an append with this outcome: the buffer that it left, and the used length from then on
unfoldable pub held_after : HeldLog → Outcome → HeldLog
held_after held o = record { buffer = o.left; used = used_after o.answer.number o.answer.value held.used }

-- the held log after one append call
unfoldable pub after_append : ℕ → List ℕ → HeldLog → List ℕ → HeldLog
after_append w terms held event = held_after held (append w terms held.buffer held.used event)

-- the held log after a list of append calls, the first call first
unfoldable pub after_appends : ℕ → List ℕ → HeldLog → List (List ℕ) → HeldLog
after_appends w terms held [] = held
after_appends w terms held (event ∷ events) = after_appends w terms (after_append w terms held event) events

-- no accepted event of the list is stamped before m; refused ones may hold anything
abbrev pub NoneBefore : ℕ → List ℕ → ℕ → HeldLog → List (List ℕ) → Type 0
NoneBefore w terms m held [] = Unit {0}
NoneBefore w terms m held (event ∷ events) =
    (Accepted (append w terms held.buffer held.used event) → m ≤ stamp_in event)
    × NoneBefore w terms m (after_append w terms held event) events

-- the report of a held log
unfoldable pub report_on : ℕ → List ℕ → HeldLog → ℕ → List ℕ → Outcome
report_on w terms held m page = report w terms held.buffer held.used m page

-- the bytes of a given report's rows, as the call left them on the page
unfoldable pub rows_given : ℕ → Outcome → List ℕ
rows_given w o = take (row_length w * o.answer.value) o.left

-- the rows of a later report, cut apart on its page, without those timed m or later
unfoldable pub rows_left : ℕ → ℕ → Outcome → List (List ℕ)
rows_left w m o = strike (time_in w) m (pieces (row_length w) o.answer.value o.left)

-- the later report, struck, has the earlier one's bytes and its number of rows
pub record Remains (w m : ℕ) (earlier later : Outcome) : Type 0 where
  -- the rows left, one after another
  pub same_bytes : flatten (rows_left w m later) ≡ rows_given w earlier
  -- how many are left
  pub same_count : length (rows_left w m later) ≡ earlier.answer.value

-- demand 3, first half
abbrev pub ReportLasts : Type 0
ReportLasts =
    (w : ℕ) (terms : List ℕ) (held : HeldLog) (m : ℕ) (page : List ℕ) → Accepted (report_on w terms held m page)
    → (events : List (List ℕ)) → NoneBefore w terms m held events
    → (m' : ℕ) → m ≤ m' → (page' : List ℕ) → Accepted (report_on w terms (after_appends w terms held events) m' page')
    → Remains w m (report_on w terms held m page) (report_on w terms (after_appends w terms held events) m' page')

-- the bytes of a held log's records stamped before m, one after another in log order
unfoldable pub bytes_before : ℕ → List ℕ → ℕ → HeldLog → List ℕ
bytes_before w terms m held = flatten (strike stamp_in m (read_log w (terms_of terms) (take held.used held.buffer)).0)

-- equal reports: in count and in rows
pub record SameReport (w : ℕ) (one other : Outcome) : Type 0 where
  -- the count
  pub equal_count : one.answer.value ≡ other.answer.value
  -- the rows
  pub equal_rows : rows_given w one ≡ rows_given w other

-- demand 3, second half: two logs alike before m
abbrev pub AlikeReportSame : Type 0
AlikeReportSame =
    (w : ℕ) (terms : List ℕ) (m : ℕ) (held held' : HeldLog) (page page' : List ℕ)
    → Accepted (report_on w terms held m page) → Accepted (report_on w terms held' m page')
    → bytes_before w terms m held ≡ bytes_before w terms m held'
    → SameReport w (report_on w terms held m page) (report_on w terms held' m page')

-- demand 3 whole
abbrev pub Lasting : Type 0
Lasting = ReportLasts × AlikeReportSame
