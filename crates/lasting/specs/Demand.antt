-- Demand 3 for calls as they were made, one after another; which calls were made is a parameter. Document 00, demand 3, in the words that
-- document 01 gives for it after the table of 'Calls'. Lasting of the crate calls states it of the definitions of calls 3 and 4, for every width of a
-- value; here it is about what calls returned and left, at the width that the code has. The elements need not be bytes: a list holds any
-- numbers. Assumes nothing: these are definitions.
use Rattle.std.specs.Prelude.{ℕ, ◌≤◌, ◌≡◌, List, [], ◌∷◌}
use Rattle.meaning.specs.Lists.{All}
use Rattle.format.specs.Records.{value_width, stamp_in}
use Rattle.calls.specs.Calls.{Outcome}
use Rattle.calls.specs.Lasting.{Accepted, HeldLog, held_after, Remains, bytes_before, SameReport}

-- which append calls were made: under terms, on a held log, of an event, with this outcome
abbrev pub AppendRelation : Type 1
AppendRelation = List ℕ → HeldLog → List ℕ → Outcome → Type 0

-- which report calls were made: under terms, on a held log, at a moment, on a page, with this outcome
abbrev pub ReportRelation : Type 1
ReportRelation = List ℕ → HeldLog → ℕ → List ℕ → Outcome → Type 0

-- an append call of a list
pub record AppendCall : Type 0 where
  -- the bytes of its event
  pub event : List ℕ
  -- its answer, and every byte of the buffer that it left
  pub outcome : Outcome

-- the log held after a list of them, the first call first
unfoldable pub held_at_end : HeldLog → List AppendCall → HeldLog
held_at_end held [] = held
held_at_end held (call ∷ calls) = held_at_end (held_after held call.outcome) calls

-- each call of the list was made under the terms, on the log held after the one before it
abbrev pub MadeInOrder : AppendRelation → List ℕ → HeldLog → List AppendCall → Type 0
MadeInOrder appends terms held [] = Unit {0}
MadeInOrder appends terms held (call ∷ calls) = appends terms held call.event call.outcome × MadeInOrder appends terms (held_after held call.outcome) calls

-- no event that was accepted is stamped before m; refused ones may hold anything
abbrev pub NoneEarlier : ℕ → List AppendCall → Type 0
NoneEarlier m calls = All (λ (call : AppendCall). Accepted call.outcome → m ≤ stamp_in call.event) calls

-- demand 3, first half: a report that was given, the append calls after it, and a later report
abbrev pub GivenLasts : AppendRelation → ReportRelation → Type 0
GivenLasts appends reports =
    (terms : List ℕ) (held : HeldLog) (m : ℕ) (page : List ℕ) (given : Outcome) → reports terms held m page given → Accepted given
    → (calls : List AppendCall) → MadeInOrder appends terms held calls → NoneEarlier m calls
    → (m' : ℕ) → m ≤ m' → (page' : List ℕ) (later : Outcome) → reports terms (held_at_end held calls) m' page' later → Accepted later
    → Remains value_width m given later

-- demand 3, second half: reports on two logs alike before m
abbrev pub AlikeGiveSame : ReportRelation → Type 0
AlikeGiveSame reports =
    (terms : List ℕ) (m : ℕ) (held held' : HeldLog) (page page' : List ℕ) (one other : Outcome)
    → reports terms held m page one → Accepted one → reports terms held' m page' other → Accepted other
    → bytes_before value_width terms m held ≡ bytes_before value_width terms m held'
    → SameReport value_width one other

-- demand 3 whole
abbrev pub CallsLast : AppendRelation → ReportRelation → Type 0
CallsLast appends reports = GivenLasts appends reports × AlikeGiveSame reports
