-- Demand 3 speaks of something: instances that compute. On the sample share, a report at 45 is given, of a log whose last record is stamped 60; an
-- append stamped 44 is refused, one stamped 45, below the last record, accepted; the report at 46 has one row more, which is struck. And under a
-- count: a report at 131 has the row that the count settled at 130; one more write, stamped 131, comes too late to change it. And over an event that
-- comes once, before its window: a report at 4 has the row of the failure at 3, which an append stamped 4 leaves as it is. Assumes nothing.
use Prim.Native.Nat.{ℕ}
use native.Mathlib.Omega.{arith}
use mathlib.Core.Path.{◌≡◌, refl}
use mathlib.Core.List.{List, [], ◌∷◌, ◌++◌, flatten}
use lib.ListN.{length}
use Rattle.format.specs.Records.{value_width}
use Rattle.calls.specs.Calls.{append}
use Rattle.calls.specs.Lasting.{Accepted, HeldLog, after_appends, NoneBefore, report_on, rows_given, rows_left, bytes_before}
use Rattle.format.proofs.CaseBytes.{word, leaf, plain, unbounded, O, detach_with_O, event, s_at, o_at}
use Rattle.calls.proofs.Computes.{computes}
use Rattle.calls.proofs.Sample.{terms, counting, start, log, writing, rest, row}

-- the sample log with its last write at 60, in a buffer of 80 bytes
abbrev pub held : HeldLog
held = record { buffer = log 60 ++ rest 24; used = 56 }

-- Written (5, 2) again, at 44, then Written (5, 3) at 45
abbrev events : List (List ℕ)
events = writing 44 2 ∷ writing 45 3 ∷ []

-- the held log after both
abbrev after : HeldLog
after = after_appends value_width terms held events

-- the premises of demand 3 hold, the first append is refused with 13, the second is accepted, and a row is struck
pub record Instance : Type 0 where
  -- the report at 45
  pub given : Accepted (report_on value_width terms held 45 (rest 54))
  -- one refused, one stamped 45
  pub none_before : NoneBefore value_width terms 45 held events
  -- the refused one
  pub refused : (append value_width terms held.buffer held.used (writing 44 2)).answer.number ≡ 13
  -- the used length afterwards
  pub used : after.used ≡ 69
  -- the report at 46
  pub later : Accepted (report_on value_width terms after 46 (rest 60))
  -- of its three rows two are left
  pub counts : ((report_on value_width terms after 46 (rest 60)).answer.value ≡ 3) × (length (rows_left value_width 45 (report_on value_width terms after 46 (rest 60))) ≡ 2)
  -- which are the rows given at 45
  pub rows : (flatten (rows_left value_width 45 (report_on value_width terms after 46 (rest 60))) ≡ row 1 10 ++ row 2 30) × (rows_given value_width (report_on value_width terms held 45 (rest 54)) ≡ row 1 10 ++ row 2 30)

-- two logs that differ from 45 on, neither an extension of the other; in this one the write at 129 is the first record
abbrev pub other : HeldLog
other = record { buffer = writing 129 2 ++ start; used = 56 }

-- the premises of the second half hold too, and the reports have rows
pub record AlikeInstance : Type 0 where
  -- the report of the one at 45
  pub one-given : Accepted (report_on value_width terms held 45 (rest 54))
  -- the report of the other at 45
  pub other-given : Accepted (report_on value_width terms other 45 (rest 40))
  -- alike before 45
  pub alike : bytes_before value_width terms 45 held ≡ bytes_before value_width terms 45 other
  -- two rows each
  pub counts : ((report_on value_width terms held 45 (rest 54)).answer.value ≡ 2) × ((report_on value_width terms other 45 (rest 40)).answer.value ≡ 2)
  -- and not the same log
  pub later-differ : (report_on value_width terms other 130 (rest 54)).left ≡ row 1 10 ++ (row 2 30 ++ row 5 129)

-- the sample log with a second write in the window, at 46: not more than 2, which the count asks for
abbrev pub counted : HeldLog
counted = record { buffer = log 45 ++ (writing 46 3 ++ rest 24); used = 69 }

-- a third one at 131, after the window
abbrev counted_after : HeldLog
counted_after = after_appends value_width counting counted (writing 131 4 ∷ [])

-- the premises of demand 3 hold under a count, and the row that it settled remains
pub record CountInstance : Type 0 where
  -- the report at 131
  pub given : Accepted (report_on value_width counting counted 131 (rest 60))
  -- one append stamped 131, which is accepted
  pub none_before : NoneBefore value_width counting 131 counted (writing 131 4 ∷ [])
  pub used : counted_after.used ≡ 82
  -- the report at 200
  pub later : Accepted (report_on value_width counting counted_after 200 (rest 60))
  -- the same three rows, discharged at 130 the last
  pub rows : (rows_given value_width (report_on value_width counting counted 131 (rest 60)) ≡ row 1 10 ++ (row 2 30 ++ row 4 130))
      × (flatten (rows_left value_width 131 (report_on value_width counting counted_after 200 (rest 60))) ≡ row 1 10 ++ (row 2 30 ++ row 4 130))

-- an authorization on S: always; O from 10 on, which comes once for an S; never (document 02, wish 4)
abbrev pub early_terms : List ℕ
early_terms = detach_with_O (leaf O (plain 10) unbounded)

-- S at 0 and its O at 3, before the window, in a buffer of 28 bytes
abbrev pub early : HeldLog
early = record { buffer = s_at 0 ++ o_at 3 ++ rest 10; used = 18 }

-- O again, in its window, and another S
abbrev early_events : List (List ℕ)
early_events = o_at 12 ∷ event 0 4 (8 ∷ []) ∷ []

-- the held log after both
abbrev early_after : HeldLog
early_after = after_appends value_width early_terms early early_events

-- a row of the S with key 7: stage, time
abbrev early_row : ℕ → ℕ → List ℕ
early_row stage t = stage ∷ 0 ∷ word 7 ++ word 7 ++ word 7 ++ word t

-- the premises of demand 3 hold where a leaf fails early, and its row remains
pub record EarlyInstance : Type 0 where
  -- the report at 4
  pub given : Accepted (report_on value_width early_terms early 4 (rest 60))
  -- none that is accepted is stamped before 4
  pub none_before : NoneBefore value_width early_terms 4 early early_events
  -- the O is refused with 13: it comes once
  pub refused : (append value_width early_terms early.buffer early.used (o_at 12)).answer.number ≡ 13
  -- the S is accepted
  pub used : early_after.used ≡ 27
  -- the report at 20
  pub later : Accepted (report_on value_width early_terms early_after 20 (rest 60))
  -- of its three rows two are left
  pub counts : ((report_on value_width early_terms early_after 20 (rest 60)).answer.value ≡ 3) × (length (rows_left value_width 4 (report_on value_width early_terms early_after 20 (rest 60))) ≡ 2)
  -- which are the rows given at 4, the last of them expired at 3
  pub rows : (rows_given value_width (report_on value_width early_terms early 4 (rest 60)) ≡ early_row 1 0 ++ early_row 3 3)
      × (flatten (rows_left value_width 4 (report_on value_width early_terms early_after 20 (rest 60))) ≡ early_row 1 0 ++ early_row 3 3)

-- all of it by computation
pub instance : Instance
unfolding computes
instance = record {
  given = refl;
  none_before = (λ e. absurd (omega arith), (λ e. omega arith, tt));
  refused = refl;
  used = refl;
  later = refl;
  counts = (refl, refl);
  rows = (refl, refl);
}

-- and this by computation
pub alike-instance : AlikeInstance
unfolding computes
alike-instance = record { one-given = refl; other-given = refl; alike = refl; counts = (refl, refl); later-differ = refl }

-- so is this
pub count-instance : CountInstance
unfolding computes
count-instance = record { given = refl; none_before = (λ e. omega arith, tt); used = refl; later = refl; rows = (refl, refl) }

-- and this
pub early-instance : EarlyInstance
unfolding computes
early-instance = record {
  given = refl;
  none_before = (λ e. omega arith, (λ e. omega arith, tt));
  refused = refl;
  used = refl;
  later = refl;
  counts = (refl, refl);
  rows = (refl, refl);
}
