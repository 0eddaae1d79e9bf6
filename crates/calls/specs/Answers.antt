-- What each case of the answers stands for: document 01, 'Calls', the table and the paragraph after it. Assumes nothing: these are definitions.
use Rattle.std.specs.Prelude.{ℕ, ◌+◌, ◌*◌, ◌/◌, ◌%◌, Result, Ok, Err}
use Rattle.calls.specs.declared.Refusal.{Refusal}
use Rattle.calls.specs.declared.Refusal.TheVariants.{TermsTooLong, BrokenGrammar, FieldOutOfRange, CitationTooHigh, NothingShared, UsedTooLong, BrokenRecord, KeyRepeats, PageTooShort, NotOneRecord, KeyPresent, NoRoom, NoSchema, NoSubject}
use Rattle.meaning.specs.declared.Entries.{Entries}
use Rattle.meaning.specs.Rows.{not_yet}

-- the table's number for each refusal (table, first column); none has 0, 8 or 12; 8 and 12 are never given (document 02, wish 3)
abbrev pub refusal_number : Refusal → ℕ
refusal_number TermsTooLong = 1
refusal_number BrokenGrammar = 2
refusal_number FieldOutOfRange = 3
refusal_number CitationTooHigh = 4
refusal_number NothingShared = 5
refusal_number UsedTooLong = 6
refusal_number BrokenRecord = 7
refusal_number KeyRepeats = 9
refusal_number PageTooShort = 10
refusal_number NotOneRecord = 11
refusal_number KeyPresent = 13
refusal_number NoRoom = 14
refusal_number NoSchema = 15
refusal_number NoSubject = 16

-- what calls 1 to 4 return (after the table)
pub record Answer : Type 0 where
  -- 0, or the refusal's number
  pub number : ℕ
  -- a count or a length; 0 with a refusal
  pub value : ℕ

-- what call 5 returns (after the table)
pub record StandingAnswer : Type 0 where
  -- 0, or the refusal's number
  pub number : ℕ
  -- five times not yet with a refusal
  pub entries : Entries

-- calls 1 and 2 count nothing, whatever a check hands on (after the table)
unfoldable pub checked_answer : {A : Type 0} → Result A Refusal → Answer
checked_answer (Ok _) = record { number = 0; value = 0 }
checked_answer (Err x) = record { number = refusal_number x; value = 0 }

-- an append gives a length, a report a count (calls 3 and 4)
unfoldable pub counted_answer : Result ℕ Refusal → Answer
counted_answer (Ok n) = record { number = 0; value = n }
counted_answer (Err x) = record { number = refusal_number x; value = 0 }

-- a standing gives entries (call 5)
unfoldable pub standing_answer : Result Entries Refusal → StandingAnswer
standing_answer (Ok e) = record { number = 0; entries = e }
standing_answer (Err x) = record { number = refusal_number x; entries = not_yet }

-- the answer as the library service gets it, in 64 bits (calls, last sentence)
unfoldable pub packed : Answer → ℕ
packed a = a.number * 4294967296 + a.value

-- the answer that the library service splits this number into (calls, last sentence)
unfoldable pub unpacked : ℕ → Answer
unpacked n = record { number = n / 4294967296; value = n % 4294967296 }
