-- The sample share of document 01: its bytes, and the cases A to J as one list over the calls, closed by computation. Assumes nothing.
use Prim.Native.Nat.{ℕ}
use mathlib.Core.Path.{refl}
use mathlib.Core.List.{List, [], ◌∷◌, ◌++◌}
use lib.ListN.{replicate}
use Rattle.format.specs.Records.{value_width}
use Rattle.calls.specs.Answers.{Answer}
use Rattle.calls.specs.Calls.{check_terms, Outcome, append, report}
use Rattle.meaning.proofs.Cases.{Case, case, Hold}
use Rattle.format.proofs.CaseBytes.{word}
use Rattle.calls.proofs.Computes.{computes}

-- kinds Shared, Revoked and Written; a prohibition: always; Revoked; and a consequent
abbrev pub terms_with : List ℕ → List ℕ
terms_with consequent =
    0x01 ∷ 0x00 ∷ 0x0F ∷ 0x00 ∷ 0x02
    ∷ 0x01 ∷ 0x01 ∷ 0x04 ∷ 0x00 ∷ 0x02
    ∷ 0x01 ∷ 0x02 ∷ 0x14 ∷ 0x00 ∷ 0x04
    ∷ 0x02 ∷ 0x03 ∷ 0x00 ∷ 0x01 ∷ 0x03
    ∷ 0x07
    ∷ 0x03 ∷ 0x00 ∷ 0x01 ∷ 0x00 ∷ 0x00 ∷ 0x00 ∷ 0x00 ∷ 0x00 ∷ 0x00 ∷ 0x00 ∷ 0x03 ∷ 0x00 ∷ 0x00 ∷ 0x00 ∷ 0x00 ∷ 0x00 ∷ 0x00
    ∷ consequent

-- the document's terms; consequent: Written from Revoked until Revoked+100
abbrev pub terms : List ℕ
terms =
    terms_with
    (0x03 ∷ 0x00 ∷ 0x02 ∷ 0x01 ∷ 0x00 ∷ 0x01 ∷ 0x00 ∷ 0x00 ∷ 0x00 ∷ 0x00 ∷ 0x01 ∷ 0x00 ∷ 0x01 ∷ 0x64 ∷ 0x00 ∷ 0x00 ∷ 0x00 ∷ [])

-- the same with a count: more than 2 Written from Revoked until Revoked+100 (document 02, wish 1)
abbrev pub counting : List ℕ
counting =
    terms_with
    (0x08 ∷ 0x02 ∷ 0x02 ∷ 0x00 ∷ 0x00 ∷ 0x00 ∷ 0x01 ∷ 0x00 ∷ 0x01 ∷ 0x00 ∷ 0x00 ∷ 0x00 ∷ 0x00 ∷ 0x01 ∷ 0x00 ∷ 0x01 ∷ 0x64 ∷ 0x00 ∷ 0x00 ∷ 0x00 ∷ [])

-- the stage with that form, of the schema 0 itself, at any time, as the consequent
abbrev stage_cited : ℕ → List ℕ
stage_cited form =
    terms_with
    (0x03 ∷ form ∷ 0x00 ∷ 0x00 ∷ 0x00 ∷ 0x00 ∷ 0x00 ∷ 0x00 ∷ 0x00 ∷ 0x00 ∷ 0x03 ∷ 0x00 ∷ 0x00 ∷ 0x00 ∷ 0x00 ∷ 0x00 ∷ 0x00 ∷ [])

-- the same stage cited in both bounds: Written from it until 100 minutes later
abbrev bound_cited : ℕ → List ℕ
bound_cited form =
    terms_with
    (0x03 ∷ 0x00 ∷ 0x02 ∷ 0x01 ∷ form ∷ 0x00 ∷ 0x00 ∷ 0x00 ∷ 0x00 ∷ 0x00 ∷ 0x01 ∷ form ∷ 0x00 ∷ 0x64 ∷ 0x00 ∷ 0x00 ∷ 0x00 ∷ [])

-- Written (5, n) at t
abbrev pub writing : ℕ → ℕ → List ℕ
writing t n = 2 ∷ (word t ++ (word 5 ++ word n))

-- the sample log without its last record, 43 bytes: Shared at 10 (7, 3, 5, 9), Written at 20 (5, 1), Revoked at 30 (5)
abbrev pub start : List ℕ
start = (0 ∷ (word 10 ++ (word 7 ++ (word 3 ++ (word 5 ++ word 9))))) ++ (writing 20 1 ++ (1 ∷ (word 30 ++ word 5)))

-- the log with its last write at t, 56 bytes; the sample's is at 45
abbrev pub log : ℕ → List ℕ
log t = start ++ writing t 2

-- bytes that a call has not written
abbrev pub rest : ℕ → List ℕ
rest n = replicate n 0xEE

-- a row of a share of owner 3 to player 9: stage, schema 0, share, owner, player, time; of the sample's share, 5
abbrev pub share_row : ℕ → ℕ → ℕ → List ℕ
share_row share stage t = stage ∷ 0 ∷ (word share ++ (word 3 ++ (word 9 ++ word t)))

abbrev pub row : ℕ → ℕ → List ℕ
row = share_row 5

-- number, count or length, and every byte of page or buffer afterwards
abbrev pub gives : ℕ → ℕ → List ℕ → Outcome
gives number value left = record { answer = record { number = number; value = value }; left = left }

-- a check's outcome: it writes nothing
abbrev pub told : Answer → Outcome
told answer = record { answer = answer; left = [] }

-- the cases A to J
abbrev cases : List (Case Outcome)
cases =
    -- A: at 46 the write at 45 violates
    case (report value_width terms (log 45) 56 46 (rest 60)) (gives 0 3 (row 1 10 ++ (row 2 30 ++ (row 5 45 ++ rest 6))))
    -- B: at 45 it does not yet
    ∷ case (report value_width terms (log 45) 56 45 (rest 60)) (gives 0 2 (row 1 10 ++ (row 2 30 ++ rest 24)))
    -- C: nothing is used, then nothing is lent
    ∷ case (report value_width terms (log 45) 0 46 (rest 60)) (gives 0 0 (rest 60))
    ∷ case (report value_width terms [] 0 46 []) (gives 0 0 [])
    -- D: created at 10 shows from 11 on
    ∷ case (report value_width terms (log 45) 56 10 (rest 60)) (gives 0 0 (rest 60))
    ∷ case (report value_width terms (log 45) 56 11 (rest 60)) (gives 0 1 (row 1 10 ++ rest 42))
    -- E: without the write at 45 the prohibition is kept when its window ends at 130
    ∷ case (report value_width terms (log 45) 43 130 (rest 60)) (gives 0 2 (row 1 10 ++ (row 2 30 ++ rest 24)))
    ∷ case (report value_width terms (log 45) 43 131 (rest 60)) (gives 0 3 (row 1 10 ++ (row 2 30 ++ (row 4 130 ++ rest 6))))
    -- F: a write at the revocation itself violates
    ∷ case (report value_width terms (log 30) 56 46 (rest 60)) (gives 0 3 (row 1 10 ++ (row 2 30 ++ (row 5 30 ++ rest 6))))
    -- G: 129 is the last minute inside the window, 130 the first outside
    ∷ case (report value_width terms (log 129) 56 140 (rest 60)) (gives 0 3 (row 1 10 ++ (row 2 30 ++ (row 5 129 ++ rest 6))))
    ∷ case (report value_width terms (log 130) 56 140 (rest 60)) (gives 0 3 (row 1 10 ++ (row 2 30 ++ (row 4 130 ++ rest 6))))
    -- H: three rows need 54 bytes; one byte less is refused, and the page stays
    ∷ case (report value_width terms (log 45) 56 46 (rest 53)) (gives 10 0 (rest 53))
    ∷ case (report value_width terms (log 45) 56 46 (rest 54)) (gives 0 3 (row 1 10 ++ (row 2 30 ++ row 5 45)))
    -- I: Written (5, 3) makes the log 69 bytes long, stamped 44, below the last record (document 02, wish 3), as well as stamped 45
    ∷ case (append value_width terms (log 45 ++ rest 20) 56 (writing 44 3)) (gives 0 69 (log 45 ++ (writing 44 3 ++ rest 7)))
    ∷ case (append value_width terms (log 45 ++ rest 20) 56 (writing 45 3)) (gives 0 69 (log 45 ++ (writing 45 3 ++ rest 7)))
    -- J: the consequent may cite its own schema's detached, and not its discharged
    ∷ case (told (check_terms (stage_cited 2))) (gives 0 0 [])
    ∷ case (told (check_terms (bound_cited 2))) (gives 0 0 [])
    ∷ case (told (check_terms (stage_cited 4))) (gives 4 0 [])
    ∷ case (told (check_terms (bound_cited 4))) (gives 4 0 [])
    ∷ []

-- A to J: each call of the list gives what document 01 says
pub sample : Hold cases
unfolding computes
sample = refl
