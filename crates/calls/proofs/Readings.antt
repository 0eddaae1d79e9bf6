-- Words of document 01 that could be read in a second way and that its sample leaves open, as far as they are about calls: each case is a call
-- beside the outcome that the words give, closed by computation. B3 and C1 to C6 number these readings. Beside them stand refusals 1, 6, 7, 9 to
-- 11 and 13 to 16 with their nearest accepted neighbours, their order, stamps in any order (document 02, wish 3), and what calls leave. The lists
-- of the layers below are over data and over the conditions of single refusals; three parts here join them, from bytes to rows, one of these for
-- counts (document 02, wish 1) and one for events that come once (wish 4). The expected outcomes are written from the documents. Assumes nothing.
use Prim.Native.Nat.{ℕ, suc, ◌+◌, ◌-◌, ◌*◌, ◌^◌}
use mathlib.Core.Path.{refl}
use mathlib.Core.List.{List, [], ◌∷◌, ◌++◌, flatten}
use lib.ListN.{length, replicate}
use Rattle.meaning.specs.declared.Time.{Time}
use Rattle.meaning.specs.declared.Time.TheVariants.{At, Never}
use Rattle.format.specs.Records.{value_width}
use Rattle.calls.specs.Answers.{StandingAnswer}
use Rattle.calls.specs.Calls.{check_terms, check_log, Outcome, append, report, standing}
use Rattle.meaning.proofs.Cases.{Case, case, Hold, hold-all}
use Rattle.format.proofs.CaseBytes.{word, kind, schema, leaf, more_than, and, or, except, always, plain, plus, minus, unbounded, S, E, F, created, detached, expired, discharged, violated, norm, clauses, plain_schema, O, kinds_with_O, detach_with_O, apart_with, X, event, s_at, e_at, f_at, o_at, nothing, waiting, E10, F20}
use Rattle.calls.proofs.Computes.{computes}
use Rattle.calls.proofs.Sample.{rest, gives, told}
use Rattle.calls.proofs.Sample as sample

-- call 4 on a whole log at the last moment there is, with a page of 144 bytes, which holds eight rows
abbrev reported : List ℕ → List ℕ → Outcome
reported terms log = report value_width terms log (length log) 4294967295 (rest 144)

-- accepted, with these rows and every other byte of the page as it was
abbrev rows : List (List ℕ) → Outcome
rows given = gives 0 (length given) (flatten given ++ rest (144 - 18 * length given))

-- a row of schema j for an S with that key, which stands for both parties: stage, then time
abbrev row_on : ℕ → ℕ → ℕ → ℕ → List ℕ
row_on j key stage t = stage ∷ j ∷ word key ++ word key ++ word key ++ word t

abbrev row : ℕ → ℕ → List ℕ
row stage t = row_on 0 7 stage t

-- a clause as the detach clause of an authorization that is always created, S at 0: detached is its occurrence, expired its failure
abbrev detaching : List ℕ → List ℕ → Outcome
detaching clause log = reported (norm 2 always clause nothing) (s_at 0 ++ log)

abbrev occurs_at : ℕ → Outcome
occurs_at t = rows (row 1 0 ∷ row 2 t ∷ [])

abbrev fails_at : ℕ → Outcome
fails_at t = rows (row 1 0 ∷ row 3 t ∷ [])

abbrev does_neither : Outcome
does_neither = rows (row 1 0 ∷ [])

-- schema 0 is violated at the last minute, 4,294,967,294; schema 1 detaches with F before that plus 2, which does not fit 32 bits
abbrev end_of_time : List ℕ
end_of_time =
    norm 1 always always (leaf E (plain 0) (plus S 2147483647))
    ++ schema 2 0 0 0 always (leaf F (plain 0) (plus (violated 0) 2)) nothing

-- an authorization as schema 0, always; E before 10; F before 20; and schema 1, whose detach clause cites it
abbrev citing : List ℕ → List ℕ → Outcome
citing clause log = reported (norm 2 always E10 F20 ++ schema 2 0 0 0 always clause nothing) log

-- reading and meaning joined: each sign of a bound, each form, each type of norm and each item but 08 (that is in `count_cases`), from bytes to rows in
-- bytes. What they mean is told apart case by case in the list over the meaning
abbrev joined_cases : List (Case Outcome)
joined_cases =
    -- items 01, 02, 03 and 07; types 1 to 4; form 0; sign 0: always; E before 10; F before 20
    case (reported (norm 1 always E10 F20) (s_at 0 ++ f_at 3 ++ e_at 5)) (rows (row 1 0 ∷ row 2 5 ∷ row 4 3 ∷ []))
    ∷ case (reported (norm 2 always E10 F20) (s_at 0 ++ f_at 3 ++ e_at 5)) (rows (row 1 0 ∷ row 2 5 ∷ row 4 5 ∷ []))
    ∷ case (reported (norm 3 always E10 F20) (s_at 0 ++ f_at 3 ++ e_at 5)) (rows (row 1 0 ∷ row 2 5 ∷ row 5 5 ∷ []))
    ∷ case (reported (norm 4 always E10 F20) (s_at 0 ++ f_at 3 ++ e_at 5)) (rows (row 1 0 ∷ row 2 5 ∷ row 4 5 ∷ []))
    -- items 04, 05 and 06
    ∷ case (detaching (and E10 F20) (e_at 5 ++ f_at 8)) (occurs_at 8)
    ∷ case (detaching (or E10 F20) (e_at 5 ++ f_at 8)) (occurs_at 5)
    ∷ case (detaching (except E10 F20) (e_at 5 ++ f_at 8)) (fails_at 8)
    ∷ case (detaching (except E10 F20) (e_at 5)) (occurs_at 20)
    -- signs 0 and 3, and 1 and 2 below and above
    ∷ case (detaching (leaf E (plain 5) unbounded) (e_at 4)) does_neither
    ∷ case (detaching (leaf E (plain 5) unbounded) (e_at 5)) (occurs_at 5)
    ∷ case (detaching (leaf E (plus F 3) unbounded) (f_at 5 ++ e_at 7)) does_neither
    ∷ case (detaching (leaf E (plus F 3) unbounded) (f_at 5 ++ e_at 8)) (occurs_at 8)
    ∷ case (detaching (leaf E (minus F 3) unbounded) (e_at 17 ++ f_at 20)) (occurs_at 20)
    ∷ case (detaching (leaf E (plain 0) (plus F 3)) (f_at 5 ++ e_at 8)) (fails_at 8)
    ∷ case (detaching (leaf E (plain 0) (minus F 3)) (e_at 17 ++ f_at 20)) (fails_at 20)
    -- forms 1 to 4, of schema 0; 5, with the largest numbers there are
    ∷ case
    (reported (norm 2 E10 F20 nothing ++ schema 2 0 0 0 always (leaf (created 0) (plain 0) unbounded) nothing) (s_at 0 ++ e_at 5 ++ f_at 8))
    (rows (row 1 5 ∷ row 2 8 ∷ row_on 1 7 1 0 ∷ row_on 1 7 2 5 ∷ []))
    ∷ case
    (citing (leaf (detached 0) (plain 0) unbounded) (s_at 0 ++ e_at 5 ++ f_at 8))
    (rows (row 1 0 ∷ row 2 5 ∷ row 4 8 ∷ row_on 1 7 1 0 ∷ row_on 1 7 2 5 ∷ []))
    ∷ case (citing (leaf (expired 0) (plain 0) (plain 11)) (s_at 0)) (rows (row 1 0 ∷ row 3 10 ∷ row_on 1 7 1 0 ∷ row_on 1 7 2 10 ∷ []))
    ∷ case
    (citing (leaf (discharged 0) (plain 0) unbounded) (s_at 0 ++ e_at 5 ++ f_at 8))
    (rows (row 1 0 ∷ row 2 5 ∷ row 4 8 ∷ row_on 1 7 1 0 ∷ row_on 1 7 2 8 ∷ []))
    ∷ case
    (reported end_of_time (s_at 2147483647 ++ f_at 2147483647))
    (rows (row 1 2147483647 ∷ row 2 2147483647 ∷ row 5 4294967294 ∷ row_on 1 7 1 2147483647 ∷ row_on 1 7 2 4294967294 ∷ []))
    -- numbers of four bytes; key and parties by their place among the attributes that the mask has, 2, 8 and 15
    ∷ case
    (reported (kind 0 0x8104 15 ++ schema 2 0 8 2 always always nothing) (event 0 0x01020304 (0x11121314 ∷ 0x21222324 ∷ 0x31323334 ∷ [])))
    (rows
    ((0x01 ∷ 0x00 ∷ 0x34 ∷ 0x33 ∷ 0x32 ∷ 0x31 ∷ 0x24 ∷ 0x23 ∷ 0x22 ∷ 0x21 ∷ 0x14 ∷ 0x13 ∷ 0x12 ∷ 0x11 ∷ 0x04 ∷ 0x03 ∷ 0x02 ∷ 0x01 ∷ [])
    ∷ (0x02 ∷ 0x00 ∷ 0x34 ∷ 0x33 ∷ 0x32 ∷ 0x31 ∷ 0x24 ∷ 0x23 ∷ 0x22 ∷ 0x21 ∷ 0x14 ∷ 0x13 ∷ 0x12 ∷ 0x11 ∷ 0x04 ∷ 0x03 ∷ 0x02 ∷ 0x01 ∷ [])
    ∷ []))
    -- schema by schema, in each the subjects in log order, for each the stages 1 to 5
    ∷ case
    (reported (norm 2 always always nothing ++ schema 2 0 0 0 always nothing nothing) (event 0 1 (9 ∷ []) ++ e_at 1 ++ event 0 2 (7 ∷ [])))
    (rows
    (row_on 0 9 1 1 ∷ row_on 0 9 2 1 ∷ row_on 0 7 1 2 ∷ row_on 0 7 2 2
    ∷ row_on 1 9 1 1 ∷ row_on 1 9 3 1 ∷ row_on 1 7 1 2 ∷ row_on 1 7 3 2
    ∷ []))
    ∷ []

-- call 4 on the sample log with two more writes, at 46 and 47, of which so many bytes are used, under the sample's terms with a count: more than 2
abbrev strikes : ℕ → ℕ → Outcome
strikes used m = report value_width sample.counting (sample.log 45 ++ sample.writing 46 3 ++ sample.writing 47 4) used m (rest 60)

-- item 08 from bytes to rows
abbrev count_cases : List (Case Outcome)
count_cases =
    -- settled when the window ends, with more records than the threshold in it
    case (detaching (more_than 1 1 (plain 0) (plain 10)) (e_at 1 ++ e_at 2)) (occurs_at 10)
    ∷ case (detaching (more_than 1 1 (plain 0) (plain 10)) (e_at 1 ++ e_at 10)) (fails_at 10)
    -- the threshold has four bytes
    ∷ case (detaching (more_than 256 1 (plain 0) (plain 10)) (e_at 1)) (fails_at 10)
    ∷ case (detaching (more_than 0 1 (plain 0) (plain 10)) (e_at 1)) (occurs_at 10)
    -- each bound by its own bytes
    ∷ case (detaching (more_than 0 1 (plus F 3) (plus F 5)) (f_at 5 ++ e_at 8)) (occurs_at 10)
    ∷ case (detaching (more_than 0 1 (plus F 3) (plus F 5)) (f_at 5 ++ e_at 7)) (fails_at 10)
    ∷ case (detaching (more_than 0 1 (minus F 5) (minus F 3)) (e_at 16 ++ f_at 20)) (occurs_at 20)
    ∷ case (detaching (more_than 0 1 (minus F 5) (minus F 3)) (e_at 17 ++ f_at 20)) (fails_at 20)
    -- a count and what stands after it
    ∷ case (detaching (and (more_than 0 1 (plain 0) (plain 10)) F20) (e_at 5 ++ f_at 8)) (occurs_at 10)
    ∷ case (detaching (except F20 (more_than 0 1 (plain 0) (plain 10))) (f_at 8)) (occurs_at 10)
    -- three strikes: writes at 45, 46 and 47 violate when the window ends at 130; two do not
    ∷ case (strikes 82 131) (gives 0 3 (sample.row 1 10 ++ sample.row 2 30 ++ sample.row 5 130 ++ rest 6))
    ∷ case (strikes 82 130) (gives 0 2 (sample.row 1 10 ++ sample.row 2 30 ++ rest 24))
    ∷ case (strikes 69 131) (gives 0 3 (sample.row 1 10 ++ sample.row 2 30 ++ sample.row 4 130 ++ rest 6))
    ∷ []

-- call 1, and the number it returns
abbrev terms : List ℕ → ℕ → Case Outcome
terms bytes number = case (told (check_terms bytes)) (gives number 0 [])

-- refusal 1, and the order of refusals 2 to 5 over the whole file
abbrev terms_cases : List (Case Outcome)
terms_cases =
    -- 1 goes by the length alone
    terms (replicate 16385 0) 1
    ∷ terms (replicate 16384 0) 2
    -- B3: the lowest number over the whole file
    ∷ terms
    (apart_with (leaf X (plain 0) unbounded) ++ schema 2 0 0 0 (leaf (created 1) (plain 0) unbounded) always always ++ schema 5 0 0 0 always always always)
    3
    ∷ terms (apart_with (leaf X (plain 0) unbounded) ++ schema 2 0 0 0 (leaf (created 1) (plain 0) unbounded) always always) 4
    ∷ terms (apart_with (leaf (created 1) (plain 0) unbounded) ++ schema 2 2 1 1 always always always) 4
    ∷ terms (apart_with (more_than 0 2 (plain 0) (plus (detached 0) 0)) ++ schema 2 0 0 0 always always (more_than 0 1 (plain 0) unbounded)) 3
    ∷ terms (apart_with (more_than 0 2 (plain 0) (plus (detached 0) 0))) 4
    -- 5, where nothing before it holds
    ∷ terms (apart_with (more_than 0 2 (plain 0) (plain 10))) 5
    ∷ terms (apart_with (leaf X (plain 0) unbounded)) 5
    ∷ []

-- a norm on S without leaves, for the calls on logs
abbrev good : List ℕ
good = clauses always always always

-- call 2 on a whole log, and the number it returns
abbrev logged : List ℕ → ℕ → Case Outcome
logged log number = case (told (check_log value_width good log (length log))) (gives number 0 [])

abbrev log_cases : List (Case Outcome)
log_cases =
    -- C2: only the used bytes count; none is an accepted log
    logged [] 0
    ∷ case (told (check_log value_width good (rest 9) 0)) (gives 0 0 [])
    ∷ case (told (check_log value_width good (s_at 0 ++ rest 5) 9)) (gives 0 0 [])
    -- 6: over the buffer, over 32,768; at 32,768 the bytes are looked at
    ∷ case (told (check_log value_width good (s_at 0) 10)) (gives 6 0 [])
    ∷ case (told (check_log value_width good (replicate 32769 9) 32768)) (gives 7 0 [])
    ∷ case (told (check_log value_width good (replicate 32769 9) 32769)) (gives 6 0 [])
    -- 7: cut short, undeclared kind, stamped too high
    ∷ logged (s_at 0) 0
    ∷ case (told (check_log value_width good (s_at 0) 8)) (gives 7 0 [])
    ∷ logged (0 ∷ []) 7
    ∷ logged (s_at 0 ++ (1 ∷ [])) 7
    ∷ logged (event 3 0 (7 ∷ [])) 7
    ∷ logged (s_at 2147483647) 0
    ∷ logged (s_at 2147483648) 7
    -- a stamp may be equal to the one before it, or below: 8 is never given (document 02, wish 3)
    ∷ logged (s_at 5 ++ e_at 5) 0
    ∷ logged (s_at 5 ++ e_at 4) 0
    ∷ logged (s_at 5 ++ e_at 6 ++ e_at 5) 0
    -- 9: one kind and one key; the key alone decides, and only within a kind
    ∷ logged (s_at 1 ++ event 0 2 (8 ∷ [])) 0
    ∷ logged (s_at 1 ++ s_at 2) 9
    ∷ logged (s_at 1 ++ e_at 2 ++ s_at 3) 9
    ∷ logged (s_at 1 ++ s_at 2 ++ s_at 3) 9
    ∷ logged (event 1 1 (7 ∷ 5 ∷ []) ++ event 2 1 (7 ∷ 5 ∷ [])) 0
    ∷ logged (event 1 1 (7 ∷ 5 ∷ []) ++ event 1 1 (8 ∷ 5 ∷ [])) 9
    ∷ logged (event 1 1 (7 ∷ 5 ∷ []) ++ event 1 1 (7 ∷ 6 ∷ [])) 0
    ∷ logged (event 1 20 (7 ∷ 5 ∷ []) ++ event 1 10 (8 ∷ 5 ∷ [])) 9
    -- C1: 7 and 9 each over the whole log, the lower first, whatever the stamps are
    ∷ logged (s_at 5 ++ e_at 4 ++ event 3 6 (7 ∷ [])) 7
    ∷ logged (s_at 5 ++ s_at 5 ++ event 3 6 (7 ∷ [])) 7
    ∷ logged (s_at 5 ++ s_at 5 ++ e_at 4) 9
    -- the faults of terms come before those of the log
    ∷ case (told (check_log value_width (kind 0 0 0 ++ plain_schema) (s_at 0) 10)) (gives 3 0 [])
    ∷ []

-- call 3 on S at 3 with room for an event of 9 bytes and one byte more
abbrev buffer : List ℕ
buffer = s_at 3 ++ rest 10

abbrev appended : List ℕ → Outcome
appended bytes = append value_width good buffer 9 bytes

abbrev append_cases : List (Case Outcome)
append_cases =
    -- C3: an event's stamp may be equal to the last one or below the first: 12 is never given (document 02, wish 3)
    case (appended (event 0 3 (8 ∷ []))) (gives 0 18 (s_at 3 ++ event 0 3 (8 ∷ []) ++ rest 1))
    ∷ case (appended (event 0 2 (8 ∷ []))) (gives 0 18 (s_at 3 ++ event 0 2 (8 ∷ []) ++ rest 1))
    ∷ case (append value_width good buffer 0 (event 0 2 (8 ∷ []))) (gives 0 9 (event 0 2 (8 ∷ []) ++ rest 10))
    -- C3: what 7 turns away in a log, 11 turns away in an event: none, cut short, longer, two records, undeclared kind, stamped too high
    ∷ case (appended []) (gives 11 0 buffer)
    ∷ case (appended (0 ∷ word 3 ++ (8 ∷ 0 ∷ 0 ∷ []))) (gives 11 0 buffer)
    ∷ case (appended (event 0 3 (8 ∷ []) ++ (0 ∷ []))) (gives 11 0 buffer)
    ∷ case (appended (event 0 3 (8 ∷ []) ++ event 0 3 (9 ∷ []))) (gives 11 0 buffer)
    ∷ case (appended (event 3 3 (8 ∷ []))) (gives 11 0 buffer)
    ∷ case (appended (event 0 2147483648 (8 ∷ []))) (gives 11 0 buffer)
    ∷ case (appended (event 0 2147483647 (8 ∷ []))) (gives 0 18 (s_at 3 ++ event 0 2147483647 (8 ∷ []) ++ rest 1))
    -- C3: 13 by kind and key, anywhere in the log, whatever the stamp
    ∷ case (appended (s_at 4)) (gives 13 0 buffer)
    ∷ case (appended (s_at 2)) (gives 13 0 buffer)
    ∷ case (append value_width good (s_at 3 ++ e_at 4 ++ rest 9) 22 (s_at 4)) (gives 13 0 (s_at 3 ++ e_at 4 ++ rest 9))
    ∷ case (append value_width good (s_at 3 ++ e_at 4 ++ rest 13) 22 (event 1 5 (7 ∷ 4 ∷ []))) (gives 13 0 (s_at 3 ++ e_at 4 ++ rest 13))
    ∷ case (append value_width good (s_at 3 ++ rest 13) 9 (event 1 3 (7 ∷ 7 ∷ []))) (gives 0 22 (s_at 3 ++ event 1 3 (7 ∷ 7 ∷ [])))
    -- C3: 14 comes last: the event has to fit the buffer; a repeat that doesn't fit is 13
    ∷ case (append value_width good (s_at 3 ++ rest 9) 9 (event 0 3 (8 ∷ []))) (gives 0 18 (s_at 3 ++ event 0 3 (8 ∷ [])))
    ∷ case (append value_width good (s_at 3 ++ rest 8) 9 (event 0 3 (8 ∷ []))) (gives 14 0 (s_at 3 ++ rest 8))
    ∷ case (append value_width good (s_at 3) 9 (s_at 3)) (gives 13 0 (s_at 3))
    -- C4: the faults of terms and log come before the event's
    ∷ case (append value_width good (s_at 3 ++ s_at 2 ++ rest 9) 18 []) (gives 9 0 (s_at 3 ++ s_at 2 ++ rest 9))
    ∷ case (append value_width good (s_at 3 ++ e_at 2 ++ rest 9) 22 []) (gives 11 0 (s_at 3 ++ e_at 2 ++ rest 9))
    ∷ case (append value_width good (s_at 3) 10 []) (gives 6 0 (s_at 3))
    ∷ case (append value_width (good ++ (0 ∷ [])) (s_at 3) 9 []) (gives 2 0 (s_at 3))
    ∷ []

-- call 5, with its entries as numbers: 0 is not yet, else one more than the time
abbrev entry : Time → ℕ
entry (At t) = suc t
entry Never = 0

abbrev shown : StandingAnswer → Outcome
shown a =
    gives a.number 0
    (entry a.entries.created ∷ entry a.entries.detached ∷ entry a.entries.expired ∷ entry a.entries.discharged ∷ entry a.entries.violated ∷ [])

-- accepted, with these entries; refused, with five entries not yet
abbrev stands : Time → Time → Time → Time → Time → Outcome
stands c d e s v = gives 0 0 (entry c ∷ entry d ∷ entry e ∷ entry s ∷ entry v ∷ [])

abbrev not_standing : ℕ → Outcome
not_standing number = gives number 0 (0 ∷ 0 ∷ 0 ∷ 0 ∷ 0 ∷ [])

-- schema 0, a prohibition: always; E before 10; always. Schema 1, a commitment on the same S: always in each clause
abbrev two_norms : List ℕ
two_norms = norm 3 always E10 always ++ schema 1 0 0 0 always always always

-- S with key 7 at 0, S with key 8 at 4, E of the first at 5
abbrev two_log : List ℕ
two_log = s_at 0 ++ event 0 4 (8 ∷ []) ++ e_at 5

abbrev standing_at : ℕ → ℕ → ℕ → Outcome
standing_at j key m = shown (standing value_width two_norms two_log (length two_log) j key m)

abbrev call_cases : List (Case Outcome)
call_cases =
    -- 10: the page is measured before anything is written; C5: no rows fit on no bytes
    case (report value_width good (s_at 3) 9 4 (rest 18)) (gives 10 0 (rest 18))
    ∷ case (report value_width (clauses always waiting nothing) (s_at 3) 9 4 (rest 17)) (gives 10 0 (rest 17))
    ∷ case (report value_width (clauses always waiting nothing) (s_at 3) 9 4 (rest 18)) (gives 0 1 (row 1 3))
    ∷ case (report value_width good (s_at 3) 9 3 []) (gives 0 0 [])
    -- the faults of terms and log come before 10
    ∷ case (report value_width good (s_at 3 ++ s_at 2) 18 4 []) (gives 9 0 [])
    ∷ case (report value_width (good ++ (0 ∷ [])) (s_at 3) 10 4 []) (gives 2 0 [])
    -- a standing has the times that the rows would carry, of its own schema and subject
    ∷ case (standing_at 0 7 6) (stands (At 0) (At 5) Never Never (At 5))
    ∷ case (standing_at 0 7 5) (stands (At 0) Never Never Never Never)
    ∷ case (standing_at 1 7 6) (stands (At 0) (At 0) Never (At 0) Never)
    ∷ case (standing_at 0 8 10) (stands (At 4) Never Never Never Never)
    ∷ case (standing_at 0 8 4294967295) (stands (At 4) Never (At 10) Never Never)
    ∷ case (standing_at 1 8 6) (stands (At 4) (At 4) Never (At 4) Never)
    -- C6: 15, then 16, which asks for the stamp alone: before the moment, with no stage yet if need be
    ∷ case (standing_at 2 7 9) (not_standing 15)
    ∷ case (standing_at 2 9 9) (not_standing 15)
    ∷ case (standing_at 0 9 9) (not_standing 16)
    ∷ case (standing_at 0 5 9) (not_standing 16)
    ∷ case (standing_at 0 8 4) (not_standing 16)
    ∷ case (standing_at 0 8 5) (stands (At 4) Never Never Never Never)
    ∷ case (shown (standing value_width (clauses nothing always always) (s_at 4) 9 0 7 5)) (stands Never Never Never Never Never)
    ∷ case (shown (standing value_width good (s_at 4) 10 1 7 5)) (not_standing 6)
    ∷ []

-- the sample's kinds: Shared of a share, with library 7, owner 3 and player 9; Revoked of the share 5
abbrev shared : ℕ → ℕ → List ℕ
shared t share = event 0 t (7 ∷ 3 ∷ share ∷ 9 ∷ [])

abbrev revoked : ℕ → List ℕ
revoked t = event 1 t (5 ∷ [])

-- call 4 on the whole of a log, under the sample's terms, on a page of 60 bytes
abbrev arrived : List ℕ → ℕ → Outcome
arrived log m = report value_width sample.terms log (length log) m (rest 60)

-- records in order of arrival, with stamps in any order, from bytes to rows (document 02, wish 3)
abbrev arrival_cases : List (Case Outcome)
arrival_cases =
    -- the sample log in the reverse order has the sample's rows
    case (arrived (sample.writing 45 2 ++ revoked 30 ++ shared 10 5) 46) (gives 0 3 (sample.row 1 10 ++ sample.row 2 30 ++ sample.row 5 45 ++ rest 6))
    -- rows go by place in the log, not by time
    ∷ case (arrived (shared 40 6 ++ shared 10 5) 46) (gives 0 2 (sample.share_row 6 1 40 ++ sample.row 1 10 ++ rest 24))
    -- a report at 45, and the one after a write stamped 44 was appended: the case that demand 3 leaves out
    ∷ case (arrived (sample.log 45) 45) (gives 0 2 (sample.row 1 10 ++ sample.row 2 30 ++ rest 24))
    ∷ case (arrived (sample.log 45 ++ sample.writing 44 3) 45) (gives 0 3 (sample.row 1 10 ++ sample.row 2 30 ++ sample.row 5 44 ++ rest 6))
    -- a repeated key, with a lower stamp: in a log, and in an event
    ∷ case (arrived (sample.writing 20 1 ++ event 2 10 (6 ∷ 1 ∷ [])) 46) (gives 9 0 (rest 60))
    ∷ case (append value_width sample.terms (sample.log 45 ++ rest 20) 56 (event 2 1 (6 ∷ 2 ∷ []))) (gives 13 0 (sample.log 45 ++ rest 20))
    -- a standing of a subject that arrives last
    ∷ case (shown (standing value_width two_norms (e_at 5 ++ event 0 4 (8 ∷ []) ++ s_at 0) 31 0 7 6)) (stands (At 0) (At 5) Never Never (At 5))
    ∷ []

-- the same as `detaching`, with O among the kinds, at the last moment there is
abbrev detaching_with_O : List ℕ → List ℕ → Outcome
detaching_with_O clause log = reported (detach_with_O clause) (s_at 0 ++ log)

-- S carries attributes 0, its key, and k; kind 1 carries k alone, its key. The detach clause is kind 1 from 10 on. S at 0 with 7 and 8, the other at 3
-- with 8
abbrev other_key : ℕ → Outcome
other_key k =
    reported
    (kind 0 (1 + 2 ^ k) 0 ++ kind 1 (2 ^ k) k ++ schema 2 0 0 0 always (leaf (0 ∷ 1 ∷ []) (plain 10) unbounded) nothing)
    (event 0 0 (7 ∷ 8 ∷ []) ++ event 1 3 (8 ∷ []))

-- schema 0 is an authorization on the kind with that number: always; F from 100 on; never. Schema 1, on S, detaches when that is created from 10 on
abbrev created_on : ℕ → List ℕ → Outcome
created_on number log =
    reported
    (kinds_with_O ++ schema 2 number 0 0 always (leaf F (plain 100) unbounded) nothing
    ++ schema 2 0 0 0 always (leaf (created 0) (plain 10) unbounded) nothing)
    (s_at 0 ++ log)

-- events that come once, from bytes to rows (document 02, wish 4)
abbrev once_cases : List (Case Outcome)
once_cases =
    -- before the lower bound, with each upper bound: open, closed, unknown; at the lower bound is not early
    case (detaching_with_O (leaf O (plain 10) unbounded) (o_at 3)) (fails_at 3)
    ∷ case (detaching_with_O (leaf O (plain 10) (plain 20)) (o_at 3)) (fails_at 3)
    ∷ case (detaching_with_O (leaf O (plain 10) (plus F 5)) (o_at 3)) (fails_at 3)
    ∷ case (detaching_with_O (leaf O (plain 10) (plain 2)) (o_at 3)) (fails_at 2)
    ∷ case (detaching_with_O (leaf O (plain 3) unbounded) (o_at 3)) (occurs_at 3)
    -- the lower bound has to be known, and its known-time counts
    ∷ case (detaching_with_O (leaf O (plus F 5) unbounded) (o_at 3 ++ f_at 8)) (fails_at 8)
    ∷ case (detaching_with_O (leaf O (minus F 3) unbounded) (o_at 3 ++ f_at 8)) (fails_at 8)
    ∷ case (detaching_with_O (leaf O (plus F 5) unbounded) (o_at 3)) does_neither
    -- what recurs does not fail early, nor does a count; the events of bounds are not judged
    ∷ case (detaching_with_O (leaf E (plain 10) unbounded) (e_at 3)) does_neither
    ∷ case (detaching_with_O (more_than 0 3 (plain 10) (plain 20)) (o_at 3)) (fails_at 20)
    ∷ case (detaching_with_O (leaf E (plus O 5) unbounded) (o_at 3 ++ e_at 4)) does_neither
    -- the key of the event's kind need not be the subject's own: attributes in both bytes of the mask
    ∷ case (other_key 1) (fails_at 3)
    ∷ case (other_key 8) (fails_at 3)
    ∷ case (other_key 15) (fails_at 3)
    -- a stage is judged by its schema's subject kind: O, and E, which recurs
    ∷ case (created_on 3 (o_at 3)) (rows (row 1 3 ∷ row_on 1 7 1 0 ∷ row_on 1 7 3 3 ∷ []))
    ∷ case
    (created_on 1 (e_at 3))
    (rows ((1 ∷ 0 ∷ word 3 ++ word 7 ++ word 7 ++ word 3) ∷ row_on 1 7 1 0 ∷ []))
    -- the row is there one minute past the happening, and so is the standing's entry
    ∷ case (report value_width (detach_with_O (leaf O (plain 10) unbounded)) (s_at 0 ++ o_at 3) 18 3 (rest 36)) (gives 0 1 (row 1 0 ++ rest 18))
    ∷ case (report value_width (detach_with_O (leaf O (plain 10) unbounded)) (s_at 0 ++ o_at 3) 18 4 (rest 36)) (gives 0 2 (row 1 0 ++ row 3 3))
    ∷ case
    (shown (standing value_width (detach_with_O (leaf O (plain 10) unbounded)) (s_at 0 ++ o_at 3) 18 0 7 3))
    (stands (At 0) Never Never Never Never)
    ∷ case
    (shown (standing value_width (detach_with_O (leaf O (plain 10) unbounded)) (s_at 0 ++ o_at 3) 18 0 7 4))
    (stands (At 0) Never (At 3) Never Never)
    ∷ []

joined_hold : Hold joined_cases
unfolding computes
joined_hold = refl

count_hold : Hold count_cases
unfolding computes
count_hold = refl

terms_hold : Hold terms_cases
unfolding computes
terms_hold = refl

log_hold : Hold log_cases
unfolding computes
log_hold = refl

append_hold : Hold append_cases
unfolding computes
append_hold = refl

call_hold : Hold call_cases
unfolding computes
call_hold = refl

arrival_hold : Hold arrival_cases
unfolding computes
arrival_hold = refl

once_hold : Hold once_cases
unfolding computes
once_hold = refl

-- the parts of the second list that are about calls
abbrev pub parts : List (List (Case Outcome))
parts = joined_cases ∷ count_cases ∷ terms_cases ∷ log_cases ∷ append_cases ∷ call_cases ∷ arrival_cases ∷ once_cases ∷ []

-- each call gives what the document's words say; the parts are computed one by one, which is quicker than all at once
pub readings : Hold (flatten parts)
readings = hold-all parts (joined_hold, (count_hold, (terms_hold, (log_hold, (append_hold, (call_hold, (arrival_hold, (once_hold, tt))))))))
