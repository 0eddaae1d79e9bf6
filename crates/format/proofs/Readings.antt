-- Words of document 01 that could be read in a second way and that its sample leaves open, as far as they are about bytes: each case is terms in
-- bytes, beside the first of refusals 2 to 5 whose condition holds, or bytes of records, beside the condition of refusal 7 or 11; closed by
-- computation. B1, B2, B4 to B6 and B8 number these readings; B3 is in the list over the calls. Beside them stands each of these refusals with its nearest accepted
-- neighbour, item 08 (document 02, wish 1) too. The expected outcomes are written from the documents. Assumes nothing.
use Prim.Native.Nat.{ℕ, zero, suc, ◌-◌}
use mathlib.Core.Path.{refl}
use mathlib.Core.Bool.{Bool, true, false}
use mathlib.Core.List.{List, [], ◌∷◌, ◌++◌, flatten}
use lib.ListN.{take, replicate}
use Rattle.meaning.specs.Terms.{Terms}
use Rattle.format.specs.Grammar.{file_of, breaks_grammar}
use Rattle.format.specs.Fields.{terms_of, field_wrong, citation_wrong, unshared_event}
use Rattle.format.specs.Records.{value_width, broken_record, not_one_record}
use Rattle.meaning.proofs.Cases.{Case, case, Hold, hold-all}
use Rattle.format.proofs.CaseBytes.{word, event, s_at, e_at, kind, schema, leaf, more_than, and, or, except, always, bound, plain, plus, minus, unbounded, S, E, F, created, detached, expired, discharged, violated, kinds, norm, clauses, plain_schema, apart, apart_with, X, nothing, E10}
use Rattle.format.proofs.Computes.{computes}

-- whether refusals 2, 3, 4 and 5 hold
abbrev conditions : List ℕ → List Bool
conditions s = breaks_grammar (file_of s) ∷ field_wrong (file_of s) ∷ citation_wrong (terms_of s) ∷ unshared_event (terms_of s) ∷ []

-- bytes, and the first of 2 to 5 that holds: it does, and none before it; 0 where none holds
abbrev terms : List ℕ → ℕ → Case (List Bool)
terms bytes zero = case (conditions bytes) (replicate 4 false)
terms bytes (suc n) = case (take n (conditions bytes)) (replicate (n - 1) false ++ (true ∷ []))

-- S and E with these masks; their keys are attributes 0 and 2
abbrev sharing : ℕ → ℕ → List ℕ
sharing s e = kind 0 s 0 ++ kind 1 e 2 ++ schema 2 0 0 0 always E10 nothing

-- its detach clause is this leaf, the others are always
abbrev one : List ℕ → List ℕ → List ℕ → List ℕ
one event lower upper = norm 2 always (leaf event lower upper) always

-- the kinds 0 to n-1
abbrev kinds_to : ℕ → List ℕ
kinds_to zero = []
kinds_to (suc n) = kinds_to n ++ kind n 1 0

-- an expression of 2n+1 items, deep to the right and deep to the left
abbrev deep_right : ℕ → List ℕ
deep_right zero = always
deep_right (suc n) = and always (deep_right n)

abbrev deep_left : ℕ → List ℕ
deep_left zero = always
deep_left (suc n) = or (deep_left n) always

-- the same with counts
abbrev counts_to : ℕ → List ℕ
counts_to zero = more_than 0 1 (plain 0) (plain 10)
counts_to (suc n) = and (more_than 0 1 (plain 0) (plain 10)) (counts_to n)

-- the detach clause is this count, the others are always
abbrev count : ℕ → ℕ → List ℕ → List ℕ → List ℕ
count threshold kind lower upper = norm 2 always (more_than threshold kind lower upper) always

-- the second list's cases that are about the bytes of terms
abbrev terms_cases : List (Case (List Bool))
terms_cases =
    -- B2: 2 goes by item bytes and lengths alone
    terms (clauses always always always) 0
    ∷ terms [] 2
    ∷ terms kinds 2
    ∷ terms plain_schema 2
    ∷ terms (kinds ++ (0x02 ∷ 0x02 ∷ 0x00 ∷ 0x00 ∷ [])) 2
    ∷ terms (kinds ++ (0x02 ∷ 0x02 ∷ 0x00 ∷ 0x00 ∷ 0x00 ∷ 0x07 ∷ 0x07 ∷ [])) 2
    ∷ terms (clauses always always (and always [])) 2
    ∷ terms (clauses always always (0x03 ∷ replicate 15 0)) 2
    ∷ terms (clauses always always (0x03 ∷ replicate 16 0)) 0
    ∷ terms (clauses always always (0x08 ∷ [])) 2
    ∷ terms (clauses always always (0x08 ∷ replicate 18 0)) 2
    ∷ terms (clauses always always (0x08 ∷ replicate 19 0)) 0
    ∷ terms (clauses always (0x08 ∷ []) always) 2
    ∷ terms (clauses always (0x09 ∷ []) always) 2
    ∷ terms (clauses always (0x09 ∷ replicate 19 0) always) 2
    ∷ terms (clauses always always always ++ (0x07 ∷ [])) 2
    ∷ terms (clauses always always always ++ (0x00 ∷ [])) 2
    ∷ terms (clauses always always always ++ kind 3 0b1 0) 2
    ∷ terms (kind 0 0 0 ++ plain_schema ++ (0x07 ∷ [])) 2
    ∷ terms (kind 0 0 0 ++ plain_schema) 3
    -- an item 08 is one item of an expression
    ∷ terms (clauses (counts_to 15) always (counts_to 15)) 0
    ∷ terms (clauses always (counts_to 16) always) 2
    -- 1 to 32 kinds, 1 to 16 schemas, 1 to 31 items; an expression has an odd number of items, so 33 come next
    ∷ terms (kinds_to 32 ++ plain_schema) 0
    ∷ terms (kinds_to 33 ++ plain_schema) 2
    ∷ terms (kinds_to 1 ++ flatten (replicate 16 plain_schema)) 0
    ∷ terms (kinds_to 1 ++ flatten (replicate 17 plain_schema)) 2
    ∷ terms (clauses (deep_right 15) (deep_left 15) (deep_right 15)) 0
    ∷ terms (clauses (deep_right 16) always always) 2
    ∷ terms (clauses always (deep_left 16) always) 2
    ∷ terms (clauses always always (deep_right 16)) 2
    -- B4 at a kind: its number is its place; the key is in the mask
    ∷ terms (kind 1 0b1 0 ++ plain_schema) 3
    ∷ terms (kind 0 0b1 0 ++ kind 0 0b1 0 ++ plain_schema) 3
    ∷ terms (kind 0 0b1 0 ++ kind 2 0b1 0 ++ plain_schema) 3
    ∷ terms (kind 0 0b101 1 ++ plain_schema) 3
    ∷ terms (kind 0 0b101 2 ++ plain_schema) 0
    ∷ terms (kind 0 0xFFFF 15 ++ plain_schema) 0
    ∷ terms (kind 0 0xFFFF 16 ++ plain_schema) 3
    ∷ terms (kind 0 0xFFFF 255 ++ plain_schema) 3
    -- B4 at a schema: types 1 to 4; a declared kind; parties that this kind carries
    ∷ terms (kinds ++ schema 0 0 0 0 always always always) 3
    ∷ terms (kinds ++ schema 1 0 0 0 always always always) 0
    ∷ terms (kinds ++ schema 4 0 0 0 always always always) 0
    ∷ terms (kinds ++ schema 5 0 0 0 always always always) 3
    ∷ terms (kinds ++ schema 2 2 0 2 always always always) 0
    ∷ terms (kinds ++ schema 2 3 0 0 always always always) 3
    ∷ terms (kinds ++ schema 2 0 1 0 always always always) 3
    ∷ terms (kinds ++ schema 2 0 0 1 always always always) 3
    ∷ terms (kind 0 0xFFFF 0 ++ schema 2 0 15 15 always always always) 0
    ∷ terms (kind 0 0xFFFF 0 ++ schema 2 0 16 0 always always always) 3
    ∷ terms (kind 0 0xFFFF 0 ++ schema 2 0 0 255 always always always) 3
    -- B4: forms 0 to 5, declared kinds, signs 0 to 3 and 3 only above, offsets up to 2,147,483,647
    ∷ terms (one (0 ∷ 2 ∷ []) (plain 0) unbounded) 0
    ∷ terms (one (0 ∷ 3 ∷ []) (plain 0) unbounded) 3
    ∷ terms (one (5 ∷ 0 ∷ []) (plain 0) unbounded) 4
    ∷ terms (one (6 ∷ 0 ∷ []) (plain 0) unbounded) 3
    ∷ terms (one E (plus (0 ∷ 2 ∷ []) 0) (minus (0 ∷ 2 ∷ []) 0)) 0
    ∷ terms (one E (plus (0 ∷ 3 ∷ []) 0) unbounded) 3
    ∷ terms (one E (plain 0) (minus (0 ∷ 3 ∷ []) 0)) 3
    ∷ terms (one E (plus (6 ∷ 0 ∷ []) 0) unbounded) 3
    ∷ terms (one E (plain 0) (minus (6 ∷ 0 ∷ []) 0)) 3
    ∷ terms (one E (bound 4 0 0 0) unbounded) 3
    ∷ terms (one E (plain 0) (bound 4 0 0 0)) 3
    ∷ terms (one E unbounded unbounded) 3
    ∷ terms (one E (plain 2147483647) (plain 2147483647)) 0
    ∷ terms (one E (plain 2147483648) unbounded) 3
    ∷ terms (one E (plain 0) (plain 2147483648)) 3
    ∷ terms (one E (plus F 2147483647) (minus F 2147483647)) 0
    ∷ terms (one E (plus F 2147483648) unbounded) 3
    ∷ terms (one E (plain 0) (minus F 2147483648)) 3
    -- B4 at a count: a declared kind, any threshold, no bound open, all else in its bounds as in a leaf's
    ∷ terms (count 0 2 (plain 0) (plain 10)) 0
    ∷ terms (count 0 3 (plain 0) (plain 10)) 3
    ∷ terms (count 0 255 (plain 0) (plain 10)) 3
    ∷ terms (count 4294967295 1 (plain 0) (plain 10)) 0
    ∷ terms (count 0 1 unbounded (plain 10)) 3
    ∷ terms (count 0 1 (plain 0) unbounded) 3
    ∷ terms (count 0 1 (bound 4 0 0 0) (plain 10)) 3
    ∷ terms (count 0 1 (plain 0) (bound 4 0 0 0)) 3
    ∷ terms (count 0 1 (plus (0 ∷ 2 ∷ []) 0) (minus (0 ∷ 2 ∷ []) 0)) 0
    ∷ terms (count 0 1 (plus (0 ∷ 3 ∷ []) 0) (plain 10)) 3
    ∷ terms (count 0 1 (plain 0) (minus (0 ∷ 3 ∷ []) 0)) 3
    ∷ terms (count 0 1 (plus (6 ∷ 0 ∷ []) 0) (plain 10)) 3
    ∷ terms (count 0 1 (plain 0) (minus (6 ∷ 0 ∷ []) 0)) 3
    ∷ terms (count 0 1 (plain 2147483647) (plus F 2147483647)) 0
    ∷ terms (count 0 1 (plain 2147483648) (plain 10)) 3
    ∷ terms (count 0 1 (plain 0) (plus F 2147483648)) 3
    -- B5: required zeros; a form under sign 0 is no citation
    ∷ terms (count 0 1 (bound 0 2 0 0) (plain 10)) 3
    ∷ terms (count 0 1 (plain 0) (bound 0 0 1 0)) 3
    ∷ terms (one E (bound 0 2 0 0) unbounded) 3
    ∷ terms (one E (bound 0 0 1 0) unbounded) 3
    ∷ terms (one E (plain 0) (bound 0 2 0 0)) 3
    ∷ terms (one E (plain 0) (bound 0 0 1 0)) 3
    ∷ terms (one E (plain 0) (bound 3 1 0 0)) 3
    ∷ terms (one E (plain 0) (bound 3 0 1 0)) 3
    ∷ terms (one E (plain 0) (bound 3 0 0 1)) 3
    -- 3 in each clause, in each operand, in each schema
    ∷ terms (clauses (leaf (6 ∷ 0 ∷ []) (plain 0) unbounded) always always) 3
    ∷ terms (clauses always always (leaf (6 ∷ 0 ∷ []) (plain 0) unbounded)) 3
    ∷ terms (clauses always (and (leaf (6 ∷ 0 ∷ []) (plain 0) unbounded) always) always) 3
    ∷ terms (clauses always (except always (leaf (6 ∷ 0 ∷ []) (plain 0) unbounded)) always) 3
    ∷ terms (clauses always always always ++ schema 2 0 0 0 always always (leaf (6 ∷ 0 ∷ []) (plain 0) unbounded)) 3
    -- 4: a clause cites smaller ranks only, as event and in bounds
    ∷ terms (clauses (leaf (created 0) (plain 0) unbounded) always always) 4
    ∷ terms (clauses always (leaf (created 0) (plain 0) unbounded) always) 0
    ∷ terms (clauses always (leaf (detached 0) (plain 0) unbounded) always) 4
    ∷ terms (clauses always (leaf (expired 0) (plain 0) unbounded) always) 4
    ∷ terms (clauses always always (leaf (detached 0) (plus (expired 0) 0) (minus (created 0) 0))) 0
    ∷ terms (clauses always always (leaf (discharged 0) (plain 0) unbounded)) 4
    ∷ terms (clauses always always (leaf (violated 0) (plain 0) unbounded)) 4
    ∷ terms (clauses always always (leaf E (plus (discharged 0) 0) unbounded)) 4
    ∷ terms (clauses always always (leaf E (plain 0) (minus (violated 0) 0))) 4
    ∷ terms (clauses always always always ++ schema 2 0 0 0 (leaf (discharged 0) (plus (violated 0) 0) unbounded) always always) 0
    ∷ terms (clauses always always always ++ schema 2 0 0 0 (leaf (created 1) (plain 0) unbounded) always always) 4
    ∷ terms (clauses always always (leaf (created 1) (plain 0) unbounded) ++ schema 2 0 0 0 always always always) 4
    ∷ terms (count 0 1 (plus (created 0) 0) (plain 10)) 0
    ∷ terms (count 0 1 (plain 0) (plus (created 0) 9)) 0
    ∷ terms (count 0 1 (plus (detached 0) 0) (plain 10)) 4
    ∷ terms (count 0 1 (plain 0) (minus (detached 0) 9)) 4
    -- B1: a schema that isn't there ranks above every clause
    ∷ terms (clauses always always (leaf (created 1) (plain 0) unbounded)) 4
    ∷ terms (clauses always always (leaf (created 16) (plain 0) unbounded)) 4
    ∷ terms (clauses always always (leaf (created 255) (plain 0) unbounded)) 4
    -- B6: 5 compares with the subject kind, for a bound's event too, and for a stage by its schema's subject kind
    ∷ terms (apart_with (leaf E (plus E 0) (minus E 0))) 0
    ∷ terms (apart_with (leaf X (plain 0) unbounded)) 5
    ∷ terms (apart_with (leaf E (plus X 0) unbounded)) 5
    ∷ terms (apart_with (leaf E (plain 0) (minus X 0))) 5
    ∷ terms (apart ++ schema 2 1 0 0 always (leaf X (plus S 0) unbounded) always) 0
    ∷ terms (apart ++ schema 2 1 0 0 always always always ++ schema 2 0 0 0 always (leaf (created 0) (plain 0) unbounded) always) 0
    ∷ terms (apart ++ schema 2 2 1 1 always always always ++ schema 2 0 0 0 always (leaf (created 0) (plain 0) unbounded) always) 5
    ∷ terms (apart ++ schema 2 0 0 0 (leaf X (plain 0) unbounded) always always) 5
    ∷ terms (apart ++ schema 2 0 0 0 always always (leaf X (plain 0) unbounded)) 5
    ∷ terms (sharing 0x8001 0x8004) 0
    ∷ terms (sharing 0x4001 0x8004) 5
    ∷ terms (apart_with (more_than 0 1 (plus E 0) (minus E 0))) 0
    ∷ terms (apart_with (more_than 0 2 (plain 0) (plain 10))) 5
    ∷ terms (apart_with (more_than 0 1 (plus X 0) (plain 10))) 5
    ∷ terms (apart_with (more_than 0 1 (plain 0) (minus X 0))) 5
    -- B8: unused kinds, equal masks, one attribute for both parties, two schemas on one kind: nothing refuses them
    ∷ terms (kind 0 0b1 0 ++ kind 1 0b1 0 ++ plain_schema ++ plain_schema) 0
    ∷ []

-- the terms of one norm on S without leaves, for what is asked of bytes alone
abbrev good : Terms
good = terms_of (clauses always always always)

-- bytes of a log, and whether refusal 7 holds
abbrev broken : List ℕ → Bool → Case (List Bool)
broken bytes holds = case (broken_record value_width good bytes ∷ []) (holds ∷ [])

-- bytes of an event, and whether refusal 11 holds
abbrev not_one : List ℕ → Bool → Case (List Bool)
not_one bytes holds = case (not_one_record value_width good bytes ∷ []) (holds ∷ [])

-- the second list's cases that are about the bytes of records
abbrev record_cases : List (Case (List Bool))
record_cases =
    -- 7: records one after another and nothing else; cut short, undeclared kind, stamped too high
    broken [] false
    ∷ broken (s_at 0 ++ e_at 1) false
    ∷ broken (0 ∷ []) true
    ∷ broken (s_at 0 ++ (1 ∷ [])) true
    ∷ broken (s_at 0 ++ event 3 0 (7 ∷ [])) true
    ∷ broken (s_at 2147483647) false
    ∷ broken (s_at 2147483648) true
    -- 11: exactly one record; none, cut short, longer, two records, undeclared kind, stamped too high
    ∷ not_one (s_at 3) false
    ∷ not_one [] true
    ∷ not_one (0 ∷ word 3 ++ (8 ∷ 0 ∷ 0 ∷ [])) true
    ∷ not_one (s_at 3 ++ (0 ∷ [])) true
    ∷ not_one (s_at 3 ++ s_at 4) true
    ∷ not_one (event 3 3 (8 ∷ [])) true
    ∷ not_one (s_at 2147483648) true
    ∷ []

terms_hold : Hold terms_cases
unfolding computes
terms_hold = refl

record_hold : Hold record_cases
unfolding computes
record_hold = refl

-- the parts of the second list that are about bytes
abbrev pub parts : List (List (Case (List Bool)))
parts = terms_cases ∷ record_cases ∷ []

-- each gives what the document's words say
pub readings : Hold (flatten parts)
readings = hold-all parts (terms_hold, (record_hold, tt))
