-- Answers: number and value tell the case, and the one number of the library service tells number and value. Assumes nothing.
use Prim.Native.Nat.{ℕ, ◌+◌, ◌*◌, ◌-◌, ◌/◌, ◌%◌, ◌≤◌, ◌<◌}
use native.Mathlib.Omega.{arith}
use mathlib.Core.Path.{◌≡◌, refl, ap, sym, ◌∙◌}
use mathlib.Core.List.{List, [], ◌∷◌}
use lib.ListN.{get_or}
use Rattle.calls.specs.declared.Refusal.{Refusal}
use Rattle.calls.specs.declared.Refusal.TheVariants.{TermsTooLong, BrokenGrammar, FieldOutOfRange, CitationTooHigh, NothingShared, UsedTooLong, BrokenRecord, KeyRepeats, PageTooShort, NotOneRecord, KeyPresent, NoRoom, NoSchema, NoSubject}
use Rattle.std.specs.Prelude.{Result, Ok, Err}
use Rattle.meaning.specs.declared.Entries.{Entries}
use Rattle.calls.specs.Answers.{refusal_number, Answer, StandingAnswer, checked_answer, counted_answer, standing_answer, packed, unpacked}

-- the refusals by their numbers; at 8 and 12, which none has, the one before
refusals : List Refusal
refusals = TermsTooLong ∷ BrokenGrammar ∷ FieldOutOfRange ∷ CitationTooHigh ∷ NothingShared ∷ UsedTooLong ∷ BrokenRecord ∷ BrokenRecord ∷ KeyRepeats
    ∷ PageTooShort ∷ NotOneRecord ∷ NotOneRecord ∷ KeyPresent ∷ NoRoom ∷ NoSchema ∷ NoSubject ∷ []

refusal-back : (x : Refusal) → (1 ≤ refusal_number x) × (get_or refusals (refusal_number x - 1) TermsTooLong ≡ x)
unfolding refusals
refusal-back TermsTooLong = (omega arith, refl)
refusal-back BrokenGrammar = (omega arith, refl)
refusal-back FieldOutOfRange = (omega arith, refl)
refusal-back CitationTooHigh = (omega arith, refl)
refusal-back NothingShared = (omega arith, refl)
refusal-back UsedTooLong = (omega arith, refl)
refusal-back BrokenRecord = (omega arith, refl)
refusal-back KeyRepeats = (omega arith, refl)
refusal-back PageTooShort = (omega arith, refl)
refusal-back NotOneRecord = (omega arith, refl)
refusal-back KeyPresent = (omega arith, refl)
refusal-back NoRoom = (omega arith, refl)
refusal-back NoSchema = (omega arith, refl)
refusal-back NoSubject = (omega arith, refl)

-- no refusal has the number of an accepted call
pub refusal-positive : (x : Refusal) → 1 ≤ refusal_number x
refusal-positive x = (refusal-back x).0

-- a refusal's number tells the refusal
pub refusal-told : (x y : Refusal) → refusal_number x ≡ refusal_number y → x ≡ y
refusal-told x y e = sym (refusal-back x).1 ∙ ap (λ (n : ℕ). get_or refusals (n - 1) TermsTooLong) e ∙ (refusal-back y).1

-- 8 and 12 are never given: no refusal has these numbers (document 02, wish 3)
pub never-given : (x : Refusal) → (refusal_number x ≡ 8 → ⊥) × (refusal_number x ≡ 12 → ⊥)
unfolding refusals
never-given x =
    let told : (n : ℕ) → refusal_number x ≡ n → x ≡ get_or refusals (n - 1) TermsTooLong =
    λ n e. sym (refusal-back x).1 ∙ ap (λ (k : ℕ). get_or refusals (k - 1) TermsTooLong) e in
    (λ e. omega (arith, e, ap refusal_number (told 8 e)), λ e. omega (arith, e, ap refusal_number (told 12 e)))

-- a promise on number and value leaves no choice of the case: of a check
pub checked-told : (a b : Result (Unit {0}) Refusal) → checked_answer a ≡ checked_answer b → a ≡ b
unfolding checked_answer
checked-told (Ok x) (Ok y) e = refl
checked-told (Ok x) (Err y) e = absurd (omega (arith, refusal-positive y, ap (λ (r : Answer). r.number) e))
checked-told (Err x) (Ok y) e = absurd (omega (arith, refusal-positive x, ap (λ (r : Answer). r.number) e))
checked-told (Err x) (Err y) e = ap Err (refusal-told x y (ap (λ (r : Answer). r.number) e))

-- of an append and of a report
pub counted-told : (a b : Result ℕ Refusal) → counted_answer a ≡ counted_answer b → a ≡ b
unfolding counted_answer
counted-told (Ok n) (Ok k) e = ap Ok (ap (λ (r : Answer). r.value) e)
counted-told (Ok n) (Err y) e = absurd (omega (arith, refusal-positive y, ap (λ (r : Answer). r.number) e))
counted-told (Err x) (Ok k) e = absurd (omega (arith, refusal-positive x, ap (λ (r : Answer). r.number) e))
counted-told (Err x) (Err y) e = ap Err (refusal-told x y (ap (λ (r : Answer). r.number) e))

-- of a standing
pub standing-told : (a b : Result Entries Refusal) → standing_answer a ≡ standing_answer b → a ≡ b
unfolding standing_answer
standing-told (Ok x) (Ok y) e = ap Ok (ap (λ (r : StandingAnswer). r.entries) e)
standing-told (Ok x) (Err y) e = absurd (omega (arith, refusal-positive y, ap (λ (r : StandingAnswer). r.number) e))
standing-told (Err x) (Ok y) e = absurd (omega (arith, refusal-positive x, ap (λ (r : StandingAnswer). r.number) e))
standing-told (Err x) (Err y) e = ap Err (refusal-told x y (ap (λ (r : StandingAnswer). r.number) e))

-- the one number is split into the answer again
pub packed-split : (a : Answer) → a.value < 4294967296 → unpacked (packed a) ≡ a
unfolding packed unpacked
packed-split a h =
    let number : (a.number * 4294967296 + a.value) / 4294967296 ≡ a.number = omega arith in
    let value : (a.number * 4294967296 + a.value) % 4294967296 ≡ a.value = omega arith in
    λ i. record { number = number i; value = value i }

-- what the library service gets in each case
pub packed-cases : packed (checked_answer {A = Unit {0}} (Ok tt)) ∷ packed (checked_answer {A = Unit {0}} (Err CitationTooHigh))
    ∷ packed (counted_answer (Ok 69)) ∷ packed (counted_answer (Err KeyPresent))
    ∷ packed (counted_answer (Ok 3)) ∷ packed (counted_answer (Err PageTooShort)) ∷ []
    ≡ 0 ∷ 17179869184 ∷ 69 ∷ 55834574848 ∷ 3 ∷ 42949672960 ∷ []
unfolding checked_answer counted_answer packed
packed-cases = refl
