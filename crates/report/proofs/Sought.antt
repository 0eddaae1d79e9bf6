-- The subject that a standing asks for, and what call 5 answers.
--     found-at             the search, by the places of the records
--     standing-refused, standing-past, standing-nobody, standing-shown
--                                       the answer: refused as call 2, by 15, by 16, or the entries
-- Assumes nothing.
use Prim.Native.Nat.{ℕ, ◌≤◌, ◌<◌}
use mathlib.Core.Path.{◌≡◌, refl, sym}
use mathlib.Core.Bool.{Bool, true, false, cond}
use mathlib.Core.List.{List, [], ◌∷◌, ◌++◌, map}
use mathlib.Core.Option.{Option as Maybe, some}
use lib.ListN.{length, take}
use borrow.Author.Tests.{le-leb, lt-leb}
use Rattle.calls.specs.declared.Refusal.{Refusal}
use Rattle.calls.specs.declared.Refusal.TheVariants.{NoSchema, NoSubject}
use Rattle.std.specs.Prelude.{Result, Ok, Err, Some, None, Option}
use Rattle.meaning.specs.declared.Entries.{Entries}
use Rattle.meaning.specs.Log.{Record}
use Rattle.meaning.specs.Rows.{find as first, is_sought, subject_of}
use Rattle.std.specs.List.{find}
use Rattle.meaning.specs.Lists.{All}
use Rattle.format.specs.Fields.{terms_of}
use Rattle.format.specs.Records.{value_width, log_of}
use Rattle.calls.specs.Answers.{refusal_number, checked_answer, standing_answer}
use Rattle.calls.specs.Calls.{Check, refusal, log_checks, check_log, no_schema, missing, standing_subject, key_checks, entries_for, standing_as, standing}
use Rattle.calls.proofs.AnswerLaws.{refusal-positive}
use Rattle.calls.proofs.StandingLaws.{refused-entries}
use Rattle.records.specs.Holds.{Stands, places_in}
use Rattle.records.proofs.Places.{records-same, places-stand}
use Rattle.event_log.proofs.Checks.{log-refused}
use Rattle.evaluate.specs.Seen.{log_in, record_in}
use Rattle.report.specs.Shown.{entries_in, PlaceOf, FoundAt}

-- the first place that passes a test has the first record that passes it
found-first : (terms log : List ℕ) (p : Record → Bool) (places : List ℕ) → All (Stands (terms_of terms) log) places
    → PlaceOf terms log (first p (map (record_in terms log) places)) (find (λ at. p (record_in terms log at)) places)
unfolding first
found-first terms log p [] all = refl
found-first terms log p (at ∷ places) all = go (p (record_in terms log at)) _ _ (found-first terms log p places all.1)
  where
    go : (b : Bool) (r : Maybe Record) (place : Option ℕ) → PlaceOf terms log r place → PlaceOf terms log (cond b (some (record_in terms log at)) r) (cond b (Some at) place)
    go true r place rest = (refl, all.0)
    go false r place rest = rest

-- it is the subject that a standing asks for
pub found-at : (terms log : List ℕ) (schema key m : ℕ) {place : Option ℕ} → place ≡ find (λ at. is_sought (terms_of terms) schema key m (record_in terms log at)) (places_in (terms_of terms) log)
    → FoundAt terms log schema key m place
unfolding subject_of log_in record_in
found-at terms log schema key m e =
    let t = terms_of terms in
    rw (e, ← (records-same t log)) (found-first terms log (is_sought t schema key m) (places_in t log) (places-stand t log))

module _ (terms log : List ℕ) (used schema key m : ℕ) where
  -- the refusals of call 2 come first
  pub standing-refused : {A : Type 0} {found : Result A Refusal} {x : Refusal} → found ≡ Err x → checked_answer found ≡ check_log value_width terms log used
      → standing_answer (Err x) ≡ standing value_width terms log used schema key m
  unfolding standing_answer standing
  standing-refused {x = x} is e = rw (log-refused terms log used is e (key_checks value_width terms log used schema key m)) (sym (refused-entries (refusal_number x) _ (refusal-positive x)))

  module _ (kept : (more : List Check) → refusal (log_checks value_width terms log used ++ more) ≡ refusal more) where
    -- past the last schema
    pub standing-past : length (terms_of terms).schemas ≤ schema → standing_answer (Err NoSchema) ≡ standing value_width terms log used schema key m
    unfolding standing_answer standing standing_as key_checks refusal no_schema
    standing-past h = rw (kept, le-leb (length (terms_of terms).schemas) schema h)

    module _ (there : schema < length (terms_of terms).schemas) where
      -- no subject was found
      pub standing-nobody : FoundAt terms (take used log) schema key m None → standing_answer (Err NoSubject) ≡ standing value_width terms log used schema key m
      unfolding standing_answer standing standing_as key_checks refusal no_schema missing standing_subject log_of log_in
      standing-nobody nobody = rw (kept, lt-leb (length (terms_of terms).schemas) schema there, nobody)

      -- the entries of the one that was found
      pub standing-shown : (at : ℕ) {e : Entries} → FoundAt terms (take used log) schema key m (Some at) → e ≡ entries_in terms (take used log) at schema m
          → standing_answer (Ok e) ≡ standing value_width terms log used schema key m
      unfolding standing_answer standing standing_as key_checks refusal no_schema missing standing_subject log_of log_in entries_in entries_for
      standing-shown at found is = rw (kept, lt-leb (length (terms_of terms).schemas) schema there, found.0, is)
