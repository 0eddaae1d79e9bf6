-- A key's standing shows the times of that subject's rows in the report of the same moment, no other and none missing.
-- Document 01, 'Calls', 5. Assumes nothing.
use Prim.Native.Nat.{ℕ, zero, suc, ◌≤◌, ◌<◌}
use native.Mathlib.Omega.{arith}
use mathlib.Core.Path.{◌≡◌, refl}
use mathlib.Core.Bool.{false}
use mathlib.Core.List.{List, ◌++◌}
use mathlib.Core.Option.{Option, none, some}
use lib.ListN.{length}
use borrow.Author.Tests.{leb-false}
use Rattle.meaning.specs.declared.Entries.{Entries}
use Rattle.meaning.specs.Terms.{Terms}
use Rattle.meaning.specs.Log.{Record, Log, key_repeats}
use Rattle.meaning.specs.Rows.{subject_of, not_yet, entries_of}
use Rattle.format.specs.Fields.{terms_of}
use Rattle.format.specs.Records.{log_of}
use Rattle.calls.specs.Calls.{no_schema, missing, log_checks, standing_subject, key_checks, refusal, entries_for, standing_as, standing}
use Rattle.meaning.proofs.EntryLaws.{IsSubjectOf, Shows, subject-found, entries-show}
use Rattle.calls.proofs.RefusalLaws.{standing-accepted}

-- An accepted standing is that of a subject of the schema with the key, stamped before the moment, and its entries show that subject's rows
-- in the report at that moment (`rows_of` of the same arguments), no other and none missing.
pub standing-shows : (w : ℕ) (terms log : List ℕ) (used j key m : ℕ) → (standing w terms log used j key m).number ≡ 0
    → (r : Record) × IsSubjectOf (terms_of terms) (log_of w terms log used) j key m r
    × Shows (terms_of terms) (log_of w terms log used) m j r (standing w terms log used j key m).entries
unfolding standing standing_subject standing_as entries_for missing no_schema
standing-shows w terms log used j key m e =
    let ok = (standing-accepted w terms log used j key m).0 e in
    go (refusal (log_checks w terms log used ++ key_checks w terms log used j key m)) (standing_subject w terms log used j key m) refl ok.subject-there ok.log-ok.once (leb-false _ _ ok.schema-there) e
  where
    T : Terms
    T = terms_of terms

    L : Log
    L = log_of w terms log used

    go : (n : ℕ) (o : Option Record) → subject_of T L j key m ≡ o → missing o ≡ false → key_repeats T L ≡ false → j < length T.schemas
        → (standing_as n (entries_for o (entries_of T L m j))).number ≡ 0
        → (r : Record) × IsSubjectOf T L j key m r × Shows T L m j r (standing_as n (entries_for o (entries_of T L m j))).entries
    go zero (some r) found there once declared e =
        let h = subject-found T L j key m r found in
        (r, h, entries-show T L m j r once declared h.logged h.is-subject)
    go zero none found there once declared e = let z : ◌≡◌ {A = ℕ} 0 1 = cc in absurd (omega arith)
    go (suc n) o found there once declared e = absurd (omega arith)

-- with a refusal nothing is shown
pub refused-entries : (n : ℕ) (e : Entries) → 1 ≤ n → standing_as n e ≡ record { number = n; entries = not_yet }
unfolding standing_as
refused-entries zero e h = absurd (omega arith)
refused-entries (suc n) e h = refl
