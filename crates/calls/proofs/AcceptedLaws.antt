-- What acceptance gives: the bytes of an accepted log are its records' bytes; what comes once happens by one record at most (specs/ComesOnce.antt);
-- the rows of a report are timed by at most the last minute, and none stands twice. Assumes nothing.
use Prim.Native.Nat.{ℕ, ◌<◌}
use mathlib.Core.Path.{◌≡◌, refl}
use mathlib.Core.Bool.{true}
use mathlib.Core.List.Memᴰ
use mathlib.Core.List.{List, ◌∷◌, ◌++◌, flat_map, Memᴰ}
use lib.ListN.{length, take}
use Rattle.meaning.specs.declared.Row.{Row}
use Rattle.meaning.specs.Lists.{All}
use Rattle.meaning.specs.Terms.{kind_at}
use Rattle.meaning.specs.Log.{carries, attributes}
use Rattle.meaning.specs.Rows.{timed_rows, report_rows}
use Rattle.format.specs.Fields.{terms_of}
use Rattle.format.specs.Records.{record_bytes, log_of}
use Rattle.calls.specs.Calls.{rows_of, report}
use Rattle.calls.specs.Lasting.{Accepted}
use Rattle.calls.specs.ComesOnce.{AcceptedOnce}
use Rattle.meaning.proofs.MemberLaws.{Distinct, member-has}
use Rattle.meaning.proofs.MaskLaws.{carried-low}
use Rattle.meaning.proofs.StrikeLaws.{strike-all}
use Rattle.meaning.proofs.LastMinute.{RowFits, row-time}
use Rattle.meaning.proofs.RowLaws.{rows-distinct}
use Rattle.meaning.proofs.Once.{HasKey, once, apart}
use Rattle.meaning.proofs.NeverBoth.{early-not-both}
use Rattle.format.proofs.KindLaws.{kinds_count, mask-fits, key-carried}
use Rattle.format.proofs.LogLaws.{log-unbroken, records-back, stamps-fit, keys-had}
use Rattle.calls.proofs.RefusalLaws.{LogAccepted, log-accepted, report-accepted}

-- an accepted log's bytes are its records' bytes, one after another
pub accepted-bytes : (w : ℕ) (terms log : List ℕ) (used : ℕ) → LogAccepted w terms log used → All (λ b. b < 256) (take used log)
    → flat_map (record_bytes w) (log_of w terms log used) ≡ take used log
unfolding log_of
accepted-bytes w terms log used ok bytes = (records-back w (terms_of terms) (take used log) bytes (log-unbroken w (terms_of terms) (take used log) ok.whole)).1

-- the kind of each record of an accepted log carries its key
accepted-keys : (w : ℕ) (terms log : List ℕ) (used : ℕ) → All (λ b. b < 256) terms → LogAccepted w terms log used → All (HasKey (terms_of terms)) (log_of w terms log used)
unfolding log_of
accepted-keys w terms log used bytes ok = keys-had w (terms_of terms) (take used log) carried
  where
    carried : (k : ℕ) → k < length (terms_of terms).kinds
        → (carries (kind_at (terms_of terms) k).mask (kind_at (terms_of terms) k).key ≡ true) × ((kind_at (terms_of terms) k).key < attributes)
    carried k h =
        let declared = rw (kinds_count terms) at h in
        let key = key-carried terms ok.terms-ok.fields k declared in
        (key, carried-low _ _ (mask-fits terms bytes k declared) key)

-- what comes once happens by one record at most
pub comes-once : AcceptedOnce
comes-once w terms log used bytes accepted =
    let ok = (log-accepted w terms log used).0 accepted in
    let keys = accepted-keys w terms log used bytes ok in record {
      by_one = λ times subject e only. once times (terms_of terms) _ keys ok.once subject e only;
      not_both = λ times subject x. early-not-both times (terms_of terms) subject _ (once times (terms_of terms) _ keys ok.once subject) x;
      apart = λ front middle back q r place same.
          let there : Memᴰ r (front ++ (q ∷ (middle ++ (r ∷ back)))) = Memᴰ.append_right front (Memᴰ.tail (Memᴰ.append_right middle (Memᴰ.head refl))) in
          apart (terms_of terms) front middle back q r (rw place at ok.once) (member-has (HasKey (terms_of terms)) _ (rw place at keys) there) same;
    }

-- the times of a report's rows are at most the last minute
pub report-times : (w : ℕ) (terms log : List ℕ) (used m : ℕ) → All RowFits (rows_of w terms log used m)
unfolding rows_of report_rows
report-times w terms log used m =
    strike-all (λ (x : Row). x.time) RowFits m (timed_rows (terms_of terms) (log_of w terms log used)) (row-time (terms_of terms) (log_of w terms log used) (stamps-fit w terms log used))

-- no row stands twice in an accepted report
pub report-distinct : (w : ℕ) (terms log : List ℕ) (used m : ℕ) (page : List ℕ) → Accepted (report w terms log used m page) → Distinct (rows_of w terms log used m)
unfolding rows_of
report-distinct w terms log used m page e = rows-distinct _ _ m ((report-accepted w terms log used m page).0 e).0.once
