-- The row of a subject: key and parties are carried where refusal 3 does not hold.
--     parties-asked       the subject kind carries both parties
--     row_is              the row by its values
-- Assumes nothing.
use Prim.Native.Nat.{ℕ, ◌+◌, ◌-◌, ◌*◌, ◌<◌}
use native.Mathlib.Omega.{arith}
use mathlib.Core.Path.{◌≡◌, refl, sym, ◌∙◌}
use mathlib.Core.Bool.{true, false, not, ◌||◌}
use mathlib.Core.List.{List}
use lib.Dec.{leb, ltb, eqb}
use lib.ListN.{length, get_or}
use borrow.Author.Tests.{not-false}
use Rattle.meaning.specs.declared.Stage.{Stage}
use Rattle.meaning.specs.Lists.{numbers_from, any_of}
use Rattle.meaning.specs.Terms.{kind_at, schema_at}
use Rattle.meaning.specs.Log.{carries, value_of, key_of}
use Rattle.meaning.specs.Rows.{row_of, is_subject}
use Rattle.meaning.proofs.BoolLaws.{or-false}
use Rattle.meaning.proofs.MemberLaws.{any_of-none, numbers-mem}
use Rattle.meaning.proofs.RowLaws.{subject-kind}
use Rattle.format.specs.Bytes.{byte_at}
use Rattle.format.specs.Grammar.{file_of}
use Rattle.format.specs.Fields.{schema_from, head_wrong, field_wrong, terms_of}
use Rattle.format.proofs.PlaceLaws.{byte-within}
use Rattle.format.proofs.KindLaws.{head-wrong-here}
use Rattle.grammar.specs.Places.{no_items, Starts}
use Rattle.fields.proofs.Schemas.{schema-here, subject-here}
use Rattle.terms.proofs.Faults.{kind-fault, field-fault, field-faults, field-here}
use Rattle.records.specs.Holds.{record_at}
use Rattle.evaluate.specs.Seen.{record_in}
use Rattle.report.proofs.RowSteps.{kind_is}

module _ (terms starts : List ℕ) (n : ℕ) (laid : Starts terms (file_of terms).schemas starts) (there : n < length (file_of terms).schemas) where
  -- its parties are the third and the fourth byte of its head
  parties-here : ((schema_at (terms_of terms) n).privileged ≡ byte_at terms (get_or starts (3 * n) 0 - 4 + 2))
      × ((schema_at (terms_of terms) n).liable ≡ byte_at terms (get_or starts (3 * n) 0 - 4 + 3))
  unfolding schema_from
  parties-here =
      let at = get_or starts (3 * n) 0 - 4 in
      rw (schema-here terms n there, (laid n there).1.head_body) (byte-within terms at 2 4 (omega arith), byte-within terms at 3 4 (omega arith))

  -- refusal 3 does not hold at its head
  head-right : field_wrong (file_of terms) ≡ false → head_wrong (terms_of terms) (get_or (file_of terms).schemas n no_items).head ≡ false
  head-right right =
      let count = length (file_of terms).schemas in
      let kinds = any_of (kind-fault terms) (numbers_from 0 (length (file_of terms).kinds)) in
      let faults : any_of (field-fault terms) (numbers_from 0 count) ≡ false = (or-false kinds _ (sym (field-faults terms) ∙ right)).1 in
      let none = any_of-none (field-fault terms) (numbers_from 0 count) faults (numbers-mem 0 count n (omega arith) (omega (arith, there))) in
      (or-false (head_wrong (terms_of terms) (get_or (file_of terms).schemas n no_items).head) _ (sym (field-here terms n) ∙ none)).0

  -- the subject kind carries both parties
  parties-carried : field_wrong (file_of terms) ≡ false → let mask = (kind_at (terms_of terms) (schema_at (terms_of terms) n).subject).mask in
      (carries mask (byte_at terms (get_or starts (3 * n) 0 - 4 + 2)) ≡ true) × (carries mask (byte_at terms (get_or starts (3 * n) 0 - 4 + 3)) ≡ true)
  parties-carried right =
      let at = get_or starts (3 * n) 0 - 4 in
      let head = eqb (byte_at terms at) 0 || ltb 4 (byte_at terms at) || leb (length (file_of terms).kinds) (byte_at terms (at + 1)) in
      let privileged = carries (kind_at (terms_of terms) (byte_at terms (at + 1))).mask (byte_at terms (at + 2)) in
      let wrong = or-false (head || not privileged) _ (rw ((laid n there).1.head_body, head-wrong-here terms (length (file_of terms).kinds) at refl) at (head-right right)) in
      rw (subject-here terms starts n laid there) (not-false _ (or-false head _ wrong.0).1, not-false _ wrong.1)

  -- so does the mask of a subject
  pub parties-asked : field_wrong (file_of terms) ≡ false → (log : List ℕ) (subject : ℕ) → is_subject (terms_of terms) n (record_in terms log subject) ≡ true
      → {mask head : ℕ} → (kind_at (terms_of terms) (byte_at log subject)).mask ≡ mask → head ≡ get_or starts (3 * n) 0 - 4
      → (carries mask (byte_at terms (head + 2)) ≡ true) × (carries mask (byte_at terms (head + 3)) ≡ true)
  parties-asked right log subject is m e =
      let kind : byte_at log subject ≡ (schema_at (terms_of terms) n).subject = sym (kind_is terms log subject) ∙ subject-kind (terms_of terms) n (record_in terms log subject) is in
      rw (← m, e, kind) (parties-carried right)

  -- the row by its values
  pub row_is : (log : List ℕ) (subject : ℕ) {head key privileged liable : ℕ} → head ≡ get_or starts (3 * n) 0 - 4
      → key ≡ key_of (terms_of terms) (record_at (terms_of terms) log subject)
      → privileged ≡ value_of (terms_of terms) (record_at (terms_of terms) log subject) (byte_at terms (head + 2))
      → liable ≡ value_of (terms_of terms) (record_at (terms_of terms) log subject) (byte_at terms (head + 3))
      → (stage : Stage) (time : ℕ)
      → record { stage = stage; schema = n; key = key; privileged = privileged; liable = liable; time = time } ≡ row_of (terms_of terms) n (record_in terms log subject) stage time
  unfolding row_of record_in
  row_is log subject e k p l stage time = rw (k, p, l, e, parties-here.0, parties-here.1)
