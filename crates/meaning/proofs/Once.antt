-- What comes once: where no key repeats, at most one record of a kind correlates with a subject that carries the kind's key. Document 02, wish 4.
--     HasKey         a record's kind carries its key
--     apart          where no key repeats, two records of one kind do not correlate
--     key-shared     the key of a record by which such an event happens is the subject's value
--     HappensOnce    an event that comes once happens by at most one record
--     once           so it is in a log where no key repeats
--     only-within    what is in a window is then its earliest happening, where that lies in it, else none
-- Assumes nothing.
use Prim.Native.Nat.{ℕ, ◌+◌, ◌≤◌, ◌<◌}
use native.Mathlib.Nat.{zero-add}
use native.Mathlib.Omega.{arith}
use mathlib.Core.Path.{◌≡◌, refl, ap, sym, ◌∙◌}
use mathlib.Core.Bool.{Bool, true, false, ◌&&◌, false≢true}
use mathlib.Core.List.Memᴰ
use mathlib.Core.List.{[], ◌∷◌, ◌++◌, Memᴰ}
use lib.Dec.{eqb}
use borrow.Author.Tests.{eqb-true}
use Rattle.meaning.specs.declared.Time.{Time}
use Rattle.meaning.specs.declared.Time.TheVariants.{At, Never}
use Rattle.meaning.specs.declared.Event.{Event}
use Rattle.meaning.specs.declared.Edge.{Edge}
use Rattle.meaning.specs.Lists.{any_of, All}
use Rattle.meaning.specs.Time.{earlier_of, only_if}
use Rattle.meaning.specs.Terms.{Terms, kind_at, kind_of}
use Rattle.meaning.specs.Log.{Record, Log, carries, attributes, value_of, key_of, both_carry, correlate, same_key, key_repeats}
use Rattle.meaning.specs.Meaning.{StageTimes, earliest, one, tally, from_edge, before_edge, happening, comes_once, first, first_within}
use Rattle.meaning.proofs.BoolLaws.{and-true, or-false}
use Rattle.meaning.proofs.MemberLaws.{any_of-none}
use Rattle.meaning.proofs.TimeLaws.{earlier-never}
use Rattle.meaning.proofs.EdgeLaws.{never-within}
use Rattle.meaning.proofs.CorrelateLaws.{share}
use Rattle.meaning.proofs.RowLaws.{same-key}

-- a record's kind carries its key, as accepted terms say of every kind
abbrev pub HasKey : Terms → Record → Type 0
HasKey terms r = let kind = kind_at terms r.kind in (carries kind.mask kind.key ≡ true) × (kind.key < attributes)

-- an event that comes once for a subject happens by at most one record of a log
abbrev pub HappensOnce : StageTimes → Terms → Log → Record → Type 0
HappensOnce times terms log subject = (e : Event) → comes_once terms subject e ≡ true → tally (happening times terms subject e) log ≤ 1

-- a time counts for one at most
one_most : (t : Time) → one t ≤ 1
unfolding one
one_most (At n) = omega arith
one_most Never = omega arith

-- two records of one kind that correlate have the same key
key-alike : (terms : Terms) (q r : Record) → HasKey terms r → q.kind ≡ r.kind → correlate terms q r ≡ true → key_of terms q ≡ key_of terms r
unfolding both_carry key_of
key-alike terms q r has same e =
    ap (λ (k : ℕ). value_of terms q (kind_at terms k).key) same ∙ share terms q r (kind_at terms r.kind).key has.1 (rw (same, has.0)) e

-- in a log where no key repeats a record does not correlate with one of its kind that stands after it
pub apart : (terms : Terms) (front middle back : Log) (q r : Record) → key_repeats terms (front ++ (q ∷ (middle ++ (r ∷ back)))) ≡ false
    → HasKey terms r → q.kind ≡ r.kind → correlate terms q r ≡ false
unfolding key_repeats
apart terms [] middle back q r once has same = go (correlate terms q r) refl
  where
    go : (b : Bool) → correlate terms q r ≡ b → b ≡ false
    go true e =
        let new = any_of-none (same_key terms q) _ (or-false (any_of (same_key terms q) (middle ++ (r ∷ back))) _ once).0 (Memᴰ.append_right middle (Memᴰ.head refl)) in
        absurd (false≢true (sym new ∙ same-key terms q r same (key-alike terms q r has same e)))
    go false e = refl
apart terms (p ∷ front) middle back q r once has same =
    apart terms front middle back q r (or-false (any_of (same_key terms p) (front ++ (q ∷ (middle ++ (r ∷ back))))) _ once).1 has same

module _ (terms : Terms) (subject : Record) (e : Event) (only : comes_once terms subject e ≡ true) where
  -- whether the event happens by a record
  abbrev brings : Record → Bool
  brings r = eqb r.kind (kind_of terms e) && correlate terms subject r

  -- such a record is of the event's kind, and its key is the subject's value
  key-shared : (r : Record) → HasKey terms r → brings r ≡ true
      → (r.kind ≡ kind_of terms e) × (key_of terms r ≡ value_of terms subject (kind_at terms (kind_of terms e)).key)
  unfolding comes_once both_carry key_of
  key-shared r has h =
      let parts = and-true (eqb r.kind (kind_of terms e)) (correlate terms subject r) h in
      let kind : r.kind ≡ kind_of terms e = eqb-true r.kind (kind_of terms e) parts.0 in
      let key : value_of terms subject (kind_at terms r.kind).key ≡ value_of terms r (kind_at terms r.kind).key =
      share terms subject r (kind_at terms r.kind).key has.1 (rw (has.0, kind, only)) parts.1 in
      (kind, sym key ∙ ap (λ (k : ℕ). value_of terms subject (kind_at terms k).key) kind)

  module _ (times : StageTimes) where
    -- by no record after such a one
    none-after : (r : Record) → HasKey terms r → brings r ≡ true → (log : Log) → All (HasKey terms) log → any_of (same_key terms r) log ≡ false
        → tally (happening times terms subject e) log ≡ 0
    unfolding tally one happening only_if any_of
    none-after r has h [] keys new = refl
    none-after r has h (q ∷ log) keys new = go (brings q) refl (or-false (same_key terms r q) _ new) (none-after r has h log keys.1)
      where
        go : (b : Bool) → brings q ≡ b → (same_key terms r q ≡ false) × (any_of (same_key terms r) log ≡ false)
            → (any_of (same_key terms r) log ≡ false → tally (happening times terms subject e) log ≡ 0)
            → one (happening times terms subject e q) + tally (happening times terms subject e) log ≡ 0
        go true f new ih =
            let mine = key-shared r has h in
            let its = key-shared q keys.0 f in
            let z : ◌≡◌ {A = ℕ} 0 1 = cc (new.0, same-key terms r q (mine.0 ∙ sym its.0) (mine.1 ∙ sym its.1)) in
            absurd (omega arith)
        go false f new ih = rw (f, zero-add) (ih new.1)

    -- so by at most one
    by-one : (log : Log) → All (HasKey terms) log → key_repeats terms log ≡ false → tally (happening times terms subject e) log ≤ 1
    unfolding tally one happening only_if key_repeats
    by-one [] keys once = omega arith
    by-one (r ∷ log) keys once = go (brings r) refl (or-false (any_of (same_key terms r) log) _ once) (by-one log keys.1)
      where
        go : (b : Bool) → brings r ≡ b → (any_of (same_key terms r) log ≡ false) × (key_repeats terms log ≡ false)
            → (key_repeats terms log ≡ false → tally (happening times terms subject e) log ≤ 1)
            → one (happening times terms subject e r) + tally (happening times terms subject e) log ≤ 1
        go true f once ih = omega (arith, none-after r keys.0 f log keys.1 once.0, one_most (happening times terms subject e r))
        go false f once ih = rw (f, zero-add) (ih once.1)

-- in a log where no key repeats what comes once happens by at most one record
pub once : (times : StageTimes) (terms : Terms) (log : Log) → All (HasKey terms) log → key_repeats terms log ≡ false → (subject : Record) → HappensOnce times terms log subject
once times terms log keys new subject e only = by-one terms subject e only times log keys new

-- by no record: not in a window either
none-in : (f : Record → Time) (w : Time → Time) → w Never ≡ Never → (log : Log) → tally f log ≡ 0 → earliest (λ r. w (f r)) log ≡ Never
unfolding tally earliest one earlier_of
none-in f w silent [] e = refl
none-in f w silent (r ∷ log) e = go (f r) refl e (none-in f w silent log)
  where
    go : (t : Time) → f r ≡ t → one t + tally f log ≡ 0 → (tally f log ≡ 0 → earliest (λ r. w (f r)) log ≡ Never)
        → earlier_of (w (f r)) (earliest (λ r. w (f r)) log) ≡ Never
    go (At n) p e ih = absurd (omega (arith, e))
    go Never p e ih = rw (p, silent) (ih (omega arith))

-- by one record at most: what is left in a window is what is left of the earliest
earliest-within : (f : Record → Time) (w : Time → Time) → w Never ≡ Never → (log : Log) → tally f log ≤ 1 → earliest (λ r. w (f r)) log ≡ w (earliest f log)
unfolding tally earliest one earlier_of
earliest-within f w silent [] h = sym silent
earliest-within f w silent (r ∷ log) h = go (f r) refl h (earliest-within f w silent log)
  where
    go : (t : Time) → f r ≡ t → one t + tally f log ≤ 1 → (tally f log ≤ 1 → earliest (λ r. w (f r)) log ≡ w (earliest f log))
        → earlier_of (w (f r)) (earliest (λ r. w (f r)) log) ≡ w (earlier_of (f r) (earliest f log))
    go (At n) p h ih =
        let none : tally f log ≡ 0 = omega arith in
        rw (none-in f w silent log none, none-in f (λ t. t) refl log none, earlier-never (w (f r)), earlier-never (f r)) refl
    go Never p h ih = rw (p, silent) (ih (omega arith))

-- an event that happens by one record at most: what is in a window is its earliest happening, where that lies in it, else none
pub only-within : (times : StageTimes) (terms : Terms) (log : Log) (subject : Record) (l u : Edge) (e : Event)
    → tally (happening times terms subject e) log ≤ 1 → first_within times terms log subject l u e ≡ from_edge l (before_edge u (first times terms log subject e))
unfolding first_within first
only-within times terms log subject l u e = earliest-within (happening times terms subject e) (λ t. from_edge l (before_edge u t)) (never-within l u) log
