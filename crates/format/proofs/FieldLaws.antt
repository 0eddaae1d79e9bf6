-- The fields of leaves: a leaf that is written is read back, one without a field out of range is read, any other neither occurs nor fails.
-- Assumes nothing.
use Prim.Native.Nat.{ℕ, zero, suc, ◌+◌, ◌^◌, ◌≤◌, ◌<◌}
use native.Mathlib.Nat.{add-zero}
use native.Mathlib.Omega.{arith}
use mathlib.Core.Path.{◌≡◌, refl, ap, sym, ◌∙◌}
use mathlib.Core.Bool.{Bool, true, false, cond, ◌||◌, true≢false}
use mathlib.Core.List.{List, [], ◌∷◌, ◌++◌, append-nil, append_assoc}
use mathlib.Core.Option.{Option, none, some, bind}
use lib.Dec.{eqb, leb, ltb}
use lib.ListN.{length, length-append}
use lib.Seq.{drop-append_seam, get_or-append-add, drop-append-add, take_at}
use borrow.Author.Tests.{ltb-false, lt-ltb, ne_eqb}
use Rattle.meaning.specs.declared.Stage.TheVariants.{Created, Detached, Expired, Discharged, Violated}
use Rattle.meaning.specs.declared.Event.{Event}
use Rattle.meaning.specs.declared.Event.TheVariants.{Kind, StageOf}
use Rattle.meaning.specs.declared.Bound.{Bound}
use Rattle.meaning.specs.declared.Bound.TheVariants.{Plain, Plus, Minus, Open}
use Rattle.meaning.specs.declared.Atom.{Atom}
use Rattle.meaning.specs.declared.Atom.TheVariants.{Happens, Counts}
use Rattle.meaning.specs.declared.Time.TheVariants.{Never}
use Rattle.meaning.specs.declared.Times.{Times}
use Rattle.meaning.specs.Stages.{stage_number}
use Rattle.meaning.specs.Time.{earlier_of}
use Rattle.meaning.specs.Terms.{Terms, leaf}
use Rattle.meaning.specs.Log.{Record, Log}
use Rattle.meaning.specs.Meaning.{StageTimes, reached, edge_of, known, leaf_occurrence, failure_at, failure_at_end, first_before, early_failure, leaf_failure, times_of}
use Rattle.format.specs.Bytes.{bytes_of, byte_at, number_at}
use Rattle.format.specs.Fields.{stage_event, event_of, bound_of, happening_of, count_of, leaf_of, neither, not_zero, offset_limit, event_wrong, bound_wrong, happening_wrong, count_wrong, leaf_wrong}
use Rattle.meaning.proofs.BoolLaws.{or-false}
use Rattle.meaning.proofs.TimeLaws.{if_never-never, once_known-never, only_if-never}
use Rattle.meaning.proofs.EdgeLaws.{none_within}
use Rattle.format.proofs.NumberLaws.{bytes-length, bytes-number}

-- an event's form byte
unfoldable pub form_of : Event → ℕ
form_of (Kind k) = 0
form_of (StageOf s j) = stage_number s

-- and its number byte
unfoldable pub event_number : Event → ℕ
event_number (Kind k) = k
event_number (StageOf s j) = j

-- a bound in bytes
unfoldable pub bound_bytes : Bound → List ℕ
bound_bytes (Plain n) = 0 ∷ 0 ∷ 0 ∷ bytes_of 4 n
bound_bytes (Plus e n) = 1 ∷ form_of e ∷ event_number e ∷ bytes_of 4 n
bound_bytes (Minus e n) = 2 ∷ form_of e ∷ event_number e ∷ bytes_of 4 n
bound_bytes Open = 3 ∷ 0 ∷ 0 ∷ bytes_of 4 0

-- a leaf in bytes
unfoldable pub leaf_bytes : Atom → List ℕ
leaf_bytes (Happens x) = 3 ∷ form_of x.event ∷ event_number x.event ∷ (bound_bytes x.lower ++ bound_bytes x.upper)
leaf_bytes (Counts x) = 8 ∷ x.kind ∷ (bytes_of 4 x.threshold ++ (bound_bytes x.lower ++ bound_bytes x.upper))

-- a bound's offset fits its four bytes
abbrev pub OffsetFits : Bound → Type 0
OffsetFits (Plain n) = n < 256 ^ 4
OffsetFits (Plus e n) = n < 256 ^ 4
OffsetFits (Minus e n) = n < 256 ^ 4
OffsetFits Open = Unit {0}

-- a leaf's numbers fit their four bytes
abbrev pub LeafFits : Atom → Type 0
LeafFits (Happens x) = OffsetFits x.lower × OffsetFits x.upper
LeafFits (Counts x) = OffsetFits x.lower × OffsetFits x.upper × (x.threshold < 256 ^ 4)

-- what is read from a place on does not depend on what stands before it
byte-at : (p q : List ℕ) (n i : ℕ) → length p ≡ n → byte_at (p ++ q) (n + i) ≡ byte_at q i
unfolding byte_at
byte-at p q n i e = rw (← e) (get_or-append-add p q i 0)

number-at : (p q : List ℕ) (n i : ℕ) → length p ≡ n → number_at 4 (p ++ q) (n + i) ≡ number_at 4 q i
unfolding number_at
number-at p q n i e = rw (← e, drop-append-add p q i)

bound_at : (p q : List ℕ) (n : ℕ) → length p ≡ n → bound_of (p ++ q) n ≡ bound_of q 0
unfolding bound_of
bound_at p q n e = rw (sym (ap (byte_at (p ++ q)) (add-zero n)) ∙ byte-at p q n 0 e, byte-at p q n 1 e, byte-at p q n 2 e, number-at p q n 3 e)

-- a number of four bytes is read back from its place
number-back : (p : List ℕ) (k n : ℕ) (t : List ℕ) → length p ≡ k → n < 256 ^ 4 → number_at 4 (p ++ (bytes_of 4 n ++ t)) k ≡ n
unfolding number_at
number-back p k n t e h = rw (← e, drop-append_seam p (bytes_of 4 n ++ t), take_at (bytes_of 4 n) t 4 (bytes-length 4 n)) (bytes-number 4 n h)

-- an event is read back
event-back : (e : Event) → event_of (form_of e) (event_number e) ≡ some e
unfolding event_of stage_event form_of event_number
event-back (Kind k) = refl
event-back (StageOf Created j) = refl
event-back (StageOf Detached j) = refl
event-back (StageOf Expired j) = refl
event-back (StageOf Discharged j) = refl
event-back (StageOf Violated j) = refl

-- a bound is read back
bound-back : (b : Bound) → OffsetFits b → (t : List ℕ) → bound_of (bound_bytes b ++ t) 0 ≡ some b
unfolding bound_of bound_bytes byte_at bind
bound-back (Plain n) h t = rw (number-back (0 ∷ 0 ∷ 0 ∷ []) 3 n t refl h)
bound-back (Plus e n) h t = rw (event-back e, number-back (1 ∷ form_of e ∷ event_number e ∷ []) 3 n t refl h)
bound-back (Minus e n) h t = rw (event-back e, number-back (2 ∷ form_of e ∷ event_number e ∷ []) 3 n t refl h)
bound-back Open h t = refl

-- a bound has seven bytes
pub bound-length : (b : Bound) → length (bound_bytes b) ≡ 7
unfolding bound_bytes
bound-length (Plain n) = ap (λ (k : ℕ). suc (suc (suc k))) (bytes-length 4 n)
bound-length (Plus e n) = ap (λ (k : ℕ). suc (suc (suc k))) (bytes-length 4 n)
bound-length (Minus e n) = ap (λ (k : ℕ). suc (suc (suc k))) (bytes-length 4 n)
bound-length Open = ap (λ (k : ℕ). suc (suc (suc k))) (bytes-length 4 0)

-- two bounds at the end of an item are read back
bounds-back : (p : List ℕ) (n : ℕ) → length p ≡ n → (l u : Bound) → OffsetFits l → OffsetFits u
    → (bound_of (p ++ (bound_bytes l ++ bound_bytes u)) n ≡ some l) × (bound_of (p ++ (bound_bytes l ++ bound_bytes u)) (n + 7) ≡ some u)
bounds-back p n e l u fl fu = (
  bound_at p _ n e ∙ bound-back l fl (bound_bytes u),
  rw (← append_assoc p (bound_bytes l) (bound_bytes u))
      (bound_at (p ++ bound_bytes l) (bound_bytes u) (n + 7) (omega (arith, length-append p (bound_bytes l), bound-length l, e))
      ∙ ap (λ (s : List ℕ). bound_of s 0) (sym (append-nil (bound_bytes u))) ∙ bound-back u fu []),
)

-- a leaf is read back, of every event, kind and threshold, and with bounds of every sign
pub leaf-back : (x : Atom) → LeafFits x → leaf_of (leaf_bytes x) ≡ some x
unfolding leaf_of happening_of count_of leaf_bytes byte_at bind
leaf-back (Happens x) fits =
    let bounds = bounds-back (3 ∷ form_of x.event ∷ event_number x.event ∷ []) 3 refl x.lower x.upper fits.0 fits.1 in
    rw (event-back x.event, bounds.0, bounds.1)
leaf-back (Counts x) fits =
    let bounds = bounds-back (8 ∷ x.kind ∷ bytes_of 4 x.threshold) 6 (ap (λ (k : ℕ). suc (suc k)) (bytes-length 4 x.threshold)) x.lower x.upper fits.0 fits.1 in
    rw (number-back (8 ∷ x.kind ∷ []) 2 x.threshold _ refl fits.2, bounds.0, bounds.1)

-- a form of at most 5 is an event's
form-read : (form number : ℕ) → form ≤ 5 → (e : Event) × (event_of form number ≡ some e)
unfolding event_of stage_event
form-read zero number h = (Kind number, refl)
form-read (suc zero) number h = (StageOf Created number, refl)
form-read (suc (suc zero)) number h = (StageOf Detached number, refl)
form-read (suc (suc (suc zero))) number h = (StageOf Expired number, refl)
form-read (suc (suc (suc (suc zero)))) number h = (StageOf Discharged number, refl)
form-read (suc (suc (suc (suc (suc zero))))) number h = (StageOf Violated number, refl)
form-read (suc (suc (suc (suc (suc (suc form)))))) number h = absurd (omega arith)

-- refusal 3 of what a form names: no event, or a kind that is not declared
abbrev pub wrong_as : ℕ → Option Event → Bool
wrong_as kinds none = true
wrong_as kinds (some (Kind k)) = leb kinds k
wrong_as kinds (some (StageOf s j)) = false

-- refusal 3 of an event goes by what its form names
pub event-wrong-as : (terms : Terms) (form number : ℕ) → event_wrong terms form number ≡ wrong_as (length terms.kinds) (event_of form number)
unfolding event_wrong event_of stage_event
event-wrong-as terms zero number = refl
event-wrong-as terms (suc zero) number = refl
event-wrong-as terms (suc (suc zero)) number = refl
event-wrong-as terms (suc (suc (suc zero))) number = refl
event-wrong-as terms (suc (suc (suc (suc zero)))) number = refl
event-wrong-as terms (suc (suc (suc (suc (suc zero))))) number = refl
event-wrong-as terms (suc (suc (suc (suc (suc (suc form)))))) number =
    simp (lt-ltb 5 high (omega arith), other 0 (omega arith), other 1 (omega arith), other 2 (omega arith), other 3 (omega arith), other 4 (omega arith), other 5 (omega arith))
  where
    high : ℕ
    high = suc (suc (suc (suc (suc (suc form)))))

    other : (k : ℕ) → k < 6 → eqb high k ≡ false
    other k h = ne_eqb high k (λ e. omega arith)

event-read : (terms : Terms) (form number : ℕ) → event_wrong terms form number ≡ false → (e : Event) × (event_of form number ≡ some e)
unfolding event_wrong
event-read terms form number e = form-read form number (ltb-false 5 form (or-false _ _ e).0)

bound-read : (terms : Terms) (s : List ℕ) (at : ℕ) → bound_wrong terms s at ≡ false → (b : Bound) × (bound_of s at ≡ some b)
unfolding bound_wrong bound_of bind
bound-read terms s at e = go (eqb sign 0) (eqb sign 1) (eqb sign 2) (eqb sign 3) e
  where
    sign : ℕ
    sign = byte_at s at

    form : ℕ
    form = byte_at s (at + 1)

    number : ℕ
    number = byte_at s (at + 2)

    offset : ℕ
    offset = number_at 4 s (at + 3)

    go : (p0 p1 p2 p3 : Bool)
        → cond p0 (not_zero form || not_zero number || ltb offset_limit offset)
        (cond p1 (event_wrong terms form number || ltb offset_limit offset)
        (cond p2 (event_wrong terms form number || ltb offset_limit offset)
        (cond p3 (not_zero form || not_zero number || not_zero offset) true))) ≡ false
        → (b : Bound) × (cond p0 (some (Plain offset))
        (cond p1 (bind (event_of form number) λ e. some (Plus e offset))
        (cond p2 (bind (event_of form number) λ e. some (Minus e offset))
        (cond p3 (some Open) none))) ≡ some b)
    go true p1 p2 p3 e = (Plain offset, refl)
    go false true p2 p3 e = let ev = event-read terms form number (or-false _ _ e).0 in (Plus ev.0 offset, rw ev.1)
    go false false true p3 e = let ev = event-read terms form number (or-false _ _ e).0 in (Minus ev.0 offset, rw ev.1)
    go false false false true e = (Open, refl)
    go false false false false e = absurd (true≢false e)

-- an item 03 that refusal 3 does not turn away is read
happening-read : (terms : Terms) (item : List ℕ) → happening_wrong terms item ≡ false → (x : Atom) × (happening_of item ≡ some x)
unfolding happening_wrong happening_of bind
happening-read terms item h =
    let a = or-false _ _ h in
    let b = or-false _ _ a.0 in
    let c = or-false _ _ b.0 in
    let e = event-read terms (byte_at item 1) (byte_at item 2) c.0 in
    let l = bound-read terms item 3 b.1 in
    let u = bound-read terms item 10 a.1 in
    (Happens (record { event = e.0; lower = l.0; upper = u.0 }), rw (e.1, l.1, u.1))

-- so is an item 08
count-read : (terms : Terms) (item : List ℕ) → count_wrong terms item ≡ false → (x : Atom) × (count_of item ≡ some x)
unfolding count_wrong count_of bind
count-read terms item h =
    let a = or-false _ _ h in
    let b = or-false _ _ a.0 in
    let c = or-false (leb (length terms.kinds) (byte_at item 1) || eqb (byte_at item 6) 3) (bound_wrong terms item 6) b.0 in
    let l = bound-read terms item 6 c.1 in
    let u = bound-read terms item 13 a.1 in
    (Counts (record { kind = byte_at item 1; threshold = number_at 4 item 2; lower = l.0; upper = u.0 }), rw (l.1, u.1))

-- a leaf that refusal 3 does not turn away is read: no accepted item stands for the leaf that neither occurs nor fails
pub leaf-read : (terms : Terms) (item : List ℕ) → leaf_wrong terms item ≡ false → (x : Atom) × (leaf_of item ≡ some x)
unfolding leaf_wrong leaf_of
leaf-read terms item h = go (eqb (byte_at item 0) 8) h
  where
    go : (b : Bool) → cond b (count_wrong terms item) (happening_wrong terms item) ≡ false → (x : Atom) × (cond b (count_of item) (happening_of item) ≡ some x)
    go true h = count-read terms item h
    go false h = happening-read terms item h

-- what neither occurs nor fails
abbrev pub Silent : Times → Type 0
Silent x = (x.occurs ≡ Never) × (x.fails ≡ Never)

-- the leaf for an item that cannot be read neither occurs nor fails
pub neither-silent : (times : StageTimes) (terms : Terms) (log : Log) (subject : Record) → Silent (times_of times terms log subject (leaf neither))
unfolding neither times_of leaf_occurrence leaf_failure failure_at_end failure_at first_before early_failure known edge_of reached earlier_of
neither-silent times terms log subject = (simp (none_within, once_known-never), simp (if_never-never, once_known-never, only_if-never))
