-- Bytes at a place: what a reader finds after `drop` and within `take`, said of the whole bytes and a place in them.
--     byte-drop, byte-front, byte-take, byte-within, byte-first   the byte at a place of a part of the bytes
--     number-drop, number-take, number-within                     the number there
--     number_step, number-none                                    a number byte by byte, past the end too
--     number_two, number_four                                     the two sums that code computes
--     left_over, byte_inside                                      whether a place is inside the bytes
--     drop-take, drop_here, item-…                                the front of the bytes from a place on, and the item that stands there or does not
--     bound-here, bound-wrong-here                                a bound, and refusal 3 of it, by the bytes of the whole
--     event-bound-wrong, no-bound-wrong                           refusal 3 at a bound with an event, and at one of no sign
-- Assumes nothing.
use Prim.Native.Nat.{ℕ, zero, suc, ◌+◌, ◌-◌, ◌*◌, ◌≤◌, ◌<◌}
use native.Mathlib.Nat.{add-zero, zero-add, suc-add, lt_of_not-le}
use native.Mathlib.Numerals.{add-one, towards_suc}
use native.Mathlib.Omega.{arith}
use mathlib.Core.Path.{◌≡◌, refl, ap, sym, ◌∙◌}
use mathlib.Core.Bool.{Bool, true, false, cond, not, ◌||◌, and-false}
use mathlib.Core.List.{List, [], ◌∷◌}
use mathlib.Core.Option.{none, some}
use lib.Dec.{ltb, eqb}
use lib.ListN.{length, take, drop, length-drop, drop_of_length-le, get_or-eq_default}
use lib.Seq.{take-nil, drop-cons, get_or-take, get_or-drop, take-take, drop-drop}
use borrow.Author.Tests.{ltb-true, ltb-false, le-leb, lt-leb, eq-eqb, ne_eqb}
use Rattle.meaning.specs.Lists.{is_empty}
use Rattle.meaning.specs.Terms.{Terms}
use Rattle.format.specs.Bytes.{number_of, byte_at, number_at, item}
use Rattle.format.specs.Fields.{bound_of, offset_limit, event_wrong, bound_wrong}

-- a byte after a place
pub byte-drop : (s : List ℕ) (at i : ℕ) → byte_at (drop at s) i ≡ byte_at s (at + i)
unfolding byte_at
byte-drop s at i = get_or-drop at s i 0

-- the byte right after it
pub byte-front : (s : List ℕ) (at : ℕ) → byte_at (drop at s) 0 ≡ byte_at s at
byte-front s at = byte-drop s at 0 ∙ ap (byte_at s) (add-zero at)

-- a byte of the front
pub byte-take : (n : ℕ) (s : List ℕ) (i : ℕ) → i < n → byte_at (take n s) i ≡ byte_at s i
unfolding byte_at
byte-take n s i h = get_or-take n s i 0 h

-- a byte of n bytes at a place
pub byte-within : (s : List ℕ) (at i n : ℕ) → i < n → byte_at (take n (drop at s)) i ≡ byte_at s (at + i)
byte-within s at i n h = byte-take n (drop at s) i h ∙ byte-drop s at i

-- a number after a place
pub number-drop : (w : ℕ) (s : List ℕ) (at i : ℕ) → number_at w (drop at s) i ≡ number_at w s (at + i)
unfolding number_at
number-drop w s at i = ap (λ t. number_of (take w t)) (drop-drop i at s)

-- the front of what is after m elements
pub drop-take : (m k : ℕ) (s : List ℕ) → drop m (take (m + k) s) ≡ take k (drop m s)
drop-take zero k s = ap (λ (i : ℕ). take i s) (zero-add k)
drop-take (suc m) k [] = ap (drop (suc m)) (take-nil (suc m + k)) ∙ sym (take-nil k)
drop-take (suc m) k (x ∷ s) = ap (λ (i : ℕ). drop (suc m) (take i (x ∷ s))) (suc-add m k) ∙ drop-take m k s

-- a number of the front
pub number-take : (w n : ℕ) (s : List ℕ) (i : ℕ) → i + w ≤ n → number_at w (take n s) i ≡ number_at w s i
unfolding number_at
number-take w n s i h =
    let cut : n ≡ i + (n - i) = omega arith in
    ap (λ (k : ℕ). number_of (take w (drop i (take k s)))) cut ∙ ap number_of (ap (take w) (drop-take i (n - i) s) ∙ take-take w (n - i) (drop i s) (omega arith))

-- a number of n bytes at a place
pub number-within : (w : ℕ) (s : List ℕ) (at i n : ℕ) → i + w ≤ n → number_at w (take n (drop at s)) i ≡ number_at w s (at + i)
number-within w s at i n h = number-take w n (drop at s) i h ∙ number-drop w s at i

-- a number is its low byte and the number after it; past the end all of them are 0
pub number_step : (w : ℕ) (s : List ℕ) (at : ℕ) → number_at (suc w) s at ≡ byte_at s at + 256 * number_at w s (suc at)
unfolding number_at byte_at number_of
number_step w [] zero = rw (take-nil w)
number_step w [] (suc at) = rw (take-nil w)
number_step w (b ∷ s) zero = refl
number_step w (b ∷ s) (suc at) = number_step w s at

-- a number of no bytes
pub number-none : (s : List ℕ) (at : ℕ) → number_at zero s at ≡ 0
unfolding number_at number_of
number-none s at = refl

-- two bytes, as code adds them up
pub number_two : (s : List ℕ) (at : ℕ) → number_at 2 s at ≡ byte_at s at + byte_at s (at + 1) * 256
number_two s at = simp towards_suc (omega (arith, number_step 1 s at, number_step 0 s (suc at), number-none s (suc (suc at))))

-- four bytes, as code adds them up
pub number_four : (s : List ℕ) (at : ℕ)
    → number_at 4 s at ≡ byte_at s at + byte_at s (at + 1) * 256 + byte_at s (at + 2) * 65536 + byte_at s (at + 3) * 16777216
number_four s at = simp towards_suc (omega (arith, number_step 3 s at, number_step 2 s (suc at), number_step 1 s (suc (suc at)), number_step 0 s (suc (suc (suc at))), number-none s (suc (suc (suc (suc at))))))

-- the bytes from a place on: the byte there, then those after it
pub drop_here : (s : List ℕ) (at : ℕ) → at < length s → drop at s ≡ byte_at s at ∷ drop (at + 1) s
unfolding byte_at
drop_here s at h = rw add-one (drop-cons s at 0 h)

-- bytes are left from a place on where it is before the end
pub left_over : (s : List ℕ) (at : ℕ) → not (is_empty (drop at s)) ≡ ltb at (length s)
unfolding is_empty
left_over s at = go (ltb at (length s)) refl
  where
    go : (b : Bool) → ltb at (length s) ≡ b → not (is_empty (drop at s)) ≡ b
    go true e = rw (drop-cons s at 0 (ltb-true at (length s) e))
    go false e = rw (drop_of_length-le s (ltb-false at (length s) e))

-- a byte that is not 0 stands inside the bytes
pub byte_inside : (s : List ℕ) (at : ℕ) → 0 < byte_at s at → at < length s
unfolding byte_at
byte_inside s at h = lt_of_not-le (λ le. omega (arith, get_or-eq_default s 0 le))

-- an item at a place
pub item-here : (kind n : ℕ) (s : List ℕ) (at : ℕ) → byte_at s at ≡ kind → at + 1 + n ≤ length s
    → item kind n (drop at s) ≡ some (take n (drop (at + 1) s), drop (at + 1 + n) s)
unfolding item
item-here kind n s at e h =
    rw (drop_here s at (omega arith), eq-eqb _ _ e, le-leb n (length (drop (at + 1) s)) (omega (arith, length-drop (at + 1) s)), drop-drop n (at + 1) s)

-- none past the end
pub item-past : (kind n : ℕ) (s : List ℕ) (at : ℕ) → length s ≤ at → item kind n (drop at s) ≡ none
unfolding item
item-past kind n s at h = rw (drop_of_length-le s h)

other : (kind n : ℕ) (t : List ℕ) → (byte_at t 0 ≡ kind → ⊥) → item kind n t ≡ none
unfolding item byte_at
other kind n [] h = refl
other kind n (b ∷ t) h = rw (ne_eqb b kind h)

-- none of another kind
pub item-other : (kind n : ℕ) (s : List ℕ) (at : ℕ) → (byte_at s at ≡ kind → ⊥) → item kind n (drop at s) ≡ none
item-other kind n s at h = other kind n (drop at s) (λ e. h (sym (byte-front s at) ∙ e))

-- an item has its byte and its body
short : (kind n : ℕ) (t : List ℕ) → length t < 1 + n → item kind n t ≡ none
unfolding item
short kind n [] h = refl
short kind n (b ∷ t) h = rw (lt-leb n (length t) (omega arith), and-false)

-- none where its body is cut off
pub item-short : (kind n : ℕ) (s : List ℕ) (at : ℕ) → length s < at + 1 + n → item kind n (drop at s) ≡ none
item-short kind n s at h = short kind n (drop at s) (omega (arith, length-drop at s))

-- a byte of a bound
bound-byte : (s : List ℕ) (at i j n : ℕ) → i + j < n → byte_at (take n (drop at s)) (i + j) ≡ byte_at s (at + i + j)
bound-byte s at i j n h = byte-within s at (i + j) n h ∙ ap (byte_at s) (omega arith)

-- a bound's offset
bound-offset : (s : List ℕ) (at i n : ℕ) → i + 7 ≤ n → number_at 4 (take n (drop at s)) (i + 3) ≡ number_at 4 s (at + i + 3)
bound-offset s at i n h = number-within 4 s at (i + 3) n (omega arith) ∙ ap (number_at 4 s) (omega arith)

-- a bound of n bytes at a place
pub bound-here : (s : List ℕ) (at i n : ℕ) → i + 7 ≤ n → bound_of (take n (drop at s)) i ≡ bound_of s (at + i)
unfolding bound_of
bound-here s at i n h =
    rw (byte-within s at i n (omega arith), bound-byte s at i 1 n (omega arith), bound-byte s at i 2 n (omega arith), bound-offset s at i n h)

-- and refusal 3 of it
pub bound-wrong-here : (terms : Terms) (s : List ℕ) (at i n : ℕ) → i + 7 ≤ n → bound_wrong terms (take n (drop at s)) i ≡ bound_wrong terms s (at + i)
unfolding bound_wrong
bound-wrong-here terms s at i n h =
    rw (byte-within s at i n (omega arith), bound-byte s at i 1 n (omega arith), bound-byte s at i 2 n (omega arith), bound-offset s at i n h)

-- the first byte at a place
pub byte-first : (s : List ℕ) (at n : ℕ) → 0 < n → byte_at (take n (drop at s)) 0 ≡ byte_at s at
byte-first s at n h = byte-within s at 0 n h ∙ ap (byte_at s) (add-zero at)

-- what signs 1 and 2 share, in a choice by signs
shared : (sign : ℕ) (a x b : Bool) → (sign ≡ 0 → ⊥) → sign < 3 → cond (eqb sign 0) a (cond (eqb sign 1) x (cond (eqb sign 2) x b)) ≡ x
shared zero a x b first low = absurd (first refl)
shared (suc zero) a x b first low = refl
shared (suc (suc zero)) a x b first low = refl
shared (suc (suc (suc n))) a x b first low = absurd (omega arith)

-- a bound whose sign is 1 or 2: its event, its offset
pub event-bound-wrong : (terms : Terms) (s : List ℕ) (at : ℕ) → (byte_at s at ≡ 0 → ⊥) → byte_at s at < 3
    → bound_wrong terms s at ≡ (event_wrong terms (byte_at s (at + 1)) (byte_at s (at + 2)) || ltb offset_limit (number_at 4 s (at + 3)))
unfolding bound_wrong
event-bound-wrong terms s at = shared (byte_at s at) _ _ _

-- a bound whose sign is past 3
pub no-bound-wrong : (terms : Terms) (s : List ℕ) (at : ℕ) → (byte_at s at ≡ 3 → ⊥) → 3 ≤ byte_at s at → bound_wrong terms s at ≡ true
unfolding bound_wrong
no-bound-wrong terms s at last high = simp (ne_eqb (byte_at s at) 3 last, other 0 (omega arith), other 1 (omega arith), other 2 (omega arith))
  where
    other : (k : ℕ) → k < 3 → eqb (byte_at s at) k ≡ false
    other k h = ne_eqb (byte_at s at) k (λ e. omega arith)
