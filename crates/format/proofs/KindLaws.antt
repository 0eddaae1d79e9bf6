-- Event kinds at their places in the terms: the item 01 with the number k has its five bytes from 5 * k on.
--     kind-here               its body, which stands within the bytes
--     mask-here, key_here     its mask and its key
--     kinds_count, kind-from  as many kinds as items 01, each what its body stands for
--     mask-past               past the last one a kind that carries nothing
--     mask-fits               a mask has 16 bits
--     key-carried             each kind carries its key where refusal 3 does not hold
--     kind-wrong-here         refusal 3 at an item 01, by its bytes
--     head-wrong-here         and at an item 02, which names a kind
-- Assumes nothing.
use Prim.Native.Nat.{ℕ, zero, suc, ◌+◌, ◌*◌, ◌^◌, ◌≤◌, ◌<◌}
use native.Mathlib.Nat.{add_assoc}
use native.Mathlib.Omega.{arith}
use mathlib.Core.Path.{◌≡◌, refl, ap, sym, ◌∙◌}
use mathlib.Core.Bool.{true, false, not, ◌||◌}
use mathlib.Core.List.{List, [], ◌∷◌, ◌++◌}
use lib.Dec.{leb, ltb, eqb}
use lib.ListN.{length, get_or, take, drop, length-append, length-map, get_or-map, get_or-eq_default}
use lib.Seq.{take_at, drop-append-add}
use borrow.Author.Tests.{not-false}
use Rattle.meaning.specs.Lists.{numbers_from, All}
use Rattle.meaning.specs.Terms.{kind_at}
use Rattle.meaning.specs.Log.{carries}
use Rattle.format.specs.Bytes.{number_of, byte_at, number_at, item}
use Rattle.format.specs.Grammar.{kinds_limit, file_of}
use Rattle.format.specs.Fields.{kind_from, terms_from, kind_wrong, kinds_wrong, head_wrong, field_wrong, terms_of}
use Rattle.meaning.proofs.BoolLaws.{or-false}
use Rattle.meaning.proofs.ListLaws.{all_drop}
use Rattle.meaning.proofs.MemberLaws.{any_of-none, numbers-mem}
use Rattle.format.proofs.NumberLaws.{front_fits}
use Rattle.format.proofs.ReaderLaws.{item-sound, many-induction}
use Rattle.format.proofs.PlaceLaws.{byte-within, byte-first, number-within}

-- each body that is read stands five bytes after the one before it
abbrev Placed : List ℕ → List (List ℕ) → Type 0
Placed s xs = (k : ℕ) → k < length xs → (get_or xs k [] ≡ take 4 (drop (5 * k + 1) s)) × (5 * k + 5 ≤ length s)

-- one item more in front of the others
placed-step : (s body t : List ℕ) (xs : List (List ℕ)) → (s ≡ 1 ∷ (body ++ t)) × (length body ≡ 4) → Placed t xs → Placed s (body ∷ xs)
placed-step s body t xs h ih zero k = rw h.0 (sym (take_at body t 4 h.1), omega (arith, length-append body t, h.1))
placed-step s body t xs h ih (suc i) k =
    let found = ih i (omega arith) in
    let place : 5 * suc i + 1 ≡ length (1 ∷ body) + (5 * i + 1) = omega (arith, h.1) in
    rw h.0 (
      found.0 ∙ sym (ap (λ (k : ℕ). take 4 (drop k (1 ∷ (body ++ t)))) place ∙ ap (take 4) (drop-append-add (1 ∷ body) t (5 * i + 1))),
      omega (arith, found.1, length-append body t, h.1),
    )

-- the body of the item 01 with a number
pub kind-here : (s : List ℕ) (k : ℕ) → k < length (file_of s).kinds → (get_or (file_of s).kinds k [] ≡ take 4 (drop (5 * k + 1) s)) × (5 * k + 5 ≤ length s)
unfolding file_of
kind-here s = many-induction (item 1 4) (λ n s xs u. Placed s xs) (λ n s k h. absurd (omega arith)) (λ n s body t xs u e ih. placed-step s body t xs (item-sound 1 4 s e) ih) kinds_limit s

-- as many kinds as items 01
pub kinds_count : (s : List ℕ) → length (terms_of s).kinds ≡ length (file_of s).kinds
unfolding terms_of terms_from
kinds_count s = length-map (file_of s).kinds kind_from

-- a kind is what its body stands for, and past the last one what no bytes stand for
pub kind-from : (s : List ℕ) (k : ℕ) → kind_at (terms_of s) k ≡ kind_from (get_or (file_of s).kinds k [])
unfolding kind_at terms_of terms_from kind_from number_at number_of byte_at
kind-from s k = get_or-map kind_from (file_of s).kinds k []

-- its mask
pub mask-here : (s : List ℕ) (k : ℕ) → k < length (file_of s).kinds → (kind_at (terms_of s) k).mask ≡ number_at 2 s (5 * k + 2)
unfolding kind_from
mask-here s k h = rw (kind-from s k, (kind-here s k h).0) (number-within 2 s (5 * k + 1) 1 4 (omega arith) ∙ ap (number_at 2 s) (omega arith))

-- its key
pub key_here : (s : List ℕ) (k : ℕ) → k < length (file_of s).kinds → (kind_at (terms_of s) k).key ≡ byte_at s (5 * k + 4)
unfolding kind_from
key_here s k h = rw (kind-from s k, (kind-here s k h).0) (byte-within s (5 * k + 1) 3 4 (omega arith) ∙ ap (byte_at s) (omega arith))

-- past the last one
pub mask-past : (s : List ℕ) (k : ℕ) → length (file_of s).kinds ≤ k → ((kind_at (terms_of s) k).mask ≡ 0) × ((kind_at (terms_of s) k).key ≡ 0)
unfolding kind_from number_at number_of byte_at
mask-past s k h = rw (kind-from s k, get_or-eq_default (file_of s).kinds [] h) (refl, refl)

-- where the terms are bytes, the mask of a declared kind has 16 bits
pub mask-fits : (s : List ℕ) → All (λ b. b < 256) s → (k : ℕ) → k < length (file_of s).kinds → (kind_at (terms_of s) k).mask < 2 ^ 16
unfolding number_at
mask-fits s bytes k h = rw (mask-here s k h) (front_fits 2 (drop (5 * k + 2) s) (all_drop (λ b. b < 256) (5 * k + 2) s bytes))

-- an item 01 that refusal 3 does not turn away carries its key
item-carries : (i : ℕ) (body : List ℕ) → kind_wrong i body ≡ false → carries (kind_from body).mask (kind_from body).key ≡ true
unfolding kind_wrong
item-carries i body e = not-false _ (or-false (not (eqb (byte_at body 0) i) || eqb (kind_from body).mask 0) _ e).1

-- in terms that refusal 3 does not turn away each declared kind carries its key
pub key-carried : (s : List ℕ) → field_wrong (file_of s) ≡ false → (k : ℕ) → k < length (file_of s).kinds
    → carries (kind_at (terms_of s) k).mask (kind_at (terms_of s) k).key ≡ true
unfolding field_wrong kinds_wrong
key-carried s e k h =
    let n = length (file_of s).kinds in
    let right = any_of-none (λ i. kind_wrong i (get_or (file_of s).kinds i [])) (numbers_from 0 n) (or-false _ _ e).0 (numbers-mem 0 n k (omega arith) (omega arith)) in
    rw (kind-from s k) (item-carries k (get_or (file_of s).kinds k []) right)

-- refusal 3 at the item 01 with a number: its number, its mask, its key
pub kind-wrong-here : (s : List ℕ) (i : ℕ) → kind_wrong i (take 4 (drop (5 * i + 1) s))
    ≡ (not (eqb (byte_at s (5 * i + 1)) i) || eqb (number_at 2 s (5 * i + 2)) 0 || not (carries (number_at 2 s (5 * i + 2)) (byte_at s (5 * i + 4))))
unfolding kind_wrong kind_from
kind-wrong-here s i =
    rw (
      byte-first s (5 * i + 1) 4 (omega arith),
      number-within 2 s (5 * i + 1) 1 4 (omega arith),
      byte-within s (5 * i + 1) 3 4 (omega arith),
      add_assoc (5 * i) 1 1,
      add_assoc (5 * i) 1 3,
    )

-- refusal 3 at an item 02: its type, its subject kind, its parties
pub head-wrong-here : (s : List ℕ) (kinds at : ℕ) → kinds ≡ length (file_of s).kinds → head_wrong (terms_of s) (take 4 (drop at s))
    ≡ (eqb (byte_at s at) 0 || ltb 4 (byte_at s at) || leb kinds (byte_at s (at + 1))
    || not (carries (kind_at (terms_of s) (byte_at s (at + 1))).mask (byte_at s (at + 2)))
    || not (carries (kind_at (terms_of s) (byte_at s (at + 1))).mask (byte_at s (at + 3))))
unfolding head_wrong
head-wrong-here s kinds at e =
    rw (byte-first s at 4 (omega arith), byte-within s at 1 4 (omega arith), byte-within s at 2 4 (omega arith), byte-within s at 3 4 (omega arith), kinds_count s, ← e)
