-- Numbers in bytes, low byte first: what is written is read back, for every width w. Assumes nothing.
use Prim.Native.Nat.{ℕ, zero, suc, ◌+◌, ◌*◌, ◌/◌, ◌^◌, ◌≤◌, ◌<◌}
use native.Mathlib.Nat.{pow-suc, pow-le-pow_right, lt_of_lt_of_le, min-le_left}
use native.Mathlib.Omega.{arith}
use mathlib.Core.Path.{◌≡◌, refl, ap, ap₂, sym, ◌∙◌}
use mathlib.Core.List.{List, [], ◌∷◌, ◌++◌}
use lib.Dec.{lit<}
use lib.ListN.{length, take, length-take, drop}
use lib.Seq.{length-take-le, take_at, drop_at}
use Rattle.meaning.specs.Lists.{All}
use Rattle.format.specs.Bytes.{bytes_of, number_of}
use Rattle.meaning.proofs.ListLaws.{all_take}

-- a number of w bytes takes w bytes
pub bytes-length : (w n : ℕ) → length (bytes_of w n) ≡ w
unfolding bytes_of
bytes-length zero n = refl
bytes-length (suc w) n = ap suc (bytes-length w (n / 256))

-- what is written is bytes, each below 256
pub bytes-bytes : (w n : ℕ) → All (λ b. b < 256) (bytes_of w n)
unfolding bytes_of
bytes-bytes zero n = tt
bytes-bytes (suc w) n = (omega arith, bytes-bytes w (n / 256))

-- a number that fits its width is read back as it was written
pub bytes-number : (w n : ℕ) → n < 256 ^ w → number_of (bytes_of w n) ≡ n
unfolding bytes_of number_of
bytes-number zero n h = omega arith
bytes-number (suc w) n h = let rest : number_of (bytes_of w (n / 256)) ≡ n / 256 = bytes-number w (n / 256) (omega arith) in omega arith

-- bytes that are read as a number are written back as they were
pub number-bytes : (s : List ℕ) → All (λ b. b < 256) s → bytes_of (length s) (number_of s) ≡ s
unfolding bytes_of number_of
number-bytes [] h = refl
number-bytes (b ∷ s) h = ap₂ (λ (x : ℕ) (y : List ℕ). x ∷ y) (omega arith) (rw high (number-bytes s h.1))
  where
    high : (b + 256 * number_of s) / 256 ≡ number_of s
    high = omega arith

-- the number that bytes stand for fits their width
pub number_bound : (s : List ℕ) → All (λ b. b < 256) s → number_of s < 256 ^ length s
unfolding number_of
number_bound [] h = omega arith
number_bound (b ∷ s) h = rw (pow-suc 256 (length s)) (omega (arith, number_bound s h.1))

-- a number that is read at the front of bytes is written back as it stood there
pub front_bytes : (w : ℕ) (s : List ℕ) → w ≤ length s → All (λ b. b < 256) s → bytes_of w (number_of (take w s)) ≡ take w s
front_bytes w s long h = rw (length-take-le w s long) at (number-bytes (take w s) (all_take (λ b. b < 256) w s h))

-- and it fits its width
pub front_fits : (w : ℕ) (s : List ℕ) → All (λ b. b < 256) s → number_of (take w s) < 256 ^ w
front_fits w s h =
    lt_of_lt_of_le (number_bound (take w s) (all_take (λ b. b < 256) w s h)) (pow-le-pow_right (lit< tt) (rw length-take (min-le_left w (length s))))

-- a number at the front is told by its bytes
pub front-told : (w n k : ℕ) → n < 256 ^ w → k < 256 ^ w → (a b : List ℕ) → bytes_of w n ++ a ≡ bytes_of w k ++ b → (n ≡ k) × (a ≡ b)
front-told w n k p q a b e = (
  sym (number n a p) ∙ ap (λ (s : List ℕ). number_of (take w s)) e ∙ number k b q,
  sym (drop_at (bytes_of w n) a w (bytes-length w n)) ∙ ap (drop w) e ∙ drop_at (bytes_of w k) b w (bytes-length w k),
)
  where
    number : (i : ℕ) (s : List ℕ) → i < 256 ^ w → number_of (take w (bytes_of w i ++ s)) ≡ i
    number i s h = rw (take_at (bytes_of w i) s w (bytes-length w i)) (bytes-number w i h)

pub zero-fits : (w : ℕ) → 0 < 256 ^ w
zero-fits zero = omega arith
zero-fits (suc w) = omega (arith, zero-fits w)
