-- What a joined test tells of its parts, and tests whose parts change places. Assumes nothing.
use Prim.Native.Nat.{ℕ}
use mathlib.Core.Path.{◌≡◌, refl, sym}
use mathlib.Core.Bool.{Bool, true, false, ◌&&◌, ◌||◌, or-true, true≢false}
use lib.Dec.{eqb}
use borrow.Author.Tests.{eqb-true, eqb-false, eq-eqb, ne_eqb}

-- neither holds
pub or-false : (a b : Bool) → (a || b) ≡ false → (a ≡ false) × (b ≡ false)
or-false true b e = absurd (true≢false e)
or-false false b e = (refl, e)

-- both hold
pub and-true : (a b : Bool) → (a && b) ≡ true → (a ≡ true) × (b ≡ true)
and-true true b e = (refl, e)
and-true false b e = absurd (true≢false (sym e))

-- the second and the third of four change places
pub or-across : (x a b y : Bool) → (x || a || (b || y)) ≡ (x || b || (a || y))
or-across true a b y = refl
or-across false true b y = sym (or-true b)
or-across false false b y = refl

-- two numbers are equal, whichever is named first
pub eqb-swap : (a b : ℕ) → eqb a b ≡ eqb b a
eqb-swap a b = go (eqb a b) refl
  where
    go : (t : Bool) → eqb a b ≡ t → t ≡ eqb b a
    go true e = sym (eq-eqb b a (sym (eqb-true a b e)))
    go false e = sym (ne_eqb b a (λ same. eqb-false a b e (sym same)))
