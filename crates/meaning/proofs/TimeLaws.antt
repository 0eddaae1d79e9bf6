-- `before m` keeps the laws of times: it may be taken out of, or pushed into, each operation.
-- So whether a time is before m, and which it is, depends on its parts only so far as they are before m.
-- Assumes nothing.
use Prim.Native.Nat.{ℕ, min, max, ◌≤◌, ◌<◌}
use native.Mathlib.Omega.{arith}
use mathlib.Core.Path.{◌≡◌, refl, ap, ◌∙◌}
use mathlib.Core.Bool.{Bool, true, false, cond}
use lib.Dec.{leb, ltb}
use borrow.Author.Tests.{ltb-true, ltb-false, lt-ltb, le-ltb}
use Rattle.meaning.specs.declared.Time.{Time}
use Rattle.meaning.specs.declared.Time.TheVariants.{At, Never}
use Rattle.meaning.specs.Time.{later_of, earlier_of, before, from, once_known, if_never, only_if, cut, last_minute}

-- a minute before m stays
pub before-lt : (m n : ℕ) → n < m → before m (At n) ≡ At n
unfolding before
before-lt m n h = rw (lt-ltb n m h) refl

-- a minute at m or later is taken away
pub before-le : (m n : ℕ) → m ≤ n → before m (At n) ≡ Never
unfolding before
before-le m n h = rw (le-ltb n m h) refl

-- a minute is before m or not
pub data Side (m n : ℕ) : Type 0 where
  early : n < m → Side m n
  late : m ≤ n → Side m n

-- which of the two
pub side : (m n : ℕ) → Side m n
side m n = go (ltb n m) refl
  where
    go : (b : Bool) → ltb n m ≡ b → Side m n
    go true e = early (ltb-true n m e)
    go false e = late (ltb-false n m e)

-- through the later of two times
pub before-later : (m : ℕ) (a b : Time) → before m (later_of a b) ≡ later_of (before m a) (before m b)
unfolding later_of before
before-later m (At a) (At b) = go (side m a) (side m b)
  where
    go : Side m a → Side m b → before m (At (max a b)) ≡ later_of (before m (At a)) (before m (At b))
    go (early p) (early q) = rw (before-lt m a p, before-lt m b q) (before-lt m (max a b) (omega arith))
    go (early p) (late q) = rw (before-lt m a p, before-le m b q) (before-le m (max a b) (omega arith))
    go (late p) q = rw (before-le m a p) (before-le m (max a b) (omega arith))
before-later m (At a) Never = go (side m a)
  where
    go : Side m a → Never ≡ later_of (before m (At a)) Never
    go (early p) = rw (before-lt m a p)
    go (late p) = rw (before-le m a p)
before-later m Never b = refl

-- through the earlier of two times
pub before-earlier : (m : ℕ) (a b : Time) → before m (earlier_of a b) ≡ earlier_of (before m a) (before m b)
unfolding earlier_of before
before-earlier m (At a) (At b) = go (side m a) (side m b)
  where
    go : Side m a → Side m b → before m (At (min a b)) ≡ earlier_of (before m (At a)) (before m (At b))
    go (early p) (early q) = rw (before-lt m a p, before-lt m b q) (before-lt m (min a b) (omega arith))
    go (early p) (late q) = rw (before-lt m a p, before-le m b q) (before-lt m (min a b) (omega arith) ∙ ap At (omega arith))
    go (late p) (early q) = rw (before-le m a p, before-lt m b q) (before-lt m (min a b) (omega arith) ∙ ap At (omega arith))
    go (late p) (late q) = rw (before-le m a p, before-le m b q) (before-le m (min a b) (omega arith))
before-earlier m (At a) Never = go (side m a)
  where
    go : Side m a → before m (At a) ≡ earlier_of (before m (At a)) Never
    go (early p) = rw (before-lt m a p)
    go (late p) = rw (before-le m a p)
before-earlier m Never b = refl

-- through what waits for a known-time
pub before-once_known : (m : ℕ) (t : Time) (f : ℕ → Time) → before m (once_known t f) ≡ once_known (before m t) (λ g. before m (f g))
unfolding once_known before later_of
before-once_known m (At g) f = before-later m (At g) (f g) ∙ go (side m g)
  where
    go : Side m g → later_of (before m (At g)) (before m (f g)) ≡ once_known (before m (At g)) (λ h. before m (f h))
    go (early p) = rw (before-lt m g p)
    go (late p) = rw (before-le m g p)
before-once_known m Never f = refl

-- through a lower bound
pub before-from : (m l : ℕ) (t : Time) → before m (from l t) ≡ from l (before m t)
unfolding from before
before-from m l (At n) = go (leb l n) (ltb n m) refl refl
  where
    go : (b c : Bool) → leb l n ≡ b → ltb n m ≡ c → before m (cond (leb l n) (At n) Never) ≡ from l (cond (ltb n m) (At n) Never)
    go true true p q = rw (p, q) (rw p)
    go true false p q = rw (p, q)
    go false true p q = rw (p, q) (rw p)
    go false false p q = rw (p, q)
before-from m l Never = refl

-- of two moments the smaller one counts
pub before-before : (m r : ℕ) → r ≤ m → (t : Time) → before m (before r t) ≡ before r t
unfolding before
before-before m r h (At n) = go (side r n)
  where
    go : Side r n → before m (before r (At n)) ≡ before r (At n)
    go (early p) = rw (before-lt r n p) (before-lt m n (omega arith))
    go (late p) = rw (before-le r n p)
before-before m r h Never = refl

-- two moments in either order
pub before-comm : (m r : ℕ) (t : Time) → before m (before r t) ≡ before r (before m t)
unfolding before
before-comm m r (At n) = go (side m n) (side r n)
  where
    go : Side m n → Side r n → before m (before r (At n)) ≡ before r (before m (At n))
    go (early p) (early q) = rw (before-lt r n q, before-lt m n p) (rw (before-lt r n q))
    go (early p) (late q) = rw (before-lt m n p, before-le r n q)
    go (late p) (early q) = rw (before-lt r n q, before-le m n p)
    go (late p) (late q) = rw (before-le r n q, before-le m n p)
before-comm m r Never = refl

-- what is cut at m or later is not before m
pub before-cut : (m n : ℕ) → m ≤ n → before m (cut n) ≡ Never
unfolding cut before last_minute
before-cut m n h = go (leb n last_minute)
  where
    go : (b : Bool) → before m (cond b (At n) Never) ≡ Never
    go true = before-le m n h
    go false = refl

-- none stays none
pub before-never : (m : ℕ) → before m Never ≡ Never
unfolding before
before-never m = refl

-- through a choice
pub before-if_never : (m : ℕ) (t a b : Time) → before m (if_never t a b) ≡ if_never t (before m a) (before m b)
unfolding if_never
before-if_never m Never a b = refl
before-if_never m (At n) a b = refl

-- a choice between none and none
pub if_never-never : (t : Time) → if_never t Never Never ≡ Never
unfolding if_never
if_never-never Never = refl
if_never-never (At n) = refl

-- a moment and a test
pub before-only_if : (m : ℕ) (b : Bool) (t : Time) → before m (only_if b t) ≡ only_if b (before m t)
unfolding only_if before
before-only_if m true t = refl
before-only_if m false t = refl

pub only_if-never : (b : Bool) → only_if b Never ≡ Never
unfolding only_if
only_if-never true = refl
only_if-never false = refl

-- a test of the second of two times is one of the later
pub later-only_if : (a : Time) (b : Bool) (t : Time) → later_of a (only_if b t) ≡ only_if b (later_of a t)
unfolding later_of only_if
later-only_if a true t = refl
later-only_if (At g) false t = refl
later-only_if Never false t = refl

-- nothing comes of waiting for none
pub once_known-never : (t : Time) → once_known t (λ g. Never) ≡ Never
unfolding once_known later_of
once_known-never Never = refl
once_known-never (At n) = refl

-- what code finds that compares two minutes: the second is the later one
pub later-right : {a b : Time} {x y : ℕ} → a ≡ At x → b ≡ At y → x < y → At y ≡ later_of a b
unfolding later_of
later-right {x = x} {y = y} p q h = rw (p, q) (ap At (omega arith))

-- the first is the later one, or as late
pub later-left : {a b : Time} {x y : ℕ} → a ≡ At x → b ≡ At y → y ≤ x → At x ≡ later_of a b
unfolding later_of
later-left {x = x} {y = y} p q h = rw (p, q) (ap At (omega arith))

-- the first is the earlier one
pub earlier-left : {a b : Time} {x y : ℕ} → a ≡ At x → b ≡ At y → x < y → At x ≡ earlier_of a b
unfolding earlier_of
earlier-left {x = x} {y = y} p q h = rw (p, q) (ap At (omega arith))

-- the second is the earlier one, or as early
pub earlier-right : {a b : Time} {x y : ℕ} → a ≡ At x → b ≡ At y → y ≤ x → At y ≡ earlier_of a b
unfolding earlier_of
earlier-right {x = x} {y = y} p q h = rw (p, q) (ap At (omega arith))

-- the second is none
pub earlier-alone : {a b : Time} {x : ℕ} → a ≡ At x → b ≡ Never → At x ≡ earlier_of a b
unfolding earlier_of
earlier-alone p q = rw (p, q)

-- of three times it does not matter which two are compared first
pub earlier-assoc : (a b c : Time) → earlier_of (earlier_of a b) c ≡ earlier_of a (earlier_of b c)
unfolding earlier_of
earlier-assoc (At a) (At b) (At c) = ap At (omega arith)
earlier-assoc (At a) (At b) Never = refl
earlier-assoc (At a) Never c = refl
earlier-assoc Never b c = refl

-- it does not matter which of two times stands first
pub earlier-swap : (a b : Time) → earlier_of a b ≡ earlier_of b a
unfolding earlier_of
earlier-swap (At a) (At b) = ap At (omega arith)
earlier-swap (At a) Never = refl
earlier-swap Never (At b) = refl
earlier-swap Never Never = refl

-- none is later than any
pub earlier-never : (a : Time) → earlier_of a Never ≡ a
unfolding earlier_of
earlier-never (At a) = refl
earlier-never Never = refl
