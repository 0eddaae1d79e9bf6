-- Striking out what is timed m or later goes through lists, and leaves only what is timed before m. Assumes nothing.
use Prim.Native.Nat.{ℕ, ◌≤◌, ◌<◌}
use native.Mathlib.Omega.{arith}
use mathlib.Core.Path.{◌≡◌, refl, ap, ◌∙◌}
use mathlib.Core.Bool.{Bool, true, false, cond}
use mathlib.Core.List.{List, [], ◌∷◌, ◌++◌, map, flat_map, Permᴰ}
use lib.Dec.{ltb}
use lib.ListN.{length}
use borrow.Author.Tests.{ltb-true, ltb-false, le-ltb}
use Rattle.meaning.specs.Lists.{All}
use Rattle.meaning.specs.Rows.{strike}
use Rattle.meaning.proofs.ListLaws.{flat_map-moved}

module _ {A : Type 0} (timed : A → ℕ) where
  -- no more is left than there was
  pub strike-le : (m : ℕ) (l : List A) → length (strike timed m l) ≤ length l
  unfolding strike
  strike-le m [] = omega arith
  strike-le m (x ∷ l) = go (ltb (timed x) m) (strike-le m l)
    where
      go : (b : Bool) → length (strike timed m l) ≤ length l → length (cond b (x ∷ strike timed m l) (strike timed m l)) ≤ length (x ∷ l)
      go true h = omega arith
      go false h = omega arith

  -- Two lists one after the other are struck one by one: a report is built by joining lists.
  pub strike-append : (m : ℕ) (a b : List A) → strike timed m (a ++ b) ≡ strike timed m a ++ strike timed m b
  unfolding strike
  strike-append m [] b = refl
  strike-append m (x ∷ a) b = go (ltb (timed x) m) (strike-append m a b)
    where
      go : (c : Bool) → strike timed m (a ++ b) ≡ strike timed m a ++ strike timed m b
          → cond c (x ∷ strike timed m (a ++ b)) (strike timed m (a ++ b)) ≡ cond c (x ∷ strike timed m a) (strike timed m a) ++ strike timed m b
      go true ih = ap (λ (l : List A). x ∷ l) ih
      go false ih = ih

  -- So may the lists that a list's elements give.
  pub strike-flat_map : {B : Type 0} (m : ℕ) (f : B → List A) (l : List B) → strike timed m (flat_map f l) ≡ flat_map (λ x. strike timed m (f x)) l
  unfolding flat_map strike
  strike-flat_map m f [] = refl
  strike-flat_map m f (x ∷ l) = strike-append m (f x) (flat_map f l) ∙ ap (λ (k : List A). strike timed m (f x) ++ k) (strike-flat_map m f l)

  -- Striking at a later moment first changes nothing: a later report, struck at m, has what an earlier one has.
  pub strike-strike : (m m' : ℕ) → m ≤ m' → (l : List A) → strike timed m (strike timed m' l) ≡ strike timed m l
  unfolding strike
  strike-strike m m' h [] = refl
  strike-strike m m' h (x ∷ l) = go (ltb (timed x) m') refl (strike-strike m m' h l)
    where
      go : (b : Bool) → ltb (timed x) m' ≡ b → strike timed m (strike timed m' l) ≡ strike timed m l
          → strike timed m (cond b (x ∷ strike timed m' l) (strike timed m' l)) ≡ strike timed m (x ∷ l)
      go true e ih = rw ih
      go false e ih = let late : m' ≤ timed x = ltb-false (timed x) m' e in rw (le-ltb (timed x) m (omega arith)) ih

  -- What is left is timed before the moment.
  pub strike-timed : (m : ℕ) (l : List A) → All (λ x. timed x < m) (strike timed m l)
  unfolding strike
  strike-timed m [] = tt
  strike-timed m (x ∷ l) = go (ltb (timed x) m) refl (strike-timed m l)
    where
      go : (b : Bool) → ltb (timed x) m ≡ b → All (λ x. timed x < m) (strike timed m l)
          → All (λ x. timed x < m) (cond b (x ∷ strike timed m l) (strike timed m l))
      go true e ih = (ltb-true (timed x) m e, ih)
      go false e ih = ih

  -- What all have, all that are left have.
  pub strike-all : (P : A → Type 0) (m : ℕ) (l : List A) → All P l → All P (strike timed m l)
  unfolding strike
  strike-all P m [] h = tt
  strike-all P m (x ∷ l) h = go (ltb (timed x) m) (strike-all P m l h.1)
    where
      go : (b : Bool) → All P (strike timed m l) → All P (cond b (x ∷ strike timed m l) (strike timed m l))
      go true ih = (h.0, ih)
      go false ih = ih

  -- What is timed m or later may be left out where it gives nothing.
  pub flat_map-strike : {B : Type 0} (m : ℕ) (f : A → List B) → ((x : A) → m ≤ timed x → f x ≡ []) → (l : List A) → flat_map f l ≡ flat_map f (strike timed m l)
  unfolding flat_map strike
  flat_map-strike m f none [] = refl
  flat_map-strike m f none (x ∷ l) = go (ltb (timed x) m) refl (flat_map-strike m f none l)
    where
      go : (b : Bool) → ltb (timed x) m ≡ b → flat_map f l ≡ flat_map f (strike timed m l)
          → f x ++ flat_map f l ≡ flat_map f (cond b (x ∷ strike timed m l) (strike timed m l))
      go true e ih = rw ih
      go false e ih = rw (none x (ltb-false (timed x) m e), ih)

  -- Striking goes through a change of form that keeps the times.
  pub strike-map : {B : Type 0} (timed' : B → ℕ) (f : A → B) (m : ℕ) (l : List A) → All (λ x. timed' (f x) ≡ timed x) l
      → strike timed' m (map f l) ≡ map f (strike timed m l)
  unfolding strike
  strike-map timed' f m [] h = refl
  strike-map timed' f m (x ∷ l) h = rw h.0 (go (ltb (timed x) m) (strike-map timed' f m l h.1))
    where
      go : (b : Bool) → strike timed' m (map f l) ≡ map f (strike timed m l)
          → cond b (f x ∷ strike timed' m (map f l)) (strike timed' m (map f l)) ≡ map f (cond b (x ∷ strike timed m l) (strike timed m l))
      go true ih = rw ih
      go false ih = ih

  -- Elements are struck one by one.
  strike-each : (m : ℕ) (l : List A) → strike timed m l ≡ flat_map (λ x. strike timed m (x ∷ [])) l
  unfolding flat_map strike
  strike-each m [] = refl
  strike-each m (x ∷ l) = strike-append m (x ∷ []) l ∙ ap (λ (k : List A). strike timed m (x ∷ []) ++ k) (strike-each m l)

  -- So what is left of a rearranged list is what is left of the list, rearranged.
  pub strike-moved : (m : ℕ) {l l' : List A} → Permᴰ l l' → Permᴰ (strike timed m l) (strike timed m l')
  strike-moved m {l} {l'} moved = rw (strike-each m l, strike-each m l') (flat_map-moved (λ x. strike timed m (x ∷ [])) moved)
