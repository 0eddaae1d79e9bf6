-- Laws of the readers of `Bytes`: what an item is, and what reading one thing after another finds.
--     none-some, found-eq             what a finding tells
--     bind-cases, or_else-cases     what the parts of a joined reading found
--     item-sound, item-whole          an item is read exactly where its item byte and a body of its length stand
--     many-induction                  what holds of nothing read, and goes on with each thing read, holds of all that `many` reads
--     many-bytes                      what was read and what is left over, written one after another, are the bytes
--     many-all, many-count            each thing read has what the reader promises; at most n are read
--     many-whole                      things written one after another are read back
--     many-fuel                       how often is tried does not count, from as many times on as there are bytes
--     SoFar, so_far, so-far-step, -none, -full   one thing after another as a loop reads them: the start, a step, and the two ends
-- Assumes nothing.
use Prim.Native.Nat.{ℕ, zero, suc, ◌-◌, ◌≤◌, ◌<◌}
use native.Mathlib.Omega.{arith}
use mathlib.Core.Path.{◌≡◌, refl, ap, sym, ◌∙◌}
use mathlib.Core.Bool.{Bool, true, false, cond, ◌&&◌}
use mathlib.Core.List.{List, [], ◌∷◌, ◌++◌, flat_map, append_assoc, append-nil}
use mathlib.Core.Option.{Option, none, some, some-injective, bind}
use lib.Dec.{leb, eqb}
use lib.ListN.{length, take, drop, length-append, take-append-drop}
use lib.Seq.{length-take-le, take_at, drop_at}
use borrow.Author.Tests.{leb-true, eqb-true, le-leb, eq-eqb}
use Rattle.meaning.specs.Lists.{All}
use Rattle.format.specs.Bytes.{Reader, or_else, many, item}

-- nothing found is not something found
pub none-some : {A C : Type 0} {a : A} → none ≡ some a → C
none-some e = absurd (let z : ◌≡◌ {A = ℕ} 0 1 = cc in omega arith)

-- a finding tells what was read and what is left
pub found-eq : {A : Type 0} {x y : A} {s t : List ℕ} → ◌≡◌ {A = Option (A × List ℕ)} (some (x, s)) (some (y, t)) → (x ≡ y) × (s ≡ t)
found-eq {x} {y} {s} {t} e = let p = some-injective (x, s) (y, t) e in (ap (λ q. q.0) p, ap (λ q. q.1) p)

-- where two readings in turn find something, the first one found something from which the second went on
pub bind-cases : {A B C : Type 0} (o : Option A) (f : A → Option B) {b : B} → bind o f ≡ some b → ((a : A) → o ≡ some a → f a ≡ some b → C) → C
unfolding bind
bind-cases none f e k = none-some e
bind-cases (some a) f e k = k a refl e

-- where one of two readings finds something, it is the first or the second
pub or_else-cases : {A C : Type 0} {o p : Option A} {a : A} → (o ≡ some a → C) → (p ≡ some a → C) → or_else o p ≡ some a → C
or_else-cases {o = none} f g e = g e
or_else-cases {o = some x} f g e = f e

-- what is read as an item stands at the front, item byte and body, and the body has the item's length
pub item-sound : (kind n : ℕ) (s : List ℕ) {body t : List ℕ} → item kind n s ≡ some (body, t) → (s ≡ kind ∷ (body ++ t)) × (length body ≡ n)
unfolding item
item-sound kind n [] e = (cc, cc)
item-sound kind n (b ∷ s) {body} {t} e = go (eqb b kind) (leb n (length s)) refl refl e
  where
    go : (p q : Bool) → eqb b kind ≡ p → leb n (length s) ≡ q → cond {A = Option (List ℕ × List ℕ)} (p && q) (some (take n s, drop n s)) none ≡ some (body, t)
        → (b ∷ s ≡ kind ∷ (body ++ t)) × (length body ≡ n)
    go true true p q e =
        let parts : (take n s ≡ body) × (drop n s ≡ t) = found-eq e in
        (cc (parts.0, parts.1, eqb-true b kind p, take-append-drop n s), cc (parts.0, length-take-le n s (leb-true n (length s) q)))
    go true false p q e = (cc, cc)
    go false q p r e = (cc, cc)

-- an item that stands at the front is read
pub item-whole : (kind n : ℕ) (body t : List ℕ) → length body ≡ n → item kind n (kind ∷ (body ++ t)) ≡ some (body, t)
unfolding item
item-whole kind n body t e = simp (eq-eqb kind kind refl, le-leb n (length (body ++ t)) (omega (arith, length-append body t)), take_at body t n e, drop_at body t n e)

module _ {A : Type 0} (reader : Reader A) where
  -- nothing read
  pub many-none : (n : ℕ) (s : List ℕ) → reader s ≡ none → many reader n s ≡ ([], s)
  unfolding many
  many-none zero s e = refl
  many-none (suc n) s e = rw (e, many)

  -- one thing read, then the others
  pub many-some : (n : ℕ) (s : List ℕ) {x : A} {t : List ℕ} → reader s ≡ some (x, t) → many reader (suc n) s ≡ (x ∷ (many reader n t).0, (many reader n t).1)
  unfolding many
  many-some n s e = rw (e, many)

  -- what holds of nothing read, and of one thing more where it holds of what is read after it, holds of all that is read
  pub many-induction : (Good : ℕ → List ℕ → List A → List ℕ → Type 0) → ((n : ℕ) (s : List ℕ) → Good n s [] s)
      → ((n : ℕ) (s : List ℕ) (x : A) (t : List ℕ) (xs : List A) (u : List ℕ) → reader s ≡ some (x, t) → Good n t xs u → Good (suc n) s (x ∷ xs) u)
      → (n : ℕ) (s : List ℕ) → Good n s (many reader n s).0 (many reader n s).1
  unfolding many
  many-induction Good start step zero s = start zero s
  many-induction Good start step (suc n) s = go (reader s) refl (many-induction Good start step n)
    where
      go : (o : Option (A × List ℕ)) → reader s ≡ o → ((t : List ℕ) → Good n t (many reader n t).0 (many reader n t).1) → Good (suc n) s (many reader (suc n) s).0 (many reader (suc n) s).1
      go none e ih = rw (many-none (suc n) s e) (start (suc n) s)
      go (some a) e ih = rw (many-some n s e) (step n s a.0 a.1 _ _ e (ih a.1))

  -- what was read and what is left over, written one after another, are the bytes
  pub many-bytes : (write : A → List ℕ) → ((s : List ℕ) (x : A) (t : List ℕ) → reader s ≡ some (x, t) → s ≡ write x ++ t)
      → (n : ℕ) (s : List ℕ) → s ≡ flat_map write (many reader n s).0 ++ (many reader n s).1
  unfolding flat_map
  many-bytes write h = many-induction (λ n s xs u. s ≡ flat_map write xs ++ u) (λ n s. refl)
      (λ n s x t xs u e ih. rw append_assoc (rw (← ih) (h s x t e)))

  -- each thing read has what the reader promises
  pub many-all : (P : A → Type 0) → ((s : List ℕ) (x : A) (t : List ℕ) → reader s ≡ some (x, t) → P x) → (n : ℕ) (s : List ℕ) → All P (many reader n s).0
  many-all P h = many-induction (λ n s xs u. All P xs) (λ n s. tt) (λ n s x t xs u e ih. (h s x t e, ih))

  -- at most n things are read
  pub many-count : (n : ℕ) (s : List ℕ) → length (many reader n s).0 ≤ n
  many-count = many-induction (λ n s xs u. length xs ≤ n) (λ n s. omega arith) (λ n s x t xs u e ih. omega arith)

  -- things written one after another are read back, up to bytes at which nothing more is read
  pub many-whole : (write : A → List ℕ) (P : A → Type 0) → ((x : A) (t : List ℕ) → P x → reader (write x ++ t) ≡ some (x, t))
      → (xs : List A) (n : ℕ) (t : List ℕ) → All P xs → length xs ≤ n → reader t ≡ none → many reader n (flat_map write xs ++ t) ≡ (xs, t)
  unfolding flat_map
  many-whole write P h [] n t good l e = many-none n t e
  many-whole write P h (x ∷ xs) zero t good l e = absurd (omega arith)
  many-whole write P h (x ∷ xs) (suc n) t good l e =
      rw (append_assoc, many-some n _ (h x (flat_map write xs ++ t) good.0), many-whole write P h xs n t good.1 (omega arith) e)

-- where each thing read takes a byte
module _ {A : Type 0} (reader : Reader A) (shorter : (s : List ℕ) (x : A) (t : List ℕ) → reader s ≡ some (x, t) → length t < length s) where
  -- nothing is read of no bytes
  many-empty : (n : ℕ) (s : List ℕ) → length s ≤ 0 → many reader n s ≡ ([], s)
  many-empty n s h = many-none reader n s (go (reader s) refl)
    where
      go : (o : Option (A × List ℕ)) → reader s ≡ o → o ≡ none
      go none e = refl
      go (some a) e = absurd (omega (arith, shorter s a.0 a.1 e))

  -- from as many times on as there are bytes, how often is tried does not count
  pub many-fuel : (n m : ℕ) (s : List ℕ) → length s ≤ n → length s ≤ m → many reader n s ≡ many reader m s
  many-fuel zero m s h k = many-empty zero s h ∙ sym (many-empty m s h)
  many-fuel (suc n) zero s h k = many-empty (suc n) s k ∙ sym (many-empty zero s k)
  many-fuel (suc n) (suc m) s h k = go (reader s) refl (many-fuel n m)
    where
      go : (o : Option (A × List ℕ)) → reader s ≡ o → ((t : List ℕ) → length t ≤ n → length t ≤ m → many reader n t ≡ many reader m t)
          → many reader (suc n) s ≡ many reader (suc m) s
      go none e ih = many-none reader (suc n) s e ∙ sym (many-none reader (suc m) s e)
      go (some a) e ih =
          let less = shorter s a.0 a.1 e in
          rw (many-some reader n s e, many-some reader m s e, ih a.1 (omega arith) (omega arith))

-- one thing after another
module _ {A : Type 0} (reader : Reader A) (limit : ℕ) (s : List ℕ) where
  -- what is done, joined with what is left, is the whole
  abbrev pub SoFar : List A → List ℕ → Type 0
  SoFar done t = many reader limit s ≡ (done ++ (many reader (limit - length done) t).0, (many reader (limit - length done) t).1)

  -- nothing is done
  pub so_far : SoFar [] s
  so_far = let e : limit - 0 ≡ limit = omega arith in rw e refl

  -- one thing more
  pub so-far-step : (done : List A) (t : List ℕ) {x : A} {u : List ℕ} → length done < limit → reader t ≡ some (x, u) → SoFar done t → SoFar (done ++ (x ∷ [])) u
  so-far-step done t {x} {u} h e f =
      let more : limit - length done ≡ suc (limit - length (done ++ (x ∷ []))) = simp length-append (omega arith) in
      rw (append_assoc) (rw (more, many-some reader _ t e) at f)

  -- nothing more is read
  pub so-far-none : (done : List A) (t : List ℕ) → reader t ≡ none → SoFar done t → many reader limit s ≡ (done, t)
  so-far-none done t e f = rw (many-none reader _ t e, append-nil) at f

  -- the limit is reached
  pub so-far-full : (done : List A) (t : List ℕ) → limit ≤ length done → SoFar done t → many reader limit s ≡ (done, t)
  unfolding many
  so-far-full done t h f = let full : limit - length done ≡ 0 = omega arith in rw (full, append-nil) at f
