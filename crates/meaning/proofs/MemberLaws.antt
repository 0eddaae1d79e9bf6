-- What stands in the lists of which a report is made, and where nothing stands twice. Assumes nothing.
use Prim.Native.Nat.{ℕ, zero, suc, ◌+◌, ◌≤◌, ◌<◌}
use native.Mathlib.Omega.{arith}
use mathlib.Core.Path.{◌≡◌, refl, ap, sym, ◌∙◌, subst}
use mathlib.Core.Logic.{◌⊎◌, inl, inr}
use mathlib.Core.Bool.{Bool, true, false}
use mathlib.Core.List.Memᴰ
use mathlib.Core.List.{List, [], ◌∷◌, ◌++◌, map, flat_map, Memᴰ}
use lib.Dec.{eqb}
use borrow.Author.Tests.{eqb-true, eqb-false}
use Rattle.meaning.specs.declared.Stage.{Stage}
use Rattle.meaning.specs.declared.Stage.TheVariants.{Created, Detached, Expired, Discharged, Violated}
use Rattle.std.specs.Prelude.{Some}
use Rattle.meaning.specs.Lists.{numbers_from, any_of, All}
use Rattle.meaning.specs.Stages.{stages, stage_number, stage_of}
use Rattle.meaning.proofs.BoolLaws.{or-false}

-- What all elements have, each that stands in the list has.
pub member-has : {A : Type 0} (P : A → Type 0) (l : List A) {x : A} → All P l → Memᴰ x l → P x
member-has P [] h k = absurd (Memᴰ.not-nil k)
member-has P (y ∷ l) {x} h k = go (Memᴰ.cases_cons k) (member-has P l h.1)
  where
    go : (x ≡ y) ⊎ Memᴰ x l → (Memᴰ x l → P x) → P x
    go (inl e) ih = subst P (sym e) h.0
    go (inr k) ih = ih k

-- Where nothing passes a test, no element does.
pub any_of-none : {A : Type 0} (p : A → Bool) (l : List A) {x : A} → any_of p l ≡ false → Memᴰ x l → p x ≡ false
unfolding any_of
any_of-none p [] e k = absurd (Memᴰ.not-nil k)
any_of-none p (y ∷ l) {x} e k = go (or-false (p y) _ e) (any_of-none p l) (Memᴰ.cases_cons k)
  where
    go : (p y ≡ false) × (any_of p l ≡ false) → (any_of p l ≡ false → Memᴰ x l → p x ≡ false) → (x ≡ y) ⊎ Memᴰ x l → p x ≡ false
    go h ih (inl same) = ap p same ∙ h.0
    go h ih (inr k) = ih h.1 k

-- What stands in the lists that a list's elements give stands in the list of one of them.
pub mem-flat_map : {A B : Type 0} (f : A → List B) (l : List A) {y : B} → Memᴰ y (flat_map f l) → (x : A) × Memᴰ x l × Memᴰ y (f x)
unfolding flat_map
mem-flat_map f [] m = absurd (Memᴰ.not-nil m)
mem-flat_map {A} f (x ∷ l) {y} m = go (mem-flat_map f l) (Memᴰ.append_cases (f x) m)
  where
    go : (Memᴰ y (flat_map f l) → (q : A) × Memᴰ q l × Memᴰ y (f q)) → Memᴰ y (f x) ⊎ Memᴰ y (flat_map f l)
        → (q : A) × Memᴰ q (x ∷ l) × Memᴰ y (f q)
    go ih (inl k) = (x, Memᴰ.head refl, k)
    go ih (inr k) = let found = ih k in (found.0, Memᴰ.tail found.1, found.2)

-- And what stands in the list of one of them stands there.
pub flat_map-mem : {A B : Type 0} (f : A → List B) {x : A} {l : List A} {y : B} → Memᴰ x l → Memᴰ y (f x) → Memᴰ y (flat_map f l)
unfolding flat_map
flat_map-mem f {y = y} (Memᴰ.head {xs = l} e) k = Memᴰ.append_left (flat_map f l) (subst (λ z. Memᴰ y (f z)) e k)
flat_map-mem f (Memᴰ.tail {x = q} m) k = Memᴰ.append_right (f q) (flat_map-mem f m k)

-- The numbers from n on are n or more, and fewer than count above n.
pub mem-numbers : (n count : ℕ) {j : ℕ} → Memᴰ j (numbers_from n count) → (n ≤ j) × (j < n + count)
unfolding numbers_from
mem-numbers n zero m = absurd (Memᴰ.not-nil m)
mem-numbers n (suc count) {j} m = go (mem-numbers (suc n) count) (Memᴰ.cases_cons m)
  where
    go : (Memᴰ j (numbers_from (suc n) count) → (suc n ≤ j) × (j < suc n + count)) → (j ≡ n) ⊎ Memᴰ j (numbers_from (suc n) count)
        → (n ≤ j) × (j < n + suc count)
    go ih (inl e) = omega arith
    go ih (inr k) = omega (arith, ih k)

-- Each such number is there.
pub numbers-mem : (n count j : ℕ) → n ≤ j → j < n + count → Memᴰ j (numbers_from n count)
unfolding numbers_from
numbers-mem n zero j h k = absurd (omega arith)
numbers-mem n (suc count) j h k = go (eqb j n) refl (numbers-mem (suc n) count j)
  where
    go : (b : Bool) → eqb j n ≡ b → (suc n ≤ j → j < suc n + count → Memᴰ j (numbers_from (suc n) count)) → Memᴰ j (n ∷ numbers_from (suc n) count)
    go true e ih = Memᴰ.head (eqb-true j n e)
    go false e ih = let other : j ≡ n → ⊥ = eqb-false j n e in Memᴰ.tail (ih (omega arith) (omega arith))

-- Each stage is there.
pub stages-mem : (s : Stage) → Memᴰ s stages
unfolding stages
stages-mem Created = Memᴰ.head refl
stages-mem Detached = Memᴰ.tail (Memᴰ.head refl)
stages-mem Expired = Memᴰ.tail (Memᴰ.tail (Memᴰ.head refl))
stages-mem Discharged = Memᴰ.tail (Memᴰ.tail (Memᴰ.tail (Memᴰ.head refl)))
stages-mem Violated = Memᴰ.tail (Memᴰ.tail (Memᴰ.tail (Memᴰ.tail (Memᴰ.head refl))))

-- a stage is told by its number
stage-back : (s : Stage) → stage_of (stage_number s) ≡ Some s
stage-back Created = refl
stage-back Detached = refl
stage-back Expired = refl
stage-back Discharged = refl
stage-back Violated = refl

pub stage-told : (s t : Stage) → stage_number s ≡ stage_number t → s ≡ t
stage-told s t e = let same : Some s ≡ Some t = sym (stage-back s) ∙ ap stage_of e ∙ stage-back t in cc

-- Nothing stands twice: no element stands again after itself.
abbrev pub Distinct : {A : Type 0} → List A → Type 0
Distinct [] = Unit {0}
Distinct (x ∷ l) = (Memᴰ x l → ⊥) × Distinct l

-- The lists that a list's elements give have nothing in common.
abbrev pub Apart : {A B : Type 0} → (A → List B) → List A → Type 0
Apart f [] = Unit {0}
Apart {A} {B} f (x ∷ l) = ((q : A) (y : B) → Memᴰ q l → Memᴰ y (f x) → Memᴰ y (f q) → ⊥) × Apart f l

distinct_append : {A : Type 0} (a b : List A) → Distinct a → Distinct b → ((x : A) → Memᴰ x a → Memᴰ x b → ⊥) → Distinct (a ++ b)
distinct_append [] b p q apart = q
distinct_append (x ∷ a) b p q apart = (λ m. go (Memᴰ.append_cases a m), distinct_append a b p.1 q (λ y m. apart y (Memᴰ.tail m)))
  where
    go : Memᴰ x a ⊎ Memᴰ x b → ⊥
    go (inl m) = p.0 m
    go (inr m) = apart x (Memᴰ.head refl) m

-- So, where nothing stands twice in any one of them, nothing stands twice in all of them together.
pub distinct-flat_map : {A B : Type 0} (f : A → List B) → ((x : A) → Distinct (f x)) → (l : List A) → Apart f l → Distinct (flat_map f l)
unfolding flat_map
distinct-flat_map f each [] apart = tt
distinct-flat_map {B = B} f each (x ∷ l) apart = distinct_append (f x) (flat_map f l) (each x) (distinct-flat_map f each l apart.1) across
  where
    across : (y : B) → Memᴰ y (f x) → Memᴰ y (flat_map f l) → ⊥
    across y k m = let found = mem-flat_map f l m in apart.0 found.0 y found.1 k found.2

-- Lists whose elements tell from where they come have nothing in common.
pub apart_by : {A B : Type 0} (tag : B → A) (f : A → List B) → ((x : A) (y : B) → Memᴰ y (f x) → tag y ≡ x) → (l : List A) → Distinct l → Apart f l
apart_by tag f told [] d = tt
apart_by tag f told (x ∷ l) d = (λ q y m k k'. d.0 (Memᴰ.cast (sym (told x y k) ∙ told q y k') m), apart_by tag f told l d.1)

-- Rising numbers are distinct.
pub distinct-numbers : (n count : ℕ) → Distinct (numbers_from n count)
unfolding numbers_from
distinct-numbers n zero = tt
distinct-numbers n (suc count) = (λ m. omega (arith, mem-numbers (suc n) count m), distinct-numbers (suc n) count)

map-mem : {A B : Type 0} (g : A → B) {x : A} {l : List A} → Memᴰ x l → Memᴰ (g x) (map g l)
map-mem g (Memᴰ.head e) = Memᴰ.head (ap g e)
map-mem g (Memᴰ.tail m) = Memᴰ.tail (map-mem g m)

distinct-map : {A B : Type 0} (g : A → B) (l : List A) → Distinct (map g l) → Distinct l
distinct-map g [] d = tt
distinct-map g (x ∷ l) d = (λ m. d.0 (map-mem g m), distinct-map g l d.1)

-- The five stages are distinct, since their numbers are.
pub distinct-stages : Distinct stages
unfolding stages numbers_from
distinct-stages = distinct-map stage_number stages (distinct-numbers 1 5)

-- What stands in a list in another form comes from an element.
pub mem-map : {A B : Type 0} (f : A → B) (l : List A) {z : B} → Memᴰ z (map f l) → (y : A) × Memᴰ y l × (z ≡ f y)
mem-map f [] k = absurd (Memᴰ.not-nil k)
mem-map {A} f (x ∷ l) {z} k = go (Memᴰ.cases_cons k) (mem-map f l)
  where
    go : (z ≡ f x) ⊎ Memᴰ z (map f l) → (Memᴰ z (map f l) → (y : A) × Memᴰ y l × (z ≡ f y)) → (y : A) × Memᴰ y (x ∷ l) × (z ≡ f y)
    go (inl e) ih = (x, Memᴰ.head refl, e)
    go (inr k) ih = let found = ih k in (found.0, Memᴰ.tail found.1, found.2)

-- A change of form that tells elements apart leaves none twice.
pub distinct-form : {A B : Type 0} (f : A → B) (l : List A) → ((x y : A) → Memᴰ x l → Memᴰ y l → f x ≡ f y → x ≡ y) → Distinct l → Distinct (map f l)
distinct-form f [] told d = tt
distinct-form f (x ∷ l) told d = (
  λ k. let found = mem-map f l k in d.0 (Memᴰ.cast (told x found.0 (Memᴰ.head refl) (Memᴰ.tail found.1) found.2) found.1),
  distinct-form f l (λ y z i k. told y z (Memᴰ.tail i) (Memᴰ.tail k)) d.1,
)
