-- A property of each element of a list, and a test of some element, go through the ways in which lists are made; lists one after another; and lists rearranged.
-- Assumes nothing.
use Prim.Native.Nat.{ℕ, zero, suc}
use mathlib.Core.Path.{◌≡◌, refl, ap, sym, ap₂, ◌∙◌}
use mathlib.Core.Bool.{Bool, true, false, ◌||◌, or-false, or_assoc, not, true≢false}
use mathlib.Core.List.Permᴰ
use mathlib.Core.List.{List, [], ◌∷◌, ◌++◌, map, flat_map, flatten, append-nil, append_assoc, Permᴰ}
use lib.ListN.{length, take, drop, get_or}
use Rattle.meaning.specs.Lists.{any_of, All, is_empty}

-- Of two lists one after the other: what holds in both.
pub all_append : {A : Type 0} (P : A → Type 0) (a b : List A) → All P a → All P b → All P (a ++ b)
all_append P [] b p q = q
all_append P (x ∷ a) b p q = (p.0, all_append P a b p.1 q)

-- What holds of two lists one after the other holds in both.
pub all_split : {A : Type 0} (P : A → Type 0) (a b : List A) → All P (a ++ b) → All P a × All P b
all_split P [] b h = (tt, h)
all_split P (x ∷ a) b h = let rest = all_split P a b h.1 in ((h.0, rest.0), rest.1)

-- Of the lists that a list's elements give: what holds in each of them. Rows are made so.
pub all-flat_map : {A B : Type 0} (P : A → Type 0) (Q : B → Type 0) (f : A → List B) → ((x : A) → P x → All Q (f x)) → (l : List A) → All P l → All Q (flat_map f l)
unfolding flat_map
all-flat_map P Q f h [] p = tt
all-flat_map P Q f h (x ∷ l) p = all_append Q (f x) (flat_map f l) (h x p.0) (all-flat_map P Q f h l p.1)

-- What everything has, each element has.
pub all_of : {A : Type 0} (P : A → Type 0) → ((x : A) → P x) → (l : List A) → All P l
all_of P h [] = tt
all_of P h (x ∷ l) = (h x, all_of P h l)

-- Of the lists that a list's elements give, where nothing need be known of these elements.
pub all-each : {A B : Type 0} (Q : B → Type 0) (f : A → List B) → ((x : A) → All Q (f x)) → (l : List A) → All Q (flat_map f l)
all-each Q f h l = all-flat_map (λ x. All Q (f x)) Q f (λ x p. p) l (all_of (λ x. All Q (f x)) h l)

-- Of a list's elements in another form.
pub all_map : {A B : Type 0} (P : A → Type 0) (Q : B → Type 0) (f : A → B) → ((x : A) → P x → Q (f x)) → (l : List A) → All P l → All Q (map f l)
all_map P Q f h [] p = tt
all_map P Q f h (x ∷ l) p = (h x p.0, all_map P Q f h l p.1)

-- What each element's property gives, each element has.
pub all-imp : {A : Type 0} (P Q : A → Type 0) → ((x : A) → P x → Q x) → (l : List A) → All P l → All Q l
all-imp P Q h [] p = tt
all-imp P Q h (x ∷ l) p = (h x p.0, all-imp P Q h l p.1)

-- Of the front of a list.
pub all_take : {A : Type 0} (P : A → Type 0) (n : ℕ) (l : List A) → All P l → All P (take n l)
all_take P zero l h = tt
all_take P (suc n) [] h = tt
all_take P (suc n) (x ∷ l) h = (h.0, all_take P n l h.1)

-- And of the back.
pub all_drop : {A : Type 0} (P : A → Type 0) (n : ℕ) (l : List A) → All P l → All P (drop n l)
all_drop P zero l h = h
all_drop P (suc n) [] h = tt
all_drop P (suc n) (x ∷ l) h = all_drop P n l h.1

-- what all have, one at a place has, and so has what stands past the end
pub get_or-all : (P : ℕ → Type 0) → P 0 → (l : List ℕ) (n : ℕ) → All P l → P (get_or l n 0)
get_or-all P z [] n h = z
get_or-all P z (x ∷ l) zero h = h.0
get_or-all P z (x ∷ l) (suc n) h = get_or-all P z l n h.1

-- What elements give, one after another, is their other form one after another.
pub flatten-map : {A B : Type 0} (f : A → List B) (l : List A) → flatten (map f l) ≡ flat_map f l
unfolding flat_map flatten
flatten-map f [] = refl
flatten-map f (x ∷ l) = ap (λ t. f x ++ t) (flatten-map f l)

-- Lists one after another, each as it is.
pub flatten-each : {A : Type 0} (l : List (List A)) → flat_map (λ c. c) l ≡ flatten l
unfolding flat_map flatten
flatten-each [] = refl
flatten-each (c ∷ l) = ap (λ t. c ++ t) (flatten-each l)

-- One more list after the others.
pub flatten-snoc : {A : Type 0} (l : List (List A)) (c : List A) → flatten (l ++ (c ∷ [])) ≡ flatten l ++ c
unfolding flatten
flatten-snoc [] c = append-nil c
flatten-snoc (x ∷ l) c = rw (flatten-snoc l c) (sym (append_assoc x (flatten l) c))

-- A test that the first element passes.
pub any_here : {A : Type 0} (p : A → Bool) (x : A) (l : List A) → p x ≡ true → any_of p (x ∷ l) ≡ true
unfolding any_of
any_here p x l e = rw e

-- One that it fails is left to the elements after it.
pub any-behind : {A : Type 0} (p : A → Bool) (x : A) (l : List A) → p x ≡ false → any_of p (x ∷ l) ≡ any_of p l
unfolding any_of
any-behind p x l e = rw e

-- A test of one element.
pub any-one : {A : Type 0} (p : A → Bool) (x : A) → any_of p (x ∷ []) ≡ p x
unfolding any_of
any-one p x = or-false (p x)

-- A test of two lists one after the other.
pub any_append : {A : Type 0} (p : A → Bool) (a b : List A) → any_of p (a ++ b) ≡ (any_of p a || any_of p b)
unfolding any_of
any_append p [] b = refl
any_append p (x ∷ a) b = rw (any_append p a b) (sym (or_assoc (p x) (any_of p a) (any_of p b)))

-- A test of elements in another form.
pub any-map : {A B : Type 0} (p : B → Bool) (f : A → B) (l : List A) → any_of p (map f l) ≡ any_of (λ x. p (f x)) l
unfolding any_of
any-map p f [] = refl
any-map p f (x ∷ l) = ap (λ (b : Bool). p (f x) || b) (any-map p f l)

-- A test that everything fails.
pub any_none : {A : Type 0} (p : A → Bool) (l : List A) → ((x : A) → p x ≡ false) → any_of p l ≡ false
unfolding any_of
any_none p [] h = refl
any_none p (x ∷ l) h = rw (h x) (any_none p l h)

-- what each element gives, of lists one after another
pub flat_map-append : {A B : Type 0} (f : A → List B) (a b : List A) → flat_map f (a ++ b) ≡ flat_map f a ++ flat_map f b
unfolding flat_map
flat_map-append f [] b = refl
flat_map-append f (x ∷ a) b = rw (flat_map-append f a b) (sym (append_assoc (f x) (flat_map f a) (flat_map f b)))

-- what is empty has nothing
pub empty : {A : Type 0} (l : List A) → not (is_empty l) ≡ false → l ≡ []
unfolding is_empty
empty [] e = refl
empty (x ∷ l) e = absurd (true≢false e)

-- what is undone element by element is undone
pub map_back : {A B : Type 0} {P : A → Type 0} (f : A → B) (g : B → A) → ((x : A) → P x → g (f x) ≡ x) → (xs : List A) → All P xs → map g (map f xs) ≡ xs
map_back f g h [] good = refl
map_back f g h (x ∷ xs) good = ap₂ (λ y ys. y ∷ ys) (h x good.0) (map_back f g h xs good.1)

-- what elements give is rearranged where what each gives is
pub flat_map-each : {A B : Type 0} (f g : A → List B) → ((x : A) → Permᴰ (f x) (g x)) → (l : List A) → Permᴰ (flat_map f l) (flat_map g l)
unfolding flat_map
flat_map-each f g h [] = Permᴰ.nil
flat_map-each f g h (x ∷ l) = Permᴰ.trans (Permᴰ.append_right (flat_map f l) (h x)) (Permᴰ.append_left (g x) (flat_map-each f g h l))

-- and where the elements are
pub flat_map-moved : {A B : Type 0} (f : A → List B) {l l' : List A} → Permᴰ l l' → Permᴰ (flat_map f l) (flat_map f l')
unfolding flat_map
flat_map-moved f Permᴰ.nil = Permᴰ.nil
flat_map-moved f (Permᴰ.cons {b = x} e moved) = rw e (Permᴰ.append_left (f x) (flat_map-moved f moved))
flat_map-moved f (Permᴰ.swap {a' = x} {b' = y} {l = l} d e) =
    rw (d, e, sym (append_assoc (f x) (f y) (flat_map f l)), sym (append_assoc (f y) (f x) (flat_map f l))) (Permᴰ.append_right (flat_map f l) (Permᴰ.append_comm (f y) (f x)))
flat_map-moved f (Permᴰ.trans moved further) = Permᴰ.trans (flat_map-moved f moved) (flat_map-moved f further)

-- a rearranged list has as many elements
pub length-moved : {A : Type 0} {l l' : List A} → Permᴰ l l' → length l ≡ length l'
length-moved Permᴰ.nil = refl
length-moved (Permᴰ.cons e moved) = ap suc (length-moved moved)
length-moved (Permᴰ.swap d e) = refl
length-moved (Permᴰ.trans moved further) = length-moved moved ∙ length-moved further
