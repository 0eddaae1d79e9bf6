-- Cases: what a definition gives, beside what document 01 says. A list of cases is closed by computation. Assumes nothing.
use mathlib.Core.Path.{◌≡◌, refl, ap, ap₂}
use mathlib.Core.List.{List, [], ◌∷◌, ◌++◌, map, flatten}
use Rattle.meaning.specs.Lists.{All}

-- what is given, and what document 01 says of it
pub record Case (A : Type 0) : Type 0 where
  -- what it gives
  pub is : A
  -- what it should give
  pub should : A

-- what is given, then what it should give
abbrev pub case : {A : Type 0} → A → A → Case A
case is should = record { is = is; should = should }

-- each case of a list gives what it should
abbrev pub Hold : {A : Type 0} → List (Case A) → Type 0
Hold {A} cs = map (λ (c : Case A). c.is) cs ≡ map (λ (c : Case A). c.should) cs

map-join : {A B : Type 0} (f : A → B) (a b : List A) → map f (a ++ b) ≡ map f a ++ map f b
map-join f [] b = refl
map-join f (x ∷ a) b = ap (λ t. f x ∷ t) (map-join f a b)

-- lists that hold, one after another, make one that holds
pub hold-all : {A : Type 0} (parts : List (List (Case A))) → All Hold parts → Hold (flatten parts)
unfolding flatten
hold-all [] h = refl
hold-all {A} (a ∷ parts) h =
    rw (map-join (λ (c : Case A). c.is) a (flatten parts), map-join (λ (c : Case A). c.should) a (flatten parts))
    (ap₂ (λ s t. s ++ t) h.0 (hold-all parts h.1))
