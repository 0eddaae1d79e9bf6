-- Refusals 2 to 5 of a file in the order in which they are looked for: kind by kind, schema by schema, clause by clause.
--     any-numbers                                      a test of a list's elements is a test of their numbers
--     field-faults, citation-faults, unshared-faults   refusals 3, 4 and 5 as faults of schemas by number
--     field-here, citation-here, unshared-here         the fault at one schema, by the items of its clauses
--     grammar-here                                     refusal 2 by the counts and by where the bytes left unread start
-- Assumes nothing.
use Prim.Native.Nat.{ℕ, suc, ◌+◌, ◌<◌}
use native.Mathlib.Nat.{add-zero, zero-add}
use native.Mathlib.Omega.{arith}
use mathlib.Core.Path.{◌≡◌, refl, ap, sym, ◌∙◌}
use mathlib.Core.Bool.{Bool, ◌||◌, or_assoc}
use mathlib.Core.List.{List, [], ◌∷◌}
use lib.Dec.{eqb, ltb, eqb-suc-zero}
use lib.ListN.{length, get_or, length-map}
use Rattle.meaning.specs.Lists.{numbers_from, is_empty, any_of}
use Rattle.meaning.specs.Terms.{Expr, schema_at}
use Rattle.format.specs.Grammar.{file_of, breaks_grammar}
use Rattle.format.specs.Fields.{expr_from, schema_from, terms_from, head_wrong, leaf_wrong, kind_wrong, schema_wrong, kinds_wrong, field_wrong, any_event, cites_from, shares_none, cites_too_high, citation_wrong, unshared_in, unshared_event, terms_of}
use Rattle.format.proofs.PlaceLaws.{left_over}
use Rattle.format.proofs.ExprLaws.{any-event}
use Rattle.grammar.specs.declared.Layout.{Layout}
use Rattle.grammar.specs.Places.{no_items, LaidOut}
use Rattle.terms.specs.Questions.{leaf_cites, leaf_unshared, clause_has, clauses_have}
use Rattle.fields.proofs.Schemas.{schema-here}

-- a test of a list's elements, by their numbers from k on
any-from : {A : Type 0} (p : A → Bool) (d : A) (f : ℕ → Bool) (k : ℕ) (l : List A) → ((i : ℕ) → f (k + i) ≡ p (get_or l i d))
    → any_of f (numbers_from k (length l)) ≡ any_of p l
unfolding any_of numbers_from
any-from p d f k [] h = refl
any-from p d f k (x ∷ l) h = rw (any-from p d f (suc k) l (λ i. ap f (omega arith) ∙ h (suc i)), ap f (sym (add-zero k)) ∙ h 0)

-- by their numbers
any-numbers : {A : Type 0} (p : A → Bool) (d : A) (l : List A) → any_of p l ≡ any_of (λ n. p (get_or l n d)) (numbers_from 0 (length l))
any-numbers p d l = sym (any-from p d (λ n. p (get_or l n d)) 0 l (λ i. ap (λ (n : ℕ). p (get_or l n d)) (zero-add i)))

module _ (s : List ℕ) where
  -- refusal 3 at the item 01 with a number
  abbrev pub kind-fault : ℕ → Bool
  kind-fault i = kind_wrong i (get_or (file_of s).kinds i [])

  -- refusal 3 at the schema with a number
  abbrev pub field-fault : ℕ → Bool
  field-fault n = schema_wrong (terms_of s) (get_or (file_of s).schemas n no_items)

  -- refusal 5 at the schema with a number
  abbrev pub unshared-fault : ℕ → Bool
  unshared-fault n = unshared_in (terms_of s) (schema_at (terms_of s) n)

  -- refusal 3
  pub field-faults : field_wrong (file_of s)
      ≡ (any_of kind-fault (numbers_from 0 (length (file_of s).kinds)) || any_of field-fault (numbers_from 0 (length (file_of s).schemas)))
  unfolding field_wrong kinds_wrong terms_of
  field-faults = rw (any-numbers (schema_wrong (terms_from (file_of s))) no_items (file_of s).schemas)

  -- as many schemas as are read
  pub schemas_count : length (terms_of s).schemas ≡ length (file_of s).schemas
  unfolding terms_of terms_from
  schemas_count = length-map (file_of s).schemas schema_from

  -- refusal 4
  pub citation-faults : citation_wrong (terms_of s) ≡ any_of (cites_too_high (terms_of s)) (numbers_from 0 (length (file_of s).schemas))
  unfolding citation_wrong
  citation-faults = rw schemas_count

  -- refusal 5
  pub unshared-faults : unshared_event (terms_of s) ≡ any_of unshared-fault (numbers_from 0 (length (file_of s).schemas))
  unfolding unshared_event schema_at
  unshared-faults = rw (← schemas_count) (any-numbers _ _ (terms_of s).schemas)

  -- what is asked for 4 and 5, of a clause's items
  clause-cites : (k : ℕ) (x : Expr (List ℕ)) → clause_has (leaf_cites k) x ≡ any_event (cites_from k) (expr_from x)
  unfolding clause_has leaf_cites
  clause-cites k x = sym (any-event (cites_from k) x)

  clause-shares : (subject : ℕ) (x : Expr (List ℕ)) → clause_has (leaf_unshared (terms_of s) subject) x ≡ any_event (shares_none (terms_of s) subject) (expr_from x)
  unfolding clause_has leaf_unshared
  clause-shares subject x = sym (any-event (shares_none (terms_of s) subject) x)

  module _ (n : ℕ) where
    -- refusal 3 at a schema: at its head, or at a leaf
    pub field-here : field-fault n ≡ (head_wrong (terms_of s) (get_or (file_of s).schemas n no_items).head || clauses_have s (λ rank. leaf_wrong (terms_of s)) n)
    unfolding schema_wrong clauses_have clause_has
    field-here = simp or_assoc

    module _ (h : n < length (file_of s).schemas) where
      -- refusal 4
      pub citation-here : cites_too_high (terms_of s) n ≡ clauses_have s leaf_cites n
      unfolding cites_too_high schema_from clauses_have
      citation-here = rw (schema-here s n h) (simp clause-cites)

      -- refusal 5
      pub unshared-here : unshared-fault n ≡ clauses_have s (λ rank. leaf_unshared (terms_of s) (schema_at (terms_of s) n).subject) n
      unfolding unshared_in schema_from clauses_have
      unshared-here = rw (schema-here s n h) (simp clause-shares)

-- nothing stands in a list where it has no elements
empty-count : {A : Type 0} (l : List A) → is_empty l ≡ eqb (length l) 0
unfolding is_empty
empty-count [] = refl
empty-count (x ∷ l) = sym (eqb-suc-zero (length l))

-- refusal 2
pub grammar-here : (s : List ℕ) (p : Layout) → LaidOut s p → breaks_grammar (file_of s) ≡ (eqb p.kinds 0 || eqb p.schemas 0 || ltb p.rest (length s))
unfolding breaks_grammar
grammar-here s p laid = rw (empty-count (file_of s).kinds, empty-count (file_of s).schemas, ← laid.placed.0, ← laid.placed.1, ← laid.rest_read.0, left_over s p.rest)
