-- Terms that are written are read back: kinds and heads in their bodies, leaves in their items, whole terms in bytes. Assumes nothing.
use Prim.Native.Nat.{ℕ, suc, ◌≤◌, ◌<◌, ◌^◌}
use native.Mathlib.Omega.{arith}
use mathlib.Core.Path.{◌≡◌, refl, ap, ap₂, ◌∙◌}
use mathlib.Core.List.{List, [], ◌∷◌, ◌++◌, map}
use lib.ListN.{length, length-append, length-map}
use lib.Seq.{take_at}
use Rattle.meaning.specs.declared.NormType.{NormType}
use Rattle.meaning.specs.declared.NormType.TheVariants.{Commitment, Authorization, Prohibition, Power}
use Rattle.meaning.specs.declared.Bound.{Bound}
use Rattle.meaning.specs.declared.Atom.{Atom}
use Rattle.meaning.specs.declared.Atom.TheVariants.{Happens, Counts}
use Rattle.meaning.specs.Lists.{All}
use Rattle.meaning.specs.NormTypes.{norm_type_number}
use Rattle.meaning.specs.Terms.{EventKind, Expr, leaf, and, or, except, always, Schema, Terms, leaves}
use Rattle.format.specs.Bytes.{bytes_of, number_at, byte_at}
use Rattle.format.specs.Grammar.{SchemaItems, size, kinds_limit, schemas_limit, expr_limit, WholeLeaf, item_03, item_08, WholeExpr, WholeSchema, terms_bytes}
use Rattle.format.specs.Fields.{kind_from, norm_type_of, leaf_from, expr_from, schema_from, terms_from, terms_of}
use Rattle.meaning.proofs.ListLaws.{all_append, all_split, all_map}
use Rattle.format.proofs.NumberLaws.{bytes-length, bytes-number}
use Rattle.format.proofs.GrammarLaws.{file-of-writing}
use Rattle.format.proofs.FieldLaws.{form_of, event_number, bound_bytes, leaf_bytes, bound-length, LeafFits, leaf-back}

-- the body of an item 01 at place i
unfoldable pub kind_body : ℕ → EventKind → List ℕ
kind_body i k = i ∷ (bytes_of 2 k.mask ++ (k.key ∷ []))

-- the bodies of items 01 from place i on
unfoldable pub kind_bodies : ℕ → List EventKind → List (List ℕ)
kind_bodies i [] = []
kind_bodies i (k ∷ kinds) = kind_body i k ∷ kind_bodies (suc i) kinds

-- an expression's items
unfoldable pub expr_items : Expr Atom → Expr (List ℕ)
expr_items (leaf x) = leaf (leaf_bytes x)
expr_items (and a b) = and (expr_items a) (expr_items b)
expr_items (or a b) = or (expr_items a) (expr_items b)
expr_items (except a b) = except (expr_items a) (expr_items b)
expr_items always = always

-- a schema's items
unfoldable pub schema_items : Schema → SchemaItems
schema_items x = record {
  head = norm_type_number x.type ∷ x.subject ∷ x.privileged ∷ x.liable ∷ [];
  create = expr_items x.create;
  detach = expr_items x.detach;
  consequent = expr_items x.consequent;
}

-- an expression that can be written: within the count, with thresholds and offsets of four bytes
pub record WritableExpr (x : Expr Atom) : Type 0 where
  -- within the count
  pub items : size x ≤ expr_limit
  -- the numbers of its leaves
  pub numbers : All LeafFits (leaves x)

-- a schema whose clauses can be written
pub record WritableSchema (x : Schema) : Type 0 where
  -- create
  pub create-fits : WritableExpr x.create
  -- detach
  pub detach-fits : WritableExpr x.detach
  -- consequent
  pub consequent-fits : WritableExpr x.consequent

-- terms that can be written
pub record WritableTerms (terms : Terms) : Type 0 where
  -- not too many kinds
  pub kinds_count : length terms.kinds ≤ kinds_limit
  -- not too many schemas
  pub schemas_count : length terms.schemas ≤ schemas_limit
  -- masks of 16 bits
  pub masks : All (λ (k : EventKind). k.mask < 256 ^ 2) terms.kinds
  -- clauses
  pub clauses : All WritableSchema terms.schemas

-- a kind is read back from its body
pub kind-back : (i : ℕ) (k : EventKind) → k.mask < 256 ^ 2 → kind_from (kind_body i k) ≡ k
unfolding kind_from kind_body byte_at bytes_of
kind-back i k h = λ n. record { mask = mask n; key = k.key }
  where
    mask : number_at 2 (i ∷ (bytes_of 2 k.mask ++ (k.key ∷ []))) 1 ≡ k.mask
    mask = unfold number_at in (rw (take_at (bytes_of 2 k.mask) (k.key ∷ []) 2 (bytes-length 2 k.mask)) (bytes-number 2 k.mask h))

-- a norm type is read back from its byte
pub type-back : (t : NormType) → norm_type_of (norm_type_number t) ≡ t
unfolding norm_type_of
type-back Commitment = refl
type-back Authorization = refl
type-back Prohibition = refl
type-back Power = refl

-- an expression is read back from its items
expr-back : (x : Expr Atom) → All LeafFits (leaves x) → expr_from (expr_items x) ≡ x
unfolding expr_from expr_items leaf_from leaves
expr-back (leaf x) h = rw (leaf-back x h.0, leaf_from)
expr-back (and a b) h = let p = all_split LeafFits (leaves a) (leaves b) h in ap₂ and (expr-back a p.0) (expr-back b p.1)
expr-back (or a b) h = let p = all_split LeafFits (leaves a) (leaves b) h in ap₂ or (expr-back a p.0) (expr-back b p.1)
expr-back (except a b) h = let p = all_split LeafFits (leaves a) (leaves b) h in ap₂ except (expr-back a p.0) (expr-back b p.1)
expr-back always h = refl

-- its items are as many as it has
size-items : (x : Expr Atom) → size (expr_items x) ≡ size x
unfolding size expr_items
size-items (leaf x) = refl
size-items (and a b) = rw (size-items a, size-items b)
size-items (or a b) = rw (size-items a, size-items b)
size-items (except a b) = rw (size-items a, size-items b)
size-items always = refl

-- two bounds have 14 bytes
bounds-length : (l u : Bound) → length (bound_bytes l ++ bound_bytes u) ≡ 14
bounds-length l u = omega (arith, length-append (bound_bytes l) (bound_bytes u), bound-length l, bound-length u)

-- a leaf that is written is whole
leaf-whole : (x : Atom) → WholeLeaf (leaf_bytes x)
unfolding leaf_bytes
leaf-whole (Happens x) =
    item_03 (form_of x.event ∷ event_number x.event ∷ (bound_bytes x.lower ++ bound_bytes x.upper)) (omega (arith, bounds-length x.lower x.upper))
leaf-whole (Counts x) =
    let bounds = bound_bytes x.lower ++ bound_bytes x.upper in
    item_08 (x.kind ∷ (bytes_of 4 x.threshold ++ bounds))
    (omega (arith, length-append (bytes_of 4 x.threshold) bounds, bytes-length 4 x.threshold, bounds-length x.lower x.upper))

leaves-whole : (x : Expr Atom) → All WholeLeaf (leaves (expr_items x))
unfolding leaves expr_items
leaves-whole (leaf x) = (leaf-whole x, tt)
leaves-whole (and a b) = all_append WholeLeaf (leaves (expr_items a)) (leaves (expr_items b)) (leaves-whole a) (leaves-whole b)
leaves-whole (or a b) = all_append WholeLeaf (leaves (expr_items a)) (leaves (expr_items b)) (leaves-whole a) (leaves-whole b)
leaves-whole (except a b) = all_append WholeLeaf (leaves (expr_items a)) (leaves (expr_items b)) (leaves-whole a) (leaves-whole b)
leaves-whole always = tt

expr-items-whole : (x : Expr Atom) → WritableExpr x → WholeExpr (expr_items x)
expr-items-whole x fits = record { items = rw (size-items x) fits.items; whole_leaves = leaves-whole x }

-- a schema is read back from its items
pub schema-back : (x : Schema) → WritableSchema x → schema_from (schema_items x) ≡ x
unfolding schema_from schema_items byte_at
schema-back x fits = λ n. record {
  type = type-back x.type n;
  subject = x.subject;
  privileged = x.privileged;
  liable = x.liable;
  create = expr-back x.create fits.create-fits.numbers n;
  detach = expr-back x.detach fits.detach-fits.numbers n;
  consequent = expr-back x.consequent fits.consequent-fits.numbers n;
}

schema-items-whole : (x : Schema) → WritableSchema x → WholeSchema (schema_items x)
unfolding schema_items
schema-items-whole x fits = record {
  head_length = refl;
  create_whole = expr-items-whole x.create fits.create-fits;
  detach_whole = expr-items-whole x.detach fits.detach-fits;
  consequent_whole = expr-items-whole x.consequent fits.consequent-fits;
}

kinds-back : (i : ℕ) (kinds : List EventKind) → All (λ (k : EventKind). k.mask < 256 ^ 2) kinds → map kind_from (kind_bodies i kinds) ≡ kinds
unfolding kind_bodies
kinds-back i [] h = refl
kinds-back i (k ∷ kinds) h = ap₂ (λ (x : EventKind) (xs : List EventKind). x ∷ xs) (kind-back i k h.0) (kinds-back (suc i) kinds h.1)

schemas-back : (schemas : List Schema) → All WritableSchema schemas → map schema_from (map schema_items schemas) ≡ schemas
schemas-back [] h = refl
schemas-back (x ∷ schemas) h = ap₂ (λ (y : Schema) (ys : List Schema). y ∷ ys) (schema-back x h.0) (schemas-back schemas h.1)

bodies-count : (i : ℕ) (kinds : List EventKind) → length (kind_bodies i kinds) ≡ length kinds
unfolding kind_bodies
bodies-count i [] = refl
bodies-count i (k ∷ kinds) = ap suc (bodies-count (suc i) kinds)

bodies-whole : (i : ℕ) (kinds : List EventKind) → All (λ body. length body ≡ 4) (kind_bodies i kinds)
unfolding kind_bodies kind_body bytes_of
bodies-whole i [] = tt
bodies-whole i (k ∷ kinds) = (refl, bodies-whole (suc i) kinds)

-- terms in bytes, and read back: every terms value that fits the format is what some bytes stand for
pub terms-back : (terms : Terms) → WritableTerms terms → terms_of (terms_bytes (kind_bodies 0 terms.kinds) (map schema_items terms.schemas)) ≡ terms
unfolding terms_of terms_from
terms-back terms fits =
    ap terms_from
    (file-of-writing (kind_bodies 0 terms.kinds) (map schema_items terms.schemas)
    (rw bodies-count fits.kinds_count) (rw length-map fits.schemas_count)
    (bodies-whole 0 terms.kinds) (all_map WritableSchema WholeSchema schema_items schema-items-whole terms.schemas fits.clauses))
    ∙ λ n. record { kinds = kinds-back 0 terms.kinds fits.masks n; schemas = schemas-back terms.schemas fits.clauses n }
