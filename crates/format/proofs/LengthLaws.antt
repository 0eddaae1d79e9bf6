-- How long terms that keep the grammar can be.
--     expr-short           an expression of at most 31 items has 335 bytes at most: 16 counts, and the 15 items that join them
--     grammatical-short    so terms have 16,320 bytes at most
--     long-breaks          and longer ones break the grammar
-- Assumes nothing.
use Prim.Native.Nat.{ℕ, ◌+◌, ◌*◌, ◌≤◌, ◌<◌}
use native.Mathlib.Omega.{arith}
use mathlib.Core.Path.{◌≡◌, refl, ap}
use mathlib.Core.Bool.{Bool, true, false}
use mathlib.Core.List.{List, [], ◌∷◌, ◌++◌, flat_map}
use lib.ListN.{length, length-append}
use Rattle.meaning.specs.Lists.{All}
use Rattle.meaning.specs.Terms.{leaf, and, or, except, always, leaves}
use Rattle.format.specs.Grammar.{SchemaItems, size, kinds_limit, schemas_limit, expr_limit, file_of, breaks_grammar, expr_bytes, schema_bytes, terms_bytes, WholeLeaf, item_03, item_08, WholeExpr, WholeSchema, Grammatical}
use Rattle.meaning.proofs.ListLaws.{all_split}
use Rattle.format.proofs.GrammarLaws.{E, Connective, and_is, or_is, except-is, grammar-exact}

-- a leaf has 20 bytes at most
leaf-short : (item : List ℕ) → WholeLeaf item → length item ≤ 20
leaf-short item (item_03 body l) = omega arith
leaf-short item (item_08 body l) = omega arith

-- twice the bytes, so that there are no halves: n leaves and n − 1 connectives have 21n − 1 bytes at most
abbrev Short : E → Type 0
Short x = 2 * length (expr_bytes x) ≤ 21 * size x + 19

-- two expressions joined
both-short : {kind : ℕ} {join : E → E → E} → Connective kind join → (a b : E) → (All WholeLeaf (leaves a) → Short a) → (All WholeLeaf (leaves b) → Short b)
    → All WholeLeaf (leaves (join a b)) → Short (join a b)
both-short is a b p q w =
    let each = all_split WholeLeaf (leaves a) (leaves b) (rw is.of-leaves at w) in
    omega (arith, is.items a b, ap length (is.bytes a b), length-append (expr_bytes a) (expr_bytes b), p each.0, q each.1)

-- every expression with whole leaves is that short
expr-bytes : (x : E) → All WholeLeaf (leaves x) → Short x
unfolding expr_bytes size leaves
expr-bytes (leaf item) = λ w. omega (arith, leaf-short item w.0)
expr-bytes (and a b) = both-short and_is a b (expr-bytes a) (expr-bytes b)
expr-bytes (or a b) = both-short or_is a b (expr-bytes a) (expr-bytes b)
expr-bytes (except a b) = both-short except-is a b (expr-bytes a) (expr-bytes b)
expr-bytes always = λ w. omega arith

-- an expression of 31 items at most
pub expr-short : (x : E) → WholeExpr x → length (expr_bytes x) ≤ 335
unfolding expr_limit
expr-short x w = omega (arith, expr-bytes x w.whole_leaves, w.items)

-- a schema: the 5 bytes of its head, and three expressions
schema-short : (x : SchemaItems) → WholeSchema x → length (schema_bytes x) ≤ 1010
unfolding schema_bytes
schema-short x w =
    let create = expr_bytes x.create in
    let detach = expr_bytes x.detach in
    let consequent = expr_bytes x.consequent in
    omega (
      arith,
      length-append x.head (create ++ (detach ++ consequent)),
      length-append create (detach ++ consequent),
      length-append detach consequent,
      w.head_length,
      expr-short x.create w.create_whole,
      expr-short x.detach w.detach_whole,
      expr-short x.consequent w.consequent_whole,
    )

-- so many bytes for each element at most
each-short : {A : Type 0} (P : A → Type 0) (f : A → List ℕ) (most : ℕ) → ((x : A) → P x → length (f x) ≤ most) → (xs : List A) → All P xs
    → length (flat_map f xs) ≤ length xs * most
unfolding flat_map
each-short P f most h [] p = omega arith
each-short P f most h (x ∷ xs) p = omega (arith, length-append (f x) (flat_map f xs), h x p.0, each-short P f most h xs p.1)

-- 32 kinds of 5 bytes and 16 schemas
pub grammatical-short : (s : List ℕ) → Grammatical s → length s ≤ 16320
unfolding terms_bytes kinds_limit schemas_limit
grammatical-short s g =
    let kinds = flat_map (λ (body : List ℕ). 1 ∷ body) g.kinds in
    let schemas = flat_map schema_bytes g.schemas in
    omega (
      arith,
      ap length g.bytes,
      length-append kinds schemas,
      each-short (λ (body : List ℕ). length body ≡ 4) (λ (body : List ℕ). 1 ∷ body) 5 (λ body l. omega arith) g.kinds g.kinds_whole,
      each-short WholeSchema schema_bytes 1010 schema-short g.schemas g.schemas_whole,
      g.kinds_count.1,
      g.schemas_count.1,
    )

-- longer terms break the grammar
pub long-breaks : (s : List ℕ) → 16320 < length s → breaks_grammar (file_of s) ≡ true
long-breaks s h = go (breaks_grammar (file_of s)) refl
  where
    go : (b : Bool) → breaks_grammar (file_of s) ≡ b → b ≡ true
    go true e = refl
    go false e = absurd (omega (arith, grammatical-short s ((grammar-exact s).0 e)))
