-- Refusal 2 exactly: bytes pass it where they are the writing of 1 to 32 kinds and 1 to 16 schemas, whatever their fields hold.
--     size-positive, expr-long    an expression has at least one item, and a byte
--     Connective                  what the items 04 to 06 share
--     expr-read, expr-whole         an expression is read exactly where its writing stands and its items are within the count
--     schema-read, schema-whole     the same of a schema
--     file-read                   what is read of any bytes is whole, within the counts, and with what is left over the bytes
--     file-of-writing             reading what was written gives it back
--     grammar-exact               bytes pass refusal 2 exactly where they keep the grammar
-- Assumes nothing.
use Prim.Native.Nat.{ℕ, zero, suc, ◌+◌, ◌-◌, ◌≤◌}
use native.Mathlib.Omega.{arith}
use mathlib.Core.Path.{◌≡◌, refl}
use mathlib.Core.Bool.{false, not, ◌||◌, true≢false}
use mathlib.Core.List.{List, [], ◌∷◌, ◌++◌, flat_map, append_assoc, append-nil}
use mathlib.Core.Option.{none, some, bind}
use mathlib.Core.Logic.{◌↔◌}
use lib.ListN.{length}
use Rattle.meaning.specs.Lists.{is_empty, All}
use Rattle.meaning.specs.Terms.{Expr, leaf, and, or, except, always, leaves}
use Rattle.format.specs.Bytes.{Reader, many, item}
use Rattle.format.specs.Grammar.{SchemaItems, TermsFile, size, read_both, read_leaf, read_expr, kinds_limit, schemas_limit, expr_limit, read_clause, read_schema, file_of, breaks_grammar, expr_bytes, schema_bytes, terms_bytes, WholeLeaf, item_03, item_08, WholeExpr, WholeSchema, Grammatical}
use Rattle.meaning.proofs.ListLaws.{all_append, all_split}
use Rattle.format.proofs.ReaderLaws.{none-some, found-eq, bind-cases, or_else-cases, item-sound, item-whole, many-bytes, many-all, many-count, many-whole}

-- an expression has at least one item, so that the grammar's '1 to 31' asks for no test of its own
pub size-positive : {A : Type 0} (x : Expr A) → 1 ≤ size x
unfolding size
size-positive (leaf x) = omega arith
size-positive (and a b) = omega arith
size-positive (or a b) = omega arith
size-positive (except a b) = omega arith
size-positive always = omega arith

-- an expression as its items
abbrev pub E : Type 0
E = Expr (List ℕ)

-- a whole leaf has a byte
leaf-long : (item : List ℕ) → WholeLeaf item → 1 ≤ length item
leaf-long item (item_03 body l) = omega arith
leaf-long item (item_08 body l) = omega arith

-- an expression of whole leaves has one
pub expr-long : (x : E) → All WholeLeaf (leaves x) → 1 ≤ length (expr_bytes x)
unfolding expr_bytes leaves
expr-long (leaf item) w = leaf-long item w.0
expr-long (and a b) w = omega arith
expr-long (or a b) w = omega arith
expr-long (except a b) w = omega arith
expr-long always w = omega arith

-- x stands at the front of s, before t, with at most so many items
abbrev Stands : ℕ → List ℕ → E → List ℕ → Type 0
Stands items s x t = (s ≡ expr_bytes x ++ t) × (size x ≤ items) × All WholeLeaf (leaves x)

-- what the three connectives share
pub record Connective (kind : ℕ) (join : E → E → E) : Type 0 where
  -- in bytes: its item byte, then both
  pub bytes : (a b : E) → expr_bytes (join a b) ≡ kind ∷ (expr_bytes a ++ expr_bytes b)
  -- in items
  pub items : (a b : E) → size (join a b) ≡ suc (size a + size b)
  -- in leaves
  pub of-leaves : (a b : E) → leaves (join a b) ≡ leaves a ++ leaves b

-- item 04
pub and_is : Connective 4 and
unfolding expr_bytes size leaves
and_is = record { bytes = λ a b. refl; items = λ a b. refl; of-leaves = λ a b. refl }

-- item 05
pub or_is : Connective 5 or
unfolding expr_bytes size leaves
or_is = record { bytes = λ a b. refl; items = λ a b. refl; of-leaves = λ a b. refl }

-- item 06
pub except-is : Connective 6 except
unfolding expr_bytes size leaves
except-is = record { bytes = λ a b. refl; items = λ a b. refl; of-leaves = λ a b. refl }

-- an item of no body is its item byte
bare-sound : (kind : ℕ) (s : List ℕ) {body t : List ℕ} → item kind 0 s ≡ some (body, t) → s ≡ kind ∷ t
bare-sound kind s {body} {t} e = go body (item-sound kind 0 s e)
  where
    go : (body : List ℕ) → (s ≡ kind ∷ (body ++ t)) × (length body ≡ 0) → s ≡ kind ∷ t
    go [] h = h.0
    go (b ∷ body) h = absurd (omega arith)

-- a connective over any reading of its two expressions
module _ (reader : ℕ → Reader E) (items kind : ℕ) (join : E → E → E) (is : Connective kind join) where
  both-sound : ((items : ℕ) (s : List ℕ) (x : E) (t : List ℕ) → reader items s ≡ some (x, t) → Stands items s x t)
      → (s : List ℕ) (x : E) (t : List ℕ) → bind (item kind 0 s) (λ h. read_both reader items join h.1) ≡ some (x, t) → Stands (suc items) s x t
  unfolding read_both
  both-sound sound s x t e =
      bind-cases (item kind 0 s) _ e λ h p e₁.
      bind-cases (reader items h.1) _ e₁ λ a q e₂.
      bind-cases (reader (items - size a.0) a.1) _ e₂ λ b r e₃.
      let left = sound items h.1 a.0 a.1 q in
      let right = sound (items - size a.0) a.1 b.0 b.1 r in
      let found : (join a.0 b.0 ≡ x) × (b.1 ≡ t) = found-eq e₃ in
      rw (← found.0, ← found.1) (
        rw (is.bytes, append_assoc) (cc (bare-sound kind s p, left.0, right.0)),
        omega (arith, is.items a.0 b.0, left.1, right.1),
        rw is.of-leaves (all_append WholeLeaf (leaves a.0) (leaves b.0) left.2 right.2),
      )

  both-whole : (n : ℕ) → ((items : ℕ) (x : E) (t : List ℕ) → size x ≤ n → size x ≤ items → All WholeLeaf (leaves x) → reader items (expr_bytes x ++ t) ≡ some (x, t))
      → (a b : E) (t : List ℕ) → size (join a b) ≤ suc n → size (join a b) ≤ suc items → All WholeLeaf (leaves (join a b))
      → bind (item kind 0 (expr_bytes (join a b) ++ t)) (λ h. read_both reader items join h.1) ≡ some (join a b, t)
  unfolding read_both bind
  both-whole n whole a b t p q r =
      let both = all_split WholeLeaf (leaves a) (leaves b) (rw is.of-leaves at r) in
      let count = is.items a b in
      rw (is.bytes, append_assoc, item-whole kind 0 []) (simp (
        whole items a (expr_bytes b ++ t) (omega arith) (omega arith) both.0,
        whole (items - size a) b t (omega arith) (omega arith) both.1,
      ))

-- a leaf of either kind
leaf-sound : (kind n : ℕ) → ((body : List ℕ) → length body ≡ n → WholeLeaf (kind ∷ body))
    → (items : ℕ) (s : List ℕ) (x : E) (t : List ℕ) → read_leaf kind n s ≡ some (x, t) → Stands (suc items) s x t
unfolding read_leaf expr_bytes size leaves
leaf-sound kind n whole items s x t e =
    bind-cases (item kind n s) _ e λ h p e₁.
    let front = item-sound kind n s p in
    let found : (leaf (kind ∷ h.0) ≡ x) × (h.1 ≡ t) = found-eq e₁ in
    rw (← found.0, ← found.1) (front.0, omega arith, (whole h.0 front.1, tt))

always-sound : (items : ℕ) (s : List ℕ) (x : E) (t : List ℕ) → bind {B = E × List ℕ} (item 7 0 s) (λ h. some (always, h.1)) ≡ some (x, t) → Stands (suc items) s x t
unfolding expr_bytes size leaves
always-sound items s x t e =
    bind-cases (item 7 0 s) _ e λ h p e₁.
    let found : (always ≡ x) × (h.1 ≡ t) = found-eq e₁ in
    rw (← found.0, ← found.1) (bare-sound 7 s p, omega arith, tt)

-- what is read as an expression stands there, is within the count, and has whole leaves
pub expr-read : (n items : ℕ) (s : List ℕ) (x : Expr (List ℕ)) (t : List ℕ) → read_expr n items s ≡ some (x, t)
    → (s ≡ expr_bytes x ++ t) × (size x ≤ items) × All WholeLeaf (leaves x)
unfolding read_expr
expr-read zero items s x t e = none-some e
expr-read (suc n) zero s x t e = none-some e
expr-read (suc n) (suc items) s x t e =
    or_else-cases (leaf-sound 3 16 item_03 items s x t)
    (or_else-cases (both-sound (read_expr n) items 4 and and_is (expr-read n) s x t)
    (or_else-cases (both-sound (read_expr n) items 5 or or_is (expr-read n) s x t)
    (or_else-cases (both-sound (read_expr n) items 6 except except-is (expr-read n) s x t)
    (or_else-cases (always-sound items s x t)
    (leaf-sound 8 19 item_08 items s x t))))) e

-- an expression within the count, with whole leaves, is read back from its writing; depth as much as items is enough
pub expr-whole : (n items : ℕ) (x : Expr (List ℕ)) (t : List ℕ) → size x ≤ n → size x ≤ items → All WholeLeaf (leaves x)
    → read_expr n items (expr_bytes x ++ t) ≡ some (x, t)
unfolding read_leaf read_expr expr_bytes size leaves item bind
expr-whole zero items x t p q r = absurd (omega (arith, size-positive x))
expr-whole (suc n) zero x t p q r = absurd (omega (arith, size-positive x))
expr-whole (suc n) (suc items) (leaf x) t p q r = go x r.0
  where
    go : (x : List ℕ) → WholeLeaf x → read_expr (suc n) (suc items) (x ++ t) ≡ some (leaf x, t)
    go x (item_03 body l) = rw (item-whole 3 16 body t l)
    go x (item_08 body l) = rw (item-whole 8 19 body t l)
expr-whole (suc n) (suc items) (and a b) t p q r = rw (both-whole (read_expr n) items 4 and and_is n (expr-whole n) a b t p q r)
expr-whole (suc n) (suc items) (or a b) t p q r = rw (both-whole (read_expr n) items 5 or or_is n (expr-whole n) a b t p q r)
expr-whole (suc n) (suc items) (except a b) t p q r = rw (both-whole (read_expr n) items 6 except except-is n (expr-whole n) a b t p q r)
expr-whole (suc n) (suc items) always t p q r = rw (item-whole 7 0 [] t refl)

clause-read : (s : List ℕ) (x : E) (t : List ℕ) → read_clause s ≡ some (x, t) → (s ≡ expr_bytes x ++ t) × WholeExpr x
unfolding read_clause
clause-read s x t e = let found = expr-read expr_limit expr_limit s x t e in (found.0, record { items = found.1; whole_leaves = found.2 })

clause-whole : (x : E) (t : List ℕ) → WholeExpr x → read_clause (expr_bytes x ++ t) ≡ some (x, t)
unfolding read_clause
clause-whole x t whole = expr-whole expr_limit expr_limit x t whole.items whole.items whole.whole_leaves

-- four writings before a fifth
four : (a b c d t : List ℕ) → (a ++ (b ++ (c ++ d))) ++ t ≡ a ++ (b ++ (c ++ (d ++ t)))
four a b c d t = simp append_assoc

-- what is read as a schema stands there and is whole
pub schema-read : (s : List ℕ) (x : SchemaItems) (t : List ℕ) → read_schema s ≡ some (x, t) → (s ≡ schema_bytes x ++ t) × WholeSchema x
unfolding read_schema schema_bytes
schema-read s x t e =
    bind-cases (item 2 4 s) _ e λ h p e₁.
    bind-cases (read_clause h.1) _ e₁ λ c q e₂.
    bind-cases (read_clause c.1) _ e₂ λ r v e₃.
    bind-cases (read_clause r.1) _ e₃ λ u w e₄.
    let head = item-sound 2 4 s p in
    let create = clause-read h.1 c.0 c.1 q in
    let detach = clause-read c.1 r.0 r.1 v in
    let consequent = clause-read r.1 u.0 u.1 w in
    let found : (_ ≡ x) × (u.1 ≡ t) = found-eq e₄ in
    rw (← found.0, ← found.1) (
      cc (head.0, create.0, detach.0, consequent.0, four h.0 (expr_bytes c.0) (expr_bytes r.0) (expr_bytes u.0) u.1),
      record { head_length = head.1; create_whole = create.1; detach_whole = detach.1; consequent_whole = consequent.1 },
    )

-- a whole schema is read back from its writing
pub schema-whole : (x : SchemaItems) (t : List ℕ) → WholeSchema x → read_schema (schema_bytes x ++ t) ≡ some (x, t)
unfolding read_schema schema_bytes bind
schema-whole x t whole = simp (append_assoc, item-whole 2 4 x.head, clause-whole, whole.head_length, whole.create_whole, whole.detach_whole, whole.consequent_whole)

-- of any bytes, broken or not: what is read, written again, and what is left over are the bytes; it is within the counts and whole
pub file-read : (s : List ℕ) → (s ≡ terms_bytes (file_of s).kinds (file_of s).schemas ++ (file_of s).rest)
    × (length (file_of s).kinds ≤ kinds_limit) × (length (file_of s).schemas ≤ schemas_limit)
    × All (λ body. length body ≡ 4) (file_of s).kinds × All WholeSchema (file_of s).schemas
unfolding file_of terms_bytes
file-read s =
    let behind = (many (item 1 4) kinds_limit s).1 in (
      rw append_assoc (
          rw (← many-bytes read_schema schema_bytes (λ s x t e. (schema-read s x t e).0) schemas_limit behind)
          (many-bytes (item 1 4) (λ body. 1 ∷ body) (λ s x t e. (item-sound 1 4 s e).0) kinds_limit s)),
      many-count (item 1 4) kinds_limit s,
      many-count read_schema schemas_limit behind,
      many-all (item 1 4) (λ body. length body ≡ 4) (λ s x t e. (item-sound 1 4 s e).1) kinds_limit s,
      many-all read_schema WholeSchema (λ s x t e. (schema-read s x t e).1) schemas_limit behind,
    )

-- a schema begins with another byte than a kind
no_kind : (schemas : List SchemaItems) → item 1 4 (flat_map schema_bytes schemas) ≡ none
unfolding flat_map schema_bytes item
no_kind [] = refl
no_kind (x ∷ schemas) = refl

-- kinds and schemas within the counts are read back from their writing, with nothing left over: so terms are told by their bytes
pub file-of-writing : (kinds : List (List ℕ)) (schemas : List SchemaItems) → length kinds ≤ kinds_limit → length schemas ≤ schemas_limit
    → All (λ body. length body ≡ 4) kinds → All WholeSchema schemas → file_of (terms_bytes kinds schemas) ≡ record { kinds = kinds; schemas = schemas; rest = [] }
unfolding file_of terms_bytes read_schema item bind
file-of-writing kinds schemas few few' whole whole' =
    let first = many-whole (item 1 4) (λ body. 1 ∷ body) (λ body. length body ≡ 4) (item-whole 1 4) kinds kinds_limit (flat_map schema_bytes schemas) whole few (no_kind schemas) in
    let second = many-whole read_schema schema_bytes WholeSchema schema-whole schemas schemas_limit [] whole' few' refl in
    rw (first, rw append-nil at second)

-- refusal 2 is kept off by a kind, a schema and nothing left over
kept : (file : TermsFile) → (breaks_grammar file ≡ false) ↔ ((1 ≤ length file.kinds) × (1 ≤ length file.schemas) × (file.rest ≡ []))
unfolding breaks_grammar is_empty
kept file = go file.kinds file.schemas file.rest
  where
    go : (ks : List (List ℕ)) (ss : List SchemaItems) (rest : List ℕ)
        → (is_empty ks || is_empty ss || not (is_empty rest) ≡ false) ↔ ((1 ≤ length ks) × (1 ≤ length ss) × (rest ≡ []))
    go [] ss rest = (λ e. absurd (true≢false e), λ h. absurd (omega arith))
    go (k ∷ ks) [] rest = (λ e. absurd (true≢false e), λ h. absurd (omega arith))
    go (k ∷ ks) (x ∷ ss) [] = (λ e. (omega arith, omega arith, refl), λ h. refl)
    go (k ∷ ks) (x ∷ ss) (b ∷ rest) = (λ e. (omega arith, omega arith, cc), λ h. let e : b ∷ rest ≡ [] = h.2 in cc)

-- bytes pass refusal 2 exactly where they keep the grammar
pub grammar-exact : (s : List ℕ) → (breaks_grammar (file_of s) ≡ false) ↔ Grammatical s
grammar-exact s = (
  λ e.
      let ok = (kept (file_of s)).0 e in
      let found = file-read s in
      record {
        kinds = (file_of s).kinds;
        schemas = (file_of s).schemas;
        kinds_count = (ok.0, found.1);
        schemas_count = (ok.1, found.2);
        kinds_whole = found.3;
        schemas_whole = found.4;
        bytes = cc (found.0, ok.2, append-nil (terms_bytes (file_of s).kinds (file_of s).schemas));
      },
  λ g.
      rw (g.bytes, file-of-writing g.kinds g.schemas g.kinds_count.1 g.schemas_count.1 g.kinds_whole g.schemas_whole)
      ((kept (record { kinds = g.kinds; schemas = g.schemas; rest = [] })).1 (g.kinds_count.0, g.schemas_count.0, refl)),
)
