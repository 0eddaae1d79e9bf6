-- The grammar of terms: items by their item bytes and lengths alone, whatever their bodies hold.
-- Document 01, 'Terms and log', 'Terms items' and 'Grammar'; refusal 2 of the table; document 02, wish 1. Assumes nothing: these are definitions.
use Rattle.std.specs.Prelude.{ℕ, zero, suc, ◌+◌, ◌-◌, ◌≤◌, ◌≡◌, Bool, not, ◌||◌, length}
use mathlib.Core.List.{List, [], ◌∷◌, ◌++◌, flat_map}
use Rattle.std.proofs.Math.Option.{none, some, bind}
use Rattle.meaning.specs.Lists.{is_empty, All}
use Rattle.meaning.specs.Terms.{Expr, leaf, and, or, except, always, leaves}
use Rattle.format.specs.Bytes.{Reader, or_else, many, item}

-- a schema as the body of its item 02 and its expressions, each leaf an item with its byte (Grammar)
pub record SchemaItems : Type 0 where
  -- the body of the item 02
  pub head : List ℕ
  -- the create expression
  pub create : Expr (List ℕ)
  -- the detach expression
  pub detach : Expr (List ℕ)
  -- the consequent expression
  pub consequent : Expr (List ℕ)

-- what is read of terms (Grammar)
pub record TermsFile : Type 0 where
  -- the bodies of the items 01
  pub kinds : List (List ℕ)
  -- the schemas
  pub schemas : List SchemaItems
  -- the bytes left unread
  pub rest : List ℕ

-- how many items an expression has (Grammar)
unfoldable pub size : {A : Type 0} → Expr A → ℕ
size (leaf x) = 1
size (and a b) = suc (size a + size b)
size (or a b) = suc (size a + size b)
size (except a b) = suc (size a + size b)
size always = 1

-- two expressions of at most so many items together, joined (items 04 to 06)
unfoldable pub read_both : (ℕ → Reader (Expr (List ℕ))) → ℕ → (Expr (List ℕ) → Expr (List ℕ) → Expr (List ℕ)) → Reader (Expr (List ℕ))
read_both reader items join s =
    bind (reader items s) λ a.
    bind (reader (items - size a.0) a.1) λ b.
    some (join a.0 b.0, b.1)

-- a leaf: an item with its byte (items 03 and 08)
unfoldable pub read_leaf : ℕ → ℕ → Reader (Expr (List ℕ))
read_leaf kind body s = bind (item kind body s) λ x. some (leaf (kind ∷ x.0), x.1)

-- an expression of at most so many items, nested no deeper than n (items 03 to 08)
unfoldable pub read_expr : ℕ → ℕ → Reader (Expr (List ℕ))
read_expr zero items s = none
read_expr (suc n) zero s = none
read_expr (suc n) (suc items) s =
    or_else (read_leaf 3 16 s)
    (or_else (bind (item 4 0 s) λ x. read_both (read_expr n) items and x.1)
    (or_else (bind (item 5 0 s) λ x. read_both (read_expr n) items or x.1)
    (or_else (bind (item 6 0 s) λ x. read_both (read_expr n) items except x.1)
    (or_else (bind (item 7 0 s) λ x. some (always, x.1))
    (read_leaf 8 19 s)))))

-- the most items 01 (Grammar)
unfoldable pub kinds_limit : ℕ
kinds_limit = 32

-- the most schemas
unfoldable pub schemas_limit : ℕ
schemas_limit = 16

-- the most items of an expression
unfoldable pub expr_limit : ℕ
expr_limit = 31

-- a clause (Grammar); an expression has an item, so it has one at least
unfoldable pub read_clause : Reader (Expr (List ℕ))
read_clause s = read_expr expr_limit expr_limit s

-- a schema (Grammar): its head, then create, detach and consequent
unfoldable pub read_schema : Reader SchemaItems
read_schema s =
    bind (item 2 4 s) λ h.
    bind (read_clause h.1) λ c.
    bind (read_clause c.1) λ r.
    bind (read_clause r.1) λ u.
    some (record { head = h.0; create = c.0; detach = r.0; consequent = u.0 }, u.1)

-- the items 01, then the schemas, as far as they go (Grammar)
unfoldable pub file_of : List ℕ → TermsFile
file_of s =
    let ks = many (item 1 4) kinds_limit s in
    let ss = many read_schema schemas_limit ks.1 in
    record { kinds = ks.0; schemas = ss.0; rest = ss.1 }

-- refusal 2 (table, 2): no item 01, no schema, or bytes left unread
unfoldable pub breaks_grammar : TermsFile → Bool
breaks_grammar file = is_empty file.kinds || is_empty file.schemas || not (is_empty file.rest)

-- an expression in bytes (items 03 to 08)
unfoldable pub expr_bytes : Expr (List ℕ) → List ℕ
expr_bytes (leaf item) = item
expr_bytes (and a b) = 4 ∷ (expr_bytes a ++ expr_bytes b)
expr_bytes (or a b) = 5 ∷ (expr_bytes a ++ expr_bytes b)
expr_bytes (except a b) = 6 ∷ (expr_bytes a ++ expr_bytes b)
expr_bytes always = 7 ∷ []

-- a schema in bytes (item 02)
unfoldable pub schema_bytes : SchemaItems → List ℕ
schema_bytes x = 2 ∷ (x.head ++ (expr_bytes x.create ++ (expr_bytes x.detach ++ expr_bytes x.consequent)))

-- terms in bytes (items 01, then schemas)
unfoldable pub terms_bytes : List (List ℕ) → List SchemaItems → List ℕ
terms_bytes kinds schemas = flat_map (λ body. 1 ∷ body) kinds ++ flat_map schema_bytes schemas

-- a leaf's item with its whole body (items 03 and 08)
pub data WholeLeaf : List ℕ → Type 0 where
  item_03 : (body : List ℕ) → length body ≡ 16 → WholeLeaf (3 ∷ body)
  item_08 : (body : List ℕ) → length body ≡ 19 → WholeLeaf (8 ∷ body)

-- an expression within the count, with whole leaves (Grammar)
pub record WholeExpr (x : Expr (List ℕ)) : Type 0 where
  -- within the count
  pub items : size x ≤ expr_limit
  -- each leaf
  pub whole_leaves : All WholeLeaf (leaves x)

-- a schema with a whole head and three whole expressions (Grammar, item 02)
pub record WholeSchema (x : SchemaItems) : Type 0 where
  -- the item 02's body
  pub head_length : length x.head ≡ 4
  -- create
  pub create_whole : WholeExpr x.create
  -- detach
  pub detach_whole : WholeExpr x.detach
  -- consequent
  pub consequent_whole : WholeExpr x.consequent

-- bytes that keep the grammar: kinds and schemas within their counts, written, and nothing after them (Grammar)
pub record Grammatical (s : List ℕ) : Type 0 where
  -- the bodies of the items 01
  pub kinds : List (List ℕ)
  -- the schemas
  pub schemas : List SchemaItems
  -- 1 to 32 items 01
  pub kinds_count : (1 ≤ length kinds) × (length kinds ≤ kinds_limit)
  -- 1 to 16 schemas
  pub schemas_count : (1 ≤ length schemas) × (length schemas ≤ schemas_limit)
  -- bodies of 4 bytes
  pub kinds_whole : All (λ body. length body ≡ 4) kinds
  -- whole schemas
  pub schemas_whole : All WholeSchema schemas
  -- nothing else stands in the bytes
  pub bytes : s ≡ terms_bytes kinds schemas
