-- What is asked of each event, leaf, clause and schema of terms: refusals 3, 4 and 5 part by part. Assumes nothing: these are definitions.
use Rattle.std.specs.Prelude.{ℕ, ◌+◌, ◌*◌, ◌≤◌, ◌≡◌, Bool, true, false, ◌||◌, List, Option, Some, None, length, get_or, drop}
use Rattle.std.proofs.Math.Option.{some}
use Rattle.meaning.specs.Lists.{any_of}
use Rattle.meaning.specs.Terms.{Terms, Expr, leaves, leaf_events}
use Rattle.format.specs.Grammar.{size, read_expr, file_of, read_clause}
use Rattle.format.specs.Fields.{leaf_from, cites_from, shares_none}
use Rattle.grammar.specs.declared.Item.{Item}
use Rattle.grammar.specs.declared.Spot.{Spot}
use Rattle.grammar.specs.Places.{no_items}
use Rattle.fields.specs.Decoded.{LeafAt, leaf_item}

-- some event of a leaf cites a stage that does not rank below k
unfoldable pub leaf_cites : ℕ → List ℕ → Bool
leaf_cites k item = any_of (cites_from k) (leaf_events (leaf_from item))

-- the kind of some event of a leaf shares nothing with the subject kind
unfoldable pub leaf_unshared : Terms → ℕ → List ℕ → Bool
leaf_unshared terms subject item = any_of (shares_none terms subject) (leaf_events (leaf_from item))

-- a test may be asked about each leaf that stands whole, by its place and item
abbrev pub MayAsk : List ℕ → (ℕ → Item → Type 0) → Type 0
MayAsk s pre = (at : ℕ) (item : Item) → LeafAt s at item → pre at item

-- what it answers is what p says of the leaf's bytes
abbrev pub Asks : List ℕ → (ℕ → Item → Bool → Type 0) → (List ℕ → Bool) → Type 0
Asks s post p = (at : ℕ) (item : Item) (b : Bool) → LeafAt s at item → post at item b → b ≡ p (leaf_item s at item)

-- some leaf of a clause passes a test
unfoldable pub clause_has : (List ℕ → Bool) → Expr (List ℕ) → Bool
clause_has p x = any_of p (leaves x)

-- what a test finds in an expression of at most so many items, read with t after it, whichever p of P says what the test answers: some leaf passes,
-- or none does and the expression ends at a place
abbrev pub WalkedOver : List ℕ → ((List ℕ → Bool) → Type 0) → ℕ → Expr (List ℕ) → List ℕ → Option Spot → Type 0
WalkedOver s P items x t None = (p : List ℕ → Bool) → P p → clause_has p x ≡ true
WalkedOver s P items x t (Some end) =
    ((p : List ℕ → Bool) → P p → clause_has p x ≡ false) × (t ≡ drop end.at s) × (end.at ≤ length s) × (size x + end.items ≡ items)

-- the same of the expression at a place
abbrev pub Walks : List ℕ → ((List ℕ → Bool) → Type 0) → ℕ → ℕ → Option Spot → Type 0
Walks s P at items r = (x : Expr (List ℕ)) (t : List ℕ) → read_expr items items (drop at s) ≡ some (x, t) → WalkedOver s P items x t r

-- some leaf of the schema with a number passes a test of its clause's rank and itself
unfoldable pub clauses_have : List ℕ → (ℕ → List ℕ → Bool) → ℕ → Bool
clauses_have s p n =
    let x = get_or (file_of s).schemas n no_items in
    clause_has (p (3 * n)) x.create || clause_has (p (3 * n + 1)) x.detach || clause_has (p (3 * n + 2)) x.consequent

-- the clause that is read at a place
abbrev pub ClauseAt : List ℕ → ℕ → Expr (List ℕ) → Type 0
ClauseAt s at x = (t : List ℕ) × (read_clause (drop at s) ≡ some (x, t))
