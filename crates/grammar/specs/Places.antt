-- Where the clauses of each schema start. Assumes nothing: these are definitions.
use Rattle.std.specs.Prelude.{ℕ, ◌+◌, ◌-◌, ◌*◌, ◌≤◌, ◌<◌, ◌≡◌, List, [], Option, Some, None, length, get_or, take, drop}
use Rattle.std.proofs.Math.Option.{none, some}
use Rattle.meaning.specs.Terms.{always}
use Rattle.format.specs.Grammar.{SchemaItems, read_clause, read_schema, file_of}
use Rattle.grammar.specs.declared.Clauses.{Clauses}
use Rattle.grammar.specs.declared.Layout.{Layout}

-- a schema's clauses start at three places and end at a fourth; its head's body stands right before the first
pub record ClausesAt (s : List ℕ) (x : SchemaItems) (create detach consequent end : ℕ) : Type 0 where
  -- the item 02's body
  pub head_body : x.head ≡ take 4 (drop (create - 4) s)
  -- it stands inside the bytes
  pub head_inside : (4 ≤ create) × (create ≤ length s)
  -- the clause c
  pub create_read : read_clause (drop create s) ≡ some (x.create, drop detach s)
  -- the clause r
  pub detach_read : read_clause (drop detach s) ≡ some (x.detach, drop consequent s)
  -- the clause u
  pub consequent_read : read_clause (drop consequent s) ≡ some (x.consequent, drop end s)
  -- the bytes hold it all
  pub inside : end ≤ length s

-- a schema read at a place, or none
abbrev pub FoundSchema : List ℕ → ℕ → Option Clauses → Type 0
FoundSchema s at (Some p) =
    (x : SchemaItems) × (read_schema (drop at s) ≡ some (x, drop p.end s)) × ClausesAt s x p.create p.detach p.consequent p.end
FoundSchema s at None = read_schema (drop at s) ≡ none

-- past the last schema
unfoldable pub no_items : SchemaItems
no_items = record { head = []; create = always; detach = always; consequent = always }

-- starts by rank: for each schema n that is read, its clauses start at the places numbered 3n, 3n + 1 and 3n + 2
abbrev pub Starts : List ℕ → List SchemaItems → List ℕ → Type 0
Starts s schemas starts =
    (n : ℕ) → n < length schemas
    → (end : ℕ) × ClausesAt s (get_or schemas n no_items) (get_or starts (3 * n) 0) (get_or starts (3 * n + 1) 0) (get_or starts (3 * n + 2) 0) end

-- what is known of the places of terms: how many kinds and schemas, and where the clause of each rank starts
abbrev pub Placed : List ℕ → ℕ → ℕ → List ℕ → Type 0
Placed s kinds schemas starts =
    (kinds ≡ length (file_of s).kinds) × (schemas ≡ length (file_of s).schemas) × Starts s (file_of s).schemas starts

-- what a layout tells of the file that is read
pub record LaidOut (s : List ℕ) (p : Layout) : Type 0 where
  -- the counts of kinds and schemas, and where the clauses start
  pub placed : Placed s p.kinds p.schemas p.starts
  -- where the bytes left unread start
  pub rest_read : (drop p.rest s ≡ (file_of s).rest) × (p.rest ≤ length s)
