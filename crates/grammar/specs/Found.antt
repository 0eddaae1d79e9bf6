-- What a reader finds at a place of bytes, told by the place where it ends. The readers are the model's. Assumes nothing: these are definitions.
use Rattle.std.specs.Prelude.{ℕ, ◌+◌, ◌-◌, ◌≤◌, ◌<◌, ◌≡◌, Bool, true, false, List, Option, Some, None, length, drop}
use Rattle.std.proofs.Math.Option.{none, some}
use Rattle.meaning.specs.Terms.{Expr}
use Rattle.format.specs.Bytes.{Reader}
use Rattle.format.specs.Grammar.{size, read_expr}
use Rattle.grammar.specs.declared.Item.{Item}
use Rattle.grammar.specs.declared.Spot.{Spot}
use Rattle.grammar.specs.Items.{body_of}

-- something up to an end, or nothing
abbrev pub Found : {A : Type 0} → Reader A → List ℕ → ℕ → Option ℕ → Type 0
Found {A} reader s at (Some end) = (x : A) × (reader (drop at s) ≡ some (x, drop end s)) × (at < end) × (end ≤ length s)
Found {A} reader s at None = reader (drop at s) ≡ none

-- the spot after an item: after its item byte and its body, with one item less
abbrev pub after_item : Spot → Item → Spot
after_item spot item = record { at = spot.at + 1 + body_of item; items = spot.items - 1 }

-- a spot that was moved, where an expression was passed
abbrev pub if_passed : Bool → Spot → Option Spot
if_passed true spot = Some spot
if_passed false spot = None

-- an expression of at most so many items stands at a place
abbrev pub StandsExpr : List ℕ → ℕ → ℕ → Type 0
StandsExpr s at items = (x : Expr (List ℕ)) × (t : List ℕ) × (read_expr items items (drop at s) ≡ some (x, t))

-- an expression up to an end, with so many items left of those that it may have, or none
abbrev pub FoundExpr : ℕ → ℕ → List ℕ → ℕ → Option Spot → Type 0
FoundExpr n items s at (Some end) =
    (x : Expr (List ℕ)) × (read_expr n items (drop at s) ≡ some (x, drop end.at s)) × (size x + end.items ≡ items) × (at < end.at) × (end.at ≤ length s)
FoundExpr n items s at None = read_expr n items (drop at s) ≡ none
