-- What a layout tells of terms has one proof at most, so that a ghost field can keep it.
-- Assumes nothing.
use Prim.Native.Nat.{ℕ, ◌+◌, ◌*◌, ◌≤◌}
use native.Mathlib.Omega.{arith}
use mathlib.Core.Path.{◌≡◌, sym, ap, ◌∙◌}
use mathlib.Core.HLevel.{Π_prop, Σ_prop_path}
use mathlib.Core.List.{List}
use mathlib.Core.Option.{is_set as Option-set}
use lib.ListN.{length, drop, get_or, length-drop}
use denote.Struct.Props.{props}
use Rattle.meaning.specs.Terms.{Expr-set}
use Rattle.format.specs.Grammar.{SchemaItems}
use Rattle.format.proofs.ReaderLaws.{found-eq}
use Rattle.grammar.specs.declared.Layout.{Layout}
use Rattle.grammar.specs.Places.{ClausesAt, no_items, Starts, Placed, LaidOut}

-- the places of a schema's clauses
ClausesAt_prop : (s : List ℕ) (x : SchemaItems) (create detach consequent end : ℕ) → IsProp (ClausesAt s x create detach consequent end)
ClausesAt_prop s x create detach consequent end = hlevel (props, Option-set, Expr-set)

-- two places inside bytes from which the same bytes follow are one place
same_place : (s : List ℕ) (a b : ℕ) → a ≤ length s → b ≤ length s → drop a s ≡ drop b s → a ≡ b
same_place s a b h k e = omega (arith, sym (length-drop a s) ∙ ap length e ∙ length-drop b s)

-- a schema's clauses end at one place
ends_prop : (s : List ℕ) (x : SchemaItems) (create detach consequent : ℕ) → IsProp ((end : ℕ) × ClausesAt s x create detach consequent end)
ends_prop s x create detach consequent p q =
    let rest = (found-eq (sym p.1.consequent_read ∙ q.1.consequent_read)).1 in
    Σ_prop_path (ClausesAt_prop s x create detach consequent) (same_place s p.0 q.0 p.1.inside q.1.inside rest)

-- starts by rank
pub Starts_prop : (s : List ℕ) (schemas : List SchemaItems) (starts : List ℕ) → IsProp (Starts s schemas starts)
Starts_prop s schemas starts =
    Π_prop (λ n. Π_prop (λ h. ends_prop s (get_or schemas n no_items) (get_or starts (3 * n) 0) (get_or starts (3 * n + 1) 0) (get_or starts (3 * n + 2) 0)))

-- what is known of the places of terms
pub Placed_prop : (s : List ℕ) (kinds schemas : ℕ) (starts : List ℕ) → IsProp (Placed s kinds schemas starts)
Placed_prop s kinds schemas starts = hlevel (props, Starts_prop)

-- what a layout tells of the file that is read
pub LaidOut_prop : (s : List ℕ) (p : Layout) → IsProp (LaidOut s p)
LaidOut_prop s p = hlevel (props, Starts_prop)
