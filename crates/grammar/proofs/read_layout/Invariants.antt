-- What the loop of `read_layout` keeps.
use Prim.Native.Nat.{◌≤◌}
use mathlib.Core.Path.{◌≡◌}
use mathlib.Core.List.{List}
use lib.ListN.{length, drop}
use Rattle.format.specs.Grammar.{SchemaItems, schemas_limit, read_schema}
use Rattle.format.proofs.ReaderLaws.{SoFar}
use Rattle.grammar.specs.Places.{Starts}
use Rattle.grammar.proofs.read_layout.Given as goal

-- so many schemas are done and their starts put down; the others are read from the rest on
abbrev pub invariant-loop-n : goal.invariant-loop-n
invariant-loop-n l =
    (done : List SchemaItems) × (length done ≡ l.n) × SoFar read_schema schemas_limit (drop l.initial.layout.rest l.s) done (drop l.layout.rest l.s)
    × (l.layout.rest ≤ length l.s) × (l.layout.schemas ≡ l.n) × (l.layout.kinds ≡ l.initial.layout.kinds) × (length l.layout.starts ≡ 48) × Starts l.s done l.layout.starts
