-- What the loop of `count_kinds` keeps.
use Prim.Native.Nat.{ℕ, ◌*◌, ◌≤◌}
use mathlib.Core.Path.{◌≡◌}
use mathlib.Core.List.{List}
use lib.ListN.{length, drop}
use Rattle.format.specs.Bytes.{item}
use Rattle.format.specs.Grammar.{kinds_limit}
use Rattle.format.proofs.ReaderLaws.{SoFar}
use Rattle.grammar.proofs.count_kinds.Given as goal

-- so many kinds are done, each of five bytes, and the others are read after them
abbrev pub invariant-loop-n : goal.invariant-loop-n
invariant-loop-n l = (done : List (List ℕ)) × (length done ≡ l.n) × SoFar (item 1 4) kinds_limit l.s done (drop (5 * l.n) l.s) × (5 * l.n ≤ length l.s)
