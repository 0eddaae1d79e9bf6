-- The rows that were printed and the bytes that are left make the page, and there is a row for each turn.
use Rattle.std.proofs.Common.{◌≡◌, List, ◌++◌, length}
use Rattle.meaning.specs.declared.Row.{Row}
use Rattle.console.specs.Rows.{rows_bytes}
use Rattle.console.proofs.say_rows.Given as goal

abbrev pub invariant-loop : goal.invariant-loop
invariant-loop g l = (rows : List Row) × (rows_bytes rows ++ l.rest ≡ l.page) × (length rows ≡ l.counter)
