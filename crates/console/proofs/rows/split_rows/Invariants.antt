-- The rows that are read and the bytes that are left make the page, and there is a row for each turn.
use Rattle.std.proofs.Common.{◌≡◌, ◌++◌, length}
use Rattle.console.specs.Rows.{rows_bytes}
use Rattle.console.proofs.rows.split_rows.Given as goal

abbrev pub invariant-loop : goal.invariant-loop
invariant-loop l = (rows_bytes l.rows.items ++ l.rest ≡ l.page) × (length l.rows.items ≡ l.counter)
