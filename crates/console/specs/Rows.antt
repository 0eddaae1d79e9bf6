-- The bytes of a report's rows. Assumes nothing: these are definitions.
use Rattle.std.specs.Prelude.{◌≡◌, ℕ, List, ◌++◌, flat_map}
use Rattle.meaning.specs.declared.Row.{Row}
use Rattle.format.specs.Records.{row_bytes, value_width}

-- rows one after another, as a page has them
abbrev pub rows_bytes : List Row → List ℕ
rows_bytes rows = flat_map (row_bytes value_width) rows

-- a row stands at the front of bytes
pub record StartsWithRow (bytes : List ℕ) : Type 0 where
  -- the row
  pub row : Row
  -- what stands after it
  pub rest : List ℕ
  -- together they are the bytes
  pub whole : row_bytes value_width row ++ rest ≡ bytes
