-- How much is left of a text whose words are taken one after another: why the reading of cases ends. Assumes nothing: these are definitions.
use Rattle.std.specs.Prelude.{ℕ, length}
use Rattle.cases.specs.declared.words.Words.{Words}

-- how many bytes are left
abbrev pub left : Words → ℕ
left words = length words.rest.now
