-- How the programs print a stage and a row. No call prints anything. Assumes nothing: these are definitions.
use Rattle.std.specs.Prelude.{ℕ, List, ◌++◌, codes, decimal}
use Rattle.meaning.specs.declared.Stage.{Stage}
use Rattle.meaning.specs.declared.Stage.TheVariants.{Created, Detached, Expired, Discharged, Violated}
use Rattle.meaning.specs.declared.Row.{Row}

-- a stage's name (item 03)
abbrev pub stage_name : Stage → List ℕ
stage_name Created = codes "created"
stage_name Detached = codes "detached"
stage_name Expired = codes "expired"
stage_name Discharged = codes "discharged"
stage_name Violated = codes "violated"

-- a number with a space before it
abbrev pub next_number : ℕ → List ℕ
next_number n = codes " " ++ decimal n

-- a row: stage, schema, key, privileged, liable, time (row)
abbrev pub row_text : Row → List ℕ
row_text row =
    stage_name row.stage ++ (next_number row.schema ++ (next_number row.key ++ (next_number row.privileged ++ (next_number row.liable ++ next_number row.time))))
