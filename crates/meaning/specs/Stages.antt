-- The five stages and their numbers. Document 01, 'Terms and log', item 03; 'Calls', 4. Assumes nothing: these are definitions.
use Rattle.std.specs.Prelude.{ℕ, cond, List, [], ◌∷◌, eqb, Option, Some, None}
use Rattle.meaning.specs.declared.Stage.{Stage}
use Rattle.meaning.specs.declared.Stage.TheVariants.{Created, Detached, Expired, Discharged, Violated}

-- a stage's number, in a form byte and in a row (item 03; row)
abbrev pub stage_number : Stage → ℕ
stage_number Created = 1
stage_number Detached = 2
stage_number Expired = 3
stage_number Discharged = 4
stage_number Violated = 5

-- the stage that a form byte names, if it names one (item 03)
abbrev pub stage_of : ℕ → Option Stage
stage_of form =
    cond (eqb form 1) (Some Created)
    (cond (eqb form 2) (Some Detached)
    (cond (eqb form 3) (Some Expired)
    (cond (eqb form 4) (Some Discharged)
    (cond (eqb form 5) (Some Violated)
    None))))

-- the stages in the order of their numbers (call 4)
unfoldable pub stages : List Stage
stages = Created ∷ Detached ∷ Expired ∷ Discharged ∷ Violated ∷ []
