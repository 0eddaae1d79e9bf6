-- A stage's time asks for no more of its clauses' times than is needed. Assumes nothing.
use mathlib.Core.Path.{◌≡◌, refl}
use Rattle.meaning.specs.declared.Times.{Times}
use Rattle.meaning.specs.declared.Stage.{Stage}
use Rattle.meaning.specs.declared.Stage.TheVariants.{Created, Detached, Expired, Discharged, Violated}
use Rattle.meaning.specs.declared.NormType.{NormType}
use Rattle.meaning.specs.declared.NormType.TheVariants.{Commitment, Authorization, Prohibition, Power}
use Rattle.meaning.specs.Meaning.{and_of, or_of, except_of, stage_from}
use Rattle.times.specs.declared.Needed.TheVariants.{Occurrence, Both}
use Rattle.times.specs.NeededTimes.{needed_of, detach_needs, consequent_needs, consequent_needs_all}

-- the times that are needed are enough
pub stage-needs : (s : Stage) (norm : NormType) (c r u : Times) → stage_from s norm (needed_of Occurrence c) (needed_of (detach_needs s) r) (needed_of (consequent_needs s norm) u) ≡ stage_from s norm c r u
unfolding stage_from and_of or_of except_of needed_of
stage-needs Created norm c r u = refl
stage-needs Detached norm c r u = refl
stage-needs Expired norm c r u = refl
stage-needs Discharged Commitment c r u = refl
stage-needs Discharged Authorization c r u = refl
stage-needs Discharged Prohibition c r u = refl
stage-needs Discharged Power c r u = refl
stage-needs Violated Commitment c r u = refl
stage-needs Violated Authorization c r u = refl
stage-needs Violated Prohibition c r u = refl
stage-needs Violated Power c r u = refl

-- so are those that all stages together need
pub rows-need : (s : Stage) (norm : NormType) (c r u : Times) → stage_from s norm (needed_of Occurrence c) (needed_of Both r) (needed_of (consequent_needs_all norm) u) ≡ stage_from s norm c r u
unfolding stage_from and_of or_of except_of needed_of
rows-need Created norm c r u = refl
rows-need Detached norm c r u = refl
rows-need Expired norm c r u = refl
rows-need Discharged Commitment c r u = refl
rows-need Discharged Authorization c r u = refl
rows-need Discharged Prohibition c r u = refl
rows-need Discharged Power c r u = refl
rows-need Violated Commitment c r u = refl
rows-need Violated Authorization c r u = refl
rows-need Violated Prohibition c r u = refl
rows-need Violated Power c r u = refl
