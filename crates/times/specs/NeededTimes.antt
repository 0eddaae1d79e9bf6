-- Which of a clause's two times a stage needs; the other is left out as none. Assumes nothing: these are definitions.
use Rattle.meaning.specs.declared.Time.TheVariants.{Never}
use Rattle.meaning.specs.declared.Times.{Times}
use Rattle.meaning.specs.declared.Stage.{Stage}
use Rattle.meaning.specs.declared.Stage.TheVariants.{Created, Detached, Expired, Discharged, Violated}
use Rattle.meaning.specs.declared.NormType.{NormType}
use Rattle.meaning.specs.declared.NormType.TheVariants.{Commitment, Authorization, Prohibition, Power}
use Rattle.times.specs.declared.Needed.{Needed}
use Rattle.times.specs.declared.Needed.TheVariants.{Neither, Occurrence, Failure, Both}

-- the times that are left
unfoldable pub needed_of : Needed → Times → Times
needed_of Neither x = record { occurs = Never; fails = Never }
needed_of Occurrence x = record { occurs = x.occurs; fails = Never }
needed_of Failure x = record { occurs = Never; fails = x.fails }
needed_of Both x = x

-- of the clause r
abbrev pub detach_needs : Stage → Needed
detach_needs Created = Neither
detach_needs Detached = Occurrence
detach_needs Expired = Failure
detach_needs Discharged = Occurrence
detach_needs Violated = Occurrence

-- of the clause u
abbrev pub consequent_needs : Stage → NormType → Needed
consequent_needs Created norm = Neither
consequent_needs Detached norm = Neither
consequent_needs Expired norm = Neither
consequent_needs Discharged Commitment = Occurrence
consequent_needs Discharged Authorization = Occurrence
consequent_needs Discharged Prohibition = Failure
consequent_needs Discharged Power = Occurrence
consequent_needs Violated Commitment = Failure
consequent_needs Violated Authorization = Neither
consequent_needs Violated Prohibition = Occurrence
consequent_needs Violated Power = Neither

-- of the clause u, for all stages together
abbrev pub consequent_needs_all : NormType → Needed
consequent_needs_all Commitment = Both
consequent_needs_all Authorization = Occurrence
consequent_needs_all Prohibition = Both
consequent_needs_all Power = Occurrence
