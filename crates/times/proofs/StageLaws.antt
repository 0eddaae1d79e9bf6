-- A discharge and a violation, by norm type, as the code makes them. Assumes nothing.
use mathlib.Core.Path.{◌≡◌}
use Rattle.meaning.specs.declared.Times.{Times}
use Rattle.meaning.specs.declared.Stage.TheVariants.{Discharged, Violated}
use Rattle.meaning.specs.declared.NormType.{NormType}
use Rattle.meaning.specs.declared.NormType.TheVariants.{Commitment, Authorization, Prohibition, Power}
use Rattle.meaning.specs.Meaning.{and_of, or_of, except_of, stage_from}

module _ (norm : NormType) (c r u : Times) where
  -- a commitment: (c and u) or (r and u)
  pub discharged-either : {a b x : Times} → norm ≡ Commitment → a ≡ and_of c u → b ≡ and_of r u → x ≡ or_of a b → x.occurs ≡ stage_from Discharged norm c r u
  unfolding stage_from
  discharged-either n p q e = rw (n, e, p, q)

  module _ {d x : Times} (both : d ≡ and_of c r) where
    -- an authorization: c and r and u
    pub discharged-used : norm ≡ Authorization → x ≡ and_of d u → x.occurs ≡ stage_from Discharged norm c r u
    unfolding stage_from
    discharged-used n e = rw (n, e, both)

    -- a prohibition: (c and r) except u
    pub discharged-kept : norm ≡ Prohibition → x ≡ except_of d u → x.occurs ≡ stage_from Discharged norm c r u
    unfolding stage_from
    discharged-kept n e = rw (n, e, both)

    -- a power: c and r and u
    pub discharged-exercised : norm ≡ Power → x ≡ and_of d u → x.occurs ≡ stage_from Discharged norm c r u
    unfolding stage_from
    discharged-exercised n e = rw (n, e, both)

    -- a commitment: (c and r) except u
    pub violated-unmet : norm ≡ Commitment → x ≡ except_of d u → x.occurs ≡ stage_from Violated norm c r u
    unfolding stage_from
    violated-unmet n e = rw (n, e, both)

    -- a prohibition: c and r and u
    pub violated-done : norm ≡ Prohibition → x ≡ and_of d u → x.occurs ≡ stage_from Violated norm c r u
    unfolding stage_from
    violated-done n e = rw (n, e, both)
