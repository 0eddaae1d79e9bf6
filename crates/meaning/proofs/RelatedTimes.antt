-- A relation of times that the later-of, the earlier-of and Never keep is kept by the connectives and by the making of stages. Assumes nothing.
use Rattle.meaning.specs.declared.Time.{Time}
use Rattle.meaning.specs.declared.Time.TheVariants.{Never}
use Rattle.meaning.specs.declared.Stage.{Stage}
use Rattle.meaning.specs.declared.Stage.TheVariants.{Created, Detached, Expired, Discharged, Violated}
use Rattle.meaning.specs.declared.NormType.{NormType}
use Rattle.meaning.specs.declared.NormType.TheVariants.{Commitment, Authorization, Prohibition, Power}
use Rattle.meaning.specs.declared.Times.{Times}
use Rattle.meaning.specs.Time.{later_of, earlier_of}
use Rattle.meaning.specs.Meaning.{and_of, or_of, except_of, stage_from}

-- what a relation of times has to keep
pub record Kept (R : Time → Time → Type 0) : Type 0 where
  -- both needed
  pub later : {a a' b b' : Time} → R a a' → R b b' → R (later_of a b) (later_of a' b')
  -- either will do
  pub earlier : {a a' b b' : Time} → R a a' → R b b' → R (earlier_of a b) (earlier_of a' b')
  -- none
  pub never : R Never Never

-- related in occurrence and in failure
abbrev pub Related : (Time → Time → Type 0) → Times → Times → Type 0
Related R a b = R a.occurs b.occurs × R a.fails b.fails

module _ (R : Time → Time → Type 0) (kept : Kept R) where
  -- and
  pub and-related : (a a' b b' : Times) → Related R a a' → Related R b b' → Related R (and_of a b) (and_of a' b')
  unfolding and_of
  and-related a a' b b' p q = (kept.later p.0 q.0, kept.earlier p.1 q.1)

  -- or
  pub or-related : (a a' b b' : Times) → Related R a a' → Related R b b' → Related R (or_of a b) (or_of a' b')
  unfolding or_of
  or-related a a' b b' p q = (kept.earlier p.0 q.0, kept.later p.1 q.1)

  -- except
  pub except-related : (a a' b b' : Times) → Related R a a' → Related R b b' → Related R (except_of a b) (except_of a' b')
  unfolding except_of
  except-related a a' b b' p q = (kept.later p.0 q.1, kept.earlier p.1 q.0)

  -- what brings a stage about
  pub stage-related : (c c' r r' u u' : Times) → Related R c c' → Related R r r' → Related R u u'
      → (s : Stage) (type : NormType) → R (stage_from s type c r u) (stage_from s type c' r' u')
  unfolding stage_from
  stage-related c c' r r' u u' p q v = go
    where
      cr : Related R (and_of c r) (and_of c' r')
      cr = and-related c c' r r' p q

      go : (s : Stage) (type : NormType) → R (stage_from s type c r u) (stage_from s type c' r' u')
      go Created type = p.0
      go Detached type = cr.0
      go Expired type = (except-related c c' r r' p q).0
      go Discharged Commitment = (or-related _ _ _ _ (and-related c c' u u' p v) (and-related r r' u u' q v)).0
      go Discharged Authorization = (and-related _ _ u u' cr v).0
      go Discharged Prohibition = (except-related _ _ u u' cr v).0
      go Discharged Power = (and-related _ _ u u' cr v).0
      go Violated Commitment = (except-related _ _ u u' cr v).0
      go Violated Authorization = kept.never
      go Violated Prohibition = (and-related _ _ u u' cr v).0
      go Violated Power = kept.never
