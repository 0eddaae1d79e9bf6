-- `subject_of` meets its contract: the second byte of the head, or 0 past the last schema. Assumes nothing.
use Prim.Native.Nat.{◌<◌}
use native.Mathlib.Omega.{arith}
use mathlib.Core.Path.{sym}
use lib.ListN.{length}
use Rattle.format.specs.Bytes.{byte_at}
use Rattle.format.specs.Grammar.{file_of}
use Rattle.fields.proofs.Schemas.{subject-here, subject-past}
use Rattle.fields.proofs.places.Places.subject_of.Goals.{Else-self-schema}
use Rattle.fields.proofs.places.Places.subject_of.Goals as goal

-- the schema is there
there : (c : Else-self-schema) → c.args.schema < length (file_of c.args.self.terms.now).schemas
there c = omega (arith, c.args.self.placed.1)

pub returns-then-self-schema : goal.returns-then-self-schema
returns-then-self-schema c = sym (subject-past c.args.self.terms.now _ (omega (arith, c.args.self.placed.1)))

pub returns : goal.returns
unfolding byte_at
returns c = rw (subject-here _ _ _ c.args.self.placed.2 (there (goal.at.returns c).Else-self-schema), c.head_at.ensures.0)
