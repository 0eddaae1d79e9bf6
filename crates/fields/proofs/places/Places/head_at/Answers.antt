-- `head_at` meets its contract: a schema's head stands inside the terms. Assumes nothing.
use Prim.Native.Nat.{ℕ, ◌-◌, ◌≤◌}
use native.Mathlib.Omega.{arith}
use mathlib.Core.Path.{ap}
use lib.ListN.{length}
use Rattle.fields.proofs.Schemas.{schemas_few, head-inside}
use Rattle.fields.proofs.places.Places.head_at.Goals.{After-start}
use Rattle.fields.proofs.places.Places.head_at.Goals as goal

-- the create clause starts after the head, inside the terms
inside : (c : After-start) → (4 ≤ c.start.result) × (c.start.result ≤ length c.args.self.terms.now)
inside c = rw c.start.ensures (head-inside _ _ _ c.args.self.placed.2 c.requires)

pub overflow_mul-schema : goal.overflow_mul-schema
overflow_mul-schema c = omega (arith, schemas_few c.args.self.terms.now, c.requires)

pub start-requires : goal.start-requires
start-requires c = omega (arith, schemas_few c.args.self.terms.now, c.requires)

pub overflow_sub-result : goal.overflow_sub-result
overflow_sub-result c = (inside c).0

pub returns : goal.returns
returns c = (ap (λ (n : ℕ). n - 4) c.start.ensures, omega (arith, inside c))
