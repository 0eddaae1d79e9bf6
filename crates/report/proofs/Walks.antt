-- Walks over the numbers of schemas.
--     numbers-road, numbers-few    what such a walk gives, and that it ends soon
-- Assumes nothing.
use Prim.Native.Nat.{ℕ}
use native.Mathlib.Omega.{arith}
use mathlib.Core.Path.{◌≡◌}
use mathlib.Core.List.{List}
use lib.ListN.{length}
use Rattle.std.specs.declared.ops.Range.{Range}
use Rattle.std.specs.List.{range_with_len}
use Rattle.std.proofs.iter.Yields.{nat_range_steps}
use Rattle.std.proofs.lemmas.Iterator.{YieldsList, YieldsList-from_range}
use Rattle.std.proofs.lemmas.Iterator.Adapters.{YieldsAtMost, at_most_from_yields_List}
use Rattle.std.proofs.lemmas.List.FromFn.{length-range_with_len}
use Rattle.format.specs.Grammar.{schemas_limit, file_of}
use Rattle.format.proofs.GrammarLaws.{file-read}

module _ (n : ℕ) {s : Range ℕ} (e : s ≡ record { start = 0; end = n }) where
  -- what a walk over numbers gives
  pub numbers-road : YieldsList nat_range_steps (λ x. x) s (range_with_len 0 n)
  numbers-road = YieldsList-from_range 0 n n e (omega arith)

  -- there are few schemas
  pub numbers-few : (terms : List ℕ) → n ≡ length (file_of terms).schemas → YieldsAtMost nat_range_steps s 16
  unfolding schemas_limit
  numbers-few terms h = at_most_from_yields_List numbers-road (omega (arith, length-range_with_len 0 n, (file-read terms).2))
