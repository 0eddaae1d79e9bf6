-- What is read at a clause's start is the clause of the terms: evaluation goes by the starts alone.
--     create-here, detach-here, consequent-here     the expression at each of the three starts of a schema
-- Assumes nothing.
use Prim.Native.Nat.{ℕ, ◌+◌, ◌*◌, ◌<◌}
use mathlib.Core.Path.{◌≡◌}
use mathlib.Core.List.{List}
use lib.ListN.{length, get_or}
use Rattle.meaning.specs.Terms.{schema_at}
use Rattle.format.specs.Grammar.{expr_limit, file_of}
use Rattle.format.specs.Fields.{schema_from, expr_at, terms_of}
use Rattle.format.proofs.ExprLaws.{expr-clause}
use Rattle.grammar.specs.Places.{Starts}
use Rattle.fields.proofs.Schemas.{schema-here}

module _ (s starts : List ℕ) (n : ℕ) (laid : Starts s (file_of s).schemas starts) (h : n < length (file_of s).schemas) where
  -- the clause c
  pub create-here : expr_at s (get_or starts (3 * n) 0) expr_limit ≡ (schema_at (terms_of s) n).create
  unfolding schema_from
  create-here = rw (schema-here s n h) (expr-clause s _ _ _ (laid n h).1.create_read)

  -- the clause r
  pub detach-here : expr_at s (get_or starts (3 * n + 1) 0) expr_limit ≡ (schema_at (terms_of s) n).detach
  unfolding schema_from
  detach-here = rw (schema-here s n h) (expr-clause s _ _ _ (laid n h).1.detach_read)

  -- the clause u
  pub consequent-here : expr_at s (get_or starts (3 * n + 2) 0) expr_limit ≡ (schema_at (terms_of s) n).consequent
  unfolding schema_from
  consequent-here = rw (schema-here s n h) (expr-clause s _ _ _ (laid n h).1.consequent_read)
