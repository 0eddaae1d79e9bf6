-- The four types of norm and their numbers. Document 01, 'Terms and log', item 02. Assumes nothing: these are definitions.
use Rattle.std.specs.Prelude.{ℕ, ◌≡◌, ◌≤◌, Result, MatchResult}
use Rattle.meaning.specs.declared.NormType.{NormType}
use Rattle.meaning.specs.declared.NormType.TheVariants.{Commitment, Authorization, Prohibition, Power}
use Rattle.meaning.specs.declared.NotANormType.{NotANormType}

-- a norm type's number (item 02)
abbrev pub norm_type_number : NormType → ℕ
norm_type_number Commitment = 1
norm_type_number Authorization = 2
norm_type_number Prohibition = 3
norm_type_number Power = 4

-- the norm type with this number, or an error with a byte that no norm type has (item 02)
abbrev pub NormTypes : ℕ → Result NormType NotANormType → Type 0
NormTypes byte r = MatchResult r (λ type. norm_type_number type ≡ byte) (λ e. (e.0 ≡ byte) × (1 ≤ byte → byte ≤ 4 → ⊥))
