-- The signs of a bound by their bytes, and what a decoded event, bound or expression stands for in the model. Assumes nothing: these are definitions.
use Rattle.std.specs.Prelude.{ℕ, suc, ◌+◌, ◌-◌, ◌≤◌, ◌<◌, ◌≡◌, ◌⊎◌, List, Option, Some, None, Result, MatchResult, length, take, drop}
use Rattle.std.proofs.Math.Option.{none, some}
use Rattle.std.proofs.Math.Option as model
use Rattle.meaning.specs.declared.Atom.{Atom}
use Rattle.meaning.specs.Terms.{Expr, leaf, and, or, except, always}
use Rattle.format.specs.Bytes.{byte_at}
use Rattle.format.specs.Fields.{neither, expr_at}
use Rattle.grammar.specs.declared.Item.{Item}
use Rattle.grammar.specs.declared.Item.TheVariants.{Leaf, Count}
use Rattle.grammar.specs.declared.Spot.{Spot}
use Rattle.grammar.specs.Items.{code_of, body_of}
use Rattle.fields.specs.declared.Sign.{Sign}
use Rattle.fields.specs.declared.Sign.TheVariants.{Plain, Plus, Minus, Open}
use Rattle.fields.specs.declared.UnknownSign.{UnknownSign}
use Rattle.fields.specs.declared.Expression.{Expression}
use Rattle.fields.specs.declared.Expression.TheVariants as expression

-- the byte of a sign (item 03, signs 0 to 3)
abbrev pub sign_byte : Sign → ℕ
sign_byte Plain = 0
sign_byte Plus = 1
sign_byte Minus = 2
sign_byte Open = 3

-- the sign with this byte, or an error with a byte that no sign has
abbrev pub Signs : ℕ → Result Sign UnknownSign → Type 0
Signs byte r = MatchResult r (λ sign. sign_byte sign ≡ byte) (λ e. (e.0 ≡ byte) × (byte ≤ 3 → ⊥))

-- what is decoded, as the model has it
abbrev pub decoded : {A : Type 0} → Option A → model.Option A
decoded (Some x) = some x
decoded None = none

-- the item of a leaf stands whole at a place: an item 03 or 08
abbrev pub LeafAt : List ℕ → ℕ → Item → Type 0
LeafAt s at item = ((item ≡ Leaf) ⊎ (item ≡ Count)) × (code_of item ≡ byte_at s at) × (at + suc (body_of item) ≤ length s)

-- its bytes
abbrev pub leaf_item : List ℕ → ℕ → Item → List ℕ
leaf_item s at item = take (suc (body_of item)) (drop at s)

-- a connective at a place inside the bytes: its operands stand at two spots, with fewer items each, the first right after its byte
abbrev pub JoinedAt : (Expr Atom → Expr Atom → Expr Atom) → List ℕ → Spot → Spot → Spot → Type 0
JoinedAt join s spot first second =
    (expr_at s spot.at spot.items ≡ join (expr_at s first.at first.items) (expr_at s second.at second.items))
    × (first.items < spot.items) × (second.items < spot.items)
    × (spot.at < length s) × (first ≡ record { at = spot.at + 1; items = spot.items - 1 })

-- what the model reads at a place, case by case
abbrev pub ExpressionAt : List ℕ → Spot → Option Expression → Type 0
ExpressionAt s spot (Some (expression.Leaf x)) = expr_at s spot.at spot.items ≡ leaf x
ExpressionAt s spot (Some (expression.And first second)) = JoinedAt and s spot first second
ExpressionAt s spot (Some (expression.Or first second)) = JoinedAt or s spot first second
ExpressionAt s spot (Some (expression.Except first second)) = JoinedAt except s spot first second
ExpressionAt s spot (Some expression.Always) = expr_at s spot.at spot.items ≡ always
ExpressionAt s spot None = expr_at s spot.at spot.items ≡ leaf neither
