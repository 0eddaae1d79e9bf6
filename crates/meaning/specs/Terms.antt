-- Terms: the event kinds and norm schemas that accepted bytes stand for. Nothing here knows of bytes or lengths.
-- Document 01, 'Terms and log', 'Terms items', 'Grammar' and 'Citation'; document 02, wish 1. Assumes nothing: these are definitions.
use Rattle.std.specs.Prelude.{ℕ, ◌+◌, ◌*◌, List, [], ◌∷◌, ◌++◌, get_or}
use Rattle.meaning.specs.declared.Stage.{Stage}
use Rattle.meaning.specs.declared.Stage.TheVariants.{Created, Detached, Expired, Discharged, Violated}
use Rattle.meaning.specs.declared.NormType.{NormType}
use Rattle.meaning.specs.declared.NormType.TheVariants.{Commitment}
use Rattle.meaning.specs.declared.Event.{Event}
use Rattle.meaning.specs.declared.Event.TheVariants.{Kind, StageOf}
use Rattle.meaning.specs.declared.Bound.{Bound}
use Rattle.meaning.specs.declared.Bound.TheVariants.{Plain, Plus, Minus, Open}
use Rattle.meaning.specs.declared.Atom.{Atom}
use Rattle.meaning.specs.declared.Atom.TheVariants.{Happens, Counts}

-- an event kind (item 01)
pub record EventKind : Type 0 where
  -- bit a is set where the kind carries the attribute a
  pub mask : ℕ
  -- the key attribute
  pub key : ℕ

-- an expression over leaves of type A (items 03 to 08)
pub data Expr (A : Type 0) : Type 0 where
  leaf : A → Expr A
  and or except : Expr A → Expr A → Expr A
  always : Expr A
  -- over a set it is a set
  deriving IsSet as Expr-set

-- a norm schema (item 02 and the three expressions that follow it)
pub record Schema : Type 0 where
  -- commitment, authorization, prohibition or power
  pub type : NormType
  -- the kind of its subjects
  pub subject : ℕ
  -- the attribute of the privileged party
  pub privileged : ℕ
  -- the attribute of the liable party
  pub liable : ℕ
  -- the clause c
  pub create : Expr Atom
  -- the clause r
  pub detach : Expr Atom
  -- the clause u
  pub consequent : Expr Atom

-- terms (Grammar): kinds and schemas, each identified by its place
pub record Terms : Type 0 where
  -- the items 01, in file order
  pub kinds : List EventKind
  -- the schemas, in file order
  pub schemas : List Schema

-- the kind with a number (item 01); past the last one a kind that carries nothing
unfoldable pub kind_at : Terms → ℕ → EventKind
kind_at terms k = get_or terms.kinds k (record { mask = 0; key = 0 })

-- the schema with a number (item 03); past the last one a schema to which accepted terms never refer
unfoldable pub schema_at : Terms → ℕ → Schema
schema_at terms j = get_or terms.schemas j (record {
  type = Commitment;
  subject = 0;
  privileged = 0;
  liable = 0;
  create = always;
  detach = always;
  consequent = always;
})

-- the kind of the records by which an event happens (happenings; table, 5; wish 4)
unfoldable pub kind_of : Terms → Event → ℕ
kind_of terms (Kind k) = k
kind_of terms (StageOf s j) = (schema_at terms j).subject

-- a stage ranks with the last clause on which it depends (Citation)
unfoldable pub rank : Stage → ℕ → ℕ
rank Created j = 3 * j
rank Detached j = 3 * j + 1
rank Expired j = 3 * j + 1
rank Discharged j = 3 * j + 2
rank Violated j = 3 * j + 2

-- the leaves of an expression, from left to right (items 03 and 08)
unfoldable pub leaves : {A : Type 0} → Expr A → List A
leaves (leaf x) = x ∷ []
leaves (and a b) = leaves a ++ leaves b
leaves (or a b) = leaves a ++ leaves b
leaves (except a b) = leaves a ++ leaves b
leaves always = []

-- the event of a bound, if it has one (items 03 and 08)
unfoldable pub bound_events : Bound → List Event
bound_events (Plain n) = []
bound_events (Plus e n) = e ∷ []
bound_events (Minus e n) = e ∷ []
bound_events Open = []

-- the events to which a leaf refers, those of its bounds included (Citation; table, 5)
unfoldable pub leaf_events : Atom → List Event
leaf_events (Happens x) = x.event ∷ (bound_events x.lower ++ bound_events x.upper)
leaf_events (Counts x) = Kind x.kind ∷ (bound_events x.lower ++ bound_events x.upper)
