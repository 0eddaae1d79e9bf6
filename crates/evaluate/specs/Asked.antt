-- The model's meaning of what is asked for a clause. Assumes nothing: these are definitions.
use Rattle.std.specs.Prelude.{ℕ, ◌+◌, ◌*◌, ◌≡◌, true, ⊤, Option, Some, None}
use Rattle.meaning.specs.declared.Time.{Time}
use Rattle.meaning.specs.declared.Time.TheVariants.{Never}
use Rattle.meaning.specs.declared.Leaf.{Leaf}
use Rattle.meaning.specs.Terms.{Terms}
use Rattle.meaning.specs.Log.{Record, Log}
use Rattle.meaning.specs.Meaning.{StageTimes, comes_once, first, known, early_failure}
use Rattle.accepted.specs.declared.Subject.{Subject}
use Rattle.evaluate.specs.declared.Known.{Known}
use Rattle.evaluate.specs.declared.Happened.{Happened}
use Rattle.evaluate.specs.Seen.{under, known_as}
use Rattle.evaluate.specs.declared.clause.Clause.{Clause}
use Rattle.evaluate.specs.declared.clause.Clauses.{Clauses}

-- a rule of the meaning, for a clause and its subject
abbrev pub asked : {A : Type 0} → (StageTimes → Terms → Log → Record → A) → Clause → A
asked rule c = under rule c.subject.call.now.terms.now c.subject.call.now.bytes.now c.rank c.subject.at

-- the three clauses of a schema, in rank (Citation)
abbrev pub ClausesOf : Subject → ℕ → Clauses → Type 0
ClausesOf s j c =
    ((c.create.subject ≡ s) × (c.create.rank ≡ 3 * j))
    × ((c.detach.subject ≡ s) × (c.detach.rank ≡ 3 * j + 1))
    × ((c.consequent.subject ≡ s) × (c.consequent.rank ≡ 3 * j + 2))

-- what is known of a leaf's event beforehand. None: the leaf does not fail early. Some: the event comes once, and this is its time, or never
abbrev pub OnlyOf : Clause → Leaf → Option Time → Type 0
OnlyOf c x None = asked early_failure c x ≡ Never
OnlyOf c x (Some t) = (asked (λ times terms log subject. comes_once terms subject x.event) c ≡ true) × (t ≡ asked first c x.event)

-- what is known of a leaf's lower bound beforehand. None: nothing. Some: this is that bound, or that it is unknown
abbrev pub LowerOf : Clause → Leaf → Option (Option Known) → Type 0
LowerOf c x None = ⊤
LowerOf c x (Some bound) = bound ≡ known_as x.lower (asked known c x.lower)

-- what is known of an event's earliest happening beforehand. None: nothing. Some: this is its time, or that it never happens
abbrev pub HappenedOf : Clause → Option Happened → Type 0
HappenedOf c None = ⊤
HappenedOf c (Some h) = h.first ≡ asked first c h.event
