-- The fields of terms: what the bodies stand for, and refusals 3, 4 and 5, each over the whole file.
-- Document 01, 'Terms and log', 'Terms items' and 'Citation'; refusals 3, 4 and 5 of the table; document 02, wish 1. Assumes nothing: these are definitions.
use Rattle.std.specs.Prelude.{ℕ, ◌+◌, ◌*◌, Bool, true, false, cond, not, ◌&&◌, ◌||◌, List, [], map, leb, ltb, eqb, length, get_or, drop, Option as CodeOption, Some, None}
use Rattle.std.proofs.Math.Option.{Option, none, some, bind}
use Rattle.meaning.specs.declared.Stage.{Stage}
use Rattle.meaning.specs.declared.NormType.{NormType}
use Rattle.meaning.specs.declared.NormType.TheVariants.{Commitment, Authorization, Prohibition, Power}
use Rattle.meaning.specs.declared.Event.{Event}
use Rattle.meaning.specs.declared.Event.TheVariants.{Kind, StageOf}
use Rattle.meaning.specs.declared.Bound.{Bound}
use Rattle.meaning.specs.declared.Bound.TheVariants.{Plain, Plus, Minus, Open}
use Rattle.meaning.specs.declared.Atom.{Atom}
use Rattle.meaning.specs.declared.Atom.TheVariants.{Happens, Counts}
use Rattle.meaning.specs.Lists.{numbers_from, any_of}
use Rattle.meaning.specs.Stages.{stage_of}
use Rattle.meaning.specs.Terms.{EventKind, Expr, leaf, and, or, except, always, Schema, Terms, kind_at, schema_at, kind_of, rank, leaves, leaf_events}
use Rattle.meaning.specs.Log.{carries, both_carry, attributes}
use Rattle.format.specs.Bytes.{byte_at, number_at}
use Rattle.format.specs.Grammar.{SchemaItems, TermsFile, read_expr, file_of}

-- an event kind from its body (item 01)
unfoldable pub kind_from : List ℕ → EventKind
kind_from body = record { mask = number_at 2 body 1; key = byte_at body 3 }

-- the norm type of a byte (item 02); a byte that names none, which refusal 3 turns away, is read as a power
unfoldable pub norm_type_of : ℕ → NormType
norm_type_of n = cond (eqb n 1) Commitment (cond (eqb n 2) Authorization (cond (eqb n 3) Prohibition Power))

-- a stage's event, if the form names a stage (item 03, forms 1 to 5)
unfoldable pub stage_event : CodeOption Stage → ℕ → Option Event
stage_event (Some s) number = some (StageOf s number)
stage_event None number = none

-- an event from its form and number (item 03)
unfoldable pub event_of : ℕ → ℕ → Option Event
event_of form number = cond (eqb form 0) (some (Kind number)) (stage_event (stage_of form) number)

-- a bound from its place in the item (item 03, signs 0 to 3; item 08)
unfoldable pub bound_of : List ℕ → ℕ → Option Bound
bound_of s at =
    let sign = byte_at s at in
    let event = event_of (byte_at s (at + 1)) (byte_at s (at + 2)) in
    let offset = number_at 4 s (at + 3) in
    cond (eqb sign 0) (some (Plain offset))
    (cond (eqb sign 1) (bind event λ e. some (Plus e offset))
    (cond (eqb sign 2) (bind event λ e. some (Minus e offset))
    (cond (eqb sign 3) (some Open)
    none)))

-- an event in a window, from the item (item 03)
unfoldable pub happening_of : List ℕ → Option Atom
happening_of item =
    bind (event_of (byte_at item 1) (byte_at item 2)) λ e.
    bind (bound_of item 3) λ l.
    bind (bound_of item 10) λ u.
    some (Happens (record { event = e; lower = l; upper = u }))

-- a count of records in a window, from the item (item 08)
unfoldable pub count_of : List ℕ → Option Atom
count_of item =
    bind (bound_of item 6) λ l.
    bind (bound_of item 13) λ u.
    some (Counts (record { kind = byte_at item 1; threshold = number_at 4 item 2; lower = l; upper = u }))

-- a leaf from its item, by its byte (items 03 and 08)
unfoldable pub leaf_of : List ℕ → Option Atom
leaf_of item = cond (eqb (byte_at item 0) 8) (count_of item) (happening_of item)

-- stands in for a leaf whose form or sign names nothing, which is refused 3: it never occurs, since an open lower bound lets nothing in, and never
-- fails, since an open upper one is not reached and nothing is before an open lower one
unfoldable pub neither : Atom
neither = Happens (record { event = Kind 0; lower = Open; upper = Open })

-- the leaf that an item stands for (items 03 and 08); neither, where the form of an event or a sign names nothing
unfoldable pub leaf_from : List ℕ → Atom
leaf_from item = elim (leaf_of item) [ none ↦ neither | some x ↦ x ]

-- the expression that items stand for (items 03 to 08)
unfoldable pub expr_from : Expr (List ℕ) → Expr Atom
expr_from (leaf item) = leaf (leaf_from item)
expr_from (and a b) = and (expr_from a) (expr_from b)
expr_from (or a b) = or (expr_from a) (expr_from b)
expr_from (except a b) = except (expr_from a) (expr_from b)
expr_from always = always

-- the expression of at most so many items at a place of the terms; where none is read, the leaf that neither occurs nor fails (items 03 to 08)
unfoldable pub expr_at : List ℕ → ℕ → ℕ → Expr Atom
expr_at s at items = elim (read_expr items items (drop at s)) [ none ↦ leaf neither | some found ↦ expr_from found.0 ]

-- a schema from its items (item 02)
unfoldable pub schema_from : SchemaItems → Schema
schema_from x = record {
  type = norm_type_of (byte_at x.head 0);
  subject = byte_at x.head 1;
  privileged = byte_at x.head 2;
  liable = byte_at x.head 3;
  create = expr_from x.create;
  detach = expr_from x.detach;
  consequent = expr_from x.consequent;
}

-- the terms that a file stands for (Terms items)
unfoldable pub terms_from : TermsFile → Terms
terms_from file = record { kinds = map kind_from file.kinds; schemas = map schema_from file.schemas }

-- the terms that bytes stand for (Terms items)
unfoldable pub terms_of : List ℕ → Terms
terms_of terms = terms_from (file_of terms)

-- a required zero is not zero (table, 3)
unfoldable pub not_zero : ℕ → Bool
not_zero n = not (eqb n 0)

-- the largest offset (table, 3)
unfoldable pub offset_limit : ℕ
offset_limit = 2147483647

-- refusal 3 at an item 01: its number, its mask, its key
unfoldable pub kind_wrong : ℕ → List ℕ → Bool
kind_wrong i body =
    let kind = kind_from body in
    not (eqb (byte_at body 0) i) || eqb kind.mask 0 || not (carries kind.mask kind.key)

-- refusal 3 at an item 02: its type, its subject kind, its parties
unfoldable pub head_wrong : Terms → List ℕ → Bool
head_wrong terms head =
    let mask = (kind_at terms (byte_at head 1)).mask in
    eqb (byte_at head 0) 0 || ltb 4 (byte_at head 0) || leb (length terms.kinds) (byte_at head 1)
    || not (carries mask (byte_at head 2)) || not (carries mask (byte_at head 3))

-- refusal 3 at an event; a stage of a schema that is not there falls under 4
unfoldable pub event_wrong : Terms → ℕ → ℕ → Bool
event_wrong terms form number = ltb 5 form || (eqb form 0 && leb (length terms.kinds) number)

-- refusal 3 at a bound, sign by sign
unfoldable pub bound_wrong : Terms → List ℕ → ℕ → Bool
bound_wrong terms s at =
    let sign = byte_at s at in
    let form = byte_at s (at + 1) in
    let number = byte_at s (at + 2) in
    let offset = number_at 4 s (at + 3) in
    cond (eqb sign 0) (not_zero form || not_zero number || ltb offset_limit offset)
    (cond (eqb sign 1) (event_wrong terms form number || ltb offset_limit offset)
    (cond (eqb sign 2) (event_wrong terms form number || ltb offset_limit offset)
    (cond (eqb sign 3) (not_zero form || not_zero number || not_zero offset)
    true)))

-- refusal 3 at an item 03; a lower bound is not open
unfoldable pub happening_wrong : Terms → List ℕ → Bool
happening_wrong terms item =
    event_wrong terms (byte_at item 1) (byte_at item 2)
    || eqb (byte_at item 3) 3 || bound_wrong terms item 3
    || bound_wrong terms item 10

-- refusal 3 at an item 08: a declared kind, any threshold, and no bound is open
unfoldable pub count_wrong : Terms → List ℕ → Bool
count_wrong terms item =
    leb (length terms.kinds) (byte_at item 1)
    || eqb (byte_at item 6) 3 || bound_wrong terms item 6
    || eqb (byte_at item 13) 3 || bound_wrong terms item 13

-- refusal 3 at a leaf, by its byte
unfoldable pub leaf_wrong : Terms → List ℕ → Bool
leaf_wrong terms item = cond (eqb (byte_at item 0) 8) (count_wrong terms item) (happening_wrong terms item)

-- refusal 3 at a schema, its leaves included
unfoldable pub schema_wrong : Terms → SchemaItems → Bool
schema_wrong terms x =
    head_wrong terms x.head
    || any_of (leaf_wrong terms) (leaves x.create)
    || any_of (leaf_wrong terms) (leaves x.detach)
    || any_of (leaf_wrong terms) (leaves x.consequent)

-- refusal 3 at some item 01, each with its number
unfoldable pub kinds_wrong : TermsFile → Bool
kinds_wrong file = any_of (λ i. kind_wrong i (get_or file.kinds i [])) (numbers_from 0 (length file.kinds))

-- refusal 3 anywhere in the file (table, 3)
unfoldable pub field_wrong : TermsFile → Bool
field_wrong file = kinds_wrong file || any_of (schema_wrong (terms_from file)) file.schemas

-- whether an event cites a stage that does not rank below k (Citation)
unfoldable pub cites_from : ℕ → Event → Bool
cites_from k (Kind n) = false
cites_from k (StageOf s j) = leb k (rank s j)

-- whether an event's kind and the subject kind have no attribute in common (table, 5)
unfoldable pub shares_none : Terms → ℕ → Event → Bool
shares_none terms subject e =
    not (any_of (both_carry (kind_at terms (kind_of terms e)).mask (kind_at terms subject).mask) (numbers_from 0 attributes))

-- whether some event of an expression, in a leaf or in a bound, passes a test
unfoldable pub any_event : (Event → Bool) → Expr Atom → Bool
any_event p x = any_of (λ l. any_of p (leaf_events l)) (leaves x)

-- refusal 4 at the schema with a number: some clause cites a stage that does not rank below it
unfoldable pub cites_too_high : Terms → ℕ → Bool
cites_too_high terms n =
    let x = schema_at terms n in
    any_event (cites_from (3 * n)) x.create
    || any_event (cites_from (3 * n + 1)) x.detach
    || any_event (cites_from (3 * n + 2)) x.consequent

-- refusal 4 (table, 4)
unfoldable pub citation_wrong : Terms → Bool
citation_wrong terms = any_of (cites_too_high terms) (numbers_from 0 (length terms.schemas))

-- refusal 5 at a schema: some event has nothing to correlate by
unfoldable pub unshared_in : Terms → Schema → Bool
unshared_in terms x =
    let none_shared = shares_none terms x.subject in
    any_event none_shared x.create || any_event none_shared x.detach || any_event none_shared x.consequent

-- refusal 5 (table, 5)
unfoldable pub unshared_event : Terms → Bool
unshared_event terms = any_of (unshared_in terms) terms.schemas
