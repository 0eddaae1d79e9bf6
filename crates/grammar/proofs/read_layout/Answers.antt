-- `read_layout` meets its contract: so many schemas are read after the kinds, and their clauses start where they are put down. Assumes nothing.
use Prim.Native.Nat.{ℕ, ◌*◌, ◌≤◌}
use native.Mathlib.Omega.{arith}
use mathlib.Core.Path.{◌≡◌, refl, sym}
use mathlib.Core.List.{List, [], ◌∷◌, ◌++◌}
use lib.ListN.{length, drop, length-append, length-set}
use Rattle.format.specs.Bytes.{many, item}
use Rattle.format.specs.Grammar.{SchemaItems, kinds_limit, schemas_limit, read_schema, file_of}
use Rattle.format.proofs.ReaderLaws.{so-far-step, so-far-none, so-far-full}
use Rattle.grammar.specs.declared.Layout.{Layout}
use Rattle.grammar.specs.Places.{Starts, LaidOut}
use Rattle.grammar.proofs.Steps.{starts-step}
use Rattle.grammar.proofs.read_layout.Goals as goal

-- the layout, once all is read
laid_out : (s : List ℕ) (p : Layout) (kinds : ℕ) (done : List SchemaItems)
    → (kinds ≡ length (file_of s).kinds) × (drop (5 * kinds) s ≡ (many (item 1 4) kinds_limit s).1) × (5 * kinds ≤ length s)
    → length done ≡ p.schemas → p.kinds ≡ kinds → p.rest ≤ length s → Starts s done p.starts
    → many read_schema schemas_limit (drop (5 * kinds) s) ≡ (done, drop p.rest s) → LaidOut s p
unfolding file_of
laid_out s p kinds done k e g h f whole =
    let all = rw k.1 at whole in
    record { placed = (rw g k.0, rw all (sym e), rw all f); rest_read = rw all (refl, h) }

pub returns-in_default : goal.returns-in_default
returns-in_default c =
    let s = c.args.s.now in
    let p = c.loop-n.layout in
    let i = c.loop-n.invariant in
    let last = so-far-none read_schema schemas_limit (drop (5 * c.count_kinds-kinds.result) s) i.0 (drop p.rest s) c.in_default.ensures i.2 in
    laid_out s p c.count_kinds-kinds.result i.0 c.count_kinds-kinds.ensures (omega arith) i.5 i.3 i.7 last

pub loop-n-preserved : goal.loop-n-preserved
unfolding schemas_limit
loop-n-preserved c =
    let s = c.args.s.now in
    let i = c.loop-n.invariant in
    let p = c.in-Some.found in
    let found = c.in-Some.ensures in (
      i.0 ++ (found.0 ∷ []),
      simp length-append (omega arith),
      so-far-step read_schema schemas_limit (drop (5 * c.count_kinds-kinds.result) s) i.0 (drop c.loop-n.layout.rest s) (omega arith) found.1 i.2,
      found.2.inside,
      refl,
      i.5,
      simp length-set i.6,
      starts-step s i.0 c.loop-n.layout.starts found.0 c.loop-n.n p.create p.detach p.consequent p.end i.1 (omega arith) found.2 i.7,
    )

pub returns : goal.returns
unfolding schemas_limit
returns c =
    let s = c.args.s.now in
    let p = c.loop-n.layout in
    let i = c.loop-n.invariant in
    let last = so-far-full read_schema schemas_limit (drop (5 * c.count_kinds-kinds.result) s) i.0 (drop p.rest s) (omega arith) i.2 in
    laid_out s p c.count_kinds-kinds.result i.0 c.count_kinds-kinds.ensures (omega arith) i.5 i.3 i.7 last
