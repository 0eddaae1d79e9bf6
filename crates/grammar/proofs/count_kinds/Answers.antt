-- `count_kinds` meets its contract: so many items 01 are read, each of five bytes. Assumes nothing.
use Prim.Native.Nat.{ℕ, ◌+◌, ◌*◌, ◌≤◌}
use native.Mathlib.Omega.{arith}
use mathlib.Core.Path.{◌≡◌, refl, sym}
use mathlib.Core.List.{List, [], ◌∷◌, ◌++◌}
use lib.ListN.{length, drop, length-append}
use Rattle.format.specs.Bytes.{many, item}
use Rattle.format.specs.Grammar.{kinds_limit, file_of}
use Rattle.format.proofs.ReaderLaws.{so-far-step, so-far-none, so-far-full}
use Rattle.grammar.proofs.Steps.{item-ends}
use Rattle.grammar.proofs.count_kinds.Goals as goal

-- the count, once all is read
counted : (s : List ℕ) (n : ℕ) (done : List (List ℕ)) → length done ≡ n → 5 * n ≤ length s → many (item 1 4) kinds_limit s ≡ (done, drop (5 * n) s)
    → (n ≡ length (file_of s).kinds) × (drop (5 * n) s ≡ (many (item 1 4) kinds_limit s).1) × (5 * n ≤ length s)
unfolding file_of
counted s n done e h f = rw f (sym e, refl, h)

pub returns-in_default : goal.returns-in_default
returns-in_default c =
    let s = c.args.s.now in
    let n = c.loop-n.n in
    let i = c.loop-n.invariant in
    counted s n i.0 i.1 i.3 (so-far-none (item 1 4) kinds_limit s i.0 (drop (5 * n) s) c.in_default.ensures i.2)

pub loop-n-preserved : goal.loop-n-preserved
unfolding kinds_limit
loop-n-preserved c =
    let s = c.args.s.now in
    let n = c.loop-n.n in
    let i = c.loop-n.invariant in
    let found = c.in-Some.ensures in
    let place : 5 * (n + 1) ≡ c.in-Some.field-0 = omega (arith, (item-ends 1 4 s (5 * n) c.in-Some.field-0 found.1 found.3).0) in
    (i.0 ++ (found.0 ∷ []), simp length-append (omega arith), rw place (so-far-step (item 1 4) kinds_limit s i.0 (drop (5 * n) s) (omega arith) found.1 i.2), omega arith)

pub returns : goal.returns
unfolding kinds_limit
returns c =
    let s = c.args.s.now in
    let i = c.loop-n.invariant in
    let all : c.loop-n.n ≡ 32 = omega arith in
    let whole = counted s c.loop-n.n i.0 i.1 i.3 (so-far-full (item 1 4) kinds_limit s i.0 (drop (5 * c.loop-n.n) s) (omega arith) i.2) in
    rw all at whole
