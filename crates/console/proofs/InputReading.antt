-- What is read of an input part after part. Assumes nothing.
use Rattle.std.proofs.Common.{arith, ◌≡◌, ap, sym, ◌∙◌, ℕ, ◌+◌, ◌≤◌, List, ◌++◌, length, take, Some, None}
use Rattle.std.proofs.Math.Seq.{take-append-add}
use Rattle.std.proofs.lemmas.List.{append_assoc, length-append, length-take-le, take-append-le}
use Rattle.std.specs.Prelude.{Option}
use Rattle.std.specs.Io.KnownBytes.{Consumes}
use borrow.Rule.Slice.PartMut.{put_mid, post_of}

-- what is read after other bytes stands after them
pub reads-on : (a b c : Option (List ℕ)) (x y : List ℕ) → Consumes a b x → Consumes b c y → Consumes a c (x ++ y)
reads-on None b c x y h k = tt
reads-on (Some xs) None c x y h k = absurd h
reads-on (Some xs) (Some ys) None x y h k = absurd k
reads-on (Some xs) (Some ys) (Some zs) x y h k = h ∙ ap (λ (t : List ℕ). x ++ t) k ∙ sym (append_assoc x y zs)

-- the first bytes of a buffer, after more are put after those that stood there
pub filled-on : (filled count k : ℕ) (buffer more : List ℕ) → filled ≤ length buffer → count ≤ length more → take (filled + count) (put_mid filled k buffer more) ≡ take filled buffer ++ take count more
filled-on filled count k buffer more inside few =
    ap (λ (n : ℕ). take (n + count) (put_mid filled k buffer more)) (sym (length-take-le filled buffer inside))
    ∙ take-append-add (take filled buffer) (more ++ post_of filled k buffer) count
    ∙ ap (λ (t : List ℕ). take filled buffer ++ t) (take-append-le count more (post_of filled k buffer) few)

-- there is room for them
pub fits-on : (filled count k : ℕ) (buffer more : List ℕ) → filled ≤ length buffer → count ≤ length more → filled + count ≤ length (put_mid filled k buffer more)
fits-on filled count k buffer more inside few =
    omega (arith, length-append (take filled buffer) (more ++ post_of filled k buffer), length-append more (post_of filled k buffer), length-take-le filled buffer inside)
