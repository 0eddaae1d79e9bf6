-- The item of a leaf at a place, by the bytes that the code reads.
--     happening-here, count-here                  what the items 03 and 08 stand for
--     happening-wrong-here, count-wrong-here      refusal 3 of them
--     count-as, happening-as, wrong-…             by the item byte
--     untyped                                     and of the type of an item 02, by its byte
-- Assumes nothing.
use Prim.Native.Nat.{ℕ, zero, suc, ◌+◌}
use native.Mathlib.Omega.{arith}
use mathlib.Core.Path.{◌≡◌, refl, sym, ◌∙◌}
use mathlib.Core.Bool.{◌||◌}
use mathlib.Core.List.{List}
use mathlib.Core.Logic.{◌⊎◌, inl, inr}
use mathlib.Core.Option.{Option, none, some, bind}
use lib.Dec.{leb, ltb, eqb, eqb-suc-zero}
use lib.ListN.{length, take, drop}
use borrow.Author.Tests.{lt-ltb}
use Rattle.std.specs.Prelude as std
use Rattle.meaning.specs.declared.NormType.{NormType}
use Rattle.meaning.specs.declared.NormType.TheVariants.{Commitment, Authorization, Prohibition, Power}
use Rattle.meaning.specs.declared.NotANormType.{NotANormType}
use Rattle.meaning.specs.NormTypes.{NormTypes}
use Rattle.meaning.specs.declared.Atom.{Atom}
use Rattle.meaning.specs.declared.Atom.TheVariants.{Happens, Counts}
use Rattle.meaning.specs.Terms.{Terms}
use Rattle.format.specs.Bytes.{byte_at, number_at}
use Rattle.format.specs.Fields.{event_of, bound_of, happening_of, count_of, leaf_of, neither, leaf_from, event_wrong, bound_wrong, happening_wrong, count_wrong, leaf_wrong}
use Rattle.format.proofs.PlaceLaws.{byte-within, number-within, byte-first, bound-here, bound-wrong-here}
use Rattle.grammar.specs.declared.Item.{Item}
use Rattle.grammar.specs.declared.Item.TheVariants.{Leaf, Count}
use Rattle.fields.specs.Decoded.{decoded, LeafAt, leaf_item}

module _ (s : List ℕ) (at : ℕ) where
  -- an item 03
  pub happening-here : happening_of (take 17 (drop at s))
      ≡ bind (event_of (byte_at s (at + 1)) (byte_at s (at + 2))) λ e. bind (bound_of s (at + 3)) λ l. bind (bound_of s (at + 10)) λ u.
      some (Happens (record { event = e; lower = l; upper = u }))
  unfolding happening_of
  happening-here =
      rw (byte-within s at 1 17 (omega arith), byte-within s at 2 17 (omega arith), bound-here s at 3 17 (omega arith), bound-here s at 10 17 (omega arith))

  -- an item 08
  pub count-here : count_of (take 20 (drop at s))
      ≡ bind (bound_of s (at + 6)) λ l. bind (bound_of s (at + 13)) λ u.
      some (Counts (record { kind = byte_at s (at + 1); threshold = number_at 4 s (at + 2); lower = l; upper = u }))
  unfolding count_of
  count-here =
      simp (byte-within s at 1 20 (omega arith), number-within 4 s at 2 20 (omega arith), bound-here s at 6 20 (omega arith), bound-here s at 13 20 (omega arith))

  -- what is decoded of a leaf, or what stands for one that cannot be
  or-neither : (o : std.Option Atom) {m : Option Atom} → decoded o ≡ m → std.unwrap_or o neither ≡ (elim m [ none ↦ neither | some x ↦ x ])
  or-neither std.None e = rw (← e)
  or-neither (std.Some x) e = rw (← e)

  -- what an item 08 stands for, by its item byte
  pub count-as : {item : Item} (o : std.Option Atom) → LeafAt s at item → item ≡ Count → decoded o ≡ count_of (take 20 (drop at s))
      → std.unwrap_or o neither ≡ leaf_from (leaf_item s at item)
  unfolding leaf_from leaf_of
  count-as o h e d = rw e (let b : 8 ≡ byte_at s at = rw e at h.1 in rw (leaf_from, byte-first s at 20 (omega arith) ∙ sym b) (or-neither o d))

  -- and an item 03
  pub happening-as : {item : Item} (o : std.Option Atom) → LeafAt s at item → (item ≡ Count → ⊥) → decoded o ≡ happening_of (take 17 (drop at s))
      → std.unwrap_or o neither ≡ leaf_from (leaf_item s at item)
  unfolding leaf_from leaf_of
  happening-as {item} o h other d = go h.0
    where
      go : (item ≡ Leaf) ⊎ (item ≡ Count) → std.unwrap_or o neither ≡ leaf_from (leaf_item s at item)
      go (inl e) = rw e (let b : 3 ≡ byte_at s at = rw e at h.1 in rw (leaf_from, byte-first s at 17 (omega arith) ∙ sym b) (or-neither o d))
      go (inr e) = absurd (other e)

module _ (terms : Terms) (s : List ℕ) (at : ℕ) where
  -- refusal 3 of an item 03
  pub happening-wrong-here : happening_wrong terms (take 17 (drop at s))
      ≡ (event_wrong terms (byte_at s (at + 1)) (byte_at s (at + 2)) || eqb (byte_at s (at + 3)) 3 || bound_wrong terms s (at + 3) || bound_wrong terms s (at + 10))
  unfolding happening_wrong
  happening-wrong-here =
      rw (
        byte-within s at 1 17 (omega arith),
        byte-within s at 2 17 (omega arith),
        byte-within s at 3 17 (omega arith),
        bound-wrong-here terms s at 3 17 (omega arith),
        bound-wrong-here terms s at 10 17 (omega arith),
      )

  -- and of an item 08
  pub count-wrong-here : count_wrong terms (take 20 (drop at s))
      ≡ (leb (length terms.kinds) (byte_at s (at + 1)) || eqb (byte_at s (at + 6)) 3 || bound_wrong terms s (at + 6) || eqb (byte_at s (at + 13)) 3 || bound_wrong terms s (at + 13))
  unfolding count_wrong
  count-wrong-here =
      simp (
        byte-within s at 1 20 (omega arith),
        byte-within s at 6 20 (omega arith),
        byte-within s at 13 20 (omega arith),
        bound-wrong-here terms s at 6 20 (omega arith),
        bound-wrong-here terms s at 13 20 (omega arith),
      )

  -- refusal 3 of an item 08 by its item byte, and of an item 03
  pub wrong-count : {item : Item} → LeafAt s at item → item ≡ Count → leaf_wrong terms (leaf_item s at item) ≡ count_wrong terms (take 20 (drop at s))
  unfolding leaf_wrong
  wrong-count h e = rw e (let b : 8 ≡ byte_at s at = rw e at h.1 in rw (byte-first s at 20 (omega arith) ∙ sym b))

  pub wrong-happening : {item : Item} → LeafAt s at item → (item ≡ Count → ⊥) → leaf_wrong terms (leaf_item s at item) ≡ happening_wrong terms (take 17 (drop at s))
  unfolding leaf_wrong
  wrong-happening {item} h other = go h.0
    where
      go : (item ≡ Leaf) ⊎ (item ≡ Count) → leaf_wrong terms (leaf_item s at item) ≡ happening_wrong terms (take 17 (drop at s))
      go (inl e) = rw e (let b : 3 ≡ byte_at s at = rw e at h.1 in rw (byte-first s at 17 (omega arith) ∙ sym b))
      go (inr e) = absurd (other e)

-- a byte that names no norm type is 0, or past the last one
pub untyped : (byte : ℕ) (r : std.Result NormType NotANormType) → NormTypes byte r → std.is_err r ≡ (eqb byte 0 || ltb 4 byte)
untyped byte (std.Ok Commitment) h = rw (sym h)
untyped byte (std.Ok Authorization) h = rw (sym h)
untyped byte (std.Ok Prohibition) h = rw (sym h)
untyped byte (std.Ok Power) h = rw (sym h)
untyped zero (std.Err e) h = refl
untyped (suc n) (std.Err e) h = rw (eqb-suc-zero n) (sym (lt-ltb 4 (suc n) (omega (arith, h.1 (omega arith)))))
