-- Schemas at their places: each one's head stands right before its create clause.
--     schemas_few                     there are at most 16
--     schema-there                    one below the count is there, and its clauses have ranks
--     head-inside                     where a schema's head stands
--     schema-here                     a schema that is there stands for its items
--     type-here, subject-here         its norm type and its subject kind, by the bytes of its head
--     subject-past                    past the last schema
-- Assumes nothing.
use Prim.Native.Nat.{ℕ, zero, suc, ◌+◌, ◌-◌, ◌*◌, ◌≤◌, ◌<◌}
use native.Mathlib.Omega.{arith}
use mathlib.Core.Path.{◌≡◌, refl, ap, ◌∙◌}
use mathlib.Core.List.{List, [], ◌∷◌, map}
use lib.ListN.{length, get_or, length-map, get_or-eq_default}
use Rattle.meaning.specs.Terms.{Schema, schema_at}
use Rattle.format.specs.Bytes.{byte_at}
use Rattle.format.specs.Grammar.{schemas_limit, file_of}
use Rattle.format.specs.Fields.{norm_type_of, schema_from, terms_from, terms_of}
use Rattle.format.proofs.GrammarLaws.{file-read}
use Rattle.format.proofs.PlaceLaws.{byte-within}
use Rattle.grammar.specs.Places.{no_items, Starts}

-- an element that is there, in another form, whatever stands for those that are not
get_or-map-in : {A B : Type 0} (f : A → B) (l : List A) (n : ℕ) (d : B) (e : A) → n < length l → get_or (map f l) n d ≡ f (get_or l n e)
get_or-map-in f [] n d e h = absurd (omega arith)
get_or-map-in f (x ∷ l) zero d e h = refl
get_or-map-in f (x ∷ l) (suc n) d e h = get_or-map-in f l n d e (omega arith)

-- a schema below the count is there, and the ranks of its clauses have starts
pub schema-there : (s : List ℕ) {schemas n : ℕ} → schemas ≡ length (file_of s).schemas → n < schemas → (n < length (file_of s).schemas) × (3 * n + 2 < 48)
unfolding schemas_limit
schema-there s e h = (omega arith, omega (arith, (file-read s).2))

module _ (s : List ℕ) where
  -- there are at most 16
  pub schemas_few : length (file_of s).schemas ≤ 16
  unfolding schemas_limit
  schemas_few = (file-read s).2

  -- a schema that is there stands for its items
  pub schema-here : (n : ℕ) → n < length (file_of s).schemas → schema_at (terms_of s) n ≡ schema_from (get_or (file_of s).schemas n no_items)
  unfolding schema_at terms_of terms_from
  schema-here n h = get_or-map-in schema_from (file_of s).schemas n _ no_items h

  -- past the last schema
  pub subject-past : (n : ℕ) → length (file_of s).schemas ≤ n → (schema_at (terms_of s) n).subject ≡ 0
  unfolding schema_at terms_of terms_from
  subject-past n h = ap (λ (x : Schema). x.subject) (get_or-eq_default (map schema_from (file_of s).schemas) _ (omega (arith, length-map (file_of s).schemas schema_from)))

  module _ (starts : List ℕ) (n : ℕ) (laid : Starts s (file_of s).schemas starts) (h : n < length (file_of s).schemas) where
    -- the head stands right before it, inside the bytes
    pub head-inside : (4 ≤ get_or starts (3 * n) 0) × (get_or starts (3 * n) 0 ≤ length s)
    head-inside = (laid n h).1.head_inside

    -- a schema's norm type is named by the first byte of its head
    pub type-here : (schema_at (terms_of s) n).type ≡ norm_type_of (byte_at s (get_or starts (3 * n) 0 - 4))
    unfolding schema_from
    type-here =
        let at = get_or starts (3 * n) 0 in
        rw (schema-here n h, (laid n h).1.head_body) (ap norm_type_of (byte-within s (at - 4) 0 4 (omega arith) ∙ ap (byte_at s) (omega arith)))

    -- its subject kind is the second
    pub subject-here : (schema_at (terms_of s) n).subject ≡ byte_at s (get_or starts (3 * n) 0 - 4 + 1)
    unfolding schema_from
    subject-here =
        let at = get_or starts (3 * n) 0 in
        rw (schema-here n h, (laid n h).1.head_body) (byte-within s (at - 4) 1 4 (omega arith))
