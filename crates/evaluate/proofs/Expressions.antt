-- The times of an expression at a place of terms, by what the code tells of it; and a stage's time from those times of its clauses that it needs.
--     leaf-times, count-as, and-times, or-times, except-times,  its times, case by case
--     always-times, nothing-times
--     occurs-times                                    both times, where it occurs
--     stage-whole, stage-here                         a stage's time from its clauses
-- Assumes nothing.
use Prim.Native.Nat.{ℕ, ◌+◌, ◌*◌, ◌<◌}
use mathlib.Core.Path.{◌≡◌, sym, ap₂}
use mathlib.Core.List.{List}
use lib.ListN.{length, get_or}
use Rattle.meaning.specs.declared.Time.{Time}
use Rattle.meaning.specs.declared.Time.TheVariants.{At, Never}
use Rattle.meaning.specs.declared.Stage.{Stage}
use Rattle.meaning.specs.declared.NormType.{NormType}
use Rattle.meaning.specs.declared.Leaf.{Leaf}
use Rattle.meaning.specs.declared.Atom.{Atom}
use Rattle.meaning.specs.declared.Atom.TheVariants.{Happens, Counts}
use Rattle.meaning.specs.declared.CountLeaf.{CountLeaf}
use Rattle.meaning.specs.declared.Times.{Times}
use Rattle.meaning.specs.Time.{later_of}
use Rattle.meaning.specs.Terms.{Expr, leaf, and, or, except, always, schema_at}
use Rattle.meaning.specs.Meaning.{cited, and_of, or_of, except_of, leaf_occurrence, leaf_failure, times_of, stage_from, stage_step, stage_time}
use Rattle.format.specs.Grammar.{expr_limit, file_of}
use Rattle.format.specs.Fields.{neither, expr_at, terms_of}
use Rattle.meaning.proofs.NeverBoth.{occurs-alone}
use Rattle.meaning.proofs.Once.{HappensOnce}
use Rattle.meaning.proofs.Equation.{time-equation}
use Rattle.format.proofs.FieldLaws.{neither-silent}
use Rattle.grammar.specs.Places.{Starts}
use Rattle.records.specs.Holds.{record_at}
use Rattle.terms.proofs.ClauseLaws.{create-here, detach-here, consequent-here}
use Rattle.times.specs.declared.Needed.{Needed}
use Rattle.times.specs.declared.Needed.TheVariants.{Occurrence}
use Rattle.times.specs.NeededTimes.{needed_of, detach_needs, consequent_needs}
use Rattle.times.proofs.Needs.{stage-needs}
use Rattle.evaluate.specs.Seen.{log_in, record_in, stage_in, under}

module _ (terms log : List ℕ) (k subject : ℕ) where
  -- the times of an expression, for a clause of rank k and the subject
  abbrev pub times_in : Expr Atom → Times
  times_in x = under times_of terms log k subject x

  module _ {x : Expr Atom} where
    -- those of a leaf
    pub leaf-times : {a : Atom} {l : Leaf} → x ≡ leaf a → a ≡ Happens l → times_in x ≡ record { occurs = under leaf_occurrence terms log k subject l; fails = under leaf_failure terms log k subject l }
    unfolding under times_of
    leaf-times e f = rw (e, f)

    -- those of a count
    pub count-as : {a : Atom} {c : CountLeaf} → x ≡ leaf a → a ≡ Counts c → times_in x ≡ times_in (leaf (Counts c))
    count-as e f = rw (e, f)

    -- those of both
    pub and-times : {a b : Expr Atom} → x ≡ and a b → times_in x ≡ and_of (times_in a) (times_in b)
    unfolding under times_of
    and-times e = rw e

    -- those of one or the other
    pub or-times : {a b : Expr Atom} → x ≡ or a b → times_in x ≡ or_of (times_in a) (times_in b)
    unfolding under times_of
    or-times e = rw e

    -- those of one without the other
    pub except-times : {a b : Expr Atom} → x ≡ except a b → times_in x ≡ except_of (times_in a) (times_in b)
    unfolding under times_of
    except-times e = rw e

    -- those of what always occurs
    pub always-times : x ≡ always → times_in x ≡ record { occurs = At 0; fails = Never }
    unfolding under times_of
    always-times e = rw e

    -- those of what cannot be read
    pub nothing-times : x ≡ leaf neither → times_in x ≡ record { occurs = Never; fails = Never }
    unfolding under times_of neither
    nothing-times e =
        let silent = neither-silent (cited k (stage_time (terms_of terms) (log_in terms log))) (terms_of terms) (log_in terms log) (record_in terms log subject) in
        rw (e, silent.0, silent.1)

module _ (terms log : List ℕ) (k subject : ℕ) (x : Expr Atom) where
  -- the times of an expression that occurs: it does not fail
  pub occurs-times : HappensOnce (cited k (stage_time (terms_of terms) (log_in terms log))) (terms_of terms) (log_in terms log) (record_in terms log subject)
      → {n : ℕ} → (times_in terms log k subject x).occurs ≡ At n → record { occurs = At n; fails = Never } ≡ times_in terms log k subject x
  unfolding under
  occurs-times once e = ap₂ (λ (o f : Time). record { occurs = o; fails = f }) (sym e) (sym (occurs-alone _ _ _ _ once x e))

-- the times of the clause of rank k, as it is read at its start
abbrev pub clause_in : List ℕ → List ℕ → List ℕ → ℕ → ℕ → Times
clause_in terms log starts subject k = times_in terms log k subject (expr_at terms (get_or starts k 0) expr_limit)

module _ (terms log starts : List ℕ) (subject j : ℕ) (laid : Starts terms (file_of terms).schemas starts) (h : j < length (file_of terms).schemas) where
  -- a stage's time from the times of its clauses
  pub stage-whole : (s : Stage) {norm : NormType} {stamp : ℕ} → norm ≡ (schema_at (terms_of terms) j).type → stamp ≡ (record_at (terms_of terms) log subject).stamp
      → later_of (At stamp) (stage_from s norm (clause_in terms log starts subject (3 * j)) (clause_in terms log starts subject (3 * j + 1)) (clause_in terms log starts subject (3 * j + 2)))
      ≡ stage_in terms log subject s j
  unfolding record_in stage_in stage_step under
  stage-whole s type stamp = rw (type, stamp, create-here terms starts j laid h, detach-here terms starts j laid h, consequent-here terms starts j laid h, time-equation)

  -- the same from those times of its clauses that it needs
  pub stage-here : (s : Stage) {norm : NormType} {stamp : ℕ} {time : Time} {c r u : Times} {detach consequent : Needed} → time ≡ later_of (At stamp) (stage_from s norm c r u)
      → norm ≡ (schema_at (terms_of terms) j).type → stamp ≡ (record_at (terms_of terms) log subject).stamp → detach ≡ detach_needs s → consequent ≡ consequent_needs s norm
      → c ≡ needed_of Occurrence (clause_in terms log starts subject (3 * j))
      → r ≡ needed_of detach (clause_in terms log starts subject (3 * j + 1))
      → u ≡ needed_of consequent (clause_in terms log starts subject (3 * j + 2))
      → time ≡ stage_in terms log subject s j
  stage-here s e type stamp d q c r u = rw (e, c, r, u, d, q, stage-needs) (stage-whole s type stamp)

-- what the search for the proofs of `occurrence` and `failure` cites
pub ruleset expressions = (leaf-times, count-as, and-times, or-times, except-times, always-times, nothing-times)
