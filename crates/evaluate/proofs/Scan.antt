-- The earliest happening of an event in a window, record by record of the subject's mark.
--     scan-none                         a kind that is not declared has no records
--     Scanned, scan-start, scan-take, scan-end
-- Assumes nothing.
use Prim.Native.Nat.{ℕ, ◌≤◌}
use mathlib.Core.Path.{◌≡◌, ◌∙◌}
use mathlib.Core.Bool.{false}
use mathlib.Core.List.{List, [], ◌∷◌}
use lib.ListN.{length}
use Rattle.meaning.specs.declared.Time.{Time}
use Rattle.meaning.specs.declared.Time.TheVariants.{Never}
use Rattle.meaning.specs.declared.Event.{Event}
use Rattle.meaning.specs.declared.Edge.{Edge}
use Rattle.meaning.specs.Time.{earlier_of, only_if}
use Rattle.meaning.specs.Terms.{kind_of}
use Rattle.meaning.specs.Log.{Record}
use Rattle.meaning.specs.Meaning.{earliest, from_edge, before_edge, happening, first_within}
use Rattle.meaning.proofs.EdgeLaws.{never-within}
use Rattle.meaning.proofs.GatherLaws.{Gathers, earliest-gathers}
use Rattle.format.specs.Fields.{terms_of}
use Rattle.index.specs.declared.Mark.{Mark}
use Rattle.index.specs.Asked.{found}
use Rattle.marks.specs.Marks.{Marks}
use Rattle.marks.proofs.Scans as scans
use Rattle.evaluate.specs.Seen.{log_in, record_in, under}
use Rattle.evaluate.proofs.Happens.{happens}

module _ (terms log : List ℕ) (k subject : ℕ) (l u : Edge) (event : Event) where
  -- a happening by a record, where it is in the window
  abbrev pub in_window : Record → Time
  in_window r = from_edge l (before_edge u (happens terms log k subject event r))

  -- the earliest of these is gathered
  abbrev pub gathers : Gathers earlier_of Never in_window (earliest in_window)
  gathers = earliest-gathers in_window

  -- a record of another kind, or one that does not correlate, gives no time
  by-other : {kind : ℕ} → kind ≡ kind_of (terms_of terms) event → (r : Record) → scans.fits terms log subject kind r ≡ false → in_window r ≡ Never
  unfolding under happening record_in only_if
  by-other is r e = rw (rw is at e, happening) (never-within l u)

  -- a kind that is not declared has no records
  pub scan-none : {kind : ℕ} → kind ≡ kind_of (terms_of terms) event → length (terms_of terms).kinds ≤ kind → Never ≡ under first_within terms log k subject l u event
  unfolding under first_within log_in
  scan-none {kind} is = scans.scan-none terms log gathers subject kind (by-other is)

  -- the earliest so far, and the earliest of the records that are left, make up the earliest of all
  abbrev pub Scanned : Time → List ℕ → Type 0
  Scanned = scans.Scanned terms log gathers

  -- at the start all records of the mark are left
  pub scan-start : {kind : ℕ} {q : Mark} → kind ≡ kind_of (terms_of terms) event → Marks terms log subject kind q → Scanned Never (found (terms_of terms) log q)
  scan-start {kind} is = scans.scan-start terms log gathers subject kind (by-other is)

  -- a record of the mark
  pub scan-take : (first : Time) (owner : ℕ) (rest : List ℕ) {left : List ℕ} → left ≡ owner ∷ rest → Scanned first left
      → {time inside later : Time} → time ≡ happens terms log k subject event (record_in terms log owner)
      → inside ≡ from_edge l (before_edge u time) → later ≡ earlier_of first inside → Scanned later rest
  unfolding record_in
  scan-take first owner rest next sofar t e n = scans.scan-take terms log gathers first owner rest next sofar (n ∙ rw (e, t))

  -- no record is left
  pub scan-end : {first : Time} {left : List ℕ} → left ≡ [] → Scanned first left → first ≡ under first_within terms log k subject l u event
  unfolding under first_within log_in
  scan-end = scans.scan-end terms log gathers

-- what the search for the proof of `first_within` cites
pub ruleset walks = (scan-none, scan-end)
