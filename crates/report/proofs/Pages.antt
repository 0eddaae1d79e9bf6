-- Bytes and rows put on a page one after another.
--     row-by                 a row by its numbers
--     no_rows                what no row writes
--     row_in, row_put        the row of an entry that is reached
--     row_out                one that is not reached has none
--     stage_rows, rows-whose, stage-next, stage-none
--                            the rows of a subject, by its entries and by whose they are
--     place-next, place-none the rows of places
--     Left, left-…           rows of which some are left to be written
-- Assumes nothing.
use Prim.Native.Nat.{ℕ, ◌+◌, ◌*◌, ◌≤◌, ◌<◌}
use native.Mathlib.Numerals.{add-one}
use native.Mathlib.Omega.{arith}
use mathlib.Core.Path.{◌≡◌, refl, ap, sym, ◌∙◌, fun_ext}
use mathlib.Core.Bool.{true}
use mathlib.Core.List.{List, [], ◌∷◌, ◌++◌, flat_map, append-nil}
use lib.ListN.{length, set, get_or, drop, length-append}
use lib.Seq.{drop-cons}
use Rattle.std.proofs.lemmas.List.{drop_all}
use Rattle.meaning.specs.declared.Time.{Time}
use Rattle.meaning.specs.declared.Time.TheVariants.{At, Never}
use Rattle.meaning.specs.declared.Stage.{Stage}
use Rattle.meaning.specs.declared.Stage.TheVariants.{Created}
use Rattle.meaning.specs.declared.Entries.{Entries}
use Rattle.meaning.specs.declared.Row.{Row}
use Rattle.meaning.specs.Stages.{stage_number, stages}
use Rattle.meaning.specs.Rows.{row_of, row_at, is_subject, entry}
use Rattle.meaning.proofs.ListLaws.{flat_map-append}
use Rattle.format.specs.Bytes.{bytes_of, written}
use Rattle.format.specs.Fields.{terms_of}
use Rattle.format.specs.Records.{value_width, row_length, row_bytes}
use Rattle.format.proofs.WrittenLaws.{written-length, written_none, written-more, written_one, written-put}
use Rattle.format.proofs.RowBytesLaws.{rows-length}
use Rattle.evaluate.specs.Seen.{record_in}
use Rattle.report.specs.declared.rows.Agreement.{Agreement}
use Rattle.report.specs.Shown.{row_by, entries_in, record_rows, with_rows}
use Rattle.report.proofs.RowSteps.{record-shown}

-- bytes put right after those that were put
put : (page : List ℕ) (at : ℕ) (bs cs : List ℕ) {p q : List ℕ} {n : ℕ} → p ≡ written page at bs → q ≡ written p n cs → n ≡ at + length bs → n ≤ length page → q ≡ written page at (bs ++ cs)
put page at bs cs {n = n} e f i h = rw (f, e) (written-more page at bs cs n i h)

-- a row by its numbers
pub row-by : (page : List ℕ) (at : ℕ) (x : Row) → at + row_length value_width ≤ length page → {stage : ℕ} {p q r s : List ℕ}
    → stage ≡ stage_number x.stage
    → p ≡ written (set (set page at stage) (at + 1) x.schema) (at + 2) (bytes_of value_width x.key)
    → q ≡ written p (at + 2 + value_width) (bytes_of value_width x.privileged)
    → r ≡ written q (at + 2 + 2 * value_width) (bytes_of value_width x.liable)
    → s ≡ written r (at + 2 + 3 * value_width) (bytes_of 4 x.time)
    → s ≡ written page at (row_bytes value_width x)
unfolding bytes_of row_bytes row_length
row-by page at x h {stage} i a b d e =
    let n = stage_number x.stage in
    let two : set (set page at stage) (at + 1) x.schema ≡ written page at (n ∷ x.schema ∷ []) =
    rw (i, written_one page at n (omega arith)) (written-put page at (n ∷ []) (at + 1) x.schema refl (omega arith)) in
    put page at _ _ (put page at _ _ (put page at _ _ (put page at _ _ two a (omega arith) (omega arith)) b (omega arith) (omega arith)) d (omega arith) (omega arith)) e (omega arith) (omega arith)

pub ruleset row_laws = row-by

-- no row
pub no_rows : (page : List ℕ) (at : ℕ) → page ≡ with_rows page at []
unfolding with_rows flat_map
no_rows page at = written_none page at

module _ (f : ℕ → Row) {entry : Time} where
  -- an entry that is reached has one row
  pub row_in : {t : ℕ} → entry ≡ At t → row_at f entry ≡ f t ∷ []
  unfolding row_at
  row_in e = rw e

  -- it is put, and the place after it
  pub row_put : {t : ℕ} → entry ≡ At t → (page : List ℕ) (to : ℕ) {next : List ℕ} → next ≡ written page to (row_bytes value_width (f t))
      → (to + row_length value_width ≡ to + row_length value_width * length (row_at f entry)) × (next ≡ with_rows page to (row_at f entry))
  unfolding row_length with_rows flat_map
  row_put {t} e page to n = rw (row_in e) (omega arith, n ∙ rw (append-nil (row_bytes value_width (f t))))

  -- one that is not reached has none
  pub row_out : entry ≡ Never → row_at f entry ≡ []
  unfolding row_at
  row_out e = rw e

-- the rows of a stage of an agreement, by the entries
abbrev pub stage_rows : Agreement → Entries → Stage → List Row
stage_rows whose e s = row_at (row_by whose s) (entry s e)

-- the rows of a subject, by its entries and by whose they are
pub rows-whose : (terms log : List ℕ) (subject schema m : ℕ) (whose : Agreement) {e : Entries} → is_subject (terms_of terms) schema (record_in terms log subject) ≡ true
    → ((s : Stage) (t : ℕ) → row_by whose s t ≡ row_of (terms_of terms) schema (record_in terms log subject) s t)
    → e ≡ entries_in terms log subject schema m
    → record_rows terms log schema m subject ≡ flat_map (stage_rows whose e) stages
rows-whose terms log subject schema m whose {e} is same shown =
    record-shown terms log schema m subject is shown
    ∙ ap (λ (f : Stage → List Row). flat_map f stages) (fun_ext λ s. ap (λ (f : ℕ → Row). row_at f (entry s e)) (fun_ext λ t. sym (same s t)))

-- the rows of a stage come before those of the stages after it
pub stage-next : (whose : Agreement) (e : Entries) (n : ℕ) → n < 5
    → flat_map (stage_rows whose e) (drop n stages) ≡ stage_rows whose e (get_or stages n Created) ++ flat_map (stage_rows whose e) (drop (n + 1) stages)
unfolding flat_map stages
stage-next whose e n h = rw add-one (ap (flat_map (stage_rows whose e)) (drop-cons stages n Created h))

-- past the last stage there are none
pub stage-none : (whose : Agreement) (e : Entries) (n : ℕ) → 5 ≤ n → flat_map (stage_rows whose e) (drop n stages) ≡ []
unfolding flat_map stages
stage-none whose e n h = ap (flat_map (stage_rows whose e)) (drop_all n stages h)

-- the rows of a place come before those of the places after it
pub place-next : (f : ℕ → List Row) {left rest : List ℕ} {at : ℕ} → left ≡ at ∷ rest → flat_map f left ≡ f at ++ flat_map f rest
unfolding flat_map
place-next f e = ap (flat_map f) e

-- past the last place there are none
pub place-none : (f : ℕ → List Row) {left : List ℕ} → left ≡ [] → flat_map f left ≡ []
unfolding flat_map
place-none f e = ap (flat_map f) e

-- rows put right after those that were put
rows_more : (page : List ℕ) (at : ℕ) (a b : List Row) (to : ℕ) → to ≡ at + row_length value_width * length a → to ≤ length page
    → with_rows (with_rows page at a) to b ≡ with_rows page at (a ++ b)
unfolding with_rows row_length
rows_more page at a b to e h =
    rw (flat_map-append (row_bytes value_width) a b)
    (written-more page at (flat_map (row_bytes value_width) a) (flat_map (row_bytes value_width) b) to (omega (arith, rows-length value_width a)) h)

-- rows that fit leave the page as long as it was
rows-kept : (page : List ℕ) (at : ℕ) (rows : List Row) → at + row_length value_width * length rows ≤ length page → length (with_rows page at rows) ≡ length page
unfolding with_rows row_length
rows-kept page at rows h = written-length page at (flat_map (row_bytes value_width) rows) (omega (arith, rows-length value_width rows))

-- of all rows to be put on a page from a place on, some are left for the page as it is now and the place reached
pub record Left (page₀ : List ℕ) (from : ℕ) (all : List Row) (page : List ℕ) (to : ℕ) (left : List Row) : Type 0 where
  -- with those that are left it is the page with all
  pub same : with_rows page₀ from all ≡ with_rows page to left
  -- the place after them is the place after all
  pub place : to + row_length value_width * length left ≡ from + row_length value_width * length all
  -- it is as long as it was
  pub long : length page ≡ length page₀
  -- there is room for all
  pub fits : from + row_length value_width * length all ≤ length page₀

-- at first all are left
pub left-all : (page : List ℕ) (from : ℕ) {all rows : List Row} → all ≡ rows → from + row_length value_width * length all ≤ length page → Left page from all page from rows
left-all page from e h = rw (← e) (record { same = refl; place = refl; long = refl; fits = h })

module _ {page₀ page : List ℕ} {from to : ℕ} {all left : List Row} (l : Left page₀ from all page to left) (here rest : List Row) (e : left ≡ here ++ rest) where
  -- there is room for the next ones
  pub left-room : to + row_length value_width * length here ≤ length page
  unfolding row_length
  left-room = omega (arith, l.place, l.long, l.fits, ap length e, length-append here rest)

  -- the next ones are put: those after them are left
  pub left-next : {next : List ℕ} {end : ℕ} → (end ≡ to + row_length value_width * length here) × (next ≡ with_rows page to here) → Left page₀ from all next end rest
  unfolding row_length
  left-next {next} {end} put =
      record {
        same = l.same ∙ rw (e, put.1) (sym (rows_more page to here rest end put.0 (omega (arith, left-room))));
        place = omega (arith, l.place, ap length e, length-append here rest);
        long = ap length put.1 ∙ rows-kept page to here left-room ∙ l.long;
        fits = l.fits;
      }

-- none is left
pub left_end : {page₀ page : List ℕ} {from to : ℕ} {all left : List Row} → Left page₀ from all page to left → left ≡ []
    → (to ≡ from + row_length value_width * length all) × (page ≡ with_rows page₀ from all)
unfolding row_length
left_end {page₀} {page} {from} {to} l e = (omega (arith, l.place, ap length e), sym (l.same ∙ rw e (sym (no_rows page to))))
