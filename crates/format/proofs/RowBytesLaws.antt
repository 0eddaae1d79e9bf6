-- Rows in bytes: their length, the time in their last four bytes, rows one after another on a page, and that bytes tell a row. For every width w of
-- a value.
-- Assumes nothing.
use Prim.Native.Nat.{ℕ, ◌+◌, ◌*◌, ◌^◌, ◌<◌}
use native.Mathlib.Nat.{mul-suc}
use native.Mathlib.Omega.{arith}
use mathlib.Core.Path.{◌≡◌, refl, ap, sym, ◌∙◌}
use mathlib.Core.List.{List, [], ◌∷◌, ◌++◌, map, flat_map, append_assoc, head-eq_of_cons-eq, tail-eq_of_cons-eq, Memᴰ}
use lib.ListN.{length, length-append}
use lib.Seq.{take_at, drop_at, take_all}
use Rattle.meaning.specs.declared.Row.{Row}
use Rattle.meaning.specs.Lists.{All}
use Rattle.meaning.specs.Time.{last_minute}
use Rattle.meaning.specs.Stages.{stage_number}
use Rattle.meaning.specs.Terms.{Terms}
use Rattle.meaning.specs.Log.{Log, key_of}
use Rattle.meaning.specs.Rows.{row_of, report_rows}
use Rattle.format.specs.Bytes.{bytes_of, number_at, pieces, number_of}
use Rattle.format.specs.Records.{row_length, row_bytes, time_in, WholeRecord}
use Rattle.meaning.proofs.MemberLaws.{member-has, stage-told}
use Rattle.meaning.proofs.LastMinute.{RowFits}
use Rattle.meaning.proofs.RowLaws.{row-exact}
use Rattle.format.proofs.NumberLaws.{bytes-length, bytes-number, front-told}
use Rattle.format.proofs.RecordLaws.{value-fits}

-- what stands in a row before its time
abbrev row_head : ℕ → Row → List ℕ
row_head w x = stage_number x.stage ∷ x.schema ∷ (bytes_of w x.key ++ (bytes_of w x.privileged ++ bytes_of w x.liable))

head_length : (w : ℕ) (x : Row) → length (row_head w x) ≡ 2 + 3 * w
head_length w x = simp (length-append, bytes-length) (omega arith)

-- a row is its head, then its time
row-split : (w : ℕ) (x : Row) → row_bytes w x ≡ row_head w x ++ bytes_of 4 x.time
unfolding row_bytes
row-split w x = simp append_assoc

-- a row has 6 + 3 w bytes
pub row-length : (w : ℕ) (x : Row) → length (row_bytes w x) ≡ row_length w
unfolding row_length
row-length w x = rw row-split (simp (length-append, bytes-length) (omega arith))

-- its last four bytes are its time
pub row-timed : (w : ℕ) (x : Row) → x.time < 256 ^ 4 → time_in w (row_bytes w x) ≡ x.time
unfolding time_in number_at
row-timed w x h =
    rw (row-split, drop_at (row_head w x) (bytes_of 4 x.time) (2 + 3 * w) (head_length w x), take_all 4 (bytes_of 4 x.time) (omega (arith, bytes-length 4 x.time)))
    (bytes-number 4 x.time h)

-- rows one after another have that many times the length of one
pub rows-length : (w : ℕ) (rows : List Row) → length (flat_map (row_bytes w) rows) ≡ row_length w * length rows
unfolding flat_map
rows-length w [] = omega arith
rows-length w (x ∷ rows) = rw (length-append, row-length, rows-length w rows, mul-suc) (omega arith)

-- rows one after another, whatever follows, are told apart again
pub rows_in : (w : ℕ) (rows : List Row) (t : List ℕ) → pieces (row_length w) (length rows) (flat_map (row_bytes w) rows ++ t) ≡ map (row_bytes w) rows
unfolding pieces flat_map
rows_in w [] t = refl
rows_in w (x ∷ rows) t =
    rw (
      append_assoc (row_bytes w x) (flat_map (row_bytes w) rows) t,
      take_at (row_bytes w x) (flat_map (row_bytes w) rows ++ t) (row_length w) (row-length w x),
      drop_at (row_bytes w x) (flat_map (row_bytes w) rows ++ t) (row_length w) (row-length w x),
      rows_in w rows t,
    )

-- a row whose numbers fit their bytes
pub record FitsBytes (w : ℕ) (x : Row) : Type 0 where
  -- the key
  pub key_fits : x.key < 256 ^ w
  -- the privileged party
  pub privileged-fits : x.privileged < 256 ^ w
  -- the liable party
  pub liable-fits : x.liable < 256 ^ w
  -- the time
  pub time-fits : x.time < 256 ^ 4

-- a row is told by its bytes
pub row_told : (w : ℕ) (x y : Row) → FitsBytes w x → FitsBytes w y → row_bytes w x ≡ row_bytes w y → x ≡ y
unfolding row_bytes
row_told w x y p q e =
    let key = front-told w x.key y.key p.key_fits q.key_fits _ _ (tail-eq_of_cons-eq (tail-eq_of_cons-eq e)) in
    let privileged = front-told w x.privileged y.privileged p.privileged-fits q.privileged-fits _ _ key.1 in
    let liable = front-told w x.liable y.liable p.liable-fits q.liable-fits _ _ privileged.1 in
    let time : x.time ≡ y.time = sym (bytes-number 4 x.time p.time-fits) ∙ ap number_of liable.1 ∙ bytes-number 4 y.time q.time-fits in
    let stage = stage-told x.stage y.stage (head-eq_of_cons-eq e) in
    λ i. record {
      stage = stage i;
      schema = head-eq_of_cons-eq (tail-eq_of_cons-eq e) i;
      key = key.0 i;
      privileged = privileged.0 i;
      liable = liable.0 i;
      time = time i;
    }

-- the rows over records that can be written fit their bytes
pub row_fits : (w : ℕ) (terms : Terms) (log : Log) (m : ℕ) → All (WholeRecord w terms) log → (x : Row) → RowFits x → Memᴰ x (report_rows terms log m) → FitsBytes w x
unfolding row_of key_of last_minute
row_fits w terms log m good x h k =
    let i = (row-exact terms log m x).0 k in
    let whole : WholeRecord w terms i.subject = member-has (WholeRecord w terms) log good i.logged in
    record {
      key_fits = rw i.says (value-fits w terms i.subject whole _);
      privileged-fits = rw i.says (value-fits w terms i.subject whole _);
      liable-fits = rw i.says (value-fits w terms i.subject whole _);
      time-fits = omega arith;
    }
