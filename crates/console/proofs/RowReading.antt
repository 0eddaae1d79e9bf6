-- A row that is read from eighteen bytes has these bytes. Assumes nothing.
use Rattle.std.proofs.Common.{arith, ◌≡◌, refl, ap, sym, ◌∙◌, ℕ, suc, ◌+◌, ◌≤◌, ◌<◌, List, [], ◌∷◌, ◌++◌, length, take, drop, get_or}
use Rattle.std.proofs.lemmas.Grind.{common_steps, flat_map-append}
use Rattle.std.proofs.lemmas.List.{take-append-drop, drop_all, append-nil, append_assoc}
use lib.ListN.{length-drop, length-append}
use lib.Seq.{drop-drop, take_at}
use Rattle.meaning.specs.Lists.{All}
use Rattle.meaning.specs.declared.Stage.{Stage}
use Rattle.meaning.specs.declared.Stage.TheVariants.{Created, Detached, Expired, Discharged, Violated}
use Rattle.meaning.specs.declared.Row.{Row}
use Rattle.meaning.specs.declared.NotAStage.{NotAStage}
use Rattle.std.specs.Prelude.{Option, Some, None, Result, Ok, Err, ok_or}
use Rattle.meaning.specs.Stages.{stage_number, stage_of}
use Rattle.format.specs.Bytes.{bytes_of, number_of, number_at}
use Rattle.format.specs.Records.{row_bytes, row_length, value_width}
use Rattle.meaning.proofs.ListLaws.{all_drop}
use Rattle.format.proofs.NumberLaws.{front_bytes}
use Rattle.format.proofs.RowBytesLaws.{row-length}
use Rattle.console.specs.Rows.{StartsWithRow, rows_bytes}

-- bytes, one by one, are bytes
pub all-bytes : (s : List ℕ) → ((i : ℕ) → get_or s i 0 < 256) → All (λ b. b < 256) s
all-bytes [] h = tt
all-bytes (b ∷ s) h = (h 0, all-bytes s (λ i. h (suc i)))

-- the number at a place, written before what follows it
number_back : (s : List ℕ) (at : ℕ) → at + 4 ≤ length s → All (λ b. b < 256) s → bytes_of 4 (number_at 4 s at) ++ drop (at + 4) s ≡ drop at s
unfolding number_at
number_back s at inside h =
    ap (λ (t : List ℕ). bytes_of 4 (number_of (take 4 (drop at s))) ++ t) (sym (drop-drop 4 at s))
    ∙ ap (λ (t : List ℕ). t ++ drop 4 (drop at s)) (front_bytes 4 (drop at s) (omega (arith, length-drop at s)) (all_drop (λ b. b < 256) at s h))
    ∙ take-append-drop 4 (drop at s)

-- the same of the last number
last_back : (s : List ℕ) (at : ℕ) → at + 4 ≡ length s → All (λ b. b < 256) s → bytes_of 4 (number_at 4 s at) ≡ drop at s
last_back s at end h =
    sym (append-nil (bytes_of 4 (number_at 4 s at)))
    ∙ ap (λ (t : List ℕ). bytes_of 4 (number_at 4 s at) ++ t) (sym (drop_all (at + 4) s (omega (arith, end))))
    ∙ number_back s at (omega (arith, end)) h

-- four bytes, written
pub four_back : (s : List ℕ) → length s ≡ 4 → All (λ b. b < 256) s → bytes_of 4 (number_at 4 s 0) ≡ s
four_back s long h = last_back s 0 (sym long) h

-- the four numbers of a row, written
numbers_back : (s : List ℕ) → length s ≡ 18 → All (λ b. b < 256) s
    → bytes_of 4 (number_at 4 s 2) ++ (bytes_of 4 (number_at 4 s 6) ++ (bytes_of 4 (number_at 4 s 10) ++ bytes_of 4 (number_at 4 s 14))) ≡ drop 2 s
numbers_back s long h =
    ap (λ (t : List ℕ). bytes_of 4 (number_at 4 s 2) ++ (bytes_of 4 (number_at 4 s 6) ++ (bytes_of 4 (number_at 4 s 10) ++ t))) (last_back s 14 (sym long) h)
    ∙ ap (λ (t : List ℕ). bytes_of 4 (number_at 4 s 2) ++ (bytes_of 4 (number_at 4 s 6) ++ t)) (number_back s 10 (omega (arith, long)) h)
    ∙ ap (λ (t : List ℕ). bytes_of 4 (number_at 4 s 2) ++ t) (number_back s 6 (omega (arith, long)) h)
    ∙ number_back s 2 (omega (arith, long)) h

-- what is found, if something is
found-some : (x : Option Stage) (e : NotAStage) (stage : Stage) → ok_or x e ≡ Ok stage → x ≡ Some stage
found-some (Some y) e stage h = cc
found-some None e stage h = absurd (let k : ◌≡◌ {A = Result Stage NotAStage} (Err e) (Ok stage) = h in cc)

-- what is not found
found-none : (x : Option Stage) (e f : NotAStage) → ok_or x e ≡ Err f → x ≡ None
found-none (Some y) e f h = absurd (let k : ◌≡◌ {A = Result Stage NotAStage} (Ok y) (Err f) = h in cc)
found-none None e f h = refl

-- a stage that a byte names has it for its number
stage_number_of : (form : ℕ) (stage : Stage) → stage_of form ≡ Some stage → stage_number stage ≡ form
stage_number_of form stage e = grind (arith, common_steps)

pub stage_named : (form : ℕ) (e : NotAStage) (stage : Stage) → ok_or (stage_of form) e ≡ Ok stage → stage_number stage ≡ form
stage_named form e stage h = stage_number_of form stage (found-some (stage_of form) e stage h)

-- a stage is named by its number
stage_back : (stage : Stage) → stage_of (stage_number stage) ≡ Some stage
stage_back Created = refl
stage_back Detached = refl
stage_back Expired = refl
stage_back Discharged = refl
stage_back Violated = refl

-- bytes whose first names no stage are no row's
pub none_named : (s : List ℕ) (e f : NotAStage) → ok_or (stage_of (get_or s 0 0)) e ≡ Err f → (row : Row) → row_bytes value_width row ≡ s → ⊥
unfolding row_bytes
none_named s e f h row same =
    let none = found-none (stage_of (get_or s 0 0)) e f h in
    let both : Some row.stage ≡ None = sym (stage_back row.stage) ∙ ap (λ (t : List ℕ). stage_of (get_or t 0 0)) same ∙ none in cc

-- fewer bytes than a row has start with none
pub none_short : (s : List ℕ) → length s < 18 → StartsWithRow s → ⊥
unfolding row_length
none_short s short starts =
    let long : length (row_bytes value_width starts.row) ≡ 18 = row-length value_width starts.row in
    let sum : length (row_bytes value_width starts.row) + length starts.rest ≡ length s = sym (length-append (row_bytes value_width starts.row) starts.rest) ∙ ap length starts.whole in
    omega (arith, short, long, sum)

-- bytes whose first eighteen are no row start with none
pub none_front : (s : List ℕ) → ((row : Row) → row_bytes value_width row ≡ take 18 s → ⊥) → StartsWithRow s → ⊥
unfolding row_length
none_front s none starts =
    none starts.row (sym (take_at (row_bytes value_width starts.row) starts.rest 18 (row-length value_width starts.row)) ∙ ap (take 18) starts.whole)

-- the row, written
pub row_back : (stage : Stage) (s : List ℕ) → length s ≡ 18 → All (λ b. b < 256) s → stage_number stage ≡ get_or s 0 0
    → row_bytes value_width (record {
      stage = stage;
      schema = get_or s 1 0;
      key = number_at 4 s 2;
      privileged = number_at 4 s 6;
      liable = number_at 4 s 10;
      time = number_at 4 s 14;
    }) ≡ s
unfolding row_bytes
row_back stage [] long h e = absurd (omega (arith, long))
row_back stage (a ∷ []) long h e = absurd (omega (arith, long))
row_back stage (a ∷ b ∷ s) long h e = ap (λ (t : List ℕ). stage_number stage ∷ b ∷ t) (numbers_back (a ∷ b ∷ s) long h) ∙ ap (λ (x : ℕ). x ∷ b ∷ s) e

-- a row more, before what it leaves
pub row_more : (rows : List Row) (row : Row) (left : List ℕ) {rest page : List ℕ} → rows_bytes rows ++ rest ≡ page → row_bytes value_width row ++ left ≡ rest → rows_bytes (rows ++ row ∷ []) ++ left ≡ page
row_more rows row left whole front =
    ap (λ (t : List ℕ). t ++ left) (flat_map-append (row_bytes value_width) rows (row ∷ []))
    ∙ append_assoc (rows_bytes rows) (rows_bytes (row ∷ [])) left
    ∙ ap (λ (t : List ℕ). rows_bytes rows ++ (t ++ left)) (append-nil (row_bytes value_width row))
    ∙ ap (λ (t : List ℕ). rows_bytes rows ++ t) front
    ∙ whole
