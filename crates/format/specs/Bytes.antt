-- Numbers in bytes, bytes put into a buffer, and the reading of one thing after another.
-- Document 01, 'Terms and log', first paragraph. `w` is a width in bytes: everything holds for each. Assumes nothing: these are definitions.
use Rattle.std.specs.Prelude.{ℕ, zero, suc, ◌+◌, ◌*◌, ◌/◌, ◌%◌, cond, ◌&&◌, List, [], ◌∷◌, ◌++◌, leb, eqb, length, get_or, take, drop}
use Rattle.std.proofs.Math.Option.{Option, none, some}

-- a number in w bytes, the low one first (sentence 1)
unfoldable pub bytes_of : ℕ → ℕ → List ℕ
bytes_of zero n = []
bytes_of (suc w) n = n % 256 ∷ bytes_of w (n / 256)

-- the number that bytes stand for (sentence 1)
unfoldable pub number_of : List ℕ → ℕ
number_of [] = 0
number_of (b ∷ s) = b + 256 * number_of s

-- the byte at a place (items)
unfoldable pub byte_at : List ℕ → ℕ → ℕ
byte_at s at = get_or s at 0

-- the number in the w bytes from a place on (sentence 1)
unfoldable pub number_at : ℕ → List ℕ → ℕ → ℕ
number_at w s at = number_of (take w (drop at s))

-- bytes cut into n pieces of one length (log record, row)
unfoldable pub pieces : ℕ → ℕ → List ℕ → List (List ℕ)
pieces size zero s = []
pieces size (suc n) s = take size s ∷ pieces size n (drop size s)

-- a buffer with bytes put at a place, and every other byte as it was ('Calls', 3 and 4)
unfoldable pub written : List ℕ → ℕ → List ℕ → List ℕ
written buffer at bs = take at buffer ++ (bs ++ drop (at + length bs) buffer)

-- what is read at the front of bytes, with the bytes that follow; none where it does not stand there (items, log record)
abbrev pub Reader : Type 0 → Type 0
Reader A = List ℕ → Option (A × List ℕ)

-- the first reading, or else the second (items 03 to 08)
abbrev pub or_else : {A : Type 0} → Option A → Option A → Option A
or_else none b = b
or_else (some a) b = some a

-- one thing after another as far as they can be read, at most n, with the bytes left over (Grammar, log record)
unfoldable pub many : {A : Type 0} → Reader A → ℕ → List ℕ → List A × List ℕ
many reader zero s = ([], s)
many reader (suc n) s = elim (reader s) [
  | none ↦ ([], s)
  | some found ↦ let rest = many reader n found.1 in (found.0 ∷ rest.0, rest.1)
]

-- an item (sentence 2): its byte, then a body of n bytes, whatever they hold; the body is what is read
unfoldable pub item : ℕ → ℕ → Reader (List ℕ)
item kind n [] = none
item kind n (b ∷ s) = cond (eqb b kind && leb n (length s)) (some (take n s, drop n s)) none
