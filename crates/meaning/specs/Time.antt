-- Times: a minute, or none. `Time` is the enum of the code; its minute is any natural number here.
-- Document 01, 'When things happen'; document 02, wishes 1 and 4. Assumes nothing: these are definitions.
use Rattle.std.specs.Prelude.{ℕ, min, max, Bool, true, false, cond, leb, ltb}
use Rattle.meaning.specs.declared.Time.{Time}
use Rattle.meaning.specs.declared.Time.TheVariants.{At, Never}

-- the later of two times, none if one is none (expressions, and)
unfoldable pub later_of : Time → Time → Time
later_of (At a) (At b) = At (max a b)
later_of (At a) Never = Never
later_of Never t = Never

-- the earlier of two times, the other if one is none (expressions, or)
unfoldable pub earlier_of : Time → Time → Time
earlier_of (At a) (At b) = At (min a b)
earlier_of (At a) Never = At a
earlier_of Never t = t

-- a time where it is before the minute m, else none (leaf occurs, upper bound; call 4, moment)
unfoldable pub before : ℕ → Time → Time
before m (At n) = cond (ltb n m) (At n) Never
before m Never = Never

-- a time where it is l or later, else none (leaf occurs, lower bound)
unfoldable pub from : ℕ → Time → Time
from l (At n) = cond (leb l n) (At n) Never
from l Never = Never

-- the time that f gives for a known-time, or the known-time where that is later; none where nothing is known (bounds, leaf occurs)
unfoldable pub once_known : Time → (ℕ → Time) → Time
once_known (At g) f = later_of (At g) (f g)
once_known Never f = Never

-- a where t is none, else b (leaf fails)
unfoldable pub if_never : Time → Time → Time → Time
if_never Never a b = a
if_never (At n) a b = b

-- a time where a test holds, else none (happenings, Citation, count, wish 4)
unfoldable pub only_if : Bool → Time → Time
only_if true t = t
only_if false t = Never

-- the last minute that a time can have (limit)
unfoldable pub last_minute : ℕ
last_minute = 4294967294

-- a minute as a time, or none where it is past the last (limit); only an upper bound's value can be that late
unfoldable pub cut : ℕ → Time
cut n = cond (leb n last_minute) (At n) Never
