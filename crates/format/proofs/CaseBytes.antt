-- Terms and records in bytes, as the lists of cases write them: items, bounds, events, and the kinds S, E, F and O. Assumes nothing.
use Prim.Native.Nat.{ℕ, ◌/◌, ◌%◌}
use mathlib.Core.List.{List, [], ◌∷◌, ◌++◌, flat_map}

-- a number in four bytes, low byte first
abbrev pub word : ℕ → List ℕ
word n = n % 256 ∷ n / 256 % 256 ∷ n / 65536 % 256 ∷ n / 16777216 % 256 ∷ []

-- item 01: number, mask of attributes, key attribute
abbrev pub kind : ℕ → ℕ → ℕ → List ℕ
kind number mask key = 0x01 ∷ number ∷ mask % 256 ∷ mask / 256 ∷ key ∷ []

-- item 02 and its clauses: type, subject kind, privileged, liable, then create, detach, consequent
abbrev pub schema : ℕ → ℕ → ℕ → ℕ → List ℕ → List ℕ → List ℕ → List ℕ
schema type subject privileged liable create detach consequent = 0x02 ∷ type ∷ subject ∷ privileged ∷ liable ∷ create ++ detach ++ consequent

-- items 03 to 07: a leaf has an event, a lower and an upper bound
abbrev pub leaf : List ℕ → List ℕ → List ℕ → List ℕ
leaf event lower upper = 0x03 ∷ event ++ lower ++ upper

abbrev pub and : List ℕ → List ℕ → List ℕ
and a b = 0x04 ∷ a ++ b

abbrev pub or : List ℕ → List ℕ → List ℕ
or a b = 0x05 ∷ a ++ b

abbrev pub except : List ℕ → List ℕ → List ℕ
except a b = 0x06 ∷ a ++ b

abbrev pub always : List ℕ
always = 0x07 ∷ []

-- item 08: a kind, a threshold, a lower and an upper bound
abbrev pub more_than : ℕ → ℕ → List ℕ → List ℕ → List ℕ
more_than threshold kind lower upper = 0x08 ∷ kind ∷ word threshold ++ lower ++ upper

-- a bound: sign, form, number, offset
abbrev pub bound : ℕ → ℕ → ℕ → ℕ → List ℕ
bound sign form number offset = sign ∷ form ∷ number ∷ word offset

abbrev pub plain : ℕ → List ℕ
plain n = bound 0 0 0 n

abbrev pub plus : List ℕ → ℕ → List ℕ
plus event n = 1 ∷ event ++ word n

abbrev pub minus : List ℕ → ℕ → List ℕ
minus event n = 2 ∷ event ++ word n

abbrev pub unbounded : List ℕ
unbounded = bound 3 0 0 0

-- the events, as form and number: kinds S, E, F and O, and a stage of the schema j
abbrev pub S : List ℕ
S = 0 ∷ 0 ∷ []

abbrev pub E : List ℕ
E = 0 ∷ 1 ∷ []

abbrev pub F : List ℕ
F = 0 ∷ 2 ∷ []

abbrev pub O : List ℕ
O = 0 ∷ 3 ∷ []

abbrev pub created : ℕ → List ℕ
created j = 1 ∷ j ∷ []

abbrev pub detached : ℕ → List ℕ
detached j = 2 ∷ j ∷ []

abbrev pub expired : ℕ → List ℕ
expired j = 3 ∷ j ∷ []

abbrev pub discharged : ℕ → List ℕ
discharged j = 4 ∷ j ∷ []

abbrev pub violated : ℕ → List ℕ
violated j = 5 ∷ j ∷ []

-- S carries attribute 0, its key. E and F carry it too, and a key of their own, so that they recur
abbrev pub kinds : List ℕ
kinds = kind 0 0b1 0 ++ kind 1 0b11 1 ++ kind 2 0b101 2

-- O beside them carries attribute 0 alone, its key, so that it comes once for an S (document 02, wish 4)
abbrev pub kinds_with_O : List ℕ
kinds_with_O = kinds ++ kind 3 0b1 0

-- terms of one norm on S
abbrev pub norm : ℕ → List ℕ → List ℕ → List ℕ → List ℕ
norm type create detach consequent = kinds ++ schema type 0 0 0 create detach consequent

-- terms of one authorization on S with these clauses
abbrev pub clauses : List ℕ → List ℕ → List ℕ → List ℕ
clauses = norm 2

-- a schema without leaves
abbrev pub plain_schema : List ℕ
plain_schema = schema 2 0 0 0 always always always

-- S carries attribute 0, E 0 and 1, X, kind 2, 1 alone
abbrev pub apart : List ℕ
apart = kind 0 0b1 0 ++ kind 1 0b11 1 ++ kind 2 0b10 1

abbrev pub apart_with : List ℕ → List ℕ
apart_with clause = apart ++ schema 2 0 0 0 always clause always

abbrev pub X : List ℕ
X = F

-- a record: kind, stamp, values
abbrev pub event : ℕ → ℕ → List ℕ → List ℕ
event kind stamp values = kind ∷ word stamp ++ flat_map word values

-- S with key 7; E and F of that S, each with its stamp for a key; its O
abbrev pub s_at : ℕ → List ℕ
s_at t = event 0 t (7 ∷ [])

abbrev pub e_at : ℕ → List ℕ
e_at t = event 1 t (7 ∷ t ∷ [])

abbrev pub f_at : ℕ → List ℕ
f_at t = event 2 t (7 ∷ t ∷ [])

abbrev pub o_at : ℕ → List ℕ
o_at t = event 3 t (7 ∷ [])

-- a clause that never occurs and fails at 0; one that neither occurs nor fails as long as there is no F
abbrev pub nothing : List ℕ
nothing = except always always

abbrev pub waiting : List ℕ
waiting = leaf F (plain 0) unbounded

-- E before 10, F before 20
abbrev pub E10 : List ℕ
E10 = leaf E (plain 0) (plain 10)

abbrev pub F20 : List ℕ
F20 = leaf F (plain 0) (plain 20)

-- terms of one authorization on S, with O among the kinds: always; this detach clause; never
abbrev pub detach_with_O : List ℕ → List ℕ
detach_with_O clause = kinds_with_O ++ schema 2 0 0 0 always clause nothing
