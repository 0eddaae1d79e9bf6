-- `agreement_of` meets its contract: the key and the parties are carried. Assumes nothing.
use Prim.Native.Nat.{◌+◌, ◌*◌, ◌-◌}
use native.Mathlib.Omega.{arith}
use mathlib.Core.Path.{◌≡◌}
use mathlib.Core.Bool.{true}
use lib.ListN.{get_or}
use Rattle.meaning.specs.Log.{carries}
use Rattle.format.specs.Bytes.{byte_at}
use Rattle.format.specs.Fields.{terms_of}
use Rattle.fields.proofs.Schemas.{schemas_few}
use Rattle.records.specs.Holds.{MaskOf}
use Rattle.report.specs.Shown.{row_by}
use Rattle.report.proofs.Parties.{parties-asked, row_is}
use Rattle.report.proofs.rows.agreement_of.Goals.{After-head_at-head}
use Rattle.report.proofs.rows.agreement_of.Goals as goal

-- where the schema's head starts
head_is : (c : After-head_at-head) → let a = c.args.asked.now in c.head_at-head.result ≡ get_or a.subject.call.now.layout.now.starts (3 * a.schema) 0 - 4
head_is c = rw c.places.ensures.1 at c.head_at-head.ensures.0

-- the mask is that of the record's kind
mask_is : (c : After-head_at-head) → let a = c.args.asked.now in MaskOf (terms_of a.subject.call.now.terms.now) a.subject.call.now.bytes.now c.masked-carrier.result
mask_is c = rw (c.record-record.ensures.0, c.record-record.ensures.1) at c.masked-carrier.ensures.mask_of

-- the record carries both parties
asked : (c : After-head_at-head) → let terms = c.args.asked.now.subject.call.now.terms.now in let mask = c.masked-carrier.result.mask in
    (carries mask (byte_at terms (c.head_at-head.result + 2)) ≡ true) × (carries mask (byte_at terms (c.head_at-head.result + 3)) ≡ true)
asked c =
    let a = c.args.asked.now in
    let call = a.subject.call.now in
    parties-asked call.terms.now call.layout.now.starts a.schema call.placed.2 a.declared call.right call.bytes.now a.subject.at c.requires
    (rw (c.masked-carrier.ensures.at_place, c.record-record.ensures.2) at (mask_is c)) (head_is c)

pub overflow_cast-result : goal.overflow_cast-result
overflow_cast-result c = omega (arith, c.args.asked.now.declared, schemas_few c.args.asked.now.subject.call.now.terms.now)

pub value_of-requires-clause-mask_carries : goal.value_of-requires-clause-mask_carries
unfolding byte_at
value_of-requires-clause-mask_carries c = (asked (goal.at.value_of-requires-clause-mask_carries c).After-head_at-head).0

pub value_of-requires-2-clause-mask_carries : goal.value_of-requires-2-clause-mask_carries
unfolding byte_at
value_of-requires-2-clause-mask_carries c = (asked (goal.at.value_of-requires-2-clause-mask_carries c).After-head_at-head).1

pub returns : goal.returns
unfolding byte_at row_by
returns c s t =
    let h = (goal.at.returns c).After-head_at-head in
    let a = c.args.asked.now in
    let call = a.subject.call.now in
    let mask = mask_is h in
    row_is call.terms.now call.layout.now.starts a.schema call.placed.2 a.declared call.bytes.now a.subject.at (head_is h)
    (rw (c.record-record.ensures.0, c.record-record.ensures.1, c.record-record.ensures.2) at c.key.ensures)
    (rw (c.masked-carrier.ensures.at_place, c.record-record.ensures.2) at (c.value_of.ensures (terms_of call.terms.now) mask))
    (rw (c.masked-carrier.ensures.at_place, c.record-record.ensures.2) at (c.value_of-2.ensures (terms_of call.terms.now) mask)) s t
