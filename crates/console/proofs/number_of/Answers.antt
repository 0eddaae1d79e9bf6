-- The number has the bytes that it is read from.
use Rattle.std.proofs.Common.{arith}
use Rattle.console.proofs.RowReading.{all-bytes, four_back}
use Rattle.console.proofs.number_of.Goals as goal

pub returns : goal.returns
returns c = rw (c.u32_at.ensures) (four_back c.args.bytes.now c.requires (all-bytes c.args.bytes.now (λ i. omega (arith, c.type_inv.bytes i))))
