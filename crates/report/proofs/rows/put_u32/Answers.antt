-- `put_u32` meets its contract: the number's bytes, the low one first. Assumes nothing.
use native.Mathlib.Omega.{arith}
use native.Mathlib.Nat.{div-div-eq-div-mul}
use mathlib.Core.Path.{refl, ◌∙◌}
use Rattle.format.specs.Bytes.{bytes_of}
use Rattle.format.proofs.WrittenLaws.{written_part}
use Rattle.report.proofs.rows.put_u32.Goals as goal

pub returns : goal.returns
unfolding bytes_of
returns c =
    let n = c.args.n in
    written_part c.args.page.now c.args.at _ (c.copy_from_slice.ensures.after ∙ (c.to_le_bytes.ensures ∙ rw (div-div-eq-div-mul n 256 256, div-div-eq-div-mul n 65536 256) refl)) (omega arith)
