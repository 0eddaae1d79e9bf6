-- `carries` meets its contract: a bit as the model tests it, and none past the mask. Assumes nothing.
use mathlib.Core.Path.{sym, ◌∙◌}
use borrow.Author.Tests.{le-ltb}
use Rattle.meaning.proofs.MaskLaws.{carries-bit, carries-high}
use Rattle.fields.proofs.carries.Goals as goal

pub returns-then-attribute-lt-ATTRIBUTES : goal.returns-then-attribute-lt-ATTRIBUTES
returns-then-attribute-lt-ATTRIBUTES c = carries-bit _ _

pub returns-else-attribute-lt-ATTRIBUTES : goal.returns-else-attribute-lt-ATTRIBUTES
returns-else-attribute-lt-ATTRIBUTES c =
    let past = c.if-attribute-lt-ATTRIBUTES.false in
    le-ltb _ _ past ∙ sym (carries-high 16 _ _ c.ranges.mask.fits past)
