-- Bytes that are too few, or whose first eighteen are no row, start with none.
use Rattle.std.proofs.Common.{refl, sym, ◌∙◌}
use Rattle.console.proofs.RowReading.{none_front, none_short}
use Rattle.console.proofs.split_row.Goals as goal

pub returns-then-bytes-lt-ROW_LENGTH-clause-none : goal.returns-then-bytes-lt-ROW_LENGTH-clause-none
returns-then-bytes-lt-ROW_LENGTH-clause-none c none = none_short c.args.bytes.now c.if-bytes-lt-ROW_LENGTH.true

pub returns-in_err-row_of-clause-none : goal.returns-in_err-row_of-clause-none
returns-in_err-row_of-clause-none c none = none_front c.args.bytes.now (λ row e. c.in_err-row_of.ensures.none refl row (e ∙ sym c.split_at.ensures.front))
