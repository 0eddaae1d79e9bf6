-- `read_schema` meets its contract: its four readings one after another. Assumes nothing.
use mathlib.Core.Option.{bind}
use Rattle.format.specs.Grammar.{read_schema}
use Rattle.grammar.proofs.Steps.{schema-found}
use Rattle.grammar.proofs.read_schema.Goals as goal

pub returns-in_err-create : goal.returns-in_err-create
unfolding read_schema bind
returns-in_err-create c = rw (c.from_residual.ensures, c.in_err-create.ensures)

pub returns-in_err-detach : goal.returns-in_err-detach
unfolding read_schema bind
returns-in_err-detach c = rw (c.from_residual-in_err-detach.ensures, c.in_ok-create.ensures.1, c.in_err-detach.ensures)

pub returns-in_err-consequent : goal.returns-in_err-consequent
unfolding read_schema bind
returns-in_err-consequent c =
    rw (c.from_residual-in_err-consequent.ensures, c.in_ok-create.ensures.1, c.in_ok-detach.ensures.1, c.in_err-consequent.ensures)

pub returns-in_err-end : goal.returns-in_err-end
unfolding read_schema bind
returns-in_err-end c =
    rw (c.from_residual-in_err-end.ensures, c.in_ok-create.ensures.1, c.in_ok-detach.ensures.1, c.in_ok-consequent.ensures.1, c.in_err-end.ensures)

pub returns : goal.returns
returns c =
    let a = c.args in
    schema-found a.s.now a.at c.in_ok-create.create c.in_ok-detach.detach c.in_ok-consequent.consequent c.in_ok-end.end
    c.in_ok-create.ensures c.in_ok-detach.ensures c.in_ok-consequent.ensures c.in_ok-end.ensures
