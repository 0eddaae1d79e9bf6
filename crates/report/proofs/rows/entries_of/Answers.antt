-- `entries_of` meets its contract: each entry by the times of the three clauses. Assumes nothing.
use borrow.Author.Rules.{rules}
use Rattle.report.proofs.Entries.{entries-here}
use Rattle.report.proofs.rows.entries_of.Goals as goal

pub returns : goal.returns
returns c =
    let a = c.args.asked.now in
    let call = a.subject.call.now in
    entries-here call.terms.now call.bytes.now call.layout.now.starts a.subject.at a.schema call.placed.2 a.declared
    (rw c.places.ensures.0 at c.norm_type-norm.ensures) (rw (c.record.ensures.0, c.record.ensures.1, c.record.ensures.2) at c.stamp-stamp.ensures) c.consequent_needs_all.ensures
    (rw (c.of-clauses.ensures.0.0, c.of-clauses.ensures.0.1) at c.clause_times.ensures) (rw (c.of-clauses.ensures.1.0, c.of-clauses.ensures.1.1) at c.clause_times-2.ensures)
    (rw (c.of-clauses.ensures.2.0, c.of-clauses.ensures.2.1) at c.clause_times-3.ensures) a.moment (search rules) (search rules) (search rules) (search rules) (search rules)
