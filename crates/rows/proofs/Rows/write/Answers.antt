-- `rows::Rows::write` meets its contract.
use Rattle.rows.proofs.Rows.write.Goals as goal

pub returns-clause-row : goal.returns-clause-row
returns-clause-row c = rw (c.write_row.ensures.times_after, c.write_row.ensures.sides_after, c.from.ensures, c.write_row.ensures.values_after)
