-- `rows_interval::read_all` meets its contract. The invariant: the readings among the first samples are made.
use Rattle.rows.specs.Lent.{cells_of, SameSlices}
use Rattle.rows.specs.Legs.{moves, rates_of}
use Rattle.rows_interval.proofs.Readings.{Through}
use Rattle.rows_interval.proofs.read_all.Given as goal

abbrev pub invariant-loop-s : goal.invariant-loop-s
invariant-loop-s l =
    Through (moves l.leg) l.leg.n l.initial.p l.leg.t (rates_of l.leg) l.u l.samples (cells_of l.initial.rows) l.p l.s-index (cells_of l.rows)
    × SameSlices l.initial.rows l.rows
