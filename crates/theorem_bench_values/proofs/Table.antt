-- The bench values, computed.
use mathlib.Core.Path.{refl}
use Prim.Native.Nat.{ℕ}
use mathlib.Core.List.{zip_with}
use lib.Ieee.{add, sub, mul, div, rem, neg, lt, le, eq, is_nan, of_int}
use Rattle.binary64.specs.Doubles.{magnitude, total_le, larger, smaller, floor_of}
use Rattle.binary64.specs.Sort.{sort_by, firsts}
use Rattle.matrix.specs.Matrix.{tabulate, table, sum_to, all_to, dot, product, quotient, plus, halved, identity}
use Rattle.matrix.specs.Exponential.{row_sum, norm_to, halvings, halving_count, halved_times, next_term, series, squarings, taylor, all_finite, exponential}
use Rattle.linear_pk_interval.specs.Interval.{block_cell, propagator, amount_to, propagated, interval}
use Rattle.linear_pk.specs.LinearPk.{diagonal_to, mammillary_rate, padded, kernel_of, state_count, matrix_finite, parameters_pass, passes, new, advance}
use Rattle.protocol.specs.Events.{target, is_reset, is_bolus, running, marks}
use Rattle.protocol.specs.Prepare.{prepare}
use Rattle.protocol.specs.Schedule.{flows, infusion_rate}
use Rattle.protocol.specs.Execute.{dosed, run_of}
use Rattle.cycle.specs.Fold.{fold}
use Rattle.cycle.specs.Closed.{closed}
use Rattle.theorem_bench_values.specs.BenchValues.{BenchValues}

-- what a computed instance opens
unfoldable pub opened : ℕ
unfolding add sub mul div rem neg lt le eq is_nan of_int magnitude larger smaller floor_of tabulate table sum_to all_to dot product quotient plus
    halved identity row_sum norm_to halvings halving_count halved_times next_term series squarings taylor all_finite exponential diagonal_to
    mammillary_rate padded kernel_of state_count matrix_finite parameters_pass passes new block_cell propagator amount_to propagated interval
    advance total_le sort_by firsts zip_with target is_reset is_bolus running marks prepare flows infusion_rate dosed run_of fold closed
opened = 0

pub bench_values : BenchValues
unfolding opened
bench_values = record {
  p1 = refl;
  p2 = refl;
  p3 = refl;
  p4 = refl;
  p5 = refl;
  p6 = refl;
  p7 = refl;
  p7_prepared = refl;
  p7_run = refl;
  p8 = refl;
  p8_more = refl;
  p9 = refl;
  p10 = refl;
  p10_sum = refl;
  p11 = refl;
  p11_apart = refl;
}
