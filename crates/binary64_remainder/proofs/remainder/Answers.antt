use mathlib.Core.Path.{sym, ◌∙◌}
use borrow.Author.Rules.{rules}
use native.Mathlib.Omega.{arith}
use Rattle.binary64.proofs.Tests.{is_nan_lem, is_real}
use Rattle.binary64_remainder.proofs.Values.{no_number, by_no_number, by_infinity, is_number, below_infinity, by_zero, above_zero, below_zero}
use Rattle.binary64_remainder.proofs.remainder.Goals as goal

pub returns-then-not-is_finite : goal.returns-then-not-is_finite
unfolding lib.Ieee.of_bits lib.Ieee.div
returns-then-not-is_finite c = no_number c.args.x c.args.y (search rules)

pub returns-then-is_nan : goal.returns-then-is_nan
returns-then-is_nan c = by_no_number c.args.x c.args.y (is_nan_lem c.args.y (sym c.is_nan.ensures.value ∙ c.if-is_nan.true))

pub returns-then-not-is_finite-2 : goal.returns-then-not-is_finite-2
returns-then-not-is_finite-2 c = by_infinity c.args.x c.args.y (search rules) (search rules) (is_real c.args.y (sym c.is_nan.ensures.value ∙ c.if-is_nan.false))

pub float_to_bits-a : goal.float_to_bits-a
float_to_bits-a c = is_number c.args.x (search rules)

pub returns-then-b-eq0 : goal.returns-then-b-eq0
unfolding lib.Ieee.of_bits lib.Ieee.div
returns-then-b-eq0 c = by_zero c.args.x c.args.y (search rules) (search rules) (search rules) c.if-b-eq0.true

pub of_patterns-r-requires : goal.of_patterns-r-requires
of_patterns-r-requires c = (below_infinity c.args.x (search rules) (search rules), search (rules, arith), below_infinity c.args.y (search rules) (search rules))

pub returns-then-a-lt9223372036854775808 : goal.returns-then-a-lt9223372036854775808
returns-then-a-lt9223372036854775808 c =
    above_zero c.args.x c.args.y c.of_patterns-r.result (search rules) (search rules) (search rules) (search rules) (search rules) c.of_patterns-r.ensures c.if-a-lt9223372036854775808.true

pub returns-else-a-lt9223372036854775808 : goal.returns-else-a-lt9223372036854775808
returns-else-a-lt9223372036854775808 c =
    below_zero c.args.x c.args.y c.of_patterns-r.result (search rules) (search rules) (search rules) (search rules) (search rules) c.of_patterns-r.ensures c.if-a-lt9223372036854775808.false
