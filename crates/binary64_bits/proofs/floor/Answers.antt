-- `binary64_bits::floor` meets its contract: a value whose sign is set is handed back, below 1 the floor is 0, from 2 ^ 52 on x is whole,
-- and between the bits of the fraction are cleared. Assumes nothing.
use mathlib.Core.Path.{sym, ◌∙◌}
use borrow.Author.Rules.{rules}
use lib.Ieee.{binary64, of_bits}
use Rattle.binary64.specs.Doubles.{floor_of}
use Rattle.binary64.proofs.Tests.{is_nan_lem, is_real}
use Rattle.binary64.proofs.Units.{Good}
use Rattle.binary64_bits.proofs.Floors.{floor64_signed, floor64_whole, floor64_small, floor64_cut, floor64_real}
use Rattle.binary64_bits.proofs.floor.Goals as goal

good : (c : goal.Else-is_nan) → Good binary64 c.args.x
good c = (search rules, is_real c.args.x (sym c.is_nan.ensures.value ∙ c.if-is_nan.false))

pub returns-then-e-ge1075 : goal.returns-then-e-ge1075
returns-then-e-ge1075 c = floor64_whole c.args.x (good c.before.before) c.if-bits-ne0.false c.if-e-ge1075.true

pub returns-then-e-lt1023 : goal.returns-then-e-lt1023
unfolding of_bits
returns-then-e-lt1023 c = floor64_small c.args.x (good c.before.before.before) c.if-bits-ne0.false c.if-e-lt1023.true

pub float_from_bits-result : goal.float_from_bits-result
float_from_bits-result c = floor64_real c.args.x (good c.before.before.before) c.if-bits-ne0.false c.if-e-ge1075.false c.if-e-lt1023.false

pub returns : goal.returns
returns c = floor64_cut c.args.x (good c.before.before.before) c.if-bits-ne0.false c.if-e-ge1075.false c.if-e-lt1023.false

pub returns-then-is_nan : goal.returns-then-is_nan
unfolding floor_of
returns-then-is_nan c = rw (is_nan_lem c.args.x (sym c.is_nan.ensures.value ∙ c.if-is_nan.true))

pub float_to_bits-bits : goal.float_to_bits-bits
unfolding floor_of
float_to_bits-bits c = (good c).1

pub returns-then-bits-ne0 : goal.returns-then-bits-ne0
unfolding floor_of
returns-then-bits-ne0 c = floor64_signed c.args.x (good c.before).0 c.if-bits-ne0.true
