-- `printout_numbers::places` meets its contract.
use mathlib.Core.Path.{◌≡◌, sym, ◌∙◌}
use native.Mathlib.Omega.{arith}
use Prim.Native.Nat.{ℕ, zero, suc, max}
use Rattle.printout_numbers.specs.Digits.{places}
use Rattle.printout_numbers.proofs.Counts.{places-last, places_of_power}
use Rattle.printout_numbers.proofs.places.Goals as goal

-- 0 has as many digits as 1
at_least_one : (w v : ℕ) → v ≡ max w 1 → places 19 v ≡ places 19 w
at_least_one zero v e = places-last 19 v (omega arith) ∙ sym (places-last 19 0 (omega arith))
at_least_one (suc w) v e = let same : v ≡ suc w = omega arith in rw same

pub returns : goal.returns
returns c =
    let k = c.ilog10.result in
    let v = c.max.result in
    sym (places_of_power k 19 v (omega arith) c.ilog10.ensures.power_le c.ilog10.ensures.next_power_gt) ∙ at_least_one c.args.word v c.max.ensures
