-- The verdict, and how long the texts are.
use mathlib.Core.Path.{◌≡◌, refl}
use mathlib.Core.Bool.{Bool, true, false, cond}
use mathlib.Core.List.{List}
use Prim.Native.Nat.{ℕ, ◌≤◌}
use native.Mathlib.Omega.{arith}
use lib.ListN.{length, take, length-append}
use lib.Seq.{length-take-le}
use lib.Ieee.{Float}
use Rattle.cycle.specs.declared.SteadyStateTolerance.{SteadyStateTolerance}
use Rattle.printout_cycle.proofs.Lengths.{lines_length_lem}
use Rattle.printout_cycle.specs.CyclePrintout.{NextCycle, cycle_lines, closes, verdict_line, lines_text, lines_length}

pub verdict_length : (b : Bool) → length (verdict_line b) ≡ cond b 7 11
unfolding verdict_line
verdict_length true = refl
verdict_length false = refl

verdict_some : (b : Bool) → 1 ≤ length (verdict_line b)
unfolding verdict_line
verdict_some true = omega arith
verdict_some false = omega arith

-- the text has bytes
pub text_some : (c : NextCycle) → 1 ≤ length (lines_text c)
unfolding lines_text
text_some c =
    let closed = closes c.tolerance c.starts c.ends c.residuals in
    omega (arith, length-append (cycle_lines c.tolerance c.starts c.ends) (verdict_line closed), verdict_some closed)

pub text-length : (tol : SteadyStateTolerance) (xs ys zs : List Float) → length ys ≡ length xs
    → {closed : Bool} → closed ≡ closes tol xs ys zs
    → length (lines_text (record { tolerance = tol; starts = xs; ends = ys; residuals = zs })) ≡ lines_length (length xs) closed
unfolding lines_text
text-length tol xs ys zs h {closed} c =
    rw (← c) (omega (arith, length-append (cycle_lines tol xs ys) (verdict_line closed), lines_length_lem tol xs ys h, verdict_length closed))

-- of the first states
pub front_length : (tol : SteadyStateTolerance) (n : ℕ) (xs ys zs : List Float) → n ≤ length xs → n ≤ length ys
    → {closed : Bool} → closed ≡ closes tol (take n xs) (take n ys) zs
    → length (lines_text (record { tolerance = tol; starts = take n xs; ends = take n ys; residuals = zs })) ≡ lines_length n closed
front_length tol n xs ys zs h l {closed} c =
    let a : length (take n xs) ≡ n = length-take-le n xs h in
    let r : length (take n ys) ≡ n = length-take-le n ys l in
    rw a at (text-length tol (take n xs) (take n ys) zs (omega (arith, a, r)) c)
