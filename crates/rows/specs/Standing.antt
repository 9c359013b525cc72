-- Where a part of the schedule comes to, and the rows that it makes: what a block of the run's code gives. Definitions only.
use Rattle.std.specs.Prelude.{◌≡◌, ℕ, ◌+◌, ◌-◌, ◌≤◌, Bool, true, false, List, length, take, Float, Ok, Err, Result as Outcome}
use Rattle.limits.specs.Limits.{states}
use Rattle.binary64.specs.Doubles.{plus_zero}
use Rattle.refusal.specs.Numbers.{refusal_number}
use Rattle.matrix.specs.Exponential.{scheme}
use Rattle.linear_pk.specs.declared.kernel.LinearPk.{LinearPk}
use Rattle.linear_pk.specs.LinearPk.{advance}
use Rattle.protocol.specs.Schedule.{Step, row_count, total}
use Rattle.protocol.specs.Execute.{Propagator, Row, go, stop, run, begin, Outcome as RunOutcome}
use Rattle.protocol.specs.PlainRun.{rows_left}
use Rattle.rows.specs.Written.{Cells, written, RoomForRows}
use Rattle.rows.specs.declared.Progress.{Progress}
use Rattle.rows.specs.declared.Stopped.{Stopped}

-- a progress, with 01's number of its refusal and the amounts as a list
pub record Standing : Type 0 where
  pub stopped : Bool
  pub number : ℕ
  pub time : Float
  pub amounts : List Float
  pub left : ℕ
  pub made : ℕ
  pub rows : ℕ

-- a progress of n states: the array's cells behind the n amounts do not matter
abbrev pub standing : ℕ → Progress → Standing
standing n p = record {
  stopped = false;
  number = 0;
  time = plus_zero;
  amounts = take n p.amounts;
  left = p.left;
  made = p.made;
  rows = p.rows;
}

-- what a block gives, of n states: where the run goes on from, or where it stopped
abbrev pub came_to : ℕ → Outcome Progress Stopped → Standing
came_to n (Ok p) = standing n p
came_to n (Err s) = record {
  stopped = true;
  number = refusal_number s.refusal;
  time = s.time;
  amounts = take n s.at.amounts;
  left = s.at.left;
  made = s.at.made;
  rows = s.at.rows;
}

-- an outcome, behind what was made and written so far
abbrev pub behind_of : Standing → RunOutcome → Standing
behind_of s (go z) = record {
  stopped = false;
  number = 0;
  time = plus_zero;
  amounts = z.amounts;
  left = s.left - length z.advances;
  made = s.made + length z.advances;
  rows = s.rows + length z.rows;
}
behind_of s (stop c t z) = record {
  stopped = true;
  number = c;
  time = t;
  amounts = z.amounts;
  left = s.left - length z.advances;
  made = s.made + length z.advances;
  rows = s.rows + length z.rows;
}

-- the part xs of a schedule, run from the amounts of s with the budget that is left: where it comes to, and its rows
unfoldable pub after : Propagator → Standing → List Step → Standing × List Row
after advance s xs = let o = run advance s.left (begin s.amounts) xs in (behind_of s o, rows_left o)

-- from `start` over `old` cells, the part xs gives the result r and the cells c
pub record Ran (advance : Propagator) (n : ℕ) (start : Progress) (xs : List Step) (old : Cells) (r : Outcome Progress Stopped) (c : Cells) : Type 0 where
  pub progress : came_to n r ≡ (after advance (standing n start) xs).0
  pub cells : c ≡ written n start.rows (after advance (standing n start) xs).1 old

-- room for the rows of the part xs, and its advances can be counted
pub record Fits (n : ℕ) (start : Progress) (xs : List Step) (c : Cells) : Type 0 where
  pub states : n ≤ states
  pub room : RoomForRows n (start.rows + total row_count xs) c
  pub few : start.made + length xs ≤ 4294967296

-- ---- the kernel's advance
unfoldable pub kernel_advance : LinearPk → ℕ → Propagator
kernel_advance k n a r d = advance scheme k a r d n
