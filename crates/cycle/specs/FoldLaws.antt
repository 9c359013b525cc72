-- What holds of a folded list: at most three pieces for an event, and it passes the preparation again but for 13 and 14, with its doses and
-- resets zeroed too. A claim, no proof.
use Rattle.std.specs.Prelude.{◌≡◌, ℕ, ◌*◌, ◌≤◌, List, [], ◌∷◌, T, leb, length, Float}
use Rattle.std.proofs.Math.Option.{Option}
use Rattle.refusal.specs.Result.{refused, done}
use Rattle.protocol.specs.declared.Event.{Event}
use Rattle.protocol.specs.declared.Window.{Window}
use Rattle.protocol.specs.First.{unless, first_of}
use Rattle.protocol.specs.Prepare.{reckoned, prepare}
use Rattle.protocol.specs.PlainRun.{one_of}
use Rattle.cycle.specs.Fold.{fold}
use Rattle.cycle.specs.Closed.{divided, homogeneous}

-- of the preparation without samples, 13 and 14 alone
abbrev pub budget_number : ℕ → Window → List Event → Option ℕ
budget_number n w es = first_of (unless (leb (length es) w.events) 13 ∷ unless (leb (reckoned [] es * n) w.outputs) 14 ∷ [])

pub record FoldLaws (n : ℕ) (w : Window) (ss : List Float) (es : List Event) : Type 0 where
  pub numbers : (c : ℕ) → fold n w ss es ≡ refused c → T (one_of c (10 ∷ 11 ∷ 12 ∷ 13 ∷ 15 ∷ 16 ∷ 17 ∷ 18 ∷ []))
  -- at most three pieces for an event, and so `most_events` for `most_cycle_events`
  pub pieces : (fs : List Event) → fold n w ss es ≡ done fs → length fs ≤ 3 * length es
  -- with budgets divided by k + 2 it passes 10, 11 and 12 again
  pub passes : (fs : List Event) → fold n w ss es ≡ done fs → (k : ℕ) → prepare n (divided k w) [] fs ≡ budget_number n (divided k w) fs
  -- and zeroed it passes just where it does as it is
  pub zeroed-passes : (fs : List Event) → fold n w ss es ≡ done fs → (k : ℕ) → prepare n (divided k w) [] (homogeneous fs) ≡ prepare n (divided k w) [] fs

abbrev pub EveryFold : Type 0
EveryFold = (n : ℕ) (w : Window) (ss : List Float) (es : List Event) → FoldLaws n w ss es
