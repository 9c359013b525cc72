-- What is ahead of the runs of a closed cycle, test by test.
use mathlib.Core.Path.{◌≡◌, ap}
use mathlib.Core.Bool.{true, false}
use mathlib.Core.List.{List, []}
use mathlib.Core.Option.{Option, some, none}
use Prim.Native.Nat.{ℕ, ◌≤◌}
use native.Mathlib.Omega.{arith}
use lib.Ieee.{Float}
use Rattle.binary64.specs.Doubles.{plus_zero}
use Rattle.std.specs.Prelude.{Ok, Err}
use Rattle.refusal.specs.Numbers.{Reply, reply_number, result_of}
use Rattle.refusal.specs.Result.{refused, done}
use Rattle.refusal.proofs.Numbers.{refusal-number}
use Rattle.protocol.specs.Prepare.{prepare}
use Rattle.protocol.specs.declared.Event.{Event}
use Rattle.protocol.specs.declared.Window.{Window}
use Rattle.preparation.specs.Preparation.{option_number}
use Rattle.preparation.proofs.Tests.{prepare-passes}
use Rattle.cycle.specs.declared.SteadyStateTolerance.{SteadyStateTolerance}
use Rattle.cycle.specs.Fold.{fold}
use Rattle.cycle.specs.Closed.{untimed, stopped, got, tolerance_passes, divided, ready}

-- a number above 0 is that of the preparation
number_some : (o : Option ℕ) {c : ℕ} → 1 ≤ c → c ≡ option_number o → some c ≡ o
number_some none l e = absurd (no l e)
  where
    no : {c : ℕ} → 1 ≤ c → c ≡ 0 → ⊥
    no l e = omega arith
number_some (some k) l e = ap some e

module _ (n : ℕ) (w : Window) (ss : List Float) (es : List Event) (tol : SteadyStateTolerance) where
  pub tolerance-stops : tolerance_passes tol ≡ false → stopped 19 plus_zero ≡ ready n w ss es tol
  unfolding ready
  tolerance-stops h = rw h

  module _ (h : tolerance_passes tol ≡ true) where
    pub fold-stops : {c : ℕ} → refused c ≡ fold n w ss es → stopped c plus_zero ≡ ready n w ss es tol
    unfolding ready
    fold-stops e = rw (h, ← e)

    module _ {fs : List Event} (e : done fs ≡ fold n w ss es) where
      prepare-stops : {c : ℕ} → 1 ≤ c → c ≡ option_number (prepare n (divided n w) [] fs) → stopped c plus_zero ≡ ready n w ss es tol
      unfolding ready
      prepare-stops l q = rw (h, ← e, ← number_some (prepare n (divided n w) [] fs) l q)

      ready-got : 0 ≡ option_number (prepare n (divided n w) [] fs) → got fs ≡ ready n w ss es tol
      unfolding ready
      ready-got q = rw (h, ← e, prepare-passes n (divided n w) [] fs q)

      pub prepared_as : (v : Reply) → reply_number v ≡ option_number (prepare n (divided n w) [] fs) → untimed (result_of v fs) ≡ ready n w ss es tol
      prepared_as (Ok u) q = ready-got q
      prepared_as (Err r) q = prepare-stops (refusal-number r) q
