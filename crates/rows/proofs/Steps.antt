-- Single steps of a schedule, in the words of the code.
use mathlib.Core.Path.{◌≡◌, refl, ap, ◌∙◌}
use Prim.Native.Nat.{ℕ, ◌+◌, ◌<◌}
use native.Mathlib.Nat.{add-zero, sub-zero}
use mathlib.Core.Bool.{Bool, true, false, cond}
use mathlib.Core.List.{List, [], ◌∷◌}
use borrow.Author.Tests.{lt-ltb}
use lib.Dec.{ltb}
use lib.ListN.{take}
use lib.Ieee.{Float, binary64, sub}
use lib.Ieee.Scale.{finite}
use Rattle.binary64.specs.Doubles.{plus_zero}
use Rattle.refusal.specs.declared.Refusal.{Refusal}
use Rattle.refusal.specs.declared.Refusal.TheVariants as R
use Rattle.std.specs.Prelude.{Ok, Err, Result as Reached}
use Rattle.refusal.specs.Numbers.{outcome_with}
use Rattle.refusal.specs.Result.{Result, refused, done}
use Rattle.binary64.specs.Lists.{all}
use Rattle.protocol.specs.Schedule.{rates, reading, arrive}
use Rattle.protocol.specs.Execute.{Propagator, Reading, Post, Row, State, Outcome, go, stop, and_then, with_amounts, with_row, with_advance}
use Rattle.protocol.specs.Execute.{after_advance, propagate, execute, run, begin}
use Rattle.protocol.specs.PlainRun.{rows_left}
use Rattle.rows.specs.Written.{Cells, with_row_at, RoomForRows}
use Rattle.rows.specs.Onward.{with_amounts as goes_on_with, stops_with, past_row, past_advance}
use Rattle.rows.specs.Standing.{Standing, standing, behind_of, after, Ran, Fits}
use Rattle.rows.specs.declared.Progress.{Progress}
use Rattle.rows.specs.declared.Stopped.{Stopped}

-- a reading by the advance to its time, which comes to p: it stops where that does, or its row is that advance's and it goes on with the amounts of s
abbrev read_by : Float → Standing → Standing → Standing × List Row
read_by u s p =
    cond p.stopped (p, []) (
      record { stopped = false; number = 0; time = plus_zero; amounts = s.amounts; left = p.left; made = p.made; rows = p.rows + 1 },
      record { time = u; side = Reading; amounts = p.amounts } ∷ [],
    )

module _ (advance : Propagator) (s : Standing) (t : Float) (r : List Float) (u : Float) where
  read_after : ((after advance s (arrive t r u ∷ [])).0.rows ≡ s.rows)
      × (after advance s (reading t r u ∷ []) ≡ read_by u s (after advance s (arrive t r u ∷ [])).0)
  unfolding after run execute propagate
  read_after = on (ltb 0 s.left) (advance s.amounts r (sub binary64 u t))
    where
      made : State
      made = with_advance t u (begin s.amounts)

      out : Bool → Result (List Float) → (List Float → State) → Outcome
      out b m k = and_then (cond b (after_advance u made k m) (stop 30 u made)) go

      on : (b : Bool) (m : Result (List Float))
          → ((behind_of s (out b m (λ (a : List Float). with_amounts a made))).rows ≡ s.rows)
          × (◌≡◌ {A = Standing × List Row} (
            behind_of s (out b m (λ (a : List Float). with_row u Reading a made)),
            rows_left (out b m (λ (a : List Float). with_row u Reading a made)),
          )
          (read_by u s (behind_of s (out b m (λ (a : List Float). with_amounts a made)))))
      on true (done a) = (add-zero s.rows, rw add-zero)
      on true (refused x) = (add-zero s.rows, refl)
      on false m = (add-zero s.rows, refl)

module _ {advance : Propagator} {n : ℕ} (start : Progress) (c : Cells) where
  module _ (t : Float) (r : List Float) (u : Float) where
    -- ---- the advance to u
    pub arrive-spent : start.left ≡ 0 → Ran advance n start (arrive t r u ∷ []) c (Err (stops_with (past_advance start) R.PropagationBudget u)) c
    unfolding after run execute propagate
    arrive-spent z = record { progress = rw (z, add-zero start.rows); cells = rw z }

    module _ {m : Reached (List Float) Refusal} (g : 0 < start.left) (e : outcome_with (take n) m ≡ advance (take n start.amounts) r (sub binary64 u t)) where
      pub arrive-refused : (x : Refusal) → m ≡ Err x → Ran advance n start (arrive t r u ∷ []) c (Err (stops_with (past_advance start) x u)) c
      unfolding after run execute propagate
      arrive-refused x f = record { progress = rw (lt-ltb 0 start.left g, ← e, f, add-zero start.rows); cells = rw (lt-ltb 0 start.left g, ← e, f) }

      pub arrive-done : (a : List Float) → m ≡ Ok a → Ran advance n start (arrive t r u ∷ []) c (Ok (goes_on_with (past_advance start) a)) c
      unfolding after run execute propagate
      arrive-done a f = record { progress = rw (lt-ltb 0 start.left g, ← e, f, add-zero start.rows); cells = rw (lt-ltb 0 start.left g, ← e, f) }

    -- ---- a reading at u: the row of that advance, and on with the amounts at t
    pub reading-stops : {z : Stopped} → Ran advance n start (arrive t r u ∷ []) c (Err z) c → Ran advance n start (reading t r u ∷ []) c (Err z) c
    reading-stops h =
        let e = (read_after advance (standing n start) t r u).1 in
        record { progress = rw (e, ← h.progress); cells = rw (e, ← h.progress) }

    module _ {p : Progress} (h : Ran advance n start (arrive t r u ∷ []) c (Ok p) c) where
      pub arrive-rows : p.rows ≡ start.rows
      arrive-rows = ap (λ (s : Standing). s.rows) h.progress ∙ (read_after advance (standing n start) t r u).0

      pub reading-room : Fits n start (reading t r u ∷ []) c → RoomForRows n (p.rows + 1) c
      reading-room f = rw arrive-rows f.room

      pub reading-goes :
          {q : Progress} {d : Cells} → q ≡ past_row p → d ≡ with_row_at n p.rows (record { time = u; side = Post; amounts = take n p.amounts }) c
          → Ran advance n start (reading t r u ∷ []) c (Ok (goes_on_with q start.amounts)) d
      reading-goes k w =
          let e = (read_after advance (standing n start) t r u).1 in
          record { progress = rw (k, e, ← h.progress); cells = rw (w, arrive-rows, e, ← h.progress) }

  -- ---- the summed rates
  pub rates-refused :
      (r : List Float) → all finite r ≡ false
      → Ran advance n start (rates r ∷ []) c (Err (stops_with start R.SummedRates plus_zero)) c
  unfolding after run execute
  rates-refused r h = record { progress = rw (h, sub-zero start.left, add-zero start.made, add-zero start.rows); cells = rw h }

  pub rates-pass :
      (r : List Float) → all finite r ≡ true
      → Ran advance n start (rates r ∷ []) c (Ok start) c
  unfolding after run execute
  rates-pass r h = record { progress = rw (h, sub-zero start.left, add-zero start.made, add-zero start.rows); cells = rw h }
