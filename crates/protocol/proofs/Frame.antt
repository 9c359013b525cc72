-- What the proof of a run's code goes by: a part of the schedule runs as if from the start, with the budget that is left, and its rows and
-- advances come behind those so far.
-- Assumes nothing.
use mathlib.Core.Path.{◌≡◌, refl, sym, ap, ap₂, ◌∙◌, subst}
use Prim.Native.Nat.{ℕ, ◌-◌}
use native.Mathlib.Omega.{arith}
use mathlib.Core.Bool.{Bool, true, false, cond}
use mathlib.Core.List.{List, [], ◌∷◌, ◌++◌, append_assoc, append-nil}
use lib.Dec.{T, ltb}
use lib.ListN.{length, length-append}
use lib.Ieee.{Float, binary64, sub}
use lib.Ieee.Scale.{finite}
use Rattle.binary64.specs.Doubles.{plus_zero, nonnegative}
use Rattle.binary64.proofs.Tests.{iff_ltb}
use Rattle.binary64.specs.Lists.{all}
use Rattle.refusal.specs.Result.{Result, refused, done}
use Rattle.protocol.specs.Schedule.{Step, check, pre, post, apply, rates, reading, arrive}
use Rattle.protocol.specs.Execute.{Propagator, Row, Side, Pre, Post, Reading, Advance, State, Outcome, go, stop, and_then}
use Rattle.protocol.specs.Execute.{with_amounts, with_row, with_advance, dosed_amounts, after_advance, propagate, execute, run, begin}
use Rattle.protocol.proofs.FirstStop.{run-append}

-- rows and advances in front
abbrev pub behind : List Row → List Advance → State → State
behind rs ms s = record { amounts = s.amounts; rows = rs ++ s.rows; advances = ms ++ s.advances }

abbrev pub out_behind : List Row → List Advance → Outcome → Outcome
out_behind rs ms (go s) = go (behind rs ms s)
out_behind rs ms (stop c t s) = stop c t (behind rs ms s)

module _ (rs : List Row) (ms : List Advance) where
  row_behind : (t : Float) (d : Side) (a : List Float) (s : State) → with_row t d a (behind rs ms s) ≡ behind rs ms (with_row t d a s)
  row_behind t d a s =
      ap (λ (r : List Row). record { amounts = s.amounts; rows = r; advances = ms ++ s.advances })
      (append_assoc rs s.rows (record { time = t; side = d; amounts = a } ∷ []))

  counted_behind : (t u : Float) (s : State) → with_advance t u (behind rs ms s) ≡ behind rs ms (with_advance t u s)
  counted_behind t u s =
      ap (λ (m : List Advance). record { amounts = s.amounts; rows = rs ++ s.rows; advances = m })
      (append_assoc ms s.advances (record { origin = t; time = u } ∷ []))

  cond_behind : (b : Bool) (s : State) (c : ℕ) (t : Float)
      → cond b (go (behind rs ms s)) (stop c t (behind rs ms s)) ≡ out_behind rs ms (cond b (go s) (stop c t s))
  cond_behind true s c t = refl
  cond_behind false s c t = refl

  module _ (advance : Propagator) (budget : ℕ) where
    left_over : (s : State) → ltb (length (ms ++ s.advances)) budget ≡ ltb (length s.advances) (budget - length ms)
    left_over s =
        iff_ltb (length (ms ++ s.advances)) budget (length s.advances) (budget - length ms)
        (λ h. omega (arith, length-append ms s.advances)) (λ h. omega (arith, length-append ms s.advances))

    propagate-behind : (t : Float) (r : List Float) (u : Float) (k : List Float → State → State)
        → ((a : List Float) (s : State) → k a (behind rs ms s) ≡ behind rs ms (k a s))
        → (s : State) → propagate advance budget t r u k (behind rs ms s) ≡ out_behind rs ms (propagate advance (budget - length ms) t r u k s)
    unfolding propagate
    propagate-behind t r u k f s =
        on (ltb (length (ms ++ s.advances)) budget) (ltb (length s.advances) (budget - length ms)) (left_over s) (advance s.amounts r (sub binary64 u t))
      where
        on : (b b' : Bool) → b ≡ b' → (m : Result (List Float))
            → cond b (after_advance u (with_advance t u (behind rs ms s)) (λ (a : List Float). k a (with_advance t u (behind rs ms s))) m)
            (stop 30 u (with_advance t u (behind rs ms s)))
            ≡ out_behind rs ms (cond b' (after_advance u (with_advance t u s) (λ (a : List Float). k a (with_advance t u s)) m) (stop 30 u (with_advance t u s)))
        on true true q (done a) = ap (λ (x : State). go (k a x)) (counted_behind t u s) ∙ ap go (f a (with_advance t u s))
        on true true q (refused c) = ap (stop c u) (counted_behind t u s)
        on false false q m = ap (stop 30 u) (counted_behind t u s)
        on true false q m = absurd (subst T q tt)
        on false true q m = absurd (subst T (sym q) tt)

    step-behind : (x : Step) (s : State) → execute advance budget (behind rs ms s) x ≡ out_behind rs ms (execute advance (budget - length ms) s x)
    unfolding execute
    step-behind (check t) s = cond_behind (all nonnegative s.amounts) s 31 t
    step-behind (pre t) s = ap go (row_behind t Pre s.amounts s)
    step-behind (post t) s = ap go (row_behind t Post s.amounts s)
    step-behind (apply t e) s = cond_behind (all nonnegative (dosed_amounts e s.amounts)) (with_amounts (dosed_amounts e s.amounts) s) 31 t
    step-behind (rates r) s = cond_behind (all finite r) s 32 plus_zero
    step-behind (reading t r u) s = propagate-behind t r u (λ (a : List Float). with_row u Reading a) (λ a z. row_behind u Reading a z) s
    step-behind (arrive t r u) s = propagate-behind t r u (λ (a : List Float). with_amounts a) (λ a z. refl) s

    pub run-behind : (xs : List Step) (s : State) → run advance budget (behind rs ms s) xs ≡ out_behind rs ms (run advance (budget - length ms) s xs)
    unfolding run
    run-behind [] s = refl
    run-behind (x ∷ xs) s = ap (λ (o : Outcome). and_then o (λ (z : State). run advance budget z xs)) (step-behind x s)
        ∙ on (execute advance (budget - length ms) s x) (run-behind xs)
      where
        on : (o : Outcome) → ((z : State) → run advance budget (behind rs ms z) xs ≡ out_behind rs ms (run advance (budget - length ms) z xs))
            → and_then (out_behind rs ms o) (λ (z : State). run advance budget z xs)
            ≡ out_behind rs ms (and_then o (λ (z : State). run advance (budget - length ms) z xs))
        on (go z) ih = ih z
        on (stop c t z) ih = refl

-- one part of the schedule and then the other, each from a start of its own
pub run-parts : (advance : Propagator) (budget : ℕ) (xs ys : List Step) (a : List Float)
    → run advance budget (begin a) (xs ++ ys) ≡ and_then (run advance budget (begin a) xs)
    (λ (z : State). out_behind z.rows z.advances (run advance (budget - length z.advances) (begin z.amounts) ys))
run-parts advance budget xs ys a = run-append advance budget xs ys (begin a) ∙ on (run advance budget (begin a) xs)
  where
    whole : (z : State) → behind z.rows z.advances (begin z.amounts) ≡ z
    whole z =
        ap₂ (λ (r : List Row) (m : List Advance). record { amounts = z.amounts; rows = r; advances = m }) (append-nil z.rows)
        (append-nil z.advances)

    next : (z : State) → run advance budget z ys ≡ out_behind z.rows z.advances (run advance (budget - length z.advances) (begin z.amounts) ys)
    next z = ap (λ (x : State). run advance budget x ys) (sym (whole z)) ∙ run-behind z.rows z.advances advance budget ys (begin z.amounts)

    on : (o : Outcome) → and_then o (λ (z : State). run advance budget z ys)
        ≡ and_then o (λ (z : State). out_behind z.rows z.advances (run advance (budget - length z.advances) (begin z.amounts) ys))
    on (go z) = next z
    on (stop c t z) = refl
