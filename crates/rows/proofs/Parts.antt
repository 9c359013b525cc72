-- Parts of a schedule in a row: what a block of the code gives goes on as the start of the next.
use mathlib.Core.Path.{◌≡◌, refl, sym, ap, ap₂, ◌∙◌, subst}
use Prim.Native.Nat.{ℕ, suc, ◌+◌, ◌-◌, ◌≤◌}
use native.Mathlib.Nat.{add-zero, sub-zero}
use native.Mathlib.Omega.{arith}
use mathlib.Core.Bool.{Bool, true, false, cond}
use mathlib.Core.List.{List, [], ◌∷◌, ◌++◌}
use lib.Dec.{T, ltb}
use lib.ListN.{length, length-append}
use lib.Ieee.{Float, binary64, sub}
use lib.Ieee.Scale.{finite}
use Rattle.binary64.specs.Doubles.{plus_zero, nonnegative}
use Rattle.refusal.specs.Result.{Result, refused, done}
use Rattle.binary64.specs.Lists.{all}
use Rattle.protocol.specs.Schedule.{Step, check, pre, post, apply, rates, reading, arrive, row_count, total}
use Rattle.protocol.specs.Execute.{Propagator, Row, Advance, State, Outcome, go, stop, and_then, after_advance, with_advance, with_row}
use Rattle.protocol.specs.Execute.{with_amounts, dosed_amounts, Reading, propagate, execute, run, begin}
use Rattle.protocol.specs.PlainRun.{rows_left}
use Rattle.protocol.proofs.Frame.{out_behind, run-parts}
use Rattle.protocol.proofs.RowCounts.{total-append, rows-most}
use Rattle.rows.specs.Written.{Cells, written}
use Rattle.std.specs.Prelude.{Ok, Err, Result as Reached}
use Rattle.rows.specs.Standing.{Standing, standing, behind_of, after, Ran, Fits}
use Rattle.rows.specs.declared.Progress.{Progress}
use Rattle.rows.specs.declared.Stopped.{Stopped}
use Rattle.rows.proofs.Puts.{written-append, Same, written_same, room_less}

no : true ≡ false → ⊥
no h = subst T h tt

-- ---- how many advances a part makes
abbrev advances_left : Outcome → List Advance
advances_left (go z) = z.advances
advances_left (stop c t z) = z.advances

module _ (advance : Propagator) (budget : ℕ) where
  abbrev Most : ℕ → Outcome → Type 0
  Most k o = length (advances_left o) ≤ k

  cond_most : (b : Bool) (k : ℕ) (s : State) (c : ℕ) (t : Float) → length s.advances ≤ k → Most k (cond b (go s) (stop c t s))
  cond_most true k s c t h = h
  cond_most false k s c t h = h

  propagate-most :
      (t : Float) (r : List Float) (u : Float) (k : List Float → State → State) → ((a : List Float) (s : State) → (k a s).advances ≡ s.advances)
      → (s : State) → Most (length s.advances + 1) (propagate advance budget t r u k s)
  unfolding propagate
  propagate-most t r u k f s = on (ltb (length s.advances) budget) (advance s.amounts r (sub binary64 u t))
    where
      one : length (with_advance t u s).advances ≤ length s.advances + 1
      one = omega (arith, length-append s.advances (record { origin = t; time = u } ∷ []))

      on :
          (b : Bool) (m : Result (List Float))
          → Most (length s.advances + 1) (cond b (after_advance u (with_advance t u s) (λ (a : List Float). k a (with_advance t u s)) m)
          (stop 30 u (with_advance t u s)))
      on true (done a) = subst (λ (x : List Advance). length x ≤ length s.advances + 1) (sym (f a (with_advance t u s))) one
      on true (refused c) = one
      on false m = one

  step-most : (x : Step) (s : State) → Most (length s.advances + 1) (execute advance budget s x)
  unfolding execute
  step-most (check t) s = cond_most (all nonnegative s.amounts) (length s.advances + 1) s 31 t (omega arith)
  step-most (pre t) s = omega arith
  step-most (post t) s = omega arith
  step-most (apply t e) s = cond_most (all nonnegative (dosed_amounts e s.amounts)) (length s.advances + 1)
      (with_amounts (dosed_amounts e s.amounts) s) 31 t (omega arith)
  step-most (rates r) s = cond_most (all finite r) (length s.advances + 1) s 32 plus_zero (omega arith)
  step-most (reading t r u) s = propagate-most t r u (λ (a : List Float). with_row u Reading a) (λ a z. refl) s
  step-most (arrive t r u) s = propagate-most t r u (λ (a : List Float). with_amounts a) (λ a z. refl) s

  run-most : (xs : List Step) (s : State) → Most (length s.advances + length xs) (run advance budget s xs)
  unfolding run
  run-most [] s = omega arith
  run-most (x ∷ xs) s = on (execute advance budget s x) (step-most x s) (run-most xs)
    where
      on :
          (o : Outcome) → Most (length s.advances + 1) o → ((z : State) → Most (length z.advances + length xs) (run advance budget z xs))
          → Most (length s.advances + suc (length xs)) (and_then o (λ (z : State). run advance budget z xs))
      on (go z) h ih = let g = ih z in omega arith
      on (stop c t z) h ih = omega arith

-- ---- one part behind the other
module _ (advance : Propagator) (s : Standing) where
  part-behind :
      (z : State) (o : Outcome)
      → ◌≡◌ {A = Standing × List Row} (behind_of s (out_behind z.rows z.advances o), rows_left (out_behind z.rows z.advances o))
      (behind_of (behind_of s (go z)) o, z.rows ++ rows_left o)
  part-behind z (go y) =
      let e : s.left - length (z.advances ++ y.advances)
      ≡ s.left - length z.advances - length y.advances = omega (arith, length-append z.advances y.advances) in
      let f : s.made + length (z.advances ++ y.advances)
      ≡ s.made + length z.advances + length y.advances = omega (arith, length-append z.advances y.advances) in
      let g : s.rows + length (z.rows ++ y.rows) ≡ s.rows + length z.rows + length y.rows = omega (arith, length-append z.rows y.rows) in
      rw (e, f, g)
  part-behind z (stop c t y) =
      let e : s.left - length (z.advances ++ y.advances)
      ≡ s.left - length z.advances - length y.advances = omega (arith, length-append z.advances y.advances) in
      let f : s.made + length (z.advances ++ y.advances)
      ≡ s.made + length z.advances + length y.advances = omega (arith, length-append z.advances y.advances) in
      let g : s.rows + length (z.rows ++ y.rows) ≡ s.rows + length z.rows + length y.rows = omega (arith, length-append z.rows y.rows) in
      rw (e, f, g)

  abbrev both : Outcome → Standing × List Row
  both o = (behind_of s o, rows_left o)

  abbrev next : List Step → State → Outcome
  next ys z = out_behind z.rows z.advances (run advance (s.left - length z.advances) (begin z.amounts) ys)

  after-stops : (xs ys : List Step) → (after advance s xs).0.stopped ≡ true → after advance s (xs ++ ys) ≡ after advance s xs
  unfolding after
  after-stops xs ys h = ap both (run-parts advance s.left xs ys s.amounts) ∙ on (run advance s.left (begin s.amounts) xs) h
    where
      on : (o : Outcome) → (behind_of s o).stopped ≡ true → both (and_then o (next ys)) ≡ both o
      on (go z) h = absurd (no (sym h))
      on (stop c t z) h = refl

  after-goes :
      (xs ys : List Step) → (after advance s xs).0.stopped ≡ false
      → after advance s (xs ++ ys) ≡ ((after advance (after advance s xs).0 ys).0, (after advance s xs).1 ++ (after advance (after advance s xs).0 ys).1)
  unfolding after
  after-goes xs ys h = ap both (run-parts advance s.left xs ys s.amounts) ∙ on (run advance s.left (begin s.amounts) xs) h
    where
      on :
          (o : Outcome) → (behind_of s o).stopped ≡ false
          → both (and_then o (next ys)) ≡ ((after advance (behind_of s o) ys).0, rows_left o ++ (after advance (behind_of s o) ys).1)
      on (go z) h = part-behind z (run advance (s.left - length z.advances) (begin z.amounts) ys)
      on (stop c t z) h = absurd (no h)

  after-rows : (xs : List Step) → ((after advance s xs).0.rows ≡ s.rows + length (after advance s xs).1)
      × (length (after advance s xs).1 ≤ total row_count xs)
  unfolding after
  after-rows xs = (on (run advance s.left (begin s.amounts) xs), rows-most advance s.left s.amounts xs)
    where
      on : (o : Outcome) → (behind_of s o).rows ≡ s.rows + length (rows_left o)
      on (go z) = refl
      on (stop c t z) = refl

  after-made : (xs : List Step) → (after advance s xs).0.made ≤ s.made + length xs
  unfolding after
  after-made xs = on (run advance s.left (begin s.amounts) xs) (run-most advance s.left xs (begin s.amounts))
    where
      on : (o : Outcome) → length (advances_left o) ≤ 0 + length xs → (behind_of s o).made ≤ s.made + length xs
      on (go z) h = omega arith
      on (stop c t z) h = omega arith

pub fits_first : {n : ℕ} {start : Progress} (xs ys : List Step) {c : Cells} → Fits n start (xs ++ ys) c → Fits n start xs c
fits_first {n} {start} xs ys {c} f = record {
  states = f.states;
  room =
      room_less n (start.rows + total row_count xs) (start.rows + total row_count (xs ++ ys)) c c
      (omega (arith, total-append row_count xs ys)) (record { times = refl; sides = refl; values = refl }) f.room;
  few = omega (arith, f.few, length-append xs ys);
}

-- ---- blocks in a row
module _ {advance : Propagator} {n : ℕ} where
  pub ran-same : {start : Progress} {r : Reached Progress Stopped} {xs : List Step} {old c : Cells} → Ran advance n start xs old r c → Same old c
  ran-same {start} {r} {xs} {old} {c} h = subst (λ (x : Cells). Same old x) (sym h.cells)
      (written_same n start.rows (after advance (standing n start) xs).1 old)

  pub ran-stops :
      {start : Progress} {z : Stopped} {xs : List Step} (ys : List Step) {old c : Cells} → Ran advance n start xs old (Err z) c
      → Ran advance n start (xs ++ ys) old (Err z) c
  ran-stops {start} {z} {xs} ys {old} {c} h =
      let w = after-stops advance (standing n start) xs ys (ap (λ (x : Standing). x.stopped) (sym h.progress)) in
      record {
        progress = h.progress ∙ ap (λ (v : Standing × List Row). v.0) (sym w);
        cells = h.cells ∙ ap (λ (v : Standing × List Row). written n start.rows v.1 old) (sym w);
      }

  pub ran_then :
      {start p : Progress} {r : Reached Progress Stopped} {xs ys : List Step} {old c d : Cells} → Ran advance n start xs old (Ok p) c
      → Ran advance n p ys c r d → Ran advance n start (xs ++ ys) old r d
  ran_then {start} {p} {r} {xs} {ys} {old} {c} {d} h g =
      let u = standing n start in
      let w = after-goes advance u xs ys (ap (λ (x : Standing). x.stopped) (sym h.progress)) in
      let j : p.rows ≡ start.rows + length (after advance u xs).1 = ap (λ (x : Standing). x.rows) h.progress ∙ (after-rows advance u xs).0 in
      record {
        progress = g.progress ∙ ap (λ (x : Standing). (after advance x ys).0) h.progress ∙ ap (λ (v : Standing × List Row). v.0) (sym w);
        cells =
            g.cells ∙ ap₂ (λ (k : ℕ) (x : Cells). written n k (after advance (standing n p) ys).1 x) j h.cells
            ∙ ap (λ (x : Standing). written n (start.rows + length (after advance u xs).1) (after advance x ys).1
            (written n start.rows (after advance u xs).1 old)) h.progress
            ∙ sym (written-append n start.rows (after advance u xs).1 (after advance (after advance u xs).0 ys).1 old)
            ∙ ap (λ (v : Standing × List Row). written n start.rows v.1 old) (sym w);
      }

  pub ran-nothing :
      (start : Progress) (c : Cells) → Ran advance n start [] c (Ok start) c
  unfolding after run
  ran-nothing start c = record { progress = rw (sub-zero start.left, add-zero start.made, add-zero start.rows); cells = refl }

  pub fits_then : {start p : Progress} (xs ys : List Step) {old c : Cells} → Fits n start (xs ++ ys) old → Ran advance n start xs old (Ok p) c → Fits n p ys c
  fits_then {start} {p} xs ys {old} {c} f h =
      let u = standing n start in
      let j : p.rows ≡ start.rows + length (after advance u xs).1 = ap (λ (x : Standing). x.rows) h.progress ∙ (after-rows advance u xs).0 in
      let m : p.made ≡ (after advance u xs).0.made = ap (λ (x : Standing). x.made) h.progress in
      record {
        states = f.states;
        room =
            room_less n (p.rows + total row_count ys) (start.rows + total row_count (xs ++ ys)) old c
            (omega (arith, total-append row_count xs ys, (after-rows advance u xs).1)) (ran-same h) f.room;
        few = omega (arith, f.few, length-append xs ys, after-made advance u xs);
      }
