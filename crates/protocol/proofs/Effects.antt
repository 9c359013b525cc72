-- What a schedule leaves where no step stops it: amounts, rows and advances by plain folds. A run that goes on to the end leaves these.
-- One that stops leaves those of the part that went on, and the advance of the step that stopped, if it made one. Assumes nothing.
use mathlib.Core.Path.{◌≡◌, refl, sym, ap, ap₂, ◌∙◌, subst}
use Prim.Native.Nat.{ℕ}
use mathlib.Core.Bool.{Bool, true, false, cond}
use mathlib.Core.List.{List, [], ◌∷◌, ◌++◌, append_assoc, append-nil}
use lib.Dec.{ltb}
use lib.ListN.{length}
use lib.Ieee.{Float, binary64, sub}
use lib.Ieee.Scale.{finite}
use Rattle.binary64.specs.Doubles.{plus_zero, nonnegative}
use Rattle.binary64.specs.Lists.{all, flat_map}
use Rattle.refusal.specs.Result.{Result, refused, done}
use Rattle.protocol.specs.Schedule.{Step, check, pre, post, apply, rates, reading, arrive}
use Rattle.protocol.specs.Execute.{Propagator, Row, Pre, Post, Reading, Advance, State, Outcome, go, stop, and_then, with_amounts}
use Rattle.protocol.specs.Execute.{with_row, with_advance, dosed_amounts, after_advance, propagate, execute, run}
use Rattle.protocol.specs.PlainRun.{advances_by}
use Rattle.protocol.proofs.FirstStop.{go-stop, stop-go, go_same, stop-same}

abbrev pub values_of : Result (List Float) → List Float
values_of (done a) = a
values_of (refused c) = []

module _ (advance : Propagator) where
  -- the amounts behind a step
  abbrev pub leaves : List Float → Step → List Float
  leaves a (check t) = a
  leaves a (pre t) = a
  leaves a (post t) = a
  leaves a (apply t e) = dosed_amounts e a
  leaves a (rates r) = a
  leaves a (reading t r u) = a
  leaves a (arrive t r u) = values_of (advance a r (sub binary64 u t))

  -- its rows
  abbrev pub rows_by : List Float → Step → List Row
  rows_by a (check t) = []
  rows_by a (pre t) = record { time = t; side = Pre; amounts = a } ∷ []
  rows_by a (post t) = record { time = t; side = Post; amounts = a } ∷ []
  rows_by a (apply t e) = []
  rows_by a (rates r) = []
  rows_by a (reading t r u) = record { time = u; side = Reading; amounts = values_of (advance a r (sub binary64 u t)) } ∷ []
  rows_by a (arrive t r u) = []

  abbrev pub leaves_all : List Float → List Step → List Float
  leaves_all a [] = a
  leaves_all a (x ∷ xs) = leaves_all (leaves a x) xs

  abbrev pub rows_all : List Float → List Step → List Row
  rows_all a [] = []
  rows_all a (x ∷ xs) = rows_by a x ++ rows_all (leaves a x) xs

  pub leaves_append : (a : List Float) (xs ys : List Step) → leaves_all a (xs ++ ys) ≡ leaves_all (leaves_all a xs) ys
  leaves_append a [] ys = refl
  leaves_append a (x ∷ xs) ys = leaves_append (leaves a x) xs ys

  pub rows_append : (a : List Float) (xs ys : List Step) → rows_all a (xs ++ ys) ≡ rows_all a xs ++ rows_all (leaves_all a xs) ys
  rows_append a [] ys = refl
  rows_append a (x ∷ xs) ys = ap (◌++◌ (rows_by a x)) (rows_append (leaves a x) xs ys)
      ∙ sym (append_assoc (rows_by a x) (rows_all (leaves a x) xs) (rows_all (leaves_all (leaves a x) xs) ys))

  -- z is what the steps leave of s
  pub record Left (s : State) (xs : List Step) (z : State) : Type 0 where
    pub amounts : z.amounts ≡ leaves_all s.amounts xs
    pub rows : z.rows ≡ s.rows ++ rows_all s.amounts xs
    pub advances : z.advances ≡ s.advances ++ flat_map advances_by xs

  module _ (budget : ℕ) where
    passed : (b : Bool) (c : ℕ) (t : Float) (y w z : State) → cond b (go y) (stop c t w) ≡ go z → y ≡ z
    passed true c t y w z e = go_same e
    passed false c t y w z e = absurd (stop-go e)

    propagated : (t : Float) (r : List Float) (u : Float) (k : List Float → State → State) (s z : State) → propagate advance budget t r u k s ≡ go z
        → k (values_of (advance s.amounts r (sub binary64 u t))) (with_advance t u s) ≡ z
    unfolding propagate
    propagated t r u k s z e = on (ltb (length s.advances) budget) (advance s.amounts r (sub binary64 u t)) e
      where
        on : (b : Bool) (m : Result (List Float)) → cond b (after_advance u (with_advance t u s)
            (λ (a : List Float). k a (with_advance t u s)) m) (stop 30 u (with_advance t u s)) ≡ go z → k (values_of m) (with_advance t u s) ≡ z
        on true (done a) e = go_same e
        on true (refused c) e = absurd (stop-go e)
        on false m e = absurd (stop-go e)

    -- no row and no advance
    quiet : (s : State) (x : Step) → rows_by s.amounts x ≡ [] → advances_by x ≡ [] → Left s (x ∷ []) (with_amounts (leaves s.amounts x) s)
    quiet s x p q = record {
      amounts = refl;
      rows = sym (ap (λ (r : List Row). s.rows ++ (r ++ [])) p ∙ append-nil s.rows);
      advances = sym (ap (λ (m : List Advance). s.advances ++ (m ++ [])) q ∙ append-nil s.advances);
    }

    pub step_left : (x : Step) (s z : State) → execute advance budget s x ≡ go z → Left s (x ∷ []) z
    unfolding execute
    step_left (check t) s z e = subst (Left s (check t ∷ [])) (passed (all nonnegative s.amounts) 31 t s s z e) (quiet s (check t) refl refl)
    step_left (pre t) s z e = subst (Left s (pre t ∷ [])) (go_same e) (record { amounts = refl; rows = refl; advances = sym (append-nil s.advances) })
    step_left (post t) s z e = subst (Left s (post t ∷ [])) (go_same e) (record { amounts = refl; rows = refl; advances = sym (append-nil s.advances) })
    step_left (apply t v) s z e =
        let y : State = with_amounts (dosed_amounts v s.amounts) s in
        subst (Left s (apply t v ∷ [])) (passed (all nonnegative y.amounts) 31 t y y z e) (quiet s (apply t v) refl refl)
    step_left (rates r) s z e = subst (Left s (rates r ∷ [])) (passed (all finite r) 32 plus_zero s s z e) (quiet s (rates r) refl refl)
    step_left (reading t r u) s z e =
        subst (Left s (reading t r u ∷ [])) (propagated t r u (λ (a : List Float). with_row u Reading a) s z e)
        (record { amounts = refl; rows = refl; advances = refl })
    step_left (arrive t r u) s z e =
        subst (Left s (arrive t r u ∷ [])) (propagated t r u (λ (a : List Float). with_amounts a) s z e)
        (record { amounts = refl; rows = sym (append-nil s.rows); advances = refl })

    left-then : (x : Step) (xs : List Step) (s y z : State) → Left s (x ∷ []) y → Left y xs z → Left s (x ∷ xs) z
    left-then x xs s y z p q = record {
      amounts = q.amounts ∙ ap (λ (a : List Float). leaves_all a xs) p.amounts;
      rows =
          q.rows ∙ ap₂ (λ (r : List Row) (a : List Float). r ++ rows_all a xs) (p.rows
          ∙ ap (◌++◌ s.rows) (append-nil (rows_by s.amounts x))) p.amounts ∙ append_assoc s.rows (rows_by s.amounts x) (rows_all
          (leaves s.amounts x) xs);
      advances =
          q.advances ∙ ap (λ (m : List Advance). m ++ flat_map advances_by xs) (p.advances
          ∙ ap (◌++◌ s.advances) (append-nil (advances_by x))) ∙ append_assoc s.advances (advances_by x) (flat_map advances_by xs);
    }

    -- a run that goes on to the end
    pub run-left : (xs : List Step) (s z : State) → run advance budget s xs ≡ go z → Left s xs z
    unfolding run
    run-left [] s z e = subst (Left s []) (go_same e) (record { amounts = refl; rows = sym (append-nil s.rows); advances = sym (append-nil s.advances) })
    run-left (x ∷ xs) s z e = on (execute advance budget s x) refl e (λ (y : State). run-left xs y z)
      where
        on : (o : Outcome) → execute advance budget s x ≡ o → and_then o (λ (y : State). run advance budget y xs) ≡ go z
            → ((y : State) → run advance budget y xs ≡ go z → Left y xs z) → Left s (x ∷ xs) z
        on (go y) p q ih = left-then x xs s y z (step_left x s y p) (ih y q)
        on (stop c t y) p q ih = absurd (stop-go q)

    -- a step that stops adds no row, and the advance that it made
    abbrev pub Halted : State → Step → State → Type 0
    Halted s x z = (z.rows ≡ s.rows) × (z.advances ≡ s.advances ++ advances_by x)

    halted : (b : Bool) (c d : ℕ) (t u : Float) (y w z : State) → cond b (go y) (stop c t w) ≡ stop d u z → w ≡ z
    halted true c d t u y w z e = absurd (go-stop e)
    halted false c d t u y w z e = (stop-same e).2

    refusing : (t : Float) (r : List Float) (u : Float) (k : List Float → State → State) (s z : State) (c : ℕ) (v : Float)
        → propagate advance budget t r u k s ≡ stop c v z → with_advance t u s ≡ z
    unfolding propagate
    refusing t r u k s z c v e = on (ltb (length s.advances) budget) (advance s.amounts r (sub binary64 u t)) e
      where
        on : (b : Bool) (m : Result (List Float)) → cond b (after_advance u (with_advance t u s)
            (λ (a : List Float). k a (with_advance t u s)) m) (stop 30 u (with_advance t u s)) ≡ stop c v z → with_advance t u s ≡ z
        on true (done a) e = absurd (go-stop e)
        on true (refused c) e = (stop-same e).2
        on false m e = (stop-same e).2

    pub stop-left : (x : Step) (s z : State) (c : ℕ) (t : Float) → execute advance budget s x ≡ stop c t z → Halted s x z
    unfolding execute
    stop-left (check t) s z c u e = subst (Halted s (check t)) (halted (all nonnegative s.amounts) 31 c t u s s z e) (refl, sym (append-nil s.advances))
    stop-left (pre t) s z c u e = absurd (go-stop e)
    stop-left (post t) s z c u e = absurd (go-stop e)
    stop-left (apply t v) s z c u e =
        let y : State = with_amounts (dosed_amounts v s.amounts) s in
        subst (Halted s (apply t v)) (halted (all nonnegative y.amounts) 31 c t u y y z e) (refl, sym (append-nil s.advances))
    stop-left (rates r) s z c u e = subst (Halted s (rates r)) (halted (all finite r) 32 c plus_zero u s s z e) (refl, sym (append-nil s.advances))
    stop-left (reading t r v) s z c u e = subst (Halted s (reading t r v)) (refusing t r v (λ (a : List Float). with_row v Reading a) s z c u e) (refl, refl)
    stop-left (arrive t r v) s z c u e = subst (Halted s (arrive t r v)) (refusing t r v (λ (a : List Float). with_amounts a) s z c u e) (refl, refl)
