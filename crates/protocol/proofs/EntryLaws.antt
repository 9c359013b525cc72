-- The library's run: it begins exactly where no test ahead of it refuses. Its slices keep their lengths, and the amounts of row k
-- stand from place k × n on. Assumes nothing.
use mathlib.Core.Path.{◌≡◌, refl, sym, ap, ap₂, ◌∙◌, subst}
use Prim.Native.Nat.{ℕ, zero, suc, ◌+◌, ◌-◌, ◌*◌, ◌≤◌, ◌<◌, zero-le}
use native.Mathlib.Nat.{suc-mul, zero-mul, add_comm, mul-le-mul_right, not-suc-le-zero, le_of_suc-le-suc}
use native.Mathlib.Omega.{arith}
use mathlib.Core.Bool.{Bool, true, false, ◌&&◌}
use mathlib.Core.List.{List, [], ◌∷◌, ◌++◌, append_assoc}
use mathlib.Core.Option.{Option, some, none}
use lib.Dec.{T, leb, eqb, eqb→eq, leb→le}
use lib.ListN.{length, get_or, take, drop, replicate, length-append, length-drop, length-replicate}
use lib.Seq.{take_at, drop-append-add}
use lib.Ieee.{Float, binary64, fits}
use Rattle.limits.specs.Limits.{most_events, most_samples}
use Rattle.binary64.specs.Doubles.{plus_zero, nonnegative}
use Rattle.protocol.specs.declared.Event.{Event}
use Rattle.protocol.specs.declared.Window.{Window}
use Rattle.binary64.specs.Lists.{all, flat_map, amounts_pass}
use Rattle.refusal.specs.Result.{Result, refused, done}
use Rattle.protocol.specs.First.{unless, first_of}
use Rattle.protocol.specs.Events.{time}
use Rattle.protocol.specs.Prepare.{reckoned, prepare}
use Rattle.protocol.specs.Execute.{Propagator, Row, Outcome, go, stop, run_of}
use Rattle.protocol.specs.Entry.{Room, room_for, first_refusal, simulate, side_code, front_then_zeros, at_exit, times_at_exit, sides_at_exit, values_at_exit}
use Rattle.protocol.specs.PlainRun.{Conditions, KernelLaws, rows_left, PlainRun}
use Rattle.protocol.proofs.ListLaws.{both}
use Rattle.protocol.proofs.Theorems.{plain_run}

-- ---- the tests ahead
-- what holds where none refuses
pub record Passes (own : Option ℕ) (n : ℕ) (w : Window) (ss : List Float) (es : List Event) (a : List Float) (room : Room) : Type 0 where
  pub limits : T (leb (length es) most_events && leb (length ss) most_samples)
  pub kernel : own ≡ none
  pub amounts : T (amounts_pass n a)
  pub prepared : prepare n w ss es ≡ none
  pub roomy : T (room_for (reckoned ss es) n room)

some_none : {A : Type 0} {c : ℕ} → some c ≡ none → A
some_none q = absurd (no q)
  where
    no : {c : ℕ} → some c ≡ none → ⊥
    no q = let z : ◌≡◌ {A = ℕ} 0 1 = cc in omega arith

pub ahead_none : (own : Option ℕ) (n : ℕ) (w : Window) (ss : List Float) (es : List Event) (a : List Float) (room : Room)
    → first_refusal own n w ss es a room ≡ none → Passes own n w ss es a room
unfolding first_refusal
ahead_none own n w ss es a room e =
    let h = on (leb (length es) most_events && leb (length ss) most_samples) own (amounts_pass n a) (prepare n w ss es) (room_for (reckoned ss es) n room) e in
    record { limits = h.0; kernel = h.1; amounts = h.2; prepared = h.3; roomy = h.4 }
  where
    on : (b : Bool) (o : Option ℕ) (c : Bool) (p : Option ℕ) (d : Bool) → first_of (unless b 5 ∷ o ∷ unless c 3 ∷ p ∷ unless d 4 ∷ []) ≡ none
        → T b × (o ≡ none) × T c × (p ≡ none) × T d
    on true none true none true q = (tt, refl, tt, refl, tt)
    on true none true none false q = some_none q
    on true none true (some k) d q = some_none q
    on true none false p d q = some_none q
    on true (some k) c p d q = some_none q
    on false o c p d q = some_none q

module _ (advance : Propagator) (own : Option ℕ) (n : ℕ) (w : Window) (ss : List Float) (es : List Event) (a : List Float) (room : Room) where
  pub simulate_runs : first_refusal own n w ss es a room ≡ none → simulate advance own n w ss es a room ≡ done (run_of advance n w ss es a)
  unfolding simulate
  simulate_runs e = ap (λ (o : Option ℕ). elim o as (λ _. Result Outcome) [ none ↦ done (run_of advance n w ss es a) | some c ↦ refused c ]) e

  pub simulate-refuses : (c : ℕ) → first_refusal own n w ss es a room ≡ some c → simulate advance own n w ss es a room ≡ refused c
  unfolding simulate
  simulate-refuses c e = ap (λ (o : Option ℕ). elim o as (λ _. Result Outcome) [ none ↦ done (run_of advance n w ss es a) | some c ↦ refused c ]) e

-- ---- the slices keep their lengths
pub laid_length : {A : Type 0} (z : A) (k : ℕ) (xs old : List A) → length xs ≤ k → k ≤ length old → length (front_then_zeros z k xs old) ≡ length old
laid_length z k xs old h l =
    length-append xs (replicate (k - length xs) z ++ drop k old)
    ∙ ap (◌+◌ (length xs)) (length-append (replicate (k - length xs) z) (drop k old) ∙ ap₂ ◌+◌ (length-replicate (k - length xs) z) (length-drop k old))
    ∙ sums (length xs) k (length old) h l
  where
    sums : (x k l : ℕ) → x ≤ k → k ≤ l → x + (k - x + (l - k)) ≡ l
    sums x k l h g = omega arith

exit_length : {A : Type 0} (z : A) (cells : Row → List A) (k : ℕ) (o : Outcome) (old : List A) → length (flat_map cells (rows_left o)) ≤ k
    → k ≤ length old → length (at_exit z cells k (done o) old) ≡ length old
exit_length z cells k (go s) old h l = laid_length z k (flat_map cells s.rows) old h l
exit_length z cells k (stop c t s) old h l = laid_length z k [] old zero-le l

pub one_each : {A : Type 0} (f : Row → A) (rs : List Row) → length (flat_map (λ (r : Row). f r ∷ []) rs) ≡ length rs
one_each f [] = refl
one_each f (r ∷ rs) = ap suc (one_each f rs)

pub width : (n : ℕ) (r : Row) → T (amounts_pass n r.amounts) → length r.amounts ≡ n
width n r h = eqb→eq (length r.amounts) n (both (eqb (length r.amounts) n) (all nonnegative r.amounts) h).0

pub n_each : (n : ℕ) (rs : List Row) → T (all (λ (r : Row). amounts_pass n r.amounts) rs) → length (flat_map (λ (r : Row). r.amounts) rs) ≡ length rs * n
n_each n [] h = sym (zero-mul n)
n_each n (r ∷ rs) h =
    let k = both (amounts_pass n r.amounts) (all (λ (r : Row). amounts_pass n r.amounts) rs) h in
    length-append r.amounts (flat_map (λ (r : Row). r.amounts) rs) ∙ ap₂ ◌+◌ (width n r k.0) (n_each n rs k.1)
    ∙ add_comm n (length rs * n) ∙ sym (suc-mul (length rs) n)

pub record Kept (rows n : ℕ) (room : Room) (o : Result Outcome) : Type 0 where
  pub times : (old : List Float) → length old ≡ room.times → length (times_at_exit rows o old) ≡ length old
  pub sides : (old : List ℕ) → length old ≡ room.sides → length (sides_at_exit rows o old) ≡ length old
  pub values : (old : List Float) → length old ≡ room.values → length (values_at_exit rows n o old) ≡ length old

module _ (n : ℕ) (advance : Propagator) {Refuses : Conditions} (laws : KernelLaws n advance Refuses) (own : Option ℕ) (w : Window)
    (ss : List Float) (es : List Event) (a : List Float) (room : Room)
    (start_fits : T (fits binary64 w.start)) (end_fits : T (fits binary64 w.end)) (samples_fit : T (all (fits binary64) ss))
    (times_fit : T (all (λ (e : Event). fits binary64 (time e)) es)) where
  -- where no test refuses, what is claimed of plain runs holds
  pub passes-run : Passes own n w ss es a room → PlainRun advance Refuses n w ss es a
  passes-run p =
      plain_run n advance Refuses laws w ss es (record { start_fits = start_fits; end_fits = end_fits; samples_fit = samples_fit; times_fit = times_fit; passes = p.prepared }) a p.amounts

  began_kept : Passes own n w ss es a room → Kept (reckoned ss es) n room (done (run_of advance n w ss es a))
  began_kept p = record {
    times =
        λ (old : List Float) (e : length old ≡ room.times). exit_length plus_zero (λ (r : Row). r.time ∷ []) R o old
        (subst (λ (k : ℕ). k ≤ R) (sym (one_each (λ (r : Row). r.time) rs)) rows) (subst (λ (k : ℕ). R ≤ k) (sym e)
        (leb→le R room.times f.0));
    sides =
        λ (old : List ℕ) (e : length old ≡ room.sides). exit_length 0 (λ (r : Row). side_code r.side ∷ []) R o old
        (subst (λ (k : ℕ). k ≤ R) (sym (one_each (λ (r : Row). side_code r.side) rs)) rows)
        (subst (λ (k : ℕ). R ≤ k) (sym e) (leb→le R room.sides g.0));
    values =
        λ (old : List Float) (e : length old ≡ room.values). exit_length plus_zero (λ (r : Row). r.amounts) (R * n) o old
        (subst (λ (k : ℕ). k ≤ R * n) (sym (n_each n rs run.rows)) (mul-le-mul_right n rows))
        (subst (λ (k : ℕ). R * n ≤ k) (sym e) (leb→le (R * n) room.values g.1));
  }
    where
      R : ℕ
      R = reckoned ss es

      o : Outcome
      o = run_of advance n w ss es a

      rs : List Row
      rs = rows_left o

      run : PlainRun advance Refuses n w ss es a
      run = passes-run p

      rows : length rs ≤ R
      rows = run.within

      f : T (leb R room.times) × T (leb R room.sides && leb (R * n) room.values)
      f = both (leb R room.times) (leb R room.sides && leb (R * n) room.values) p.roomy

      g : T (leb R room.sides) × T (leb (R * n) room.values)
      g = both (leb R room.sides) (leb (R * n) room.values) f.1

  pub slices_kept : Kept (reckoned ss es) n room (simulate advance own n w ss es a room)
  slices_kept = on (first_refusal own n w ss es a room) refl
    where
      on : (o : Option ℕ) → first_refusal own n w ss es a room ≡ o → Kept (reckoned ss es) n room (simulate advance own n w ss es a room)
      on none e = subst (Kept (reckoned ss es) n room) (sym (simulate_runs advance own n w ss es a room e)) (began_kept (ahead_none own n w ss es a room e))
      on (some c) e = subst (Kept (reckoned ss es) n room) (sym (simulate-refuses advance own n w ss es a room c e))
          (record { times = λ old h. refl; sides = λ old h. refl; values = λ old h. refl })

-- ---- the amounts of row k stand from place k × n on
pub row_place : (n : ℕ) (rs : List Row) (rest : List Float) → T (all (λ (r : Row). amounts_pass n r.amounts) rs) → (k : ℕ) (d : Row) → k < length rs
    → take n (drop (k * n) (flat_map (λ (r : Row). r.amounts) rs ++ rest)) ≡ (get_or rs k d).amounts
row_place n [] rest h k d l = absurd (not-suc-le-zero l)
row_place n (r ∷ rs) rest h zero d l =
    let p = both (amounts_pass n r.amounts) (all (λ (r : Row). amounts_pass n r.amounts) rs) h in
    ap (λ (j : ℕ). take n (drop j (flat_map (λ (r : Row). r.amounts) (r ∷ rs) ++ rest))) (zero-mul n)
    ∙ ap (take n) (append_assoc r.amounts (flat_map (λ (r : Row). r.amounts) rs) rest)
    ∙ take_at r.amounts (flat_map (λ (r : Row). r.amounts) rs ++ rest) n (width n r p.0)
row_place n (r ∷ rs) rest h (suc k) d l =
    let p = both (amounts_pass n r.amounts) (all (λ (r : Row). amounts_pass n r.amounts) rs) h in
    ap₂ (λ (j : ℕ) (xs : List Float). take n (drop j xs)) (suc-mul k n ∙ add_comm (k * n) n
    ∙ ap (λ (j : ℕ). j + k * n) (sym (width n r p.0))) (append_assoc r.amounts (flat_map (λ (r : Row). r.amounts) rs) rest)
    ∙ ap (take n) (drop-append-add r.amounts (flat_map (λ (r : Row). r.amounts) rs ++ rest) (k * n))
    ∙ row_place n rs rest p.1 k d (le_of_suc-le-suc l)
