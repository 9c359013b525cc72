-- The tests ahead of a run, as the entry makes them one after the other.
use mathlib.Core.Path.{◌≡◌, refl, sym, ap, ap₂, ◌∙◌, subst}
use mathlib.Core.Bool.{Bool, true, false, ◌&&◌}
use mathlib.Core.List.{List, [], ◌∷◌}
use mathlib.Core.Option.{Option, some, none}
use Prim.Native.Nat.{ℕ, ◌≤◌}
use native.Mathlib.Omega.{arith}
use lib.Dec.{T, leb, eqb, eqb→eq}
use lib.ListN.{length, take}
use lib.Ieee.{Float}
use Rattle.limits.specs.Limits.{states, most_events, most_samples}
use Rattle.binary64.specs.Doubles.{nonnegative}
use Rattle.binary64.specs.Lists.{all, amounts_pass}
use Rattle.refusal.specs.Numbers.{refusal_number}
use Rattle.refusal.specs.declared.Refusal.{Refusal}
use Rattle.refusal.specs.Result as R
use Rattle.linear_pk.specs.declared.kernel.LinearPk.{LinearPk}
use Rattle.linear_pk.specs.declared.bind.BoundLinearPk.{BoundLinearPk}
use Rattle.linear_pk.proofs.NewSound.{padded_front}
use Rattle.linear_pk.specs.LinearPk.{padded, state_count, volumes_pass, matrix_finite, sound, bind}
use Rattle.protocol.specs.declared.Event.{Event}
use Rattle.protocol.specs.declared.Window.{Window}
use Rattle.protocol.specs.First.{unless, first_of}
use Rattle.protocol.specs.Prepare.{reckoned, prepare}
use Rattle.protocol.specs.Execute.{Outcome, run_of}
use Rattle.protocol.specs.Entry.{Room, room_for, first_refusal, simulate, report_of, times_at_exit, sides_at_exit, values_at_exit}
use Rattle.protocol.specs.Entry as E
use Rattle.protocol.proofs.EntryLaws.{simulate_runs, simulate-refuses}
use Rattle.protocol.proofs.ListLaws.{both}
use Rattle.simulation.specs.KernelRun.{propagator_of}
use Rattle.preparation.specs.Preparation.{own_number, option_number}
use Rattle.simulation_report.specs.Replies.{run_reply}
use Rattle.simulation.specs.Entries.{simulate_entry}
use Rattle.std.specs.Prelude.{Err}
use Rattle.simulation_report.specs.declared.RunError.TheVariants.{Refused}
use Rattle.refusal.proofs.Numbers.{refusal-number}
use Rattle.preparation.proofs.Tests.{prepare-passes}

-- ---- a refusal: its number, and slices as they were
pub refuses : (r : Refusal) {o : R.Result Outcome} (rows n : ℕ) (times : List Float) (sides : List ℕ) (values : List Float) → o ≡ R.refused (refusal_number r)
    → (run_reply (Err (Refused r)) ≡ report_of o) × ((times ≡ times_at_exit rows o times)
    × ((sides ≡ sides_at_exit rows o sides) × (values ≡ values_at_exit rows n o values)))
refuses r rows n times sides values e = (
  sym (ap report_of e),
  (
    sym (ap (λ (x : R.Result Outcome). times_at_exit rows x times) e),
    (sym (ap (λ (x : R.Result Outcome). sides_at_exit rows x sides) e), sym (ap (λ (x : R.Result Outcome). values_at_exit rows n x values) e)),
  ),
)

-- ---- the amounts of a bound kernel
pub bound_front : (n : ℕ) (x : List Float) → n ≤ states → length x ≡ n → take n (padded states x) ≡ x
bound_front n x h e = ap (λ (j : ℕ). take j (padded states x)) (sym e) ∙ padded_front states x (omega arith)

-- ---- test by test
not_done : {A : Type 0} {b : BoundLinearPk} {c : ℕ} → R.done b ≡ R.refused c → A
not_done q = absurd (no q)
  where
    no : {b : BoundLinearPk} {c : ℕ} → R.done b ≡ R.refused c → ⊥
    no q = let z : ◌≡◌ {A = ℕ} 0 1 = cc in omega arith

abbrev bound_of : LinearPk → List Float → BoundLinearPk
bound_of k x = record { kernel = k; initial = padded states x }

-- what `bind` refuses: the kernel's own number, or 3
bind-refuses : (k : LinearPk) (x : List Float) (os : List (Option ℕ)) {c : ℕ} → bind k x ≡ R.refused c
    → first_of (own_number (sound k) ∷ unless (amounts_pass (state_count k) x) 3 ∷ os) ≡ some c
unfolding bind
bind-refuses k x os = on (volumes_pass k)
  where
    same : {j c : ℕ} → ◌≡◌ {A = R.Result BoundLinearPk} (R.refused j) (R.refused c) → j ≡ c
    same q = cc

    amounts : (b : Bool) {c : ℕ} → R.unless b 3 (bound_of k x) ≡ R.refused c → first_of (none ∷ unless b 3 ∷ os) ≡ some c
    amounts true q = not_done q
    amounts false q = ap some (same q)

    rates : (b : Bool) {c : ℕ} → R.and_then (R.unless b 2 k) (λ (j : LinearPk). R.unless (amounts_pass (state_count j) x) 3 (bound_of j x)) ≡ R.refused c
        → first_of (own_number (R.unless b 2 k) ∷ unless (amounts_pass (state_count k) x) 3 ∷ os) ≡ some c
    rates true q = amounts (amounts_pass (state_count k) x) q
    rates false q = ap some (same q)

    on : (a : Bool) {c : ℕ} → R.and_then (R.and_then (R.unless a 1 k) (λ (j : LinearPk). R.unless (matrix_finite j) 2 j))
        (λ (j : LinearPk). R.unless (amounts_pass (state_count j) x) 3 (bound_of j x)) ≡ R.refused c
        → first_of (own_number (R.and_then (R.unless a 1 k) (λ (j : LinearPk). R.unless (matrix_finite j) 2 j))
        ∷ unless (amounts_pass (state_count k) x) 3 ∷ os) ≡ some c
    on true q = rates (matrix_finite k) q
    on false q = ap some (same q)

-- what it takes
pub record Taken (k : LinearPk) (x : List Float) (b : BoundLinearPk) : Type 0 where
  pub own : own_number (sound k) ≡ none
  pub amounts : amounts_pass (state_count k) x ≡ true
  pub initial : b.initial ≡ padded states x

pub bind_takes : (k : LinearPk) (x : List Float) {b : BoundLinearPk} → R.done b ≡ bind k x → Taken k x b
unfolding bind
bind_takes k x = on (volumes_pass k) refl
  where
    initial_of : {b d : BoundLinearPk} → R.done b ≡ R.done d → b.initial ≡ d.initial
    initial_of q = cc

    amounts : (s : Bool) {b : BoundLinearPk} → own_number (sound k) ≡ none → amounts_pass (state_count k) x ≡ s
        → R.done b ≡ R.unless s 3 (bound_of k x) → Taken k x b
    amounts true o e q = record { own = o; amounts = e; initial = initial_of q }
    amounts false o e q = not_done q

    rates : (s : Bool) {b : BoundLinearPk} → volumes_pass k ≡ true → matrix_finite k ≡ s
        → R.done b ≡ R.and_then (R.unless s 2 k) (λ (j : LinearPk). R.unless (amounts_pass (state_count j) x) 3 (bound_of j x)) → Taken k x b
    rates true g e q =
        amounts (amounts_pass (state_count k) x) (ap (λ (a : Bool). own_number (R.and_then (R.unless a 1 k)
        (λ (j : LinearPk). R.unless (matrix_finite j) 2 j))) g ∙ ap (λ (a : Bool). own_number (R.unless a 2 k)) e) refl q
    rates false g e q = not_done q

    on : (s : Bool) {b : BoundLinearPk} → volumes_pass k ≡ s
        → R.done b ≡ R.and_then (R.and_then (R.unless s 1 k) (λ (j : LinearPk). R.unless (matrix_finite j) 2 j))
        (λ (j : LinearPk). R.unless (amounts_pass (state_count j) x) 3 (bound_of j x)) → Taken k x b
    on true g q = rates (matrix_finite k) g refl q
    on false g q = not_done q

module _ (k : LinearPk) (a : List Float) (w : Window) (es : List Event) (ss : List Float) (cells : Room) where
  -- the tests behind 3, and those behind 5
  abbrev pub behind_three : List (Option ℕ)
  behind_three = prepare (state_count k) w ss es ∷ unless (room_for (reckoned ss es) (state_count k) cells) 4 ∷ []

  abbrev pub behind_five : List (Option ℕ)
  behind_five = own_number (sound k) ∷ unless (amounts_pass (state_count k) a) 3 ∷ behind_three

  entry : simulate_entry k a w es ss cells ≡ simulate (propagator_of k) (own_number (sound k)) (state_count k) w ss es a cells
  unfolding simulate_entry
  entry = refl

  pub over-limit : leb (length es) most_events && leb (length ss) most_samples ≡ false → simulate_entry k a w es ss cells ≡ R.refused 5
  unfolding first_refusal
  over-limit h =
      entry ∙ simulate-refuses (propagator_of k) (own_number (sound k)) (state_count k) w ss es a cells 5
      (ap (λ (b : Bool). first_of (unless b 5 ∷ behind_five)) h)

  module _ (h : leb (length es) most_events ≡ true) (g : leb (length ss) most_samples ≡ true) where
    behind-five : first_refusal (own_number (sound k)) (state_count k) w ss es a cells
        ≡ first_of behind_five
    unfolding first_refusal
    behind-five = rw (h, g)

    pub bind-refused : (c : ℕ) → bind k a ≡ R.refused c → simulate_entry k a w es ss cells ≡ R.refused c
    bind-refused c e =
        entry ∙ simulate-refuses (propagator_of k) (own_number (sound k)) (state_count k) w ss es a cells c
        (behind-five ∙ bind-refuses k a behind_three e)

    module _ {b : BoundLinearPk} (t : Taken k a b) where
      behind-three : first_refusal (own_number (sound k)) (state_count k) w ss es a cells
          ≡ first_of behind_three
      behind-three = behind-five ∙ rw (t.own, t.amounts)

      pub tests_refuse : (c : ℕ) → 1 ≤ c → c ≡ option_number (first_of behind_three)
          → simulate_entry k a w es ss cells ≡ R.refused c
      tests_refuse c l e =
          entry ∙ simulate-refuses (propagator_of k) (own_number (sound k)) (state_count k) w ss es a cells c (behind-three ∙ on _ l e)
        where
          on : (o : Option ℕ) {c : ℕ} → 1 ≤ c → c ≡ option_number o → o ≡ some c
          on none l e = absurd (no l e)
            where
              no : {c : ℕ} → 1 ≤ c → c ≡ 0 → ⊥
              no l e = omega arith
          on (some j) l e = ap some (sym e)

      pub tests_pass : 0 ≡ option_number (first_of behind_three)
          → first_refusal (own_number (sound k)) (state_count k) w ss es a cells ≡ none
      tests_pass e =
          behind-three ∙ on (prepare (state_count k) w ss es) (room_for (reckoned ss es) (state_count k) cells)
          (prepare-passes (state_count k) w ss es) e
        where
          on : (o : Option ℕ) (r : Bool) → (0 ≡ option_number o → o ≡ none) → 0 ≡ option_number (first_of (o ∷ unless r 4 ∷ []))
              → first_of (o ∷ unless r 4 ∷ []) ≡ none
          on none true f q = refl
          on none false f q = absurd (no q)
            where
              no : ◌≡◌ {A = ℕ} 0 4 → ⊥
              no q = omega arith
          on (some j) r f q = f q

      pub runs : 0 ≡ option_number (first_of behind_three)
          → simulate_entry k a w es ss cells ≡ R.done (run_of (propagator_of k) (state_count k) w ss es a)
      runs e = entry ∙ simulate_runs (propagator_of k) (own_number (sound k)) (state_count k) w ss es a cells (tests_pass e)

      -- the amounts that it is given
      pub initial_front : state_count k ≤ states → take (state_count k) b.initial ≡ a
      initial_front l =
          ap (take (state_count k)) t.initial
          ∙ bound_front (state_count k) a l (eqb→eq (length a) (state_count k) (both (eqb (length a) (state_count k)) (all nonnegative a)
          (subst T (sym t.amounts) tt)).0)

      -- of n states and the events, as the code has them
      module _ {c n : ℕ} {xs : List Event} (m : n ≡ state_count k) (p : xs ≡ es)
          (e : c ≡ option_number (first_of (prepare n w ss xs ∷ unless (room_for (reckoned ss xs) n cells) 4 ∷ []))) where
        told : c ≡ option_number (first_of behind_three)
        told = e ∙ ap₂ (λ (i : ℕ) (ys : List Event). option_number (first_of (prepare i w ss ys ∷ unless (room_for (reckoned ss ys) i cells) 4 ∷ []))) m p

        pub code_refuses : (f : Refusal) → c ≡ refusal_number f → simulate_entry k a w es ss cells ≡ R.refused (refusal_number f)
        code_refuses f d = tests_refuse (refusal_number f) (refusal-number f) (sym d ∙ told)

        module _ (d : c ≡ 0) (s : n ≤ states) where
          passed : 0 ≡ option_number (first_of behind_three)
          passed = sym d ∙ told

          front : take (state_count k) b.initial ≡ a
          front = initial_front (subst (λ (i : ℕ). i ≤ states) m s)

          pub code_passes : first_refusal (own_number (sound k)) (state_count k) w ss xs (take (state_count k) b.initial) cells ≡ none
          code_passes =
              ap₂ (λ (ys : List Event) (x : List Float). first_refusal (own_number (sound k)) (state_count k) w ss ys x cells) p front
              ∙ tests_pass passed

          abbrev code_run : R.Result Outcome
          code_run = R.done (run_of (propagator_of k) (state_count k) w ss xs (take (state_count k) b.initial))

          same-run : code_run ≡ simulate_entry k a w es ss cells
          same-run = ap₂ (λ (ys : List Event) (x : List Float). R.done (run_of (propagator_of k) (state_count k) w ss ys x)) p front ∙ sym (runs passed)

          pub code_runs : (times : List Float) (sides : List ℕ) (values : List Float) {o : E.RunReport} {ts : List Float} {ds : List ℕ} {vs : List Float}
              → (o ≡ report_of code_run)
              × ((ts ≡ times_at_exit (reckoned ss xs) code_run times)
              × ((ds ≡ sides_at_exit (reckoned ss xs) code_run sides) × (vs ≡ values_at_exit (reckoned ss xs) (state_count k) code_run values)))
              → (o ≡ report_of (simulate_entry k a w es ss cells))
              × ((ts ≡ times_at_exit (reckoned ss es) (simulate_entry k a w es ss cells) times)
              × ((ds ≡ sides_at_exit (reckoned ss es) (simulate_entry k a w es ss cells) sides)
              × (vs ≡ values_at_exit (reckoned ss es) (state_count k) (simulate_entry k a w es ss cells) values)))
          code_runs times sides values z =
              let i = ap (reckoned ss) p in (
                z.0 ∙ ap report_of same-run,
                (
                  z.1.0 ∙ ap₂ (λ (j : ℕ) (x : R.Result Outcome). times_at_exit j x times) i same-run,
                  (
                    z.1.1.0 ∙ ap₂ (λ (j : ℕ) (x : R.Result Outcome). sides_at_exit j x sides) i same-run,
                    z.1.1.1 ∙ ap₂ (λ (j : ℕ) (x : R.Result Outcome). values_at_exit j (state_count k) x values) i same-run,
                  ),
                ),
              )
