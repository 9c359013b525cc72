-- The run's last row is where its cycle ends.
use mathlib.Core.Path.{◌≡◌, refl, sym, ap, ◌∙◌, subst}
use mathlib.Core.Bool.{Bool, true, false}
use mathlib.Core.List.{List, [], ◌∷◌, ◌++◌}
use mathlib.Core.Option.{none}
use Prim.Native.Nat.{ℕ, ◌+◌, ◌-◌, ◌*◌, ◌≤◌}
use native.Mathlib.Nat.{le_trans, mul-le-mul_right, suc-mul}
use native.Mathlib.Numerals.{add-one}
use native.Mathlib.Omega.{arith}
use borrow.Author.Tests.{le-leb}
use lib.Dec.{T}
use lib.ListN.{length, take, drop, get_or, replicate, length-append}
use lib.Ieee.{Float}
use Rattle.std.specs.Prelude.{Ok, Err}
use Rattle.std.specs.Result.{IsOk}
use Rattle.limits.specs.Limits.{states, most_events, cycle_rows, cycle_values}
use Rattle.binary64.specs.Doubles.{plus_zero}
use Rattle.binary64.specs.Lists.{all, flat_map, amounts_pass}
use Rattle.refusal.specs.Result.{Result, done}
use Rattle.refusal.specs.Numbers.{refusal_number}
use Rattle.refusal.specs.declared.Refusal.{Refusal}
use Rattle.refusal.proofs.Numbers.{refusal-number}
use Rattle.linear_pk.specs.LinearPk.{sound, state_count}
use Rattle.linear_pk.specs.declared.kernel.LinearPk.{LinearPk}
use Rattle.protocol.specs.declared.Event.{Event}
use Rattle.protocol.specs.declared.Window.{Window}
use Rattle.protocol.specs.Prepare.{reckoned}
use Rattle.protocol.specs.Execute.{Row, Outcome, go}
use Rattle.protocol.specs.Entry.{first_refusal, RunReport, report_of, values_at_exit}
use Rattle.protocol.specs.PlainRun.{PlainRun, EndRow, rows_left}
use Rattle.protocol.proofs.EntryLaws.{simulate_runs, n_each, row_place}
use Rattle.preparation.specs.Preparation.{own_number}
use Rattle.simulation.specs.KernelRun.{propagator_of, refusal_of}
use Rattle.simulation.specs.Entries.{simulate_entry}
use Rattle.simulation_report.specs.Replies.{room, RunReply, run_reply}
use Rattle.simulation_report.specs.declared.Reached.{Reached}
use Rattle.simulation_report.specs.declared.RunError.TheVariants.{Refused, Stopped}
use Rattle.simulation.proofs.KernelRuns.{kernel-run}
use Rattle.cycle.specs.Closed.{got, divided, end_of, last_of}
use Rattle.cycle.proofs.InnerRuns.{run_leaves}
use Rattle.periodic_next.specs.ReachesEnd.{ReachesEnd}

-- a test that holds
holds : (b : Bool) → T b → b ≡ true
holds true h = refl
holds false h = absurd h

-- the last of some rows
last_of_lem : (rs : List Row) (r d : Row) → get_or (rs ++ (r ∷ [])) (length rs) d ≡ r
last_of_lem [] r d = refl
last_of_lem (x ∷ rs) r d = last_of_lem rs r d

-- room for all rows
rooms : (rows n : ℕ) → rows ≤ cycle_rows → n ≤ states → rows * n ≤ cycle_values
rooms rows n r h = le_trans (mul-le-mul_right n r) (omega arith)

module _ (k : LinearPk) (w : Window) (fs : List Event) (a : List Float) (h : ReachesEnd k w fs a) (small : state_count k ≤ states) where
  abbrev n : ℕ
  n = state_count k

  abbrev rows : List Row
  rows = h.left.rows

  -- no test ahead refuses
  none_ahead : (times sides values : ℕ) → cycle_rows ≤ times → cycle_rows ≤ sides → cycle_values ≤ values
      → first_refusal (own_number (sound k)) n (divided n w) [] fs a (room times sides values) ≡ none
  unfolding first_refusal
  none_ahead times sides values t s v =
      let few : reckoned [] fs ≤ cycle_rows = omega (arith, h.few) in
      rw (
        le-leb (length fs) most_events h.few,
        h.kernel,
        holds (amounts_pass n a) h.passes,
        h.prepared.passes,
        le-leb (reckoned [] fs) times (omega arith),
        le-leb (reckoned [] fs) sides (omega arith),
        le-leb (reckoned [] fs * n) values (le_trans (rooms (reckoned [] fs) n few small) v),
      )

  entry_goes : (times sides values : ℕ) → cycle_rows ≤ times → cycle_rows ≤ sides → cycle_values ≤ values
      → simulate_entry k a (divided n w) fs [] (room times sides values) ≡ done (go h.left)
  unfolding simulate_entry
  entry_goes times sides values t s v =
      simulate_runs (propagator_of k) (own_number (sound k)) n (divided n w) [] fs a (room times sides values)
      (none_ahead times sides values t s v) ∙ ap (λ (o : Outcome). done o) h.reaches

  -- what holds of the run
  facts : PlainRun (propagator_of k) (refusal_of k) n (divided n w) [] fs a
  facts = kernel-run k h.kernel (divided n w) [] fs h.prepared a h.passes

  end : EndRow (divided n w) h.left
  end = (facts.reached h.left h.reaches).end_row

  some_rows : length rows ≡ length end.ahead + 1
  some_rows = ap length end.whole ∙ length-append end.ahead (end.last ∷ [])

  -- where the cycle ends
  ends : last_of (propagator_of k) n w fs a ≡ got h.left.amounts
  unfolding last_of
  ends = ap end_of h.reaches ∙ ap (λ (x : List Float). got x) (run_leaves (propagator_of k) n (divided n w) [] fs a h.left h.prepared h.reaches)

  rows_pass : T (all (λ (r : Row). amounts_pass n r.amounts) rows)
  rows_pass = subst (λ (o : Outcome). T (all (λ (r : Row). amounts_pass n r.amounts) (rows_left o))) h.reaches facts.rows

  -- the last row of the values
  module _ (old : List Float) where
    abbrev cells : List Float
    cells = values_at_exit (reckoned [] fs) n (done (go h.left)) old

    last_row : take n (drop (length end.ahead * n) cells) ≡ h.left.amounts
    last_row =
        row_place n rows _ rows_pass (length end.ahead) end.last (omega (arith, some_rows))
        ∙ ap (λ (rs : List Row). (get_or rs (length end.ahead) end.last).amounts) end.whole
        ∙ ap (λ (r : Row). r.amounts) (last_of_lem end.ahead end.last end.last)
        ∙ end.final

    within : length end.ahead * n + n ≤ length cells
    within =
        let all-rows : length (flat_map (λ (r : Row). r.amounts) rows) ≡ length end.ahead * n + n = n_each n rows rows_pass
        ∙ ap (λ (j : ℕ). j * n) (some_rows ∙ add-one (length end.ahead)) ∙ suc-mul (length end.ahead) n in
        omega (
          arith,
          all-rows,
          length-append (flat_map (λ (r : Row). r.amounts) rows)
              (replicate (reckoned [] fs * n - length (flat_map (λ (r : Row). r.amounts) rows)) plus_zero ++ drop (reckoned [] fs * n) old),
        )

  -- what the code replies
  module _ {times sides : ℕ} (values : List Float) (t : cycle_rows ≤ times) (s : cycle_rows ≤ sides) (v : cycle_values ≤ length values)
      {span : Window} (d : span ≡ divided n w) where
    goes : simulate_entry k a span fs [] (room times sides (length values)) ≡ done (go h.left)
    goes = ap (λ (x : Window). simulate_entry k a x fs [] (room times sides (length values))) d ∙ entry_goes times sides (length values) t s v

    -- it reaches the end
    pub is-ok : (reply : RunReply) → run_reply reply ≡ report_of (simulate_entry k a span fs [] (room times sides (length values))) → IsOk reply
    is-ok reply e = on reply (ap (λ (x : RunReport). x.number) (e ∙ ap report_of goes))
      where
        never : (x : Refusal) → refusal_number x ≡ 0 → ⊥
        never x q = omega (arith, refusal-number x)

        on : (o : RunReply) → (run_reply o).number ≡ 0 → IsOk o
        on (Ok x) q = refl
        on (Err (Refused x)) q = absurd (never x q)
        on (Err (Stopped x u m)) q = absurd (never x q)

    module _ {reached : Reached} (e : run_reply (Ok reached) ≡ report_of (simulate_entry k a span fs [] (room times sides (length values)))) where
      counted : reached.rows ≡ length end.ahead + 1
      counted = ap (λ (x : RunReport). x.rows) (e ∙ ap report_of goes) ∙ some_rows

      pub some_row : 1 ≤ reached.rows
      some_row = omega (arith, counted)

      few-rows : length end.ahead ≤ cycle_rows
      few-rows = omega (arith, some_rows, h.few, subst (λ (o : Outcome). length (rows_left o) ≤ reckoned [] fs) h.reaches facts.within)

      pub place_fits : (reached.rows - 1) * n ≤ cycle_values
      place_fits = let p : reached.rows - 1 ≡ length end.ahead = omega (arith, counted) in rw p (rooms (length end.ahead) n few-rows small)

      pub cycle-ends : {values' : List Float} → values' ≡ values_at_exit (reckoned [] fs) n
          (simulate_entry k a span fs [] (room times sides (length values))) values
          → ((reached.rows - 1) * n + n ≤ length values') × (last_of (propagator_of k) n w fs a ≡ got (take n (drop ((reached.rows - 1) * n) values')))
      cycle-ends q =
          let p : reached.rows - 1 ≡ length end.ahead = omega (arith, counted) in
          let l = q ∙ ap (λ (o : Result Outcome). values_at_exit (reckoned [] fs) n o values) goes in
          rw (p, l) (within values, ends ∙ ap (λ (x : List Float). got x) (sym (last_row values)))
