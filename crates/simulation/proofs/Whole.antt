-- A whole run that no test ahead refuses: what it leaves is what `simulate` says.
use mathlib.Core.Path.{◌≡◌, refl, sym, ap, ap₂, ◌∙◌, subst}
use mathlib.Core.Bool.{Bool, true, false, not}
use mathlib.Core.List.{List, [], ◌∷◌, ◌++◌, append_assoc}
use mathlib.Core.Option.{some, none}
use Prim.Native.Nat.{ℕ, ◌+◌, ◌-◌, ◌*◌, ◌≤◌, zero-le}
use native.Mathlib.Nat.{le_refl, zero-mul, mul-le-mul_right}
use native.Mathlib.Omega.{arith}
use lib.Dec.{T, leb, leb→le}
use lib.ListN.{length, take, drop, replicate, length-append, length-replicate}
use lib.Seq.{drop_at}
use lib.Ieee.{Float}
use Rattle.limits.specs.Limits.{most_events, most_samples}
use Rattle.binary64.specs.Doubles.{plus_zero}
use Rattle.binary64.specs.Lists.{all, flat_map, amounts_pass}
use Rattle.binary64.proofs.Sorted.{All}
use Rattle.binary64.specs.Sort.{firsts}
use Rattle.protocol.specs.declared.Event.{Event}
use Rattle.protocol.specs.declared.Window.{Window}
use Rattle.protocol.specs.Prepare.{reckoned, prepare}
use Rattle.refusal.specs.Result.{Result, done, and_then, unless}
use Rattle.std.specs.Prelude.{Ok, Err, Result as Came}
use Rattle.linear_pk.specs.declared.kernel.LinearPk.{LinearPk}
use Rattle.linear_pk.specs.LinearPk.{state_count, volumes_pass, matrix_finite, sound}
use Rattle.protocol.specs.Execute.{Row, Outcome, go, stop, run, begin, run_of}
use Rattle.protocol.specs.Entry.{first_refusal, report_of, side_code, front_then_zeros, at_exit, times_at_exit, sides_at_exit, values_at_exit}
use Rattle.protocol.specs.PlainRun.{Prepared, PlainRun, rows_left}
use Rattle.protocol.specs.Schedule.{schedule}
use Rattle.protocol.proofs.EntryLaws.{Passes, ahead_none, laid_length, one_each, width, n_each}
use Rattle.protocol.proofs.ListLaws.{both, all→All, All-map}
use Rattle.rows.specs.declared.Progress.{Progress}
use Rattle.rows.specs.declared.Stopped.{Stopped as Stop}
use Rattle.rows.specs.Written.{put, Cells, cells, written, RoomForRows}
use Rattle.rows.specs.Standing.{Standing, standing, came_to, behind_of, after, Ran, kernel_advance}
use Rattle.rows.proofs.Exits.{written-times, written-sides, written-values, put_zeros, progress_reply, ran-reply, ran-rows}
use Rattle.rows.proofs.Parts.{ran-same}
use Rattle.rows.proofs.Puts.{room_less}
use Rattle.simulation.specs.KernelRun.{propagator_of, refusal_of}
use Rattle.preparation.specs.Preparation.{own_number}
use Rattle.simulation_matrix.specs.Started.{started}
use Rattle.simulation_report.specs.Replies.{room, run_reply}
use Rattle.simulation_report.specs.declared.RunError.TheVariants.{Stopped}
use Rattle.simulation.proofs.KernelRuns.{kernel-run}

-- ---- what holds where no test ahead refuses
pub own_none : (k : LinearPk) → own_number (sound k) ≡ none → sound k ≡ done k
own_none k = on (volumes_pass k) (λ (j : LinearPk). matrix_finite j)
  where
    some_none : {A : Type 0} {c : ℕ} → some c ≡ none → A
    some_none q = absurd (no q)
      where
        no : {c : ℕ} → some c ≡ none → ⊥
        no q = let z : ◌≡◌ {A = ℕ} 0 1 = cc in omega arith

    rates : (b : Bool) → own_number (unless b 2 k) ≡ none → unless b 2 k ≡ done k
    rates true h = refl
    rates false h = some_none h

    on : (a : Bool) (b : LinearPk → Bool) → own_number (and_then (unless a 1 k) (λ j. unless (b j) 2 j)) ≡ none
        → and_then (unless a 1 k) (λ j. unless (b j) 2 j) ≡ done k
    on true b h = rates (b k) h
    on false b h = some_none h

-- zeros over what was laid
laid_over : {A : Type 0} (z : A) (k : ℕ) (xs old : List A) → length xs ≤ k → front_then_zeros z k [] (front_then_zeros z k xs old) ≡ front_then_zeros z k [] old
laid_over z k xs old h =
    ap (λ (l : List _). replicate (k - 0) z ++ l)
    (ap (λ (l : List _). drop k l) (sym (append_assoc xs (replicate (k - length xs) z) (drop k old)))
    ∙ drop_at (xs ++ replicate (k - length xs) z) (drop k old) k (length-append xs (replicate (k - length xs) z)
    ∙ ap (◌+◌ (length xs)) (length-replicate (k - length xs) z) ∙ sums (length xs) k h))
  where
    sums : (x k : ℕ) → x ≤ k → x + (k - x) ≡ k
    sums x k h = omega arith

abbrev is_stop : Outcome → Bool
is_stop (go z) = false
is_stop (stop c t z) = true

exit_stopped : {A : Type 0} (z : A) (f : Row → List A) (k : ℕ) (o : Outcome) (old : List A) → is_stop o ≡ true
    → at_exit z f k (done o) old ≡ front_then_zeros z k [] old
exit_stopped z f k (stop c t s) old h = refl
exit_stopped z f k (go s) old h = absurd (subst (λ (b : Bool). T (not b)) h tt)

exit_reached : {A : Type 0} (z : A) (f : Row → List A) (k : ℕ) (o : Outcome) (old : List A) → is_stop o ≡ false
    → at_exit z f k (done o) old ≡ front_then_zeros z k (flat_map f (rows_left o)) old
exit_reached z f k (go s) old h = refl
exit_reached z f k (stop c t s) old h = absurd (subst T h tt)

module _ (k : LinearPk) (initial : List Float) (w : Window) (ss : List Float) (es : List Event) (times : List Float) (sides : List ℕ) (values : List Float)
    (h : first_refusal (own_number (sound k)) (state_count k) w ss es (take (state_count k) initial)
    (room (length times) (length sides) (length values)) ≡ none) where
  begins : Passes (own_number (sound k)) (state_count k) w ss es (take (state_count k) initial) (room (length times) (length sides) (length values))
  begins = ahead_none (own_number (sound k)) (state_count k) w ss es (take (state_count k) initial) (room (length times) (length sides) (length values)) h

  pub few-events : length es ≤ most_events
  few-events = leb→le (length es) most_events (both (leb (length es) most_events) (leb (length ss) most_samples) begins.limits).0

  pub few-samples : length ss ≤ most_samples
  few-samples = leb→le (length ss) most_samples (both (leb (length es) most_events) (leb (length ss) most_samples) begins.limits).1

  pub passes_none : prepare (state_count k) w ss es ≡ none
  passes_none = begins.prepared

  pub whole_room : RoomForRows (state_count k) (reckoned ss es) (cells times sides values)
  whole_room =
      let f = both (leb (reckoned ss es) (length times)) _ begins.roomy in
      let g = both (leb (reckoned ss es) (length sides)) _ f.1 in
      record { times = leb→le _ _ f.0; sides = leb→le _ _ g.0; values = leb→le _ _ g.1 }

  module _ {ts : List Float} {ds : List ℕ} {vs : List Float}
      (t : ts ≡ front_then_zeros plus_zero (reckoned ss es) [] times) (d : ds ≡ front_then_zeros 0 (reckoned ss es) [] sides)
      (v : vs ≡ front_then_zeros plus_zero (reckoned ss es * state_count k) [] values) where
    pub cleared_room : RoomForRows (state_count k) (reckoned ss es) (cells ts ds vs)
    cleared_room = record {
      times =
          subst (λ (l : ℕ). reckoned ss es ≤ l) (sym (ap length t
          ∙ laid_length plus_zero (reckoned ss es) [] times zero-le whole_room.times)) whole_room.times;
      sides =
          subst (λ (l : ℕ). reckoned ss es ≤ l) (sym (ap length d ∙ laid_length 0 (reckoned ss es) [] sides zero-le whole_room.sides))
          whole_room.sides;
      values =
          subst (λ (l : ℕ). reckoned ss es * state_count k ≤ l) (sym (ap length v
          ∙ laid_length plus_zero (reckoned ss es * state_count k) [] values zero-le whole_room.values)) whole_room.values;
    }

    module _ {p : Came Progress Stop} {ts' : List Float} {ds' : List ℕ} {vs' : List Float} (prep : Prepared (state_count k) w ss es)
        (r : Ran (kernel_advance k (state_count k)) (state_count k) (started initial w.propagations) (schedule (state_count k) w ss es)
        (cells ts ds vs) p (cells ts' ds' vs')) where
      abbrev pub outcome : Outcome
      outcome = run_of (propagator_of k) (state_count k) w ss es (take (state_count k) initial)

      run_facts : PlainRun (propagator_of k) (refusal_of k) (state_count k) w ss es (take (state_count k) initial)
      run_facts = kernel-run k (own_none k begins.kernel) w ss es prep (take (state_count k) initial) begins.amounts

      pub whole-reply : progress_reply p ≡ report_of (done outcome)
      unfolding run_of kernel_advance firsts
      whole-reply = ran-reply (started initial w.propagations) refl refl r

      rows_are : cells ts' ds' vs' ≡ written (state_count k) 0 (rows_left outcome) (cells ts ds vs)
      unfolding run_of kernel_advance firsts
      rows_are = ran-rows (started initial w.propagations) refl refl r

      -- the cells of the rows, in turn
      abbrev time_cells : List Float
      time_cells = flat_map (λ (x : Row). x.time ∷ []) (rows_left outcome)

      abbrev side_cells : List ℕ
      side_cells = flat_map (λ (x : Row). side_code x.side ∷ []) (rows_left outcome)

      abbrev value_cells : List Float
      value_cells = flat_map (λ (x : Row). x.amounts) (rows_left outcome)

      time-count : length time_cells ≤ reckoned ss es
      time-count = subst (λ (l : ℕ). l ≤ reckoned ss es) (sym (one_each (λ (x : Row). x.time) (rows_left outcome))) run_facts.within

      side-count : length side_cells ≤ reckoned ss es
      side-count = subst (λ (l : ℕ). l ≤ reckoned ss es) (sym (one_each (λ (x : Row). side_code x.side) (rows_left outcome))) run_facts.within

      value_count : length value_cells ≤ reckoned ss es * state_count k
      value_count =
          subst (λ (l : ℕ). l ≤ reckoned ss es * state_count k) (sym (n_each (state_count k) (rows_left outcome) run_facts.rows))
          (mul-le-mul_right (state_count k) run_facts.within)

      times_are : ts' ≡ front_then_zeros plus_zero (reckoned ss es) time_cells times
      times_are =
          ap (λ (c : Cells). c.times) rows_are ∙ written-times (state_count k) 0 (rows_left outcome) (cells ts ds vs) ∙ ap (put 0 time_cells) t
          ∙ put_zeros plus_zero (reckoned ss es) time_cells times time-count

      sides_are : ds' ≡ front_then_zeros 0 (reckoned ss es) side_cells sides
      sides_are =
          ap (λ (c : Cells). c.sides) rows_are ∙ written-sides (state_count k) 0 (rows_left outcome) (cells ts ds vs) ∙ ap (put 0 side_cells) d
          ∙ put_zeros 0 (reckoned ss es) side_cells sides side-count

      values_are : vs' ≡ front_then_zeros plus_zero (reckoned ss es * state_count k) value_cells values
      values_are =
          ap (λ (c : Cells). c.values) rows_are
          ∙ written-values (state_count k) 0 (rows_left outcome) (cells ts ds vs) (cuts (rows_left outcome) run_facts.rows)
          ∙ ap (λ (i : ℕ). put i value_cells vs) (zero-mul (state_count k))
          ∙ ap (put 0 value_cells) v
          ∙ put_zeros plus_zero (reckoned ss es * state_count k) value_cells values value_count
        where
          cuts : (rs : List Row) → T (all (λ (x : Row). amounts_pass (state_count k) x.amounts) rs) → All (λ (x : Row). length x.amounts ≡ state_count k) rs
          cuts rs g =
              All-map (λ (x : Row) (q : T (amounts_pass (state_count k) x.amounts)). width (state_count k) x q) rs
              (all→All (λ (x : Row). amounts_pass (state_count k) x.amounts) rs g)

      abbrev stops : Came Progress Stop → Bool
      stops x = (came_to (state_count k) x).stopped

      stops_as : stops p ≡ is_stop outcome
      unfolding run_of kernel_advance firsts after
      stops_as =
          ap (λ (q : Standing). q.stopped) r.progress
          ∙ on (run (propagator_of k) w.propagations (begin (take (state_count k) initial)) (schedule (state_count k) w ss es))
        where
          on : (o : Outcome) → (behind_of (standing (state_count k) (started initial w.propagations)) o).stopped ≡ is_stop o
          on (go z) = refl
          on (stop c u z) = refl

      pub reached_exit : (z : Progress) → p ≡ Ok z
          → (ts' ≡ times_at_exit (reckoned ss es) (done outcome) times) × (ds' ≡ sides_at_exit (reckoned ss es) (done outcome) sides)
          × (vs' ≡ values_at_exit (reckoned ss es) (state_count k) (done outcome) values)
      reached_exit z e =
          let g = sym stops_as ∙ ap stops e in (
            times_are ∙ sym (exit_reached plus_zero (λ (x : Row). x.time ∷ []) (reckoned ss es) outcome times g),
            sides_are ∙ sym (exit_reached 0 (λ (x : Row). side_code x.side ∷ []) (reckoned ss es) outcome sides g),
            values_are ∙ sym (exit_reached plus_zero (λ (x : Row). x.amounts) (reckoned ss es * state_count k) outcome values g),
          )

      pub stopped-reply : (z : Stop) → p ≡ Err z → run_reply (Err (Stopped z.refusal z.time z.at.made)) ≡ report_of (done outcome)
      stopped-reply z e = ap progress_reply (sym e) ∙ whole-reply

      pub reached-reply : (z : Progress) → p ≡ Ok z → run_reply (Ok (record { rows = z.rows; advances = z.made })) ≡ report_of (done outcome)
      reached-reply z e = ap progress_reply (sym e) ∙ whole-reply

      -- room for zeros again
      pub left-room : RoomForRows (state_count k) (reckoned ss es) (cells ts' ds' vs')
      left-room =
          room_less (state_count k) (reckoned ss es) (reckoned ss es) (cells ts ds vs) (cells ts' ds' vs') (le_refl (reckoned ss es))
          (ran-same r) cleared_room

      pub stopped_exit : (z : Stop) → p ≡ Err z → {ts'' : List Float} {ds'' : List ℕ} {vs'' : List Float}
          → ts'' ≡ front_then_zeros plus_zero (reckoned ss es) [] ts' → ds'' ≡ front_then_zeros 0 (reckoned ss es) [] ds'
          → vs'' ≡ front_then_zeros plus_zero (reckoned ss es * state_count k) [] vs'
          → (ts'' ≡ times_at_exit (reckoned ss es) (done outcome) times) × (ds'' ≡ sides_at_exit (reckoned ss es) (done outcome) sides)
          × (vs'' ≡ values_at_exit (reckoned ss es) (state_count k) (done outcome) values)
      stopped_exit z e a b c =
          let g = sym stops_as ∙ ap stops e in (
            a ∙ ap (front_then_zeros plus_zero (reckoned ss es) []) times_are ∙ laid_over plus_zero (reckoned ss es) time_cells times time-count
                ∙ sym (exit_stopped plus_zero (λ (x : Row). x.time ∷ []) (reckoned ss es) outcome times g),
            b ∙ ap (front_then_zeros 0 (reckoned ss es) []) sides_are ∙ laid_over 0 (reckoned ss es) side_cells sides side-count
                ∙ sym (exit_stopped 0 (λ (x : Row). side_code x.side ∷ []) (reckoned ss es) outcome sides g),
            c ∙ ap (front_then_zeros plus_zero (reckoned ss es * state_count k) []) values_are
                ∙ laid_over plus_zero (reckoned ss es * state_count k) value_cells values value_count
                ∙ sym (exit_stopped plus_zero (λ (x : Row). x.amounts) (reckoned ss es * state_count k) outcome values g),
          )

  -- the same of n states and so many rows, as the code has them
  abbrev whole : Result Outcome
  whole = done (run_of (propagator_of k) (state_count k) w ss es (take (state_count k) initial))

  module _ {n rows : ℕ} (m : n ≡ state_count k) (q : rows ≡ reckoned ss es) where
    pub room_to_clear : RoomForRows n rows (cells times sides values)
    room_to_clear =
        subst (λ (j : ℕ). RoomForRows j rows (cells times sides values)) (sym m) (subst
        (λ (i : ℕ). RoomForRows (state_count k) i (cells times sides values)) (sym q) whole_room)

    pub none_refused : prepare n w ss es ≡ none
    none_refused = ap (λ (j : ℕ). prepare j w ss es) m ∙ passes_none

    module _ {ts : List Float} {ds : List ℕ} {vs : List Float}
        (t : ts ≡ front_then_zeros plus_zero rows [] times) (d : ds ≡ front_then_zeros 0 rows [] sides) (v : vs ≡ front_then_zeros plus_zero (rows * n) [] values) where
      times_cleared : ts ≡ front_then_zeros plus_zero (reckoned ss es) [] times
      times_cleared = t ∙ ap (λ (i : ℕ). front_then_zeros plus_zero i [] times) q

      sides_cleared : ds ≡ front_then_zeros 0 (reckoned ss es) [] sides
      sides_cleared = d ∙ ap (λ (i : ℕ). front_then_zeros 0 i [] sides) q

      values_cleared : vs ≡ front_then_zeros plus_zero (reckoned ss es * state_count k) [] values
      values_cleared = v ∙ ap₂ (λ (i j : ℕ). front_then_zeros plus_zero (i * j) [] values) q m

      pub room_to_run : RoomForRows n (reckoned ss es) (cells ts ds vs)
      room_to_run = subst (λ (j : ℕ). RoomForRows j (reckoned ss es) (cells ts ds vs)) (sym m) (cleared_room times_cleared sides_cleared values_cleared)

      module _ {p : Came Progress Stop} {ts' : List Float} {ds' : List ℕ} {vs' : List Float}
          (a : Prepared n w ss es × Ran (kernel_advance k n) n (started initial w.propagations) (schedule n w ss es) (cells ts ds vs) p
          (cells ts' ds' vs')) where
        prepared : Prepared (state_count k) w ss es
        prepared = subst (λ (j : ℕ). Prepared j w ss es) m a.0

        ran : Ran (kernel_advance k (state_count k)) (state_count k) (started initial w.propagations) (schedule (state_count k) w ss es)
            (cells ts ds vs) p (cells ts' ds' vs')
        ran =
            subst (λ (j : ℕ). Ran (kernel_advance k j) j (started initial w.propagations) (schedule j w ss es) (cells ts ds vs) p
            (cells ts' ds' vs')) m a.1

        pub room_again : RoomForRows n rows (cells ts' ds' vs')
        room_again =
            subst (λ (j : ℕ). RoomForRows j rows (cells ts' ds' vs')) (sym m)
            (subst (λ (i : ℕ). RoomForRows (state_count k) i (cells ts' ds' vs')) (sym q) (left-room times_cleared sides_cleared values_cleared prepared ran))

        pub reached : (z : Progress) → p ≡ Ok z
            → (run_reply (Ok (record { rows = z.rows; advances = z.made })) ≡ report_of whole)
            × ((ts' ≡ times_at_exit (reckoned ss es) whole times)
            × ((ds' ≡ sides_at_exit (reckoned ss es) whole sides) × (vs' ≡ values_at_exit (reckoned ss es) (state_count k) whole values)))
        reached z e =
            let x = reached_exit times_cleared sides_cleared values_cleared prepared ran z e in (
              reached-reply times_cleared sides_cleared values_cleared prepared ran z e,
              (x.0, (x.1, x.2)),
            )

        module _ {ts'' : List Float} {ds'' : List ℕ} {vs'' : List Float}
            (t' : ts'' ≡ front_then_zeros plus_zero rows [] ts') (d' : ds'' ≡ front_then_zeros 0 rows [] ds')
            (v' : vs'' ≡ front_then_zeros plus_zero (rows * n) [] vs') where
          times_again : ts'' ≡ front_then_zeros plus_zero (reckoned ss es) [] ts'
          times_again = t' ∙ ap (λ (i : ℕ). front_then_zeros plus_zero i [] ts') q

          sides_again : ds'' ≡ front_then_zeros 0 (reckoned ss es) [] ds'
          sides_again = d' ∙ ap (λ (i : ℕ). front_then_zeros 0 i [] ds') q

          values_again : vs'' ≡ front_then_zeros plus_zero (reckoned ss es * state_count k) [] vs'
          values_again = v' ∙ ap₂ (λ (i j : ℕ). front_then_zeros plus_zero (i * j) [] vs') q m

          pub stopped : (z : Stop) → p ≡ Err z
              → (run_reply (Err (Stopped z.refusal z.time z.at.made)) ≡ report_of whole)
              × ((ts'' ≡ times_at_exit (reckoned ss es) whole times)
              × ((ds'' ≡ sides_at_exit (reckoned ss es) whole sides) × (vs'' ≡ values_at_exit (reckoned ss es) (state_count k) whole values)))
          stopped z e =
              let x = stopped_exit times_cleared sides_cleared values_cleared prepared ran z e times_again sides_again values_again in (
                stopped-reply times_cleared sides_cleared values_cleared prepared ran z e,
                (x.0, (x.1, x.2)),
              )
