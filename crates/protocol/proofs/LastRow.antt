-- The last row of a run that reaches the end is the post row at the last boundary, which equals the window's end (==). Assumes nothing.
use mathlib.Core.Path.{◌≡◌, refl, sym, ap, ◌∙◌, subst}
use Prim.Native.Nat.{ℕ, ◌≤◌}
use native.Mathlib.Nat.{le_refl, le_trans, le_of_lt, le_antisymm}
use mathlib.Core.Bool.{Bool, true, false, cond, ◌||◌}
use mathlib.Core.List.{List, [], ◌∷◌, ◌++◌, map, append_assoc}
use lib.Dec.{T}
use lib.ListN.{length, replicate}
use lib.Ieee.{Float, binary64, lt, eq}
use Rattle.binary64.specs.Doubles.{total_le}
use Rattle.binary64.specs.Sort.{sort_by, firsts, firsts_from}
use Rattle.binary64.proofs.Units.{spot}
use Rattle.binary64.proofs.Order.{lt→spot, le→spot, eq→spot, spot→eq}
use Rattle.binary64.proofs.Sorted.{All, Chain, sort_perm, sort_all, all_perm}
use Rattle.protocol.specs.declared.Event.{Event}
use Rattle.protocol.specs.declared.Window.{Window}
use Rattle.binary64.specs.Lists.{any, pick}
use Rattle.protocol.specs.Events.{sorted_unique, boundary_times, boundaries, has_event, resets, boluses}
use Rattle.protocol.specs.Schedule.{Step, check, pre, post, apply, summed, marked, at_boundary, on_interval, following, from_first, schedule}
use Rattle.protocol.specs.Execute.{Propagator, State, Post, go, begin, run_of}
use Rattle.protocol.specs.PlainRun.{Prepared, EndRow}
use Rattle.protocol.proofs.ListLaws.{or_left, or_right, All-map}
use Rattle.protocol.proofs.Times.{Inner, good, Passed, passed, times_in, boundaries_in, boundaries_rise}
use Rattle.protocol.proofs.Effects.{leaves_all, rows_all, leaves_append, rows_append, Left, run-left}

abbrev pub last_of : Float → List Float → Float
last_of t [] = t
last_of t (u ∷ us) = last_of u us

-- ---- each time that was given is level with one in order
head_kept : (p : Float → Bool) (x : Float) (ys : List Float) → T (p x) → T (any p (firsts_from eq x ys))
unfolding firsts_from
head_kept p x [] h = or_left (p x) false h
head_kept p x (y ∷ ys) h = on (eq x y) (head_kept p x ys h)
  where
    on : (b : Bool) → T (any p (firsts_from eq x ys)) → T (any p (cond b (firsts_from eq x ys) (x ∷ firsts_from eq y ys)))
    on true ih = ih
    on false ih = or_left (p x) (any p (firsts_from eq y ys)) h

abbrev pub Covered : List Float → Float → Type 0
Covered bs x = T (any (λ (b : Float). eq b x) bs)

covers : (x : Float) (ys : List Float) → All (λ (y : Float). T (eq y y)) ys → All (Covered (firsts_from eq x ys)) ys
unfolding firsts_from
covers x [] h = tt
covers x (y ∷ ys) h = on (eq x y) (λ l. l) (covers x ys h.1) (covers y ys h.1)
  where
    on : (b : Bool) → (T b → T (eq x y)) → All (Covered (firsts_from eq x ys)) ys → All (Covered (firsts_from eq y ys)) ys
        → All (Covered (cond b (firsts_from eq x ys) (x ∷ firsts_from eq y ys))) (y ∷ ys)
    on true f p q = (head_kept (λ (b : Float). eq b y) x ys (f tt), p)
    on false f p q = (
      or_right (eq x y) (any (λ (b : Float). eq b y) (firsts_from eq y ys)) (head_kept (λ (b : Float). eq b y) y ys h.0),
      All-map (λ (z : Float) (k : Covered (firsts_from eq y ys) z). or_right (eq x z) (any (λ (b : Float). eq b z) (firsts_from eq y ys)) k) ys q,
    )

firsts_cover : (xs : List Float) → All (λ (y : Float). T (eq y y)) xs → All (Covered (firsts eq xs)) xs
unfolding firsts
firsts_cover [] h = tt
firsts_cover (x ∷ xs) h = (head_kept (λ (b : Float). eq b x) x xs h.0, covers x xs h.1)

pub sorted_unique_covers : (w : Window) (xs : List Float) → All (Inner w) xs → All (Covered (sorted_unique xs)) xs
unfolding sorted_unique
sorted_unique_covers w xs h =
    all_perm (Covered (firsts eq (sort_by total_le xs))) (sort_perm total_le xs)
    (firsts_cover (sort_by total_le xs) (sort_all total_le (λ (y : Float). T (eq y y)) xs
    (All-map (λ (y : Float) (p : Inner w y). spot→eq binary64 y y (good p) (good p) refl) xs h)))

-- ---- the last one is behind all
pub before_last : (w : Window) (t : Float) (us : List Float) → All (Inner w) (t ∷ us) → Chain lt (t ∷ us)
    → All (λ (b : Float). spot binary64 b ≤ spot binary64 (last_of t us)) (t ∷ us)
before_last w t [] p c = (le_refl (spot binary64 t), tt)
before_last w t (u ∷ us) p c =
    let ih = before_last w u us p.1 c.1 in
    (le_trans (le_of_lt (lt→spot binary64 t u (good p.0) (good p.1.0) c.0)) ih.0, ih)

last_in : (G : Float → Type 0) (t : Float) (us : List Float) → All G (t ∷ us) → G (last_of t us)
last_in G t [] h = h.0
last_in G t (u ∷ us) h = last_in G u us h.1

pub covered_below : (w : Window) (x : Float) (k : ℕ) (bs : List Float) → Inner w x → All (Inner w) bs
    → All (λ (b : Float). spot binary64 b ≤ k) bs → Covered bs x → spot binary64 x ≤ k
covered_below w x k [] p q h c = absurd c
covered_below w x k (b ∷ bs) p q h c = on (eq b x) (λ l. l) c (covered_below w x k bs p q.1 h.1)
  where
    on : (d : Bool) → (T d → T (eq b x)) → T (d || any (λ (b : Float). eq b x) bs) → (Covered bs x → spot binary64 x ≤ k) → spot binary64 x ≤ k
    on true f c ih = subst (λ (m : ℕ). m ≤ k) (eq→spot binary64 b x (good q.0) (good p) (f tt)) h.0
    on false f c ih = ih c

last_is_end : (w : Window) (t : Float) (us : List Float) → Inner w w.end → All (Inner w) (t ∷ us) → Chain lt (t ∷ us)
    → Covered (t ∷ us) w.end → T (eq (last_of t us) w.end)
last_is_end w t us e p c h =
    let l = last_in (Inner w) t us p in
    spot→eq binary64 (last_of t us) w.end (good l) (good e)
    (le_antisymm (le→spot binary64 (last_of t us) w.end (good l) (good e) l.to_end)
    (covered_below w w.end (spot binary64 (last_of t us)) (t ∷ us) e p (before_last w t us p c) h))

-- ---- the schedule ends with its post row
record EndsAt (xs : List Step) (t : Float) : Type 0 where
  ahead : List Step
  whole : xs ≡ ahead ++ (post t ∷ [])

push : (xs ys : List Step) (t : Float) → EndsAt ys t → EndsAt (xs ++ ys) t
push xs ys t h = record { ahead = xs ++ h.ahead; whole = ap (◌++◌ xs) h.whole ∙ sym (append_assoc xs h.ahead (post t ∷ [])) }

boundary_last : (t : Float) (es : List Event) → EndsAt (at_boundary t es) t
unfolding at_boundary
boundary_last t es =
    push (check t ∷ []) _ t (push (pick (has_event t es) (pre t) []) _ t (push (map (apply t) (resets t es ++ boluses t es)) _ t
    (record { ahead = []; whole = refl })))

following-last : (n : ℕ) (es : List Event) (ss : List Float) (ms : List Bool) (t : Float) (us : List Float) → EndsAt (following n es ss ms t us) (last_of t us)
unfolding following
following-last n es ss ms t [] = boundary_last t es
following-last n es ss ms t (u ∷ us) =
    push (at_boundary t es) _ (last_of u us) (push (on_interval t (summed n t es (marked t es ms)) u ss) _ (last_of u us)
    (following-last n es ss (marked t es ms) u us))

closing : (advance : Propagator) (w : Window) (xs : List Step) (t : Float) (a : List Float) (z : State) → EndsAt xs t → T (eq t w.end)
    → z.rows ≡ rows_all advance a xs → z.amounts ≡ leaves_all advance a xs → EndRow w z
closing advance w xs t a z h e p q = record {
  ahead = rows_all advance a h.ahead;
  last = record { time = t; side = Post; amounts = leaves_all advance a h.ahead };
  whole = p ∙ ap (rows_all advance a) h.whole ∙ rows_append advance a h.ahead (post t ∷ []);
  post = refl;
  at_end = e;
  final = sym (q ∙ ap (leaves_all advance a) h.whole ∙ leaves_append advance a h.ahead (post t ∷ []));
}

pub last_row : (advance : Propagator) (n : ℕ) (w : Window) (ss : List Float) (es : List Event) → Prepared n w ss es → (a : List Float) (z : State)
    → run_of advance n w ss es a ≡ go z → EndRow w z
unfolding run_of schedule boundaries
last_row advance n w ss es g a z e =
    on (boundaries w es) (boundaries_in k) (boundaries_rise k) (sorted_unique_covers w (boundary_times w.start w.end es)
    (times_in k)).1.0 l.rows l.amounts
  where
    k : Passed w ss es
    k = passed g

    l : Left advance (begin a) (schedule n w ss es) z
    l = run-left advance w.propagations (schedule n w ss es) (begin a) z e

    on : (bs : List Float) → All (Inner w) bs → Chain lt bs → Covered bs w.end
        → z.rows ≡ rows_all advance a (from_first n es (sorted_unique ss) bs)
        → z.amounts ≡ leaves_all advance a (from_first n es (sorted_unique ss) bs) → EndRow w z
    on [] p c h r q = absurd h
    on (t ∷ ts) p c h r q =
        closing advance w (following n es (sorted_unique ss) (replicate (length es) false) t ts) (last_of t ts) a z
        (following-last n es (sorted_unique ss) (replicate (length es) false) t ts)
        (last_is_end w t ts k.end_in p c h) r q
