-- The kernel's advance has the laws that a run asks: 3 exactly for arguments that do not pass, else 20, 21 or 22, each exactly where its
-- condition holds, or n amounts that pass.
use mathlib.Core.Path.{◌≡◌, refl, sym, ap, ◌∙◌, subst}
use mathlib.Core.Bool.{Bool, true, false, not, ◌&&◌, ◌||◌}
use mathlib.Core.List.{List, ◌∷◌}
use mathlib.Core.Logic.{◌↔◌, ◌⊎◌, inl, inr, ⊎_elim}
use Prim.Native.Nat.{ℕ, zero, suc, ◌+◌, ◌≤◌, ◌<◌}
use native.Mathlib.Nat.{zero-add, le_refl, le_of_suc-le-suc, eq-or-lt_of_le, lt-suc_self}
use native.Mathlib.Omega.{arith}
use borrow.Author.Tests.{le-leb, eq-eqb}
use lib.Dec.{T, eqb}
use lib.ListN.{length}
use lib.Ieee.{Float, binary64, mul, lt, eq}
use lib.Ieee.Scale.{finite}
use Rattle.binary64.specs.Doubles.{plus_zero, half, nonnegative}
use Rattle.binary64.specs.Lists.{all, amounts_pass}
use Rattle.refusal.specs.Result.{Result, refused, done, and_then, unless}
use Rattle.matrix.specs.Matrix.{Matrix, cell, tabulate, all_to}
use Rattle.matrix.specs.Exponential.{Scheme, scheme, halvings, halving_count, taylor, all_finite, Exponential, exponential}
use Rattle.matrix.proofs.Filled.{tabulate-length}
use Rattle.linear_pk_interval.specs.Interval.{propagator, amount_to, propagated, over, interval}
use Rattle.linear_pk.specs.LinearPk.{state_count, sound, advance}
use Rattle.linear_pk.specs.declared.kernel.LinearPk.{LinearPk}
use Rattle.protocol.specs.PlainRun.{advance_numbers, one_of, arguments_pass}
use Rattle.protocol.proofs.Theorems.{plain_run}
use Rattle.simulation.specs.KernelRun.{block_of, norm_of, halved_norm, above, TakesHalvings, results_pass, Refusal, norm_fails}
use Rattle.simulation.specs.KernelRun.{halvings_fail, results_fail, EveryInterval, propagator_of, refusal_of, EveryKernel}
use Rattle.simulation.specs.KernelRun.{EveryKernelRun}

-- ---- the amounts
abbrev Kept : ℕ → Result (List Float) → Type 0
Kept n (refused c) = Unit {0}
Kept n (done y) = T (amounts_pass n y)

kept_then : {A : Type 0} (n : ℕ) (r : Result A) (f : A → Result (List Float)) → ((a : A) → Kept n (f a)) → Kept n (and_then r f)
kept_then n (refused c) f h = tt
kept_then n (done a) f h = h a

kept_applied : (n : ℕ) (p : Matrix) (x r : List Float) (d : Float) → Kept n (propagated n p x r d)
unfolding propagated
kept_applied n p x r d = on (all_to (λ j. finite (mul binary64 (cell r j) d)) n)
  where
    y : List Float
    y = tabulate n (λ i. amount_to p n x r d i n)

    last : (b : Bool) → (T b → T (all nonnegative y)) → Kept n (unless b 22 y)
    last false f = tt
    last true f = rw (eq-eqb (length y) n (tabulate-length (λ i. amount_to p n x r d i n) n)) (f tt)

    on : (b : Bool) → Kept n (and_then (unless b 22 y) (λ z. unless (all nonnegative z) 22 z))
    on false = tt
    on true = last (all nonnegative y) (λ t. t)

kept_interval : (s : Scheme) (n : ℕ) (k x r : List Float) (d : Float) → T (amounts_pass n x) → Kept n (interval s n k x r d)
unfolding interval
kept_interval s n k x r d h =
    on (eq d plus_zero) (and_then (propagator s n k d) (λ e. propagated n e.matrix x r d))
    (kept_then n (propagator s n k d) _ (λ e. kept_applied n e.matrix x r d))
  where
    on : (b : Bool) (w : Result (List Float)) → Kept n w → Kept n (over b x w)
    on true w g = h
    on false w g = g

-- ---- the halvings of a norm
module _ (s : Scheme) where
  halved_once : (j : ℕ) (x : Float) → halved_norm (suc j) x ≡ halved_norm j (mul binary64 x half)
  unfolding halved_norm
  halved_once zero x = refl
  halved_once (suc j) x = ap (λ (y : Float). mul binary64 y half) (halved_once j x)

  later : (j : ℕ) (x : Float) → T (above s (suc j) x) → T (above s j (mul binary64 x half))
  later j x = subst (λ (y : Float). T (lt s.threshold y)) (halved_once j x)

  later_not : (j : ℕ) (x : Float) → T (not (above s (suc j) x)) → T (not (above s j (mul binary64 x half)))
  later_not j x = subst (λ (y : Float). T (not (lt s.threshold y))) (halved_once j x)

  -- above the threshold each time: 21
  all_above : (d n : ℕ) (x : Float) → ((j : ℕ) → j < d → T (above s j x)) → halvings s.threshold d n x ≡ refused 21
  unfolding halvings halved_norm
  all_above zero n x h = refl
  all_above (suc d) n x h = on (lt s.threshold x) (h 0 (omega arith)) (all_above d (suc n) (mul binary64 x half)
      (λ j l. later j x (h (suc j) (omega (arith, l)))))
    where
      on : (b : Bool) → T b → halvings s.threshold d (suc n) (mul binary64 x half) ≡ refused 21
          → ◌≡◌ {A = Result ℕ} (elim b [ false ↦ done n | true ↦ halvings s.threshold d (suc n) (mul binary64 x half) ]) (refused 21)
      on true t e = e
      on false t e = absurd t

  -- the first time that it is not
  first_not : (d n : ℕ) (x : Float) (c : ℕ) → c < d → ((j : ℕ) → j < c → T (above s j x)) → T (not (above s c x)) → halvings s.threshold d n x ≡ done (n + c)
  unfolding halvings halved_norm
  first_not zero n x c l h f = absurd (none c l)
    where
      none : (c : ℕ) → c < 0 → ⊥
      none c l = omega arith
  first_not (suc d) n x zero l h f = on (lt s.threshold x) f
    where
      on : (b : Bool) → T (not b) → ◌≡◌ {A = Result ℕ} (elim b [
        | false ↦ done n
        | true ↦ halvings s.threshold d (suc n)
            (mul binary64 x half)
      ]) (done (n + 0))
      on true t = absurd t
      on false t = ap done (omega arith)
  first_not (suc d) n x (suc c) l h f =
      on (lt s.threshold x) (h 0 (omega arith))
      (first_not d (suc n) (mul binary64 x half) c (omega (arith, l)) (λ j m. later j x (h (suc j) (omega (arith, m)))) (later_not c x f)
      ∙ ap done (omega arith))
    where
      on : (b : Bool) → T b → halvings s.threshold d (suc n) (mul binary64 x half) ≡ done (n + suc c)
          → ◌≡◌ {A = Result ℕ} (elim b [ false ↦ done n | true ↦ halvings s.threshold d (suc n) (mul binary64 x half) ])
          (done (n + suc c))
      on true t e = e
      on false t e = absurd t

  -- one or the other
  abbrev First : ℕ → Float → Type 0
  First d x = (c : ℕ) × (c < d) × ((j : ℕ) → j < c → T (above s j x)) × T (not (above s c x))

  which : (d : ℕ) (x : Float) → ((j : ℕ) → j < d → T (above s j x)) ⊎ First d x
  which zero x = inl (λ j l. absurd (none j l))
    where
      none : (c : ℕ) → c < 0 → ⊥
      none c l = omega arith
  which (suc d) x = on (which d x)
    where
      last : (b : Bool) → (T b → T (above s d x)) → (T (not b) → T (not (above s d x))) → ((j : ℕ) → j < d → T (above s j x))
          → ((j : ℕ) → j < suc d → T (above s j x)) ⊎ First (suc d) x
      last true f g h = inl (λ j l. ⊎_elim (λ e. subst (λ (i : ℕ). T (above s i x)) (sym e) (f tt)) (h j) (eq-or-lt_of_le (le_of_suc-le-suc l)))
      last false f g h = inr (d, lt-suc_self d, h, g tt)

      on : ((j : ℕ) → j < d → T (above s j x)) ⊎ First d x → ((j : ℕ) → j < suc d → T (above s j x)) ⊎ First (suc d) x
      on (inl h) = last (above s d x) (λ t. t) (λ t. t) h
      on (inr (c, l, h, f)) = inr (c, omega (arith, l), h, f)

-- ---- the conditions of 20, 21 and 22
apart : {c : ℕ} {a : List Float} → done a ≡ refused c → ⊥
apart e = let z : ◌≡◌ {A = ℕ} 0 1 = cc in omega arith

same_number : {k c : ℕ} → ◌≡◌ {A = Result (List Float)} (refused k) (refused c) → k ≡ c
same_number q = cc

same-amounts : {a y : List Float} → done a ≡ done y → a ≡ y
same-amounts q = cc

module _ (s : Scheme) (n : ℕ) (k a r : List Float) (d : Float) (lasts : T (not (eq d plus_zero))) where
  abbrev x : Float
  x = norm_of n k d

  abbrev powers : ℕ → Matrix
  powers c = taylor s (n + n) c (block_of n k d)

  abbrev results : ℕ → List Float
  results c = tabulate n (λ i. amount_to (powers c) n a r d i n)

  -- behind the test of the duration
  abbrev behind : Result ℕ → Result (List Float)
  behind q =
      and_then (and_then q (λ c. unless (all_finite (n + n) (powers c)) 22 (record { halved = c; matrix = powers c })))
      (λ (e : Exponential). propagated n e.matrix a r d)

  goes : (q : Result ℕ) → halving_count s.threshold s.most x ≡ q → interval s n k a r d ≡ behind q
  unfolding interval propagator exponential
  goes q e = on (eq d plus_zero) lasts ∙ ap behind e
    where
      on : (b : Bool) → T (not b) → over b a (behind (halving_count s.threshold s.most x)) ≡ behind (halving_count s.threshold s.most x)
      on true t = absurd t
      on false t = refl

  counts : (b : Bool) → T b → and_then (unless b 20 x) (halvings s.threshold (suc s.most) 0) ≡ halvings s.threshold (suc s.most) 0 x
  counts true t = refl
  counts false t = absurd t

  at_20 : T (not (finite x)) → interval s n k a r d ≡ refused 20
  unfolding halving_count
  at_20 h = goes (refused 20) (on (finite x) h)
    where
      on : (b : Bool) → T (not b) → and_then (unless b 20 x) (halvings s.threshold (suc s.most) 0) ≡ refused 20
      on true t = absurd t
      on false t = refl

  at_21 : T (finite x) → ((j : ℕ) → j ≤ s.most → T (above s j x)) → interval s n k a r d ≡ refused 21
  unfolding halving_count
  at_21 f h = goes (refused 21) (counts (finite x) f ∙ all_above s (suc s.most) 0 x (λ j l. h j (le_of_suc-le-suc l)))

  at_22 : (c : ℕ) → T (finite x) → TakesHalvings s x c → interval s n k a r d ≡ unless (results_pass n (powers c) a r d) 22 (results c)
  unfolding halving_count propagated
  at_22 c f t =
      goes (done c) (counts (finite x) f ∙ first_not s (suc s.most) 0 x c (omega (arith, t.most)) t.before t.after
      ∙ ap done (zero-add c)) ∙ on (all_finite (n + n) (powers c)) (all_to (λ j. finite (mul binary64 (cell r j) d)) n)
    where
      on : (b i : Bool) → and_then (unless b 22 (record { halved = c; matrix = powers c }))
          (λ (e : Exponential). and_then (unless i 22 (tabulate n (λ i. amount_to e.matrix n a r d i n)))
          (λ y. unless (all nonnegative y) 22 y)) ≡ unless (b && (i && all nonnegative (results c))) 22 (results c)
      on true true = refl
      on true false = refl
      on false i = refl

  to : (c : ℕ) → interval s n k a r d ≡ refused c → Refusal s n k a r d c
  to c e = on (finite x) (λ t. t) (λ t. t)
    where
      is : {m : ℕ} → interval s n k a r d ≡ refused m → Refusal s n k a r d m → Refusal s n k a r d c
      is q = subst (Refusal s n k a r d) (same_number (sym q ∙ e))

      last : (m : ℕ) → T (finite x) → TakesHalvings s x m → (b : Bool) → (T (not b) → T (not (results_pass n (powers m) a r d)))
          → interval s n k a r d ≡ unless b 22 (results m) → Refusal s n k a r d c
      last m f t true g q = absurd (apart (sym q ∙ e))
      last m f t false g q = is q (results_fail f t (g tt))

      finitely : T (finite x) → ((j : ℕ) → j < suc s.most → T (above s j x)) ⊎ First s (suc s.most) x → Refusal s n k a r d c
      finitely f (inl h) = is (at_21 f (λ j l. h j (omega (arith, l)))) (halvings_fail f (λ j l. h j (omega (arith, l))))
      finitely f (inr (m, l, h, g)) =
          let t : TakesHalvings s x m = record { most = le_of_suc-le-suc l; before = h; after = g } in
          last m f t (results_pass n (powers m) a r d) (λ z. z) (at_22 m f t)

      on : (b : Bool) → (T b → T (finite x)) → (T (not b) → T (not (finite x))) → Refusal s n k a r d c
      on true f g = finitely (f tt) (which s (suc s.most) x)
      on false f g = is (at_20 (g tt)) (norm_fails (g tt))

  fro : (c : ℕ) → Refusal s n k a r d c → interval s n k a r d ≡ refused c
  fro c (norm_fails h) = at_20 h
  fro c (halvings_fail f h) = at_21 f h
  fro c (results_fail {c = m} f t g) = at_22 m f t ∙ on (results_pass n (powers m) a r d) g
    where
      on : (b : Bool) → T (not b) → unless b 22 (results m) ≡ refused 22
      on true t = absurd t
      on false t = refl

pub every_interval : EveryInterval
every_interval s n k a r d h c = (to s n k a r d h c, fro s n k a r d h c)

-- ---- the numbers of the arithmetic
abbrev arithmetic : List ℕ
arithmetic = advance_numbers

refusal-number : {s : Scheme} {n : ℕ} {k a r : List Float} {d : Float} {c : ℕ} → Refusal s n k a r d c → T (one_of c arithmetic)
refusal-number (norm_fails h) = tt
refusal-number (halvings_fail f h) = tt
refusal-number (results_fail f t g) = tt

interval-number : (s : Scheme) (n : ℕ) (k a r : List Float) (d : Float) (c : ℕ) → interval s n k a r d ≡ refused c → T (one_of c arithmetic)
unfolding interval
interval-number s n k a r d c e = on (eq d plus_zero) (λ t. t) e
  where
    on : (b : Bool) → (T (not b) → T (not (eq d plus_zero)))
        → over b a (and_then (propagator s n k d) (λ e. propagated n e.matrix a r d)) ≡ refused c → T (one_of c arithmetic)
    on true f q = absurd (apart q)
    on false f q = refusal-number ((every_interval s n k a r d (f tt) c).0 e)

-- ---- the laws
module _ (k : LinearPk) (h : sound k ≡ done k) (x r : List Float) (d : Float) where
  -- `advance`, of a sound kernel into a slice with room
  abbrev body : Bool → Result (List Float)
  body b = and_then (unless b 3 x) (λ _. interval scheme (state_count k) k.matrix x r d)

  is_body : propagator_of k x r d ≡ body (arguments_pass (state_count k) x r d)
  unfolding advance
  is_body = rw (h, le-leb (state_count k) (state_count k) (le_refl (state_count k))) (on (arguments_pass (state_count k) x r d))
    where
      on : (b : Bool) → and_then (unless b 3 x) (λ _. and_then (unless true 4 x) (λ _. interval scheme (state_count k) k.matrix x r d)) ≡ body b
      on true = refl
      on false = refl

  three-body : (b : Bool) → (body b ≡ refused 3) ↔ T (not b)
  three-body false = ((λ e. tt), λ t. refl)
  three-body true = ((λ e. absurd (interval-number scheme (state_count k) k.matrix x r d 3 e)), λ t. absurd t)

  numbers-body : (c : ℕ) (b : Bool) → body b ≡ refused c → T (one_of c (3 ∷ arithmetic))
  numbers-body c false e = subst (λ (j : ℕ). T (one_of j (3 ∷ arithmetic))) (same_number e) tt
  numbers-body c true e = wide (eqb c 3) (one_of c arithmetic) (interval-number scheme (state_count k) k.matrix x r d c e)
    where
      wide : (a b : Bool) → T b → T (a || b)
      wide true b t = tt
      wide false b t = t

  amounts-body : (v : List Float) (b : Bool) → (T b → T (amounts_pass (state_count k) x)) → body b ≡ done v → T (amounts_pass (state_count k) v)
  amounts-body v false p e = absurd (apart (sym e))
  amounts-body v true p e = on (interval scheme (state_count k) k.matrix x r d) (kept_interval scheme (state_count k) k.matrix x r d (p tt)) e
    where
      on : (w : Result (List Float)) → Kept (state_count k) w → w ≡ done v → T (amounts_pass (state_count k) v)
      on (refused j) g e = absurd (apart (sym e))
      on (done a) g e = subst (λ (l : List Float). T (amounts_pass (state_count k) l)) (same-amounts e) g

  conditions-body : (c : ℕ) (b : Bool) → T b → T (not (eq d plus_zero)) → (body b ≡ refused c) ↔ refusal_of k c x r d
  conditions-body c true p z = every_interval scheme (state_count k) k.matrix x r d z c
  conditions-body c false p z = absurd p

and_left : (a b : Bool) → T (a && b) → T a
and_left true b t = tt
and_left false b t = t

pub kernel_laws : EveryKernel
kernel_laws k h = record {
  three =
      λ a r d. subst (λ (w : Result (List Float)). (w ≡ refused 3) ↔ T (not (arguments_pass (state_count k) a r d))) (sym (is_body k h a r d))
      (three-body k h a r d (arguments_pass (state_count k) a r d));
  numbers = λ a r d c e. numbers-body k h a r d c (arguments_pass (state_count k) a r d) (sym (is_body k h a r d) ∙ e);
  conditions =
      λ a r d p z c. subst (λ (w : Result (List Float)). (w ≡ refused c) ↔ refusal_of k c a r d) (sym (is_body k h a r d))
      (conditions-body k h a r d c (arguments_pass (state_count k) a r d) p z);
  amounts =
      λ a r d v e. amounts-body k h a r d v (arguments_pass (state_count k) a r d) (and_left (amounts_pass (state_count k) a) _)
      (sym (is_body k h a r d) ∙ e);
}

pub kernel-run : EveryKernelRun
kernel-run k h w ss es p a g = plain_run (state_count k) (propagator_of k) (refusal_of k) (kernel_laws k h) w ss es p a g
