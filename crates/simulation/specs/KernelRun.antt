-- Demand 3's claim about a plain run, at the kernel and 01's scheme: for every kernel that passes its own test. Ahead of it the conditions
-- of 20, 21 and 22, over every scheme.
use Rattle.std.specs.Prelude.{◌≡◌, Bool, not, ◌&&◌, List, ◌↔◌, ℕ, zero, suc, ◌+◌, ◌≤◌, ◌<◌, T, Float}
use Rattle.std.specs.Float.{binary64}
use Rattle.std.specs.Float.Ieee.{mul, lt, eq}
use Rattle.std.specs.Float.Ieee.Scale.{finite}
use Rattle.binary64.specs.Doubles.{plus_zero, half, nonnegative}
use Rattle.binary64.specs.Lists.{all, amounts_pass}
use Rattle.refusal.specs.Result.{refused, done}
use Rattle.matrix.specs.Matrix.{Matrix, table, tabulate, cell, all_to}
use Rattle.matrix.specs.Exponential.{Scheme, scheme, norm_to, taylor, all_finite}
use Rattle.linear_pk_interval.specs.Interval.{block_cell, amount_to, interval}
use Rattle.linear_pk.specs.LinearPk.{sound, state_count, advance}
use Rattle.linear_pk.specs.declared.kernel.LinearPk.{LinearPk}
use Rattle.protocol.specs.Execute.{Propagator}
use Rattle.protocol.specs.PlainRun.{Conditions, KernelLaws, Prepared, PlainRun}
use Rattle.protocol.specs.declared.Event.{Event}
use Rattle.protocol.specs.declared.Window.{Window}

-- ---- 20, 21 and 22, of n states with the rates k
-- the 2n by 2n block of a duration d, and its norm
abbrev pub block_of : ℕ → List Float → Float → Matrix
block_of n k d = table (n + n) (block_cell n k d)

abbrev pub norm_of : ℕ → List Float → Float → Float
norm_of n k d = norm_to (block_of n k d) (n + n) (n + n)

-- a norm after j halvings, one at a time
unfoldable pub halved_norm : ℕ → Float → Float
halved_norm zero x = x
halved_norm (suc j) x = mul binary64 (halved_norm j x) half

-- after j halvings the norm x is above the threshold
abbrev pub above : Scheme → ℕ → Float → Bool
above s j x = lt s.threshold (halved_norm j x)

-- the norm x takes c halvings: it is above the threshold after each number below c, and after c it is not
pub record TakesHalvings (s : Scheme) (x : Float) (c : ℕ) : Type 0 where
  pub most : c ≤ s.most
  pub before : (j : ℕ) → j < c → T (above s j x)
  pub after : T (not (above s c x))

-- with the exponential p each entry of it, rate·duration and amount is finite, and no amount is below 0
abbrev pub results_pass : ℕ → Matrix → List Float → List Float → Float → Bool
results_pass n p a r d =
    all_finite (n + n) p && (all_to (λ j. finite (mul binary64 (cell r j) d)) n && all nonnegative (tabulate n (λ i. amount_to p n a r d i n)))

-- when the amounts a with the rates r are refused over a duration d, with which number
pub data Refusal (s : Scheme) (n : ℕ) (k a r : List Float) (d : Float) : ℕ → Type 0 where
  -- the norm is not finite
  norm_fails : T (not (finite (norm_of n k d))) → Refusal s n k a r d 20
  -- it is finite, and above the threshold after each of 0 .. most halvings
  halvings_fail : T (finite (norm_of n k d)) → ((j : ℕ) → j ≤ s.most → T (above s j (norm_of n k d))) → Refusal s n k a r d 21
  -- neither holds, so that it takes c halvings, and a result does not pass
  results_fail : {c : ℕ} → T (finite (norm_of n k d)) → TakesHalvings s (norm_of n k d) c
      → T (not (results_pass n (taylor s (n + n) c (block_of n k d)) a r d)) → Refusal s n k a r d 22

-- a duration that is not 0 is refused exactly so
abbrev pub EveryInterval : Type 0
EveryInterval =
    (s : Scheme) (n : ℕ) (k a r : List Float) (d : Float) → T (not (eq d plus_zero)) → (c : ℕ) → (interval s n k a r d ≡ refused c)
    ↔ Refusal s n k a r d c

-- ---- the kernel
-- its advance, into a slice of its own length
abbrev pub propagator_of : LinearPk → Propagator
propagator_of k a r d = advance scheme k a r d (state_count k)

-- and when that refuses
abbrev pub refusal_of : LinearPk → Conditions
refusal_of k c a r d = Refusal scheme (state_count k) k.matrix a r d c

-- what a run asks of its kernel
abbrev pub EveryKernel : Type 0
EveryKernel = (k : LinearPk) → sound k ≡ done k → KernelLaws (state_count k) (propagator_of k) (refusal_of k)

abbrev pub EveryKernelRun : Type 0
EveryKernelRun = (k : LinearPk) → sound k ≡ done k → (w : Window) (ss : List Float) (es : List Event) → Prepared (state_count k) w ss es
    → (a : List Float) → T (amounts_pass (state_count k) a) → PlainRun (propagator_of k) (refusal_of k) (state_count k) w ss es a
