-- The candidate: the system, the runs and elimination.
use mathlib.Core.Path.{◌≡◌, sym, ap, ◌∙◌}
use mathlib.Core.Bool.{cond}
use mathlib.Core.List.{List, []}
use Prim.Native.Nat.{ℕ, ◌<◌}
use lib.ListN.{get_or, take, replicate}
use lib.Seq.{get_or-take}
use lib.Dec.{eqb}
use lib.Ieee.{Float, nan, binary64, sub, neg}
use Rattle.binary64.specs.Doubles.{plus_zero, one}
use Rattle.matrix.specs.Matrix.{Matrix, cell, at, table}
use Rattle.matrix.specs.Arrays.{lead}
use Rattle.matrix.proofs.Rows.{table_at, table_cong}
use Rattle.matrix.proofs.Filled.{tabulate-at}
use Rattle.protocol.specs.Execute.{Propagator}
use Rattle.protocol.specs.declared.Event.{Event}
use Rattle.protocol.specs.declared.Window.{Window}
use Rattle.cycle.specs.Elimination.{system_cell, system_of, solve}
use Rattle.cycle.specs.Closed.{stopped, got, untimed, last_of, columns_to, solution}
use Rattle.periodic_runs.specs.Columns.{columns_of}

-- ---- the system: identity minus the columns, whatever stands behind them in the array
systems : (n : ℕ) (cs : List (List Float)) → table n (system_cell (lead n cs)) ≡ table n (system_cell (columns_of n cs n))
unfolding system_cell lead
systems n cs =
    table_cong n (λ (i j : ℕ) (p : i < n) (q : j < n). ap (λ (x : Float). cond (eqb i j) (sub binary64 one x) (neg x))
    (table_at (at cs) n j i q p ∙ sym (column i j p q)))
  where
    column : (i j : ℕ) → i < n → j < n → cell (get_or (columns_of n cs n) j []) i ≡ at cs j i
    column i j p q = ap (λ (x : List Float). cell x i) (tabulate-at (λ (k : ℕ). take n (get_or cs k [])) [] n j q) ∙ get_or-take n (get_or cs j []) i nan p

pub system_is : (n : ℕ) (cs a : List (List Float)) (b : List Float) → lead n a ≡ table n (system_cell (lead n cs))
    → record { matrix = lead n a; right = b } ≡ system_of n (columns_of n cs n) b
unfolding system_of
system_is n cs a b e = ap (λ (m : Matrix). record { matrix = m; right = b }) (e ∙ systems n cs)

-- ---- the runs, and elimination
module _ (advance : Propagator) (n : ℕ) (w : Window) (fs : List Event) where
  pub solution-stops : {c : ℕ} {t : Float} → stopped c t ≡ last_of advance n w fs (replicate n plus_zero) → stopped c t ≡ solution advance n w fs
  unfolding solution
  solution-stops e = rw (← e)

  module _ {b : List Float} (e : got b ≡ last_of advance n w fs (replicate n plus_zero)) where
    pub columns-stop : {c : ℕ} {t : Float} → stopped c t ≡ columns_to advance n w fs n → stopped c t ≡ solution advance n w fs
    unfolding solution
    columns-stop g = rw (← e, ← g)

    pub solution-solves : {cs : List (List Float)} → got cs ≡ columns_to advance n w fs n → untimed (solve n (system_of n cs b)) ≡ solution advance n w fs
    unfolding solution
    solution-solves g = rw (← e, ← g)
