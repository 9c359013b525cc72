-- The block's array.
use mathlib.Core.Path.{◌≡◌, ap, ◌∙◌}
use mathlib.Core.List.{List, []}
use Prim.Native.Nat.{ℕ, ◌+◌, ◌≤◌}
use native.Mathlib.Omega.{arith}
use lib.Ieee.{Float, nan}
use Rattle.limits.specs.Limits.{states, block}
use Rattle.matrix.specs.Matrix.{Matrix, cell, table, tabulate}
use Rattle.matrix.specs.Arrays.{lead, Holds}
use Rattle.linear_pk_propagator.specs.Propagator.{block_cell}
use Rattle.matrix.proofs.Filled.{tabulate-at, tabulate-length}
use Rattle.matrix.proofs.Rows.{table_cong}

-- an array of cells, whose leading part is a table of them
pub block_made : (k : List Float) (n : ℕ) (d : Float) → n ≤ states → {r : Matrix} → r ≡ tabulate block (λ i. tabulate block (block_cell n k d i))
    → Holds (n + n) r (table (n + n) (block_cell n k d))
unfolding lead
block_made k n d fit e = rw e (record {
  width = tabulate-length (λ i. tabulate block (block_cell n k d i)) block;
  part =
      table_cong (n + n) (λ i j p q. ap (λ (r : List Float). cell r j) (tabulate-at (λ i. tabulate block (block_cell n k d i)) [] block i (omega arith))
      ∙ tabulate-at (block_cell n k d i) nan block j (omega arith));
})
