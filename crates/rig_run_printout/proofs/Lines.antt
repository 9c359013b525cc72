-- The lines of rows that are laid out in three lists.
use mathlib.Core.Path.{◌≡◌, refl, sym, ap, ap₂, ◌∙◌}
use mathlib.Core.List.{List, [], ◌∷◌, ◌++◌, append_assoc}
use Prim.Native.Nat.{ℕ, zero, suc, ◌*◌, ◌≤◌, ◌<◌}
use native.Mathlib.Nat.{le_refl, le_of_suc-le-suc, not-suc-le-zero}
use native.Mathlib.Omega.{arith}
use lib.Dec.{T}
use lib.ListN.{length, take, drop, get_or}
use lib.Seq.{take-length}
use lib.Ieee.{Float, nan}
use Rattle.binary64.specs.Lists.{all, flat_map, amounts_pass}
use Rattle.protocol.specs.Execute.{Row}
use Rattle.protocol.specs.Entry.{side_code}
use Rattle.protocol.proofs.EntryLaws.{row_place}
use Rattle.printout.specs.Printout.{row_line, row_lines}
use Rattle.rig_run_printout.specs.RunPrintout.{row_text}

-- cell k of a list with one cell for each row
cell_of_lem : {A : Type 0} (z : A) (f : Row → A) (rs : List Row) (rest : List A) (k : ℕ) (d : Row) → k < length rs
    → get_or (flat_map (λ (r : Row). f r ∷ []) rs ++ rest) k z ≡ f (get_or rs k d)
cell_of_lem z f [] rest k d l = absurd (not-suc-le-zero l)
cell_of_lem z f (r ∷ rs) rest zero d l = refl
cell_of_lem z f (r ∷ rs) rest (suc k) d l = cell_of_lem z f rs rest k d (le_of_suc-le-suc l)

flat_map_more : {A : Type 0} (f : Row → List A) (rs : List Row) (k : ℕ) (d : Row) → k < length rs
    → flat_map f (take (suc k) rs) ≡ flat_map f (take k rs) ++ f (get_or rs k d)
flat_map_more f [] k d l = absurd (not-suc-le-zero l)
flat_map_more f (r ∷ rs) zero d l = append_none (f r)
  where
    append_none : {A : Type 0} (xs : List A) → xs ++ [] ≡ xs
    append_none [] = refl
    append_none (x ∷ xs) = ap (◌∷◌ x) (append_none xs)
flat_map_more f (r ∷ rs) (suc k) d l = ap (◌++◌ (f r)) (flat_map_more f rs k d (le_of_suc-le-suc l))
    ∙ sym (append_assoc (f r) (flat_map f (take k rs)) (f (get_or rs k d)))

module _ (n : ℕ) (rs : List Row) (passes : T (all (λ (r : Row). amounts_pass n r.amounts) rs)) (times : List Float) (sides : List ℕ)
    (values : List Float) where
  abbrev time_cells : List Float
  time_cells = flat_map (λ (r : Row). r.time ∷ []) rs ++ times

  abbrev side_cells : List ℕ
  side_cells = flat_map (λ (r : Row). side_code r.side ∷ []) rs ++ sides

  abbrev value_cells : List Float
  value_cells = flat_map (λ (r : Row). r.amounts) rs ++ values

  first_lines : (d : Row) (k : ℕ) → k ≤ length rs → row_lines n k time_cells side_cells value_cells ≡ flat_map row_text (take k rs)
  unfolding row_lines
  first_lines d zero l = refl
  first_lines d (suc k) l =
      ap₂ ◌++◌ (first_lines d k (omega arith))
      (ap₂ (λ (t : Float) (s : ℕ). row_line t s (take n (drop (k * n) value_cells))) (cell_of_lem nan (λ (r : Row). r.time) rs times k d l)
      (cell_of_lem 0 (λ (r : Row). side_code r.side) rs sides k d l)
      ∙ ap (row_line (get_or rs k d).time (side_code (get_or rs k d).side)) (row_place n rs values passes k d l))
      ∙ sym (flat_map_more row_text rs k d l)

  -- all of them
  pub row_lines_lem : Row → row_lines n (length rs) time_cells side_cells value_cells ≡ flat_map row_text rs
  row_lines_lem d = first_lines d (length rs) (le_refl (length rs)) ∙ ap (flat_map row_text) (take-length rs)
