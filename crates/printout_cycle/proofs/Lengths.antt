-- Lines of states, one by one, and how long they are.
use mathlib.Core.Path.{◌≡◌, refl, sym, ap, ◌∙◌}
use mathlib.Core.List.{List, [], ◌∷◌, ◌++◌, append-nil, append_assoc}
use Prim.Native.Nat.{ℕ, zero, suc, ◌+◌, ◌*◌, ◌≤◌, ◌<◌}
use native.Mathlib.Nat.{le_of_suc-le-suc}
use native.Mathlib.Numerals.{add-one}
use native.Mathlib.Omega.{arith}
use lib.ListN.{length, take, get_or, length-append}
use lib.Seq.{length-take-le}
use lib.Ieee.{Float, nan}
use Rattle.printout_numbers.proofs.Counts.{double_length}
use Rattle.cycle.specs.declared.SteadyStateTolerance.{SteadyStateTolerance}
use Rattle.printout_cycle.specs.Lines.{field_text, cycle_line, cycle_lines}

pub field_length : (x : Float) → length (field_text x) ≡ 17
unfolding field_text
field_length x = simp (length-append, double_length)

module _ (tol : SteadyStateTolerance) where
  pub line_length : (s e : Float) → length (cycle_line tol s e) ≡ 68
  unfolding cycle_line
  line_length s e = simp (length-append, field_length, double_length)

  pub lines_length_lem : (xs ys : List Float) → length ys ≡ length xs → length (cycle_lines tol xs ys) ≡ 68 * length xs
  unfolding cycle_lines
  lines_length_lem [] ys h = refl
  lines_length_lem (x ∷ xs) [] h = absurd (omega arith)
  lines_length_lem (x ∷ xs) (y ∷ ys) h =
      omega (arith, length-append (cycle_line tol x y) (cycle_lines tol xs ys), line_length x y, lines_length_lem xs ys (omega arith))

  -- one state more
  next_line : (k : ℕ) (xs ys : List Float) → k < length xs → k < length ys
      → cycle_lines tol (take k xs) (take k ys) ++ cycle_line tol (get_or xs k nan) (get_or ys k nan)
      ≡ cycle_lines tol (take (suc k) xs) (take (suc k) ys)
  unfolding cycle_lines
  next_line k [] ys h l = absurd (omega arith)
  next_line k (x ∷ xs) [] h l = absurd (omega arith)
  next_line zero (x ∷ xs) (y ∷ ys) h l = sym (append-nil (cycle_line tol x y))
  next_line (suc k) (x ∷ xs) (y ∷ ys) h l =
      append_assoc (cycle_line tol x y) (cycle_lines tol (take k xs) (take k ys)) (cycle_line tol (get_or xs k nan) (get_or ys k nan))
      ∙ ap (λ (t : List ℕ). cycle_line tol x y ++ t) (next_line k xs ys (le_of_suc-le-suc h) (le_of_suc-le-suc l))

  pub lines_more : (k : ℕ) (xs ys : List Float) → k < length xs → k < length ys
      → cycle_lines tol (take k xs) (take k ys) ++ cycle_line tol (get_or xs k nan) (get_or ys k nan)
      ≡ cycle_lines tol (take (k + 1) xs) (take (k + 1) ys)
  lines_more k xs ys h l = rw add-one (next_line k xs ys h l)

  -- of the first states
  pub front_lines : (n : ℕ) (xs ys : List Float) → n ≤ length xs → n ≤ length ys → length (cycle_lines tol (take n xs) (take n ys)) ≡ 68 * n
  front_lines n xs ys h l =
      let a : length (take n xs) ≡ n = length-take-le n xs h in
      let r : length (take n ys) ≡ n = length-take-le n ys l in
      omega (arith, a, lines_length_lem (take n xs) (take n ys) (omega (arith, a, r)))
