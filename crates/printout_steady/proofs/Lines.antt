-- Lines of states, one by one, and how long the texts are.
use mathlib.Core.Path.{◌≡◌, refl, sym, ap, ◌∙◌}
use mathlib.Core.List.{List, [], ◌∷◌, ◌++◌, append-nil, append_assoc}
use Prim.Native.Nat.{ℕ, zero, suc, ◌+◌, ◌*◌, ◌≤◌, ◌<◌}
use native.Mathlib.Nat.{le_of_suc-le-suc}
use native.Mathlib.Numerals.{add-one}
use native.Mathlib.Omega.{arith}
use borrow.Author.Tests.{ne_eqb}
use lib.ListN.{length, take, get_or, length-append}
use lib.Seq.{length-take-le}
use lib.Ieee.{Float, nan}
use Rattle.printout.proofs.Lengths.{double_length}
use Rattle.refusal.specs.Numbers.{refusal_number}
use Rattle.refusal.specs.declared.Refusal.{Refusal}
use Rattle.refusal.proofs.Numbers.{refusal-number}
use Rattle.printout.specs.Replies.{refused_at}
use Rattle.printout_steady.specs.SteadyReplies.{steady_printout_of}
use Rattle.printout_steady.specs.SteadyPrintout.{state_line, state_lines, max_line, solved_text, steady_text}
use Rattle.printout_steady.specs.SteadyPrintout.{solved_of, solved_length}

pub line_length : (a r : Float) → length (state_line a r) ≡ 34
unfolding state_line
line_length a r = simp (length-append, double_length)

pub max_length : (m : Float) → length (max_line m) ≡ 21
unfolding max_line
max_length m = simp (length-append, double_length)

pub lines_length_lem : (xs ys : List Float) → length ys ≡ length xs → length (state_lines xs ys) ≡ 34 * length xs
unfolding state_lines
lines_length_lem [] ys h = refl
lines_length_lem (a ∷ xs) [] h = absurd (omega arith)
lines_length_lem (a ∷ xs) (r ∷ ys) h =
    omega (arith, length-append (state_line a r) (state_lines xs ys), line_length a r, lines_length_lem xs ys (omega arith))

-- one state more
next_line : (k : ℕ) (xs ys : List Float) → k < length xs → k < length ys
    → state_lines (take k xs) (take k ys) ++ state_line (get_or xs k nan) (get_or ys k nan) ≡ state_lines (take (suc k) xs) (take (suc k) ys)
unfolding state_lines
next_line k [] ys h l = absurd (omega arith)
next_line k (a ∷ xs) [] h l = absurd (omega arith)
next_line zero (a ∷ xs) (r ∷ ys) h l = sym (append-nil (state_line a r))
next_line (suc k) (a ∷ xs) (r ∷ ys) h l =
    append_assoc (state_line a r) (state_lines (take k xs) (take k ys)) (state_line (get_or xs k nan) (get_or ys k nan))
    ∙ ap (λ (t : List ℕ). state_line a r ++ t) (next_line k xs ys (le_of_suc-le-suc h) (le_of_suc-le-suc l))

pub lines_more : (k : ℕ) (xs ys : List Float) → k < length xs → k < length ys
    → state_lines (take k xs) (take k ys) ++ state_line (get_or xs k nan) (get_or ys k nan) ≡ state_lines (take (k + 1) xs) (take (k + 1) ys)
lines_more k xs ys h l = rw add-one (next_line k xs ys h l)

-- of the first states
pub front_lines : (n : ℕ) (xs ys : List Float) → n ≤ length xs → n ≤ length ys → length (state_lines (take n xs) (take n ys)) ≡ 34 * n
front_lines n xs ys h l =
    let a : length (take n xs) ≡ n = length-take-le n xs h in
    let r : length (take n ys) ≡ n = length-take-le n ys l in
    omega (arith, a, lines_length_lem (take n xs) (take n ys) (omega (arith, a, r)))

-- ---- the whole text
pub solved-length : (m : Float) (xs ys : List Float) → length ys ≡ length xs
    → length (solved_text (record { amounts = xs; residuals = ys; maximum = m })) ≡ solved_length (length xs)
unfolding solved_text
solved-length m xs ys h = omega (arith, length-append (state_lines xs ys) (max_line m), lines_length_lem xs ys h, max_length m)

pub front_length : (n : ℕ) (m : Float) (xs ys : List Float) → n ≤ length xs → n ≤ length ys
    → length (solved_text (solved_of n m xs ys)) ≡ solved_length n
front_length n m xs ys h l =
    let a : length (take n xs) ≡ n = length-take-le n xs h in
    let r : length (take n ys) ≡ n = length-take-le n ys l in
    omega (arith, a, solved-length m (take n xs) (take n ys) (omega (arith, a, r)))

-- a refusal is told by its number and its time
pub refused-printout : (r : Refusal) (t m : Float) (n : ℕ) (amounts residual : List Float)
    → refused_at (refusal_number r) t ≡ steady_printout_of (record { number = refusal_number r; time = t; maximum = m }) n amounts residual
unfolding steady_text
refused-printout r t m n amounts residual = rw (ne_eqb (refusal_number r) 0 (λ e. omega (arith, e, refusal-number r)))
