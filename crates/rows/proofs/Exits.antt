-- What a whole run leaves: the reply, and the cells of the three slices, as `simulate` has them.
use mathlib.Core.Path.{◌≡◌, refl, sym, ap, ◌∙◌}
use Prim.Native.Nat.{ℕ, zero, suc, ◌+◌, ◌-◌, ◌*◌, ◌≤◌}
use native.Mathlib.Nat.{zero-add, suc-add, suc-mul, le_of_suc-le-suc, not-suc-le-zero}
use native.Mathlib.Omega.{arith}
use mathlib.Core.Bool.{cond}
use Rattle.std.specs.Prelude.{Ok, Err, Result as Reached}
use mathlib.Core.List.{List, [], ◌∷◌, ◌++◌}
use lib.ListN.{length, take, drop, replicate}
use Rattle.refusal.specs.Result.{done}
use Rattle.binary64.specs.Doubles.{plus_zero}
use Rattle.refusal.specs.Numbers.{refusal_number}
use Rattle.binary64.proofs.Sorted.{All}
use Rattle.binary64.specs.Lists.{flat_map}
use Rattle.protocol.specs.Schedule.{Step}
use Rattle.protocol.specs.Execute.{Propagator, Row, Outcome, go, stop, run, begin}
use Rattle.protocol.specs.Entry.{RunReport, report_of, side_code, front_then_zeros}
use Rattle.protocol.specs.PlainRun.{rows_left}
use Rattle.rows.specs.Written.{put, Cells, with_row_at, written}
use Rattle.rows.specs.Standing.{Standing, standing, came_to, behind_of, after, Ran}
use Rattle.rows.specs.declared.Progress.{Progress}
use Rattle.rows.specs.declared.Stopped.{Stopped}

-- ---- rows as lists over the cells
put_empty : {A : Type 0} (k : ℕ) (rs : List A) → put k rs [] ≡ []
put_empty zero [] = refl
put_empty zero (r ∷ rs) = refl
put_empty (suc k) rs = refl

put_nothing : {A : Type 0} (k : ℕ) (xs : List A) → put k [] xs ≡ xs
put_nothing zero xs = refl
put_nothing (suc k) [] = refl
put_nothing (suc k) (x ∷ xs) = ap (◌∷◌ x) (put_nothing k xs)

-- one part behind the other
pub put-put : {A : Type 0} (k : ℕ) (rs ts xs : List A) → put k (rs ++ ts) xs ≡ put (k + length rs) ts (put k rs xs)
put-put zero [] ts xs = refl
put-put zero (r ∷ rs) ts [] = sym (put_empty (0 + suc (length rs)) ts)
put-put zero (r ∷ rs) ts (x ∷ xs) =
    ap (◌∷◌ r) (put-put zero rs ts xs) ∙ ap (λ (j : ℕ). r ∷ put j ts (put 0 rs xs)) (zero-add (length rs))
    ∙ ap (λ (j : ℕ). put j ts (r ∷ put 0 rs xs)) (sym (zero-add (suc (length rs))))
put-put (suc k) rs ts [] = sym (put_empty (suc k + length rs) ts)
put-put (suc k) rs ts (x ∷ xs) = ap (◌∷◌ x) (put-put k rs ts xs) ∙ ap (λ (j : ℕ). put j ts (x ∷ put k rs xs)) (sym (suc-add k (length rs)))

abbrev Cut : ℕ → Row → Type 0
Cut n r = length r.amounts ≡ n

one_more : (k : ℕ) → k + 1 ≡ suc k
one_more k = omega arith

pub written-times : (n k : ℕ) (rs : List Row) (c : Cells) → (written n k rs c).times ≡ put k (flat_map (λ (r : Row). r.time ∷ []) rs) c.times
written-times n k [] c = sym (put_nothing k c.times)
written-times n k (r ∷ rs) c =
    written-times n (suc k) rs (with_row_at n k r c) ∙ ap (λ (j : ℕ). put j (flat_map (λ (r : Row). r.time ∷ []) rs)
    (put k (r.time ∷ []) c.times)) (sym (one_more k))
    ∙ sym (put-put k (r.time ∷ []) (flat_map (λ (r : Row). r.time ∷ []) rs) c.times)

pub written-sides : (n k : ℕ) (rs : List Row) (c : Cells) → (written n k rs c).sides ≡ put k (flat_map (λ (r : Row). side_code r.side ∷ []) rs) c.sides
written-sides n k [] c = sym (put_nothing k c.sides)
written-sides n k (r ∷ rs) c =
    written-sides n (suc k) rs (with_row_at n k r c)
    ∙ ap (λ (j : ℕ). put j (flat_map (λ (r : Row). side_code r.side ∷ []) rs) (put k (side_code r.side ∷ []) c.sides)) (sym (one_more k))
    ∙ sym (put-put k (side_code r.side ∷ []) (flat_map (λ (r : Row). side_code r.side ∷ []) rs) c.sides)

pub written-values : (n k : ℕ) (rs : List Row) (c : Cells) → All (Cut n) rs
    → (written n k rs c).values ≡ put (k * n) (flat_map (λ (r : Row). r.amounts) rs) c.values
written-values n k [] c h = sym (put_nothing (k * n) c.values)
written-values n k (r ∷ rs) c h =
    written-values n (suc k) rs (with_row_at n k r c) h.1
    ∙ ap (λ (j : ℕ). put j (flat_map (λ (r : Row). r.amounts) rs) (put (k * n) r.amounts c.values)) (suc-mul k n ∙ ap (λ (j : ℕ). k * n + j) (sym h.0))
    ∙ sym (put-put (k * n) r.amounts (flat_map (λ (r : Row). r.amounts) rs) c.values)

-- over zeros
pub put_zeros : {A : Type 0} (z : A) (k : ℕ) (xs old : List A) → length xs ≤ k → put 0 xs (front_then_zeros z k [] old) ≡ front_then_zeros z k xs old
put_zeros {A} z k xs old h = ap (λ (j : ℕ). put 0 xs (replicate j z ++ drop k old)) (less k) ∙ on k xs (drop k old) h
  where
    less : (k : ℕ) → k - 0 ≡ k
    less k = omega arith

    on : (k : ℕ) (xs old : List A) → length xs ≤ k → put 0 xs (replicate k z ++ old) ≡ xs ++ (replicate (k - length xs) z ++ old)
    on k [] old h = ap (λ (j : ℕ). replicate j z ++ old) (sym (less k))
    on zero (x ∷ xs) old h = absurd (not-suc-le-zero h)
    on (suc k) (x ∷ xs) old h = ap (◌∷◌ x) (on k xs old (le_of_suc-le-suc h)) ∙ ap (λ (j : ℕ). x ∷ (xs ++ (replicate j z ++ old))) (both k (length xs))
      where
        both : (k j : ℕ) → k - j ≡ suc k - suc j
        both k j = omega arith

-- ---- the reply
abbrev pub progress_reply : Reached Progress Stopped → RunReport
progress_reply (Ok p) = record { number = 0; time = plus_zero; rows = p.rows; advances = p.made }
progress_reply (Err z) = record { number = refusal_number z.refusal; time = z.time; rows = 0; advances = z.at.made }

module _ {advance : Propagator} {n : ℕ} (start : Progress) (none_made : start.made ≡ 0) (no_rows : start.rows ≡ 0) {xs : List Step}
    {old c : Cells} {r : Reached Progress Stopped} (h : Ran advance n start xs old r c) where
  pub ran-reply : progress_reply r ≡ report_of (done (run advance start.left (begin (take n start.amounts)) xs))
  unfolding after
  ran-reply = as_told r ∙ ap reply h.progress ∙ on (run advance start.left (begin (take n start.amounts)) xs)
    where
      reply : Standing → RunReport
      reply s = record { number = s.number; time = s.time; rows = cond s.stopped 0 s.rows; advances = s.made }

      as_told : (r : Reached Progress Stopped) → progress_reply r ≡ reply (came_to n r)
      as_told (Ok p) = refl
      as_told (Err z) = refl

      on : (o : Outcome) → reply (behind_of (standing n start) o) ≡ report_of (done o)
      on (go z) = rw (none_made, no_rows, zero-add (length z.advances), zero-add (length z.rows))
      on (stop i t z) = rw (none_made, zero-add (length z.advances))

  pub ran-rows : c ≡ written n 0 (rows_left (run advance start.left (begin (take n start.amounts)) xs)) old
  unfolding after
  ran-rows = h.cells ∙ ap (λ (k : ℕ). written n k (rows_left (run advance start.left (begin (take n start.amounts)) xs)) old) no_rows
