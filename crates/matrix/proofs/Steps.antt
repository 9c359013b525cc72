-- One step of each definition, in the words of the code.
use mathlib.Core.Path.{◌≡◌, ap, ◌∙◌}
use mathlib.Core.Bool.{Bool, true, false, not, cond}
use mathlib.Core.List.{List, []}
use Prim.Native.Nat.{ℕ, suc, ◌+◌, ◌≤◌, ◌<◌}
use native.Mathlib.Numerals.{add-one}
use native.Mathlib.Omega.{arith}
use lib.Dec.{T, eqb, eqb→eq, eqb_refl}
use lib.IntN.{pos}
use lib.ListN.{length, get_or, set, replicate, length-replicate, get_or-replicate}
use lib.Seq.{get_or-set_same, get_or-set_other}
use lib.Ieee.{Float, nan, binary64, of_int}
use Rattle.limits.specs.Limits.{block}
use Rattle.binary64.specs.Doubles.{plus_zero, one}
use Rattle.matrix.specs.Matrix.{Matrix, cell, identity}
use Rattle.matrix.specs.Arrays.{lead, Holds, updated, row_half, row_times, row_quotient, row_sum_of}
use Rattle.matrix.specs.Exponential.{halved_times, series, next_term, squarings}
use Rattle.matrix.proofs.Updated.{updated-length}
use Rattle.matrix.proofs.Rows.{replaced, lead-halved, lead-plus, lead-term, lead_square}

abbrev pub zeros : Matrix
zeros = replicate block (replicate block plus_zero)

never_both : (b : Bool) → T b → T (not b) → ⊥
never_both true p q = q
never_both false p q = p

-- a one at place i of a row of zeros
unit-at : (i j : ℕ) → i < block → j < block → cell (set (replicate block plus_zero) i one) j ≡ cond (eqb i j) one plus_zero
unit-at i j p q = go (eqb i j) (eqb→eq i j) (λ n e. never_both (eqb i i) (eqb_refl i) (rw e at n))
  where
    go : (b : Bool) → (T b → i ≡ j) → (T (not b) → j ≡ i → ⊥) → cell (set (replicate block plus_zero) i one) j ≡ cond b one plus_zero
    go true f g = rw (← f tt) (get_or-set_same (replicate block plus_zero) i one nan p)
    go false f g = get_or-set_other (replicate block plus_zero) i j one nan (g tt) ∙ get_or-replicate block j plus_zero nan q

module _ (m : ℕ) (fit : m ≤ block) where
  pub identity-made : {r : Matrix} → r ≡ updated m (λ i r. set r i one) zeros → Holds m r (identity m)
  unfolding identity
  identity-made e = rw e (record {
    width = updated-length (λ i r. set r i one) m zeros ∙ length-replicate block (replicate block plus_zero);
    part =
        replaced m fit zeros (length-replicate block (replicate block plus_zero)) (λ i r. set r i one)
        (λ i j p q. ap (λ (r : List Float). cell (set r i one) j) (get_or-replicate block i (replicate block plus_zero) [] (omega arith))
        ∙ unit-at i j (omega arith) (omega arith));
  })

  pub halved_more : (k : ℕ) (a : Matrix) {r q : Matrix} → Holds m r (halved_times m k a) → q ≡ updated m (λ i r. row_half r) r
      → Holds m q (halved_times m (k + 1) a)
  unfolding halved_times
  halved_more k a {r} h e = rw (e, add-one) (record {
    width = updated-length (λ i r. row_half r) m r
        ∙ h.width;
    part = lead-halved m fit r h.width ∙ rw h.part;
  })

  pub term-more :
      (k : ℕ) (b : Matrix) {t u : Matrix} → Holds m t (series m (lead m b) k).term
      → u ≡ updated m (λ i r. row_quotient (row_times r b m) (of_int binary64 (pos (k + 1)))) t
      → Holds m u (series m (lead m b) (k + 1)).term
  unfolding series next_term
  term-more k b {t} h e = rw (e, add-one) (record {
    width = updated-length (λ i r. row_quotient (row_times r b m) (of_int binary64 (pos (suc k)))) m t ∙ h.width;
    part = lead-term m fit t h.width b (of_int binary64 (pos (suc k))) ∙ rw h.part;
  })

  pub sum_more :
      (k : ℕ) (a : Matrix) {s t v : Matrix} → Holds m s (series m a k).sum → Holds m t (series m a (k + 1)).term
      → v ≡ updated m (λ i r. row_sum_of r (get_or t i [])) s → Holds m v (series m a (k + 1)).sum
  unfolding series
  sum_more k a {s} {t} h g e = rw e (record {
    width = updated-length (λ i r. row_sum_of r (get_or t i [])) m s ∙ h.width;
    part = lead-plus m fit s h.width t ∙ rw (h.part, g.part, add-one);
  })

  pub squared-once :
      (k : ℕ) (a n : Matrix) {r s : Matrix} → Holds m r (squarings m k a) → length n ≡ block
      → s ≡ updated m (λ i x. row_times (get_or r i []) r m) n → Holds m s (squarings m (suc k) a)
  unfolding squarings
  squared-once k a n {r} h l e = rw e (record {
    width = updated-length (λ i x. row_times (get_or r i []) r m) m n
        ∙ l;
    part = lead_square m fit n l r ∙ rw h.part;
  })

  -- two more, from r into an array n and back into r
  pub squared-twice :
      (o k : ℕ) (a n : Matrix) {r s q : Matrix} → Holds m r (squarings m (o + (k + k)) a) → length n ≡ block
      → s ≡ updated m (λ i x. row_times (get_or r i []) r m) n → q ≡ updated m (λ i x. row_times (get_or s i []) s m) r
      → Holds m q (squarings m (o + ((k + 1) + (k + 1))) a) × (length s ≡ block)
  squared-twice o k a n {r} {s} h l e f =
      let t = squared-once (o + (k + k)) a n h l e in
      let c : o + ((k + 1) + (k + 1)) ≡ suc (suc (o + (k + k))) = omega arith in
      (rw c (squared-once (suc (o + (k + k))) a r t h.width f), t.width)
