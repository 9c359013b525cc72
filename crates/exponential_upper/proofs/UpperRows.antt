-- The claim `UpperRows`: the exponential by upper rows has the upper rows of the block's exponential, and the same refusals.
use mathlib.Core.Path.{◌≡◌, refl, sym, ◌∙◌}
use Prim.Native.Nat.{ℕ, zero, suc, ◌+◌, ◌^◌, ◌≤◌, ◌<◌}
use native.Mathlib.Nat.{add_comm}
use native.Mathlib.Omega.{arith}
use mathlib.Core.Bool.{Bool, true, false, ◌&&◌}
use mathlib.Core.Logic.{◌⊎◌, inl, inr}
use lib.Dec.{T, eqb}
use lib.Ieee.{Float}
use lib.Ieee.Fits.{and_l, and_r, and_i}
use lib.Ieee.Scale.{finite}
use Rattle.binary64.proofs.Tests.{same_test}
use Rattle.matrix.specs.Matrix.{Matrix, at, table, all_to, plus}
use Rattle.matrix.specs.Exponential.{Scheme, halving_count, halved_times, series, taylor, all_finite, exponential}
use Rattle.matrix.proofs.Rows.{table_cong}
use Rattle.refusal.specs.Result.{Result, refused, done, and_then, unless}
use Rattle.exponential_upper.specs.Upper.{Upper, upper, block_of, upper_norm_to, unit_of, right_sum, squared_times, upper_taylor, upper_finite}
use Rattle.exponential_upper.specs.Upper.{upper_exponential, upper_of, UpperRows}
use Rattle.exponential_upper.proofs.Sums.{all-at, all_of}
use Rattle.exponential_upper.proofs.Entries.{by_halves, unit_finite, table_self, halved-block, FiniteRows, FiniteHalves, Agree, LowerUnit, finite_rows}
use Rattle.exponential_upper.proofs.Series.{partial_fits, halves_of, series_agree}
use Rattle.exponential_upper.proofs.Squarings.{squarings_agree}
use Rattle.exponential_upper.proofs.Norm.{block_norm}

-- ---- all entries are finite
finite_entry : (m : ℕ) (a : Matrix) → T (all_finite m a) → (i j : ℕ) → i < m → j < m → T (finite (at a i j))
unfolding all_finite
finite_entry m a t i j I J = all-at (λ j. finite (at a i j)) m j (all-at (λ i. all_to (λ j. finite (at a i j)) m) m i t I) J

finite_entries : (m : ℕ) (a : Matrix) → ((i j : ℕ) → i < m → j < m → T (finite (at a i j))) → T (all_finite m a)
unfolding all_finite
finite_entries m a h = all_of (λ i. all_to (λ j. finite (at a i j)) m) m (λ i I. all_of (λ j. finite (at a i j)) m (λ j J. h i j I J))

-- ---- halves are tables of their entries
abbrev Tables : ℕ → Upper → Type 0
Tables n q = (table n (at q.left) ≡ q.left) × (table n (at q.right) ≡ q.right)

series_tables : (n : ℕ) (a : Matrix) (u : Float) (k : ℕ) → Tables n (halves_of n a u k)
unfolding series right_sum plus
series_tables n a u zero = (table_self n _, table_self n _)
series_tables n a u (suc k) = (table_self n _, table_self n _)

squared_tables : (n : ℕ) (q : Upper) (c : ℕ) → Tables n q → Tables n (squared_times n c q)
unfolding squared_times
squared_tables n q zero h = h
squared_tables n q (suc c) h = (table_self n _, table_self n _)

-- ---- c halvings, the series and c squarings, with all rows and by upper rows
module _ (s : Scheme) (n : ℕ) (a : Matrix) (most : s.terms ≤ 2 ^ 53) (c : ℕ) where
  abbrev whole : Matrix
  whole = taylor s (n + n) c (block_of n a)

  abbrev rows : Upper
  rows = upper_taylor s n c a

  rows_agree : FiniteRows n whole ⊎ FiniteHalves n rows → Agree n whole rows × LowerUnit n whole
  unfolding taylor upper_taylor
  rows_agree =
      let A = halved_times (n + n) c (block_of n a) in
      let B = halved_times n c a in
      squarings_agree n (series (n + n) A s.terms).sum (halves_of n B (unit_of c) s.terms)
      (λ i j I J. partial_fits (n + n) A i j I J s.terms) (series_agree n A B (unit_of c) (halved-block n a c) s.terms most) c

  -- they are finite together
  finite_same : all_finite (n + n) whole ≡ upper_finite n rows
  unfolding upper_finite
  finite_same =
      let L = all_finite n rows.left in
      let R = all_finite n rows.right in
      same_test (all_finite (n + n) whole) (L && R)
      (λ t. let F : FiniteRows n whole = λ i j I J. finite_entry (n + n) whole t i j (omega arith) J in
      let w = (rows_agree (inl F)).0 in
      and_i L R (finite_entries n rows.left (λ i j I J. rw (w.left i j I J) at (F i j I (omega arith))))
      (finite_entries n rows.right (λ i j I J. rw (w.right i j I J) at (F i (n + j) I (omega arith)))))
      (λ t. let h : FiniteHalves n rows = λ i j I J.
      (finite_entry n rows.left (and_l L R t) i j I J, finite_entry n rows.right (and_r L R t) i j I J) in
      let w = rows_agree (inr h) in
      finite_entries (n + n) whole (λ i j I J. by_halves {P = λ i. T (finite (at whole i j))} n
      (λ i I. finite_rows n whole rows w.0 (inr h) i j I J) (λ l L. rw (w.1 l j L J) (unit_finite (eqb (n + l) j))) i I))

  -- and where they are finite the upper rows are the same
  rows_same : T (all_finite (n + n) whole) → rows ≡ upper n whole
  unfolding upper upper_taylor
  rows_same t =
      let w = (rows_agree (inl (λ i j I J. finite_entry (n + n) whole t i j (omega arith) J))).0 in
      let B = halved_times n c a in
      let v = squared_tables n (halves_of n B (unit_of c) s.terms) c (series_tables n B (unit_of c) s.terms) in
      pair (sym v.0 ∙ table_cong n (λ i j I J. sym (w.left i j I J)))
      (sym v.1 ∙ table_cong n (λ i j I J. sym (w.right i j I J) ∙ rw (add_comm n j)))
    where
      pair : {l l' r r' : Matrix} → l ≡ l' → r ≡ r' → ◌≡◌ {A = Upper} (record { left = l; right = r }) (record { left = l'; right = r' })
      pair p q = λ i. record { left = p i; right = q i }

-- ---- the claim
pub upper-rows : UpperRows
unfolding upper_exponential exponential
upper-rows s n a most = rw (block_norm n a) (go (halving_count s.threshold s.most (upper_norm_to a n n)))
  where
    on : (c : ℕ) (b : Bool) → (T b → T (all_finite (n + n) (taylor s (n + n) c (block_of n a))))
        → unless b 22 (record { halved = c; rows = upper_taylor s n c a })
        ≡ upper_of n (unless b 22 (record { halved = c; matrix = taylor s (n + n) c (block_of n a) }))
    on c false h = refl
    on c true h = rw (rows_same s n a most c (h tt))

    go : (r : Result ℕ)
        → and_then r (λ c. and_then (done (upper_taylor s n c a)) (λ p. unless (upper_finite n p) 22 (record { halved = c; rows = p })))
        ≡ upper_of n (and_then r (λ c. and_then (done (taylor s (n + n) c (block_of n a)))
        (λ p. unless (all_finite (n + n) p) 22 (record { halved = c; matrix = p }))))
    go (refused e) = refl
    go (done c) = rw (← finite_same s n a most c) (on c (all_finite (n + n) (taylor s (n + n) c (block_of n a))) (λ t. t))
