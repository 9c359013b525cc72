-- 01, "Amounts and concentrations": the exponential of a block, by scaling and squaring of its Taylor series
-- (C. Moler and C. Van Loan, Nineteen dubious ways to compute the exponential of a matrix, SIAM Review 45, 2003, method 3).
use Rattle.std.specs.Prelude.{Bool, true, false, ℕ, zero, suc, pos, Float}
use Rattle.std.specs.Float.{binary64}
use Rattle.std.specs.Float.Ieee.{mul, lt, of_int}
use Rattle.std.specs.Float.Ieee.Scale.{finite}
use Rattle.binary64.specs.Doubles.{plus_zero, half, magnitude, larger}
use Rattle.matrix.specs.Matrix.{Matrix, at, sum_to, all_to, product, quotient, plus, halved, identity}
use Rattle.refusal.specs.Result.{Result, refused, done, and_then, unless}

-- the terms of the series, the norm up to which it is summed, and the most halvings
pub record Scheme : Type 0 where
  pub terms : ℕ
  pub threshold : Float
  pub most : ℕ

-- 01's
abbrev pub scheme : Scheme
scheme = record { terms = 20; threshold = half; most = 60 }

-- the sum of the magnitudes in row i
unfoldable pub row_sum : Matrix → ℕ → ℕ → Float
unfolding sum_to magnitude
row_sum a m i = sum_to (λ j. magnitude (at a i j)) m

-- the largest of the first k row sums, from +0
unfoldable pub norm_to : Matrix → ℕ → ℕ → Float
unfolding row_sum larger
norm_to a m zero = plus_zero
norm_to a m (suc k) = larger (norm_to a m k) (row_sum a m k)

-- How many halvings bring x to the threshold or below, counted on from n; d is one more than the halvings that are left.
unfoldable pub halvings : Float → ℕ → ℕ → Float → Result ℕ
halvings threshold zero n x = refused 21
halvings threshold (suc d) n x = elim (lt threshold x) [ false ↦ done n | true ↦ halvings threshold d (suc n) (mul binary64 x half) ]

-- the halvings of a norm x: 20 where it is not finite, 21 where the most do not suffice
unfoldable pub halving_count : Float → ℕ → Float → Result ℕ
unfolding halvings
halving_count threshold most x = and_then (unless (finite x) 20 x) (halvings threshold (suc most) 0)

-- c halvings, one at a time
unfoldable pub halved_times : ℕ → ℕ → Matrix → Matrix
unfolding halved
halved_times m zero a = a
halved_times m (suc c) a = halved m (halved_times m c a)

-- term k of the series of a: term × a, divided by k
unfoldable pub next_term : ℕ → Matrix → ℕ → Matrix → Matrix
unfolding product quotient
next_term m a k t = quotient m (product m t a) (of_int binary64 (pos k))

-- the term and the sum after k terms
pub record Partial : Type 0 where
  pub term : Matrix
  pub sum : Matrix

abbrev pub next : ℕ → Matrix → ℕ → Partial → Partial
next m a k p =
    let t = next_term m a k p.term in
    record { term = t; sum = plus m p.sum t }

unfoldable pub series : ℕ → Matrix → ℕ → Partial
unfolding next_term plus identity
series m a zero = record { term = identity m; sum = identity m }
series m a (suc k) = next m a (suc k) (series m a k)

-- c squarings
unfoldable pub squarings : ℕ → ℕ → Matrix → Matrix
unfolding product
squarings m zero p = p
squarings m (suc c) p = let q = squarings m c p in product m q q

-- halved c times, the series, squared c times
unfoldable pub taylor : Scheme → ℕ → ℕ → Matrix → Matrix
unfolding squarings series halved_times
taylor s m c a = squarings m c (series m (halved_times m c a) s.terms).sum

unfoldable pub all_finite : ℕ → Matrix → Bool
unfolding all_to
all_finite m a = all_to (λ i. all_to (λ j. finite (at a i j)) m) m

-- the propagator of a block, and the halvings that it took
pub record Exponential : Type 0 where
  pub halved : ℕ
  pub matrix : Matrix

-- 22 where an entry is not finite
unfoldable pub exponential : Scheme → ℕ → Matrix → Result Exponential
unfolding halving_count norm_to taylor all_finite
exponential s m a =
    and_then (halving_count s.threshold s.most (norm_to a m m))
    (λ c. and_then (done (taylor s m c a)) (λ p. unless (all_finite m p) 22 (record { halved = c; matrix = p })))
