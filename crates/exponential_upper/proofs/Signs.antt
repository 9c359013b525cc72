-- Which sums are -0: those of which both operands are. A sum of multiples of a unit, one of them not 0, is not rounded to -0.
use mathlib.Core.Path.{◌≡◌, refl, sym, ap, ap₂, ◌∙◌, subst}
use Prim.Native.Nat.{ℕ, zero, suc, ◌+◌, ◌-◌, ◌*◌, ◌^◌, ◌≤◌, ◌<◌}
use native.Mathlib.Nat.{lt_irrefl, mul_comm, mul-pos, mul-sub, suc-mul, zero-lt-suc, zero-mul}
use native.Mathlib.Omega.{arith}
use mathlib.Core.Bool.{Bool, true, false, not, ◌&&◌, beq, cond, and-false}
use lib.Dec.{T, ltb, ltb→lt, nltb→le}
use lib.Pow.{pow_pos}
use lib.Ieee.{Float, nan, inf, fin, Format, low, round, sum, add, fits}
use lib.Ieee.Fits.{up_pos, down_pos, add-fits}
use Rattle.binary64.proofs.Units.{Scaled, scaled, summed, flip}
use Rattle.exponential_upper.proofs.Rounding.{is_zero, round-zero, round_nonzero}
use Rattle.exponential_upper.proofs.Zeros.{is_minus_zero, unsigned, same, add_zeros, keep_right, add-zero-left, add-zero-right, add_alike}

-- ---- a over c is P units, and b over c is Q
module _ (f : Format) {a b c P Q : ℕ} (z : Scaled a b c P Q (2 ^ low f)) where
  not_minus : (x : Float) → is_zero x ≡ false → is_minus_zero x ≡ false
  not_minus nan h = refl
  not_minus (inf s) h = refl
  not_minus (fin s zero e) h = absurd (subst T h tt)
  not_minus (fin s (suc m) e) h = refl

  difference : {a b P Q : ℕ} → Scaled a b c P Q (2 ^ low f) → (a - b) * 2 ^ low f ≡ (P - Q) * c
  difference {a} {b} {P} {Q} z =
      mul_comm (a - b) (2 ^ low f) ∙ mul-sub (2 ^ low f) a b
      ∙ ap₂ (λ (x y : ℕ). x - y) (mul_comm (2 ^ low f) a ∙ z.left ∙ mul_comm P c) (mul_comm (2 ^ low f) b ∙ z.right ∙ mul_comm Q c)
      ∙ sym (mul-sub c P Q) ∙ mul_comm c (P - Q)

  -- x is k units
  rounded : (s : Bool) (x k : ℕ) → x * 2 ^ low f ≡ k * c → 0 < x → is_minus_zero (round f s x c) ≡ false
  rounded s x zero e h = absurd (lt_irrefl 0 (rw (e, zero-mul) at (mul-pos h (pow_pos (low f)))))
  rounded s x (suc k) e h = not_minus (round f s x c) (round_nonzero f s x c z.c_pos (rw (e, suc-mul) (omega arith)))

  gap : (s t x y : Bool) → (T x → a < b) → (T y → b < a) → (T (not y) → a ≤ b)
      → is_minus_zero (cond x (round f t (b - a) c) (round f (s && y) (a - b) c)) ≡ false
  gap s t true y p q r = let l : a < b = p tt in rounded t (b - a) (Q - P) (difference (flip z)) (omega arith)
  gap s t false true p q r = let l : b < a = q tt in rounded (s && true) (a - b) (P - Q) (difference z) (omega arith)
  gap s t false false p q r =
      let l : a ≤ b = r tt in
      let e : a - b ≡ 0 = omega arith in
      rw (and-false, e, round-zero f false c z.c_pos)

  sum_not_minus : (s t : Bool) → 0 < a → is_minus_zero (sum f s a t b c) ≡ false
  unfolding sum
  sum_not_minus s t h = go (beq s t)
    where
      go : (x : Bool) → is_minus_zero (cond x (round f s (a + b) c) (cond (ltb a b) (round f t (b - a) c) (round f (s && ltb b a) (a - b) c))) ≡ false
      go true = rounded s (a + b) (P + Q) (summed z).right (omega arith)
      go false = gap s t (ltb a b) (ltb b a) (ltb→lt a b) (ltb→lt b a) (nltb→le b a)

-- ---- sums
module _ (f : Format) where
  -- a sum is -0 where both are
  pub add_minus : (x y : Float) → T (fits f x) → T (fits f y) → is_minus_zero (add f x y) ≡ (is_minus_zero x && is_minus_zero y)
  unfolding add
  add_minus nan y X Y = refl
  add_minus (inf s) nan X Y = refl
  add_minus (inf s) (inf t) X Y = go (beq s t)
    where
      go : (b : Bool) → is_minus_zero (cond b (inf s) nan) ≡ false
      go true = refl
      go false = refl
  add_minus (inf s) (fin t n d) X Y = refl
  add_minus (fin s zero e) nan X Y = sym (and-false s)
  add_minus (fin s zero e) (inf t) X Y = sym (and-false s)
  add_minus (fin s zero e) (fin t zero d) X Y = ap is_minus_zero (add_zeros f s e t d)
  add_minus (fin s zero e) (fin t (suc n) d) X Y = ap is_minus_zero (keep_right f s e t n d Y) ∙ sym (and-false s)
  add_minus (fin s (suc m) e) nan X Y = refl
  add_minus (fin s (suc m) e) (inf t) X Y = refl
  add_minus (fin s (suc m) e) (fin t n d) X Y =
      sum_not_minus f (scaled f s (suc m) e t n d X Y) s t (mul-pos (mul-pos (zero-lt-suc m) (up_pos e)) (down_pos d))

  -- to a value other than -0 a zero of either sign adds the same
  pub add_same : (x y y' : Float) → T (fits f x) → T (fits f y) → T (fits f y') → is_minus_zero x ≡ false → unsigned y ≡ unsigned y' → add f x y ≡ add f x y'
  add_same x y y' X Y Y' h q =
      same f (add f x y) (add f x y') (add-fits f x y) (add-fits f x y') (add_alike f x x y y' X X Y Y' refl q)
      (add_minus x y X Y ∙ ap (λ (b : Bool). b && is_minus_zero y) h ∙ sym (add_minus x y' X Y' ∙ ap (λ (b : Bool). b && is_minus_zero y') h))

  pub add-zero-same : (x y : Float) → T (fits f x) → T (fits f y) → is_minus_zero x ≡ false → T (is_zero y) → add f x y ≡ x
  add-zero-same x y X Y h z =
      same f (add f x y) x (add-fits f x y) X (add-zero-right f x y X z)
      (add_minus x y X Y ∙ ap (λ (b : Bool). b && is_minus_zero y) h ∙ sym h)

  pub zero-add-same : (x y : Float) → T (fits f x) → T (fits f y) → T (is_zero x) → is_minus_zero y ≡ false → add f x y ≡ y
  zero-add-same x y X Y z h =
      same f (add f x y) y (add-fits f x y) Y (add-zero-left f x y z Y)
      (add_minus x y X Y ∙ ap (λ (b : Bool). is_minus_zero x && b) h ∙ and-false (is_minus_zero x) ∙ sym h)
