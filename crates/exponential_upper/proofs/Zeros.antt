-- Zeros of either sign in sums, products and quotients: what a zero changes, and what it does not. A value that fits is known by what it is
-- up to the sign of a zero (`unsigned`) and by whether it is -0.
use mathlib.Core.Path.{◌≡◌, refl, sym, ap, ap₂, ◌∙◌, subst}
use Prim.Native.Nat.{ℕ, zero, suc, ◌+◌, ◌-◌, ◌*◌, ◌<◌}
use native.Mathlib.Nat.{mul_assoc, mul_right_comm, mul-one, mul-zero, mul-pos, sub-zero, zero-add, zero-lt-suc, zero-mul, add-zero}
use native.Mathlib.Omega.{arith}
use mathlib.Core.Bool.{Bool, true, false, not, ◌&&◌, beq, cond, and-true}
use mathlib.Core.Logic.{◌⊎◌, inl, inr, ⊎_elim}
use lib.IntN.{ℤ, pos}
use lib.Dec.{T, ltb, ltb→lt, lt→ltb, eqb-suc-zero}
use lib.Ieee.{Float, nan, inf, fin, Format, up, down, round, sum, add, mul, div, lt, unlike, fits, is_nan}
use lib.Ieee.Bits.{is_true}
use lib.Ieee.Fits.{up_pos, down_pos}
use lib.Ieee.Scale.{finite, round_same}
use Rattle.binary64.specs.Doubles.{plus_zero, one, negative}
use Rattle.binary64.proofs.Units.{quanta_zero, mag}
use Rattle.exponential_upper.proofs.Rounding.{is_zero, same_value, round_self, round-zero}

abbrev pub is_minus_zero : Float → Bool
is_minus_zero nan = false
is_minus_zero (inf s) = false
is_minus_zero (fin s zero e) = s
is_minus_zero (fin s (suc m) e) = false

-- the sign of a zero is cleared
unfoldable pub unsigned : Float → Float
unsigned nan = nan
unsigned (inf s) = inf s
unsigned (fin s zero e) = plus_zero
unsigned (fin s (suc m) e) = fin s (suc m) e

-- finite and not 0
abbrev pub nonzero : Float → Bool
nonzero nan = false
nonzero (inf s) = false
nonzero (fin s zero e) = false
nonzero (fin s (suc m) e) = true

-- ---- of a zero
zero_form : (x : Float) → T (is_zero x) → (s : Bool) × (e : ℤ) × (x ≡ fin s 0 e)
zero_form nan h = absurd h
zero_form (inf s) h = absurd h
zero_form (fin s zero e) h = (s, e, refl)
zero_form (fin s (suc m) e) h = absurd h

pub zero_unsigned : (x : Float) → T (is_zero x) → unsigned x ≡ plus_zero
zero_unsigned x h = rw (zero_form x h).2 (unfold unsigned in refl)

pub zero_finite : (x : Float) → T (is_zero x) → T (finite x)
zero_finite x h = rw (zero_form x h).2 tt

zero_data : (f : Format) (x : Float) → T (is_zero x) → T (not (is_nan x)) × (negative x ≡ is_minus_zero x) × (mag f x ≡ 0)
unfolding is_nan
zero_data f x h = let z = zero_form x h in rw z.2 (tt, refl, quanta_zero f z.1)

-- ---- up to the sign of a zero: equal, or both zeros
unsigned_zero : (x : Float) → is_zero (unsigned x) ≡ is_zero x
unfolding unsigned
unsigned_zero nan = refl
unsigned_zero (inf s) = refl
unsigned_zero (fin s zero e) = refl
unsigned_zero (fin s (suc m) e) = refl

unsigned_kept : (x : Float) → is_zero x ≡ false → unsigned x ≡ x
unfolding unsigned
unsigned_kept nan h = refl
unsigned_kept (inf s) h = refl
unsigned_kept (fin s zero e) h = absurd (subst T h tt)
unsigned_kept (fin s (suc m) e) h = refl

alike : (x y : Float) → unsigned x ≡ unsigned y → (x ≡ y) ⊎ (T (is_zero x) × T (is_zero y))
alike x y h = go (is_zero x) refl (sym (unsigned_zero y) ∙ ap is_zero (sym h) ∙ unsigned_zero x)
  where
    go : (b : Bool) → is_zero x ≡ b → is_zero y ≡ is_zero x → (x ≡ y) ⊎ (T (is_zero x) × T (is_zero y))
    go true p q = inr (rw p tt, rw (q, p) tt)
    go false p q = inl (sym (unsigned_kept x p) ∙ h ∙ unsigned_kept y (q ∙ p))

pub unsigned_finite : (x y : Float) → unsigned x ≡ unsigned y → T (finite x) → T (finite y)
unsigned_finite x y h t = ⊎_elim (λ e. rw e at t) (λ z. zero_finite y z.1) (alike x y h)

pub unsigned_is_zero : (x y : Float) → unsigned x ≡ unsigned y → T (is_zero x) → T (is_zero y)
unsigned_is_zero x y h t = ⊎_elim (λ e. rw e at t) (λ z. z.1) (alike x y h)

-- equal up to the sign of a zero, and both -0 or neither
pub same : (f : Format) (x y : Float) → T (fits f x) → T (fits f y) → unsigned x ≡ unsigned y → is_minus_zero x ≡ is_minus_zero y → x ≡ y
same f x y X Y h k = ⊎_elim (λ e. e) both (alike x y h)
  where
    both : T (is_zero x) × T (is_zero y) → x ≡ y
    both z =
        let p = zero_data f x z.0 in
        let q = zero_data f y z.1 in
        same_value f x y (X, p.0) (Y, q.0) (p.1 ∙ k ∙ sym q.1) (p.2 ∙ sym q.2)

-- ---- sums
-- of numbers over one denominator, one of them 0
sum-right : (f : Format) (s : Bool) (a : ℕ) (t : Bool) (c : ℕ) → 0 < a → sum f s a t 0 c ≡ round f s a c
unfolding sum
sum-right f s a t c h = go (beq s t) (ltb a 0) (ltb 0 a) (ltb→lt a 0) (lt→ltb 0 a h)
  where
    no : a < 0 → ⊥
    no l = omega arith

    go : (x y z : Bool) → (T y → a < 0) → T z
        → cond x (round f s (a + 0) c) (cond y (round f t (0 - a) c) (round f (s && z) (a - 0) c)) ≡ round f s a c
    go true y z p q = rw add-zero
    go false true z p q = absurd (no (p tt))
    go false false true p q = rw (and-true, sub-zero)
    go false false false p q = absurd q

sum_left : (f : Format) (s t : Bool) (b c : ℕ) → 0 < b → sum f s 0 t b c ≡ round f t b c
unfolding sum
sum_left f true true b c h = rw zero-add
sum_left f false false b c h = rw zero-add
sum_left f true false b c h = rw (is_true (ltb 0 b) (lt→ltb 0 b h), sub-zero)
sum_left f false true b c h = rw (is_true (ltb 0 b) (lt→ltb 0 b h), sub-zero)

sum_none : (f : Format) (s t : Bool) (c : ℕ) → 0 < c → sum f s 0 t 0 c ≡ fin (s && t) 0 (pos 0)
unfolding sum
sum_none f true true c h = round-zero f true c h
sum_none f true false c h = round-zero f false c h
sum_none f false true c h = round-zero f false c h
sum_none f false false c h = round-zero f false c h

no_product : (x y : ℕ) → 0 * x * y ≡ 0
no_product x y = simp zero-mul

module _ (f : Format) where
  pub add_zeros : (s : Bool) (e : ℤ) (t : Bool) (d : ℤ) → add f (fin s 0 e) (fin t 0 d) ≡ fin (s && t) 0 (pos 0)
  unfolding add
  add_zeros s e t d =
      ap₂ (λ (x y : ℕ). sum f s x t y (down e * down d)) (no_product (up e) (down d)) (no_product (up d) (down e))
      ∙ sum_none f s t (down e * down d) (mul-pos (down_pos e) (down_pos d))

  -- a zero leaves what is not 0 as it is
  keep_left : (s : Bool) (m : ℕ) (e : ℤ) (t : Bool) (d : ℤ) → T (fits f (fin s (suc m) e)) → add f (fin s (suc m) e) (fin t 0 d) ≡ fin s (suc m) e
  unfolding add
  keep_left s m e t d h =
      ap (λ (x : ℕ). sum f s (suc m * up e * down d) t x (down e * down d)) (no_product (up d) (down e))
      ∙ sum-right f s (suc m * up e * down d) t (down e * down d) (mul-pos (mul-pos (zero-lt-suc m) (up_pos e)) (down_pos d))
      ∙ round_same f s (suc m * up e * down d) (down e * down d) (suc m * up e) (down e) (mul-pos (down_pos e) (down_pos d)) (down_pos e)
      (mul_right_comm (suc m * up e) (down d) (down e) ∙ mul_assoc (suc m * up e) (down e) (down d))
      ∙ round_self f s (suc m) e h

  pub keep_right : (s : Bool) (e : ℤ) (t : Bool) (n : ℕ) (d : ℤ) → T (fits f (fin t (suc n) d)) → add f (fin s 0 e) (fin t (suc n) d) ≡ fin t (suc n) d
  unfolding add
  keep_right s e t n d h =
      ap (λ (x : ℕ). sum f s x t (suc n * up d * down e) (down e * down d)) (no_product (up e) (down d))
      ∙ sum_left f s t (suc n * up d * down e) (down e * down d) (mul-pos (mul-pos (zero-lt-suc n) (up_pos d)) (down_pos e))
      ∙ round_same f t (suc n * up d * down e) (down e * down d) (suc n * up d) (down d) (mul-pos (down_pos e) (down_pos d)) (down_pos d)
      (mul_assoc (suc n * up d) (down e) (down d))
      ∙ round_self f t (suc n) d h

  -- so it leaves all but the sign of a zero
  pub add-zero-right : (x y : Float) → T (fits f x) → T (is_zero y) → unsigned (add f x y) ≡ unsigned x
  add-zero-right x y X h = let z = zero_form y h in rw z.2 (go x z.0 z.1 X)
    where
      go : (x : Float) (t : Bool) (d : ℤ) → T (fits f x) → unsigned (add f x (fin t 0 d)) ≡ unsigned x
      go nan t d X = unfold add in refl
      go (inf s) t d X = unfold add in refl
      go (fin s zero e) t d X = rw (add_zeros s e t d) (unfold unsigned in refl)
      go (fin s (suc m) e) t d X = ap unsigned (keep_left s m e t d X)

  pub add-zero-left : (x y : Float) → T (is_zero x) → T (fits f y) → unsigned (add f x y) ≡ unsigned y
  add-zero-left x y h Y = let z = zero_form x h in rw z.2 (go y z.0 z.1 Y)
    where
      go : (y : Float) (s : Bool) (e : ℤ) → T (fits f y) → unsigned (add f (fin s 0 e) y) ≡ unsigned y
      go nan s e Y = unfold add in refl
      go (inf t) s e Y = unfold add in refl
      go (fin t zero d) s e Y = rw (add_zeros s e t d) (unfold unsigned in refl)
      go (fin t (suc n) d) s e Y = ap unsigned (keep_right s e t n d Y)

  -- operands that are equal up to the sign of a zero
  pub add_alike : (x x' y y' : Float) → T (fits f x) → T (fits f x') → T (fits f y) → T (fits f y')
      → unsigned x ≡ unsigned x' → unsigned y ≡ unsigned y' → unsigned (add f x y) ≡ unsigned (add f x' y')
  add_alike x x' y y' X X' Y Y' p q =
      ⊎_elim
      (λ e. ⊎_elim (λ d. ap₂ (λ (a b : Float). unsigned (add f a b)) e d)
      (λ z. add-zero-right x y X z.0 ∙ p ∙ sym (add-zero-right x' y' X' z.1)) (alike y y' q))
      (λ z. add-zero-left x y z.0 Y ∙ q ∙ sym (add-zero-left x' y' z.1 Y')) (alike x x' p)

  -- ---- products
  mul_zeros_left : (s : Bool) (e : ℤ) (t : Bool) (n : ℕ) (d : ℤ) → mul f (fin s 0 e) (fin t n d) ≡ fin (unlike s t) 0 (pos 0)
  unfolding mul
  mul_zeros_left s e t n d =
      ap (λ (x : ℕ). round f (unlike s t) x (down e * down d)) (no_product (up e) (n * up d))
      ∙ round-zero f (unlike s t) (down e * down d) (mul-pos (down_pos e) (down_pos d))

  mul_zeros_right : (s : Bool) (m : ℕ) (e : ℤ) (t : Bool) (d : ℤ) → mul f (fin s m e) (fin t 0 d) ≡ fin (unlike s t) 0 (pos 0)
  unfolding mul
  mul_zeros_right s m e t d =
      ap (λ (x : ℕ). round f (unlike s t) x (down e * down d)) (ap (λ (x : ℕ). m * up e * x) (zero-mul (up d)) ∙ mul-zero (m * up e))
      ∙ round-zero f (unlike s t) (down e * down d) (mul-pos (down_pos e) (down_pos d))

  pub zero-times : (x y : Float) → T (is_zero x) → T (finite y) → T (is_zero (mul f x y))
  zero-times x nan h k = absurd k
  zero-times x (inf t) h k = absurd k
  zero-times x (fin t n d) h k = let z = zero_form x h in rw (z.2, mul_zeros_left z.0 z.1 t n d) tt

  pub times_zero : (x y : Float) → T (finite x) → T (is_zero y) → T (is_zero (mul f x y))
  times_zero nan y h k = absurd h
  times_zero (inf s) y h k = absurd h
  times_zero (fin s m e) y h k = let z = zero_form y k in rw (z.2, mul_zeros_right s m e z.0 z.1) tt

  pub mul_alike : (x x' y : Float) → unsigned x ≡ unsigned x' → unsigned (mul f x y) ≡ unsigned (mul f x' y)
  mul_alike x x' y p = ⊎_elim (λ e. ap (λ (a : Float). unsigned (mul f a y)) e) (λ z. go x z.0 ∙ sym (go x' z.1)) (alike x x' p)
    where
      factor : (y : Float) (s : Bool) (e : ℤ) → unsigned (mul f (fin s 0 e) y) ≡ cond (finite y) plus_zero nan
      factor nan s e = unfold mul unsigned in refl
      factor (inf t) s e = unfold mul unsigned in refl
      factor (fin t n d) s e = rw (mul_zeros_left s e t n d) (unfold unsigned in refl)

      go : (x : Float) → T (is_zero x) → unsigned (mul f x y) ≡ cond (finite y) plus_zero nan
      go x h = let z = zero_form x h in rw z.2 (factor y z.0 z.1)

  -- by 1
  pub times-one : (x : Float) → T (fits f x) → mul f x one ≡ x
  unfolding mul
  times-one nan X = refl
  times-one (inf true) X = refl
  times-one (inf false) X = refl
  times-one (fin true m e) X = rw (mul-one (m * up e), mul-one (down e)) (round_self f true m e X)
  times-one (fin false m e) X = rw (mul-one (m * up e), mul-one (down e)) (round_self f false m e X)

  -- by +0
  pub minus_times : (x : Float) → T (is_minus_zero x) → T (is_minus_zero (mul f x plus_zero))
  minus_times nan h = absurd h
  minus_times (inf s) h = absurd h
  minus_times (fin true zero e) h = rw (mul_zeros_right true zero e false (pos 0)) tt
  minus_times (fin false zero e) h = absurd h
  minus_times (fin s (suc m) e) h = absurd h

  pub positive-times : (x : Float) → T (finite x) → T (lt plus_zero x) → mul f x plus_zero ≡ plus_zero
  unfolding lt
  positive-times nan h k = absurd h
  positive-times (inf s) h k = absurd h
  positive-times (fin true m e) h k = absurd k
  positive-times (fin false m e) h k = mul_zeros_right false m e false (pos 0)

  -- ---- quotients
  zeros_over : (s : Bool) (e : ℤ) (t : Bool) (n : ℕ) (d : ℤ) → div f (fin s 0 e) (fin t (suc n) d) ≡ fin (unlike s t) 0 (pos 0)
  unfolding div
  zeros_over s e t n d =
      rw (eqb-suc-zero n, no_product (up e) (down d))
      (round-zero f (unlike s t) (suc n * up d * down e) (mul-pos (mul-pos (zero-lt-suc n) (up_pos d)) (down_pos e)))

  pub zero-over : (x y : Float) → T (is_zero x) → T (nonzero y) → T (is_zero (div f x y))
  zero-over x nan h k = absurd k
  zero-over x (inf t) h k = absurd k
  zero-over x (fin t zero d) h k = absurd k
  zero-over x (fin t (suc n) d) h k = let z = zero_form x h in rw (z.2, zeros_over z.0 z.1 t n d) tt

  pub div_alike : (x x' y : Float) → T (nonzero y) → unsigned x ≡ unsigned x' → unsigned (div f x y) ≡ unsigned (div f x' y)
  div_alike x x' y h p = ⊎_elim (λ e. ap (λ (a : Float). unsigned (div f a y)) e) (λ z. go x z.0 ∙ sym (go x' z.1)) (alike x x' p)
    where
      go : (x : Float) → T (is_zero x) → unsigned (div f x y) ≡ plus_zero
      go x z = zero_unsigned (div f x y) (zero-over x y z h)
