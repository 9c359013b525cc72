-- Values that a format holds, counted in units of its smallest value; and the one line of naturals, `spot`, on which `lt` and `eq` are
-- those of numbers. Assumes nothing.
use mathlib.Core.Path.{◌≡◌, refl, sym, ap, ap₂, ◌∙◌, subst}
use Prim.Native.Nat.{ℕ, zero, suc, ◌+◌, ◌-◌, ◌*◌, ◌/◌, ◌%◌, ◌^◌, ◌≤◌, ◌<◌, zero-le}
use native.Mathlib.Nat.{le_refl, le_of_eq, le_of_lt, lt_of_lt_of_le, lt_of_not-le, lt_irrefl, le_of_suc-le-suc, mul_comm, mul_assoc}
use native.Mathlib.Nat.{mul_right_comm, mul-one, zero-mul, zero-div, div-one, mul-pos, mul-lt-mul_of_pos_right, lt_of_mul-lt-mul_right}
use native.Mathlib.Nat.{eq_of_mul-eq-mul_right, add-mul, sub-add_cancel, mul-div_cancel}
use native.Mathlib.Omega.{arith}
use mathlib.Core.Bool.{Bool, true, false, not, ◌&&◌, ◌||◌, beq, and-true}
use lib.IntN.{ℤ, pos, negsuc}
use lib.Dec.{T, leb, ltb, eqb, leb→le, ltb→lt, lt→ltb, eqb→eq, eqb_refl}
use lib.Pow.{pow-add, pow_pos, pow-lt}
use lib.Ieee.{Float, nan, inf, fin, Format, prec, emax, low, up, down, fits, is_nan, lt, eq, below, level}
use lib.Ieee.Fits.{and_l, and_r, down_pos, eq→eqb}
use lib.Ieee.Scale.{overflow}
use Rattle.binary64.specs.Doubles.{negative}
use Rattle.binary64.proofs.Tests.{same_test, iff_ltb, iff_eqb}

-- ---- powers of two
pub pow_le_back : (a l : ℕ) → 2 ^ a ≤ 2 ^ l → a ≤ l
pow_le_back a l h = le_of_suc-le-suc (lt_of_not-le (λ (g : suc l ≤ a). lt_irrefl (2 ^ l) (lt_of_lt_of_le (pow-lt g) h)))

pub pow_split : (q i l : ℕ) → l ≤ i → q * 2 ^ i ≡ q * 2 ^ (i - l) * 2 ^ l
pow_split q i l h = ap (λ (x : ℕ). q * 2 ^ x) (sym (sub-add_cancel h)) ∙ ap (λ (x : ℕ). q * x) (pow-add 2 (i - l) l) ∙ sym (mul_assoc q (2 ^ (i - l)) (2 ^ l))

-- a multiple of 2 ^ l stays when the digits below 2 ^ l are cut
pub cut_none : (q i l : ℕ) → l ≤ i → q * 2 ^ i / 2 ^ l * 2 ^ l ≡ q * 2 ^ i
cut_none q i l h =
    let w = pow_split q i l h in
    ap (λ (x : ℕ). x / 2 ^ l * 2 ^ l) w ∙ ap (λ (x : ℕ). x * 2 ^ l) (mul-div_cancel (q * 2 ^ (i - l)) (pow_pos l)) ∙ sym w

-- ---- units
unfoldable pub quanta : Format → ℕ → ℤ → ℕ
quanta f m e = m * up e * 2 ^ low f / down e

exact-at : (n l : ℕ) (e : ℤ) → down e ≤ 2 ^ l → n * 2 ^ l / down e * down e ≡ n * 2 ^ l
exact-at n l (pos a) h = mul-one (n * 2 ^ l / 1) ∙ div-one (n * 2 ^ l)
exact-at n l (negsuc a) h = cut_none n l (suc a) (pow_le_back (suc a) l h)

-- what `fits` says of a value that is not zero
pub fits_says : (f : Format) (s : Bool) (m : ℕ) (e : ℤ) → T (fits f (fin s (suc m) e))
    → (suc m % 2 ≡ 1) × (suc m < 2 ^ prec f) × (down e ≤ 2 ^ low f) × (suc m * up e < 2 ^ suc (emax f) * down e)
unfolding fits
fits_says f s m e h =
    let A = eqb (suc m % 2) 1 in
    let B = ltb (suc m) (2 ^ prec f) in
    let C = leb (down e) (2 ^ low f) in
    let D = ltb (suc m * up e) (2 ^ suc (emax f) * down e) in (
      eqb→eq (suc m % 2) 1 (and_l A B (and_l (A && B) C (and_l (A && B && C) D h))),
      ltb→lt (suc m) (2 ^ prec f) (and_r A B (and_l (A && B) C (and_l (A && B && C) D h))),
      leb→le (down e) (2 ^ low f) (and_r (A && B) C (and_l (A && B && C) D h)),
      ltb→lt (suc m * up e) (2 ^ suc (emax f) * down e) (and_r (A && B && C) D h),
    )

pub quanta_zero : (f : Format) (e : ℤ) → quanta f 0 e ≡ 0
unfolding quanta
quanta_zero f e = ap (λ (x : ℕ). x * 2 ^ low f / down e) (zero-mul (up e)) ∙ ap (λ (x : ℕ). x / down e) (zero-mul (2 ^ low f)) ∙ zero-div (down e)

pub quanta_exact : (f : Format) (s : Bool) (m : ℕ) (e : ℤ) → T (fits f (fin s m e)) → m * up e * 2 ^ low f ≡ quanta f m e * down e
quanta_exact f s zero e h =
    ap (λ (x : ℕ). x * 2 ^ low f) (zero-mul (up e)) ∙ zero-mul (2 ^ low f)
    ∙ sym (ap (λ (x : ℕ). x * down e) (quanta_zero f e) ∙ zero-mul (down e))
quanta_exact f s (suc m) e h = unfold quanta in sym (exact-at (suc m * up e) (low f) e (fits_says f s m e h).2)

pub quanta_lt : (f : Format) (s : Bool) (m : ℕ) (e : ℤ) → T (fits f (fin s m e)) → quanta f m e < overflow f
quanta_lt f s zero e h = subst (λ (x : ℕ). x < overflow f) (sym (quanta_zero f e)) (pow_pos (low f + suc (emax f)))
quanta_lt f s (suc m) e h =
    lt_of_mul-lt-mul_right (down e)
    (subst (λ (x : ℕ). x < overflow f * down e) (quanta_exact f s (suc m) e h)
    (lt_of_lt_of_le (mul-lt-mul_of_pos_right (fits_says f s m e h).3 (pow_pos (low f)))
    (le_of_eq (mul_right_comm (2 ^ suc (emax f)) (down e) (2 ^ low f)
    ∙ ap (λ (x : ℕ). x * down e) (mul_comm (2 ^ suc (emax f)) (2 ^ low f) ∙ sym (pow-add 2 (low f) (suc (emax f))))))))

-- ---- two values that fit, over one denominator: x is a / c and P / L, y is b / c and Q / L
pub record Scaled (a b c P Q L : ℕ) : Type 0 where
  pub c_pos : 0 < c
  pub l_pos : 0 < L
  pub left : a * L ≡ P * c
  pub right : b * L ≡ Q * c

pub scaled : (f : Format) (s : Bool) (m : ℕ) (e : ℤ) (t : Bool) (n : ℕ) (d : ℤ) → T (fits f (fin s m e)) → T (fits f (fin t n d))
    → Scaled (m * up e * down d) (n * up d * down e) (down e * down d) (quanta f m e) (quanta f n d) (2 ^ low f)
scaled f s m e t n d h k = record {
  c_pos = mul-pos (down_pos e) (down_pos d);
  l_pos = pow_pos (low f);
  left = mul_right_comm (m * up e) (down d) (2 ^ low f) ∙ ap (λ (x : ℕ). x * down d) (quanta_exact f s m e h) ∙ mul_assoc (quanta f m e) (down e) (down d);
  right =
      mul_right_comm (n * up d) (down e) (2 ^ low f) ∙ ap (λ (x : ℕ). x * down e) (quanta_exact f t n d k)
      ∙ mul_right_comm (quanta f n d) (down d) (down e) ∙ mul_assoc (quanta f n d) (down e) (down d);
}

module _ {a b c P Q L : ℕ} (z : Scaled a b c P Q L) where
  scale-lt : a < b → P < Q
  scale-lt h =
      lt_of_mul-lt-mul_right c (subst (λ (x : ℕ). x < Q * c) z.left (subst (λ (x : ℕ). a * L < x) z.right
      (mul-lt-mul_of_pos_right h z.l_pos)))

  scale_lt_back : P < Q → a < b
  scale_lt_back h =
      lt_of_mul-lt-mul_right L (subst (λ (x : ℕ). x < b * L) (sym z.left) (subst (λ (x : ℕ). P * c < x) (sym z.right)
      (mul-lt-mul_of_pos_right h z.c_pos)))

  scale-eq : a ≡ b → P ≡ Q
  scale-eq h = eq_of_mul-eq-mul_right c z.c_pos P Q (sym z.left ∙ ap (λ (x : ℕ). x * L) h ∙ z.right)

  scale_eq_back : P ≡ Q → a ≡ b
  scale_eq_back h = eq_of_mul-eq-mul_right L z.l_pos a b (z.left ∙ ap (λ (x : ℕ). x * c) h ∙ sym z.right)

  pub scale_ltb : ltb a b ≡ ltb P Q
  scale_ltb = iff_ltb a b P Q scale-lt scale_lt_back

  pub scale_eqb : eqb a b ≡ eqb P Q
  scale_eqb = iff_eqb a b P Q scale-eq scale_eq_back

pub flip : {a b c P Q L : ℕ} → Scaled a b c P Q L → Scaled b a c Q P L
flip z = record { c_pos = z.c_pos; l_pos = z.l_pos; left = z.right; right = z.left }

-- 0 beside the sum
pub summed : {a b c P Q L : ℕ} → Scaled a b c P Q L → Scaled 0 (a + b) c 0 (P + Q) L
summed {a} {b} {c} {P} {Q} {L} z = record {
  c_pos = z.c_pos;
  l_pos = z.l_pos;
  left = zero-mul L ∙ sym (zero-mul c);
  right = add-mul a b L ∙ ap₂ (λ (x y : ℕ). x + y) z.left z.right ∙ sym (add-mul P Q c);
}

-- and 0 beside the first
pub alone : {a b c P Q L : ℕ} → Scaled a b c P Q L → Scaled a 0 c P 0 L
alone {a} {b} {c} {P} {Q} {L} z = record { c_pos = z.c_pos; l_pos = z.l_pos; left = z.left; right = zero-mul L ∙ sym (zero-mul c) }

below-scale : (s t : Bool) {a b c P Q L : ℕ} → Scaled a b c P Q L → below s a t b ≡ below s P t Q
below-scale false false z = scale_ltb z
below-scale false true z = refl
below-scale true false z = scale_ltb (summed z)
below-scale true true z = scale_ltb (flip z)

level_scale : (s t : Bool) {a b c P Q L : ℕ} → Scaled a b c P Q L → level s a t b ≡ level s P t Q
level_scale s t z = ap₂ (λ (x y : Bool). x && (beq s t || y)) (scale_eqb z) (scale_eqb (alone z))

-- ---- one line
abbrev pub on_line : ℕ → Bool → ℕ → ℕ
on_line K true P = K - P
on_line K false P = K + P

unfoldable pub spot : Format → Float → ℕ
spot f nan = 0
spot f (inf true) = 0
spot f (inf false) = 2 * overflow f
spot f (fin s m e) = on_line (overflow f) s (quanta f m e)

below_line : (K : ℕ) (s t : Bool) (P Q : ℕ) → P < K → Q < K → below s P t Q ≡ ltb (on_line K s P) (on_line K t Q)
below_line K false false P Q h k = iff_ltb P Q (K + P) (K + Q) (omega arith) (omega arith)
below_line K false true P Q h k = same_test false (ltb (K + P) (K - Q)) (λ x. absurd x) (λ x. no (ltb→lt (K + P) (K - Q) x))
  where
    no : K + P < K - Q → ⊥
    no x = omega arith
below_line K true false P Q h k = iff_ltb 0 (P + Q) (K - P) (K + Q) (omega arith) (omega arith)
below_line K true true P Q h k = iff_ltb Q P (K - P) (K - Q) (omega arith) (omega arith)

and_iff : (x y r : Bool) → (T x → T y → T r) → (T r → T x) → (T r → T y) → (x && y) ≡ r
and_iff true y r p q w = same_test y r (p tt) w
and_iff false y r p q w = same_test false r (λ x. absurd x) q

level_line : (K : ℕ) (s t : Bool) (P Q : ℕ) → P < K → Q < K → level s P t Q ≡ eqb (on_line K s P) (on_line K t Q)
level_line K false false P Q h k = and-true (eqb P Q) ∙ iff_eqb P Q (K + P) (K + Q) (omega arith) (omega arith)
level_line K true true P Q h k = and-true (eqb P Q) ∙ iff_eqb P Q (K - P) (K - Q) (omega arith) (omega arith)
level_line K false true P Q h k =
    and_iff (eqb P Q) (eqb P 0) (eqb (K + P) (K - Q)) (λ x y. eq→eqb (both (eqb→eq P Q x) (eqb→eq P 0 y)))
    (λ x. eq→eqb (one (eqb→eq (K + P) (K - Q) x))) (λ x. eq→eqb (two (eqb→eq (K + P) (K - Q) x)))
  where
    both : P ≡ Q → P ≡ 0 → K + P ≡ K - Q
    both x y = omega arith

    one : K + P ≡ K - Q → P ≡ Q
    one x = omega arith

    two : K + P ≡ K - Q → P ≡ 0
    two x = omega arith
level_line K true false P Q h k =
    and_iff (eqb P Q) (eqb P 0) (eqb (K - P) (K + Q)) (λ x y. eq→eqb (both (eqb→eq P Q x) (eqb→eq P 0 y)))
    (λ x. eq→eqb (one (eqb→eq (K - P) (K + Q) x))) (λ x. eq→eqb (two (eqb→eq (K - P) (K + Q) x)))
  where
    both : P ≡ Q → P ≡ 0 → K - P ≡ K + Q
    both x y = omega arith

    one : K - P ≡ K + Q → P ≡ Q
    one x = omega arith

    two : K - P ≡ K + Q → P ≡ 0
    two x = omega arith

-- ---- between the ends
line_pos : (K : ℕ) (s : Bool) (P : ℕ) → P < K → 0 < on_line K s P
line_pos K true P h = omega arith
line_pos K false P h = omega arith

line_lt : (K : ℕ) (s : Bool) (P : ℕ) → P < K → on_line K s P < 2 * K
line_lt K true P h = omega arith
line_lt K false P h = omega arith

over_pos : (f : Format) → 0 < overflow f
over_pos f = pow_pos (low f + suc (emax f))

yes : (b : Bool) → T b → true ≡ b
yes true t = refl
yes false t = absurd t

nay : (b : Bool) → (T b → ⊥) → false ≡ b
nay true t = absurd (t tt)
nay false t = refl

lt_yes : (a b : ℕ) → a < b → true ≡ ltb a b
lt_yes a b h = yes (ltb a b) (lt→ltb a b h)

lt_nay : (a b : ℕ) → b ≤ a → false ≡ ltb a b
lt_nay a b h = nay (ltb a b) (λ t. clash h (ltb→lt a b t))
  where
    clash : b ≤ a → a < b → ⊥
    clash x y = omega arith

eq_nay : (a b : ℕ) → (a ≡ b → ⊥) → false ≡ eqb a b
eq_nay a b h = nay (eqb a b) (λ t. h (eqb→eq a b t))

lt-eq : (a b : ℕ) → a < b → a ≡ b → ⊥
lt-eq a b h e = omega arith

gt_eq : (a b : ℕ) → b < a → a ≡ b → ⊥
gt_eq a b h e = omega arith

twice_pos : (K : ℕ) → 0 < K → 0 < 2 * K
twice_pos K h = omega arith

-- ---- `lt`, `eq` and `le` of values that fit and are no NaN
pub lt_spot : (f : Format) (x y : Float) → T (fits f x) → T (fits f y) → T (not (is_nan x)) → T (not (is_nan y)) → lt x y ≡ ltb (spot f x) (spot f y)
unfolding lt spot is_nan
lt_spot f nan y h k p q = absurd p
lt_spot f (inf s) nan h k p q = absurd q
lt_spot f (inf true) (inf true) h k p q = lt_nay 0 0 (le_refl 0)
lt_spot f (inf true) (inf false) h k p q = lt_yes 0 (2 * overflow f) (twice_pos (overflow f) (over_pos f))
lt_spot f (inf false) (inf true) h k p q = lt_nay (2 * overflow f) 0 zero-le
lt_spot f (inf false) (inf false) h k p q = lt_nay (2 * overflow f) (2 * overflow f) (le_refl (2 * overflow f))
lt_spot f (inf true) (fin t n d) h k p q = lt_yes 0 (on_line (overflow f) t (quanta f n d)) (line_pos (overflow f) t (quanta f n d) (quanta_lt f t n d k))
lt_spot f (inf false) (fin t n d) h k p q = lt_nay (2 * overflow f) (on_line (overflow f) t (quanta f n d))
    (le_of_lt (line_lt (overflow f) t (quanta f n d) (quanta_lt f t n d k)))
lt_spot f (fin s m e) nan h k p q = absurd q
lt_spot f (fin s m e) (inf true) h k p q = lt_nay (on_line (overflow f) s (quanta f m e)) 0 zero-le
lt_spot f (fin s m e) (inf false) h k p q = lt_yes (on_line (overflow f) s (quanta f m e)) (2 * overflow f)
    (line_lt (overflow f) s (quanta f m e) (quanta_lt f s m e h))
lt_spot f (fin s m e) (fin t n d) h k p q =
    below-scale s t (scaled f s m e t n d h k) ∙ below_line (overflow f) s t (quanta f m e) (quanta f n d) (quanta_lt f s m e h) (quanta_lt f t n d k)

pub eq_spot : (f : Format) (x y : Float) → T (fits f x) → T (fits f y) → T (not (is_nan x)) → T (not (is_nan y)) → eq x y ≡ eqb (spot f x) (spot f y)
unfolding eq spot is_nan
eq_spot f nan y h k p q = absurd p
eq_spot f (inf s) nan h k p q = absurd q
eq_spot f (inf true) (inf true) h k p q = refl
eq_spot f (inf true) (inf false) h k p q = eq_nay 0 (2 * overflow f) (lt-eq 0 (2 * overflow f) (twice_pos (overflow f) (over_pos f)))
eq_spot f (inf false) (inf true) h k p q = eq_nay (2 * overflow f) 0 (gt_eq (2 * overflow f) 0 (twice_pos (overflow f) (over_pos f)))
eq_spot f (inf false) (inf false) h k p q = yes (eqb (2 * overflow f) (2 * overflow f)) (eqb_refl (2 * overflow f))
eq_spot f (inf true) (fin t n d) h k p q = eq_nay 0 (on_line (overflow f) t (quanta f n d))
    (lt-eq 0 (on_line (overflow f) t (quanta f n d)) (line_pos (overflow f) t (quanta f n d) (quanta_lt f t n d k)))
eq_spot f (inf false) (fin t n d) h k p q = eq_nay (2 * overflow f) (on_line (overflow f) t (quanta f n d))
    (gt_eq (2 * overflow f) (on_line (overflow f) t (quanta f n d)) (line_lt (overflow f) t (quanta f n d) (quanta_lt f t n d k)))
eq_spot f (fin s m e) nan h k p q = absurd q
eq_spot f (fin s m e) (inf true) h k p q = eq_nay (on_line (overflow f) s (quanta f m e)) 0
    (gt_eq (on_line (overflow f) s (quanta f m e)) 0 (line_pos (overflow f) s (quanta f m e) (quanta_lt f s m e h)))
eq_spot f (fin s m e) (inf false) h k p q = eq_nay (on_line (overflow f) s (quanta f m e)) (2 * overflow f)
    (lt-eq (on_line (overflow f) s (quanta f m e)) (2 * overflow f) (line_lt (overflow f) s (quanta f m e) (quanta_lt f s m e h)))
eq_spot f (fin s m e) (fin t n d) h k p q =
    level_scale s t (scaled f s m e t n d h k) ∙ level_line (overflow f) s t (quanta f m e) (quanta f n d) (quanta_lt f s m e h) (quanta_lt f t n d k)

-- ---- sign and magnitude
-- the size of a value in units, and of an infinity the first number of units that is too many
abbrev pub mag : Format → Float → ℕ
mag f nan = 0
mag f (inf s) = overflow f
mag f (fin s m e) = quanta f m e

-- fits and is no NaN
abbrev pub Good : Format → Float → Type 0
Good f x = T (fits f x) × T (not (is_nan x))

pub mag_le : (f : Format) (x : Float) → T (fits f x) → mag f x ≤ overflow f
mag_le f nan h = zero-le
mag_le f (inf s) h = le_refl (overflow f)
mag_le f (fin s m e) h = le_of_lt (quanta_lt f s m e h)

pub spot_line : (f : Format) (x : Float) → T (not (is_nan x)) → spot f x ≡ on_line (overflow f) (negative x) (mag f x)
unfolding spot is_nan
spot_line f nan h = absurd h
spot_line f (inf true) h = less (overflow f)
  where
    less : (K : ℕ) → 0 ≡ K - K
    less K = omega arith
spot_line f (inf false) h = twice (overflow f)
  where
    twice : (K : ℕ) → 2 * K ≡ K + K
    twice K = omega arith
spot_line f (fin s m e) h = refl
