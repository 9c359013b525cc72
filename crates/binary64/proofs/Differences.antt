-- x - y of finite values with y < x is their distance on the line, rounded (`sub_gap`). So it is above 0 (`sub-positive`), finite where it
-- lies inside a finite difference
-- (`sub_finite`), and the same from -0 as from +0 (`sub_level`). Assumes nothing.
use mathlib.Core.Path.{◌≡◌, refl, sym, ap, ap₂, ◌∙◌, subst}
use Prim.Native.Nat.{ℕ, zero, suc, ◌+◌, ◌-◌, ◌*◌, ◌^◌, ◌≤◌, ◌<◌}
use native.Mathlib.Nat.{lt_of_lt_of_le, mul_comm, zero-mul, mul-sub, mul-le-mul_right, zero-lt-suc, mul-pos}
use native.Mathlib.Omega.{arith}
use mathlib.Core.Bool.{Bool, true, false, not, ◌&&◌, beq, cond}
use mathlib.Core.Logic.{◌⊎◌, inl, inr}
use lib.IntN.{ℤ}
use lib.Dec.{T, ltb, ltb→lt, lt→ltb, lit<}
use lib.Pow.{pow_pos, pow-lt, pow_mono}
use lib.Ieee.{Float, nan, inf, fin, Format, prec, emax, low, up, down, odd, units, round, sum, sub, fits, lt, le, eq}
use lib.Ieee.Fits.{up_pos, two}
use lib.Ieee.Exact.{HasValue, round_exact}
use lib.Ieee.Order.{round_mono}
use lib.Ieee.Scale.{overflow, finite, round_same}
use lib.Ieee.Positive.{above, positive_of_value, above_of_le}
use Rattle.binary64.specs.Doubles.{plus_zero}
use Rattle.binary64.proofs.Units.{quanta, quanta_lt, Scaled, scaled, summed, flip, scale_ltb, on_line, spot}
use Rattle.binary64.proofs.Order.{lt→spot, le→spot, eq→spot, Real, real_good}

-- ---- the sum, over any one denominator
diff_scale : {a b c P Q L : ℕ} → Scaled a b c P Q L → (a - b) * L ≡ (P - Q) * c
diff_scale {a} {b} {c} {P} {Q} {L} z =
    mul_comm (a - b) L ∙ mul-sub L a b
    ∙ ap₂ (λ (x y : ℕ). x - y) (mul_comm L a ∙ z.left ∙ mul_comm P c) (mul_comm L b ∙ z.right ∙ mul_comm Q c)
    ∙ sym (mul-sub c P Q) ∙ mul_comm c (P - Q)

sum-scale : (f : Format) (s t : Bool) {a b c P Q L : ℕ} → Scaled a b c P Q L → sum f s a t b c ≡ sum f s P t Q L
unfolding sum
sum-scale f s t {a} {b} {c} {P} {Q} {L} z =
    ap (λ (r : Float). cond (beq s t) r (cond (ltb a b) (round f t (b - a) c) (round f (s && ltb b a) (a - b) c)))
    (round_same f s (a + b) c (P + Q) L z.c_pos z.l_pos (summed z).right)
    ∙ ap (λ (x : Bool). cond (beq s t) (round f s (P + Q) L) (cond x (round f t (b - a) c) (round f (s && ltb b a) (a - b) c))) (scale_ltb z)
    ∙ ap (λ (r : Float). cond (beq s t) (round f s (P + Q) L) (cond (ltb P Q) r (round f (s && ltb b a) (a - b) c)))
    (round_same f t (b - a) c (Q - P) L z.c_pos z.l_pos (diff_scale (flip z)))
    ∙ ap (λ (x : Bool). cond (beq s t) (round f s (P + Q) L) (cond (ltb P Q) (round f t (Q - P) L) (round f (s && x) (a - b) c))) (scale_ltb (flip z))
    ∙ ap (λ (r : Float). cond (beq s t) (round f s (P + Q) L) (cond (ltb P Q) (round f t (Q - P) L) r))
    (round_same f (s && ltb Q P) (a - b) c (P - Q) L z.c_pos z.l_pos (diff_scale z))

sub_units : (f : Format) (s : Bool) (m : ℕ) (e : ℤ) (t : Bool) (n : ℕ) (d : ℤ) → T (fits f (fin s m e)) → T (fits f (fin t n d))
    → sub f (fin s m e) (fin t n d) ≡ sum f s (quanta f m e) (not t) (quanta f n d) (2 ^ low f)
sub_units f s m e t n d h k = opened ∙ sum-scale f s (not t) (scaled f s m e t n d h k)
  where
    opened : sub f (fin s m e) (fin t n d) ≡ sum f s (m * up e * down d) (not t) (n * up d * down e) (down e * down d)
    opened = unfold sub in refl

-- ---- a difference is a distance
cond_false : (b : Bool) (x y : Float) → (T b → ⊥) → cond b x y ≡ y
cond_false true x y h = absurd (h tt)
cond_false false x y h = refl

cond_true : (b : Bool) (x y : Float) → T b → cond b x y ≡ x
cond_true true x y h = refl
cond_true false x y h = absurd h

sum_gap : (f : Format) (K : ℕ) (s t : Bool) (P Q L : ℕ) → P < K → Q < K → on_line K t Q < on_line K s P
    → sum f s P (not t) Q L ≡ round f false (on_line K s P - on_line K t Q) L
unfolding sum
sum_gap f K false false P Q L h k l =
    cond_false (ltb P Q) (round f true (Q - P) L) (round f false (P - Q) L) (λ t. no (ltb→lt P Q t)) ∙ ap (λ (x : ℕ). round f false x L) same
  where
    no : P < Q → ⊥
    no x = omega arith

    same : P - Q ≡ K + P - (K + Q)
    same = omega arith
sum_gap f K false true P Q L h k l = ap (λ (x : ℕ). round f false x L) same
  where
    same : P + Q ≡ K + P - (K - Q)
    same = omega arith
sum_gap f K true false P Q L h k l = absurd no
  where
    no : ⊥
    no = omega arith
sum_gap f K true true P Q L h k l =
    cond_true (ltb P Q) (round f false (Q - P) L) (round f (true && ltb Q P) (P - Q) L) (lt→ltb P Q yes) ∙ ap (λ (x : ℕ). round f false x L) same
  where
    yes : P < Q
    yes = omega arith

    same : Q - P ≡ K - P - (K - Q)
    same = omega arith

sub_gap : (f : Format) (x y : Float) → Real f x → Real f y → spot f y < spot f x → sub f x y ≡ round f false (spot f x - spot f y) (2 ^ low f)
unfolding spot
sub_gap f nan y p q h = absurd p.is_finite
sub_gap f (inf s) y p q h = absurd p.is_finite
sub_gap f (fin s m e) nan p q h = absurd q.is_finite
sub_gap f (fin s m e) (inf t) p q h = absurd q.is_finite
sub_gap f (fin s m e) (fin t n d) p q h =
    sub_units f s m e t n d p.fit q.fit ∙ sum_gap f (overflow f) s t (quanta f m e) (quanta f n d) (2 ^ low f)
    (quanta_lt f s m e p.fit) (quanta_lt f t n d q.fit) h

-- ---- finite inside a finite one
finite_odd : (d : ℕ) (s : Bool) (q k l : ℕ) → T (finite (odd d s q k l))
unfolding odd
finite_odd d s zero k l = tt
finite_odd d s (suc q) k l = tt

finite_units : (f : Format) (q k : ℕ) → T (finite (units f false q k)) ⊎ (units f false q k ≡ inf false)
unfolding units
finite_units f q k = go (ltb (q * 2 ^ k) (overflow f))
  where
    go : (b : Bool) → T (finite (cond b (odd (suc (prec f)) false q k (low f)) (inf false)))
        ⊎ (cond b (odd (suc (prec f)) false q k (low f)) (inf false) ≡ inf false)
    go true = inl (finite_odd (suc (prec f)) false q k (low f))
    go false = inr refl

-- a number at or above 0 is rounded to a finite value or to +∞
finite_round : (f : Format) (a c : ℕ) → T (finite (round f false a c)) ⊎ (round f false a c ≡ inf false)
unfolding round
finite_round f a c = finite_units f _ _

under_finite : (y : Float) → T (le (inf false) y) → T (finite y) → ⊥
unfolding le
under_finite nan h k = h
under_finite (inf s) h k = k
under_finite (fin s m e) h k = h

round_finite : (f : Format) (a b c : ℕ) → 0 < c → a ≤ b → T (finite (round f false b c)) → T (finite (round f false a c))
round_finite f a b c C h k = go (finite_round f a c) (round_mono f a c b c C C (mul-le-mul_right c h))
  where
    go : T (finite (round f false a c)) ⊎ (round f false a c ≡ inf false) → T (le (round f false a c) (round f false b c)) → T (finite (round f false a c))
    go (inl t) l = t
    go (inr e) l = absurd (under_finite (round f false b c) (subst (λ (z : Float). T (le z (round f false b c))) e l) k)

pub sub_finite : (f : Format) (a t s z : Float) → Real f a → Real f t → Real f s → Real f z → T (le a t) → T (lt t s) → T (le s z)
    → T (finite (sub f z a)) → T (finite (sub f s t))
sub_finite f a t s z A B C D h k l w =
    let x : spot f a ≤ spot f t = le→spot f a t (real_good A) (real_good B) h in
    let y : spot f t < spot f s = lt→spot f t s (real_good B) (real_good C) k in
    let u : spot f s ≤ spot f z = le→spot f s z (real_good C) (real_good D) l in
    let v : spot f a < spot f z = omega arith in
    subst (λ (r : Float). T (finite r)) (sym (sub_gap f s t C B y))
    (round_finite f (spot f s - spot f t) (spot f z - spot f a) (2 ^ low f) (pow_pos (low f)) (omega arith)
    (subst (λ (r : Float). T (finite r)) (sub_gap f z a D A v) w))

-- ---- above 0
smallest : (f : Format) → HasValue (round f false 1 (2 ^ low f)) false 1 (2 ^ low f)
smallest f =
    round_exact f false 1 (2 ^ low f) 1 0 (pow_pos (low f)) (lt_of_lt_of_le (lit< {m = 1} {n = 2 ^ 2} tt) (pow_mono (two f)))
    (pow-lt (room (low f) (emax f))) refl
  where
    room : (l e : ℕ) → 0 < l + suc e
    room l e = omega arith

round-above : (f : Format) (a : ℕ) → 0 < a → T (above (round f false a (2 ^ low f)))
round-above f a h =
    above_of_le (round f false 1 (2 ^ low f)) (round f false a (2 ^ low f)) (positive_of_value (round f false 1 (2 ^ low f)) 1 (2 ^ low f)
    (smallest f) (zero-lt-suc 0))
    (round_mono f 1 (2 ^ low f) a (2 ^ low f) (pow_pos (low f)) (pow_pos (low f)) (mul-le-mul_right (2 ^ low f) h))

above-lt : (z : Float) → T (above z) → T (lt plus_zero z)
unfolding lt
above-lt nan h = absurd h
above-lt (inf true) h = absurd h
above-lt (inf false) h = tt
above-lt (fin true m e) h = absurd h
above-lt (fin false m e) h =
    lt→ltb (0 * down e) (m * up e * 1) (subst (λ (x : ℕ). x < m * up e * 1) (sym (zero-mul (down e)))
    (mul-pos (mul-pos (ltb→lt 0 m h) (up_pos e)) (zero-lt-suc 0)))

pub sub-positive : (f : Format) (x y : Float) → Real f x → Real f y → T (lt y x) → T (lt plus_zero (sub f x y))
sub-positive f x y p q h =
    let l : spot f y < spot f x = lt→spot f y x (real_good q) (real_good p) h in
    above-lt (sub f x y) (subst (λ (r : Float). T (above r)) (sym (sub_gap f x y p q l)) (round-above f (spot f x - spot f y) (omega arith)))

-- ---- equal values, one difference
pub sub_level : (f : Format) (t s s' : Float) → Real f t → Real f s → Real f s' → T (eq s s') → T (lt t s) → sub f s t ≡ sub f s' t
sub_level f t s s' h p q e l =
    let m : spot f s ≡ spot f s' = eq→spot f s s' (real_good p) (real_good q) e in
    let k : spot f t < spot f s = lt→spot f t s (real_good h) (real_good p) l in
    sub_gap f s t p h k ∙ ap (λ (x : ℕ). round f false (x - spot f t) (2 ^ low f)) m ∙ sym (sub_gap f s' t q h (subst (λ (x : ℕ). spot f t < x) m k))
