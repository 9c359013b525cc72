-- The floor of a finite value whose sign is clear: clearing the fraction's bits in its pattern gives it. Assumes nothing.
use mathlib.Core.Path.{◌≡◌, refl, sym, ap, ap₂, ◌∙◌, subst}
use Prim.Native.Nat.{ℕ, zero, suc, ◌+◌, ◌-◌, ◌*◌, ◌/◌, ◌%◌, ◌^◌, ◌≤◌, ◌<◌}
use native.Mathlib.Nat.{le_of_eq, le_of_lt, le_trans, le_antisymm, lt_of_lt_of_le, lt_of_le_of_lt, lt_of_not-le, lt_irrefl}
use native.Mathlib.Nat.{le_of_suc-le-suc, le-add_left, le-add_right, mul_comm, mul_assoc, mul_right_comm, mul-one, zero-lt-suc}
use native.Mathlib.Nat.{lt-suc_self, mul-le-mul_right, mul-le-mul_left, mul-lt-mul_of_pos_right, mul-div_cancel, div-one, div-mul-le_self}
use native.Mathlib.Nat.{div-div-eq-div-mul, div-eq_of_lt, le-div_iff_mul-le, div-lt_iff_lt-mul, sub-add_cancel, suc-mul}
use native.Mathlib.Nat.{add-sub_cancel_left, mul-add-div_right, add-mul, zero-add, add-zero, add_comm, one-mul, zero-mul, mul-mod_left}
use native.Mathlib.Omega.{arith}
use mathlib.Core.Bool.{Bool, true, false, not, cond}
use lib.IntN.{ℤ, pos, negsuc}
use lib.Dec.{T, leb, leb→le, nleb→lt, lit≤}
use lib.Pow.{pow-add, pow_pos, pow_mono, shl_lt, shl-shr, shr_mod, mod-pow-add, ones_lt, ones_split, high_ones, low as digits_low}
use lib.Bits.{bit_and, and_mask, and_high}
use lib.Arith.{digits_div}
use lib.Ieee.{Float, nan, inf, fin, Format, binary32, binary64, prec, emax, low, up, down, size, round, of_int, fits, is_nan, hid, ones, top}
use lib.Ieee.{to_bits, of_bits, nan_bits}
use lib.Ieee.Digits.{size-lt, size-le, size_reaches}
use lib.Ieee.Fits.{two, reach, kept-lt, down_pos, of_int-fits}
use lib.Ieee.Exact.{HasValue, round_exact}
use lib.Ieee.Nearest.{div_same}
use lib.Ieee.Scale.{overflow}
use lib.Ieee.Bits.{of_bits-to_bits, to_bits-lt, nan_bits_is}
use Rattle.binary64.specs.Doubles.{plus_zero, floor_of}
use Rattle.binary64.proofs.Units.{pow_le_back, pow_split, cut_none, quanta, quanta_exact, quanta_lt, quanta_zero, fits_says, Good}
use Rattle.binary64.proofs.Patterns.{enc, to_bits_enc, twice_hid, pow_lt_back}

-- ---- the whole part, by units
whole_part : (f : Format) (m : ℕ) (e : ℤ) → T (fits f (fin false m e)) → m * up e / down e ≡ quanta f m e / 2 ^ low f
whole_part f m e h = div_same (m * up e) (down e) (quanta f m e) (2 ^ low f) (down_pos e) (pow_pos (low f)) (quanta_exact f false m e h)

-- a value that fits is its m, shifted
shifted : (l m : ℕ) (e : ℤ) → down e ≤ 2 ^ l → (i : ℕ) × (m * up e * 2 ^ l / down e ≡ m * 2 ^ i)
shifted l m (pos a) h = (a + l, div-one (m * 2 ^ a * 2 ^ l) ∙ mul_assoc m (2 ^ a) (2 ^ l) ∙ ap (λ (x : ℕ). m * x) (sym (pow-add 2 a l)))
shifted l m (negsuc a) h = (
  l - suc a,
  ap (λ (x : ℕ). x * 2 ^ l / 2 ^ suc a) (mul-one m)
      ∙ ap (λ (x : ℕ). x / 2 ^ suc a) (pow_split m l (suc a) (pow_le_back (suc a) l h))
      ∙ mul-div_cancel (m * 2 ^ (l - suc a)) (pow_pos (suc a)),
)

quanta_shifted : (f : Format) (m : ℕ) (e : ℤ) → T (fits f (fin false m e)) → (i : ℕ) × (q : ℕ) × (q < 2 ^ prec f) × (quanta f m e ≡ q * 2 ^ i)
quanta_shifted f zero e h = (0, 0, pow_pos (prec f), quanta_zero f e)
quanta_shifted f (suc m) e h =
    let w = fits_says f false m e h in
    let z = shifted (low f) (suc m) e w.2 in
    (z.0, suc m, w.1, unfold quanta in z.1)

-- ---- the floor as a value: `of_int` of the whole part, which is exact
unfoldable cut : Format → ℕ → ℤ → Float
cut f m e = of_int f (pos (m * up e / down e))

-- q * 2 ^ i units with the fraction cut
cut_units : (f : Format) (i q P : ℕ) → q < 2 ^ prec f → P < overflow f → P ≡ q * 2 ^ i → HasValue (round f false (P / 2 ^ low f) 1) false (P / 2 ^ low f) 1
cut_units f i q P Q O e = go (leb l i) (leb→le l i) (nleb→lt l i)
  where
    l : ℕ
    l = low f

    N : ℕ
    N = P / 2 ^ l

    cut_lt : N * 2 ^ l < overflow f
    cut_lt = lt_of_le_of_lt (div-mul-le_self P (2 ^ l)) O

    go : (b : Bool) → (T b → l ≤ i) → (T (not b) → i < l) → HasValue (round f false N 1) false N 1
    go true a c =
        let n : N * 2 ^ l ≡ q * 2 ^ i = ap (λ (x : ℕ). x / 2 ^ l * 2 ^ l) e ∙ cut_none q i l (a tt) in
        round_exact f false N 1 q i (zero-lt-suc 0) Q (subst (λ (x : ℕ). x < overflow f) n cut_lt) (n ∙ sym (mul-one (q * 2 ^ i)))
    go false a c =
        round_exact f false N 1 N l (zero-lt-suc 0)
        ((div-lt_iff_lt-mul (pow_pos l)).1 (subst (λ (x : ℕ). x < 2 ^ prec f * 2 ^ l) (sym e)
        (lt_of_lt_of_le (mul-lt-mul_of_pos_right Q (pow_pos i)) (mul-le-mul_left (2 ^ prec f) (pow_mono (le_of_lt (c tt)))))))
        cut_lt (sym (mul-one (N * 2 ^ l)))

cut_fits : (f : Format) (m : ℕ) (e : ℤ) → T (fits f (cut f m e))
unfolding cut
cut_fits f m e = of_int-fits f (pos (m * up e / down e))

cut_value : (f : Format) (m : ℕ) (e : ℤ) → T (fits f (fin false m e)) → HasValue (cut f m e) false (m * up e / down e) 1
cut_value f m e h =
    let z = quanta_shifted f m e h in
    subst (λ (x : Float). HasValue x false (m * up e / down e) 1) (sym rounded)
    (subst (λ (n : ℕ). HasValue (round f false n 1) false n 1) (sym (whole_part f m e h))
    (cut_units f z.0 z.1 (quanta f m e) z.2 (quanta_lt f false m e h) z.3))
  where
    rounded : cut f m e ≡ round f false (m * up e / down e) 1
    rounded = unfold cut of_int in refl

-- a whole value whose sign is clear, by its units
value_bits : (f : Format) (x : Float) (a : ℕ) → HasValue x false a 1 → to_bits f x ≡ enc f (a * 2 ^ low f)
value_bits f nan a v = absurd v
value_bits f (inf s) a v = absurd v
value_bits f (fin s m e) a v =
    to_bits_enc f s m e ∙ ap₂ (λ (b : Bool) (n : ℕ). cond b (top f) 0 + enc f n) v.0 units ∙ zero-add (enc f (a * 2 ^ low f))
  where
    units : quanta f m e ≡ a * 2 ^ low f
    units =
        unfold quanta in ap (λ (x : ℕ). x * 2 ^ low f / down e) (sym (mul-one (m * up e)) ∙ v.1)
        ∙ ap (λ (x : ℕ). x / down e) (mul_right_comm a (down e) (2 ^ low f)) ∙ mul-div_cancel (a * 2 ^ low f) (down_pos e)

cut_bits : (f : Format) (m : ℕ) (e : ℤ) → T (fits f (fin false m e)) → to_bits f (cut f m e) ≡ enc f (quanta f m e / 2 ^ low f * 2 ^ low f)
cut_bits f m e h = value_bits f (cut f m e) (m * up e / down e) (cut_value f m e h) ∙ ap (λ (n : ℕ). enc f (n * 2 ^ low f)) (whole_part f m e h)

-- ---- sizes
size_exact : (a n : ℕ) → 2 ^ a ≤ n → n < 2 ^ suc a → size n ≡ suc a
size_exact a n lo hi = le_antisymm (size-le n (suc a) hi) (pow_lt_back a (size n) (lt_of_le_of_lt lo (size-lt n)))

size_gt : (n j : ℕ) → 2 ^ j ≤ n → j < size n
size_gt n j h = lt_of_not-le (λ (g : size n ≤ j). lt_irrefl n (lt_of_lt_of_le (size-lt n) (le_trans (pow_mono g) h)))

-- n has j digits more than the format keeps: what it keeps is from `hid` on and below twice that
module _ (f : Format) (n j : ℕ) (z : size n ≡ prec f + j) where
  enc_at : enc f n ≡ j * hid f + n / 2 ^ j
  unfolding enc
  enc_at = ap (λ (k : ℕ). k * hid f + n / 2 ^ k) (ap (λ (y : ℕ). y - prec f) z ∙ add-sub_cancel_left (prec f) j)

  kept_ge : hid f ≤ n / 2 ^ j
  kept_ge =
      (le-div_iff_mul-le (pow_pos j)).1 (le_trans (le_of_eq (sym (pow-add 2 (prec f - 1) j)))
      (size_reaches n (prec f - 1 + j) (subst (λ (x : ℕ). prec f - 1 + j < x) (sym z) (less (prec f) j (two f)))))
    where
      less : (p j : ℕ) → 2 ≤ p → p - 1 + j < p + j
      less p j h = omega arith

  kept_below : n / 2 ^ j < 2 ^ prec f
  kept_below = (div-lt_iff_lt-mul (pow_pos j)).1 (subst (λ (x : ℕ). n < x) (ap (λ (x : ℕ). 2 ^ x) z ∙ pow-add 2 (prec f) j) (size-lt n))

-- ---- clearing low digits of the pattern clears low digits of the number
-- a multiple of 2 ^ k stays under clearing
clear_add : (a k b : ℕ) → (a * 2 ^ k + b) / 2 ^ k * 2 ^ k ≡ a * 2 ^ k + b / 2 ^ k * 2 ^ k
clear_add a k b = ap (λ (x : ℕ). x * 2 ^ k) (mul-add-div_right (pow_pos k) a b) ∙ add-mul a (b / 2 ^ k) (2 ^ k)

clear_keeps : (a k b : ℕ) → a * 2 ^ k ≤ b → a * 2 ^ k ≤ b / 2 ^ k * 2 ^ k
clear_keeps a k b h = mul-le-mul_right (2 ^ k) ((le-div_iff_mul-le (pow_pos k)).1 h)

-- of n's digits that the format keeps, k are cleared
enc_clear : (f : Format) (n j k : ℕ) → size n ≡ prec f + j → k ≤ prec f - 1 → enc f n / 2 ^ k * 2 ^ k ≡ enc f (n / 2 ^ (j + k) * 2 ^ (j + k))
enc_clear f n j k z h =
    let p = prec f in
    let g = 2 ^ (p - 1 - k) in
    let q = n / 2 ^ j in
    let q' = q / 2 ^ k * 2 ^ k in
    let n' = n / 2 ^ (j + k) * 2 ^ (j + k) in
    let hid-is : hid f ≡ g * 2 ^ k = ap (λ (x : ℕ). 2 ^ x) (sym (sub-add_cancel h)) ∙ pow-add 2 (p - 1 - k) k in
    let n'-is : n' ≡ q' * 2 ^ j = ap (λ (x : ℕ). n / x * x) (pow-add 2 j k)
    ∙ ap (λ (x : ℕ). x * (2 ^ j * 2 ^ k)) (sym (div-div-eq-div-mul n (2 ^ j) (2 ^ k)))
    ∙ ap (λ (x : ℕ). q / 2 ^ k * x) (mul_comm (2 ^ j) (2 ^ k)) ∙ sym (mul_assoc (q / 2 ^ k) (2 ^ k) (2 ^ j)) in
    let q'-ge : hid f ≤ q' = subst (λ (x : ℕ). x ≤ q') (sym hid-is) (clear_keeps g k q (subst (λ (x : ℕ). x ≤ q) hid-is (kept_ge f n j z))) in
    let q'-lt : q' < 2 ^ p = lt_of_le_of_lt (div-mul-le_self q (2 ^ k)) (kept_below f n j z) in
    let z' : size n' ≡ p + j = size_exact (p - 1 + j) n'
    (le_trans (le_of_eq (pow-add 2 (p - 1) j)) (subst (λ (x : ℕ). hid f * 2 ^ j ≤ x) (sym n'-is) (mul-le-mul_right (2 ^ j) q'-ge)))
    (subst (λ (x : ℕ). n' < 2 ^ x) (one_more p j (two f)) (subst (λ (x : ℕ). x < 2 ^ (p + j)) (sym n'-is) (shl_lt p j q'-lt)))
    ∙ sym (one_more p j (two f)) in
    ap (λ (x : ℕ). x / 2 ^ k * 2 ^ k) (enc_at f n j z ∙ ap (λ (x : ℕ). x + q) (ap (λ (x : ℕ). j * x) hid-is ∙ sym (mul_assoc j g (2 ^ k))))
    ∙ clear_add (j * g) k q
    ∙ ap (λ (x : ℕ). x + q') (mul_assoc j g (2 ^ k) ∙ ap (λ (x : ℕ). j * x) (sym hid-is))
    ∙ sym (enc_at f n' j z' ∙ ap (λ (x : ℕ). j * hid f + x) (ap (λ (x : ℕ). x / 2 ^ j) n'-is ∙ mul-div_cancel q' (pow_pos j)))
  where
    one_more : (p j : ℕ) → 2 ≤ p → p + j ≡ suc (p - 1 + j)
    one_more p j h = omega arith

-- ---- the exponent's field of a pattern with no sign
-- from one on a number is in the normal range, and the field is one more than the digits that it drops
field_is : (f : Format) (n j : ℕ) → size n ≡ prec f + j → enc f n / hid f ≡ suc j
field_is f n j z =
    ap (λ (x : ℕ). x / hid f) (enc_at f n j z ∙ lead) ∙ digits_div (suc j) (under (hid f) (n / 2 ^ j) (2 ^ prec f) (twice_hid f)
    (kept_below f n j z))
  where
    carry : (a h q : ℕ) → h ≤ q → a + q ≡ a + h + (q - h)
    carry a h q l = omega arith

    lead : j * hid f + n / 2 ^ j ≡ suc j * hid f + (n / 2 ^ j - hid f)
    lead = carry (j * hid f) (hid f) (n / 2 ^ j) (kept_ge f n j z) ∙ ap (λ (x : ℕ). x + (n / 2 ^ j - hid f)) (sym (suc-mul j (hid f)))

    under : (h q w : ℕ) → w ≡ 2 * h → q < w → q - h < h
    under h q w e l = omega arith

module _ (f : Format) (n : ℕ) (h : 2 ^ low f ≤ n) where
  dropped : size n ≡ prec f + (size n - prec f)
  dropped = grown (size n) (prec f) (emax f) (reach f) (two f) (size_gt n (low f) h)
    where
      grown : (z p e : ℕ) → p ≤ suc e → 2 ≤ p → e + p - 2 < z → z ≡ p + (z - p)
      grown z p e a b c = omega arith

  field_above : enc f n / hid f ≡ suc (size n - prec f)
  field_above = field_is f n (size n - prec f) dropped

  field_ge : emax f ≤ enc f n / hid f
  field_ge = subst (λ (x : ℕ). emax f ≤ x) (sym field_above) (reached (size n) (prec f) (emax f) (two f) (size_gt n (low f) h))
    where
      reached : (z p e : ℕ) → 2 ≤ p → e + p - 2 < z → e ≤ suc (z - p)
      reached z p e a b = omega arith

-- and below one it is less
field_lt : (f : Format) (n : ℕ) → n < 2 ^ low f → enc f n / hid f < emax f
unfolding enc
field_lt f n h =
    lt_of_lt_of_le ((div-lt_iff_lt-mul (pow_pos (prec f - 1))).1 (subst (λ (x : ℕ). k * hid f + n / 2 ^ k < x) (sym (add-mul k 2 (hid f)))
    (add-lt (k * hid f) (n / 2 ^ k) (2 ^ prec f) (2 * hid f) (twice_hid f) (kept-lt (prec f) n))))
    (few (size n) (prec f) (emax f) (two f) (more f) (size-le n (low f) h))
  where
    k : ℕ
    k = size n - prec f

    more : (f : Format) → 2 ≤ emax f
    more binary32 = lit≤ tt
    more binary64 = lit≤ tt

    add-lt : (a q w v : ℕ) → w ≡ v → q < w → a + q < a + v
    add-lt a q w v e l = omega arith

    few : (z p e : ℕ) → 2 ≤ p → 2 ≤ e → z ≤ e + p - 2 → z - p + 2 ≤ e
    few z p e a b c = omega arith

-- ---- the floor of a value whose field is known; `low f + 1` less the field is how many digits are the fraction's
module _ (f : Format) (m : ℕ) (e : ℤ) (F : T (fits f (fin false m e))) where
  bits_are : to_bits f (fin false m e) ≡ enc f (quanta f m e)
  bits_are = to_bits_enc f false m e ∙ zero-add (enc f (quanta f m e))

  fields_are : to_bits f (fin false m e) / hid f ≡ enc f (quanta f m e) / hid f
  fields_are = ap (λ (x : ℕ). x / hid f) bits_are

  below_one : to_bits f (fin false m e) / hid f < emax f → quanta f m e < 2 ^ low f
  below_one l =
      lt_of_not-le (λ (g : 2 ^ low f ≤ quanta f m e). lt_irrefl (emax f) (lt_of_le_of_lt (field_ge f (quanta f m e) g)
      (subst (λ (x : ℕ). x < emax f) fields_are l)))

  from_one : emax f ≤ to_bits f (fin false m e) / hid f → 2 ^ low f ≤ quanta f m e
  from_one l =
      le_of_suc-le-suc (lt_of_not-le (λ (g : suc (quanta f m e) ≤ 2 ^ low f). lt_irrefl (emax f)
      (lt_of_le_of_lt (subst (λ (x : ℕ). emax f ≤ x) fields_are l) (field_lt f (quanta f m e) g))))

  cut_clear : emax f ≤ to_bits f (fin false m e) / hid f → (k : ℕ) → k + to_bits f (fin false m e) / hid f ≡ suc (low f)
      → of_bits f (to_bits f (fin false m e) / 2 ^ k * 2 ^ k) ≡ cut f m e
  cut_clear l k h =
      let n = quanta f m e in
      let o = from_one l in
      let j = size n - prec f in
      let x : j + k ≡ low f = within j k (low f) (ap (λ (y : ℕ). k + y) (sym (fields_are ∙ field_above f n o)) ∙ h) in
      let y : k ≤ prec f - 1 = point (size n) (prec f) (emax f) k (reach f) (two f) (size_gt n (low f) o) x in
      ap (of_bits f)
      (ap (λ (b : ℕ). b / 2 ^ k * 2 ^ k) bits_are
      ∙ enc_clear f n j k (dropped f n o) y
      ∙ ap (λ (l : ℕ). enc f (n / 2 ^ l * 2 ^ l)) x
      ∙ sym (cut_bits f m e F))
      ∙ of_bits-to_bits f (cut f m e) (cut_fits f m e)
    where
      within : (j k l : ℕ) → k + suc j ≡ suc l → j + k ≡ l
      within j k l h = omega arith

      point : (z p e k : ℕ) → p ≤ suc e → 2 ≤ p → e + p - 2 < z → z - p + k ≡ e + p - 2 → k ≤ p - 1
      point z p e k a b c d = omega arith

  -- from 2 ^ (prec - 1) on every value is whole
  cut_whole : suc (low f) ≤ to_bits f (fin false m e) / hid f → cut f m e ≡ fin false m e
  cut_whole h =
      let n = quanta f m e in
      let z = quanta_shifted f m e F in
      let i = z.0 in
      let s : size n ≤ prec f + i = size-le n (prec f + i) (subst (λ (x : ℕ). x < 2 ^ (prec f + i)) (sym z.3) (shl_lt (prec f) i z.2)) in
      let o : 2 ^ low f ≤ n = from_one (le_trans (near (prec f) (emax f) (two f)) h) in
      let g : low f ≤ i = far (size n) (prec f) i (low f) s (subst (λ (x : ℕ). suc (low f) ≤ x) (fields_are ∙ field_above f n o) h) in
      sym (of_bits-to_bits f (cut f m e) (cut_fits f m e))
      ∙ ap (of_bits f) (cut_bits f m e F ∙ ap (enc f) (ap (λ (x : ℕ). x / 2 ^ low f * 2 ^ low f) z.3 ∙ cut_none z.1 i (low f) g
      ∙ sym z.3) ∙ sym bits_are)
      ∙ of_bits-to_bits f (fin false m e) F
    where
      near : (p e : ℕ) → 2 ≤ p → e ≤ suc (e + p - 2)
      near p e h = omega arith

      far : (s p i l : ℕ) → s ≤ p + i → suc l ≤ suc (s - p) → l ≤ i
      far s p i l a b = omega arith

-- ---- a value whose field, with the sign above it, is below an infinity's is finite and its sign is clear
high : (f : Format) (b : ℕ) → ones f * hid f ≤ b → b / hid f < ones f → ⊥
high f b g l = lt_irrefl (ones f) (lt_of_le_of_lt ((le-div_iff_mul-le (pow_pos (prec f - 1))).1 g) l)

plain : (f : Format) (P : Float → Type 0) → ((m : ℕ) (e : ℤ) → T (fits f (fin false m e)) → P (fin false m e)) → (x : Float) → Good f x
    → to_bits f x / hid f < ones f → P x
unfolding is_nan
plain f P h nan p l = absurd p.1
plain f P h (inf s) p l = absurd (high f (to_bits f (inf s)) (unfold to_bits in le-add_left (ones f * hid f) (cond s (top f) 0)) l)
plain f P h (fin true m e) p l = absurd (high f (to_bits f (fin true m e)) (le_trans (le_trans below
    (le-add_right (top f) (enc f (quanta f m e)))) (le_of_eq (sym (to_bits_enc f true m e)))) l)
  where
    below : ones f * hid f ≤ top f
    below = le_trans (mul-le-mul_right (hid f) (le_of_lt (lt-suc_self (ones f)))) (le_of_eq (mul_comm (suc (ones f)) (hid f)))
plain f P h (fin false m e) p l = h m e p.0

-- ---- the masks
-- all j + k digits set, shifted by k: a mask that clears the k lowest digits
mask_clears : (j k b : ℕ) → b < 2 ^ (j + k) → bit_and b ((2 ^ (j + k) - 1) * 2 ^ k % 2 ^ (j + k)) ≡ b / 2 ^ k * 2 ^ k
mask_clears j k b h = ap (bit_and b) mask ∙ and_high b j k ∙ ap (λ (x : ℕ). x * 2 ^ k) (shr_mod j k h)
  where
    n : ℕ
    n = 2 ^ (j + k) - 1

    ones : n % 2 ^ j ≡ 2 ^ j - 1
    ones = ap (λ (i : ℕ). (2 ^ i - 1) % 2 ^ j) (add_comm j k) ∙ ap (λ (x : ℕ). x % 2 ^ j) (ones_split k j) ∙ digits_low (2 ^ k - 1) j (ones_lt j)

    mask : n * 2 ^ k % 2 ^ (j + k) ≡ 2 ^ (j + k) - 2 ^ k
    mask =
        mod-pow-add (n * 2 ^ k) j k ∙ ap₂ (λ (x y : ℕ). x % 2 ^ j * 2 ^ k + y) (shl-shr n k) (mul-mod_left n (2 ^ k))
        ∙ add-zero (n % 2 ^ j * 2 ^ k) ∙ ap (λ (x : ℕ). x * 2 ^ k) ones ∙ sym (high_ones j k)

-- the highest of k + 1 digits
highest : (b k : ℕ) → bit_and b (2 ^ (1 + k) - 2 ^ k) ≡ b / 2 ^ k % 2 * 2 ^ k
highest b k = and_high b 1 k

highest_clear : (b k : ℕ) → b < 2 ^ (1 + k) → bit_and b (2 ^ (1 + k) - 2 ^ k) ≡ 0 → b < 2 ^ k
highest_clear b k h e =
    lt_of_not-le (λ (g : 2 ^ k ≤ b). lt_irrefl 0 (lt_of_lt_of_le (pow_pos k) (le_trans
    (le_trans (le_of_eq (sym (one-mul (2 ^ k)))) (kept g)) (le_of_eq gone))))
  where
    kept : 2 ^ k ≤ b → 1 * 2 ^ k ≤ b / 2 ^ k * 2 ^ k
    kept g = mul-le-mul_right (2 ^ k) ((le-div_iff_mul-le (pow_pos k)).1 (le_trans (le_of_eq (one-mul (2 ^ k))) g))

    gone : b / 2 ^ k * 2 ^ k ≡ 0
    gone = ap (λ (x : ℕ). x * 2 ^ k) (sym (shr_mod 1 k h)) ∙ sym (highest b k) ∙ e

highest_set : (b k : ℕ) → (bit_and b (2 ^ (1 + k) - 2 ^ k) ≡ 0 → ⊥) → 2 ^ k ≤ b
highest_set b k h = le_of_suc-le-suc (lt_of_not-le (λ (g : suc b ≤ 2 ^ k). h (highest b k ∙ ap (λ (x : ℕ). x % 2 * 2 ^ k) (div-eq_of_lt g) ∙ zero-mul (2 ^ k))))

-- ---- at `f64`, as code has it
-- the bit of the sign
abbrev pub sign64 : Float → ℕ
sign64 x = bit_and (to_bits binary64 x) 0x8000_0000_0000_0000

-- the exponent's field
abbrev pub field64 : Float → ℕ
field64 x = bit_and (to_bits binary64 x / 2 ^ 52) 0x7ff

whole64 : (x : Float) → T (fits binary64 x) → 1075 ≤ to_bits binary64 x / 2 ^ 52 → x ≡ floor_of x
unfolding floor_of cut
whole64 nan F h = refl
whole64 (inf s) F h = refl
whole64 (fin true m e) F h = refl
whole64 (fin false m e) F h = sym (cut_whole binary64 m e F h)

-- a value whose sign is set is handed back
pub floor64_signed : (x : Float) → T (fits binary64 x) → (sign64 x ≡ 0 → ⊥) → x ≡ floor_of x
floor64_signed x F h = whole64 x F ((le-div_iff_mul-le (pow_pos 52)).1 (le_trans (lit≤ tt) (highest_set (to_bits binary64 x) 63 h)))

-- the floor is the whole part, exactly
pub floor_value : (m : ℕ) (e : ℤ) → T (fits binary64 (fin false m e)) → HasValue (floor_of (fin false m e)) false (m * up e / down e) 1
unfolding floor_of cut
floor_value m e F = cut_value binary64 m e F

has_value : (x : Float) (s : Bool) (a c : ℕ) → HasValue x s a c → T (not (is_nan x))
unfolding is_nan
has_value nan s a c v = absurd v
has_value (inf t) s a c v = absurd v
has_value (fin t m e) s a c v = tt

-- where the sign is clear
module _ (x : Float) (p : Good binary64 x) (c : sign64 x ≡ 0) where
  -- the field is the pattern's, with no sign above it
  field_alone : field64 x ≡ to_bits binary64 x / 2 ^ 52
  field_alone = and_mask (to_bits binary64 x / 2 ^ 52) 11 ∙ shr_mod 11 52 (highest_clear (to_bits binary64 x) 63 (to_bits-lt binary64 x p.0) c)

  pub floor64_whole : 1075 ≤ field64 x → x ≡ floor_of x
  floor64_whole h = whole64 x p.0 (subst (λ (n : ℕ). 1075 ≤ n) field_alone h)

  pub floor64_small : field64 x < 1023 → plus_zero ≡ floor_of x
  unfolding floor_of
  floor64_small h =
      let l = subst (λ (n : ℕ). n < 1023) field_alone h in
      plain binary64 (λ (x : Float). to_bits binary64 x / 2 ^ 52 < 1023 → plus_zero ≡ floor_of x)
      (λ m e F l. ap (λ (n : ℕ). of_int binary64 (pos n)) (sym (whole_part binary64 m e F ∙ div-eq_of_lt (below_one binary64 m e F l)))) x p
      (lt_of_lt_of_le l (lit≤ tt)) l

  -- the bits from the fraction's on
  module _ (h : field64 x < 1075) (l : 1023 ≤ field64 x) where
    abbrev kept : ℕ
    kept = bit_and (to_bits binary64 x) (0xffff_ffff_ffff_ffff * 2 ^ (1075 - field64 x) % 2 ^ 64)

    bits_kept : kept ≡ to_bits binary64 x / 2 ^ (1075 - field64 x) * 2 ^ (1075 - field64 x)
    bits_kept =
        let k = 1075 - field64 x in
        subst (λ (w : ℕ). to_bits binary64 x < 2 ^ w → bit_and (to_bits binary64 x) ((2 ^ w - 1) * 2 ^ k % 2 ^ w) ≡ to_bits binary64 x / 2 ^ k * 2 ^ k)
        (sub-add_cancel (few (field64 x) l)) (mask_clears (64 - k) k (to_bits binary64 x)) (to_bits-lt binary64 x p.0)
      where
        few : (e : ℕ) → 1023 ≤ e → 1075 - e ≤ 64
        few e l = omega arith

    below : to_bits binary64 x / 2 ^ 52 < 1075
    below = subst (λ (n : ℕ). n < 1075) field_alone h

    pub floor64_cut : of_bits binary64 kept ≡ floor_of x
    unfolding floor_of cut
    floor64_cut =
        ap (of_bits binary64) (bits_kept ∙ ap (λ (e : ℕ). to_bits binary64 x / 2 ^ (1075 - e) * 2 ^ (1075 - e)) field_alone)
        ∙ plain binary64 (λ (x : Float). to_bits binary64 x / 2 ^ 52 < 1075 → 1023 ≤ to_bits binary64 x / 2 ^ 52
        → of_bits binary64 (to_bits binary64 x / 2 ^ (1075 - to_bits binary64 x / 2 ^ 52) * 2 ^ (1075 - to_bits binary64 x / 2 ^ 52))
        ≡ floor_of x)
        (λ m e F h l. cut_clear binary64 m e F l (1075 - to_bits binary64 (fin false m e) / 2 ^ 52) (sub-add_cancel (le_of_lt h))) x p
        (lt_of_lt_of_le below (lit≤ tt)) below (subst (λ (n : ℕ). 1023 ≤ n) field_alone l)

    pub floor64_real : T (not (nan_bits binary64 kept))
    floor64_real =
        subst (λ (t : Bool). T (not t)) (sym (nan_bits_is binary64 kept ∙ ap is_nan floor64_cut))
        (plain binary64 (λ (x : Float). T (not (is_nan (floor_of x)))) (λ m e F. has_value (floor_of (fin false m e)) false
        (m * up e / down e) 1 (floor_value m e F)) x p (lt_of_lt_of_le below (lit≤ tt)))
