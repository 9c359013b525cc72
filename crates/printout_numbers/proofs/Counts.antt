-- How many digits numbers have.
use mathlib.Core.Path.{◌≡◌, refl, ap, ◌∙◌}
use mathlib.Core.Bool.{Bool, true, false, cond}
use Prim.Native.Nat.{ℕ, zero, suc, ◌+◌, ◌-◌, ◌*◌, ◌/◌, ◌^◌, ◌≤◌, ◌<◌}
use native.Mathlib.Nat.{pow-zero, pow-suc}
use native.Mathlib.Numerals.{sub-one}
use native.Mathlib.Omega.{arith}
use lib.Dec.{ltb}
use Rattle.std.proofs.lemmas.Nat.{le-div}
use borrow.Author.Tests.{lt-ltb, le-ltb}
use lib.ListN.{length}
use lib.Ieee.{Float}
use Rattle.printout_numbers.specs.Digits.{places, decimal, hexadecimal, bits_of, double_text}
use Rattle.printout_numbers.proofs.Writing.{digits-length}

pub decimal-length : (w : ℕ) → length (decimal w) ≡ places 19 w
unfolding decimal
decimal-length w = digits-length 10 (places 19 w) w

pub double_length : (x : Float) → length (double_text x) ≡ 16
unfolding double_text hexadecimal
double_length x = digits-length 16 16 (bits_of x)

-- at most one more than the most
pub places-most : (m w : ℕ) → places m w ≤ m + 1
unfolding places
places-most zero w = omega arith
places-most (suc m) w = go m (ltb w 10) (places-most m (w / 10))
  where
    go : (m : ℕ) {k : ℕ} (t : Bool) → k ≤ m + 1 → cond t 1 (suc k) ≤ suc m + 1
    go m true h = omega arith
    go m false h = omega arith

pub places-end : (m w : ℕ) → m ≤ 0 → places m w ≡ 1
unfolding places
places-end zero w h = refl
places-end (suc m) w h = absurd (omega arith)

pub places-last : (m w : ℕ) → w < 10 → places m w ≡ 1
unfolding places
places-last zero w h = refl
places-last (suc m) w h = rw (lt-ltb w 10 h)

pub places_more : (m w : ℕ) → 10 ≤ w → 0 < m → places m w ≡ suc (places (m - 1) (w / 10))
unfolding places
places_more zero w h l = absurd (omega arith)
places_more (suc m) w h l = rw (le-ltb w 10 h, sub-one (suc m))

-- a number has one digit more than the highest power of ten in it
pub places_of_power : (k m w : ℕ) → k ≤ m → 10 ^ k ≤ w → w < 10 * 10 ^ k → places m w ≡ k + 1
places_of_power zero m w l h g = places-last m w (omega (arith, pow-zero 10))
places_of_power (suc k) m w l h g =
    let low : 10 ^ k * 10 ≤ w = rw (pow-suc 10 k) at h in
    let high : w < 10 ^ k * 10 * 10 = omega (arith, pow-suc 10 k) in
    let ten : 0 < 10 ^ k = pow-pos k in
    places_more m w (omega arith) (omega arith)
    ∙ ap suc (places_of_power k (m - 1) (w / 10) (omega arith) (le-div (10 ^ k) w 10 (omega arith) low) (omega arith))
    ∙ omega arith
  where
    pow-pos : (k : ℕ) → 0 < 10 ^ k
    pow-pos zero = omega (arith, pow-zero 10)
    pow-pos (suc k) = omega (arith, pow-suc 10 k, pow-pos k)

pub ruleset lengths = (decimal-length, double_length)
