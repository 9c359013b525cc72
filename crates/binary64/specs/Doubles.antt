-- Small functions on doubles, as IEEE 754-2019 and Rust's methods of f64 have them. Definitions only.
-- Formats and bit patterns: 3.4, binary64. abs: 5.5.1. totalOrder: 5.10. maximumNumber, minimumNumber: 9.6. floor: 5.3.1, roundToIntegralTowardNegative.
-- A double is a `Float` of lib.Ieee that fits `binary64`. There is one NaN, with no sign and no payload. `finite` is that of lib.Ieee.Scale.
use Rattle.std.specs.Prelude.{ℕ, ◌*◌, ◌/◌, Bool, true, false, not, ◌&&◌, ◌||◌, cond, pos, negsuc, leb}
use Rattle.std.specs.Int.Bits.{bit_xor}
use lib.Ieee.{Float, nan, inf, fin, binary64, up, down, is_nan, lt, eq, of_int}
use lib.Ieee.Scale.{finite}

-- ---- constants
abbrev pub plus_zero : Float
plus_zero = fin false 0 (pos 0)

abbrev pub minus_zero : Float
minus_zero = fin true 0 (pos 0)

abbrev pub one : Float
one = fin false 1 (pos 0)

abbrev pub half : Float
half = fin false 1 (negsuc 0)

-- ---- tests
-- finite and not below 0: -0 passes
abbrev pub nonnegative : Float → Bool
nonnegative x = finite x && not (lt x plus_zero)

-- finite and above 0
abbrev pub positive : Float → Bool
positive x = finite x && lt plus_zero x

-- the sign is set
abbrev pub negative : Float → Bool
negative nan = false
negative (inf s) = s
negative (fin s m e) = s

-- ---- |x|: the sign is cleared
unfoldable pub magnitude : Float → Float
magnitude nan = nan
magnitude (inf s) = inf false
magnitude (fin s m e) = fin false m e

-- ---- the total order
-- x is not after y by `total_cmp`, where the NaN is a positive one: after all else, and level with itself. -0 is before +0.
-- Where x alone is a NaN, `lt` and `eq` are false.
unfoldable pub total_le : Float → Float → Bool
unfolding is_nan lt eq
total_le x y = is_nan y || (lt x y || (eq x y && (negative x || not (negative y))))

-- `max` and `min`: a NaN gives way to the other. Of +0 and -0 Rust may hand back either; here `larger` picks +0, and `smaller` -0.
unfoldable pub larger : Float → Float → Float
unfolding is_nan total_le
larger x y = cond (is_nan y) x (cond (is_nan x) y (cond (total_le x y) y x))

unfoldable pub smaller : Float → Float → Float
unfolding is_nan total_le
smaller x y = cond (is_nan y) x (cond (is_nan x) y (cond (total_le x y) x y))

-- What `key`, private to `binary64_order`, makes of a pattern: every bit is turned where the sign is set, and the sign alone where it is not.
unfoldable pub key64 : ℕ → ℕ
key64 b = bit_xor b (cond (leb 0x8000_0000_0000_0000 b) 0xffff_ffff_ffff_ffff 0x8000_0000_0000_0000)

-- ---- the floor of a finite value whose sign is clear: the whole part of m * 2 ^ e, which is a double. Any other argument is handed back.
unfoldable pub floor_of : Float → Float
unfolding of_int
floor_of nan = nan
floor_of (inf s) = inf s
floor_of (fin true m e) = fin true m e
floor_of (fin false m e) = of_int binary64 (pos (m * up e / down e))
