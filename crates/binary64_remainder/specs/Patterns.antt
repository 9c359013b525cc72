-- What the pattern of a finite double without its sign counts, in units of the smallest double, 2 ^ -1074. Definitions only.
use Rattle.std.specs.Prelude.{ℕ, ◌+◌, ◌-◌, ◌*◌, ◌/◌, ◌%◌, ◌^◌, cond, ltb}

-- the digits, with the leading one where the exponent's field is not 0
abbrev pub digits_of : ℕ → ℕ
digits_of b = cond (ltb b 0x10_0000_0000_0000) b (0x10_0000_0000_0000 + b % 0x10_0000_0000_0000)

-- how often the digits are doubled
abbrev pub shift_of : ℕ → ℕ
shift_of b = b / 0x10_0000_0000_0000 - 1

abbrev pub units_of : ℕ → ℕ
units_of b = digits_of b * 2 ^ shift_of b
