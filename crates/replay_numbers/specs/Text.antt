-- What a word of a line spells. Definitions only.
use Rattle.std.specs.Prelude.{ℕ, ◌+◌, ◌*◌, ◌-◌, Bool, not, ◌&&◌, ◌||◌, cond, List, [], ◌∷◌, length, get_or, ltb, leb, eqb, Option, None, Some}
use Rattle.std.specs.Option.{option_and_then}

-- the value of an ASCII byte as a digit: `0` to `9` and `a` to `f`
unfoldable pub digit_of : ℕ → Option ℕ
digit_of b = cond (leb 48 b && leb b 57) (Some (b - 48)) (cond (leb 97 b && leb b 102) (Some (b - 87)) None)

-- there is a first byte, and no `0` in front of others
unfoldable pub spelled : List ℕ → Bool
spelled word = ltb 0 (length word) && (eqb (length word) 1 || not (eqb (get_or word 0 0) 48))

-- the number of the digits of v and then those of the bytes; none where a byte is no digit, or the number has more than 64 bits
unfoldable pub number_from : ℕ → List ℕ → Option ℕ
unfolding digit_of
number_from v [] = Some v
number_from v (b ∷ bs) = option_and_then (λ d. cond (ltb v 0x1000_0000_0000_0000) (number_from (v * 16 + d) bs) None) (digit_of b)

unfoldable pub number_of : List ℕ → Option ℕ
unfolding spelled number_from
number_of word = cond (spelled word) (number_from 0 word) None
