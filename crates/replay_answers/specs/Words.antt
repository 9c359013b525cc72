-- The numbers of a line, and how they are read one behind the other: what is read of the front, and what is left. Definitions only.
use Rattle.std.specs.Prelude.{ℕ, ◌*◌, ◌^◌, ◌-◌, min, cond, List, [], ◌∷◌, length, take, drop, eqb, leb, Float, Option, Some, None, option_and_then, option_map}
use Rattle.std.specs.List.{slice_split}
use Rattle.std.specs.Float.{binary64}
use Rattle.std.specs.Float.Ieee.{of_bits}
use Rattle.protocol.specs.declared.Window.{Window}
use Rattle.replay_numbers.specs.Text.{number_of}

-- the numbers that words spell; none where one spells no number
unfoldable pub numbers_of : List (List ℕ) → Option (List ℕ)
numbers_of [] = Some []
numbers_of (w ∷ ws) = option_and_then (λ n. option_map (◌∷◌ n) (numbers_of ws)) (number_of w)

-- the numbers of a line, with one space between two
abbrev pub line_numbers : List ℕ → Option (List ℕ)
line_numbers line = numbers_of (slice_split (λ b. eqb b 32) line)

-- a list of at most n
unfoldable pub at_most_long : ℕ → Option (List ℕ) → Option (List ℕ)
at_most_long n list = option_and_then (λ ns. cond (leb (length ns) n) (Some ns) None) list

-- the numbers of a line, at most n
abbrev pub kept_numbers : ℕ → List ℕ → Option (List ℕ)
kept_numbers n line = at_most_long n (line_numbers line)

abbrev pub Reader : Type 0 → Type 0
Reader A = List ℕ → Option (A × List ℕ)

-- one reader, and behind it that of what it read
unfoldable pub then : {A B : Type 0} → Option (A × List ℕ) → (A → Reader B) → Option (B × List ℕ)
then r f = option_and_then (λ x. f x.0 x.1) r

unfoldable pub word_of : Reader ℕ
word_of [] = None
word_of (w ∷ ws) = Some (w, ws)

unfoldable pub words_of : ℕ → Reader (List ℕ)
words_of n ws = cond (leb n (length ws)) (Some (take n ws, drop n ws)) None

unfoldable pub double_of : Reader Float
unfolding then
double_of ws = then (word_of ws) (λ w ws. Some (of_bits binary64 w, ws))

-- a number that is at most `most`
unfoldable pub at_most : ℕ → Reader ℕ
unfolding then
at_most most ws = then (word_of ws) (λ w ws. cond (leb w most) (Some (w, ws)) None)

-- a count, as many words, and as many more as there is room for
unfoldable pub list_of : ℕ → Reader (List ℕ)
unfolding then
list_of room ws = then (at_most room ws) (λ n ws. then (words_of n ws) (λ list ws. then (words_of (room - n) ws) (λ spare ws. Some (list, ws))))

-- a count, and `size` words for each; no list is as long as 64 bits can say
unfoldable pub items_of : ℕ → ℕ → Reader (List ℕ)
unfolding then
items_of most size ws = then (at_most most ws) (λ n ws. words_of (min (n * size) (2 ^ 64 - 1)) ws)

unfoldable pub window_of : Reader Window
unfolding then
window_of ws =
    then (double_of ws) (λ start ws. then (double_of ws) (λ end ws. then (double_of ws) (λ rtol ws. then (double_of ws) (λ atol ws.
    then (word_of ws) (λ propagations ws. then (word_of ws) (λ events ws. then (word_of ws) (λ outputs ws. Some (
      record {
        start = start;
        end = end;
        rtol = rtol;
        atol = atol;
        propagations = propagations;
        events = events;
        outputs = outputs;
      },
      ws,
    ))))))))
