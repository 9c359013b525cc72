-- The rates that a line keeps. Definitions only.
use Rattle.std.specs.Prelude.{◌/◌, ◌%◌, ◌&&◌, ltb, List, map, filter, take, Float}
use Rattle.std.specs.List.{enumerate_from}
use Rattle.linear_pk.specs.declared.kernel.LinearPk.{LinearPk}
use Rattle.linear_pk.specs.LinearPk.{state_count}

-- of the n by n rates, row by row, the first 11; a row of the matrix has 4 places
unfoldable pub rates_of : LinearPk → List Float
rates_of k = take 11 (map (λ p. p.1) (filter (λ p. ltb (p.0 / 4) (state_count k) && ltb (p.0 % 4) (state_count k)) (enumerate_from 0 k.matrix)))
