-- What the code's answer stands for.
use Rattle.std.specs.Prelude.{ℕ}
use Rattle.exponential.specs.declared.Propagator.{Propagator}
use Rattle.matrix.specs.Arrays.{lead}
use Rattle.matrix.specs.Exponential.{Exponential}

abbrev pub exponential_of : ℕ → Propagator → Exponential
exponential_of m p = record { halved = p.halvings; matrix = lead m p.matrix }
