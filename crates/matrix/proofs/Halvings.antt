-- One turn of the count of halvings.
use mathlib.Core.Path.{◌≡◌}
use mathlib.Core.Bool.{true, false}
use Prim.Native.Nat.{ℕ, suc}
use lib.Ieee.{Float, lt, mul, binary64}
use Rattle.binary64.specs.Doubles.{half}
use Rattle.refusal.specs.Result.{done}
use Rattle.matrix.specs.Exponential.{halvings}

pub halvings-stop : (threshold : Float) (d n : ℕ) (x : Float) → lt threshold x ≡ false → halvings threshold (suc d) n x ≡ done n
unfolding halvings
halvings-stop threshold d n x h = rw (halvings, h)

pub halvings-go : (threshold : Float) (d n : ℕ) (x : Float) → lt threshold x ≡ true
    → halvings threshold (suc d) n x ≡ halvings threshold d (suc n) (mul binary64 x half)
unfolding halvings
halvings-go threshold d n x h = rw (halvings, h)
