-- `sheet::body` meets its contract.
use mathlib.Core.Path.{◌≡◌, ap, ◌∙◌}
use native.Mathlib.Omega.{arith}
use Prim.Native.Nat.{ℕ, ◌-◌, ◌*◌}
use lib.ListN.{take, drop}
use Rattle.sheet.specs.Sheet.{words_of}
use Rattle.sheet.proofs.Bytes.{part-words}
use Rattle.sheet.proofs.body.Goals as goal

pub returns : goal.returns
returns c =
    let g = c.args in
    let e : 8 * g.end - 8 * g.first ≡ 8 * (g.end - g.first) = omega arith in
    record {
      words =
          ap (λ (n : ℕ). words_of (take n (drop (8 * g.first) g.bytes.now))) e
          ∙ part-words g.bytes.now g.first (g.end - g.first) (omega (arith, c.requires.0, c.requires.1));
    }
