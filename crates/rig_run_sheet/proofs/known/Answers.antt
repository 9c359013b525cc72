-- `rig_run_sheet::known` meets its contract.
use mathlib.Core.Path.{◌≡◌, refl, ◌∙◌}
use mathlib.Core.Bool.{Bool, true, false, cond}
use Prim.Native.Nat.{ℕ, min}
use borrow.Author.Tests.{leb-true, leb-false}
use native.Mathlib.Omega.{arith}
use lib.Dec.{leb}
use Rattle.rig_run_sheet.proofs.known.Goals as goal

least : (n : ℕ) → min n 5 ≡ cond (leb n 5) n 5
least n = on (leb n 5) refl
  where
    on : (b : Bool) → leb n 5 ≡ b → min n 5 ≡ cond b n 5
    on true e = let l = leb-true n 5 e in omega arith
    on false e = let l = leb-false n 5 e in omega arith

pub returns : goal.returns
returns c = c.min.ensures ∙ least c.args.given
