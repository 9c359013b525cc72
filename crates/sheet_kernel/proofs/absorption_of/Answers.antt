-- `sheet_kernel::absorption_of` meets its contract.
use mathlib.Core.Path.{◌≡◌, refl, ◌∙◌}
use mathlib.Core.Bool.{Bool, true, false, cond}
use Rattle.std.specs.Prelude.{Some, None}
use Rattle.std.specs.Bool.{then_some}
use Rattle.sheet_kernel.proofs.absorption_of.Goals as goal

some_if : {A : Type 0} (b : Bool) (x : A) → then_some b x ≡ cond b (Some x) None
some_if true x = refl
some_if false x = refl

pub returns : goal.returns
returns c = rw (← c.word.ensures, ← c.double.ensures) (c.then_some.ensures ∙ some_if _ _)
