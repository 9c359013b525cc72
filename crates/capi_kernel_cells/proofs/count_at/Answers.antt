-- `capi_kernel_cells::count_at` meets its contract.
use Rattle.std.proofs.Common.{refl, rules, ℕ, Bool, true, false, cond, ◌≡◌, sym, ◌∙◌, ap, Some, None}
use Rattle.std.specs.Option.{unwrap_or}
use Rattle.std.proofs.lemmas.Iterator.Search.{find_from_yields_List}
use lib.IntN.{pos}
use lib.Ieee.{binary64, eq, of_int}
use Rattle.capi_kernel_cells.proofs.Back.{YieldsList-from_rev_range, mapped_same}
use Rattle.capi_kernel_cells.specs.Reading.{count_to}
use Rattle.capi_kernel_cells.proofs.count_at.Goals as goal

-- the first of three that passes
first : (b c d : Bool) → ◌≡◌ {A = ℕ} (unwrap_or (cond b (Some 3) (cond c (Some 2) (cond d (Some 1) None))) 0) (cond b 3 (cond c 2 (cond d 1 0)))
first true c d = refl
first false true d = refl
first false false true = refl
first false false false = refl

pub returns : goal.returns
unfolding count_to
returns c =
    let test = λ (k : ℕ). eq c.args.x (of_int binary64 (pos k)) in
    c.unwrap_or.ensures ∙ sym (mapped_same c.find.result)
    ∙ ap (λ o. unwrap_or o 0)
    (find_from_yields_List test _ _ c.find.result c.find.ensures.ran (YieldsList-from_rev_range 1 4 c.rev.ensures.source) (λ k b q e. search rules))
    ∙ first (test 3) (test 2) (test 1)
