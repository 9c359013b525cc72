-- `periodic_steady_state` ensures demand 3 of its call.
use borrow.Author.Rules.{rules}
use Rattle.theorem_calls.proofs.Calls.{steady}
use Rattle.theorem_calls.proofs.periodic_steady_state.Goals as goal

pub returns : goal.returns
returns c =
    let g = c.args in
    steady
    (record { reply = c.periodic_steady_state.ensures.result_value; amounts = c.periodic_steady_state.ensures.amounts_after; residuals = c.periodic_steady_state.ensures.residual_after })
    (record { start_fits = search rules; end_fits = search rules; times_fit = c.read_times.ensures })
