-- `doses_steps::apply_one` meets its contract.
use Rattle.doses_steps.proofs.Steps.{apply_takes}
use Rattle.doses_steps.proofs.apply_one.Goals as goal

pub returns : goal.returns
returns c =
    apply_takes c.args.at.n c.args.at.t c.args.start c.args.event.now c.dose-next.result
    c.dose-next.ensures c.tested.ensures
