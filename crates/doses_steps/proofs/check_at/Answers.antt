-- `doses_steps::check_at` meets its contract.
use Rattle.doses_steps.proofs.Steps.{check_takes}
use Rattle.doses_steps.proofs.check_at.Goals as goal

pub returns : goal.returns
returns c = check_takes c.args.at.n c.args.at.t c.args.start c.tested.ensures
