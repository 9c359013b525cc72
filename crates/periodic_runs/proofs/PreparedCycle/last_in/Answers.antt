-- `periodic_runs::PreparedCycle::last_in` meets its contract.
use Rattle.std.proofs.lemmas.Result.{err_from_is_err_and}
use Rattle.periodic_runs.proofs.Inner.{inner}
use Rattle.periodic_runs.proofs.PreparedCycle.last_in.Goals as goal

pub returns-in_err-end : goal.returns-in_err-end
returns-in_err-end g c =
    let a = c.args in
    let s = a.self.now in
    let r = c.in_err-end.ensures in
    let e = err_from_is_err_and c.from_residual.result c.from_residual.ensures.1 in
    rw (e.1, e.2) (inner s.kernel s.n s.window s.events.now a.initial s.runs c.divided.ensures r.prepared r.ran)

pub returns : goal.returns
returns g c =
    let a = c.args in
    let s = a.self.now in
    let r = c.in_ok-end.ensures in
    inner s.kernel s.n s.window s.events.now a.initial s.runs c.divided.ensures r.prepared r.ran
