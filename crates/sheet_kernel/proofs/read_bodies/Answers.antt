-- `sheet_kernel::read_bodies` meets its contract.
use Rattle.std.proofs.lemmas.Result.{err_from_is_err_and}
use Rattle.sheet_kernel.proofs.Kernels.{kernel_read, kernel-sound, inside, readable, bodies_are, unread_bodies}
use Rattle.sheet_kernel.proofs.read_bodies.Goals as goal

pub returns-in_err-read : goal.returns-in_err-read
returns-in_err-read c =
    let p = err_from_is_err_and c.from_residual.result c.from_residual.ensures.1 in
    rw (p.1, p.2) (unread_bodies _ c.in_err-read.ensures)

pub body-requires : goal.body-requires
body-requires c = (inside (kernel_read c.in_ok-read.ensures)).window

pub body-requires-2 : goal.body-requires-2
body-requires-2 c = (inside (kernel_read c.in_ok-read.ensures)).amounts

pub body-requires-3 : goal.body-requires-3
body-requires-3 c = (inside (kernel_read c.in_ok-read.ensures)).samples

pub body-requires-4 : goal.body-requires-4
body-requires-4 c = (inside (kernel_read c.in_ok-read.ensures)).events

pub invariant_of-bodies : goal.invariant_of-bodies
invariant_of-bodies c = record { readable = readable (kernel_read c.in_ok-read.ensures) c.body.ensures c.body-3.ensures c.body-4.ensures }

pub invariant_of-result : goal.invariant_of-result
invariant_of-result c = record { sound = kernel-sound (kernel_read c.in_ok-read.ensures) }

pub returns : goal.returns
returns c = bodies_are (kernel_read c.in_ok-read.ensures) c.body.ensures c.body-2.ensures c.body-3.ensures c.body-4.ensures
