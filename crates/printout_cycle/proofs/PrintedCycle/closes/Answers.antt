-- `printout_cycle::PrintedCycle::closes` meets its contract.
use mathlib.Core.Path.{◌∙◌}
use native.Mathlib.Omega.{arith}
use borrow.Author.Rules.{rules}
use lib.ListN.{take}
use lib.Seq.{length-take-le}
use Rattle.std.proofs.lemmas.Iterator.{YieldsList-from_slice, YieldsList-from_zip}
use Rattle.std.proofs.lemmas.Iterator.Search.{all_from_yields_List}
use Rattle.printout_cycle.proofs.States.{closes_at, all_close}
use Rattle.printout_cycle.proofs.PrintedCycle.closes.Goals as goal

pub returns : goal.returns
returns c =
    let s = c.args.self.now in
    let xs = take s.n s.starts.now in
    let ys = take s.n s.ends.now in
    let zs = take s.n c.args.residuals.now in
    let z = c.zip-2.result in
    all_from_yields_List (closes_at s.tolerance) c.all.new.self _ c.all.result c.all.ensures.ran
    (YieldsList-from_zip {s = z} (YieldsList-from_zip {s = z.a} (YieldsList-from_slice {s = z.a.a} xs (search rules)) (YieldsList-from_slice {s = z.a.b} ys (search rules)))
    (YieldsList-from_slice {s = z.b} zs (search rules)))
    (λ x b q k. search rules)
    ∙ all_close s.tolerance xs ys zs (omega (arith, length-take-le s.n s.starts.now s.held, length-take-le s.n s.ends.now s.ended))
    (omega (arith, length-take-le s.n s.starts.now s.held, length-take-le s.n c.args.residuals.now c.requires))
