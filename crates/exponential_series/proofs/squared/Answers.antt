use mathlib.Core.Path.{◌≡◌, refl}
use native.Mathlib.Omega.{arith}
use Prim.Native.Nat.{◌+◌, ◌%◌}
use Rattle.matrix.specs.Arrays.{Holds, lead}
use Rattle.matrix.specs.Exponential.{squarings}
use Rattle.matrix.proofs.Steps.{squared-once, squared-twice}
use Rattle.exponential_series.proofs.squared.Goals as goal
use Rattle.exponential_series.proofs.squared.Goals.{then-count-eq1, else-count-eq1}

pub loop-k-init : goal.loop-k-init
unfolding squarings
loop-k-init c =
    let p = c.args.p.now in
    let held : Holds c.args.m p (squarings c.args.m 0 (lead c.args.m p)) = record { width = c.told-p; part = refl } in (
      omega arith,
      elim c.if-count-eq1.branch [
        | then-count-eq1 w ↦ rw (w.p-is, w.if-count-eq1.true) (squared-once c.args.m c.requires 0 _ c.args.next.now held c.told-next w.square.ensures)
        | else-count-eq1 w ↦ let e : c.args.count % 2 ≡ 0 = omega arith in rw (w.p-is, e) held
      ],
      elim c.if-count-eq1.branch [
        | then-count-eq1 w ↦ rw w.next-is w.square.array_long
        | else-count-eq1 w ↦ rw w.next-is c.told-next
      ],
    )

pub loop-k-preserved : goal.loop-k-preserved
loop-k-preserved c =
    let l = c.loop-k in
    let w = squared-twice _ c.requires _ l.k _ l.next l.invariant.1 l.invariant.2 c.square-in-loop-k.ensures
    c.square-in-loop-k-2.ensures in
    (omega arith, w.0, w.1)

pub returns : goal.returns
returns c =
    let l = c.loop-k in
    let n = c.args.count in
    let e : n % 2 + (l.k + l.k) ≡ n = omega arith in
    rw e at l.invariant.1
