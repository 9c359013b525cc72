use Rattle.binary64_remainder.proofs.Values.{nothing_left, all_left, divided, part_left}
use Rattle.binary64_remainder.proofs.of_patterns.Goals as goal

pub returns-then-r-eq0 : goal.returns-then-r-eq0
returns-then-r-eq0 c = nothing_left c.args.a c.args.b c.shift-j.result c.shift-k.result c.shift-j.ensures c.shift-k.ensures c.digits-r.result c.digits-r.ensures c.if-r-eq0.true

pub returns-then-j-k : goal.returns-then-j-k
returns-then-j-k c = all_left c.args.a c.args.b c.shift-j.result c.shift-k.result c.shift-j.ensures c.shift-k.ensures c.digits-r.result c.scaled.result c.if-j-k.true c.digits-r.ensures c.scaled.ensures

pub returns-then-r-eq0-2 : goal.returns-then-r-eq0-2
returns-then-r-eq0-2 c = divided c.args.a c.args.b c.shift-j.result c.shift-k.result c.shift-j.ensures c.shift-k.ensures
    c.digits.result c.digits-2.result c.doubled-r.result c.requires.1 c.if-j-k.false c.digits.ensures c.digits-2.ensures c.doubled-r.ensures c.if-r-eq0-2.true

pub returns : goal.returns
returns c = part_left c.args.a c.args.b c.shift-j.result c.shift-k.result c.shift-j.ensures c.shift-k.ensures
    c.digits.result c.digits-2.result c.doubled-r.result c.requires.1 c.if-j-k.false c.digits.ensures c.digits-2.ensures c.doubled-r.ensures c.scaled-2.result c.scaled-2.ensures
