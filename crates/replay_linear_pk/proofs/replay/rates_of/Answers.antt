-- `replay_linear_pk::replay::rates_of` meets its contract.
use Rattle.std.proofs.Common.{ℕ, List, ◌<◌, lit<, length, ◌/◌, ◌%◌, ◌&&◌, ltb, ◌∙◌, sym, take, rules, tests, arith, length-take}
use Rattle.std.proofs.lemmas.List.{map-id}
use Rattle.std.proofs.lemmas.Iterator.{YieldsList-from_slice, YieldsList-from_take, YieldsList-from_map}
use Rattle.std.proofs.lemmas.Iterator.Consumers.{YieldsList-at, YieldsList-from_enumerate, YieldsList-from_filter, YieldsList-turn, YieldsList-end}
use Rattle.replay_linear_pk.specs.Rates.{rates_of}
use Rattle.replay_linear_pk.proofs.replay.rates_of.Goals as goal

below_take : {A : Type 0} (n k : ℕ) (xs : List A) → k < length (take n xs) → k < n
below_take n k xs h = omega (arith, h, length-take n xs)

pub push-requires : goal.push-requires
push-requires c =
    let n = c.state_count-n.result in
    let t = YieldsList-turn
    (YieldsList-at c.into_iter-rate-iterator.ensures.into_iter_gives (YieldsList-from_take 11
    (YieldsList-at c.take-rates.ensures.source (YieldsList-from_map _ (λ p. p.1)
    (YieldsList-at c.map.ensures.source (YieldsList-from_filter _ (λ p. ltb (p.0 / 4) n && ltb (p.0 % 4) n)
    (YieldsList-at c.filter.ensures.source (YieldsList-from_enumerate
    (YieldsList-at c.enumerate.ensures.source (YieldsList-from_slice c.args.kernel.matrix cc)) c.enumerate.ensures.count))
    c.filter.ensures.closure (λ x b q k. search (rules, tests)))) c.map.ensures.closure (λ x r q k. search rules))) c.take-rates.ensures.count))
    c.loop-rate.yielded _ c.loop-rate.yielded_by _ _ c.in-Some.rate c.in-Some.is c.next.ensures.steps in
    let fits : length c.loop-rate.cells.items < 11 = rw c.loop-rate.invariant (below_take 11 _ _ t.0) in
    (lit< tt, fits)

pub returns-clause-rates : goal.returns-clause-rates
unfolding rates_of
returns-clause-rates c =
    let n = c.state_count-n.result in
    let t = YieldsList-end
    (YieldsList-at c.into_iter-rate-iterator.ensures.into_iter_gives (YieldsList-from_take 11
    (YieldsList-at c.take-rates.ensures.source (YieldsList-from_map _ (λ p. p.1)
    (YieldsList-at c.map.ensures.source (YieldsList-from_filter _ (λ p. ltb (p.0 / 4) n && ltb (p.0 % 4) n)
    (YieldsList-at c.filter.ensures.source (YieldsList-from_enumerate
    (YieldsList-at c.enumerate.ensures.source (YieldsList-from_slice c.args.kernel.matrix cc)) c.enumerate.ensures.count))
    c.filter.ensures.closure (λ x b q k. search (rules, tests)))) c.map.ensures.closure (λ x r q k. search rules))) c.take-rates.ensures.count))
    c.loop-rate.yielded _ c.loop-rate.yielded_by _ _ c.in-None.is c.next.ensures.steps in
    rw (← c.state_count-n.ensures.0) (c.loop-rate.invariant ∙ sym (map-id c.loop-rate.yielded) ∙ t.0)
