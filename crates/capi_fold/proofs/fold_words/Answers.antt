-- `capi_fold::fold_words` meets its contract.
use mathlib.Core.Path.{sym, ◌∙◌}
use lib.ListN.{length}
use Rattle.capi_fold.proofs.Listings.{fold_done, done-words}
use Rattle.capi_fold.proofs.fold_words.Goals as goal

pub returns : goal.returns
returns c =
    let g = c.args in
    let e = c.as_slice.ensures.value ∙ c.events_of-given.ensures in
    let n = c.len-count.ensures.value in
    let w = done-words c.normalize_periodic_cycle.new.list.items g.folded.now c.put_list.new.out (fold_done g.kernel g.window g.events.now g.samples.now (length g.folded.now)
    (sym c.events_fit.ensures ∙ c.if-not-events_fit.false) (rw e at c.in_ok-normalize_periodic_cycle.ensures.folded) (rw n at c.if-count-folded.false))
    (rw n at c.if-count-folded.false) (rw c.as_slice-2.ensures.value at c.put_list.ensures) in
    record { count_value = rw n w.0; folded_after = w.1 }
