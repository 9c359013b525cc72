-- `sheet::read_sheet` meets its contract.
use mathlib.Core.Path.{sym, ◌∙◌}
use native.Mathlib.Omega.{arith}
use Rattle.sheet.specs.Reader.{read_places}
use Rattle.sheet.proofs.Reading.{no_head, no_bodies, over_limits, reads, head_bytes, places-located, limits_at}
use Rattle.sheet.proofs.read_sheet.Goals as goal

pub returns-then-not-head_fits : goal.returns-then-not-head_fits
unfolding read_places
returns-then-not-head_fits c =
    rw (no_head c.args.bytes.now (sym c.head_fits.ensures
    ∙ c.if-not-head_fits.true))

pub places_of-places-requires : goal.places_of-places-requires
places_of-places-requires c = head_bytes c.args.bytes.now (sym c.head_fits.ensures ∙ c.if-not-head_fits.false)

pub bodies_fit-fits-requires : goal.bodies_fit-fits-requires
bodies_fit-fits-requires c =
    rw c.places_of-places.ensures (places-located c.args.bytes.now (sym c.head_fits.ensures
    ∙ c.if-not-head_fits.false))

pub overflow_sub-events : goal.overflow_sub-events
overflow_sub-events c =
    let l = rw (← c.places_of-places.ensures) at (places-located c.args.bytes.now
    (sym c.head_fits.ensures ∙ c.if-not-head_fits.false)) in
    omega (arith, l.events.1)

pub overflow_sub-samples : goal.overflow_sub-samples
overflow_sub-samples c =
    let l = rw (← c.places_of-places.ensures) at (places-located c.args.bytes.now
    (sym c.head_fits.ensures ∙ c.if-not-head_fits.false)) in
    omega (arith, l.samples.1)

pub returns-then-not-fits : goal.returns-then-not-fits
unfolding read_places
returns-then-not-fits c =
    rw (no_bodies c.args.bytes.now (sym c.head_fits.ensures
    ∙ c.if-not-head_fits.false) (sym c.bodies_fit-fits.ensures
    ∙ c.if-not-fits.true))

pub returns-then-not-within : goal.returns-then-not-within
unfolding read_places
returns-then-not-within c =
    let h = sym c.head_fits.ensures ∙ c.if-not-head_fits.false in
    rw (over_limits c.args.bytes.now h (sym c.bodies_fit-fits.ensures ∙ c.if-not-fits.false)
    (limits_at c.args.bytes.now h c.places_of-places.result c.places_of-places.ensures
    ∙ c.if-not-within.true))

pub returns : goal.returns
unfolding read_places
returns c =
    let h = sym c.head_fits.ensures ∙ c.if-not-head_fits.false in
    rw (
      reads c.args.bytes.now h (sym c.bodies_fit-fits.ensures ∙ c.if-not-fits.false)
          (limits_at c.args.bytes.now h c.places_of-places.result c.places_of-places.ensures
          ∙ c.if-not-within.false),
      c.places_of-places.ensures,
    )
