-- A run of events that are laid out as words is the library's run of the list that they are read into.
use mathlib.Core.Path.{◌≡◌, ap, ◌∙◌}
use mathlib.Core.Bool.{Bool, true, false, ◌&&◌}
use mathlib.Core.List.{List, [], ◌∷◌}
use Prim.Native.Nat.{ℕ, ◌≤◌, ◌<◌}
use borrow.Author.Tests.{lt-leb}
use lib.Dec.{leb}
use lib.ListN.{length, take}
use lib.Seq.{take_all}
use lib.Ieee.{Float}
use native.Mathlib.Omega.{arith}
use Rattle.limits.specs.Limits.{most_events, most_samples}
use Rattle.binary64.specs.Lists.{amounts_pass}
use Rattle.refusal.specs.Result.{refused}
use Rattle.matrix.proofs.Filled.{tabulate-length}
use Rattle.linear_pk.specs.LinearPk.{sound, state_count}
use Rattle.linear_pk.specs.declared.kernel.LinearPk.{LinearPk}
use Rattle.events_layout.specs.Layout.{event_count, events_fit, event_of, events_of}
use Rattle.protocol.specs.declared.Event.{Event}
use Rattle.protocol.specs.declared.Window.{Window}
use Rattle.protocol.specs.First.{unless, first_of}
use Rattle.protocol.specs.Prepare.{reckoned, prepare}
use Rattle.protocol.specs.Entry.{Room, room_for, first_refusal, simulate}
use Rattle.protocol.proofs.EntryLaws.{simulate-refuses}
use Rattle.preparation.specs.Preparation.{own_number}
use Rattle.simulation.specs.KernelRun.{propagator_of}
use Rattle.simulation.specs.Entries.{simulate_entry}
use Rattle.capi_run.specs.Run.{simulate_words}

pub unfit : (k : LinearPk) (a : List Float) (w : Window) (ws : List ℕ) (ss : List Float) (cells : Room) → events_fit ws ≡ false
    → simulate_words k a w ws ss cells ≡ refused 40
unfolding simulate_words
unfit k a w ws ss cells h = rw h

-- up to the most of a run, all events are listed
pub listed : (ws : List ℕ) {list : List Event} → event_count ws ≤ most_events → list ≡ take most_events (events_of ws) → list ≡ events_of ws
unfolding events_of
listed ws l e = e ∙ take_all most_events (events_of ws) (omega (arith, tabulate-length (event_of ws) (event_count ws)))

module _ (k : LinearPk) (a : List Float) (w : Window) (ws : List ℕ) (ss : List Float) (cells : Room) (h : events_fit ws ≡ true) where
  fits_run : simulate_words k a w ws ss cells ≡ simulate (propagator_of k) (own_number (sound k)) (state_count k) w ss (events_of ws) a cells
  unfolding simulate_words
  fits_run = rw h

  pub words-entry : simulate_words k a w ws ss cells ≡ simulate_entry k a w (events_of ws) ss cells
  unfolding simulate_entry
  words-entry = fits_run

  -- more are 5
  pub many : most_events < event_count ws → simulate_words k a w ws ss cells ≡ refused 5
  unfolding first_refusal events_of
  many l =
      fits_run
      ∙ simulate-refuses (propagator_of k) (own_number (sound k)) (state_count k) w ss (events_of ws) a cells 5
      (ap (λ (b : Bool). first_of (unless (b && leb (length ss) most_samples) 5 ∷ own_number (sound k)
      ∷ unless (amounts_pass (state_count k) a) 3 ∷ prepare (state_count k) w ss (events_of ws)
      ∷ unless (room_for (reckoned ss (events_of ws)) (state_count k) cells) 4 ∷ []))
      (ap (λ (n : ℕ). leb n most_events) (tabulate-length (event_of ws) (event_count ws)) ∙ lt-leb (event_count ws) most_events l))
