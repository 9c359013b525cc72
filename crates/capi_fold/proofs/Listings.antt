-- The words of a list, event by event, and the fold of the events that words hold.
use mathlib.Core.Path.{◌≡◌, refl, ap, sym, ◌∙◌}
use mathlib.Core.Bool.{Bool, true, false}
use mathlib.Core.List.{List, [], ◌∷◌, ◌++◌, append_assoc}
use Prim.Native.Nat.{ℕ, ◌+◌, ◌*◌, ◌≤◌, ◌<◌}
use native.Mathlib.Nat.{zero-add}
use native.Mathlib.Numerals.{add-one}
use native.Mathlib.Omega.{arith}
use borrow.Author.Tests.{le-leb, lt-leb, leb-true, leb-false}
use lib.Dec.{leb}
use lib.ListN.{length, get_or, take, length-append}
use lib.Seq.{take-suc, take_all, length-take-le, sets-eq}
use lib.Ieee.{Float}
use Rattle.limits.specs.Limits.{most_cycle_events, most_events, event_size}
use Rattle.refusal.specs.Result.{Result, refused, done, unless}
use Rattle.linear_pk.specs.declared.kernel.LinearPk.{LinearPk}
use Rattle.events_layout.specs.Layout.{events_fit, events_of}
use Rattle.events_words.specs.Words.{event_words, list_words}
use Rattle.printout.specs.Cells.{Wrote}
use Rattle.printout.proofs.Writing.{wrote_both}
use Rattle.protocol.specs.declared.Event.{Event}
use Rattle.protocol.specs.declared.Event.TheVariants.{Bolus, Infusion, Reset}
use Rattle.protocol.specs.declared.Window.{Window}
use Rattle.fold.specs.Entry.{fold_entry}
use Rattle.capi_fold.specs.Words.{fold_words, count_of, cells_of}

-- ---- the words of a list
six : (e : Event) → length (event_words e) ≡ 6
unfolding event_words
six (Bolus t i a) = refl
six (Infusion t i a d) = refl
six (Reset t i v o c) = refl

pub words-length : (es : List Event) → length (list_words es) ≡ event_size * length es
words-length [] = refl
words-length (e ∷ es) = omega (arith, length-append (event_words e) (list_words es), six e, words-length es)

words_snoc : (es : List Event) (e : Event) → list_words es ++ event_words e ≡ list_words (es ++ (e ∷ []))
words_snoc [] e = sym (append_nil (event_words e))
  where
    append_nil : (xs : List ℕ) → xs ++ [] ≡ xs
    append_nil [] = refl
    append_nil (x ∷ xs) = ap (◌∷◌ x) (append_nil xs)
words_snoc (x ∷ es) e = append_assoc (event_words x) (list_words es) (event_words e) ∙ ap (◌++◌ (event_words x)) (words_snoc es e)

-- the words of the first i events stand in front
module _ (list : List Event) (old : List ℕ) where
  pub record Put (i at : ℕ) (out : List ℕ) : Type 0 where
    pub wrote : Wrote (list_words (take i list)) 0 old at out
    pub place : at ≡ event_size * i

  pub put_more : (i at j : ℕ) (d : Event) {out new : List ℕ} → i < length list → Put i at out
      → Wrote (event_words (get_or list i d)) at out j new → Put (i + 1) j new
  put_more i at j d {out} {new} l h g = record {
    wrote = rw text at (wrote_both h.wrote g);
    place = omega (arith, h.place, g.place, six (get_or list i d));
  }
    where
      text : list_words (take i list) ++ event_words (get_or list i d) ≡ list_words (take (i + 1) list)
      text =
          words_snoc (take i list) (get_or list i d)
          ∙ ap list_words (sym (take-suc list i d l) ∙ ap (λ (k : ℕ). take k list) (sym (add-one i)))

-- ---- the events that words hold
module _ (k : LinearPk) (w : Window) (ws : List ℕ) (ss : List Float) (room : ℕ) where
  over : (es : List Event) → most_cycle_events < length es → fold_entry k w ss es ≡ refused 5
  unfolding fold_entry
  over es h = rw (lt-leb (length es) most_cycle_events h)

  -- those that a list holds fold as all do
  pub read_in : (es : List Event) → fold_entry k w ss (take most_events es) ≡ fold_entry k w ss es
  read_in es = on (leb (length es) most_events) refl
    where
      on : (b : Bool) → leb (length es) most_events ≡ b → fold_entry k w ss (take most_events es) ≡ fold_entry k w ss es
      on true e = ap (fold_entry k w ss) (take_all most_events es (leb-true (length es) most_events e))
      on false e =
          let l = leb-false (length es) most_events e in
          over (take most_events es) (omega (arith, length-take-le most_events es (omega arith))) ∙ sym (over es (omega arith))

  module _ (h : events_fit ws ≡ true) where
    fold-listed : {es : List Event} → done es ≡ fold_entry k w ss (take most_events (events_of ws))
        → fold_words k w ws ss room ≡ unless (leb (event_size * length es) room) 4 es
    unfolding fold_words
    fold-listed e = rw (h, ← read_in (events_of ws), ← e)

    pub fold_done : {es : List Event} → done es ≡ fold_entry k w ss (take most_events (events_of ws)) → event_size * length es ≤ room
        → fold_words k w ws ss room ≡ done es
    fold_done e l = fold-listed e ∙ rw (le-leb _ _ l)

-- ---- the promises
pub done-words : (es : List Event) (old new : List ℕ) {o : Result (List Event)} {r : ℕ} → o ≡ done es
    → event_size * length es ≤ length old → Wrote (list_words es) 0 old r new
    → (done (length es) ≡ count_of o) × (new ≡ cells_of o old)
unfolding cells_of
done-words es old new e l g = rw e (refl, g.cells ∙ rw zero-add at (sets-eq (list_words es) old 0 (omega (arith, words-length es))))
