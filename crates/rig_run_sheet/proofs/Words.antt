-- Words give doubles, and as many rows as are reckoned of them.
use mathlib.Core.Path.{◌≡◌, ap₂}
use mathlib.Core.Bool.{Bool, true, false, cond, ◌&&◌}
use mathlib.Core.List.{List}
use Prim.Native.Nat.{ℕ, zero, suc, ◌+◌, ◌*◌, ◌/◌, ◌%◌}
use lib.Dec.{T, eqb}
use lib.ListN.{length}
use lib.Ieee.{binary64, fits, of_bits}
use lib.Ieee.Bits.{of_bits-fits}
use Rattle.limits.specs.Limits.{event_size}
use Rattle.binary64.specs.Lists.{all}
use Rattle.matrix.specs.Matrix.{tabulate_from, tabulate}
use Rattle.matrix.proofs.Filled.{tabulate-length}
use Rattle.protocol.specs.declared.Event.{Event}
use Rattle.protocol.specs.declared.Event.TheVariants.{Bolus, Infusion, Reset}
use Rattle.protocol.specs.Events.{time}
use Rattle.events_layout.specs.Fields.{event_from}
use Rattle.events_layout.specs.Layout.{word_at, event_of, event_count, events_of}
use Rattle.sheet_kernel.specs.Values.{double_of, sheet_window}
use Rattle.rig_run_sheet.specs.SheetRun.{reckoned_of}

-- ---- words give doubles
pub all_made : {A : Type 0} (p : A → Bool) (f : ℕ → A) → ((i : ℕ) → T (p (f i))) → (i m : ℕ) → T (all p (tabulate_from i m f))
unfolding tabulate_from
all_made p f h i zero = tt
all_made p f h i (suc m) = on (p (f i)) (all p (tabulate_from (suc i) m f)) (h i) (all_made p f h (suc i) m)
  where
    on : (b c : Bool) → T b → T c → T (b && c)
    on true c t u = u
    on false c t u = t

time_fits_lem : (kind at target amount last stops : ℕ) → T (fits binary64 (time (event_from kind at target amount last stops)))
unfolding event_from
time_fits_lem kind at target amount last stops = on (eqb kind 0) (eqb kind 1)
  where
    on : (a b : Bool) → T (fits binary64 (time (cond a (Bolus (of_bits binary64 at) target (of_bits binary64 amount))
        (cond b (Infusion (of_bits binary64 at) target (of_bits binary64 amount) (of_bits binary64 last))
        (Reset (of_bits binary64 at) target (of_bits binary64 amount) (last % 65536) (eqb stops 1))))))
    on true b = of_bits-fits binary64 at
    on false true = of_bits-fits binary64 at
    on false false = of_bits-fits binary64 at

pub times-made : (es : List ℕ) → T (all (λ (e : Event). fits binary64 (time e)) (events_of es))
unfolding events_of event_of tabulate
times-made es =
    all_made (λ (e : Event). fits binary64 (time e)) (event_of es) (λ i. time_fits_lem (word_at es i 0) (word_at es i 1) (word_at es i 2)
    (word_at es i 3) (word_at es i 4) (word_at es i 5)) 0 (event_count es)

pub start-made : (w : List ℕ) → T (fits binary64 (sheet_window w).start)
unfolding sheet_window
start-made w = of_bits-fits binary64 _

pub end-made : (w : List ℕ) → T (fits binary64 (sheet_window w).end)
unfolding sheet_window
end-made w = of_bits-fits binary64 _

-- ---- the reckoned rows, by words
pub reckoned-words : (ss es : List ℕ) → reckoned_of ss es ≡ 4 * (length es / event_size) + length ss + 2
unfolding events_of
reckoned-words ss es =
    ap₂ (λ (i j : ℕ). 4 * i + j + 2) (tabulate-length (event_of es) (event_count es)) (tabulate-length (λ (k : ℕ). double_of ss (0 + k))
    (length ss))
