-- What is made of a sheet in time: the refusal of its reader or its model, at +0, or what its kernel gives.
use mathlib.Core.Path.{◌≡◌, refl, sym, ap}
use mathlib.Core.List.{List}
use Prim.Native.Nat.{ℕ}
use Rattle.binary64.specs.Doubles.{plus_zero}
use Rattle.refusal.specs.Result.{Result, refused, done}
use Rattle.linear_pk.specs.declared.kernel.LinearPk.{LinearPk}
use Rattle.sheet.specs.Sheet.{Sheet, read_sheet}
use Rattle.cycle.specs.Closed.{Timed, stopped, then, untimed}
use Rattle.sheet_kernel.specs.Values.{model_of}
use Rattle.sheet_kernel.specs.SheetWords.{SheetWords, read_bodies}
use Rattle.sheet_kernel.proofs.Kernels.{entry-refuses, entry_runs}

-- f is of a kernel and the words of window, samples and events
module _ {A : Type 0} (f : LinearPk → List ℕ → List ℕ → List ℕ → Timed A) where
  abbrev of_words : SheetWords → Timed A
  of_words b = f b.kernel b.window b.samples b.events

  abbrev pub of_sheet : Sheet → Timed A
  of_sheet s = then (untimed (model_of s.model)) (λ (k : LinearPk). f k s.window s.samples s.events)

  abbrev pub of_read : Result Sheet → Timed A
  of_read r = then (untimed r) of_sheet

  pub sheet-refused : (s : Sheet) {c : ℕ} → model_of s.model ≡ refused c → of_sheet s ≡ stopped c plus_zero
  sheet-refused s e = ap (λ (r : Result LinearPk). then (untimed r) (λ (k : LinearPk). f k s.window s.samples s.events)) e

  pub sheet_runs : (s : Sheet) {k : LinearPk} → model_of s.model ≡ done k → of_sheet s ≡ f k s.window s.samples s.events
  sheet_runs s e = ap (λ (r : Result LinearPk). then (untimed r) (λ (k : LinearPk). f k s.window s.samples s.events)) e

  pub bytes_refused : (bs : List ℕ) {c : ℕ} → refused c ≡ read_bodies bs → stopped c plus_zero ≡ of_read (read_sheet bs)
  bytes_refused bs e =
      sym (entry-refuses of_read (λ (c : ℕ). stopped c plus_zero) of_words (λ c. refl) (λ s c e. sheet-refused s e)
      (λ s k e. sheet_runs s e) bs e)

  pub bytes_run : (bs : List ℕ) {b : SheetWords} → done b ≡ read_bodies bs → f b.kernel b.window b.samples b.events ≡ of_read (read_sheet bs)
  bytes_run bs e =
      sym (entry_runs of_read (λ (c : ℕ). stopped c plus_zero) of_words (λ c. refl) (λ s c e. sheet-refused s e)
      (λ s k e. sheet_runs s e) bs e)
