-- A sheet that is read: the kernel of its model, and the words of its other bodies. Definitions only.
use Rattle.std.specs.Prelude.{List, ℕ}
use Rattle.refusal.specs.Result.{Result, done, and_then}
use Rattle.linear_pk.specs.declared.kernel.LinearPk.{LinearPk}
use Rattle.sheet.specs.Sheet.{words_of, Sheet, read_sheet}
use Rattle.sheet_kernel.specs.Values.{model_of}
use Rattle.sheet_kernel.specs.declared.bodies.ReadSheet.{ReadSheet}

pub record SheetWords : Type 0 where
  pub kernel : LinearPk
  pub window : List ℕ
  pub amounts : List ℕ
  pub samples : List ℕ
  pub events : List ℕ

-- what is read stands for
abbrev pub words_read : ReadSheet → SheetWords
words_read r = record {
  kernel = r.kernel;
  window = words_of r.bodies.window.now;
  amounts = words_of r.bodies.amounts.now;
  samples = words_of r.bodies.samples.now;
  events = words_of r.bodies.events.now;
}

abbrev pub words_with : Sheet → LinearPk → SheetWords
words_with s k = record { kernel = k; window = s.window; amounts = s.amounts; samples = s.samples; events = s.events }

-- the model's 1 and 2, with the words of the other bodies beside its kernel
abbrev pub bodied : Sheet → Result SheetWords
bodied s = and_then (model_of s.model) (λ (k : LinearPk). done (words_with s k))

-- the reader's 40 and 5 ahead of them
unfoldable pub read_bodies : List ℕ → Result SheetWords
read_bodies bs = and_then (read_sheet bs) bodied
