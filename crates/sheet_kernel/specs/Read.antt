-- A sheet that is read: the kernel of its model, and the places of its bodies. Definitions only.
use Rattle.std.specs.Prelude.{List, ℕ}
use Rattle.refusal.specs.Result.{Result, done, and_then}
use Rattle.linear_pk.specs.declared.kernel.LinearPk.{LinearPk}
use Rattle.sheet.specs.Sheet.{words_of, Sheet, read_sheet}
use Rattle.sheet.specs.Reader.{places_of}
use Rattle.sheet_kernel.specs.Values.{model_of}
use Rattle.sheet_kernel.specs.declared.SheetKernel.{SheetKernel}

-- the model's 1 and 2, with the places beside its kernel
abbrev pub modelled : List ℕ → Sheet → Result SheetKernel
modelled bs s = and_then (model_of s.model) (λ (k : LinearPk). done (record { kernel = k; places = places_of (words_of bs) }))

-- the reader's 40 and 5 ahead of them
unfoldable pub read_kernel : List ℕ → Result SheetKernel
read_kernel bs = and_then (read_sheet bs) (modelled bs)
