-- What a sheet's reader answers: a refusal, or a kernel and the bodies that go with it.
use mathlib.Core.Path.{◌≡◌, refl, sym, ap, ◌∙◌}
use mathlib.Core.List.{List}
use Prim.Native.Nat.{ℕ}
use native.Mathlib.Omega.{arith}
use Rattle.refusal.specs.Result.{Result, refused, done, and_then, number}
use Rattle.linear_pk.specs.LinearPk.{sound}
use Rattle.linear_pk.specs.declared.kernel.LinearPk.{LinearPk}
use Rattle.linear_pk.proofs.NewSound.{new-sound}
use Rattle.sheet.specs.Sheet.{words_of, Sheet, sheet_of, read_sheet}
use Rattle.sheet.specs.Reader.{places_of, read_places, Between}
use Rattle.sheet_words.specs.declared.Places.{Places}
use Rattle.sheet.specs.Readable.{Readable}
use Rattle.sheet_kernel.specs.Values.{model_of}
use Rattle.sheet_kernel.specs.Read.{modelled, read_kernel}
use Rattle.sheet_kernel.specs.declared.SheetKernel.{SheetKernel}
use Rattle.sheet_kernel.specs.SheetWords.{SheetWords, words_with, bodied, read_bodies}
use Rattle.sheet_kernel.proofs.Placed as placed

-- a kernel that a model makes passes the kernel's own test
pub model-sound : (m : List ℕ) {k : LinearPk} → model_of m ≡ done k → sound k ≡ done k
unfolding model_of
model-sound m {k} q = new-sound _ _ _ _ k q

no_value : {A : Type 0} {c : ℕ} {a : A} → refused c ≡ done a → ⊥
no_value q = let z : ◌≡◌ {A = ℕ} 0 1 = cc in omega arith

-- ---- what is read: the sheet, its kernel, and the places of its bodies
pub record KernelRead (bs : List ℕ) (r : SheetKernel) : Type 0 where
  pub at : placed.ReadAt bs r.places
  pub model : model_of (sheet_of (words_of bs)).model ≡ done r.kernel

pub kernel_read : {bs : List ℕ} {r : SheetKernel} → done r ≡ read_kernel bs → KernelRead bs r
unfolding read_kernel
kernel_read {bs} {r} = on (read_sheet bs) refl
  where
    made : (m : Result LinearPk) → done r ≡ and_then m (λ (k : LinearPk). done (record { kernel = k; places = places_of (words_of bs) }))
        → (m ≡ done r.kernel) × (r.places ≡ places_of (words_of bs))
    made (refused c) q = absurd (no_value (sym q))
    made (done k) q = let e : r ≡ record { kernel = k; places = places_of (words_of bs) } = cc in (ap (λ (x : SheetKernel). done x.kernel) (sym e), ap (λ (x : SheetKernel). x.places) e)

    on : (x : Result Sheet) → read_sheet bs ≡ x → done r ≡ and_then x (modelled bs) → KernelRead bs r
    on (refused c) e q = absurd (no_value (sym q))
    on (done s) e q =
        let h = placed.sheet_read bs e in
        let same : s ≡ sheet_of (words_of bs) = cc in
        let m = made (model_of s.model) q in
        record { at = record { sheet = h; places = m.1 }; model = ap (λ (x : Sheet). model_of x.model) (sym same) ∙ m.0 }

-- ---- how it comes about
pub unread : (bs : List ℕ) {c : ℕ} → refused c ≡ read_places bs → refused c ≡ read_kernel bs
unfolding read_places read_kernel
unread bs = on (read_sheet bs)
  where
    on : (x : Result Sheet) {c : ℕ} → refused c ≡ and_then x (λ (s : Sheet). done (places_of (words_of bs))) → refused c ≡ and_then x (modelled bs)
    on (refused d) q = ap (λ (x : Result Places). refused (number x)) q
    on (done s) q = absurd (no_value q)

module _ {bs : List ℕ} {p : Places} (r : placed.ReadAt bs p) where
  pub unmade : {c : ℕ} → refused c ≡ model_of (sheet_of (words_of bs)).model → refused c ≡ read_kernel bs
  unfolding read_kernel
  unmade q = ap (λ (x : Result LinearPk). and_then x (λ (k : LinearPk). done (record { kernel = k; places = places_of (words_of bs) }))) q
      ∙ sym (ap (λ (x : Result Sheet). and_then x (modelled bs)) r.sheet)

  pub is_read : {k : LinearPk} → done k ≡ model_of (sheet_of (words_of bs)).model → done (record { kernel = k; places = p }) ≡ read_kernel bs
  unfolding read_kernel
  is_read {k} q = ap (λ (x : Places). done (record { kernel = k; places = x })) r.places
      ∙ ap (λ (x : Result LinearPk). and_then x (λ (k : LinearPk). done (record { kernel = k; places = places_of (words_of bs) }))) q
      ∙ sym (ap (λ (x : Result Sheet). and_then x (modelled bs)) r.sheet)

module _ {bs : List ℕ} {r : SheetKernel} (read : KernelRead bs r) where
  pub kernel-sound : sound r.kernel ≡ done r.kernel
  kernel-sound = model-sound (sheet_of (words_of bs)).model read.model

  pub inside : placed.Inside bs r.places
  inside = placed.inside read.at

  -- the parts that are cut at the places
  module _ {window samples events : List ℕ} (w : Between bs r.places.window r.places.amounts window)
      (s : Between bs r.places.samples r.places.events samples)
      (v : Between bs r.places.events r.places.end events) where
    pub readable : Readable window samples events
    readable = placed.readable read.at w s v

    pub words_are : (words_of window ≡ (sheet_of (words_of bs)).window) × (words_of samples ≡ (sheet_of (words_of bs)).samples)
        × (words_of events ≡ (sheet_of (words_of bs)).events)
    words_are = (placed.window_is read.at w, placed.samples_are read.at s, placed.events_are read.at v)

  pub amounts_are : {amounts : List ℕ} → Between bs r.places.amounts r.places.samples amounts
      → words_of amounts ≡ (sheet_of (words_of bs)).amounts
  amounts_are a = placed.amounts_are read.at a

  -- the kernel and the words of the other bodies
  pub bodies_are : {window amounts samples events : List ℕ} → Between bs r.places.window r.places.amounts window
      → Between bs r.places.amounts r.places.samples amounts → Between bs r.places.samples r.places.events samples
      → Between bs r.places.events r.places.end events
      → done (record { kernel = r.kernel; window = words_of window; amounts = words_of amounts; samples = words_of samples; events = words_of events })
      ≡ read_bodies bs
  unfolding read_bodies
  bodies_are w a s v =
      let e = words_are w s v in
      rw (e.0, amounts_are a, e.1, e.2)
      (sym (ap (λ (x : Result Sheet). and_then x bodied) read.at.sheet
      ∙ ap (λ (m : Result LinearPk). and_then m (λ (k : LinearPk). done (words_with (sheet_of (words_of bs)) k))) read.model))

pub unread_bodies : (bs : List ℕ) {c : ℕ} → refused c ≡ read_kernel bs → refused c ≡ read_bodies bs
unfolding read_kernel read_bodies
unread_bodies bs = on (read_sheet bs)
  where
    model : (s : Sheet) (m : Result LinearPk) {c : ℕ}
        → ◌≡◌ {A = Result SheetKernel} (refused c) (and_then m (λ (k : LinearPk). done (record { kernel = k; places = places_of (words_of bs) })))
        → refused c ≡ and_then m (λ (k : LinearPk). done (words_with s k))
    model s (refused d) q = ap (λ (x : Result SheetKernel). refused (number x)) q
    model s (done k) q = absurd (no_value q)

    on : (x : Result Sheet) {c : ℕ} → refused c ≡ and_then x (modelled bs) → refused c ≡ and_then x bodied
    on (refused d) q = ap (λ (x : Result SheetKernel). refused (number x)) q
    on (done s) q = model s (model_of s.model) q

-- ---- an entry over what is read: a refusal's number gives no, else f is of the kernel and the words of the other bodies
module _ {B : Type 0} (entry : Result Sheet → B) (no : ℕ → B) (f : SheetWords → B) (unread : (c : ℕ) → entry (refused c) ≡ no c)
    (unmade : (s : Sheet) (c : ℕ) → model_of s.model ≡ refused c → entry (done s) ≡ no c)
    (runs : (s : Sheet) (k : LinearPk) → model_of s.model ≡ done k → entry (done s) ≡ f (words_with s k)) where
  pub entry-refuses : (bs : List ℕ) {c : ℕ} → refused c ≡ read_bodies bs → entry (read_sheet bs) ≡ no c
  unfolding read_bodies
  entry-refuses bs = on (read_sheet bs)
    where
      model : (s : Sheet) (m : Result LinearPk) → model_of s.model ≡ m → {c : ℕ}
          → refused c ≡ and_then m (λ (k : LinearPk). done (words_with s k)) → entry (done s) ≡ no c
      model s (refused d) p q = unmade s d p ∙ ap (λ (x : Result SheetWords). no (number x)) (sym q)
      model s (done k) p q = absurd (no_value q)

      on : (x : Result Sheet) {c : ℕ} → refused c ≡ and_then x bodied → entry x ≡ no c
      on (refused d) q = unread d ∙ ap (λ (x : Result SheetWords). no (number x)) (sym q)
      on (done s) q = model s (model_of s.model) refl q

  pub entry_runs : (bs : List ℕ) {b : SheetWords} → done b ≡ read_bodies bs → entry (read_sheet bs) ≡ f b
  unfolding read_bodies
  entry_runs bs {b} = on (read_sheet bs)
    where
      model : (s : Sheet) (m : Result LinearPk) → model_of s.model ≡ m → done b ≡ and_then m (λ (k : LinearPk). done (words_with s k))
          → entry (done s) ≡ f b
      model s (refused d) p q = absurd (no_value (sym q))
      model s (done k) p q = let e : words_with s k ≡ b = cc in runs s k p ∙ ap f e

      on : (x : Result Sheet) → done b ≡ and_then x bodied → entry x ≡ f b
      on (refused d) q = absurd (no_value (sym q))
      on (done s) q = model s (model_of s.model) refl q
