-- The bodies of a sheet that is read, between their places.
use mathlib.Core.Path.{◌≡◌, refl, sym, ap, ◌∙◌, subst}
use mathlib.Core.Bool.{true, ◌&&◌}
use mathlib.Core.List.{List}
use Prim.Native.Nat.{ℕ, ◌*◌, ◌≤◌}
use native.Mathlib.Omega.{arith}
use borrow.Author.Tests.{leb-true, eqb-true}
use lib.Dec.{leb}
use lib.ListN.{length}
use Rattle.limits.specs.Limits.{most_cycle_events, most_samples}
use Rattle.refusal.specs.Result.{Result, refused, done, and_then, number}
use Rattle.linear_pk.proofs.Counted.{and_first, and_second}
use Rattle.events_layout.specs.Layout.{event_count, events_fit}
use Rattle.sheet.specs.Sheet.{words_of, Sheet, body, model_fits, window_fits, sheet_of, read_sheet}
use Rattle.sheet.specs.Reader.{places_of, read_places, Located, Between}
use Rattle.sheet.specs.Readable.{Readable}
use Rattle.sheet.proofs.Places.{words-length, body_at}
use Rattle.sheet.proofs.Reading.{Passes, read_passes, reads, places-located}
use Rattle.sheet_words.specs.declared.Places.{Places}

-- each body lies in the file
pub record Inside (bs : List ℕ) (p : Places) : Type 0 where
  pub model : (p.model ≤ p.window) × (8 * p.window ≤ length bs)
  pub window : (p.window ≤ p.amounts) × (8 * p.amounts ≤ length bs)
  pub amounts : (p.amounts ≤ p.samples) × (8 * p.samples ≤ length bs)
  pub samples : (p.samples ≤ p.events) × (8 * p.events ≤ length bs)
  pub events : (p.events ≤ p.end) × (8 * p.end ≤ length bs)

-- a sheet whose bodies lie at these places
pub record ReadAt (bs : List ℕ) (p : Places) : Type 0 where
  pub sheet : read_sheet bs ≡ done (sheet_of (words_of bs))
  pub places : p ≡ places_of (words_of bs)

-- what is read is the sheet of the words
pub sheet_read : (bs : List ℕ) {s : Sheet} → read_sheet bs ≡ done s → read_sheet bs ≡ done (sheet_of (words_of bs))
sheet_read bs e = let p = read_passes bs (ap number e) in reads bs p.head p.bodies p.limits

pub read_at : {bs : List ℕ} {p : Places} → done p ≡ read_places bs → ReadAt bs p
unfolding read_places
read_at {bs} {p} = on (read_sheet bs) refl
  where
    on : (r : Result Sheet) → read_sheet bs ≡ r → done p ≡ and_then r (λ (s : Sheet). done (places_of (words_of bs))) → ReadAt bs p
    on (refused c) e q = absurd (no q)
      where
        no : {c : ℕ} → done p ≡ refused c → ⊥
        no q = cc
    on (done s) e q = record { sheet = sheet_read bs e; places = cc }

module _ {bs : List ℕ} {p : Places} (r : ReadAt bs p) where
  abbrev ws : List ℕ
  ws = words_of bs

  passed : Passes bs
  passed = read_passes bs (ap number r.sheet)

  located : Located ws p
  located = subst (Located ws) (sym r.places) (places-located bs passed.head)

  pub inside : Inside bs p
  inside =
      let l = located in
      let w = words-length bs in
      record {
        model = (omega (arith, l.model.1), omega (arith, l.window.1, l.amounts.1, l.samples.1, l.events.1, l.whole, w));
        window = (omega (arith, l.window.1), omega (arith, l.amounts.1, l.samples.1, l.events.1, l.whole, w));
        amounts = (omega (arith, l.amounts.1), omega (arith, l.samples.1, l.events.1, l.whole, w));
        samples = (omega (arith, l.samples.1), omega (arith, l.events.1, l.whole, w));
        events = (omega (arith, l.events.1), omega (arith, l.whole, w));
      }

  -- ---- the parts that are cut
  pub model_is : {part : List ℕ} → Between bs p.model p.window part → words_of part ≡ body ws 0
  model_is t = t.words ∙ body_at ws p.model p.window 0 located.model.0 located.model.1

  pub window_is : {part : List ℕ} → Between bs p.window p.amounts part → words_of part ≡ body ws 1
  window_is t = t.words ∙ body_at ws p.window p.amounts 1 located.window.0 located.window.1

  pub amounts_are : {part : List ℕ} → Between bs p.amounts p.samples part → words_of part ≡ body ws 2
  amounts_are t = t.words ∙ body_at ws p.amounts p.samples 2 located.amounts.0 located.amounts.1

  pub samples_are : {part : List ℕ} → Between bs p.samples p.events part → words_of part ≡ body ws 3
  samples_are t = t.words ∙ body_at ws p.samples p.events 3 located.samples.0 located.samples.1

  pub events_are : {part : List ℕ} → Between bs p.events p.end part → words_of part ≡ body ws 4
  events_are t = t.words ∙ body_at ws p.events p.end 4 located.events.0 located.events.1

  -- ---- what their readers ask
  pub model_fits_lem : {part : List ℕ} → Between bs p.model p.window part → model_fits (words_of part) ≡ true
  model_fits_lem m = ap model_fits (model_is m)
      ∙ and_first (model_fits (body ws 0)) (window_fits (body ws 1) && events_fit (body ws 4)) passed.bodies

  pub readable : {window samples events : List ℕ} → Between bs p.window p.amounts window → Between bs p.samples p.events samples
      → Between bs p.events p.end events → Readable window samples events
  readable {window} {samples} {events} w s v =
      let l = passed.limits in
      let nine = eqb-true (length (body ws 1)) 9 (and_first (window_fits (body ws 1)) (events_fit (body ws 4))
      (and_second (model_fits (body ws 0)) (window_fits (body ws 1) && events_fit (body ws 4)) passed.bodies)) in
      let few = leb-true (event_count (body ws 4)) most_cycle_events (and_first (leb (event_count (body ws 4)) most_cycle_events)
      (leb (length (body ws 3)) most_samples) l) in
      let some = leb-true (length (body ws 3)) most_samples (and_second (leb (event_count (body ws 4)) most_cycle_events)
      (leb (length (body ws 3)) most_samples) l) in
      record {
        window = omega (arith, nine, sym (words-length window) ∙ ap length (window_is w));
        samples = omega (arith, some, sym (words-length samples) ∙ ap length (samples_are s));
        events = omega (arith, few, sym (words-length events) ∙ ap length (events_are v));
      }
