-- Lists that are made one by one, and a reset's order.
use mathlib.Core.Path.{◌≡◌, refl, sym, ap, ◌∙◌}
use mathlib.Core.List.{List, [], ◌∷◌, ◌++◌}
use mathlib.Core.Bool.{Bool, true, false}
use Prim.Native.Nat.{ℕ, zero, suc, ◌+◌, ◌≤◌, ◌<◌}
use native.Mathlib.Nat.{not-suc-le-zero, le_of_suc-le-suc, le_antisymm, add-zero, zero-add, suc-add, add-suc, zero-lt-suc, mod-eq_of_lt}
use native.Mathlib.Numerals.{add-one}
use native.Mathlib.Omega.{arith}
use borrow.Author.Tests.{leb-true, leb-false}
use lib.Dec.{T, eqb, leb, leb→le}
use lib.ListN.{length, get_or, take}
use lib.Seq.{take_all}
use lib.Ieee.{binary64, of_bits}
use Rattle.matrix.specs.Matrix.{tabulate, tabulate_from}
use Rattle.matrix.proofs.Filled.{tabulate-length, tabulate-at}
use Rattle.protocol.proofs.ListLaws.{both}
use Rattle.protocol.specs.declared.Event.TheVariants.{Reset}
use Rattle.events_layout.specs.Layout.{word_at, event_count, event_fits, event_of, events_of}
use Rattle.limits.specs.Limits.{most_cycle_events, most_events}

module _ {A : Type 0} (f : ℕ → A) where
  from_take : (d : A) (i m : ℕ) (xs : List A) → m ≤ length xs → ((k : ℕ) → k < m → f (i + k) ≡ get_or xs k d) → tabulate_from i m f ≡ take m xs
  unfolding tabulate_from
  from_take d i zero xs l h = refl
  from_take d i (suc m) [] l h = absurd (not-suc-le-zero l)
  from_take d i (suc m) (x ∷ xs) l h =
      let e : f i ≡ x = rw add-zero at (h 0 (zero-lt-suc m)) in
      let r : tabulate_from (suc i) m f ≡ take m xs = from_take d (suc i) m xs (le_of_suc-le-suc l)
      (λ (k : ℕ) (l : k < m). rw (add-suc, ← suc-add) at (h (suc k) (omega arith))) in
      rw (e, r)

  -- a list's first elements, read one by one
  pub tabulate-take : (d : A) (m : ℕ) (xs : List A) → m ≤ length xs → ((k : ℕ) → k < m → f k ≡ get_or xs k d) → tabulate m f ≡ take m xs
  unfolding tabulate
  tabulate-take d m xs l h = from_take d 0 m xs l (λ (k : ℕ) (l : k < m). rw zero-add (h k l))

  from_more : (i m : ℕ) → tabulate_from i (suc m) f ≡ tabulate_from i m f ++ (f (i + m) ∷ [])
  unfolding tabulate_from
  from_more i zero = rw add-zero
  from_more i (suc m) = ap (◌∷◌ (f i)) (from_more (suc i) m ∙ rw (suc-add, ← add-suc))

  -- one more
  pub tabulate_more : (m : ℕ) → tabulate (m + 1) f ≡ tabulate m f ++ (f m ∷ [])
  unfolding tabulate
  tabulate_more m = rw add-one (rw zero-add at (from_more 0 m))

  -- as many of n as there is room for
  pub first_of : (most m n : ℕ) → m ≤ n → m ≤ most → ((n ≤ most → n ≤ m) × (most ≤ n → most ≤ m)) → tabulate m f ≡ take most (tabulate n f)
  first_of most m n h l e = t ∙ on (leb n most) refl
    where
      xs : List A
      xs = tabulate n f

      size : length xs ≡ n
      size = tabulate-length f n

      t : tabulate m f ≡ take m xs
      t = tabulate-take (f 0) m xs (omega (arith, size)) (λ (k : ℕ) (l : k < m). sym (tabulate-at f (f 0) n k (omega arith)))

      on : (b : Bool) → leb n most ≡ b → take m xs ≡ take most xs
      on true q = let i = e.0 (leb-true n most q) in take_all m xs (omega (arith, size)) ∙ sym (take_all most xs (omega (arith, size)))
      on false q = let i = leb-false n most q in ap (λ (j : ℕ). take j xs) (le_antisymm l (e.1 (omega arith)))

-- a list has room for no more events than it holds
pub all_held : (ws : List ℕ) → event_count ws ≤ most_cycle_events → take most_events (events_of ws) ≡ events_of ws
unfolding events_of
all_held ws h = take_all most_events (events_of ws) (omega (arith, tabulate-length (event_of ws) (event_count ws)))

-- the order of a reset that fits is its word
pub reset_order : (ws : List ℕ) (i : ℕ) → word_at ws i 0 ≡ 2 → T (event_fits ws i)
    → event_of ws i ≡ Reset (of_bits binary64 (word_at ws i 1)) (word_at ws i 2) (of_bits binary64 (word_at ws i 3)) (word_at ws i 4)
    (eqb (word_at ws i 5) 1)
unfolding event_fits event_of
reset_order ws i k h =
    let fits : word_at ws i 4 ≤ 65535 = leb→le _ _ (both (leb (word_at ws i 4) 65535) (leb (word_at ws i 5) 1) (rw k at h)).0 in
    let below : word_at ws i 4 < 65536 = omega arith in
    rw (k, mod-eq_of_lt below)
