-- The places of the bodies: what the pairs say, step by step, is what the layout asks.
use mathlib.Core.Path.{◌≡◌, refl, sym, ap, ◌∙◌, subst}
use mathlib.Core.Bool.{Bool, true, false, cond, ◌&&◌}
use mathlib.Core.List.{List, [], ◌∷◌}
use Prim.Native.Nat.{ℕ, ◌+◌, ◌-◌, ◌≤◌}
use native.Mathlib.Omega.{arith}
use borrow.Author.Tests.{ltb-true, ltb-false, leb-true, ne_eqb, le-leb, lt-leb}
use lib.Dec.{T, eqb, leb, ltb}
use lib.ListN.{length}
use Rattle.sheet_words.specs.Head.{first_word, word_count, follow}
use Rattle.sheet_words.specs.Places.{next_of}

-- the place behind the bodies ks
abbrev pub ends : List ℕ → ℕ → List ℕ → ℕ
ends ws at [] = at
ends ws at (k ∷ ks) = ends ws (next_of ws at k) ks

-- past the file it stays
past : (ws ks : List ℕ) → ends ws (length ws + 1) ks ≡ length ws + 1
unfolding next_of
past ws [] = refl
past ws (k ∷ ks) = ap (λ (at : ℕ). ends ws at ks) (stays k) ∙ past ws ks
  where
    stays : (k : ℕ) → next_of ws (length ws + 1) k ≡ length ws + 1
    stays k = rw (lt-leb (length ws + 1 + word_count ws k) (length ws) (omega arith)) (on (eqb (first_word ws k) (length ws + 1)))
      where
        on : (b : Bool) → cond (b && false) (length ws + 1 + word_count ws k) (length ws + 1) ≡ length ws + 1
        on true = refl
        on false = refl

pub and_le : (a : Bool) (m n : ℕ) → a && leb m n ≡ true → m ≤ n
and_le a m n h = leb-true m n (on a (leb m n) h)
  where
    on : (a b : Bool) → a && b ≡ true → b ≡ true
    on true b e = e
    on false b e = absurd (subst T (sym e) tt)

-- the code's test of a count
pub room-left : (at count total : ℕ) → at ≤ total + 1 → ltb count (total + 1 - at) ≡ leb (at + count) total
room-left at count total h = on (ltb count (total + 1 - at)) refl
  where
    on : (b : Bool) → ltb count (total + 1 - at) ≡ b → b ≡ leb (at + count) total
    on true e = let l = ltb-true count (total + 1 - at) e in sym (le-leb (at + count) total (omega arith))
    on false e = let l = ltb-false count (total + 1 - at) e in sym (lt-leb (at + count) total (omega arith))

-- ---- the layout's test, by the place behind the last body
pub ends-follow : (ws : List ℕ) (at : ℕ) (ks : List ℕ) → follow ws at ks ≡ eqb (ends ws at ks) (length ws)
unfolding next_of
ends-follow ws at [] = refl
ends-follow ws at (k ∷ ks) = on (eqb (first_word ws k) at) (leb (at + word_count ws k) (length ws)) (ends-follow ws (at + word_count ws k) ks)
  where
    never : false ≡ eqb (ends ws (length ws + 1) ks) (length ws)
    never = sym (ap (λ (j : ℕ). eqb j (length ws)) (past ws ks) ∙ ne_eqb (length ws + 1) (length ws) (λ e. omega arith))

    on : (a b : Bool) → follow ws (at + word_count ws k) ks ≡ eqb (ends ws (at + word_count ws k) ks) (length ws)
        → a && (b && follow ws (at + word_count ws k) ks) ≡ eqb (ends ws (cond (a && b) (at + word_count ws k) (length ws + 1)) ks) (length ws)
    on true true h = h
    on true false h = never
    on false b h = never
