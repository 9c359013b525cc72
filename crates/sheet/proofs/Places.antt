-- The places of the bodies, where the layout's test holds.
use mathlib.Core.Path.{◌≡◌, refl, sym, ap, ◌∙◌, subst}
use mathlib.Core.Bool.{Bool, true, false, cond, ◌&&◌}
use mathlib.Core.List.{List, [], ◌∷◌}
use Prim.Native.Nat.{ℕ, ◌+◌, ◌-◌, ◌≤◌}
use native.Mathlib.Omega.{arith}
use borrow.Author.Tests.{eqb-true}
use lib.Dec.{T, eqb, leb}
use lib.ListN.{length, take, drop, length-drop}
use lib.Seq.{length-take-le}
use Rattle.sheet.specs.Sheet.{first_word, word_count, body, follow}
use Rattle.sheet.specs.Reader.{next_of, window_at, amounts_at, samples_at, events_at, end_at, places_of, Located}
pub use Rattle.sheet_words.proofs.Bytes.{words-length}

step : (ws : List ℕ) (at k : ℕ) (ks : List ℕ) → follow ws at (k ∷ ks) ≡ true
    → (at ≡ first_word ws k) × (next_of ws at k ≡ at + word_count ws k) × (follow ws (next_of ws at k) ks ≡ true)
unfolding next_of
step ws at k ks h = on (eqb (first_word ws k) at) refl (leb (at + word_count ws k) (length ws)) h
  where
    on : (a : Bool) → eqb (first_word ws k) at ≡ a → (b : Bool) → a && (b && follow ws (at + word_count ws k) ks) ≡ true
        → (at ≡ first_word ws k) × (cond (a && b) (at + word_count ws k) (length ws + 1) ≡ at + word_count ws k)
        × (follow ws (cond (a && b) (at + word_count ws k) (length ws + 1)) ks ≡ true)
    on true e true q = (sym (eqb-true (first_word ws k) at e), refl, q)
    on true e false q = absurd (subst T (sym q) tt)
    on false e b q = absurd (subst T (sym q) tt)

pub located : (ws : List ℕ) → follow ws 11 (0 ∷ 1 ∷ 2 ∷ 3 ∷ 4 ∷ []) ≡ true → Located ws (places_of ws)
located ws h =
    let a = step ws 11 0 (1 ∷ 2 ∷ 3 ∷ 4 ∷ []) h in
    let b = step ws (window_at ws) 1 (2 ∷ 3 ∷ 4 ∷ []) a.2 in
    let c = step ws (amounts_at ws) 2 (3 ∷ 4 ∷ []) b.2 in
    let d = step ws (samples_at ws) 3 (4 ∷ []) c.2 in
    let e = step ws (events_at ws) 4 [] d.2 in
    record {
      model = (a.0, a.1);
      window = (b.0, b.1);
      amounts = (c.0, c.1);
      samples = (d.0, d.1);
      events = (e.0, e.1);
      whole = eqb-true (end_at ws) (length ws) e.2;
    }

-- ---- a body between two places
pub body_at : (ws : List ℕ) (first end k : ℕ) → first ≡ first_word ws k → end ≡ first + word_count ws k → take (end - first) (drop first ws) ≡ body ws k
body_at ws first end k a b = let e : end - first ≡ word_count ws k = omega arith in rw (e, a)

pub body-length : (ws : List ℕ) (first end k : ℕ) → first ≡ first_word ws k → end ≡ first + word_count ws k → end ≤ length ws → length (body ws k) ≡ end - first
body-length ws first end k a b l =
    ap length (sym (body_at ws first end k a b)) ∙ length-take-le (end - first) (drop first ws) (omega (arith, length-drop first ws))
