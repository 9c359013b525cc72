-- Texts written one after the other.
use mathlib.Core.Path.{◌≡◌, refl, sym, ap, ap₂, ◌∙◌}
use mathlib.Core.List.{List, [], ◌∷◌, ◌++◌, append_assoc}
use Prim.Native.Nat.{ℕ, zero, suc, ◌+◌, ◌-◌, ◌/◌, ◌%◌, ◌≤◌, ◌<◌}
use native.Mathlib.Nat.{add-zero, add_assoc}
use native.Mathlib.Numerals.{add-one, sub-one}
use native.Mathlib.Omega.{arith}
use lib.ListN.{length, get_or, set, take, drop, length-append, length-drop}
use lib.Seq.{sets, set_comm, take-suc, drop-drop, length-take-le}
use borrow.Rule.Slice.PartMut.{mid_of, put_mid, same_len_mid}
use Rattle.std.proofs.lemmas.List.Edits.{sets-eq}
use Rattle.printout_numbers.specs.Digits.{glyph, digits}
use Rattle.printout_numbers.specs.Written.{Wrote}
use Rattle.printout_numbers.specs.Writer.{Writes}
use Rattle.printout_numbers.specs.declared.Writer.{Writer}

moved : (k j : ℕ) → suc k + j ≡ k + suc j
moved k j = omega arith

pub sets_append : (old : List ℕ) (at : ℕ) (xs ys : List ℕ) → sets old at (xs ++ ys) ≡ sets (sets old at xs) (at + length xs) ys
sets_append old at [] ys = ap (λ (k : ℕ). sets old k ys) (sym (add-zero at))
sets_append old at (x ∷ xs) ys =
    sets_append (set old at x) (suc at) xs ys ∙ ap (λ (k : ℕ). sets (sets (set old at x) (suc at) xs) k ys) (moved at (length xs))

-- a text, and one more behind it
pub wrote_both : {a b old mid new : List ℕ} {at i j : ℕ} → Wrote a at old i mid → Wrote b i mid j new → Wrote (a ++ b) at old j new
wrote_both {a} {b} {old} {mid} {new} {at} {i} {j} f g = record {
  place = g.place ∙ ap (λ (k : ℕ). k + length b) f.place ∙ add_assoc at (length a) (length b) ∙ ap (λ (k : ℕ). at + k) (sym (length-append a b));
  cells = g.cells ∙ ap₂ (λ (k : ℕ) (l : List ℕ). sets l k b) f.place f.cells ∙ sym (sets_append old at a b);
  same = g.same ∙ f.same;
}

pub wrote_none : (at : ℕ) (old : List ℕ) → Wrote [] at old at old
wrote_none at old = record { place = sym (add-zero at); cells = refl; same = refl }

-- ---- byte by byte
pub sets_take : (old : List ℕ) (at : ℕ) (text : List ℕ) (i : ℕ) → i < length text
    → set (sets old at (take i text)) (at + i) (get_or text i 0) ≡ sets old at (take (i + 1) text)
sets_take old at text i l =
    sym
    (ap (λ (k : ℕ). sets old at (take k text)) (add-one i) ∙ ap (sets old at) (take-suc text i 0 l)
    ∙ sets_append old at (take i text) (get_or text i 0 ∷ [])
    ∙ ap (λ (k : ℕ). set (sets old at (take i text)) (at + k) (get_or text i 0)) (length_front text i l))
  where
    length_front : (text : List ℕ) (i : ℕ) → i < length text → length (take i text) ≡ i
    length_front text i l = length-take-le i text (omega arith)

-- ---- digits, the last first
pub digits-length : (b k w : ℕ) → length (digits b k w) ≡ k
unfolding digits
digits-length b zero w = refl
digits-length b (suc k) w =
    length-append (digits b k (w / b)) (glyph (w % b) ∷ []) ∙ ap (λ (j : ℕ). j + 1) (digits-length b k (w / b)) ∙ add-one k

-- a store behind them
behind : (text old : List ℕ) (at k d : ℕ) → at + length text ≤ k → set (sets old at text) k d ≡ sets (set old k d) at text
behind [] old at k d h = refl
behind (x ∷ text) old at k d h =
    behind text (set old at x) (suc at) k d (omega (arith, moved at (length text)))
    ∙ ap (λ (l : List ℕ). sets l (suc at) text) (set_comm old at k x d (λ (e : at ≡ k). omega arith))

pub digits_more : (old : List ℕ) (at b i w : ℕ)
    → sets (set old (at + i) (glyph (w % b))) at (digits b i (w / b)) ≡ sets old at (digits b (suc i) w)
unfolding digits
digits_more old at b i w =
    let l : length (digits b i (w / b)) ≡ i = digits-length b i (w / b) in
    sym (behind (digits b i (w / b)) old at (at + i) (glyph (w % b)) (omega arith))
    ∙ ap (λ (k : ℕ). set (sets old at (digits b i (w / b))) (at + k) (glyph (w % b))) (sym l)
    ∙ sym (sets_append old at (digits b i (w / b)) (glyph (w % b) ∷ []))

-- a turn of the loop
pub digits_step : (out : List ℕ) (at b i w d : ℕ) → 0 < i → d ≡ glyph (w % b)
    → sets (set out (at + (i - 1)) d) at (digits b (i - 1) (w / b)) ≡ sets out at (digits b i w)
digits_step out at b zero w d h e = absurd (omega arith)
digits_step out at b (suc i) w d h e = rw (sub-one (suc i), e) (digits_more out at b i w)

-- its end
pub digits-done : (out : List ℕ) (at b i w : ℕ) {all : List ℕ} → i ≤ 0 → sets out at (digits b i w) ≡ all → out ≡ all
unfolding digits
digits-done out at b zero w h e = e
digits-done out at b (suc i) w h e = absurd (omega arith)

-- a text copied over the cells from `at` on, `n` of them
pub wrote_part : (at n : ℕ) (text old part : List ℕ) → at + length text ≤ length old → n ≡ length text → part ≡ text → Wrote text at old (at + length text) (put_mid at n old part)
wrote_part at n text old part h e q = record {
  place = refl;
  cells = ap₂ (λ (k : ℕ) (l : List ℕ). put_mid at k old l) e q ∙ ap (λ (l : List ℕ). take at old ++ (text ++ l)) (drop-drop (length text) at old) ∙ sym (append_assoc (take at old) text _) ∙ sym (sets-eq text old at h);
  same = same_len_mid at n old part (ap length q ∙ sym e ∙ sym (mid_all at n old (omega arith)));
}
  where
    mid_all : (a k : ℕ) (xs : List ℕ) → a + k ≤ length xs → length (mid_of a k xs) ≡ k
    mid_all a k xs g = length-take-le k (drop a xs) (omega (arith, length-drop a xs))

-- ---- the same of a writer
pub writes_both : {a b : List ℕ} {u v w : Writer} → Writes a u v → Writes b v w → Writes (a ++ b) u w
writes_both f g = record { lent = g.lent ∙ f.lent; wrote = wrote_both f.wrote g.wrote }

pub writes_none : (w : Writer) → Writes [] w w
writes_none w = record { lent = refl; wrote = wrote_none w.at w.out.now }
