-- Words of a part.
use mathlib.Core.Path.{◌≡◌, refl, sym, ap, ◌∙◌}
use mathlib.Core.List.{List, [], ◌∷◌}
use Prim.Native.Nat.{ℕ, zero, suc, ◌+◌, ◌-◌, ◌*◌, ◌/◌, ◌≤◌, ◌<◌}
use native.Mathlib.Omega.{arith}
use lib.ListN.{length, get_or, take, drop, length-drop}
use lib.Seq.{length-take-le, get_or-drop, take-take, drop-drop}
use Rattle.matrix.specs.Matrix.{tabulate}
use Rattle.matrix.proofs.Filled.{tabulate-length}
use Rattle.events_layout.proofs.Laws.{tabulate-take}
use Rattle.sheet_words.proofs.Bytes.{word_at}
use Rattle.sheet.specs.Sheet.{little_endian, words_of}

drop-take : {A : Type 0} (i n : ℕ) (xs : List A) → drop i (take n xs) ≡ take (n - i) (drop i xs)
drop-take zero n xs = let e : n - 0 ≡ n = omega arith in rw e
drop-take (suc i) zero xs = let e : 0 - suc i ≡ 0 = omega arith in rw e
drop-take (suc i) (suc n) [] = sym (none (suc n - suc i))
  where
    none : {A : Type 0} (m : ℕ) → take {A = A} m [] ≡ []
    none zero = refl
    none (suc m) = refl
drop-take (suc i) (suc n) (x ∷ xs) = let e : suc n - suc i ≡ n - i = omega arith in rw e (drop-take i n xs)

pub part-words : (bs : List ℕ) (f c : ℕ) → 8 * (f + c) ≤ length bs → words_of (take (8 * c) (drop (8 * f) bs)) ≡ take c (drop f (words_of bs))
unfolding words_of
part-words bs f c h =
    ap (λ (n : ℕ). tabulate n (λ (i : ℕ). little_endian (take 8 (drop (8 * i) (take (8 * c) (drop (8 * f) bs)))))) size
    ∙ tabulate-take (λ (i : ℕ). little_endian (take 8 (drop (8 * i) (take (8 * c) (drop (8 * f) bs))))) 0 c (drop f (words_of bs))
    (omega (arith, length-drop f (words_of bs), whole)) held
  where
    whole : length (words_of bs) ≡ length bs / 8
    whole = tabulate-length (λ (i : ℕ). little_endian (take 8 (drop (8 * i) bs))) (length bs / 8)

    size : length (take (8 * c) (drop (8 * f) bs)) / 8 ≡ c
    size = let e = length-take-le (8 * c) (drop (8 * f) bs) (omega (arith, length-drop (8 * f) bs)) in omega arith

    held : (k : ℕ) → k < c → little_endian (take 8 (drop (8 * k) (take (8 * c) (drop (8 * f) bs)))) ≡ get_or (drop f (words_of bs)) k 0
    held k l =
        ap little_endian (ap (take 8) (drop-take (8 * k) (8 * c) (drop (8 * f) bs))
        ∙ take-take 8 (8 * c - 8 * k) (drop (8 * k) (drop (8 * f) bs)) (omega arith) ∙ ap (take 8) (drop-drop (8 * k) (8 * f) bs))
        ∙ ap (λ (n : ℕ). little_endian (take 8 (drop n bs))) (eights f k)
        ∙ sym (get_or-drop f (words_of bs) k 0 ∙ word_at bs (f + k) (omega arith))
      where
        eights : (f k : ℕ) → 8 * f + 8 * k ≡ 8 * (f + k)
        eights f k = omega arith
