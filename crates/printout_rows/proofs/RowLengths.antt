-- How long a row is.
use mathlib.Core.Path.{◌≡◌, refl, sym, ap, ◌∙◌}
use mathlib.Core.Bool.{Bool, true, false, cond}
use mathlib.Core.List.{List, [], ◌∷◌, ◌++◌, append-nil, append_assoc}
use Prim.Native.Nat.{ℕ, suc, ◌+◌, ◌*◌, ◌<◌}
use native.Mathlib.Numerals.{add-one}
use native.Mathlib.Omega.{arith}
use lib.Dec.{eqb}
use lib.ListN.{length, get_or, take, length-append}
use lib.Seq.{take-suc, length-take-le}
use lib.Ieee.{Float, nan}
use Rattle.printout_numbers.specs.Digits.{double_text}
use Rattle.printout_numbers.proofs.Counts.{double_length}
use Rattle.printout_rows.specs.Row.{side_text, amounts_text, row_line, side_length, row_length}

pub side-length : (s : ℕ) → length (side_text s) ≡ side_length s
unfolding side_text
side-length s = go (eqb s 1)
  where
    go : (t : Bool) → length {A = ℕ} (cond t (112 ∷ 114 ∷ 101 ∷ []) (112 ∷ 111 ∷ 115 ∷ 116 ∷ [])) ≡ cond t 3 4
    go true = refl
    go false = refl

pub amounts-length : (xs : List Float) → length (amounts_text xs) ≡ 17 * length xs
unfolding amounts_text
amounts-length [] = refl
amounts-length (x ∷ xs) = length-append (32 ∷ double_text x) (amounts_text xs) ∙ sum (length xs) (double_length x) (amounts-length xs)
  where
    sum : {a b : ℕ} (c : ℕ) → a ≡ 16 → b ≡ 17 * c → suc a + b ≡ 17 * suc c
    sum c p q = omega arith

-- one amount more
amounts-append : (xs ys : List Float) → amounts_text (xs ++ ys) ≡ amounts_text xs ++ amounts_text ys
unfolding amounts_text
amounts-append [] ys = refl
amounts-append (x ∷ xs) ys = ap (λ (l : List ℕ). (32 ∷ double_text x) ++ l) (amounts-append xs ys)
    ∙ sym (append_assoc (32 ∷ double_text x) (amounts_text xs) (amounts_text ys))

pub amounts_more : (xs : List Float) (i : ℕ) → i < length xs → amounts_text (take i xs) ++ (32 ∷ double_text (get_or xs i nan)) ≡ amounts_text (take (i + 1) xs)
unfolding amounts_text
amounts_more xs i l =
    sym
    (ap (λ (k : ℕ). amounts_text (take k xs)) (add-one i) ∙ ap amounts_text (take-suc xs i nan l)
    ∙ amounts-append (take i xs) (get_or xs i nan ∷ [])
    ∙ ap (λ (t : List ℕ). amounts_text (take i xs) ++ t) (append-nil (32 ∷ double_text (get_or xs i nan))))

pub row_length_lem : (time : Float) (side : ℕ) (xs : List Float) → length (row_line time side xs) ≡ row_length (length xs) side
unfolding row_line
row_length_lem time side xs = simp (length-append, double_length, side-length, amounts-length) (omega arith)

pub ruleset lengths = (row_length_lem, double_length, side-length, amounts-length, length-take-le)
