-- Lists written over others, and rows over the cells of three slices.
use mathlib.Core.Path.{◌≡◌, refl, sym, ap, ap₂, ◌∙◌}
use Prim.Native.Nat.{ℕ, zero, suc, ◌+◌, ◌-◌, ◌*◌, ◌≤◌, ◌<◌}
use native.Mathlib.Nat.{add-zero, le_of_suc-le-suc, not-suc-le-zero, mul-le-mul_right, suc-mul}
use native.Mathlib.Numerals.{add-one}
use native.Mathlib.Omega.{arith}
use mathlib.Core.List.{List, [], ◌∷◌, ◌++◌, append-nil}
use lib.ListN.{length, take, drop, set, replicate, length-drop, drop_of_length-le}
use lib.Seq.{take_all}
use borrow.Rule.Slice.PartMut.{put_mid, Post-is}
use Rattle.protocol.specs.Execute.{Row}
use Rattle.protocol.specs.Entry.{side_code}
use Rattle.rows.specs.Written.{put, Cells, with_row_at, written, RoomForRows}

pub put-length : {A : Type 0} (k : ℕ) (rs xs : List A) → length (put k rs xs) ≡ length xs
put-length zero [] xs = refl
put-length zero (r ∷ rs) [] = refl
put-length zero (r ∷ rs) (x ∷ xs) = ap suc (put-length zero rs xs)
put-length (suc k) rs [] = refl
put-length (suc k) rs (x ∷ xs) = ap suc (put-length k rs xs)

put_empty : {A : Type 0} (rs : List A) → put 0 rs [] ≡ []
put_empty [] = refl
put_empty (r ∷ rs) = refl

-- the part from k on was lent
put-part : {A : Type 0} (k : ℕ) (rs xs : List A) → take k xs ++ put 0 rs (drop k xs) ≡ put k rs xs
put-part zero rs xs = refl
put-part (suc k) rs [] = put_empty rs
put-part (suc k) rs (x ∷ xs) = ap (◌∷◌ x) (put-part k rs xs)

-- a store
pub put_one : {A : Type 0} (k : ℕ) (r : A) (xs : List A) → set xs k r ≡ put k (r ∷ []) xs
put_one zero r [] = refl
put_one zero r (x ∷ xs) = refl
put_one (suc k) r [] = refl
put_one (suc k) r (x ∷ xs) = ap (◌∷◌ x) (put_one k r xs)

-- laid over the front
put_front : {A : Type 0} (rs xs : List A) → length rs ≤ length xs → rs ++ drop (length rs) xs ≡ put 0 rs xs
put_front [] xs h = refl
put_front (r ∷ rs) [] h = absurd (not-suc-le-zero h)
put_front (r ∷ rs) (x ∷ xs) h = ap (◌∷◌ r) (put_front rs xs (le_of_suc-le-suc h))

-- laid over the front of the part from k on, and that put back
pub put-lent :
    {A : Type 0} (k : ℕ) (rs xs ys : List A) → k + length rs ≤ length xs → ys ≡ rs ++ drop (length rs) (take (length xs - k) (drop k xs))
    → put_mid k (length xs - k) xs ys ≡ put k rs xs
put-lent {A} k rs xs ys h e =
    let l : length (drop k xs) ≡ length xs - k = length-drop k xs in
    let whole : take (length xs - k) (drop k xs) ≡ drop k xs = take_all (length xs - k) (drop k xs) (omega arith) in
    let laid : ys ≡ put 0 rs (drop k xs) = e ∙ ap (λ (z : List A). rs ++ drop (length rs) z) whole ∙ put_front rs (drop k xs) (omega arith) in
    ap₂ (λ (z w : List A). take k xs ++ (z ++ w)) laid (Post-is k (length xs) xs (omega arith) ∙ drop_of_length-le xs {i = length xs} (omega arith))
    ∙ ap (λ (z : List A). take k xs ++ z) (append-nil (put 0 rs (drop k xs))) ∙ put-part k rs xs

-- ---- rows
pub written-append : (n k : ℕ) (rs ts : List Row) (c : Cells) → written n k (rs ++ ts) c ≡ written n (k + length rs) ts (written n k rs c)
written-append n k [] ts c = ap (λ (j : ℕ). written n j ts c) (sym (add-zero k))
written-append n k (r ∷ rs) ts c =
    written-append n (suc k) rs ts (with_row_at n k r c) ∙ ap (λ (j : ℕ). written n j ts (written n (suc k) rs (with_row_at n k r c))) (moved k (length rs))
  where
    moved : (k j : ℕ) → suc k + j ≡ k + suc j
    moved k j = omega arith

pub record Same (c d : Cells) : Type 0 where
  pub times : length d.times ≡ length c.times
  pub sides : length d.sides ≡ length c.sides
  pub values : length d.values ≡ length c.values

pub written_same : (n k : ℕ) (rs : List Row) (c : Cells) → Same c (written n k rs c)
written_same n k [] c = record { times = refl; sides = refl; values = refl }
written_same n k (r ∷ rs) c =
    let h = written_same n (suc k) rs (with_row_at n k r c) in
    record {
      times = h.times ∙ put-length k (r.time ∷ []) c.times;
      sides = h.sides ∙ put-length k (side_code r.side ∷ []) c.sides;
      values = h.values ∙ put-length (k * n) r.amounts c.values;
    }

pub room_less : (n j k : ℕ) (c d : Cells) → j ≤ k → Same c d → RoomForRows n k c → RoomForRows n j d
room_less n j k c d l s h =
    let m = mul-le-mul_right n l in
    record { times = omega (arith, s.times, h.times); sides = omega (arith, s.sides, h.sides); values = omega (arith, s.values, h.values) }

-- room for one row more
pub record Here (n k : ℕ) (c : Cells) : Type 0 where
  pub times : k < length c.times
  pub sides : k < length c.sides
  pub values : k * n + n ≤ length c.values

pub room_here : (n k : ℕ) {c : Cells} → RoomForRows n (k + 1) c → Here n k c
room_here n k h =
    let e : (k + 1) * n ≡ k * n + n = ap (λ (j : ℕ). j * n) (add-one k) ∙ suc-mul k n in
    record { times = omega (arith, h.times); sides = omega (arith, h.sides); values = omega (arith, h.values) }

-- one more of the first cells filled
pub fill_next : {A : Type 0} (i : ℕ) (a : A) (xs : List A) → i < length xs → set (replicate i a ++ drop i xs) i a ≡ replicate (i + 1) a ++ drop (i + 1) xs
fill_next {A} i a xs h = rw add-one (from i xs h)
  where
    from : (i : ℕ) (xs : List A) → i < length xs → set (replicate i a ++ drop i xs) i a ≡ replicate (suc i) a ++ drop (suc i) xs
    from i [] h = absurd (not-suc-le-zero h)
    from zero (x ∷ xs) h = refl
    from (suc i) (x ∷ xs) h = ap (◌∷◌ a) (from i xs (le_of_suc-le-suc h))
