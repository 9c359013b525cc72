-- Times laid one behind the other.
use mathlib.Core.Path.{◌≡◌, sym, ap, ◌∙◌}
use mathlib.Core.List.{List, ◌++◌, append_assoc}
use Prim.Native.Nat.{ℕ, ◌+◌, ◌<◌, ◌≤◌}
use native.Mathlib.Numerals.{add-one}
use lib.ListN.{length, get_or, take, drop, length-append}
use lib.Seq.{drop-cons, length-take-le}
use borrow.Rule.Slice.PartMut.{put_mid}
use Rattle.std.proofs.lemmas.List.{take_at}
use lib.Ieee.{Float}
use Rattle.binary64.specs.Lists.{flat_map}
use Rattle.protocol.specs.Events.{instants}
use Rattle.protocol.specs.declared.Event.{Event}

-- what is laid, with the times of the events that are left, are all the times
abbrev pub laid : List Event → List Float → ℕ → List Float
laid es xs k = xs ++ flat_map instants (drop k es)

pub laid_more : (es : List Event) (d : Event) (k : ℕ) (xs : List Float) {ys zs : List Float} → k < length es → ys ≡ xs ++ instants (get_or es k d)
    → laid es xs k ≡ zs → laid es ys (k + 1) ≡ zs
laid_more es d k xs h e q = rw (add-one, e, append_assoc) (rw (drop-cons es k d h) at q)

-- times laid at the front of the part from place n on
pub laid_front : {A : Type 0} (n k : ℕ) (xs ts zs : List A) {ys : List A} → n ≤ length xs → ys ≡ ts ++ zs
    → take (n + length ts) (put_mid n k xs ys) ≡ take n xs ++ ts
laid_front {A} n k xs ts zs {ys} h e = ahead _
  where
    ahead : (w : List A) → take (n + length ts) (take n xs ++ (ys ++ w)) ≡ take n xs ++ ts
    ahead w =
        ap (take (n + length ts)) (ap (λ (y : List A). take n xs ++ (y ++ w)) e ∙ ap (λ (y : List A). take n xs ++ y) (append_assoc ts zs w)
        ∙ sym (append_assoc (take n xs) ts (zs ++ w)))
        ∙ take_at (take n xs ++ ts) (zs ++ w) (n + length ts) (length-append (take n xs) ts ∙ ap (λ (j : ℕ). j + length ts) (length-take-le n xs h))
