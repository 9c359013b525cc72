-- Tests joined, tests over lists, and what holds of all elements. Assumes nothing.
use mathlib.Core.Path.{◌≡◌, sym, subst}
use mathlib.Core.Bool.{Bool, true, false, ◌&&◌, ◌||◌}
use mathlib.Core.List.Memᴰ
use mathlib.Core.List.{List, [], ◌∷◌, ◌++◌, Memᴰ}
use mathlib.Core.Logic.{◌⊎◌, inl, inr}
use lib.Dec.{T}
use Rattle.binary64.proofs.Sorted.{All}
use Rattle.binary64.specs.Lists.{all, pick, filter}

-- ---- tests
pub both : (a b : Bool) → T (a && b) → T a × T b
both true b h = (tt, h)
both false b h = absurd h

pub and_T : (a b : Bool) → T a → T b → T (a && b)
and_T true b p q = q
and_T false b p q = absurd p

pub or_left : (a b : Bool) → T a → T (a || b)
or_left true b h = tt
or_left false b h = absurd h

pub or_right : (a b : Bool) → T b → T (a || b)
or_right true b h = tt
or_right false b h = h

-- ---- all
pub all→All : {A : Type 0} (p : A → Bool) (xs : List A) → T (all p xs) → All (λ (x : A). T (p x)) xs
all→All p [] h = tt
all→All p (x ∷ xs) h = let w = both (p x) (all p xs) h in (w.0, all→All p xs w.1)

pub all_snoc : {A : Type 0} (p : A → Bool) (xs : List A) (x : A) → T (all p xs) → T (p x) → T (all p (xs ++ (x ∷ [])))
all_snoc p [] x h k = and_T (p x) true k tt
all_snoc p (y ∷ ys) x h k = let w = both (p y) (all p ys) h in and_T (p y) (all p (ys ++ (x ∷ []))) w.0 (all_snoc p ys x w.1 k)

pub All-map : {A : Type 0} {G H : A → Type 0} (f : (x : A) → G x → H x) (xs : List A) → All G xs → All H xs
All-map f [] h = tt
All-map f (x ∷ xs) h = (f x h.0, All-map f xs h.1)

pub All-append : {A : Type 0} (G : A → Type 0) (xs ys : List A) → All G xs → All G ys → All G (xs ++ ys)
All-append G [] ys h k = k
All-append G (x ∷ xs) ys h k = (h.0, All-append G xs ys h.1 k)

pub All-filter : {A : Type 0} (G : A → Type 0) (p : A → Bool) (xs : List A) → All G xs → All (λ (x : A). T (p x) × G x) (filter p xs)
All-filter G p [] h = tt
All-filter G p (x ∷ xs) h = on (p x) (λ t. t) (All-filter G p xs h.1)
  where
    on : (b : Bool) → (T b → T (p x)) → All (λ (x : _). T (p x) × G x) (filter p xs) → All (λ (x : _). T (p x) × G x) (pick b x (filter p xs))
    on true f r = ((f tt, h.0), r)
    on false f r = r

pub All-both : {A : Type 0} (G H : A → Type 0) (xs : List A) → All G xs → All H xs → All (λ (x : A). G x × H x) xs
All-both G H [] h k = tt
All-both G H (x ∷ xs) h k = ((h.0, k.0), All-both G H xs h.1 k.1)

pub All-member : {A : Type 0} (G : A → Type 0) (x : A) (xs : List A) → All G xs → Memᴰ x xs → G x
All-member G x [] h m = absurd (Memᴰ.not-nil m)
All-member G x (y ∷ ys) h m = on (Memᴰ.cases_cons m) (All-member G x ys h.1)
  where
    on : (x ≡ y) ⊎ Memᴰ x ys → (Memᴰ x ys → G x) → G x
    on (inl e) ih = subst G (sym e) h.0
    on (inr k) ih = ih k
