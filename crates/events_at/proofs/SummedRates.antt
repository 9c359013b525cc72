-- The rates of n states: the events that are left, added to the rates so far, give the whole sum.
use mathlib.Core.Path.{◌≡◌, refl, ap, ap₂, sym, ◌∙◌}
use mathlib.Core.Logic.{◌⊎◌, inl, inr}
use mathlib.Core.Bool.{Bool, true, cond}
use mathlib.Core.List.{List, [], ◌∷◌}
use Prim.Native.Nat.{ℕ, ◌<◌}
use lib.ListN.{get_or, set, take}
use lib.Seq.{get_or-take, take-set-lt}
use lib.Ieee.{Float, nan, binary64, add}
use Rattle.protocol.specs.Events.{target}
use Rattle.protocol.specs.Schedule.{with_rate, with_rates, flows, infusion_rate, add_to}
use Rattle.protocol.specs.declared.Event.{Event}

abbrev pub rates_left : ℕ → Float → List Event → List Bool → List Float → List Float
rates_left n t es ms r = with_rates t es ms (take n r)

pub rates-more :
    (n : ℕ) (t : Float) (e : Event) (m : Bool) {xs es : List Event} {ys ms : List Bool} (r s : List Float) {z : List Float} → xs ≡ e ∷ es → ys ≡ m ∷ ms
    → take n s ≡ with_rate t e m (take n r) → rates_left n t xs ys r ≡ z → rates_left n t es ms s ≡ z
rates-more n t e m {xs} {es} {ys} {ms} r s p q h g = ap (with_rates t es ms) h ∙ rw (p, q) at g

pub rates-done :
    (n : ℕ) (t : Float) {xs : List Event} {ys : List Bool} (r : List Float) {z : List Float} → (xs ≡ []) ⊎ (ys ≡ []) → rates_left n t xs ys r ≡ z → take n r ≡ z
rates-done n t {xs} {ys} r (inl p) g = rw p at g
rates-done n t {xs} {ys} r (inr q) g = no_marks xs ∙ rw q at g
  where
    no_marks : (es : List Event) → take n r ≡ with_rates t es [] (take n r)
    no_marks [] = refl
    no_marks (e ∷ es) = refl

module _ (n : ℕ) (t : Float) (e : Event) (m : Bool) {f : Bool} (p : f ≡ flows t e m) (r : List Float) where
  rate_add : f ≡ true → with_rate t e m (take n r) ≡ add_to (take n r) (target e) (infusion_rate e)
  rate_add q = ap (λ (b : Bool). cond b (add_to (take n r) (target e) (infusion_rate e)) (take n r)) (sym p ∙ q)

  pub rate_put : (i : ℕ) {x : Float} → f ≡ true → i ≡ target e → x ≡ infusion_rate e → i < n
      → take n (set r i (add binary64 (get_or r i nan) x)) ≡ with_rate t e m (take n r)
  rate_put i {x} q k v h =
      take-set-lt n r i (add binary64 (get_or r i nan) x) h ∙ ap (λ (y : Float). set (take n r) i (add binary64 y x)) (sym (get_or-take n r i nan h))
      ∙ ap₂ (λ (j : ℕ) (y : Float). add_to (take n r) j y) k v ∙ sym (rate_add q)
