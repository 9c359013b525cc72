-- A range from its end: the list that `rev` gives, and what `find` finds in it.
use Rattle.std.proofs.Common.{◌≡◌, ◌+◌, ℕ, ◌-◌, ◌<◌, List, [], ◌∷◌, Option, Some, None, length}
use mathlib.Core.Path.{refl, sym, ap, subst, ◌∙◌}
use Prim.Native.Nat.{zero, suc}
use native.Mathlib.Omega.{arith}
use Rattle.std.specs.Option.{MatchOption, option_map, unwrap_or}
use Rattle.std.specs.Iterator.Adapters.{rev_source, rev_steps}
use Rattle.std.specs.declared.iter.Rev.{Rev}
use Rattle.std.specs.declared.ops.Range.{Range}
use Rattle.std.proofs.lemmas.Iterator.{YieldsList}
use Rattle.std.proofs.lemmas.Iterator.Consumers.{YieldsList-from_shown}

-- from a + n - 1 down to a
abbrev pub down : ℕ → ℕ → List ℕ
down a zero = []
down a (suc n) = (a + n) ∷ down a n

-- a range's steps from its end
abbrev pub backs : Range ℕ → Option ℕ → Range ℕ → Type 0
backs s r t = (t.start ≡ s.start) × MatchOption r ((s.end - s.start ≡ 0) × (t.end ≡ s.end)) (λ x. (0 < s.end - s.start) × (x ≡ t.end) × (s.end ≡ t.end + 1))

abbrev shown : Rev (Range ℕ) → List ℕ
shown u = down (rev_source u).start ((rev_source u).end - (rev_source u).start)

nothing : (s t : Rev (Range ℕ)) → rev_steps backs s None t → length (shown s) ≡ 0
nothing s t p = ap (λ n. length (down (rev_source s).start n)) p.1.0

last : (s : Rev (Range ℕ)) (x : ℕ) (t : Rev (Range ℕ)) → rev_steps backs s (Some x) t → shown s ≡ x ∷ shown t
last s x t p =
    let a = (rev_source s).start in
    let left : (rev_source s).end - a ≡ suc ((rev_source t).end - (rev_source t).start) = omega (arith, p.0, p.1.0, p.1.2) in
    let item : a + ((rev_source t).end - (rev_source t).start) ≡ x = omega (arith, p.0, p.1.0, p.1.1, p.1.2) in
    ap (down a) left ∙ ap (λ y. y ∷ down a ((rev_source t).end - (rev_source t).start)) item
    ∙ ap (λ b. x ∷ down b ((rev_source t).end - (rev_source t).start)) (sym p.0)

pub YieldsList-from_rev_range : {s : Rev (Range ℕ)} (a b : ℕ) → rev_source s ≡ record { start = a; end = b } → YieldsList (rev_steps backs) (λ x. x) s (down a (b - a))
YieldsList-from_rev_range {s} a b e =
    subst (λ (r : Range ℕ). YieldsList (rev_steps backs) (λ x. x) s (down r.start (r.end - r.start))) e (YieldsList-from_shown (rev_steps backs) (λ x. x) shown nothing last s)

pub mapped_same : (o : Option ℕ) → unwrap_or (option_map (λ x. x) o) 0 ≡ unwrap_or o 0
mapped_same None = refl
mapped_same (Some x) = refl
