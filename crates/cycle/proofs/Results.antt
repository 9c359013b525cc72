-- What a chain of tests gives: a refusal's number is one of a list's, and what is handed on has a property. Assumes nothing.
use mathlib.Core.Path.{◌≡◌, refl, sym, ap, subst}
use Prim.Native.Nat.{ℕ}
use native.Mathlib.Omega.{arith}
use mathlib.Core.Bool.{Bool, true, false, not, ◌||◌}
use mathlib.Core.List.{List, [], ◌∷◌}
use lib.Dec.{T, eqb, eqb→eq}
use lib.Ieee.{Float}
use Rattle.binary64.specs.Doubles.{plus_zero}
use Rattle.binary64.specs.Lists.{all}
use Rattle.refusal.specs.Result.{Result, refused, done, and_then, unless}
use Rattle.protocol.specs.PlainRun.{one_of}
use Rattle.protocol.proofs.ListLaws.{both}
use Rattle.cycle.specs.Closed.{Timed, stopped, got, then, untimed, unless_fails}

abbrev pub Gives : {A : Type 0} → List ℕ → (A → Type 0) → Result A → Type 0
Gives cs P (refused c) = T (one_of c cs)
Gives cs P (done a) = P a

module _ {A B : Type 0} (cs : List ℕ) (Q : B → Type 0) where
  pub gives_then : (P : A → Type 0) (r : Result A) (f : A → Result B) → Gives cs P r → ((a : A) → P a → Gives cs Q (f a)) → Gives cs Q (and_then r f)
  gives_then P (refused c) f h k = h
  gives_then P (done a) f h k = k a h

  -- behind a test
  pub gives_test : (b : Bool) (c : ℕ) (a : A) (f : A → Result B) → T (one_of c cs) → (T b → Gives cs Q (f a)) → Gives cs Q (and_then (unless b c a) f)
  gives_test true c a f h k = k tt
  gives_test false c a f h k = h

-- at the last test
pub gives_last : {A : Type 0} (cs : List ℕ) (P : A → Type 0) (b : Bool) (c : ℕ) (a : A) → T (one_of c cs) → (T b → P a) → Gives cs P (unless b c a)
gives_last cs P true c a h k = k tt
gives_last cs P false c a h k = h

-- ---- read off
no_value : {A : Type 0} {c : ℕ} {a : A} → refused c ≡ done a → ⊥
no_value q = let z : ◌≡◌ {A = ℕ} 0 1 = cc in omega arith

module _ {A : Type 0} (cs : List ℕ) (P : A → Type 0) where
  pub gives_done : (r : Result A) (a : A) → Gives cs P r → r ≡ done a → P a
  gives_done (refused c) a h q = absurd (no_value q)
  gives_done (done x) a h q = subst P (let e : x ≡ a = cc in e) h

  pub gives_number : (r : Result A) (c : ℕ) → Gives cs P r → r ≡ refused c → T (one_of c cs)
  gives_number (refused d) c h q = subst (λ (x : ℕ). T (one_of x cs)) (let e : d ≡ c = cc in e) h
  gives_number (done x) c h q = absurd (no_value (sym q))

-- ---- with times
abbrev pub Hands : {A : Type 0} → List ℕ → (A → Type 0) → Timed A → Type 0
Hands cs P (stopped c t) = T (one_of c cs)
Hands cs P (got a) = P a

module _ {A B : Type 0} (cs : List ℕ) (Q : B → Type 0) where
  pub hands_then : (P : A → Type 0) (r : Timed A) (f : A → Timed B) → Hands cs P r → ((a : A) → P a → Hands cs Q (f a)) → Hands cs Q (then r f)
  hands_then P (stopped c t) f h k = h
  hands_then P (got a) f h k = k a h

  pub hands_test : (b : Bool) (c : ℕ) (a : A) (f : A → Timed B) → T (one_of c cs) → (T b → Hands cs Q (f a)) → Hands cs Q (then (unless_fails b c a) f)
  hands_test true c a f h k = k tt
  hands_test false c a f h k = h

pub hands_map : {A : Type 0} (cs : List ℕ) (P Q : A → Type 0) (r : Timed A) → ((a : A) → P a → Q a) → Hands cs P r → Hands cs Q r
hands_map cs P Q (stopped c t) f h = h
hands_map cs P Q (got a) f h = f a h

-- what is handed on, and that it is
pub hands_self : {A : Type 0} (cs : List ℕ) (P : A → Type 0) (r : Timed A) → Hands cs P r → Hands cs (λ (a : A). (r ≡ got a) × P a) r
hands_self cs P (stopped c t) h = h
hands_self cs P (got a) h = (refl, h)

pub hands_last : {A : Type 0} (cs : List ℕ) (P : A → Type 0) (b : Bool) (c : ℕ) (a : A) → T (one_of c cs) → (T b → P a) → Hands cs P (unless_fails b c a)
hands_last cs P true c a h k = k tt
hands_last cs P false c a h k = h

pub test_passes : {A : Type 0} (b : Bool) (c : ℕ) (a : A) → T b → unless_fails b c a ≡ got a
test_passes true c a h = refl
test_passes false c a h = absurd h

pub test_fails : {A : Type 0} (b : Bool) (c : ℕ) (a : A) → T (not b) → unless_fails b c a ≡ stopped c plus_zero
test_fails true c a h = absurd h
test_fails false c a h = refl

-- a refusal's number out of one list is one of another's
pub among : (c : ℕ) (ks cs : List ℕ) → T (all (λ (k : ℕ). one_of k cs) ks) → T (one_of c ks) → T (one_of c cs)
among c [] cs h p = absurd p
among c (k ∷ ks) cs h p = let w = both (one_of k cs) (all (λ (k : ℕ). one_of k cs) ks) h in on (eqb c k) (λ t. t) w.0 (among c ks cs w.1) p
  where
    on : (b : Bool) → (T b → T (eqb c k)) → T (one_of k cs) → (T (one_of c ks) → T (one_of c cs)) → T (b || one_of c ks) → T (one_of c cs)
    on true f g ih q = subst (λ (x : ℕ). T (one_of x cs)) (sym (eqb→eq c k (f tt))) g
    on false f g ih q = ih q

pub hands_untimed : {A : Type 0} (ks cs : List ℕ) (P : A → Type 0) (r : Result A) → T (all (λ (k : ℕ). one_of k cs) ks) → Gives ks P r → Hands cs P (untimed r)
hands_untimed ks cs P (refused c) h p = among c ks cs h p
hands_untimed ks cs P (done a) h p = p

pub no_answer : {A : Type 0} {c : ℕ} {t : Float} {a : A} → stopped c t ≡ got a → ⊥
no_answer q = let z : ◌≡◌ {A = ℕ} 0 1 = cc in omega arith

pub same_answer : {A : Type 0} {a b : A} → got a ≡ got b → a ≡ b
same_answer q = cc

pub same-refusal : {A : Type 0} {c d : ℕ} {t u : Float} → ◌≡◌ {A = Timed A} (stopped c t) (stopped d u) → (c ≡ d) × (t ≡ u)
same-refusal q = (cc, cc)

-- what is handed on came from a first value that was
pub then-got : {A B : Type 0} (r : Timed A) (f : A → Timed B) (b : B) → then r f ≡ got b → (a : A) × (r ≡ got a) × (f a ≡ got b)
then-got (stopped c t) f b q = absurd (no_answer q)
then-got (got a) f b q = (a, refl, q)

pub untimed-got : {A : Type 0} (r : Result A) (a : A) → untimed r ≡ got a → r ≡ done a
untimed-got (refused c) a q = absurd (no_answer q)
untimed-got (done x) a q = ap done (same_answer q)

module _ {A : Type 0} (cs : List ℕ) (P : A → Type 0) where
  pub hands_got : (r : Timed A) (a : A) → Hands cs P r → r ≡ got a → P a
  hands_got (stopped c t) a h q = absurd (no_answer q)
  hands_got (got x) a h q = subst P (same_answer q) h

  pub hands_number : (r : Timed A) (c : ℕ) (t : Float) → Hands cs P r → r ≡ stopped c t → T (one_of c cs)
  hands_number (stopped d u) c t h q = subst (λ (x : ℕ). T (one_of x cs)) (let e : d ≡ c = cc in e) h
  hands_number (got x) c t h q = absurd (no_answer (sym q))
