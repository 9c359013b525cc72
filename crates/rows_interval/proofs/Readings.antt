-- The readings of an interval, sample by sample.
use mathlib.Core.Path.{◌≡◌, refl, sym, ap, ap₂, ◌∙◌, subst}
use Prim.Native.Nat.{ℕ, ◌+◌, ◌<◌, ◌≤◌}
use native.Mathlib.Numerals.{add-one}
use native.Mathlib.Omega.{arith}
use mathlib.Core.Bool.{Bool, true, false, ◌&&◌}
use mathlib.Core.List.{List, [], ◌∷◌, ◌++◌, map, map-append, append-nil}
use lib.ListN.{length, get_or, take, drop, take-append-drop}
use lib.Seq.{take-suc}
use lib.Ieee.{Float, nan, lt}
use Rattle.binary64.specs.Lists.{pick, filter}
use Rattle.protocol.specs.Events.{inside}
use Rattle.protocol.specs.Schedule.{Step, reading}
use Rattle.protocol.specs.Execute.{Propagator}
use Rattle.rows.specs.Written.{Cells}
use Rattle.std.specs.Prelude.{Ok, Err}
use Rattle.rows.specs.Standing.{Ran, Fits}
use Rattle.rows.specs.declared.Progress.{Progress}
use Rattle.rows.specs.declared.Stopped.{Stopped}
use Rattle.rows.proofs.Parts.{ran-nothing, ran_then, ran-stops, fits_first, fits_then}

filter-append : {A : Type 0} (p : A → Bool) (xs ys : List A) → filter p (xs ++ ys) ≡ filter p xs ++ filter p ys
filter-append p [] ys = refl
filter-append {A} p (x ∷ xs) ys = on (p x) (filter-append p xs ys)
  where
    on : (b : Bool) → filter p (xs ++ ys) ≡ filter p xs ++ filter p ys → pick b x (filter p (xs ++ ys)) ≡ pick b x (filter p xs) ++ filter p ys
    on true h = ap (◌∷◌ x) h
    on false h = h

module _ (t : Float) (r : List Float) (u : Float) where
  abbrev reads : List Float → List Step
  reads ss = map (reading t r) (inside t u ss)

  reads_append : (xs ys : List Float) → reads (xs ++ ys) ≡ reads xs ++ reads ys
  reads_append xs ys = ap (map (reading t r)) (filter-append (λ (s : Float). lt t s && lt s u) xs ys) ∙ map-append (reading t r) (inside t u xs) (inside t u ys)

  -- the first k samples
  abbrev reads_to : List Float → ℕ → List Step
  reads_to ss k = reads (take k ss)

  module _ (ss : List Float) (k : ℕ) (l : k < length ss) where
    reads_more : reads_to ss (k + 1) ≡ reads_to ss k ++ reads (get_or ss k nan ∷ [])
    reads_more = ap (λ (j : ℕ). reads_to ss j) (add-one k) ∙ ap reads (take-suc ss k nan l) ∙ reads_append (take k ss) (get_or ss k nan ∷ [])

    reads_whole : reads ss ≡ (reads_to ss k ++ reads (get_or ss k nan ∷ [])) ++ reads (drop (k + 1) ss)
    reads_whole =
        ap reads (sym (take-append-drop (k + 1) ss)) ∙ reads_append (take (k + 1) ss) (drop (k + 1) ss)
        ∙ ap (λ (x : List Step). x ++ reads (drop (k + 1) ss)) reads_more

    one_read : lt t (get_or ss k nan) ≡ true → lt (get_or ss k nan) u ≡ true → reads (get_or ss k nan ∷ []) ≡ reading t r (get_or ss k nan) ∷ []
    one_read e f = ap₂ (λ (b c : Bool). map (reading t r) (pick (b && c) (get_or ss k nan) [])) e f

    early : lt t (get_or ss k nan) ≡ false → reads (get_or ss k nan ∷ []) ≡ []
    early e = ap (λ (b : Bool). map (reading t r) (pick (b && lt (get_or ss k nan) u) (get_or ss k nan) [])) e

    late : lt t (get_or ss k nan) ≡ true → lt (get_or ss k nan) u ≡ false → reads (get_or ss k nan ∷ []) ≡ []
    late e f = ap₂ (λ (b c : Bool). map (reading t r) (pick (b && c) (get_or ss k nan) [])) e f

-- k samples are through
pub record Through (advance : Propagator) (n : ℕ) (start : Progress) (t : Float) (r : List Float) (u : Float) (ss : List Float)
    (old : Cells) (p : Progress) (k : ℕ) (c : Cells) : Type 0 where
  pub below : k ≤ length ss
  pub ran : Ran advance n start (reads_to t r u ss k) old (Ok p) c

module _ {advance : Propagator} {n : ℕ} {t : Float} {r : List Float} {u : Float} {ss : List Float} {old : Cells} where
  pub through_none : (start : Progress) → Through advance n start t r u ss old start 0 old
  through_none start = record { below = omega arith; ran = ran-nothing start old }

  module _ {start p : Progress} {k : ℕ} {c : Cells} (h : Through advance n start t r u ss old p k c) where
    module _ (l : k < length ss) where
      passed : reads t r u (get_or ss k nan ∷ []) ≡ [] → Through advance n start t r u ss old p (k + 1) c
      passed e = record {
        below = omega arith;
        ran =
            subst (λ (x : List Step). Ran advance n start x old (Ok p) c) (sym (reads_more t r u ss k l
            ∙ ap (λ (x : List Step). reads_to t r u ss k ++ x) e ∙ append-nil (reads_to t r u ss k))) h.ran;
      }

      pub through_early : lt t (get_or ss k nan) ≡ false → Through advance n start t r u ss old p (k + 1) c
      through_early e = passed (early t r u ss k l e)

      pub through_late : lt t (get_or ss k nan) ≡ true → lt (get_or ss k nan) u ≡ false → Through advance n start t r u ss old p (k + 1) c
      through_late e f = passed (late t r u ss k l e f)

      module _ (e : lt t (get_or ss k nan) ≡ true) (f : lt (get_or ss k nan) u ≡ true) where
        one : reading t r (get_or ss k nan) ∷ [] ≡ reads t r u (get_or ss k nan ∷ [])
        one = sym (one_read t r u ss k l e f)

        pub through_fits : Fits n start (map (reading t r) (inside t u ss)) old → Fits n p (reading t r (get_or ss k nan) ∷ []) c
        through_fits g =
            fits_then (reads_to t r u ss k) (reading t r (get_or ss k nan) ∷ [])
            (fits_first (reads_to t r u ss k ++ (reading t r (get_or ss k nan) ∷ [])) (reads t r u (drop (k + 1) ss))
            (subst (λ (x : List Step). Fits n start x old) (reads_whole t r u ss k l
            ∙ ap (λ (x : List Step). (reads_to t r u ss k ++ x) ++ reads t r u (drop (k + 1) ss)) (sym one)) g)) h.ran

        pub through_stops : {z : Stopped} {d : Cells} → Ran advance n p (reading t r (get_or ss k nan) ∷ []) c (Err z) d
            → Ran advance n start (map (reading t r) (inside t u ss)) old (Err z) d
        through_stops {z} {d} g =
            subst (λ (x : List Step). Ran advance n start x old (Err z) d) (sym (reads_whole t r u ss k l))
            (ran-stops (reads t r u (drop (k + 1) ss))
            (subst (λ (x : List Step). Ran advance n start (reads_to t r u ss k ++ x) old (Err z) d) one (ran_then h.ran g)))

        pub through_more : {q : Progress} {d : Cells} → Ran advance n p (reading t r (get_or ss k nan) ∷ []) c (Ok q) d
            → Through advance n start t r u ss old q (k + 1) d
        through_more {q} {d} g =
            record {
              below = omega arith;
              ran =
                  subst (λ (x : List Step). Ran advance n start x old (Ok q) d) (sym (reads_more t r u ss k l))
                  (subst (λ (x : List Step). Ran advance n start (reads_to t r u ss k ++ x) old (Ok q) d) one (ran_then h.ran g));
            }
