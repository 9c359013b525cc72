-- What holds of a model's body that fits.
use mathlib.Core.Path.{◌≡◌, refl, sym, subst}
use mathlib.Core.Bool.{Bool, true, false, ◌&&◌}
use mathlib.Core.List.{List}
use Prim.Native.Nat.{ℕ, ◌+◌, ◌*◌, ◌≤◌}
use borrow.Author.Tests.{leb-true, eqb-true}
use lib.Dec.{T, leb}
use lib.ListN.{length}
use Rattle.limits.specs.Limits.{most_volumes}
use Rattle.sheet_words.specs.Words.{word}
use Rattle.sheet.specs.Model.{model_fits}

pub record Fitting (m : List ℕ) : Type 0 where
  pub some : 1 ≤ word m 3
  pub few : word m 3 ≤ most_volumes
  pub whole : length m ≡ 2 * word m 3 + 3

pub model_facts : (m : List ℕ) → model_fits m ≡ true → Fitting m
unfolding model_fits
model_facts m h =
    let a = right (leb 4 (length m)) _ h in
    let b = right (leb (word m 1) 1) _ a in
    let c = right (leb 1 (word m 3)) _ b in
    record {
      some = leb-true 1 (word m 3) (left (leb 1 (word m 3)) _ b);
      few = leb-true (word m 3) most_volumes
          (left (leb (word m 3) most_volumes) _ c);
      whole = eqb-true (length m) (2 * word m 3 + 3) (right (leb (word m 3) most_volumes) _ c);
    }
  where
    left : (a b : Bool) → a && b ≡ true → a ≡ true
    left true b e = refl
    left false b e = absurd (subst T (sym e) tt)

    right : (a b : Bool) → a && b ≡ true → b ≡ true
    right true b e = e
    right false b e = absurd (subst T (sym e) tt)
