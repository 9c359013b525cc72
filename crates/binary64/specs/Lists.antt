-- Lists by tests. Definitions only.
use Rattle.std.specs.Prelude.{ℕ, Bool, true, false, ◌&&◌, List, [], ◌∷◌, eqb, length, Float}
use Rattle.binary64.specs.Doubles.{nonnegative}
pub use Rattle.std.specs.List.{list_any as any, list_all as all, flat_map}

-- x in front, if the test passes
abbrev pub pick : {A : Type 0} → Bool → A → List A → List A
pick true x xs = x ∷ xs
pick false x xs = xs

-- those that pass, in their order
abbrev pub filter : {A : Type 0} → (A → Bool) → List A → List A
filter p [] = []
filter p (x ∷ xs) = pick (p x) x (filter p xs)

-- n values, finite and at least 0
abbrev pub amounts_pass : ℕ → List Float → Bool
amounts_pass n xs = eqb (length xs) n && all nonnegative xs
