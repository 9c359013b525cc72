-- What an entry gives: one of 01's numbers ("Who brought it on"), or a value.
use Rattle.std.specs.Prelude.{Bool, true, false, List, ◌++◌, ℕ, length, drop}

pub data Result (A : Type 0) : Type 0 where
  refused : ℕ → Result A
  done : A → Result A

abbrev pub and_then : {A B : Type 0} → Result A → (A → Result B) → Result B
and_then (refused n) f = refused n
and_then (done a) f = f a

-- a where the test passes, else the refusal n
abbrev pub unless : {A : Type 0} → Bool → ℕ → A → Result A
unless false n a = refused n
unless true n a = done a

-- the refusal's number; 0 stands for none
abbrev pub number : {A : Type 0} → Result A → ℕ
number (refused n) = n
number (done a) = 0

-- the value, or what stands for it at a refusal
abbrev pub value_or : {A : Type 0} → Result A → A → A
value_or (refused n) z = z
value_or (done a) z = a

-- what a lent slice holds: the value from the front and the old cells behind it; all old cells at a refusal
abbrev pub slice_at_exit : {A : Type 0} → Result (List A) → List A → List A
slice_at_exit (refused n) old = old
slice_at_exit (done xs) old = xs ++ drop (length xs) old
