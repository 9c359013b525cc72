-- The numbers of a line's words, those read so far in front.
use Rattle.std.proofs.Common.{◌≡◌, ℕ, ◌+◌, ◌<◌, ◌≤◌, false, List, [], ◌∷◌, ◌++◌, Option, Some, None, leb, option_map, length, get_or, drop, refl, sym, ap, ◌∙◌, arith, length-append}
use Rattle.std.proofs.lemmas.List.{append_assoc, append-nil, at_drop_more}
use Rattle.std.proofs.lemmas.Bool.{le-leb}
use Rattle.replay_numbers.specs.Text.{number_of}
use Rattle.replay_answers.specs.Words.{numbers_of, at_most_long}

abbrev pub behind : List ℕ → List (List ℕ) → Option (List ℕ)
behind ns words = option_map (λ ms. ns ++ ms) (numbers_of words)

pub behind_none_read : (words : List (List ℕ)) → behind [] words ≡ numbers_of words
behind_none_read words = on (numbers_of words)
  where
    on : (o : Option (List ℕ)) → option_map (λ ms. [] ++ ms) o ≡ o
    on None = refl
    on (Some ms) = refl

pub behind_all : (ns : List ℕ) → behind ns [] ≡ Some ns
unfolding numbers_of
behind_all ns = ap Some (append-nil ns)

pub behind_more : (ns : List ℕ) (words : List (List ℕ)) (k n : ℕ) (w : List ℕ)
    → (k < length words) × (w ≡ get_or words k w) → number_of w ≡ Some n
    → behind ns (drop k words) ≡ behind (ns ++ n ∷ []) (drop (k + 1) words)
unfolding numbers_of
behind_more ns words k n w h e =
    at_drop_more (behind ns) words k w h.0 ∙ rw (← h.1, e) (on (numbers_of (drop (k + 1) words)))
  where
    on : (o : Option (List ℕ)) → option_map (λ ms. ns ++ ms) (option_map (◌∷◌ n) o) ≡ option_map (λ ms. (ns ++ n ∷ []) ++ ms) o
    on None = refl
    on (Some ms) = ap Some (sym (append_assoc ns (n ∷ []) ms))

pub behind_stops : (ns : List ℕ) (words : List (List ℕ)) (k : ℕ) (w : List ℕ)
    → (k < length words) × (w ≡ get_or words k w) → number_of w ≡ None
    → behind ns (drop k words) ≡ None
unfolding numbers_of
behind_stops ns words k w h e = at_drop_more (behind ns) words k w h.0 ∙ rw (← h.1, e) refl

-- n numbers are no more than n; those of a list that is longer are
pub within : (n : ℕ) (ns : List ℕ) → length ns ≤ n → at_most_long n (Some ns) ≡ Some ns
unfolding at_most_long
within n ns h = rw (le-leb (length ns) n h) refl

pub too_long : (n : ℕ) (ns : List ℕ) (words : List (List ℕ)) → n < length ns → at_most_long n (behind ns words) ≡ None
unfolding at_most_long
too_long n ns words h = on (numbers_of words)
  where
    on : (o : Option (List ℕ)) → at_most_long n (option_map (λ ms. ns ++ ms) o) ≡ None
    on None = refl
    on (Some ms) =
        let t : leb (length (ns ++ ms)) n ≡ false = grind (arith, h, length-append) in
        rw t refl

pub none_long : (n : ℕ) → at_most_long n None ≡ None
unfolding at_most_long
none_long n = refl
