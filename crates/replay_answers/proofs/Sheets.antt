-- The bytes of a sheet's words, and the parts of its line.
use Rattle.std.proofs.Common.{◌≡◌, ℕ, ◌*◌, ◌<◌, ◌≤◌, ◌&&◌, false, cond, List, [], ◌∷◌, ◌++◌, Option, Some, None, IfSome, option_and_then, option_map, leb, eqb, length, take, refl, arith, length-append}
use Rattle.std.specs.Int.{w64, to_le_bytes, div_ceil}
use Rattle.std.proofs.lemmas.List.{flat_map_more}
use Rattle.std.proofs.lemmas.Bool.{le-leb, eq-eqb}
use Rattle.replay_numbers.specs.Text.{number_of}
use Rattle.replay_answers.specs.Words.{numbers_of}
use Rattle.replay_answers.specs.Sheet.{parted_of, sheet_words, sheet_of, bytes_of}
use Rattle.replay_answers.proofs.Behind.{behind}

pub length-bytes_of : (ns : List ℕ) → length (bytes_of ns) ≡ 8 * length ns
length-bytes_of [] = refl
length-bytes_of (n ∷ ns) = grind (arith, length-append, length-bytes_of ns)

pub bytes_of_more : (ns : List ℕ) (n : ℕ) → bytes_of ns ++ to_le_bytes w64 n ≡ bytes_of (ns ++ n ∷ [])
bytes_of_more ns n = flat_map_more (to_le_bytes w64) [] ns n

-- too many words are ahead, whatever follows
pub more_behind : (most : ℕ) (ns : List ℕ) (words : List (List ℕ)) → most < length ns → IfSome (behind ns words) (λ ws. most < length ws)
more_behind most ns words h = on (numbers_of words)
  where
    on : (o : Option (List ℕ)) → IfSome (option_map (λ ms. ns ++ ms) o) (λ ws. most < length ws)
    on None = tt
    on (Some ms) = omega (arith, h, length-append ns ms)

module _ (line : List ℕ) (a b c : List ℕ × List ℕ) (count number : ℕ) (pa : parted_of line ≡ Some a) (pb : parted_of a.1 ≡ Some b) (pc : parted_of b.1 ≡ Some c)
    (na : number_of a.0 ≡ Some count) (nb : number_of b.0 ≡ Some number) where
  pub sheet_read : (words : List ℕ) → sheet_words c.0 ≡ Some words → count ≤ 65544 → length words ≡ div_ceil count 8
      → sheet_of line ≡ Some (take count (bytes_of words), number, c.1)
  unfolding sheet_of
  sheet_read words w most whole = rw (pa, pb, pc, na, nb, w, le-leb count 65544 most, eq-eqb (length words) (div_ceil count 8) whole) refl

  pub sheet_too_long : IfSome (sheet_words c.0) (λ ws. 8193 < length ws) → sheet_of line ≡ None
  unfolding sheet_of
  sheet_too_long h = rw (pa, pb, pc, na, nb) (on (sheet_words c.0) h)
    where
      on : (o : Option (List ℕ)) → IfSome o (λ ws. 8193 < length ws)
          → option_and_then {U = List ℕ × ℕ × List ℕ} (λ words. cond (leb count 65544 && eqb (length words) (div_ceil count 8)) (Some (take count (bytes_of words), number, c.1)) None) o ≡ None
      on None _ = refl
      on (Some ws) l =
          let no : (leb count 65544 && eqb (length ws) (div_ceil count 8)) ≡ false = grind (arith, l) in
          rw no refl
