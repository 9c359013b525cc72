-- A finite sum or product has finite operands, and a finite quotient a finite dividend.
use mathlib.Core.Bool.{Bool, true, false, beq, cond}
use lib.Dec.{T, eqb}
use lib.Ieee.{Float, nan, inf, fin, Format, add, mul, div, unlike}
use lib.Ieee.Scale.{finite}

no_sum : (b s : Bool) → T (finite (cond b (inf s) nan)) → ⊥
no_sum true s h = h
no_sum false s h = h

no_product : (b s : Bool) → T (finite (cond b nan (inf s))) → ⊥
no_product true s h = h
no_product false s h = h

pub finite_add : (f : Format) (x y : Float) → T (finite (add f x y)) → T (finite x) × T (finite y)
unfolding add
finite_add f nan y h = absurd h
finite_add f (inf s) nan h = absurd h
finite_add f (inf s) (inf t) h = absurd (no_sum (beq s t) s h)
finite_add f (inf s) (fin t n d) h = absurd h
finite_add f (fin s m e) nan h = absurd h
finite_add f (fin s m e) (inf t) h = absurd h
finite_add f (fin s m e) (fin t n d) h = (tt, tt)

pub finite_mul : (f : Format) (x y : Float) → T (finite (mul f x y)) → T (finite x) × T (finite y)
unfolding mul
finite_mul f nan y h = absurd h
finite_mul f (inf s) nan h = absurd h
finite_mul f (inf s) (inf t) h = absurd h
finite_mul f (inf s) (fin t n d) h = absurd (no_product (eqb n 0) (unlike s t) h)
finite_mul f (fin s m e) nan h = absurd h
finite_mul f (fin s m e) (inf t) h = absurd (no_product (eqb m 0) (unlike s t) h)
finite_mul f (fin s m e) (fin t n d) h = (tt, tt)

pub finite_div : (f : Format) (x y : Float) → T (finite (div f x y)) → T (finite x)
unfolding div
finite_div f nan y h = absurd h
finite_div f (inf s) nan h = absurd h
finite_div f (inf s) (inf t) h = absurd h
finite_div f (inf s) (fin t n d) h = absurd h
finite_div f (fin s m e) y h = tt
