-- Laws: doubles that compare as equal and have one sign are one value; so do zeros whose reciprocals are equal.
use mathlib.Core.Path.{◌≡◌, refl, sym, ap, ap₂, ◌∙◌, subst}
use Prim.Native.Nat.{ℕ}
use mathlib.Core.Bool.{Bool, true, false, ◌||◌, beq, true≢false}
use lib.IntN.{pos}
use lib.Dec.{T, eqb, eqb→eq}
use lib.Ieee.{Float, nan, inf, fin, binary64, eq, div, fits, of_bits, nan_bits, is_nan, level}
use lib.Ieee.Fits.{and_i, and_l, and_r}
use lib.Ieee.Bits.{nan_bits_is}
use lib.Ieee.Scale.{finite}
use Rattle.binary64.specs.Value.{sign, mag}
use Rattle.binary64.specs.Units.{own}
use Rattle.binary64.specs.Scaling.{unique}
use Rattle.binary64.specs.Tests.{eq-units}
use Rattle.binary64.specs.Round.{plus_zero, plus_zero-value}

pub zero : Bool → Float
zero s = fin s 0 (pos 0)

beq→eq : (s t : Bool) → T (beq s t) → s ≡ t
beq→eq true true h = refl
beq→eq false false h = refl
beq→eq true false h = absurd h
beq→eq false true h = absurd h

first : (p q : Bool) → T (p || q) → (T q → ⊥) → T p
first true q h n = tt
first false q h n = absurd (n h)

or_r : (p q : Bool) → T q → T (p || q)
or_r true q h = tt
or_r false q h = h

module _ (x y : Float) (a : T (fits binary64 x)) (b : T (fits binary64 y)) (c : T (finite x)) (d : T (finite y)) (t : eq x y ≡ true) where
  levels : T (level (sign x) (mag binary64 x) (sign y) (mag binary64 y))
  levels =
      subst T (sym t ∙ eq-units binary64 x y (sign x) (sign y) (mag binary64 x) (mag binary64 y) (own binary64 x a c) (own binary64 y b d)) tt

  sizes : mag binary64 x ≡ mag binary64 y
  sizes =
      eqb→eq (mag binary64 x) (mag binary64 y) (and_l (eqb (mag binary64 x) (mag binary64 y)) (beq (sign x) (sign y) || eqb (mag binary64 x) 0) levels)

  signs : (T (eqb (mag binary64 x) 0) → ⊥) → sign x ≡ sign y
  signs n =
      beq→eq (sign x) (sign y)
      (first (beq (sign x) (sign y)) (eqb (mag binary64 x) 0)
      (and_r (eqb (mag binary64 x) (mag binary64 y)) (beq (sign x) (sign y) || eqb (mag binary64 x) 0) levels) n)

-- equal, and of one sign
pub alike : (x y : Float) → T (fits binary64 x) → T (fits binary64 y) → eq x y ≡ true → sign x ≡ sign y → x ≡ y
unfolding eq
alike nan y a b t p = absurd (true≢false (sym t))
alike (inf s) nan a b t p = absurd (true≢false (sym t))
alike (inf s) (inf u) a b t p = ap inf p
alike (inf s) (fin u n d) a b t p = absurd (true≢false (sym t))
alike (fin s m e) nan a b t p = absurd (true≢false (sym t))
alike (fin s m e) (inf u) a b t p = absurd (true≢false (sym t))
alike (fin s m e) (fin u n d) a b t p =
    unique binary64 (fin s m e) (fin u n d) a b tt tt p (sizes (fin s m e) (fin u n d) a b tt tt t)

-- a double of no size is 0 or -0
empty : (x : Float) → T (fits binary64 x) → T (finite x) → mag binary64 x ≡ 0 → x ≡ zero (sign x)
unfolding fits mag zero
empty x a c z = unique binary64 x (fin (sign x) 0 (pos 0)) a tt c tt refl z

-- equal, and not 0: one sign
pub nonzero : (x y : Float) → T (fits binary64 x) → T (fits binary64 y) → eq x y ≡ true → eq x plus_zero ≡ false → x ≡ y
unfolding eq
nonzero nan y a b t n = absurd (true≢false (sym t))
nonzero (inf s) nan a b t n = absurd (true≢false (sym t))
nonzero (inf s) (inf u) a b t n = ap inf (beq→eq s u (subst T (sym t) tt))
nonzero (inf s) (fin u k d) a b t n = absurd (true≢false (sym t))
nonzero (fin s m e) nan a b t n = absurd (true≢false (sym t))
nonzero (fin s m e) (inf u) a b t n = absurd (true≢false (sym t))
nonzero (fin s m e) (fin u k d) a b t n =
    let x = fin s m e in
    let A = mag binary64 x in
    alike x (fin u k d) a b t
    (signs x (fin u k d) a b tt tt t
    (λ z.
    subst T (sym (eq-units binary64 x plus_zero s false A 0 (own binary64 x a tt) (plus_zero-value binary64)) ∙ n)
    (and_i (eqb A 0) (beq s false || eqb A 0) z (or_r (beq s false) (eqb A 0) z))))

-- zeros whose reciprocals are equal
abbrev inverse : Float → Float
inverse x = div binary64 (fin false 1 (pos 0)) x

reciprocals : (s t : Bool) → T (eq (inverse (zero s)) (inverse (zero t))) → s ≡ t
unfolding eq div zero
reciprocals true true h = refl
reciprocals false false h = refl
reciprocals true false h = absurd h
reciprocals false true h = absurd h

pub zeros : (x y : Float) → T (fits binary64 x) → T (fits binary64 y) → eq x y ≡ true → eq x plus_zero ≡ true → T (eq (inverse x) (inverse y)) → x ≡ y
unfolding eq fits mag
zeros nan y a b t n h = absurd (true≢false (sym t))
zeros (inf s) y a b t n h = absurd (true≢false (sym n))
zeros (fin s m e) nan a b t n h = absurd (true≢false (sym t))
zeros (fin s m e) (inf u) a b t n h = absurd (true≢false (sym t))
zeros (fin s m e) (fin u k d) a b t n h =
    let x = fin s m e in
    let y = fin u k d in
    let none : mag binary64 x ≡ 0 = sizes x plus_zero a tt tt tt n in
    let p = empty x a tt none in
    let q = empty y b tt (sym (sizes x y a b tt tt t) ∙ none) in
    p ∙ ap zero (reciprocals s u (subst T (ap₂ (λ (v w : Float). eq (inverse v) (inverse w)) p q) h)) ∙ sym q

-- a zero's reciprocal is equal to that of the same zero
reciprocal : (s : Bool) → T (eq (inverse (zero s)) (inverse (zero s)))
unfolding eq div zero
reciprocal true = tt
reciprocal false = tt

pub zero_alike : (x y : Float) → T (fits binary64 x) → eq x plus_zero ≡ true → x ≡ y → T (eq (inverse x) (inverse y))
unfolding eq fits mag
zero_alike nan y a n p = absurd (true≢false (sym n))
zero_alike (inf s) y a n p = absurd (true≢false (sym n))
zero_alike (fin s m e) y a n p =
    let x = fin s m e in
    let q = empty x a tt (sizes x plus_zero a tt tt tt n) in
    subst (λ (w : Float). T (eq (inverse x) (inverse w))) p (subst (λ (v : Float). T (eq (inverse v) (inverse v))) (sym q) (reciprocal s))

-- a pattern's double, where the pattern is a NaN's
is_nan_lem : (x : Float) → is_nan x ≡ true → x ≡ nan
unfolding is_nan
is_nan_lem nan h = refl
is_nan_lem (inf s) h = absurd (true≢false (sym h))
is_nan_lem (fin s m e) h = absurd (true≢false (sym h))

pub nan_of : (n : ℕ) → nan_bits binary64 n ≡ true → of_bits binary64 n ≡ nan
nan_of n h = is_nan_lem (of_bits binary64 n) (sym (nan_bits_is binary64 n) ∙ h)
