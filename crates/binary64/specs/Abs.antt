-- Laws: what the arms of `abs` return, and its value.
use Rattle.std.specs.Prelude.{◌≡◌, zero, suc, ◌^◌, Bool, true, false, ◌||◌, T, ◌==◌, refl, Float}
use Rattle.std.proofs.Common.{sym, ap, ◌∙◌, subst, true≢false, eqb→eq}
use Rattle.std.specs.Bool.{beq}
use Rattle.std.specs.Float.{nan, inf, fin, Format, binary64}
use Rattle.std.specs.Float.Ieee.{low, neg, eq, lt, fits}
use Rattle.std.specs.Float.Ieee.Fits.{and_l}
use Rattle.std.specs.Float.Ieee.Exact.{HasValue}
use Rattle.std.specs.Float.Ieee.Scale.{finite}
use Rattle.binary64.specs.Value.{sign, mag}
use Rattle.binary64.specs.Units.{own, mag_of, sign_of, finite_of}
use Rattle.binary64.specs.Scaling.{unique}
use Rattle.binary64.specs.Tests.{eq-units}
use Rattle.binary64.specs.Round.{plus_zero, plus_zero-value, negative, not_negative}
use Rattle.binary64.specs.Rounding.{abs}

-- ---- the arms of `abs`
sign_neg : (x : Float) → sign (neg x) ≡ false → neg x ≡ abs x
unfolding neg abs
sign_neg nan h = refl
sign_neg (inf true) h = refl
sign_neg (inf false) h = absurd (true≢false h)
sign_neg (fin true m e) h = refl
sign_neg (fin false m e) h = absurd (true≢false h)

sign_pos : (x : Float) → sign x ≡ false → x ≡ abs x
unfolding abs
sign_pos nan h = refl
sign_pos (inf s) h = ap inf h
sign_pos (fin s m e) h = ap (λ (t : Bool). fin t m e) h

pub abs-below : (x : Float) → T (fits binary64 x) → lt x plus_zero ≡ true → neg x ≡ abs x
abs-below x a t = sign_neg x (negative binary64 x a t)

pub abs-above : (x : Float) → T (fits binary64 x) → eq x plus_zero ≡ false → lt x plus_zero ≡ false → x ≡ abs x
abs-above x a e t = sign_pos x (not_negative binary64 x a e t)

pub abs-fits : (f : Format) (x : Float) → T (fits f x) → T (fits f (abs x))
unfolding abs fits
abs-fits f nan a = tt
abs-fits f (inf s) a = tt
abs-fits f (fin s zero e) a = a
abs-fits f (fin s (suc m) e) a = a

pub abs-value : (f : Format) (x : Float) → T (fits f x) → T (finite x) → HasValue (abs x) false (mag f x) (2 ^ low f)
unfolding abs
abs-value f nan a b = absurd b
abs-value f (inf s) a b = absurd b
abs-value f (fin s m e) a b = (refl, (own f (fin s m e) a b).1)

pub abs-zero : (x : Float) → T (fits binary64 x) → eq x plus_zero ≡ true → plus_zero ≡ abs x
unfolding eq
abs-zero nan a t = absurd (true≢false (sym t))
abs-zero (inf s) a t = absurd (true≢false (sym t))
abs-zero (fin s m e) a t =
    let f = binary64 in
    let x = fin s m e in
    let A = mag f x in
    let v = abs-value f x a tt in
    let z : A ≡ 0 = eqb→eq A 0 (and_l (A == 0) (beq s false || A == 0) (subst T (sym t ∙ eq-units f x plus_zero s false A 0 (own f x a tt) (plus_zero-value f)) tt)) in
    unique f plus_zero (abs x) (lit tt) (abs-fits f x a) tt (finite_of (abs x) false A (2 ^ low f) v) (sym (sign_of (abs x) false A (2 ^ low f) v)) (mag_of f plus_zero false 0 (plus_zero-value f) ∙ sym z ∙ sym (mag_of f (abs x) false A v))
  where
    lit : Unit {0} → T (fits binary64 plus_zero)
    lit u = unfold fits in tt
