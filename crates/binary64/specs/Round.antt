-- Laws: what the arms of `round` return; and a zero's and a sign's part in it.
use Rattle.std.specs.Prelude.{◌≡◌, ℕ, suc, ◌+◌, ◌*◌, ◌/◌, ◌^◌, Bool, true, false, not, ◌&&◌, ◌||◌, T, pos, negsuc, ◌==◌, nat_lt, refl, Float}
use Rattle.std.proofs.Common.{sym, ap, ◌∙◌, subst, zero-mul, arith, true≢false, eqb→eq, ltb→lt, nltb→le, lit<, pow_pos}
use Rattle.std.specs.Bool.{beq}
use Rattle.std.specs.Float.{nan, inf, fin, Format, binary64}
use Rattle.std.specs.Float.Ieee.{low, round, add, sub, neg, eq, lt, fits}
use Rattle.std.specs.Float.Ieee.Bits.{is_true}
use Rattle.std.specs.Float.Ieee.Fits.{and_l, eq→eqb}
use Rattle.std.specs.Float.Ieee.Exact.{HasValue}
use Rattle.binary64.specs.Value.{sign, mag}
use Rattle.binary64.specs.Units.{own}
use Rattle.binary64.specs.Scaling.{two, unique}
use Rattle.binary64.specs.Tests.{lt-units, eq-units, neg_round}
use Rattle.binary64.specs.Rounding.{away, round_away}
use Rattle.binary64.specs.Away.{up_half, up_half_is, away-fits, away-finite, away-sign, away-mag}
use Rattle.binary64.specs.RoundSteps.{half, kept_nearest, one_more, under_two, above_two}

-- the code's one float constant that is no power of two
abbrev pub plus_zero : Float
plus_zero = fin false 0 (pos 0)

-- ---- what the arms of `round_positive` return, with its constants 2 ^ 52, 0.5 and 1.0
pub tie_down : (x : Float) → T (fits binary64 x) → sign x ≡ false → lt x (two 52) ≡ true → eq (sub binary64 x (sub binary64 (add binary64 x (two 52)) (two 52))) half ≡ false
    → sub binary64 (add binary64 x (two 52)) (two 52) ≡ round_away x
tie_down x a s t e = let u = under_two binary64 52 x a s t in kept_nearest binary64 51 1073 refl refl (lit< tt) x a u.0 s u.1 e

pub tie_up : (x : Float) → T (fits binary64 x) → sign x ≡ false → lt x (two 52) ≡ true → eq (sub binary64 x (sub binary64 (add binary64 x (two 52)) (two 52))) half ≡ true
    → add binary64 (sub binary64 (add binary64 x (two 52)) (two 52)) (two 0) ≡ round_away x
tie_up x a s t e = let u = under_two binary64 52 x a s t in one_more binary64 51 1073 refl refl (lit< tt) x a u.0 s u.1 e

pub large : (x : Float) → T (fits binary64 x) → sign x ≡ false → lt x (two 52) ≡ false → x ≡ round_away x
large x a s t = above_two binary64 51 x refl a s t

-- ---- the sign
not_not : (s : Bool) → not (not s) ≡ s
not_not true = refl
not_not false = refl

pub away_neg : (f : Format) (x : Float) → neg (away f (neg x)) ≡ away f x
unfolding away neg
away_neg f nan = refl
away_neg f (inf s) = ap inf (not_not s)
away_neg f (fin s m (pos k)) = ap (λ (t : Bool). fin t m (pos k)) (not_not s)
away_neg f (fin s m (negsuc k)) = let n = (2 * m + 2 ^ suc k) / 2 ^ suc (suc k) in neg_round f (not s) n 1 ∙ ap (λ (t : Bool). round f t n 1) (not_not s)

pub plus_zero-value : (f : Format) → HasValue plus_zero false 0 (2 ^ low f)
plus_zero-value f = (refl, zero-mul (2 ^ low f))

-- a zero comes back as it is, with its sign
pub at_zero : (f : Format) (x : Float) → T (fits f x) → eq x plus_zero ≡ true → x ≡ away f x
unfolding eq
at_zero f nan a t = absurd (true≢false (sym t))
at_zero f (inf s) a t = absurd (true≢false (sym t))
at_zero f (fin s m e) a t =
    let x = fin s m e in
    let A = mag f x in
    let L = 2 ^ low f in
    let z : A ≡ 0 = eqb→eq A 0 (and_l (A == 0) (beq s false || A == 0) (subst T (sym t ∙ eq-units f x plus_zero s false A 0 (own f x a tt) (plus_zero-value f)) tt)) in
    let u : up_half L A ≡ 0 = ap (λ (k : ℕ). up_half L k) z ∙ up_half_is L 0 0 (omega arith) (omega (arith, pow_pos (low f))) in
    unique f x (away f x) a (away-fits f x a) tt (away-finite f x a tt) (sym (away-sign f x a tt)) (z ∙ sym (zero-mul L) ∙ ap (λ (k : ℕ). k * L) (sym u) ∙ sym (away-mag f x a tt))

-- below zero the sign is negative
pub negative : (f : Format) (x : Float) → T (fits f x) → lt x plus_zero ≡ true → sign (neg x) ≡ false
unfolding lt neg
negative f nan a t = refl
negative f (inf true) a t = refl
negative f (inf false) a t = absurd (true≢false (sym t))
negative f (fin true m e) a t = refl
negative f (fin false m e) a t =
    let x = fin false m e in
    let A = mag f x in
    let l = ltb→lt A 0 (subst T (sym t ∙ lt-units f x plus_zero false false A 0 (own f x a tt) (plus_zero-value f)) tt) in
    absurd (let z : ⊥ = omega arith in z)

-- neither a zero nor below: the sign is not negative
pub not_negative : (f : Format) (x : Float) → T (fits f x) → eq x plus_zero ≡ false → lt x plus_zero ≡ false → sign x ≡ false
unfolding lt eq
not_negative f nan a e t = refl
not_negative f (inf true) a e t = absurd (true≢false t)
not_negative f (inf false) a e t = refl
not_negative f (fin false m d) a e t = refl
not_negative f (fin true m d) a e t =
    let x = fin true m d in
    let A = mag f x in
    let p : nat_lt 0 (A + 0) ≡ false = sym (lt-units f x plus_zero true false A 0 (own f x a tt) (plus_zero-value f)) ∙ t in
    let q : (A == 0 && (false || A == 0)) ≡ false = sym (eq-units f x plus_zero true false A 0 (own f x a tt) (plus_zero-value f)) ∙ e in
    let z : A ≡ 0 = (let g = nltb→le 0 (A + 0) (subst (λ (b : Bool). T (not b)) (sym p) tt) in omega arith) in
    absurd (true≢false (sym (ap (λ (b : Bool). b && (false || b)) (is_true (A == 0) (eq→eqb z))) ∙ q))
