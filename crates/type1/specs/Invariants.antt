-- Laws: what is so of the state that a run from `start` leaves (`Outcomes.ends_going` and `ends_ending` give it for the state itself).
--     run-points    points drawn and operands held are together at most the bytes run, and those are at most 1,048,576
--     run-finite    every number and point is finite
--     run-whole     if no div ran, every number and point is whole
--     run-placed    the groups' numbers rise strictly and are below the number of entries drawn
--     run_not_returning    a run goes on to its end, ends the glyph, or is refused
use Rattle.std.specs.Prelude.{ℕ, suc, ◌+◌, ◌*◌, ◌/◌, ◌^◌, ◌≤◌, ◌≡◌, refl, Bool, true, false, List, leb, length, ℤ, pos, negsuc, nat_abs, Float}
use Rattle.std.proofs.Common.{le_trans, mul-one, mul_right_comm, mul-div_cancel, arith, sym, ap, ◌∙◌, subst, true≢false, lit≤}
use Rattle.std.specs.Float.{nan, inf, fin, binary64, Format}
use Rattle.std.specs.Float.Ieee.{low, up, down, round, of_int}
use Rattle.std.specs.Float.Ieee.Back.{round_whole}
use Rattle.std.specs.Float.Ieee.Exact.{HasValue}
use Rattle.std.specs.Float.Ieee.Fits.{down_pos, div-fits}
use Rattle.binary64.specs.Value.{mag, Multiple, Whole}
use Rattle.binary64.specs.Whole.{add-whole}
use Rattle.charstring.specs.Cipher.{Bytes, max_charstring_bytes}
use Rattle.type1.specs.Number.{double}
use Rattle.outline.specs.Outline.{plus_zero}
use Rattle.type1.specs.State.{State, start, with_ran}
use Rattle.type1.specs.Run.{Limits, Outcome, going, returning, ending, refused, and_then, check, Font, charge, returned, run_body, run}
use Rattle.type1.specs.Sound.{All, Numbers, Sound, Fine, Ends, Outermost, Kept, Holding, points_of, Weighs, Rising, Placed}
use Rattle.type1.specs.Outcomes.{weaken_ends}
use Rattle.type1.specs.KeptLaws.{numbers-map, kept_stable}
use Rattle.type1.specs.StableLaws.{run_ends}
use Rattle.type1.specs.SoundLaws.{zero_good, fifty_good, sum_good, double_good, start_sound, run_sound}
use Rattle.type1.specs.WeightLaws.{run_weighs}

-- ---- a run is over once it returns
returned_outermost : (o : Outcome) → Outermost (returned o)
returned_outermost (going s) = tt
returned_outermost (returning s) = tt
returned_outermost (ending s) = tt
returned_outermost (refused n) = tt

charged_outermost : (b : Bool) (s : State) (deep : State → Outcome) → Outermost (and_then (check b 3 (going s)) (λ t. returned (deep t)))
charged_outermost true s deep = returned_outermost (deep s)
charged_outermost false s deep = tt

pub run_outermost : (lim : Limits) (f : Font) (l : List ℕ) (s : State) → Outermost (run lim f l s)
unfolding run charge
run_outermost lim f l s = charged_outermost (leb (s.ran + length l) max_charstring_bytes) (with_ran (s.ran + length l) s) (λ t. run_body lim f _ l t)

pub run_not_returning : (lim : Limits) (f : Font) (l : List ℕ) (s t : State) → run lim f l s ≡ returning t → ⊥
run_not_returning lim f l s t e = subst Outermost e (run_outermost lim f l s)

-- ---- a number of a charstring is whole
valued_whole : (f : Format) (x : Float) (s : Bool) (n : ℕ) → HasValue x s n 1 → Whole f x
unfolding Multiple mag
valued_whole f nan s n h = absurd h
valued_whole f (inf t) s n h = absurd h
valued_whole f (fin t m e) s n h =
    let p = 2 ^ low f in
    let q : m * up e ≡ n * down e = sym (mul-one (m * up e)) ∙ h.1 in
    (n, ap (λ (z : ℕ). z * p / down e) q ∙ ap (λ (z : ℕ). z / down e) (mul_right_comm n (down e) p) ∙ mul-div_cancel (n * p) (down_pos e))

double-whole : (z : ℤ) → nat_abs z ≤ 4294967296 → Whole binary64 (double z)
unfolding of_int
double-whole (pos n) h = valued_whole binary64 (round binary64 false n 1) false n (round_whole binary64 false n (le_trans h (lit≤ tt)))
double-whole (negsuc n) h = valued_whole binary64 (round binary64 true (suc n) 1) true (suc n) (round_whole binary64 true (suc n) (le_trans h (lit≤ tt)))

-- ---- finite, and whole unless a div ran
zero-whole : Whole binary64 plus_zero
unfolding Multiple mag
zero-whole = (0, refl)

fifty_whole : Whole binary64 (fin false 25 (pos 1))
unfolding Multiple mag
fifty_whole = (50, refl)

fine-kept : Kept Fine
fine-kept = record {
  sums = λ d. record {
    nothing = (zero_good, λ e. zero-whole);
    fifty = (fifty_good, λ e. fifty_whole);
    sum = λ x y a b t. (sum_good x y t, λ e. add-whole binary64 x y a.0.fit a.0.fine b.0.fit b.0.fine (a.1 e) (b.1 e) t);
  };
  integer = λ d z h. (double_good z h, λ e. double-whole z h);
  quotient = λ d x y a b t. (record { fit = div-fits binary64 x y; fine = t }, λ e. absurd (true≢false e));
  more = λ d x a. (a.0, λ e. absurd (true≢false e));
}

start_fine : Holding Fine start
unfolding All
start_fine =
    let z : Fine false plus_zero = (zero_good, λ e. zero-whole) in
    record { operands = tt; postscript = tt; point = (z, z); bearing = (z, z); width = z; flexing = tt; hints = tt; groups = tt; drawn = tt }

start_weighs : Weighs 0 start
unfolding points_of Rising
start_weighs = record { below = omega arith; ran = omega arith; placed = tt }

module _ (lim : Limits) (f : Font) (l : List ℕ) where
  pub run-points : Ends (λ t. (points_of t.drawn + length t.operands ≤ t.ran) × (t.ran ≤ 1048576)) (run lim f l start)
  run-points = weaken_ends (Weighs 0) _ (run lim f l start) (λ t w. let b = w.below in (omega arith, w.ran)) (run_weighs lim f 0 l start start_weighs)

  pub run-placed : Ends Placed (run lim f l start)
  run-placed = weaken_ends (Weighs 0) Placed (run lim f l start) (λ t w. w.placed) (run_weighs lim f 0 l start start_weighs)

  module _ (bank : Bytes f.bank) (bytes : Bytes l) where
    pub run-finite : Ends Sound (run lim f l start)
    run-finite = run_sound lim f bank l start bytes start_sound

    pub run-whole : Ends (λ t. t.divided ≡ false → Numbers (Whole binary64) t) (run lim f l start)
    run-whole =
        weaken_ends (Holding Fine) _ (run lim f l start) (λ t q e. numbers-map (Fine t.divided) (Whole binary64) (λ x a. a.1 e) t q)
        (run_ends lim (Holding Fine) (kept_stable Fine fine-kept lim) f bank l start bytes start_fine)
