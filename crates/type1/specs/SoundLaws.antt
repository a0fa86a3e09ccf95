-- Laws: from a state whose every number is a finite double, each step and the run leave such a state. A run needs that the charstring and the bank are lists of bytes: a larger number could overflow.
use Rattle.std.specs.Prelude.{ℕ, suc, ◌≤◌, refl, Bool, true, false, List, T, ℤ, pos, negsuc, nat_abs, Float}
use Rattle.std.proofs.Common.{le_trans, lit≤}
use Rattle.std.specs.Float.{fin, binary64}
use Rattle.std.specs.Float.Ieee.{round, fits, add, of_int}
use Rattle.std.specs.Float.Ieee.Back.{round_whole}
use Rattle.std.specs.Float.Ieee.Fits.{add-fits, div-fits, of_int-fits}
use Rattle.std.specs.Float.Ieee.Scale.{finite}
use Rattle.binary64.specs.Units.{finite_of}
use Rattle.charstring.specs.Cipher.{Bytes}
use Rattle.type1.specs.Operator.{Operator}
use Rattle.type1.specs.Number.{double}
use Rattle.outline.specs.Outline.{plus_zero}
use Rattle.type1.specs.State.{State, start}
use Rattle.type1.specs.Memory.{Good}
use Rattle.type1.specs.Run.{Limits, Outcome, push, Font, call_subr, execute, run_bytes, run_body, run}
use Rattle.type1.specs.Sound.{All, Sound, SoundOut, Ends, Sums, Kept, Held, Stable}
use Rattle.type1.specs.Outcomes.{weaken_ends}
use Rattle.type1.specs.KeptLaws as kept
use Rattle.type1.specs.StableLaws as stable

-- ---- numbers
pub zero_good : Good plus_zero
unfolding fits
zero_good = record { fit = tt; fine = tt }

pub fifty_good : Good (fin false 25 (pos 1))
unfolding fits
fifty_good = record { fit = tt; fine = tt }

-- a sum that is finite
pub sum_good : (x y : Float) → T (finite (add binary64 x y)) → Good (add binary64 x y)
sum_good x y t = record { fit = add-fits binary64 x y; fine = t }

round_fine : (s : Bool) (n : ℕ) → n ≤ 4294967296 → T (finite (round binary64 s n 1))
round_fine s n h = finite_of (round binary64 s n 1) s n 1 (round_whole binary64 s n (le_trans h (lit≤ tt)))

double-fine : (z : ℤ) → nat_abs z ≤ 4294967296 → T (finite (double z))
unfolding of_int
double-fine (pos n) h = round_fine false n h
double-fine (negsuc n) h = round_fine true (suc n) h

pub double_good : (z : ℤ) → nat_abs z ≤ 4294967296 → Good (double z)
double_good z h = record { fit = of_int-fits binary64 z; fine = double-fine z h }

sums : Sums Good
sums = record { nothing = zero_good; fifty = fifty_good; sum = λ x y a b t. sum_good x y t }

pub good_kept : Kept (λ d. Good)
good_kept = record {
  sums = λ d. sums;
  integer = λ d z h. double_good z h;
  quotient = λ d x y a b t. record { fit = div-fits binary64 x y; fine = t };
  more = λ d x g. g;
}

-- ---- steps
pub start_sound : Sound start
unfolding All
start_sound = record {
  operands = tt;
  postscript = tt;
  point = (zero_good, zero_good);
  bearing = (zero_good, zero_good);
  width = zero_good;
  flexing = tt;
  hints = tt;
  groups = tt;
  drawn = tt;
}

plain : (d : Bool) (o : Outcome) → Ends (Held d Good) o → SoundOut o
plain d o = weaken_ends (Held d Good) Sound o (λ s q. q.1)

module _ (lim : Limits) where
  pub push_sound : (v : Float) (s : State) → Sound s → Good v → SoundOut (push lim v s)
  push_sound v s q g = plain s.divided (push lim v s) (kept.push_kept s.divided Good sums lim v s (refl, q) g)

  -- ---- the run
  pub sound_stable : Stable lim Sound
  sound_stable = kept.kept_stable (λ d. Good) good_kept lim

  pub call_subr_sound : (f : Font) (deep : List ℕ → State → Outcome) → Bytes f.bank → ((l : List ℕ) (s : State) → Bytes l → Sound s → SoundOut (deep l s)) → (s : State) → Sound s → SoundOut (call_subr f deep s)
  call_subr_sound = stable.call_subr_ends lim Sound sound_stable

  pub execute_sound :
      (f : Font) (deep : List ℕ → State → Outcome) → Bytes f.bank → ((l : List ℕ) (s : State) → Bytes l → Sound s → SoundOut (deep l s)) → (o : Operator) (s : State) → Sound s → SoundOut (execute lim f deep o s)
  execute_sound = stable.execute_ends lim Sound sound_stable

  pub run_bytes_sound : (g : Operator → State → Outcome) → ((o : Operator) (s : State) → Sound s → SoundOut (g o s)) → (l : List ℕ) (m : ℕ) (s : State) → Bytes l → Sound s → SoundOut (run_bytes lim g l m s)
  run_bytes_sound = stable.run_bytes_ends lim Sound sound_stable

  pub run_body_sound : (f : Font) → Bytes f.bank → (n : ℕ) (l : List ℕ) (s : State) → Bytes l → Sound s → SoundOut (run_body lim f n l s)
  run_body_sound = stable.run_body_ends lim Sound sound_stable

  pub run_sound : (f : Font) → Bytes f.bank → (l : List ℕ) (s : State) → Bytes l → Sound s → SoundOut (run lim f l s)
  run_sound = stable.run_ends lim Sound sound_stable
