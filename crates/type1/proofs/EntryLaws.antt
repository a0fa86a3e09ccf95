-- What the entry's walk says of a whole run: nothing here speaks of code. Assumes nothing.
use mathlib.Core.Path.{◌≡◌, refl, sym, ◌∙◌, ap, subst}
use Prim.Native.Nat.{ℕ, zero, suc, ◌+◌, ◌≤◌, ◌<◌}
use native.Mathlib.Omega.{arith}
use native.Mathlib.Nat.{zero-add}
use mathlib.Core.Bool.{Bool, true, false, not, cond}
use mathlib.Core.List.{List, []}
use lib.ListN.{length, get_or, replicate, length-replicate}
use lib.Dec.{T, eqb, eqb→eq, leb, leb→le}
use lib.Ieee.{Float, nan}
use Rattle.charstring.specs.Cipher.{Bytes, max_charstring_bytes}
use Rattle.bank.specs.Bank.{Valid, valid}
use Rattle.bank.specs.Call.{refused_before}
use Rattle.bank.specs.Laws.{valid_is}
use Rattle.outline.specs.declared.Stem.{Stem}
use Rattle.type1.specs.declared.St.{St}
use Rattle.type1.specs.declared.Reading.{Reading}
use Rattle.type1.specs.declared.Ran.{Ran}
use Rattle.type1.specs.declared.Interpreted.{Interpreted}
use Rattle.outline.specs.Outline.{plus_zero, stem_count, pick, zero_stem}
use Rattle.outline.specs.Store.{drawn_in, groups_in}
use Rattle.type1.specs.State.{State, start, with_ran}
use Rattle.type1.specs.Run.{within, limits_of, font_of, Outcome, going, returning, ending, refused, check, and_then, returned, charge, run_body, run}
use Rattle.type1.specs.Memory.{Mem, stems_at, abs, Fit, Holds, Meets}
use Rattle.type1.specs.Small.{ran_of}
use Rattle.type1.specs.Sound.{Ends, Outermost, Sound}
use Rattle.type1.specs.SoundLaws.{start_sound, sound_stable}
use Rattle.type1.specs.Invariants.{run_outermost, run-finite}
use Rattle.type1.specs.Cycle.{mem_of, Ready, limits_in, MeetsFrom, run_d}
use Rattle.type1.specs.Entry.{zero_st, start_flow, number_of, answer_of, Cleared}
use Rattle.type1.specs.Interpret.{source_of, outcome, Left, refused_with, Leaves}

-- ---- the state before the first byte
held_start : (n : ℕ) (m : Mem) → m.cells ≡ replicate 17 plus_zero → abs (zero_st n) m ≡ with_ran n start
unfolding abs drawn_in groups_in stems_at
held_start n m e = ap (λ (l : List Float). record { operands = []; postscript = []; point = start.point; bearing = record { x = get_or l 14 nan; y = get_or l 15 nan }; width = get_or l 16 nan; opened = false; flexing = start.flexing; hints = []; changed = false; groups = []; drawn = []; divided = false; ran = n }) e

-- ---- before the run
starts : (b c : Bool) → ◌≡◌ {A = ℕ} (cond b (cond c 0 3) 2) 0 → (b ≡ true) × (c ≡ true)
starts true true e = (refl, refl)
starts true false e = absurd (let z : ⊥ = omega (arith, e) in z)
starts false c e = absurd (let z : ⊥ = omega (arith, e) in z)

not_zero : (n : ℕ) → T (not (eqb n 0)) → n ≡ 0 → ⊥
not_zero n h e = subst (λ (k : ℕ). T (not (eqb k 0))) e h

module _ (charstring bank : List ℕ) where
  -- the bank is valid, and the charstring has no byte too many
  pub begins : start_flow charstring bank ≡ 0 → (valid bank ≡ true) × (leb (length charstring) max_charstring_bytes ≡ true)
  unfolding start_flow refused_before
  begins e = starts (valid bank) (leb (length charstring) max_charstring_bytes) e

  -- how a run begins
  pub flow_is : (r : Ran) (z : St) (f : ℕ) → r ≡ ran_of z f → z ≡ zero_st (length charstring) → f ≡ refused_before bank (length charstring) → r ≡ ran_of (zero_st (length charstring)) (start_flow charstring bank)
  unfolding start_flow
  flow_is r z f e ez ef = e ∙ ap (λ (t : St). ran_of t f) ez ∙ ap (ran_of (zero_st (length charstring))) ef

  module _ (reading : Reading) where
    stays_out : (b c : Bool) (records words : ℕ) → valid bank ≡ b → leb (length charstring) max_charstring_bytes ≡ c → (◌≡◌ {A = ℕ} (cond b (cond c 0 3) 2) 0 → ⊥) → outcome (source_of charstring bank) reading records words ≡ refused (cond b (cond c 0 3) 2)
    unfolding outcome run charge
    stays_out true true records words e f h = absurd (h refl)
    stays_out true false records words e f h =
        ap (λ (b : Bool). check b 2 (run (limits_of reading (within records words)) (font_of bank reading) charstring start)) e
        ∙ ap (λ (b : Bool). and_then (check b 3 (going (with_ran (0 + length charstring) start))) (λ t. returned (run_body (limits_of reading (within records words)) (font_of bank reading) 11 charstring t))) (ap (λ (n : ℕ). leb n max_charstring_bytes) (zero-add (length charstring)) ∙ f)
    stays_out false c records words e f h = ap (λ (b : Bool). check b 2 (run (limits_of reading (within records words)) (font_of bank reading) charstring start)) e

    -- a run that does not begin is refused
    pub not_begun : (b : Ran) (records words : ℕ) → b ≡ ran_of (zero_st (length charstring)) (start_flow charstring bank) → T (not (eqb b.flow 0)) → outcome (source_of charstring bank) reading records words ≡ refused b.flow
    unfolding start_flow refused_before
    not_begun b records words e h =
        let is : b.flow ≡ start_flow charstring bank = ap (λ (r : Ran). r.flow) e in
        stays_out (valid bank) (leb (length charstring) max_charstring_bytes) records words refl refl (λ z. not_zero b.flow h (is ∙ z)) ∙ ap refused (sym is)

    -- a run that begins is the byte runner's, ten levels deep
    pub begun : (m : Mem) → start_flow charstring bank ≡ 0 → outcome (source_of charstring bank) reading (length m.stems) (length m.cmds) ≡ (run_d bank reading 10 charstring (zero_st (length charstring)) m).does (with_ran (length charstring) start)
    unfolding outcome run charge
    begun m e =
        ap (λ (b : Bool). check b 2 (run (limits_in reading m) (font_of bank reading) charstring start)) (begins e).0
        ∙ ap (λ (b : Bool). and_then (check b 3 (going (with_ran (0 + length charstring) start))) (λ t. returned (run_body (limits_in reading m) (font_of bank reading) 11 charstring t))) (ap (λ (n : ℕ). leb n max_charstring_bytes) (zero-add (length charstring)) ∙ (begins e).1)
        ∙ ap (λ (n : ℕ). returned (run_body (limits_in reading m) (font_of bank reading) 11 charstring (with_ran n start))) (zero-add (length charstring))

    -- what is so of every outcome
    outermost : (records words : ℕ) → Outermost (outcome (source_of charstring bank) reading records words)
    unfolding outcome
    outermost records words = go (valid bank)
      where
        go : (b : Bool) → Outermost (check b 2 (run (limits_of reading (within records words)) (font_of bank reading) charstring start))
        go true = run_outermost (limits_of reading (within records words)) (font_of bank reading) charstring start
        go false = tt

    finite_ends : Bytes charstring → Bytes bank → (records words : ℕ) → Ends Sound (outcome (source_of charstring bank) reading records words)
    unfolding outcome
    finite_ends h k records words = go (valid bank)
      where
        go : (b : Bool) → Ends Sound (check b 2 (run (limits_of reading (within records words)) (font_of bank reading) charstring start))
        go true = run-finite (limits_of reading (within records words)) (font_of bank reading) charstring k h
        go false = tt

-- ---- after the run
left : (t : St) (m : Mem) (s : State) → Holds t m s → Sound s → Left (answer_of t m.cells) m.cmds m.stems s
unfolding abs
left t m s h k = record {
  number = refl;
  width = ap (λ (u : State). u.width) h.is;
  ran = ap (λ (u : State). u.ran) h.is;
  drawn = ap (λ (u : State). u.drawn) h.is;
  groups = ap (λ (u : State). u.groups) h.is;
  entries = sym h.fit.entries ∙ ap (λ (n : ℕ). length (drawn_in t.entries m.cmds) + n) (sym h.fit.groups) ∙ ap (λ (u : State). length u.drawn + length u.groups) h.is;
  records = sym h.fit.used ∙ ap (λ (u : State). stem_count u.groups) h.is;
  words_within = h.fit.bounds.entries;
  records-within = h.fit.stems;
  below = h.fit.below;
  sound = k;
}

-- a refusal's number is 3 or more
its_own : (n : ℕ) → 3 ≤ n → number_of n ≡ n
its_own n l = not_picked (eqb n 2) 0 n (λ h. let z : ⊥ = omega (arith, l, eqb→eq n 2 h) in z)
  where
    not_picked : (b : Bool) (x y : ℕ) → (T b → ⊥) → pick b x y ≡ y
    not_picked true x y h = absurd (h tt)
    not_picked false x y h = refl

is_zero : (n : ℕ) → T (not (not (eqb n 0))) → n ≡ 0
is_zero n h = eqb→eq n 0 (once (eqb n 0) h)
  where
    once : (b : Bool) → T (not (not b)) → T b
    once true _ = tt
    once false h = absurd h

module _ (r : Ran) (m : Mem) (commands : List ℕ) (stems : List Stem) where
  -- not refused
  pub answered : (o : Outcome) → Outermost o → Ends Sound o → Meets r m o → T (not (not (eqb (number_of r.flow) 0))) → Leaves (answer_of r.st m.cells) m.cmds m.stems commands stems o
  answered (going s) a k h g = left r.st m s h.1 k
  answered (ending s) a k h g = left r.st m s h.1 k
  answered (returning s) a k h g = absurd a
  answered (refused n) a k h g = absurd (let z : ⊥ = omega (arith, h.1, sym (its_own n h.1) ∙ ap number_of (sym h.0) ∙ is_zero (number_of r.flow) g) in z)

  -- refused
  pub turned_away : (o : Outcome) → Outermost o → Meets r m o → (n : ℕ) → n ≡ number_of r.flow → T (not (eqb n 0)) → o ≡ refused n
  turned_away (going s) a h n e g = absurd (not_zero n g (e ∙ ap number_of h.0))
  turned_away (ending s) a h n e g = absurd (not_zero n g (e ∙ ap number_of h.0))
  turned_away (returning s) a h n e g = absurd a
  turned_away (refused k) a h n e g = ap refused (sym (e ∙ ap number_of h.0 ∙ its_own k h.1))

-- ---- what the walk says
above : (n : ℕ) → T (not (eqb n 0)) → 0 < n
above zero h = absurd h
above (suc n) h = omega arith

refused_leaves : (o : Outcome) (n : ℕ) (r : Interpreted) (commands' : List ℕ) (stems' : List Stem) (commands : List ℕ) (stems : List Stem) → T (not (eqb n 0)) → o ≡ refused n → r ≡ refused_with n → commands' ≡ replicate (length commands) 0 → stems' ≡ replicate (length stems) zero_stem → Leaves r commands' stems' commands stems o
refused_leaves o n r commands' stems' commands stems h e er ec ez = subst (Leaves r commands' stems' commands stems) (sym e) (above n h, (er, (ec, ez)))

zero_fit : (n : ℕ) (m : Mem) → n ≤ max_charstring_bytes → length m.ops ≡ 256 → length m.ps ≡ 256 → length m.cells ≡ 17 → length m.edges ≡ 512 → length m.across ≡ 256 → Fit (zero_st n) m
unfolding drawn_in groups_in stem_count
zero_fit n m h o p c e a = record {
  bounds = record { operands = omega arith; postscript = omega arith; points = omega arith; hints = omega arith; last = omega arith; groups = omega arith; entries = omega arith; ran = h };
  ops = o;
  ps = p;
  cells = c;
  edges = e;
  across = a;
  stems = omega arith;
  groups = refl;
  entries = refl;
  used = refl;
  below = λ k l. absurd (let z : ⊥ = omega (arith, l) in z);
  last = λ l. absurd (let z : ⊥ = omega (arith, l) in z);
}

module _ (charstring bank : List ℕ) (reading : Reading) (b : Ran) (e : b ≡ ran_of (zero_st (length charstring)) (start_flow charstring bank)) (commands : List ℕ) (stems : List Stem) where
  abbrev all : Outcome
  all = outcome (source_of charstring bank) reading (length stems) (length commands)

  -- a run that does not begin
  pub refused_first : T (not (eqb b.flow 0)) → (r : Interpreted) (commands' : List ℕ) (stems' : List Stem) → r ≡ refused_with b.flow → commands' ≡ replicate (length commands) 0 → stems' ≡ replicate (length stems) zero_stem → Leaves r commands' stems' commands stems all
  refused_first h r commands' stems' er ec ez = refused_leaves all b.flow r commands' stems' commands stems h (not_begun charstring bank reading b (length stems) (length commands) e h) er ec ez

  module _ (o p c d : List Float) (a : List Bool) (zero : Cleared o p c d a) (on : T (not (not (eqb b.flow 0)))) where
    flow_zero : start_flow charstring bank ≡ 0
    flow_zero = sym (ap (λ (r : Ran). r.flow) e) ∙ is_zero b.flow on

    state_is : b.st ≡ zero_st (length charstring)
    state_is = ap (λ (r : Ran). r.st) e

    pub valid-start : Valid bank
    valid-start = valid_is bank (begins charstring bank flow_zero).0

    few : length charstring ≤ max_charstring_bytes
    few = leb→le (length charstring) max_charstring_bytes (subst T (sym (begins charstring bank flow_zero).1) tt)

    pub ready_start : Ready b.st (mem_of o p c d a commands stems)
    ready_start = subst (λ (t : St). Ready t (mem_of o p c d a commands stems)) (sym state_is) (record {
      fit = zero_fit (length charstring) (mem_of o p c d a commands stems) few
          (ap length zero.ops ∙ length-replicate 256 plus_zero) (ap length zero.ps ∙ length-replicate 256 plus_zero) (ap length zero.cells ∙ length-replicate 17 plus_zero) (ap length zero.edges ∙ length-replicate 512 plus_zero) (ap length zero.across ∙ length-replicate 256 false);
      sound = subst Sound (sym (held_start (length charstring) (mem_of o p c d a commands stems) zero.cells)) ((sound_stable (within 0 0)).charged (length charstring) start few start_sound);
    })

    starts_so : Holds b.st (mem_of o p c d a commands stems) (with_ran (length charstring) start)
    starts_so = record { is = ap (λ (t : St). abs t (mem_of o p c d a commands stems)) state_is ∙ held_start (length charstring) (mem_of o p c d a commands stems) zero.cells; fit = ready_start.fit }

    module _ (r : Ran) (m : Mem) (h : MeetsFrom r m (run_d bank reading 10 charstring b.st (mem_of o p c d a commands stems))) (g : ℕ) (eg : g ≡ number_of r.flow) where
      met : Meets r m all
      met = subst (Meets r m) (sym (begun charstring bank reading (mem_of o p c d a commands stems) flow_zero)) (h (with_ran (length charstring) start) starts_so)

      pub refused_later : T (not (eqb g 0)) → (q : Interpreted) (commands' : List ℕ) (stems' : List Stem) → q ≡ refused_with g → commands' ≡ replicate (length commands) 0 → stems' ≡ replicate (length stems) zero_stem → Leaves q commands' stems' commands stems all
      refused_later k q commands' stems' er ec ez = refused_leaves all g q commands' stems' commands stems k (turned_away r m commands stems all (outermost charstring bank reading (length stems) (length commands)) met g eg k) er ec ez

      pub ran_through : Bytes charstring → Bytes bank → T (not (not (eqb g 0))) → (q : Interpreted) → q ≡ answer_of r.st m.cells → Leaves q m.cmds m.stems commands stems all
      ran_through bc bb k q er = subst (λ (u : Interpreted). Leaves u m.cmds m.stems commands stems all) (sym er)
          (answered r m commands stems all (outermost charstring bank reading (length stems) (length commands)) (finite_ends charstring bank reading bc bb (length stems) (length commands)) met (subst (λ (n : ℕ). T (not (not (eqb n 0)))) eg k))
