-- Laws: the strict reading (document 02, (c)).
--     operate-strictly    no operator but pop looks at the limit of operands
--     strict-run          the strict run is the present one, but 22 where that comes to hold a 25th operand
--     strict-answer       a strict answer is 22 or the present reading's answer
--     refused_22, only_22    it is 22 exactly where 2 does not come first and the present run holds a 25th operand
--     present_not_22      the present reading is never refused with 22
--     strict_15           15 is then met by the PostScript stack alone
--     strict-unlimited    the run of demand 3 is the same in both readings
use Prim.Native.Nat.{ℕ, zero, suc, ◌+◌, ◌-◌, ◌*◌, ◌≤◌}
use native.Mathlib.Omega.{arith}
use borrow.Author.Tests.{leb-true, leb-false, ltb-false, eqb-false, le-leb, lt-ltb, le-ltb}
use Rattle.std.specs.Prelude.{◌≡◌, ◌⊎◌, Bool, ◌||◌, ltb, eqb, take}
use Rattle.std.proofs.Math.Path.{refl, sym, ap}
use Rattle.std.proofs.Common.{◌∙◌, subst, true≢false}
use Rattle.std.proofs.Math.Logic.{inl, inr}
use Rattle.std.proofs.Math.Bool.{true, false}
use mathlib.Core.List.{List, [], ◌∷◌, ◌++◌}
use Rattle.std.proofs.Math.Option.{Option, none, some}
use Rattle.std.proofs.Math.Dec.{leb}
use Rattle.std.proofs.Math.ListN.{length, get_or, length-append, length-take}
use Rattle.std.specs.Float.Ieee.{Float, nan}
use Rattle.charstring.specs.Cipher.{plain, max_charstring_bytes}
use Rattle.bank.specs.Bank.{valid}
use Rattle.outline.specs.Store.{entry_words}
use Rattle.outline.specs.Outline.{pick}
use Rattle.type1.specs.Operator as op
use Rattle.type1.specs.Operator.{Operator}
use Rattle.type1.specs.Number.{Token, cut, number, operator, token, double}
use Rattle.type1.specs.State.{State, start, with_operands, with_postscript, with_ran}
use Rattle.type1.specs.Run.{Limits, within, strictly, limits_of, unlimited, Outcome, going, returning, ending, refused, and_then, check, allowed, top, without, push, stem, new_group, commit, enter, list, move_by, open_subpath, line_to, line_by, curve_to, curve_by, set_point, hand_back, end_flex, other_subr0, other_subr, call_other_subr, pop_d, stems3, operate, reading_of, strict_of, Font, charge, named, returned, call_body, call_subr, execute, consume, run_bytes, run_body, run}
use Rattle.type1.specs.Interpret.{Source, run_of, outcome}
use Rattle.type1.specs.States.{reached, counted, in_body, is_call, in_call, at_token, in_bytes, in_levels, states, is_over24, any_over24, holds25, any_postscript}
use Rattle.type1.specs.Sound.{is_pop, Keeps, Answering}
use Rattle.type1.specs.Refusals.{execute_keeps, run_body_keeps, run_never}

-- ---- operators; c and d are what a call does
operate_same : (lim : Limits) (c d : Outcome) (o : Operator) (s : State) → is_pop o ≡ false → (is_call o ≡ true → c ≡ d) → operate (strictly lim) c o s ≡ operate lim d o s
unfolding operate stem new_group commit enter list move_by open_subpath line_to line_by curve_to curve_by set_point hand_back end_flex other_subr0 other_subr call_other_subr stems3
operate_same lim c d op.hstem s h k = refl
operate_same lim c d op.vstem s h k = refl
operate_same lim c d op.vmoveto s h k = refl
operate_same lim c d op.rlineto s h k = refl
operate_same lim c d op.hlineto s h k = refl
operate_same lim c d op.vlineto s h k = refl
operate_same lim c d op.rrcurveto s h k = refl
operate_same lim c d op.closepath s h k = refl
operate_same lim c d op.callsubr s h k = k refl
operate_same lim c d op.return s h k = refl
operate_same lim c d op.hsbw s h k = refl
operate_same lim c d op.endchar s h k = refl
operate_same lim c d op.rmoveto s h k = refl
operate_same lim c d op.hmoveto s h k = refl
operate_same lim c d op.vhcurveto s h k = refl
operate_same lim c d op.hvcurveto s h k = refl
operate_same lim c d op.dotsection s h k = refl
operate_same lim c d op.vstem3 s h k = refl
operate_same lim c d op.hstem3 s h k = refl
operate_same lim c d op.seac s h k = refl
operate_same lim c d op.sbw s h k = refl
operate_same lim c d op.div s h k = refl
operate_same lim c d op.callothersubr s h k = refl
operate_same lim c d op.pop s h k = absurd (true≢false h)
operate_same lim c d op.setcurrentpoint s h k = refl
operate_same lim c d op.unknown s h k = refl

-- no operator but pop looks at the limit of operands
pub operate-strictly : (lim : Limits) (c : Outcome) (o : Operator) (s : State) → is_pop o ≡ false → operate (strictly lim) c o s ≡ operate lim c o s
operate-strictly lim c o s h = operate_same lim c c o s h (λ e. refl)

-- ---- the two runs, through the ways steps are put together

-- 22 where a state was deep
abbrev or22 : Bool → Outcome → Outcome
or22 deep p = pick deep (refused 22) p

-- the state that a step leaves is deep
abbrev leaves_over24 : Outcome → Bool
leaves_over24 (going s) = is_over24 s
leaves_over24 (returning s) = is_over24 s
leaves_over24 (ending s) = is_over24 s
leaves_over24 (refused n) = false

abbrev Fits : ℕ → Type 0
Fits n = n ≤ 24

abbrev Any : ℕ → Type 0
Any n = Unit {0}

fits_not_over : (o : Outcome) → Keeps Fits Any o → leaves_over24 o ≡ false
fits_not_over (going s) h = le-ltb 24 (length s.operands) h
fits_not_over (returning s) h = le-ltb 24 (length s.operands) h
fits_not_over (ending s) h = le-ltb 24 (length s.operands) h
fits_not_over (refused n) h = refl

-- a step that leaves 24 operands at the most
settled : (b : Bool) (o p : Outcome) → Keeps Fits Any o → o ≡ or22 b p → o ≡ or22 (b || leaves_over24 p) p
settled true o p h e = e
settled false o p h e = e ∙ sym (ap (λ (b : Bool). or22 b p) (fits_not_over p (subst (Keeps Fits Any) e h)))

returned-strict : (b : Bool) (p : Outcome) → returned (or22 b p) ≡ or22 b (returned p)
returned-strict true p = refl
returned-strict false p = refl

module _ (more : State → List State) (j h : State → Outcome) (on : (t : State) → Fits (length t.operands) → j t ≡ or22 (any_over24 (more t)) (h t)) where
  first-strict : (p : Outcome) → and_then (or22 (leaves_over24 p) p) j ≡ or22 (any_over24 (reached p more)) (and_then p h)
  unfolding any_over24
  first-strict (going t) = go (is_over24 t) refl
    where
      go : (b : Bool) → is_over24 t ≡ b → and_then (or22 b (going t)) j ≡ or22 (b || any_over24 (more t)) (h t)
      go true e = refl
      go false e = on t (ltb-false 24 (length t.operands) e)
  first-strict (returning t) = go (is_over24 t)
    where
      go : (b : Bool) → and_then (or22 b (returning t)) j ≡ or22 (b || false) (returning t)
      go true = refl
      go false = refl
  first-strict (ending t) = go (is_over24 t)
    where
      go : (b : Bool) → and_then (or22 b (ending t)) j ≡ or22 (b || false) (ending t)
      go true = refl
      go false = refl
  first-strict (refused n) = refl

  pick-strict : (g : List State) (p : Outcome) → and_then (or22 (any_over24 g || leaves_over24 p) p) j ≡ or22 (any_over24 (g ++ reached p more)) (and_then p h)
  unfolding any_over24
  pick-strict [] p = first-strict p
  pick-strict (s ∷ g) p = go (is_over24 s) (pick-strict g p)
    where
      go : (b : Bool) → and_then (or22 (any_over24 g || leaves_over24 p) p) j ≡ or22 (any_over24 (g ++ reached p more)) (and_then p h) → and_then (or22 ((b || any_over24 g) || leaves_over24 p) p) j ≡ or22 (b || any_over24 (g ++ reached p more)) (and_then p h)
      go true e = refl
      go false e = e

  then_strict : (g : List State) (o p : Outcome) → o ≡ or22 (any_over24 g || leaves_over24 p) p → and_then o j ≡ or22 (any_over24 (g ++ reached p more)) (and_then p h)
  then_strict g o p e = ap (λ (x : Outcome). and_then x j) e ∙ pick-strict g p

-- a body, once its bytes are counted
charged_strict :
    (strict deep : State → Outcome) (inner : State → List State) → ((s : State) → Fits (length s.operands) → strict s ≡ or22 (any_over24 (inner s)) (deep s)) →
    (l : List ℕ) (s : State) → Fits (length s.operands) → and_then (charge l s) (λ t. returned (strict t)) ≡ or22 (any_over24 (counted (charge l s) inner)) (and_then (charge l s) (λ t. returned (deep t)))
unfolding charge any_over24
charged_strict strict deep inner h l s q = go (leb (s.ran + length l) max_charstring_bytes)
  where
    t : State
    t = with_ran (s.ran + length l) s

    go : (b : Bool) → (let c = check b 3 (going t) in and_then c (λ t. returned (strict t)) ≡ or22 (any_over24 (counted c inner)) (and_then c (λ t. returned (deep t))))
    go true = ap returned (h t q) ∙ returned-strict (any_over24 (inner t)) (deep t)
    go false = refl

-- ---- steps, with limits that have room for 25 operands
module _ (lim : Limits) (room : (n : ℕ) → n ≤ 25 → lim.operands n ≡ 0) where
  push-strict : (v : Float) (s : State) → Fits (length s.operands) → push (strictly lim) v s ≡ or22 (leaves_over24 (push lim v s)) (push lim v s)
  unfolding push
  push-strict v s q = go (leb (n + 1) 24) refl ∙ sym (ap (λ (p : Outcome). or22 (leaves_over24 p) p) (ap (λ (k : ℕ). allowed k (going t)) (room (n + 1) (omega arith))))
    where
      n : ℕ
      n = length s.operands

      t : State
      t = with_operands (s.operands ++ (v ∷ [])) s

      go : (b : Bool) → leb (n + 1) 24 ≡ b → allowed (pick b 0 22) (going t) ≡ or22 (is_over24 t) (going t)
      go true e = let a = leb-true (n + 1) 24 e in let c = length-append s.operands (v ∷ []) in sym (ap (λ (d : Bool). or22 d (going t)) (le-ltb 24 (length t.operands) (omega arith)))
      go false e = let a = leb-false (n + 1) 24 e in let c = length-append s.operands (v ∷ []) in sym (ap (λ (d : Bool). or22 d (going t)) (lt-ltb 24 (length t.operands) (omega arith)))

  -- the strict run holds 24 operands at the most
  push-fits : (v : Float) (s : State) → Fits (length s.operands) → Keeps Fits Any (push (strictly lim) v s)
  unfolding push
  push-fits v s q = go (leb (length s.operands + 1) 24) refl
    where
      go : (b : Bool) → leb (length s.operands + 1) 24 ≡ b → Keeps Fits Any (allowed (pick b 0 22) (going (with_operands (s.operands ++ (v ∷ [])) s)))
      go true e = let a = leb-true (length s.operands + 1) 24 e in let c = length-append s.operands (v ∷ []) in omega arith
      go false e = tt

  any : Answering Any (strictly lim)
  any = record { postscript = λ n. tt; hints = λ n. tt; groups = λ n. tt; stems = λ n. tt; commands = λ n. tt }

  pop_d-strict : (s : State) → Fits (length s.operands) → pop_d (strictly lim) s ≡ or22 (leaves_over24 (pop_d lim s)) (pop_d lim s)
  unfolding pop_d
  pop_d-strict s q = go (ltb 0 (length s.postscript))
    where
      v : Float
      v = get_or s.postscript (length s.postscript - 1) nan

      t : State
      t = with_postscript (take (length s.postscript - 1) s.postscript) s

      go : (b : Bool) → check b 11 (push (strictly lim) v t) ≡ (let p = check b 11 (push lim v t) in or22 (leaves_over24 p) p)
      go true = push-strict v t q
      go false = refl

  -- ---- the run
  module _ (f : Font) (strict deep : List ℕ → State → Outcome) (inner : List ℕ → State → List State) (h : (l : List ℕ) (s : State) → Fits (length s.operands) → strict l s ≡ or22 (any_over24 (inner l s)) (deep l s)) where
    call_subr-strict : (s : State) → Fits (length s.operands) → call_subr f strict s ≡ or22 (any_over24 (in_call f inner op.callsubr s)) (call_subr f deep s)
    unfolding call_subr call_body in_call any_over24
    call_subr-strict s q = go (leb 1 (length s.operands)) (named f (top 1 s))
      where
        less : Fits (length (without 1 s).operands)
        less = let e = length-take (length s.operands - 1) s.operands in omega arith

        go : (b : Bool) (o : Option (List ℕ)) → check b 7 (call_body strict o (without 1 s)) ≡ or22 (any_over24 (pick b (in_body inner o (without 1 s)) [])) (check b 7 (call_body deep o (without 1 s)))
        go true (some l) = charged_strict (strict l) (deep l) (inner l) (h l) l (without 1 s) less
        go true none = refl
        go false o = refl

    execute-strict : ((l : List ℕ) (s : State) → Fits (length s.operands) → Keeps Fits Any (strict l s)) → (o : Operator) (s : State) → Fits (length s.operands) → execute (strictly lim) f strict o s ≡ or22 (any_over24 (in_call f inner o s) || leaves_over24 (execute lim f deep o s)) (execute lim f deep o s)
    unfolding execute operate in_call any_over24
    execute-strict k o s q = go o
      where
        fits : (o : Operator) → Keeps Fits Any (execute (strictly lim) f strict o s)
        fits o = execute_keeps Fits Any (λ m n a b. omega arith) (λ n t. tt) (strictly lim) any push-fits f strict k o s q

        other : (o : Operator) → is_pop o ≡ false → is_call o ≡ false → operate (strictly lim) (call_subr f strict s) o s ≡ or22 (leaves_over24 (operate lim (call_subr f deep s) o s)) (operate lim (call_subr f deep s) o s)
        other o a b = settled false _ (operate lim (call_subr f deep s) o s) (fits o) (operate_same lim (call_subr f strict s) (call_subr f deep s) o s a (λ e. absurd (true≢false (sym e ∙ b))))

        go : (o : Operator) → execute (strictly lim) f strict o s ≡ or22 (any_over24 (in_call f inner o s) || leaves_over24 (execute lim f deep o s)) (execute lim f deep o s)
        go op.hstem = other op.hstem refl refl
        go op.vstem = other op.vstem refl refl
        go op.vmoveto = other op.vmoveto refl refl
        go op.rlineto = other op.rlineto refl refl
        go op.hlineto = other op.hlineto refl refl
        go op.vlineto = other op.vlineto refl refl
        go op.rrcurveto = other op.rrcurveto refl refl
        go op.closepath = other op.closepath refl refl
        go op.callsubr = settled (any_over24 (in_call f inner op.callsubr s)) _ (call_subr f deep s) (fits op.callsubr) (call_subr-strict s q)
        go op.return = other op.return refl refl
        go op.hsbw = other op.hsbw refl refl
        go op.endchar = other op.endchar refl refl
        go op.rmoveto = other op.rmoveto refl refl
        go op.hmoveto = other op.hmoveto refl refl
        go op.vhcurveto = other op.vhcurveto refl refl
        go op.hvcurveto = other op.hvcurveto refl refl
        go op.dotsection = other op.dotsection refl refl
        go op.vstem3 = other op.vstem3 refl refl
        go op.hstem3 = other op.hstem3 refl refl
        go op.seac = other op.seac refl refl
        go op.sbw = other op.sbw refl refl
        go op.div = other op.div refl refl
        go op.callothersubr = other op.callothersubr refl refl
        go op.pop = pop_d-strict s q
        go op.setcurrentpoint = other op.setcurrentpoint refl refl
        go op.unknown = other op.unknown refl refl

  run_bytes-strict :
      (strict g : Operator → State → Outcome) (inner : Operator → State → List State) → ((o : Operator) (s : State) → Fits (length s.operands) → strict o s ≡ or22 (any_over24 (inner o s) || leaves_over24 (g o s)) (g o s)) →
      (l : List ℕ) (m : ℕ) (s : State) → Fits (length s.operands) → run_bytes (strictly lim) strict l m s ≡ or22 (any_over24 (in_bytes lim g inner l m s)) (run_bytes lim g l m s)
  unfolding run_bytes in_bytes any_over24
  run_bytes-strict strict g inner h [] m s q = refl
  run_bytes-strict strict g inner h (b ∷ l) (suc m) s q = run_bytes-strict strict g inner h l m s q
  run_bytes-strict strict g inner h (b ∷ l) zero s q = go (token b l) (λ m t. run_bytes-strict strict g inner h l m t)
    where
      go : (k : Token) → ((m : ℕ) (t : State) → Fits (length t.operands) → run_bytes (strictly lim) strict l m t ≡ or22 (any_over24 (in_bytes lim g inner l m t)) (run_bytes lim g l m t)) → consume (strictly lim) strict k s (run_bytes (strictly lim) strict l) ≡ or22 (any_over24 (at_token lim g inner k s (in_bytes lim g inner l))) (consume lim g k s (run_bytes lim g l))
      go cut on = refl
      go (number m z) on = then_strict (in_bytes lim g inner l m) (run_bytes (strictly lim) strict l m) (run_bytes lim g l m) (on m) [] (push (strictly lim) (double z) s) (push lim (double z) s) (push-strict (double z) s q)
      go (operator m o) on = then_strict (in_bytes lim g inner l m) (run_bytes (strictly lim) strict l m) (run_bytes lim g l m) (on m) (inner o s) (strict o s) (g o s) (h o s q)

  run_body-strict : (f : Font) (n : ℕ) (l : List ℕ) (s : State) → Fits (length s.operands) → run_body (strictly lim) f n l s ≡ or22 (any_over24 (in_levels lim f n l s)) (run_body lim f n l s)
  unfolding run_body in_levels any_over24
  run_body-strict f zero l s q = refl
  run_body-strict f (suc n) l s q =
      run_bytes-strict (execute (strictly lim) f (run_body (strictly lim) f n)) (execute lim f (run_body lim f n)) (in_call f (in_levels lim f n))
      (execute-strict f (run_body (strictly lim) f n) (run_body lim f n) (in_levels lim f n) (run_body-strict f n) (run_body_keeps Fits Any (λ m k a b. omega arith) (λ k t. tt) (strictly lim) any push-fits f n)) (plain f.len_iv l) 0 s q

  -- 22 where a state of the present run is deep, else the present run
  pub strict-run : (f : Font) (l : List ℕ) (s : State) → Fits (length s.operands) → run (strictly lim) f l s ≡ pick (any_over24 (states lim f l s)) (refused 22) (run lim f l s)
  unfolding run states
  strict-run f l s q = charged_strict (run_body (strictly lim) f _ l) (run_body lim f _ l) (in_levels lim f _ l) (run_body-strict f _ l) l s q

-- ---- the readings
at_most_not : (b : Bool) (n k : ℕ) → eqb 0 k ≡ false → eqb n k ≡ false → pick b 0 n ≡ k → ⊥
at_most_not true n k z h = eqb-false 0 k z
at_most_not false n k z h = eqb-false n k h

two_not : refused 2 ≡ refused 22 → ⊥
two_not e = eqb-false 2 22 refl cc

module _ (x : Source) (len_iv records words : ℕ) where
  abbrev strict : Outcome
  strict = outcome x (strict_of len_iv) records words

  abbrev present : Outcome
  present = outcome x (reading_of len_iv) records words

  -- the present run holds a 25th operand
  abbrev over24 : Bool
  over24 = holds25 x len_iv records words

  -- the present run
  abbrev present_run : Outcome
  present_run = run_of (within records words) x (reading_of len_iv)

  strict_is : strict ≡ check (valid x.bank) 2 (pick over24 (refused 22) present_run)
  unfolding outcome holds25
  strict_is = ap (check (valid x.bank) 2) (strict-run (within records words) (λ n h. ap (λ (b : Bool). pick b 0 15) (le-leb n 256 (omega arith))) _ x.charstring start (omega arith))

  -- "a strict answer that is not 22 equals the present reading's answer"
  pub strict-answer : (strict ≡ refused 22) ⊎ (strict ≡ present)
  unfolding outcome
  strict-answer = go (valid x.bank) over24 strict_is
    where
      go : (v d : Bool) → strict ≡ check v 2 (pick d (refused 22) present_run) → (strict ≡ refused 22) ⊎ (strict ≡ check v 2 present_run)
      go true true e = inl e
      go true false e = inr e
      go false d e = inr e

  run_not_22 : present_run ≡ refused 22 → ⊥
  run_not_22 =
      run_never 22 refl (within records words) (record {
        postscript = λ n. at_most_not (leb n 256) 15 22 refl refl;
        hints = λ n. at_most_not (leb n 256) 16 22 refl refl;
        groups = λ n. at_most_not (leb n 256) 16 22 refl refl;
        stems = λ n. at_most_not (leb n records) 16 22 refl refl;
        commands = λ n. at_most_not (leb (entry_words * n) words) 17 22 refl refl;
      }) (λ n. at_most_not (leb n 256) 15 22 refl refl) _ x.charstring start

  -- the present reading has no 22
  pub present_not_22 : present ≡ refused 22 → ⊥
  unfolding outcome
  present_not_22 = go (valid x.bank)
    where
      go : (v : Bool) → check v 2 present_run ≡ refused 22 → ⊥
      go true = run_not_22
      go false = two_not

  -- 22 where 2 does not come first and the present run holds a 25th operand
  pub refused_22 : valid x.bank ≡ true → over24 ≡ true → strict ≡ refused 22
  refused_22 v d = strict_is ∙ ap (λ (b : Bool). check b 2 (pick over24 (refused 22) present_run)) v ∙ ap (λ (b : Bool). pick b (refused 22) present_run) d

  -- and nowhere else
  pub only_22 : strict ≡ refused 22 → (valid x.bank ≡ true) × (over24 ≡ true)
  only_22 e = go (valid x.bank) over24 refl refl (sym strict_is ∙ e)
    where
      go : (v d : Bool) → valid x.bank ≡ v → over24 ≡ d → check v 2 (pick d (refused 22) present_run) ≡ refused 22 → (valid x.bank ≡ true) × (over24 ≡ true)
      go true true a b h = (a, b)
      go true false a b h = absurd (run_not_22 h)
      go false d a b h = absurd (two_not h)

  -- 15 is not met where the PostScript stack has room
  pub strict_15 : run_of (any_postscript (limits_of (strict_of len_iv) (within records words))) x (strict_of len_iv) ≡ refused 15 → ⊥
  strict_15 =
      run_never 15 refl (any_postscript (strictly (within records words))) (record {
        postscript = λ n. eqb-false 0 15 refl;
        hints = λ n. at_most_not (leb n 256) 16 15 refl refl;
        groups = λ n. at_most_not (leb n 256) 16 15 refl refl;
        stems = λ n. at_most_not (leb n records) 16 15 refl refl;
        commands = λ n. at_most_not (leb (entry_words * n) words) 17 15 refl refl;
      }) (λ n. at_most_not (leb n 24) 22 15 refl refl) _ x.charstring start

  -- demand 3's run is fed nothing of the limits
  pub strict-unlimited : run_of unlimited x (strict_of len_iv) ≡ run_of unlimited x (reading_of len_iv)
  strict-unlimited = refl
