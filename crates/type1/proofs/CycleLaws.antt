-- What the walks of the byte runner and of the operator step say of the run: nothing here speaks of code. Assumes nothing.
use mathlib.Core.Path.{◌≡◌, refl, sym, ◌∙◌, ap, subst}
use Prim.Native.Nat.{ℕ, zero, suc, ◌+◌, ◌-◌, ◌*◌, ◌<◌, ◌≤◌}
use native.Mathlib.Omega.{arith}
use native.Mathlib.Nat.{suc-sub-suc, sub-zero}
use mathlib.Core.Bool.{Bool, true, false, not}
use mathlib.Core.List.{List, [], ◌∷◌, ◌++◌}
use lib.ListN.{length, take, get_or}
use lib.Seq.{paste, length-take-le}
use lib.Dec.{T, eqb, ltb, eqb→eq, eqb_refl, lit≤, lit<, nltb→le, ltb→lt}
use lib.Ieee.{Float, nan}
use lib.Ieee.Scale.{finite}
use Rattle.charstring.specs.declared.Cursor.{Cursor}
use Rattle.charstring.specs.Cipher.{Bytes, plain}
use Rattle.charstring.specs.Cursor.{start, rest}
use Rattle.charstring.specs.Laws.{rest-start, rest-none}
use Rattle.bank.specs.Bank.{bytes_at, found}
use Rattle.geometry.specs.declared.Point.{Point}
use Rattle.outline.specs.declared.Stem.{Stem}
use Rattle.type1.specs.declared.St.{St}
use Rattle.type1.specs.declared.Reading.{Reading}
use Rattle.type1.specs.declared.Ran.{Ran}
use Rattle.type1.specs.declared.Tok.{Tok}
use Rattle.std.specs.Prelude.{Ok, Err}
use Rattle.refusal.specs.declared.Refusal.{Refusal}
use Rattle.refusal.specs.Refusal.{number_of}
use Rattle.type1.specs.declared.Called.{Called}
use Rattle.type1.specs.Operator as op
use Rattle.type1.specs.Operator.{Operator, look, one_byte, two_bytes, of_byte, of_escape}
use Rattle.outline.specs.Outline.{pick}
use Rattle.type1.specs.State.{State}
use Rattle.type1.specs.Run.{Limits, within, limits_of, font_of, Outcome, going, returning, ending, refused, and_then, returned, Font, operate, call_subr, execute, run_bytes, run_body}
use Rattle.type1.specs.Memory.{Mem, points_at, stems_at, flex_in, abs, Fit, Holds, Good, Meets, operator_of, kept}
use Rattle.type1.specs.Small.{ran_of, Finite}
use Rattle.type1.specs.Reading.{cursor_of, is_read, ReadsAs, read_mem, goes_on, Reads, Calls}
use Rattle.type1.specs.Sound.{All, OfFlex, GoodPoint, SoundOut}
use Rattle.type1.specs.States.{is_call}
use Rattle.type1.specs.Cycle.{Ready, limits_in, From, MeetsFrom, op_d, run_d}
use Rattle.type1.specs.Outcomes.{all_get_d}
use Rattle.type1.specs.SoundLaws.{call_subr_sound, execute_sound, run_body_sound}
use Rattle.type1.proofs.Stacks.{holds_itself, few_held}
use Rattle.type1.proofs.ByteLaws.{goes, held_sound}

-- ---- tests
twice_not : (t : Bool) → T (not (not t)) → T t
twice_not true _ = tt
twice_not false h = absurd h

never : (t : Bool) → T (not t) → T t → ⊥
never true h _ = absurd h
never false _ h = absurd h

not_eq : (a b : ℕ) → T (not (eqb a b)) → a ≡ b → ⊥
not_eq a b h e = never (eqb a b) h (subst (λ (k : ℕ). T (eqb a k)) e (eqb_refl a))

picked : {A : Type 0} (t : Bool) (x y : A) → T t → pick t x y ≡ x
picked true x y _ = refl
picked false x y h = absurd h

not_picked : {A : Type 0} (t : Bool) (x y : A) → T (not t) → pick t x y ≡ y
not_picked true x y h = absurd h
not_picked false x y _ = refl

not_t : (t : Bool) → (T t → ⊥) → T (not t)
not_t true f = absurd (f tt)
not_t false _ = tt

-- ---- what callees ask
get_d_take : {A : Type 0} (n : ℕ) (l : List A) (i : ℕ) (d : A) → i < n → get_or (take n l) i d ≡ get_or l i d
get_d_take zero l i d h = absurd (omega (arith, h))
get_d_take (suc n) [] i d h = refl
get_d_take (suc n) (x ∷ l) zero d h = refl
get_d_take (suc n) (x ∷ l) (suc i) d h = get_d_take n l i d (omega (arith, h))

all_front : {A : Type 0} (P : A → Type 0) (l : List A) (a : A) → All P (l ++ (a ∷ [])) → All P l × P a
unfolding All
all_front P [] a p = (tt, p.0)
all_front P (x ∷ l) a p = ((p.0, (all_front P l a p.1).0), (all_front P l a p.1).1)

-- below 2 * suc n: below 2 * n, or one of the two after
below-pair : (Q : ℕ → Type 0) (i n : ℕ) → i < 2 * suc n → (i < 2 * n → Q i) → Q (2 * n) → Q (2 * n + 1) → Q i
below-pair Q i n h before one two = go (ltb i (2 * n)) refl (eqb i (2 * n)) refl
  where
    go : (c : Bool) → ltb i (2 * n) ≡ c → (d : Bool) → eqb i (2 * n) ≡ d → Q i
    go true is d ed = before (ltb→lt i (2 * n) (subst T (sym is) tt))
    go false is true ed = subst Q (sym (eqb→eq i (2 * n) (subst T (sym ed) tt))) one
    go false is false ed = let last : 2 * n + 1 ≡ i = omega (arith, h, nltb→le i (2 * n) (subst (λ (b : Bool). T (not b)) (sym is) tt), not_eq i (2 * n) (subst (λ (b : Bool). T (not b)) (sym ed) tt)) in subst Q last two

points_good : (n : ℕ) (l : List Float) → All GoodPoint (points_at n l) → (i : ℕ) → i < 2 * n → Good (get_or l i nan)
unfolding points_at
points_good zero l g i h = absurd (omega (arith, h))
points_good (suc n) l g i h =
    let p : Point = record { x = get_or l (2 * n) nan; y = get_or l (2 * n + 1) nan } in
    let both : All GoodPoint (points_at n l) × GoodPoint p = all_front GoodPoint (points_at n l) p g in
    below-pair (λ k. Good (get_or l k nan)) i n h (points_good n l both.0 i) both.1.0 both.1.1

-- what `plain` asks
pub finite_of : (t : St) (m : Mem) → Ready t m → Finite t m.ops m.cells
unfolding abs
finite_of t m r = record {
  x = r.sound.point.0.fine;
  y = r.sound.point.1.fine;
  operands = λ i h. subst (λ (x : Float). T (finite x)) (get_d_take t.operands m.ops i nan h) (all_get_d Good (take t.operands m.ops) i nan r.sound.operands (subst (λ (k : ℕ). i < k) (sym (length-take-le t.operands m.ops (subst (λ (k : ℕ). t.operands ≤ k) (sym r.fit.ops) r.fit.bounds.operands))) h)).fine;
  points = λ f few. points_good t.points m.cells (subst (All GoodPoint) (few_held t.points (points_at t.points m.cells) few) (subst (λ (b : Bool). OfFlex Good (flex_in b t.points m.cells)) f r.sound.flexing));
}

-- ---- the stem store after a step
pub kept_same : (t u : St) (e : List Float) (a : List Bool) (z : List Stem) → T (not (not (eqb u.groups t.groups))) → kept t u e a z ≡ z
unfolding kept
kept_same t u e a z h =
    picked (eqb t.groups u.groups) z (paste z t.stems (stems_at 0 t.hints e a) t.hints) (subst (λ (k : ℕ). T (eqb t.groups k)) (sym (eqb→eq u.groups t.groups (twice_not (eqb u.groups t.groups) h))) (eqb_refl t.groups))

pub kept_new : (t u : St) (e : List Float) (a : List Bool) (z : List Stem) → T (not (eqb u.groups t.groups)) → kept t u e a z ≡ paste z t.stems (stems_at 0 t.hints e a) t.hints
unfolding kept
kept_new t u e a z h =
    not_picked (eqb t.groups u.groups) z (paste z t.stems (stems_at 0 t.hints e a) t.hints) (not_t (eqb t.groups u.groups) (λ y. not_eq u.groups t.groups h (sym (eqb→eq t.groups u.groups y))))

pub new_group_lem : (t u : St) → T (not (eqb u.groups t.groups)) → u.groups ≡ t.groups → ⊥
new_group_lem t u h = not_eq u.groups t.groups h

-- ---- one operator
call_op : operator_of 10 ≡ op.callsubr
unfolding operator_of of_byte
call_op = refl

-- only callsubr has to do with what a call does
other_call : (lim : Limits) (c d : Outcome) (o : Operator) (s : State) → is_call o ≡ false → operate lim c o s ≡ operate lim d o s
unfolding operate
other_call lim c d op.hstem s h = refl
other_call lim c d op.vstem s h = refl
other_call lim c d op.vmoveto s h = refl
other_call lim c d op.rlineto s h = refl
other_call lim c d op.hlineto s h = refl
other_call lim c d op.vlineto s h = refl
other_call lim c d op.rrcurveto s h = refl
other_call lim c d op.closepath s h = refl
other_call lim c d op.callsubr s h = absurd (subst T h tt)
other_call lim c d op.return s h = refl
other_call lim c d op.hsbw s h = refl
other_call lim c d op.endchar s h = refl
other_call lim c d op.rmoveto s h = refl
other_call lim c d op.hmoveto s h = refl
other_call lim c d op.vhcurveto s h = refl
other_call lim c d op.hvcurveto s h = refl
other_call lim c d op.dotsection s h = refl
other_call lim c d op.vstem3 s h = refl
other_call lim c d op.hstem3 s h = refl
other_call lim c d op.seac s h = refl
other_call lim c d op.sbw s h = refl
other_call lim c d op.div s h = refl
other_call lim c d op.callothersubr s h = refl
other_call lim c d op.pop s h = refl
other_call lim c d op.setcurrentpoint s h = refl
other_call lim c d op.unknown s h = refl

no_call : (o : Operator) → T (is_read o) → is_call o ≡ false
no_call op.hstem h = refl
no_call op.vstem h = refl
no_call op.vmoveto h = refl
no_call op.rlineto h = refl
no_call op.hlineto h = refl
no_call op.vlineto h = refl
no_call op.rrcurveto h = refl
no_call op.closepath h = refl
no_call op.callsubr h = absurd h
no_call op.return h = refl
no_call op.hsbw h = refl
no_call op.endchar h = refl
no_call op.rmoveto h = refl
no_call op.hmoveto h = refl
no_call op.vhcurveto h = refl
no_call op.hvcurveto h = refl
no_call op.dotsection h = refl
no_call op.vstem3 h = refl
no_call op.hstem3 h = refl
no_call op.seac h = refl
no_call op.sbw h = refl
no_call op.div h = refl
no_call op.callothersubr h = refl
no_call op.pop h = refl
no_call op.setcurrentpoint h = refl
no_call op.unknown h = refl

-- what is done as it is read is done alike, whatever a call does
step-read : (lim : Limits) (f : Font) (deep : List ℕ → State → Outcome) (o : Operator) (s : State) → T (is_read o) → execute lim f deep o s ≡ operate lim (refused 6) o s
unfolding execute
step-read lim f deep o s h = other_call lim (call_subr f deep s) (refused 6) o s (no_call o h)

-- a table has callsubr nowhere, or not at b
abbrev Without : List (ℕ × Operator) → ℕ → Type 0
Without [] b = Unit {0}
Without (e ∷ l) b = ((T (is_call e.1) → b ≡ e.0 → ⊥) × Without l b)

chosen : (c d : Bool) (x y : Operator) → is_call x ≡ d → (T c → T d → ⊥) → is_call y ≡ false → is_call (pick c x y) ≡ false
chosen false d x y ed f h = h
chosen true false x y ed f h = ed
chosen true true x y ed f h = absurd (f tt tt)

looked : (l : List (ℕ × Operator)) (b : ℕ) → Without l b → is_call (look l b) ≡ false
looked [] b a = refl
looked (e ∷ l) b a = chosen (eqb b e.0) (is_call e.1) e.1 (look l b) refl (λ t u. a.0 u (eqb→eq b e.0 t)) (looked l b a.1)

none_at : (b k : ℕ) → T false → b ≡ k → ⊥
none_at b k t e = absurd t

byte_op : (n : ℕ) → T (not (eqb n 10)) → is_call (of_byte n) ≡ false
unfolding of_byte
byte_op n h = looked one_byte n (none_at n 1, (none_at n 3, (none_at n 4, (none_at n 5, (none_at n 6, (none_at n 7, (none_at n 8, (none_at n 9, ((λ t. not_eq n 10 h), (none_at n 11, (none_at n 13, (none_at n 14, (none_at n 21, (none_at n 22, (none_at n 30, (none_at n 31, tt))))))))))))))))

escape_op : (k : ℕ) → is_call (of_escape k) ≡ false
unfolding of_escape
escape_op k = looked two_bytes k (none_at k 0, (none_at k 1, (none_at k 2, (none_at k 6, (none_at k 7, (none_at k 12, (none_at k 16, (none_at k 17, (none_at k 33, tt)))))))))

either_op : (n : ℕ) → T (not (eqb n 10)) → (c : Bool) → ltb n 256 ≡ c → is_call (operator_of n) ≡ false
unfolding operator_of
either_op n h true is = rw is (byte_op n h)
either_op n h false is = rw is (escape_op (n - 256))

one_more : (n : ℕ) → T (not (eqb n 0)) → suc (n - 1) ≡ n
one_more zero h = absurd h
one_more (suc n) h = ap suc (suc-sub-suc n zero ∙ sub-zero n)

no_level : (lim : Limits) (f : Font) (l : List ℕ) (s : State) → run_body lim f 0 l s ≡ refused 4
unfolding run_body
no_level lim f l s = refl

-- ---- what comes of an outcome
-- a token that is not an operator
halted : (f : ℕ) (t : St) (m : Mem) (s : State) (c : Bool) → eqb f 1 ≡ c → Holds t m s → ((f ≡ 1 → ⊥) → 3 ≤ f) → Meets (ran_of t (pick c 0 f)) m (returned (pick c (going s) (refused f)))
halted f t m s true e holds far = (refl, holds)
halted f t m s false e holds far = (refl, far (not_eq f 1 (subst (λ (b : Bool). T (not b)) (sym e) tt)))

stays : (f : ℕ) → (f ≡ 1 → ⊥) → pick (eqb f 1) 0 f ≡ f
stays f h = not_picked (eqb f 1) 0 f (not_t (eqb f 1) (λ y. h (eqb→eq f 1 y)))

back : (f : ℕ) → f ≡ 1 → pick (eqb f 1) 0 f ≡ 0
back f h = picked (eqb f 1) 0 f (subst (λ (k : ℕ). T (eqb k 1)) (sym h) tt)

apart : (f a b : ℕ) → f ≡ a → f ≡ b → a < b → ⊥
apart f a b p q h = omega (arith, p, q, h)

above : (f n : ℕ) → f ≡ n → 3 ≤ n → f ≡ 1 → ⊥
above f n p h q = omega (arith, p, h, q)

stops : (o : Outcome) (k : State → Outcome) (r : Ran) (m : Mem) → Meets r m o → (r.flow ≡ 0 → ⊥) → Meets (ran_of r.st (pick (eqb r.flow 1) 0 r.flow)) m (returned (and_then o k))
stops (going s) k r m e f = absurd (f e.0)
stops (returning s) k r m e f = (back r.flow e.0, e.1)
stops (ending s) k r m e f = (stays r.flow (λ y. apart r.flow 1 2 y e.0 (lit< tt)) ∙ e.0, e.1)
stops (refused n) k r m e f = (stays r.flow (above r.flow n e.0 e.1) ∙ e.0, e.1)

module _ (bank : List ℕ) (reading : Reading) (levels : ℕ) where
  abbrev font : Font
  font = font_of bank reading

  abbrev deep_of : Limits → List ℕ → State → Outcome
  deep_of lim = run_body lim font levels

  abbrev step_of : Limits → Operator → State → Outcome
  step_of lim = execute lim font (deep_of lim)

  module _ (o : ℕ) (t : St) (m : Mem) where
    abbrev All' : From
    All' = op_d bank reading levels o t m

    op_d_call : T (eqb o 10) → (s : State) → All'.does s ≡ call_subr font (deep_of (limits_in reading m)) s
    unfolding execute operate
    op_d_call h s = ap (λ (n : ℕ). step_of (limits_in reading m) (operator_of n) s) (eqb→eq o 10 h) ∙ ap (λ (n : Operator). step_of (limits_in reading m) n s) call_op

    -- what `plain` did
    pub plained : T (not (eqb o 10)) → (room : ℕ) → room ≡ length m.stems → (r : Ran) (m' : Mem) → ((s : State) → Holds t m s → Meets r m' (operate (limits_of reading (within room (length m.cmds))) (refused 6) (operator_of o) s)) → MeetsFrom r m' All'
    unfolding execute
    plained h room er r m' e s K =
        subst (Meets r m') (ap (λ (n : ℕ). operate (limits_of reading (within n (length m.cmds))) (refused 6) (operator_of o) s) er ∙ other_call (limits_in reading m) (refused 6) (call_subr font (deep_of (limits_in reading m)) s) (operator_of o) s (either_op o h (ltb o 256) refl)) (e s K)

    module _ (h : T (eqb o 10)) where
      -- a call that is refused
      pub call_refused : (k : Refusal) → ((s : State) → Holds t m s → Calls bank reading m s (Err k)) → (r : Ran) (u : St) → r ≡ ran_of u (number_of k) → MeetsFrom r m All'
      call_refused k calls r u e s K = let off = calls s K in subst (Meets r m) (sym (op_d_call h s ∙ off.1 (deep_of (limits_in reading m)))) (ap (λ (q : Ran). q.flow) e, off.0)

      module _ (c : Called) (made : (s : State) → Holds t m s → Calls bank reading m s (Ok c)) where
        -- one with no level left for it
        pub too_deep : (r : Ran) → r ≡ ran_of c.st 4 → T (eqb levels 0) → MeetsFrom r m All'
        too_deep r e l s K =
            let (u, J, is) = made s K in
            subst (Meets r m) (sym (op_d_call h s ∙ is (deep_of (limits_in reading m)) ∙ ap (λ (k : ℕ). returned (run_body (limits_in reading m) font k (bytes_at (found c.index bank) bank) u)) (eqb→eq levels 0 l) ∙ ap returned (no_level (limits_in reading m) font (bytes_at (found c.index bank) bank) u))) (ap (λ (q : Ran). q.flow) e, lit≤ tt)

        -- the state in which the body starts
        pub ready_call : Bytes bank → Ready t m → Ready c.st m
        ready_call b r =
            let (u, J, is) = made (abs t m) (holds_itself t m r.fit) in
            record {
              fit = J.fit;
              sound = held_sound c.st m u J (subst SoundOut (is (λ l u. ending u)) (call_subr_sound (limits_in reading m) font (λ l u. ending u) b (λ l u k q. q) (abs t m) r.sound));
            }

        -- what the body did
        pub called : (body : List ℕ) → body ≡ bytes_at (found c.index bank) bank → T (not (eqb levels 0)) → (r : Ran) (m' : Mem) → MeetsFrom r m' (run_d bank reading (levels - 1) body c.st m) → MeetsFrom r m' All'
        called body eb l r m' e s K =
            let (u, J, is) = made s K in
            subst (Meets r m') (ap (λ (k : ℕ). returned (run_body (limits_in reading m) font k body u)) (one_more levels l) ∙ ap (λ (b : List ℕ). returned (deep_of (limits_in reading m) b u)) eb ∙ sym (op_d_call h s ∙ is (deep_of (limits_in reading m)))) (e u J)

  -- ---- the bytes
  module _ (code : List ℕ) (enc : Bool) (t₀ : St) (m₀ : Mem) where
    abbrev lim : Limits
    lim = limits_in reading m₀

    abbrev whole : State → Outcome
    whole = run_bytes lim (step_of lim) (plain reading.len_iv code) 0

    abbrev fin : From
    fin = run_d bank reading levels code t₀ m₀

    -- what is left of the bytes is what the whole comes to
    pub record Onward (i key : ℕ) (h : St) (m : Mem) : Type 0 where
      pub ready : Ready h m
      pub left : (s : State) → Holds t₀ m₀ s → (u : State) × Holds h m u × (run_bytes lim (step_of lim) (rest (cursor_of i key enc) code) 0 u ≡ whole s)

    fin_is : (s : State) → fin.does s ≡ returned (whole s)
    unfolding run_body
    fin_is s = refl

    pub starts : (i key : ℕ) → cursor_of i key enc ≡ start reading.len_iv code → Ready t₀ m₀ → Onward i key t₀ m₀
    starts i key e r = record {
      ready = r;
      left = λ s K. (s, K, ap (λ (k : Cursor). run_bytes lim (step_of lim) (rest k code) 0 s) e ∙ ap (λ (l : List ℕ). run_bytes lim (step_of lim) l 0 s) (rest-start reading.len_iv code));
    }

    module _ (i key : ℕ) (h : St) (m : Mem) (on : Onward i key h m) where
      -- no byte is left
      pub ended : ltb i (length code) ≡ false → (r : Ran) → r ≡ ran_of h 0 → MeetsFrom r m fin
      unfolding run_bytes
      ended over r e s K =
          let (u, J, is) = on.left s K in
          subst (λ (q : Ran). Meets q m (fin.does s)) (sym e)
          (subst (Meets (ran_of h 0) m) (sym (fin_is s ∙ ap returned (sym is ∙ ap (λ (l : List ℕ). run_bytes lim (step_of lim) l 0 u) (rest-none (cursor_of i key enc) code (nltb→le i (length code) (subst (λ (b : Bool). T (not b)) (sym over) tt)))))) (refl, J))

      module _ (ls : length m.stems ≡ length m₀.stems) (lc : length m.cmds ≡ length m₀.cmds) (t : Tok) (os : List Float) (cs : List ℕ) (reads : Reads reading code i key enc h m.ops m.cmds t os cs) where
        abbrev m₁ : Mem
        m₁ = read_mem os cs m

        limits_are : limits_in reading m ≡ lim
        limits_are = λ j. limits_of reading (within (ls j) (lc j))

        fit_token : Fit t.st m₁
        fit_token = reads.fit m on.ready.fit

        -- the state at the token
        step_is : (s : State) → Holds h m s → (u : State) × Holds t.st m₁ u × (run_bytes lim (step_of lim) (rest (cursor_of i key enc) code) 0 s ≡ goes_on t code enc lim (step_of lim) u)
        step_is s H =
            let (u, K, is) = reads.same m s H in
            (u, K, subst (λ (l : Limits). ReadsAs l (step_of lim) → run_bytes l (step_of lim) (rest (cursor_of i key enc) code) 0 s ≡ goes_on t code enc l (step_of lim) u) limits_are (is (step_of lim)) (step-read lim font (deep_of lim)))

        going_on : T (not (not (eqb t.flow 0))) → (f : Operator → State → Outcome) (u : State) → goes_on t code enc lim f u ≡ and_then (f (operator_of t.op) u) (run_bytes lim f (rest (cursor_of t.next t.key enc) code) 0)
        going_on z f u =
            picked (eqb t.flow 0) (and_then (f (operator_of t.op) u) (run_bytes lim f (rest (cursor_of t.next t.key enc) code) 0)) (pick (eqb t.flow 1) (going u) (refused t.flow)) (twice_not (eqb t.flow 0) z)

        -- the state at an operator
        pub ready_token : Bytes code → Ready t.st m₁
        ready_token b = record { fit = fit_token; sound = reads.sound m on.ready.fit b on.ready.sound }

        -- the bytes end, or what stands there is refused
        pub token_stopped : T (not (eqb t.flow 0)) → (r : Ran) → r ≡ ran_of t.st (pick (eqb t.flow 1) 0 t.flow) → MeetsFrom r m₁ fin
        token_stopped z r e s K =
            let (u, J, is) = on.left s K in
            let (v, L, does) = step_is u J in
            subst (λ (q : Ran). Meets q m₁ (fin.does s)) (sym e)
            (subst (Meets (ran_of t.st (pick (eqb t.flow 1) 0 t.flow)) m₁) (sym (fin_is s ∙ ap returned (sym is ∙ does ∙ not_picked (eqb t.flow 0) (and_then (step_of lim (operator_of t.op) v) (run_bytes lim (step_of lim) (rest (cursor_of t.next t.key enc) code) 0)) (pick (eqb t.flow 1) (going v) (refused t.flow)) z)))
            (halted t.flow t.st m₁ v (eqb t.flow 1) refl L (reads.number (not_eq t.flow 0 z))))

        module _ (z : T (not (not (eqb t.flow 0)))) where
          abbrev did : From
          did = op_d bank reading levels t.op t.st m₁

          abbrev then : State → Outcome
          then = run_bytes lim (step_of lim) (rest (cursor_of t.next t.key enc) code) 0

          did_is : (u : State) → did.does u ≡ step_of lim (operator_of t.op) u
          did_is u = λ j. step_of (limits_of reading (within (ls j) ((reads.whole ∙ lc) j))) (operator_of t.op) u

          whole_is : (s : State) → Holds t₀ m₀ s → (v : State) × Holds t.st m₁ v × (whole s ≡ and_then (did.does v) then)
          whole_is s K =
              let (u, J, is) = on.left s K in
              let (v, L, does) = step_is u J in
              (v, L, sym is ∙ does ∙ going_on z (step_of lim) v ∙ ap (λ (o : Outcome). and_then o then) (sym (did_is v)))

          -- an operator after which the bytes do not go on
          pub op_stopped : (r q : Ran) (m₂ : Mem) → MeetsFrom r m₂ did → T (not (eqb r.flow 0)) → q ≡ ran_of r.st (pick (eqb r.flow 1) 0 r.flow) → MeetsFrom q m₂ fin
          op_stopped r q m₂ e y eq s K =
              let (v, L, is) = whole_is s K in
              subst (λ (p : Ran). Meets p m₂ (fin.does s)) (sym eq) (subst (Meets (ran_of r.st (pick (eqb r.flow 1) 0 r.flow)) m₂) (sym (fin_is s ∙ ap returned is)) (stops (did.does v) then r m₂ (e v L) (not_eq r.flow 0 y)))

          -- one after which they do
          pub op_went : Bytes bank → Ready t.st m₁ → (r : Ran) (m₂ : Mem) → MeetsFrom r m₂ did → T (not (not (eqb r.flow 0))) → Onward t.next t.key r.st m₂
          op_went b rd r m₂ e y =
              let zero' : r.flow ≡ 0 = eqb→eq r.flow 0 (twice_not (eqb r.flow 0) y) in
              let at : State = abs t.st m₁ in
              let sounds : SoundOut (did.does at) = subst SoundOut (sym (did_is at)) (execute_sound lim font (deep_of lim) b (λ l s k q. run_body_sound lim font b levels l s k q) (operator_of t.op) at rd.sound) in
              let (u, J, is) = goes (did.does at) r m₂ (e at (holds_itself t.st m₁ rd.fit)) zero' in
              record {
                ready = record { fit = J.fit; sound = held_sound r.st m₂ u J (subst SoundOut is sounds) };
                left = λ s K.
                    let (v, L, all) = whole_is s K in
                    let (w, N, went) = goes (did.does v) r m₂ (e v L) zero' in
                    (w, N, sym (all ∙ ap (λ (o : Outcome). and_then o then) went));
              }
