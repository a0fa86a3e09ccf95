-- Laws: an operator that came, as `find` answers it.
use mathlib.Core.Path.{◌≡◌, refl, sym, ap, ap₂, ◌∙◌, subst}
use Prim.Native.Nat.{ℕ, zero, suc, ◌+◌, ◌-◌, ◌/◌, ◌≤◌, ◌<◌}
use native.Mathlib.Nat.{mod-le}
use native.Mathlib.Omega.{arith}
use mathlib.Core.Bool.{Bool, true, false, ◌&&◌, ◌||◌, cond}
use mathlib.Core.List.{List, [], ◌∷◌}
use mathlib.Core.Option.{Option, none, some}
use lib.ListN.{length, take, drop, get_or, set, length-drop, length-take, length-set}
use lib.Seq.{drop-drop}
use lib.Dec.{T, leb, ltb, eqb, leb→le, eqb→eq}
use lib.IntN.{ℤ, pos}
use borrow.Author.Tests.{leb-true, leb-false}
use Rattle.std.specs.Prelude.{Option as OptionOf, Some, None, option_and_then}
use Rattle.std.specs.Bool.{then_some}
use Rattle.renderer.specs.Machine.{State, Step, fault, stop, on, with_ops, begin, Takes, exactly, many, least, spare, settled, settle, after, stem, mask, bits, none_set, draw, draws, and_then, across, upward, escape, operator, next, run, reach, all_small}
use Rattle.type2.specs.Path.{moves, lines, curves, flexes}
use Rattle.type2.specs.Bools.{is_lt, not_lt, choose}
use Rattle.renderer.specs.Reader.{Taken, takes_of, unit, held}
use Rattle.renderer.proofs.ReaderLaws.{held-length}
use Rattle.renderer.specs.Reads.{Gathered, escaped, plain, taken_by, skip, skip_of, after_mask, does, found_goes, Found, Finds}
use Rattle.renderer.specs.declared.numbers.Numbers.{Numbers}
use Rattle.renderer.specs.declared.opcodes.Opcode.{Opcode}
use Rattle.renderer.specs.declared.opcodes.Opcode.TheVariants.{Stem, HintMask, RMoveTo, HMoveTo, VMoveTo, RLineTo, RRCurveTo, EscapeFlex, EndChar}
use Rattle.renderer.specs.declared.Operation.{Operation}
use Rattle.renderer.specs.declared.Operation.TheVariants.{Stems, Mask, Move, Lines, Curves, Flex, End}
use Rattle.renderer.specs.declared.Operator.{Operator}
use Rattle.renderer.specs.declared.Reader.{Reader}
use Rattle.renderer.proofs.OperatorLaws.{held-drop, held-size, run-skip, run-operator}

-- ---- an operator by its opcode
unfoldable doing : Opcode → List ℕ → State → Step
doing Stem bs t = stem t
doing HintMask bs t = mask bs t
doing RMoveTo bs t = draw moves t.ops t
doing HMoveTo bs t = across t
doing VMoveTo bs t = upward t
doing RLineTo bs t = draws lines 2 (length t.ops / 2) t.ops t
doing RRCurveTo bs t = draws curves 6 (length t.ops / 6) t.ops t
doing EscapeFlex bs t = and_then (draw flexes t.ops t) (on 1)
doing EndChar bs t = stop t

unfoldable acts : OptionOf Opcode → List ℕ → State → Step
acts None bs s = fault
acts (Some c) bs s = after (settle (taken_by c) s) (doing c bs)

pick : (x : Bool) (A B : Step) (a c : OptionOf Opcode) (bs : List ℕ) (s : State) → A ≡ acts a bs s → B ≡ acts c bs s → cond x A B ≡ acts (cond x a c) bs s
pick true A B a c bs s p q = p
pick false A B a c bs s p q = q

escape-plain : (bs : List ℕ) (s : State) → escape bs s ≡ acts (escaped bs) bs s
unfolding escape acts doing
escape-plain [] s = refl
escape-plain (b ∷ bs) s = pick (eqb b 35) _ fault (Some EscapeFlex) None (b ∷ bs) s refl refl

operator-plain : (b : ℕ) (bs : List ℕ) (s : State) → operator b bs s ≡ acts (plain b bs) bs s
unfolding operator plain acts doing
operator-plain b bs s =
    pick (eqb b 1 || eqb b 3 || eqb b 18 || eqb b 23) _ _ (Some Stem) _ bs s refl
    (pick (eqb b 19) _ _ (Some HintMask) _ bs s refl
    (pick (eqb b 21) _ _ (Some RMoveTo) _ bs s refl
    (pick (eqb b 22) _ _ (Some HMoveTo) _ bs s refl
    (pick (eqb b 4) _ _ (Some VMoveTo) _ bs s refl
    (pick (eqb b 5) _ _ (Some RLineTo) _ bs s refl
    (pick (eqb b 8) _ _ (Some RRCurveTo) _ bs s refl
    (pick (eqb b 12) _ _ (escaped bs) _ bs s (escape-plain bs s)
    (pick (eqb b 14) _ _ (Some EndChar) None bs s refl refl))))))))

-- a flex has a second byte
abbrev Second : List ℕ → OptionOf Opcode → Type 0
Second bs x = Some EscapeFlex ≡ x → 1 ≤ length bs

flex_more : (b : ℕ) (bs : List ℕ) → Some EscapeFlex ≡ plain b bs → 1 ≤ length bs
unfolding plain
flex_more b bs =
    choose (eqb b 1 || eqb b 3 || eqb b 18 || eqb b 23) (Second bs) (Some Stem) _ (λ t e. cc)
    (λ t. choose (eqb b 19) (Second bs) (Some HintMask) _ (λ t e. cc)
    (λ t. choose (eqb b 21) (Second bs) (Some RMoveTo) _ (λ t e. cc)
    (λ t. choose (eqb b 22) (Second bs) (Some HMoveTo) _ (λ t e. cc)
    (λ t. choose (eqb b 4) (Second bs) (Some VMoveTo) _ (λ t e. cc)
    (λ t. choose (eqb b 5) (Second bs) (Some RLineTo) _ (λ t e. cc)
    (λ t. choose (eqb b 8) (Second bs) (Some RRCurveTo) _ (λ t e. cc)
    (λ t. choose (eqb b 12) (Second bs) (escaped bs) _ (λ t. second bs)
    (λ t. choose (eqb b 14) (Second bs) (Some EndChar) None (λ t e. cc) (λ t e. cc)))))))))
  where
    second : (l : List ℕ) → Some EscapeFlex ≡ escaped l → 1 ≤ length l
    second [] e = cc
    second (a ∷ l) e = omega arith

-- ---- where the operands start
pub record Skips (t : Takes) (n f : ℕ) (begun : Bool) : Type 0 where
  pub enough : least t ≤ n
  pub left : spare t n ≡ f
  pub start : f ≡ 1 → begun ≡ false
  pub order : f ≤ n
  pub few : f ≤ 1

spare-le : (t : Takes) (n : ℕ) → spare t n ≤ n
spare-le (exactly k) n = omega arith
spare-le (many k) n = mod-le n k

-- the only two ways
abbrev Starts : ℕ → ℕ → Bool → OptionOf ℕ → Type 0
Starts n f begun x = Some f ≡ x → (n ≡ f) × (f ≡ 1 → begun ≡ false) × (f ≤ 1)

skip_is : (n f : ℕ) (begun : Bool) → Some f ≡ skip begun n → (n ≡ f) × (f ≡ 1 → begun ≡ false) × (f ≤ 1)
skip_is n f begun =
    choose (eqb n 0) (Starts n f begun) (Some 0) _
    (λ t e. let k : f ≡ 0 = cc in let m = eqb→eq n 0 t in (m ∙ sym k, λ q. absurd (let z : ⊥ = omega arith in z), omega arith))
    (λ u. choose (eqb n 1) (Starts n f begun) (cond begun None (Some 1)) None (λ t. first begun (eqb→eq n 1 t)) (λ t e. cc))
  where
    first : (x : Bool) → n ≡ 1 → Some f ≡ cond x None (Some 1) → (n ≡ f) × (f ≡ 1 → x ≡ false) × (f ≤ 1)
    first true p e = cc
    first false p e = let k : f ≡ 1 = cc in (p ∙ sym k, λ q. refl, omega arith)

pub skips : (c : Opcode) (n f : ℕ) (begun : Bool) → Some f ≡ skip_of c n begun → Skips (taken_by c) n f begun
skips c n f begun = go (leb (least (taken_by c)) n) refl
  where
    go : (x : Bool) → leb (least (taken_by c)) n ≡ x → Some f ≡ option_and_then (skip begun) (cond x (Some (spare (taken_by c) n)) None) → Skips (taken_by c) n f begun
    go true p e =
        let w = skip_is (spare (taken_by c) n) f begun e in
        let y = spare-le (taken_by c) n in
        let v : spare (taken_by c) n ≡ f = w.0 in
        let u : f ≤ 1 = w.2 in
        record { enough = leb-true (least (taken_by c)) n p; left = v; start = w.1; order = omega arith; few = u }
    go false p e = cc

-- what is left without the width is as many as the operator takes
rest_of : (c : Opcode) (n f : ℕ) → f ≤ 1 → least (taken_by c) ≤ n → spare (taken_by c) n ≡ f → (least (taken_by c) ≤ n - f) × (spare (taken_by c) (n - f) ≡ 0)
rest_of Stem n f h p q = (omega arith, omega arith)
rest_of HintMask n f h p q = (omega arith, omega arith)
rest_of RMoveTo n f h p q = (omega arith, omega arith)
rest_of HMoveTo n f h p q = (omega arith, omega arith)
rest_of VMoveTo n f h p q = (omega arith, omega arith)
rest_of RLineTo n f h p q = (omega arith, omega arith)
rest_of RRCurveTo n f h p q = (omega arith, omega arith)
rest_of EscapeFlex n f h p q = (omega arith, omega arith)
rest_of EndChar n f h p q = (omega arith, omega arith)

settle_by : (t : Takes) (l : List ℤ) (s : State) (f : ℕ) → Skips t (length l) f s.begun → settle t (with_ops l s) ≡ some (begin (cond (eqb f 0) s.width (some (get_or l 0 (pos 0)))) (drop f l) s)
unfolding settle
settle_by t l s f k = rw (not_lt (length l) (least t) k.enough, k.left) (go f l k.few k.start k.order)
  where
    go : (f : ℕ) (l : List ℤ) → f ≤ 1 → (f ≡ 1 → s.begun ≡ false) → f ≤ length l → settled f l (with_ops l s) ≡ some (begin (cond (eqb f 0) s.width (some (get_or l 0 (pos 0)))) (drop f l) s)
    go zero l h b k = refl
    go (suc zero) [] h b k = absurd (let z : ⊥ = omega arith in z)
    go (suc zero) (w ∷ l) h b k = rw (b refl)
    go (suc (suc f)) l h b k = absurd (let z : ⊥ = omega arith in z)

settled_no : (n : ℕ) (l : List ℤ) (s : State) → None ≡ skip s.begun n → settled n l s ≡ none
settled_no zero l s h = cc
settled_no (suc zero) [] s h = refl
settled_no (suc zero) (w ∷ l) s h = go s.begun h
  where
    go : (x : Bool) → ◌≡◌ {A = OptionOf ℕ} None (cond x None (Some 1)) → cond x none (some (begin (some w) l s)) ≡ none
    go true h = refl
    go false h = cc
settled_no (suc (suc n)) l s h = refl

settle_no : (c : Opcode) (l : List ℤ) (s : State) → None ≡ skip_of c (length l) s.begun → settle (taken_by c) (with_ops l s) ≡ none
unfolding settle
settle_no c l s = go (leb (least (taken_by c)) (length l)) refl
  where
    go : (x : Bool) → leb (least (taken_by c)) (length l) ≡ x → None ≡ option_and_then (skip s.begun) (cond x (Some (spare (taken_by c) (length l))) None)
        → cond (ltb (length l) (least (taken_by c))) none (settled (spare (taken_by c) (length l)) l (with_ops l s)) ≡ none
    go true p e = rw (not_lt (length l) (least (taken_by c)) (leb-true (least (taken_by c)) (length l) p)) (settled_no (spare (taken_by c) (length l)) l (with_ops l s) e)
    go false p e = rw (is_lt (length l) (least (taken_by c)) (leb-false (least (taken_by c)) (length l) p))

-- ---- the second byte of a flex is passed over
flex_next : (x : Bool) (u : State) (bs : List ℕ) → next (and_then (cond x (on 0 u) fault) (on 1)) bs (run bs) ≡ next (cond x (on 0 u) fault) (drop 1 bs) (run (drop 1 bs))
flex_next true u bs = run-skip 1 bs u
flex_next false u bs = refl

draw-next : (l : List ℤ) (t : State) (bs : List ℕ) → next (and_then (draw flexes l t) (on 1)) bs (run bs) ≡ next (draw flexes l t) (drop 1 bs) (run (drop 1 bs))
unfolding draw
draw-next l t bs = flex_next (all_small (reach t.at l)) _ bs

skip_to : (k place m : ℕ) (P : List ℕ) (u : State) → m ≡ place + k → run (drop place P) k u ≡ run (drop m P) 0 u
skip_to k place m P u e = run-skip k (drop place P) u ∙ ap (λ (l : List ℕ). run l 0 u) (drop-drop k place P ∙ ap (λ (x : ℕ). drop x P) (sym e))

-- ---- hmoveto and vmoveto with both deltas
abbrev width_at : ℕ → List ℕ → State → Option ℤ
width_at f o s = cond (eqb f 0) s.width (some (unit (get_or o 0 0)))

-- an array of three or more, with nothing or the width before the operands
by_first : (Q : ℕ → List ℕ → Type 0) → ((a b c : ℕ) (l : List ℕ) → Q 0 (a ∷ b ∷ c ∷ l)) → ((a b c : ℕ) (l : List ℕ) → Q 1 (a ∷ b ∷ c ∷ l)) → (f : ℕ) (o : List ℕ) → f ≤ 1 → 3 ≤ length o → Q f o
by_first Q p q zero (a ∷ b ∷ c ∷ l) h k = p a b c l
by_first Q p q (suc zero) (a ∷ b ∷ c ∷ l) h k = q a b c l
by_first Q p q (suc (suc f)) (a ∷ b ∷ c ∷ l) h k = absurd (let z : ⊥ = omega arith in z)
by_first Q p q f [] h k = absurd (let z : ⊥ = omega arith in z)
by_first Q p q f (a ∷ []) h k = absurd (let z : ⊥ = omega arith in z)
by_first Q p q f (a ∷ b ∷ []) h k = absurd (let z : ⊥ = omega arith in z)

abbrev Across : State → ℕ → ℕ → List ℕ → Type 0
Across s n f o = across (begin (width_at f o s) (held (drop f (take n o))) s) ≡ draw moves (held (drop f (take (n + 1) (set o n 2147483648)))) (begin (width_at f (set o n 2147483648) s) (held (drop f (take (n + 1) (set o n 2147483648)))) s)

across-both : (f : ℕ) (o : List ℕ) (s : State) → f ≤ 1 → 3 ≤ length o → Across s (f + 1) f o
unfolding draw held across
across-both f o s = by_first (λ (f : ℕ) (o : List ℕ). Across s (f + 1) f o) (λ a b c l. refl) (λ a b c l. refl) f o

abbrev risen : ℕ → ℕ → List ℕ → List ℕ
risen f n o = set (set o n (get_or o f 0)) f 2147483648

abbrev Upward : State → ℕ → ℕ → List ℕ → Type 0
Upward s n f o = upward (begin (width_at f o s) (held (drop f (take n o))) s) ≡ draw moves (held (drop f (take (n + 1) (risen f n o)))) (begin (width_at f (risen f n o) s) (held (drop f (take (n + 1) (risen f n o)))) s)

upward-both : (f : ℕ) (o : List ℕ) (s : State) → f ≤ 1 → 3 ≤ length o → Upward s (f + 1) f o
unfolding draw held upward
upward-both f o s = by_first (λ (f : ℕ) (o : List ℕ). Upward s (f + 1) f o) (λ a b c l. refl) (λ a b c l. refl) f o

-- ---- the answers
module _ {P o : List ℕ} (t : Reader) {m : Numbers} (few : t.stems ≤ 96) (size : length o ≡ 48) (g : Gathered P t.at o m) where
  abbrev rest : List ℕ
  rest = drop m.next P

  abbrev numbered : State → State
  numbered s = with_ops (held (take m.count o)) s

  numbers-size : length (held (take m.count o)) ≡ m.count
  numbers-size = held-size m.count o (let h = g.few in omega arith)

  chain : (s : State) → run (drop t.at P) 0 (with_ops [] s) ≡ next (acts (plain m.byte rest) rest (numbered s)) rest (run rest)
  chain s = g.runs s ∙ run-operator m.byte rest (numbered s) g.operator ∙ ap (λ (x : Step). next x rest (run rest)) (operator-plain m.byte rest (numbered s))

  faulty : ((s : State) → s.begun ≡ t.begun → s.stems ≡ t.stems → acts (plain m.byte rest) rest (numbered s) ≡ fault) → Finds P t o None
  faulty h = λ s b n. chain s ∙ ap (λ (x : Step). next x rest (run rest)) (h s b n)

  pub unknown : None ≡ plain m.byte rest → Finds P t o None
  unfolding acts
  unknown e = faulty (λ s b n. rw (← e))

  module _ {code : Opcode} (name : Some code ≡ plain m.byte rest) where
    acts_is : (s : State) → acts (plain m.byte rest) rest (numbered s) ≡ after (settle (taken_by code) (numbered s)) (doing code rest)
    unfolding acts
    acts_is s = rw (← name)

    pub unsettled : None ≡ skip_of code m.count t.begun → Finds P t o None
    unsettled e = faulty (λ s b n. acts_is s ∙ rw (settle_no code (held (take m.count o)) s (e ∙ ap₂ (λ (x : ℕ) (y : Bool). skip_of code x y) (sym numbers-size) (sym b))))

    module _ {f : ℕ} (start : Some f ≡ skip_of code m.count t.begun) where
      pub taken : Skips (taken_by code) m.count f t.begun
      taken = skips code m.count f t.begun start

      whole : (least (taken_by code) ≤ m.count - f) × (spare (taken_by code) (m.count - f) ≡ 0)
      whole = rest_of code m.count f taken.few taken.enough taken.left

      taken_as : (c : Operation) → taken_by code ≡ takes_of c → Taken c (m.count - f)
      taken_as c e = record { enough = subst (λ (x : Takes). least x ≤ m.count - f) e whole.0; spared = subst (λ (x : Takes). spare x (m.count - f) ≡ 0) e whole.1 }

      abbrev settled_to : State → State
      settled_to s = begin (cond (eqb f 0) s.width (some (unit (get_or o 0 0)))) (held (drop f (take m.count o))) s

      operands_size : length (held (drop f (take m.count o))) ≡ m.count - f
      operands_size = held-length (drop f (take m.count o)) ∙ length-drop f (take m.count o) ∙ (let e = length-take m.count o in let k = g.few in omega arith)

      first_is : (x : ℕ) → x ≤ 1 → x ≤ m.count → (s : State) → cond (eqb x 0) s.width (some (get_or (held (take m.count o)) 0 (pos 0))) ≡ cond (eqb x 0) s.width (some (unit (get_or o 0 0)))
      unfolding held
      first_is zero a b s = refl
      first_is (suc zero) a b s = ap some (front m.count o (omega arith) (omega arith))
        where
          front : (n : ℕ) (l : List ℕ) → 1 ≤ n → 1 ≤ length l → get_or (held (take n l)) 0 (pos 0) ≡ unit (get_or l 0 0)
          front zero l p q = absurd (let z : ⊥ = omega arith in z)
          front (suc n) [] p q = absurd (let z : ⊥ = omega arith in z)
          front (suc n) (y ∷ l) p q = refl
      first_is (suc (suc x)) a b s = absurd (let z : ⊥ = omega arith in z)

      settles : (s : State) → s.begun ≡ t.begun → acts (plain m.byte rest) rest (numbered s) ≡ doing code rest (settled_to s)
      settles s b =
          acts_is s ∙ rw (settle_by (taken_by code) (held (take m.count o)) s f (subst (λ (x : ℕ). Skips (taken_by code) x f s.begun) (sym numbers-size) (subst (Skips (taken_by code) m.count f) (sym b) taken)), first_is f taken.few taken.order s, held-drop f (take m.count o))

      comes : (s : State) → s.begun ≡ t.begun → run (drop t.at P) 0 (with_ops [] s) ≡ next (doing code rest (settled_to s)) rest (run rest)
      comes s b = chain s ∙ ap (λ (x : Step). next x rest (run rest)) (settles s b)

      faults : ((s : State) → s.stems ≡ t.stems → doing code rest (settled_to s) ≡ fault) → Finds P t o None
      faults q = faulty (λ s b n. settles s b ∙ q s n)

      -- an operator that ends at the place a, with n stems then
      abbrev built : Operation → ℕ → ℕ → ℕ → Operator
      built c end a n = record { operation = c; first = f; end = end; after = record { at = a; begun = true; stems = n; position = t.position } }

      found_at : (c : Operation) (a n : ℕ) → ((s : State) → s.begun ≡ t.begun → s.stems ≡ t.stems → run (drop t.at P) 0 (with_ops [] s) ≡ found_goes (built c m.count a n) o P s)
          → n ≤ 96 → m.next ≤ a → a ≤ length P → ((c ≡ Stems → ⊥) → n ≡ t.stems) → taken_by code ≡ takes_of c → Found P t o (built c m.count a n)
      found_at c a n runs known past within kept e =
          let w = g.onward in
          record { runs = runs; few = g.few; order = taken.order; stems96 = known; within = within; onward = omega arith; kept = kept; taken = taken_as c e; begun_is = refl; position_is = refl }

      -- stems
      pub stems_found : code ≡ Stem → Finds P t o (then_some (leb (t.stems + (m.count - f) / 2) 96) (built Stems m.count m.next (t.stems + (m.count - f) / 2)))
      unfolding doing stem does
      stems_found c = go (leb (t.stems + (m.count - f) / 2) 96) refl
        where
          go : (x : Bool) → leb (t.stems + (m.count - f) / 2) 96 ≡ x → Finds P t o (then_some x (built Stems m.count m.next (t.stems + (m.count - f) / 2)))
          go true e =
              let k = leb-true (t.stems + (m.count - f) / 2) 96 e in
              found_at Stems m.next (t.stems + (m.count - f) / 2) (λ s b n. comes s b ∙ rw (c, n, operands_size, is_lt (t.stems + (m.count - f) / 2) 97 (omega arith))) k (omega arith) g.within (λ p. absurd (p refl)) (ap taken_by c)
          go false e =
              let k = leb-false (t.stems + (m.count - f) / 2) 96 e in
              faults (λ s n. rw (c, n, operands_size, not_lt (t.stems + (m.count - f) / 2) 97 (omega arith)))

      -- a move, lines, curves, the end
      plainly : (c : Operation) → taken_by code ≡ takes_of c → ((s : State) → doing code rest (settled_to s) ≡ does c (built c m.count m.next t.stems) P (settled_to s)) → Found P t o (built c m.count m.next t.stems)
      plainly c e h = found_at c m.next t.stems (λ s q n. comes s q ∙ ap (λ (x : Step). next x rest (run rest)) (h s)) few (omega arith) g.within (λ p. refl) e

      pub a_move : code ≡ RMoveTo → Found P t o (built Move m.count m.next t.stems)
      unfolding doing does
      a_move c = plainly Move (ap taken_by c) (λ s. rw c)

      pub some_lines : code ≡ RLineTo → Found P t o (built Lines m.count m.next t.stems)
      unfolding doing does
      some_lines c = plainly Lines (ap taken_by c) (λ s. rw c)

      pub some_curves : code ≡ RRCurveTo → Found P t o (built Curves m.count m.next t.stems)
      unfolding doing does
      some_curves c = plainly Curves (ap taken_by c) (λ s. rw c)

      pub the_end : code ≡ EndChar → Found P t o (built End m.count m.next t.stems)
      unfolding doing does
      the_end c = plainly End (ap taken_by c) (λ s. rw c)

      -- a flex
      pub second_byte : code ≡ EscapeFlex → m.next < length P
      second_byte c = let e : Some EscapeFlex ≡ plain m.byte rest = cc in let n = flex_more m.byte rest e in let d = length-drop m.next P in omega arith

      pub a_flex : code ≡ EscapeFlex → Found P t o (built Flex m.count (m.next + 1) t.stems)
      unfolding doing does
      a_flex c =
          let j = second_byte c in
          found_at Flex (m.next + 1) t.stems (λ s q n. comes s q ∙ rw c (draw-next (held (drop f (take m.count o))) (settled_to s) rest) ∙ ap (λ (l : List ℕ). next (draw flexes (held (drop f (take m.count o))) (settled_to s)) l (run l)) (drop-drop 1 m.next P)) few (omega arith) (omega arith) (λ p. refl) (ap taken_by c)

      -- hmoveto, vmoveto
      pub one_more : taken_by code ≡ exactly 1 → m.count ≡ f + 1
      one_more e =
          let w : m.count - 1 ≡ f = subst (λ (x : Takes). spare x m.count ≡ f) e taken.left in
          let v : 1 ≤ m.count = subst (λ (x : Takes). least x ≤ m.count) e taken.enough in
          omega arith

      moved_to : (l : List ℕ) → length l ≡ 48 → m.count ≡ f + 1 → ((s : State) → s.begun ≡ t.begun → run (drop t.at P) 0 (with_ops [] s) ≡ found_goes (built Move (m.count + 1) m.next t.stems) l P s)
          → Found P t l (built Move (m.count + 1) m.next t.stems)
      moved_to l z e r =
          let w = taken.few in
          record {
            runs = λ s q n. r s q;
            few = omega arith;
            order = omega arith;
            stems96 = few;
            within = g.within;
            onward = g.onward;
            kept = λ p. refl;
            taken = record { enough = omega arith; spared = omega arith };
            begun_is = refl;
            position_is = refl;
          }

      pub a_level_move : code ≡ HMoveTo → Found P t (set o m.count 2147483648) (built Move (m.count + 1) m.next t.stems)
      unfolding doing does
      a_level_move c =
          let e = one_more (ap taken_by c) in
          moved_to (set o m.count 2147483648) (length-set o m.count 2147483648 ∙ size) e (λ s q. comes s q ∙ rw c (ap (λ (x : Step). next x rest (run rest)) (subst (λ (n : ℕ). Across s n f o) (sym e) (across-both f o s taken.few (omega arith)))))

      pub an_upright_move : code ≡ VMoveTo → Found P t (risen f m.count o) (built Move (m.count + 1) m.next t.stems)
      unfolding doing does
      an_upright_move c =
          let e = one_more (ap taken_by c) in
          moved_to (risen f m.count o) (length-set (set o m.count (get_or o f 0)) f 2147483648 ∙ length-set o m.count (get_or o f 0) ∙ size) e (λ s q. comes s q ∙ rw c (ap (λ (x : Step). next x rest (run rest)) (subst (λ (n : ℕ). Upward s n f o) (sym e) (upward-both f o s taken.few (omega arith)))))

      -- a mask
      pub cut-mask : code ≡ HintMask → None ≡ after_mask P m.next t.stems → Finds P t o None
      unfolding doing mask after_mask
      cut-mask c d =
          faults (λ s n. rw (c, n) (go (leb ((t.stems + 7) / 8) (length rest) && none_set (drop t.stems (bits (take ((t.stems + 7) / 8) rest)))) _ d))
        where
          go : (x : Bool) (u : State) → None ≡ cond x (Some (m.next + (t.stems + 7) / 8)) None → cond x (on ((t.stems + 7) / 8) u) fault ≡ fault
          go true u d = cc
          go false u d = refl

      pub a_mask : code ≡ HintMask → (a : ℕ) → Some a ≡ after_mask P m.next t.stems → Found P t o (built Mask m.count a t.stems)
      unfolding doing mask after_mask does
      a_mask c a d = go (leb ((t.stems + 7) / 8) (length rest) && none_set (drop t.stems (bits (take ((t.stems + 7) / 8) rest)))) refl d
        where
          both : (a b : Bool) → (a && b) ≡ true → T a
          both true b e = tt
          both false b e = absurd (let z : ◌≡◌ {A = ℕ} 0 1 = cc in let y : ⊥ = omega arith in y)

          go : (x : Bool) → (leb ((t.stems + 7) / 8) (length rest) && none_set (drop t.stems (bits (take ((t.stems + 7) / 8) rest)))) ≡ x → Some a ≡ cond x (Some (m.next + (t.stems + 7) / 8)) None → Found P t o (built Mask m.count a t.stems)
          go true y d =
              let e : a ≡ m.next + (t.stems + 7) / 8 = cc in
              let i : a - ((t.stems + 7) / 8) ≡ m.next = omega arith in
              let j : ((t.stems + 7) / 8) ≤ length rest = leb→le ((t.stems + 7) / 8) (length rest) (both (leb ((t.stems + 7) / 8) (length rest)) _ y) in
              let v = length-drop m.next P in
              found_at Mask a t.stems (λ s q n. comes s q ∙ rw (c, n, y, i) (skip_to ((t.stems + 7) / 8) m.next a P _ e)) few (omega arith) (omega arith) (λ p. refl) (ap taken_by c)
          go false y d = cc
