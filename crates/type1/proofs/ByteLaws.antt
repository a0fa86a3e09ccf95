-- Laws: reading the bytes of a charstring, by a place and a key.
use mathlib.Core.Path.{◌≡◌, refl, sym, ap, ap₂, ◌∙◌, subst}
use Prim.Native.Nat.{ℕ, zero, suc, ◌+◌, ◌-◌, ◌*◌, ◌≤◌, ◌<◌, min}
use native.Mathlib.Numerals.{add-one}
use native.Mathlib.Omega.{arith}
use mathlib.Core.Bool.{Bool, true, false, cond, true≢false}
use mathlib.Core.List.{List, [], ◌∷◌, ◌++◌}
use mathlib.Core.Option.{Option, none, some}
use borrow.Author.Tests.{lt-ltb, le-ltb, ne_eqb, eqb-true, eqb-false}
use lib.Dec.{T, eqb, ltb, lit≤}
use lib.IntN.{ℤ}
use lib.ListN.{length, get_or, take, drop, set, replicate, length-set, length-take}
use lib.Seq.{take-suc-set}
use lib.Ieee.{Float}
use Rattle.charstring.specs.Cipher.{Bytes, step, byte_of}
use Rattle.charstring.specs.Cursor.{after, byte_at, rest}
use Rattle.charstring.specs.Laws.{step-key, rest_more, rest-none, rest-length, rest-bytes}
use Rattle.type1.specs.declared.Reading.{Reading}
use Rattle.type1.specs.declared.St.{St}
use Rattle.type1.specs.declared.Tok.{Tok}
use Rattle.type1.specs.declared.Num.{Num}
use Rattle.type1.specs.declared.Ran.{Ran}
use Rattle.std.specs.Prelude.{Some}
use Rattle.type1.specs.Operator as op
use Rattle.type1.specs.Operator.{Operator, closepath, of_byte, of_escape}
use Rattle.type1.specs.Number.{Token, cut, number, operator, token, token_two, token_five, token_escape, one_byte, two_bytes, two_bytes_below, four_bytes, double}
use Rattle.geometry.specs.declared.Point.{Point}
use Rattle.outline.specs.Outline.{pick, origin}
use Rattle.type1.specs.State.{State, with_operands, with_open}
use Rattle.type1.specs.Run.{Limits, within, limits_of, Outcome, allowed, going, returning, ending, refused, and_then, push, consume, operate, run_bytes}
use Rattle.type1.specs.Memory.{Mem, flex_held, abs, Fit, Holds, Good, Meets, operator_of}
use Rattle.type1.specs.Small.{ran_of, with_opened}
use Rattle.type1.specs.Sound.{is_pop, All, OfFlex, GoodPoint, Sound, SoundOut, SmallToken}
use Rattle.type1.specs.SoundLaws.{zero_good, sound_stable}
use Rattle.type1.specs.StableLaws.{token-small}
use Rattle.type1.specs.Reading.{cursor_of, placed, tok_of, left, is_read, is_quick, drawn_to, Draws, ReadsAs, read_mem, goes_on, Numbered, Operated, Reads}
use Rattle.operand_stack.specs.Stack.{operand_refusal, number_if, first_refusal}
use Rattle.operand_stack.specs.Laws.{operands_fit, refusal-above, first_is, second_is, none_refused}
use Rattle.type1.proofs.Depth.{operate-limits, limit_is, allowed-none, allowed_not}
use Rattle.type1.proofs.Stacks.{operands_are, holds_itself}

-- ---- one byte more; where the bytes are not encrypted, the key does not count
pub left_more : (code : List ℕ) (i key : ℕ) (e : Bool) → i < length code → left code i key e ≡ byte_of (get_or code i 0) key e ∷ left code (i + 1) (step (get_or code i 0) key) e
unfolding after byte_at rest
left_more code i key true h = rest_more (cursor_of i key true) code h
left_more code i key false h = rest_more (cursor_of i key false) code h

pub left_none : (code : List ℕ) (i key : ℕ) (e : Bool) → length code ≤ i → left code i key e ≡ []
left_none code i key e h = rest-none (cursor_of i key e) code h

-- with what was read of the byte
left_read : (code : List ℕ) (i key : ℕ) (e : Bool) (c b k : ℕ) → i < length code → c ≡ get_or code i 0 → b ≡ byte_of c key e → k ≡ step c key → left code i key e ≡ b ∷ left code (i + 1) k e
left_read code i key e c b k h p q r =
    left_more code i key e h
    ∙ ap₂ (λ (x y : ℕ). x ∷ left code (i + 1) y e) (ap (λ (z : ℕ). byte_of z key e) (sym p) ∙ sym q) (ap (λ (z : ℕ). step z key) (sym p) ∙ sym r)

-- ---- operators
token_op : (v : ℕ) (l : List ℕ) → v < 32 → (v ≡ 12 → ⊥) → token v l ≡ operator 0 (of_byte v)
unfolding token
token_op v l h n = simp (lt-ltb v 32 h, ne_eqb v 12 n)

token-escape : (v : ℕ) (l : List ℕ) → v ≡ 12 → token v l ≡ token_escape l
unfolding token
token-escape v l e = ap (λ (x : ℕ). token x l) e

operator-low : (n : ℕ) → n < 256 → operator_of n ≡ of_byte n
unfolding operator_of
operator-low n h = simp (lt-ltb n 256 h)

operator-high : (n : ℕ) → operator_of (256 + n) ≡ of_escape n
unfolding operator_of
operator-high n = simp (le-ltb (256 + n) 256 (omega arith)) (ap of_escape (let z : 256 + n - 256 ≡ n = omega arith in z))

module _ (code : List ℕ) (i key : ℕ) (e : Bool) (v : ℕ) (st : St) where
  pub plain_op : (t : Tok) (w : ℕ) → t ≡ tok_of st i key 0 w → w ≡ v → v < 32 → (v ≡ 12 → ⊥) → i ≤ length code → Operated code i key e v st t
  plain_op t w p q h ne l = subst (Operated code i key e v st) (sym (p ∙ ap (tok_of st i key 0) q)) (record {
    operator = λ z. (0, token_op v (left code i key e) h ne ∙ ap (operator 0) (sym (operator-low v (omega arith))), refl);
    cut = λ z. absurd (z refl);
    state = refl;
    on = (omega arith, l);
  })

  pub cut_op : (t : Tok) → t ≡ tok_of st i key 5 0 → v ≡ 12 → length code ≤ i → i ≤ length code → Operated code i key e v st t
  cut_op t p h l m = subst (Operated code i key e v st) (sym p) (record {
    operator = λ z. absurd (let y : ⊥ = omega arith in y);
    cut = λ z. (refl, token-escape v (left code i key e) h ∙ ap token_escape (left_none code i key e l));
    state = refl;
    on = (omega arith, m);
  })

  pub escape_op : (t : Tok) (c b w k : ℕ) → t ≡ tok_of st (i + 1) k 0 (256 + w) → w ≡ b → v ≡ 12 → i < length code → c ≡ get_or code i 0 → b ≡ byte_of c key e → k ≡ step c key → Operated code i key e v st t
  escape_op t c b w k p q h l a d f =
      let m = left_read code i key e c b k l a d f in
      subst (Operated code i key e v st) (sym (p ∙ ap (λ (x : ℕ). tok_of st (i + 1) k 0 (256 + x)) q)) (record {
        operator = λ z. (1, token-escape v (left code i key e) h ∙ ap token_escape m ∙ ap (operator 1) (sym (operator-high b)), ap (drop 1) m);
        cut = λ z. absurd (z refl);
        state = refl;
        on = (omega arith, omega arith);
      })

-- ---- numbers
token_one : (v : ℕ) (l : List ℕ) → 32 ≤ v → v < 247 → token v l ≡ number 0 (one_byte v)
unfolding token
token_one v l h k = simp (le-ltb v 32 h, lt-ltb v 247 k)

token_two_lem : (v : ℕ) (l : List ℕ) → 247 ≤ v → v < 255 → token v l ≡ token_two v l
unfolding token
token_two_lem v l h k = simp (le-ltb v 32 (omega arith), le-ltb v 247 h, lt-ltb v 255 k)

token_five_lem : (v : ℕ) (l : List ℕ) → 255 ≤ v → token v l ≡ token_five l
unfolding token
token_five_lem v l h = simp (le-ltb v 32 (omega arith), le-ltb v 247 (omega arith), le-ltb v 255 h)

abbrev num_of : Float → ℕ → ℕ → Bool → Num
num_of x next key c = record { x = x; next = next; key = key; cut = c }

-- fewer than four bytes
five_short : (l : List ℕ) → length l < 4 → token_five l ≡ cut
five_short [] h = refl
five_short (a ∷ []) h = refl
five_short (a ∷ b ∷ []) h = refl
five_short (a ∷ b ∷ c ∷ []) h = refl
five_short (a ∷ b ∷ c ∷ d ∷ l) h = absurd (let z : ⊥ = omega arith in z)

module _ (code : List ℕ) (i key : ℕ) (e : Bool) (v : ℕ) where
  pub one_num : (x : Float) → x ≡ double (one_byte v) → 32 ≤ v → v < 247 → i ≤ length code → Numbered code i key e v (num_of x i key false)
  one_num x p h k l = record { number = λ z. (0, one_byte v, token_one v (left code i key e) h k, p, refl); cut = λ z. absurd (true≢false (sym z)); on = (omega arith, l) }

  pub two_cut : (x : Float) → 247 ≤ v → v < 255 → length code ≤ i → i ≤ length code → Numbered code i key e v (num_of x i key true)
  two_cut x h k l m = record { number = λ z. absurd (true≢false z); cut = λ z. token_two_lem v (left code i key e) h k ∙ ap (token_two v) (left_none code i key e l); on = (omega arith, m) }

  pub two_num : (x : Float) (c b k : ℕ) → x ≡ double (cond (ltb v 251) (two_bytes v b) (two_bytes_below v b)) → 247 ≤ v → v < 255 → i < length code → c ≡ get_or code i 0 → b ≡ byte_of c key e → k ≡ step c key → Numbered code i key e v (num_of x (i + 1) k false)
  two_num x c b k p h g l q r s =
      let m = left_read code i key e c b k l q r s in
      record { number = λ z. (1, cond (ltb v 251) (two_bytes v b) (two_bytes_below v b), token_two_lem v (left code i key e) h g ∙ ap (token_two v) m, p, ap (drop 1) m); cut = λ z. absurd (true≢false (sym z)); on = (omega arith, omega arith) }

  pub five_cut : (x : Float) → 255 ≤ v → length code - i < 4 → i ≤ length code → Numbered code i key e v (num_of x i key true)
  five_cut x h l m = record { number = λ z. absurd (true≢false z); cut = λ z. token_five_lem v (left code i key e) h ∙ five_short (left code i key e) (subst (λ (n : ℕ). n < 4) (sym (rest-length (cursor_of i key e) code)) l); on = (omega arith, m) }

  pub five_num : (x : Float) (c1 c2 c3 c4 b1 b2 b3 b4 k2 k3 k4 k5 : ℕ) → x ≡ double (four_bytes b1 b2 b3 b4) → 255 ≤ v → 4 ≤ length code - i
      → c1 ≡ get_or code i 0 → c2 ≡ get_or code (i + 1) 0 → c3 ≡ get_or code (i + 2) 0 → c4 ≡ get_or code (i + 3) 0
      → b1 ≡ byte_of c1 key e → b2 ≡ byte_of c2 k2 e → b3 ≡ byte_of c3 k3 e → b4 ≡ byte_of c4 k4 e
      → k2 ≡ step c1 key → k3 ≡ step c2 k2 → k4 ≡ step c3 k3 → k5 ≡ step c4 k4
      → Numbered code i key e v (num_of x (i + 4) k5 false)
  five_num x c1 c2 c3 c4 b1 b2 b3 b4 k2 k3 k4 k5 p h l q1 q2 q3 q4 r1 r2 r3 r4 s2 s3 s4 s5 =
      let m1 = left_read code i key e c1 b1 k2 (omega arith) q1 r1 s2 in
      let m2 = left_read code (i + 1) k2 e c2 b2 k3 (omega arith) q2 r2 s3 in
      let m3 = left_read code (i + 2) k3 e c3 b3 k4 (omega arith) q3 r3 s4 in
      let m4 = left_read code (i + 3) k4 e c4 b4 k5 (omega arith) q4 r4 s5 in
      let a2 : i + 1 + 1 ≡ i + 2 = omega arith in
      let a3 : i + 2 + 1 ≡ i + 3 = omega arith in
      let a4 : i + 3 + 1 ≡ i + 4 = omega arith in
      let m : left code i key e ≡ b1 ∷ b2 ∷ b3 ∷ b4 ∷ left code (i + 4) k5 e =
      m1 ∙ ap (λ (r : List ℕ). b1 ∷ r) (m2 ∙ ap (λ (r : List ℕ). b2 ∷ r) (ap (λ (j : ℕ). left code j k3 e) a2 ∙ m3 ∙ ap (λ (r : List ℕ). b3 ∷ r) (ap (λ (j : ℕ). left code j k4 e) a3 ∙ m4 ∙ ap (λ (r : List ℕ). b4 ∷ r) (ap (λ (j : ℕ). left code j k5 e) a4)))) in
      record { number = λ z. (4, four_bytes b1 b2 b3 b4, token_five_lem v (left code i key e) h ∙ ap token_five m, p, ap (drop 4) m); cut = λ z. absurd (true≢false (sym z)); on = (omega arith, omega arith) }

-- ---- a run of bytes
skip : (lim : Limits) (f : Operator → State → Outcome) (l : List ℕ) (m : ℕ) (s : State) → run_bytes lim f l m s ≡ run_bytes lim f (drop m l) 0 s
unfolding run_bytes
skip lim f [] zero s = refl
skip lim f [] (suc m) s = refl
skip lim f (b ∷ l) zero s = refl
skip lim f (b ∷ l) (suc m) s = skip lim f l m s

and_same : (o : Outcome) (k k' : State → Outcome) → ((s : State) → k s ≡ k' s) → and_then o k ≡ and_then o k'
and_same (going s) k k' h = h s
and_same (returning s) k k' h = refl
and_same (ending s) k k' h = refl
and_same (refused n) k k' h = refl

origins : (n : ℕ) → All GoodPoint (replicate n origin)
unfolding All
origins zero = tt
origins (suc n) = ((zero_good, zero_good), origins n)

-- what is held of a state has finite numbers if the state has
pub held_sound : (t : St) (m : Mem) (s : State) → Holds t m s → Sound s → Sound (abs t m)
held_sound t m s H q = subst Sound (sym H.is) (record {
  operands = q.operands;
  postscript = q.postscript;
  point = q.point;
  bearing = q.bearing;
  width = q.width;
  flexing = go s.flexing q.flexing;
  hints = q.hints;
  groups = q.groups;
  drawn = q.drawn;
})
  where
    few : (b : Bool) (l : List Point) → All GoodPoint l → All GoodPoint (pick b l (replicate 8 origin))
    few true l h = h
    few false l h = origins 8

    go : (o : Option (List Point)) → OfFlex Good o → OfFlex Good (flex_held o)
    go none h = tt
    go (some l) h = few (ltb (length l) 8) l h

-- a step that goes on
pub goes : (o : Outcome) (r : Ran) (m : Mem) → Meets r m o → r.flow ≡ 0 → (u : State) × Holds r.st m u × (o ≡ going u)
goes (going s) r m e z = (s, e.1, refl)
goes (returning s) r m e z = absurd (let y : 1 ≡ 0 = sym e.0 ∙ z in let x : ⊥ = omega arith in x)
goes (ending s) r m e z = absurd (let y : 2 ≡ 0 = sym e.0 ∙ z in let x : ⊥ = omega arith in x)
goes (refused i) r m e z = absurd (let a = e.0 in let b = e.1 in let x : ⊥ = omega arith in x)

pub quick_is : (c o b : Bool) → b ≡ is_quick c o → b ≡ true → (o ≡ true) × (c ≡ false)
quick_is true o b e z = absurd (true≢false (sym (sym e ∙ z)))
quick_is false o b e z = (sym e ∙ z, refl)

-- what a flow above those of a step says
refusal_flow : (f : ℕ) (a b c : Outcome) → 3 ≤ f → pick (eqb f 0) a (pick (eqb f 1) b c) ≡ c
refusal_flow f a b c h = simp (ne_eqb f 0 (λ z. let y : ⊥ = omega (arith, h, z) in y), ne_eqb f 1 (λ z. let y : ⊥ = omega (arith, h, z) in y))

nine_is : of_byte 9 ≡ closepath
unfolding of_byte
nine_is = refl

-- pop is no operator that is done as it is read
read_no_pop : (o : Operator) → T (is_read o) → is_pop o ≡ false
read_no_pop op.hstem h = refl
read_no_pop op.vstem h = refl
read_no_pop op.vmoveto h = refl
read_no_pop op.rlineto h = refl
read_no_pop op.hlineto h = refl
read_no_pop op.vlineto h = refl
read_no_pop op.rrcurveto h = refl
read_no_pop op.closepath h = refl
read_no_pop op.callsubr h = refl
read_no_pop op.return h = refl
read_no_pop op.hsbw h = refl
read_no_pop op.endchar h = refl
read_no_pop op.rmoveto h = refl
read_no_pop op.hmoveto h = refl
read_no_pop op.vhcurveto h = refl
read_no_pop op.hvcurveto h = refl
read_no_pop op.dotsection h = refl
read_no_pop op.vstem3 h = refl
read_no_pop op.hstem3 h = refl
read_no_pop op.seac h = refl
read_no_pop op.sbw h = refl
read_no_pop op.div h = refl
read_no_pop op.callothersubr h = refl
read_no_pop op.pop h = absurd h
read_no_pop op.setcurrentpoint h = refl
read_no_pop op.unknown h = refl

-- what was read so far: what is left does what the whole does
pub record Going (reading : Reading) (code : List ℕ) (from start : ℕ) (e : Bool) (st : St) (ops₀ : List Float) (cmds₀ : List ℕ) (ops : List Float) (cmds : List ℕ) (i key n : ℕ) (x y : Float) (k : ℕ) (o : Bool) : Type 0 where
  pub fit : (m : Mem) → Fit st (read_mem ops₀ cmds₀ m) → Fit (placed n x y k (with_opened o st)) (read_mem ops cmds m)
  pub same : (m : Mem) (s : State) → Holds st (read_mem ops₀ cmds₀ m) s → (u : State) × Holds (placed n x y k (with_opened o st)) (read_mem ops cmds m) u × ((f : Operator → State → Outcome) → ReadsAs (limits_of reading (within (length m.stems) (length cmds₀))) f
      → run_bytes (limits_of reading (within (length m.stems) (length cmds₀))) f (left code from start e) 0 s ≡ run_bytes (limits_of reading (within (length m.stems) (length cmds₀))) f (left code i key e) 0 u)
  pub sound : (m : Mem) → Fit st (read_mem ops₀ cmds₀ m) → Bytes code → Sound (abs st (read_mem ops₀ cmds₀ m)) → Sound (abs (placed n x y k (with_opened o st)) (read_mem ops cmds m))
  pub short : key < 65536
  pub few : n ≤ 256
  pub space : 14 * k ≤ length cmds
  pub inside : i ≤ length code
  pub on : from ≤ i
  pub whole : length cmds ≡ length cmds₀

module _ (reading : Reading) (code : List ℕ) (from start : ℕ) (e : Bool) (st : St) (ops₀ : List Float) (cmds₀ : List ℕ) (ops : List Float) (cmds : List ℕ) (i key n : ℕ) (x y : Float) (k : ℕ) (o : Bool) (G : Going reading code from start e st ops₀ cmds₀ ops cmds i key n x y k o) where
  abbrev here : St
  here = placed n x y k (with_opened o st)

  abbrev state : Mem → State
  state m = abs here (read_mem ops cmds m)

  abbrev limits : Mem → Limits
  limits m = limits_of reading (within (length m.stems) (length cmds₀))

  -- one token
  module _ (lim : Limits) (f : Operator → State → Outcome) (s : State) (b : ℕ) (l : List ℕ) (is : left code i key e ≡ b ∷ l) where
    one : run_bytes lim f (left code i key e) 0 s ≡ consume lim f (token b l) s (run_bytes lim f l)
    unfolding run_bytes
    one = ap (λ (z : List ℕ). run_bytes lim f z 0 s) is

  module _ (c v k' : ℕ) (h : i < length code) (p : c ≡ get_or code i 0) (q : v ≡ byte_of c key e) (q' : k' ≡ step c key) where
    abbrev after_it : List ℕ
    after_it = left code (i + 1) k' e

    -- the bytes from here on, by the next token
    next : (m : Mem) (f : Operator → State → Outcome) (s : State) → run_bytes (limits m) f (left code i key e) 0 s ≡ consume (limits m) f (token v after_it) s (run_bytes (limits m) f after_it)
    next m f s = one (limits m) f s v after_it (left_read code i key e c v k' h p q q')

    short-after : k' < 65536
    short-after = subst (λ (z : ℕ). z < 65536) (sym q') (step-key c key)

    -- the first byte, and the rest, are bytes
    byte_here : Bytes code → v < 256
    byte_here b = subst Bytes (left_read code i key e c v k' h p q q') (rest-bytes (cursor_of i key e) code G.short b) 0

    bytes_after : Bytes code → Bytes after_it
    bytes_after b = rest-bytes (cursor_of (i + 1) k' e) code short-after b

    pub at_operator : (u : St) (t : Tok) (d : List ℕ) → d ≡ cmds → u ≡ here → Operated code (i + 1) k' e v u t → Reads reading code from start e st ops₀ cmds₀ t ops d
    at_operator u t d ed eu O = subst (λ (z : List ℕ). Reads reading code from start e st ops₀ cmds₀ t ops z) (sym ed) (record {
      fit = λ m F. subst (λ (z : St). Fit z (read_mem ops cmds m)) (sym is_here) (G.fit m F);
      sound = λ m F b q. subst (λ (z : St). Sound (abs z (read_mem ops cmds m))) (sym is_here) (G.sound m F b q);
      same = λ m s H. let (u, K, is) = G.same m s H in (u, subst (λ (z : St). Holds z (read_mem ops cmds m) u) (sym is_here) K, λ f w. is f w ∙ next m f u ∙ go (eqb t.flow 0) refl m f u);
      on = (let a = O.on.0 in let b = G.on in omega arith);
      whole = G.whole;
      number = λ a b. subst (λ (j : ℕ). 3 ≤ j) (sym (O.cut a).0) (lit≤ tt);
    })
      where
        is_here : t.st ≡ here
        is_here = O.state ∙ eu

        go : (z : Bool) → eqb t.flow 0 ≡ z → (m : Mem) (f : Operator → State → Outcome) (s : State) → consume (limits m) f (token v after_it) s (run_bytes (limits m) f after_it) ≡ goes_on t code e (limits m) f s
        go true z m f s =
            let (j, tk, dr) = O.operator (eqb-true t.flow 0 z) in
            ap (λ (a : Token). consume (limits m) f a s (run_bytes (limits m) f after_it)) tk
            ∙ and_same (f (operator_of t.op) s) (run_bytes (limits m) f after_it j) (run_bytes (limits m) f (left code t.next t.key e) 0) (λ a. skip (limits m) f after_it j a ∙ ap (λ (b : List ℕ). run_bytes (limits m) f b 0 a) dr)
            ∙ sym (simp z)
        go false z m f s =
            let w = O.cut (eqb-false t.flow 0 z) in
            ap (λ (a : Token). consume (limits m) f a s (run_bytes (limits m) f after_it)) w.1 ∙ sym (simp w.0)

    -- an operator was done
    did_so : (m : Mem) (f : Operator → State → Outcome) (s : State) (op : Operator) → ReadsAs (limits m) f → T (is_read op) → token v after_it ≡ operator 0 op → run_bytes (limits m) f (left code i key e) 0 s ≡ and_then (operate (limits m) (refused 6) op s) (run_bytes (limits m) f after_it 0)
    did_so m f s op w r is = next m f s ∙ ap (λ (a : Token). consume (limits m) f a s (run_bytes (limits m) f after_it)) is ∙ ap (λ (a : Outcome). and_then a (run_bytes (limits m) f after_it 0)) (w op s r)

    -- a line or a curve was listed
    module _ (pt : Point) (d : List ℕ) (op : o ≡ true) (ch : st.changed ≡ false) (low : v < 32) (D : Draws v n x y k ops cmds (Some pt) d) where
      abbrev to : Ran
      to = ran_of (drawn_to pt k (with_opened o st)) 0

      did : (m : Mem) (s : State) → Holds here (read_mem ops cmds m) s → Meets to (read_mem ops d m) (operate (limits m) (refused 6) (operator_of v) s)
      did m s H =
          subst (Meets to (read_mem ops d m)) (ap (λ (j : ℕ). operate (within (length m.stems) j) (refused 6) (operator_of v) s) G.whole ∙ sym (operate-limits reading (within (length m.stems) (length cmds₀)) (refused 6) (operator_of v) s (read_no_pop (operator_of v) D.drawn.0)))
          (D.done (with_opened o st) m s op ch H)

      after_did : (m : Mem) (s : State) → Holds here (read_mem ops cmds m) s → (u : State) × Holds to.st (read_mem ops d m) u × (operate (limits m) (refused 6) (operator_of v) s ≡ going u)
      after_did m s H = goes (operate (limits m) (refused 6) (operator_of v) s) to (read_mem ops d m) (did m s H) refl

      itself : (m : Mem) → Fit st (read_mem ops₀ cmds₀ m) → Holds here (read_mem ops cmds m) (state m)
      itself m F = holds_itself here (read_mem ops cmds m) (G.fit m F)

      pub listed : Going reading code from start e st ops₀ cmds₀ ops d (i + 1) k' 0 pt.x pt.y (k + 1) o
      listed = record {
        fit = λ m F. (after_did m (state m) (itself m F)).1.fit;
        sound = λ m F b s. let (u, K, is) = after_did m (state m) (itself m F) in held_sound to.st (read_mem ops d m) u K (subst SoundOut is ((sound_stable (limits m)).operator (refused 6) (operator_of v) (state m) (G.sound m F b s) tt));
        same = λ m s H.
            let (u, K, is) = G.same m s H in
            let (u', K', is') = after_did m u K in (
              u',
              K',
              λ f w.
                  is f w ∙ did_so m f u (operator_of v) w D.drawn.0 (token_op v after_it low D.drawn.1 ∙ ap (operator 0) (sym (operator-low v (omega arith))))
                  ∙ ap (λ (a : Outcome). and_then a (run_bytes (limits m) f after_it 0)) is',
            );
        short = short-after;
        few = lit≤ tt;
        space = (let a = D.space in let b = D.same in omega arith);
        inside = omega arith;
        on = (let a = G.on in omega arith);
        whole = D.same ∙ G.whole;
      }

    -- the subpath was closed
    module _ (nine : v ≡ 9) where
      closed_is : (m : Mem) (s : State) → operate (limits m) (refused 6) closepath s ≡ going (with_open false (with_operands [] s))
      unfolding operate
      closed_is m s = refl

      closed_fit : (m : Mem) → Fit here (read_mem ops cmds m) → Fit (placed 0 x y k (with_opened false st)) (read_mem ops cmds m)
      closed_fit m F = record {
        bounds = record { operands = lit≤ tt; postscript = F.bounds.postscript; points = F.bounds.points; hints = F.bounds.hints; last = F.bounds.last; groups = F.bounds.groups; entries = F.bounds.entries; ran = F.bounds.ran };
        ops = F.ops;
        ps = F.ps;
        cells = F.cells;
        edges = F.edges;
        across = F.across;
        stems = F.stems;
        groups = F.groups;
        entries = F.entries;
        used = F.used;
        below = F.below;
        last = F.last;
      }

      closed-held : (m : Mem) (s : State) → Holds here (read_mem ops cmds m) s → Holds (placed 0 x y k (with_opened false st)) (read_mem ops cmds m) (with_open false (with_operands [] s))
      unfolding abs
      closed-held m s H = record { is = ap (λ (u : State). with_open false (with_operands [] u)) H.is; fit = closed_fit m H.fit }

      pub closed : Going reading code from start e st ops₀ cmds₀ ops cmds (i + 1) k' 0 x y k false
      closed = record {
        fit = λ m F. closed_fit m (G.fit m F);
        sound = λ m F b s. held_sound (placed 0 x y k (with_opened false st)) (read_mem ops cmds m) _ (closed-held m (state m) (holds_itself here (read_mem ops cmds m) (G.fit m F))) (subst SoundOut (closed_is m (state m)) ((sound_stable (limits m)).operator (refused 6) closepath (state m) (G.sound m F b s) tt));
        same = λ m s H.
            let (u, K, is) = G.same m s H in (
              with_open false (with_operands [] u),
              closed-held m u K,
              λ f w.
                  is f w ∙ did_so m f u closepath w tt (token_op v after_it (omega arith) (λ t. let z : ⊥ = omega arith in z) ∙ ap (operator 0) (ap of_byte nine ∙ nine_is))
                  ∙ ap (λ (a : Outcome). and_then a (run_bytes (limits m) f after_it 0)) (closed_is m u),
            );
        short = short-after;
        few = lit≤ tt;
        space = G.space;
        inside = omega arith;
        on = (let a = G.on in omega arith);
        whole = G.whole;
      }

    module _ (r : Num) (N : Numbered code (i + 1) k' e v r) where
      taken : length ops ≡ 256 → length (take n ops) ≡ n
      taken w = length-take n ops ∙ (let b = G.few in let z : min n (length ops) ≡ n = omega arith in z)

      -- a number is pushed, or does not fit
      push_is : (m : Mem) (s : State) → Holds here (read_mem ops cmds m) s → (z : ℤ) → r.x ≡ double z → push (limits m) (double z) s ≡ allowed (operand_refusal reading.strict (n + 1)) (going (with_operands (take n ops ++ (r.x ∷ [])) s))
      unfolding push
      push_is m s H z eq =
          ap (λ (l : List Float). allowed ((limits m).operands (length l + 1)) (going (with_operands (l ++ (double z ∷ [])) s))) (operands_are here (read_mem ops cmds m) s H)
          ∙ ap (λ (a : ℕ). allowed ((limits m).operands (a + 1)) (going (with_operands (take n ops ++ (double z ∷ [])) s))) (taken H.fit.ops)
          ∙ ap (λ (a : ℕ). allowed a (going (with_operands (take n ops ++ (double z ∷ [])) s))) (limit_is reading (length m.stems) (length cmds₀) (n + 1))
          ∙ ap (λ (a : Float). allowed (operand_refusal reading.strict (n + 1)) (going (with_operands (take n ops ++ (a ∷ [])) s))) (sym eq)

      pushing : (m : Mem) (f : Operator → State → Outcome) (s : State) → Holds here (read_mem ops cmds m) s → (j : ℕ) (z : ℤ) → r.x ≡ double z
          → consume (limits m) f (number j z) s (run_bytes (limits m) f after_it) ≡ and_then (allowed (operand_refusal reading.strict (n + 1)) (going (with_operands (take n ops ++ (r.x ∷ [])) s))) (run_bytes (limits m) f after_it j)
      pushing m f s H j z eq = ap (λ (a : Outcome). and_then a (run_bytes (limits m) f after_it j)) (push_is m s H z eq)

      -- what a number is refused with
      abbrev number-refusal : ℕ
      number-refusal = first_refusal (number_if r.cut 5) (operand_refusal reading.strict (n + 1))

      abbrev Refuses : Type 0
      Refuses = (3 ≤ number-refusal) × ((m : Mem) (f : Operator → State → Outcome) (s : State) → Holds here (read_mem ops cmds m) s → consume (limits m) f (token v after_it) s (run_bytes (limits m) f after_it) ≡ refused number-refusal)

      refuses : (number-refusal ≡ 0 → ⊥) → Refuses
      refuses h = go r.cut refl
        where
          go : (c : Bool) → r.cut ≡ c → Refuses
          go true z = let five = first_is r.cut 5 (operand_refusal reading.strict (n + 1)) z (λ q. let w : ⊥ = omega (arith, q) in w) in (
            subst (λ (a : ℕ). 3 ≤ a) (sym five) (lit≤ tt),
            λ m f s H. ap (λ (a : Token). consume (limits m) f a s (run_bytes (limits m) f after_it)) (N.cut z) ∙ ap refused (sym five),
          )
          go false z =
              let (j, w, tk, is, dr) = N.number z in
              let full = second_is r.cut 5 (operand_refusal reading.strict (n + 1)) z in
              let over : operand_refusal reading.strict (n + 1) ≡ 0 → ⊥ = λ q. h (full ∙ q) in (
                subst (λ (a : ℕ). 3 ≤ a) (sym full) (refusal-above reading.strict (n + 1) over),
                λ m f s H.
                    ap (λ (a : Token). consume (limits m) f a s (run_bytes (limits m) f after_it)) tk ∙ pushing m f s H j w is
                    ∙ ap (λ (a : Outcome). and_then a (run_bytes (limits m) f after_it j)) (allowed_not (operand_refusal reading.strict (n + 1)) _ over) ∙ ap refused (sym full),
              )

      -- a number that is cut, or does not fit
      pub at_refused : (u : St) (t : Tok) (f : ℕ) → f ≡ number-refusal → (f ≡ 0 → ⊥) → u ≡ here → t ≡ tok_of u (i + 1) k' f 0 → Reads reading code from start e st ops₀ cmds₀ t ops cmds
      at_refused u t f ef nf eu et =
          let (above, is) = refuses (λ q. nf (ef ∙ q)) in
          subst (λ (a : Tok). Reads reading code from start e st ops₀ cmds₀ a ops cmds) (sym (et ∙ ap (λ (a : St). tok_of a (i + 1) k' f 0) eu ∙ ap (λ (a : ℕ). tok_of here (i + 1) k' a 0) ef)) (record {
            fit = G.fit;
            sound = G.sound;
            same = λ m s H. let (u, K, all) = G.same m s H in (u, K, λ g w. all g w ∙ next m g u ∙ is m g u K ∙ sym (refusal_flow number-refusal _ (going u) (refused number-refusal) above));
            on = (let b = G.on in omega arith);
            whole = G.whole;
            number = λ a b. above;
          })

      more_fit : (m : Mem) → n + 1 ≤ 256 → Fit here (read_mem ops cmds m) → Fit (placed (n + 1) x y k (with_opened o st)) (read_mem (set ops n r.x) cmds m)
      more_fit m few F = record {
        bounds = record { operands = few; postscript = F.bounds.postscript; points = F.bounds.points; hints = F.bounds.hints; last = F.bounds.last; groups = F.bounds.groups; entries = F.bounds.entries; ran = F.bounds.ran };
        ops = length-set ops n r.x ∙ F.ops;
        ps = F.ps;
        cells = F.cells;
        edges = F.edges;
        across = F.across;
        stems = F.stems;
        groups = F.groups;
        entries = F.entries;
        used = F.used;
        below = F.below;
        last = F.last;
      }

      -- the state with one operand more
      more_held : (m : Mem) (s : State) → n + 1 ≤ 256 → Holds here (read_mem ops cmds m) s → Holds (placed (n + 1) x y k (with_opened o st)) (read_mem (set ops n r.x) cmds m) (with_operands (take n ops ++ (r.x ∷ [])) s)
      unfolding abs
      more_held m s few H =
          let F = H.fit in
          let l = F.ops in
          record {
            is = ap₂ (λ (d : List Float) (u : State). with_operands d u) (ap (λ (j : ℕ). take j (set ops n r.x)) (add-one n) ∙ take-suc-set ops n r.x (omega arith)) H.is;
            fit = more_fit m few F;
          }

      pub pushed : (f : ℕ) → f ≡ number-refusal → f ≡ 0 → r.key < 65536 → Going reading code from start e st ops₀ cmds₀ (set ops n r.x) cmds r.next r.key (n + 1) x y k o
      pushed f ef nf small =
          let (j, w, tk, is, dr) = N.number none.0 in
          record {
            fit = λ m F. more_fit m below (G.fit m F);
            sound = λ m F b s.
                let K = holds_itself here (read_mem ops cmds m) (G.fit m F) in
                held_sound (placed (n + 1) x y k (with_opened o st)) (read_mem (set ops n r.x) cmds m) (with_operands (take n ops ++ (r.x ∷ [])) (state m)) (more_held m (state m) below K)
                (subst SoundOut (push_is m (state m) K w is ∙ allowed-none (operand_refusal reading.strict (n + 1)) _ none.1) ((sound_stable (limits m)).number w (subst SmallToken tk (token-small v after_it (byte_here b) (bytes_after b))) (state m) (G.sound m F b s)));
            same = λ m s H.
                let (a, K, all) = G.same m s H in
                let more = with_operands (take n ops ++ (r.x ∷ [])) a in (
                  more,
                  more_held m a below K,
                  λ f W.
                      all f W ∙ next m f a ∙ ap (λ (q : Token). consume (limits m) f q a (run_bytes (limits m) f after_it)) tk
                      ∙ pushing m f a K j w is
                      ∙ ap (λ (q : Outcome). and_then q (run_bytes (limits m) f after_it j)) (allowed-none (operand_refusal reading.strict (n + 1)) _ none.1)
                      ∙ skip (limits m) f after_it j more
                      ∙ ap (λ (q : List ℕ). run_bytes (limits m) f q 0 more) dr,
                );
            short = small;
            few = below;
            space = G.space;
            inside = N.on.1;
            on = (let a = N.on.0 in let b = G.on in omega arith);
            whole = G.whole;
          }
        where
          none : (r.cut ≡ false) × (operand_refusal reading.strict (n + 1) ≡ 0)
          none = none_refused r.cut 5 (operand_refusal reading.strict (n + 1)) (λ q. let w : ⊥ = omega (arith, q) in w) (sym ef ∙ nf)

          below : n + 1 ≤ 256
          below = operands_fit reading.strict (n + 1) none.1

  -- the end of the bytes
  pub at_end : (u : St) (t : Tok) → length code ≤ i → from < length code → u ≡ here → t ≡ tok_of u i key 1 0 → Reads reading code from start e st ops₀ cmds₀ t ops cmds
  unfolding run_bytes
  at_end u t h h' eu et = subst (λ (a : Tok). Reads reading code from start e st ops₀ cmds₀ a ops cmds) (sym (et ∙ ap (λ (a : St). tok_of a i key 1 0) eu)) (record {
    fit = G.fit;
    sound = G.sound;
    same = λ m s H. let (u, K, is) = G.same m s H in (u, K, λ f w. is f w ∙ ap (λ (a : List ℕ). run_bytes (limits m) f a 0 u) (left_none code i key e h));
    on = omega arith;
    whole = G.whole;
    number = λ a b. absurd (b refl);
  })

pub begins : (reading : Reading) (code : List ℕ) (from start : ℕ) (e : Bool) (st : St) (ops : List Float) (cmds : List ℕ) → start < 65536 → from < length code → st.operands ≤ 256 → 14 * st.entries ≤ length cmds → Going reading code from start e st ops cmds ops cmds from start st.operands st.x st.y st.entries st.opened
begins reading code from start e st ops cmds q h n k = record { fit = λ m F. F; sound = λ m F b s. s; same = λ m s H. (s, H, λ f w. refl); short = q; few = n; space = k; inside = omega arith; on = omega arith; whole = refl }
