-- Laws: the numbers of a charstring, document 01's examples, and small glyphs, by computing.
use Rattle.std.specs.Prelude.{ℕ, zero, suc, ◌≡◌, refl, Bool, true, false, List, [], ◌∷◌, ◌++◌, pos, negsuc, length, replicate, Float}
use Rattle.std.proofs.Common.{zero-add}
use Rattle.std.specs.Int.Count.{count_trailing_zeros}
use Rattle.std.specs.Float.{nan}
use Rattle.std.specs.Float.Ieee.{size, climb, span, odd, units, round, add, sum, div, eq, lt, le, of_int, to_unsigned, to_signed}
use Rattle.charstring.specs.Cipher.{not_encrypted, plain}
use Rattle.bank.specs.Bank.{be16, be32, body}
use Rattle.geometry.specs.declared.Point.{Point}
use Rattle.type1.specs.Operator.{of_byte, of_escape}
use Rattle.type1.specs.Number.{one_byte, two_bytes, two_bytes_below, four_bytes, token, double}
use Rattle.outline.specs.Outline.{Command, move, line, curve, flex, Group, is_in, same_stems, last_is, stem_count, stem_of}
use Rattle.type1.specs.State.{start}
use Rattle.type1.specs.Interpret.{source_of}
use Rattle.type1.specs.States.{in_call, in_bytes, in_levels, states, any_over24, holds25}
use Rattle.type1.specs.Run.{reading_of, strict_of, font_of, Limits, within, limits_of, unlimited, Outcome, going, returning, ending, refused, point_at, push, stem, new_group, commit, enter, list, move_by, open_subpath, line_to, line_by, curve_to, curve_by, set_point, backwards, hand_back, end_flex, other_subr0, other_subr2, other_subr, call_other_subr, pop_d, div_d, stems3, operate, charge, named, call_body, call_subr, execute, run_bytes, run_body, run}

-- ---- numbers: Adobe Type 1 Font Format, section 6.2
least_one : one_byte 32 ≡ negsuc 106
least_one = refl

greatest_one : one_byte 246 ≡ pos 107
greatest_one = refl

least_two : two_bytes 247 0 ≡ pos 108
least_two = refl

greatest_two : two_bytes 250 255 ≡ pos 1131
greatest_two = refl

greatest_below : two_bytes_below 251 0 ≡ negsuc 107
greatest_below = refl

least-below : two_bytes_below 254 255 ≡ negsuc 1130
least-below = refl

minus_one : four_bytes 255 255 255 255 ≡ negsuc 0
minus_one = refl

greatest_five : four_bytes 0x7F 0xFF 0xFF 0xFF ≡ pos 2147483647
greatest_five = refl

least_five : four_bytes 0x80 0 0 0 ≡ negsuc 2147483647
least_five = refl

-- ---- a run, not encrypted, with a bank
result : Limits → List ℕ → List ℕ → Outcome
unfolding run charge run_body plain run_bytes token of_byte of_escape execute operate push stem new_group commit enter list move_by open_subpath line_to line_by curve_to curve_by set_point backwards hand_back end_flex other_subr0 other_subr2 other_subr call_other_subr pop_d div_d stems3 call_subr call_body named body be16 be32 is_in same_stems last_is stem_count of_int add sum div eq lt le to_unsigned to_signed round units odd size climb span count_trailing_zeros
result lim bank l = run lim (font_of bank (reading_of not_encrypted)) l start

-- `00 00 00 00 00 00`: no subroutines
abbrev no_bodies : List ℕ
no_bodies = 0 ∷ 0 ∷ 0 ∷ 0 ∷ 0 ∷ 0 ∷ []

-- what a run drew, and its groups
abbrev drawn : Outcome → List Command
drawn (going s) = s.drawn
drawn (returning s) = s.drawn
drawn (ending s) = s.drawn
drawn (refused n) = []

abbrev groups : Outcome → List Group
groups (going s) = s.groups
groups (returning s) = s.groups
groups (ending s) = s.groups
groups (refused n) = []

abbrev count : Outcome → ℕ
count (going s) = s.ran
count (returning s) = s.ran
count (ending s) = s.ran
count (refused n) = 0

abbrev held : Outcome → ℕ
held (going s) = length s.operands
held (returning s) = length s.operands
held (ending s) = length s.operands
held (refused n) = 0

abbrev width : Outcome → Float
width (going s) = s.width
width (returning s) = s.width
width (ending s) = s.width
width (refused n) = nan

abbrev place : Outcome → Point
place (going s) = s.point
place (returning s) = s.point
place (ending s) = s.point
place (refused n) = point_at nan nan

abbrev at : ℕ → ℕ → Point
at x y = point_at (double (pos x)) (double (pos y))

-- ---- document 01, "Numbers the board logs": 5 to 12
cut : result unlimited no_bodies (0xF7 ∷ []) ≡ refused 5
unfolding result
cut = refl

unknown : result unlimited no_bodies (0x02 ∷ []) ≡ refused 6
unfolding result
unknown = refl

missing : result unlimited no_bodies (0x05 ∷ []) ≡ refused 7
unfolding result
missing = refl

no_subroutine : result unlimited no_bodies (0x8B ∷ 0x0A ∷ []) ≡ refused 8
unfolding result
no_subroutine = refl

no_flex_lem : result unlimited no_bodies (0x8B ∷ 0x8B ∷ 0x0C ∷ 0x10 ∷ []) ≡ refused 9
unfolding result
no_flex_lem = refl

div_by_zero : result unlimited no_bodies (0x8C ∷ 0x8B ∷ 0x0C ∷ 0x0C ∷ []) ≡ refused 10
unfolding result
div_by_zero = refl

nothing_left : result unlimited no_bodies (0x0C ∷ 0x11 ∷ []) ≡ refused 11
unfolding result
nothing_left = refl

no_seac : result unlimited no_bodies (0x0C ∷ 0x06 ∷ []) ≡ refused 12
unfolding result
no_seac = refl

abbrev times : ℕ → List ℕ
times zero = []
times (suc n) = 0x8C ∷ 0xFF ∷ 0x7F ∷ 0xFF ∷ 0xFF ∷ 0xFF ∷ 0x0C ∷ 0x0C ∷ 0x0C ∷ 0x0C ∷ times n

-- 14: 1, then 40 times: 1, 2147483647, div, div
not_finite : result unlimited no_bodies (0x8C ∷ times 40) ≡ refused 14
unfolding result
not_finite = refl

-- 15: 257 bytes `8B`; 256 pass
too_many : result (within 0 0) no_bodies (replicate 257 0x8B) ≡ refused 15
unfolding result
too_many = refl

just_room : count (result (within 0 0) no_bodies (replicate 256 0x8B)) ≡ 256
unfolding result
just_room = refl

-- 17: `8C 16`, store of 0
no_store : result (within 0 0) no_bodies (0x8C ∷ 0x16 ∷ []) ≡ refused 17
unfolding result
no_store = refl

-- ---- document 02, (c): T1's own operand stack, of 24
abbrev strict : Limits
strict = limits_of (strict_of not_encrypted) (within 0 0)

-- 24 bytes `8B`
abbrev full : List ℕ
full = replicate 24 0x8B

-- they fit
strict_room : held (result strict no_bodies full) ≡ 24
unfolding result
strict_room = refl

-- then `F7`: 5 comes before 22
strict-cut : result strict no_bodies (full ++ (0xF7 ∷ [])) ≡ refused 5
unfolding result
strict-cut = refl

-- then `0C 11`: so does 11
strict_nothing_left : result strict no_bodies (full ++ (0x0C ∷ 0x11 ∷ [])) ≡ refused 11
unfolding result
strict_nothing_left = refl

-- 25 bytes `8B`
strict_too_many : result strict no_bodies (replicate 25 0x8B) ≡ refused 22
unfolding result
strict_too_many = refl

-- `8B 8B 8D 90 0C 10` hands two arguments back (OtherSubr 5); the count and the number are operands too
abbrev handed : List ℕ
handed = 0x8B ∷ 0x8B ∷ 0x8D ∷ 0x90 ∷ 0x0C ∷ 0x10 ∷ []

-- with 23 operands more, `0C 11` brings the 24th, and a second one the 25th
strict_pop_room : held (result strict no_bodies (handed ++ replicate 23 0x8B ++ (0x0C ∷ 0x11 ∷ []))) ≡ 24
unfolding result
strict_pop_room = refl

strict_pop : result strict no_bodies (handed ++ replicate 23 0x8B ++ (0x0C ∷ 0x11 ∷ 0x0C ∷ 0x11 ∷ [])) ≡ refused 22
unfolding result
strict_pop = refl

-- the present reading takes it
present_pop : held (result (within 0 0) no_bodies (handed ++ replicate 23 0x8B ++ (0x0C ∷ 0x11 ∷ 0x0C ∷ 0x11 ∷ []))) ≡ 25
unfolding result
present_pop = refl

-- ---- whether the present reading's run comes to hold a 25th operand, in a command store of so many words
over : List ℕ → ℕ → List ℕ → Bool
unfolding holds25 any_over24 states in_levels in_bytes in_call run charge run_body plain run_bytes token of_byte of_escape execute operate push stem new_group commit enter list move_by open_subpath line_to line_by curve_to curve_by set_point backwards hand_back end_flex other_subr0 other_subr2 other_subr call_other_subr pop_d div_d stems3 call_subr call_body named body be16 be32 is_in same_stems last_is stem_count of_int add sum div eq lt le to_unsigned to_signed round units odd size climb span count_trailing_zeros
over bank words l = holds25 (source_of l bank) not_encrypted 0 words

-- 24 bytes `8B`, and 25
over_24 : over no_bodies 0 full ≡ false
unfolding over
over_24 = refl

over_25 : over no_bodies 0 (0x8B ∷ full) ≡ true
unfolding over
over_25 = refl

-- within a body, though it clears them: `8B 0A`, subroutine 0 being 25 bytes `8B` and `09`
over_in_body : over (0 ∷ 1 ∷ 0 ∷ 0 ∷ 0 ∷ 0 ∷ 0 ∷ 0 ∷ 0 ∷ 26 ∷ 0x8B ∷ full ++ (0x09 ∷ [])) 0 (0x8B ∷ 0x0A ∷ []) ≡ true
unfolding over
over_in_body = refl

-- not after a refusal: `8C 16` has no room in a store of 0
over_refused : over no_bodies 0 (0x8C ∷ 0x16 ∷ 0x8B ∷ full) ≡ false
unfolding over
over_refused = refl

-- ---- "Bytes run", number 3: 1,048,577 bytes, whatever they are
too_long : (lim : Limits) (bank l : List ℕ) → length l ≡ 1048577 → result lim bank l ≡ refused 3
unfolding result
too_long lim bank l h = rw (zero-add, h)

-- ---- "Reading": depth 10 runs, 11 is refused

-- 4: subroutine 0 is `8B 0A`, and so is the charstring
endless : result unlimited (0 ∷ 1 ∷ 0 ∷ 0 ∷ 0 ∷ 0 ∷ 0 ∷ 0 ∷ 0 ∷ 2 ∷ 0x8B ∷ 0x0A ∷ []) (0x8B ∷ 0x0A ∷ []) ≡ refused 4
unfolding result
endless = refl

-- subroutine 0 calls the one that the next operand names; subroutine 1 is a `return`
abbrev ladder : List ℕ
ladder = 0 ∷ 2 ∷ 0 ∷ 0 ∷ 0 ∷ 0 ∷ 0 ∷ 0 ∷ 0 ∷ 1 ∷ 0 ∷ 0 ∷ 0 ∷ 2 ∷ 0x0A ∷ 0x0B ∷ []

-- nine levels of subroutine 0, then subroutine 1 at depth 10: 11 bytes, and 10 bodies of 1 byte
depth_ten : count (result unlimited ladder (0x8C ∷ replicate 9 0x8B ++ (0x0A ∷ []))) ≡ 21
unfolding result
depth_ten = refl

depth_eleven : result unlimited ladder (0x8C ∷ replicate 10 0x8B ++ (0x0A ∷ [])) ≡ refused 4
unfolding result
depth_eleven = refl

-- ---- "Glyphs worked through": the second, with its width
abbrev second : List ℕ
second = 0x8B ∷ 0xF8 ∷ 0x88 ∷ 0x0D ∷ 0x95 ∷ 0x9F ∷ 0x15 ∷ 0x90 ∷ 0x8B ∷ 0x05 ∷ 0x09 ∷ 0x0E ∷ []

second-drawn : drawn (result unlimited no_bodies second) ≡ move (at 10 20) ∷ line (at 15 20) ∷ []
unfolding result
second-drawn = refl

second-width : width (result unlimited no_bodies second) ≡ double (pos 500)
unfolding result
second-width = refl

second-count : count (result unlimited no_bodies second) ≡ 12
unfolding result
second-count = refl

-- ---- T1, section 6.4: 30 and 31 draw a curve from one axis to the other
curved : drawn (result unlimited no_bodies (0x8B ∷ 0x16 ∷ 0x8C ∷ 0x8D ∷ 0x8E ∷ 0x8F ∷ 0x1F ∷ 0x8C ∷ 0x8D ∷ 0x8E ∷ 0x8F ∷ 0x1E ∷ [])) ≡ move (at 0 0) ∷ curve (at 1 0) (at 3 3) (at 3 7) ∷ curve (at 3 8) (at 5 11) (at 9 11) ∷ []
unfolding result
curved = refl

-- with no subpath open, a line first moves to the current point, here the side bearing
opened : drawn (result unlimited no_bodies (0x90 ∷ 0x8B ∷ 0x0D ∷ 0x8C ∷ 0x06 ∷ 0x09 ∷ 0x8C ∷ 0x07 ∷ [])) ≡ move (at 5 0) ∷ line (at 6 0) ∷ move (at 6 0) ∷ line (at 6 1) ∷ []
unfolding result
opened = refl

-- "Hints": one group at the first path command, one more once OtherSubr 3 cleared the stems and another is in force; the numbers are of the entries before
abbrev hinted : List ℕ
hinted = 0x8B ∷ 0x8C ∷ 0x01 ∷ 0x8C ∷ 0x16 ∷ 0x8C ∷ 0x06 ∷ 0x8B ∷ 0x8E ∷ 0x0C ∷ 0x10 ∷ 0x8D ∷ 0x8C ∷ 0x03 ∷ 0x8C ∷ 0x07 ∷ []

hint_groups :
    groups (result unlimited no_bodies hinted)
    ≡ record { stems = stem_of true (double (pos 0)) (double (pos 1)) ∷ []; before = 0 }
    ∷ record { stems = stem_of false (double (pos 2)) (double (pos 1)) ∷ []; before = 2 }
    ∷ []
unfolding result
hint_groups = refl

-- "OtherSubrs": a flex of seven points, its height 50; the end point is popped, x first
abbrev collect : List ℕ
collect = 0x8C ∷ 0x8D ∷ 0x15 ∷ 0x8B ∷ 0x8D ∷ 0x0C ∷ 0x10 ∷ []

abbrev flexed : List ℕ
flexed =
    0x8B ∷ 0x16 ∷ 0x8B ∷ 0x8C ∷ 0x0C ∷ 0x10 ∷ collect ++ collect ++ collect ++ collect ++ collect ++ collect ++ collect
    ++ (0xBD ∷ 0x92 ∷ 0x99 ∷ 0x8E ∷ 0x8B ∷ 0x0C ∷ 0x10 ∷ 0x0C ∷ 0x11 ∷ 0x0C ∷ 0x11 ∷ 0x0C ∷ 0x21 ∷ [])

flex_drawn : drawn (result unlimited no_bodies flexed) ≡ move (at 0 0) ∷ flex (at 2 4) (at 3 6) (at 4 8) (at 5 10) (at 6 12) (at 7 14) (double (pos 50)) ∷ []
unfolding result
flex_drawn = refl

flex_end : place (result unlimited no_bodies flexed) ≡ at 7 14
unfolding result
flex_end = refl
