-- `type1_to_type2::writing::write_mask` meets its contract.
use Rattle.type1_to_type2.proofs.Masking.{mask_step, mask_end}
use mathlib.Core.Path.{refl, ◌∙◌}
use borrow.Author.Rules.{Fits-under}
use native.Mathlib.Omega.{arith}
use Rattle.type1_to_type2.proofs.writing.write_mask.Goals as goal

pub flush-f-requires : goal.flush-f-requires
flush-f-requires c =
    tt

pub put_byte-r-requires : goal.put_byte-r-requires
put_byte-r-requires c =
    tt

pub loop-i-init : goal.loop-i-init
loop-i-init c =
    (λ b l e. (e, λ f. refl), (record { x = refl; y = refl; waits = refl; held = refl }, refl))

pub overflow_cast-i : goal.overflow_cast-i
overflow_cast-i c =
    Fits-under _ _ 96 (omega (arith, c.loop-i-test.true, c.requires.0)) tt

pub mask_byte-m-requires : goal.mask_byte-m-requires
mask_byte-m-requires c =
    (omega (arith, c.loop-i-test.true, c.requires.0), c.requires.1)

pub put_byte-r-requires-in-loop-i : goal.put_byte-r-requires-in-loop-i
put_byte-r-requires-in-loop-i c =
    tt

pub overflow_add-i : goal.overflow_add-i
overflow_add-i c =
    omega (arith, c.requires.0, c.loop-i-test.true)

pub loop-i-smaller : goal.loop-i-smaller
loop-i-smaller c =
    omega (arith, c.loop-i-test.true)

pub loop-i-preserved : goal.loop-i-preserved
loop-i-preserved c =
    let s = c.put_byte-r-in-loop-i.ensures.still in let q = c.loop-i.invariant.1.0 in (
      λ b l e. (c.mask_byte-m.ensures.rest b (c.loop-i.invariant.0 b l e).0, mask_step b _ _ _ _ l c.loop-i-test.true (c.mask_byte-m.ensures.byte b (c.loop-i.invariant.0 b l e).0) c.put_byte-r-in-loop-i.ensures.puts (c.loop-i.invariant.0 b l e).1),
      (record { x = s.x ∙ q.x; y = s.y ∙ q.y; waits = s.waits ∙ q.waits; held = s.held ∙ q.held }, c.put_byte-r-in-loop-i.ensures.puts.same ∙ c.loop-i.invariant.1.1),
    )

pub shape_of-out : goal.shape_of-out
shape_of-out c =
    c.loop-i.invariant.1.1 ∙ c.put_byte-r.ensures.puts.same ∙ c.flush-f.ensures.puts.same

pub returns : goal.returns
returns c =
    record { out_len_unchanged = c.loop-i.invariant.1.1 ∙ c.put_byte-r.ensures.puts.same ∙ c.flush-f.ensures.puts.same; masks = λ b l e. mask_end b c.loop-i.i (omega (arith, l, c.loop-i-test.false)) c.flush-f.ensures c.put_byte-r.ensures.puts c.put_byte-r.ensures.still (c.loop-i.invariant.0 b l e).1 c.loop-i.invariant.1.0 c.loop-i.invariant.1.1 }
