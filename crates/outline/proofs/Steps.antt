-- Steps of walks by hand. It says nothing of the crate.
--     guards    `if c { a }` and then b, with a name for neither
-- Assumes `Logic`.
use mathlib.Core.Bool.{Bool, not}
use mathlib.Core.List.{List}
use lib.Dec.{T}
use seplogic.Ra.Ura.{Ura}
use mir.Syntax.{Opd as Operand, Body, seq, cond, skip}
use mir.Val.{vbool}
use prog.Wp.{Env, Calls, Loops, Wp, after_seq}
use types.Logic.{Logic}
use types.Kit.{Item, Post, any_q, post, runs, Seq, ◌$◌}
use types.Run.{Opd, first, branches, skips}

module _ {M : Type 1} {𝓤 : Ura M} {𝓛 : Logic 𝓤} {K : Type 0} {Γ : List (Item 𝓤)} {E : Env 𝓤 𝓛.H} {C : Calls 𝓤 𝓛.H} {Λ : Loops 𝓤 𝓛.H} {p : Post 𝓤 𝓛.H} where
  open 𝓛 use {H}

  pub guards : K → {c : Operand} {a b : Body} {y : Bool} → Opd K 𝓛 Γ E c (vbool y)
      → (T y → Seq K 𝓛 Γ (runs C Λ E a (any_q (after_seq 𝓤 H (Wp 𝓤 H C Λ E b (post 𝓤 H p)) (post 𝓤 H p))))) → (T (not y) → Seq K 𝓛 Γ (runs C Λ E b p)) → Seq K 𝓛 Γ (runs C Λ E (seq (cond c a skip) b) p)
  guards t c held failed = first t $ branches t c held (λ n. skips t $ record { prf = (failed n).prf })
