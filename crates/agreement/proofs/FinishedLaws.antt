-- Laws: what the entry that converts and finishes leaves, from what its parts leave.
use Rattle.std.specs.Prelude.{◌≡◌, refl, ℕ, ◌-◌, List, ◌++◌, length, replicate, take}
use Rattle.std.proofs.Common.{sym, ◌∙◌, ap, ap₂, subst}
use Rattle.std.proofs.Math.Seq.{take-append_seam}
use Rattle.charstring.specs.Cipher.{Bytes}
use Rattle.geometry.specs.declared.Matrix.{Matrix}
use Rattle.outline.specs.declared.Stem.{Stem}
use Rattle.type1.specs.declared.Reading.{Reading}
use Rattle.type1.specs.Interpret.{Source}
use Rattle.type1_to_type2.specs.declared.Type2Glyph.{Type2Glyph}
use Rattle.type1_to_type2.specs.FinishAnswer.{Finished}
use Rattle.type1_to_type2.specs.Writing as Writing
use Rattle.type1_to_type2.specs.Writing.{Written}
use Rattle.type1_to_type2.specs.Convert.{Glyph, Conversion, refused, converted, Rooms, convert, writes, answer, output}
use Rattle.type1_to_type2.specs.Finish.{finish}
use Rattle.type1_to_type2.specs.FinishAnswer.{finished_answer, finished_output}
use Rattle.type1_to_type2.specs.Nonzero.{finish_nonzero}
use Rattle.type1_to_type2.specs.Entry.{Answers, ConvertsFrom}
use Rattle.type2.specs.declared.Widths.{Widths}
use Rattle.agreement.specs.Demand3.{Demand3}
use Rattle.agreement.proofs.Agreement.{demand3}
use Rattle.agreement.specs.Finished.{refusal, with_len, with_program, finished, Finishes, glyph_in, ConvertsFinished}

-- the program that converting left is the front of its output
front : (b : List ℕ) (n : ℕ) → take (length b) (b ++ replicate n 0) ≡ b
front b n = take-append_seam b (replicate n 0)

number_is : {g h : Type2Glyph} → g ≡ h → g.number ≡ h.number
number_is e = ap (λ (y : Type2Glyph). y.number) e

-- ---- a glyph that was refused
pub away : (g : Type2Glyph) (p : Widths) (program : List ℕ) (room : ℕ) (out : List ℕ) → (g.number ≡ 0 → ⊥) → out ≡ replicate room 0 → Finishes g p program room (refusal g.number) out
away g p program room out h e = record { of = go }
  where
    go : (x : Conversion) → (x ≡ refused 0 → ⊥) → g ≡ answer x → program ≡ output (length program) x → Answers (finished p room x) room (refusal g.number) out
    go (refused n) nz eg ep = record { glyph = ap refusal (number_is eg); bytes = e }
    go (converted k) nz eg ep = absurd (h (number_is eg))

-- ---- finished, or refused by finishing
answered : (k : Glyph) (room : ℕ) (x : Written) (r : Type2Glyph) (out : List ℕ) → r ≡ answer (writes (with_program k) x) → out ≡ finished_output room x → Answers (writes (with_program k) x) room r out
answered k room (Writing.refused n) r out er eo = record { glyph = er; bytes = eo }
answered k room (Writing.wrote b) r out er eo = record { glyph = er; bytes = eo }

module _ (g : Type2Glyph) (p : Widths) (program : List ℕ) (room : ℕ) (f : Finished) (out : List ℕ) (h : g.number ≡ 0)
    (ef : f ≡ finished_answer (finish g.width (take g.len program) p room))
    (eo : out ≡ finished_output room (finish g.width (take g.len program) p room)) where
  abbrev y : Glyph → Written
  y k = finish k.width k.program p room

  same : (k : Glyph) → g ≡ answer (converted k) → program ≡ output (length program) (converted k) → finish g.width (take g.len program) p room ≡ y k
  same k eg ep =
      ap (λ (z : Type2Glyph). finish z.width (take z.len program) p room) eg
      ∙ ap (λ (l : List ℕ). finish k.width (take (length k.program) l) p room) ep
      ∙ ap (λ (l : List ℕ). finish k.width l p room) (front k.program (length program - length k.program))

  by : (r : Type2Glyph) → ((k : Glyph) → g ≡ answer (converted k) → f ≡ finished_answer (y k) → r ≡ answer (writes (with_program k) (y k))) → Finishes g p program room r out
  by r q = record { of = go }
    where
      go : (x : Conversion) → (x ≡ refused 0 → ⊥) → g ≡ answer x → program ≡ output (length program) x → Answers (finished p room x) room r out
      go (refused n) nz eg ep = absurd (nz (ap refused (sym (number_is eg) ∙ h)))
      go (converted k) nz eg ep = answered k room (y k) r out (q k eg (ef ∙ ap finished_answer (same k eg ep))) (eo ∙ ap (finished_output room) (same k eg ep))

  pub not_finished : (f.number ≡ 0 → ⊥) → Finishes g p program room (refusal f.number) out
  not_finished nz = by (refusal f.number) (λ k eg e. go k (y k) e)
    where
      go : (k : Glyph) (x : Written) → f ≡ finished_answer x → refusal f.number ≡ answer (writes (with_program k) x)
      go k (Writing.refused n) e = ap (λ (z : Finished). refusal z.number) e
      go k (Writing.wrote c) e = absurd (nz (ap (λ (z : Finished). z.number) e))

  pub is_finished : f.number ≡ 0 → Finishes g p program room (with_len f.len g) out
  is_finished z0 = by (with_len f.len g) (λ k eg e. go k eg (y k) (finish_nonzero k.width k.program p room) e)
    where
      go : (k : Glyph) → g ≡ answer (converted k) → (x : Written) → (x ≡ Writing.refused 0 → ⊥) → f ≡ finished_answer x → with_len f.len g ≡ answer (writes (with_program k) x)
      go k eg (Writing.refused n) nz e = absurd (nz (ap Writing.refused (sym (ap (λ (z : Finished). z.number) e) ∙ z0)))
      go k eg (Writing.wrote c) nz e = ap₂ (λ (z : Finished) (v : Type2Glyph). with_len z.len v) e eg

-- ---- the entry
written-bytes : (k : Glyph) (room : ℕ) (x : Written) (r : Type2Glyph) (out : List ℕ) → (x ≡ Writing.refused 0 → ⊥) → r ≡ answer (writes (with_program k) x) → out ≡ output room (writes (with_program k) x) → r.number ≡ 0
    → (x ≡ Writing.wrote (take r.len out)) × (glyph_in r out ≡ with_program k (take r.len out))
written-bytes k room (Writing.refused n) r out nz er eo h = absurd (nz (ap Writing.refused (sym (number_is er) ∙ h)))
written-bytes k room (Writing.wrote b) r out nz er eo h =
    let is = sym (ap (λ (z : Type2Glyph). take z.len out) er ∙ ap (take (length b)) eo ∙ front b (room - length b)) in
    (ap Writing.wrote is, ap (λ (z : Type2Glyph). glyph_in z out) er ∙ ap (with_program k) (sym (ap (λ (z : Type2Glyph). take z.len out) er)))

demanded : (x : Source) (reading : Reading) (m : Matrix) (p : Widths) (r : Rooms) (room : ℕ) (g : Type2Glyph) (out : List ℕ) → Bytes x.charstring → Bytes x.bank → (y : Conversion) → convert x reading m r ≡ y
    → (y ≡ refused 0 → ⊥) → g ≡ answer (finished p room y) → out ≡ output room (finished p room y) → g.number ≡ 0 → Demand3 x reading m p (glyph_in g out)
demanded x reading m p r room g out code bodies (refused n) e nz eg eo h = absurd (nz (ap refused (sym (number_is eg) ∙ h)))
demanded x reading m p r room g out code bodies (converted k) e nz eg eo h =
    let W = written-bytes k room (finish k.width k.program p room) g out (finish_nonzero k.width k.program p room) eg eo h in
    subst (Demand3 x reading m p) (sym W.1) (demand3 x reading m r k p room (take g.len out) code bodies e W.0)

pub converts_finished : (x : Source) (reading : Reading) (m : Matrix) (p : Widths) (r : Rooms) (room : ℕ) (g h : Type2Glyph) (stems : List Stem) (commands program₁ program out : List ℕ) → Bytes x.charstring → Bytes x.bank
    → ConvertsFrom x reading m r g stems commands program₁ → length program₁ ≡ r.bytes → Finishes g p program₁ room h out → program ≡ replicate r.bytes 0
    → ConvertsFinished x reading m p r room h stems commands program out
converts_finished x reading m p r room g h stems commands program₁ program out code bodies C l F ew =
    let y = convert x reading m r in
    let A = F.of y C.refusal C.glyph (C.bytes ∙ ap (λ (n : ℕ). output n y) (sym l)) in
    record {
      glyph = A.glyph;
      bytes = A.bytes;
      records = C.records;
      words = C.words;
      wiped = ew;
      demand = demanded x reading m p r room h out code bodies y refl C.refusal A.glyph A.bytes;
    }
