-- `tables::registers::put_registers` meets its contract: two copies and three words.
-- Assumes nothing.
use mathlib.Core.Path.{◌≡◌, refl, sym, ap, ◌∙◌}
use native.Mathlib.Omega.{arith}
use mathlib.Core.List.{List}
use Prim.Native.Nat.{ℕ}
use lib.ListN.{length, set, drop, length-drop}
use lib.Seq.{paste, length-paste, length-take-le}
use borrow.Rule.Slice.PartMut.{put_mid}
use Rattle.std.proofs.lemmas.Slice.{put_mid-paste}
use Rattle.tables.specs.Views.{with_registers}
use Rattle.tables.proofs.Copy.{all_words}
use Rattle.tables.proofs.registers.put_registers.Goals as goal

pub returns : goal.returns
unfolding with_registers
returns c =
    let a = c.args in
    let p = c.copy_from_slice.ensures in
    let q = c.copy_from_slice-2.ensures in
    let g : length a.r.gpr ≡ 32 = ap length (sym p.after) ∙ p.len ∙ length-take-le 32 a.b.now (omega arith) in
    let l : put_mid 0 32 a.b.now c.copy_from_slice.new.self ≡ paste a.b.now 0 a.r.gpr 32 = put_mid-paste 0 32 a.b.now _ a.r.gpr 32 p.after refl (sym g) in
    let n : length (put_mid 0 32 a.b.now c.copy_from_slice.new.self) ≡ 256 =
    ap length l ∙ length-paste a.b.now 0 a.r.gpr 32 (omega arith) (omega arith) ∙ c.requires in
    let s : length a.r.spr ≡ 32 =
    ap length (sym q.after) ∙ q.len
    ∙ length-take-le 32 (drop 32 (put_mid 0 32 a.b.now c.copy_from_slice.new.self)) (omega (arith, length-drop 32 (put_mid 0 32 a.b.now c.copy_from_slice.new.self))) in
    let m : put_mid 32 32 (put_mid 0 32 a.b.now c.copy_from_slice.new.self) c.copy_from_slice-2.new.self ≡ paste (paste a.b.now 0 a.r.gpr 32) 32 a.r.spr 32 =
    put_mid-paste 32 32 _ _ a.r.spr 32 q.after refl (sym s) ∙ ap (λ (l : List ℕ). paste l 32 a.r.spr 32) l in
    record {
      b_after = ap (λ (l : List ℕ). set (set (set l 64 a.r.pc) 65 a.r.hi) 66 a.r.lo) m ∙ all_words a.b.now a.r.gpr a.r.spr c.requires g s a.r.pc a.r.hi a.r.lo;
      gpr_len = (g, s);
    }
