-- An instruction, an interrupt and a return make words of words.
-- Assumes nothing.
use Rattle.std.specs.Prelude.{if◌then◌else◌}
use mathlib.Core.Bool.{Bool, not, ◌&&◌, ◌||◌}
use mathlib.Core.List.{List}
use Prim.Native.Nat.{ℕ, ◌+◌, ◌*◌, ◌/◌, ◌%◌, ◌^◌, ◌≤◌, ◌<◌}
use native.Mathlib.Nat.{mod-lt, pow-le-pow_right}
use native.Mathlib.Omega.{arith}
use lib.Dec.{eqb}
use lib.ListN.{set}
use lib.Pow.{pow_pos}
use Rattle.word.specs.Word.{flag, is_set, plus, sxt, sll}
use Rattle.word.proofs.Laws.{sxt_lt}
use Rattle.word.proofs.Words.{if_both, if_lt, set_below}
use Rattle.layout.specs.Layout as at
use Rattle.decode.specs.declared.Instruction.{Instruction}
use Rattle.decode.specs.Fields.{rs, rt, rd, sa, imm, iindex}
use Rattle.decode.specs.Table.{decoded}
use Rattle.decode.specs.Mnemonics.{lb, lh, lw, lbu, lhu, sb, sh, sw, jr, itype, rtype, alu, mulacc, b, load, cas, jal, jalr, movg2s, movs2g, mfhi, mflo, mthi, mtlo, mul}
use Rattle.units.specs.Alu.{alucon}
use Rattle.units.specs.Multiplication.{mulcon}
use Rattle.units.specs.Shift.{sf}
use Rattle.units.proofs.Results.{alures_lt, mures_lt, sures_lt}
use Rattle.isa.specs.declared.registers.Registers.{Registers}
use Rattle.isa.specs.declared.interrupts.Events.{Events}
use Rattle.isa.specs.Core.{gpr_at, spr_at, next_pc, rop, mres, jbtaken, btarget, sdist, slop, ea, d, lv, gprw, cad, gprdin, put_at, effect, delta_instr}
use Rattle.isa.specs.Interrupts.{mca, delta_jisr, delta_rfe, continues, il, ea_at, edata_of}
-- for the crates above
pub use Rattle.word.proofs.Words.{Words, cons_below, append_below, take_below, drop_below}

-- ---- what is loaded

d_few : (i : Instruction) → d i < 5
unfolding d
d_few i =
    if_lt (lb i || lbu i || sb i) 1 _ (omega arith)
    (if_lt (lh i || lhu i || sh i) 2 _ (omega arith)
    (if_lt (sw i || lw i || cas i) 4 0 (omega arith) (omega arith)))

lv_lt : (i : Instruction) (R : ℕ) → lv i R < 2 ^ 32
unfolding lv
lv_lt i R =
    let k : ℕ = 8 * d i in
    let l : k ≤ 32 = omega (arith, d_few i) in
    let p : R % 2 ^ k < 2 ^ k = mod-lt R (pow_pos k) in
    let q : 2 ^ k ≤ 2 ^ 32 = pow-le-pow_right {n = 2} (omega arith) {i = k} {j = 32} l in
    if_lt (lbu i || lhu i) (R % 2 ^ k) (sxt k (R % 2 ^ k)) (omega arith) (sxt_lt k (R % 2 ^ k) l p)

-- ---- registers

pub record RegisterWords (r : Registers) : Type 0 where
  pub general : Words r.gpr
  pub special : Words r.spr
  pub counter : r.pc < 2 ^ 32
  pub high : r.hi < 2 ^ 32
  pub low : r.lo < 2 ^ 32

module _ (i : Instruction) (c : Registers) (w : ℕ) (C : RegisterWords c) where
  rop_lt : rop (rtype i) c w < 2 ^ 32
  rop_lt = if_lt (rtype i) _ _ (C.general (rt w)) (if_lt (not (is_set w 28)) (sxt 16 (imm w)) (imm w) (sxt_lt 16 (imm w) (omega arith) (omega arith)) (omega arith))

  mres_lt : mres c w < 2 ^ 64
  mres_lt = mures_lt (gpr_at c (rs w)) (gpr_at c (rt w)) (c.hi * 2 ^ 32 + c.lo) (mulcon w) (C.general (rs w)) (C.general (rt w))

  ea_lt : ea i c w < 2 ^ 32
  ea_lt = if_lt (itype i) (plus 32 (gpr_at c (rs w)) (sxt 16 (imm w))) (gpr_at c (rs w)) (omega arith) (C.general (rs w))

  gprdin_lt : (R : ℕ) → gprdin i c w R < 2 ^ 32
  unfolding gprdin
  gprdin_lt R =
      if_lt (jal i || jalr i) (next_pc c) _ (omega arith)
      (if_lt (load i || cas i) _ _ (lv_lt i R)
      (if_lt (movs2g i) _ _ (C.special (rd w))
      (if_lt (mfhi i) _ _ C.high
      (if_lt (mflo i) _ _ C.low
      (if_lt (alu i) _ _ (alures_lt (gpr_at c (rs w)) (rop (rtype i) c w) (alucon (rtype i) w) (itype i) (C.general (rs w)) rop_lt)
      (if_lt (mul i) (mres c w % 2 ^ 32) _ (omega arith)
      (sures_lt (slop c w) (sdist c w) (sf w) (C.general (rt w)) (if_lt (not (is_set w 2)) (sa w) (gpr_at c (rs w) % 2 ^ 5) (omega arith) (omega arith)))))))))

  target_lt : btarget i c w < 2 ^ 32
  target_lt =
      if_lt (b i) (plus 32 c.pc (sll (sxt 16 (imm w)) 2)) _ (omega arith)
      (if_lt (jr i || jalr i) (gpr_at c (rs w)) (next_pc c / 2 ^ 28 * 2 ^ 28 + iindex w * 2 ^ 2) (C.general (rs w)) (omega arith))

  pub effect_words : (R : ℕ) → RegisterWords (effect i c w R)
  effect_words R =
      let v : ℕ = gprdin i c w R in
      record {
        general = if_both Words (gprw i) (put_at c.gpr (cad i w) v) c.gpr (if_both Words (eqb (cad i w) 0) c.gpr (set c.gpr (cad i w) v) C.general (set_below c.gpr (cad i w) v C.general (gprdin_lt R))) C.general;
        special = if_both Words (movg2s i) (set c.spr (rd w) (gpr_at c (rt w))) c.spr (set_below c.spr (rd w) (gpr_at c (rt w)) C.special (C.general (rt w))) C.special;
        counter = if_lt (jbtaken i c w) (btarget i c w) (next_pc c) target_lt (omega arith);
        high = if_lt (mulacc i) (mres c w / 2 ^ 32) _ (omega (arith, mres_lt)) (if_lt (mthi i) _ _ (C.general (rs w)) (if_lt (mul i) _ _ C.high C.high));
        low = if_lt (mulacc i) (mres c w % 2 ^ 32) _ (omega arith) (if_lt (mtlo i) _ _ (C.general (rs w)) (if_lt (mul i) _ _ C.low C.low));
      }

-- ---- interrupt and return

-- the masked causes are a word
pub causes_lt : (e : Events) (sr : ℕ) → mca e sr < 2 ^ 32
causes_lt e sr =
    omega (arith, bit (e.io && is_set sr 1), bit e.ill, bit e.mal, bit e.pff, bit e.pfls, bit e.sysc, bit (e.ovf && is_set sr 7))
  where
    bit : (t : Bool) → flag t < 2
    bit t = if_lt t 1 0 (omega arith) (omega arith)

-- by causes and an event that are words
pub jisr_words : (c : Registers) (w R ca k : ℕ) → ca < 2 ^ 32 → k < 2 ^ 32 → RegisterWords c → RegisterWords (delta_jisr c w R ca k)
unfolding delta_jisr delta_instr
jisr_words c w R ca k hc hk C =
    let E : RegisterWords (effect (decoded w) c w R) = effect_words (decoded w) c w C R in
    let pc : ℕ = if continues (il ca) then (effect (decoded w) c w R).pc else c.pc in
    let hp : pc < 2 ^ 32 = if_lt (continues (il ca)) (effect (decoded w) c w R).pc c.pc E.counter C.counter in
    let x : ℕ = edata_of c (il ca) (ea_at c w) k in
    let hx : x < 2 ^ 32 = if_lt (eqb (il ca) 5) (ea_at c w) _ (ea_lt (decoded w) c w C) (if_lt (eqb (il ca) 1) k (spr_at c at.edata) hk (C.special at.edata)) in
    let s₁ : List ℕ = set c.spr at.sr 0 in
    let s₂ : List ℕ = set s₁ at.mode 0 in
    let s₃ : List ℕ = set s₂ at.esr (spr_at c at.sr) in
    let s₄ : List ℕ = set s₃ at.eca ca in
    let s₅ : List ℕ = set s₄ at.epc pc in
    let w₁ : Words s₁ = set_below c.spr at.sr 0 C.special (omega arith) in
    let w₂ : Words s₂ = set_below s₁ at.mode 0 w₁ (omega arith) in
    record {
      general = if_both Words (continues (il ca)) (effect (decoded w) c w R).gpr c.gpr E.general C.general;
      special = set_below s₅ at.edata x (set_below s₄ at.epc pc (set_below s₃ at.eca ca (set_below s₂ at.esr (spr_at c at.sr) w₂ (C.special at.sr)) hc) hp) hx;
      counter = omega arith;
      high = C.high;
      low = C.low;
    }

pub rfe_words : (c : Registers) → RegisterWords c → RegisterWords (delta_rfe c)
unfolding delta_rfe
rfe_words c C =
    record {
      general = C.general;
      special = set_below (set c.spr at.mode 1) at.sr (spr_at c at.esr) (set_below c.spr at.mode 1 C.special (omega arith)) (C.special at.esr);
      counter = C.special at.epc;
      high = C.high;
      low = C.low;
    }
