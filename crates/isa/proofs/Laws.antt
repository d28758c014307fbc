-- What holds of every instruction, interrupt and return, for those above.
-- Assumes nothing.
use Rattle.std.specs.Prelude.{if◌then◌else◌}
use mathlib.Core.Path.{◌≡◌, refl, sym}
use mathlib.Core.Bool.{Bool, true, false}
use mathlib.Core.List.{List}
use Prim.Native.Nat.{ℕ}
use lib.Dec.{eqb}
use lib.ListN.{get_or, set}
use lib.Seq.{get_or-set_other}
use borrow.Author.Tests.{eqb-false}
use Rattle.decode.specs.declared.Multiply.TheVariants.{Mul}
use Rattle.decode.specs.declared.Instruction.{Instruction}
use Rattle.decode.specs.Fields.{rs, rt}
use Rattle.decode.specs.Table.{decoded}
use Rattle.decode.specs.Mnemonics.{mulacc, mthi, mtlo, mul}
use Rattle.isa.specs.declared.registers.Registers.{Registers}
use Rattle.isa.specs.Core.{gpr_at, put_at, ea, delta_instr, gprw, cad, gprdin, hi_after_mul, lo_after_mul}
use Rattle.isa.specs.Interrupts.{user, events_as, delta_jisr, delta_rfe, continues, il}
use Rattle.isa.specs.inner.Outcomes.{ea_by, events_by}

-- ---- general register 0

put_zero' : (l : List ℕ) (x v : ℕ) (t : Bool) → eqb x 0 ≡ t → get_or (if t then l else set l x v) 0 0 ≡ get_or l 0 0
put_zero' l x v true e = refl
put_zero' l x v false e = get_or-set_other l x 0 v 0 (λ p. eqb-false x 0 e (sym p))

pub put_zero : (l : List ℕ) (x v : ℕ) → get_or (put_at l x v) 0 0 ≡ get_or l 0 0
put_zero l x v = put_zero' l x v (eqb x 0) refl

either_zero : (t : Bool) (l k : List ℕ) → get_or l 0 0 ≡ get_or k 0 0 → get_or (if t then l else k) 0 0 ≡ get_or k 0 0
either_zero true l k e = e
either_zero false l k e = refl

-- an instruction leaves it, so does an interrupt and a return
pub instr_zero : (c : Registers) (w R : ℕ) → gpr_at (delta_instr c w R) 0 ≡ gpr_at c 0
unfolding delta_instr
instr_zero c w R =
    either_zero (gprw (decoded w)) (put_at c.gpr (cad (decoded w) w) (gprdin (decoded w) c w R)) c.gpr
    (put_zero c.gpr (cad (decoded w) w) (gprdin (decoded w) c w R))

pub jisr_zero : (c : Registers) (w R causes k : ℕ) → gpr_at (delta_jisr c w R causes k) 0 ≡ gpr_at c 0
unfolding delta_jisr
jisr_zero c w R causes k = either_zero (continues (il causes)) (delta_instr c w R).gpr c.gpr (instr_zero c w R)

pub rfe_zero : (c : Registers) → gpr_at (delta_rfe c) 0 ≡ gpr_at c 0
unfolding delta_rfe
rfe_zero c = refl

-- ---- mul

-- what mul leaves in HI and LO
pub mul_leaves : (c : Registers) (w R : ℕ) → decoded w ≡ Instruction.Multiply Mul →
    ((delta_instr c w R).hi ≡ hi_after_mul c) × ((delta_instr c w R).lo ≡ lo_after_mul c)
unfolding delta_instr mulacc mthi mtlo mul
mul_leaves c w R e = (rw e, rw e)

-- ---- operands

-- the effective address and the events need no register but rs and rt
pub ea_by_lem : (i : Instruction) (c : Registers) (w : ℕ) → ea i c w ≡ ea_by i w (gpr_at c (rs w))
ea_by_lem i c w = refl

pub events_by_lem : (i : Instruction) (c : Registers) (w : ℕ) (io pfls : Bool) →
    events_as i c w io pfls ≡ events_by i w (gpr_at c (rs w)) (gpr_at c (rt w)) (user c) io pfls
events_by_lem i c w io pfls = refl
