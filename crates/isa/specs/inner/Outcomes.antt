-- The forms that an instruction's effect and its events take, for the functions that make them. It serves contracts
-- inside alone: `written` of proofs/Effects ties an outcome to definition 49 in Core, and `events_by_lem` of
-- proofs/Laws ties the events to those of Interrupts; `completed` of proofs/Effects ties `entered` to definition 54.
-- Assumes nothing.
use Rattle.std.specs.Prelude.{if◌then◌else◌, Bool, true, false, not, ◌&&◌, ◌||◌, ℕ, ◌+◌, ◌*◌, ◌/◌, ◌%◌, ◌^◌, set}
use Rattle.word.specs.Word.{is_set, plus, sxt, sll}
use Rattle.decode.specs.declared.Jump.{Jump}
use Rattle.decode.specs.declared.Jump.TheVariants.{J, Jal, Jr, Jalr}
use Rattle.decode.specs.declared.Move.{Move}
use Rattle.decode.specs.declared.Move.TheVariants.{Mfhi, Mthi, Mflo, Mtlo, Movg2s, Movs2g}
use Rattle.decode.specs.declared.System.TheVariants.{Cas}
use Rattle.decode.specs.declared.Instruction.{Instruction}
use Rattle.decode.specs.declared.Instruction.TheVariants.{Illegal}
use Rattle.decode.specs.Fields.{rs, rt, rd, sa, imm, iindex}
use Rattle.decode.specs.Mnemonics.{itype, rtype, mulacc, cas, ill, sysc}
use Rattle.units.specs.Alu.{alures, alucon}
use Rattle.units.specs.Overflow.{overflow}
use Rattle.units.specs.Multiplication.{mures, mulcon}
use Rattle.units.specs.Branch.{bcres, bcon}
use Rattle.units.specs.Shift.{sures, sf}
use Rattle.isa.specs.declared.registers.Registers.{Registers}
use Rattle.isa.specs.declared.outcomes.Operands.{Operands}
use Rattle.isa.specs.declared.outcomes.Outcome.{Outcome}
use Rattle.isa.specs.declared.interrupts.Events.{Events}
use Rattle.isa.specs.Core.{gpr_at, spr_at, put_at, lv, mal}
use Rattle.isa.specs.Interrupts.{privileged, spr_jisr}

-- the service routine's first state (definition 54), but for the general registers
abbrev pub entered : Registers → ℕ → ℕ → ℕ → Registers
entered c causes pc data' =
    record { gpr = c.gpr; spr = spr_jisr c causes pc data'; pc = 0; hi = c.hi; lo = c.lo }

-- ---- what an instruction reads of a core, and what it makes of that; definition 49 is in Core

abbrev pub operands_of : Registers → ℕ → Operands
operands_of c w =
    record { p = gpr_at c (rs w); q = gpr_at c (rt w); special = spr_at c (rd w); pc = c.pc; hi = c.hi; lo = c.lo }

-- an outcome is written
abbrev pub with_outcome : Registers → ℕ → Outcome → Registers
with_outcome c w o =
    record {
      gpr = put_at c.gpr o.n o.v;
      spr = if o.special then set c.spr (rd w) (gpr_at c (rt w)) else c.spr;
      pc = o.pc;
      hi = o.hi;
      lo = o.lo;
    }

abbrev pub after_by : Operands → ℕ
after_by o = plus 32 o.pc 4

-- a general register is written and the pc goes on
abbrev pub wrote : Operands → ℕ → ℕ → Outcome
wrote o n v = record { n = n; v = v; pc = after_by o; hi = o.hi; lo = o.lo; special = false }

-- the pc goes on, and nothing else changes
abbrev pub passed : Operands → Outcome
passed o = wrote o 0 0

-- a general register is written and the pc goes elsewhere
abbrev pub went : Operands → ℕ → ℕ → ℕ → Outcome
went o n v pc = record { n = n; v = v; pc = pc; hi = o.hi; lo = o.lo; special = false }

-- HI and LO are written and the pc goes on
abbrev pub kept : Operands → ℕ → ℕ → Outcome
kept o hi lo = record { n = 0; v = 0; pc = after_by o; hi = hi; lo = lo; special = false }

-- a special register is written and the pc goes on
abbrev pub set_special : Operands → Outcome
set_special o = record { n = 0; v = 0; pc = after_by o; hi = o.hi; lo = o.lo; special = true }

-- definition 27
abbrev pub rop_by : Bool → ℕ → ℕ → ℕ
rop_by r w q = if r then q else if not (is_set w 28) then sxt 16 (imm w) else imm w

-- definition 29 for an ALU instruction of R-type or of I-type
abbrev pub computed_by : Bool → ℕ → Operands → ℕ
computed_by r w o = alures o.p (rop_by r w o.q) (alucon r w) (not r)

-- definition 31
abbrev pub mres_by : ℕ → Operands → ℕ
mres_by w o = mures o.p o.q (o.hi * 2 ^ 32 + o.lo) (mulcon w)

unfoldable pub multiply_by : Instruction → ℕ → Operands → Outcome
multiply_by i w o =
    if mulacc i then kept o (mres_by w o / 2 ^ 32) (mres_by w o % 2 ^ 32) else wrote o (rd w) (mres_by w o % 2 ^ 32)

-- definitions 33 and 34: a branch, and where j and jal go
abbrev pub branch_by : ℕ → Operands → ℕ
branch_by w o = if bcres o.p o.q (bcon w) then plus 32 o.pc (sll (sxt 16 (imm w)) 2) else after_by o

abbrev pub near_by : ℕ → Operands → ℕ
near_by w o = after_by o / 2 ^ 28 * 2 ^ 28 + iindex w * 2 ^ 2

abbrev pub jump_by : Jump → ℕ → Operands → Outcome
jump_by J w o = went o 0 0 (near_by w o)
jump_by Jal w o = went o 31 (after_by o) (near_by w o)
jump_by Jr w o = went o 0 0 o.p
jump_by Jalr w o = went o (rd w) (after_by o) o.p

-- definition 38
abbrev pub sdist_by : ℕ → ℕ → ℕ
sdist_by w p = if not (is_set w 2) then sa w else p % 2 ^ 5

abbrev pub move_by : Move → ℕ → Operands → Outcome
move_by Mfhi w o = wrote o (rd w) o.hi
move_by Mthi w o = kept o o.p o.lo
move_by Mflo w o = wrote o (rd w) o.lo
move_by Mtlo w o = kept o o.hi o.p
move_by Movg2s w o = set_special o
move_by Movs2g w o = wrote o (rt w) o.special

unfoldable pub system_by : Instruction → ℕ → Operands → ℕ → Outcome
system_by i w o R = if cas i then wrote o (rd w) (lv (Instruction.System Cas) R) else passed o

-- every instruction
unfoldable pub outcome_by : Instruction → ℕ → Operands → ℕ → Outcome
outcome_by (Instruction.Load x) w o R = wrote o (rt w) (lv (Instruction.Load x) R)
outcome_by (Instruction.Store x) w o R = passed o
outcome_by (Instruction.Immediate x) w o R = wrote o (rt w) (computed_by false w o)
outcome_by (Instruction.Branch x) w o R = went o 0 0 (branch_by w o)
outcome_by (Instruction.Jump x) w o R = jump_by x w o
outcome_by (Instruction.Shift x) w o R = wrote o (rd w) (sures o.q (sdist_by w o.p) (sf w))
outcome_by (Instruction.Multiply x) w o R = multiply_by (Instruction.Multiply x) w o
outcome_by (Instruction.Move x) w o R = move_by x w o
outcome_by (Instruction.Alu x) w o R = wrote o (rd w) (computed_by true w o)
outcome_by (Instruction.System x) w o R = system_by (Instruction.System x) w o R
outcome_by Illegal w o R = passed o

-- ---- events from the operands: p and q are the general registers rs and rt

-- definition 40
abbrev pub ea_by : Instruction → ℕ → ℕ → ℕ
ea_by i w p = if itype i then plus 32 p (sxt 16 (imm w)) else p

-- iev[7] by the trade's rule
abbrev pub ovf_by : Instruction → ℕ → ℕ → ℕ → Bool
ovf_by i w p q = overflow i p (rop_by (rtype i) w q)

-- 6.3: the event signals, in user mode or not
abbrev pub events_by : Instruction → ℕ → ℕ → ℕ → Bool → Bool → Bool → Events
events_by i w p q user io pfls =
    record {
      io = io;
      ill = ill i || (user && privileged i);
      mal = mal i (ea_by i w p);
      pff = false;
      pfls = pfls;
      sysc = sysc i;
      ovf = ovf_by i w p q;
    }
