-- Execution of an instruction on a core's registers (6.1.2 to 6.2). An instruction I is given as i, the instruction of
-- its row in tables 1 to 4, and w, its word.
-- Assumes nothing.
use Rattle.std.specs.Prelude.{if◌then◌else◌, Bool, not, ◌&&◌, ◌||◌, List, ℕ, ◌+◌, ◌*◌, ◌/◌, ◌%◌, ◌^◌, eqb, get_or, set}
use Rattle.word.specs.Word.{is_set, plus, sxt, sll}
use Rattle.decode.specs.declared.Instruction.{Instruction}
use Rattle.decode.specs.Fields.{rs, rt, rd, sa, imm, iindex}
use Rattle.decode.specs.Table.{decoded}
use Rattle.decode.specs.Mnemonics.{itype, rtype, alu, mulacc, b, jump, su, load, lb, lh, lw, lbu, lhu, sb, sh, sw, jr, cas, jal, jalr, movg2s, movs2g, mfhi, mflo, mthi, mtlo, mul}
use Rattle.units.specs.Alu.{alures, alucon}
use Rattle.units.specs.Multiplication.{mures, mulcon}
use Rattle.units.specs.Branch.{bcres, bcon}
use Rattle.units.specs.Shift.{sures, sf}
use Rattle.isa.specs.declared.registers.Registers.{Registers}

-- definition 21: a general, a special register of a core
abbrev pub gpr_at : Registers → ℕ → ℕ
gpr_at c x = get_or c.gpr x 0

abbrev pub spr_at : Registers → ℕ → ℕ
spr_at c x = get_or c.spr x 0

-- a write to a general register; one to register 0 is lost
abbrev pub put_at : List ℕ → ℕ → ℕ → List ℕ
put_at l x v = if eqb x 0 then l else set l x v

-- c.pc +32 4
abbrev pub next_pc : Registers → ℕ
next_pc c = plus 32 c.pc 4

-- ---- operands and results

-- definition 27
abbrev pub lop : Registers → ℕ → ℕ
lop c w = gpr_at c (rs w)

-- r says that the instruction is of R-type
abbrev pub rop : Bool → Registers → ℕ → ℕ
rop r c w = if r then gpr_at c (rt w) else if not (is_set w 28) then sxt 16 (imm w) else imm w

-- definition 29
abbrev pub compres : Instruction → Registers → ℕ → ℕ
compres i c w = alures (lop c w) (rop (rtype i) c w) (alucon (rtype i) w) (itype i)

-- definition 31
abbrev pub mres : Registers → ℕ → ℕ
mres c w = mures (gpr_at c (rs w)) (gpr_at c (rt w)) (c.hi * 2 ^ 32 + c.lo) (mulcon w)

-- definition 33
abbrev pub jbtaken : Instruction → Registers → ℕ → Bool
jbtaken i c w = jump i || (b i && bcres (gpr_at c (rs w)) (gpr_at c (rt w)) (bcon w))

-- definition 34
abbrev pub btarget : Instruction → Registers → ℕ → ℕ
btarget i c w =
    if b i then plus 32 c.pc (sll (sxt 16 (imm w)) 2)
    else if jr i || jalr i then gpr_at c (rs w)
    else next_pc c / 2 ^ 28 * 2 ^ 28 + iindex w * 2 ^ 2

-- definition 38; fun[2] tells the distances apart, not fun[3], which is 0 in all six shifts
abbrev pub sdist : Registers → ℕ → ℕ
sdist c w = if not (is_set w 2) then sa w else gpr_at c (rs w) % 2 ^ 5

abbrev pub slop : Registers → ℕ → ℕ
slop c w = gpr_at c (rt w)

-- ---- memory accesses

-- definition 40: of I-type or not; d is 0 where there is no access
abbrev pub ea_of : Bool → Registers → ℕ → ℕ
ea_of t c w = if t then plus 32 (gpr_at c (rs w)) (sxt 16 (imm w)) else gpr_at c (rs w)

abbrev pub ea : Instruction → Registers → ℕ → ℕ
ea i c w = ea_of (itype i) c w

unfoldable pub d : Instruction → ℕ
d i =
    if lb i || lbu i || sb i then 1
    else if lh i || lhu i || sh i then 2
    else if sw i || lw i || cas i then 4
    else 0

-- definition 41, at the effective address a
unfoldable pub mal : Instruction → ℕ → Bool
mal i a =
    ((lw i || sw i || cas i) && not (eqb (a % 2 ^ 2) 0))
    || ((lhu i || lh i || sh i) && not (eqb (a % 2) 0))

-- definition 43; R is the d(I) bytes that were read, of a longer number the low ones
unfoldable pub lv : Instruction → ℕ → ℕ
lv i R =
    if lbu i || lhu i then R % 2 ^ (8 * d i)
    else sxt (8 * d i) (R % 2 ^ (8 * d i))

-- definition 44
abbrev pub sv : Instruction → Registers → ℕ → ℕ
sv i c w = gpr_at c (rt w) % 2 ^ (8 * d i)

-- ---- what is written

-- definition 45, with all loads for lw and mfhi for mghi
unfoldable pub gprw : Instruction → Bool
gprw i = alu i || (su i || (load i || (cas i || (jal i || (jalr i || (movs2g i || (mul i || (mflo i || mfhi i))))))))

-- definition 46
unfoldable pub rdes : Instruction → ℕ → ℕ
rdes i w = if (rtype i && not (movs2g i)) || mul i then rd w else rt w

-- definition 47
unfoldable pub cad : Instruction → ℕ → ℕ
cad i w = if jal i then 31 else rdes i w

-- definition 48
unfoldable pub gprdin : Instruction → Registers → ℕ → ℕ → ℕ
gprdin i c w R =
    if jal i || jalr i then next_pc c
    else if load i || cas i then lv i R
    else if movs2g i then spr_at c (rd w)
    else if mfhi i then c.hi
    else if mflo i then c.lo
    else if alu i then compres i c w
    else if mul i then mres c w % 2 ^ 32
    else sures (slop c w) (sdist c w) (sf w)

-- what mul leaves in HI and LO, which the report leaves free: here both stay
abbrev pub hi_after_mul : Registers → ℕ
hi_after_mul c = c.hi

abbrev pub lo_after_mul : Registers → ℕ
lo_after_mul c = c.lo

-- definition 49, at an instruction; where the report prints c.HI last for LO, LO stays
abbrev pub effect : Instruction → Registers → ℕ → ℕ → Registers
effect i c w R =
    record {
      gpr = if gprw i then put_at c.gpr (cad i w) (gprdin i c w R) else c.gpr;
      spr = if movg2s i then set c.spr (rd w) (gpr_at c (rt w)) else c.spr;
      pc = if jbtaken i c w then btarget i c w else next_pc c;
      hi = if mulacc i then mres c w / 2 ^ 32 else if mthi i then gpr_at c (rs w) else if mul i then hi_after_mul c else c.hi;
      lo = if mulacc i then mres c w % 2 ^ 32 else if mtlo i then gpr_at c (rs w) else if mul i then lo_after_mul c else c.lo;
    }

-- δinstr, at a word
unfoldable pub delta_instr : Registers → ℕ → ℕ → Registers
delta_instr c w R = effect (decoded w) c w R
