-- Tables 1 to 4 of the report as one table: a row has the opcode, then the function code, rs and rt where they are
-- printed, and the instruction. An instruction is the one whose printed codes all match; a word that matches none is
-- illegal.
-- Assumes nothing.
use Rattle.std.specs.Prelude.{if◌then◌else◌, Bool, true, ◌&&◌, List, [], ◌∷◌, ◌++◌, ℕ, eqb}
use Rattle.decode.specs.Fields.{opc, fun, rs, rt}
use Rattle.decode.specs.declared.Load.TheVariants.{Lb, Lh, Lw, Lbu, Lhu}
use Rattle.decode.specs.declared.StoreWidth.TheVariants.{Sb, Sh, Sw}
use Rattle.decode.specs.declared.Immediate.TheVariants.{Addi, Addiu, Slti, Sltiu, Andi, Ori, Xori, Lui}
use Rattle.decode.specs.declared.Branch.TheVariants.{Bltz, Bgez, Beq, Bne, Blez, Bgtz}
use Rattle.decode.specs.declared.Jump.TheVariants.{J, Jal, Jr, Jalr}
use Rattle.decode.specs.declared.Shift.TheVariants.{Sll, Srl, Sra, Sllv, Srlv, Srav}
use Rattle.decode.specs.declared.Move.TheVariants.{Mfhi, Mthi, Mflo, Mtlo, Movg2s, Movs2g}
use Rattle.decode.specs.declared.Multiply.TheVariants.{Mult, Multu, Madd, Maddu, Mul, Msub, Msubu}
use Rattle.decode.specs.declared.Alu.TheVariants.{Add, Addu, Sub, Subu, And, Or, Xor, Nor, Slt, Sltu}
use Rattle.decode.specs.declared.Instruction.{Instruction}
use Rattle.decode.specs.declared.System.TheVariants.{Sysc, Cas, Mfence, Flush, Invlpg, Eret}
use Rattle.decode.specs.declared.Instruction.TheVariants.{Illegal}

-- a column of the table: blank, or a code
pub data Column : Type 0 where
  blank : Column
  is : ℕ → Column

abbrev pub meets : Column → ℕ → Bool
meets blank x = true
meets (is k) x = eqb x k

pub record Row : Type 0 where
  pub opcode : Column
  pub fun : Column
  pub rs : Column
  pub rt : Column
  pub name : Instruction

abbrev row : Column → Column → Column → Column → Instruction → Row
row o f s t n = record { opcode = o; fun = f; rs = s; rt = t; name = n }

-- I-type: data transfer, arithmetic and logic, branches
abbrev pub table1 : List Row
table1 =
    --  opcode fun rs rt
    row (is 0b100000) blank blank blank (Instruction.Load Lb) ∷
    row (is 0b100001) blank blank blank (Instruction.Load Lh) ∷
    row (is 0b100011) blank blank blank (Instruction.Load Lw) ∷
    row (is 0b100100) blank blank blank (Instruction.Load Lbu) ∷
    row (is 0b100101) blank blank blank (Instruction.Load Lhu) ∷
    row (is 0b101000) blank blank blank (Instruction.Store Sb) ∷
    row (is 0b101001) blank blank blank (Instruction.Store Sh) ∷
    row (is 0b101011) blank blank blank (Instruction.Store Sw) ∷
    row (is 0b001000) blank blank blank (Instruction.Immediate Addi) ∷
    row (is 0b001001) blank blank blank (Instruction.Immediate Addiu) ∷
    row (is 0b001010) blank blank blank (Instruction.Immediate Slti) ∷
    row (is 0b001011) blank blank blank (Instruction.Immediate Sltiu) ∷
    row (is 0b001100) blank blank blank (Instruction.Immediate Andi) ∷
    row (is 0b001101) blank blank blank (Instruction.Immediate Ori) ∷
    row (is 0b001110) blank blank blank (Instruction.Immediate Xori) ∷
    row (is 0b001111) blank blank blank (Instruction.Immediate Lui) ∷
    row (is 0b000001) blank blank (is 0b00000) (Instruction.Branch Bltz) ∷
    row (is 0b000001) blank blank (is 0b00001) (Instruction.Branch Bgez) ∷
    row (is 0b000100) blank blank blank (Instruction.Branch Beq) ∷
    row (is 0b000101) blank blank blank (Instruction.Branch Bne) ∷
    row (is 0b000110) blank blank (is 0b00000) (Instruction.Branch Blez) ∷
    row (is 0b000111) blank blank (is 0b00000) (Instruction.Branch Bgtz) ∷
    []

-- J-type: jumps
abbrev pub table2 : List Row
table2 =
    --  opcode fun rs rt
    row (is 0b000010) blank blank blank (Instruction.Jump J) ∷
    row (is 0b000011) blank blank blank (Instruction.Jump Jal) ∷
    []

-- R-type: shifts, multiplication unit, arithmetic and logic, test and set, jumps, system call, synchronizing, TLB
abbrev pub table3 : List Row
table3 =
    --  opcode fun rs rt
    row (is 0b000000) (is 0b000000) blank blank (Instruction.Shift Sll) ∷
    row (is 0b000000) (is 0b000010) blank blank (Instruction.Shift Srl) ∷
    row (is 0b000000) (is 0b000011) blank blank (Instruction.Shift Sra) ∷
    row (is 0b000000) (is 0b000100) blank blank (Instruction.Shift Sllv) ∷
    row (is 0b000000) (is 0b000110) blank blank (Instruction.Shift Srlv) ∷
    row (is 0b000000) (is 0b000111) blank blank (Instruction.Shift Srav) ∷
    row (is 0b000000) (is 0b010000) blank blank (Instruction.Move Mfhi) ∷
    row (is 0b000000) (is 0b010001) blank blank (Instruction.Move Mthi) ∷
    row (is 0b000000) (is 0b010010) blank blank (Instruction.Move Mflo) ∷
    row (is 0b000000) (is 0b010011) blank blank (Instruction.Move Mtlo) ∷
    row (is 0b000000) (is 0b011000) blank blank (Instruction.Multiply Mult) ∷
    row (is 0b000000) (is 0b011001) blank blank (Instruction.Multiply Multu) ∷
    row (is 0b000000) (is 0b100000) blank blank (Instruction.Alu Add) ∷
    row (is 0b000000) (is 0b100001) blank blank (Instruction.Alu Addu) ∷
    row (is 0b000000) (is 0b100010) blank blank (Instruction.Alu Sub) ∷
    row (is 0b000000) (is 0b100011) blank blank (Instruction.Alu Subu) ∷
    row (is 0b000000) (is 0b100100) blank blank (Instruction.Alu And) ∷
    row (is 0b000000) (is 0b100101) blank blank (Instruction.Alu Or) ∷
    row (is 0b000000) (is 0b100110) blank blank (Instruction.Alu Xor) ∷
    row (is 0b000000) (is 0b100111) blank blank (Instruction.Alu Nor) ∷
    row (is 0b000000) (is 0b101010) blank blank (Instruction.Alu Slt) ∷
    row (is 0b000000) (is 0b101011) blank blank (Instruction.Alu Sltu) ∷
    row (is 0b000000) (is 0b001000) blank blank (Instruction.Jump Jr) ∷
    row (is 0b000000) (is 0b001001) blank blank (Instruction.Jump Jalr) ∷
    row (is 0b000000) (is 0b001100) blank blank (Instruction.System Sysc) ∷
    row (is 0b000000) (is 0b111111) blank blank (Instruction.System Cas) ∷
    row (is 0b000000) (is 0b111110) blank blank (Instruction.System Mfence) ∷
    row (is 0b000000) (is 0b111101) blank blank (Instruction.System Flush) ∷
    row (is 0b000000) (is 0b111100) blank blank (Instruction.System Invlpg) ∷
    []

-- R-type, continued: multiplication, coprocessor
abbrev pub table4 : List Row
table4 =
    --  opcode fun rs rt
    row (is 0b011100) (is 0b000000) blank blank (Instruction.Multiply Madd) ∷
    row (is 0b011100) (is 0b000001) blank blank (Instruction.Multiply Maddu) ∷
    row (is 0b011100) (is 0b000010) blank blank (Instruction.Multiply Mul) ∷
    row (is 0b011100) (is 0b000100) blank blank (Instruction.Multiply Msub) ∷
    row (is 0b011100) (is 0b000101) blank blank (Instruction.Multiply Msubu) ∷
    row (is 0b010000) (is 0b011000) (is 0b10000) blank (Instruction.System Eret) ∷
    row (is 0b010000) blank (is 0b00100) blank (Instruction.Move Movg2s) ∷
    row (is 0b010000) blank (is 0b00000) blank (Instruction.Move Movs2g) ∷
    []

abbrev pub table : List Row
table = table1 ++ (table2 ++ (table3 ++ table4))

-- the codes of a word meet a row
abbrev pub met : Row → ℕ → ℕ → ℕ → ℕ → Bool
met r o f s t = meets r.opcode o && (meets r.rs s && (meets r.rt t && meets r.fun f))

-- the name of the first row that the four codes meet; no two rows meet the same codes (`one_row` of proofs/Apart)
abbrev pub look : List Row → ℕ → ℕ → ℕ → ℕ → Instruction
look [] o f s t = Illegal
look (r ∷ l) o f s t = if met r o f s t then r.name else look l o f s t

unfoldable pub row_of : ℕ → ℕ → ℕ → ℕ → Instruction
row_of o f s t = look table o f s t

-- definitions 24 and 25: the instruction of a word
unfoldable pub decoded : ℕ → Instruction
decoded w = row_of (opc w) (fun w) (rs w) (rt w)
