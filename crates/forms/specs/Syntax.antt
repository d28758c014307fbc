-- The column 'assembler syntax' of tables 1 to 4: the mnemonic and the operands of each row.
-- Assumes nothing.
use Rattle.std.specs.Prelude.{if◌then◌else◌, List, [], ◌∷◌, eqb}
use Prim.Native.String.{String}
use Rattle.decode.specs.declared.Load.TheVariants.{Lb, Lh, Lw, Lbu, Lhu}
use Rattle.decode.specs.declared.StoreWidth.TheVariants.{Sb, Sh, Sw}
use Rattle.decode.specs.declared.Immediate.TheVariants.{Addi, Addiu, Slti, Sltiu, Andi, Ori, Xori, Lui}
use Rattle.decode.specs.declared.Branch.TheVariants.{Bltz, Bgez, Beq, Bne, Blez, Bgtz}
use Rattle.decode.specs.declared.Jump.TheVariants.{J, Jal, Jr, Jalr}
use Rattle.decode.specs.declared.Shift.TheVariants.{Sll, Srl, Sra, Sllv, Srlv, Srav}
use Rattle.decode.specs.declared.Move.TheVariants.{Mfhi, Mthi, Mflo, Mtlo, Movg2s, Movs2g}
use Rattle.decode.specs.declared.Multiply.TheVariants.{Mult, Multu, Madd, Maddu, Mul, Msub, Msubu}
use Rattle.decode.specs.declared.Alu.TheVariants.{Add, Addu, Sub, Subu, And, Or, Xor, Nor, Slt, Sltu}
use Rattle.decode.specs.declared.System.TheVariants.{Sysc, Cas, Mfence, Flush, Invlpg, Eret}
use Rattle.decode.specs.declared.Instruction.{Instruction}
use Rattle.decode.specs.declared.Instruction.TheVariants.{Illegal}
use Rattle.decode.specs.Mnemonics.{number}
use Rattle.forms.specs.declared.Operand.{Operand}
use Rattle.forms.specs.declared.Operand.TheVariants.{Rs, Rt, Rd, Sa, Imm, Uimm, Iindex}

-- ---- the column: Imm and Uimm are both its imm, shown signed and, for andi, ori, xori and lui, unsigned

pub record Syntax : Type 0 where
  pub name : Instruction
  pub mnemonic : String
  pub operands : List Operand

abbrev syntax : Instruction → String → List Operand → Syntax
syntax i s l = record { name = i; mnemonic = s; operands = l }

-- the rows of tables 1 to 4 in their order (`every_row` of proofs/Rows says so)
abbrev pub syntaxes : List Syntax
syntaxes =
    syntax (Instruction.Load Lb) "lb" (Rt ∷ Rs ∷ Imm ∷ []) ∷
    syntax (Instruction.Load Lh) "lh" (Rt ∷ Rs ∷ Imm ∷ []) ∷
    syntax (Instruction.Load Lw) "lw" (Rt ∷ Rs ∷ Imm ∷ []) ∷
    syntax (Instruction.Load Lbu) "lbu" (Rt ∷ Rs ∷ Imm ∷ []) ∷
    syntax (Instruction.Load Lhu) "lhu" (Rt ∷ Rs ∷ Imm ∷ []) ∷
    syntax (Instruction.Store Sb) "sb" (Rt ∷ Rs ∷ Imm ∷ []) ∷
    syntax (Instruction.Store Sh) "sh" (Rt ∷ Rs ∷ Imm ∷ []) ∷
    syntax (Instruction.Store Sw) "sw" (Rt ∷ Rs ∷ Imm ∷ []) ∷
    syntax (Instruction.Immediate Addi) "addi" (Rt ∷ Rs ∷ Imm ∷ []) ∷
    syntax (Instruction.Immediate Addiu) "addiu" (Rt ∷ Rs ∷ Imm ∷ []) ∷
    syntax (Instruction.Immediate Slti) "slti" (Rt ∷ Rs ∷ Imm ∷ []) ∷
    syntax (Instruction.Immediate Sltiu) "sltiu" (Rt ∷ Rs ∷ Imm ∷ []) ∷
    syntax (Instruction.Immediate Andi) "andi" (Rt ∷ Rs ∷ Uimm ∷ []) ∷
    syntax (Instruction.Immediate Ori) "ori" (Rt ∷ Rs ∷ Uimm ∷ []) ∷
    syntax (Instruction.Immediate Xori) "xori" (Rt ∷ Rs ∷ Uimm ∷ []) ∷
    syntax (Instruction.Immediate Lui) "lui" (Rt ∷ Uimm ∷ []) ∷
    syntax (Instruction.Branch Bltz) "bltz" (Rs ∷ Imm ∷ []) ∷
    syntax (Instruction.Branch Bgez) "bgez" (Rs ∷ Imm ∷ []) ∷
    syntax (Instruction.Branch Beq) "beq" (Rs ∷ Rt ∷ Imm ∷ []) ∷
    syntax (Instruction.Branch Bne) "bne" (Rs ∷ Rt ∷ Imm ∷ []) ∷
    syntax (Instruction.Branch Blez) "blez" (Rs ∷ Imm ∷ []) ∷
    syntax (Instruction.Branch Bgtz) "bgtz" (Rs ∷ Imm ∷ []) ∷
    syntax (Instruction.Jump J) "j" (Iindex ∷ []) ∷
    syntax (Instruction.Jump Jal) "jal" (Iindex ∷ []) ∷
    syntax (Instruction.Shift Sll) "sll" (Rd ∷ Rt ∷ Sa ∷ []) ∷
    syntax (Instruction.Shift Srl) "srl" (Rd ∷ Rt ∷ Sa ∷ []) ∷
    syntax (Instruction.Shift Sra) "sra" (Rd ∷ Rt ∷ Sa ∷ []) ∷
    syntax (Instruction.Shift Sllv) "sllv" (Rd ∷ Rt ∷ Rs ∷ []) ∷
    syntax (Instruction.Shift Srlv) "srlv" (Rd ∷ Rt ∷ Rs ∷ []) ∷
    syntax (Instruction.Shift Srav) "srav" (Rd ∷ Rt ∷ Rs ∷ []) ∷
    syntax (Instruction.Move Mfhi) "mfhi" (Rd ∷ []) ∷
    syntax (Instruction.Move Mthi) "mthi" (Rs ∷ []) ∷
    syntax (Instruction.Move Mflo) "mflo" (Rd ∷ []) ∷
    syntax (Instruction.Move Mtlo) "mtlo" (Rs ∷ []) ∷
    syntax (Instruction.Multiply Mult) "mult" (Rs ∷ Rt ∷ []) ∷
    syntax (Instruction.Multiply Multu) "multu" (Rs ∷ Rt ∷ []) ∷
    syntax (Instruction.Alu Add) "add" (Rd ∷ Rs ∷ Rt ∷ []) ∷
    syntax (Instruction.Alu Addu) "addu" (Rd ∷ Rs ∷ Rt ∷ []) ∷
    syntax (Instruction.Alu Sub) "sub" (Rd ∷ Rs ∷ Rt ∷ []) ∷
    syntax (Instruction.Alu Subu) "subu" (Rd ∷ Rs ∷ Rt ∷ []) ∷
    syntax (Instruction.Alu And) "and" (Rd ∷ Rs ∷ Rt ∷ []) ∷
    syntax (Instruction.Alu Or) "or" (Rd ∷ Rs ∷ Rt ∷ []) ∷
    syntax (Instruction.Alu Xor) "xor" (Rd ∷ Rs ∷ Rt ∷ []) ∷
    syntax (Instruction.Alu Nor) "nor" (Rd ∷ Rs ∷ Rt ∷ []) ∷
    syntax (Instruction.Alu Slt) "slt" (Rd ∷ Rs ∷ Rt ∷ []) ∷
    syntax (Instruction.Alu Sltu) "sltu" (Rd ∷ Rs ∷ Rt ∷ []) ∷
    syntax (Instruction.Jump Jr) "jr" (Rs ∷ []) ∷
    syntax (Instruction.Jump Jalr) "jalr" (Rd ∷ Rs ∷ []) ∷
    syntax (Instruction.System Sysc) "sysc" [] ∷
    syntax (Instruction.System Cas) "cas" (Rd ∷ Rs ∷ Rt ∷ []) ∷
    syntax (Instruction.System Mfence) "mfence" [] ∷
    syntax (Instruction.System Flush) "flush" [] ∷
    syntax (Instruction.System Invlpg) "invlpg" (Rd ∷ Rs ∷ []) ∷
    syntax (Instruction.Multiply Madd) "madd" (Rs ∷ Rt ∷ []) ∷
    syntax (Instruction.Multiply Maddu) "maddu" (Rs ∷ Rt ∷ []) ∷
    syntax (Instruction.Multiply Mul) "mul" (Rd ∷ Rs ∷ Rt ∷ []) ∷
    syntax (Instruction.Multiply Msub) "msub" (Rs ∷ Rt ∷ []) ∷
    syntax (Instruction.Multiply Msubu) "msubu" (Rs ∷ Rt ∷ []) ∷
    syntax (Instruction.System Eret) "eret" [] ∷
    syntax (Instruction.Move Movg2s) "movg2s" (Rd ∷ Rt ∷ []) ∷
    syntax (Instruction.Move Movs2g) "movs2g" (Rd ∷ Rt ∷ []) ∷
    []

-- an instruction's row; what no row has is illegal
abbrev syntax_in : List Syntax → Instruction → Syntax
syntax_in [] i = syntax Illegal "ill" []
syntax_in (s ∷ l) i = if eqb (number i) (number s.name) then s else syntax_in l i

unfoldable pub syntax_of : Instruction → Syntax
syntax_of i = syntax_in syntaxes i
