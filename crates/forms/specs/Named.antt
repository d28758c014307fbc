-- Which rows of tables 1 to 4 name a field in their assembler syntax, field by field. It is read from the tables by
-- itself, apart from the operands of specs/Syntax: a row that leaves a field out, in its definition and in the code
-- alike, would break the law that holds the one against the other (`all_shown` of proofs/Named).
-- Assumes nothing.
use Rattle.std.specs.Prelude.{◌≡◌, Bool, true, ◌||◌, List, [], ◌∷◌, ◌++◌, ℕ}
use Rattle.decode.specs.declared.Load.TheVariants.{Lb, Lh, Lw, Lbu, Lhu}
use Rattle.decode.specs.declared.StoreWidth.TheVariants.{Sb, Sh, Sw}
use Rattle.decode.specs.declared.Immediate.TheVariants.{Addi, Addiu, Slti, Sltiu, Andi, Ori, Xori, Lui}
use Rattle.decode.specs.declared.Branch.TheVariants.{Bltz, Bgez, Beq, Bne, Blez, Bgtz}
use Rattle.decode.specs.declared.Jump.TheVariants.{J, Jal, Jr, Jalr}
use Rattle.decode.specs.declared.Shift.TheVariants.{Sll, Srl, Sra, Sllv, Srlv, Srav}
use Rattle.decode.specs.declared.Move.TheVariants.{Mfhi, Mthi, Mflo, Mtlo, Movg2s, Movs2g}
use Rattle.decode.specs.declared.Multiply.TheVariants.{Mult, Multu, Madd, Maddu, Mul, Msub, Msubu}
use Rattle.decode.specs.declared.Alu.TheVariants.{Add, Addu, Sub, Subu, And, Or, Xor, Nor, Slt, Sltu}
use Rattle.decode.specs.declared.System.TheVariants.{Cas, Invlpg}
use Rattle.decode.specs.declared.Instruction.{Instruction}
use Rattle.decode.specs.Fields.{rs, rt, rd, sa, imm, iindex}
use Rattle.decode.specs.Mnemonics.{one_of}

-- ---- parts of the tables, by their headings

-- table 1, data transfer; arithmetic, logical operation, test-and-set, all but lui; branch
abbrev transfers : List Instruction
transfers =
    Instruction.Load Lb ∷ Instruction.Load Lh ∷ Instruction.Load Lw ∷ Instruction.Load Lbu ∷ Instruction.Load Lhu ∷
    Instruction.Store Sb ∷ Instruction.Store Sh ∷ Instruction.Store Sw ∷ []

abbrev immediates : List Instruction
immediates =
    Instruction.Immediate Addi ∷ Instruction.Immediate Addiu ∷ Instruction.Immediate Slti ∷
    Instruction.Immediate Sltiu ∷ Instruction.Immediate Andi ∷ Instruction.Immediate Ori ∷
    Instruction.Immediate Xori ∷ []

abbrev branches : List Instruction
branches =
    Instruction.Branch Bltz ∷ Instruction.Branch Bgez ∷ Instruction.Branch Beq ∷ Instruction.Branch Bne ∷
    Instruction.Branch Blez ∷ Instruction.Branch Bgtz ∷ []

-- table 3, shift operation, by an amount and by a register; arithmetic, logical operation, with test set operation
abbrev by_amount : List Instruction
by_amount = Instruction.Shift Sll ∷ Instruction.Shift Srl ∷ Instruction.Shift Sra ∷ []

abbrev by_register : List Instruction
by_register = Instruction.Shift Sllv ∷ Instruction.Shift Srlv ∷ Instruction.Shift Srav ∷ []

abbrev arithmetic : List Instruction
arithmetic =
    Instruction.Alu Add ∷ Instruction.Alu Addu ∷ Instruction.Alu Sub ∷ Instruction.Alu Subu ∷ Instruction.Alu And ∷
    Instruction.Alu Or ∷ Instruction.Alu Xor ∷ Instruction.Alu Nor ∷ Instruction.Alu Slt ∷ Instruction.Alu Sltu ∷ []

-- table 3 and table 4, multiplication; mul alone of them has rd
abbrev multiplications : List Instruction
multiplications =
    Instruction.Multiply Mult ∷ Instruction.Multiply Multu ∷ Instruction.Multiply Madd ∷ Instruction.Multiply Maddu ∷
    Instruction.Multiply Mul ∷ Instruction.Multiply Msub ∷ Instruction.Multiply Msubu ∷ []

-- table 4, coprocessor instructions with operands
abbrev specials : List Instruction
specials = Instruction.Move Movg2s ∷ Instruction.Move Movs2g ∷ []

-- ---- the rows that name each field

unfoldable pub names_rs : Instruction → Bool
names_rs i =
    one_of i (transfers ++ immediates ++ branches) || one_of i (by_register ++ arithmetic ++ multiplications)
    || one_of i (Instruction.Move Mthi ∷ Instruction.Move Mtlo ∷ Instruction.Jump Jr ∷ Instruction.Jump Jalr ∷ [])
    || one_of i (Instruction.System Cas ∷ Instruction.System Invlpg ∷ [])

unfoldable pub names_rt : Instruction → Bool
names_rt i =
    one_of i (transfers ++ immediates) || one_of i (by_amount ++ by_register ++ arithmetic ++ multiplications ++ specials)
    || one_of i (Instruction.Immediate Lui ∷ Instruction.Branch Beq ∷ Instruction.Branch Bne ∷ [])
    || one_of i (Instruction.System Cas ∷ [])

unfoldable pub names_rd : Instruction → Bool
names_rd i =
    one_of i (by_amount ++ by_register ++ arithmetic ++ specials)
    || one_of i (Instruction.Move Mfhi ∷ Instruction.Move Mflo ∷ Instruction.Multiply Mul ∷ Instruction.Jump Jalr ∷ [])
    || one_of i (Instruction.System Cas ∷ Instruction.System Invlpg ∷ [])

unfoldable pub names_sa : Instruction → Bool
names_sa i = one_of i by_amount

unfoldable pub names_imm : Instruction → Bool
names_imm i = one_of i (transfers ++ immediates ++ branches) || one_of i (Instruction.Immediate Lui ∷ [])

unfoldable pub names_iindex : Instruction → Bool
names_iindex i = one_of i (Instruction.Jump J ∷ Instruction.Jump Jal ∷ [])

-- two words are equal in every field that the row of the instruction i names
pub record SameNamed (i : Instruction) (v w : ℕ) : Type 0 where
  pub same_rs : names_rs i ≡ true → rs v ≡ rs w
  pub same_rt : names_rt i ≡ true → rt v ≡ rt w
  pub same_rd : names_rd i ≡ true → rd v ≡ rd w
  pub same_sa : names_sa i ≡ true → sa v ≡ sa w
  pub same_imm : names_imm i ≡ true → imm v ≡ imm w
  pub same_iindex : names_iindex i ≡ true → iindex v ≡ iindex w
