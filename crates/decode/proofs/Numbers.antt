-- An instruction's number is its place in the tables, so a test that holds of every row holds of every instruction.
-- Assumes nothing.
use mathlib.Core.Path.{◌≡◌, refl, subst}
use mathlib.Core.Bool.{Bool, ◌&&◌}
use mathlib.Core.List.{List, [], ◌∷◌}
use Prim.Native.Nat.{ℕ, zero, suc}
use lib.Dec.{T}
use Rattle.word.proofs.Tests.{and_left, and_right}
use Rattle.decode.specs.declared.Instruction.{Instruction}
use Rattle.decode.specs.declared.Instruction.TheVariants.{Illegal}
use Rattle.decode.specs.declared.Load.{Load}
use Rattle.decode.specs.declared.Load.TheVariants.{Lb, Lh, Lw, Lbu, Lhu}
use Rattle.decode.specs.declared.StoreWidth.{StoreWidth}
use Rattle.decode.specs.declared.StoreWidth.TheVariants.{Sb, Sh, Sw}
use Rattle.decode.specs.declared.Immediate.{Immediate}
use Rattle.decode.specs.declared.Immediate.TheVariants.{Addi, Addiu, Slti, Sltiu, Andi, Ori, Xori, Lui}
use Rattle.decode.specs.declared.Branch.{Branch}
use Rattle.decode.specs.declared.Branch.TheVariants.{Bltz, Bgez, Beq, Bne, Blez, Bgtz}
use Rattle.decode.specs.declared.Jump.{Jump}
use Rattle.decode.specs.declared.Jump.TheVariants.{J, Jal, Jr, Jalr}
use Rattle.decode.specs.declared.Shift.{Shift}
use Rattle.decode.specs.declared.Shift.TheVariants.{Sll, Srl, Sra, Sllv, Srlv, Srav}
use Rattle.decode.specs.declared.Multiply.{Multiply}
use Rattle.decode.specs.declared.Multiply.TheVariants.{Mult, Multu, Madd, Maddu, Mul, Msub, Msubu}
use Rattle.decode.specs.declared.Move.{Move}
use Rattle.decode.specs.declared.Move.TheVariants.{Mfhi, Mthi, Mflo, Mtlo, Movg2s, Movs2g}
use Rattle.decode.specs.declared.Alu.{Alu}
use Rattle.decode.specs.declared.Alu.TheVariants.{Add, Addu, Sub, Subu, And, Or, Xor, Nor, Slt, Sltu}
use Rattle.decode.specs.declared.System.{System}
use Rattle.decode.specs.declared.System.TheVariants.{Sysc, Cas, Mfence, Flush, Invlpg, Eret}
use Rattle.decode.specs.Table.{Row, table}
use Rattle.decode.specs.Mnemonics.{number}

-- the instruction of a row; past the last row none
abbrev pub name_at : List Row → ℕ → Instruction
name_at [] n = Illegal
name_at (r ∷ l) zero = r.name
name_at (r ∷ l) (suc n) = name_at l n

load_numbered : (x : Load) → name_at table (number (Instruction.Load x)) ≡ Instruction.Load x
load_numbered Lb = refl
load_numbered Lh = refl
load_numbered Lw = refl
load_numbered Lbu = refl
load_numbered Lhu = refl

store_numbered : (x : StoreWidth) → name_at table (number (Instruction.Store x)) ≡ Instruction.Store x
store_numbered Sb = refl
store_numbered Sh = refl
store_numbered Sw = refl

immediate_numbered : (x : Immediate) → name_at table (number (Instruction.Immediate x)) ≡ Instruction.Immediate x
immediate_numbered Addi = refl
immediate_numbered Addiu = refl
immediate_numbered Slti = refl
immediate_numbered Sltiu = refl
immediate_numbered Andi = refl
immediate_numbered Ori = refl
immediate_numbered Xori = refl
immediate_numbered Lui = refl

branch_numbered : (x : Branch) → name_at table (number (Instruction.Branch x)) ≡ Instruction.Branch x
branch_numbered Bltz = refl
branch_numbered Bgez = refl
branch_numbered Beq = refl
branch_numbered Bne = refl
branch_numbered Blez = refl
branch_numbered Bgtz = refl

jump_numbered : (x : Jump) → name_at table (number (Instruction.Jump x)) ≡ Instruction.Jump x
jump_numbered J = refl
jump_numbered Jal = refl
jump_numbered Jr = refl
jump_numbered Jalr = refl

shift_numbered : (x : Shift) → name_at table (number (Instruction.Shift x)) ≡ Instruction.Shift x
shift_numbered Sll = refl
shift_numbered Srl = refl
shift_numbered Sra = refl
shift_numbered Sllv = refl
shift_numbered Srlv = refl
shift_numbered Srav = refl

multiply_numbered : (x : Multiply) → name_at table (number (Instruction.Multiply x)) ≡ Instruction.Multiply x
multiply_numbered Mult = refl
multiply_numbered Multu = refl
multiply_numbered Madd = refl
multiply_numbered Maddu = refl
multiply_numbered Mul = refl
multiply_numbered Msub = refl
multiply_numbered Msubu = refl

move_numbered : (x : Move) → name_at table (number (Instruction.Move x)) ≡ Instruction.Move x
move_numbered Mfhi = refl
move_numbered Mthi = refl
move_numbered Mflo = refl
move_numbered Mtlo = refl
move_numbered Movg2s = refl
move_numbered Movs2g = refl

alu_numbered : (x : Alu) → name_at table (number (Instruction.Alu x)) ≡ Instruction.Alu x
alu_numbered Add = refl
alu_numbered Addu = refl
alu_numbered Sub = refl
alu_numbered Subu = refl
alu_numbered And = refl
alu_numbered Or = refl
alu_numbered Xor = refl
alu_numbered Nor = refl
alu_numbered Slt = refl
alu_numbered Sltu = refl

system_numbered : (x : System) → name_at table (number (Instruction.System x)) ≡ Instruction.System x
system_numbered Sysc = refl
system_numbered Cas = refl
system_numbered Mfence = refl
system_numbered Flush = refl
system_numbered Invlpg = refl
system_numbered Eret = refl

pub numbered : (i : Instruction) → name_at table (number i) ≡ i
numbered (Instruction.Load x) = load_numbered x
numbered (Instruction.Store x) = store_numbered x
numbered (Instruction.Immediate x) = immediate_numbered x
numbered (Instruction.Branch x) = branch_numbered x
numbered (Instruction.Jump x) = jump_numbered x
numbered (Instruction.Shift x) = shift_numbered x
numbered (Instruction.Multiply x) = multiply_numbered x
numbered (Instruction.Move x) = move_numbered x
numbered (Instruction.Alu x) = alu_numbered x
numbered (Instruction.System x) = system_numbered x
numbered Illegal = refl

-- a test of every row and of an illegal word
abbrev pub everywhere : (Instruction → Bool) → List Row → Bool
everywhere p [] = p Illegal
everywhere p (r ∷ l) = p r.name && everywhere p l

every_at : (p : Instruction → Bool) (l : List Row) (n : ℕ) → T (everywhere p l) → T (p (name_at l n))
every_at p [] n t = t
every_at p (r ∷ l) zero t = and_left (p r.name) (everywhere p l) t
every_at p (r ∷ l) (suc n) t = every_at p l n (and_right (p r.name) (everywhere p l) t)

pub every : (p : Instruction → Bool) → T (everywhere p table) → (i : Instruction) → T (p i)
every p t i = subst (λ (j : Instruction). T (p j)) (numbered i) (every_at p table (number i) t)
