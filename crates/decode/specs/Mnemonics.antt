-- The instructions by their mnemonics: predicates on an instruction are lists of names, as the report prints them.
-- Assumes nothing.
use Rattle.std.specs.Prelude.{Bool, false, ◌||◌, List, [], ◌∷◌, ◌++◌, map, ℕ, eqb}
use Rattle.decode.specs.declared.Instruction.{Instruction}
use Rattle.decode.specs.declared.Instruction.TheVariants.{Illegal}
use Rattle.decode.specs.declared.Load.{Load}
use Rattle.decode.specs.declared.Load.TheVariants.{Lb, Lh, Lw, Lbu, Lhu}
use Rattle.decode.specs.declared.StoreWidth.{StoreWidth}
use Rattle.decode.specs.declared.StoreWidth.TheVariants.{Sb, Sh, Sw}
use Rattle.decode.specs.declared.Immediate.{Immediate}
use Rattle.decode.specs.declared.Immediate.TheVariants.{Addi, Addiu, Slti, Sltiu, Andi, Ori, Xori, Lui}
use Rattle.decode.specs.declared.Branch.{Branch}
use Rattle.decode.specs.declared.Branch.TheVariants.{Bltz, Bgez, Beq, Bne, Blez, Bgtz}
use Rattle.decode.specs.declared.Jump.{Jump}
use Rattle.decode.specs.declared.Jump.TheVariants.{J, Jal, Jr, Jalr}
use Rattle.decode.specs.declared.Shift.{Shift}
use Rattle.decode.specs.declared.Shift.TheVariants.{Sll, Srl, Sra, Sllv, Srlv, Srav}
use Rattle.decode.specs.declared.Multiply.{Multiply}
use Rattle.decode.specs.declared.Multiply.TheVariants.{Mult, Multu, Madd, Maddu, Mul, Msub, Msubu}
use Rattle.decode.specs.declared.Move.{Move}
use Rattle.decode.specs.declared.Move.TheVariants.{Mfhi, Mthi, Mflo, Mtlo, Movg2s, Movs2g}
use Rattle.decode.specs.declared.Alu.{Alu}
use Rattle.decode.specs.declared.Alu.TheVariants.{Add, Addu, Sub, Subu, And, Or, Xor, Nor, Slt, Sltu}
use Rattle.decode.specs.declared.System.{System}
use Rattle.decode.specs.declared.System.TheVariants.{Sysc, Cas, Mfence, Flush, Invlpg, Eret}
use Rattle.decode.specs.Table.{Row, table1, table2, table3, table4}

-- ---- the place of an instruction in tables 1 to 4, counted from 0 (numbered, in proofs/Numbers, says that it is)

abbrev load_number : Load → ℕ
load_number Lb = 0
load_number Lh = 1
load_number Lw = 2
load_number Lbu = 3
load_number Lhu = 4

abbrev store_number : StoreWidth → ℕ
store_number Sb = 5
store_number Sh = 6
store_number Sw = 7

abbrev immediate_number : Immediate → ℕ
immediate_number Addi = 8
immediate_number Addiu = 9
immediate_number Slti = 10
immediate_number Sltiu = 11
immediate_number Andi = 12
immediate_number Ori = 13
immediate_number Xori = 14
immediate_number Lui = 15

abbrev branch_number : Branch → ℕ
branch_number Bltz = 16
branch_number Bgez = 17
branch_number Beq = 18
branch_number Bne = 19
branch_number Blez = 20
branch_number Bgtz = 21

abbrev jump_number : Jump → ℕ
jump_number J = 22
jump_number Jal = 23
jump_number Jr = 46
jump_number Jalr = 47

abbrev shift_number : Shift → ℕ
shift_number Sll = 24
shift_number Srl = 25
shift_number Sra = 26
shift_number Sllv = 27
shift_number Srlv = 28
shift_number Srav = 29

abbrev multiply_number : Multiply → ℕ
multiply_number Mult = 34
multiply_number Multu = 35
multiply_number Madd = 53
multiply_number Maddu = 54
multiply_number Mul = 55
multiply_number Msub = 56
multiply_number Msubu = 57

abbrev move_number : Move → ℕ
move_number Mfhi = 30
move_number Mthi = 31
move_number Mflo = 32
move_number Mtlo = 33
move_number Movg2s = 59
move_number Movs2g = 60

abbrev alu_number : Alu → ℕ
alu_number Add = 36
alu_number Addu = 37
alu_number Sub = 38
alu_number Subu = 39
alu_number And = 40
alu_number Or = 41
alu_number Xor = 42
alu_number Nor = 43
alu_number Slt = 44
alu_number Sltu = 45

abbrev system_number : System → ℕ
system_number Sysc = 48
system_number Cas = 49
system_number Mfence = 50
system_number Flush = 51
system_number Invlpg = 52
system_number Eret = 58

abbrev pub number : Instruction → ℕ
number (Instruction.Load l) = load_number l
number (Instruction.Store s) = store_number s
number (Instruction.Immediate i) = immediate_number i
number (Instruction.Branch b) = branch_number b
number (Instruction.Jump j) = jump_number j
number (Instruction.Shift s) = shift_number s
number (Instruction.Multiply m) = multiply_number m
number (Instruction.Move m) = move_number m
number (Instruction.Alu a) = alu_number a
number (Instruction.System s) = system_number s
number Illegal = 61

-- an instruction is one of those listed
abbrev pub one_of : Instruction → List Instruction → Bool
one_of i [] = false
one_of i (j ∷ l) = eqb (number i) (number j) || one_of i l

-- ---- types (definition 23): table 1 is of I-type, table 2 of J-type, tables 3 and 4 are of R-type

abbrev names : List Row → List Instruction
names rows = map (λ (r : Row). r.name) rows

unfoldable pub itype : Instruction → Bool
itype i = one_of i (names table1)

unfoldable pub jtype : Instruction → Bool
jtype i = one_of i (names table2)

unfoldable pub rtype : Instruction → Bool
rtype i = one_of i (names (table3 ++ table4))

-- ---- single instructions, where definitions print two or three of them

abbrev pub lb : Instruction → Bool
lb i = one_of i (Instruction.Load Lb ∷ [])

abbrev pub lh : Instruction → Bool
lh i = one_of i (Instruction.Load Lh ∷ [])

abbrev pub lw : Instruction → Bool
lw i = one_of i (Instruction.Load Lw ∷ [])

abbrev pub lbu : Instruction → Bool
lbu i = one_of i (Instruction.Load Lbu ∷ [])

abbrev pub lhu : Instruction → Bool
lhu i = one_of i (Instruction.Load Lhu ∷ [])

abbrev pub sb : Instruction → Bool
sb i = one_of i (Instruction.Store Sb ∷ [])

abbrev pub sh : Instruction → Bool
sh i = one_of i (Instruction.Store Sh ∷ [])

abbrev pub sw : Instruction → Bool
sw i = one_of i (Instruction.Store Sw ∷ [])

abbrev pub jr : Instruction → Bool
jr i = one_of i (Instruction.Jump Jr ∷ [])

-- ---- classes of instructions

-- definition 25
unfoldable pub ill : Instruction → Bool
ill i = one_of i (Illegal ∷ [])

-- definition 26, of the rows that match
unfoldable pub compi : Instruction → Bool
compi i = one_of i (Instruction.Immediate Addi ∷ Instruction.Immediate Addiu ∷ Instruction.Immediate Slti ∷ Instruction.Immediate Sltiu ∷ Instruction.Immediate Andi ∷ Instruction.Immediate Ori ∷ Instruction.Immediate Xori ∷ Instruction.Immediate Lui ∷ [])

unfoldable pub compr : Instruction → Bool
compr i = one_of i (Instruction.Alu Add ∷ Instruction.Alu Addu ∷ Instruction.Alu Sub ∷ Instruction.Alu Subu ∷ Instruction.Alu And ∷ Instruction.Alu Or ∷ Instruction.Alu Xor ∷ Instruction.Alu Nor ∷ Instruction.Alu Slt ∷ Instruction.Alu Sltu ∷ [])

unfoldable pub alu : Instruction → Bool
alu i = compi i || compr i

-- definition 32
unfoldable pub mulacc : Instruction → Bool
mulacc i = one_of i (Instruction.Multiply Mult ∷ Instruction.Multiply Multu ∷ Instruction.Multiply Madd ∷ Instruction.Multiply Maddu ∷ Instruction.Multiply Msub ∷ Instruction.Multiply Msubu ∷ [])

-- definition 33
unfoldable pub b : Instruction → Bool
b i = one_of i (Instruction.Branch Bltz ∷ Instruction.Branch Bgez ∷ Instruction.Branch Beq ∷ Instruction.Branch Bne ∷ Instruction.Branch Blez ∷ Instruction.Branch Bgtz ∷ [])

unfoldable pub jump : Instruction → Bool
jump i = one_of i (Instruction.Jump J ∷ Instruction.Jump Jal ∷ Instruction.Jump Jr ∷ Instruction.Jump Jalr ∷ [])

-- definition 37
unfoldable pub su : Instruction → Bool
su i = one_of i (Instruction.Shift Sll ∷ Instruction.Shift Srl ∷ Instruction.Shift Sra ∷ Instruction.Shift Sllv ∷ Instruction.Shift Srlv ∷ Instruction.Shift Srav ∷ [])

-- definition 42
unfoldable pub load : Instruction → Bool
load i = lw i || lhu i || lh i || lbu i || lb i

unfoldable pub store : Instruction → Bool
store i = sw i || sh i || sb i

-- ---- other single instructions that definitions name

unfoldable pub cas : Instruction → Bool
cas i = one_of i (Instruction.System Cas ∷ [])

unfoldable pub mfence : Instruction → Bool
mfence i = one_of i (Instruction.System Mfence ∷ [])

unfoldable pub flush : Instruction → Bool
flush i = one_of i (Instruction.System Flush ∷ [])

unfoldable pub invlpg : Instruction → Bool
invlpg i = one_of i (Instruction.System Invlpg ∷ [])

unfoldable pub eret : Instruction → Bool
eret i = one_of i (Instruction.System Eret ∷ [])

unfoldable pub sysc : Instruction → Bool
sysc i = one_of i (Instruction.System Sysc ∷ [])

unfoldable pub jal : Instruction → Bool
jal i = one_of i (Instruction.Jump Jal ∷ [])

unfoldable pub jalr : Instruction → Bool
jalr i = one_of i (Instruction.Jump Jalr ∷ [])

unfoldable pub movg2s : Instruction → Bool
movg2s i = one_of i (Instruction.Move Movg2s ∷ [])

unfoldable pub movs2g : Instruction → Bool
movs2g i = one_of i (Instruction.Move Movs2g ∷ [])

unfoldable pub mfhi : Instruction → Bool
mfhi i = one_of i (Instruction.Move Mfhi ∷ [])

unfoldable pub mflo : Instruction → Bool
mflo i = one_of i (Instruction.Move Mflo ∷ [])

unfoldable pub mthi : Instruction → Bool
mthi i = one_of i (Instruction.Move Mthi ∷ [])

unfoldable pub mtlo : Instruction → Bool
mtlo i = one_of i (Instruction.Move Mtlo ∷ [])

unfoldable pub mul : Instruction → Bool
mul i = one_of i (Instruction.Multiply Mul ∷ [])
