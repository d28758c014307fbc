-- Overflow in the trade's way, which the machine takes in place of the overflow column of 6.1.2: add, addi and sub
-- overflow; addu, addiu and subu never do, nor does any other instruction.
-- Assumes nothing.
use Rattle.std.specs.Prelude.{if◌then◌else◌, Bool, false, not, [], ◌∷◌, ℕ, ◌+ℤ◌, ◌-ℤ◌}
use Rattle.word.specs.Word.{signed, within}
use Rattle.decode.specs.declared.Immediate.TheVariants.{Addi}
use Rattle.decode.specs.declared.Alu.TheVariants.{Add, Sub}
use Rattle.decode.specs.declared.Instruction.{Instruction}
use Rattle.decode.specs.Mnemonics.{one_of}

-- of an instruction at its operands a and b
unfoldable pub overflow : Instruction → ℕ → ℕ → Bool
overflow i a b =
    if one_of i (Instruction.Alu Add ∷ Instruction.Immediate Addi ∷ []) then not (within 32 (signed 32 a +ℤ signed 32 b))
    else if one_of i (Instruction.Alu Sub ∷ []) then not (within 32 (signed 32 a -ℤ signed 32 b))
    else false
