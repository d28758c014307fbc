-- Overflow by the instruction's number.
-- Assumes nothing.
use Rattle.std.specs.Prelude.{if◌then◌else◌}
use mathlib.Core.Path.{◌≡◌, refl}
use mathlib.Core.Bool.{Bool, true, false, not, ◌||◌}
use Prim.Native.Nat.{ℕ}
use lib.Dec.{eqb}
use lib.IntN.{◌+ℤ◌, ◌-ℤ◌}
use Rattle.word.specs.Word.{signed, within}
use Rattle.word.proofs.Tests.{or_false}
use Rattle.decode.specs.declared.Instruction.{Instruction}
use Rattle.decode.specs.Mnemonics.{number}
use Rattle.decode.specs.declared.Alu.TheVariants.{Add, Sub}
use Rattle.decode.specs.declared.Immediate.TheVariants.{Addi}
use Rattle.decode.specs.contracts.InstructionPartialEq.TheImpl.{ghosts}
use Rattle.decode.proofs.Ranges.{agree}
use Rattle.units.specs.Overflow.{overflow}

pub overflow_number : (i : Instruction) (a b : ℕ) → overflow i a b
    ≡ (if eqb (number i) 36 || eqb (number i) 8 then not (within 32 (signed 32 a +ℤ signed 32 b))
    else if eqb (number i) 38 then not (within 32 (signed 32 a -ℤ signed 32 b))
    else false)
unfolding overflow
overflow_number i a b = rw (or_false (eqb (number i) 8), or_false (eqb (number i) 38))

-- the three instructions as the code tests them
add_same : (i : Instruction) → ghosts.eq i (Instruction.Alu Add) ≡ eqb (number i) 36
add_same = agree (λ (i : Instruction). ghosts.eq i (Instruction.Alu Add)) (λ (i : Instruction). eqb (number i) 36) tt

addi_same : (i : Instruction) → ghosts.eq i (Instruction.Immediate Addi) ≡ eqb (number i) 8
addi_same = agree (λ (i : Instruction). ghosts.eq i (Instruction.Immediate Addi)) (λ (i : Instruction). eqb (number i) 8) tt

sub_same : (i : Instruction) → ghosts.eq i (Instruction.Alu Sub) ≡ eqb (number i) 38
sub_same = agree (λ (i : Instruction). ghosts.eq i (Instruction.Alu Sub)) (λ (i : Instruction). eqb (number i) 38) tt

-- the three ways of the code
module _ (i : Instruction) (a b : ℕ) {x y : Bool} (e : x ≡ ghosts.eq i (Instruction.Alu Add)) (f : y ≡ ghosts.eq i (Instruction.Immediate Addi)) where
  sums : eqb (number i) 36 || eqb (number i) 8 ≡ x || y
  sums = rw (e, f, add_same i, addi_same i) refl

  pub by_sum : x || y ≡ true → not (within 32 (signed 32 a +ℤ signed 32 b)) ≡ overflow i a b
  by_sum p = rw (overflow_number i a b, sums, p) refl

  module _ {z : Bool} (g : z ≡ ghosts.eq i (Instruction.Alu Sub)) where
    pub by_difference : x || y ≡ false → z ≡ true → not (within 32 (signed 32 a -ℤ signed 32 b)) ≡ overflow i a b
    by_difference p q = rw (overflow_number i a b, sums, p, ← sub_same i, ← g, q) refl

    pub by_none : x || y ≡ false → z ≡ false → false ≡ overflow i a b
    by_none p q = rw (overflow_number i a b, sums, p, ← sub_same i, ← g, q) refl
