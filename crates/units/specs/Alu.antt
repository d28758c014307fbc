-- The ALU (6.1.2): the results of its table as printed, and the control bits of definition 28. Its overflow column
-- stands where δ does (report), since the machine goes by Overflow.
-- Assumes nothing.
use Rattle.std.specs.Prelude.{if◌then◌else◌, Bool, not, ◌&&◌, ◌||◌, List, [], ◌∷◌, ℕ, ◌+◌, ◌-◌, ◌*◌, ◌%◌, ◌^◌, ltb}
use Rattle.std.specs.Int.Signed.{lt_z}
use Rattle.std.specs.Int.Bits.{bit_and, bit_or, bit_xor}
use Rattle.word.specs.Word.{field, is_set, signed, plus, minus}
use Rattle.units.specs.Control.{Line, line, choose}

-- the result column at the operands a and b; i says that the instruction is of I-type
abbrev pub results : ℕ → ℕ → Bool → List (Line ℕ)
results a b i =
    line 0b0000 (plus 32 a b) ∷
    line 0b0001 (plus 32 a b) ∷
    line 0b0010 (minus 32 a b) ∷
    line 0b0011 (minus 32 a b) ∷
    line 0b0100 (bit_and a b) ∷
    line 0b0101 (bit_or a b) ∷
    line 0b0110 (bit_xor a b) ∷
    line 0b0111 (if i then b % 2 ^ 16 * 2 ^ 16 else 2 ^ 32 - 1 - bit_or a b) ∷
    line 0b1010 (if lt_z (signed 32 a) (signed 32 b) then 1 else 0) ∷
    line 0b1011 (if ltb a b then 1 else 0) ∷
    []

unfoldable pub alures : ℕ → ℕ → ℕ → Bool → ℕ
alures a b alucon i = choose 0 (results a b i) alucon

-- definition 28; r says that the instruction is of R-type
abbrev pub con_low : Bool → ℕ → ℕ
con_low r w = if r then w % 2 ^ 3 else field 28 26 w

abbrev pub con_high : Bool → ℕ → Bool
con_high r w = (r && is_set w 3) || (not (is_set w 28) && is_set w 27)

unfoldable pub alucon : Bool → ℕ → ℕ
alucon r w = (if con_high r w then 2 ^ 3 else 0) + con_low r w
