-- The multiplication unit (6.1.3): its table as printed, and the control bits of definition 30.
-- Assumes nothing.
use Rattle.std.specs.Prelude.{List, [], ◌∷◌, ℕ, ◌+◌, ◌*◌, ◌%◌, ◌^◌, ◌*ℤ◌}
use Rattle.word.specs.Word.{bit, signed, twoc, plus, minus}
use Rattle.decode.specs.Fields.{opc, fun}
use Rattle.units.specs.Control.{Line, line, choose}

-- the two products of words of 32 bits, in 64 bits
abbrev pub signed_product : ℕ → ℕ → ℕ
signed_product a b = twoc 64 (signed 32 a *ℤ signed 32 b)

abbrev pub unsigned_product : ℕ → ℕ → ℕ
unsigned_product a b = a * b

-- the table at the factors a and b; cd is HI and LO as one word of 64 bits
abbrev pub products : ℕ → ℕ → ℕ → List (Line ℕ)
products a b cd =
    line 0b000 (signed_product a b) ∷
    line 0b001 (unsigned_product a b) ∷
    line 0b100 (plus 64 cd (signed_product a b)) ∷
    line 0b101 (plus 64 cd (unsigned_product a b)) ∷
    line 0b110 (minus 64 cd (signed_product a b)) ∷
    line 0b111 (minus 64 cd (unsigned_product a b)) ∷
    []

unfoldable pub mures : ℕ → ℕ → ℕ → ℕ → ℕ
mures a b cd mulcon = choose 0 (products a b cd) mulcon

-- definition 30: (opc[2] ⊕ fun[1]) ∘ fun[2] ∘ fun[0]; ⊕ of two bits is their sum modulo 2
abbrev pub mulcon : ℕ → ℕ
mulcon w = (bit (opc w) 2 + bit (fun w) 1) % 2 * 2 ^ 2 + bit (fun w) 2 * 2 + fun w % 2
