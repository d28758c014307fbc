-- The branch condition (6.1.4): its table as printed.
-- Assumes nothing.
use Rattle.std.specs.Prelude.{Bool, false, not, List, [], ◌∷◌, ℕ, ◌+◌, ◌*◌, ◌%◌, ◌^◌, eqb, pos}
use Rattle.std.specs.Int.Signed.{lt_z, le_z}
use Rattle.word.specs.Word.{signed}
use Rattle.decode.specs.Fields.{opc, rt}
use Rattle.units.specs.Control.{Line, line, choose}

-- the table at a and b; a line with * stands at both values of that bit
abbrev pub conditions : ℕ → ℕ → List (Line Bool)
conditions a b =
    line 0b0010 (lt_z (signed 32 a) (pos 0)) ∷
    line 0b0011 (le_z (pos 0) (signed 32 a)) ∷
    line 0b1000 (eqb a b) ∷
    line 0b1001 (eqb a b) ∷
    line 0b1010 (not (eqb a b)) ∷
    line 0b1011 (not (eqb a b)) ∷
    line 0b1100 (le_z (signed 32 a) (pos 0)) ∷
    line 0b1101 (le_z (signed 32 a) (pos 0)) ∷
    line 0b1110 (lt_z (pos 0) (signed 32 a)) ∷
    line 0b1111 (lt_z (pos 0) (signed 32 a)) ∷
    []

unfoldable pub bcres : ℕ → ℕ → ℕ → Bool
bcres a b bcon = choose false (conditions a b) bcon

-- opc[2:0] ∘ rt[0] of definition 33
abbrev pub bcon : ℕ → ℕ
bcon w = opc w % 2 ^ 3 * 2 + rt w % 2
