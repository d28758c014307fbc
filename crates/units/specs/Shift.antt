-- The shift unit (6.1.5).
-- Assumes nothing.
use Rattle.std.specs.Prelude.{List, [], ◌∷◌, ℕ, ◌%◌, ◌^◌}
use Rattle.word.specs.Word.{sll, srl, sra}
use Rattle.units.specs.Control.{Line, line, choose}

-- definition 36
abbrev pub shifts : ℕ → ℕ → List (Line ℕ)
shifts a i =
    line 0b00 (sll a i) ∷
    line 0b10 (srl a i) ∷
    line 0b11 (sra a i) ∷
    []

unfoldable pub sures : ℕ → ℕ → ℕ → ℕ
sures a i sf = choose 0 (shifts a i) sf

-- definition 39: I[1:0]
abbrev pub sf : ℕ → ℕ
sf w = w % 2 ^ 2
