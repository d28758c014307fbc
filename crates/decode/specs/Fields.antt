-- The fields of an instruction word (definition 23).
-- Assumes nothing.
use Rattle.std.specs.Prelude.{ℕ, ◌%◌, ◌^◌}
use Rattle.word.specs.Word.{field}

abbrev pub opc : ℕ → ℕ
opc w = field 31 26 w

abbrev pub rs : ℕ → ℕ
rs w = field 25 21 w

abbrev pub rt : ℕ → ℕ
rt w = field 20 16 w

abbrev pub rd : ℕ → ℕ
rd w = field 15 11 w

abbrev pub sa : ℕ → ℕ
sa w = field 10 6 w

-- I[5:0]
abbrev pub fun : ℕ → ℕ
fun w = w % 2 ^ 6

-- I[15:0]
abbrev pub imm : ℕ → ℕ
imm w = w % 2 ^ 16

-- I[25:0]
abbrev pub iindex : ℕ → ℕ
iindex w = w % 2 ^ 26
