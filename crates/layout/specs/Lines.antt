-- The interrupt lines: bit n of the header's word is line n.
-- Assumes nothing.
use Rattle.std.specs.Prelude.{List, ℕ, get_or, set}
use Rattle.word.specs.Word.{with_bit}
use Rattle.layout.specs.Layout.{lines}

-- the tables with line l at a level, 0 or 1
abbrev pub line_set : List ℕ → ℕ → ℕ → List ℕ
line_set t l level = set t lines (with_bit (get_or t lines 0) l level)
