-- No instruction asks a unit's table for control bits that no line has: tested on every row of tables 1 to 4. The
-- control bits are bits of the codes that a row prints, but for rt[0] of a branch whose row leaves rt free, which is
-- tested at both values.
-- Assumes nothing.
use mathlib.Core.Bool.{Bool, false, not, ◌&&◌, ◌||◌}
use mathlib.Core.List.{List, [], ◌∷◌}
use Prim.Native.Nat.{ℕ, ◌+◌, ◌*◌, ◌^◌}
use lib.Dec.{T, eqb}
use Rattle.decode.specs.Table.{Row, Column, blank, is, table}
use Rattle.decode.specs.Mnemonics.{itype, rtype, compi, compr, alu, mulacc, mul, b, su}
use Rattle.decode.proofs.Rows.{each}
use Rattle.units.specs.Control.{Line}
use Rattle.units.specs.Alu.{results, alucon}
use Rattle.units.specs.Multiplication.{products, mulcon}
use Rattle.units.specs.Branch.{conditions, bcon}
use Rattle.units.specs.Shift.{shifts, sf}

abbrev has : {A : Type 0} → List (Line A) → ℕ → Bool
has [] k = false
has (l ∷ ls) k = eqb k l.control || has ls k

-- what a column prints, or x where it is blank
abbrev code : Column → ℕ → ℕ
code blank x = x
code (is k) x = k

-- a word with the codes of a row, and x in rt where that is free
abbrev word_of : Row → ℕ → ℕ
word_of r x = code r.opcode 0 * 2 ^ 26 + code r.rs 0 * 2 ^ 21 + code r.rt x * 2 ^ 16 + code r.fun 0

-- an instruction of some kind finds its control bits
abbrev finds : Bool → Bool → Bool
finds kind found = not kind || found

abbrev asks : Row → Bool
asks r =
    finds (alu r.name) (has (results 0 0 (itype r.name)) (alucon (rtype r.name) (word_of r 0)))
    && (finds (mulacc r.name || mul r.name) (has (products 0 0 0) (mulcon (word_of r 0)))
    && (finds (b r.name) (has (conditions 0 0) (bcon (word_of r 0)) && has (conditions 0 0) (bcon (word_of r 1)))
    && finds (su r.name) (has (shifts 0 0) (sf (word_of r 0)))))

pub all_asked : T (each asks table)
unfolding itype rtype compi compr alu mulacc mul b su alucon
all_asked = tt
