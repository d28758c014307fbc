-- The starred figures at the edges: of each the value by the definitions, and the value that is printed.
-- Assumes nothing.
use Rattle.std.specs.Prelude.{◌≡◌, refl, List, [], ◌∷◌, map, ℕ, ◌+◌, ◌*◌, ◌^◌, get_or, set, replicate}
use Rattle.word.specs.Word.{flag, signed, sxt, with_bit}
use Rattle.decode.specs.Table.{decoded, row_of}
use Rattle.decode.specs.Mnemonics.{itype, rtype, compi, compr, alu, mulacc, b, jump, su, load, cas, jal, jalr, movg2s, movs2g, mfhi, mflo, mthi, mtlo, mul}
use Rattle.units.specs.Alu.{alures, alucon}
use Rattle.units.specs.Overflow.{overflow}
use Rattle.units.specs.Multiplication.{mures}
use Rattle.units.specs.Branch.{bcres}
use Rattle.tlb.specs.Walks.{walk_of}
use Rattle.store_buffer.specs.Buffer.{sbehit, sbhit, newest_from, sbv, some, sbhazard}
use Rattle.store_buffer.specs.System.{ms_of, reads, loaded}
use Rattle.store_buffer.specs.Figures.{pending, pending_load, value_of}
use Rattle.vector_register.specs.Vectors.{with_vector, least}
use Rattle.apic.specs.LocalApic.{eoi_written, port_written}
use Rattle.apic.specs.Figures.{isr_after_eoi}
use Rattle.isa.specs.declared.registers.Registers.{Registers}
use Rattle.isa.specs.Core.{delta_instr, gprw, rdes, cad, gprdin}
use Rattle.isa.specs.Interrupts.{ovf_of}

pub record Figure : Type 0 where
  pub found : ℕ
  pub printed : ℕ

abbrev figure : ℕ → ℕ → Figure
figure x y = record { found = x; printed = y }

-- a core at a pc, with general registers 1 and 2, and HI and LO both h. Register 3 holds 7, so that an instruction
-- which leaves it shows.
abbrev core : ℕ → ℕ → ℕ → ℕ → Registers
core at x y h = record { gpr = set (set (set (replicate 32 0) 1 x) 2 y) 3 7; spr = replicate 32 0; pc = at; hi = h; lo = h }

-- an instruction word: opcode, rs, rt, and the lower half
abbrev word_of : ℕ → ℕ → ℕ → ℕ → ℕ
word_of o s t low = o * 2 ^ 26 + s * 2 ^ 21 + t * 2 ^ 16 + low

-- add and addu, of registers 1 and 2 to register 3
abbrev add_word : ℕ
add_word = word_of 0 1 2 (3 * 2 ^ 11 + 0b100000)

abbrev addu_word : ℕ
addu_word = word_of 0 1 2 (3 * 2 ^ 11 + 0b100001)

-- the sum of x and y by the instruction w, and whether it overflows
abbrev sum : ℕ → ℕ → ℕ → ℕ
sum x y w = get_or (delta_instr (core 0 x y 0) w 0).gpr 3 0

abbrev overflowed : ℕ → ℕ → ℕ → ℕ
overflowed x y w = flag (ovf_of (decoded w) (core 0 x y 0) w)

-- general register 3 after an instruction
abbrev result : ℕ → ℕ
result w = get_or (delta_instr (core 0 0 0 0) w 0).gpr 3 0

-- the core after a multiplication of x by y, with HI and LO both h before it
abbrev multiplied : ℕ → ℕ → ℕ → ℕ → Registers
multiplied h x y w = delta_instr (core 0 x y h) w 0

abbrev pub figures : List Figure
figures =
    -- 7FFFFFFF + 1 = 80000000; add overflows, addu doesn't
    figure (sum 0x7fffffff 1 add_word) 0x80000000 ∷
    figure (overflowed 0x7fffffff 1 add_word) 1 ∷
    figure (sum 0x7fffffff 1 addu_word) 0x80000000 ∷
    figure (overflowed 0x7fffffff 1 addu_word) 0 ∷
    -- FFFFFFFF + 1 = 0, no overflow under either
    figure (sum 0xffffffff 1 add_word) 0 ∷
    figure (overflowed 0xffffffff 1 add_word) 0 ∷
    figure (sum 0xffffffff 1 addu_word) 0 ∷
    figure (overflowed 0xffffffff 1 addu_word) 0 ∷
    -- register 0, immediate FFFF: sltiu gives 1, slti 0
    figure (result (word_of 0b001011 0 3 0xffff)) 1 ∷
    figure (result (word_of 0b001010 0 3 0xffff)) 0 ∷
    -- FFFFFFFF by FFFFFFFF: mult HI 0, LO 1
    figure (multiplied 7 0xffffffff 0xffffffff (word_of 0 1 2 0b011000)).hi 0 ∷
    figure (multiplied 7 0xffffffff 0xffffffff (word_of 0 1 2 0b011000)).lo 1 ∷
    -- multu HI FFFFFFFE, LO 1
    figure (multiplied 7 0xffffffff 0xffffffff (word_of 0 1 2 0b011001)).hi 0xfffffffe ∷
    figure (multiplied 7 0xffffffff 0xffffffff (word_of 0 1 2 0b011001)).lo 1 ∷
    -- msub of 1 by 1 from 0: both FFFFFFFF
    figure (multiplied 0 1 1 (word_of 0b011100 1 2 0b000100)).hi 0xffffffff ∷
    figure (multiplied 0 1 1 (word_of 0b011100 1 2 0b000100)).lo 0xffffffff ∷
    -- j with index 1 at pc 0FFFFFFC goes to 10000004
    figure (delta_instr (core 0x0ffffffc 0 0 0) (word_of 0b000010 0 0 1) 0).pc 0x10000004 ∷
    -- beq taken, immediate FFFF, at 100 goes to FC
    figure (delta_instr (core 0x100 0 0 0) (word_of 0b000100 0 0 0xffff) 0).pc 0xfc ∷
    -- word 11223344 stored at 100, then byte AA at 101: byte 101 reads AA, byte 100 reads 44
    figure (value_of (pending_load 0x101 1)) 0xaa ∷
    figure (value_of (pending_load 0x100 1)) 0x44 ∷
    -- half at 100 is a hazard, word at 104 isn't
    figure (flag (sbhazard pending 0x100 2)) 1 ∷
    figure (flag (sbhazard pending 0x104 4)) 0 ∷
    -- va 12345, asid 3, level 1, rights 5: first word 123450CD
    figure (walk_of 0x12345 3 1 5 0).first 0x123450cd ∷
    -- ISR holds vectors 5 and 9: an EOI clears 5
    figure isr_after_eoi (2 ^ 9) ∷
    []

pub figures_hold : map (λ (f : Figure). f.found) figures ≡ map (λ (f : Figure). f.printed) figures
unfolding delta_instr decoded row_of alures overflow alucon mures bcres signed sxt gprw rdes cad gprdin itype rtype compi compr alu mulacc b jump su load cas jal jalr movg2s movs2g mfhi mflo mthi mtlo mul sbehit sbhit newest_from sbv some sbhazard ms_of reads loaded walk_of port_written eoi_written least with_vector with_bit
figures_hold = refl
