-- What the words of the tables are: the header, and the registers and the APIC of a core's block.
-- The pending stores and walks of a block are views of the crate records.
-- Assumes nothing.
use Rattle.std.specs.Prelude.{ℕ, ◌+◌, ◌/◌, ◌%◌, ◌^◌, Bool, List, ◌∷◌, ◌++◌, eqb, get_or, take, drop}
use Rattle.layout.specs.Layout as at
use Rattle.isa.specs.declared.registers.Registers.{Registers}
use Rattle.isa.specs.Interrupts.{user, asid}

-- ---- the header

abbrev pub cores_of : List ℕ → ℕ
cores_of t = get_or t at.cores 0

abbrev pub pages_of : List ℕ → ℕ
pages_of t = get_or t at.pages 0

abbrev pub refusals_of : List ℕ → ℕ
refusals_of t = get_or t at.refusals 0

abbrev pub lines_of : List ℕ → ℕ
lines_of t = get_or t at.lines 0

abbrev pub ioregsel_of : List ℕ → ℕ
ioregsel_of t = get_or t at.ioregsel 0

abbrev pub iowin_of : List ℕ → ℕ
iowin_of t = get_or t at.iowin 0

abbrev pub redirect_of : List ℕ → List ℕ
redirect_of t = take 24 (drop at.redirect t)

-- ---- the registers of a block

unfoldable pub registers_of : List ℕ → Registers
registers_of b =
    record { gpr = take 32 (drop at.gpr b); spr = take 32 (drop at.spr b); pc = get_or b at.pc 0; hi = get_or b at.hi 0; lo = get_or b at.lo 0 }

-- the block with other registers
unfoldable pub with_registers : List ℕ → Registers → List ℕ
with_registers b r = r.gpr ++ (r.spr ++ (r.pc ∷ r.hi ∷ r.lo ∷ drop at.running b))

abbrev pub running_of : List ℕ → ℕ
running_of b = get_or b at.running 0

abbrev pub runs : List ℕ → Bool
runs b = eqb (running_of b) 1

-- user mode and the address space of a block's core
abbrev pub user_mode : List ℕ → Bool
user_mode b = user (registers_of b)

abbrev pub asid_of : List ℕ → ℕ
asid_of b = asid (registers_of b)

-- ---- the local APIC of a block

-- the words of its 128 port bytes
abbrev pub port_words_of : List ℕ → List ℕ
port_words_of b = take 32 (drop at.ports b)

-- port byte i, low byte first
abbrev pub port_byte : List ℕ → ℕ → ℕ
port_byte b i = get_or b (at.ports + i / 4) 0 / 256 ^ (i % 4) % 256

abbrev pub eoipending_of : List ℕ → List ℕ
eoipending_of b = take 8 (drop at.eoipending b)

abbrev pub sipirr_of : List ℕ → ℕ
sipirr_of b = get_or b at.sipirr 0

abbrev pub sipivect_of : List ℕ → ℕ
sipivect_of b = get_or b at.sipivect 0

abbrev pub initrr_of : List ℕ → ℕ
initrr_of b = get_or b at.initrr 0

-- ---- the refusal count of a block

abbrev pub core_refusals_of : List ℕ → ℕ
core_refusals_of b = get_or b at.core_refusals 0
