-- The active steps of a local APIC (11.3), as far as they lie in one core's block.
-- Assumes nothing.
use Rattle.std.specs.Prelude.{if◌then◌else◌, Bool, true, not, ◌&&◌, List, ℕ, ◌+◌, ◌/◌, ◌%◌, ◌^◌, get_or, set, eqb, Option, Some, None}
use Rattle.word.specs.Word.{sll, bit, with_bit}
use Rattle.layout.specs.Layout.{spr, pc, running, eoipending, sipirr, sipivect, initrr, eca, mode}
use Rattle.apic.specs.declared.local.Kind.{Kind}
use Rattle.apic.specs.declared.local.Kind.TheVariants.{Fixed, Init, Startup}
use Rattle.apic.specs.declared.active.Target.{Target}
use Rattle.apic.specs.declared.active.Target.TheVariants.{Id, Own, All, AllButOwn}
use Rattle.apic.specs.declared.active.Ipi.{Ipi}
use Rattle.vector_register.specs.Vectors.{with_vector, lowest}
use Rattle.apic.specs.LocalApic.{icr, id_of, received}

-- ---- apic-sendIPI

-- ICR.dsh: bits 19 and 18
abbrev pub target_of : ℕ → Target
target_of low =
    if eqb (low / 2 ^ 18 % 4) 0 then Id else
    if eqb (low / 2 ^ 18 % 4) 1 then Own else
    if eqb (low / 2 ^ 18 % 4) 2 then All else AllButOwn

-- ICR.vect: bits 7 to 0; ICR.dest: bits 63 to 56
abbrev pub ipi_of : Kind → ℕ → ℕ → Ipi
ipi_of k low high = record { kind = k; target = target_of low; vect = low % 2 ^ 8; dest = high / 2 ^ 24 }

-- ICR.dm: bits 10 to 8
abbrev pub by_mode : ℕ → ℕ → Option Ipi
by_mode low high =
    if eqb (low / 2 ^ 8 % 8) 0b000 then Some (ipi_of Fixed low high) else
    if eqb (low / 2 ^ 8 % 8) 0b101 then Some (ipi_of Init low high) else
    if eqb (low / 2 ^ 8 % 8) 0b110 then Some (ipi_of Startup low high) else
    None

-- ICR.ds: bit 12; ICR.destmode: bit 11
abbrev pub sending_of : ℕ → ℕ → Option Ipi
sending_of low high =
    if eqb (bit low 12) 0 then None else
    if eqb (bit low 11) 0 then None else
    by_mode low high

-- what the core's local APIC has to send
unfoldable pub sending : List ℕ → Option Ipi
sending b = sending_of (get_or b icr 0) (get_or b (icr + 1) 0)

-- the sender afterwards: ICR.ds = 0
unfoldable pub idle : List ℕ → List ℕ
idle b = set b icr (with_bit (get_or b icr 0) 12 0)

-- whether a local APIC is a target: whether it is the sender's own, whether its ID is the destination
abbrev pub aimed : Target → Bool → Bool → Bool
aimed Id own same = same
aimed Own own same = own
aimed All own same = true
aimed AllButOwn own same = not own

-- a core's block after the interrupt has gone over the bus
unfoldable pub received_by : Ipi → Bool → List ℕ → List ℕ
received_by m own b = if aimed m.target own (eqb (id_of b) m.dest) then received b m.kind m.vect else b

-- ---- apic-sendEOI

-- the vector of the message that is to be sent
abbrev pub pending_eoi : List ℕ → Option ℕ
pending_eoi b = lowest b eoipending

-- the sender afterwards
abbrev pub eoi_sent : List ℕ → ℕ → List ℕ
eoi_sent b v = with_vector b eoipending v 0

-- ---- apic-initCore

abbrev pub may_init : List ℕ → Bool
may_init b = eqb (get_or b initrr 0) 1

unfoldable pub init_core : List ℕ → List ℕ
init_core b = set (set (set (set (set b pc 0) (spr + mode) 0) (spr + eca) 0) running 0) initrr 0

-- ---- apic-startCore

abbrev pub may_start : List ℕ → Bool
may_start b = eqb (get_or b sipirr 0) 1 && eqb (get_or b running 0) 0

unfoldable pub start_core : List ℕ → List ℕ
start_core b = set (set (set b pc (sll (get_or b sipivect 0) 24)) running 1) sipirr 0
